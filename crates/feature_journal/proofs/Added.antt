-- A side in the making, behind a closed byte 0.
use Rattle.std.proofs.Common.{◌≡◌, ℕ, ◌+◌, ◌≤◌, List, [], ◌∷◌, ◌++◌, length, get_or, take, drop, refl, sym, ◌∙◌, ap, arith, Option, IfSome, Bool}
use Rattle.std.proofs.lemmas.List.{append-nil, take_all, drop_all}
use Rattle.std.specs.Int.{to_be_bytes, w32, w64}
use Rattle.disk_core.specs.Disk.{over, written, Leads, Every, Begins, Keeps, Goes}
use Rattle.disk_core.proofs.Runs.{every_on, goes}
use Rattle.disk_core.proofs.Bytes.{begins_keeps, length-begins}
use Rattle.disk_core.proofs.Seen.{reads_written}
use Rattle.feature_journal.specs.Side.{side, mark, opened, framed}
use Rattle.feature_journal.specs.Whole.{Harmless}
use Rattle.feature_journal.specs.Whole.Harmless.{shut}
use Rattle.feature_journal.specs.Making.{inner}
use Rattle.feature_journal.proofs.Whole.{side_push}

-- a write at the end
pub over_end : (at : ℕ) (text bytes s : List ℕ) → length text ≡ at → s ≡ text → over at bytes s ≡ text ++ bytes
unfolding over
over_end at text bytes s is same =
    let front : take at s ≡ text = ap (take at) same ∙ take_all at text (omega (arith, is)) in
    let rest : drop (at + length bytes) s ≡ [] = ap (drop (at + length bytes)) same ∙ drop_all (at + length bytes) text (omega (arith, is)) in
    (λ i. front i ++ bytes ++ rest i) ∙ append-nil (text ++ bytes)

pub length-inner : (generation : ℕ) (bodies : List (List ℕ)) → length (0 ∷ inner generation bodies) ≡ length (side generation bodies)
unfolding side
length-inner generation bodies = refl

pub side_long : (generation : ℕ) (bodies : List (List ℕ)) → 16 ≤ length (side generation bodies)
unfolding side
side_long generation bodies = omega arith

pub inner_push : (generation : ℕ) (bodies : List (List ℕ)) (body : List ℕ) → 0 ∷ inner generation (bodies ++ body ∷ []) ≡ (0 ∷ inner generation bodies) ++ opened body
unfolding side
inner_push generation bodies body = ap (λ (l : List ℕ). 0 ∷ drop 1 l) (side_push generation bodies body)

-- the write of a head
head_text : (generation : ℕ) (size : List ℕ) → size ≡ to_be_bytes w64 generation → (0 ∷ []) ++ (mark ++ (size ++ [])) ≡ 0 ∷ inner generation []
unfolding side
head_text generation size is = ap (λ (l : List ℕ). 0 ∷ (mark ++ (l ++ []))) is

pub head_read : (generation : ℕ) (size : List ℕ) (o new : Option (List ℕ)) → size ≡ to_be_bytes w64 generation → new ≡ written 1 (mark ++ (size ++ [])) o
    → IfSome o (λ s. s ≡ 0 ∷ []) → IfSome new (λ s. s ≡ 0 ∷ inner generation [])
head_read generation size o new is done here =
    reads_written 1 (mark ++ (size ++ [])) o new (λ s. s ≡ 0 ∷ []) (λ s. s ≡ 0 ∷ inner generation []) (λ s e. over_end 1 (0 ∷ []) (mark ++ (size ++ [])) s refl e ∙ head_text generation size is) done here

-- the write of a record, with its open gate
added_text : (text size body : List ℕ) → size ≡ to_be_bytes w32 (length body) → text ++ ((1 ∷ get_or size 0 0 ∷ get_or size 1 0 ∷ get_or size 2 0 ∷ get_or size 3 0 ∷ []) ++ (body ++ [])) ≡ text ++ opened body
unfolding framed
added_text text size body is = λ i. text ++ ((1 ∷ get_or (is i) 0 0 ∷ get_or (is i) 1 0 ∷ get_or (is i) 2 0 ∷ get_or (is i) 3 0 ∷ []) ++ append-nil body i)

pub added_read : (generation place : ℕ) (added : List (List ℕ)) (body size : List ℕ) (o new : Option (List ℕ)) → length (side generation added) ≡ place → size ≡ to_be_bytes w32 (length body)
    → new ≡ written place ((1 ∷ get_or size 0 0 ∷ get_or size 1 0 ∷ get_or size 2 0 ∷ get_or size 3 0 ∷ []) ++ (body ++ [])) o
    → IfSome o (λ s. s ≡ 0 ∷ inner generation added) → IfSome new (λ s. s ≡ 0 ∷ inner generation (added ++ body ∷ []))
added_read generation place added body size o new long is done here =
    let text : List ℕ = 0 ∷ inner generation added in
    let record_text : List ℕ = (1 ∷ get_or size 0 0 ∷ get_or size 1 0 ∷ get_or size 2 0 ∷ get_or size 3 0 ∷ []) ++ (body ++ []) in
    reads_written place record_text o new (λ s. s ≡ text) (λ s. s ≡ 0 ∷ inner generation (added ++ body ∷ []))
    (λ s e. over_end place text record_text s (length-inner generation added ∙ long) e ∙ added_text text size body is ∙ sym (inner_push generation added body)) done here

pub closed_read : (generation place : ℕ) (added : List (List ℕ)) (o new : Option (List ℕ)) → length (side generation added) ≡ place → new ≡ written place (0 ∷ []) o
    → IfSome o (λ s. s ≡ 0 ∷ inner generation added) → IfSome new (Begins (0 ∷ (inner generation added ++ 0 ∷ [])))
closed_read generation place added o new long one here =
    reads_written place (0 ∷ []) o new (λ s. s ≡ 0 ∷ inner generation added) (Begins (0 ∷ (inner generation added ++ 0 ∷ [])))
    (λ s e. record { rest = []; is = over_end place (0 ∷ inner generation added) (0 ∷ []) s (length-inner generation added ∙ long) e ∙ sym (append-nil _) }) one here

module _ {D : Type 0} (moment : D → ℕ) (since : D → ℕ → List ℕ → Type 0) (images : D → List ℕ → Type 0) where
  pub shut_kept : (x y : D) → Every (images x) (Begins (0 ∷ [])) → Leads moment since images (Keeps 1) x y → Every (images y) (Begins (0 ∷ []))
  shut_kept x y all kept = every_on moment since images (Keeps 1) (Begins (0 ∷ [])) (Begins (0 ∷ [])) x y (λ d c b keeps. begins_keeps 1 (0 ∷ []) d c (omega arith) (length-begins (0 ∷ []) d b) b keeps) kept all

  -- behind a closed byte 0 nothing does harm
  pub shut_goes : (is_b : Bool) (generation : ℕ) (x y : D) → Every (images x) (Begins (0 ∷ [])) → Leads moment since images (Keeps 1) x y → Goes moment since (Harmless is_b generation []) x y
  shut_goes is_b generation x y all kept = goes moment since images (Keeps 1) (Begins (0 ∷ [])) (Harmless is_b generation []) x y (λ c b. shut b)
      (λ d c b keeps. shut (begins_keeps 1 (0 ∷ []) d c (omega arith) (length-begins (0 ∷ []) d b) b keeps)) kept all
