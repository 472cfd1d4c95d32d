-- What the images of a journal's two sides say.
use Rattle.std.proofs.Common.{◌≡◌, inl, inr, ℕ, List, [], ◌∷◌, ◌++◌, Bool, not, refl, sym, ◌∙◌, ap, subst, append_assoc, cond}
use Rattle.std.proofs.lemmas.Bool.{cases_eq}
use Rattle.std.specs.List.{AllByRecursion, flat_map}
use Rattle.std.specs.Int.{to_be_bytes, w64}
use Rattle.std.proofs.lemmas.Grind.{flat_map-append}
use Rattle.std.proofs.lemmas.List.{append-nil}
use Rattle.disk_core.specs.Disk.{Begins, Every}
use Rattle.feature_journal.specs.Side.{behind, opened, side, mark, Closed, Begun}
use Rattle.feature_journal.specs.Whole.{IsList, Fits, Harmless, Idle, Says}
use Rattle.feature_journal.specs.Whole.Harmless.{short, shut, older, tied, equal}
use Rattle.feature_journal.specs.Whole.Idle.{idle_short, idle_shut, idle_older, idle_tied}
use Rattle.feature_journal.specs.Whole.Ends.{closed, tail}
use Rattle.feature_journal.specs.Held.{With}
use Rattle.feature_journal.proofs.Images.{begun_open}

pub side_push : (generation : ℕ) (bodies : List (List ℕ)) (body : List ℕ) → side generation (bodies ++ body ∷ []) ≡ side generation bodies ++ opened body
unfolding side
side_push generation bodies body =
    let joined : flat_map opened (bodies ++ body ∷ []) ≡ flat_map opened bodies ++ opened body = flat_map-append opened bodies (body ∷ []) ∙ ap (λ (l : List ℕ). flat_map opened bodies ++ l) (append-nil (opened body)) in
    ap (λ (l : List ℕ). 1 ∷ (mark ++ to_be_bytes w64 generation ++ l)) joined ∙ ap (λ (l : List ℕ). 1 ∷ l) (sym (append_assoc (mark ++ to_be_bytes w64 generation) (flat_map opened bodies) (opened body)))

pub list_push : (generation : ℕ) (bodies : List (List ℕ)) (body : List ℕ) → IsList generation bodies → Fits body → IsList generation (bodies ++ body ∷ [])
list_push generation bodies body l fits = record { generation_fits = l.generation_fits; bodies_fit = more bodies l.bodies_fit }
  where
    more : (bodies : List (List ℕ)) → AllByRecursion Fits bodies → AllByRecursion Fits (bodies ++ body ∷ [])
    more [] all = (fits, tt)
    more (b ∷ bodies) all = (all.0, more bodies all.1)

pub idle_harmless : (is_b : Bool) (generation : ℕ) (images : List ℕ → Type 0) → Idle is_b generation images → Every images (Harmless is_b generation [])
idle_harmless is_b generation images (idle_short all) c here = short (all c here)
idle_harmless is_b generation images (idle_shut all) c here = shut (all c here)
idle_harmless is_b generation images (idle_older own less all) c here = older own (all c here) less
idle_harmless is_b generation images (idle_tied b all) c here = tied b (all c here)

-- beside a list that says nothing of it, a side is harmless beside any
pub harmless_any : (is_b : Bool) (generation : ℕ) (lists : List (List (List ℕ))) (c : List ℕ) → Harmless is_b generation [] c → Harmless is_b generation lists c
harmless_any is_b generation lists c (short h) = short h
harmless_any is_b generation lists c (shut h) = shut h
harmless_any is_b generation lists c (older own m h) = older own m h
harmless_any is_b generation lists c (tied h m) = tied h m
harmless_any is_b generation lists c (equal gate own bodies not_open l one h) = absurd one

module _ (second : Bool) (generation : ℕ) (bodies : List (List ℕ)) (list : IsList generation bodies) (a b : List ℕ) (beside : Harmless (not second) generation [] (cond second a b)) where
  pub says_closed : Closed (side generation bodies) (cond second b a) → Says (bodies ∷ []) a b
  says_closed ends = record { second = second; generation = generation; bodies = bodies; list = list; one = inl refl; ends = closed ends; beside = harmless_any (not second) generation (bodies ∷ []) (cond second a b) beside }

  pub says_with : (body : List ℕ) → Fits body → Begun (side generation bodies) body (cond second b a) → With bodies body a b
  says_with body fits begun = elim (cases_eq begun.byte 1) [
    | inl is_open ↦ inr (record {
      second = second;
      generation = generation;
      bodies = bodies ++ body ∷ [];
      list = list_push generation bodies body list fits;
      one = inl refl;
      ends = closed (subst (λ front. Closed front (cond second b a)) (sym (side_push generation bodies body)) (begun_open (side generation bodies) body (cond second b a) (subst (λ byte. Begins (side generation bodies ++ byte ∷ behind body) (cond second b a)) is_open begun.is)));
      beside = harmless_any (not second) generation ((bodies ++ body ∷ []) ∷ []) (cond second a b) beside;
    })
    | inr not_open ↦ inl (record {
      second = second;
      generation = generation;
      bodies = bodies;
      list = list;
      one = inl refl;
      ends = tail begun.byte body not_open fits begun.is;
      beside = harmless_any (not second) generation (bodies ∷ []) (cond second a b) beside;
    })
  ]
