-- What is known of two sides that say a list, once they were read.
use Rattle.std.proofs.Common.{◌≡◌, ◌≤◌, inl, inr, ℕ, ◌<◌, List, [], ◌∷◌, ◌++◌, length, drop, refl, sym, ◌∙◌, ap, subst, arith, append_assoc, Option, None, Some, ◌==◌, Bool, true, false, not, if◌then◌else◌}
use Rattle.std.proofs.lemmas.Bool.{cases_lt}
use Rattle.std.proofs.lemmas.Bool.Decides.{nat_tests}
use Rattle.std.proofs.lemmas.List.{drop_at}
use Rattle.std.specs.List.{flat_map}
use Rattle.std.specs.Int.{to_be_bytes, w64}
use Rattle.disk_core.specs.Disk.{Begins, Every}
use Rattle.disk_core.specs.Sides.{Always, chosen, spare}
use Rattle.disk_core.specs.declared.pair.Pair.{Pair}
use Rattle.feature_journal.specs.Side.{side, mark, opened, framed, behind, Closed, Gate}
use Rattle.feature_journal.specs.Whole.{IsList, OneOf, Fits, Idle, Harmless, Marked, Stale, Ends, Says}
use Rattle.feature_journal.specs.Whole.{Harmless as harmless}
use Rattle.feature_journal.specs.Whole.Idle.{idle_short, idle_shut, idle_older, idle_tied}
use Rattle.feature_journal.specs.Whole.Stale.{stale_older, stale_tied, stale_greater}
use Rattle.feature_journal.specs.Whole.Ends.{closed, tail}
use Rattle.feature_journal.specs.Settled.{Reading, Known, SaysOr}
use Rattle.feature_journal.specs.Recover.{tail_in}
use Rattle.feature_journal.specs.Refused.{Able}
use Rattle.feature_journal.proofs.Knowing.{always_more}
use Rattle.recovery.specs.Head.{IsStale}
use Rattle.recovery.specs.Choice.{IsBeside}
use Rattle.recovery.specs.Choice.{IsResting as resting}
use Rattle.recovery.specs.Choice.{IsBeside as beside}
use Rattle.recovery.specs.Looked.{EndsAt}
use Rattle.recovery.specs.Crash.{OrTail}
use Rattle.recovery.specs.declared.look.Ending.{Ending}

-- one byte stands at one place
byte_same : (front c s t : List ℕ) (x y : ℕ) → c ≡ (front ++ x ∷ []) ++ s → c ≡ front ++ y ∷ t → x ≡ y
byte_same front c s t x y first second =
    let one : drop (length front) c ≡ x ∷ s = ap (drop (length front)) (first ∙ append_assoc front (x ∷ []) s) ∙ drop_at front (x ∷ s) (length front) refl in
    let two : drop (length front) c ≡ y ∷ t = ap (drop (length front)) second ∙ drop_at front (y ∷ t) (length front) refl in
    cc

marked_long : (own : ℕ) (c : List ℕ) → Marked own c → 17 ≤ length c
marked_long own c m = omega (arith, ap length m.is.is)

marked_first : (own : ℕ) (c : List ℕ) (m : Marked own c) (x : ℕ) (rest : List ℕ) → c ≡ x ∷ rest → m.gate ≡ x
marked_first own c m x rest is = let there = m.is.is in cc

pub able_marked : (own : ℕ) (c : List ℕ) → Able own c → Marked own c
able_marked own c a = record { gate = 1; first = a.first; is = a.is }

-- what is known of the ending gate
record EndsKnown (generation : ℕ) (bodies : List (List ℕ)) (is_closed : Bool) (last : Option (List ℕ)) (c : List ℕ) : Type 0 where
  pub body : List ℕ
  pub fits : Fits body
  pub shut : is_closed ≡ true → Closed (side generation bodies) c
  pub gate : ℕ
  pub not_open : is_closed ≡ false → gate ≡ 1 → ⊥
  pub behind_it : is_closed ≡ false → Begins (side generation bodies ++ gate ∷ behind body) c
  pub last_is : is_closed ≡ false → last ≡ Some body

shut_at : (e : Ending) (generation : ℕ) (bodies : List (List ℕ)) (c : List ℕ) → EndsAt e generation bodies c → e.is_closed ≡ true → Closed (side generation bodies) c
shut_at e generation bodies c at is = subst (λ n. Begins (side generation bodies ++ n ∷ []) c) (at.closed is) at.there.is

tail_not_closed : (gate : ℕ) (body : List ℕ) → (gate ≡ 0 → ⊥) → (if gate == 0 then None else Some body) ≡ Some body
tail_not_closed gate body other = let test : (gate == 0) ≡ false = grind (arith, nat_tests) in rw test refl

ends_known : (e : Ending) (generation : ℕ) (bodies : List (List ℕ)) (c : List ℕ) (ends : Ends (side generation bodies) c) → EndsAt e generation bodies c → EndsKnown generation bodies e.is_closed (tail_in ends) c
ends_known e generation bodies c (closed b) at =
    let none : e.is_closed ≡ false → ⊥ = λ is. at.not_closed is (byte_same (side generation bodies) c at.there.is.rest b.rest at.there.byte 0 at.there.is.is (b.is ∙ append_assoc (side generation bodies) (0 ∷ []) b.rest)) in
    record {
      body = [];
      fits = omega arith;
      shut = shut_at e generation bodies c at;
      gate = 0;
      not_open = λ is. absurd (none is);
      behind_it = λ is. absurd (none is);
      last_is = λ is. absurd (none is);
    }
ends_known e generation bodies c (tail gate body not_open fits b) at =
    let same : at.there.byte ≡ gate = byte_same (side generation bodies) c at.there.is.rest (behind body ++ b.rest) at.there.byte gate at.there.is.is (b.is ∙ append_assoc (side generation bodies) (gate ∷ behind body) b.rest) in
    record {
      body = body;
      fits = fits;
      shut = shut_at e generation bodies c at;
      gate = gate;
      not_open = λ is. not_open;
      behind_it = λ is. b;
      last_is = λ is. tail_not_closed gate body (λ zero_gate. at.not_closed is (same ∙ zero_gate));
    }

-- what is known of the other side
record BesideKnown (is_stale is_b : Bool) (generation : ℕ) (lists : List (List (List ℕ))) (c : List ℕ) : Type 0 where
  pub text : List ℕ
  pub stale : is_stale ≡ true → Stale is_b generation lists text × Gate [] text c
  pub idle : is_stale ≡ false → IsBeside false is_b generation c

record StaleKnown (is_b : Bool) (generation : ℕ) (lists : List (List (List ℕ))) (c : List ℕ) : Type 0 where
  pub text : List ℕ
  pub stale : Stale is_b generation lists text
  pub gate : Gate [] text c

record Split (own : ℕ) (bodies : List (List ℕ)) : Type 0 where
  pub first : ℕ
  pub rest : List ℕ
  pub is : drop 1 (side own bodies) ++ 0 ∷ [] ≡ mark ++ to_be_bytes w64 own ++ first ∷ rest

split : (own : ℕ) (bodies : List (List ℕ)) → Split own bodies
unfolding side
split own [] = record { first = 0; rest = []; is = refl }
split own (body ∷ bodies) = record { first = 1; rest = framed body ++ flat_map opened bodies ++ 0 ∷ []; is = refl }

equal_stale : (is_b : Bool) (generation own : ℕ) (lists : List (List (List ℕ))) (bodies : List (List ℕ)) → IsList own bodies → OneOf lists bodies → Stale is_b generation lists (drop 1 (side own bodies) ++ 0 ∷ [])
equal_stale is_b generation own lists bodies list one =
    let s = split own bodies in
    elim (cases_lt own generation) [
      | inl less ↦ stale_older own s.first s.rest less s.is
      | inr more ↦ elim (cases_lt generation own) [
        | inl greater ↦ stale_greater own bodies list one (inl greater) refl
        | inr le ↦ tie is_b (omega (arith, more, le))
      ]
    ]
  where
    tie : (is_b : Bool) → own ≡ generation → Stale is_b generation lists (drop 1 (side own bodies) ++ 0 ∷ [])
    tie true same = let s = split own bodies in stale_tied s.first s.rest refl (s.is ∙ ap (λ (n : ℕ). mark ++ to_be_bytes w64 n ++ s.first ∷ s.rest) same)
    tie false same = stale_greater own bodies list one (inr (same, refl)) refl

stale_known : (is_b : Bool) (generation own : ℕ) (lists : List (List (List ℕ))) (c : List ℕ) → Harmless is_b generation lists c → IsStale own c → StaleKnown is_b generation lists c
stale_known is_b generation own lists c (harmless.short less) st = absurd (omega (arith, less, marked_long own c st.marked))
stale_known is_b generation own lists c (harmless.shut b) st = absurd (st.not_closed (marked_first own c st.marked 0 b.rest b.is))
stale_known is_b generation own lists c (harmless.older other m less) st =
    record { text = mark ++ to_be_bytes w64 other ++ m.first ∷ []; stale = stale_older other m.first [] less refl; gate = record { byte = m.gate; is = m.is } }
stale_known is_b generation own lists c (harmless.tied is m) st =
    record { text = mark ++ to_be_bytes w64 generation ++ m.first ∷ []; stale = stale_tied m.first [] is refl; gate = record { byte = m.gate; is = m.is } }
stale_known is_b generation own lists c (harmless.equal gate other bodies not_open list one b) st =
    record { text = drop 1 (side other bodies) ++ 0 ∷ []; stale = equal_stale is_b generation other lists bodies list one; gate = record { byte = gate; is = b } }

pub idle_at : (is_b : Bool) (generation : ℕ) (c : List ℕ) → IsBeside false is_b generation c → (images : List ℕ → Type 0) → Every images (λ x. x ≡ c) → Idle is_b generation images
idle_at is_b generation c (beside.rests (resting.stale own is st)) images all = absurd cc
idle_at is_b generation c (beside.rests (resting.short is less)) images all = idle_short (λ x here. subst (λ l. length l < 17) (sym (all x here)) less)
idle_at is_b generation c (beside.rests (resting.shut is b)) images all = idle_shut (λ x here. subst (Begins (0 ∷ [])) (sym (all x here)) b)
idle_at is_b generation c (beside.older own is less able) images all = idle_older own less (λ x here. subst (Marked own) (sym (all x here)) (able_marked own c able))
idle_at is_b generation c (beside.tied is second able) images all = idle_tied second (λ x here. subst (Marked generation) (sym (all x here)) (able_marked generation c able))

beside_known : (is_stale is_b : Bool) (generation : ℕ) (lists : List (List (List ℕ))) (c : List ℕ) → Harmless is_b generation lists c → IsBeside is_stale is_b generation c → BesideKnown is_stale is_b generation lists c
beside_known true is_b generation lists c h (beside.rests (resting.stale own is st)) =
    let s = stale_known is_b generation own lists c h st in
    record { text = s.text; stale = λ e. (s.stale, s.gate); idle = λ e. absurd (cc e) }
beside_known true is_b generation lists c h (beside.rests (resting.short is less)) = absurd (cc is)
beside_known true is_b generation lists c h (beside.rests (resting.shut is b)) = absurd (cc is)
beside_known true is_b generation lists c h (beside.older own is less able) = absurd (cc is)
beside_known true is_b generation lists c h (beside.tied is second able) = absurd (cc is)
beside_known false is_b generation lists c h at = record { text = []; stale = λ e. absurd (cc e); idle = λ e. at }

or_tail : (last : Option (List ℕ)) (is_closed : Bool) (r : Reading) (x y : List ℕ) → (is_closed ≡ false → last ≡ Some r.body) → SaysOr is_closed r x y → OrTail last r.lists r.bodies x y
or_tail None is_closed r x y is (inl says) = says
or_tail None is_closed r x y is (inr with) = let e : None ≡ Some r.body = is with.0 in absurd cc
or_tail (Some body) is_closed r x y is (inl says) = inl says
or_tail (Some body) is_closed r x y is (inr with) = inr (let e : Some body ≡ Some r.body = is with.0 in let same : r.body ≡ body = cc in subst (λ l. Says ((r.bodies ++ l ∷ []) ∷ []) x y) same with.1)

-- what the settling of such sides leaves
pub settled : {D : Type 0} (moment : D → ℕ) (since : D → ℕ → List ℕ → Type 0) (images : D → List ℕ → Type 0) (lists : List (List (List ℕ))) (second : Bool) (generation gate : ℕ) (bodies : List (List ℕ)) (e : Ending) (is_stale : Bool) (old new : Pair D) (c o : List ℕ)
    → IsList generation bodies → OneOf lists bodies → length (side generation bodies) ≡ gate → (ends : Ends (side generation bodies) c) → Harmless (not second) generation lists o → EndsAt e generation bodies c → IsBeside is_stale (not second) generation o
    → Every (images (chosen second old)) (λ x. x ≡ c) → Every (images (spare second old)) (λ y. y ≡ o)
    → ((r : Reading) → Known images second gate is_stale e.is_closed r old → Always moment since (SaysOr e.is_closed r) old new) → Always moment since (OrTail (tail_in ends) lists bodies) old new
settled moment since images lists second generation gate bodies e is_stale old new c o list one size ends h at aside here there goes =
    let k = ends_known e generation bodies c ends at in
    let b = beside_known is_stale (not second) generation lists o h aside in
    let r : Reading = record { lists = lists; generation = generation; bodies = bodies; body = k.body; text = b.text } in
    always_more moment since (SaysOr e.is_closed r) (OrTail (tail_in ends) lists bodies) old new (λ x y says. or_tail (tail_in ends) e.is_closed r x y k.last_is says)
    (goes r (record {
      list = list;
      one = one;
      size = size;
      fits = k.fits;
      closed = λ is image at_image. subst (Closed (side generation bodies)) (sym (here image at_image)) (k.shut is);
      tail = λ is image at_image. record { byte = k.gate; not_open = k.not_open is; is = subst (Begins (side generation bodies ++ k.gate ∷ behind k.body)) (sym (here image at_image)) (k.behind_it is) };
      stale = λ is. ((b.stale is).0, λ image at_image. subst (Gate [] b.text) (sym (there image at_image)) (b.stale is).1);
      idle = λ is. idle_at (not second) generation o (b.idle is) (images (spare second old)) there;
    }))
