-- What the swaps of a publisher leave, and what may lie on the spare side.
use Rattle.std.proofs.Common.{◌≡◌, ◌⊎◌, ⊎_elim, ℕ, zero, suc, List, [], ◌∷◌, ◌++◌, length, drop, ◌<◌, ◌≤◌, Result, Ok, Err, MatchResult, ap, arith, le_refl, refl, sym, subst, ◌∙◌}
use Rattle.std.proofs.Math.Logic.{∥∥₁_map}
use Rattle.std.proofs.lemmas.List.Elements.{All-cons, All-nil}
use Rattle.left_right.specs.Log.{InStep}
use Rattle.logbook.specs.Pages.{Book}
use Rattle.logbook.specs.declared.tokens.Seen.{Seen}
use Rattle.snapshot_reads.specs.declared.book.Law.{Law}
use Rattle.snapshot_reads.specs.declared.book.Pair.{Pair}
use Rattle.snapshot_reads.specs.declared.rule.Knows.{Knows}
use Rattle.snapshot_reads.specs.declared.shown.Shown.{Shown}
use Rattle.snapshot_reads.specs.Pairs.{Stands}
use Rattle.snapshot_reads.specs.Rules.{pair_of}
use Rattle.snapshot_reads.specs.Whole.{KnowsOf, MayFollow, Ready, Sound, next_of}
use Rattle.snapshot_reads.proofs.Fronts.{prefix_get}
use Rattle.snapshot_reads.proofs.Schemas.{schema_in-append}

-- ---- the spare side

-- what takes the place of what is published
abbrev pub applied : Shown → Shown → Shown
applied before after = after

-- where nothing waits, what is published may lie there
in_step_self : (x spare : Shown) (log : List Shown) (behind ahead : ℕ) → drop behind log ≡ [] → InStep applied x spare log behind ahead → InStep applied x x log behind ahead
in_step_self x spare [] zero zero none s = (s.0, s.1, s.2, refl)
in_step_self x spare [] zero (suc a) none s = absurd (omega (arith, s.1))
in_step_self x spare [] (suc b) ahead none s = absurd (omega (arith, s.0))
in_step_self x spare (y ∷ ys) zero ahead none s = absurd (cc none)
in_step_self x spare (y ∷ ys) (suc b) ahead none s = (s.0, s.1, s.2, s.3)

pub in_step_renewed : (x spare now : Shown) (log : List Shown) (behind ahead : ℕ) → drop behind log ≡ [] → (now ≡ x) ⊎ (now ≡ spare) → ∥ InStep applied x spare log behind ahead ∥₁ → ∥ InStep applied x now log behind ahead ∥₁
in_step_renewed x spare now log behind ahead none is h =
    ⊎_elim
    (λ (same : now ≡ x). subst (λ (z : Shown). ∥ InStep applied x z log behind ahead ∥₁) (sym same) (∥∥₁_map h (in_step_self x spare log behind ahead none)))
    (λ (same : now ≡ spare). subst (λ (z : Shown). ∥ InStep applied x z log behind ahead ∥₁) (sym same) h)
    is

-- ---- a swap

-- the same that waits may follow the same
pub follows_same : (x x' y : Shown) (waiting waiting' : List Shown) → x' ≡ x → waiting' ≡ waiting → y ≡ next_of x' waiting' → MayFollow x (next_of x waiting) → MayFollow x' y
follows_same x x' y waiting waiting' same same_waiting is may =
    let it : y ≡ next_of x waiting = is ∙ (λ i. next_of (same i) (same_waiting i)) in
    subst (λ (t : Shown × Shown). MayFollow t.0 t.1) (λ i. (sym same i, sym it i)) may

-- who published what waited knows its history
pub knows_if : {T E : Type 0} (r : Result T E) (t : T) (x y : Shown) (waiting rest : List Shown) (v w : Knows) (book : Book) → r ≡ Ok t
    → MatchResult r (λ _. (y ≡ next_of x waiting) × (rest ≡ [])) (λ _. (y ≡ x) × (rest ≡ waiting))
    → MatchResult r (λ _. w ≡ record { reached = y.front; of = y.seen ∷ []; entered = [] }) (λ _. w ≡ v)
    → (next_of x waiting).seen.book ≡ book → KnowsOf w book
knows_if (Ok s) t x y waiting rest v w book ok is shows same =
    let P : Seen Pair (Unit {0}) Law → Type 0 = λ s. s.book ≡ book in
    let its : y.seen.book ≡ book = ap (λ (z : Shown). z.seen.book) is.0 ∙ same in
    let one : KnowsOf (record { reached = y.front; of = y.seen ∷ []; entered = [] }) book = record { some = omega arith; all = All-cons P y.seen [] its (All-nil P) } in
    subst (λ (u : Knows). KnowsOf u book) (sym shows) one
knows_if (Err e) t x y waiting rest v w book ok is shows same = absurd cc

-- nothing waits, so the same may be published again
pub follows_self : (x : Shown) (waiting : List Shown) → waiting ≡ [] → Stands x.seen.log (pair_of x) → MayFollow x (next_of x waiting)
follows_self x waiting none stands =
    let may : MayFollow x x = record { up = le_refl x.front; history = refl; stands = stands } in
    subst (λ (w : List Shown). MayFollow x (next_of x w)) (sym none) may

module _ (log : List Pair) (book : Book) where
  pub next_follows : (x y : Shown) (waiting after : List Shown) (v : Knows) → Sound log book x waiting v → Ready log book y → x.front ≤ y.front → after ≡ waiting ++ y ∷ [] → MayFollow x (next_of x after)
  next_follows x y waiting after v s ry up is =
      let one : after ≡ y ∷ [] = is ∙ (λ i. s.none i ++ y ∷ []) in
      let may : MayFollow x y = record { up = up; history = ry.history ∙ sym s.ready.history; stands = ry.stands } in
      subst (λ (w : List Shown). MayFollow x (next_of x w)) (sym one) may

  -- what waits alone is what is published next
  pub next_is : (x y x' : Shown) (waiting after : List Shown) (v : Knows) → Sound log book x waiting v → after ≡ waiting ++ y ∷ [] → x' ≡ next_of x after → x' ≡ y
  next_is x y x' waiting after v s is shown = shown ∙ (λ i. next_of x ((is ∙ (λ j. s.none j ++ y ∷ [])) i))

  pub stays_sound : (x y : Shown) (waiting rest : List Shown) (v w : Knows) → Sound log book x waiting v → Ready log book y → rest ≡ [] → KnowsOf w x.seen.book → Sound log book y rest w
  stays_sound x y waiting rest v w s ry none told = record { told = subst (λ (b : Book). KnowsOf w b) s.ready.history told; ready = ry; none = none }

  -- more pairs that are given change nothing
  pub sound_more : (more : List Pair) (x : Shown) (waiting : List Shown) (v : Knows) → 0 < length log → Sound log book x waiting v → Sound (log ++ more) book x waiting v
  sound_more more x waiting v some s = record {
    told = s.told;
    ready = record {
      stands = s.ready.stands;
      given = prefix_get log (log ++ more) x.front (pair_of x) (more, refl) s.ready.given;
      history = s.ready.history;
      schema = s.ready.schema ∙ sym (schema_in-append log more some);
    };
    none = s.none;
  }
