-- The steps on the history's word keep its rule.
use Rattle.std.proofs.Common.{◌≡◌, ℕ, ◌+◌, ◌<◌, ◌==◌, Bool, true, false, List, [], ◌∷◌, ◌++◌, length, refl, ap, sym, subst, arith, inl, length-append, None}
use Rattle.std.proofs.lemmas.List.{append-nil}
use Rattle.std.proofs.lemmas.Bool.Decides.{nat_tests}
use mathlib.Core.List.{IsPrefix}
use prog.Atomic.{either}
use Rattle.logbook.specs.Pages.{Cell, cell, keeps, no_nib, step, Moves, Goes}
use Rattle.snapshot_reads.specs.declared.book.Pair.{Pair}
use Rattle.snapshot_reads.specs.Pairs.{Adds, AreOfOne, IsHistory, IsPairOf, Looks, schema_in}
use Rattle.snapshot_reads.proofs.Fronts.{prefix_whole}
use Rattle.snapshot_reads.proofs.Schemas.{of_one_more}

abbrev pub shown : List Pair → List Pair
shown log = []

abbrev pub moved : List Pair → List Pair → Unit {0} → Type 0
moved xs ys n = Unit {0}

adds_goes : (log v : List Pair) (e : Pair) (old new w : ℕ) → length v ≡ new → new ≡ old + 1 → IsPairOf (schema_in v) e → length log ≡ w + 1 → AreOfOne log → IsPrefix v log
    → (b : Bool) → (w == old) ≡ b
    → Goes IsHistory shown moved 0 (v, (no_nib, None)) (λ n. either (n == old) new n) (Adds (step 0 old new e) (v, (no_nib, None))) ((w, true) ∷ []) log
adds_goes log v e old new w len next of long one pre true is =
    let here : w ≡ old = grind (arith, nat_tests) in
    let same : v ≡ log = prefix_whole v log pre (omega arith) in
    let n : length (log ++ e ∷ []) ≡ new + 1 = omega (arith, length-append log (e ∷ [])) in
    let its : IsPairOf (schema_in log) e = subst (λ (ps : List Pair). IsPairOf (schema_in ps) e) same of in (
      keeps,
      e ∷ [],
      None,
      tt,
      record { last = either (w == old) new w; word = refl; long = rw is n; pairs = of_one_more log e (omega arith) one its },
      inl (refl, refl),
      λ _. ap (λ l. l ++ e ∷ []) (sym same),
    )
adds_goes log v e old new w len next of long one pre false is =
    let all : log ++ [] ≡ log = append-nil log in
    let n : length (log ++ []) ≡ w + 1 = rw all long in (
      keeps,
      [],
      None,
      tt,
      record { last = either (w == old) new w; word = refl; long = rw is n; pairs = subst AreOfOne (sym all) one },
      inl (refl, refl),
      λ found. let none : w ≡ old = found in absurd (grind (arith, nat_tests)),
    )

pub adds_moves : (v : List Pair) (e : Pair) (old new : ℕ) → length v ≡ new → new ≡ old + 1 → IsPairOf (schema_in v) e
    → Moves IsHistory shown moved 0 (v, (no_nib, None)) (λ n. either (n == old) new n) (Adds (step 0 old new e) (v, (no_nib, None)))
adds_moves v e old new len next of cs log kept pre away =
    let P : List Cell → Type 0 = λ c. (0 < length c) × ((cell c 0).1 ≡ true) × Goes IsHistory shown moved 0 (v, (no_nib, None)) (λ n. either (n == old) new n) (Adds (step 0 old new e) (v, (no_nib, None))) c log in
    subst P (sym kept.word) (omega arith, refl, adds_goes log v e old new kept.last len next of kept.long kept.pairs pre (kept.last == old) refl)

pub looks_moves : (v : List Pair) (e : Pair) → Moves IsHistory shown moved 0 (v, (no_nib, None)) (λ n. n) (Looks (step 0 0 0 e) (v, (no_nib, None)))
looks_moves v e cs log kept pre away =
    let P : List Cell → Type 0 = λ c. (0 < length c) × ((cell c 0).1 ≡ true) × Goes IsHistory shown moved 0 (v, (no_nib, None)) (λ n. n) (Looks (step 0 0 0 e) (v, (no_nib, None))) c log in
    let n : length (log ++ []) ≡ kept.last + 1 = rw (append-nil log) kept.long in
    let one : AreOfOne (log ++ []) = subst AreOfOne (sym (append-nil log)) kept.pairs in
    subst P (sym kept.word) (omega arith, refl, (keeps, [], None, tt, record { last = kept.last; word = refl; long = n; pairs = one }, inl (refl, refl), n))
