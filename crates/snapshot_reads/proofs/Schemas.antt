-- The schema of a history is that of its first pair.
use Rattle.std.proofs.Common.{◌≡◌, ◌<◌, true, List, [], ◌∷◌, ◌++◌, length, All, refl, ap, sym, subst, arith, ◌∙◌}
use Rattle.std.proofs.lemmas.List.Elements.{All-append, All-cons, All-get_or, All-nil}
use Rattle.std.proofs.lemmas.Option.{get_or_from_slice_get, slice_get_within}
use mathlib.Core.List.{IsPrefix}
use Rattle.feature_values.specs.declared.schema.Schema.{Schema}
use Rattle.snapshot_reads.specs.declared.book.Pair.{Pair}
use Rattle.snapshot_reads.specs.Pairs.{AreOfOne, IsHistory, IsPairOf, Stands, schema_in}

-- more pairs behind them change nothing
pub schema_in-append : (xs ys : List Pair) → 0 < length xs → schema_in (xs ++ ys) ≡ schema_in xs
schema_in-append [] ys some = absurd (omega arith)
schema_in-append (x ∷ xs) ys some = refl

-- all pairs of a history that begins with these have the same schema
pub schema_in-prefix : (xs ys : List Pair) → IsPrefix xs ys → 0 < length xs → schema_in ys ≡ schema_in xs
schema_in-prefix xs ys p some = ap schema_in (sym p.1) ∙ schema_in-append xs p.0 some

-- one pair more, of the schema of the others
pub of_one_more : (xs : List Pair) (p : Pair) → 0 < length xs → AreOfOne xs → IsPairOf (schema_in xs) p → AreOfOne (xs ++ p ∷ [])
of_one_more xs p some all one =
    let P : Schema → Type 0 = λ s. All (IsPairOf s) (xs ++ p ∷ []) in
    subst P (sym (schema_in-append xs (p ∷ []) some)) (All-append (IsPairOf (schema_in xs)) xs (p ∷ []) all (All-cons (IsPairOf (schema_in xs)) p [] one (All-nil (IsPairOf (schema_in xs)))))

-- a history of one pair
pub opens : (p : Pair) → IsPairOf p.content.schema p → IsHistory ((0, true) ∷ []) (p ∷ [])
opens p one = record { last = 0; word = refl; long = refl; pairs = All-cons (IsPairOf p.content.schema) p [] one (All-nil (IsPairOf p.content.schema)) }

-- what stands in a history is of its schema
pub stands_of_one : (log : List Pair) (p : Pair) → AreOfOne log → Stands log p → IsPairOf (schema_in log) p
stands_of_one log p all at = subst (IsPairOf (schema_in log)) (get_or_from_slice_get log p.front p p at) (All-get_or (IsPairOf (schema_in log)) log p.front p (slice_get_within log p.front p at) all)

pub all_of_one : (log ps : List Pair) → AreOfOne log → All (Stands log) ps → All (IsPairOf (schema_in log)) ps
all_of_one log ps all stand = λ k d lt. stands_of_one log _ all (stand k d lt)
