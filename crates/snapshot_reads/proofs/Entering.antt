-- What a viewer knows once it has entered.
use Rattle.std.proofs.Common.{◌≡◌, ◌<◌, List, [], ◌∷◌, ◌++◌, length, All, arith, sym, subst, ◌∙◌}
use Rattle.std.proofs.lemmas.List.Elements.{All-append, All-cons, All-nil}
use mathlib.Core.List.{IsPrefix}
use Rattle.logbook.specs.Pages.{Book}
use Rattle.logbook.specs.declared.tokens.Seen.{Seen}
use Rattle.snapshot_reads.specs.declared.book.Law.{Law}
use Rattle.snapshot_reads.specs.declared.book.Pair.{Pair}
use Rattle.snapshot_reads.specs.declared.rule.Knows.{Knows}
use Rattle.snapshot_reads.specs.declared.shown.Shown.{Shown}
use Rattle.snapshot_reads.specs.Pairs.{Stands}
use Rattle.snapshot_reads.specs.Rules.{Sees, pair_of}
use Rattle.snapshot_reads.specs.Whole.{KnowsOf}
use Rattle.snapshot_reads.proofs.Fronts.{prefix_get}

-- two histories that one of them knows are one
pub one_book : (v : Knows) (a b : Book) → KnowsOf v a → All (λ (s : Seen Pair (Unit {0}) Law). s.book ≡ b) v.of → b ≡ a
one_book v a b k h = go v.of k.some k.all h
  where
    go : (ss : List (Seen Pair (Unit {0}) Law)) → 0 < length ss → All (λ (s : Seen Pair (Unit {0}) Law). s.book ≡ a) ss → All (λ (s : Seen Pair (Unit {0}) Law). s.book ≡ b) ss → b ≡ a
    go [] some k h = absurd (omega arith)
    go (s ∷ ss) some k h = sym (h 0 s some) ∙ k 0 s some

-- pairs that stand in a history stand in each that goes on from it
pub all_stand : (old new ps : List Pair) → IsPrefix old new → All (Stands old) ps → All (Stands new) ps
all_stand old new ps pre h = λ k d lt. prefix_get old new _ _ pre (h k d lt)

-- and so does the one that was found
pub found_stand : (old new : List Pair) (v w u : Knows) (x y : Shown) → IsPrefix old new → IsPrefix x.seen.log new → All (Stands old) v.entered → Sees v x y w → u ≡ w → All (Stands new) u.entered
found_stand old new v w u x y pre its h sees same =
    let p : Pair = pair_of x in
    let one : All (Stands new) (p ∷ []) = All-cons (Stands new) p [] (prefix_get x.seen.log new x.front p its sees.stands) (All-nil (Stands new)) in
    let all : All (Stands new) (v.entered ++ p ∷ []) = All-append (Stands new) v.entered (p ∷ []) (all_stand old new v.entered pre h) one in
    subst (λ (k : Knows). All (Stands new) k.entered) (sym (same ∙ sees.view)) all
