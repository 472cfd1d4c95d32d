-- The steps of those who publish and view keep their rule.
use Rattle.std.proofs.Common.{◌≡◌, ℕ, ◌≢◌, List, [], ◌∷◌, ◌++◌, All, set, refl, sym, subst, ⊎_elim, le_refl, le_trans, zero-le, ◌∙◌, ◌≤◌}
use Rattle.std.proofs.lemmas.List.Elements.{All-append, All-nil, All-cons}
use mathlib.Core.Option.{some, some-ne-none}
use lib.ListN.{get_elem?}
use Rattle.crossbeam_utils.specs.Register.{Admits, TurnsAt, Forks, Merges}
use Rattle.atomic_table.proofs.Lists.{at_set, at_snoc}
use Rattle.logbook.specs.declared.tokens.Seen.{Seen}
use Rattle.snapshot_reads.specs.declared.book.Pair.{Pair}
use Rattle.snapshot_reads.specs.declared.book.Law.{Law}
use Rattle.snapshot_reads.specs.declared.shown.Shown.{Shown}
use Rattle.snapshot_reads.specs.declared.rule.Knows.{Knows}
use Rattle.snapshot_reads.specs.Pairs.{Stands}
use Rattle.snapshot_reads.specs.Rules.{Holds, Fits, Sees, Shows, AllUpTo, pair_of, nobody, with_read, told_right, told_both}
use Rattle.snapshot_reads.specs.Whole.{MayFollow}

all_up : (m n : ℕ) (ps : List Pair) → m ≤ n → AllUpTo m ps → AllUpTo n ps
all_up m n ps le h = λ k d l. le_trans (h k d l) le

all_more : {X : Type 0} (P : X → Type 0) (xs : List X) (x : X) → All P xs → P x → All P (xs ++ x ∷ [])
all_more P xs x h p = All-append P xs (x ∷ []) h (All-cons P x [] p (All-nil P))

nobody_fits : (x : Shown) → Fits x nobody
nobody_fits x = record { reached = zero-le; of = All-nil _; entered = All-nil _ }

pub starts : (x : Shown) → Stands x.seen.log (pair_of x) → Holds x (nobody ∷ [])
starts x h = record { stands = h; each = λ j v at. ⊎_elim (λ (e : get_elem? [] j ≡ some v). absurd (some-ne-none v (sym e))) (λ (same : nobody ≡ v). subst (Fits x) same (nobody_fits x)) (at_snoc [] nobody v j at) }

-- the rule with one more who fits, and with a new view of one that fits
longer : (x : Shown) (views : List Knows) (w : Knows) → Holds x views → Fits x w → Holds x (views ++ w ∷ [])
longer x views w h fits = record { stands = h.stands; each = λ j v at. ⊎_elim (h.each j v) (λ (same : w ≡ v). subst (Fits x) same fits) (at_snoc views w v j at) }

changed : (x : Shown) (views : List Knows) (i : ℕ) (w : Knows) → Holds x views → Fits x w → Holds x (set views i w)
changed x views i w h fits = record { stands = h.stands; each = λ j v at. ⊎_elim (λ (t : (j ≡ i) × (w ≡ v)). subst (Fits x) t.1 fits) (λ (t : (j ≢ i) × (get_elem? views j ≡ some v)). h.each j v t.1) (at_set views i j w v at) }

pub admits : Admits Holds nobody
admits x views h = longer x views nobody h (nobody_fits x)

pub reads : (seat : ℕ) (v : Knows) (x : Shown) → TurnsAt Holds seat v x x Sees
reads seat v x views h at =
    let f = h.each seat v at in
    let older : AllUpTo x.front v.entered = all_up v.reached x.front v.entered f.reached f.entered in
    let fits : Fits x (with_read v x) = record { reached = le_refl x.front; of = f.of; entered = all_more (λ p. p.front ≤ x.front) v.entered (pair_of x) older (le_refl x.front) } in
    (with_read v x, changed x views seat (with_read v x) h fits, record { view = refl; stands = h.stands; of = f.of; not_below = older })

pub swaps : (seat : ℕ) (v : Knows) (x y : Shown) → MayFollow x y → TurnsAt Holds seat v x y Shows
swaps seat v x y may views h at =
    let w : Knows = record { reached = y.front; of = y.seen ∷ []; entered = [] } in
    let still : (u : Knows) → Fits x u → Fits y u = λ u f. record { reached = le_trans f.reached may.up; of = λ k d l. f.of k d l ∙ sym may.history; entered = f.entered } in
    let after : Holds y views = record { stands = may.stands; each = λ j u e. still u (h.each j u e) } in
    let P : Seen Pair (Unit {0}) Law → Type 0 = λ s. s.book ≡ y.seen.book in
    let fits : Fits y w = record { reached = le_refl y.front; of = All-cons P y.seen [] refl (All-nil P); entered = All-nil _ } in
    (w, changed y views seat w after fits, refl)

pub forks : (seat : ℕ) (v : Knows) → Forks Holds seat v v (told_right v)
forks seat v x views h at =
    let f = h.each seat v at in
    longer x (set views seat v) (told_right v) (changed x views seat v h f) (record { reached = zero-le; of = f.of; entered = All-nil _ })

pub merges : (seat : ℕ) (v : Knows) (other : ℕ) (w : Knows) → Merges Holds seat v other w (told_both v w) nobody
merges seat v other w x views h at apart there =
    let f = h.each seat v at in
    let g : Fits x w = ⊎_elim (λ (t : (other ≡ seat) × (told_both v w ≡ w)). absurd (apart t.0)) (λ (t : (other ≢ seat) × (get_elem? views other ≡ some w)). h.each other w t.1) (at_set views seat other (told_both v w) w there) in
    let both : Fits x (told_both v w) = record { reached = f.reached; of = g.of; entered = f.entered } in
    changed x (set views seat (told_both v w)) other nobody (changed x views seat (told_both v w) h both) (nobody_fits x)
