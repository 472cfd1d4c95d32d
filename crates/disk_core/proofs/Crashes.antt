-- What a crash of a disk in memory keeps.
use Rattle.std.proofs.Common.{◌≡◌, inl, inr, ℕ, ◌+◌, ◌-◌, ◌≤◌, ◌<◌, zero, suc, List, [], ◌∷◌, ◌++◌, length, take, drop, refl, sym, ◌∙◌, ap, subst, arith, length-append, take-append-drop}
use Rattle.std.proofs.Math.Seq.{take-append-add}
use Rattle.std.proofs.lemmas.List.{drop-drop, drop_all}
use Rattle.std.specs.List.{AllByRecursion}
use Rattle.disk_core.specs.Story.{Step, read_after, read_after_all, Left, LeftAll, Image}
use Rattle.disk_core.specs.Story.Step.{wrote, shortened, synced}
use Rattle.disk_core.specs.StoryLaws.{torn_none, reads_left}
use Rattle.disk_core.proofs.Pushes.{le_cases}
use Rattle.disk_core.specs.Memory.{unsynced_from, IsChange, kept}

unsynced_within : (n : ℕ) (steps : List Step) → unsynced_from n steps ≤ n + length steps
unfolding unsynced_from
unsynced_within n [] = omega arith
unsynced_within n (wrote at bytes ∷ steps) = omega (arith, unsynced_within (n + 1) steps)
unsynced_within n (shortened to ∷ steps) = omega (arith, unsynced_within (n + 1) steps)
unsynced_within n (synced ∷ steps) = omega (arith, unsynced_within 0 steps)

-- what comes behind the last sync is writes and cuts
head_on : (u : ℕ) (x : Step) (steps : List Step) → (length steps < u → IsChange x) → AllByRecursion IsChange (drop (length steps - u) steps) → AllByRecursion IsChange (drop (length (x ∷ steps) - u) (x ∷ steps))
head_on u x steps first rest = elim (le_cases u (length steps)) [
  | inl le ↦ let e : suc (length steps) - u ≡ suc (length steps - u) = omega (arith, le) in subst (λ k. AllByRecursion IsChange (drop k (x ∷ steps))) (sym e) rest
  | inr lt ↦
      let e : suc (length steps) - u ≡ 0 = omega (arith, lt) in
      let none : length steps - u ≡ 0 = omega (arith, lt) in
      subst (λ k. AllByRecursion IsChange (drop k (x ∷ steps))) (sym e) (first lt, subst (λ k. AllByRecursion IsChange (drop k steps)) none rest)
]

behind_sync : (n : ℕ) (steps : List Step) → AllByRecursion IsChange (drop (length steps - unsynced_from n steps) steps)
unfolding unsynced_from
behind_sync n [] = subst (AllByRecursion IsChange) (sym (drop_all (0 - n) [] (omega arith))) tt
behind_sync n (wrote at bytes ∷ steps) = head_on (unsynced_from (n + 1) steps) (wrote at bytes) steps (λ lt. tt) (behind_sync (n + 1) steps)
behind_sync n (shortened to ∷ steps) = head_on (unsynced_from (n + 1) steps) (shortened to) steps (λ lt. tt) (behind_sync (n + 1) steps)
behind_sync n (synced ∷ steps) = head_on (unsynced_from 0 steps) synced steps (λ lt. omega (arith, lt, unsynced_within 0 steps)) (behind_sync 0 steps)

all_drop : (k : ℕ) (steps : List Step) → AllByRecursion IsChange steps → AllByRecursion IsChange (drop k steps)
all_drop zero steps all = all
all_drop (suc k) [] all = tt
all_drop (suc k) (x ∷ steps) all = all_drop k steps all.1

-- steps behind steps
pub left_append : (images : List ℕ → Type 0) (s : List ℕ) (steps more : List Step) (c : List ℕ) → LeftAll images s (steps ++ more) c ≡ LeftAll (LeftAll images s steps) (read_after_all s steps) more c
unfolding LeftAll read_after_all
left_append images s [] more c = refl
left_append images s (x ∷ steps) more c = left_append (Left images s x) (read_after s x) steps more c

-- writes and cuts may all be lost
pub lost : (images : List ℕ → Type 0) (s : List ℕ) (steps : List Step) (c : List ℕ) → AllByRecursion IsChange steps → images c → LeftAll images s steps c
unfolding LeftAll
lost images s [] c all here = here
lost images s (wrote at bytes ∷ steps) c all here = lost (Left images s (wrote at bytes)) (read_after s (wrote at bytes)) steps c all.1 (c, here, torn_none at (length bytes) c)
lost images s (shortened to ∷ steps) c all here = lost (Left images s (shortened to)) (read_after s (shortened to)) steps c all.1 (c, here, inl refl)
lost images s (synced ∷ steps) c all here = absurd all.0

-- what a crash keeps is one of the images
pub image_kept : (base : List ℕ) (keep : ℕ) (steps : List Step) → Image base steps (read_after_all base (kept keep steps))
image_kept base keep steps =
    let start = length steps - unsynced_from 0 steps in
    let k = start + keep in
    let c = read_after_all base (take k steps) in
    let rest : AllByRecursion IsChange (drop k steps) = subst (AllByRecursion IsChange) (drop-drop _ _ steps) (all_drop keep (drop start steps) (behind_sync 0 steps)) in
    let first : LeftAll (λ d. d ≡ base) base (take k steps) c = reads_left (λ d. d ≡ base) base (take k steps) refl in
    let all : LeftAll (λ d. d ≡ base) base (take k steps ++ drop k steps) c = subst (λ (T : Type 0). T) (sym (left_append (λ d. d ≡ base) base (take k steps) (drop k steps) c)) (lost (LeftAll (λ d. d ≡ base) base (take k steps)) (read_after_all base (take k steps)) (drop k steps) c rest first) in
    subst (λ (l : List Step). Image base l c) (take-append-drop k steps) all

unsynced_changes : (n : ℕ) (steps : List Step) → AllByRecursion IsChange steps → unsynced_from n steps ≡ n + length steps
unfolding unsynced_from
unsynced_changes n [] all = omega arith
unsynced_changes n (wrote at bytes ∷ steps) all = omega (arith, unsynced_changes (n + 1) steps all.1)
unsynced_changes n (shortened to ∷ steps) all = omega (arith, unsynced_changes (n + 1) steps all.1)
unsynced_changes n (synced ∷ steps) all = absurd all.0

unsynced_past : (n : ℕ) (before after : List Step) → unsynced_from n (before ++ synced ∷ after) ≡ unsynced_from 0 after
unfolding unsynced_from
unsynced_past n [] after = refl
unsynced_past n (wrote at bytes ∷ before) after = unsynced_past (n + 1) before after
unsynced_past n (shortened to ∷ before) after = unsynced_past (n + 1) before after
unsynced_past n (synced ∷ before) after = unsynced_past 0 before after

-- no write is lost that was synced, and of those since then just the first stay
pub kept_synced : (keep : ℕ) (before after : List Step) → AllByRecursion IsChange after → kept keep (before ++ synced ∷ after) ≡ before ++ synced ∷ take keep after
kept_synced keep before after all =
    let none : unsynced_from 0 (before ++ synced ∷ after) ≡ length after = unsynced_past 0 before after ∙ unsynced_changes 0 after all ∙ omega arith in
    let e : length (before ++ synced ∷ after) - unsynced_from 0 (before ++ synced ∷ after) + keep ≡ length before + suc keep = omega (arith, none, length-append before (synced ∷ after)) in
    ap (λ n. take n (before ++ synced ∷ after)) e ∙ take-append-add before (synced ∷ after) (suc keep)

pub kept_first : (keep : ℕ) (steps : List Step) → AllByRecursion IsChange steps → kept keep steps ≡ take keep steps
kept_first keep steps all =
    let none : unsynced_from 0 steps ≡ length steps = unsynced_changes 0 steps all ∙ omega arith in
    ap (λ n. take n steps) (omega (arith, none))
