-- An empty disk in memory is unused.
use Rattle.std.proofs.Common.{◌≡◌, ◌<◌, List, [], ℕ, length, Result, Ok, Err, IfOk, sym, ap, subst, arith}
use Rattle.disk_core.specs.Disk.{Every}
use Rattle.disk_core.specs.Story.{Step, LeftAll, Image}
use Rattle.disk_core.specs.Memory.{Memory, image_of}
use Rattle.feature_journal.specs.Nothing.{Unused}
use Rattle.feature_journal.specs.Nothing.Unused.{all_few}

only_empty : (c : List ℕ) → Image [] [] c → length c < 17
unfolding LeftAll
only_empty c here = omega (arith, ap length here)

unused : (base : List ℕ) (steps : List Step) → base ≡ [] → steps ≡ [] → Unused (λ c. Image base steps c)
unused base steps none still = subst (λ (b : List ℕ). Unused (λ c. Image b steps c)) (sym none) (subst (λ (l : List Step). Unused (λ c. Image [] l c)) (sym still) (all_few only_empty))

pub empty_unused : {E : Type 0} (r : Result Memory E) (v : Memory) → v.base ≡ [] → v.steps ≡ [] → IfOk r (λ m. m ≡ v) → IfOk r (λ m. Unused (image_of m))
empty_unused (Ok m) v none still e = subst (λ (m : Memory). Unused (image_of m)) (sym e) (unused v.base v.steps none still)
empty_unused (Err e) v none still is = tt

pub empty_few : {E : Type 0} (r : Result Memory E) (v : Memory) → v.base ≡ [] → v.steps ≡ [] → IfOk r (λ m. m ≡ v) → IfOk r (λ m. Every (image_of m) (λ c. length c < 17))
empty_few (Ok m) v none still e = subst (λ (m : Memory). Every (image_of m) (λ c. length c < 17)) (sym e) (λ c here. only_empty c (subst (λ (b : List ℕ). Image b [] c) none (subst (λ (l : List Step). Image v.base l c) still here)))
empty_few (Err e) v none still is = tt
