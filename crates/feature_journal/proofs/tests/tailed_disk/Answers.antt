use Rattle.std.proofs.Common.{rules, ◌≡◌, List, [], ◌∷◌, ℕ, Result, Ok, Err, IfOk, refl, sym, subst}
use Rattle.disk_core.specs.Disk.{Every}
use Rattle.disk_core.specs.Story.{Step, LeftAll, Image}
use Rattle.disk_core.specs.Memory.{Memory, image_of}
use Rattle.feature_journal.specs.Side.{side, framed}
use Rattle.feature_journal.specs.Settled.{Reading, TailOf}
use Rattle.feature_journal.proofs.tests.tailed_disk.Goals as goal

abbrev read : Reading
read = record { lists = ((104 ∷ 105 ∷ []) ∷ []) ∷ []; generation = 1; bodies = (104 ∷ 105 ∷ []) ∷ []; body = 120 ∷ []; text = [] }

abbrev tailed : List ℕ
tailed = 1 ∷ 87 ∷ 70 ∷ 83 ∷ 74 ∷ 78 ∷ 76 ∷ 1 ∷ 0 ∷ 0 ∷ 0 ∷ 0 ∷ 0 ∷ 0 ∷ 0 ∷ 1 ∷ 1 ∷ 0 ∷ 0 ∷ 0 ∷ 2 ∷ 104 ∷ 105 ∷ 5 ∷ 0 ∷ 0 ∷ 0 ∷ 1 ∷ 120 ∷ 0 ∷ []

has_tail : (c : List ℕ) → Image tailed [] c → TailOf read c
unfolding LeftAll side framed
has_tail c here = record { byte = 5; not_open = λ e. absurd (cc e); is = record { rest = []; is = here } }

all_tailed : {E : Type 0} (r : Result Memory E) (v : Memory) → v.base ≡ tailed → v.steps ≡ [] → IfOk r (λ m. m ≡ v) → IfOk r (λ m. Every (image_of m) (TailOf read))
all_tailed (Ok m) v is still e = subst (λ (m : Memory). Every (image_of m) (TailOf read)) (sym e) (λ c here. has_tail c (subst (λ (b : List ℕ). Image b [] c) is (subst (λ (l : List Step). Image v.base l c) still here)))
all_tailed (Err e) v is still none = tt

pub returns : goal.returns
returns c = all_tailed c.new.result _ (search rules) refl c.new.ensures
