use Rattle.std.proofs.Common.{◌≡◌, ◌<◌, ℕ, List, [], ◌∷◌, length, refl, arith, false}
use Rattle.disk_core.specs.Disk.{Every}
use Rattle.disk_core.specs.declared.pair.Pair.{Pair}
use Rattle.feature_journal.specs.Side.{side, framed, behind, Gate}
use Rattle.feature_journal.specs.Settled.{Reading, Placed, TailOf}
use Rattle.feature_journal.specs.Whole.Idle.{idle_short}
use Rattle.feature_journal.proofs.Images.{gate_reads, gate_front}
use Rattle.feature_journal.proofs.tests.run_settle.Goals as goal

abbrev read : Reading
read = record { lists = ((104 ∷ 105 ∷ []) ∷ []) ∷ []; generation = 1; bodies = (104 ∷ 105 ∷ []) ∷ []; body = 120 ∷ []; text = [] }

at_gate : (c : List ℕ) → TailOf read c → Gate (side 1 read.bodies) (behind read.body) c
at_gate c t = record { byte = t.byte; is = t.is }

size_is : length (side 1 read.bodies) ≡ 23
unfolding side framed
size_is = refl

placed : {D : Type 0} (images : D → List ℕ → Type 0) (disks : Pair D) → Every (images disks.a) (TailOf read) → Every (images disks.b) (λ c. length c < 17) → Placed images false 23 false false 1 read.bodies disks
placed images disks tailed few = record {
  list = record { generation_fits = omega arith; bodies_fit = (omega arith, tt) };
  size = size_is;
  ends = λ c here. gate_front (side 1 read.bodies) (behind read.body) c (at_gate c (tailed c here));
  closed = λ e. absurd (cc e);
  idle = λ e. idle_short few;
}

pub settle-requires : goal.settle-requires
settle-requires g c = gate_reads g.D.Disk.shown g.D.Disk.images g.met.D.Disk.reads c.args.disks.a 23 (side 1 read.bodies) (behind read.body) size_is (λ s here. at_gate s (c.requires.tailed s here))

pub adopt-journal-requires-clause-held : goal.adopt-journal-requires-clause-held
adopt-journal-requires-clause-held g c = (read.bodies, c.in-Ok.ensures.held 1 read.bodies (placed g.D.Disk.images c.args.disks c.requires.tailed c.requires.few))
