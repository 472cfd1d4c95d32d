use Rattle.wfsd_commands.proofs.Loads.{too_many, whole_loaded}
use Rattle.wfsd_commands.proofs.load.load_schema.Goals as goal

pub returns-in-Ok-TooLong-clause-loaded : goal.returns-in-Ok-TooLong-clause-loaded
returns-in-Ok-TooLong-clause-loaded g c = too_many _ (rw c.in-Ok-TooLong.field-0-is at c.in-Ok-TooLong.ensures.read)

pub returns-in-Ok-Whole-clause-loaded : goal.returns-in-Ok-Whole-clause-loaded
returns-in-Ok-Whole-clause-loaded g c =
    let read = rw c.in-Ok-Whole.field-0-is at c.in-Ok-Whole.ensures.read in
    whole_loaded (g.Q.Source.source c.args.source.now) (g.Q.Source.source c.read_up_to.new.source) c.in-Ok-Whole.bytes.items _ read.0 read.1 (rw c.deref.ensures.value at c.read_bytes.ensures.read)
