use Rattle.std.proofs.Common.{rules}
use Rattle.wfs_ends.proofs.Given.{front_at_err, all_at_ok}
use Rattle.wfs_ends.proofs.Buffering.{front_through, all_through, cut_through}
use Rattle.wfs_ends.proofs.buffer.Buffer.finish.Goals as goal

pub returns-in-Err : goal.returns-in-Err
returns-in-Err g c = λ first text a b w. front_through a b _ text first _ (front_at_err _ _ _ _ (search rules) w)

pub returns-in-Err-pass_on : goal.returns-in-Err-pass_on
returns-in-Err-pass_on g c = λ first text a b w. cut_through a b _ _ text first _ _ (all_at_ok _ _ _ _ (search rules) w) c.pass_on.ensures.given c.pass_on.ensures.grows c.pass_on.ensures.keeps c.in-Err-pass_on.ensures.cause

pub returns-in-Ok-pass_on : goal.returns-in-Ok-pass_on
returns-in-Ok-pass_on g c = λ first text a b w. all_through a b _ text first _ _ (all_at_ok _ _ _ _ (search rules) w) (search rules) c.pass_on.ensures.keeps (search rules)
