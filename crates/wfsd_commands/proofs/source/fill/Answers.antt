use Rattle.std.proofs.Common.{rules, ◌∙◌, ◌≤◌, length, take}
use Rattle.wfsd_commands.specs.Source.{Takes}
use Rattle.wfsd_commands.proofs.Filling.{takes_both, took, put_more}
use Rattle.wfsd_commands.proofs.source.fill.Goals as goal

pub loop-done-preserved : goal.loop-done-preserved
loop-done-preserved g c =
    let old = g.Q.Source.source c.loop-done.source in
    let new = g.Q.Source.source c.take.new.self in
    let some : Takes old (take c.in-Ok.count c.take.new.into) new =
    took c.take.new.into c.in-Ok.count c.in-Ok.ensures.moved c.in-Ok.ensures.bytes c.take.ensures.keeps in
    let counted : c.in-Ok.count ≤ length c.take.new.into = search rules in
    record {
      within = search rules;
      size = search rules;
      calm = c.in-Ok.ensures.calm ∙ c.loop-done.invariant.calm;
      takes = rw (put_more c.loop-done.done _ c.in-Ok.count c.loop-done.bytes c.take.new.into c.loop-done.invariant.within counted) (takes_both c.loop-done.invariant.takes some);
    }
