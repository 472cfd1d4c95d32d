use Rattle.std.proofs.Common.{inl, inr, ap}
use Rattle.wfsd_commands.proofs.Leaving.{unseen, own_disks, own_line, unopened_ends}
use Rattle.wfsd_commands.proofs.commands.look.Goals as goal

pub returns-in-Ok-clause-looks : goal.returns-in-Ok-clause-looks
returns-in-Ok-clause-looks g c = record {
  left = c.inspect.new.disks;
  only = record { untouched = c.in-Ok.ensures.unwritten; count = c.in-Ok.ensures.count };
  tells = inl (record {
    counts = c.in-Ok.counts;
    are = λ a b at_a at_b. rw c.stated_limits.ensures.side at (c.in-Ok.ensures.counts a b at_a at_b);
    leaves = own_disks _ _ _ c.leave_disks.ensures;
    says = own_line c.leave_disks.result _ _ _ _ _ c.leave_disks.ensures.status_is c.say_counts.ensures;
  });
}

pub returns-in-Err-clause-looks : goal.returns-in-Err-clause-looks
returns-in-Err-clause-looks g c = record {
  left = c.inspect.new.disks;
  only = record { untouched = c.in-Err.ensures.unwritten; count = c.in-Err.ensures.count };
  tells = inr (record {
    fault = c.in-Err.fault;
    refused = λ a b at_a at_b. rw c.stated_limits.ensures.side at (c.in-Err.ensures.refused a b at_a at_b);
    cause = λ e. c.in-Err.ensures.cause (ap unseen e);
    ends = unopened_ends _ c.in-Err.fault _ _ _ _ c.leave_disks-in-Err.ensures c.say_unopened.ensures.status c.say_unopened.ensures.says;
  });
}
