use Rattle.std.proofs.Common.{List, [], ◌∷◌, ◌++◌, drop, get_or, sym, ap, ◌∙◌, arith}
use Rattle.service_doors.specs.Listening.{first_of}
use Rattle.service_doors.specs.Memory.{no_links}
use Rattle.service_doors.proofs.Firsts.{first_more, drop_one_more}
use Rattle.service_doors.proofs.memory_doors.give.Goals as goal

pub loop-worker-preserved : goal.loop-worker-preserved
loop-worker-preserved c =
    let at = c.loop-worker in
    let all = c.args.waiting.now.items in
    record {
      given =
          c.in-Ok.ensures.items
          ∙ ap (λ (t : List _). t ++ c.next.result ∷ []) at.invariant.given
          ∙ ap (λ x. first_of no_links at._worker all ++ x ∷ []) (c.next.ensures.next ∙ ap (λ (t : List _). get_or t 0 no_links) at.invariant.rest)
          ∙ sym (first_more no_links at._worker all);
      rest = c.next.ensures.rest ∙ ap (drop 1) at.invariant.rest ∙ drop_one_more at._worker all;
      room = omega arith;
    }
