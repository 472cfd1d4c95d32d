use Rattle.std.proofs.Common.{refl, sym}
use Rattle.http_session.specs.declared.message.Ending.TheVariants as ending
use Rattle.service_session.proofs.Rounds.{answered_round, ended_round, cut_round, refused_round, read_failed_round, line_failed_round, gave_up_round}
use Rattle.service_session.proofs.Sessions.{stays_so}
use Rattle.service_session.proofs.round.hold_round.Goals as goal

pub returns-in-Message : goal.returns-in-Message
returns-in-Message g c =
    let replies = rw (sym (g.met.L.Link.is_one c.next_message.new.link), sym (g.met.L.Link.is_one c.answer.new.sink)) at c.answer.ensures in
    rw c.after_answer.ensures (answered_round g.S.Service _ c.args.is_last _ _ c.in-Message.message _ _ _ c.in-Message.ensures _ _ _ _ replies)

pub returns-in-End : goal.returns-in-End
returns-in-End g c = ended_round g.S.Service _ (stays_so g.S.Service _ (g.met.S.Service.stays _)) c.args.is_last _ _ _ _ _ c.in-End.ensures

pub returns-in-Cut : goal.returns-in-Cut
returns-in-Cut g c = cut_round g.S.Service _ (stays_so g.S.Service _ (g.met.S.Service.stays _)) c.args.is_last _ _ _ _ _ c.in-Cut.ensures

pub returns-in-BadHead : goal.returns-in-BadHead
returns-in-BadHead g c =
    let given = rw (sym (g.met.L.Link.is_one c.next_message.new.link), sym (g.met.L.Link.is_one c.refuse.new.sink)) at c.refuse.ensures in
    let reads = c.in-BadHead.ensures in
    refused_round g.S.Service _ (stays_so g.S.Service _ (g.met.S.Service.stays _)) c.args.is_last _ _ _ _ _ ending.BadHead 1 refl reads.due reads.answers reads.written reads.stays.takes reads.stays.puts reads.stays.place (reads.calm (λ e. absurd cc)) _ _ given

pub returns-in-TooLarge : goal.returns-in-TooLarge
returns-in-TooLarge g c =
    let given = rw (sym (g.met.L.Link.is_one c.next_message.new.link), sym (g.met.L.Link.is_one c.refuse-in-TooLarge.new.sink)) at c.refuse-in-TooLarge.ensures in
    let reads = c.in-TooLarge.ensures in
    refused_round g.S.Service _ (stays_so g.S.Service _ (g.met.S.Service.stays _)) c.args.is_last _ _ _ _ _ ending.TooLarge 2 refl reads.due reads.answers reads.written reads.stays.takes reads.stays.puts reads.stays.place (reads.calm (λ e. absurd cc)) _ _ given

pub returns-in-NoLength : goal.returns-in-NoLength
returns-in-NoLength g c =
    let given = rw (sym (g.met.L.Link.is_one c.next_message.new.link), sym (g.met.L.Link.is_one c.refuse-in-NoLength.new.sink)) at c.refuse-in-NoLength.ensures in
    let reads = c.in-NoLength.ensures in
    refused_round g.S.Service _ (stays_so g.S.Service _ (g.met.S.Service.stays _)) c.args.is_last _ _ _ _ _ ending.NoLength 3 refl reads.due reads.answers reads.written reads.stays.takes reads.stays.puts reads.stays.place (reads.calm (λ e. absurd cc)) _ _ given

pub returns-in-Coding : goal.returns-in-Coding
returns-in-Coding g c =
    let given = rw (sym (g.met.L.Link.is_one c.next_message.new.link), sym (g.met.L.Link.is_one c.refuse-in-Coding.new.sink)) at c.refuse-in-Coding.ensures in
    let reads = c.in-Coding.ensures in
    refused_round g.S.Service _ (stays_so g.S.Service _ (g.met.S.Service.stays _)) c.args.is_last _ _ _ _ _ ending.Coding 4 refl reads.due reads.answers reads.written reads.stays.takes reads.stays.puts reads.stays.place (reads.calm (λ e. absurd cc)) _ _ given

pub returns-in-ReadFault : goal.returns-in-ReadFault
returns-in-ReadFault g c = read_failed_round g.S.Service _ (stays_so g.S.Service _ (g.met.S.Service.stays _)) c.args.is_last _ _ _ _ _ c.in-ReadFault.ensures

pub returns-in-WriteFault : goal.returns-in-WriteFault
returns-in-WriteFault g c = line_failed_round g.S.Service _ (stays_so g.S.Service _ (g.met.S.Service.stays _)) c.args.is_last _ _ _ _ _ c.in-WriteFault.ensures

pub returns-in-OutOfMemory : goal.returns-in-OutOfMemory
returns-in-OutOfMemory g c =
    let given = rw (sym (g.met.L.Link.is_one c.next_message.new.link), sym (g.met.L.Link.is_one c.give_up.new.sink)) at c.give_up.ensures in
    gave_up_round g.S.Service _ (stays_so g.S.Service _ (g.met.S.Service.stays _)) c.args.is_last _ _ _ _ _ c.in-OutOfMemory.ensures _ _ given
