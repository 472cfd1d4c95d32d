use Rattle.std.proofs.Common.{◌≡◌, Ok, length, sym, ap, ◌∙◌, subst}
use Rattle.recovery.specs.Outcome.{outcome_of}
use Rattle.feature_values.specs.declared.schema.Schema.{Schema}
use Rattle.journal_replay.specs.Replayed.{replayed, verdict_on}
use Rattle.durable_journal.specs.Counted.{IsRefusedBy}
use Rattle.durable_journal.proofs.Looks.{look_refused, looked_counts}
use Rattle.durable_journal.proofs.looking.look_with.Goals as goal

pub returns-in-Err-clause-refused : goal.returns-in-Err-clause-refused
returns-in-Err-clause-refused g c a b is_a is_b =
    let outcome = outcome_of (verdict_on c.args.replay.now.schema) c.args.limit a b in
    subst (IsRefusedBy outcome) (sym c.from_recovery.ensures) (look_refused outcome c.in-Err.fault c.look_over.new.replay.taken (c.in-Err.ensures.refused a b is_a is_b))

pub returns-in-Ok-clause-counts : goal.returns-in-Ok-clause-counts
returns-in-Ok-clause-counts g c a b is_a is_b =
    let schema = c.args.replay.now.schema in
    let come = subst (λ s. replayed s c.look_over.new.replay.taken ≡ Ok c.features.result.now.kept) c.look_over.ensures.setting c.features.ensures.kept in
    looked_counts schema (outcome_of (verdict_on schema) c.args.limit a b) c.in-Ok.field-0 c.look_over.new.replay.taken c.features.result.now.kept c.counts_of.result (c.in-Ok.ensures.answer a b is_a is_b) come
    (c.counts_of.ensures.types ∙ ap (λ (s : Schema). length s.types) (c.features.ensures.schema ∙ c.look_over.ensures.setting)) c.counts_of.ensures.features c.counts_of.ensures.queries c.counts_of.ensures.openings
