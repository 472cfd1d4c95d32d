use Rattle.std.proofs.Common.{◌≡◌, false, ◌-◌, length, drop}
use Rattle.std.specs.List.{list_any}
use Rattle.reply_documents.specs.StoredQueries.{is_same_kind}
use Rattle.reply_documents.proofs.stored_types.is_asked_before.Given as goal

abbrev pub invariant-loop-behind : goal.invariant-loop-behind
invariant-loop-behind l = list_any (λ q. is_same_kind q.kind l.query.kind) (drop (length l.earlier - l.behind) l.earlier) ≡ false
