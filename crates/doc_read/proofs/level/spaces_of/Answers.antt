use Rattle.std.proofs.Common.{List, ℕ, Option, Some, cond, sym, ap, ◌∙◌, string_bytes}
use Rattle.std.specs.Str.{bytes_eq}
use Rattle.std.proofs.lemmas.Map.Text.{btree_map_updates_text}
use Rattle.doc_read.proofs.Scopes.{newest_push, newest_nothing}
use Rattle.doc_read.proofs.level.spaces_of.Goals as goal

pub loop-bound-init : goal.loop-bound-init
loop-bound-init c = λ q. rw c.new-spaces.ensures.empty (sym (newest_nothing q))

pub loop-bound-preserved : goal.loop-bound-preserved
loop-bound-preserved c = λ q.
    let sets = btree_map_updates_text (string_bytes c.in_ok-prefix.prefix) c.loop-bound.spaces c.insert.new.self _ c.in_ok-insert.ensures.updates q in
    let same = rw (c.in_ok-prefix.ensures.ok, c.as_str.ensures.value, c.in_ok-space.ensures) at sets in
    same ∙ ap (λ (o : Option (List ℕ)). cond (bytes_eq c.bound-item.result.prefix q) (Some c.bound-item.result.space) o) (c.loop-bound.invariant q)
    ∙ sym (newest_push q c.args.bounds.now c.loop-bound.bound-index c.bound-item.result c.loop-bound-test.true c.bound-item.is)
