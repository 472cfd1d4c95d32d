use Rattle.std.proofs.Common.{◌≡◌, Bool, true, false, ◌||◌, cond, string_bytes, refl, ◌∙◌}
use Rattle.std.specs.Str.{bytes_eq}
use Rattle.std.specs.BTreeSet.{contains_text}
use Rattle.std.proofs.lemmas.Map.Text.{btree_set_updates_text}
use Rattle.query_docs.proofs.seen.note_text.Goals as goal

if_here : (a b : Bool) → cond a true b ≡ (b || a)
if_here true true = refl
if_here true false = refl
if_here false true = refl
if_here false false = refl

pub returns-clause-seen : goal.returns-clause-seen
returns-clause-seen c = λ q.
    btree_set_updates_text (string_bytes c.args.name) c.args.seen.now c.insert.new.self _ c.in_ok-insert.ensures.updates q
    ∙ if_here (bytes_eq (string_bytes c.args.name) q) (contains_text c.args.seen.now q)
