use Rattle.std.proofs.Common.{[], ◌∷◌}
use mathlib.Core.List.{map-id}
use Rattle.std.proofs.lemmas.Grind.{flat_map-append}
use Rattle.std.proofs.lemmas.List.{append-nil}
use Rattle.std.proofs.lemmas.List.Concat.{flat_map-cons}
use Rattle.std.proofs.lemmas.Iterator.{YieldsList-from_chars}
use Rattle.std.proofs.lemmas.Iterator.Consumers.{YieldsList-end}
use Rattle.wfs_ends.proofs.Writing.{wrote_nothing, wrote_both}
use Rattle.doc_tree.proofs.Escapes.{escaped_character, escaped_is}
use Rattle.doc_tree.proofs.text.put_characters.Goals as goal

pub loop-c-preserved : goal.loop-c-preserved
loop-c-preserved g c =
    let f = escaped_character c.args.in_value in
    rw (flat_map-append f c.loop-c.yielded (c.in-Some.c ∷ []), flat_map-cons f c.in-Some.c [], append-nil) (wrote_both _ _ _ _ _ c.loop-c.invariant c.put_character-failed.ensures)

pub returns : goal.returns
returns g c =
    let all = YieldsList-end (YieldsList-from_chars c.args.text.now c.utf8.text cc) c.loop-c.yielded _ c.loop-c.yielded_by _ _ c.in-None.is c.next.ensures.steps in
    rw (escaped_is c.args.in_value c.args.text.now, ← all.0, map-id) c.loop-c.invariant

pub loop-c-init : goal.loop-c-init
loop-c-init g c = wrote_nothing _
