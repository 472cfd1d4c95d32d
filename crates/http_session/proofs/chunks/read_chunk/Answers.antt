use Rattle.std.proofs.Common.{ap, ℕ}
use Rattle.http_session.specs.Chunks.{line, part_line, stops, chunk_of}
use Rattle.http_session.specs.Spots.{turn_of, after_trailer}
use Rattle.http_session.specs.declared.chunks.Begun.TheVariants as begun
use Rattle.http_session.specs.Lines.{line_of}
use Rattle.http_session.proofs.Spots.{passes_on, passes_by, passes_then, fault_then}
use Rattle.http_session.proofs.Turns.{turn_back, turn_chunk}
use Rattle.http_session.proofs.chunks.read_chunk.Goals as goal

pub returns-in-Line-eq0-clause-turn : goal.returns-in-Line-eq0-clause-turn
returns-in-Line-eq0-clause-turn g c =
    turn_back (λ w. turn_of c.args.content.now.items (line_of w)) (λ w. stops (after_trailer c.args.content.now.items begun.Nothing w)) _ c.args.content.now.items _ _ _ _ _ _ c.read_line.ensures.keeps
    (passes_on (λ w. turn_of c.args.content.now.items (line_of w)) (λ w. turn_of c.args.content.now.items (line c.in-Line-eq0.field-0 w)) (λ w. stops (after_trailer c.args.content.now.items begun.Nothing w)) _ _ _
    (passes_then (turn_of c.args.content.now.items) line_of (line c.in-Line-eq0.field-0) _ _ c.in-Line-eq0.ensures.line)
    (passes_by (λ w. turn_of c.args.content.now.items (line c.in-Line-eq0.field-0 w)) (λ w. stops (after_trailer c.args.content.now.items begun.Nothing w)) _ (λ x. ap (λ (n : ℕ). turn_of c.args.content.now.items (line n x)) c.in-Line-eq0.field-0-test)))
    (c.read_trailer.ensures.turn c.args.content.now.items)

pub returns-in-Line-clause-turn : goal.returns-in-Line-clause-turn
returns-in-Line-clause-turn g c =
    turn_back (λ w. turn_of c.args.content.now.items (line_of w)) (chunk_of c.args.content.now.items c.in-Line.size) _ c.read_data.new.content.items _ _ _ _ _ _ c.read_line.ensures.keeps
    (passes_on (λ w. turn_of c.args.content.now.items (line_of w)) (λ w. turn_of c.args.content.now.items (line c.in-Line.size w)) (chunk_of c.args.content.now.items c.in-Line.size) _ _ _
    (passes_then (turn_of c.args.content.now.items) line_of (line c.in-Line.size) _ _ c.in-Line.ensures.line)
    (passes_by (λ w. turn_of c.args.content.now.items (line c.in-Line.size w)) (chunk_of c.args.content.now.items c.in-Line.size) _ (λ x. turn_chunk c.args.content.now.items c.in-Line.size x c.in-Line.size-test.1)))
    c.read_data.ensures.turn

pub returns-in-Fault-clause-turn : goal.returns-in-Fault-clause-turn
returns-in-Fault-clause-turn g c = fault_then (turn_of c.args.content.now.items) line_of part_line _ _ _ c.in-Fault.ensures.line
