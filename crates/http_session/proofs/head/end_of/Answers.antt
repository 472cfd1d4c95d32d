use Rattle.http_session.proofs.Cuts.{all_lines, not_all_lines}
use Rattle.http_session.specs.Cuts.{is_line_byte}
use Rattle.http_session.proofs.head.end_of.Goals as goal

pub returns-then-is_empty : goal.returns-then-is_empty
returns-then-is_empty c = (c.requires.open, c.requires.within, all_lines is_line_byte _ _ _ c.split_run.ensures c.if-is_empty.ensures)

pub returns-else-is_empty : goal.returns-else-is_empty
returns-else-is_empty c = (c.requires.open, c.requires.within, not_all_lines is_line_byte _ _ _ c.split_run.ensures c.if-is_empty.ensures)
