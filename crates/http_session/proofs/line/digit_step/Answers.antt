use Rattle.std.proofs.Common.{arith}
use Rattle.http_session.proofs.Sizes.{size_fits}
use Rattle.http_session.proofs.line.digit_step.Goals as goal

pub overflow_mul-size : goal.overflow_mul-size
overflow_mul-size c = let p = size_fits c.args.count c.args.size 0 c.requires.state.0 c.if-count-eq16.false c.requires.state.1 (omega arith) in grind arith

pub overflow_add-size : goal.overflow_add-size
overflow_add-size c = let p = size_fits c.args.count c.args.size c.hex_value.result c.requires.state.0 c.if-count-eq16.false c.requires.state.1 c.hex_value.ensures.bound in grind arith
