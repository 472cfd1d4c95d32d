use Rattle.http_session.proofs.Spots.{byte_moves, fault_held}
use Rattle.http_session.proofs.spot.next_byte.Goals as goal

pub returns-clause-byte : goal.returns-clause-byte
returns-clause-byte g c = byte_moves c.args.allowed.now c.bytes.result.now c.hold_byte.new.buffer c.skip.new.self _ _ c.if-allowed-eq0.false c.in-More.ensures.held c.bytes.ensures.value c.skip.ensures c.hold_byte.ensures.moved.same

pub returns-in-Fault-clause-byte : goal.returns-in-Fault-clause-byte
returns-in-Fault-clause-byte g c = fault_held _ _ _ _ c.hold_byte.ensures.moved c.in-Fault.ensures.held.0 c.in-Fault.ensures.held.1
