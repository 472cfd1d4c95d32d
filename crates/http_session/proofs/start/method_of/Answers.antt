use Rattle.std.proofs.Common.{refl}
use Rattle.http_session.proofs.Tokens.{token_is_method}
use Rattle.http_session.proofs.start.method_of.Goals as goal

pub unreachable-requires : goal.unreachable-requires
unreachable-requires c =
    let refused = c.from_bytes.ensures.invalid.0 (rw (c.in-Err-Invalid.is, c.in-Err-Invalid.field-0-is) refl) in
    refused (token_is_method c.args.bytes.now c.requires)
