use Rattle.http_session.proofs.FieldReads.{nothing_found, found_goes_on, no_header}
use Rattle.http_session.proofs.fields.find_named.Goals as goal

pub loop-header-init : goal.loop-header-init
loop-header-init c = nothing_found c.args.name.now

pub loop-header-preserved : goal.loop-header-preserved
loop-header-preserved c =
    found_goes_on c.args.name.now c.args.bytes.now c.args.headers.now c.loop-header.header-index no_header _ _ c.loop-header-test.true c.loop-header.invariant c.with_field-found.ensures
