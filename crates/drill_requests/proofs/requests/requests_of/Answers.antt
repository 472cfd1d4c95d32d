use Rattle.std.proofs.Common.{rules, ◌≡◌, List, sym, subst, arith}
use Rattle.std.specs.Prelude.{All}
use Rattle.std.proofs.lemmas.Grind.{common_steps}
use Rattle.wfs_model.specs.declared.request.Request.{Request}
use Rattle.drill_requests.specs.Fitting.{IsOneOf}
use Rattle.drill_requests.specs.Requests.{requests_of}
use Rattle.drill_requests.proofs.Fitting.{all_are}
use Rattle.drill_requests.proofs.requests.requests_of.Goals as goal

pub returns-clause-fitting : goal.returns-clause-fitting
returns-clause-fitting c =
    let are : c.if-round-eq3.requests.items ≡ requests_of c.args.schema.now c.args.round = first_of (search rules, grind (arith, common_steps)) in
    subst (λ (rs : List Request). All (IsOneOf c.args.schema.now) rs) (sym are) (all_are c.args.schema.now c.requires.rules c.args.round c.requires.kind)
