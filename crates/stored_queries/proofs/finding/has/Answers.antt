use Rattle.std.proofs.Common.{◌≡◌, rules, ◌∙◌}
use Rattle.std.specs.Ordering.{nat_cmp}
use Rattle.std.specs.Cmp.Lexicographic.{slice_cmp}
use Rattle.std.proofs.lemmas.Fn.{always_returns_same}
use Rattle.stored_queries.proofs.Found.{search_tells}
use Rattle.stored_queries.proofs.finding.has.Goals as goal

pub returns : goal.returns
returns c =
    let text = c.args.text.now in
    let compares = always_returns_same _ (λ a r. r ≡ slice_cmp nat_cmp a.0.now text) _ (λ a r f' k. search rules) in
    c.is_ok.ensures.value ∙ search_tells c.args.sorted.now c.args.text.now c.binary_search_by.result c.requires c.binary_search_by.ensures.bound (c.binary_search_by.ensures.position (λ other. slice_cmp nat_cmp other text) compares)
