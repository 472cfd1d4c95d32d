use Rattle.std.proofs.Common.{sym, ◌∙◌}
use Rattle.stored_queries.proofs.Found.{listed_by}
use Rattle.stored_queries.proofs.describing.is_listed.Goals as goal

pub returns-then-has : goal.returns-then-has
returns-then-has c =
    let listed = listed_by c.args.ids.now c.args.sorted.now c.args.query.now c.requires.same in
    let among = sym (rw c.as_str-own.ensures.value at c.has.ensures) ∙ c.if-has.true in
    c.if-has.true ∙ rw among at listed

pub returns-then-eq : goal.returns-then-eq
returns-then-eq c =
    let listed = listed_by c.args.ids.now c.args.sorted.now c.args.query.now c.requires.same in
    let among = sym (rw c.as_str-own.ensures.value at c.has.ensures) ∙ c.if-has.false in
    let built_in = sym (rw c.as_str-own.ensures.value at c.eq.ensures) ∙ c.if-eq.true in
    c.has_id_query.ensures ∙ rw (among, built_in) at listed

pub returns-else-eq : goal.returns-else-eq
returns-else-eq c =
    let listed = listed_by c.args.ids.now c.args.sorted.now c.args.query.now c.requires.same in
    let among = sym (rw c.as_str-own.ensures.value at c.has.ensures) ∙ c.if-has.false in
    let built_in = sym (rw c.as_str-own.ensures.value at c.eq.ensures) ∙ c.if-eq.false in
    c.if-eq.false ∙ rw (among, built_in) at listed
