use Rattle.std.proofs.Common.{◌≡◌, ℕ, None, List, ◌∙◌, sym, ap, subst}
use Rattle.std.specs.Prelude.{slice_set}
use Rattle.feature_versions.specs.declared.rows.Row.{Row}
use Rattle.feature_versions.specs.Rows.{AreGone, AreRows, live}
use Rattle.feature_versions.proofs.Placing.{IsFirst}
use Rattle.feature_versions.proofs.Fronts.{gone_without}
use Rattle.feature_versions.proofs.Standing.{found_row, found_nowhere, laid_there, laid_nowhere}
use Rattle.feature_versions.proofs.rows.take_out.Goals as goal

-- what the search for the place says, of the rows themselves
abbrev place_in : (rows seen : List Row) (number place : ℕ) → seen ≡ rows → IsFirst number seen place → IsFirst number rows place
place_in rows seen number place is first = subst (λ (l : List Row). IsFirst number l place) is first

pub returns-then-not-is_at-clause-was : goal.returns-then-not-is_at-clause-was
returns-then-not-is_at-clause-was c =
    let first = place_in c.args.rows.now.items _ c.args.id.number c.place_of-place.result c.as_slice.ensures.value (c.place_of-place.ensures.bound, c.place_of-place.ensures.low, c.place_of-place.ensures.high) in
    let has = rw c.as_slice-2.ensures.value at (sym c.is_at.ensures.value ∙ c.if-not-is_at.true) in
    sym (found_nowhere c.args.rows.now.items c.args.id c.place_of-place.result c.requires first has)

pub returns-then-not-is_at-clause-items : goal.returns-then-not-is_at-clause-items
returns-then-not-is_at-clause-items c =
    let first = place_in c.args.rows.now.items _ c.args.id.number c.place_of-place.result c.as_slice.ensures.value (c.place_of-place.ensures.bound, c.place_of-place.ensures.low, c.place_of-place.ensures.high) in
    let has = rw c.as_slice-2.ensures.value at (sym c.is_at.ensures.value ∙ c.if-not-is_at.true) in
    laid_nowhere c.args.rows.now.items c.args.id c.place_of-place.result c.requires first has

pub returns-clause-was : goal.returns-clause-was
returns-clause-was c =
    let first = place_in c.args.rows.now.items _ c.args.id.number c.place_of-place.result c.as_slice.ensures.value (c.place_of-place.ensures.bound, c.place_of-place.ensures.low, c.place_of-place.ensures.high) in
    let has = rw c.as_slice-2.ensures.value at (sym c.is_at.ensures.value ∙ c.if-not-is_at.false) in
    let row = c.replace.result in
    found_row c.args.rows.now.items c.args.id c.place_of-place.result row c.requires first has (rw c.replace.ensures.value c.index_mut.ensures.value)

pub returns-clause-items : goal.returns-clause-items
returns-clause-items c =
    let first = place_in c.args.rows.now.items _ c.args.id.number c.place_of-place.result c.as_slice.ensures.value (c.place_of-place.ensures.bound, c.place_of-place.ensures.low, c.place_of-place.ensures.high) in
    let has = rw c.as_slice-2.ensures.value at (sym c.is_at.ensures.value ∙ c.if-not-is_at.false) in
    ap (λ (row : Row). live (slice_set c.args.rows.now.items c.place_of-place.result row)) c.replace.ensures.after
    ∙ (laid_there c.args.rows.now.items c.args.id c.place_of-place.result None c.requires first has tt).items

pub returns-clause-rows : goal.returns-clause-rows
returns-clause-rows c =
    let first = place_in c.args.rows.now.items _ c.args.id.number c.place_of-place.result c.as_slice.ensures.value (c.place_of-place.ensures.bound, c.place_of-place.ensures.low, c.place_of-place.ensures.high) in
    let has = rw c.as_slice-2.ensures.value at (sym c.is_at.ensures.value ∙ c.if-not-is_at.false) in
    subst (λ (row : Row). AreRows c.args.id.kind (slice_set c.args.rows.now.items c.place_of-place.result row)) (sym c.replace.ensures.after)
    (laid_there c.args.rows.now.items c.args.id c.place_of-place.result None c.requires first has tt).rows

pub returns-clause-gone : goal.returns-clause-gone
returns-clause-gone c n gone =
    subst (λ (row : Row). AreGone n (slice_set c.args.rows.now.items c.place_of-place.result row)) (sym c.replace.ensures.after)
    (gone_without c.args.rows.now.items n c.place_of-place.result c.args.id.number gone)
