use Rattle.std.proofs.Common.{◌≡◌, ℕ, Some, List, ◌∙◌, sym, ap, refl, subst}
use Rattle.std.specs.Prelude.{min, slice_set}
use Rattle.std.proofs.lemmas.List.{take-set}
use Rattle.feature_versions.specs.declared.rows.Row.{Row}
use Rattle.feature_versions.specs.Rows.{AreGone, AreRows, live}
use Rattle.feature_versions.proofs.Placing.{IsFirst}
use Rattle.feature_versions.proofs.Fronts.{gone_inserted, gone_set}
use Rattle.feature_versions.proofs.Standing.{found_row, found_nowhere, laid_there, laid_new}
use Rattle.feature_versions.proofs.rows.put.Goals as goal

-- what the search for the place says, of the rows themselves
abbrev place_in : (rows seen : List Row) (number place : ℕ) → seen ≡ rows → IsFirst number seen place → IsFirst number rows place
place_in rows seen number place is first = subst (λ (l : List Row). IsFirst number l place) is first

pub returns-then-is_at-clause-was : goal.returns-then-is_at-clause-was
returns-then-is_at-clause-was c =
    let first = place_in c.args.rows.now.items _ c.args.feature.id.number c.place_of-place.result c.as_slice.ensures.value (c.place_of-place.ensures.bound, c.place_of-place.ensures.low, c.place_of-place.ensures.high) in
    let has = rw c.as_slice-2.ensures.value at (sym c.is_at.ensures.value ∙ c.if-is_at.true) in
    let row = c.replace.result in
    found_row c.args.rows.now.items c.args.feature.id c.place_of-place.result row c.requires.rows first has (rw c.replace.ensures.value c.index_mut.ensures.value)

pub returns-then-is_at-clause-items : goal.returns-then-is_at-clause-items
returns-then-is_at-clause-items c =
    let first = place_in c.args.rows.now.items _ c.args.feature.id.number c.place_of-place.result c.as_slice.ensures.value (c.place_of-place.ensures.bound, c.place_of-place.ensures.low, c.place_of-place.ensures.high) in
    let has = rw c.as_slice-2.ensures.value at (sym c.is_at.ensures.value ∙ c.if-is_at.true) in
    ap (λ (row : Row). live (slice_set c.args.rows.now.items c.place_of-place.result row)) c.replace.ensures.after
    ∙ (laid_there c.args.rows.now.items c.args.feature.id c.place_of-place.result (Some c.args.feature) c.requires.rows first has refl).items

pub returns-then-is_at-clause-rows : goal.returns-then-is_at-clause-rows
returns-then-is_at-clause-rows c =
    let first = place_in c.args.rows.now.items _ c.args.feature.id.number c.place_of-place.result c.as_slice.ensures.value (c.place_of-place.ensures.bound, c.place_of-place.ensures.low, c.place_of-place.ensures.high) in
    let has = rw c.as_slice-2.ensures.value at (sym c.is_at.ensures.value ∙ c.if-is_at.true) in
    subst (λ (row : Row). AreRows c.args.feature.id.kind (slice_set c.args.rows.now.items c.place_of-place.result row)) (sym c.replace.ensures.after)
    (laid_there c.args.rows.now.items c.args.feature.id c.place_of-place.result (Some c.args.feature) c.requires.rows first has refl).rows

pub returns-then-is_at-clause-gone : goal.returns-then-is_at-clause-gone
returns-then-is_at-clause-gone c n gone =
    let place = c.place_of-place.result in
    subst (λ (row : Row). AreGone (min n place) (slice_set c.args.rows.now.items place row)) (sym c.replace.ensures.after)
    (gone_set c.args.rows.now.items n place (record { number = c.args.feature.id.number; feature = Some c.args.feature }) (take-set c.args.rows.now.items place (record { number = c.args.feature.id.number; feature = Some c.args.feature })) gone)

pub returns-clause-was : goal.returns-clause-was
returns-clause-was c =
    let first = place_in c.args.rows.now.items _ c.args.feature.id.number c.place_of-place.result c.as_slice.ensures.value (c.place_of-place.ensures.bound, c.place_of-place.ensures.low, c.place_of-place.ensures.high) in
    let has = rw c.as_slice-2.ensures.value at (sym c.is_at.ensures.value ∙ c.if-is_at.false) in
    sym (found_nowhere c.args.rows.now.items c.args.feature.id c.place_of-place.result c.requires.rows first has)

pub returns-clause-items : goal.returns-clause-items
returns-clause-items c =
    let first = place_in c.args.rows.now.items _ c.args.feature.id.number c.place_of-place.result c.as_slice.ensures.value (c.place_of-place.ensures.bound, c.place_of-place.ensures.low, c.place_of-place.ensures.high) in
    let has = rw c.as_slice-2.ensures.value at (sym c.is_at.ensures.value ∙ c.if-is_at.false) in
    ap live c.in-Ok.ensures.items ∙ (laid_new c.args.rows.now.items c.args.feature.id c.place_of-place.result (Some c.args.feature) c.requires.rows first has refl).items

pub returns-clause-rows : goal.returns-clause-rows
returns-clause-rows c =
    let first = place_in c.args.rows.now.items _ c.args.feature.id.number c.place_of-place.result c.as_slice.ensures.value (c.place_of-place.ensures.bound, c.place_of-place.ensures.low, c.place_of-place.ensures.high) in
    let has = rw c.as_slice-2.ensures.value at (sym c.is_at.ensures.value ∙ c.if-is_at.false) in
    subst (AreRows c.args.feature.id.kind) (sym c.in-Ok.ensures.items) (laid_new c.args.rows.now.items c.args.feature.id c.place_of-place.result (Some c.args.feature) c.requires.rows first has refl).rows

pub returns-clause-gone : goal.returns-clause-gone
returns-clause-gone c n gone =
    let place = c.place_of-place.result in
    let first = place_in c.args.rows.now.items _ c.args.feature.id.number place c.as_slice.ensures.value (c.place_of-place.ensures.bound, c.place_of-place.ensures.low, c.place_of-place.ensures.high) in
    subst (AreGone (min n place)) (sym c.in-Ok.ensures.items) (gone_inserted c.args.rows.now.items n place (record { number = c.args.feature.id.number; feature = Some c.args.feature }) first.0 gone)
