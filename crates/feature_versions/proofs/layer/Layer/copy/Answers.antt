use Rattle.std.proofs.Common.{◌≡◌, ℕ, List, ◌++◌, length, ap, sym, ◌∙◌, subst, arith}
use Rattle.std.specs.List.{sum_by}
use Rattle.feature_values.specs.declared.feature.Feature.{Feature}
use Rattle.grid_index.specs.Places.{Place, taking}
use Rattle.feature_versions.specs.declared.rows.Row.{Row}
use Rattle.feature_versions.specs.Placed.{taken_by}
use Rattle.feature_versions.specs.Rows.{live_in, live, AreRows}
use Rattle.feature_versions.proofs.Between.{AllBefore}
use Rattle.feature_versions.proofs.Copying.{live_step, rows_rest, places_rest, before_at, boxes_sum}
use Rattle.feature_versions.proofs.layer.Layer.copy.Goals as goal

pub loop-row-init : goal.loop-row-init
loop-row-init c =
    let rows = c.as_slice-rows.ensures.value in
    let all : length (live c.as_slice-rows.result.now) ≡ length (live c.self.inside.rows.items) = ap (λ (rs : List Row). length (live rs)) rows in
    let boxes : (place : Place) → sum_by (taking place) c.in_ok-all_boxes.field-0 ≡ sum_by (taken_by place) (live c.as_slice-rows.result.now) = λ place. ap (sum_by (taking place)) c.in_ok-all_boxes.ensures ∙ boxes_sum place (live c.as_slice-rows.result.now) in
    record {
      kind = c.in_ok-reserve.ensures.same.kind ∙ c.new-layer.ensures.kind ∙ ap (λ l. l.kind) c.self.view_is;
      features = c.in_ok-reserve.ensures.same.features ∙ c.new-layer.ensures.features;
      rows = omega (arith, all, c.self.invariant.layer.counted, c.in_ok-reserve.ensures.rows);
      places = λ place. (let all = boxes place in let has = c.in_ok-reserve.ensures.places place in omega (arith, all, has));
    }

pub put_copy-requires-clause-last : goal.put_copy-requires-clause-last
put_copy-requires-clause-last c =
    let are : AreRows c.self.inside.kind c.as_slice-rows.result.now = subst (AreRows c.self.inside.kind) (sym c.as_slice-rows.ensures.value) c.self.invariant.layer.are in
    let kind : c.self.inside.kind ≡ c.loop-row.layer.kind = ap (λ l. l.kind) c.self.view_is ∙ sym c.loop-row.invariant.kind in
    let before = before_at c.as_slice-rows.result.now c.loop-row.row-index c.row-item.result c.loop-row-test.true c.row-item.is c.self.inside.kind are in
    subst (λ (k : ℕ). AllBefore (record { kind = k; number = c.row-item.result.number }) c.loop-row.layer.features) kind
    (subst (λ (fs : List Feature). AllBefore (record { kind = c.self.inside.kind; number = c.row-item.result.number }) fs) (sym c.loop-row.invariant.features) before)

pub put_copy-requires-clause-places : goal.put_copy-requires-clause-places
put_copy-requires-clause-places c = λ place.
    let all = c.loop-row.invariant.places place in
    let rest = places_rest c.as_slice-rows.result.now c.loop-row.row-index c.row-item.result c.loop-row-test.true c.row-item.is place in
    omega (arith, all, rest)

pub loop-row-preserved : goal.loop-row-preserved
loop-row-preserved c =
    let rows = c.as_slice-rows.result.now in
    let i = c.loop-row.row-index in
    let row = c.row-item.result in
    record {
      kind = c.put_copy.ensures.kind ∙ c.loop-row.invariant.kind;
      features = c.in_ok-put_copy.ensures.features ∙ ap (λ (fs : List Feature). fs ++ live_in row) c.loop-row.invariant.features ∙ sym (live_step rows i row c.loop-row-test.true c.row-item.is);
      rows = omega (arith, rows_rest rows i row c.loop-row-test.true c.row-item.is, c.loop-row.invariant.rows, c.in_ok-put_copy.ensures.rows);
      places = λ place. (
          let rest = places_rest rows i row c.loop-row-test.true c.row-item.is place in
          let all = c.loop-row.invariant.places place in
          let one = c.in_ok-put_copy.ensures.places place in
          omega (arith, rest, all, one)
          );
    }
