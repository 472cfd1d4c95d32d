use Rattle.std.proofs.Common.{◌≡◌, ℕ, ◌-◌, Option, Some, None, List, ◌++◌, length, ◌∙◌, refl, sym, ap, subst, arith}
use Rattle.std.specs.Option.{option_to_list}
use Rattle.std.proofs.lemmas.List.Elements.{All-nil}
use Rattle.feature_values.specs.declared.feature.Feature.{Feature}
use Rattle.feature_values.specs.declared.feature.Rid.{Rid}
use Rattle.fes_filter.specs.View.{feature_at}
use Rattle.feature_overlay.specs.Laid.{laid}
use Rattle.grid_index.specs.Gridded.{Gridded, pairs_at, IsGridOf}
use Rattle.grid_index.specs.Near.{Placed}
use Rattle.feature_versions.specs.declared.rows.Row.{Row}
use Rattle.feature_versions.specs.Rows.{live, AreGone, AreRows}
use Rattle.feature_versions.specs.Placed.{placed_in, AreBoxed}
use Rattle.feature_versions.specs.Layer.{IsLayer}
use Rattle.feature_versions.proofs.Totals.{of_one}
use Rattle.feature_versions.proofs.Laying.{weight, grid_left, grid_same, layer_laid, layer_swept, some_left}
use Rattle.feature_versions.proofs.layer.Layer.remove.Goals as goal

-- a feature is taken out of the rows and of the grid
taken : (kind : ℕ) (rows new : List Row) (count : ℕ) (grid after : Gridded) (id : Rid) (old : Feature) → IsLayer kind rows count grid → feature_at id (live rows) ≡ Some old
    → live new ≡ laid (live rows) id None → AreRows kind new → ((pairs : List Placed) → IsGridOf (pairs_at grid) (placed_in old ++ pairs) → IsGridOf (pairs_at after) pairs) → IsLayer kind new (count - 1) after
taken kind rows new count grid after id old layer found is are out =
    layer_laid kind rows new count (count - 1) grid after id None layer is are (All-nil AreBoxed) (grid_left kind rows new grid after id old layer.are is found layer.boxes out)
    (let one = ap (λ (o : Option Feature). length (option_to_list o)) found in let some = some_left kind rows count grid id old layer found in omega (arith, one, some))

-- nothing was there
untaken : (kind : ℕ) (rows new : List Row) (count : ℕ) (grid : Gridded) (id : Rid) → IsLayer kind rows count grid → feature_at id (live rows) ≡ None → live new ≡ laid (live rows) id None → AreRows kind new → IsLayer kind new count grid
untaken kind rows new count grid id layer none is are =
    layer_laid kind rows new count count grid grid id None layer is are (All-nil AreBoxed) (grid_same kind rows new grid id None layer.are is (λ p. ap (of_one (weight p)) none) layer.boxes)
    (let no_one = ap (λ (o : Option Feature). length (option_to_list o)) none in omega (arith, no_one))

pub invariant_of-self : goal.invariant_of-self
invariant_of-self c =
    let kind : c.args.id.kind ≡ c.self.inside.kind = c.requires ∙ sym (ap (λ l. l.kind) c.self.view_is) in
    let out = taken c.self.inside.kind c.self.inside.rows.items c.take_out.new.rows.items c.self.inside.count c.self.inside.grid c.displace.new.grid c.args.id c.in-Some.old c.self.invariant.layer (sym c.take_out.ensures.was ∙ c.in-Some.is)
    c.take_out.ensures.items (subst (λ (k : ℕ). AreRows k c.take_out.new.rows.items) kind c.take_out.ensures.rows) c.displace.ensures.pairs in
    record {
      layer = layer_swept c.self.inside.kind c.take_out.new.rows.items c.sweep.new.rows.items (c.self.inside.count - 1) c.displace.new.grid out c.sweep.ensures.items (c.sweep.ensures.rows c.self.inside.kind out.are);
      gone = refl;
    }

pub invariant_of-self-else-self-len : goal.invariant_of-self-else-self-len
invariant_of-self-else-self-len c =
    let kind : c.args.id.kind ≡ c.self.inside.kind = c.requires ∙ sym (ap (λ l. l.kind) c.self.view_is) in
    let out = taken c.self.inside.kind c.self.inside.rows.items c.take_out.new.rows.items c.self.inside.count c.self.inside.grid c.displace.new.grid c.args.id c.in-Some.old c.self.invariant.layer (sym c.take_out.ensures.was ∙ c.in-Some.is)
    c.take_out.ensures.items (subst (λ (k : ℕ). AreRows k c.take_out.new.rows.items) kind c.take_out.ensures.rows) c.displace.ensures.pairs in
    let gone : AreGone c.self.inside.first c.as_slice.result.now = rw c.as_slice.ensures.value (c.take_out.ensures.gone c.self.inside.first c.self.invariant.gone) in
    record { layer = out; gone = rw c.as_slice.ensures.value at (c.first_live-self-inside.ensures gone) }

pub invariant_of-self-in_default : goal.invariant_of-self-in_default
invariant_of-self-in_default c =
    let kind : c.args.id.kind ≡ c.self.inside.kind = c.requires ∙ sym (ap (λ l. l.kind) c.self.view_is) in
    record {
      layer = untaken c.self.inside.kind c.self.inside.rows.items c.take_out.new.rows.items c.self.inside.count c.self.inside.grid c.args.id c.self.invariant.layer (sym c.take_out.ensures.was ∙ c.in_default.is)
          c.take_out.ensures.items (subst (λ (k : ℕ). AreRows k c.take_out.new.rows.items) kind c.take_out.ensures.rows);
      gone = c.take_out.ensures.gone c.self.inside.first c.self.invariant.gone;
    }
