use Rattle.std.proofs.Common.{◌≡◌, ℕ, ◌+◌, List, Option, Some, length, ◌∙◌, sym, ap, subst, arith}
use Rattle.std.specs.Prelude.{min}
use Rattle.std.specs.Option.{option_to_list}
use Rattle.feature_values.specs.declared.feature.Feature.{Feature}
use Rattle.feature_versions.specs.Rows.{live, AreGone, AreRows}
use Rattle.feature_versions.specs.Placed.{HasSameBoxes}
use Rattle.fes_filter.specs.View.{feature_at}
use Rattle.feature_versions.specs.declared.rows.Row.{Row}
use Rattle.feature_versions.proofs.Laying.{grid_added, grid_turned, grid_same, layer_laid, same_places, one_boxed, live_short}
use Rattle.feature_versions.proofs.layer.Layer.put.Goals as goal

swapped : (a b : ℕ) → min a b ≡ min b a
swapped a b = omega arith

pub invariant_of-self : goal.invariant_of-self
invariant_of-self c =
    let f = c.args.feature in
    let rows = c.self.inside.rows.items in
    let kind : f.id.kind ≡ c.self.inside.kind = c.requires.kind ∙ sym (ap (λ l. l.kind) c.self.view_is) in
    let same = same_places f (live rows) (subst (λ (rs : List Row). HasSameBoxes (feature_at f.id (live rs)) f) c.as_slice.ensures.value (c.is_placed.ensures.same c.if-is_placed.true)) in
    let holds = grid_same c.self.inside.kind rows c.put-place.new.rows.items c.self.inside.grid f.id (Some f) c.self.invariant.layer.are c.put-place.ensures.items same.weights c.self.invariant.layer.boxes in
    let one = same.one in
    let layer = layer_laid c.self.inside.kind rows c.put-place.new.rows.items c.self.inside.count c.self.inside.count c.self.inside.grid c.self.inside.grid f.id (Some f)
    c.self.invariant.layer c.put-place.ensures.items (subst (λ (k : ℕ). AreRows k c.put-place.new.rows.items) kind c.put-place.ensures.rows) (one_boxed f (c.is_placed.ensures.boxed c.if-is_placed.true)) holds (omega (arith, one)) in
    record { layer = layer; gone = rw c.min-self-inside.ensures (subst (λ (n : ℕ). AreGone n c.put-place.new.rows.items) (swapped c.self.inside.first c.put-place.result.1) (c.put-place.ensures.gone c.self.inside.first c.self.invariant.gone)) }

pub invariant_of-self-in-Some : goal.invariant_of-self-in-Some
invariant_of-self-in-Some c =
    let f = c.args.feature in
    let rows = c.self.inside.rows.items in
    let kind : f.id.kind ≡ c.self.inside.kind = c.requires.kind ∙ sym (ap (λ l. l.kind) c.self.view_is) in
    let found = sym c.put-old.ensures.was ∙ c.in-Some.is in
    let holds = grid_turned c.self.inside.kind rows c.put-old.new.rows.items c.self.inside.grid c.place.new.grid c.displace.new.grid f c.in-Some.old c.self.invariant.layer.are c.put-old.ensures.items found c.self.invariant.layer.boxes c.place.ensures.pairs c.displace.ensures.pairs in
    let layer = layer_laid c.self.inside.kind rows c.put-old.new.rows.items c.self.inside.count c.self.inside.count c.self.inside.grid c.displace.new.grid f.id (Some f)
    c.self.invariant.layer c.put-old.ensures.items (subst (λ (k : ℕ). AreRows k c.put-old.new.rows.items) kind c.put-old.ensures.rows) (one_boxed f c.place.ensures.boxed) holds
    (ap (λ (o : Option Feature). c.self.inside.count + length (option_to_list o)) found) in
    record { layer = layer; gone = rw c.min-self-inside-2.ensures (c.put-old.ensures.gone c.self.inside.first c.self.invariant.gone) }

pub overflow_add-self : goal.overflow_add-self
overflow_add-self c = omega (arith, c.self.invariant.layer.counted, live_short c.self.inside.rows.items)

pub invariant_of-self-in-None : goal.invariant_of-self-in-None
invariant_of-self-in-None c =
    let f = c.args.feature in
    let rows = c.self.inside.rows.items in
    let kind : f.id.kind ≡ c.self.inside.kind = c.requires.kind ∙ sym (ap (λ l. l.kind) c.self.view_is) in
    let none = sym c.put-old.ensures.was ∙ c.in-None.is in
    let holds = grid_added c.self.inside.kind rows c.put-old.new.rows.items c.self.inside.grid c.place.new.grid f c.self.invariant.layer.are c.put-old.ensures.items none c.self.invariant.layer.boxes c.place.ensures.pairs in
    let layer = layer_laid c.self.inside.kind rows c.put-old.new.rows.items c.self.inside.count (c.self.inside.count + 1) c.self.inside.grid c.place.new.grid f.id (Some f)
    c.self.invariant.layer c.put-old.ensures.items (subst (λ (k : ℕ). AreRows k c.put-old.new.rows.items) kind c.put-old.ensures.rows) (one_boxed f c.place.ensures.boxed) holds
    (let no_one = ap (λ (o : Option Feature). length (option_to_list o)) none in omega (arith, no_one)) in
    record { layer = layer; gone = rw c.min-self-inside-2.ensures (c.put-old.ensures.gone c.self.inside.first c.self.invariant.gone) }
