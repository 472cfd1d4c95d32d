use Rattle.query_core.proofs.Near.{asked_none, asked_more, asked_falls, asked_whole, asked_few}
use Rattle.query_core.proofs.nearing.near_of_all.Goals as goal

pub loop-feature-smaller : goal.loop-feature-smaller
loop-feature-smaller g c =
    rw c.end_of-after.ensures.place
    (asked_falls (λ k. g.V.FeatureView.most_near c.args.view.now k c.args.area.now) (g.V.FeatureView.schema c.args.view.now) c.args.area.now (g.V.FeatureView.features c.args.view.now) c.in-Some.ensures.view c.loop-feature.ids.items c.loop-feature.after c.loop-feature.invariant c.in-Some.feature.now c.in-Some.ensures.value c.end_of-after.ensures.within)

pub loop-feature-preserved : goal.loop-feature-preserved
loop-feature-preserved g c =
    rw (c.end_of-after.ensures.place, c.in_ok-extend_from_slice.ensures.items, c.items.ensures)
    (asked_more (λ k. g.V.FeatureView.most_near c.args.view.now k c.args.area.now) (g.V.FeatureView.schema c.args.view.now) c.args.area.now (g.V.FeatureView.features c.args.view.now) c.in-Some.ensures.view c.loop-feature.ids.items c.loop-feature.after c.loop-feature.invariant c.in-Some.feature.now c.in_ok-near.near c.in-Some.ensures.value c.end_of-after.ensures.within c.in_ok-near.ensures.whole c.in_ok-near.ensures.few)

pub returns-clause-whole : goal.returns-clause-whole
returns-clause-whole g c =
    asked_whole (λ k. g.V.FeatureView.most_near c.args.view.now k c.args.area.now) (g.V.FeatureView.schema c.args.view.now) c.args.area.now (g.V.FeatureView.features c.args.view.now) c.in_default.ensures.view c.loop-feature.ids.items c.loop-feature.after c.loop-feature.invariant c.in_default.ensures.value

pub returns-clause-few : goal.returns-clause-few
returns-clause-few g c =
    asked_few (λ k. g.V.FeatureView.most_near c.args.view.now k c.args.area.now) (g.V.FeatureView.schema c.args.view.now) c.args.area.now (g.V.FeatureView.features c.args.view.now) c.in_default.ensures.view c.loop-feature.ids.items c.loop-feature.after c.loop-feature.invariant
