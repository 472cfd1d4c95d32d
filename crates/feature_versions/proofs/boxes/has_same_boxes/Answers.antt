use Rattle.std.proofs.Common.{◌≡◌, ◌<◌, true, length, subst, arith, rules}
use Rattle.std.proofs.lemmas.List.Elements.{All-more}
use Rattle.feature_versions.specs.Placed.{IsBoxedIn}
use Rattle.feature_versions.proofs.Boxing.{same_step}
use Rattle.feature_versions.proofs.boxes.has_same_boxes.Goals as goal

pub loop-i-preserved : goal.loop-i-preserved
loop-i-preserved c =
    let yes : c.is_same_box.result ≡ true = search rules in
    let there : c.loop-i.i < length c.items-news.result.now = omega arith in
    let here : c.loop-i.i < length c.items-olds.result.now = omega arith in
    record {
      same = same_step c.items-olds.result.now c.items-news.result.now c.loop-i.i c.index-olds-i.result c.index-news-i.result here there c.index-olds-i.is c.index-news-i.is c.loop-i.invariant.same (c.is_same_box.ensures.same yes);
      boxed = All-more IsBoxedIn c.items-news.result.now c.loop-i.i c.index-news-i.result there c.loop-i.invariant.boxed (subst IsBoxedIn c.index-news-i.is (c.is_same_box.ensures.boxed yes));
    }
