use Rattle.std.proofs.Common.{◌≡◌, ◌∷◌, length, sym, subst}
use Rattle.disk_core.specs.Disk.{over, Torn}
use Rattle.disk_core.specs.Story.{read_after, read_after_all, Left, LeftAll, Image}
use Rattle.disk_core.specs.Story.Step.{wrote}
use Rattle.disk_core.specs.StoryLaws.{torn_all}
use Rattle.disk_core.proofs.Crashes.{left_append, lost}
use Rattle.disk_core.proofs.laws.any_bytes_in_the_range.Goals as goal

pub returns : goal.returns
unfolding LeftAll
returns c base old any bytes before after at all image le size =
    let s = read_after_all base before in
    let torn : Torn at (length bytes) old (over at any old) = subst (λ n. Torn at n old (over at any old)) size (torn_all at any old le) in
    let behind : LeftAll (Image base before) s (wrote at bytes ∷ after) (over at any old) = lost (Left (Image base before) s (wrote at bytes)) (read_after s (wrote at bytes)) after (over at any old) all (old, image, torn) in
    subst (λ (T : Type 0). T) (sym (left_append (λ d. d ≡ base) base before (wrote at bytes ∷ after) (over at any old))) behind
