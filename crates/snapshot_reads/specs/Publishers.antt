-- What a publisher was given and has published, and what its next call asks.
use Rattle.std.specs.Prelude.{◌≡◌, List, Option, IsSome, IsNone}
use Rattle.std.specs.Option.{option_to_list}
use Rattle.feature_versions.specs.Holding.{Holding}
use Rattle.wfs_model.specs.declared.change.Change.{Change}
use Rattle.wfs_model.specs.Played.{played}
use Rattle.snapshot_reads.specs.declared.book.Pair.{Pair}
use Rattle.snapshot_reads.specs.declared.publisher.Publisher.{Publisher}
use Rattle.snapshot_reads.specs.Content.{Content, no_content}
use Rattle.snapshot_reads.specs.Pairs.{pair}
use Rattle.snapshot_reads.specs.Rules.{pair_of}
use Rattle.snapshot_reads.specs.Whole.{of_some}

-- the pairs that it was given, each at its front
abbrev pub given_of : Publisher → List Pair
given_of p = p.seen.log

-- the pair that is published
abbrev pub shown_of : Publisher → Pair
shown_of p = of_some p.writer (pair 0 no_content) (λ w. pair_of w.desk.shown.value)

-- it has a second copy of what is published, which may lack the last change, and to which the next one goes
abbrev pub IsAbreast : Publisher → Type 0
IsAbreast p = IsSome p.other

-- it has no second copy, and will publish a whole one
abbrev pub IsBehind : Publisher → Type 0
IsBehind p = IsNone p.other

-- the features are what a change makes of what was published; with no change they are the same
abbrev pub Follows : Option Change → Content → Holding → Type 0
Follows change before now = now.kept ≡ played before.kept (option_to_list change)
