-- What a publisher keeps between two calls.
use Rattle.std.specs.Prelude.{◌≡◌, ◌≤◌, ◌<◌, List, [], length, Option, Some, None, All}
use Rattle.std.specs.List.{fold}
use Rattle.logbook.specs.Pages.{Book}
use Rattle.snapshot_reads.specs.declared.book.Pair.{Pair}
use Rattle.snapshot_reads.specs.declared.other.Other.{Other}
use Rattle.snapshot_reads.specs.declared.other.Other.TheVariants.{Same, Late}
use Rattle.snapshot_reads.specs.declared.rule.Knows.{Knows}
use Rattle.snapshot_reads.specs.declared.shown.Shown.{Shown}
use Rattle.snapshot_reads.specs.Content.{Content, content_of, with_change}
use Rattle.snapshot_reads.specs.Pairs.{schema_in, Stands}
use Rattle.snapshot_reads.specs.Rules.{pair_of}

-- f of what is there
abbrev pub of_some : {W X : Type 0} → Option W → X → (W → X) → X
of_some None x f = x
of_some (Some w) x f = f w

-- what the second copy comes to, with the change that it may lack
abbrev pub content_of_other : Other → Content
content_of_other (Same f) = content_of f
content_of_other (Late l) = with_change l.before l.change

-- it knows which history it is
pub record KnowsOf (v : Knows) (book : Book) : Type 0 where
  pub some : 0 < length v.of
  pub all : All (λ s. s.book ≡ book) v.of

-- x may be published: its pair was given, and it knows this
pub record Ready (log : List Pair) (book : Book) (x : Shown) : Type 0 where
  pub stands : Stands x.seen.log (pair_of x)
  pub given : Stands log (pair_of x)
  pub history : x.seen.book ≡ book
  pub schema : x.snapshot.schema ≡ schema_in log

-- y may take the place of x
pub record MayFollow (x y : Shown) : Type 0 where
  pub up : x.front ≤ y.front
  pub history : y.seen.book ≡ x.seen.book
  pub stands : Stands y.seen.log (pair_of y)

-- what is published once all that waits has taken its place
abbrev pub next_of : Shown → List Shown → Shown
next_of x waiting = fold (λ (before after : Shown). after) x waiting

-- what is published may be so, its publisher knows the history, and nothing waits
pub record Sound (log : List Pair) (book : Book) (shown : Shown) (waiting : List Shown) (v : Knows) : Type 0 where
  pub told : KnowsOf v book
  pub ready : Ready log book shown
  pub none : waiting ≡ []
