-- What a store and its publisher are to each other.
use Rattle.std.specs.Prelude.{◌≡◌, ℕ, ◌+◌, length, min, Option, refl}
use Rattle.std.specs.Option.{ForSome, option_to_list}
use Rattle.feature_values.specs.declared.schema.Schema.{Schema}
use Rattle.snapshot_reads.specs.declared.viewer.Viewer.{Viewer}
use Rattle.snapshot_reads.specs.Publishers.{given_of, shown_of, IsAbreast}
use Rattle.snapshot_reads.specs.Viewers.{schema_of}
use Rattle.shared_store.specs.declared.counter.Counter.{Counter}
use Rattle.shared_store.specs.Openings.{StaysOpen, stays_open}
use Rattle.shared_store.specs.Published.{ArePairsOf}
use Rattle.wfs_model.specs.Played.{played}
use Rattle.wfs_store.specs.Held.{kept_of}
use Rattle.wfs_store.specs.Past.{last_made}

module _ {D : Type 0} where
  -- how many entries of the history what is published tells of
  abbrev pub shown_in : Counter D → ℕ
  shown_in c = min (shown_of c.publisher).front (length c.store.entries)

  -- Each pair that was given to the publisher is that of its place. The pair of the whole history was given, and it is published, unless the publisher
  -- is behind.
  pub record IsSettled (c : Counter D) : Type 0 where
    pub pairs : ArePairsOf c.store (given_of c.publisher)
    pub given : length (given_of c.publisher) ≡ length c.store.entries + 1
    pub shown : IsAbreast c.publisher → (shown_of c.publisher).front ≡ length c.store.entries

  -- Each pair that was given to the publisher is that of its place. The last entry is still to be published. Unless the publisher is behind, what is kept
  -- is what its change makes of what is published.
  pub record Owes (c : Counter D) : Type 0 where
    pub pairs : ArePairsOf c.store (given_of c.publisher)
    pub given : length (given_of c.publisher) ≡ length c.store.entries
    pub change : IsAbreast c.publisher → kept_of c.store ≡ played (shown_of c.publisher).content.kept (option_to_list (last_made c.store.schema c.store.opening c.store.entries))

  -- the opening is the same, and the publisher
  pub record GoesOn (faults : D → ℕ) (a b : Counter D) : Type 0 where
    pub store : StaysOpen faults a.store b.store
    pub publisher : b.publisher.seen.book ≡ a.publisher.seen.book

  abbrev pub goes_on : (faults : D → ℕ) (c : Counter D) → GoesOn faults c c
  goes_on faults c = record { store = stays_open faults c.store; publisher = refl }

  -- a viewer, where there is one, views what this publisher publishes
  abbrev pub IsViewerAt : Counter D → Option Viewer → Type 0
  IsViewerAt c viewer = ForSome viewer (λ v. v.seen.book ≡ c.publisher.seen.book)

-- what it finds is of this schema
abbrev pub IsViewerOf : Schema → Option Viewer → Type 0
IsViewerOf schema viewer = ForSome viewer (λ v. schema_of v ≡ schema)
