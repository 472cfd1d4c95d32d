-- The changes by which a checkpoint says what is kept, without how it came to be. How it is cut is this project's own.
use Rattle.std.specs.Prelude.{◌≡◌, ℕ, true, List, [], ◌∷◌, ◌++◌, length, map, ⊤}
use Rattle.std.specs.Simd.{first_chunks}
use Rattle.std.specs.Slice.Iter.{chunk_count}
use Rattle.feature_values.specs.declared.feature.Feature.{Feature}
use Rattle.feature_values.specs.declared.schema.Schema.{Schema}
use Rattle.wfs_model.specs.declared.change.Part.TheVariants.{Put}
use Rattle.wfs_model.specs.declared.change.Change.{Change}
use Rattle.wfs_model.specs.declared.change.Change.TheVariants.{Rows, Created, Base}
use Rattle.wfs_model.specs.declared.stored.StoredQuery.{StoredQuery}
use Rattle.wfs_model.specs.State.{Durable}
use Rattle.wfs_model.specs.Playable.{is_playable}
use Rattle.wfs_model.specs.Played.{played_one}

-- so many features stand in one record at the most
abbrev pub most_rows : ℕ
most_rows = 1_000

-- features that are put, in order
abbrev pub put_all : List Feature → Change
put_all features = Rows (map Put features)

-- all features, in runs that are full but for the last
abbrev pub rows_of : List Feature → List Change
rows_of features = map put_all (first_chunks most_rows (chunk_count (length features) most_rows) features)

abbrev pub created_one : StoredQuery → Change
created_one stored = Created (stored ∷ [])

-- first the counters and the opening, then the features in default order, and then the stored queries in theirs, one by one
unfoldable pub checkpoint_of : Durable → List Change
checkpoint_of kept = Base kept.opening kept.counters ∷ (rows_of kept.features ++ map created_one kept.stored)

-- ---- changes one after the other

-- each may be played on what the earlier ones left
abbrev pub ArePlayable : Schema → Durable → List Change → Type 0
ArePlayable schema kept [] = ⊤
ArePlayable schema kept (change ∷ changes) = (is_playable schema kept change ≡ true) × ArePlayable schema (played_one kept change) changes
