-- Which limit a request would pass: it makes a quantity greater, and the quantity is then above its limit. The limits are this project's own.
use Rattle.std.specs.Prelude.{ℕ, ◌+◌, ◌&&◌, nat_lt, if◌then◌else◌, List, [], ◌∷◌, ◌++◌, length, Option, Some, None}
use Rattle.std.specs.List.{sum_by}
use Rattle.feature_values.specs.declared.schema.Schema.{Schema}
use Rattle.lock_table.specs.Held.{live, first_of}
use Rattle.wfs_model.specs.declared.change.Change.{Change}
use Rattle.wfs_model.specs.declared.entry.Entry.{Entry}
use Rattle.wfs_model.specs.declared.limits.Limits.{Limits}
use Rattle.wfs_model.specs.declared.limits.LimitName.{LimitName}
use Rattle.wfs_model.specs.declared.limits.LimitName.TheVariants.{Entries, Bytes, Features, Ids, Locks, Stored, Side}
use Rattle.wfs_model.specs.declared.limits.FullAt.{FullAt}
use Rattle.wfs_model.specs.State.{State}
use Rattle.wfs_model.specs.History.{after_all}
use Rattle.wfs_model.specs.Played.{accepted}

-- the quantities that have limits
pub record Quantities : Type 0 where
  pub entries : ℕ
  pub bytes : ℕ
  pub features : ℕ
  -- numbers given, by type
  pub ids : List ℕ
  -- locks that are live at the moment
  pub locks : ℕ
  pub stored : ℕ
  pub side : ℕ

-- The quantities after entries, at a moment. The side had this length at the beginning of the opening, and each change makes it longer by a
-- gate, the length of its body, and the body.
unfoldable pub quantities : Schema → (Change → ℕ) → ℕ → State → List Entry → ℕ → Quantities
quantities schema body side opening entries moment =
    let state = after_all schema opening entries in
    record {
      entries = length entries;
      bytes = sum_by (λ entry. entry.size) entries;
      features = length state.features;
      ids = state.counters;
      locks = length (live moment state.locks);
      stored = length state.stored;
      side = side + sum_by (λ change. 5 + body change) (accepted schema opening entries);
    }

-- ---- limits

-- what a quantity was that has become greater and is above its limit
abbrev pub passes : ℕ → ℕ → ℕ → Option ℕ
passes limit before now = if nat_lt before now && nat_lt limit now then Some before else None

-- the same of the first of some quantities under one limit
unfoldable pub some_passes : ℕ → List ℕ → List ℕ → Option ℕ
some_passes limit (before ∷ befores) (now ∷ nows) = if nat_lt before now && nat_lt limit now then Some before else some_passes limit befores nows
some_passes limit befores nows = None

abbrev pub at_limit : LimitName → Option ℕ → Option FullAt
at_limit name None = None
at_limit name (Some number) = Some (record { limit = name; number = number })

-- the first limit that is passed, with the quantity before
unfoldable pub first_passed : Limits → Quantities → Quantities → Option FullAt
first_passed limits before now = first_of (λ passed. passed) (
    at_limit Entries (passes limits.entries before.entries now.entries)
    ∷ at_limit Bytes (passes limits.bytes before.bytes now.bytes)
    ∷ at_limit Features (passes limits.features before.features now.features)
    ∷ at_limit Ids (some_passes limits.ids before.ids now.ids)
    ∷ at_limit Locks (passes limits.locks before.locks now.locks)
    ∷ at_limit Stored (passes limits.stored before.stored now.stored)
    ∷ at_limit Side (passes limits.side before.side now.side) ∷ [])

-- The limit that one more entry would pass. A request that is refused changes none of the quantities but the first two.
unfoldable pub full_at : Schema → (Change → ℕ) → ℕ → State → Limits → List Entry → Entry → Option FullAt
full_at schema body side opening limits entries entry =
    first_passed limits (quantities schema body side opening entries entry.moment) (quantities schema body side opening (entries ++ entry ∷ []) entry.moment)
