-- Which side of a journal is current once it is opened, how long it is, and what it holds.
use Rattle.std.specs.Prelude.{◌≡◌, ◌≤◌, ◌<◌, ◌+◌, ℕ, Bool, false, List, ◌∷◌, [], ◌++◌, length}
use Rattle.checkpoints.specs.Length.{side_length}
use Rattle.disk_core.specs.declared.pair.Pair.{Pair}
use Rattle.feature_journal.specs.declared.journal.Journal.{Journal}
use Rattle.feature_journal.specs.Kept.{Rests, disks_of, length_of, seen}
use Rattle.feature_values.specs.declared.schema.Schema.{Schema}
use Rattle.journal_replay.specs.Written.{body_in}
use Rattle.recovery.specs.Outcome.{Outcome}
use Rattle.recovery.specs.Outcome.Outcome.{found}
use Rattle.wfs_model.specs.State.{Durable}
use Rattle.durable_journal.specs.Current.{Current, HoldsJust, current_in, turned}
use Rattle.durable_journal.specs.Opened.{AreBodiesOf, checkpoint_bodies, generation_in, length_in, longest_kept}
use Rattle.durable_journal.specs.Standing.{ComeTo, next_opening}

-- whether side b was current; where no side was, side a is made
abbrev pub second_in : Outcome → Bool
second_in (found second generation gate taken) = second
second_in outcome = false

-- the side that was found, or the one that is made
abbrev pub current_found : Outcome → Current
current_found outcome = record { second = second_in outcome; generation = generation_in outcome }

-- the body of the record of the next opening
abbrev pub opening_in : Schema → Durable → List ℕ
opening_in schema kept = body_in schema (next_opening kept)

-- The side that was current was so long and had these bodies, which come to what is kept. A side of at most 67,108,864 bytes stays
-- current, and the record of the next opening stands behind what was there. In the place of a longer one the other side is current,
-- with the next generation, and it holds a checkpoint of what is kept, and that record.
pub data IsBegunOn {D : Type 0} (images : D → List ℕ → Type 0) (schema : Schema) (kept : Durable) (bodies : List (List ℕ)) (was : Current) (long : ℕ) (now : Current) (size : ℕ) (disks : Pair D) : Type 0 where
  appended :
      long ≤ longest_kept → now ≡ was → size ≡ long + 5 + length (opening_in schema kept)
      → HoldsJust images now (bodies ++ opening_in schema kept ∷ []) disks → IsBegunOn images schema kept bodies was long now size disks
  shortened :
      longest_kept < long → now ≡ turned was → size ≡ side_length (checkpoint_bodies schema kept) + 5 + length (opening_in schema kept)
      → HoldsJust images now (checkpoint_bodies schema kept ++ opening_in schema kept ∷ []) disks → IsBegunOn images schema kept bodies was long now size disks

-- the same, by what was read of the two files
pub record IsOpenedSide {D : Type 0} (images : D → List ℕ → Type 0) (schema : Schema) (outcome : Outcome) (now : Current) (size : ℕ) (disks : Pair D) : Type 0 where
  pub bodies : List (List ℕ)
  pub kept : Durable
  pub are : AreBodiesOf outcome bodies
  pub come : ComeTo schema kept bodies
  pub begun : IsBegunOn images schema kept bodies (current_found outcome) (length_in outcome) now size disks

-- ---- the steps to it

-- A journal that has room for the record: the same one, or, where its side was too long, one whose list is a checkpoint, on its other side.
pub data HasRoom {D : Type 0} (images : D → List ℕ → Type 0) (schema : Schema) (kept : Durable) (old new : Journal D) : Type 0 where
  stays : length_of old ≤ longest_kept → new ≡ old → HasRoom images schema kept old new
  turns :
      longest_kept < length_of old → current_in new ≡ turned (current_in old) → length_of new ≡ side_length (checkpoint_bodies schema kept)
      → Rests images (checkpoint_bodies schema kept) (seen new) → HasRoom images schema kept old new

-- the record stands behind whatever the list was
abbrev pub IsBegunBy : {D : Type 0} (images : D → List ℕ → Type 0) → Schema → Durable → (old new : Journal D) → Type 0
IsBegunBy images schema kept old new =
    (bodies : List (List ℕ)) → Rests images bodies (seen old)
    → IsBegunOn images schema kept bodies (current_in old) (length_of old) (current_in new) (length_of new) (disks_of new)
