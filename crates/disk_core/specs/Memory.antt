-- A disk in memory.
use Rattle.std.specs.Prelude.{◌≡◌, ◌⊎◌, ◌+◌, ◌-◌, ◌<◌, ◌≤◌, min, ℕ, List, [], ◌∷◌, ◌++◌, length, take, drop, map, Option, Some, None, Contains, Vec, vec_capacity}
use Rattle.std.specs.List.{AllByRecursion}
use Rattle.std.specs.declared.alloc.Global.{Global}
use Rattle.wfs_ends.specs.Ends.{last_count}
use Rattle.disk_core.specs.declared.call.Call.{Call}
use Rattle.disk_core.specs.declared.call.Call.TheVariants.{Write, Cut, Sync}
use Rattle.disk_core.specs.Story.{Step, read_after_all, Image, ImageSince}
use Rattle.disk_core.specs.Story.Step.{wrote, shortened, synced}

-- what a disk in memory is seen as
pub record Memory : Type 0 where
  -- what stood on it at first, all of it stable, and each write, cut and sync that was done since
  pub base : List ℕ
  pub steps : List Step
  -- the number of the next call, and how many failed
  pub made : ℕ
  pub failed : ℕ
  -- the number from which on all calls fail, and how many more bytes may be written
  pub calls : ℕ
  pub room : ℕ
  -- the numbers of the calls that fail, and the one from which on all do
  pub failing : List ℕ
  pub stop : Option ℕ

-- what a read gives
abbrev pub reads_as : Memory → List ℕ
reads_as m = read_after_all m.base m.steps

-- what a crash now may leave; how many steps were done, which is the moment; what a crash since a moment might have left
abbrev pub image_of : Memory → List ℕ → Type 0
image_of m c = Image m.base m.steps c

abbrev pub steps_done : Memory → ℕ
steps_done m = length m.steps

abbrev pub image_since : Memory → ℕ → List ℕ → Type 0
image_since m t c = ImageSince m.base m.steps t c

-- one more, up to the last value of a count
abbrev pub counted : ℕ → ℕ
counted n = min (n + 1) last_count

abbrev pub Stopped : Option ℕ → ℕ → Type 0
Stopped None n = ⊥
Stopped (Some from) n = from ≤ n

-- The next call fails, whichever it is: its number is listed, is beyond the calls that the disk was made for, or is
-- the stop or above.
abbrev pub Fails : Memory → Type 0
Fails m = Contains m.failing m.made ⊎ ((m.calls ≤ m.made) ⊎ Stopped m.stop m.made)

-- after a call that did nothing to the file, and after one that failed
abbrev pub passed : Memory → Memory
passed m = record m { made = counted m.made }

abbrev pub refused : Memory → Memory
refused m = record m { made = counted m.made; failed = counted m.failed }

-- after a cut or a sync, and after a write
abbrev pub noted : Step → Memory → Memory
noted step m = record m { made = counted m.made; steps = m.steps ++ step ∷ [] }

abbrev pub noted_write : ℕ → List ℕ → Memory → Memory
noted_write at bytes m = record m { made = counted m.made; steps = m.steps ++ wrote at bytes ∷ []; room = m.room - length bytes }

-- How many writes and cuts have come since the last sync, where n came before these steps.
unfoldable pub unsynced_from : ℕ → List Step → ℕ
unsynced_from n [] = n
unsynced_from n (wrote at bytes ∷ steps) = unsynced_from (n + 1) steps
unsynced_from n (shortened to ∷ steps) = unsynced_from (n + 1) steps
unsynced_from n (synced ∷ steps) = unsynced_from 0 steps

-- a write or a cut
abbrev pub IsChange : Step → Type 0
IsChange (wrote at bytes) = Unit {0}
IsChange (shortened to) = Unit {0}
IsChange synced = ⊥

-- this place is in no range that was written, and below each length that the file was cut to
abbrev pub IsUntouched : ℕ → Step → Type 0
IsUntouched k (wrote at bytes) = (k < at) ⊎ (at + length bytes ≤ k)
IsUntouched k (shortened to) = k < to
IsUntouched k synced = Unit {0}

-- the steps up to the last sync, and the first few writes and cuts after it
abbrev pub kept : ℕ → List Step → List Step
kept keep steps = take (length steps - unsynced_from 0 steps + keep) steps

-- after a crash that keeps so many
abbrev pub crashed : ℕ → Memory → Memory
crashed keep m = record { base = read_after_all m.base (kept keep m.steps); steps = []; made = 0; failed = 0; calls = m.calls; room = m.room; failing = []; stop = None }

-- how it is held: the calls in a log, and all that was written in one text
abbrev pub step_of : List ℕ → Call → Step
step_of text (Write at from size) = wrote at (take size (drop from text))
step_of text (Cut to) = shortened to
step_of text Sync = synced

abbrev pub steps_of : List ℕ → List Call → List Step
steps_of text log = map (step_of text) log

abbrev pub IsWithin : ℕ → Call → Type 0
IsWithin n (Write at from size) = from + size ≤ n
IsWithin n (Cut to) = Unit {0}
IsWithin n Sync = Unit {0}

-- how many bytes were written
abbrev pub size_of : Call → ℕ
size_of (Write at from size) = size
size_of (Cut to) = 0
size_of Sync = 0

unfoldable pub written_size : List Call → ℕ
written_size [] = 0
written_size (call ∷ log) = size_of call + written_size log

pub record IsMemory (bytes base : Vec ℕ Global) (log : Vec Call Global) (text : Vec ℕ Global) (calls room made : ℕ) : Type 0 where
  pub read : bytes.items ≡ read_after_all base.items (steps_of text.items log.items)
  pub within : AllByRecursion (IsWithin (length text.items)) log.items
  pub bytes_room : length base.items + written_size log.items + room ≤ vec_capacity bytes
  pub base_room : length base.items + written_size log.items + room ≤ vec_capacity base
  pub text_room : length text.items + room ≤ vec_capacity text
  pub log_made : length log.items ≤ made
  pub log_room : calls ≤ vec_capacity log
