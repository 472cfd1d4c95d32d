-- Histories: entries one after the other, from the state in which an opening begins.
use Rattle.std.specs.Prelude.{ℕ, ◌≤◌, List, [], ◌∷◌, take, ⊤}
use Rattle.std.specs.List.{fold}
use Rattle.feature_values.specs.declared.schema.Schema.{Schema}
use Rattle.wfs_model.specs.declared.entry.Entry.{Entry}
use Rattle.wfs_model.specs.declared.reply.Reply.{Reply}
use Rattle.wfs_model.specs.Changing.{IsChange}
use Rattle.wfs_model.specs.State.{State, moment_in}
use Rattle.wfs_model.specs.Step.{step}

-- the state that an entry leaves
abbrev pub stepped : Schema → State → Entry → State
stepped schema state entry = (step schema state entry.moment entry.request).1

-- the state after entries
abbrev pub after_all : Schema → State → List Entry → State
after_all schema opening entries = fold (stepped schema) opening entries

-- the state after the first n entries
abbrev pub after : Schema → State → List Entry → ℕ → State
after schema opening entries n = after_all schema opening (take n entries)

-- each entry is a changing request, at a moment not before the last one
abbrev pub IsLegal : Schema → State → List Entry → Type 0
IsLegal schema state [] = ⊤
IsLegal schema state (entry ∷ entries) = IsChange entry.request × (state.last ≤ entry.moment) × IsLegal schema (stepped schema state entry) entries

-- the replies to entries, in order
abbrev pub replies : Schema → State → List Entry → List Reply
replies schema state [] = []
replies schema state (entry ∷ entries) = (step schema state entry.moment entry.request).0 ∷ replies schema (stepped schema state entry) entries

-- an entry that comes at a state, at the moment at which it is taken up
abbrev pub timed : State → Entry → Entry
timed state entry = record entry { moment = moment_in state entry.moment }

-- the reply to an entry that comes after these
abbrev pub reply_after : Schema → State → List Entry → Entry → Reply
reply_after schema opening entries entry = (step schema (after_all schema opening entries) entry.moment entry.request).0
