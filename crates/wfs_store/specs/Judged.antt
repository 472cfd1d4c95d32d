-- Which limit an entry would pass, in the order in which a store judges it, and how a call answers that.
use Rattle.std.specs.Prelude.{◌≡◌, ℕ, ◌+◌, List, ⊤, Option, Some, None, Result, Ok, Err}
use Rattle.std.specs.List.{sum_by}
use Rattle.std.specs.Option.{option_or, option_to_list}
use Rattle.service_state.specs.declared.fault.PrepareFault.{PrepareFault}
use Rattle.service_state.specs.declared.fault.PrepareFault.TheVariants as prepared
use Rattle.wfs_model.specs.declared.change.Change.{Change}
use Rattle.wfs_model.specs.declared.limits.FullAt.{FullAt}
use Rattle.wfs_model.specs.declared.limits.Limits.{Limits}
use Rattle.wfs_model.specs.declared.limits.LimitName.TheVariants.{Entries, Bytes, Side}
use Rattle.wfs_model.specs.Full.{at_limit, passes}
use Rattle.wfs_store.specs.declared.fault.StepFault.{StepFault}
use Rattle.wfs_store.specs.declared.fault.StepFault.TheVariants.{StoreFault, Full, OutOfMemory}

-- one more entry of this size, where there are so many of so many bytes
abbrev pub passed_by_count : Limits → (count bytes size : ℕ) → Option FullAt
passed_by_count limits count bytes size =
    option_or (at_limit Entries (passes limits.entries count (count + 1))) (at_limit Bytes (passes limits.bytes bytes (bytes + size)))

-- how much longer changes make a side, each by a gate, the length of its body, and the body
abbrev pub added_by : (Change → ℕ) → List Change → ℕ
added_by body changes = sum_by (λ change. 5 + body change) changes

-- a side of the journal of this length, where a change is added to it
abbrev pub passed_by_side : (limit : ℕ) → (Change → ℕ) → ℕ → Option Change → Option FullAt
passed_by_side limit body side change = at_limit Side (passes limit side (side + added_by body (option_to_list change)))

-- a step that comes to nothing before any disk is asked tells the limit that is passed, or memory ran out
abbrev pub IsFaultOf : Option FullAt → StepFault → Type 0
IsFaultOf passed (Full at) = passed ≡ Some at
IsFaultOf passed StoreFault = ⊥
IsFaultOf passed OutOfMemory = ⊤

-- a call goes on only where no limit is passed
abbrev pub Judges : {T : Type 0} → Option FullAt → Result T StepFault → Type 0
Judges passed (Ok done) = passed ≡ None
Judges passed (Err fault) = IsFaultOf passed fault

-- what of preparing a plan is a step's fault
abbrev pub same_fault : PrepareFault → StepFault
same_fault (prepared.Full at) = Full at
same_fault prepared.OutOfMemory = OutOfMemory
