-- What reading gives: a value, or the first fault.
use Rattle.std.specs.Prelude.{◌≡◌, ℕ, List, Option, Some, None, Result, Ok, Err}
use Rattle.std.specs.Str.{chars}
use Rattle.std.specs.Borrow.{Bor}
use Rattle.wfs_ends.specs.Read.{FailsBut, GivesBut}
use Rattle.doc_read.specs.declared.fault.DocFault.{DocFault}
use Rattle.doc_read.specs.declared.fault.DocFault.TheVariants.{Malformed, OutOfMemory}

-- a value and the text after it
abbrev pub Reads : Type 0 → Type 0
Reads A = Result (A × List ℕ) DocFault

-- a fault is what reading gives, unless memory ran out
abbrev pub Fails : {Y : Type 0} → DocFault → Result Y DocFault → Type 0
Fails e read = FailsBut OutOfMemory e read

-- what a call answered is what reading gives, unless memory ran out
abbrev pub Gives : {X : Type 0} → Result X DocFault → Result X DocFault → Type 0
Gives (Ok x) read = read ≡ Ok x
Gives (Err e) read = Fails e read

-- the same, of a value that the definitions see in another form
abbrev pub GivesBy : {X Y : Type 0} → (X → Y) → Result X DocFault → Result Y DocFault → Type 0
GivesBy view answer read = GivesBut OutOfMemory view answer read

-- what was found is what reading gives, and nothing was found where that is malformed
abbrev pub Finds : Option (Bor (List ℕ)) → Result (List ℕ) DocFault → Type 0
Finds (Some x) read = read ≡ Ok (chars x.now)
Finds None read = read ≡ Err Malformed
