-- Which requests may change the state: transactions, locks, and changes of stored queries. All others only read.
use Rattle.std.specs.Prelude.{⊤}
use Rattle.wfs_model.specs.declared.request.Request.{Request}
use Rattle.wfs_model.specs.declared.request.Request.TheVariants.{Capabilities, DescribeTypes, GetFeatures, GetValues, GetLocked, Lock, Renew, Transact, ListStored, DescribeStored, CreateStored, DropStored}

-- a request that may change the state
abbrev pub IsChange : Request → Type 0
IsChange Capabilities = ⊥
IsChange (DescribeTypes kinds) = ⊥
IsChange (GetFeatures present asked) = ⊥
IsChange (GetValues present asked property) = ⊥
IsChange (GetLocked present asked take period) = ⊤
IsChange (Lock asked take period) = ⊤
IsChange (Renew lock period) = ⊤
IsChange (Transact lock release actions) = ⊤
IsChange ListStored = ⊥
IsChange (DescribeStored ids) = ⊥
IsChange (CreateStored definitions) = ⊤
IsChange (DropStored id) = ⊤
