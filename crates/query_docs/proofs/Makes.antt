-- Requests that make no stored query.
use Rattle.std.proofs.Common.{◌≡◌, [], Ok, sym, subst}
use Rattle.std.specs.Prelude.{All}
use Rattle.std.proofs.lemmas.List.Elements.{All-nil}
use Rattle.wfs_ends.specs.Read.{◌>>=◌}
use Rattle.wfs_ends.proofs.Turns.{bind_ok, ok_is}
use Rattle.feature_values.specs.declared.schema.Schema.{Schema}
use Rattle.wfs_model.specs.declared.fault.AskFault.{AskFault}
use Rattle.wfs_model.specs.declared.request.Request.{Request}
use Rattle.wfs_model.specs.OfSchema.{stored_in}
use Rattle.request_parameters.specs.Said.{Ask}
use Rattle.query_docs.specs.Reading.{IsKeptText}

-- what is read, if anything is, makes none
abbrev pub MakesNone : Ask Request → Type 0
MakesNone r = (request : Request) → r ≡ Ok request → stored_in request ≡ []

pub behind : {A : Type 0} (r : Ask A) (f : A → Ask Request) → ((x : A) → MakesNone (f x)) → MakesNone (r >>= f)
behind r f none = λ request h. let x = bind_ok r f request h in none x.0 request x.2

pub is_none : (made : Request) → stored_in made ≡ [] → MakesNone (Ok made)
is_none made none = λ request h. subst (λ (r : Request). stored_in r ≡ []) (ok_is AskFault made request h) none

-- so there is no text to be read back
pub none_kept : (schema : Schema) (request : Request) → stored_in request ≡ [] → All (IsKeptText schema) (stored_in request)
none_kept schema request none = subst (All (IsKeptText schema)) (sym none) (All-nil (IsKeptText schema))
