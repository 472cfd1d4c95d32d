-- Elements that stand in queries: those of FES, and those that hold a text alone.
use Rattle.std.specs.Prelude.{ℕ, List, [], Option, Some, None, Result, Ok, Err}
use Rattle.wfs_ends.specs.Read.{◌>>=◌}
use Rattle.doc_tree.specs.declared.tree.Element.{Element, out-Element}
use Rattle.fes_docs.specs.Names.{refusal_of}
use Rattle.fes_docs.specs.declared.fault.FilterDocFault.{FilterDocFault}
use Rattle.wfs_model.specs.Terms.{refused}
use Rattle.wfs_model.specs.declared.fault.AskFault.{AskFault}
use Rattle.request_parameters.specs.Said.{Ask}
use Rattle.request_parameters.specs.Elements.{no_others, text_in}

abbrev pub children_of : Element → List Element
children_of e = (out-Element e).children

-- the text of an element that has no attributes and holds nothing else
unfoldable pub text_alone : Element → Ask (List ℕ)
text_alone e = do
  _ ← no_others [] e
  text_in e

-- an attribute that the service does not offer
abbrev pub not_offered : List ℕ → Option (List ℕ) → Ask (Unit {0})
not_offered name None = Ok tt
not_offered name (Some value) = Err (refused 12 name)

-- how what is wrong with a filter is refused
unfoldable pub refusal_by : FilterDocFault → AskFault
refusal_by fault = refused (refusal_of fault).0 (refusal_of fault).1

abbrev pub or_refusal : {A : Type 0} → Result A FilterDocFault → Ask A
or_refusal (Ok x) = Ok x
or_refusal (Err fault) = Err (refusal_by fault)
