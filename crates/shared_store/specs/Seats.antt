-- A seat at the store's turnstile, as a service.
use Rattle.std.specs.Prelude.{◌≡◌, ℕ, ◌≤◌, List, [], ◌∷◌, replicate, Option, refl}
use Rattle.std.proofs.Common.{◌∙◌}
use mathlib.Core.List.{IsPrefix}
use Rattle.atomic_table.specs.Seated.{TableId}
use Rattle.feature_schema.specs.Rules.{KeepsRules}
use Rattle.feature_values.specs.declared.schema.Schema.{Schema}
use Rattle.http_session.specs.declared.message.Message.{Message}
use Rattle.service_session.specs.declared.answered.Answered.{Answered}
use Rattle.service_session.specs.declared.service.Service.{Ghosts as Meaning}
use Rattle.snapshot_reads.specs.declared.book.Pair.{Pair}
use Rattle.snapshot_reads.specs.declared.viewer.Viewer.{Viewer}
use Rattle.shared_store.specs.declared.counter.Counter.{Counter}
use Rattle.shared_store.specs.Counters.{IsViewerAt, IsViewerOf}
use Rattle.shared_store.specs.Knowing.{Known, KnowsMore, knows_same, knows_both, prefix_self, prefix_trans}
use Rattle.shared_store.specs.Turns.{Answers, ReadsAt}

-- a desk as contracts see it: at which turnstile its seat is, the schema that is served, what the seat knows, and the pairs that its viewer has
-- found published, in the order of its reads
pub record Seated (D : Type 0) : Type 0 where
  pub name : TableId
  pub schema : Schema
  pub past : Known D
  pub found : List Pair

-- the seat's turnstile began with a store of this schema, which keeps the rules of a schema file, and no step of which had ended in a store
-- fault; and the seat has one of the 17 numbers
pub record IsOfOpening {D : Type 0} (schema : Schema) (p : Known D) : Type 0 where
  pub first : Counter D
  pub origin : p.origin ≡ first ∷ []
  pub schema_is : first.store.schema ≡ schema
  pub rules : KeepsRules schema
  pub tally : first.store.tally ≡ replicate 17 0
  pub number : p.number ≤ 16

-- the viewer of a desk, where there is one, views what the turnstile's publisher publishes, which is of this schema
pub record HasViewer {D : Type 0} (schema : Schema) (p : Known D) (viewer : Option Viewer) : Type 0 where
  pub of : IsViewerOf schema viewer
  pub at : (first : Counter D) → p.origin ≡ first ∷ [] → IsViewerAt first viewer

-- a read in a turn, where the turnstile began with the store `first`
abbrev pub ReadsInTurn : {D : Type 0} → Known D → Message → ℕ → Answered → Known D → List Pair → Type 0
ReadsInTurn {D} p m moment answer q found = (first : Counter D) → p.origin ≡ first ∷ [] → ReadsAt first.store p m moment answer q found

-- what is answered to a message, where the turnstile began with the store `first`
abbrev pub AnswersBy : {D : Type 0} → Known D → List Pair → Message → ℕ → Answered → Known D → List Pair → Type 0
AnswersBy {D} p found m moment answer q found' = (first : Counter D) → p.origin ≡ first ∷ [] → Answers first.store p found m moment answer q found'

abbrev pub SeatJudges : {D : Type 0} → Seated D → Message → ℕ → Answered → Seated D → Type 0
SeatJudges old m moment answer new = AnswersBy old.past old.found m moment answer new.past new.found

-- what a seat has become, whatever came
pub record SeatLeads {D : Type 0} (old new : Seated D) : Type 0 where
  pub name : new.name ≡ old.name
  pub schema : new.schema ≡ old.schema
  pub knows : KnowsMore old.past new.past
  pub found : IsPrefix old.found new.found

-- a desk as sessions see it
abbrev pub desk_meaning : {D : Type 0} → Meaning (Seated D)
desk_meaning = record {
  schema = λ s. s.schema;
  judges = λ old m is_last moment answer new. SeatJudges old m moment answer new;
  leads = λ old new. SeatLeads old new;
}

pub leads_same : {D : Type 0} (s : Seated D) → SeatLeads s s
leads_same s = record { name = refl; schema = refl; knows = knows_same s.past; found = prefix_self s.found }

pub leads_both : {D : Type 0} (s t u : Seated D) → SeatLeads s t → SeatLeads t u → SeatLeads s u
leads_both s t u h k = record { name = k.name ∙ h.name; schema = k.schema ∙ h.schema; knows = knows_both s.past t.past u.past h.knows k.knows; found = prefix_trans s.found t.found u.found h.found k.found }
