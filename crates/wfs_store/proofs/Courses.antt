-- What stands in memory and in the journal, after what a step does to them.
use Rattle.std.proofs.Common.{◌≡◌, ℕ, ◌+◌, ◌≤◌, List, [], ◌∷◌, ◌++◌, Option, sym, subst}
use Rattle.durable_journal.specs.Kept.{Keeps}
use Rattle.feature_journal.specs.declared.journal.Journal.{Journal}
use Rattle.feature_journal.specs.Kept.{length_of, limit_of}
use Rattle.feature_values.specs.declared.schema.Schema.{Schema}
use Rattle.wfs_model.specs.declared.change.Change.{Change}
use Rattle.wfs_model.specs.declared.entry.Entry.{Entry}
use Rattle.wfs_model.specs.Changing.{IsChange}
use Rattle.wfs_model.specs.OfSchema.{IsOfSchema}
use Rattle.wfs_model.specs.Played.{change_of}
use Rattle.wfs_model.specs.Step.{step}
use Rattle.wfs_model.specs.State.{State, durable}
use Rattle.wfs_store.specs.declared.course.Course.{Course}
use Rattle.wfs_store.specs.Kept.{IsCourse, IsStore, opening_on}
use Rattle.wfs_store.specs.Ready.{SamePast}
use Rattle.wfs_store.proofs.Histories.{past_more}

pub same_course : (opening : State) (old new : Course) → SamePast old new → IsCourse opening old → IsCourse opening new
same_course opening old new same is = record {
  past = rw (same.schema, same.state, same.entries, same.bytes, same.last) is.past;
  signature = rw (same.signature, same.schema) is.signature;
  rules = rw same.schema is.rules;
  few = rw (same.bytes, same.limits) is.few;
}

-- one more entry
pub entered_course : (opening : State) (old new : Course) (entry : Entry) (moment : ℕ) → IsCourse opening old
    → IsChange entry.request → IsOfSchema old.state.schema entry.request → old.state.state.last ≤ moment → old.bytes + entry.size ≤ old.limits.bytes
    → new.history.items ≡ old.history.items ++ record entry { moment = moment } ∷ [] → new.state.state ≡ (step old.state.schema old.state.state moment entry.request).1
    → new.state.schema ≡ old.state.schema → new.limits ≡ old.limits → new.signature ≡ old.signature
    → new.bytes ≡ old.bytes + entry.size → new.last ≡ change_of old.state.schema old.state.state moment entry.request
    → IsCourse opening new
entered_course opening old new entry moment is change fitting later few entries state schema limits signature bytes last = record {
  past = rw (schema, state, entries, bytes, last)
      (past_more old.state.schema opening old.state.state old.history.items old.bytes old.last (record entry { moment = moment }) is.past change fitting later);
  signature = rw (signature, schema) is.signature;
  rules = rw schema is.rules;
  few = rw (bytes, limits) few;
}

-- ---- the whole store

module _ {D : Type 0} (images : D → List ℕ → Type 0) (old new : Course) (bodies : List (List ℕ)) (side : ℕ) where
  -- where memory only got more room
  pub store_stays : (before after : Journal D) (begun left : Option Change) → SamePast old new → IsStore images old before bodies side begun
      → Keeps images old.state.schema (durable old.state.state) left after → length_of after ≡ length_of before → limit_of after ≡ limit_of before
      → IsStore images new after bodies side left
  store_stays before after begun left same is keeps long limit = record {
    kept = is.kept;
    come = rw same.schema is.come;
    memory = subst (λ (s : Schema). IsCourse (opening_on s bodies) new) (sym same.schema) (same_course (opening_on old.state.schema bodies) old new same is.memory);
    keeps = rw (same.schema, same.state) keeps;
    length = rw (same.schema, same.entries, long) is.length;
    limit = rw (same.limits, limit) is.limit;
    within = rw (same.limits, long) is.within;
  }
