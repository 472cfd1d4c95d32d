-- A store begins on what bodies came to.
use Rattle.std.proofs.Common.{◌≡◌, inl, ℕ, ◌≤◌, List, [], All, None, refl, ap, subst, arith}
use Rattle.std.specs.Prelude.{min}
use Rattle.std.proofs.lemmas.List.Elements.{All-nil}
use Rattle.durable_journal.specs.Kept.{IsAtRest}
use Rattle.durable_journal.specs.Standing.{ComeTo, next_opening}
use Rattle.feature_journal.specs.declared.journal.Journal.{Journal}
use Rattle.feature_journal.specs.Kept.{length_of, limit_of}
use Rattle.feature_schema.specs.Rules.{KeepsRules}
use Rattle.feature_schema.specs.Signature.{signature_text}
use Rattle.feature_values.specs.declared.schema.Schema.{Schema}
use Rattle.wfs_ends.specs.Ends.{last_count}
use Rattle.wfs_model.specs.declared.entry.Entry.{Entry}
use Rattle.wfs_model.specs.Kept.{IsKept}
use Rattle.wfs_model.specs.OfSchema.{IsOfSchema}
use Rattle.wfs_model.specs.Playable.{most_number}
use Rattle.wfs_model.specs.Played.{played_one}
use Rattle.wfs_model.specs.State.{Durable, durable, opened}
use Rattle.wfs_store.specs.declared.course.Course.{Course}
use Rattle.wfs_store.specs.Kept.{IsStore, next_of, opening_by, opening_on}

-- another number of the opening keeps all else well
kept_next : (schema : Schema) (kept : Durable) → IsKept schema kept → IsKept schema (durable (next_of kept))
kept_next schema kept well = record {
  order = well.order;
  fitting = well.fitting;
  given = well.given;
  counters = well.counters;
  stored = well.stored;
  different = well.different;
  made = well.made;
}

-- the state in which an opening begins is the one that its features open
pub next_opened : (kept : Durable) → opened (played_one kept (next_opening kept)) (played_one kept (next_opening kept)).opening ≡ next_of kept
unfolding played_one
next_opened kept = refl

pub next_numbers : (kept : Durable) → All (λ n. n ≤ most_number) kept.counters → All (λ n. n ≤ most_number) (played_one kept (next_opening kept)).counters
unfolding played_one
next_numbers kept numbers = numbers

next_kept : (kept : Durable) → played_one kept (next_opening kept) ≡ durable (next_of kept)
unfolding played_one
next_kept kept = refl

pub begun_store : {D : Type 0} (images : D → List ℕ → Type 0) (course : Course) (journal : Journal D) (bodies : List (List ℕ)) (side : ℕ) (kept : Durable)
    → ComeTo course.state.schema kept bodies → IsKept course.state.schema kept → course.state.state ≡ next_of kept
    → course.history.items ≡ [] → course.bytes ≡ 0 → course.last ≡ None → course.signature ≡ signature_text course.state.schema → KeepsRules course.state.schema
    → IsAtRest images course.state.schema (played_one kept (next_opening kept)) journal → limit_of journal ≡ course.limits.side → side ≡ min (length_of journal) last_count
    → IsStore images course journal bodies side None
begun_store {D} images course journal bodies side kept come well state entries bytes last signature rules rests limit told =
    let opening_is : opening_on course.state.schema bodies ≡ next_of kept = ap (opening_by course.state.schema) come in
    let within = rests.rests.within in
    let most = rests.rests.limit in
    let there : IsAtRest images course.state.schema (durable (next_of kept)) journal = subst (λ (k : Durable). IsAtRest images course.state.schema k journal) (next_kept kept) rests in
    record {
      kept = kept;
      come = come;
      memory = record {
        past = rw (opening_is, state, entries, bytes, last) (record {
          history = record { legal = tt; fitting = All-nil (λ (e : Entry). IsOfSchema course.state.schema e.request) };
          state = refl;
          well = kept_next course.state.schema kept well;
          bytes = refl;
          last = refl;
        });
        signature = signature;
        rules = rules;
        few = rw bytes (omega arith);
      };
      keeps = rw state (inl there);
      length = rw (opening_is, entries) (omega (arith, told, within, most));
      limit = limit;
      within = rw (← limit) within;
    }
