-- The one seat of a turnstile that begins with a fresh store, and its viewer.
use Rattle.std.proofs.Common.{◌≡◌, ℕ, zero, suc, List, [], ◌∷◌, replicate, Option, Some, None, refl, sym, ap, ◌∙◌, subst, arith}
use Rattle.std.specs.Prelude.{IfSome}
use Rattle.std.proofs.lemmas.Option.{none-some, same_Some}
use mathlib.Core.Option.{some, some-injective, some-ne-none}
use lib.ListN.{get_elem?}
use Rattle.feature_schema.specs.Rules.{KeepsRules}
use Rattle.feature_values.specs.declared.schema.Schema.{Schema}
use Rattle.snapshot_reads.specs.declared.publisher.Publisher.{Publisher}
use Rattle.snapshot_reads.specs.declared.viewer.Viewer.{Viewer}
use Rattle.snapshot_reads.specs.Viewers.{AreNew, schema_of}
use Rattle.shared_store.proofs.Taken.{same_head}
use Rattle.shared_store.specs.declared.counter.Counter.{Counter}
use Rattle.shared_store.specs.Knowing.{Known}
use Rattle.shared_store.specs.Seats.{HasViewer, IsOfOpening}
use Rattle.turnstile_core.proofs.Callers.{all_in_order}
use Rattle.turnstile_core.specs.Closing.{AreAllSeats}
use Rattle.turnstile_core.specs.Steps.{fresh_past}
use Rattle.turnstile_core.specs.declared.view.Past.{Past}

module _ {D : Type 0} (schema : Schema) (first : Counter D) where
  -- the first seat is of the opening of that store
  pub is_open : (p : Known D) → p ≡ fresh_past (first ∷ []) → first.store.schema ≡ schema → KeepsRules schema → first.store.tally ≡ replicate 17 0 → IsOfOpening schema p
  is_open p fresh same rules tally =
      let zeroth : p.number ≡ 0 = ap (λ (q : Known D). q.number) fresh in record {
        first = first;
        origin = ap (λ (q : Known D). q.origin) fresh;
        schema_is = same;
        rules = rules;
        tally = tally;
        number = omega arith;
      }

  -- viewers of what was published first
  pub all_new : (publisher : Publisher) (there : Schema) (viewers : List (Option Viewer)) → first.publisher ≡ publisher → there ≡ schema → AreNew publisher.seen.book there viewers
      → AreNew first.publisher.seen.book schema viewers
  all_new publisher there viewers same is new = subst (λ (p : Publisher). AreNew p.seen.book schema viewers) (sym same) (subst (λ (s : Schema). AreNew publisher.seen.book s viewers) is new)

  -- one of them may serve that seat
  pub may_serve : (p : Known D) (viewer : Option Viewer) → p.origin ≡ first ∷ [] → IfSome viewer (λ v. (v.seen.book ≡ first.publisher.seen.book) × (schema_of v ≡ schema)) → HasViewer schema p viewer
  may_serve p None began is = record { of = λ v e. absurd (none-some v e); at = λ other origin v e. absurd (none-some v e) }
  may_serve p (Some viewer) began is = record {
    of = λ v e. subst (λ (u : Viewer). schema_of u ≡ schema) (same_Some viewer v e) is.1;
    at = λ other origin v e. subst (λ (u : Viewer). u.seen.book ≡ other.publisher.seen.book) (same_Some viewer v e)
        (subst (λ (c : Counter D). viewer.seen.book ≡ c.publisher.seen.book) (same_head p.origin first other began origin) is.0);
  }

-- the one seat is all seats
in_order : {T E : Type 0} (p : Past T E) → p.number ≡ 0 → (i : ℕ) (q : Past T E) → get_elem? (p ∷ []) i ≡ some q → q.number ≡ i
in_order {T} {E} p zeroth zero q e = sym (ap (λ (r : Past T E). r.number) (some-injective p q e)) ∙ zeroth
in_order p zeroth (suc i) q e = absurd (some-ne-none q (sym e))

pub is_all : {T E : Type 0} (p : Past T E) → p.number ≡ 0 → p.given ≡ 0 → AreAllSeats (p ∷ [])
is_all p zeroth none = all_in_order (p ∷ []) p refl (omega arith) (in_order p zeroth)
