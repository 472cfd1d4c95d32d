-- What bodies come to with one more behind them.
use Rattle.std.proofs.Common.{◌≡◌, ℕ, Bool, true, false, ◌==◌, List, [], ◌∷◌, ◌++◌, length, Result, Ok, Err, refl, sym, ap, ◌∙◌, subst, arith}
use Rattle.std.specs.Prelude.{◌&&◌, OnErr}
use Rattle.wfs_ends.specs.Read.{◌>>=◌, GivesBut}
use Rattle.feature_values.specs.declared.schema.Schema.{Schema}
use Rattle.wfs_model.specs.State.{Durable, nothing}
use Rattle.recovery.specs.declared.replay.ReplayFault.{ReplayFault}
use Rattle.recovery.specs.declared.replay.ReplayFault.TheVariants.{BadBytes, NotOfSchema, OutOfMemory}
use Rattle.recovery.specs.Replay.{Answers, taken_after}
use Rattle.journal_replay.specs.Replayed.{kept_after, kept_after_all, replayed, verdict_of, verdict_on}

abbrev Coming : Type 0
Coming = Result Durable ReplayFault

bind_same : (r : Coming) → (r >>= λ now. Ok now) ≡ r
bind_same (Ok now) = refl
bind_same (Err fault) = refl

and_true : (b : Bool) → (b && true) ≡ b
and_true true = refl
and_true false = refl

and_false : (b : Bool) → (b && false) ≡ false
and_false true = refl
and_false false = refl

not_none : (first : List ℕ) (bodies : List (List ℕ)) → (length (first ∷ bodies) == 0) ≡ false
not_none first bodies = grind arith

-- all bodies, and then the one behind them
behind : (schema : Schema) (is_first : Bool) (kept : Durable) (bodies : List (List ℕ)) (body : List ℕ)
    → kept_after_all schema is_first kept (bodies ++ body ∷ []) ≡ (kept_after_all schema is_first kept bodies >>= λ now. kept_after schema (is_first && (length bodies == 0)) now body)
unfolding kept_after_all
behind schema is_first kept [] body =
    bind_same (kept_after schema is_first kept body) ∙ ap (λ b. kept_after schema b kept body) (sym (and_true is_first))
behind schema is_first kept (first ∷ bodies) body = by_first (λ now. behind schema false now bodies body) (kept_after schema is_first kept first)
  where
    by_first : ((now : Durable) → kept_after_all schema false now (bodies ++ body ∷ []) ≡ (kept_after_all schema false now bodies >>= λ m. kept_after schema false m body)) → (r : Coming)
        → (r >>= λ now. kept_after_all schema false now (bodies ++ body ∷ [])) ≡ ((r >>= λ now. kept_after_all schema false now bodies) >>= λ now. kept_after schema (is_first && (length (first ∷ bodies) == 0)) now body)
    by_first rest (Ok now) = rest now ∙ ap (λ b. kept_after_all schema false now bodies >>= λ m. kept_after schema b m body) (sym (ap (λ b. is_first && b) (not_none first bodies) ∙ and_false is_first))
    by_first rest (Err fault) = refl

-- no body comes to nothing
pub none_taken : (schema : Schema) → replayed schema [] ≡ Ok (nothing (length schema.types))
unfolding replayed kept_after_all
none_taken schema = refl

-- what bodies come to with one more, by what they came to
pub one_more : (schema : Schema) (taken : List (List ℕ)) (kept : Durable) (body : List ℕ) → replayed schema taken ≡ Ok kept → replayed schema (taken ++ body ∷ []) ≡ kept_after schema (length taken == 0) kept body
unfolding replayed
one_more schema taken kept body is =
    behind schema true (nothing (length schema.types)) taken body ∙ ap (λ r. r >>= λ now. kept_after schema (length taken == 0) now body) is

pub verdict_is : (schema : Schema) (taken : List (List ℕ)) (kept : Durable) (body : List ℕ) → replayed schema taken ≡ Ok kept → verdict_on schema taken body ≡ verdict_of (kept_after schema (length taken == 0) kept body)
unfolding verdict_on
verdict_is schema taken kept body is = ap verdict_of (one_more schema taken kept body is)

-- ---- one more body

-- an answer that is what the reading gives, or want of memory, is its verdict
answers : (view : Unit {0} → Durable) (r : Result (Unit {0}) ReplayFault) (coming : Coming) → GivesBut OutOfMemory view r coming → Answers r (verdict_of coming)
answers view (Ok x) coming gives = ap verdict_of gives
answers view (Err BadBytes) coming gives = ap verdict_of (gives (λ same. absurd (cc same)))
answers view (Err NotOfSchema) coming gives = ap verdict_of (gives (λ same. absurd (cc same)))
answers view (Err OutOfMemory) coming gives = tt

module _ (schema : Schema) (taken : List (List ℕ)) (kept now : Durable) (body : List ℕ) (r : Result (Unit {0}) ReplayFault) where
  pub answers_verdict : replayed schema taken ≡ Ok kept → GivesBut OutOfMemory (λ _. now) r (kept_after schema (length taken == 0) kept body) → Answers r (verdict_on schema taken body)
  answers_verdict is gives = subst (Answers r) (sym (verdict_is schema taken kept body is)) (answers (λ _. now) r (kept_after schema (length taken == 0) kept body) gives)

pub comes_to : (schema : Schema) (taken : List (List ℕ)) (kept now : Durable) (body : List ℕ) (r : Result (Unit {0}) ReplayFault)
    → replayed schema taken ≡ Ok kept → GivesBut OutOfMemory (λ _. now) r (kept_after schema (length taken == 0) kept body) → OnErr r (now ≡ kept) → replayed schema (taken_after r taken body) ≡ Ok now
comes_to schema taken kept now body (Ok x) is gives same = one_more schema taken kept body is ∙ gives
comes_to schema taken kept now body (Err fault) is gives same = is ∙ ap Ok (sym same)
