-- What a viewer found published, as an answer of a seat.
use Rattle.std.proofs.Common.{◌≡◌, inl, inr, ℕ, ◌≤◌, List, [], ◌∷◌, ◌++◌, Option, Some, None, Result, Ok, Err, refl, sym, ap, ◌∙◌, subst, arith}
use Rattle.std.specs.Prelude.{All, IfSome}
use Rattle.std.proofs.lemmas.Option.{same_Some}
use Rattle.std.proofs.lemmas.List.Elements.{All-pop}
use Rattle.feature_values.specs.declared.schema.Schema.{Schema}
use Rattle.http_session.specs.declared.message.Message.{Message}
use Rattle.http_requests.specs.Asks.{asked}
use Rattle.service_session.specs.declared.answered.Answered.{Answered}
use Rattle.service_session.specs.declared.answered.Answered.TheVariants as answered
use Rattle.snapshot_reads.specs.declared.book.Pair.{Pair}
use Rattle.snapshot_reads.specs.declared.viewer.Viewed.{Viewed}
use Rattle.snapshot_reads.specs.declared.viewer.Viewed.TheVariants.{Answer, Behind, Gone}
use Rattle.snapshot_reads.specs.Pairs.{IsPairOf}
use Rattle.snapshot_reads.specs.declared.viewer.Viewer.{Viewer}
use Rattle.snapshot_reads.specs.Viewers.{IsSame, ReadsAs, schema_of}
use Rattle.shared_store.specs.declared.counter.Counter.{Counter}
use Rattle.shared_store.specs.Counters.{IsViewerAt, IsViewerOf}
use Rattle.shared_store.specs.Knowing.{Known}
use Rattle.shared_store.specs.Published.{FindsOne}
use Rattle.shared_store.specs.Seats.{IsOfOpening, HasViewer, AnswersBy}
use Rattle.shared_store.specs.Turns.{HasLooked, published}
use Rattle.shared_store.proofs.Taken.{first_schema, knows_looks}
use Rattle.turnstile_core.specs.Steps.{saw}
use Rattle.wfs_ends.specs.declared.fault.OutOfMemory.{OutOfMemory}
use Rattle.wfs_model.specs.declared.reply.Reply.{Reply}
use Rattle.wfs_model.specs.declared.request.Request.{Request}
use Rattle.wfs_model.specs.Changing.{IsChange}
use Rattle.wfs_model.specs.Read.{read}
use Rattle.wfs_model.specs.State.{clamped}

module _ (told moment : ℕ) (request : Request) (before after : List Pair) where
  -- whatever a read gives, the viewer found one pair at the most
  pub finds_one : (r : Result Viewed OutOfMemory) → ReadsAs told moment request before r after → FindsOne before after
  finds_one (Ok (Answer reply front)) is = inr (is.0, is.1.grown)
  finds_one (Ok (Behind front)) is = inr (is.0, is.1.grown)
  finds_one (Ok Gone) is = inl is
  finds_one (Err e) is = inr (is.0, is.1.grown)

  -- an answer, where its front is shown
  pub answers_published : {D : Type 0} (schema : Schema) (p q : Known D) (m : Message) (answer : Answered) (reply : Reply) (front shown : ℕ) → IsOfOpening schema p → asked m schema ≡ Ok request
      → (IsChange request → ⊥) → p.front ≤ told → All (IsPairOf schema) after → ReadsAs told moment request before (Ok (Answer reply front)) after → answer ≡ answered.Reply reply → front ≤ shown → q ≡ saw p shown
      → AnswersBy p before m moment answer q after
  answers_published schema p q m answer reply front shown of asks reads low pairs is answer_is below knows first origin =
      let pair : Pair = is.0 in
      let tells = is.2 in
      let there : All (IsPairOf schema) (before ++ pair ∷ []) = subst (All (IsPairOf schema)) is.1.grown pairs in
      let its : pair.content.schema ≡ schema = (last_of before pair there).of in
      let opening : first.store.schema ≡ schema = first_schema schema p first of origin in
      let told_reply : reply ≡ read first.store.schema pair.content.kept (clamped moment) request = rw (opening, sym its) tells.0 in
      published request pair shown (rw opening asks) reads (answer_is ∙ ap (λ (r : Reply). answered.Reply r) told_reply) (omega (arith, tells.1, tells.2)) (omega (arith, tells.1)) knows is.1.grown
    where
      last_of : (xs : List Pair) (x : Pair) → All (IsPairOf schema) (xs ++ x ∷ []) → IsPairOf schema x
      last_of xs x all = (All-pop (IsPairOf schema) (xs ++ x ∷ []) xs (Some x) refl all).1

  -- the same of what is answered, where anything is
  pub answered_if : {D : Type 0} (schema : Schema) (p q : Known D) (m : Message) (reply : Reply) (front : ℕ) (r : Option Answered) → IsOfOpening schema p → asked m schema ≡ Ok request
      → (IsChange request → ⊥) → p.front ≤ told → All (IsPairOf schema) after → ReadsAs told moment request before (Ok (Answer reply front)) after → q ≡ saw p q.shown
      → IfSome r (λ answer. (answer ≡ answered.Reply reply) × (front ≤ q.shown)) → IfSome r (λ answer. AnswersBy p before m moment answer q after)
  answered_if schema p q m reply front None of asks reads low pairs is knows told_of = tt
  answered_if schema p q m reply front (Some answer) of asks reads low pairs is knows told_of =
      answers_published schema p q m answer reply front q.shown of asks reads low pairs is told_of.0 told_of.1 knows

-- ---- viewers

pub same_both : (a b c : Viewer) → IsSame a b → IsSame b c → IsSame a c
same_both a b c h k = record { history = k.history ∙ h.history; of = k.of ∙ h.of }

-- a viewer of the same publisher views what this one publishes
pub at_same : {D : Type 0} (c : Counter D) (v v' : Viewer) → IsSame v v' → v.seen.book ≡ c.publisher.seen.book → IsViewerAt c (Some v')
at_same c v v' same is u e = subst (λ (w : Viewer). w.seen.book ≡ c.publisher.seen.book) (same_Some v' u e) (same.history ∙ is)

pub of_same : (schema : Schema) (v v' : Viewer) → IsSame v v' → schema_of v ≡ schema → IsViewerOf schema (Some v')
of_same schema v v' same is u e = subst (λ (w : Viewer). schema_of w ≡ schema) (same_Some v' u e) (same.of ∙ is)

-- a desk's viewer that has read goes on to be the viewer of a desk whose seat has looked
pub viewer_looked : {D : Type 0} (schema : Schema) (p q : Known D) (viewer : Option Viewer) (v v' : Viewer) → viewer ≡ Some v → HasViewer schema p viewer → IsSame v v' → HasLooked p q → HasViewer schema q (Some v')
viewer_looked schema p q viewer v v' is has same looked = record {
  of = of_same schema v v' same (has.of v is);
  at = λ first origin. at_same first v v' same (has.at first (sym (knows_looks p q looked).origin ∙ origin) v is);
}
