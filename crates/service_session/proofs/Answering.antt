-- The answers of a session with a store, and its tally.
use Rattle.std.proofs.Common.{ℕ, ◌+◌, List, [], ◌∷◌, Option, refl, sym, subst, arith}
use Rattle.std.proofs.lemmas.List.Sums.{sum_by-append, sum_by_push}
use Rattle.http_session.specs.declared.message.Message.{Message}
use Rattle.service_session.specs.declared.answered.Answered.{Answered}
use Rattle.service_session.specs.declared.ending.SessionEnd.{SessionEnd}
use Rattle.service_session.specs.Became.{IsTallied, TalliesAnswers}
use Rattle.service_session.specs.Session.{Point, begun, Reaches, here, on, Final, Finishes, input_ended, input_cut, refused, answered, read_failed, line_failed, answer_failed, refusal_failed, no_memory, memory_failed}
use Rattle.service_session.specs.Solo.{own_seat, StoreAnswers, by_bytes, stepped, only_read, out_of_memory, store_meaning}
use Rattle.service_session.specs.Told.{answers_to, answers_at, store_fault, store_faults}
use Rattle.service_session.proofs.Tallies.{tallied_none, tallied_both, tallied_by}
use Rattle.http_requests.specs.Verdicts.{entry_of}
use Rattle.wfs_ends.specs.Ends.{Shown}
use Rattle.wfs_store.specs.Held.{Held}

module _ {D : Type 0} (time : D → ℕ) (since : D → ℕ → List ℕ → Type 0) (faults : D → ℕ) where
  answer_tallied : (old : Held D) (m : Message) (moment : ℕ) (answer : Answered) (new : Held D) → StoreAnswers time since faults old m moment answer new → IsTallied old.tally (store_fault answer) new.tally
  answer_tallied old m moment answer new (by_bytes refusal asks) = tallied_none old.tally
  answer_tallied old m moment answer new (stepped request asks change result after is) = tallied_by old after (entry_of own_seat request m moment) refl result is.tallied
  answer_tallied old m moment answer new (only_read request asks reads) = tallied_none old.tally
  answer_tallied old m moment answer new out_of_memory = tallied_none old.tally

  one_tallied : (old : Held D) (m : Message) (moment : ℕ) (answer : Answered) (new : Held D) → StoreAnswers time since faults old m moment answer new → IsTallied old.tally (store_faults (answer ∷ [])) new.tally
  one_tallied old m moment answer new is = subst (λ n. IsTallied old.tally n new.tally) (omega arith) (answer_tallied old m moment answer new is)

  reaches_tallied : (p q : Point (Held D)) (reaches : Reaches (store_meaning time since faults) p q)
      → IsTallied p.service.tally (store_faults (answers_to (store_meaning time since faults) p q reaches)) q.service.tally
  reaches_tallied p q here = tallied_none p.service.tally
  reaches_tallied p q (on mid next before is) =
      let earlier : List Answered = answers_to (store_meaning time since faults) p mid before in
      subst (λ n. IsTallied p.service.tally n next.service.tally) (sym (sum_by_push store_fault earlier is.answer))
      (tallied_both p.service.tally mid.service.tally next.service.tally (store_faults earlier) (store_fault is.answer) (reaches_tallied p mid before)
      (answer_tallied mid.service is.sent is.moment is.answer next.service is.judged))

  finish_tallied : (p : Point (Held D)) (f : Final (Held D)) (finishes : Finishes (store_meaning time since faults) p f)
      → IsTallied p.service.tally (store_faults (answers_at (store_meaning time since faults) p f finishes)) f.service.tally
  finish_tallied p f (input_ended due next) = tallied_none p.service.tally
  finish_tallied p f (input_cut due next) = tallied_none p.service.tally
  finish_tallied p f (refused e due row next is_row) = tallied_none p.service.tally
  finish_tallied p f (answered q is) = one_tallied p.service is.sent is.moment is.answer q.service is.judged
  finish_tallied p f (read_failed taken rest due parts awaits) = tallied_none p.service.tally
  finish_tallied p f (line_failed taken rest front parts plan begins) = tallied_none p.service.tally
  finish_tallied p f (answer_failed closes q front is begins) = one_tallied p.service is.sent is.moment is.answer q.service is.judged
  finish_tallied p f (refusal_failed e due row front next is_row begins) = tallied_none p.service.tally
  finish_tallied p f (no_memory taken rest due parts plan) = tallied_none p.service.tally
  finish_tallied p f (memory_failed taken rest due front parts plan begins) = tallied_none p.service.tally

  -- however a session is told, its store faults are tallied
  pub tallies_answers : (old : Held D) (before : Shown) (end : SessionEnd) (new : Held D) (clock : Option (List ℕ)) (after : Shown) → TalliesAnswers time since faults old before end new clock after
  tallies_answers old before end new clock after input moments held =
      let first : List Answered = answers_to (store_meaning time since faults) (begun input moments old) held.point held.reaches in
      let last : List Answered = answers_at (store_meaning time since faults) held.point held.final held.finishes in
      let both : IsTallied old.tally (store_faults first + store_faults last) held.final.service.tally =
      tallied_both old.tally held.point.service.tally held.final.service.tally (store_faults first) (store_faults last) (reaches_tallied (begun input moments old) held.point held.reaches) (finish_tallied held.point held.final held.finishes) in
      subst (λ n. IsTallied old.tally n new.tally) (sym (sum_by-append store_fault first last))
      (subst (λ (s : Held D). IsTallied old.tally (store_faults first + store_faults last) s.tally) held.serves both)
