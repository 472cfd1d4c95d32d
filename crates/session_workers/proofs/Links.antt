-- A worker, link by link.
use Rattle.std.proofs.Common.{◌≡◌, ℕ, ◌+◌, ◌-◌, ◌<◌, ◌≤◌, true, List, [], ◌∷◌, ◌++◌, length, Option, Some, None, inl, inr, refl, ap, sym, subst, ◌∙◌, append_assoc, length-append, arith}
use Rattle.std.specs.Prelude.{map, Result, Ok, Err, IfSome}
use Rattle.std.proofs.lemmas.List.{append-nil, map-append}
use Rattle.wfs_ends.specs.Ends.{Shown, Gives, Rose, last_count, capped, risen}
use Rattle.wfs_ends.specs.declared.fault.OutOfMemory.{OutOfMemory}
use Rattle.reply_documents.specs.Refusals.{fixed_text}
use Rattle.service_doors.specs.Accepting.{Accepting, HandsOut, HasNoLink, HasFailed, led_by, followed_by, with_finished}
use Rattle.service_session.specs.declared.ending.SessionEnd.{SessionEnd}
use Rattle.service_session.specs.declared.service.Service.{Ghosts as Meaning}
use Rattle.service_session.specs.Session.{Becomes}
use Rattle.session_workers.specs.declared.ending.WorkerEnd.TheVariants as end
use Rattle.session_workers.specs.Working.{Stand, Visit, SaysNoMemory, IsVisit, Visits, none, one_more, all_led_by, all_followed_by, Passes, most_links, IsWorked, Serves}

-- ---- the acceptor

led_by_none : (links : Option (List Shown)) → links ≡ all_led_by [] links
led_by_none None = refl
led_by_none (Some links) = refl

led_by_more : (xs : List Shown) (x : Shown) (links : Option (List Shown)) → all_led_by xs (led_by x links) ≡ all_led_by (xs ++ x ∷ []) links
led_by_more xs x None = refl
led_by_more xs x (Some links) = ap Some (sym (append_assoc xs (x ∷ []) links))

followed_by_none : (links : Option (List Shown)) → links ≡ all_followed_by links []
followed_by_none None = refl
followed_by_none (Some links) = ap Some (sym (append-nil links))

followed_by_more : (links : Option (List Shown)) (xs : List Shown) (x : Shown) → followed_by (all_followed_by links xs) x ≡ all_followed_by links (xs ++ x ∷ [])
followed_by_more None xs x = refl
followed_by_more (Some links) xs x = ap Some (append_assoc links xs (x ∷ []))

-- the link that an acceptor gave
pub first_handed : {L : Type 0} (source : L → Shown) (old new : Accepting) (given : Option L) (link : L) → given ≡ Some link → IfSome given (λ l. HandsOut old (source l) new) → HandsOut old (source link) new
first_handed {L = L} source old new given link e h = subst (λ (o : Option L). IfSome o (λ l. HandsOut old (source l) new)) e h

one_out : (n : ℕ) → n < last_count → risen n - 1 ≡ n
one_out n few = omega (arith, few)

counted : (n k : ℕ) → risen (capped (n + k)) ≡ capped (n + (k + 1))
counted n k = omega arith

uncounted : (n : ℕ) → n ≤ last_count → n ≡ capped (n + 0)
uncounted n few = omega (arith, few)

passes_none : (a : Accepting) → Passes a [] a
passes_none a = record {
  handed = led_by_none a.left;
  done = followed_by_none a.done;
  out = λ few. refl;
  finished = uncounted a.finished;
}

passes_more : (old mid out new : Accepting) (vs : List Visit) (v : Visit) → Passes old vs mid → HandsOut mid v.before out → new ≡ with_finished out v.after → Passes old (vs ++ v ∷ []) new
passes_more old mid out new vs v p h f = record {
  handed = p.handed ∙ ap (all_led_by (map (λ (w : Visit). w.before) vs)) (h.left ∙ ap (led_by v.before) (sym (ap (λ (a : Accepting). a.left) f)))
      ∙ led_by_more (map (λ (w : Visit). w.before) vs) v.before new.left ∙ ap (λ (xs : List Shown). all_led_by xs new.left) (sym (map-append (λ (w : Visit). w.before) vs (v ∷ [])));
  done = ap (λ (a : Accepting). a.done) f ∙ ap (λ (o : Option (List Shown)). followed_by o v.after) (h.done ∙ p.done)
      ∙ followed_by_more old.done (map (λ (w : Visit). w.after) vs) v.after ∙ ap (all_followed_by old.done) (sym (map-append (λ (w : Visit). w.after) vs (v ∷ [])));
  out = λ few. ap (λ (a : Accepting). a.out) f ∙ ap (λ (n : ℕ). n - 1) (h.out ∙ ap risen (p.out few)) ∙ one_out old.out few;
  finished = λ few. ap (λ (a : Accepting). a.finished) f ∙ ap risen (h.finished ∙ p.finished few)
      ∙ counted old.finished (length vs) ∙ ap (λ (n : ℕ). capped (old.finished + n)) (sym (length-append vs (v ∷ [])));
}

-- a failed call changes nothing of that
passes_still : (old mid new : Accepting) (vs : List Visit) → Passes old vs mid → new ≡ record mid { faults = new.faults } → Passes old vs new
passes_still old mid new vs p e = record {
  handed = p.handed ∙ ap (all_led_by (map (λ (w : Visit). w.before) vs)) (sym (ap (λ (a : Accepting). a.left) e));
  done = ap (λ (a : Accepting). a.done) e ∙ p.done;
  out = λ few. ap (λ (a : Accepting). a.out) e ∙ p.out few;
  finished = λ few. ap (λ (a : Accepting). a.finished) e ∙ p.finished few;
}

-- ---- a link without a session

-- the refusal was given, whole or in part
pub said_so : {E : Type 0} (r : Result (Unit {0}) E) (before after : Shown) → Gives r before (fixed_text 27 true) after → SaysNoMemory before after
said_so (Ok _) before after g = inl g
said_so (Err _) before after g = inr g

-- ---- between two links

pub record UnderWay {S : Type 0} (mean : Meaning S) (limit : Option ℕ) (p : Stand S) (old : Accepting) (left : ℕ) (q : Stand S) (mid : Accepting) : Type 0 where
  pub visits : List Visit
  pub visited : Visits mean p visits q
  pub passes : Passes old visits mid
  pub count : length visits + left ≡ most_links limit
  pub faults : mid.faults ≡ old.faults
  pub becomes : Becomes mean p.service q.service

pub begins : {S : Type 0} (mean : Meaning S) (limit : Option ℕ) (p : Stand S) (old : Accepting) (left : ℕ) → mean.leads p.service p.service → left ≡ most_links limit → UnderWay mean limit p old left p old
begins mean limit p old left leads e = record {
  visits = [];
  visited = none;
  passes = passes_none old;
  count = omega (arith, e);
  faults = refl;
  becomes = record { leads = leads; schema = refl };
}

became : {S : Type 0} (mean : Meaning S) (p : Stand S) (before : Shown) (e : Result SessionEnd OutOfMemory) (after : Shown) (q : Stand S) → mean.leads p.service p.service → IsVisit mean p before e after q → Becomes mean p.service q.service
became {S = S} mean p before (Ok e) after q stays v = v.becomes
became {S = S} mean p before (Err fault) after q stays v = record { leads = subst (λ (r : Stand S). mean.leads p.service r.service) (sym v.1) stays; schema = ap (λ (r : Stand S). mean.schema r.service) v.1 }

fewer : (k left most : ℕ) → k + left ≡ most → 0 < left → k < most
fewer k left most e some = omega (arith, e, some)

one_less : (k left most n : ℕ) → k + left ≡ most → 0 < left → n ≡ k + 1 → n + (left - 1) ≡ most
one_less k left most n e some more = omega (arith, e, some, more)

module _ {S : Type 0} (mean : Meaning S) (limit : Option ℕ) (p : Stand S) (old : Accepting) (left : ℕ) (q : Stand S) (mid : Accepting) (way : UnderWay mean limit p old left q mid) (r : Stand S) (new : Accepting) where
  pub goes_on : ((s : S) → mean.leads s s) → ((x y z : S) → mean.leads x y → mean.leads y z → mean.leads x z) → 0 < left → Serves mean q mid r new → UnderWay mean limit p old (left - 1) r new
  goes_on stays follows some s = let more = became mean q s.visit.before s.visit.end s.visit.after r (stays q.service) s.visited in record {
    visits = way.visits ++ s.visit ∷ [];
    visited = one_more way.visits q s.visit r way.visited s.visited;
    passes = passes_more old mid s.out new way.visits s.visit way.passes s.handed s.finished;
    count = one_less (length way.visits) left (most_links limit) (length (way.visits ++ s.visit ∷ [])) way.count some (length-append way.visits (s.visit ∷ []));
    faults = ap (λ (a : Accepting). a.faults) s.finished ∙ s.handed.faults ∙ way.faults;
    becomes = record { leads = follows p.service q.service r.service way.becomes.leads more.leads; schema = more.schema ∙ way.becomes.schema };
  }

  pub has_no_more : 0 < left → HasNoLink mid new × (r ≡ q) → IsWorked mean limit p old end.NoMore r new
  has_no_more some h = record {
    visits = way.visits;
    visited = subst (Visits mean p way.visits) (sym h.1) way.visited;
    passes = subst (Passes old way.visits) (sym h.0.same) way.passes;
    ended = (fewer (length way.visits) left (most_links limit) way.count some, ap (λ (a : Accepting). a.left) h.0.same ∙ h.0.none, ap (λ (a : Accepting). a.faults) h.0.same ∙ way.faults);
    becomes = subst (λ (t : Stand S). Becomes mean p.service t.service) (sym h.1) way.becomes;
  }

  pub has_failed : 0 < left → HasFailed mid new × (r ≡ q) → IsWorked mean limit p old end.AcceptFault r new
  has_failed some h = record {
    visits = way.visits;
    visited = subst (Visits mean p way.visits) (sym h.1) way.visited;
    passes = passes_still old mid new way.visits way.passes h.0.same;
    ended = (fewer (length way.visits) left (most_links limit) way.count some, subst (λ (n : ℕ). Rose n new.faults) way.faults h.0.cause);
    becomes = subst (λ (t : Stand S). Becomes mean p.service t.service) (sym h.1) way.becomes;
  }

none_left : (k left most : ℕ) → k + left ≡ most → left ≤ 0 → k ≡ most
none_left k left most e empty = omega (arith, e, empty)

pub has_all : {S : Type 0} (mean : Meaning S) (limit : Option ℕ) (p : Stand S) (old : Accepting) (left : ℕ) (q : Stand S) (mid : Accepting) → UnderWay mean limit p old left q mid → left ≤ 0 → IsWorked mean limit p old end.LimitReached q mid
has_all mean limit p old left q mid way none_more = record {
  visits = way.visits;
  visited = way.visited;
  passes = way.passes;
  ended = (none_left (length way.visits) left (most_links limit) way.count none_more, way.faults);
  becomes = way.becomes;
}
