-- What workers did, once they have left their seats.
use Rattle.std.proofs.Common.{◌≡◌, ℕ, ◌<◌, List, [], ◌∷◌, length, map, get_or, Option, Some, refl, sym, ap, ◌∙◌, subst, arith}
use Rattle.std.specs.Prelude.{slice_get, IsSome, IsSomeAnd, All}
use Rattle.std.specs.List.{AllZip}
use Rattle.std.specs.Option.{option_map}
use Rattle.std.proofs.lemmas.Option.{same_Some, slice_get_within, slice_get-get_or, get_or_from_slice_get, slice_get-map, MatchOption-at_some}
use Rattle.std.proofs.lemmas.Slice.Zip.{AllZip-right, AllZip-long}
use Rattle.std.proofs.lemmas.List.{length-map}
use Rattle.atomic_table.specs.Seated.{TableId}
use Rattle.feature_values.specs.declared.schema.Schema.{Schema}
use Rattle.service_doors.specs.Accepting.{Accepting}
use Rattle.session_workers.specs.declared.ending.WorkerEnd.{WorkerEnd}
use Rattle.session_workers.specs.declared.worker.Worker.{Worker}
use Rattle.session_workers.specs.Workers.{HasWorked}
use Rattle.session_workers.specs.Working.{IsWorked, Stand, stand}
use Rattle.service_session.specs.declared.service.Service.{Ghosts as Meaning}
use Rattle.snapshot_reads.specs.declared.book.Pair.{Pair}
use Rattle.store_server.specs.declared.slot.Ended.{Ended}
use Rattle.store_server.specs.declared.slot.Slot.{Slot}
use Rattle.store_server.specs.Seating.{worker_of, workers_at, HasLeft, HaveWorked}
use Rattle.store_server.specs.Serving.{desk_at, Works}
use Rattle.store_server.proofs.Lists.{zip_by-get, length-zip_by, get_within}
use Rattle.shared_store.specs.declared.counter.Counter.{Counter}
use Rattle.shared_store.specs.Knowing.{Known}
use Rattle.shared_store.specs.Seats.{Seated, SeatLeads, desk_meaning}

-- the same work, told of other names for the same
same_work : {S : Type 0} (mean : Meaning S) (limit : Option ℕ) (p p' : Stand S) (a a' : Accepting) (e e' : WorkerEnd) (q q' : Stand S) (b b' : Accepting)
    → p ≡ p' → a ≡ a' → e ≡ e' → q ≡ q' → b ≡ b' → IsWorked mean limit p a e q b → IsWorked mean limit p' a' e' q' b'
same_work {S} mean limit p p' a a' e e' q q' b b' pp aa ee qq bb h =
    let h1 = subst (λ (x : Stand S). IsWorked mean limit x a e q b) pp h in
    let h2 = subst (λ (x : Accepting). IsWorked mean limit p' x e q b) aa h1 in
    let h3 = subst (λ (x : WorkerEnd). IsWorked mean limit p' a' x q b) ee h2 in
    let h4 = subst (λ (x : Stand S). IsWorked mean limit p' a' e' x b) qq h3 in
    subst (λ (x : Accepting). IsWorked mean limit p' a' e' q' x) bb h4

-- a desk is told by its parts
desk_parts : {D : Type 0} (name : TableId) (schema : Schema) (s : Seated D) → s.name ≡ name → s.schema ≡ schema → s ≡ desk_at name schema s.past s.found
desk_parts name schema s same of_schema = ap (λ (n : TableId). desk_at n s.schema s.past s.found) same ∙ ap (λ (x : Schema). desk_at name x s.past s.found) of_schema

-- as many workers have run as there are slots
pub seated_many : {A C G D : Type 0} (name : TableId) (schema : Schema) (slots : List (Slot A C G)) (old : List (Known D)) (sat : List (Worker (Seated D) A C G)) (n : ℕ) (ran : List (Worker (Seated D) A C G))
    → length old ≡ length slots → sat ≡ workers_at name schema slots old → length ran ≡ n → n ≡ length sat → length ran ≡ length slots
seated_many {A} {C} {G} {D} name schema slots old sat n ran seats seated kept many =
    kept ∙ (many ∙ (ap length seated ∙ length-zip_by (λ (o : Slot A C G) (p : Known D). worker_of (desk_at name schema p []) o) slots old (sym seats)))

module _ {A C G D : Type 0} (accepting : A → Accepting) (moments : C → Option (List ℕ)) (limit : Option ℕ) where
  -- one worker
  works : (name : TableId) (schema : Schema) (slot : Slot A C G) (before : Known D) (w0 w1 : Worker (Seated D) A C G) (left : Ended A C G)
      → w0 ≡ worker_of (desk_at name schema before []) slot → HasWorked desk_meaning accepting moments limit w0 w1 → HasLeft w1 left
      → Works accepting moments limit name schema slot before left w1.service.past w1.service.found × (w1.service.name ≡ name)
  works name schema slot before w0 w1 left at did has =
      let leads : SeatLeads w0.service w1.service = did.worked.becomes.leads in
      let first = ap (λ (w : Worker (Seated D) A C G). w.service) at in
      let named : w1.service.name ≡ name = leads.name ∙ ap (λ (s : Seated D). s.name) first in
      let desk = desk_parts name schema w1.service named (leads.schema ∙ ap (λ (s : Seated D). s.schema) first) in
      let clock = ap (λ (s : Slot A C G). moments s.clock) (sym has.slot) in (
        same_work desk_meaning limit _ _ _ _ _ _ _ _ _ _ (ap (λ (w : Worker (Seated D) A C G). stand w.service (moments w.clock)) at)
            (ap (λ (w : Worker (Seated D) A C G). accepting w.acceptor) at) (same_Some did.end left.end (sym did.kept ∙ has.end))
            (ap (λ (s : Seated D). stand s (moments w1.clock)) desk ∙ ap (stand (desk_at name schema w1.service.past w1.service.found)) clock)
            (ap (λ (s : Slot A C G). accepting s.acceptor) (sym has.slot)) did.worked,
        named,
      )

  -- workers that ran in a slice, as they stand in the list that lent it
  pub ran_at : (lent sat : List (Worker (Seated D) A C G)) (w1 back all : List (Worker (Seated D) A C G)) → lent ≡ sat → sat ≡ all → back ≡ w1
      → ((i : ℕ) (d : Worker (Seated D) A C G) → i < length lent → HasWorked desk_meaning accepting moments limit (get_or lent i d) (get_or w1 i d))
      → (i : ℕ) (d : Worker (Seated D) A C G) → i < length all → HasWorked desk_meaning accepting moments limit (get_or all i d) (get_or back i d)
  ran_at lent sat w1 back all shown seated same ran =
      let from = subst (λ (l : List (Worker (Seated D) A C G)). (i : ℕ) (d : Worker (Seated D) A C G) → i < length l → HasWorked desk_meaning accepting moments limit (get_or l i d) (get_or w1 i d)) (shown ∙ seated) ran in
      subst (λ (l : List (Worker (Seated D) A C G)). (i : ℕ) (d : Worker (Seated D) A C G) → i < length all → HasWorked desk_meaning accepting moments limit (get_or all i d) (get_or l i d)) (sym same) from

  -- all of them
  module _ (name : TableId) (schema : Schema) (slots : List (Slot A C G)) (old : List (Known D)) (w1 : List (Worker (Seated D) A C G)) (seats : length old ≡ length slots) (long : length w1 ≡ length slots)
      (run : (i : ℕ) (d : Worker (Seated D) A C G) → i < length (workers_at name schema slots old)
      → HasWorked desk_meaning accepting moments limit (get_or (workers_at name schema slots old) i d) (get_or w1 i d)) where
    one_worked : (k : ℕ) (slot : Slot A C G) (before : Known D) (w : Worker (Seated D) A C G) → slice_get slots k ≡ Some slot → slice_get old k ≡ Some before → slice_get w1 k ≡ Some w
        → HasWorked desk_meaning accepting moments limit (worker_of (desk_at name schema before []) slot) w
    one_worked k slot before w s b a =
        let w0 : Worker (Seated D) A C G = worker_of (desk_at name schema before []) slot in
        let all = workers_at name schema slots old in
        let at0 : slice_get all k ≡ Some w0 = zip_by-get (λ (o : Slot A C G) (p : Known D). worker_of (desk_at name schema p []) o) slots old k slot before s b in
        let raw = run k w0 (slice_get_within all k w0 at0) in
        let to = subst (λ (x : Worker (Seated D) A C G). HasWorked desk_meaning accepting moments limit x (get_or w1 k w0)) (get_or_from_slice_get all k w0 w0 at0) raw in
        subst (λ (x : Worker (Seated D) A C G). HasWorked desk_meaning accepting moments limit w0 x) (get_or_from_slice_get w1 k w w0 a) to

    -- the worker at a place, with what it was given
    at_place : (k : ℕ) (d : Worker (Seated D) A C G) → k < length w1
        → (slot : Slot A C G) × (before : Known D) × HasWorked desk_meaning accepting moments limit (worker_of (desk_at name schema before []) slot) (get_or w1 k d)
    at_place k d h =
        let slot = get_within slots k (omega arith) in
        let before = get_within old k (omega arith) in
        (slot.0, before.0, one_worked k slot.0 before.0 (get_or w1 k d) slot.1 before.1 (slice_get-get_or w1 k d h))

    pub all_named : All (λ (w : Worker (Seated D) A C G). w.service.name ≡ name) w1
    all_named k d h = let did = (at_place k d h).2 in did.worked.becomes.leads.name

    pub all_began : (first : Counter D) → All (λ (p : Known D). p.origin ≡ first ∷ []) old → All (λ (w : Worker (Seated D) A C G). w.service.past.origin ≡ first ∷ []) w1
    all_began first began k d h =
        let slot = get_within slots k (omega arith) in
        let before = get_within old k (omega arith) in
        let inside = slice_get_within old k before.0 before.1 in
        let its : before.0.origin ≡ first ∷ [] = subst (λ (p : Known D). p.origin ≡ first ∷ []) (get_or_from_slice_get old k before.0 before.0 before.1) (began k before.0 inside) in
        let did = one_worked k slot.0 before.0 (get_or w1 k d) slot.1 before.1 (slice_get-get_or w1 k d h) in
        did.worked.becomes.leads.knows.origin ∙ its

    pub all_ended : All (λ (w : Worker (Seated D) A C G). IsSome w.end) w1
    all_ended k d h = let did = (at_place k d h).2 in subst IsSome (sym did.kept) refl

    pub have_worked : (ended : List (Ended A C G)) (new : List (Known D)) (found : List (List Pair)) → AllZip HasLeft w1 ended → new ≡ map (λ (w : Worker (Seated D) A C G). w.service.past) w1
        → found ≡ map (λ (w : Worker (Seated D) A C G). w.service.found) w1 → HaveWorked accepting moments limit name schema slots old ended new found
    have_worked ended new found left told views = record {
      as_many = AllZip-long HasLeft w1 ended left ∙ long;
      seats = ap length told ∙ (length-map w1 (λ (w : Worker (Seated D) A C G). w.service.past) ∙ long);
      views = ap length views ∙ (length-map w1 (λ (w : Worker (Seated D) A C G). w.service.found) ∙ long);
      each = λ k slot before end after pairs s b e a f.
          let known : Worker (Seated D) A C G → Known D = λ w. w.service.past in
          let viewed : Worker (Seated D) A C G → List Pair = λ w. w.service.found in
          let h : k < length w1 = let i = slice_get_within slots k slot s in omega arith in
          let w = get_within w1 k h in
          let has : HasLeft w.0 end = let both = MatchOption-at_some (Unit {0}) (λ (y : Ended A C G). IsSomeAnd (slice_get w1 k) (λ (x : Worker (Seated D) A C G). HasLeft x y)) end e (AllZip-right HasLeft w1 ended left k) in
          subst (λ (o : Option (Worker (Seated D) A C G)). IsSomeAnd o (λ (x : Worker (Seated D) A C G). HasLeft x end)) w.1 both in
          let there : after ≡ w.0.service.past = same_Some after (known w.0) (sym a ∙ (ap (λ (l : List (Known D)). slice_get l k) told ∙ (slice_get-map known w1 k ∙ ap (option_map known) w.1))) in
          let its : pairs ≡ w.0.service.found = same_Some pairs (viewed w.0) (sym f ∙ (ap (λ (l : List (List Pair)). slice_get l k) views ∙ (slice_get-map viewed w1 k ∙ ap (option_map viewed) w.1))) in
          let did = (works name schema slot before (worker_of (desk_at name schema before []) slot) w.0 end refl (one_worked k slot before w.0 s b w.1) has).0 in
          subst (λ (l : List Pair). Works accepting moments limit name schema slot before end after l) (sym its)
          (subst (λ (p : Known D). Works accepting moments limit name schema slot before end p w.0.service.found) (sym there) did);
    }
