-- One event more behind others.
use Rattle.std.proofs.Common.{◌≡◌, ◌<◌, List, [], ◌∷◌, ◌++◌, length, take, All, Result, Ok, Err, refl, sym, ap, ◌∙◌, subst, append_assoc, length-append, arith}
use Rattle.std.proofs.Math.Seq.{take-append_seam, get_or-append_seam}
use Rattle.std.proofs.lemmas.Option.{get_or_from_slice_get}
use Rattle.std.proofs.lemmas.List.Elements.{All-head, All-tail}
use Rattle.std.proofs.lemmas.List.Sums.{fold-append}
use Rattle.feature_values.specs.declared.schema.Schema.{Schema}
use Rattle.wfs_world.specs.declared.event.Event.{Event}
use Rattle.wfs_world.specs.declared.event.Seen.{Seen}
use Rattle.wfs_world.specs.declared.event.WorldFault.{WorldFault}
use Rattle.wfs_world.specs.declared.event.WorldFault.TheVariants.{NotNow}
use Rattle.wfs_world.specs.Events.{MayHappen, happened, seen, IsEventOf, MayAllHappen, all_happened, all_seen}
use Rattle.wfs_world.specs.Happening.{Happens, AllHappen, Stops}
use Rattle.wfs_world.specs.Scene.{Scene}
use Rattle.wfs_world.proofs.Leading.{same_schema}

may_more : (w : Scene) (events : List Event) (event : Event) → MayAllHappen w events → MayHappen (all_happened w events) event → MayAllHappen w (events ++ event ∷ [])
may_more w [] event all may = (may, tt)
may_more w (e ∷ events) event all may = (all.0, may_more (happened w e) events event all.1 may)

pub all_more : (w now next : Scene) (events : List Event) (event : Event) → AllHappen w events now → MayHappen now event → next ≡ happened now event → AllHappen w (events ++ event ∷ []) next
all_more w now next events event all may is = record {
  may = may_more w events event all.may (subst (λ (v : Scene). MayHappen v event) all.left may);
  left = is ∙ ap (λ (v : Scene). happened v event) all.left ∙ sym (fold-append happened w events (event ∷ []));
}

seen_behind : (w : Scene) (events : List Event) (event : Event) → all_seen w (events ++ event ∷ []) ≡ all_seen w events ++ seen (all_happened w events) event ∷ []
seen_behind w [] event = refl
seen_behind w (e ∷ events) event = ap (λ l. seen w e ∷ l) (seen_behind (happened w e) events event)

-- what is seen with one event more
pub seen_more : (w now : Scene) (events : List Event) (event : Event) (one : Seen) (before after : List Seen) → AllHappen w events now → before ≡ all_seen w events → one ≡ seen now event → after ≡ before ++ one ∷ [] → after ≡ all_seen w (events ++ event ∷ [])
seen_more w now events event one before after all seens is next =
    next ∙ ap (λ (l : List Seen). l ++ one ∷ []) seens ∙ ap (λ (s : Seen). all_seen w events ++ s ∷ []) (is ∙ ap (λ (v : Scene). seen v event) all.left) ∙ sym (seen_behind w events event)

-- the events that are left, of a world that one more has changed
pub rest_of : (now next : Scene) (event : Event) (left rest : List Event) → left ≡ event ∷ rest → next ≡ happened now event → All (IsEventOf now.schema) left → All (IsEventOf next.schema) rest
rest_of now next event left rest is happens all =
    let schemas : next.schema ≡ now.schema = ap (λ (v : Scene). v.schema) happens ∙ same_schema now event in
    subst (λ (schema : Schema). All (IsEventOf schema) rest) (sym schemas)
    (All-tail (IsEventOf now.schema) event rest (subst (All (IsEventOf now.schema)) is all))

pub next_of : (now : Scene) (event : Event) (left rest : List Event) → left ≡ event ∷ rest → All (IsEventOf now.schema) left → IsEventOf now.schema event
next_of now event left rest is all = All-head (IsEventOf now.schema) event rest (subst (All (IsEventOf now.schema)) is all)

-- those before and those left are all
pub split_more : (before left rest events : List Event) (event : Event) → left ≡ event ∷ rest → before ++ left ≡ events → (before ++ event ∷ []) ++ rest ≡ events
split_more before left rest events event is split = append_assoc before (event ∷ []) rest ∙ ap (λ (l : List Event). before ++ l) (sym is) ∙ split

-- an event behind others may not happen, or there is no memory for it
pub stops : (w now next : Scene) (before left rest events : List Event) (event : Event) (fault : WorldFault) → AllHappen w before now → next ≡ now → left ≡ event ∷ rest → before ++ left ≡ events
    → (fault ≡ NotNow → MayHappen now event → ⊥) → Stops w events (Err fault) next
stops w now next before left rest events event fault all same is split not_now =
    let whole : events ≡ before ++ event ∷ rest = sym split ∙ ap (λ (l : List Event). before ++ l) is in
    subst (λ (l : List Event). Stops w l (Err fault) next) (sym whole) (record {
      count = length before;
      within = omega (arith, length-append before (event ∷ rest));
      front =
          subst (λ (v : Scene). AllHappen w (take (length before) (before ++ event ∷ rest)) v) (sym same)
          (subst (λ (l : List Event). AllHappen w l now) (sym (take-append_seam before (event ∷ rest))) all);
      not_now = λ said other at may.
          let fails : fault ≡ NotNow = cc in
          let same_event : other ≡ event = sym (get_or_from_slice_get (before ++ event ∷ rest) (length before) other event at) ∙ get_or-append_seam before event rest event in
          not_now fails (subst (λ (e : Event). MayHappen now e) same_event (subst (λ (v : Scene). MayHappen v other) same may));
    })

-- none has happened
pub stops_first : (w next : Scene) (events : List Event) (fault : WorldFault) → next ≡ w → 0 < length events → (fault ≡ NotNow → ⊥) → Stops w events (Err fault) next
stops_first w next events fault same some not_now = record {
  count = 0;
  within = some;
  front = record { may = tt; left = same };
  not_now = λ said other at may. let fails : fault ≡ NotNow = cc in not_now fails;
}

-- ---- what no call changes

pub happens_schema : (before now : Scene) (event : Event) (result : Result Seen WorldFault) → Happens before event result now → now.schema ≡ before.schema
happens_schema before now event (Ok s) h = ap (λ (v : Scene). v.schema) h.left ∙ same_schema before event
happens_schema before now event (Err fault) h = ap (λ (v : Scene). v.schema) h.err
