-- The same types with the same features, and with no less room.
use Rattle.std.proofs.Common.{◌≡◌, ℕ, suc, ◌+◌, ◌<◌, ◌≤◌, Bool, true, false, List, [], ◌∷◌, ◌++◌, length, get_or, All, Result, Ok, Err, refl, sym, ap, ◌∙◌, subst, arith}
use Rattle.std.specs.Prelude.{OnOk, nat_lt}
use Rattle.std.proofs.lemmas.List.{length-map, get_or_append_left, get_or_at, get_or_default}
use Rattle.std.proofs.lemmas.Bool.Decides.{nat_tests}
use Rattle.feature_values.specs.declared.feature.Feature.{Feature}
use Rattle.feature_values.specs.declared.schema.Schema.{Schema}
use Rattle.wfs_model.specs.declared.change.Part.{Part}
use Rattle.wfs_model.specs.declared.change.Part.TheVariants.{Put, Remove}
use Rattle.wfs_model.specs.declared.change.Change.{Change}
use Rattle.wfs_model.specs.declared.change.Change.TheVariants.{Opening, Rows, Created, Dropped, Base}
use Rattle.wfs_model.specs.declared.stored.StoredQuery.{StoredQuery}
use Rattle.wfs_model.specs.Kept.{IsKept}
use Rattle.wfs_model.specs.State.{Durable}
use Rattle.wfs_model.specs.Stored.{created}
use Rattle.wfs_model.proofs.Stepping.{created_all}
use Rattle.feature_versions.specs.declared.reserving.Need.{Need}
use Rattle.feature_versions.specs.Held.{most, kept_in, room_in, IsHeld}
use Rattle.feature_versions.specs.Layer.{Layered}
use Rattle.feature_versions.specs.Needs.{AreNeeds, AreMet}
use Rattle.feature_versions.specs.Reserved.{of_type, all_put, HasRoom, IsReserved}
use Rattle.feature_versions.specs.Types.{features_of, AreTyped, room_of, IsAlike, AreAlike, AreRoomier}
use Rattle.feature_versions.proofs.Holds.{get_room}

-- ---- features

all_alike : (old new : List Layered) → length new ≡ length old → ((k : ℕ) (d : Layered) → k < length old → IsAlike (get_or old k d) (get_or new k d)) → features_of new ≡ features_of old
all_alike [] [] count each = refl
all_alike [] (layer ∷ new) count each = absurd (omega (arith, count))
all_alike (layer ∷ old) [] count each = absurd (omega (arith, count))
all_alike (layer ∷ old) (other ∷ new) count each =
    let rest = all_alike old new (omega (arith, count)) (λ k d lt. each (suc k) d (omega (arith, lt))) in
    let first = (each 0 layer (omega arith)).features in
    ap (λ (fs : List Feature). fs ++ features_of new) first ∙ ap (λ (fs : List Feature). layer.features ++ fs) rest

pub alike_features : (old new : List Layered) → AreAlike old new → features_of new ≡ features_of old
alike_features old new alike = all_alike old new alike.types alike.each

pub alike_typed : (old new : List Layered) → AreAlike old new → AreTyped old → AreTyped new
alike_typed old new alike typed k d lt =
    let there : k < length old = (let same = alike.types in omega (arith, lt, same)) in
    let one : IsAlike (get_or old k d) (get_or new k d) = alike.each k d there in
    record { is = one.kind ∙ (typed k d there).is; own = subst (All (λ f. f.id.kind ≡ k)) (sym one.features) (typed k d there).own }

-- one more type is copied
pub copied_more : (old copies : List Layered) (i : ℕ) (layer copy : Layered) → i < length old → length copies ≡ i → layer ≡ get_or old i layer → IsAlike layer copy → ((k : ℕ) (d : Layered) → k < i → IsAlike (get_or old k d) (get_or copies k d))
    → (k : ℕ) (d : Layered) → k < i + 1 → IsAlike (get_or old k d) (get_or (copies ++ copy ∷ []) k d)
copied_more old copies i layer copy within count is alike each k d lt = at (nat_lt k i) refl
  where
    at : (b : Bool) → nat_lt k i ≡ b → IsAlike (get_or old k d) (get_or (copies ++ copy ∷ []) k d)
    at true less =
        let below : k < i = grind (arith, nat_tests, less) in
        let there : k < length copies = omega (arith, below, count) in
        subst (IsAlike (get_or old k d)) (sym (get_or_append_left copies (copy ∷ []) d k there)) (each k d below)
    at false more =
        let same : k ≡ i = grind (arith, nat_tests, more, lt) in
        let read : get_or old k d ≡ layer = ap (λ (j : ℕ). get_or old j d) same ∙ get_or_default old i d layer within ∙ sym is in
        let last : get_or (copies ++ copy ∷ []) k d ≡ copy = get_or_at copies copy [] d k (count ∙ sym same) in
        subst (λ (l : Layered). IsAlike l (get_or (copies ++ copy ∷ []) k d)) (sym read) (subst (IsAlike layer) (sym last) alike)

-- ---- all that is kept

pub kept_same : (old new : List Layered) (counters now : List ℕ) (stored other : List StoredQuery) (opening : ℕ) → AreAlike old new → now ≡ counters → other ≡ stored → kept_in new now other opening ≡ kept_in old counters stored opening
kept_same old new counters now stored other opening alike is same =
    ap (λ (fs : List Feature). (let k : Durable = record { features = fs; counters = now; stored = other; opening = opening } in k)) (alike_features old new alike)
    ∙ ap (λ (cs : List ℕ). kept_in old cs other opening) is ∙ ap (λ (l : List StoredQuery). kept_in old counters l opening) same

pub held_same : (schema copied : Schema) (old new : List Layered) (kept now : Durable) → IsHeld schema old kept → copied ≡ schema → AreAlike old new → now ≡ kept → IsHeld copied new now
held_same schema copied old new kept now held is alike same = record {
  well = subst (λ (s : Schema). IsKept s now) (sym is) (subst (IsKept schema) (sym same) held.well);
  types = alike.types ∙ held.types ∙ ap (λ (s : Schema). length s.types) (sym is);
  typed = alike_typed old new alike held.typed;
  short = (let features = ap length (alike_features old new alike) in omega (arith, features, held.short));
}

pub copied_is : (stored queries now list : List StoredQuery) → created stored queries ≡ Ok now → stored ≡ [] → queries ≡ list → now ≡ list
copied_is stored queries now list made none is = created_all stored queries now made ∙ ap (λ (l : List StoredQuery). l ++ queries) none ∙ is

-- ---- room

-- what was reserved stays so where there is no less room
pub others_stay : (old new : List Layered) (stored : ℕ) (other : Change) → AreAlike old new → AreRoomier old new → IsReserved other (room_in old stored) → IsReserved other (room_in new stored)
others_stay old new stored (Opening opening) alike roomier is = tt
others_stay old new stored (Created queries) alike roomier is = is
others_stay old new stored (Dropped id) alike roomier is = tt
others_stay old new stored (Base opening counters) alike roomier is = tt
others_stay old new stored (Rows parts) alike roomier is = record {
  count = (let features = ap length (alike_features old new alike) in omega (arith, features, is.count));
  types = λ k d lt. (
      let types = alike.types in
      let within : k < length new = omega (arith, lt, length-map new room_of) in
      let there : k < length old = omega (arith, within, types) in
      let e : Layered = record { kind = 0; features = []; rows = 0; places = [] } in
      let was : HasRoom (of_type k (all_put parts)) (room_of (get_or old k e)) = subst (HasRoom (of_type k (all_put parts))) (get_room old k e d there) (is.types k d (omega (arith, there, length-map old room_of))) in
      let more = roomier k e there in
      subst (HasRoom (of_type k (all_put parts))) (sym (get_room new k e d within)) (record { rows = omega (arith, was.rows, more.rows); places = λ place. (let had = was.places place in let has = more.places place in omega (arith, had, has)) })
      );
}

puts_few : (parts : List Part) → length (all_put parts) ≤ length parts
puts_few [] = omega arith
puts_few (Put f ∷ parts) = omega (arith, puts_few parts)
puts_few (Remove id ∷ parts) = omega (arith, puts_few parts)

-- room for what each type needs is room for all
pub rows_reserved : (old new : List Layered) (stored : ℕ) (parts : List Part) (needs : List Need) (types : ℕ) → AreAlike old new → length (features_of old) + length parts ≤ most → AreNeeds (all_put parts) needs → length needs ≡ length old → AreMet types needs new → types ≡ length needs
    → IsReserved (Rows parts) (room_in new stored)
rows_reserved old new stored parts needs types alike fits needed count met all = record {
  count = (let features = ap length (alike_features old new alike) in omega (arith, features, fits, puts_few parts));
  types = λ k d lt. (
      let same = alike.types in
      let within : k < length new = omega (arith, lt, length-map new room_of) in
      let there : k < length needs = omega (arith, within, same, count) in
      let e : Layered = record { kind = 0; features = []; rows = 0; places = [] } in
      let n : Need = record { rows = 0; boxes = [] } in
      let need = needed k n there in
      let here = met k n e (omega (arith, there, all)) in
      subst (HasRoom (of_type k (all_put parts))) (sym (get_room new k e d within)) (record { rows = omega (arith, need.rows, here.rows); places = λ place. (let wants = need.places place in let has = here.places place in omega (arith, wants, has)) })
      );
}

pub on_ok : {X E P Q : Type 0} (r : Result X E) → (P → Q) → OnOk r P → OnOk r Q
on_ok (Ok x) f p = f p
on_ok (Err e) f p = tt
