-- What playing a part leaves of the types, and of the room in them.
use Rattle.std.proofs.Common.{◌≡◌, ℕ, zero, suc, ◌+◌, ◌<◌, ◌≤◌, Bool, true, false, List, [], ◌∷◌, ◌++◌, length, get_or, take, drop, set, All, Some, None, refl, sym, ap, ◌∙◌, subst, length-set, arith}
use Rattle.std.specs.Prelude.{◌==◌, ◌≢◌}
use Rattle.std.specs.List.{fold}
use Rattle.std.proofs.lemmas.List.Sums.{sum_by-cons}
use Rattle.std.proofs.lemmas.List.Elements.{All-nil, All-cons, All-tail}
use Rattle.std.proofs.lemmas.Bool.Decides.{nat_tests}
use Rattle.feature_values.specs.declared.feature.Feature.{Feature}
use Rattle.feature_values.specs.declared.feature.Rid.{Rid}
use Rattle.feature_overlay.specs.Laid.{laid}
use Rattle.grid_index.specs.Gridded.{room_at, HasNoLessRoom}
use Rattle.grid_index.specs.Places.{Place}
use Rattle.wfs_model.specs.declared.change.Part.{Part}
use Rattle.wfs_model.specs.declared.change.Part.TheVariants.{Put, Remove}
use Rattle.wfs_model.specs.State.{Durable}
use Rattle.wfs_model.specs.Played.{part_played}
use Rattle.feature_versions.specs.Layer.{Layered}
use Rattle.feature_versions.specs.Placed.{taken_by}
use Rattle.feature_versions.specs.Reserved.{of_type, all_put, HasRoom}
use Rattle.feature_versions.specs.Types.{features_of, features_at, AreTyped, room_of, HasRooms, IsWithin, Plays}
use Rattle.feature_versions.proofs.Typed.{get_none, at_none, features_around, laid_in_type, laid_is_set, set_at, typed_set}

-- ---- room for features of which one is of the type, or not

of_type_here : (kind : ℕ) (f : Feature) (later : List Feature) → kind ≡ f.id.kind → of_type kind (f ∷ later) ≡ f ∷ of_type kind later
of_type_here kind f later is = let same : (f.id.kind == kind) ≡ true = grind (arith, nat_tests, is) in rw same refl

of_type_other : (kind : ℕ) (f : Feature) (later : List Feature) → kind ≢ f.id.kind → of_type kind (f ∷ later) ≡ of_type kind later
of_type_other kind f later is = at (f.id.kind == kind) refl
  where
    at : (b : Bool) → (f.id.kind == kind) ≡ b → of_type kind (f ∷ later) ≡ of_type kind later
    at true same = absurd (is (grind (arith, nat_tests, same)))
    at false other = rw other refl

-- one feature is put into a type that has room for it and for others
one_put : (f : Feature) (later : List Feature) (old new : Layered) → HasRoom (f ∷ later) (room_of old) → old.rows ≤ new.rows + 1 → ((place : Place) → room_at old.places place ≤ room_at new.places place + taken_by place f) → HasRoom later (room_of new)
one_put f later old new room rows places = record { rows = omega (arith, room.rows, rows); places = λ place. (let had = room.places place in let used = places place in omega (arith, had, sum_by-cons (taken_by place) f later, used)) }

less_taken : (later : List Feature) (old new : Layered) → HasRoom later (room_of old) → old.rows ≤ new.rows → HasNoLessRoom old.places new.places → HasRoom later (room_of new)
less_taken later old new room rows places = record { rows = omega (arith, room.rows, rows); places = λ place. (let had = room.places place in let has = places place in omega (arith, had, has)) }

-- ---- parts

default : {X : Type 0} (xs : List X) (k : ℕ) (x d : X) → k < length xs → x ≡ get_or xs k x → get_or xs k d ≡ x
default [] k x d lt is = absurd (omega (arith, lt))
default (y ∷ xs) zero x d lt is = sym is
default (y ∷ xs) (suc k) x d lt is = default xs k x d (omega (arith, lt)) is

pub put_plays : (layers : List Layered) (f : Feature) (old new : Layered) → AreTyped layers → f.id.kind < length layers → old ≡ get_or layers f.id.kind old → new.kind ≡ old.kind → new.features ≡ laid old.features f.id (Some f)
    → old.rows ≤ new.rows + 1 → ((place : Place) → room_at old.places place ≤ room_at new.places place + taken_by place f) → Plays (Put f) layers (set layers f.id.kind new)
put_plays layers f old new typed lt is kind features rows places = record {
  features = laid_is_set layers f.id (Some f) old new typed lt is features;
  typed = typed_set layers f.id (Some f) old new typed lt is kind features (All-cons (λ (g : Feature). g.id.kind ≡ f.id.kind) f [] refl (All-nil (λ (g : Feature). g.id.kind ≡ f.id.kind)));
  types = length-set layers f.id.kind new;
  room = λ later rooms j d within. (
      let there : j < length layers = (let same = length-set layers f.id.kind new in omega (arith, same, within)) in
      set_at (λ (i : ℕ) (l : Layered). HasRoom (of_type i later) (room_of l)) layers f.id.kind j new d there
      (λ same. (
      let was : get_or layers j d ≡ old = ap (λ (i : ℕ). get_or layers i d) same ∙ default layers f.id.kind old d lt is in
      let room : HasRoom (f ∷ of_type j later) (room_of old) = subst (λ (fs : List Feature). HasRoom fs (room_of old)) (of_type_here j f later same) (subst (λ (l : Layered). HasRoom (of_type j (f ∷ later)) (room_of l)) was (rooms j d there)) in
      one_put f (of_type j later) old new room rows places
      ))
      (λ other. subst (λ (fs : List Feature). HasRoom fs (room_of (get_or layers j d))) (of_type_other j f later other) (rooms j d there))
      );
}

pub remove_plays : (layers : List Layered) (id : Rid) (old new : Layered) → AreTyped layers → id.kind < length layers → old ≡ get_or layers id.kind old → new.kind ≡ old.kind → new.features ≡ laid old.features id None
    → old.rows ≤ new.rows → HasNoLessRoom old.places new.places → Plays (Remove id) layers (set layers id.kind new)
remove_plays layers id old new typed lt is kind features rows places = record {
  features = laid_is_set layers id None old new typed lt is features;
  typed = typed_set layers id None old new typed lt is kind features (All-nil (λ (g : Feature). g.id.kind ≡ id.kind));
  types = length-set layers id.kind new;
  room = λ later rooms j d within. (
      let there : j < length layers = (let same = length-set layers id.kind new in omega (arith, same, within)) in
      set_at (λ (i : ℕ) (l : Layered). HasRoom (of_type i later) (room_of l)) layers id.kind j new d there
      (λ same. (
      let was : get_or layers j d ≡ old = ap (λ (i : ℕ). get_or layers i d) same ∙ default layers id.kind old d lt is in
      less_taken (of_type j later) old new (subst (λ (l : Layered). HasRoom (of_type j later) (room_of l)) was (rooms j d there)) rows places
      ))
      (λ other. rooms j d there)
      );
}

laid_nothing : (id : Rid) → laid [] id None ≡ []
unfolding laid
laid_nothing id = refl

-- no type is at the place
pub none_plays : (layers : List Layered) (id : Rid) → AreTyped layers → length layers ≤ id.kind → Plays (Remove id) layers layers
none_plays layers id typed le = record {
  features = (
      let none : features_at id.kind layers ≡ [] = at_none layers id.kind (get_none layers id.kind le) in
      features_around layers id.kind ∙ ap (λ (fs : List Feature). features_of (take id.kind layers) ++ (fs ++ features_of (drop (id.kind + 1) layers))) (none ∙ sym (laid_nothing id) ∙ ap (λ (fs : List Feature). laid fs id None) (sym none))
      ∙ sym (laid_in_type layers id None typed)
      );
  typed = typed;
  types = refl;
  room = λ later rooms. rooms;
}

-- what is left to play after one part
pub within_less : (types : ℕ) (now : ℕ) (part : Part) (all later : List Part) → all ≡ part ∷ later → now ≡ types → All (IsWithin types) all → All (IsWithin now) later
within_less types now part all later is same within = subst (λ (n : ℕ). All (IsWithin n) later) (sym same) (All-tail (IsWithin types) part later (subst (All (IsWithin types)) is within))

pub rooms_less : (old new : List Layered) (part : Part) (all later : List Part) → all ≡ part ∷ later → Plays part old new → HasRooms (all_put all) old → HasRooms (all_put later) new
rooms_less old new part all later is plays rooms = plays.room (all_put later) (subst (λ (ps : List Part). HasRooms (all_put ps) old) is rooms)

pub rest_played : (start now end : Durable) (part : Part) (all later : List Part) → all ≡ part ∷ later → now ≡ part_played start part → fold part_played start all ≡ end → fold part_played now later ≡ end
rest_played start now end part all later is played rest = ap (λ (k : Durable). fold part_played k later) played ∙ ap (fold part_played start) (sym is) ∙ rest
