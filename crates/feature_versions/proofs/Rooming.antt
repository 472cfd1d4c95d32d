-- What features need of the types, summed up one by one, and room for it.
use Rattle.std.proofs.Common.{◌≡◌, ℕ, ◌+◌, ◌<◌, ◌≤◌, Bool, true, false, List, [], ◌∷◌, ◌++◌, length, get_or, set, take, refl, sym, ap, ◌∙◌, subst, length-set, length-append, arith}
use Rattle.std.specs.Prelude.{◌==◌, ◌≢◌, if◌then◌else◌}
use Rattle.std.specs.List.{sum_by}
use Rattle.std.proofs.lemmas.List.{append-nil, take_more}
use Rattle.std.proofs.lemmas.List.Concat.{flat_map-append}
use Rattle.std.proofs.lemmas.List.Elements.{filter-append}
use Rattle.std.proofs.lemmas.List.Sums.{sum_by-append, sum_by_push}
use Rattle.std.proofs.lemmas.Bool.Decides.{nat_tests}
use Rattle.feature_values.specs.declared.feature.Feature.{Feature}
use Rattle.grid_index.specs.Places.{taking}
use Rattle.wfs_model.specs.declared.change.Part.{Part}
use Rattle.feature_versions.specs.declared.reserving.Need.{Need}
use Rattle.feature_versions.specs.Near.{boxes_of}
use Rattle.feature_versions.specs.Placed.{taken_by}
use Rattle.feature_versions.specs.Needs.{IsNeed, AreNeeds}
use Rattle.feature_versions.specs.Reserved.{of_type, put_in, all_put}
use Rattle.feature_versions.proofs.Typed.{set_at}

-- ---- what is needed

type_of_push : (kind : ℕ) (features : List Feature) (f : Feature) (b : Bool) → (f.id.kind == kind) ≡ b → of_type kind (features ++ f ∷ []) ≡ of_type kind features ++ (if b then f ∷ [] else [])
type_of_push kind features f b is = filter-append (λ g. g.id.kind == kind) features (f ∷ []) ∙ rw is refl

more_needed : (features : List Feature) (f : Feature) (old new : Need) → IsNeed features old → new.rows ≡ old.rows + 1 → new.boxes ≡ old.boxes ++ boxes_of f → IsNeed (features ++ f ∷ []) new
more_needed features f old new need rows boxes = record {
  rows = (let more = length-append features (f ∷ []) in omega (arith, need.rows, rows, more));
  places = λ place. (
      let more = ap (sum_by (taking place)) boxes ∙ sum_by-append (taking place) old.boxes (boxes_of f) in
      let all = sum_by_push (taken_by place) features f in
      let had = need.places place in
      omega (arith, more, all, had)
      );
}

-- a feature comes to its type
pub needs_set : (features : List Feature) (f : Feature) (needs : List Need) (old new : Need) → AreNeeds features needs → f.id.kind < length needs → old ≡ get_or needs f.id.kind old → new.rows ≡ old.rows + 1 → new.boxes ≡ old.boxes ++ boxes_of f
    → AreNeeds (features ++ f ∷ []) (set needs f.id.kind new)
needs_set features f needs old new are lt is rows boxes j d within =
    let there : j < length needs = (let same = length-set needs f.id.kind new in omega (arith, same, within)) in
    set_at (λ (i : ℕ) (need : Need). IsNeed (of_type i (features ++ f ∷ [])) need) needs f.id.kind j new d there
    (λ same. (
    let its : (f.id.kind == j) ≡ true = grind (arith, nat_tests, same) in
    let was : IsNeed (of_type j features) old = subst (λ (i : ℕ). IsNeed (of_type i features) old) (sym same) (subst (IsNeed (of_type f.id.kind features)) (sym is) (are f.id.kind old lt)) in
    subst (λ (fs : List Feature). IsNeed fs new) (sym (type_of_push j features f true its)) (more_needed (of_type j features) f old new was rows boxes)
    ))
    (λ other. (
    let its : (f.id.kind == j) ≡ false = not_same f.id.kind j (f.id.kind == j) refl other in
    subst (λ (fs : List Feature). IsNeed fs (get_or needs j d)) (sym (type_of_push j features f false its ∙ append-nil (of_type j features))) (are j d there)
    ))
  where
    not_same : (a b : ℕ) (t : Bool) → (a == b) ≡ t → b ≢ a → (a == b) ≡ false
    not_same a b true is other = absurd (other (grind (arith, nat_tests, is)))
    not_same a b false is other = is

-- a feature of no type that is there
pub needs_same : (features : List Feature) (f : Feature) (needs : List Need) → AreNeeds features needs → length needs ≤ f.id.kind → AreNeeds (features ++ f ∷ []) needs
needs_same features f needs are le j d lt =
    let its : (f.id.kind == j) ≡ false = not_here (f.id.kind == j) refl (omega (arith, lt, le)) in
    subst (λ (fs : List Feature). IsNeed fs (get_or needs j d)) (sym (type_of_push j features f false its ∙ append-nil (of_type j features))) (are j d lt)
  where
    not_here : (t : Bool) → (f.id.kind == j) ≡ t → j < f.id.kind → t ≡ false
    not_here true is less = absurd (let same : f.id.kind ≡ j = grind (arith, nat_tests, is) in omega (arith, same, less))
    not_here false is less = refl

pub put_step : (parts : List Part) (i : ℕ) (part : Part) → i < length parts → part ≡ get_or parts i part → all_put (take (i + 1) parts) ≡ all_put (take i parts) ++ put_in part
put_step parts i part lt is =
    ap all_put (take_more parts i part lt ∙ ap (λ (p : Part). take i parts ++ p ∷ []) (sym is)) ∙ flat_map-append put_in (take i parts) (part ∷ []) ∙ ap (λ (fs : List Feature). all_put (take i parts) ++ fs) (append-nil (put_in part))
