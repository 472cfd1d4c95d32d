-- Where the features of a type stand among those of all types.
use Rattle.std.proofs.Common.{◌≡◌, ℕ, zero, suc, ◌+◌, ◌<◌, ◌≤◌, Bool, true, false, List, [], ◌∷◌, ◌++◌, length, get_or, take, drop, set, All, Option, Some, None, refl, sym, ap, ◌∙◌, subst, length-take, length-drop, length-set, length-append, add-one, arith}
use Rattle.std.specs.Prelude.{◌≢◌, slice_get, is_some, nat_eq, nat_lt}
use Rattle.std.specs.Borrow.{Bor}
use Rattle.std.specs.Option.{option_or, option_to_list, option_copied}
use Rattle.std.proofs.lemmas.List.{get_or-take, get_or-drop, take-append-drop, append-nil, take-set, drop-set, get_or-set_same, get_or-set_other, at_drop_more, take_more, get_or_append_left, get_or_at}
use Rattle.std.proofs.lemmas.List.Concat.{flat_map-append}
use Rattle.std.proofs.lemmas.List.Elements.{All-nil, All-weaker, All-append}
use Rattle.std.proofs.lemmas.Bool.Decides.{nat_tests}
use Rattle.feature_values.specs.declared.feature.Feature.{Feature}
use Rattle.feature_values.specs.declared.feature.Rid.{Rid}
use Rattle.fes_filter.specs.View.{is_before, feature_at, next_after}
use Rattle.feature_overlay.specs.Laid.{laid}
use Rattle.feature_versions.specs.Layer.{Layered}
use Rattle.feature_versions.specs.Types.{features_of, features_at, IsOfType, AreTyped}
use Rattle.feature_versions.proofs.Between.{AllBefore, AllBehind, laid_between, found_between, next_between}
use Rattle.feature_versions.proofs.Laying.{all_laid}

-- ---- a list around a place

module _ {X : Type 0} where
  pub around : (xs : List X) (k : ℕ) → xs ≡ take k xs ++ (option_to_list (slice_get xs k) ++ drop (k + 1) xs)
  around [] zero = refl
  around [] (suc k) = rw add-one refl
  around (x ∷ xs) zero = refl
  around (x ∷ xs) (suc k) = ap (λ l. x ∷ l) (rw add-one (rw add-one at (around xs k)))

  pub get_some : (xs : List X) (k : ℕ) (x : X) → k < length xs → x ≡ get_or xs k x → slice_get xs k ≡ Some x
  get_some [] k x lt is = absurd (omega (arith, lt))
  get_some (y ∷ xs) zero x lt is = cc
  get_some (y ∷ xs) (suc k) x lt is = get_some xs k x (omega (arith, lt)) is

  pub get_none : (xs : List X) (k : ℕ) → length xs ≤ k → slice_get xs k ≡ None
  get_none [] zero le = refl
  get_none [] (suc k) le = refl
  get_none (x ∷ xs) zero le = absurd (omega (arith, le))
  get_none (x ∷ xs) (suc k) le = get_none xs k (omega (arith, le))

-- the first of one list, or of the next where there is none
pub first_or : (fs gs : List Feature) → slice_get (fs ++ gs) 0 ≡ option_or (slice_get fs 0) (slice_get gs 0)
first_or [] gs = refl
first_or (f ∷ fs) gs = refl

-- a reference to a feature is there as the feature is
copied_there : (found : Option (Bor Feature)) → is_some (option_copied found) ≡ is_some found
copied_there None = refl
copied_there (Some f) = refl

pub is_there : (found : Option (Bor Feature)) (other : Option Feature) (b t : Bool) → option_copied found ≡ other → b ≡ is_some found → b ≡ t → is_some other ≡ t
is_there found other b t copied says is = ap is_some (sym copied) ∙ copied_there found ∙ sym says ∙ is

pub some_or : (found more : Option Feature) → is_some found ≡ true → option_or found more ≡ found
some_or None more is = absurd (let bad = is in cc)
some_or (Some f) more is = refl

pub none_or : (found more : Option Feature) → is_some found ≡ false → option_or found more ≡ more
none_or None more is = refl
none_or (Some f) more is = absurd (let bad = is in cc)

-- ---- the features of some types

-- what holds of the features of each type holds of all
pub all_of : (P : Feature → Type 0) (layers : List Layered) → ((k : ℕ) (d : Layered) → k < length layers → All P (get_or layers k d).features) → All P (features_of layers)
all_of P [] each = All-nil P
all_of P (layer ∷ layers) each =
    All-append P layer.features (features_of layers) (each 0 layer (omega arith)) (all_of P layers (λ k d lt. each (suc k) d (omega (arith, lt))))

-- the types before a place, and those behind it
pub kinds_before : (layers : List Layered) (kind : ℕ) → AreTyped layers → All (λ f. f.id.kind < kind) (features_of (take kind layers))
kinds_before layers kind typed =
    all_of (λ (f : Feature). f.id.kind < kind) (take kind layers) (λ k d lt.
    let within : k < kind = grind (arith, lt, length-take kind layers) in
    let there : k < length layers = grind (arith, lt, length-take kind layers) in
    subst (λ (l : Layered). All (λ f. f.id.kind < kind) l.features) (sym (get_or-take kind layers k d within))
    (All-weaker (λ (f : Feature). f.id.kind ≡ k) (λ (f : Feature). f.id.kind < kind) (λ f is. omega (arith, is, within)) (get_or layers k d).features (typed k d there).own))

pub kinds_behind : (layers : List Layered) (kind : ℕ) → AreTyped layers → All (λ f. kind < f.id.kind) (features_of (drop (kind + 1) layers))
kinds_behind layers kind typed =
    all_of (λ (f : Feature). kind < f.id.kind) (drop (kind + 1) layers) (λ k d lt.
    let at : ℕ = (kind + 1) + k in
    let there : at < length layers = grind (arith, lt, length-drop (kind + 1) layers) in
    subst (λ (l : Layered). All (λ f. kind < f.id.kind) l.features) (sym (get_or-drop (kind + 1) layers k d))
    (All-weaker (λ (f : Feature). f.id.kind ≡ at) (λ (f : Feature). kind < f.id.kind) (λ f is. omega (arith, is)) (get_or layers at d).features (typed at d there).own))

kind_before : (f id : Rid) → f.kind < id.kind → is_before f id ≡ true
kind_before f id lt = grind (arith, nat_tests, lt)

kind_behind : (f id : Rid) → id.kind < f.kind → is_before id f ≡ true
kind_behind f id lt = grind (arith, nat_tests, lt)

types_before : (layers : List Layered) (id : Rid) → AreTyped layers → AllBefore id (features_of (take id.kind layers))
types_before layers id typed = All-weaker (λ (f : Feature). f.id.kind < id.kind) (λ (f : Feature). is_before f.id id ≡ true) (λ f lt. kind_before f.id id lt) (features_of (take id.kind layers)) (kinds_before layers id.kind typed)

types_behind : (layers : List Layered) (id : Rid) → AreTyped layers → AllBehind id (features_of (drop (id.kind + 1) layers))
types_behind layers id typed = All-weaker (λ (f : Feature). id.kind < f.id.kind) (λ (f : Feature). is_before id f.id ≡ true) (λ f lt. kind_behind f.id id lt) (features_of (drop (id.kind + 1) layers)) (kinds_behind layers id.kind typed)

pub features_around : (layers : List Layered) (k : ℕ) → features_of layers ≡ features_of (take k layers) ++ (features_at k layers ++ features_of (drop (k + 1) layers))
features_around layers k =
    ap features_of (around layers k) ∙ flat_map-append (λ (l : Layered). l.features) (take k layers) (option_to_list (slice_get layers k) ++ drop (k + 1) layers)
    ∙ ap (λ (fs : List Feature). features_of (take k layers) ++ fs) (flat_map-append (λ (l : Layered). l.features) (option_to_list (slice_get layers k)) (drop (k + 1) layers))

-- the features of the type at a place
pub at_some : (layers : List Layered) (k : ℕ) (layer : Layered) → slice_get layers k ≡ Some layer → features_at k layers ≡ layer.features
at_some layers k layer is = ap (λ (o : Option Layered). features_of (option_to_list o)) is ∙ append-nil layer.features

pub at_none : (layers : List Layered) (k : ℕ) → slice_get layers k ≡ None → features_at k layers ≡ []
at_none layers k is = ap (λ (o : Option Layered). features_of (option_to_list o)) is

pub features_from : (layers : List Layered) (k : ℕ) (layer : Layered) → k < length layers → layer ≡ get_or layers k layer → features_of (drop k layers) ≡ layer.features ++ features_of (drop (k + 1) layers)
features_from layers k layer lt is = ap features_of (at_drop_more (λ (l : List Layered). l) layers k layer lt) ∙ ap (λ (l : Layered). l.features ++ features_of (drop (k + 1) layers)) (sym is)

-- how many features the first types have
pub count_step : (layers : List Layered) (i : ℕ) (layer : Layered) → i < length layers → layer ≡ get_or layers i layer → length (features_of (take (i + 1) layers)) ≡ length (features_of (take i layers)) + length layer.features
count_step layers i layer lt is =
    ap (λ (ls : List Layered). length (features_of ls)) (take_more layers i layer lt ∙ ap (λ (l : Layered). take i layers ++ l ∷ []) (sym is))
    ∙ ap length (flat_map-append (λ (l : Layered). l.features) (take i layers) (layer ∷ [])) ∙ length-append (features_of (take i layers)) (layer.features ++ [])
    ∙ ap (λ (fs : List Feature). length (features_of (take i layers)) + length fs) (append-nil layer.features)

pub count_within : (layers : List Layered) (i : ℕ) (layer : Layered) → i < length layers → layer ≡ get_or layers i layer → length (features_of (take i layers)) + length layer.features ≤ length (features_of layers)
count_within layers i layer lt is =
    let all : length (features_of layers) ≡ length (features_of (take (i + 1) layers)) + length (features_of (drop (i + 1) layers)) =
    ap (λ (ls : List Layered). length (features_of ls)) (sym (take-append-drop (i + 1) layers)) ∙ ap length (flat_map-append (λ (l : Layered). l.features) (take (i + 1) layers) (drop (i + 1) layers))
    ∙ length-append (features_of (take (i + 1) layers)) (features_of (drop (i + 1) layers)) in
    let step = count_step layers i layer lt is in
    omega (arith, all, step)

-- ---- what is found, what is next, what is laid

pub found_in_type : (layers : List Layered) (id : Rid) → AreTyped layers → feature_at id (features_of layers) ≡ feature_at id (features_at id.kind layers)
found_in_type layers id typed =
    ap (feature_at id) (features_around layers id.kind) ∙ found_between (features_of (take id.kind layers)) (features_at id.kind layers) (features_of (drop (id.kind + 1) layers)) id (types_before layers id typed) (types_behind layers id typed)

pub next_in_types : (layers : List Layered) (id : Rid) → AreTyped layers → next_after (Some id) (features_of layers) ≡ option_or (next_after (Some id) (features_at id.kind layers)) (slice_get (features_of (drop (id.kind + 1) layers)) 0)
next_in_types layers id typed =
    ap (next_after (Some id)) (features_around layers id.kind)
    ∙ next_between (features_of (take id.kind layers)) (features_at id.kind layers) (features_of (drop (id.kind + 1) layers)) id (types_before layers id typed) (types_behind layers id typed)

pub laid_in_type : (layers : List Layered) (id : Rid) (now : Option Feature) → AreTyped layers → laid (features_of layers) id now ≡ features_of (take id.kind layers) ++ (laid (features_at id.kind layers) id now ++ features_of (drop (id.kind + 1) layers))
laid_in_type layers id now typed =
    ap (λ (fs : List Feature). laid fs id now) (features_around layers id.kind)
    ∙ laid_between (features_of (take id.kind layers)) (features_at id.kind layers) (features_of (drop (id.kind + 1) layers)) id now (types_before layers id typed) (types_behind layers id typed)

-- ---- a type is set

set_is : (layers : List Layered) (k : ℕ) (layer : Layered) → k < length layers → set layers k layer ≡ take k layers ++ layer ∷ drop (k + 1) layers
set_is layers k layer lt = sym (take-append-drop k (set layers k layer)) ∙ ap (λ l. l ++ drop k (set layers k layer)) (take-set layers k layer) ∙ ap (λ l. take k layers ++ l) (drop-set layers k layer lt)

pub features_set : (layers : List Layered) (k : ℕ) (layer : Layered) → k < length layers → features_of (set layers k layer) ≡ features_of (take k layers) ++ (layer.features ++ features_of (drop (k + 1) layers))
features_set layers k layer lt = ap features_of (set_is layers k layer lt) ∙ flat_map-append (λ (l : Layered). l.features) (take k layers) (layer ∷ drop (k + 1) layers)

pub laid_is_set : (layers : List Layered) (id : Rid) (now : Option Feature) (old new : Layered) → AreTyped layers → id.kind < length layers → old ≡ get_or layers id.kind old → new.features ≡ laid old.features id now → features_of (set layers id.kind new) ≡ laid (features_of layers) id now
laid_is_set layers id now old new typed lt is laid_there =
    let there : features_at id.kind layers ≡ old.features = at_some layers id.kind old (get_some layers id.kind old lt is) in
    features_set layers id.kind new lt
    ∙ ap (λ (fs : List Feature). features_of (take id.kind layers) ++ (fs ++ features_of (drop (id.kind + 1) layers))) (laid_there ∙ ap (λ (fs : List Feature). laid fs id now) (sym there))
    ∙ sym (laid_in_type layers id now typed)

-- a place is set, or another one is read
pub set_at : {X : Type 0} (P : ℕ → X → Type 0) (xs : List X) (k j : ℕ) (x d : X) → j < length xs → (j ≡ k → P j x) → (j ≢ k → P j (get_or xs j d)) → P j (get_or (set xs k x) j d)
set_at {X} P xs k j x d lt here there = at (nat_eq j k) refl
  where
    at : (b : Bool) → nat_eq j k ≡ b → P j (get_or (set xs k x) j d)
    at true is =
        let same : j ≡ k = grind (arith, nat_tests, is) in
        let read : get_or (set xs k x) j d ≡ x = (let lt_k : k < length xs = omega (arith, same, lt) in ap (λ (i : ℕ). get_or (set xs k x) i d) same ∙ get_or-set_same xs k x d lt_k) in
        subst (P j) (sym read) (here same)
    at false is =
        let other : j ≢ k = (λ same. (let bad : nat_eq j k ≡ true = grind (arith, nat_tests, same) in cc)) in
        subst (P j) (sym (get_or-set_other xs k j x d other)) (there other)

pub typed_set : (layers : List Layered) (id : Rid) (now : Option Feature) (old new : Layered) → AreTyped layers → id.kind < length layers → old ≡ get_or layers id.kind old → new.kind ≡ old.kind → new.features ≡ laid old.features id now → All (λ f. f.id.kind ≡ id.kind) (option_to_list now) → AreTyped (set layers id.kind new)
typed_set layers id now old new typed lt is kind features own = λ j d within.
    let there : j < length layers = (let same = length-set layers id.kind new in omega (arith, same, within)) in
    let was : IsOfType id.kind old = subst (IsOfType id.kind) (sym is) (typed id.kind old lt) in
    set_at (λ (i : ℕ) (l : Layered). IsOfType i l) layers id.kind j new d there
    (λ same. subst (λ (i : ℕ). IsOfType i new) (sym same) (record { is = kind ∙ was.is; own = subst (All (λ f. f.id.kind ≡ id.kind)) (sym features) (all_laid (λ (f : Feature). f.id.kind ≡ id.kind) old.features id now was.own own) }))
    (λ other. typed j d there)

-- one more type, without features
pub record Pushed (layers : List Layered) (layer : Layered) : Type 0 where
  pub typed : AreTyped (layers ++ layer ∷ [])
  pub types : length (layers ++ layer ∷ []) ≡ length layers + 1
  pub features : features_of (layers ++ layer ∷ []) ≡ features_of layers

pub one_more : (layers : List Layered) (layer : Layered) → AreTyped layers → layer.kind ≡ length layers → layer.features ≡ [] → Pushed layers layer
one_more layers layer typed kind none = record {
  typed = λ k d lt. at k d (nat_lt k (length layers)) refl (let more = length-append layers (layer ∷ []) in omega (arith, lt, more));
  types = length-append layers (layer ∷ []);
  features = flat_map-append (λ (l : Layered). l.features) layers (layer ∷ []) ∙ ap (λ (fs : List Feature). features_of layers ++ (fs ++ [])) none ∙ append-nil (features_of layers);
}
  where
    at : (k : ℕ) (d : Layered) (b : Bool) → nat_lt k (length layers) ≡ b → k ≤ length layers → IsOfType k (get_or (layers ++ layer ∷ []) k d)
    at k d true is le = (let lt : k < length layers = grind (arith, nat_tests, is) in subst (IsOfType k) (sym (get_or_append_left layers (layer ∷ []) d k lt)) (typed k d lt))
    at k d false is le =
        let same : length layers ≡ k = grind (arith, nat_tests, is, le) in
        subst (IsOfType k) (sym (get_or_at layers layer [] d k same)) (record { is = kind ∙ same; own = subst (All (λ f. f.id.kind ≡ k)) (sym none) (All-nil (λ (f : Feature). f.id.kind ≡ k)) })
