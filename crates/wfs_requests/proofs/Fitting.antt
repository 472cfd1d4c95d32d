-- Values and features that were read fit their properties and types.
use Rattle.std.proofs.Common.{◌≡◌, inl, inr, ℕ, ℤ, zero, suc, Bool, true, false, ◌&&◌, List, [], ◌∷◌, length, map, get_or, Option, Some, None, Result, Ok, Err, refl, sym, ap, subst, arith}
use Rattle.std.proofs.lemmas.Bool.Decides.{nat_tests}
use Rattle.std.specs.Prelude.{codes, ◌==◌, slice_get, slice_set, ⊤}
use Rattle.wfs_ends.specs.Read.{each}
use Rattle.wfs_ends.proofs.Turns.{bind_ok, if_ok, chosen, ok_is}
use Rattle.doc_tree.specs.declared.tree.Element.{Element, out-Element}
use Rattle.gml_docs.specs.Elements.{is_gml, geometry_of}
use Rattle.feature_values.specs.declared.schema.Schema.{Schema}
use Rattle.feature_values.specs.declared.schema.FeatureType.{FeatureType}
use Rattle.feature_values.specs.declared.schema.Property.{Property}
use Rattle.feature_values.specs.declared.schema.ValueKind.{ValueKind}
use Rattle.feature_values.specs.declared.schema.ValueKind.TheVariants as Kind
use Rattle.feature_values.specs.declared.value.Value.{Value}
use Rattle.feature_values.specs.declared.value.Value.TheVariants.{Null, Words, Whole, Truth, Shape}
use Rattle.feature_values.specs.declared.feature.Feature.{Feature}
use Rattle.feature_values.specs.declared.fault.ValueFault.{ValueFault}
use Rattle.feature_values.specs.declared.fault.ValueFault.TheVariants.{TooLong}
use Rattle.feature_values.specs.Fits.{is_of_kind, is_null, value_fits, values_fit, type_fits, feature_fits}
use Rattle.feature_values.specs.Reads.{trimmed, whole_of, truth_of, a_whole, a_truth, read_as, is_too_long, within, reads}
use Rattle.fes_filter.specs.Check.{is_shape}
use Rattle.wfs_model.specs.declared.fault.AskFault.{AskFault}
use Rattle.wfs_model.specs.OfSchema.{IsNewOf}
use Rattle.request_parameters.specs.Elements.{no_others}
use Rattle.wfs_requests.specs.Values.{unfit, or_unfit, shape_of, only_shape, word_of, content_of, null_of}
use Rattle.wfs_requests.specs.Features.{Given, so_far, nothing, is_nil, value_of, place_of, stray, with_value, with_element, next_value, one_met, all_met, values_of, kind_of, numberless, feature_of_type, feature_of_kind, feature_of}
use Rattle.wfs_requests.proofs.Readings.{kept, not_both}

-- ---- values

-- a value that is not null, of a kind
abbrev IsOf : ValueKind → Value → Type 0
IsOf kind v = (is_null v ≡ false) × (is_of_kind v kind ≡ true)

whole_is : (o : Option ℤ) (v : Value) → a_whole o ≡ Ok v → IsOf Kind.Whole v
unfolding is_of_kind
whole_is None v h = absurd cc
whole_is (Some n) v h = subst (IsOf Kind.Whole) (ok_is ValueFault (Whole n) v h) (refl, refl)

truth_is : (o : Option Bool) (v : Value) → a_truth o ≡ Ok v → IsOf Kind.Truth v
unfolding is_of_kind
truth_is None v h = absurd cc
truth_is (Some b) v h = subst (IsOf Kind.Truth) (ok_is ValueFault (Truth b) v h) (refl, refl)

kind_is : (kind : ValueKind) (text : List ℕ) (v : Value) → read_as kind text ≡ Ok v → IsOf kind v
unfolding read_as is_of_kind
kind_is Kind.Words text v h = subst (IsOf Kind.Words) (ok_is ValueFault (Words text) v h) (refl, refl)
kind_is Kind.Whole text v h = whole_is (whole_of (trimmed text)) v h
kind_is Kind.Truth text v h = truth_is (truth_of (trimmed text)) v h
kind_is Kind.Point text v h = absurd cc
kind_is Kind.Line text v h = absurd cc
kind_is Kind.Polygon text v h = absurd cc

within_is : (max : ℕ) (r : Result Value ValueFault) (v : Value) → within max r ≡ Ok v → (r ≡ Ok v) × (is_too_long v max ≡ false)
within_is max (Err fault) v h = absurd cc
within_is max (Ok x) v h = elim (chosen (is_too_long x max) (Err TooLong) (Ok x) (Ok v) h) [
  | inl g ↦ absurd (cc g.1)
  | inr g ↦ (g.1, subst (λ (y : Value). is_too_long y max ≡ false) (ok_is ValueFault x v g.1) g.0)
]

abbrev Fits : Property → Value → Type 0
Fits p v = value_fits p v ≡ Ok tt

fits_by : (p : Property) (v : Value) → IsOf p.kind v → is_too_long v p.max ≡ false → Fits p v
unfolding value_fits
fits_by p v is short = rw (is.0, is.1, short) refl

or_unfit_ok : {A E : Type 0} (p : Property) (r : Result A E) (x : A) → or_unfit p r ≡ Ok x → r ≡ Ok x
or_unfit_ok p (Ok y) x h = ap Ok (ok_is AskFault y x h)
or_unfit_ok p (Err fault) x h = absurd cc

text_fits : (p : Property) (text : List ℕ) (v : Value) → reads p text ≡ Ok v → Fits p v
unfolding reads
text_fits p text v h =
    let w = within_is p.max (read_as p.kind text) v h in
    fits_by p v (kind_is p.kind text v w.0) w.1

word_fits : (p : Property) (e : Element) (v : Value) → word_of p e ≡ Ok v → Fits p v
unfolding word_of
word_fits p e v h =
    let w = if_ok (length (out-Element e).children == 0) (or_unfit p (reads p (out-Element e).text)) (unfit p) v h in
    text_fits p (out-Element e).text v (or_unfit_ok p (reads p (out-Element e).text) v w.1)

shape_fits : (srs : List (List ℕ)) (p : Property) (e : Element) (v : Value) → shape_of srs p e ≡ Ok v → Fits p v
unfolding shape_of
shape_fits srs p e v h =
    let s = bind_ok (or_unfit p (geometry_of srs e)) _ v h in
    let k = if_ok (is_of_kind (Shape s.0) p.kind) (Ok (Shape s.0)) (unfit p) v s.2 in
    subst (Fits p) (ok_is AskFault (Shape s.0) v k.1) (fits_by p (Shape s.0) (refl, k.0) refl)

only_fits : (srs : List (List ℕ)) (p : Property) (es : List Element) (v : Value) → only_shape srs p es ≡ Ok v → Fits p v
only_fits srs p [] v h = absurd cc
only_fits srs p (e ∷ []) v h = shape_fits srs p e v h
only_fits srs p (e ∷ f ∷ es) v h = absurd cc

pub content_fits : (srs : List (List ℕ)) (p : Property) (e : Element) (v : Value) → content_of srs p e ≡ Ok v → Fits p v
unfolding content_of
content_fits srs p e v h = elim (chosen (is_shape p.kind) (only_shape srs p (out-Element e).children) (word_of p e) (Ok v) h) [
  | inl g ↦ only_fits srs p (out-Element e).children v g.1
  | inr g ↦ word_fits p e v g.1
]

null_is : (p : Property) → p.required ≡ false → Fits p Null
unfolding value_fits
null_is p h = rw h refl

pub null_fits : (p : Property) (v : Value) → null_of p ≡ Ok v → Fits p v
null_fits p v h = elim (chosen p.required (Err (unfit p)) (Ok Null) (Ok v) h) [
  | inl g ↦ absurd (cc g.1)
  | inr g ↦ subst (Fits p) (ok_is AskFault Null v g.1) (null_is p g.0)
]

value_is : (srs : List (List ℕ)) (p : Property) (e : Element) (v : Value) → value_of srs p e ≡ Ok v → Fits p v
unfolding value_of
value_is srs p e v h =
    let none = bind_ok (no_others [] e) _ v h in
    elim (chosen (is_nil e) (null_of p) (content_of srs p e) (Ok v) none.2) [
      | inl g ↦ null_fits p v g.1
      | inr g ↦ content_fits srs p e v g.1
    ]

-- ---- features

-- what is held of a property: a value that fits where it was met, and null where it was not
abbrev IsHeld : Property → Bool → Value → Type 0
IsHeld p true v = Fits p v
IsHeld p false v = v ≡ Null

abbrev AreHeld : List Property → List Bool → List Value → Type 0
AreHeld [] [] [] = ⊤
AreHeld (p ∷ ps) (m ∷ ms) (v ∷ vs) = IsHeld p m v × AreHeld ps ms vs
AreHeld ps ms vs = ⊥

nothing_held : (ps : List Property) → AreHeld ps (map (λ p. false) ps) (map (λ p. Null) ps)
nothing_held [] = tt
nothing_held (p ∷ ps) = (refl, nothing_held ps)

some_is : {A : Type 0} (x y : A) → Some x ≡ Some y → x ≡ y
some_is x y h = cc

set_held : (ps : List Property) (ms : List Bool) (vs : List Value) (i : ℕ) (p : Property) (v : Value)
    → AreHeld ps ms vs → slice_get ps i ≡ Some p → Fits p v → AreHeld ps (slice_set ms i true) (slice_set vs i v)
set_held [] ms vs i p v held is fits = absurd cc
set_held (q ∷ ps) [] vs i p v held is fits = absurd held
set_held (q ∷ ps) (m ∷ ms) [] i p v held is fits = absurd held
set_held (q ∷ ps) (m ∷ ms) (w ∷ vs) zero p v held is fits = (subst (λ (r : Property). Fits r v) (sym (some_is q p is)) fits, held.1)
set_held (q ∷ ps) (m ∷ ms) (w ∷ vs) (suc i) p v held is fits = (held.0, set_held ps ms vs i p v held.1 is fits)

one_fits : (p : Property) (m : Bool) (v : Value) (u : Unit {0}) → IsHeld p m v → one_met p m ≡ Ok u → Fits p v
unfolding one_met
one_fits p true v u held now = held
one_fits p false v u held now = elim (chosen (p.required && true) (Err (unfit p)) (Ok tt) (Ok u) now) [
  | inl g ↦ absurd (cc g.1)
  | inr g ↦ subst (Fits p) (sym held) (null_is p (not_both p.required g.0))
]

held_fit : (ps : List Property) (ms : List Bool) (vs : List Value) (u : Unit {0}) → AreHeld ps ms vs → all_met ps ms ≡ Ok u → values_fit ps vs ≡ Ok tt
unfolding all_met values_fit
held_fit [] ms vs u held now = refl
held_fit (p ∷ ps) [] vs u held now = absurd held
held_fit (p ∷ ps) (m ∷ ms) [] u held now = absurd held
held_fit (p ∷ ps) (m ∷ ms) (v ∷ vs) u held now =
    let one = bind_ok (one_met p m) (λ _. all_met ps ms) u now in
    rw (one_fits p m v one.0 held.0 one.1) (held_fit ps ms vs u held.1 one.2)

held_length : (ps : List Property) (ms : List Bool) (vs : List Value) → AreHeld ps ms vs → length ps ≡ length vs
held_length [] [] [] held = refl
held_length [] [] (v ∷ vs) held = absurd held
held_length [] (m ∷ ms) vs held = absurd held
held_length (p ∷ ps) [] vs held = absurd held
held_length (p ∷ ps) (m ∷ ms) [] held = absurd held
held_length (p ∷ ps) (m ∷ ms) (v ∷ vs) held = ap suc (held_length ps ms vs held.1)

same_length : (n m : ℕ) → n ≡ m → (n == m) ≡ true
same_length n m h = grind (arith, nat_tests)

type_is : (t : FeatureType) (ms : List Bool) (vs : List Value) (u : Unit {0}) → AreHeld t.properties ms vs → all_met t.properties ms ≡ Ok u → type_fits t vs ≡ Ok tt
unfolding type_fits
type_is t ms vs u held now =
    rw (same_length (length t.properties) (length vs) (held_length t.properties ms vs held)) (held_fit t.properties ms vs u held now)

module _ (schema : Schema) where
  module _ (t : FeatureType) where
    abbrev Holds : Given → Type 0
    Holds given = AreHeld t.properties given.met given.values

    value_held : (given more : Given) (place : ℕ) (e : Element) (o : Option Property) → slice_get t.properties place ≡ o → Holds given
        → with_value schema.srs given place e o ≡ Ok more → Holds more
    value_held given more place e None is held h = absurd cc
    value_held given more place e (Some p) is held h = elim (chosen (get_or given.met place true) (Err (stray e)) _ (Ok more) h) [
      | inl g ↦ absurd (cc g.1)
      | inr g ↦
          let v = bind_ok (value_of schema.srs p e) (λ value. Ok (so_far (slice_set given.met place true) (slice_set given.values place value))) more g.1 in
          subst Holds (ok_is AskFault (so_far (slice_set given.met place true) (slice_set given.values place v.0)) more v.2)
          (set_held t.properties given.met given.values place p v.0 held is (value_is schema.srs p e v.0 v.1))
    ]

    element_held : (given more : Given) (e : Element) (o : Option ℕ) → Holds given → with_element schema t given e o ≡ Ok more → Holds more
    element_held given more e None held h = absurd cc
    element_held given more e (Some place) held h = value_held given more place e (slice_get t.properties place) refl held h

    next_held : (given more : Given) (e : Element) → Holds given → next_value schema t given e ≡ Ok more → Holds more
    unfolding next_value
    next_held given more e held h = elim (chosen (is_gml (codes "boundedBy") e) (Ok given) (with_element schema t given e (place_of schema t e)) (Ok more) h) [
      | inl g ↦ subst Holds (ok_is AskFault given more g.1) held
      | inr g ↦ element_held given more e (place_of schema t e) held g.1
    ]

    values_are : (e : Element) (vs : List Value) → values_of schema t e ≡ Ok vs → type_fits t vs ≡ Ok tt
    unfolding values_of
    values_are e vs h =
        let none = bind_ok (no_others [] e) _ vs h in
        let given = bind_ok (each (next_value schema t) (nothing t) (out-Element e).children) _ vs none.2 in
        let met = bind_ok (all_met t.properties given.0.met) (λ _. Ok given.0.values) vs given.2 in
        let held = kept (next_value schema t) Holds next_held (out-Element e).children (nothing t) given.0 (nothing_held t.properties) given.1 in
        subst (λ (x : List Value). type_fits t x ≡ Ok tt) (ok_is AskFault given.0.values vs met.2) (type_is t given.0.met given.0.values met.0 held met.1)

  fits_in : (kind : ℕ) (t : FeatureType) (vs : List Value) → slice_get schema.types kind ≡ Some t → type_fits t vs ≡ Ok tt → feature_fits schema (numberless kind vs) ≡ Ok tt
  unfolding feature_fits
  fits_in kind t vs is fits = rw is fits

  type_new : (kind : ℕ) (e : Element) (o : Option FeatureType) (f : Feature) → slice_get schema.types kind ≡ o → feature_of_type schema kind e o ≡ Ok f → IsNewOf schema f
  type_new kind e None f is h = absurd cc
  type_new kind e (Some t) f is h =
      let vs = bind_ok (values_of schema t e) (λ values. Ok (numberless kind values)) f h in
      subst (IsNewOf schema) (ok_is AskFault (numberless kind vs.0) f vs.2) (record { fits = fits_in kind t vs.0 is (values_are t e vs.0 vs.1); number = refl })

  kind_new : (e : Element) (o : Option ℕ) (f : Feature) → feature_of_kind schema e o ≡ Ok f → IsNewOf schema f
  kind_new e None f h = absurd cc
  kind_new e (Some kind) f h = type_new kind e (slice_get schema.types kind) f refl h

  -- a feature that was read is one of the schema, without a number
  pub feature_is : (e : Element) (f : Feature) → feature_of schema e ≡ Ok f → IsNewOf schema f
  unfolding feature_of
  feature_is e f h = kind_new e (kind_of schema e) f h
