-- What the bytes of a file mean, and the values of an array.
use Rattle.std.proofs.Common.{◌≡◌, ℕ, List, [], ◌∷◌, length, map, Ok, Err, Option, Some, None, IsUtf8, Bor, String, Global, string_bytes, option_map, find, not, Bool, refl, sym, ap, ◌∙◌, inl, inr}
use Rattle.std.proofs.lemmas.Bool.{cases_Bool}
use Rattle.std.proofs.lemmas.List.{length-map}
use Rattle.std.proofs.lemmas.Str.{is_utf8-from_IsUtf8, IsUtf8-from_is_utf8}
use Rattle.std.specs.Str.{is_utf8, bytes_eq}
use Rattle.std.specs.List.{list_any, list_all}
use Rattle.std.specs.Map.{keys_of as map_keys}
use Rattle.toml.specs.Data.{Data, Members}
use Rattle.toml.specs.View.{view, items_view, members_view}
use Rattle.toml.specs.Parse.{parse_document}
use Rattle.toml.specs.declared.value.Value.{Value}
use Rattle.feature_schema.specs.Tables.{table_of, values_of, keys_of, is_other, unknown_of}
use Rattle.feature_schema.specs.declared.fault.SchemaFault.TheVariants.{NotToml}

pub values_view : (vs : List Value) → values_of (items_view vs) ≡ map view vs
unfolding values_of
values_view [] = refl
values_view (v ∷ vs) = ap (λ ds. view v ∷ ds) (values_view vs)

pub is_toml : (bytes : List ℕ) (ms : Members) → IsUtf8 bytes → parse_document bytes ≡ Some ms → table_of bytes ≡ Ok ms
unfolding table_of
is_toml bytes ms utf8 is = rw (is_utf8-from_IsUtf8 bytes utf8, is) refl

pub not_toml : (bytes : List ℕ) → (IsUtf8 bytes → parse_document bytes ≡ None) → table_of bytes ≡ Err NotToml
unfolding table_of
not_toml bytes none =
    elim (cases_Bool (is_utf8 bytes)) [
      | inl text ↦ rw (text, none (IsUtf8-from_is_utf8 bytes text)) refl
      | inr other ↦ rw other refl
    ]

pub all_through : (p : Data → Bool) (vs : List Value) → list_all p (map view vs) ≡ list_all (λ v. p (view v)) vs
all_through p [] = refl
all_through p (v ∷ vs) = rw (all_through p vs) refl

pub as_many : (vs : List Value) → length (map view vs) ≡ length vs
as_many vs = rw length-map refl

-- ---- the first key that is none of these

keys_view : (es : List (String Global × Value)) → keys_of (members_view es) ≡ map string_bytes (map_keys es)
keys_view [] = refl
keys_view (e ∷ es) = ap (λ ks. string_bytes e.0 ∷ ks) (keys_view es)

find_through : {X Y : Type 0} (p : Y → Bool) (f : X → Y) (xs : List X) → option_map f (find (λ x. p (f x)) xs) ≡ find p (map f xs)
find_through p f [] = refl
find_through p f (x ∷ xs) =
    elim (cases_Bool (p (f x))) [
      | inl here ↦ rw here refl
      | inr other ↦ rw other (find_through p f xs)
    ]

known_through : (known : List (Bor (List ℕ))) (k : List ℕ) → list_any (λ n. bytes_eq n.now k) known ≡ list_any (λ n. bytes_eq n k) (map (λ n. n.now) known)
known_through [] k = refl
known_through (n ∷ known) k = rw (known_through known k) refl

view_option : {X Y Z : Type 0} (f : X → Y) (g : Y → Z) (o : Option X) → option_map (λ x. g (f x)) o ≡ option_map g (option_map f o)
view_option f g None = refl
view_option f g (Some x) = refl

find_same : {X : Type 0} (p q : X → Bool) (xs : List X) → ((x : X) → p x ≡ q x) → find p xs ≡ find q xs
find_same p q [] same = refl
find_same p q (x ∷ xs) same = rw (same x, find_same p q xs same) refl

pub unknown_is : (known : List (Bor (List ℕ))) (es : List (String Global × Value)) (r : Option (Bor (String Global)))
    → option_map (λ s. s.now) r ≡ find (λ k. not (list_any (λ n. bytes_eq n.now (string_bytes k)) known)) (map_keys es)
    → option_map (λ s. string_bytes s.now) r ≡ unknown_of (map (λ n. n.now) known) (members_view es)
unfolding unknown_of
unknown_is known es r found =
    let other : List ℕ → Bool = is_other (map (λ n. n.now) known) in
    view_option (λ (s : Bor (String Global)). s.now) string_bytes r
    ∙ ap (option_map string_bytes) (found ∙ find_same _ (λ k. other (string_bytes k)) (map_keys es) (λ k. ap not (known_through known (string_bytes k))))
    ∙ find_through other string_bytes (map_keys es)
    ∙ ap (find other) (sym (keys_view es))
