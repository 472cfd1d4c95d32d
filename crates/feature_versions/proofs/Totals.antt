-- Sums over features after a feature is laid among them.
use Rattle.std.proofs.Common.{◌≡◌, ℕ, ◌+◌, Bool, true, false, cond, List, [], ◌∷◌, ◌++◌, length, filter, Option, Some, None, refl, arith}
use Rattle.std.specs.List.{sum_by}
use Rattle.std.specs.Option.{option_to_list}
use Rattle.std.proofs.lemmas.List.Sums.{sum_by-cons, sum_by-append}
use Rattle.std.proofs.lemmas.List.Elements.{All-weaker}
use Rattle.std.proofs.lemmas.Bool.Decides.{nat_tests}
use Rattle.feature_values.specs.declared.feature.Feature.{Feature}
use Rattle.feature_values.specs.declared.feature.Rid.{Rid}
use Rattle.fes_filter.specs.View.{is_same, is_before, IsInOrder, feature_at}
use Rattle.feature_overlay.specs.Laid.{laid}
use Rattle.feature_versions.proofs.Between.{find_none}

-- ---- identifiers

-- how one identifier stands to another
data Way (a b : Rid) : Type 0 where
  before : is_before a b ≡ true → is_before b a ≡ false → is_same a b ≡ false → Way a b
  same : is_before a b ≡ false → is_before b a ≡ false → is_same a b ≡ true → Way a b
  behind : is_before a b ≡ false → is_before b a ≡ true → is_same a b ≡ false → Way a b

by_tests : (a b : Rid) (p q : Bool) → is_before a b ≡ p → is_same a b ≡ q → Way a b
by_tests a b true q h k = before h (grind (arith, nat_tests, h)) (grind (arith, nat_tests, h))
by_tests a b false true h k = same h (grind (arith, nat_tests, k)) k
by_tests a b false false h k = behind h (grind (arith, nat_tests, h, k)) k

way : (a b : Rid) → Way a b
way a b = by_tests a b (is_before a b) (is_same a b) refl refl

not_again : (f g id : Rid) → is_same f id ≡ true → is_before f g ≡ true → is_same g id ≡ false
not_again f g id h k = grind (arith, nat_tests, h, k)

weights : (a b : Rid) (n : ℕ) → Way a b → cond (is_before a b) n 0 + (cond (is_before b a) n 0 + cond (is_same a b) n 0) ≡ n
weights a b n (before h k l) = rw (h, k, l) (omega arith)
weights a b n (same h k l) = rw (h, k, l) (omega arith)
weights a b n (behind h k l) = rw (h, k, l) (omega arith)

-- ---- sums

module _ (m : Feature → ℕ) where
  abbrev pub of_one : Option Feature → ℕ
  of_one found = sum_by m (option_to_list found)

  abbrev earlier : Rid → List Feature → ℕ
  earlier id fs = sum_by m (filter (λ f. is_before f.id id) fs)

  abbrev later : Rid → List Feature → ℕ
  later id fs = sum_by m (filter (λ f. is_before id f.id) fs)

  kept_sum : (b : Bool) (f : Feature) (fs : List Feature) → sum_by m (cond b (f ∷ fs) fs) ≡ cond b (m f) 0 + sum_by m fs
  kept_sum true f fs = sum_by-cons m f fs
  kept_sum false f fs = omega arith

  found_sum : (b : Bool) (f : Feature) (found : Option Feature) → (b ≡ true → found ≡ None) → of_one (cond b (Some f) found) ≡ cond b (m f) 0 + of_one found
  found_sum true f found none = rw (none refl) (omega arith)
  found_sum false f found none = omega arith

  parts_sum : (id : Rid) (fs : List Feature) → IsInOrder fs → earlier id fs + (later id fs + of_one (feature_at id fs)) ≡ sum_by m fs
  parts_sum id [] order = refl
  parts_sum id (f ∷ fs) order =
      let more = parts_sum id fs order.1 in
      let low = kept_sum (is_before f.id id) f (filter (λ g. is_before g.id id) fs) in
      let high = kept_sum (is_before id f.id) f (filter (λ g. is_before id g.id) fs) in
      let none : is_same f.id id ≡ true → feature_at id fs ≡ None = λ h. find_none (λ (g : Feature). is_same g.id id) fs (All-weaker (λ (g : Feature). is_before f.id g.id ≡ true) (λ (g : Feature). is_same g.id id ≡ false) (λ g k. not_again f.id g.id id h k) fs order.0) in
      let at = found_sum (is_same f.id id) f (feature_at id fs) none in
      omega (arith, low, high, at, more, weights f.id id (m f) (way f.id id), sum_by-cons m f fs)

  -- what is laid takes the place of what stood there
  pub laid_sum : (id : Rid) (fs : List Feature) (now : Option Feature) → IsInOrder fs → sum_by m (laid fs id now) + of_one (feature_at id fs) ≡ sum_by m fs + of_one now
  unfolding laid
  laid_sum id fs now order =
      omega (
        arith,
        sum_by-append m (filter (λ f. is_before f.id id) fs) (option_to_list now ++ filter (λ f. is_before id f.id) fs),
        sum_by-append m (option_to_list now) (filter (λ f. is_before id f.id) fs),
        parts_sum id fs order,
      )

-- ---- lengths

length_sum : (fs : List Feature) → sum_by (λ f. 1) fs ≡ length fs
length_sum [] = refl
length_sum (f ∷ fs) = omega (arith, sum_by-cons (λ (g : Feature). 1) f fs, length_sum fs)

-- how many features there are then
pub laid_length : (id : Rid) (fs : List Feature) (now : Option Feature) → IsInOrder fs → length (laid fs id now) + length (option_to_list (feature_at id fs)) ≡ length fs + length (option_to_list now)
laid_length id fs now order =
    omega (arith, laid_sum (λ f. 1) id fs now order, length_sum (laid fs id now), length_sum (option_to_list (feature_at id fs)), length_sum fs, length_sum (option_to_list now))
