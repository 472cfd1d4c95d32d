-- What a head says of the rest of its message.
use Rattle.std.proofs.Common.{◌≡◌, ℕ, Bool, true, false, ◌&&◌, List, [], ◌∷◌, refl, arith, Option, Some, None, if◌then◌else◌, nat_lt, codes}
use Rattle.std.specs.Prelude.{Result, Ok, Err, bytes_eq}
use Rattle.std.specs.List.{list_all}
use Rattle.std.specs.Str.Parse.{digits_value}
use Rattle.std.proofs.lemmas.Bool.Decides.{nat_tests}
use Rattle.http_session.specs.declared.message.Ending.{Ending}
use Rattle.http_session.specs.declared.message.Ending.TheVariants as ending
use Rattle.http_session.specs.Fields.{NameValue, found_of, found_none, found_only, found_length, stated_by, number_of, is_number, is_none, is_only, length_of, capped, capped_length, after_length, body_of, is_coded, is_chunked, equal_values, other_values}

pub none_found : (vs : List (List ℕ)) → found_none (found_of vs) ≡ is_none vs
none_found [] = refl
none_found (v ∷ []) = refl
none_found (v ∷ w ∷ vs) = by (list_all (bytes_eq v) (w ∷ vs))
  where
    by : (t : Bool) → found_none (if t then equal_values v else other_values) ≡ false
    by true = refl
    by false = refl

pub only_found : (word : List ℕ) (vs : List (List ℕ)) → found_only word (found_of vs) ≡ is_only word vs
only_found word [] = refl
only_found word (v ∷ []) = refl
only_found word (v ∷ w ∷ vs) = by (list_all (bytes_eq v) (w ∷ vs))
  where
    by : (t : Bool) → found_only word (if t then equal_values v else other_values) ≡ false
    by true = refl
    by false = refl

pub length_found : (vs : List (List ℕ)) → found_length (found_of vs) ≡ capped_length (length_of vs)
unfolding length_of number_of
length_found [] = refl
length_found (v ∷ []) = by (is_number v)
  where
    by : (t : Bool) → stated_by (if t then Some (capped (digits_value 10 v)) else None) ≡ capped_length (if true && t then Ok (Some (digits_value 10 v)) else Err ending.BadHead)
    by true = refl
    by false = refl
length_found (v ∷ w ∷ vs) = by (list_all (bytes_eq v) (w ∷ vs)) (is_number v) refl
  where
    by : (s t : Bool) → is_number v ≡ t → found_length (if s then equal_values v else other_values) ≡ capped_length (if s && t then Ok (Some (digits_value 10 v)) else Err ending.BadHead)
    by true true e = rw e refl
    by true false e = rw e refl
    by false t e = refl

pub after_capped : (r : Result (Option ℕ) Ending) (method : List ℕ) (fields : List NameValue) → after_length (capped_length r) method fields ≡ after_length r method fields
after_capped (Err e) method fields = refl
after_capped (Ok None) method fields = refl
after_capped (Ok (Some n)) method fields = by (is_coded fields)
  where
    sized : body_of (is_chunked fields) (bytes_eq method (codes "POST")) (Some (capped n)) ≡ body_of (is_chunked fields) (bytes_eq method (codes "POST")) (Some n)
    sized = by_size (nat_lt 4194304 n) refl
      where
        by_size : (t : Bool) → nat_lt 4194304 n ≡ t → body_of (is_chunked fields) (bytes_eq method (codes "POST")) (Some (capped n)) ≡ body_of (is_chunked fields) (bytes_eq method (codes "POST")) (Some n)
        by_size true e = let k : capped n ≡ 4194305 = grind (arith, nat_tests, e) in rw (k, e) refl
        by_size false e = let k : capped n ≡ n = grind (arith, nat_tests, e) in rw k refl

    by : (t : Bool) → (if t then Err ending.Coding else body_of (is_chunked fields) (bytes_eq method (codes "POST")) (Some (capped n))) ≡ (if t then Err ending.Coding else body_of (is_chunked fields) (bytes_eq method (codes "POST")) (Some n))
    by true = refl
    by false = sized
