-- What was written reads back: lists, texts and shapes.
use Rattle.std.proofs.Common.{◌≡◌, ℕ, ◌^◌, ◌<◌, List, [], ◌∷◌, ◌++◌, length, map, Ok, sym, ap, ◌∙◌, subst, append_assoc}
use Rattle.std.specs.Prelude.{All}
use Rattle.std.specs.List.{flat_map}
use Rattle.std.proofs.lemmas.List.{append-nil, map-id}
use Rattle.std.proofs.lemmas.List.Elements.{All-head, All-tail, All-weaker}
use Rattle.journal_format.specs.Numbers.{Reads, be}
use Rattle.journal_format.specs.Reading.{times, counted_at}
use Rattle.journal_format.specs.Spelling.{counted}
use Rattle.journal_format.proofs.Digits.{number_again}
use Rattle.journal_format.proofs.Words.{ReadAs}

module _ {A : Type 0} (read : List ℕ → Reads A) (spelling : A → List ℕ) (read_as : A → A) where
  abbrev pub AllReadAs : List A → Type 0
  AllReadAs xs = All (λ x. ReadAs read (spelling x) (read_as x)) xs

  pub times_again : (found xs : List A) (rest : List ℕ) → AllReadAs xs → times read (length xs) found (flat_map spelling xs ++ rest) ≡ Ok (found ++ map read_as xs, rest)
  unfolding times
  times_again found [] rest h = ap (λ (l : List A). Ok (l, rest)) (sym (append-nil found))
  times_again found (x ∷ xs) rest h =
      let first = All-head (λ y. ReadAs read (spelling y) (read_as y)) x xs h in
      let others = All-tail (λ y. ReadAs read (spelling y) (read_as y)) x xs h in
      let split : (spelling x ++ flat_map spelling xs) ++ rest ≡ spelling x ++ (flat_map spelling xs ++ rest) = append_assoc (spelling x) (flat_map spelling xs) rest in
      rw (split, first.again (flat_map spelling xs ++ rest)) (times_again (found ++ read_as x ∷ []) xs rest others ∙ ap (λ (l : List A). Ok (l, rest)) (append_assoc found (read_as x ∷ []) (map read_as xs)))

  pub counted_again : (n : ℕ) (xs : List A) → length xs < 256 ^ n → AllReadAs xs → ReadAs (counted_at n read) (counted n spelling xs) (map read_as xs)
  unfolding counted_at counted
  counted_again n xs few h = record {
    again = λ rest.
        let split : (be n (length xs) ++ flat_map spelling xs) ++ rest ≡ be n (length xs) ++ (flat_map spelling xs ++ rest) = append_assoc (be n (length xs)) (flat_map spelling xs) rest in
        rw (split, number_again n (length xs) (flat_map spelling xs ++ rest) few) (times_again [] xs rest h);
  }

-- each of these reads as itself
module _ {A : Type 0} (read : List ℕ → Reads A) (spelling : A → List ℕ) where
  pub plain_again : (n : ℕ) (xs : List A) → length xs < 256 ^ n → All (λ x. ReadAs read (spelling x) x) xs → ReadAs (counted_at n read) (counted n spelling xs) xs
  plain_again n xs few h = subst (ReadAs (counted_at n read) (counted n spelling xs)) (map-id xs) (counted_again read spelling (λ x. x) n xs few h)

  pub all_again : (P : A → Type 0) → ((x : A) → P x → ReadAs read (spelling x) x) → (n : ℕ) (xs : List A) → length xs < 256 ^ n → All P xs → ReadAs (counted_at n read) (counted n spelling xs) xs
  all_again P each n xs few h = plain_again n xs few (All-weaker P (λ x. ReadAs read (spelling x) x) each xs h)
