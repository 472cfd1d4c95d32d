-- Seats before their first turn.
use Rattle.std.proofs.Common.{◌≡◌, ℕ, suc, ◌+◌, List, [], ◌∷◌, ◌++◌, map, length, refl, sym, ap, ◌∙◌, arith}
use Rattle.std.specs.List.{range_with_len}
use Rattle.std.proofs.lemmas.List.{map-append}
use Rattle.std.proofs.lemmas.List.FromFn.{map-range_with_len_more}
use Rattle.store_server.specs.Giving.{given_by, fresh_seat, fresh_seats}
use Rattle.turnstile_core.specs.Steps.{fresh_past, gave_one, newcomer}
use Rattle.turnstile_core.specs.declared.view.Past.{Past}

none_given : (many n : ℕ) → given_by many (n + 1) ≡ 0
none_given many n = let e : n + 1 ≡ suc n = omega arith in rw e refl

module _ {T E : Type 0} where
  -- the first seat, which has given so many numbers
  abbrev pub having_given : List T → ℕ → Past T E
  having_given origin n = record (fresh_past origin) { given = n }

  pub gave_more : (origin : List T) (p q : Past T E) (n m : ℕ) → p ≡ having_given origin n → q ≡ gave_one p → m ≡ n + 1 → q ≡ having_given origin m
  gave_more origin p q n m e g more = g ∙ (ap gave_one e ∙ ap (having_given origin) (sym more))

  pub came : (origin : List T) (many : ℕ) (p r : Past T E) (n : ℕ) → p ≡ having_given origin n → r ≡ newcomer p → r ≡ fresh_seat origin many (n + 1)
  came origin many p r n e new = new ∙ (ap newcomer e ∙ ap (λ (k : ℕ). record (having_given origin k) { number = n + 1 }) (sym (none_given many n)))

module _ {S T E : Type 0} (past : S → Past T E) (origin : List T) (many : ℕ) where
  -- the seats that the first one has given
  pub more_came : (seats new : List S) (next : S) (n : ℕ) → n ≡ length seats → map past seats ≡ map (fresh_seat origin many) (range_with_len 1 n) → past next ≡ fresh_seat origin many (n + 1)
      → new ≡ seats ++ next ∷ [] → map past new ≡ map (fresh_seat origin many) (range_with_len 1 (n + 1))
  more_came seats new next n is so_far last pushed = ap (map past) pushed ∙ (map-append past seats (next ∷ []) ∙ (ap (λ (l : List (Past T E)). l ++ past next ∷ []) so_far
      ∙ (ap (λ (p : Past T E). map (fresh_seat origin many) (range_with_len 1 n) ++ p ∷ []) last ∙ sym (map-range_with_len_more (fresh_seat origin many) 1 n (n + 1) (omega arith)))))

  -- the first one stands before them
  pub all_came : (seats new : List S) (first : S) (n : ℕ) → n + 1 ≡ many → map past seats ≡ map (fresh_seat origin many) (range_with_len 1 n) → past first ≡ having_given origin n
      → new ≡ first ∷ seats → map past new ≡ fresh_seats origin many
  all_came seats new first n is others own e =
      let whole : many ≡ suc n = omega arith in
      let given : n ≡ given_by many 0 = omega arith in
      ap (map past) e ∙ (ap (λ (p : Past T E). p ∷ map past seats) (own ∙ ap (having_given origin) given) ∙ (ap (λ (l : List (Past T E)). fresh_seat origin many 0 ∷ l) others
      ∙ ap (λ (k : ℕ). map (fresh_seat origin many) (range_with_len 0 k)) (sym whole)))
