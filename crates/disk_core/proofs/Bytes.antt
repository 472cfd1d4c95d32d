-- What a write makes of a list of bytes.
use Rattle.std.proofs.Common.{◌≡◌, ⊎_elim, ℕ, ◌+◌, ◌-◌, ◌≤◌, zero, suc, List, [], ◌∷◌, ◌++◌, length, get_or, take, drop, refl, sym, ◌∙◌, ap, subst, arith, append_assoc, length-append, take-append-drop}
use Rattle.std.proofs.lemmas.List.{take_at, drop_more, drop-drop, length-take-le, take-take}
use Rattle.std.proofs.Math.Seq.{drop-append-add}
use Rattle.disk_core.specs.Disk.{over, Torn, Begins, Keeps}

drop_past : (xs ys : List ℕ) (m n : ℕ) → m ≡ length xs + n → drop m (xs ++ ys) ≡ drop n ys
drop_past xs ys m n is = rw is (drop-append-add xs ys n)

-- what is left of two texts one behind the other
pub drop_two : (n : ℕ) (xs ys : List ℕ) → drop n (xs ++ ys) ≡ drop n xs ++ drop (n - length xs) ys
drop_two zero xs ys = let none : zero - length xs ≡ 0 = omega arith in rw none refl
drop_two (suc n) [] ys = let all : suc n - 0 ≡ suc n = omega arith in rw all refl
drop_two (suc n) (x ∷ xs) ys =
    let less : suc n - suc (length xs) ≡ n - length xs = omega arith in
    rw less (drop_two n xs ys)

-- a write behind a front
pub over_behind : (front bytes rest : List ℕ) (at : ℕ) → length front ≡ at → over at bytes (front ++ rest) ≡ (front ++ bytes) ++ drop (length bytes) rest
unfolding over
over_behind front bytes rest at is =
    let before : take at (front ++ rest) ≡ front = take_at front rest at is in
    let behind : drop (at + length bytes) (front ++ rest) ≡ drop (length bytes) rest = drop_past front rest (at + length bytes) (length bytes) (omega arith) in
    rw (before, behind) refl

-- a write right behind a write
pub over_over : (at : ℕ) (head more s : List ℕ) → at ≤ length s → over (at + length head) more (over at head s) ≡ over at (head ++ more) s
unfolding over
over_over at head more s le =
    let cut : length (take at s) ≡ at = length-take-le at s le in
    let front : length (take at s ++ head) ≡ at + length head = omega (arith, length-append (take at s) head, cut) in
    let split : take at s ++ head ++ drop (at + length head) s ≡ (take at s ++ head) ++ drop (at + length head) s = refl in
    over_behind (take at s ++ head) more (drop (at + length head) s) (at + length head) front
    ∙ ap (λ (l : List ℕ). ((take at s ++ head) ++ more) ++ l) (drop-drop (length more) (at + length head) s ∙ ap (λ n. drop n s) (omega (arith, length-append head more)))
    ∙ ap (λ (l : List ℕ). l ++ drop (at + length (head ++ more)) s) (append_assoc (take at s) head more)

-- of a range behind a front, whatever was torn
pub torn_behind : (at n : ℕ) (front rest c : List ℕ) → length front ≤ at → Torn at n (front ++ rest) c → c ≡ front ++ drop (length front) c
torn_behind at n front rest c le torn =
    let begins : take (length front) c ≡ front = torn.front (length front) le (omega (arith, length-append front rest)) ∙ take_at front rest (length front) refl in
    sym (take-append-drop (length front) c) ∙ ap (λ (l : List ℕ). l ++ drop (length front) c) begins

-- one byte was torn
pub torn_byte : (at : ℕ) (front : List ℕ) (byte : ℕ) (rest c : List ℕ) → length front ≡ at → Torn at 1 (front ++ byte ∷ rest) c → c ≡ front ++ get_or c at 0 ∷ rest
torn_byte at front byte rest c is torn =
    let long : length (front ++ byte ∷ rest) ≡ at + suc (length rest) = omega (arith, length-append front (byte ∷ rest)) in
    let same : length c ≡ at + suc (length rest) = ⊎_elim (λ e. omega (arith, e, long)) (λ e. omega (arith, e, long)) torn.size in
    let begins : take at c ≡ front = torn.front at (omega arith) (omega (arith, long)) ∙ take_at front (byte ∷ rest) at is in
    let ends : drop (at + 1) c ≡ rest = torn.back ∙ drop_past front (byte ∷ rest) (at + 1) 1 (omega arith) in
    let split : drop at c ≡ get_or c at 0 ∷ rest = drop_more c at 0 (omega (arith, same)) ∙ ap (λ (l : List ℕ). get_or c at 0 ∷ l) ends in
    sym (take-append-drop at c) ∙ ap (λ (l : List ℕ). l ++ drop at c) begins ∙ ap (λ (l : List ℕ). front ++ l) split

pub length-begins : (text c : List ℕ) → Begins text c → length text ≤ length c
length-begins text c b = omega (arith, ap length b.is, length-append text b.rest)

pub begins_front : (text more c : List ℕ) → Begins (text ++ more) c → Begins text c
begins_front text more c b = record { rest = more ++ b.rest; is = b.is ∙ append_assoc text more b.rest }

-- a write right behind the text
pub begins_over : (at : ℕ) (text bytes c : List ℕ) → length text ≡ at → Begins text c → Begins (text ++ bytes) (over at bytes c)
begins_over at text bytes c is b = record { rest = drop (length bytes) b.rest; is = ap (over at bytes) b.is ∙ over_behind text bytes b.rest at is }

-- a byte in the text is set
pub begins_set : (at : ℕ) (front : List ℕ) (byte value : ℕ) (text c : List ℕ) → length front ≡ at → Begins (front ++ byte ∷ text) c → Begins (front ++ value ∷ text) (over at (value ∷ []) c)
begins_set at front byte value text c is b = record {
  rest = b.rest;
  is = ap (over at (value ∷ [])) (b.is ∙ append_assoc front (byte ∷ text) b.rest) ∙ over_behind front (value ∷ []) (byte ∷ (text ++ b.rest)) at is
      ∙ append_assoc front (value ∷ []) (text ++ b.rest) ∙ sym (append_assoc front (value ∷ text) b.rest);
}

-- what is torn behind the text leaves it
pub begins_torn : (at n : ℕ) (text d c : List ℕ) → length text ≤ at → Begins text d → Torn at n d c → Begins text c
begins_torn at n text d c le b torn = record { rest = drop (length text) c; is = torn_behind at n text b.rest c le (subst (λ x. Torn at n x c) b.is torn) }

pub begins_keeps : (k : ℕ) (text d c : List ℕ) → length text ≤ k → k ≤ length d → Begins text d → Keeps k d c → Begins text c
begins_keeps k text d c le long b keeps =
    let begins : take (length text) c ≡ text =
    shorter k (length text) c le ∙ ap (take (length text)) (keeps long) ∙ sym (shorter k (length text) d le)
    ∙ ap (take (length text)) b.is ∙ take_at text b.rest (length text) refl in
    record { rest = drop (length text) c; is = sym (take-append-drop (length text) c) ∙ ap (λ (l : List ℕ). l ++ drop (length text) c) begins }
  where
    shorter : (k j : ℕ) (c : List ℕ) → j ≤ k → take j c ≡ take j (take k c)
    shorter k j c le = sym (take-take j k c le)

-- one byte in the text is torn
pub begins_byte : (at : ℕ) (front : List ℕ) (byte : ℕ) (text d c : List ℕ) → length front ≡ at → Begins (front ++ byte ∷ text) d → Torn at 1 d c → Begins (front ++ get_or c at 0 ∷ text) c
begins_byte at front byte text d c is b torn = record {
  rest = b.rest;
  is = torn_byte at front byte (text ++ b.rest) c is (subst (λ x. Torn at 1 x c) (b.is ∙ append_assoc front (byte ∷ text) b.rest) torn)
      ∙ sym (append_assoc front (get_or c at 0 ∷ text) b.rest);
}
