-- What the bytes that are held say of the file.
use Rattle.std.proofs.Common.{◌≡◌, ◌≤◌, ℕ, suc, ◌+◌, ◌-◌, ◌<◌, ◌^◌, List, ◌∷◌, ◌++◌, length, get_or, take, drop, refl, sym, ◌∙◌, ap, arith, length-drop, take-append-drop, None, Some, nat_lt, ◌==◌, true, false}
use Rattle.std.proofs.lemmas.Bool.Decides.{nat_tests}
use Rattle.std.proofs.lemmas.List.{drop_more, drop-drop, drop-take, take-take, get_or-take, length-take-le, get_or_read}
use Rattle.std.specs.Int.{to_be_bytes, from_be_bytes, w32}
use Rattle.feature_journal.specs.Side.{framed}
use Rattle.feature_journal.specs.Recover.{body_at, body_with, is_open}
use Rattle.recovery.specs.Walk.{IsFile, IsSide, Opens, OpensTorn, OpensWhole, Held}
use Rattle.recovery.specs.declared.walk.Side.{Side}

pub take_plus : (m n : ℕ) (xs : List ℕ) → take (m + n) xs ≡ take m xs ++ take n (drop m xs)
take_plus m n xs = sym (take-append-drop m (take (m + n) xs)) ∙ ap (λ (l : List ℕ). l ++ drop m (take (m + n) xs)) (take-take m (m + n) xs (omega arith)) ∙ ap (λ (l : List ℕ). take m xs ++ l) (drop-take m n xs)

-- what is read at this place of the first bytes is there
held_at : (most k : ℕ) (bytes c : List ℕ) → bytes ≡ take most c → k < most → get_or bytes k 0 ≡ get_or c k 0
held_at most k bytes c is less = ap (λ (l : List ℕ). get_or l k 0) is ∙ get_or-take most c k 0 less

held_four : (most k n : ℕ) (bytes c : List ℕ) → bytes ≡ take most c → k + n ≤ most → take n (drop k c) ≡ take n (drop k bytes)
held_four most k n bytes c is room =
    let more : k + (most - k) ≡ most = omega arith in
    let split : drop k bytes ≡ take (most - k) (drop k c) = ap (drop k) (is ∙ ap (λ (m : ℕ). take m c) (sym more)) ∙ drop-take k (most - k) c in
    sym (take-take n (most - k) (drop k c) (omega arith)) ∙ ap (take n) (sym split)

gate_there : (gate : ℕ) (c : List ℕ) → gate < length c → drop gate c ≡ get_or c gate 0 ∷ drop (gate + 1) c
gate_there gate c less = drop_more c gate 0 less

shut_there : (x : ℕ) (d more : List ℕ) → d ≡ x ∷ more → (x ≡ 1 → ⊥) → is_open d ≡ false
shut_there x d more is other = let test : (x == 1) ≡ false = grind (arith, nat_tests) in ap is_open is ∙ test

body_none : (n : ℕ) (more : List ℕ) → length more < 5 + n → body_with n more ≡ None
unfolding body_with
body_none n more less = let test : nat_lt (length more) (5 + n) ≡ true = grind (arith, nat_tests) in rw test refl

body_some : (n : ℕ) (more : List ℕ) → 5 + n ≤ length more → body_with n more ≡ Some (take n (drop 4 more), drop (4 + n) more)
unfolding body_with
body_some n more room = let test : nat_lt (length more) (5 + n) ≡ false = grind (arith, nat_tests) in rw test refl

body_sized : (n : ℕ) (more : List ℕ) → from_be_bytes w32 (take 4 more) ≡ n → body_at more ≡ body_with n more
unfolding body_at
body_sized n more is = ap (λ (k : ℕ). body_with k more) is

body_short : (more : List ℕ) → length more < 4 → body_at more ≡ None
unfolding body_at
body_short more less = body_none (from_be_bytes w32 (take 4 more)) more (omega arith)

module _ (side : Side) (gate : ℕ) (held : IsSide side) (within : gate + 1 ≤ side.limit) (inside : gate < side.len) where
  abbrev bytes : List ℕ
  bytes = side.bytes.items

  -- what is read at the gate
  pub gate_byte : (x : ℕ) → x ≡ get_or bytes gate x → get_or bytes gate 0 ≡ x
  gate_byte x is = sym (get_or_read bytes gate x (omega (arith, held.held, within, inside)) is 0)

  pub at_end : (c : List ℕ) → IsFile side c → (get_or bytes gate 0 ≡ 1 → ⊥) → is_open (drop gate c) ≡ false
  at_end c f other =
      let same = held_at (side.limit + 4) gate bytes c f.bytes (omega (arith, within)) in
      shut_there (get_or c gate 0) (drop gate c) (drop (gate + 1) c) (gate_there gate c (omega (arith, f.len, inside))) (λ e. other (same ∙ e))

  pub opened_there : (c : List ℕ) → IsFile side c → get_or bytes gate 0 ≡ 1 → drop gate c ≡ 1 ∷ drop (gate + 1) c
  opened_there c f one =
      let same = held_at (side.limit + 4) gate bytes c f.bytes (omega (arith, within)) in
      gate_there gate c (omega (arith, f.len, inside)) ∙ ap (λ (n : ℕ). n ∷ drop (gate + 1) c) (sym same ∙ one)

  pub torn_short : (c : List ℕ) → IsFile side c → get_or bytes gate 0 ≡ 1 → length bytes < gate + 5 → OpensTorn gate c
  torn_short c f one few = record {
    more = drop (gate + 1) c;
    is = opened_there c f one;
    none = body_short (drop (gate + 1) c) (omega (arith, length-drop (gate + 1) c, f.len, held.held, few, within, inside));
  }

  size_there : (size : ℕ) (c : List ℕ) → IsFile side c → gate + 5 ≤ length bytes → from_be_bytes w32 (take 4 (drop (gate + 1) bytes)) ≡ size → body_at (drop (gate + 1) c) ≡ body_with size (drop (gate + 1) c)
  size_there size c f room is =
      body_sized size (drop (gate + 1) c) (ap (from_be_bytes w32) (held_four (side.limit + 4) (gate + 1) 4 bytes c f.bytes (omega (arith, within))) ∙ is)

  pub torn_long : (size : ℕ) (c : List ℕ) → IsFile side c → get_or bytes gate 0 ≡ 1 → gate + 5 ≤ length bytes → from_be_bytes w32 (take 4 (drop (gate + 1) bytes)) ≡ size → side.len < gate + 6 + size → OpensTorn gate c
  torn_long size c f one room is past = record {
    more = drop (gate + 1) c;
    is = opened_there c f one;
    none = size_there size c f room is ∙ body_none size (drop (gate + 1) c) (omega (arith, length-drop (gate + 1) c, f.len, past));
  }

  pub opens_there : (size : ℕ) (c : List ℕ) → IsFile side c → get_or bytes gate 0 ≡ 1 → gate + 5 ≤ length bytes → from_be_bytes w32 (take 4 (drop (gate + 1) bytes)) ≡ size → gate + 6 + size ≤ side.len → Opens gate size c
  opens_there size c f one room is fits =
      let all : length (drop (gate + 1) c) ≡ length c - (gate + 1) = length-drop (gate + 1) c in
      record {
        more = drop (gate + 1) c;
        body = take size (drop 4 (drop (gate + 1) c));
        rest = drop (4 + size) (drop (gate + 1) c);
        is = opened_there c f one;
        whole = size_there size c f room is ∙ body_some size (drop (gate + 1) c) (omega (arith, all, f.len, fits));
        size_is = length-take-le size (drop 4 (drop (gate + 1) c)) (omega (arith, length-drop 4 (drop (gate + 1) c), all, f.len, fits));
      }

  pub whole_there : (size : ℕ) (c : List ℕ) → IsFile side c → get_or bytes gate 0 ≡ 1 → gate + 5 ≤ length bytes → from_be_bytes w32 (take 4 (drop (gate + 1) bytes)) ≡ size → gate + 6 + size ≤ side.len → gate + 6 + size ≤ side.limit → OpensWhole size gate bytes c
  unfolding opens_there
  whole_there size c f one room is fits limit_fits = record {
    opens = opens_there size c f one room is fits;
    body = ap (take size) (drop-drop 4 (gate + 1) c ∙ ap (λ (n : ℕ). drop n c) (omega arith)) ∙ held_four (side.limit + 4) (gate + 5) size bytes c f.bytes (omega (arith, limit_fits));
    rest = drop-drop (4 + size) (gate + 1) c ∙ ap (λ (n : ℕ). drop n c) (omega arith);
  }

  framed_sized : (size : ℕ) (body : List ℕ) → length body ≡ size → framed body ≡ to_be_bytes w32 size ++ body
  unfolding framed
  framed_sized size body is = ap (λ (n : ℕ). to_be_bytes w32 n ++ body) is

  pub held_there : (size : ℕ) → get_or bytes gate 0 ≡ 1 → gate + 5 ≤ length bytes → to_be_bytes w32 size ≡ take 4 (drop (gate + 1) bytes) → size < 2 ^ 32 → gate + 6 + size ≤ side.len → gate + 6 + size ≤ side.limit → Held size side.limit side.len gate bytes
  held_there size one room four fits len_fits limit_fits =
      let long : gate + 6 + size ≤ length bytes = omega (arith, held.held, len_fits, limit_fits) in
      let behind : drop 4 (drop (gate + 1) bytes) ≡ drop (gate + 5) bytes = drop-drop 4 (gate + 1) bytes ∙ ap (λ (n : ℕ). drop n bytes) (omega arith) in
      let body : length (take size (drop (gate + 5) bytes)) ≡ size = length-take-le size (drop (gate + 5) bytes) (omega (arith, length-drop (gate + 5) bytes, long)) in
      let inner : take (4 + size) (drop (gate + 1) bytes) ≡ framed (take size (drop (gate + 5) bytes)) =
      take_plus 4 size (drop (gate + 1) bytes) ∙ ap (λ (l : List ℕ). l ++ take size (drop 4 (drop (gate + 1) bytes))) (sym four)
      ∙ ap (λ (l : List ℕ). to_be_bytes w32 size ++ take size l) behind ∙ sym (framed_sized size (take size (drop (gate + 5) bytes)) body) in
      let there : drop gate bytes ≡ 1 ∷ drop (gate + 1) bytes = gate_there gate bytes (omega (arith, long)) ∙ ap (λ (n : ℕ). n ∷ drop (gate + 1) bytes) one in
      let count : gate + 5 + size ≡ gate + suc (4 + size) = omega arith in
      record {
        limit_fits = limit_fits;
        len_fits = len_fits;
        size_fits = fits;
        spelled = ap (λ (n : ℕ). take n bytes) count ∙ take_plus gate (suc (4 + size)) bytes ∙ ap (λ (l : List ℕ). take gate bytes ++ take (suc (4 + size)) l) there
            ∙ ap (λ (l : List ℕ). take gate bytes ++ 1 ∷ l) inner;
      }
