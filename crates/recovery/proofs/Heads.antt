-- What the first 17 bytes of a side tell of it.
use Rattle.std.proofs.Common.{◌≡◌, ◌≤◌, ℕ, zero, suc, ◌+◌, ◌<◌, ◌^◌, List, [], ◌∷◌, ◌++◌, length, get_or, take, drop, refl, sym, ◌∙◌, ap, subst, arith, append_assoc, length-append, take-append-drop, Option, None, Some, nat_lt, ◌==◌, Bool, true, false, if◌then◌else◌}
use Rattle.std.proofs.lemmas.Bool.Decides.{nat_tests}
use Rattle.std.proofs.lemmas.List.{length-take, drop_more, drop-drop}
use Rattle.std.specs.List.{AllByRecursion}
use Rattle.std.specs.Int.{to_be_bytes, w64}
use Rattle.disk_core.specs.Disk.{Begins}
use Rattle.feature_journal.specs.Side.{mark}
use Rattle.feature_journal.specs.Whole.{Marked}
use Rattle.feature_journal.specs.Refused.{Able}
use Rattle.feature_journal.specs.Recover.{foreign_at, differs_at}
use Rattle.recovery.specs.Head.{IsStale}

-- one byte more
pub differs_step : (place i j : ℕ) (text bytes : List ℕ) → i < length text → j < length bytes
    → differs_at place (drop i text) (drop j bytes) ≡ (if get_or text i 0 == get_or bytes j 0 then differs_at (place + 1) (drop (i + 1) text) (drop (j + 1) bytes) else Some place)
unfolding differs_at
differs_step place i j text bytes lt_t lt_b =
    let t : drop i text ≡ get_or text i 0 ∷ drop (i + 1) text = drop_more text i 0 lt_t in
    let b : drop j bytes ≡ get_or bytes j 0 ∷ drop (j + 1) bytes = drop_more bytes j 0 lt_b in
    rw (t, b) refl

-- at the end of the mark
pub differs_end : (place i : ℕ) (bytes : List ℕ) → i ≡ 7 → differs_at place (drop i mark) bytes ≡ None
unfolding differs_at
differs_end place i bytes is = ap (λ (n : ℕ). differs_at place (drop n mark) bytes) is

by_test : (x : Bool) (o p : Option ℕ) → (x ≡ true → o ≡ p) → (place : ℕ) → (if x then o else Some place) ≡ (if x then p else Some place)
by_test true o p same place = same refl
by_test false o p same place = refl

-- what stands behind the text has no say
pub differs_more : (place : ℕ) (text bytes more : List ℕ) → length text ≤ length bytes → differs_at place text (bytes ++ more) ≡ differs_at place text bytes
unfolding differs_at
differs_more place [] bytes more le = refl
differs_more place (x ∷ text) [] more le = absurd (omega arith)
differs_more place (x ∷ text) (y ∷ bytes) more le = by_test (x == y) _ _ (λ e. differs_more (place + 1) text bytes more (omega arith)) place

stands_step : (place : ℕ) (x y : ℕ) (text bytes : List ℕ) (b : Bool) → (x == y) ≡ b → (if b then differs_at (place + 1) text bytes else Some place) ≡ None → (x ≡ y) × (differs_at (place + 1) text bytes ≡ None)
stands_step place x y text bytes true e none = (grind (arith, nat_tests), none)
stands_step place x y text bytes false e none = absurd cc

-- where nothing differs, the text stands
pub stands : (place : ℕ) (text bytes : List ℕ) → differs_at place text bytes ≡ None → bytes ≡ text ++ drop (length text) bytes
unfolding differs_at
stands place [] bytes none = refl
stands place (x ∷ text) [] none = absurd cc
stands place (x ∷ text) (y ∷ bytes) none =
    let s = stands_step place x y text bytes (x == y) refl none in
    ap (λ (n : ℕ). n ∷ bytes) (sym s.0) ∙ ap (λ (l : List ℕ). x ∷ l) (stands (place + 1) text bytes s.1)

pub whole : (h c : List ℕ) → take 17 c ≡ h → c ≡ h ++ drop 17 c
whole h c e = sym (take-append-drop 17 c) ∙ ap (λ (l : List ℕ). l ++ drop 17 c) e

pub tells_short : (h c : List ℕ) → take 17 c ≡ h → length h < 17 → length c < 17
tells_short h c e less = omega (arith, ap length e, length-take 17 c)

pub tells_shut : (h c : List ℕ) → take 17 c ≡ h → 17 ≤ length h → get_or h 0 0 ≡ 0 → Begins (0 ∷ []) c
tells_shut [] c e long zero_first = absurd (omega arith)
tells_shut (x ∷ t) c e long zero_first = record { rest = t ++ drop 17 c; is = whole (x ∷ t) c e ∙ ap (λ (n : ℕ). n ∷ (t ++ drop 17 c)) zero_first }

foreign_headed : (place x : ℕ) (t more : List ℕ) → (x ≡ 0 → ⊥) → 17 ≤ length (x ∷ t) → differs_at 1 mark t ≡ Some place → foreign_at (x ∷ (t ++ more)) ≡ Some place
unfolding foreign_at
foreign_headed place x t more used long is =
    let enough : nat_lt (length (x ∷ (t ++ more))) 17 ≡ false = grind (arith, nat_tests, length-append t more) in
    let test : (x == 0) ≡ false = grind (arith, nat_tests) in
    rw (enough, test) (differs_more 1 mark t more (omega arith) ∙ is)

pub tells_foreign : (place : ℕ) (h c : List ℕ) → take 17 c ≡ h → 17 ≤ length h → (get_or h 0 0 ≡ 0 → ⊥) → differs_at 1 mark (drop 1 h) ≡ Some place → foreign_at c ≡ Some place
tells_foreign place [] c e long used is = absurd (omega arith)
tells_foreign place (x ∷ t) c e long used is = ap foreign_at (whole (x ∷ t) c e) ∙ foreign_headed place x t (drop 17 c) used long is

marked_headed : (x y generation : ℕ) (t eight c rest : List ℕ) → c ≡ x ∷ t → t ≡ mark ++ (eight ++ y ∷ rest) → to_be_bytes w64 generation ≡ eight → Marked generation c
marked_headed x y generation t eight c rest c_is t_is eight_is = record {
  gate = x;
  first = y;
  is = record { rest = rest; is = c_is ∙ ap (λ (l : List ℕ). x ∷ l) (t_is ∙ ap (λ (l : List ℕ). mark ++ (l ++ y ∷ rest)) (sym eight_is)) };
}

pub tells_marked : (generation : ℕ) (h c : List ℕ) → take 17 c ≡ h → 17 ≤ length h → differs_at 1 mark (drop 1 h) ≡ None → to_be_bytes w64 generation ≡ take 8 (drop 8 h) → Marked generation c
tells_marked generation [] c e long none is = absurd (omega arith)
tells_marked generation (x ∷ t) c e long none is =
    let more = drop 17 c in
    let one : drop 16 (x ∷ t) ≡ get_or (x ∷ t) 16 0 ∷ drop 17 (x ∷ t) = drop_more (x ∷ t) 16 0 (omega arith) in
    let split : drop 7 t ≡ take 8 (drop 7 t) ++ drop 16 (x ∷ t) = sym (take-append-drop 8 (drop 7 t)) ∙ ap (λ (l : List ℕ). take 8 (drop 7 t) ++ l) (drop-drop 8 7 t) in
    let t_is : t ++ more ≡ mark ++ (take 8 (drop 7 t) ++ get_or (x ∷ t) 16 0 ∷ (drop 17 (x ∷ t) ++ more)) =
    ap (λ (l : List ℕ). l ++ more) (stands 1 mark t none ∙ ap (λ (l : List ℕ). mark ++ l) (split ∙ ap (λ (l : List ℕ). take 8 (drop 7 t) ++ l) one)) ∙ simp append_assoc in
    marked_headed x (get_or (x ∷ t) 16 0) generation (t ++ more) (take 8 (drop 7 t)) c (drop 17 (x ∷ t) ++ more) (whole (x ∷ t) c e) t_is is

pub gate_headed : (generation : ℕ) (h c : List ℕ) (e : take 17 c ≡ h) (long : 17 ≤ length h) (none : differs_at 1 mark (drop 1 h) ≡ None) (is : to_be_bytes w64 generation ≡ take 8 (drop 8 h)) → (tells_marked generation h c e long none is).gate ≡ get_or h 0 0
unfolding tells_marked marked_headed
gate_headed generation [] c e long none is = absurd (omega arith)
gate_headed generation (x ∷ t) c e long none is = refl

pub able_of : (generation : ℕ) (h c : List ℕ) → take 17 c ≡ h → 17 ≤ length h → differs_at 1 mark (drop 1 h) ≡ None → to_be_bytes w64 generation ≡ take 8 (drop 8 h) → generation < 2 ^ 64 → get_or h 0 0 ≡ 1 → Able generation c
able_of generation h c e long none is fits one =
    let m = tells_marked generation h c e long none is in
    record { fits = fits; first = m.first; is = subst (λ n. Begins (n ∷ (mark ++ to_be_bytes w64 generation ++ m.first ∷ [])) c) (gate_headed generation h c e long none is ∙ one) m.is }

pub stale_of : (generation : ℕ) (h c : List ℕ) → take 17 c ≡ h → 17 ≤ length h → differs_at 1 mark (drop 1 h) ≡ None → to_be_bytes w64 generation ≡ take 8 (drop 8 h) → generation < 2 ^ 64 → (get_or h 0 0 ≡ 0 → ⊥) → (get_or h 0 0 ≡ 1 → ⊥) → IsStale generation c
stale_of generation h c e long none is fits not_closed not_open =
    let same = gate_headed generation h c e long none is in
    record { fits = fits; marked = tells_marked generation h c e long none is; not_closed = λ z. not_closed (sym same ∙ z); not_open = λ z. not_open (sym same ∙ z) }

-- the bytes of the generation
pub eight_bytes : (h : List ℕ) → 17 ≤ length h → take 8 (drop 8 h) ≡ get_or h 8 0 ∷ get_or h 9 0 ∷ get_or h 10 0 ∷ get_or h 11 0 ∷ get_or h 12 0 ∷ get_or h 13 0 ∷ get_or h 14 0 ∷ get_or h 15 0 ∷ []
eight_bytes h long =
    rw (drop_more h 8 0 (omega arith), drop_more h 9 0 (omega arith), drop_more h 10 0 (omega arith), drop_more h 11 0 (omega arith), drop_more h 12 0 (omega arith), drop_more h 13 0 (omega arith), drop_more h 14 0 (omega arith), drop_more h 15 0 (omega arith)) refl

-- those of a length behind a gate
pub four_bytes : (bytes : List ℕ) (gate : ℕ) → gate + 5 ≤ length bytes → take 4 (drop (gate + 1) bytes) ≡ get_or bytes (gate + 1) 0 ∷ get_or bytes (gate + 2) 0 ∷ get_or bytes (gate + 3) 0 ∷ get_or bytes (gate + 4) 0 ∷ []
four_bytes bytes gate room =
    let a : drop (gate + 1) bytes ≡ get_or bytes (gate + 1) 0 ∷ drop (gate + 2) bytes = drop_more bytes (gate + 1) 0 (omega arith) ∙ ap (λ (n : ℕ). get_or bytes (gate + 1) 0 ∷ drop n bytes) (omega arith) in
    let b : drop (gate + 2) bytes ≡ get_or bytes (gate + 2) 0 ∷ drop (gate + 3) bytes = drop_more bytes (gate + 2) 0 (omega arith) ∙ ap (λ (n : ℕ). get_or bytes (gate + 2) 0 ∷ drop n bytes) (omega arith) in
    let d : drop (gate + 3) bytes ≡ get_or bytes (gate + 3) 0 ∷ drop (gate + 4) bytes = drop_more bytes (gate + 3) 0 (omega arith) ∙ ap (λ (n : ℕ). get_or bytes (gate + 3) 0 ∷ drop n bytes) (omega arith) in
    let e : drop (gate + 4) bytes ≡ get_or bytes (gate + 4) 0 ∷ drop (gate + 5) bytes = drop_more bytes (gate + 4) 0 (omega arith) ∙ ap (λ (n : ℕ). get_or bytes (gate + 4) 0 ∷ drop n bytes) (omega arith) in
    rw (a, b, d, e) refl

-- bytes are small
all_small : (xs : List ℕ) → AllByRecursion (λ n. n < 256) xs → (i : ℕ) → get_or xs i 0 < 256
all_small [] all i = omega arith
all_small (x ∷ xs) all zero = all.0
all_small (x ∷ xs) all (suc i) = all_small xs all.1 i

pub four_small : (h : List ℕ) (gate : ℕ) → ((i : ℕ) → get_or h i 0 < 256) → (i : ℕ) → get_or (get_or h (gate + 1) 0 ∷ get_or h (gate + 2) 0 ∷ get_or h (gate + 3) 0 ∷ get_or h (gate + 4) 0 ∷ []) i 0 < 256
four_small h gate small = all_small (get_or h (gate + 1) 0 ∷ get_or h (gate + 2) 0 ∷ get_or h (gate + 3) 0 ∷ get_or h (gate + 4) 0 ∷ []) (small (gate + 1), (small (gate + 2), (small (gate + 3), (small (gate + 4), tt))))

pub eight_small : (h : List ℕ) → ((i : ℕ) → get_or h i 0 < 256) → (i : ℕ) → get_or (get_or h 8 0 ∷ get_or h 9 0 ∷ get_or h 10 0 ∷ get_or h 11 0 ∷ get_or h 12 0 ∷ get_or h 13 0 ∷ get_or h 14 0 ∷ get_or h 15 0 ∷ []) i 0 < 256
eight_small h small =
    all_small (get_or h 8 0 ∷ get_or h 9 0 ∷ get_or h 10 0 ∷ get_or h 11 0 ∷ get_or h 12 0 ∷ get_or h 13 0 ∷ get_or h 14 0 ∷ get_or h 15 0 ∷ [])
    (small 8, (small 9, (small 10, (small 11, (small 12, (small 13, (small 14, (small 15, tt))))))))
