-- Lists that are cut by a test.
use Rattle.std.proofs.Common.{◌≡◌, ℕ, ◌+◌, Bool, true, false, List, [], ◌∷◌, ◌++◌, length, refl, sym, ap, ap₂, subst, ◌∙◌, arith, Some, None, ◌==◌, if◌then◌else◌}
use Rattle.std.proofs.lemmas.Bool.{and_parts}
use Rattle.std.specs.List.{list_all}
use Rattle.std.proofs.lemmas.List.Folds.{list_all-append}
use Rattle.std.proofs.lemmas.Bool.Decides.{nat_tests}
use Rattle.std.proofs.lemmas.List.{append_assoc, append-nil, length-append}
use Rattle.http_session.specs.Heads.{InTarget, after_space}
use Rattle.http_session.specs.Cuts.{StartsOutside, Cut, is_line_byte, is_plain}

-- a list is cut in one way into those that pass and a rest that begins with none
pub cut_once : (p : ℕ → Bool) (a b c d : List ℕ) → a ++ b ≡ c ++ d → list_all p a ≡ true → list_all p c ≡ true → StartsOutside p b → StartsOutside p d → (a ≡ c) × (b ≡ d)
cut_once p [] b [] d e pa pc ob od = (refl, e)
cut_once p [] [] (y ∷ c) d e pa pc ob od = absurd cc
cut_once p [] (z ∷ b) (y ∷ c) d e pa pc ob od =
    let same : z ≡ y = cc in
    let yes = (and_parts (p y) (list_all p c) pc).0 in
    absurd cc
cut_once p (x ∷ a) b [] [] e pa pc ob od = absurd cc
cut_once p (x ∷ a) b [] (z ∷ d) e pa pc ob od =
    let same : z ≡ x = cc in
    let yes = (and_parts (p x) (list_all p a) pa).0 in
    absurd cc
cut_once p (x ∷ a) b (y ∷ c) d e pa pc ob od =
    let same : x ≡ y = cc in
    let rest : a ++ b ≡ c ++ d = cc in
    let more = cut_once p a b c d rest (and_parts (p x) (list_all p a) pa).1 (and_parts (p y) (list_all p c) pc).1 ob od in
    (ap₂ ◌∷◌ same more.0, more.1)

-- a method that is followed by a space does not begin with CR or LF
method_start : (method target : List ℕ) → list_all is_plain method ≡ true → StartsOutside is_line_byte (method ++ 32 ∷ target)
method_start [] target plain = refl
method_start (m ∷ method) target plain = not_line m (and_parts (is_plain m) (list_all is_plain method) plain).0
  where
    not_line : (b : ℕ) → is_plain b ≡ true → is_line_byte b ≡ false
    not_line b is = grind (arith, nat_tests)

-- where bytes that end within the target are cut
pub target_cut : (bytes lines rest method tail : List ℕ) (t : InTarget bytes) → Cut is_line_byte bytes lines rest → Cut is_plain rest method tail → tail ≡ 32 ∷ t.target
target_cut bytes lines rest method tail t first second =
    let one = cut_once is_line_byte lines rest t.lines (t.method ++ 32 ∷ t.target) (sym first.whole ∙ t.whole ∙ append_assoc t.lines t.method (32 ∷ t.target)) first.run t.only_lines first.stop (method_start t.method t.target t.plain_method) in
    let two = cut_once is_plain method tail t.method (32 ∷ t.target) (sym second.whole ∙ one.1) second.run t.plain_method second.stop refl in
    two.1

pub not_in_target : (bytes lines rest method tail : List ℕ) → Cut is_line_byte bytes lines rest → Cut is_plain rest method tail → ((target : List ℕ) → ¬ (tail ≡ 32 ∷ target)) → ¬ (InTarget bytes)
not_in_target bytes lines rest method tail first second none t = none t.target (target_cut bytes lines rest method tail t first second)

pub target_ended : (bytes lines rest method target front more : List ℕ) → Cut is_line_byte bytes lines rest → Cut is_plain rest method (32 ∷ target) → Cut is_plain target front more → ¬ (more ≡ []) → ¬ (InTarget bytes)
target_ended bytes lines rest method target front more first second third some t =
    let e = target_cut bytes lines rest method (32 ∷ target) t first second in
    let same : target ≡ t.target = cc in
    some (cut_once is_plain front more t.target [] (sym third.whole ∙ same ∙ sym (append-nil t.target)) third.run t.plain_target third.stop tt).1

pub is_in_target : (bytes lines rest method target front more : List ℕ) → Cut is_line_byte bytes lines rest → Cut is_plain rest method (32 ∷ target) → Cut is_plain target front more → more ≡ []
    → (t : InTarget bytes) × (length lines + length method ≡ length (t.lines ++ t.method))
is_in_target bytes lines rest method target front more first second third none =
    let all : target ≡ front = third.whole ∙ ap (λ (x : List ℕ). front ++ x) none ∙ append-nil front in (
      record {
        lines = lines;
        method = method;
        target = target;
        only_lines = first.run;
        plain_method = second.run;
        plain_target = subst (λ k. list_all is_plain k ≡ true) (sym all) third.run;
        whole = first.whole ∙ ap (λ (x : List ℕ). lines ++ x) second.whole ∙ sym (append_assoc lines method (32 ∷ target));
      },
      sym (length-append lines method),
    )

-- where all are CR and LF, and where not
pub all_of_cut : (p : ℕ → Bool) (bytes front rest : List ℕ) → Cut p bytes front rest → rest ≡ [] → list_all p bytes ≡ true
all_of_cut p bytes front rest cut none = subst (λ k. list_all p k ≡ true) (sym (cut.whole ∙ ap (λ (x : List ℕ). front ++ x) none ∙ append-nil front)) cut.run

pub not_all_of_cut : (p : ℕ → Bool) (bytes front rest : List ℕ) → Cut p bytes front rest → ¬ (rest ≡ []) → list_all p bytes ≡ false
not_all_of_cut p bytes front [] cut some = absurd (some refl)
not_all_of_cut p bytes front (b ∷ rest) cut some = rw (cut.whole, list_all-append p front (b ∷ rest), cut.run, cut.stop) refl

pub behind_space : (tail target : List ℕ) → after_space tail ≡ Some target → tail ≡ 32 ∷ target
behind_space [] target e = absurd cc
behind_space (b ∷ tail) target e = by_test (b == 32) refl e
  where
    by_test : (test : Bool) → b == 32 ≡ test → (if test then Some tail else None) ≡ Some target → b ∷ tail ≡ 32 ∷ target
    by_test true is e =
        let first : b ≡ 32 = grind (arith, nat_tests) in
        let rest : tail ≡ target = cc in
        ap₂ ◌∷◌ first rest
    by_test false is e = absurd cc

pub not_space : (tail target : List ℕ) → after_space tail ≡ None → ¬ (tail ≡ 32 ∷ target)
not_space tail target e is = let k : after_space (32 ∷ target) ≡ None = subst (λ t. after_space t ≡ None) is e in absurd cc

nil_of_test : (xs : List ℕ) → true ≡ (length xs == 0) → xs ≡ []
nil_of_test [] e = refl
nil_of_test (x ∷ xs) e = grind (arith, nat_tests, e)

some_of_test : (xs : List ℕ) → false ≡ (length xs == 0) → ¬ (xs ≡ [])
some_of_test [] e none = absurd cc
some_of_test (x ∷ xs) e none = absurd cc

pub space_found : (bytes lines rest method tail target front more : List ℕ) → Cut is_line_byte bytes lines rest → Cut is_plain rest method tail → Some target ≡ after_space tail → Cut is_plain target front more → true ≡ (length more == 0)
    → (t : InTarget bytes) × (length lines + length method ≡ length (t.lines ++ t.method))
space_found bytes lines rest method tail target front more first second space third none =
    is_in_target bytes lines rest method target front more first (subst (λ k. Cut is_plain rest method k) (behind_space tail target (sym space)) second) third (nil_of_test more none)

pub space_ended : (bytes lines rest method tail target front more : List ℕ) → Cut is_line_byte bytes lines rest → Cut is_plain rest method tail → Some target ≡ after_space tail → Cut is_plain target front more → false ≡ (length more == 0)
    → ¬ (InTarget bytes)
space_ended bytes lines rest method tail target front more first second space third some =
    target_ended bytes lines rest method target front more first (subst (λ k. Cut is_plain rest method k) (behind_space tail target (sym space)) second) third (some_of_test more some)

pub no_space : (bytes lines rest method tail : List ℕ) → Cut is_line_byte bytes lines rest → Cut is_plain rest method tail → None ≡ after_space tail → ¬ (InTarget bytes)
no_space bytes lines rest method tail first second none = not_in_target bytes lines rest method tail first second (λ target. not_space tail target (sym none))

pub all_lines : (p : ℕ → Bool) (bytes front rest : List ℕ) → Cut p bytes front rest → true ≡ (length rest == 0) → list_all p bytes ≡ true
all_lines p bytes front rest cut none = all_of_cut p bytes front rest cut (nil_of_test rest none)

pub not_all_lines : (p : ℕ → Bool) (bytes front rest : List ℕ) → Cut p bytes front rest → false ≡ (length rest == 0) → list_all p bytes ≡ false
not_all_lines p bytes front rest cut some = not_all_of_cut p bytes front rest cut (some_of_test rest some)
