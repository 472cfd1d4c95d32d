-- Where a prefix has no continuation that begins with a head.
use Rattle.std.proofs.Common.{◌≡◌, ℕ, zero, suc, ◌⊎◌, inl, inr, Bool, true, not, ◌==◌, List, [], ◌∷◌, ◌++◌, length, take, All, IsTrue, refl, sym, ap₂, subst, ◌∙◌, arith, append-nil, suc-le-suc, zero-le}
use Rattle.std.proofs.lemmas.Bool.{and_parts}
use Rattle.std.proofs.lemmas.Bool.Decides.{nat_tests}
use Rattle.std.proofs.lemmas.List.{append_assoc}
use Rattle.std.proofs.Math.Seq.{take-append_seam}
use Rattle.std.specs.List.{list_all}
use Rattle.httparse.specs.Grammar.{LineEnd, crlf, lf, print_end, print_blank, is_token_byte, is_uri_byte, HasNoRequest, NeverHasRequest, MayBecomeRequest, EndsInTarget}
use Rattle.httparse.specs.declared.spans.HeaderSpan.{HeaderSpan}
use Rattle.http_session.specs.Reading.{IsStep}
use Rattle.http_session.specs.declared.head.Step.{Step}
use Rattle.http_session.specs.declared.head.Step.TheVariants as step
use Rattle.http_session.specs.Heads.{InTarget, IsBad}
use Rattle.http_session.specs.Cuts.{is_line_byte, is_plain}

pub never_more : (a b : List ℕ) → NeverHasRequest a → NeverHasRequest (a ++ b)
never_more a b n more = subst HasNoRequest (sym (append_assoc a b more)) (n (b ++ more))

pub has_none : (a : List ℕ) → NeverHasRequest a → HasNoRequest a
has_none a n = subst HasNoRequest (append-nil a) (n [])

-- one of two prefixes of a list begins with the other
pub record Longer (a b f r : List ℕ) : Type 0 where
  pub x : List ℕ
  pub front : a ≡ f ++ x
  pub rest : r ≡ x ++ b

pub two_fronts : (a b f r : List ℕ) → a ++ b ≡ f ++ r → Longer a b f r ⊎ Longer f r a b
two_fronts [] b f r e = inr (record { x = f; front = refl; rest = e })
two_fronts (c ∷ a) b [] r e = inl (record { x = c ∷ a; front = refl; rest = sym e })
two_fronts (c ∷ a) b (d ∷ f) r e =
    let same : c ≡ d = cc in
    elim (two_fronts a b f r (cc)) [
      | inl l ↦ inl (record { x = l.x; front = ap₂ ◌∷◌ same l.front; rest = l.rest })
      | inr l ↦ inr (record { x = l.x; front = ap₂ ◌∷◌ (sym same) l.front; rest = l.rest })
    ]

pub all_front : (p : ℕ → Bool) (xs ys : List ℕ) → list_all p (xs ++ ys) ≡ true → (list_all p xs ≡ true) × (list_all p ys ≡ true)
all_front p [] ys all = (refl, all)
all_front p (x ∷ xs) ys all =
    let parts = and_parts (p x) (list_all p (xs ++ ys)) all in
    let more = all_front p xs ys parts.1 in
    (rw (parts.0, more.0) refl, more.1)

pub all_both : (p : ℕ → Bool) (xs ys : List ℕ) → list_all p xs ≡ true → list_all p ys ≡ true → list_all p (xs ++ ys) ≡ true
all_both p [] ys a b = b
all_both p (x ∷ xs) ys a b =
    let parts = and_parts (p x) (list_all p xs) a in
    rw (parts.0, all_both p xs ys parts.1 b) refl

pub all_weaker : (p q : ℕ → Bool) (xs : List ℕ) → ((x : ℕ) → p x ≡ true → q x ≡ true) → list_all p xs ≡ true → list_all q xs ≡ true
all_weaker p q [] h a = refl
all_weaker p q (x ∷ xs) h a =
    let parts = and_parts (p x) (list_all p xs) a in
    rw (h x parts.0, all_weaker p q xs h parts.1) refl

pub all_pass : (p q : ℕ → Bool) (xs : List ℕ) → ((x : ℕ) → p x ≡ true → q x ≡ true) → All (λ b. IsTrue (p b)) xs → list_all q xs ≡ true
all_pass p q [] h a = refl
all_pass p q (x ∷ xs) h a = rw (h x (a zero x (suc-le-suc zero-le)), all_pass p q xs h (λ k d lt. a (suc k) d (suc-le-suc lt))) refl

token_plain : (b : ℕ) → is_token_byte b ≡ true → is_plain b ≡ true
unfolding is_token_byte
token_plain b is = grind (arith, nat_tests)

uri_plain : (b : ℕ) → is_uri_byte b ≡ true → is_plain b ≡ true
uri_plain b is = grind (arith, nat_tests)

end_lines : (e : LineEnd) → list_all is_line_byte (print_end e) ≡ true
end_lines crlf = refl
end_lines lf = refl

blank_lines : (blank : List LineEnd) → list_all is_line_byte (print_blank blank) ≡ true
blank_lines [] = refl
blank_lines (e ∷ es) = all_both is_line_byte (print_end e) (print_blank es) (end_lines e) (blank_lines es)

-- what ends in the grammar's target ends within the target
pub in_target : (bytes : List ℕ) → EndsInTarget bytes → InTarget bytes
in_target bytes (blank, method, target, token, uri, whole) = record {
  lines = print_blank blank;
  method = method;
  target = target;
  only_lines = blank_lines blank;
  plain_method = all_pass is_token_byte is_plain method token_plain token.1;
  plain_target = all_pass is_uri_byte is_plain target uri_plain uri;
  whole = whole;
}

abbrev no_space : ℕ → Bool
no_space b = not (b == 32)

line_no_space : (b : ℕ) → is_line_byte b ≡ true → no_space b ≡ true
line_no_space b is = grind (arith, nat_tests)

plain_no_space : (b : ℕ) → is_plain b ≡ true → no_space b ≡ true
plain_no_space b is = (and_parts (no_space b) (not (is_line_byte b)) is).0

-- the bytes before the space do not end within the target
pub front_is_out : (lines method : List ℕ) → list_all is_line_byte lines ≡ true → list_all is_plain method ≡ true → ¬ (InTarget (lines ++ method))
front_is_out lines method l m t =
    let none = all_both no_space lines method (all_weaker is_line_byte no_space lines line_no_space l) (all_weaker is_plain no_space method plain_no_space m) in
    let here = (all_front no_space (t.lines ++ t.method) (32 ∷ t.target) (subst (λ k. list_all no_space k ≡ true) t.whole none)).1 in
    cc

-- a prefix of what ends within the target ends there too, or stands before the space
pub front_or_in : (bytes f r : List ℕ) (t : InTarget bytes) → bytes ≡ f ++ r → (InTarget f) ⊎ ((x : List ℕ) × (t.lines ++ t.method ≡ f ++ x))
front_or_in bytes f r t e =
    elim (two_fronts (t.lines ++ t.method) (32 ∷ t.target) f r (sym t.whole ∙ e)) [
      | inl l ↦ inr (l.x, l.front)
      | inr l ↦ behind l.x l.front l.rest
    ]
  where
    behind : (x : List ℕ) → f ≡ (t.lines ++ t.method) ++ x → 32 ∷ t.target ≡ x ++ r → (InTarget f) ⊎ ((y : List ℕ) × (t.lines ++ t.method ≡ f ++ y))
    behind [] fe re = inr ([], sym (append-nil (t.lines ++ t.method)) ∙ sym fe ∙ sym (append-nil f))
    behind (c ∷ x) fe re =
        let same : c ≡ 32 = cc in
        let rest : t.target ≡ x ++ r = cc in
        inl (record {
          lines = t.lines;
          method = t.method;
          target = x;
          only_lines = t.only_lines;
          plain_method = t.plain_method;
          plain_target = (all_front is_plain x r (subst (λ k. list_all is_plain k ≡ true) rest t.plain_target)).0;
          whole = subst (λ k. f ≡ (t.lines ++ t.method) ++ k ∷ x) same fe;
        })

pub bad_of_front : (bytes : List ℕ) (t : InTarget bytes) → NeverHasRequest (t.lines ++ t.method) → IsBad bytes
bad_of_front bytes t n = (t.lines ++ t.method, 32 ∷ t.target, t.whole, front_is_out t.lines t.method t.only_lines t.plain_method, n)

-- no prefix is bad where the bytes before the space can go on
pub fine_of_front : (bytes : List ℕ) (t : InTarget bytes) → ¬ (NeverHasRequest (t.lines ++ t.method)) → ¬ (IsBad bytes)
fine_of_front bytes t can (f, r, e, out, n) =
    elim (front_or_in bytes f r t e) [
      | inl within ↦ out within
      | inr before ↦ can (subst NeverHasRequest (sym before.1) (never_more f before.0 n))
    ]

pub fine_of_bytes : (bytes : List ℕ) → ¬ (NeverHasRequest bytes) → ¬ (IsBad bytes)
fine_of_bytes bytes can (f, r, e, out, n) = can (subst NeverHasRequest (sym e) (never_more f r n))

pub bad_of_bytes : (bytes : List ℕ) → ¬ (InTarget bytes) → NeverHasRequest bytes → IsBad bytes
bad_of_bytes bytes out n = (bytes, [], sym (append-nil bytes), out, n)

-- what may become a head, and does not end within the target, goes on
pub can_go_on : (bytes : List ℕ) → ¬ (InTarget bytes) → MayBecomeRequest bytes → ¬ (NeverHasRequest bytes)
can_go_on bytes out (inl (more, h, reads)) n = n more h [] reads
can_go_on bytes out (inr ends) n = out (in_target bytes ends)

pub front_is : (bytes : List ℕ) (at : ℕ) (t : InTarget bytes) → at ≡ length (t.lines ++ t.method) → take at bytes ≡ t.lines ++ t.method
front_is bytes at t is = rw (is, t.whole) (take-append_seam (t.lines ++ t.method) (32 ∷ t.target))

pub can_of_step : (front : List ℕ) (headers : List HeaderSpan) (s : Step) → ¬ (s ≡ step.Never) → IsStep front headers s → ¬ (InTarget front) → ¬ (NeverHasRequest front)
can_of_step front headers (step.Head r) other is out = λ n. has_none front n is.head _ is.at.reads
can_of_step front headers step.More other is out = can_go_on front out is.1
can_of_step front headers step.Never other is out = absurd (other refl)
