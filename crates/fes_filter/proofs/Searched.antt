-- Why no place is passed over that the parts of a pattern could stand at.
use Rattle.std.proofs.Common.{◌≡◌, ℕ, zero, suc, ◌+◌, ◌<◌, ◌≤◌, ◌-◌, Bool, true, false, ◌||◌, ◌&&◌, List, [], ◌∷◌, ◌++◌, length, take, drop, drop-drop, length-append, refl, sym, ap, subst, ◌∙◌, arith, chars, IsUtf8}
use Rattle.std.specs.Prelude.{encode_utf8_all}
use Rattle.std.specs.List.{list_any}
use Rattle.std.specs.Str.{IsCharBoundary}
use Rattle.std.proofs.lemmas.List.{take-append-drop, append_assoc, take-append-le, length-take-le, length-drop, drop_all, get_or-append-add, get_or_append_left}
use Rattle.std.proofs.lemmas.Str.{encodes-append, encodes-chars, chars-append, IsUtf8-take, length-le-encodes}
use Rattle.std.proofs.lemmas.Bool.{eqb-true}
use Rattle.memchr.specs.Find.{OccursAt, Nowhere}
use Rattle.fes_filter.specs.declared.pattern.LikePart.{LikePart}
use Rattle.fes_filter.specs.declared.pattern.LikePart.TheVariants.{Exactly, One, Many}
use Rattle.fes_filter.specs.Like.{some_end, is_like}
use Rattle.fes_filter.specs.LikeFront.{is_many}
use Rattle.fes_filter.specs.LikePlace.{letters, NoManyBefore}
use Rattle.fes_filter.proofs.Likes.{place, and_right}

-- ---- ends of a text

not_true : (b : Bool) → (b ≡ true → ⊥) → b ≡ false
not_true true h = absurd (h refl)
not_true false h = refl

pub nowhere : (test : List ℕ → Bool) (cs : List ℕ) → ((k : ℕ) → test (drop k cs) ≡ true → ⊥) → some_end test cs ≡ false
nowhere test cs none = not_true _ (λ h. let at = place test cs h in none at.0 at.1)

past : (test : List ℕ → Bool) (n : ℕ) (cs : List ℕ) → ((k : ℕ) → k < n → test (drop k cs) ≡ false) → some_end test (drop n cs) ≡ some_end test cs
unfolding some_end
past test zero cs none = refl
past test (suc n) [] none = refl
past test (suc n) (c ∷ cs) none =
    past test n cs (λ k lt. none (suc k) (omega (arith, lt))) ∙ ap (λ b. b || some_end test cs) (sym (none 0 (omega arith)))

pub passed : (test : List ℕ → Bool) (n : ℕ) (cs : List ℕ) → ((k : ℕ) → k < n → test (drop k cs) ≡ true → ⊥) → some_end test (drop n cs) ≡ some_end test cs
passed test n cs none = past test n cs (λ k lt. not_true _ (none k lt))

-- ---- parts

like_behind : (n : ℕ) (parts : List LikePart) (cs : List ℕ) → NoManyBefore parts n → is_like parts cs ≡ true → is_like (drop n parts) (drop n cs) ≡ true
unfolding is_like
like_behind zero parts cs free h = h
like_behind (suc n) [] [] free h = h
like_behind (suc n) [] (c ∷ cs) free h = absurd cc
like_behind (suc n) (Exactly d ∷ parts) [] free h = absurd cc
like_behind (suc n) (Exactly d ∷ parts) (c ∷ cs) free h = like_behind n parts cs (λ k lt. free (suc k) (omega (arith, lt))) (and_right _ _ h)
like_behind (suc n) (One ∷ parts) [] free h = absurd cc
like_behind (suc n) (One ∷ parts) (c ∷ cs) free h = like_behind n parts cs (λ k lt. free (suc k) (omega (arith, lt))) h
like_behind (suc n) (Many ∷ parts) cs free h = let e : true ≡ false = free 0 (omega arith) in absurd cc

-- the same, from a later character on
like_ahead : (n k : ℕ) (parts : List LikePart) (cs : List ℕ) → NoManyBefore parts n → is_like parts (drop k cs) ≡ true → is_like (drop n parts) (drop k (drop n cs)) ≡ true
like_ahead n k parts cs free h =
    let e : drop n (drop k cs) ≡ drop k (drop n cs) = drop-drop n k cs ∙ ap (λ m. drop m cs) {x = k + n} {y = n + k} (omega arith) ∙ sym (drop-drop k n cs) in
    subst (λ t. is_like (drop n parts) t ≡ true) e (like_behind n parts (drop k cs) free h)

-- Without Many each part stands for one character.
pub as_long : (parts : List LikePart) (cs : List ℕ) → list_any is_many parts ≡ false → is_like parts cs ≡ true → length cs ≡ length parts
unfolding is_like
as_long [] [] free h = refl
as_long [] (c ∷ cs) free h = absurd cc
as_long (Exactly d ∷ parts) [] free h = absurd cc
as_long (Exactly d ∷ parts) (c ∷ cs) free h = ap suc (as_long parts cs free (and_right _ _ h))
as_long (One ∷ parts) [] free h = absurd cc
as_long (One ∷ parts) (c ∷ cs) free h = ap suc (as_long parts cs free h)
as_long (Many ∷ parts) cs free h = absurd cc

-- ---- the characters that parts begin with

and_left : (a b : Bool) → (a && b) ≡ true → a ≡ true
and_left true b h = refl
and_left false b h = absurd cc

begins : (parts : List LikePart) (cs : List ℕ) → is_like parts cs ≡ true → (more : List ℕ) × (cs ≡ letters parts ++ more)
unfolding is_like
begins [] cs h = (cs, refl)
begins (Exactly d ∷ parts) [] h = absurd cc
begins (Exactly d ∷ parts) (c ∷ cs) h =
    let rest = begins parts cs (and_right _ _ h) in
    let same : c ≡ d = eqb-true c d (and_left _ _ h) in
    (rest.0, ap (λ x. x ∷ cs) same ∙ ap (λ t. d ∷ t) rest.1)
begins (One ∷ parts) cs h = (cs, refl)
begins (Many ∷ parts) cs h = (cs, refl)

stands : (front b rest : List ℕ) → OccursAt (front ++ (b ++ rest)) b (length front)
stands front b rest = record {
  fits = omega (arith, length-append front (b ++ rest), length-append b rest);
  reads = λ j lt. get_or-append-add front (b ++ rest) j 0 ∙ get_or_append_left b rest 0 j lt;
}

-- Where the parts stand at a character, the bytes of their first characters stand there.
occurs : (parts : List LikePart) (text cs b more : List ℕ) (k : ℕ) → encode_utf8_all cs ≡ text → encode_utf8_all (letters parts) ≡ b ++ more → is_like parts (drop k cs) ≡ true → OccursAt text b (length (encode_utf8_all (take k cs)))
occurs parts text cs b more k is e h =
    let at = begins parts (drop k cs) h in
    let split : encode_utf8_all (drop k cs) ≡ b ++ (more ++ encode_utf8_all at.0) =
    ap encode_utf8_all at.1 ∙ encodes-append (letters parts) at.0 ∙ ap (λ t. t ++ encode_utf8_all at.0) e ∙ append_assoc b more (encode_utf8_all at.0) in
    let whole : encode_utf8_all (take k cs) ++ (b ++ (more ++ encode_utf8_all at.0)) ≡ text =
    ap (λ t. encode_utf8_all (take k cs) ++ t) (sym split) ∙ sym (encodes-append (take k cs) (drop k cs)) ∙ ap encode_utf8_all (take-append-drop k cs) ∙ is in
    subst (λ t. OccursAt t b (length (encode_utf8_all (take k cs)))) whole (stands (encode_utf8_all (take k cs)) b (more ++ encode_utf8_all at.0))

never : (parts : List LikePart) (text b more : List ℕ) (k : ℕ) → IsUtf8 text → encode_utf8_all (letters parts) ≡ b ++ more → Nowhere (OccursAt text b) 0 (length text + 1) → is_like parts (drop k (chars text)) ≡ true → ⊥
never parts text b more k utf8 e none h =
    let at = occurs parts text (chars text) b more k (encodes-chars text utf8) e h in
    none _ (omega arith) (omega (arith, at.fits)) at

-- the bytes before a character within the first `at` bytes
within : (text : List ℕ) (at k : ℕ) → IsUtf8 text → IsCharBoundary text at → k < length (chars (take at text)) → length (encode_utf8_all (take k (chars text))) < at
within text at k utf8 edge lt =
    let front : IsUtf8 (take at text) = IsUtf8-take text at utf8 edge in
    let fs : List ℕ = chars (take at text) in
    let all : chars text ≡ fs ++ chars (drop at text) = ap chars (sym (take-append-drop at text)) ∙ chars-append (take at text) (drop at text) front in
    let same : take k (chars text) ≡ take k fs = ap (take k) all ∙ take-append-le k fs (chars (drop at text)) (omega arith) in
    let long : length (encode_utf8_all (take k fs)) + length (encode_utf8_all (drop k fs)) ≡ at =
    sym (length-append (encode_utf8_all (take k fs)) (encode_utf8_all (drop k fs))) ∙ ap length (sym (encodes-append (take k fs) (drop k fs)) ∙ ap encode_utf8_all (take-append-drop k fs) ∙ encodes-chars (take at text) front) ∙ length-take-le at text edge.0 in
    let least : length (drop k fs) ≤ length (encode_utf8_all (drop k fs)) = length-le-encodes (drop k fs) in
    subst (λ t. length (encode_utf8_all t) < at) (sym same) (omega (arith, long, least, length-drop k fs))

not_before : (parts : List LikePart) (text b more : List ℕ) (at k : ℕ) → IsUtf8 text → IsCharBoundary text at → encode_utf8_all (letters parts) ≡ b ++ more → Nowhere (OccursAt text b) 0 at → k < length (chars (take at text)) → is_like parts (drop k (chars text)) ≡ true → ⊥
not_before parts text b more at k utf8 edge e none lt h =
    none _ (omega arith) (within text at k utf8 edge lt) (occurs parts text (chars text) b more k (encodes-chars text utf8) e h)

-- ---- what a search says

module _ (parts : List LikePart) (start : ℕ) (text ahead b more : List ℕ)
    (free : NoManyBefore parts start) (utf8 : IsUtf8 ahead) (is : chars ahead ≡ drop start (chars text)) (e : encode_utf8_all (letters (drop start parts)) ≡ b ++ more) where
  seen : (k : ℕ) → is_like parts (drop k (chars text)) ≡ true → is_like (drop start parts) (drop k (chars ahead)) ≡ true
  seen k h = subst (λ t. is_like (drop start parts) (drop k t) ≡ true) (sym is) (like_ahead start k parts (chars text) free h)

  -- The run stands nowhere.
  pub none_stands : Nowhere (OccursAt ahead b) 0 (length ahead + 1) → some_end (is_like parts) (chars text) ≡ false
  none_stands none = nowhere (is_like parts) (chars text) (λ k h. never (drop start parts) ahead b more k utf8 e none (seen k h))

  -- It stands nowhere before the byte `at`, which begins the character n.
  pub first_stands : (at n : ℕ) → IsCharBoundary ahead at → Nowhere (OccursAt ahead b) 0 at → n ≡ length (chars (take at ahead)) → some_end (is_like parts) (drop n (chars text)) ≡ some_end (is_like parts) (chars text)
  first_stands at n edge none same =
      passed (is_like parts) n (chars text) (λ k lt h. not_before (drop start parts) ahead b more at k utf8 edge e none (omega (arith, lt, same)) (seen k h))

-- ---- the last characters

pub too_short : (parts : List LikePart) (cs : List ℕ) → list_any is_many parts ≡ false → length cs < length parts → some_end (is_like parts) cs ≡ false
too_short parts cs free lt = nowhere (is_like parts) cs (λ k h. absurd (omega (arith, lt, as_long parts (drop k cs) free h, length-drop k cs)))

pub last_stands : (parts : List LikePart) (cs : List ℕ) → list_any is_many parts ≡ false → some_end (is_like parts) (drop (length cs - length parts) cs) ≡ some_end (is_like parts) cs
last_stands parts cs free = passed (is_like parts) (length cs - length parts) cs (λ k lt h. absurd (omega (arith, lt, as_long parts (drop k cs) free h, length-drop k cs)))

or_nothing : (a b : Bool) → b ≡ false → (a || b) ≡ a
or_nothing true b h = refl
or_nothing false b h = h

-- Behind the last Many an end of the text has to be as long as the parts.
pub one_end : (parts : List LikePart) (cs : List ℕ) → list_any is_many parts ≡ false → length cs ≤ length parts → some_end (is_like parts) cs ≡ is_like parts cs
unfolding some_end
one_end parts [] free le = refl
one_end parts (c ∷ cs) free le = or_nothing _ _ (too_short parts cs free (omega (arith, le)))

-- ---- characters one behind the other

pub none_left : (i n : ℕ) (cs : List ℕ) → i ≤ n → drop i cs ≡ [] → drop n cs ≡ []
none_left i n cs le e = drop_all n cs (omega (arith, le, ap length e, length-drop i cs))

pub one_behind : (i c : ℕ) (cs rest : List ℕ) → drop i cs ≡ c ∷ rest → rest ≡ drop (i + 1) cs
one_behind i c cs rest e = sym (ap (drop 1) e) ∙ drop-drop 1 i cs
