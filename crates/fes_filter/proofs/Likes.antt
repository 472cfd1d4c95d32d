-- Why the first place of each run of parts is as good as any later one.
use Rattle.std.proofs.Common.{◌≡◌, ℕ, zero, suc, ◌+◌, ◌<◌, ◌≤◌, Bool, true, false, ◌||◌, ◌&&◌, cond, List, [], ◌∷◌, length, get_or, drop, drop-drop, Option, Some, None, refl, sym, ap, subst, ◌∙◌, arith}
use Rattle.std.specs.Prelude.{◌==◌, encode_utf8}
use Rattle.std.specs.Option.{option_and_then}
use Rattle.std.proofs.lemmas.List.{drop_more, at_drop_all}
use Rattle.std.proofs.lemmas.Str.{length-encode, len_utf8_bounds}
use Rattle.fes_filter.specs.declared.pattern.LikePart.{LikePart}
use Rattle.fes_filter.specs.declared.pattern.LikePart.TheVariants.{Exactly, One, Many}
use Rattle.fes_filter.specs.Like.{some_end, is_like}
use Rattle.fes_filter.specs.LikeFront.{is_many, after_part, front_of, Left, by_front}

-- ---- ends of a text

same_if : (a b : Bool) → (a ≡ true → b ≡ true) → (b ≡ true → a ≡ true) → a ≡ b
same_if true true f g = refl
same_if true false f g = sym (f refl)
same_if false true f g = g refl
same_if false false f g = refl

or_left : (a b : Bool) → a ≡ true → (a || b) ≡ true
or_left true b h = refl
or_left false b h = absurd cc

or_right : (a b : Bool) → b ≡ true → (a || b) ≡ true
or_right true b h = refl
or_right false b h = h

pub at_end : (test : List ℕ → Bool) → some_end test [] ≡ test []
unfolding some_end
at_end test = refl

pub at_more : (test : List ℕ → Bool) (c : ℕ) (cs : List ℕ) → some_end test (c ∷ cs) ≡ (test (c ∷ cs) || some_end test cs)
unfolding some_end
at_more test c cs = refl

here : (test : List ℕ → Bool) (cs : List ℕ) → test cs ≡ true → some_end test cs ≡ true
unfolding some_end
here test [] h = h
here test (c ∷ cs) h = or_left _ _ h

later : (test : List ℕ → Bool) (k : ℕ) (cs : List ℕ) → some_end test (drop k cs) ≡ true → some_end test cs ≡ true
unfolding some_end
later test zero cs h = h
later test (suc k) [] h = h
later test (suc k) (c ∷ cs) h = or_right _ _ (later test k cs h)

-- an end at which the test holds
further : (test : List ℕ → Bool) (c : ℕ) (cs : List ℕ) → ((k : ℕ) × (test (drop k cs) ≡ true)) → (k : ℕ) × (test (drop k (c ∷ cs)) ≡ true)
further test c cs (k, h) = (suc k, h)

place_of : (test : List ℕ → Bool) (c : ℕ) (cs : List ℕ) → (some_end test cs ≡ true → (k : ℕ) × (test (drop k cs) ≡ true)) → (b : Bool) → test (c ∷ cs) ≡ b → (b || some_end test cs) ≡ true → (k : ℕ) × (test (drop k (c ∷ cs)) ≡ true)
place_of test c cs more true e h = (0, e)
place_of test c cs more false e h = further test c cs (more h)

pub place : (test : List ℕ → Bool) (cs : List ℕ) → some_end test cs ≡ true → (k : ℕ) × (test (drop k cs) ≡ true)
unfolding some_end
place test [] h = (0, h)
place test (c ∷ cs) h = place_of test c cs (place test cs) (test (c ∷ cs)) refl h

-- ---- the parts before the first Many

exactly_by_front : (parts : List LikePart) (cs : List ℕ) → is_like parts cs ≡ by_front (front_of parts cs) → (b : Bool) → (b && is_like parts cs) ≡ by_front (option_and_then (front_of parts) (cond b (Some cs) None))
exactly_by_front parts cs more true = more
exactly_by_front parts cs more false = refl

pub like_by_front : (parts : List LikePart) (cs : List ℕ) → is_like parts cs ≡ by_front (front_of parts cs)
unfolding is_like front_of
like_by_front [] [] = refl
like_by_front [] (c ∷ cs) = refl
like_by_front (Exactly d ∷ parts) [] = refl
like_by_front (Exactly d ∷ parts) (c ∷ cs) = exactly_by_front parts cs (like_by_front parts cs) (c == d)
like_by_front (One ∷ parts) [] = refl
like_by_front (One ∷ parts) (c ∷ cs) = like_by_front parts cs
like_by_front (Many ∷ parts) cs = refl

pub and_right : (a b : Bool) → (a && b) ≡ true → b ≡ true
and_right true b h = h
and_right false b h = absurd cc

-- A part other than Many takes one character.
exactly_less : (d : ℕ) (parts : List LikePart) (cs : List ℕ) → is_like (Exactly d ∷ parts) cs ≡ true → is_like parts (drop 1 cs) ≡ true
unfolding is_like
exactly_less d parts [] h = absurd cc
exactly_less d parts (c ∷ cs) h = and_right _ _ h

one_less : (parts : List LikePart) (cs : List ℕ) → is_like (One ∷ parts) cs ≡ true → is_like parts (drop 1 cs) ≡ true
unfolding is_like
one_less parts [] h = absurd cc
one_less parts (c ∷ cs) h = h

swapped : (k : ℕ) (c : ℕ) (cs : List ℕ) → drop 1 (drop k (c ∷ cs)) ≡ drop k cs
swapped k c cs = drop-drop 1 k (c ∷ cs) ∙ ap (λ n. drop n (c ∷ cs)) {x = k + 1} {y = suc k} (omega arith)

if_some : {X Y : Type 0} (f : X → Option Y) (x : X) (y : Y) (b : Bool) → option_and_then f (cond b (Some x) None) ≡ Some y → f x ≡ Some y
if_some f x y true e = e
if_some f x y false e = absurd cc

parts_left : Option (Option Left) → List LikePart
parts_left None = []
parts_left (Some None) = []
parts_left (Some (Some left)) = left.0

text_left : Option (Option Left) → List ℕ
text_left None = []
text_left (Some None) = []
text_left (Some (Some left)) = left.1

-- Where the parts before the first Many are like some later characters, the rest is like an end of what is left.
shifted : (parts rest : List LikePart) (cs left : List ℕ) (k : ℕ) → front_of parts cs ≡ Some (Some (rest, left)) → is_like parts (drop k cs) ≡ true → some_end (is_like rest) (drop k left) ≡ true
unfolding is_like front_of parts_left text_left
shifted [] rest [] left k e h = absurd cc
shifted [] rest (c ∷ cs) left k e h = absurd cc
shifted (Exactly d ∷ parts) rest [] left k e h = absurd cc
shifted (Exactly d ∷ parts) rest (c ∷ cs) left k e h =
    shifted parts rest cs left k (if_some (front_of parts) cs (Some (rest, left)) (c == d) e) (subst (λ t. is_like parts t ≡ true) (swapped k c cs) (exactly_less d parts (drop k (c ∷ cs)) h))
shifted (One ∷ parts) rest [] left k e h = absurd cc
shifted (One ∷ parts) rest (c ∷ cs) left k e h =
    shifted parts rest cs left k e (subst (λ t. is_like parts t ≡ true) (swapped k c cs) (one_less parts (drop k (c ∷ cs)) h))
shifted (Many ∷ parts) rest cs left k e h =
    let p : parts ≡ rest = ap parts_left e in
    let q : cs ≡ left = ap text_left e in
    subst (λ t. some_end (is_like rest) (drop k t) ≡ true) q (subst (λ t. some_end (is_like t) (drop k cs) ≡ true) p h)

-- So the first place decides.
pub first_place : (parts rest : List LikePart) (cs left : List ℕ) → Some (Some (rest, left)) ≡ front_of parts cs → some_end (is_like parts) cs ≡ some_end (is_like rest) left
first_place parts rest cs left e = same_if _ _
    (λ h. let at = place (is_like parts) cs h in later (is_like rest) at.0 left (shifted parts rest cs left at.0 (sym e) at.1))
    (λ h. here (is_like parts) cs (like_by_front parts cs ∙ ap by_front (sym e) ∙ h))

-- Where the parts before the first Many differ here, a later end decides.
pub past_place : (parts : List LikePart) (text : List ℕ) (c : ℕ) (cs : List ℕ) → text ≡ c ∷ cs → None ≡ front_of parts text → some_end (is_like parts) text ≡ some_end (is_like parts) cs
past_place parts text c cs is e =
    ap (some_end (is_like parts)) is ∙ at_more (is_like parts) c cs
    ∙ ap (λ b. b || some_end (is_like parts) cs) (ap (is_like parts) (sym is) ∙ like_by_front parts text ∙ ap by_front (sym e))

pub no_place : (parts : List LikePart) (text : List ℕ) → text ≡ [] → None ≡ front_of parts text → some_end (is_like parts) text ≡ false
no_place parts text is e = ap (some_end (is_like parts)) is ∙ at_end (is_like parts) ∙ ap (is_like parts) (sym is) ∙ like_by_front parts text ∙ ap by_front (sym e)

pub whole_place : (parts : List LikePart) (cs : List ℕ) → Some None ≡ front_of parts cs → some_end (is_like parts) cs ≡ true
whole_place parts cs e = here (is_like parts) cs (like_by_front parts cs ∙ ap by_front (sym e))

-- ---- one part after the other

step_many : (part : LikePart) (parts : List LikePart) (cs : List ℕ) → is_many part ≡ true → front_of (part ∷ parts) cs ≡ Some (Some (parts, cs))
unfolding front_of
step_many (Exactly d) parts cs h = absurd cc
step_many One parts cs h = absurd cc
step_many Many parts cs h = refl

step_part : (part : LikePart) (parts : List LikePart) (cs : List ℕ) → is_many part ≡ false → front_of (part ∷ parts) cs ≡ option_and_then (front_of parts) (after_part part cs)
unfolding front_of
step_part (Exactly d) parts cs h = refl
step_part One parts cs h = refl
step_part Many parts cs h = absurd cc

pub front_at_many : (parts : List LikePart) (cs : List ℕ) (i : ℕ) (d : LikePart) → i < length parts → is_many (get_or parts i d) ≡ true → front_of (drop i parts) cs ≡ Some (Some (drop (i + 1) parts, cs))
front_at_many parts cs i d lt h = rw (drop_more parts i d lt) (step_many (get_or parts i d) (drop (i + 1) parts) cs h)

pub front_at_part : (parts : List LikePart) (cs : List ℕ) (i : ℕ) (d : LikePart) → i < length parts → is_many (get_or parts i d) ≡ false → front_of (drop i parts) cs ≡ option_and_then (front_of (drop (i + 1) parts)) (after_part (get_or parts i d) cs)
front_at_part parts cs i d lt h = rw (drop_more parts i d lt) (step_part (get_or parts i d) (drop (i + 1) parts) cs h)

pub front_end : (parts : List LikePart) (cs : List ℕ) (i : ℕ) → length parts ≤ i → front_of (drop i parts) cs ≡ front_of [] cs
front_end parts cs i le = at_drop_all (λ ps. front_of ps cs) parts i le

pub encode_nonempty : (c : ℕ) → 0 < length (encode_utf8 c)
encode_nonempty c = let bounds = len_utf8_bounds c in omega (arith, length-encode c)
