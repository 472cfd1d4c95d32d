-- It does not matter which geometry is named first, and a greater distance holds what a lesser holds.
use Rattle.std.proofs.Common.{◌≡◌, ℕ, ◌*◌, ◌≤◌, ℤ, pos, negsuc, ◌*ℤ◌, ◌≤ℤ◌, Bool, true, false, ◌&&◌, ◌||◌, int_le, inl, inr, List, [], ◌∷◌, refl, ap, ◌∙◌, sym, arith}
use Rattle.std.proofs.lemmas.Int.{ints}
use Rattle.std.proofs.lemmas.Nat.{mul-le}
use Rattle.std.specs.List.{list_any}
use Rattle.geom_core.specs.Plane.{Point}
use Rattle.geom_core.specs.Segments.{Segment}
use Rattle.geom_core.specs.declared.geometry.Geometry.{Geometry}
use Rattle.geom_core.proofs.Both.{either, or_left, or_right, or_comm}
use Rattle.spatial_tests.specs.Sharing.{segments_of, do_intersect}
use Rattle.spatial_tests.proofs.Apart.{do_intersect-symmetric}
use Rattle.distance_tests.specs.Within.{way, dot, are_close, is_before, is_behind, is_abreast, is_line_close, is_near, are_near, near_some, are_any_near, is_within_distance}
use Rattle.distance_tests.proofs.Products.{dot-up}

are_near-symmetric : (d : ℕ) (s t : Segment) → are_near d s t ≡ are_near d t s
unfolding are_near
are_near-symmetric d s t = or_comm (is_near d s.from t || is_near d s.to t) (is_near d t.from s || is_near d t.to s)

any-none : (ts : List Segment) → list_any (λ t. false) ts ≡ false
any-none [] = refl
any-none (t ∷ ts) = any-none ts

any-or : (f g : Segment → Bool) (ts : List Segment) → list_any (λ t. f t || g t) ts ≡ (list_any f ts || list_any g ts)
any-or f g [] = refl
any-or f g (t ∷ ts) = ap (λ b. (f t || g t) || b) (any-or f g ts) ∙ four (f t) (g t) (list_any f ts) (list_any g ts)
  where
    four : (a b c d : Bool) → ((a || b) || (c || d)) ≡ ((a || c) || (b || d))
    four true b c d = refl
    four false true true d = refl
    four false true false d = refl
    four false false true d = refl
    four false false false d = refl

any-same : (f g : Segment → Bool) → ((t : Segment) → f t ≡ g t) → (ts : List Segment) → list_any f ts ≡ list_any g ts
any-same f g e [] = refl
any-same f g e (t ∷ ts) = rw (e t, any-same f g e ts) refl

are_any_near-symmetric : (d : ℕ) (ss ts : List Segment) → are_any_near d ss ts ≡ are_any_near d ts ss
are_any_near-symmetric d [] ts = sym (any-none ts)
are_any_near-symmetric d (s ∷ ss) ts =
    ap (λ b. near_some d s ts || b) (are_any_near-symmetric d ss ts)
    ∙ (ap (λ b. b || are_any_near d ts ss) (any-same (are_near d s) (λ t. are_near d t s) (are_near-symmetric d s) ts)
    ∙ sym (any-or (λ t. are_near d t s) (λ t. near_some d t ss) ts))

pub symmetric : (a b : Geometry) (d : ℕ) → is_within_distance a b d ≡ is_within_distance b a d
unfolding is_within_distance
symmetric a b d = rw (do_intersect-symmetric a b, are_any_near-symmetric d (segments_of a) (segments_of b)) refl

-- Tests that hold where others do.
and-more : (a b b' : Bool) → (b ≡ true → b' ≡ true) → (a && b) ≡ true → (a && b') ≡ true
and-more true b b' f h = f h
and-more false b b' f h = h

pub or-more : (a b a' b' : Bool) → (a ≡ true → a' ≡ true) → (b ≡ true → b' ≡ true) → (a || b) ≡ true → (a' || b') ≡ true
or-more a b a' b' f g h = elim (either a b h) [ inl i ↦ or_left a' b' (f i) | inr i ↦ or_right a' b' (g i) ]

pub any-more : (f g : Segment → Bool) → ((t : Segment) → f t ≡ true → g t ≡ true) → (ts : List Segment) → list_any f ts ≡ true → list_any g ts ≡ true
any-more f g e [] h = h
any-more f g e (t ∷ ts) h = or-more (f t) (list_any f ts) (g t) (list_any g ts) (e t) (any-more f g e ts) h

le-more : (z : ℤ) (m n : ℕ) → m ≤ n → int_le z (pos m) ≡ true → int_le z (pos n) ≡ true
le-more z m n h k = grind (arith, ints)

times-more : (y z : ℤ) (m n : ℕ) → m ≤ n → pos 0 ≤ℤ z → int_le y (pos m *ℤ z) ≡ true → int_le y (pos n *ℤ z) ≡ true
times-more y (negsuc k) m n h up i = absurd (omega (arith, ints))
times-more y (pos k) m n h up i = le-more y (m * k) (n * k) (mul-le m k n k h (omega arith)) i

close-more : (d e : ℕ) (p q : Point) → d ≤ e → are_close d p q ≡ true → are_close e p q ≡ true
unfolding are_close
close-more d e p q h i = le-more (dot (way p q) (way p q)) (d * d) (e * e) (mul-le d d e e h h) i

line-more : (d e : ℕ) (p : Point) (s : Segment) → d ≤ e → is_line_close d p s ≡ true → is_line_close e p s ≡ true
unfolding is_line_close
line-more d e p s h i = times-more _ (dot (way s.from s.to) (way s.from s.to)) (d * d) (e * e) (mul-le d d e e h h) (dot-up (way s.from s.to)) i

near-more : (d e : ℕ) (p : Point) (s : Segment) → d ≤ e → is_near d p s ≡ true → is_near e p s ≡ true
unfolding is_near
near-more d e p s h =
    or-more (is_before p s && are_close d p s.from) ((is_behind p s && are_close d p s.to) || (is_abreast p s && is_line_close d p s))
    (is_before p s && are_close e p s.from) ((is_behind p s && are_close e p s.to) || (is_abreast p s && is_line_close e p s))
    (and-more (is_before p s) (are_close d p s.from) (are_close e p s.from) (close-more d e p s.from h))
    (or-more (is_behind p s && are_close d p s.to) (is_abreast p s && is_line_close d p s)
    (is_behind p s && are_close e p s.to) (is_abreast p s && is_line_close e p s)
    (and-more (is_behind p s) (are_close d p s.to) (are_close e p s.to) (close-more d e p s.to h))
    (and-more (is_abreast p s) (is_line_close d p s) (is_line_close e p s) (line-more d e p s h)))

both-more : (d e : ℕ) (s t : Segment) → d ≤ e → are_near d s t ≡ true → are_near e s t ≡ true
unfolding are_near
both-more d e s t h =
    or-more (is_near d s.from t || is_near d s.to t) (is_near d t.from s || is_near d t.to s)
    (is_near e s.from t || is_near e s.to t) (is_near e t.from s || is_near e t.to s)
    (or-more (is_near d s.from t) (is_near d s.to t) (is_near e s.from t) (is_near e s.to t) (near-more d e s.from t h) (near-more d e s.to t h))
    (or-more (is_near d t.from s) (is_near d t.to s) (is_near e t.from s) (is_near e t.to s) (near-more d e t.from s h) (near-more d e t.to s h))

pub monotone : (a b : Geometry) (d e : ℕ) → d ≤ e → is_within_distance a b d ≡ true → is_within_distance a b e ≡ true
unfolding is_within_distance
monotone a b d e h =
    or-more (do_intersect a b) (are_any_near d (segments_of a) (segments_of b)) (do_intersect a b) (are_any_near e (segments_of a) (segments_of b))
    (λ i. i)
    (any-more (λ s. near_some d s (segments_of b)) (λ s. near_some e s (segments_of b))
    (λ s. any-more (are_near d s) (are_near e s) (λ t. both-more d e s t h) (segments_of b)) (segments_of a))
