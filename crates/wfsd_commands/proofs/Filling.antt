-- Bytes that a source gives, one piece behind the other.
use Rattle.std.proofs.Common.{◌≡◌, ℕ, ◌+◌, ◌<◌, ◌≤◌, List, [], ◌++◌, length, take, length-append, append-nil, Option, Some, None, IfSome, refl, sym, ap, ◌∙◌, arith, append_assoc}
use Rattle.std.proofs.Math.Seq.{take-append-add}
use Rattle.std.proofs.lemmas.List.{take-append-le, take-append-drop, length-take-le}
use Rattle.wfs_ends.specs.Ends.{Shown, KeepsGiven, left_after}
use Rattle.wfsd_commands.specs.Source.{behind, Takes, IsAtEnd}
use borrow.Rule.Slice.PartMut.{put_mid}

abbrev inside : Option (List ℕ) → List ℕ
inside None = []
inside (Some xs) = xs

behind_both : (fs bs : List ℕ) (left : Option (List ℕ)) → behind fs (behind bs left) ≡ behind (fs ++ bs) left
behind_both fs bs None = refl
behind_both fs bs (Some left) = ap Some (sym (append_assoc fs bs left))

behind_none : (left : Option (List ℕ)) → left ≡ behind [] left
behind_none None = refl
behind_none (Some left) = refl

pub takes_none : (s : Shown) → Takes s [] s
takes_none s = record { left = behind_none s.left; keeps = record { given = refl; passed = refl; puts = refl; takes = omega arith; place = refl } }

-- some bytes, and then others
pub takes_both : {s0 s1 s2 : Shown} {fs bs : List ℕ} → Takes s0 fs s1 → Takes s1 bs s2 → Takes s0 (fs ++ bs) s2
takes_both {s0} {s1} {s2} {fs} {bs} a b = record {
  left = a.left ∙ ap (behind fs) b.left ∙ behind_both fs bs s2.left;
  keeps = record {
    given = b.keeps.given ∙ a.keeps.given;
    puts = b.keeps.puts ∙ a.keeps.puts;
    takes = omega (arith, a.keeps.takes, b.keeps.takes);
    passed = b.keeps.passed ∙ a.keeps.passed;
    place = b.keeps.place ∙ a.keeps.place;
  };
}

took_left : (old new : Option (List ℕ)) (into : List ℕ) (n : ℕ) → new ≡ left_after old n → IfSome old (λ bytes. (n ≤ length bytes) × (take n into ≡ take n bytes)) → old ≡ behind (take n into) new
took_left None new into n e told = rw e refl
took_left (Some bytes) new into n e told = rw (e, told.1) (ap Some (sym (take-append-drop n bytes)))

-- what a source gave into a buffer
pub took : {old new : Shown} (into : List ℕ) (n : ℕ) → new.left ≡ left_after old.left n → IfSome old.left (λ bytes. (n ≤ length bytes) × (take n into ≡ take n bytes)) → KeepsGiven old new → Takes old (take n into) new
took {old} {new} into n e told keeps = record { left = took_left old.left new.left into n e told; keeps = keeps }

in_front : (fs ys post : List ℕ) (a n : ℕ) → length fs ≡ a → n ≤ length ys → take (a + n) (fs ++ (ys ++ post)) ≡ fs ++ take n ys
in_front fs ys post a n e le = rw (← e) (take-append-add fs (ys ++ post) n ∙ ap (λ (t : List ℕ). fs ++ t) (take-append-le n ys post le))

-- a part of a buffer that was filled further
pub put_more : (a k n : ℕ) (xs ys : List ℕ) → a ≤ length xs → n ≤ length ys → take (a + n) (put_mid a k xs ys) ≡ take a xs ++ take n ys
put_more a k n xs ys fits le = in_front (take a xs) ys _ a n (length-take-le a xs fits) le

at_end_left : (old new : Option (List ℕ)) → new ≡ left_after old 0 → IfSome old (λ bytes. bytes ≡ []) → IfSome new (λ left. left ≡ [])
at_end_left None new e told = rw e tt
at_end_left (Some bytes) new e told = rw (e, told) refl

-- a source that gave nothing into a buffer with room
pub at_end : (old new : Shown) → new.left ≡ left_after old.left 0 → IfSome old.left (λ bytes. bytes ≡ []) → IsAtEnd new
at_end old new e told = at_end_left old.left new.left e told

-- more was taken than a source may have
longer_left : (bytes : List ℕ) (most : ℕ) (old new : Option (List ℕ)) → length bytes ≡ most + 1 → old ≡ behind bytes new → IfSome old (λ left. most < length left)
longer_left bytes most None new size e = tt
longer_left bytes most (Some left) None size e = absurd cc
longer_left bytes most (Some left) (Some rest) size e =
    let is : left ≡ bytes ++ rest = ap inside e in
    rw is (omega (arith, size, length-append bytes rest))

pub longer : (bytes : List ℕ) (most : ℕ) (old new : Shown) → length bytes ≡ most + 1 → Takes old bytes new → IfSome old.left (λ left. most < length left)
longer bytes most old new size t = longer_left bytes most old.left new.left size t.left

-- all was taken
whole_left : (bytes : List ℕ) (old new : Option (List ℕ)) → old ≡ behind bytes new → IfSome new (λ left. left ≡ []) → IfSome old (λ left. left ≡ bytes)
whole_left bytes None new e at_end = tt
whole_left bytes (Some left) None e at_end = absurd cc
whole_left bytes (Some left) (Some rest) e at_end =
    let is : left ≡ bytes ++ rest = ap inside e in
    is ∙ ap (λ (t : List ℕ). bytes ++ t) at_end ∙ append-nil bytes

pub whole : (bytes : List ℕ) (old new : Shown) → Takes old bytes new → IsAtEnd new → IfSome old.left (λ left. left ≡ bytes)
whole bytes old new t e = whole_left bytes old.left new.left t.left e
