-- What stands between the features before an identifier and those behind it.
use Rattle.std.proofs.Common.{◌≡◌, Bool, true, false, cond, List, [], ◌∷◌, ◌++◌, filter, All, Option, Some, None, refl, ap, ◌∙◌, append_assoc, arith}
use Rattle.std.specs.Prelude.{slice_get}
use Rattle.std.specs.List.{find}
use Rattle.std.specs.Option.{option_or}
use Rattle.std.proofs.lemmas.List.{append-nil}
use Rattle.std.proofs.lemmas.List.Elements.{All-head, All-tail, All-weaker, filter-append}
use Rattle.std.proofs.lemmas.Bool.Decides.{nat_tests}
use Rattle.feature_values.specs.declared.feature.Feature.{Feature}
use Rattle.feature_values.specs.declared.feature.Rid.{Rid}
use Rattle.fes_filter.specs.View.{is_same, is_before, feature_at, next_after}
use Rattle.feature_overlay.specs.Laid.{laid}

abbrev pub AllBefore : Rid → List Feature → Type 0
AllBefore id fs = All (λ f. is_before f.id id ≡ true) fs

abbrev pub AllBehind : Rid → List Feature → Type 0
AllBehind id fs = All (λ f. is_before id f.id ≡ true) fs

-- ---- identifiers

not_back : (a b : Rid) → is_before a b ≡ true → is_before b a ≡ false
not_back a b h = grind (arith, nat_tests, h)

not_same : (a b : Rid) → is_before a b ≡ true → is_same a b ≡ false
not_same a b h = grind (arith, nat_tests, h)

not_same_back : (a b : Rid) → is_before a b ≡ true → is_same b a ≡ false
not_same_back a b h = grind (arith, nat_tests, h)

-- ---- what a test keeps and finds

module _ (p : Feature → Bool) where
  pub keeps_all : (fs : List Feature) → All (λ f. p f ≡ true) fs → filter p fs ≡ fs
  keeps_all [] all = refl
  keeps_all (f ∷ fs) all = rw (All-head (λ (g : Feature). p g ≡ true) f fs all) (ap (λ l. f ∷ l) (keeps_all fs (All-tail (λ (g : Feature). p g ≡ true) f fs all)))

  pub keeps_none : (fs : List Feature) → All (λ f. p f ≡ false) fs → filter p fs ≡ []
  keeps_none [] all = refl
  keeps_none (f ∷ fs) all = rw (All-head (λ (g : Feature). p g ≡ false) f fs all) (keeps_none fs (All-tail (λ (g : Feature). p g ≡ false) f fs all))

  find_behind : (fs gs : List Feature) → All (λ f. p f ≡ false) fs → find p (fs ++ gs) ≡ find p gs
  find_behind [] gs all = refl
  find_behind (f ∷ fs) gs all = rw (All-head (λ (g : Feature). p g ≡ false) f fs all) (find_behind fs gs (All-tail (λ (g : Feature). p g ≡ false) f fs all))

  found_or : (b : Bool) (f : Feature) (found more : Option Feature) → cond b (Some f) (option_or found more) ≡ option_or (cond b (Some f) found) more
  found_or true f found more = refl
  found_or false f found more = refl

  find_or : (fs gs : List Feature) → find p (fs ++ gs) ≡ option_or (find p fs) (find p gs)
  find_or [] gs = refl
  find_or (f ∷ fs) gs = ap (λ found. cond (p f) (Some f) found) (find_or fs gs) ∙ found_or (p f) f (find p fs) (find p gs)

  pub find_none : (fs : List Feature) → All (λ f. p f ≡ false) fs → find p fs ≡ None
  find_none [] all = refl
  find_none (f ∷ fs) all = rw (All-head (λ (g : Feature). p g ≡ false) f fs all) (find_none fs (All-tail (λ (g : Feature). p g ≡ false) f fs all))

  find_first : (fs : List Feature) → All (λ f. p f ≡ true) fs → find p fs ≡ slice_get fs 0
  find_first [] all = refl
  find_first (f ∷ fs) all = rw (All-head (λ (g : Feature). p g ≡ true) f fs all) refl

or_none : (found : Option Feature) → option_or found None ≡ found
or_none None = refl
or_none (Some f) = refl

-- ---- between

pub laid_between : (before mid after : List Feature) (id : Rid) (now : Option Feature) → AllBefore id before → AllBehind id after → laid (before ++ (mid ++ after)) id now ≡ before ++ (laid mid id now ++ after)
unfolding laid
laid_between before mid after id now first last =
    let p : Feature → Bool = λ f. is_before f.id id in
    let q : Feature → Bool = λ f. is_before id f.id in
    let none_first : filter q before ≡ [] = keeps_none q before (All-weaker (λ f. p f ≡ true) (λ f. q f ≡ false) (λ f h. not_back f.id id h) before first) in
    let none_last : filter p after ≡ [] = keeps_none p after (All-weaker (λ f. q f ≡ true) (λ f. p f ≡ false) (λ f h. not_back id f.id h) after last) in
    let earlier : filter p (before ++ (mid ++ after)) ≡ before ++ filter p mid =
    filter-append p before (mid ++ after) ∙ rw (keeps_all p before first, filter-append p mid after, none_last, append-nil (filter p mid)) refl in
    let later : filter q (before ++ (mid ++ after)) ≡ filter q mid ++ after =
    filter-append q before (mid ++ after) ∙ rw (none_first, filter-append q mid after, keeps_all q after last) refl in
    rw (earlier, later) (simp append_assoc)

pub found_between : (before mid after : List Feature) (id : Rid) → AllBefore id before → AllBehind id after → feature_at id (before ++ (mid ++ after)) ≡ feature_at id mid
found_between before mid after id first last =
    let p : Feature → Bool = λ f. is_same f.id id in
    let none_last : find p after ≡ None = find_none p after (All-weaker (λ f. is_before id f.id ≡ true) (λ f. p f ≡ false) (λ f h. not_same_back id f.id h) after last) in
    find_behind p before (mid ++ after) (All-weaker (λ f. is_before f.id id ≡ true) (λ f. p f ≡ false) (λ f h. not_same f.id id h) before first)
    ∙ find_or p mid after ∙ ap (option_or (find p mid)) none_last ∙ or_none (find p mid)

pub next_between : (before mid after : List Feature) (id : Rid) → AllBefore id before → AllBehind id after → next_after (Some id) (before ++ (mid ++ after)) ≡ option_or (next_after (Some id) mid) (slice_get after 0)
next_between before mid after id first last =
    let p : Feature → Bool = λ f. is_before id f.id in
    find_behind p before (mid ++ after) (All-weaker (λ f. is_before f.id id ≡ true) (λ f. p f ≡ false) (λ f h. not_back f.id id h) before first)
    ∙ find_or p mid after ∙ ap (option_or (find p mid)) (find_first p after last)
