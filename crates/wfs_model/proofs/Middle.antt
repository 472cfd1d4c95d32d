-- One feature in the middle of features in order, and what stands in its place then.
use Rattle.std.proofs.Common.{◌≡◌, Bool, true, false, List, [], ◌∷◌, ◌++◌, filter, All, Option, Some, None, refl, sym, ap, ◌∙◌, subst, append_assoc}
use Rattle.std.specs.Option.{option_to_list}
use Rattle.std.proofs.lemmas.List.Elements.{All-nil, All-cons, All-head, All-tail, All-weaker}
use Rattle.feature_values.specs.declared.feature.Feature.{Feature}
use Rattle.feature_values.specs.declared.feature.Rid.{Rid}
use Rattle.fes_filter.specs.View.{is_before, IsInOrder, feature_at}
use Rattle.feature_overlay.specs.Changed.{IsOf}
use Rattle.feature_overlay.specs.Laid.{laid}
use Rattle.feature_overlay.proofs.Ordered.{Before, not_before_itself, before_apart, not_both, found_first, found_later}
use Rattle.feature_overlay.proofs.Layings.{laid_in_order}
use Rattle.query_core.specs.Selecting.{to_list}
use Rattle.wfs_model.specs.declared.action.Action.{Action}
use Rattle.wfs_model.specs.declared.action.Action.TheVariants.{Insert, Update, Replace, Delete}
use Rattle.wfs_model.specs.Acts.{instead}

-- what stands in a feature's place stands under its identifier
pub instead_keeps : (action : Action) (f : Feature) → IsOf f.id (instead action f)
unfolding instead
instead_keeps (Insert handle features) f = refl
instead_keeps (Update handle kind sets filter) f = refl
instead_keeps (Replace handle feature filter) f = refl
instead_keeps (Delete kind filter) f = tt

-- ---- a feature in the middle of features in order

all_middle : (P : Feature → Type 0) (before : List Feature) (f : Feature) (fs : List Feature) → All P (before ++ f ∷ fs) → P f
all_middle P [] f fs all = All-head P f fs all
all_middle P (g ∷ before) f fs all = all_middle P before f fs (All-tail P g (before ++ f ∷ fs) all)

all_before : (before : List Feature) (f : Feature) (fs : List Feature) → IsInOrder (before ++ f ∷ fs) → All (λ g. is_before g.id f.id ≡ true) before
all_before [] f fs order = All-nil (λ (g : Feature). is_before g.id f.id ≡ true)
all_before (g ∷ before) f fs order = All-cons (λ (h : Feature). is_before h.id f.id ≡ true) g before (all_middle (Before g) before f fs order.0) (all_before before f fs order.1)

all_behind : (before : List Feature) (f : Feature) (fs : List Feature) → IsInOrder (before ++ f ∷ fs) → All (Before f) fs
all_behind [] f fs order = order.0
all_behind (g ∷ before) f fs order = all_behind before f fs order.1

not_back : (a b : Rid) (c : Bool) → is_before b a ≡ c → is_before a b ≡ true → is_before b a ≡ false
not_back a b true is h = absurd (not_both a b h is)
not_back a b false is h = is

module _ (p : Feature → Bool) where
  keeps_all : (fs gs : List Feature) → All (λ f. p f ≡ true) fs → filter p (fs ++ gs) ≡ fs ++ filter p gs
  keeps_all [] gs all = refl
  keeps_all (f ∷ fs) gs all = rw (All-head (λ (g : Feature). p g ≡ true) f fs all) (ap (λ l. f ∷ l) (keeps_all fs gs (All-tail (λ (g : Feature). p g ≡ true) f fs all)))

  keeps_none : (fs gs : List Feature) → All (λ f. p f ≡ false) fs → filter p (fs ++ gs) ≡ filter p gs
  keeps_none [] gs all = refl
  keeps_none (f ∷ fs) gs all = rw (All-head (λ (g : Feature). p g ≡ false) f fs all) (keeps_none fs gs (All-tail (λ (g : Feature). p g ≡ false) f fs all))

-- filters of all, with nothing behind them
pub append_none : {X : Type 0} (xs : List X) → xs ++ [] ≡ xs
append_none [] = refl
append_none (x ∷ xs) = ap (λ l. x ∷ l) (append_none xs)

all_kept : (p : Feature → Bool) (fs : List Feature) → All (λ f. p f ≡ true) fs → filter p fs ≡ fs
all_kept p fs all = sym (ap (filter p) (append_none fs)) ∙ keeps_all p fs [] all ∙ append_none fs

none_kept : (p : Feature → Bool) (fs : List Feature) → All (λ f. p f ≡ false) fs → filter p fs ≡ []
none_kept p fs all = sym (ap (filter p) (append_none fs)) ∙ keeps_none p fs [] all

pub middle_laid : (before : List Feature) (f : Feature) (fs : List Feature) (now : Option Feature) → IsInOrder (before ++ f ∷ fs) → laid (before ++ f ∷ fs) f.id now ≡ before ++ (option_to_list now ++ fs)
unfolding laid
middle_laid before f fs now order =
    let first : All (λ g. is_before g.id f.id ≡ true) before = all_before before f fs order in
    let last : All (Before f) fs = all_behind before f fs order in
    let ours : filter (λ (g : Feature). is_before g.id f.id) (f ∷ fs) ≡ [] =
    rw (not_before_itself f.id) (none_kept (λ (g : Feature). is_before g.id f.id) fs (All-weaker (Before f) (λ (g : Feature). is_before g.id f.id ≡ false) (λ g h. not_back f.id g.id (is_before g.id f.id) refl h) fs last)) in
    let theirs : filter (λ (g : Feature). is_before f.id g.id) (f ∷ fs) ≡ fs = rw (not_before_itself f.id) (all_kept (λ (g : Feature). is_before f.id g.id) fs last) in
    let earlier : filter (λ (g : Feature). is_before g.id f.id) (before ++ f ∷ fs) ≡ before = keeps_all (λ (g : Feature). is_before g.id f.id) before (f ∷ fs) first ∙ ap (λ l. before ++ l) ours ∙ append_none before in
    let later : filter (λ (g : Feature). is_before f.id g.id) (before ++ f ∷ fs) ≡ fs =
    keeps_none (λ (g : Feature). is_before f.id g.id) before (f ∷ fs) (All-weaker (λ (g : Feature). is_before g.id f.id ≡ true) (λ (g : Feature). is_before f.id g.id ≡ false) (λ g h. not_back g.id f.id (is_before f.id g.id) refl h) before first) ∙ theirs in
    rw (earlier, later) refl

pub middle_found : (before : List Feature) (f : Feature) (fs : List Feature) → IsInOrder (before ++ f ∷ fs) → feature_at f.id (before ++ f ∷ fs) ≡ Some f
middle_found [] f fs order = found_first f fs
middle_found (g ∷ before) f fs order = found_later f.id g (before ++ f ∷ fs) (before_apart g.id f.id (all_middle (Before g) before f fs order.0)) ∙ middle_found before f fs order.1

-- ---- an action's work on it

same_lists : {X : Type 0} (o : Option X) → option_to_list o ≡ to_list o
same_lists None = refl
same_lists (Some x) = refl

pub now_laid : (action : Action) (before : List Feature) (f : Feature) (fs : List Feature) → IsInOrder (before ++ f ∷ fs) → laid (before ++ f ∷ fs) f.id (instead action f) ≡ (before ++ to_list (instead action f)) ++ fs
now_laid action before f fs order = middle_laid before f fs (instead action f) order ∙ ap (λ l. before ++ (l ++ fs)) (same_lists (instead action f)) ∙ sym (append_assoc before (to_list (instead action f)) fs)

pub turn_in_order : (action : Action) (before : List Feature) (f : Feature) (fs : List Feature) → IsInOrder (before ++ f ∷ fs) → IsInOrder ((before ++ to_list (instead action f)) ++ fs)
turn_in_order action before f fs order =
    subst (λ (l : List Feature). IsInOrder l) (now_laid action before f fs order) (laid_in_order (before ++ f ∷ fs) f.id (instead action f) (instead_keeps action f) order)
