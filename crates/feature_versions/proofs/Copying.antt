-- Features that are copied one behind the other.
use Rattle.std.proofs.Common.{◌≡◌, ℕ, ◌+◌, ◌<◌, true, List, [], ◌∷◌, ◌++◌, length, get_or, take, drop, Option, Some, refl, sym, ap, ◌∙◌, subst, length-take, length-append, arith}
use Rattle.std.specs.Prelude.{flat_map}
use Rattle.std.specs.List.{sum_by}
use Rattle.std.specs.Option.{IfSome}
use Rattle.std.proofs.lemmas.List.{append-nil, take_more, get_or-take, get_or_default, at_drop_more}
use Rattle.std.proofs.lemmas.List.Concat.{flat_map-append}
use Rattle.std.proofs.lemmas.List.Elements.{All-nil, All-take}
use Rattle.std.proofs.lemmas.List.Sums.{sum_by-append, sum_by-cons}
use Rattle.feature_values.specs.declared.feature.Feature.{Feature}
use Rattle.feature_values.specs.declared.feature.Rid.{Rid}
use Rattle.fes_filter.specs.View.{is_before}
use Rattle.feature_overlay.specs.Laid.{laid}
use Rattle.grid_index.specs.Places.{Place, taking}
use Rattle.feature_versions.specs.declared.rows.Row.{Row}
use Rattle.feature_versions.specs.Near.{boxes_of}
use Rattle.feature_versions.specs.Placed.{taken_by}
use Rattle.feature_versions.specs.Rows.{live_in, live, IsOwn, AreRows}
use Rattle.feature_versions.proofs.Between.{AllBefore, laid_between}
use Rattle.feature_versions.proofs.Placing.{rising_at, low_before}

laid_none : (id : Rid) (f : Feature) → laid [] id (Some f) ≡ f ∷ []
unfolding laid
laid_none id f = refl

laid_last : (fs : List Feature) (f : Feature) → AllBefore f.id fs → laid fs f.id (Some f) ≡ fs ++ f ∷ []
laid_last fs f before =
    ap (λ (l : List Feature). laid l f.id (Some f)) (sym (append-nil fs)) ∙ laid_between fs [] [] f.id (Some f) before (All-nil (λ (g : Feature). is_before f.id g.id ≡ true))
    ∙ ap (λ (l : List Feature). fs ++ (l ++ [])) (laid_none f.id f)

-- the feature of a row goes behind those of the rows before it
pub copied_last : (kind : ℕ) (row : Row) (fs new : List Feature) (f g : Feature) → row.feature ≡ Some g → f ≡ g → IsOwn kind row → AllBefore (record { kind = kind; number = row.number }) fs → new ≡ laid fs f.id (Some f) → new ≡ fs ++ live_in row
copied_last kind row fs new f g is copy own before made =
    let its : f.id ≡ record { kind = kind; number = row.number } = ap (λ (h : Feature). h.id) copy ∙ subst (λ (o : Option Feature). IfSome o (λ h. h.id ≡ record { kind = kind; number = row.number })) is own in
    let last : AllBefore f.id fs = subst (λ (id : Rid). AllBefore id fs) (sym its) before in
    made ∙ laid_last fs f last ∙ ap (λ (h : Feature). fs ++ h ∷ []) copy ∙ ap (λ (o : Option Feature). fs ++ live_in (record { number = row.number; feature = o })) (sym is)

-- ---- rows one by one

module _ (rows : List Row) (i : ℕ) (row : Row) (lt : i < length rows) (is : row ≡ get_or rows i row) where
  pub live_step : live (take (i + 1) rows) ≡ live (take i rows) ++ live_in row
  live_step =
      ap live (take_more rows i row lt ∙ ap (λ (r : Row). take i rows ++ r ∷ []) (sym is)) ∙ flat_map-append live_in (take i rows) (row ∷ []) ∙ ap (λ (fs : List Feature). live (take i rows) ++ fs) (append-nil (live_in row))

  pub live_rest : live (drop i rows) ≡ live_in row ++ live (drop (i + 1) rows)
  live_rest = ap live (at_drop_more (λ (l : List Row). l) rows i row lt) ∙ ap (λ (r : Row). live_in r ++ live (drop (i + 1) rows)) (sym is)

  pub rows_rest : length (live (drop i rows)) ≡ length (live_in row) + length (live (drop (i + 1) rows))
  rows_rest = ap length live_rest ∙ length-append (live_in row) (live (drop (i + 1) rows))

  pub places_rest : (place : Place) → sum_by (taken_by place) (live (drop i rows)) ≡ sum_by (taken_by place) (live_in row) + sum_by (taken_by place) (live (drop (i + 1) rows))
  places_rest place = ap (sum_by (taken_by place)) live_rest ∙ sum_by-append (taken_by place) (live_in row) (live (drop (i + 1) rows))

  pub own_at : (kind : ℕ) → AreRows kind rows → IsOwn kind row
  own_at kind are = subst (IsOwn kind) (sym is) (are.own i row lt)

  pub before_at : (kind : ℕ) → AreRows kind rows → AllBefore (record { kind = kind; number = row.number }) (live (take i rows))
  before_at kind are =
      low_before kind row.number (take i rows) (All-take (IsOwn kind) i rows are.own) (λ k d within. (
      let below : k < i = (let short = length-take i rows in omega (arith, short, within)) in
      let less : (get_or rows k row).number < (get_or rows i row).number = rising_at rows k i row are.rising below lt in
      let here : (get_or rows i row).number ≡ row.number = ap (λ (r : Row). r.number) (sym is) in
      let there : get_or (take i rows) k d ≡ get_or rows k row = get_or-take i rows k d below ∙ get_or_default rows k d row (omega (arith, below, lt)) in
      subst (λ (r : Row). r.number < row.number) (sym there) (omega (arith, less, here))
      ))

-- ---- the boxes of features

-- as many of all boxes take a place as of those of each feature together
pub boxes_sum : (place : Place) (fs : List Feature) → sum_by (taking place) (flat_map boxes_of fs) ≡ sum_by (taken_by place) fs
boxes_sum place [] = refl
boxes_sum place (f ∷ fs) = sum_by-append (taking place) (boxes_of f) (flat_map boxes_of fs) ∙ ap (λ n. taken_by place f + n) (boxes_sum place fs) ∙ sym (sum_by-cons (taken_by place) f fs)
