-- What actions of a schema lay over features that fit it fits it too.
use Rattle.std.proofs.Common.{◌≡◌, ℕ, ◌==◌, ◌<◌, Bool, true, false, cond, List, [], ◌∷◌, length, filter, Some, None, refl, sym, ap, arith}
use Rattle.std.specs.Prelude.{All, ◌&&◌}
use Rattle.std.specs.List.{fold}
use Rattle.std.proofs.lemmas.List.Elements.{All-nil, All-cons}
use Rattle.std.proofs.lemmas.Bool.Decides.{nat_tests}
use Rattle.feature_values.specs.declared.feature.Feature.{Feature}
use Rattle.feature_values.specs.declared.feature.Rid.{Rid}
use Rattle.feature_values.specs.declared.schema.Schema.{Schema}
use Rattle.feature_values.specs.Fits.{feature_fits}
use Rattle.fes_filter.specs.View.{IsView, is_same, feature_at}
use Rattle.feature_overlay.specs.Changed.{FitsIf}
use Rattle.feature_overlay.proofs.Ordered.{same_is, found_among, found_passes}
use Rattle.query_core.specs.Selecting.{ids_of, passes_filter}
use Rattle.wfs_model.specs.declared.action.Action.{Action}
use Rattle.wfs_model.specs.declared.action.Action.TheVariants.{Insert, Update, Replace, Delete}
use Rattle.wfs_model.specs.Acts.{selects, with_value, instead}
use Rattle.wfs_model.specs.OfSchema.{IsNewOf, IsActionOf}
use Rattle.wfs_model.proofs.Fitting.{Fits, instead_fits}
use Rattle.wfs_model.proofs.Keeping.{kind_within}
use Rattle.transaction_core.specs.Planning.{IsAimed}

-- ---- a feature that comes in

-- its type has a counter
pub new_within : (schema : Schema) (counters : List ℕ) (f : Feature) → length counters ≡ length schema.types → IsNewOf schema f → f.id.kind < length counters
new_within schema counters f counted new = rw counted (kind_within schema f new.fits)

-- under another number it fits too
pub renumbered_fits : (schema : Schema) (f g : Feature) (id : Rid) → g ≡ record { id = id; values = f.values } → id.kind ≡ f.id.kind → Fits schema f → Fits schema g
unfolding feature_fits
renumbered_fits schema f g id is kinds fits = rw (is, kinds) fits

-- ---- a feature that is found

pub fits_at : (schema : Schema) (fs : List Feature) (id : Rid) (f : Feature) → IsView schema fs → Some f ≡ feature_at id fs → Fits schema f
fits_at schema fs id f view is = found_among (λ (g : Feature). is_same g.id id) (Fits schema) fs f view.fitting (sym is)

pub kind_at : (fs : List Feature) (id : Rid) (f : Feature) → Some f ≡ feature_at id fs → f.id.kind ≡ id.kind
kind_at fs id f is = ap (λ (i : Rid). i.kind) (same_is f.id id (found_passes (λ (g : Feature). is_same g.id id) fs f (sym is)))

-- ---- features that are selected

same_kind : (a b : ℕ) → a ≡ b → (a == b) ≡ true
same_kind a b is = grind (arith, nat_tests, is)

both : (a b : Bool) → a ≡ true → b ≡ true → (a && b) ≡ true
both a b first second = rw (first, second) refl

-- what stands then under the identifier of a feature of the type that is selected
pub instead_fits_if : (schema : Schema) (action : Action) (f : Feature) → IsActionOf schema action → Fits schema f → IsAimed action f.id.kind → FitsIf schema (instead action f)
unfolding instead selects feature_fits
instead_fits_if schema (Insert handle features) f of_schema fits aimed = absurd aimed
instead_fits_if schema (Update handle kind sets passing) f of_schema fits aimed =
    instead_fits schema (Update handle kind sets None) f (record f { values = fold with_value f.values sets }) (of_schema.0, of_schema.1, tt) fits (both (f.id.kind == kind) (passes_filter None f) (same_kind f.id.kind kind aimed) refl) refl
instead_fits_if schema (Replace handle feature passing) f of_schema fits aimed = rw aimed of_schema.0.fits
instead_fits_if schema (Delete kind passing) f of_schema fits aimed = tt

abbrev Aimed : Action → Rid → Type 0
Aimed action id = IsAimed action id.kind

of_that_type : (a b : ℕ) (passes : Bool) → ((a == b) && passes) ≡ true → a ≡ b
of_that_type a b true is = grind (arith, nat_tests, is)
of_that_type a b false is = grind (arith, nat_tests, is)

is_aimed : (action : Action) (f : Feature) → selects action f ≡ true → IsAimed action f.id.kind
unfolding selects
is_aimed (Insert handle features) f is = absurd cc
is_aimed (Update handle kind sets passing) f is = of_that_type f.id.kind kind (passes_filter passing f) is
is_aimed (Replace handle feature passing) f is = of_that_type f.id.kind feature.id.kind (passes_filter (Some passing) f) is
is_aimed (Delete kind passing) f is = of_that_type f.id.kind kind (passes_filter (Some passing) f) is

one_aimed : (action : Action) (f : Feature) (fs : List Feature) (b : Bool) → selects action f ≡ b → All (Aimed action) (ids_of fs) → All (Aimed action) (ids_of (cond b (f ∷ fs) fs))
one_aimed action f fs true is all = All-cons (Aimed action) f.id (ids_of fs) (is_aimed action f is) all
one_aimed action f fs false is all = all

-- the features that an action selects are of the type that it selects
pub all_aimed : (action : Action) (fs : List Feature) → All (Aimed action) (ids_of (filter (selects action) fs))
all_aimed action [] = All-nil (Aimed action)
all_aimed action (f ∷ fs) = one_aimed action f (filter (selects action) fs) (selects action f) refl (all_aimed action fs)
