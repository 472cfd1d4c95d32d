-- What the stored queries of a change ask, where what it leaves is kept well.
use Rattle.std.proofs.Common.{◌≡◌, List, [], ◌∷◌, ◌++◌, All, Some, sym, subst, ◌∙◌, ap}
use Rattle.std.proofs.lemmas.List.Elements.{All-tail}
use Rattle.feature_values.specs.declared.schema.Schema.{Schema}
use Rattle.feature_versions.specs.Holding.{Holding}
use Rattle.wfs_model.specs.declared.change.Change.{Change}
use Rattle.wfs_model.specs.declared.change.Change.TheVariants.{Opening, Rows, Created, Dropped, Base}
use Rattle.wfs_model.specs.Kept.{IsKept}
use Rattle.wfs_model.specs.OfSchema.{IsStoredOf}
use Rattle.wfs_model.specs.Playable.{AreQueriesOf}
use Rattle.wfs_model.specs.Played.{played_one}
use Rattle.wfs_model.specs.State.{Durable}
use Rattle.snapshot_reads.specs.Content.{Content, content_of, with_change}
use Rattle.snapshot_reads.specs.Publishers.{Follows}

all_behind : {A : Type 0} (P : A → Type 0) (xs ys : List A) → All P (xs ++ ys) → All P ys
all_behind P [] ys all = all
all_behind P (x ∷ xs) ys all = all_behind P xs ys (All-tail P x (xs ++ ys) all)

asks_left : (schema : Schema) (kept : Durable) (change : Change) → IsKept schema (played_one kept change) → AreQueriesOf schema change
unfolding played_one
asks_left schema kept (Opening opening) well = tt
asks_left schema kept (Rows parts) well = tt
asks_left schema kept (Created queries) well = λ k d h. (all_behind (IsStoredOf schema) kept.stored queries well.stored k d h).queries
asks_left schema kept (Dropped id) well = tt
asks_left schema kept (Base opening counters) well = tt

-- a copy that lacks a change, where what it comes to is kept well
pub asks_late : (before shown : Content) (change : Change) → with_change before change ≡ shown → IsKept shown.schema shown.kept → AreQueriesOf before.schema change
asks_late before shown change is well = asks_left before.schema before.kept change (subst (λ (c : Content). IsKept c.schema c.kept) (sym is) well)

module _ (shown : Content) (other now : Holding) (change : Change) (alike : content_of other ≡ shown) (schema : now.schema ≡ shown.schema) (follows : Follows (Some change) shown now) where
  -- the other copy leads to the same
  pub leads_there : now.kept ≡ played_one other.kept change
  leads_there = follows ∙ ap (λ (x : Content). played_one x.kept change) (sym alike)

  pub asks_there : IsKept now.schema now.kept → AreQueriesOf other.schema change
  asks_there well =
      let same : now.schema ≡ other.schema = schema ∙ ap (λ (x : Content). x.schema) (sym alike) in
      asks_left other.schema other.kept change (rw (sym same, sym leads_there) well)
