-- Viewers before a run, and behind it.
use Rattle.std.proofs.Common.{◌≡◌, List, [], ◌∷◌, map, Option, Some, None, refl, sym, ◌∙◌, subst}
use Rattle.std.specs.Prelude.{All, IfSome}
use Rattle.std.proofs.lemmas.Option.{none-some, same_Some}
use Rattle.std.proofs.lemmas.List.Elements.{All-map}
use Rattle.feature_values.specs.declared.schema.Schema.{Schema}
use Rattle.snapshot_reads.specs.declared.publisher.Publisher.{Publisher}
use Rattle.snapshot_reads.specs.declared.viewer.Viewer.{Viewer}
use Rattle.snapshot_reads.specs.Viewers.{AreNew, IsNew, schema_of}
use Rattle.store_server.specs.Seating.{HaveViews, MayServe}
use Rattle.shared_store.specs.declared.counter.Counter.{Counter}
use Rattle.shared_store.specs.Counters.{IsViewerAt}
use Rattle.shared_store.specs.Knowing.{Known}
use Rattle.shared_store.specs.Published.{AreOf, pairs_of}
use Rattle.shared_store.specs.Seats.{HasViewer}
use Rattle.shared_store.proofs.Taken.{same_head}
use Rattle.wfs_store.specs.Held.{Held}

module _ {D : Type 0} (schema : Schema) (first : Counter D) where
  -- a viewer that may serve the seats of a turnstile serves each of them
  pub last_served : (p : Known D) (viewer : Option Viewer) → p.origin ≡ first ∷ [] → MayServe schema first viewer → HasViewer schema p viewer
  last_served p viewer began may = record {
    of = may.of;
    at = λ other origin. subst (λ (c : Counter D). IsViewerAt c viewer) (same_head p.origin first other began origin) may.at;
  }

  may_serve : (viewer : Option Viewer) → IfSome viewer (IsNew first.publisher.seen.book schema) → MayServe schema first viewer
  may_serve None new = record { of = λ v e. absurd (none-some v e); at = λ v e. absurd (none-some v e); none = refl }
  may_serve (Some viewer) new = record {
    of = λ v e. subst (λ (u : Viewer). schema_of u ≡ schema) (same_Some viewer v e) new.of;
    at = λ v e. subst (λ (u : Viewer). u.seen.book ≡ first.publisher.seen.book) (same_Some viewer v e) new.history;
    none = new.entered;
  }

  -- new viewers of what was published first may serve the seats of the turnstile that begins with this
  pub all_new : (publisher : Publisher) (there : Schema) (viewers : List (Option Viewer)) → first.publisher ≡ publisher → there ≡ schema → AreNew publisher.seen.book there viewers
      → AreNew first.publisher.seen.book schema viewers
  all_new publisher there viewers same is new = subst (λ (p : Publisher). AreNew p.seen.book schema viewers) (sym same) (subst (λ (s : Schema). AreNew publisher.seen.book s viewers) is new)

  -- new viewers may serve these seats
  pub all_serve : (seats : List (Known D)) (viewers : List (Option Viewer)) → All (λ (p : Known D). p.origin ≡ first ∷ []) seats → AreNew first.publisher.seen.book schema viewers
      → HaveViews schema seats viewers
  all_serve seats viewers began new = record { first = first; began = began; serve = λ k d h. may_serve _ (new k d h) }

module _ {D : Type 0} where
  -- viewers at a publisher
  pub viewers_at : (first last : Counter D) (viewers : List (Option Viewer)) → last.publisher.seen.book ≡ first.publisher.seen.book → All (IsViewerAt first) viewers → All (IsViewerAt last) viewers
  viewers_at first last viewers same all = λ k d h. λ v e. all k d h v e ∙ sym same

  pub all_found : (store : Held D) (viewers : List (Option Viewer)) → All (λ viewer. AreOf store (pairs_of viewer)) viewers → All (AreOf store) (map pairs_of viewers)
  all_found store viewers all = All-map (AreOf store) pairs_of viewers all
