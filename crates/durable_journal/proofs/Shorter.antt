-- A checkpoint becomes the list of a journal.
use Rattle.std.proofs.Common.{◌≡◌, ◌⊎◌, inl, inr, ⊎_elim, ℕ, ◌≤◌, ◌==◌, false, List, [], ◌∷◌, length, Option, Some, None, refl, arith}
use Rattle.std.specs.List.{AllByRecursion}
use Rattle.disk_core.specs.Sides.{Within, Always}
use Rattle.disk_core.specs.Sides.Always.{once, then as link}
use Rattle.disk_core.specs.declared.pair.Pair.{Pair}
use Rattle.feature_journal.specs.Whole.{Says, Fits}
use Rattle.feature_journal.specs.Kept.{Rests, BeganSide, seen, disks_of}
use Rattle.feature_journal.specs.declared.journal.Journal.{Journal}
use Rattle.feature_journal.proofs.Pairs.{held_says, within_still}
use Rattle.feature_journal.proofs.Knowing.{always_more}
use Rattle.feature_values.specs.declared.schema.Schema.{Schema}
use Rattle.feature_schema.specs.Rules.{KeepsRules}
use Rattle.journal_replay.specs.Checkpoint.{checkpoint_of}
use Rattle.journal_replay.proofs.Restoring.{replayed_restorable}
use Rattle.wfs_model.specs.declared.change.Change.{Change}
use Rattle.wfs_model.specs.State.{Durable}
use Rattle.durable_journal.specs.Standing.{ComeTo, SaysKept, SaysWith}
use Rattle.durable_journal.specs.Kept.{IsAtRest, Holds, Keeps}
use Rattle.durable_journal.specs.Current.{current_in, HoldsJust}
use Rattle.durable_journal.specs.Opened.{checkpoint_bodies}
use Rattle.durable_journal.proofs.Checkpointed.{checkpoint_comes}
use Rattle.durable_journal.proofs.Saying.{list_says, lists_say}

-- a checkpoint has a record at least
some_bodies : (schema : Schema) (kept : Durable) → (length (checkpoint_bodies schema kept) == 0) ≡ false
unfolding checkpoint_of
some_bodies schema kept = grind arith

pub rest_holds : {D : Type 0} (images : D → List ℕ → Type 0) (schema : Schema) (kept : Durable) (journal : Journal D) → IsAtRest images schema kept journal → Holds images schema kept journal
rest_holds images schema kept journal at = record { bodies = at.bodies; rests = at.rests; come = at.list.come; holdable = at.list.holdable }

-- a journal at which nothing is begun holds just its list
pub just_held : {D : Type 0} (images : D → List ℕ → Type 0) (bodies : List (List ℕ)) (journal : Journal D) → Rests images bodies (seen journal) → HoldsJust images (current_in journal) bodies (disks_of journal)
just_held images bodies journal rests = record { list = rests.held.list; size = refl; ends = rests.held.ends; beside = rests.held.beside }

pub at_rest_keeps : {D : Type 0} (images : D → List ℕ → Type 0) (schema : Schema) (kept : Durable) (journal : Journal D) → IsAtRest images schema kept journal → Keeps images schema kept None journal
at_rest_keeps images schema kept journal at = inl at

module _ {D : Type 0} (images : D → List ℕ → Type 0) (schema : Schema) (rules : KeepsRules schema) (kept : Durable) (old new : Journal D) (holds : Holds images schema kept old) where
  comes : AllByRecursion Fits (checkpoint_bodies schema kept) → ComeTo schema kept (checkpoint_bodies schema kept)
  comes fit = checkpoint_comes schema rules kept (replayed_restorable schema holds.bodies kept holds.come) holds.holdable fit

  pub made : Rests images (checkpoint_bodies schema kept) (seen new) → IsAtRest images schema kept new
  made rests = record {
    bodies = checkpoint_bodies schema kept;
    rests = rests;
    list = record { come = comes rests.held.list.bodies_fit; some = some_bodies schema kept; holdable = holds.holdable };
  }

  pub not_made : ((bodies : List (List ℕ)) → Rests images bodies (seen old) → Rests images bodies (seen new) ⊎ BeganSide images bodies (checkpoint_bodies schema kept) (seen new)) → IsAtRest images schema kept old → Keeps images schema kept None new
  not_made fault at =
      ⊎_elim (λ rests. inl (record { bodies = at.bodies; rests = rests; list = at.list }))
      (λ began. inr (record { bodies = at.bodies; added = checkpoint_bodies schema kept; began = began; list = at.list; added_come = comes began.next.bodies_fit })) (fault at.bodies at.rests)

  pub making_goes : (moment : D → ℕ) (since : D → ℕ → List ℕ → Type 0) → ((bodies : List (List ℕ)) → Rests images bodies (seen old) → Always moment since (Says (bodies ∷ checkpoint_bodies schema kept ∷ [])) (disks_of old) (disks_of new))
      → ((bodies : List (List ℕ)) → Rests images bodies (seen old) → Always moment since (Says (bodies ∷ [])) (disks_of old) (disks_of new) ⊎ AllByRecursion Fits (checkpoint_bodies schema kept)) → Always moment since (SaysKept schema kept) (disks_of old) (disks_of new)
  making_goes moment since goes reaches =
      ⊎_elim (always_more moment since (Says (holds.bodies ∷ [])) (SaysKept schema kept) (disks_of old) (disks_of new) (list_says schema kept holds.bodies holds.come))
      (λ fit. always_more moment since (Says (holds.bodies ∷ checkpoint_bodies schema kept ∷ [])) (SaysKept schema kept) (disks_of old) (disks_of new) (lists_say schema kept holds.bodies (checkpoint_bodies schema kept) holds.come (comes fit)) (goes holds.bodies holds.rests)) (reaches holds.bodies holds.rests)

module _ {D : Type 0} (moment : D → ℕ) (since : D → ℕ → List ℕ → Type 0) (images : D → List ℕ → Type 0) (counts : (d : D) (t : ℕ) (c : List ℕ) → t ≤ moment d → images d c → since d t c) (only : (d : D) (c : List ℕ) → since d (moment d) c → images d c) (schema : Schema) (kept : Durable) where
  -- where nothing is done
  pub still_goes : (journal : Journal D) → Holds images schema kept journal → Always moment since (SaysKept schema kept) (disks_of journal) (disks_of journal)
  still_goes journal holds =
      once _ _ (within_still moment since images counts only (SaysKept schema kept) (disks_of journal)
      (λ x y at_a at_b. list_says schema kept holds.bodies holds.come x y (held_says images journal.second_side _ _ holds.bodies journal.disks holds.rests.held x y at_a at_b)))

kept_with : (schema : Schema) (kept : Durable) (begun : Option Change) (x y : List ℕ) → SaysKept schema kept x y → SaysWith schema kept begun x y
kept_with schema kept None x y says = says
kept_with schema kept (Some change) x y says = inl says

-- what is begun is ended, and then a checkpoint is made
pub shortening_goes : {D : Type 0} (moment : D → ℕ) (since : D → ℕ → List ℕ → Type 0) (schema : Schema) (kept : Durable) (begun : Option Change) (old mid new : Pair D) → Within moment since (SaysWith schema kept begun) old mid → Always moment since (SaysKept schema kept) mid new → Always moment since (SaysWith schema kept begun) old new
shortening_goes moment since schema kept begun old mid new first more = link old mid new first (always_more moment since (SaysKept schema kept) (SaysWith schema kept begun) mid new (kept_with schema kept begun) more)
