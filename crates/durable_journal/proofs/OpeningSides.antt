-- Which side is current once a journal is opened.
use Rattle.std.proofs.Common.{◌≡◌, ℕ, ◌+◌, ◌<◌, ◌≤◌, List, [], ◌∷◌, ◌++◌, length, Bool, not, refl, sym, ap, ◌∙◌, subst, arith, Result, Ok, Err}
use Rattle.std.specs.Prelude.{OnOk, min}
use Rattle.checkpoints.specs.Length.{side_length}
use Rattle.feature_journal.specs.declared.journal.Journal.{Journal}
use Rattle.feature_journal.specs.Kept.{Rests, seen, disks_of, generation_in as generation_of, is_second, length_of, limit_of}
use Rattle.feature_values.specs.declared.schema.Schema.{Schema}
use Rattle.recovery.specs.Answer.{Answered}
use Rattle.recovery.specs.Outcome.{Outcome}
use Rattle.recovery.specs.Outcome.Outcome.{refused, no_side, found}
use Rattle.wfs_ends.specs.Ends.{last_count}
use Rattle.wfs_model.specs.State.{Durable}
use Rattle.durable_journal.specs.Current.{Current, current_in}
use Rattle.durable_journal.specs.Opened.{checkpoint_bodies, length_in, longest_kept}
use Rattle.durable_journal.specs.OpenedSide.{HasRoom, IsBegunBy, IsBegunOn, IsOpenedSide, current_found, opening_in}
use Rattle.durable_journal.specs.OpenedSide.HasRoom.{stays, turns}
use Rattle.durable_journal.specs.OpenedSide.IsBegunOn.{appended, shortened}
use Rattle.durable_journal.specs.Standing.{ComeTo}
use Rattle.durable_journal.proofs.Openings.{told_bodies}
use Rattle.durable_journal.proofs.Shorter.{just_held}

-- side and generation are the current one
pub same_current : (a b : Bool) (g h : ℕ) → a ≡ b → g ≡ h → record { second = a; generation = g } ≡ (let c : Current = record { second = b; generation = h } in c)
same_current a b g h second generation = cc

-- ---- room is made

module _ {D : Type 0} (images : D → List ℕ → Type 0) (schema : Schema) (kept : Durable) (old : Journal D) (told : ℕ) (is : told ≡ min (length_of old) last_count) where
  pub room_kept : told ≤ longest_kept → HasRoom images schema kept old old
  room_kept few = stays (omega (arith, is, few)) refl

  pub room_made : (new : Journal D) → longest_kept < told
      → (is_second new ≡ not (is_second old)) × (generation_of new ≡ generation_of old + 1) × (length_of new ≡ side_length (checkpoint_bodies schema kept)) × (limit_of new ≡ limit_of old)
      → Rests images (checkpoint_bodies schema kept) (seen new) → HasRoom images schema kept old new
  room_made new over turned rests = turns (omega (arith, is, over)) (same_current _ _ _ _ turned.0 turned.1) turned.2 rests

-- ---- the record is appended

-- the record is appended to a journal that has room for it
module _ {D : Type 0} (images : D → List ℕ → Type 0) (schema : Schema) (kept : Durable) (old mid new : Journal D) (current : current_in new ≡ current_in mid) (longer : length_of new ≡ length_of mid + 5 + length (opening_in schema kept)) where
  pub room_begun : ((bodies : List (List ℕ)) → Rests images bodies (seen mid) → Rests images (bodies ++ opening_in schema kept ∷ []) (seen new)) → HasRoom images schema kept old mid → IsBegunBy images schema kept old new
  room_begun done (stays few same) bodies rests =
      appended few (current ∙ ap current_in same) (longer ∙ ap (λ (j : Journal D). length_of j + 5 + length (opening_in schema kept)) same)
      (just_held images (bodies ++ opening_in schema kept ∷ []) new (done bodies (subst (λ (j : Journal D). Rests images bodies (seen j)) (sym same) rests)))
  room_begun done (turns over turn size made) bodies rests =
      shortened over (current ∙ turn) (longer ∙ ap (λ (n : ℕ). n + 5 + length (opening_in schema kept)) size)
      (just_held images (checkpoint_bodies schema kept ++ opening_in schema kept ∷ []) new (done (checkpoint_bodies schema kept) made))

pub begun_then : {D E : Type 0} (images : D → List ℕ → Type 0) (schema : Schema) (kept : Durable) (old mid new : Journal D) (r : Result (Unit {0}) E) → HasRoom images schema kept old mid
    → OnOk r ((bodies : List (List ℕ)) → Rests images bodies (seen mid) → Rests images (bodies ++ opening_in schema kept ∷ []) (seen new))
    → OnOk r (current_in new ≡ current_in mid) → OnOk r (length_of new ≡ length_of mid + 5 + length (opening_in schema kept)) → OnOk r (IsBegunBy images schema kept old new)
begun_then images schema kept old mid new (Ok done) room appends current longer = room_begun images schema kept old mid new current longer appends room
begun_then images schema kept old mid new (Err fault) room appends current longer = tt

-- ---- what was found

-- what was found is what the journal had
found_current : {D : Type 0} (journal : Journal D) (outcome : Outcome) (limit : ℕ) (taken : List (List ℕ)) → Answered journal outcome limit taken → current_in journal ≡ current_found outcome
found_current journal (refused fault bodies) limit taken is = absurd is
found_current journal no_side limit taken is = same_current _ _ _ _ is.0.second_is is.0.generation_is
found_current journal (found second generation gate bodies) limit taken is = same_current _ _ _ _ is.0.second_is is.0.generation_is

found_length : {D : Type 0} (journal : Journal D) (outcome : Outcome) (limit : ℕ) (taken : List (List ℕ)) → Answered journal outcome limit taken → length_of journal ≡ length_in outcome
found_length journal (refused fault bodies) limit taken is = absurd is
found_length journal no_side limit taken is = is.0.length_is
found_length journal (found second generation gate bodies) limit taken is = is.0.length_is

pub opened_side : {D : Type 0} (images : D → List ℕ → Type 0) (schema other : Schema) (kept : Durable) (old new : Journal D) (outcome : Outcome) (limit : ℕ) (taken : List (List ℕ))
    → other ≡ schema → Answered old outcome limit taken → ComeTo schema kept taken → Rests images taken (seen old) → IsBegunBy images other kept old new
    → IsOpenedSide images schema outcome (current_in new) (length_of new) (disks_of new)
opened_side images schema other kept old new outcome limit taken same answer come rests begun =
    let now = subst (λ (s : Schema). IsBegunOn images s kept taken (current_in old) (length_of old) (current_in new) (length_of new) (disks_of new)) same (begun taken rests) in
    record {
      bodies = taken;
      kept = kept;
      are = told_bodies old outcome limit taken answer;
      come = come;
      begun =
          subst (λ (c : Current). IsBegunOn images schema kept taken c (length_in outcome) (current_in new) (length_of new) (disks_of new)) (found_current old outcome limit taken answer)
          (subst (λ (n : ℕ). IsBegunOn images schema kept taken (current_in old) n (current_in new) (length_of new) (disks_of new)) (found_length old outcome limit taken answer) now);
    }
