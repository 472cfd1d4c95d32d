-- What is begun is ended, and then one more change is recorded.
use Rattle.std.proofs.Common.{◌≡◌, ◌⊎◌, inl, inr, ⊎_elim, ℕ, ◌≤◌, true, false, ◌==◌, List, [], ◌∷◌, ◌++◌, length, Option, Some, None, Result, Err, refl, sym, subst, arith}
use Rattle.disk_core.specs.Sides.{Within, Always}
use Rattle.disk_core.specs.Sides.Always.{once, then as link}
use Rattle.disk_core.specs.declared.pair.Pair.{Pair}
use Rattle.feature_journal.specs.Whole.{Says}
use Rattle.feature_journal.specs.Held.{With}
use Rattle.feature_journal.specs.Kept.{Kept, Rests, Began, BeganSide, Stands, seen, disks_of, has_begun, is_pending}
use Rattle.feature_journal.specs.declared.fault.AppendFault.{AppendFault}
use Rattle.feature_journal.specs.declared.fault.AppendFault.TheVariants as append_faults
use Rattle.feature_journal.specs.declared.journal.Journal.{Journal}
use Rattle.feature_journal.proofs.Pairs.{held_says, within_still}
use Rattle.feature_journal.proofs.Knowing.{within_more}
use Rattle.feature_values.specs.declared.schema.Schema.{Schema}
use Rattle.journal_format.specs.Numbers.{AreBytes}
use Rattle.journal_replay.specs.Replayed.{may_stand}
use Rattle.journal_replay.specs.Written.{body_in, IsTaken}
use Rattle.journal_replay.proofs.Taking.{had_again}
use Rattle.wfs_model.specs.declared.change.Change.{Change}
use Rattle.wfs_model.specs.State.{Durable}
use Rattle.wfs_model.specs.Played.{played_one}
use Rattle.durable_journal.specs.Standing.{ComeTo, SaysKept, SaysWith, SaysEither}
use Rattle.durable_journal.specs.Kept.{IsListOf, IsAtRest, Keeps}
use Rattle.durable_journal.specs.Recorded.{MayAppend}
use Rattle.durable_journal.proofs.Holding.{appended_holds}
use Rattle.durable_journal.proofs.Saying.{list_says, lists_say, with_says}

-- the disks stand for what is kept
pub keeps_stands : {D : Type 0} (images : D → List ℕ → Type 0) (journal : Journal D) (schema : Schema) (kept : Durable) (begun : Option Change) → Keeps images schema kept begun journal → Stands images (seen journal)
keeps_stands images journal schema kept None (inl is) = inl (is.bodies, is.rests)
keeps_stands images journal schema kept None (inr has) = inr (inr (has.bodies, has.added, has.began))
keeps_stands images journal schema kept (Some change) has = inr (inl (has.bodies, body_in schema change, has.began))

-- ---- what is begun is ended

module _ {D : Type 0} (images : D → List ℕ → Type 0) (schema : Schema) (kept : Durable) (old new : Journal D) where
  pub ended : ((bodies : List (List ℕ)) → Rests images bodies (seen old) → new ≡ old)
      → ((bodies : List (List ℕ)) (body : List ℕ) → Began images bodies body (seen old) → Rests images bodies (seen new))
      → ((bodies added : List (List ℕ)) → BeganSide images bodies added (seen old) → Rests images bodies (seen new))
      → (begun : Option Change) → Keeps images schema kept begun old → IsAtRest images schema kept new
  ended same record_ends side_ends None (inl is) = subst (IsAtRest images schema kept) (sym (same is.bodies is.rests)) is
  ended same record_ends side_ends None (inr has) = record { bodies = has.bodies; rests = side_ends has.bodies has.added has.began; list = has.list }
  ended same record_ends side_ends (Some change) has = record { bodies = has.bodies; rests = record_ends has.bodies (body_in schema change) has.began; list = has.list }

  pub still_begun : ((bodies : List (List ℕ)) → Rests images bodies (seen old) → new ≡ old)
      → ((bodies : List (List ℕ)) (body : List ℕ) → Began images bodies body (seen old) → Began images bodies body (seen new))
      → ((bodies added : List (List ℕ)) → BeganSide images bodies added (seen old) → BeganSide images bodies added (seen new))
      → (begun : Option Change) → Keeps images schema kept begun old → Keeps images schema kept begun new
  still_begun same record_stays side_stays None (inl is) = inl (subst (IsAtRest images schema kept) (sym (same is.bodies is.rests)) is)
  still_begun same record_stays side_stays None (inr has) = inr (record { bodies = has.bodies; added = has.added; began = side_stays has.bodies has.added has.began; list = has.list; added_come = has.added_come })
  still_begun same record_stays side_stays (Some change) has = record { bodies = has.bodies; began = record_stays has.bodies (body_in schema change) has.began; list = has.list; with_it = has.with_it }

module _ {D : Type 0} (moment : D → ℕ) (since : D → ℕ → List ℕ → Type 0) (images : D → List ℕ → Type 0) (counts : (d : D) (t : ℕ) (c : List ℕ) → t ≤ moment d → images d c → since d t c) (only : (d : D) (c : List ℕ) → since d (moment d) c → images d c)
    (schema : Schema) (kept : Durable) (old new : Journal D) where
  pub ending_goes : ((bodies : List (List ℕ)) → Rests images bodies (seen old) → new ≡ old)
      → ((bodies : List (List ℕ)) (body : List ℕ) → Began images bodies body (seen old) → Within moment since (With bodies body) (disks_of old) (disks_of new))
      → ((bodies added : List (List ℕ)) → BeganSide images bodies added (seen old) → Within moment since (Says (bodies ∷ added ∷ [])) (disks_of old) (disks_of new))
      → (begun : Option Change) → Keeps images schema kept begun old → Within moment since (SaysWith schema kept begun) (disks_of old) (disks_of new)
  ending_goes same record_goes side_goes None (inl is) =
      let here = within_still moment since images counts only (SaysKept schema kept) (disks_of old)
      (λ x y at_a at_b. list_says schema kept is.bodies is.list.come x y (held_says images old.second_side _ _ is.bodies old.disks is.rests.held x y at_a at_b)) in
      subst (λ j. Within moment since (SaysKept schema kept) (disks_of old) (disks_of j)) (sym (same is.bodies is.rests)) here
  ending_goes same record_goes side_goes None (inr has) =
      within_more moment since (Says (has.bodies ∷ has.added ∷ [])) (SaysKept schema kept) (disks_of old) (disks_of new) (lists_say schema kept has.bodies has.added has.list.come has.added_come) (side_goes has.bodies has.added has.began)
  ending_goes same record_goes side_goes (Some change) has =
      within_more moment since (With has.bodies (body_in schema change)) (SaysWith schema kept (Some change)) (disks_of old) (disks_of new) (with_says schema kept change has.bodies has.list.come has.with_it) (record_goes has.bodies (body_in schema change) has.began)

-- ---- one more change

-- what bodies come to with the body of a change behind them
more_comes : (schema : Schema) (kept : Durable) (change : Change) (bodies : List (List ℕ)) (body : List ℕ) → IsListOf schema kept bodies → MayAppend schema kept change body → ComeTo schema (played_one kept change) (bodies ++ body_in schema change ∷ [])
more_comes schema kept change bodies body list may =
    let taken : IsTaken schema bodies (body_in schema change) (played_one kept change) = had_again schema bodies kept change list.come (record { stands = subst (λ b. may_stand b change ≡ true) (sym list.some) may.stands; playable = may.playable; texts = may.texts; read_back = may.read_back }) in
    taken.come

one_is_some : (bodies : List (List ℕ)) (body : List ℕ) → (length (bodies ++ body ∷ []) == 0) ≡ false
one_is_some [] body = grind arith
one_is_some (first ∷ bodies) body = grind arith

module _ {D : Type 0} (images : D → List ℕ → Type 0) (schema : Schema) (kept : Durable) (change : Change) (body : List ℕ) (may : MayAppend schema kept change body) (mid new : Journal D) (at : IsAtRest images schema kept mid) where
  pub appended : AreBytes body → ((bodies : List (List ℕ)) → Rests images bodies (seen mid) → Rests images (bodies ++ body ∷ []) (seen new)) → Keeps images schema (played_one kept change) None new
  appended bytes done = inl (record {
    bodies = at.bodies ++ body ∷ [];
    rests = done at.bodies at.rests;
    list = record {
      come = subst (λ b. ComeTo schema (played_one kept change) (at.bodies ++ b ∷ [])) (sym may.is) (more_comes schema kept change at.bodies body at.list may);
      some = one_is_some at.bodies body;
      holdable = appended_holds schema kept change body bytes may.is may.read_back at.list.holdable;
    };
  })

  pub not_appended : ((bodies : List (List ℕ)) → Rests images bodies (seen mid) → Rests images bodies (seen new)) → Keeps images schema kept None new
  not_appended rests = inl (record { bodies = at.bodies; rests = rests at.bodies at.rests; list = at.list })

  pub begins : ((bodies : List (List ℕ)) → Rests images bodies (seen mid) → Began images bodies body (seen new)) → Keeps images schema kept (Some change) new
  begins began = record {
    bodies = at.bodies;
    began = subst (λ b. Began images at.bodies b (seen new)) may.is (began at.bodies at.rests);
    list = at.list;
    with_it = more_comes schema kept change at.bodies body at.list may;
  }

  pub append_goes : (moment : D → ℕ) (since : D → ℕ → List ℕ → Type 0) → ((bodies : List (List ℕ)) → Rests images bodies (seen mid) → Within moment since (With bodies body) (disks_of mid) (disks_of new)) → Within moment since (SaysWith schema kept (Some change)) (disks_of mid) (disks_of new)
  append_goes moment since goes =
      within_more moment since (With at.bodies (body_in schema change)) (SaysWith schema kept (Some change)) (disks_of mid) (disks_of new) (with_says schema kept change at.bodies at.list.come (more_comes schema kept change at.bodies body at.list may))
      (subst (λ b. Within moment since (With at.bodies b) (disks_of mid) (disks_of new)) may.is (goes at.bodies at.rests))

-- what a fault left, by what the journal tells
module _ {D : Type 0} (images : D → List ℕ → Type 0) (body : List ℕ) (new : Journal D) where
  rests_not_begun : (bodies : List (List ℕ)) → Rests images bodies (seen new) → has_begun new ≡ true → ⊥
  rests_not_begun bodies rests tells = let told : false ≡ true = subst (λ p. is_pending p ≡ true) rests.begun tells in absurd cc

  began_is_begun : (bodies : List (List ℕ)) → Began images bodies body (seen new) → has_begun new ≡ false → ⊥
  began_is_begun bodies began tells = let told : true ≡ false = subst (λ p. is_pending p ≡ false) began.begun tells in absurd cc

  pub tells_begun : (old : Kept D) → ((bodies : List (List ℕ)) → Rests images bodies old → Rests images bodies (seen new) ⊎ Began images bodies body (seen new)) → has_begun new ≡ true → (bodies : List (List ℕ)) → Rests images bodies old → Began images bodies body (seen new)
  tells_begun old fault tells bodies rests = ⊎_elim (λ still. absurd (rests_not_begun bodies still tells)) (λ began. began) (fault bodies rests)

  pub tells_rests : (old : Kept D) → ((bodies : List (List ℕ)) → Rests images bodies old → Rests images bodies (seen new) ⊎ Began images bodies body (seen new)) → has_begun new ≡ false → (bodies : List (List ℕ)) → Rests images bodies old → Rests images bodies (seen new)
  tells_rests old fault tells bodies rests = ⊎_elim (λ still. still) (λ began. absurd (began_is_begun bodies began tells)) (fault bodies rests)

-- where there is room, only a disk fails
pub disk_failed : (fault : AppendFault) → ((sum : ℕ) → (let result : Result (Unit {0}) AppendFault = Err fault in result) ≡ Err (append_faults.Full sum) → ⊥) → (let result : Result (Unit {0}) AppendFault = Err fault in result) ≡ Err append_faults.DiskFault
disk_failed append_faults.DiskFault not_full = refl
disk_failed (append_faults.Full sum) not_full = absurd (not_full sum refl)

-- the two links of a record
module _ {D : Type 0} (moment : D → ℕ) (since : D → ℕ → List ℕ → Type 0) (schema : Schema) (kept : Durable) (begun made : Option Change) where
  pub first_goes : (old mid : Pair D) → Within moment since (SaysWith schema kept begun) old mid → Always moment since (SaysEither schema kept begun made) old mid
  first_goes old mid first = once old mid (within_more moment since (SaysWith schema kept begun) (SaysEither schema kept begun made) old mid (λ x y says. inl says) first)

  pub both_go : (old mid new : Pair D) → Within moment since (SaysWith schema kept begun) old mid → Within moment since (SaysWith schema kept made) mid new → Always moment since (SaysEither schema kept begun made) old new
  both_go old mid new first second =
      link old mid new (within_more moment since (SaysWith schema kept begun) (SaysEither schema kept begun made) old mid (λ x y says. inl says) first)
      (once mid new (within_more moment since (SaysWith schema kept made) (SaysEither schema kept begun made) mid new (λ x y says. inr says) second))
