-- How the calls that settle two sides go on from one another.
use Rattle.std.proofs.Common.{◌≡◌, ◌≤◌, inl, inr, ℕ, ◌<◌, ◌^◌, List, [], ◌∷◌, ◌++◌, length, Bool, true, false, not, refl, sym, ◌∙◌, subst, cond, arith, Option, None, Some, IfSome, Result, Ok, Err, OnOk}
use Rattle.std.proofs.lemmas.Bool.{cases_eq}
use Rattle.std.specs.Int.{to_be_bytes, w64}
use Rattle.disk_core.specs.Disk.{Leads, Goes, Every, Torn, Same, Begins, written, over}
use Rattle.disk_core.specs.StoryLaws.{torn_none}
use Rattle.disk_core.specs.Sides.{Within, chosen, spare}
use Rattle.disk_core.specs.declared.pair.Pair.{Pair}
use Rattle.disk_core.proofs.Runs.{goes}
use Rattle.disk_core.proofs.Seen.{if_some}
use Rattle.feature_journal.specs.Side.{side, mark, Closed, Begun, ClosedOrBegun, Gate, behind}
use Rattle.feature_journal.specs.Whole.{Idle, Harmless, Says}
use Rattle.feature_journal.specs.Whole.Idle.{idle_shut}
use Rattle.feature_journal.specs.Whole.Harmless.{short, shut, equal}
use Rattle.feature_journal.specs.Whole.Ends.{closed}
use Rattle.feature_journal.specs.Held.{HeldClosed, With}
use Rattle.feature_journal.specs.Settled.{Reading, Known, Placed, SaysOr}
use Rattle.feature_journal.specs.Nothing.{Unmade, Nothing, Unused, Empty, Dormant}
use Rattle.feature_journal.specs.Nothing.Unmade.{few, zero_first, no_record}
use Rattle.feature_journal.specs.Nothing.Unused.{all_few, all_zero}
use Rattle.feature_journal.proofs.Idle.{zero_over}
use Rattle.feature_journal.proofs.Images.{torn_on}
use Rattle.feature_journal.proofs.Pairs.{closed_goes, held_goes, quiet_goes, within_still, unmoved, still}
use Rattle.feature_journal.proofs.Knowing.{known_ends, known_says, known_shut, held_of, begun_of, says_more, says_or, within_more}

pub ok_two : {T E : Type 0} (r : Result T E) (P Q R : Type 0) → (P → Q → R) → OnOk r P → OnOk r Q → OnOk r R
ok_two (Ok x) P Q R f p q = f p q
ok_two (Err e) P Q R f p q = tt

pub at_front : (o : Option (List ℕ)) → IfSome o (λ s. 0 ≤ length s)
at_front o = if_some o _ (λ s e. omega arith)

shut_written : (o : Option (List ℕ)) (c : List ℕ) → written 0 (0 ∷ []) o ≡ Some c → Begins (0 ∷ []) c
unfolding written
shut_written None c e = absurd cc
shut_written (Some s) c e = let is : over 0 (0 ∷ []) s ≡ c = cc in subst (Begins (0 ∷ [])) is (zero_over s)

pub shut_stable : (images : List ℕ → Type 0) (o new : Option (List ℕ)) → new ≡ written 0 (0 ∷ []) o → Every images (λ c. new ≡ Some c) → Every images (Begins (0 ∷ []))
shut_stable images o new done stable c here = shut_written o c (sym done ∙ stable c here)

pub torn_same : (at n : ℕ) (d c : List ℕ) → Same d c → Torn at n d c
torn_same at n d c same = subst (Torn at n d) (sym same) (torn_none at n d)

module _ {D : Type 0} (moment : D → ℕ) (since : D → ℕ → List ℕ → Type 0) (images : D → List ℕ → Type 0)
    (counts : (d : D) (t : ℕ) (c : List ℕ) → t ≤ moment d → images d c → since d t c) (only : (d : D) (c : List ℕ) → since d (moment d) c → images d c) where
  -- the closed gate's side is synced
  pub synced_goes : (second : Bool) (gate : ℕ) (r : Reading) (old new : Pair D) → Known images second gate false true r old → Leads moment since images Same (chosen second old) (chosen second new) → spare second new ≡ spare second old
      → Within moment since (SaysOr true r) old new
  synced_goes second gate r old new k crash same =
      let held = held_of images second gate r old k in
      within_more moment since (Says r.lists) (SaysOr true r) old new (λ x y says. inl says)
      (within_more moment since (Says (r.bodies ∷ [])) (Says r.lists) old new (λ x y says. says_more r.lists r.bodies x y k.one says)
      (closed_goes moment since images counts only second r.generation gate r.bodies old new held
      (goes moment since images Same (Closed (side r.generation r.bodies)) (Closed (side r.generation r.bodies)) (chosen second old) (chosen second new) (λ e b. b) (λ d e b eq. subst (Closed (side r.generation r.bodies)) (sym eq) b) crash held.ends) same))

  -- the gate in front of a tail is closed
  pub closing_goes : (second : Bool) (gate : ℕ) (r : Reading) (old new : Pair D) → Known images second gate false false r old → Leads moment since images (Torn gate 1) (chosen second old) (chosen second new) → spare second new ≡ spare second old
      → Within moment since (SaysOr false r) old new
  closing_goes second gate r old new k torn same =
      let held = begun_of images second gate r old k in
      let front = side r.generation r.bodies in
      within_more moment since (With r.bodies r.body) (SaysOr false r) old new (λ x y says. says_or false r x y refl k.one says)
      (held_goes moment since images counts only second r.generation gate r.bodies r.body (λ f. Begun f r.body) old new k.fits held
      (goes moment since images (Torn gate 1) (Begun front r.body) (ClosedOrBegun front r.body) (chosen second old) (chosen second new) (λ e b. inr b) (λ d e b step. inr (torn_on gate front (behind r.body) d e k.size b step)) torn held.ends) same)

  -- byte 0 of the other side is closed, where it is stale
  pub quieted_goes : (second : Bool) (gate : ℕ) (is_stale is_closed : Bool) (r : Reading) (old new : Pair D) → Known images second gate is_stale is_closed r old → Leads moment since images (Torn 0 1) (spare second old) (spare second new)
      → chosen second new ≡ chosen second old → (is_stale ≡ false → new ≡ old) → Within moment since (Says r.lists) old new
  quieted_goes second gate true is_closed r old new k torn same left =
      let stale = k.stale refl in
      quiet_goes moment since images counts only second r.generation r.lists r.bodies r.text old new k.list k.one (known_ends images second gate true is_closed r old k) stale.0
      (goes moment since images (Torn 0 1) (Gate [] r.text) (Gate [] r.text) (spare second old) (spare second new) (λ e b. b) (λ d e b step. torn_on 0 [] r.text d e refl b step) torn stale.1) same
  quieted_goes second gate false is_closed r old new k torn same left =
      subst (λ d. Within moment since (Says r.lists) old d) (sym (left refl)) (within_still moment since images counts only (Says r.lists) old (known_says images second gate is_closed r old k))

module _ {D : Type 0} (images : D → List ℕ → Type 0) where
  pub known_quieted : (second : Bool) (gate : ℕ) (is_stale is_closed : Bool) (r : Reading) (old new : Pair D) → Known images second gate is_stale is_closed r old → chosen second new ≡ chosen second old → (is_stale ≡ false → new ≡ old)
      → (is_stale ≡ true → Every (images (spare second new)) (Begins (0 ∷ []))) → Known images second gate false is_closed r new
  known_quieted second gate true is_closed r old new k same left is_shut = known_shut images second gate true is_closed r old new k same (idle_shut (is_shut refl))
  known_quieted second gate false is_closed r old new k same left is_shut = subst (Known images second gate false is_closed r) (sym (left refl)) k

  pub placed_quieted : (second : Bool) (gate : ℕ) (is_stale is_closed : Bool) (generation : ℕ) (bodies : List (List ℕ)) (old new : Pair D) → Placed images second gate is_stale is_closed generation bodies old → chosen second new ≡ chosen second old
      → (is_stale ≡ false → new ≡ old) → (is_stale ≡ true → Every (images (spare second new)) (Begins (0 ∷ []))) → Placed images second gate false is_closed generation bodies new
  placed_quieted second gate true is_closed generation bodies old new p same left is_shut = record {
    list = p.list;
    size = p.size;
    ends = subst (λ d. Every (images d) (Gate (side generation bodies) [])) (sym same) p.ends;
    closed = λ e. subst (λ d. Every (images d) (Closed (side generation bodies))) (sym same) (p.closed e);
    idle = λ e. idle_shut (is_shut refl);
  }
  placed_quieted second gate false is_closed generation bodies old new p same left is_shut = subst (Placed images second gate false is_closed generation bodies) (sym (left refl)) p

  pub placed_held : (second : Bool) (gate : ℕ) (is_closed : Bool) (generation : ℕ) (bodies : List (List ℕ)) (old new : Pair D) → Placed images second gate false is_closed generation bodies old → Every (images (chosen second new)) (Closed (side generation bodies))
      → spare second new ≡ spare second old → HeldClosed images second generation gate bodies new
  placed_held second gate is_closed generation bodies old new p ends same =
      record { list = p.list; size = p.size; ends = ends; beside = subst (λ d. Idle (not second) generation (images d)) (sym same) (p.idle refl) }

-- Where no side is current.
abbrev header : ℕ → List ℕ
header own = mark ++ to_be_bytes w64 own ++ 0 ∷ []

pub unused_unmade : (images : List ℕ → Type 0) → Unused images → Every images Unmade
unused_unmade images (all_few all) c here = few (all c here)
unused_unmade images (all_zero all) c here = zero_first (all c here)

empty_unmade : (own : ℕ) (c : List ℕ) → own < 2 ^ 64 → Empty own c → Unmade c
empty_unmade own c fits e = no_record e.gate own e.not_open fits e.is

pub dormant_unmade : (is_stale : Bool) (images : List ℕ → Type 0) → Dormant is_stale images → Every images Unmade
dormant_unmade true images d c here = let s = d.stale refl in empty_unmade s.0 c s.1 (s.2 c here)
dormant_unmade false images d c here = unused_unmade images (d.unused refl) c here

unmade_harmless : (is_b : Bool) (generation : ℕ) (c : List ℕ) → Unmade c → Harmless is_b generation ([] ∷ []) c
unfolding side
unmade_harmless is_b generation c (few less) = short less
unmade_harmless is_b generation c (zero_first b) = shut b
unmade_harmless is_b generation c (no_record gate own not_open fits b) = equal gate own [] not_open (record { generation_fits = fits; bodies_fit = tt }) (inl refl) b

opened_empty : (own : ℕ) (c : List ℕ) → Begins (1 ∷ header own) c → Closed (side own []) c
unfolding side
opened_empty own c b = b

empty_says : (second : Bool) (own : ℕ) (x y : List ℕ) → own < 2 ^ 64 → Gate [] (header own) (cond second x y) → Unmade (cond second y x) → Nothing x y
empty_says true own x y fits gate other = elim (cases_eq gate.byte 1) [
  | inl is_open ↦ inr (record { second = false; generation = own; bodies = []; list = record { generation_fits = fits; bodies_fit = tt }; one = inl refl; ends = closed (opened_empty own x (subst (λ n. Begins (n ∷ header own) x) is_open gate.is)); beside = unmade_harmless true own y other })
  | inr not_open ↦ inl (no_record gate.byte own not_open fits gate.is, other)
]
empty_says false own x y fits gate other = elim (cases_eq gate.byte 1) [
  | inl is_open ↦ inr (record { second = true; generation = own; bodies = []; list = record { generation_fits = fits; bodies_fit = tt }; one = inl refl; ends = closed (opened_empty own y (subst (λ n. Begins (n ∷ header own) y) is_open gate.is)); beside = unmade_harmless false own x other })
  | inr not_open ↦ inl (other, no_record gate.byte own not_open fits gate.is)
]

module _ {D : Type 0} (moment : D → ℕ) (since : D → ℕ → List ℕ → Type 0) (images : D → List ℕ → Type 0)
    (counts : (d : D) (t : ℕ) (c : List ℕ) → t ≤ moment d → images d c → since d t c) (only : (d : D) (c : List ℕ) → since d (moment d) c → images d c) where
  empty_goes : (own : ℕ) (x y : D) → Every (images x) (Empty own) → Leads moment since images (Torn 0 1) x y → Goes moment since (Gate [] (header own)) x y
  empty_goes own x y all torn = goes moment since images (Torn 0 1) (Gate [] (header own)) (Gate [] (header own)) x y (λ c b. b) (λ d c b step. torn_on 0 [] (header own) d c refl b step) torn (λ c here. let e = all c here in record { byte = e.gate; is = e.is })

  -- one side is closed where it is stale, and the other one left
  pub shut_goes : (second is_stale : Bool) (old new : Pair D) → Dormant is_stale (images (spare second old)) → Every (images (chosen second old)) Unmade → Leads moment since images (Torn 0 1) (spare second old) (spare second new)
      → chosen second new ≡ chosen second old → (is_stale ≡ false → new ≡ old) → Within moment since Nothing old new
  shut_goes true true old new d other torn same left =
      let s = d.stale refl in
      let g = empty_goes s.0 old.a new.a s.2 torn in
      record { a = g.grows; b = still moment since images counts only old.b new.b same; each = λ x y had_a had_b. empty_says true s.0 x y s.1 (g.each x had_a) (other y (unmoved moment since images counts only old.b new.b y same had_b)) }
  shut_goes false true old new d other torn same left =
      let s = d.stale refl in
      let g = empty_goes s.0 old.b new.b s.2 torn in
      record { a = still moment since images counts only old.a new.a same; b = g.grows; each = λ x y had_a had_b. empty_says false s.0 x y s.1 (g.each y had_b) (other x (unmoved moment since images counts only old.a new.a x same had_a)) }
  shut_goes true false old new d other torn same left =
      subst (λ p. Within moment since Nothing old p) (sym (left refl)) (within_still moment since images counts only Nothing old (λ x y at_a at_b. inl (unused_unmade (images old.a) (d.unused refl) x at_a, other y at_b)))
  shut_goes false false old new d other torn same left =
      subst (λ p. Within moment since Nothing old p) (sym (left refl)) (within_still moment since images counts only Nothing old (λ x y at_a at_b. inl (other x at_a, unused_unmade (images old.b) (d.unused refl) y at_b)))

-- after that it is unused
pub shut_unused : {D : Type 0} (images : D → List ℕ → Type 0) (is_stale : Bool) (old new : D) → (is_stale ≡ false → new ≡ old) → (is_stale ≡ true → Every (images new) (Begins (0 ∷ []))) → (is_stale ≡ false → Unused (images old)) → Unused (images new)
shut_unused images true old new left is_shut was = all_zero (is_shut refl)
shut_unused images false old new left is_shut was = subst (λ d. Unused (images d)) (sym (left refl)) (was refl)
