-- What the steps of making a side make of a side that is not current.
use Rattle.std.proofs.Common.{◌≡◌, inl, inr, ⊎_elim, ℕ, ◌<◌, List, [], ◌∷◌, ◌++◌, length, take, Bool, false, refl, sym, ◌∙◌, ap, subst, arith, Option, Some, IfSome, IsTrue, ◌↔◌}
use Rattle.std.specs.Int.{to_be_bytes, w64}
use Rattle.disk_core.specs.Disk.{Leads, Goes, Every, Torn, Same, Cut, Keeps, Begins, over}
use Rattle.disk_core.proofs.Runs.{goes, goes_on, goes_more, every_on}
use Rattle.disk_core.proofs.Bytes.{begins_byte, begins_over, begins_keeps, length-begins}
use Rattle.disk_core.proofs.Seen.{at_some}
use Rattle.feature_journal.specs.Side.{mark, Gate}
use Rattle.feature_journal.specs.Whole.{Harmless, HarmlessOr, Idle, Marked}
use Rattle.feature_journal.specs.Whole.Harmless.{short, shut, older, tied}
use Rattle.feature_journal.specs.Whole.Idle.{idle_short, idle_shut, idle_older, idle_tied}
use Rattle.feature_journal.proofs.Images.{torn_on}
use Rattle.feature_journal.proofs.Whole.{idle_harmless}

short_torn : (d c : List ℕ) → length d < 17 → Torn 0 1 d c → length c < 17
short_torn d c less torn = ⊎_elim (λ e. omega (arith, e, less)) (λ e. omega (arith, e, less)) torn.size

marked_torn : (own : ℕ) (d c : List ℕ) → Marked own d → Torn 0 1 d c → Marked own c
marked_torn own d c m torn = record { gate = _; first = m.first; is = begins_byte 0 [] m.gate (mark ++ to_be_bytes w64 own ++ m.first ∷ []) d c refl m.is torn }

pub shut_cut : (d c : List ℕ) → Begins (0 ∷ []) d → Cut 1 d c → Begins (0 ∷ []) c
shut_cut d c b (inl same) = subst (Begins (0 ∷ [])) (sym same) b
shut_cut d c b (inr cut) = record { rest = []; is = cut ∙ ap (take 1) b.is }

module _ {D : Type 0} (moment : D → ℕ) (since : D → ℕ → List ℕ → Type 0) (images : D → List ℕ → Type 0) (is_b : Bool) (generation : ℕ) where
  -- a call that changes nothing
  pub idle_same : (x y : D) → Leads moment since images Same x y → Idle is_b generation (images x) → Idle is_b generation (images y)
  idle_same x y a (idle_short all) = idle_short (every_on moment since images Same (λ c. length c < 17) (λ c. length c < 17) x y (λ d c p e. subst (λ l. length l < 17) (sym e) p) a all)
  idle_same x y a (idle_shut all) = idle_shut (every_on moment since images Same (Begins (0 ∷ [])) (Begins (0 ∷ [])) x y (λ d c p e. subst (Begins (0 ∷ [])) (sym e) p) a all)
  idle_same x y a (idle_older own less all) = idle_older own less (every_on moment since images Same (Marked own) (Marked own) x y (λ d c p e. subst (Marked own) (sym e) p) a all)
  idle_same x y a (idle_tied b all) = idle_tied b (every_on moment since images Same (Marked generation) (Marked generation) x y (λ d c p e. subst (Marked generation) (sym e) p) a all)

  pub goes_same : (x y : D) → Leads moment since images Same x y → Idle is_b generation (images x) → Goes moment since (Harmless is_b generation []) x y
  goes_same x y a idle = goes moment since images Same (Harmless is_b generation []) (Harmless is_b generation []) x y (λ c h. h) (λ d c h e. subst (Harmless is_b generation []) (sym e) h) a (idle_harmless is_b generation (images x) idle)

  -- byte 0 is written, where not every image has it closed
  pub idle_torn : (x y : D) → ((c : List ℕ) → images x c → Every (images x) (Begins (0 ∷ [])) → ⊥) → Leads moment since images (Torn 0 1) x y → Idle is_b generation (images x) → Idle is_b generation (images y)
  idle_torn x y unshut a (idle_short all) = idle_short (every_on moment since images (Torn 0 1) (λ c. length c < 17) (λ c. length c < 17) x y short_torn a all)
  idle_torn x y unshut a (idle_shut all) = idle_shut (λ c here. let from = a.now c here in absurd (unshut from.0 from.1 all))
  idle_torn x y unshut a (idle_older own less all) = idle_older own less (every_on moment since images (Torn 0 1) (Marked own) (Marked own) x y (marked_torn own) a all)
  idle_torn x y unshut a (idle_tied b all) = idle_tied b (every_on moment since images (Torn 0 1) (Marked generation) (Marked generation) x y (marked_torn generation) a all)

  pub goes_torn : (x y : D) → ((c : List ℕ) → images x c → Every (images x) (Begins (0 ∷ [])) → ⊥) → Leads moment since images (Torn 0 1) x y → Idle is_b generation (images x) → Goes moment since (Harmless is_b generation []) x y
  goes_torn x y unshut a idle = record {
    grows = a.grows;
    each = λ c had. ⊎_elim (λ old. idle_harmless is_b generation (images x) idle c old) (λ come. harmless idle come.0 c come.1 come.2) (a.meanwhile c had);
  }
    where
      harmless : Idle is_b generation (images x) → (d c : List ℕ) → images x d → Torn 0 1 d c → Harmless is_b generation [] c
      harmless (idle_short all) d c here torn = short (short_torn d c (all d here) torn)
      harmless (idle_shut all) d c here torn = absurd (unshut d here all)
      harmless (idle_older own less all) d c here torn = older own (marked_torn own d c (all d here) torn) less
      harmless (idle_tied b all) d c here torn = tied b (marked_torn generation d c (all d here) torn)

  -- behind a closed byte 0 a cut does no harm
  pub goes_cut : (x y : D) → Leads moment since images (Cut 1) x y → Every (images x) (Begins (0 ∷ [])) → Goes moment since (Harmless is_b generation []) x y
  goes_cut x y a all = goes moment since images (Cut 1) (Begins (0 ∷ [])) (Harmless is_b generation []) x y (λ c b. shut b) (λ d c b cut. shut (shut_cut d c b cut)) a all

-- Where the disk reads byte 0 other than 0, not every image has it closed.
pub unshut_of : {D : Type 0} (shown : D → Option (List ℕ)) (images : D → List ℕ → Type 0) → ((d : D) (s : List ℕ) → shown d ≡ Some s → images d s) → ((d : D) (c : List ℕ) → images d c → (s : List ℕ) × (shown d ≡ Some s))
    → (d : D) (zero : Bool) → zero ≡ false → IfSome (shown d) (λ s. IsTrue zero ↔ Begins (0 ∷ []) s) → (c : List ℕ) → images d c → Every (images d) (Begins (0 ∷ [])) → ⊥
unshut_of shown images reads tells d zero is_false says c here all =
    let s = tells d c here in
    let is : IsTrue zero = ((at_some (shown d) (λ s. IsTrue zero ↔ Begins (0 ∷ []) s) s.0 s.1 says).1 (all s.0 (reads d s.0 s.1))) in
    absurd (cc (is_false, is))

pub zero_over : (s : List ℕ) → Begins (0 ∷ []) (over 0 (0 ∷ []) s)
zero_over s = begins_over 0 [] (0 ∷ []) s refl (record { rest = s; is = refl })

module _ {D : Type 0} (moment : D → ℕ) (since : D → ℕ → List ℕ → Type 0) (images : D → List ℕ → Type 0) (is_b : Bool) (generation : ℕ) (text : List ℕ) where
  pub cleared_goes : (x y : D) → Goes moment since (Harmless is_b generation []) x y → Goes moment since (HarmlessOr is_b generation (Gate [] text)) x y
  cleared_goes x y a = goes_more moment since images (Harmless is_b generation []) (HarmlessOr is_b generation (Gate [] text)) x y (λ c h. inl h) a

  pub filled_goes : (x y z : D) → Goes moment since (Harmless is_b generation []) x y → Every (images y) (Begins (0 ∷ [])) → Leads moment since images (Keeps 1) y z → Goes moment since (HarmlessOr is_b generation (Gate [] text)) x z
  filled_goes x y z a all kept = goes_on moment since images (HarmlessOr is_b generation (Gate [] text)) x y z (cleared_goes x y a)
      (goes moment since images (Keeps 1) (Begins (0 ∷ [])) (HarmlessOr is_b generation (Gate [] text)) y z (λ c b. inl (shut b)) (λ d c b keeps. inl (shut (begins_keeps 1 (0 ∷ []) d c (omega arith) (length-begins (0 ∷ []) d b) b keeps))) kept all)

  pub made_goes : (x y z : D) → Goes moment since (HarmlessOr is_b generation (Gate [] text)) x y → Every (images y) (Gate [] text) → Leads moment since images (Torn 0 1) y z → Goes moment since (HarmlessOr is_b generation (Gate [] text)) x z
  made_goes x y z a all torn = goes_on moment since images (HarmlessOr is_b generation (Gate [] text)) x y z a
      (goes moment since images (Torn 0 1) (Gate [] text) (HarmlessOr is_b generation (Gate [] text)) y z (λ c b. inr b) (λ d c b step. inr (torn_on 0 [] text d c refl b step)) torn all)
