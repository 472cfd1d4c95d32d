-- What both sides come to, from what their first bytes tell and how the records of the current one end.
use Rattle.std.proofs.Common.{◌≡◌, ◌≤◌, ℕ, ◌+◌, ◌<◌, List, [], ◌∷◌, ◌++◌, length, get_or, take, drop, refl, sym, ◌∙◌, ap, subst, arith, append_assoc, length-append, take-append-drop, Option, None, Some, IfSome, IfOk, Result, Ok, Err, nat_lt, ◌==◌, Bool, true, false, not, cond}
use Rattle.std.proofs.lemmas.Bool.Decides.{nat_tests}
use Rattle.std.proofs.lemmas.List.{drop_more, take-take, get_or-take, length-take-le}
use Rattle.std.specs.List.{flat_map}
use Rattle.std.specs.Int.{to_be_bytes, w64}
use Rattle.disk_core.specs.Sides.{chosen, spare}
use Rattle.disk_core.specs.declared.pair.Pair.{Pair}
use Rattle.disk_core.proofs.Seen.{reads_more, at_some}
use Rattle.feature_journal.specs.Side.{side, mark, opened}
use Rattle.feature_journal.specs.Whole.{Marked}
use Rattle.feature_journal.specs.Refused.{Able, Unable}
use Rattle.feature_journal.specs.Refused.{Unable as unable}
use Rattle.feature_journal.specs.Recover.{foreign_at, current_of, generation_of}
use Rattle.feature_journal.proofs.Current.{generation_headed}
use Rattle.feature_journal.proofs.Recovered.{own_short, own_shut, own_marked, side_size}
use Rattle.feature_journal.proofs.Refused.{current_greater, current_tie, current_first, current_second, current_none}
use Rattle.recovery.specs.declared.fault.RecoverFault.{RecoverFault}
use Rattle.recovery.specs.declared.fault.RecoverFault.TheVariants as faults
use Rattle.recovery.specs.declared.look.Ending.{Ending}
use Rattle.recovery.specs.declared.walk.Side.{Side}
use Rattle.recovery.specs.Choice.{IsResting, IsBeside, SideIs, FirstIs, SecondIs, IsForeign}
use Rattle.recovery.specs.declared.choose.Choice.{Choice}
use Rattle.recovery.specs.declared.choose.Choice.TheVariants.{Foreign, Nothing, Current}
use Rattle.recovery.specs.declared.fault.Place.{Place}
use Rattle.recovery.specs.Choice.{IsResting as resting}
use Rattle.recovery.specs.Choice.{IsBeside as beside}
use Rattle.recovery.specs.Outcome.{Judge, Outcome, outcome_of, of_side, of_current, unless_foreign}
use Rattle.recovery.specs.Outcome.Outcome.{refused, no_side, found}
use Rattle.recovery.specs.Walk.{IsFile, IsSide, Refuses, left}
use Rattle.recovery.specs.Looked.{EndsAt, RefusesOr, SideRead}

marked_own : (own : ℕ) (c : List ℕ) → Marked own c → foreign_at c ≡ None
marked_own own c m = ap foreign_at m.is.is ∙ own_marked m.gate _

pub able_own : (own : ℕ) (c : List ℕ) → Able own c → foreign_at c ≡ None
able_own own c a = ap foreign_at a.is.is ∙ own_marked 1 _

pub resting_own : (is_stale : Bool) (c : List ℕ) → IsResting is_stale c → foreign_at c ≡ None
resting_own is_stale c (resting.stale own is st) = marked_own own c st.marked
resting_own is_stale c (resting.short is less) = own_short c less
resting_own is_stale c (resting.shut is b) = own_shut c b

resting_unable : (is_stale : Bool) (c : List ℕ) → IsResting is_stale c → Unable c
resting_unable is_stale c (resting.stale own is st) = unable.not_open st.marked.gate st.not_open (record { rest = mark ++ to_be_bytes w64 own ++ st.marked.first ∷ [] ++ st.marked.is.rest; is = st.marked.is.is })
resting_unable is_stale c (resting.short is less) = unable.too_few less
resting_unable is_stale c (resting.shut is b) = unable.not_open 0 (λ e. omega (arith, e)) b

pub beside_own : (is_stale is_b : Bool) (generation : ℕ) (c : List ℕ) → IsBeside is_stale is_b generation c → foreign_at c ≡ None
beside_own is_stale is_b generation c (beside.rests r) = resting_own is_stale c r
beside_own is_stale is_b generation c (beside.older own is less able) = able_own own c able
beside_own is_stale is_b generation c (beside.tied is second able) = able_own generation c able

pub current_by : (second is_stale : Bool) (generation : ℕ) (a b : List ℕ) → SideIs (not second) is_stale false generation a → SideIs second is_stale true generation b → current_of a b ≡ Some second
current_by true is_stale generation a b (beside.rests r) able = current_second a b generation (resting_unable is_stale a r) able
current_by true is_stale generation a b (beside.older own is less older) able = current_greater a b own generation older able less
current_by true is_stale generation a b (beside.tied is second tied) able = absurd (cc second)
current_by false is_stale generation a b able (beside.rests r) = current_first a b generation able (resting_unable is_stale b r)
current_by false is_stale generation a b able (beside.older own is less older) = current_tie a b generation own able older (omega (arith, less))
current_by false is_stale generation a b able (beside.tied is second tied) = current_tie a b generation generation able tied (omega arith)

pub own_by : (second is_stale : Bool) (generation : ℕ) (a b : List ℕ) → SideIs (not second) is_stale false generation a → SideIs second is_stale true generation b → (foreign_at a ≡ None) × (foreign_at b ≡ None)
own_by true is_stale generation a b other able = (beside_own is_stale false generation a other, able_own generation b able)
own_by false is_stale generation a b able other = (able_own generation a able, beside_own is_stale true generation b other)

module _ (judge : Judge) (limit : ℕ) (a b : List ℕ) where
  pub outcome_foreign : (o : Outcome) → ((other : Outcome) → unless_foreign (foreign_at a) (foreign_at b) other ≡ o) → outcome_of judge limit a b ≡ o
  unfolding outcome_of
  outcome_foreign o all = all _

  pub outcome_nothing : (s t : Bool) → IsResting s a → IsResting t b → outcome_of judge limit a b ≡ no_side
  unfolding outcome_of
  outcome_nothing s t at_a at_b =
      λ i. unless_foreign (resting_own s a at_a i) (resting_own t b at_b i) (of_current judge limit a b (current_none a b (resting_unable s a at_a) (resting_unable t b at_b) i))

  pub outcome_current : (second is_stale : Bool) (generation : ℕ) → SideIs (not second) is_stale false generation a → SideIs second is_stale true generation b → outcome_of judge limit a b ≡ of_side judge limit second (cond second b a)
  unfolding outcome_of
  outcome_current second is_stale generation at_a at_b =
      let own = own_by second is_stale generation a b at_a at_b in
      λ i. unless_foreign (own.0 i) (own.1 i) (of_current judge limit a b (current_by second is_stale generation a b at_a at_b i))

pub side_left : (judge : Judge) (limit : ℕ) (second : Bool) (c : List ℕ) → 17 ≤ limit → of_side judge limit second c ≡ left judge limit second (generation_of c) c 16 []
side_left judge limit second c le = let test : nat_lt limit 17 ≡ false = grind (arith, nat_tests) in rw test refl

pub side_full : (judge : Judge) (limit : ℕ) (second : Bool) (c : List ℕ) → limit < 17 → of_side judge limit second c ≡ refused (faults.Full 17) []
side_full judge limit second c less = let test : nat_lt limit 17 ≡ true = grind (arith, nat_tests) in rw test refl

pub refuses_or : (fault : RecoverFault) (outcome : Outcome) (taken : List (List ℕ)) → Refuses fault outcome taken → RefusesOr fault outcome taken
refuses_or faults.DiskFault outcome taken r = tt
refuses_or (faults.NotAJournal place) outcome taken r = r
refuses_or (faults.NotOfSchema number) outcome taken r = r
refuses_or (faults.Full sum) outcome taken r = r
refuses_or faults.OutOfMemory outcome taken r = tt

-- what is known of the file that was read
pub ok_files : (r : Result Ending RecoverFault) (o : Option (List ℕ)) (P : List ℕ → Type 0) (Q : Ending → List ℕ → Type 0) → IfSome o P → IfOk r (λ e. (c : List ℕ) → P c → Q e c) → IfOk r (λ e. IfSome o (Q e))
ok_files (Ok e) o P Q file all = reads_more o P (Q e) all file
ok_files (Err fault) o P Q file all = tt

-- the bytes up to the ending gate are those of a side that says these bodies
module _ (s : Side) (gate : ℕ) (taken : List (List ℕ)) (held : IsSide s) (within : gate + 1 ≤ s.limit) (inside : gate < s.len) (some : 16 ≤ gate) (spelled : take gate s.bytes.items ≡ take 16 s.bytes.items ++ flat_map opened taken) where
  abbrev bytes : List ℕ
  bytes = s.bytes.items

  pub size_of_side : (generation : ℕ) → length (side generation taken) ≡ gate
  size_of_side generation =
      omega (arith, side_size generation taken, ap length spelled, length-append (take 16 bytes) (flat_map opened taken), length-take-le gate bytes (omega (arith, held.held, within, inside)), length-take-le 16 bytes (omega (arith, held.held, within, inside, some)))

  headed : (generation : ℕ) (c : List ℕ) → Able generation c → take 16 c ++ flat_map opened taken ≡ side generation taken
  unfolding side
  headed generation c able = ap (λ (l : List ℕ). take 16 l ++ flat_map opened taken) able.is.is

  front_is : (generation : ℕ) (c : List ℕ) → IsFile s c → Able generation c → take gate c ≡ side generation taken
  front_is generation c f able =
      let cut : (k : ℕ) → k ≤ s.limit + 4 → take k bytes ≡ take k c = λ k le. ap (take k) f.bytes ∙ take-take k (s.limit + 4) c le in
      sym (cut gate (omega (arith, within))) ∙ spelled ∙ ap (λ (l : List ℕ). l ++ flat_map opened taken) (cut 16 (omega (arith, within, some))) ∙ headed generation c able

  whole_is : (generation : ℕ) (c : List ℕ) → IsFile s c → Able generation c → c ≡ (side generation taken ++ get_or bytes gate 0 ∷ []) ++ drop (gate + 1) c
  whole_is generation c f able =
      let same : get_or bytes gate 0 ≡ get_or c gate 0 = ap (λ (l : List ℕ). get_or l gate 0) f.bytes ∙ get_or-take (s.limit + 4) c gate 0 (omega (arith, within)) in
      let there : drop gate c ≡ get_or bytes gate 0 ∷ drop (gate + 1) c = drop_more c gate 0 (omega (arith, f.len, inside)) ∙ ap (λ (n : ℕ). n ∷ drop (gate + 1) c) (sym same) in
      sym (take-append-drop gate c) ∙ (λ i. front_is generation c f able i ++ there i) ∙ sym (append_assoc (side generation taken) (get_or bytes gate 0 ∷ []) (drop (gate + 1) c))

  pub ends_at : (e : Ending) → e.is_closed ≡ (get_or bytes gate 0 == 0) → (generation : ℕ) (c : List ℕ) → IsFile s c → Able generation c → EndsAt e generation taken c
  ends_at e is generation c f able = record {
    there = record { byte = get_or bytes gate 0; is = record { rest = drop (gate + 1) c; is = whole_is generation c f able } };
    closed = λ yes. let test : (get_or bytes gate 0 == 0) ≡ true = sym is ∙ yes in grind (arith, nat_tests);
    not_closed = λ none zero_byte. let test : (get_or bytes gate 0 == 0) ≡ false = sym is ∙ none in grind (arith, nat_tests);
  }

pub shown_chosen : {D : Type 0} (shown : D → Option (List ℕ)) (second : Bool) (disks : Pair D) (a b : List ℕ) → shown disks.a ≡ Some a → shown disks.b ≡ Some b → shown (chosen second disks) ≡ Some (cond second b a)
shown_chosen shown true disks a b at_a at_b = at_b
shown_chosen shown false disks a b at_a at_b = at_a

pub shown_spare : {D : Type 0} (shown : D → Option (List ℕ)) (second : Bool) (disks : Pair D) (a b : List ℕ) → shown disks.a ≡ Some a → shown disks.b ≡ Some b → shown (spare second disks) ≡ Some (cond second a b)
shown_spare shown true disks a b at_a at_b = at_a
shown_spare shown false disks a b at_a at_b = at_b

current_able : (second is_stale : Bool) (generation : ℕ) (a b : List ℕ) → SideIs (not second) is_stale false generation a → SideIs second is_stale true generation b → Able generation (cond second b a)
current_able true is_stale generation a b at_a at_b = at_b
current_able false is_stale generation a b at_a at_b = at_a

able_generation : (generation : ℕ) (c : List ℕ) → Able generation c → generation_of c ≡ generation
able_generation generation c able = ap generation_of able.is.is ∙ generation_headed 1 generation (able.first ∷ able.is.rest) able.fits

-- what is answered from what was chosen
module _ (judge : Judge) (limit : ℕ) (h : Choice) (a b : List ℕ) (x y : Option (List ℕ)) (is_a : x ≡ Some a) (is_b : y ≡ Some b) where
  pub look_foreign : (place : Place) (taken : List (List ℕ)) → h ≡ Foreign place → IfSome x (λ c. IfSome y (IsForeign h c)) → taken ≡ [] → outcome_of judge limit a b ≡ refused (faults.NotAJournal place) taken
  look_foreign place taken is all none =
      let at = at_some y (IsForeign h a) b is_b (at_some x (λ c. IfSome y (IsForeign h c)) a is_a all) in
      outcome_foreign judge limit a b (refused (faults.NotAJournal place) []) (subst (λ z. IsForeign z a b) is at) ∙ ap (refused (faults.NotAJournal place)) (sym none)

  pub look_nothing : (s t : Bool) → h ≡ Nothing s t → IfSome x (FirstIs h) → IfSome y (SecondIs h) → outcome_of judge limit a b ≡ no_side
  look_nothing s t is first second =
      outcome_nothing judge limit a b s t (subst (λ z. FirstIs z a) is (at_some x (FirstIs h) a is_a first)) (subst (λ z. SecondIs z b) is (at_some y (SecondIs h) b is_b second))

  pub look_current : {D : Type 0} (shown : D → Option (List ℕ)) (before : Judge) (r : Result Ending RecoverFault) (second is_stale : Bool) (generation : ℕ) (disks : Pair D) (taken : List (List ℕ)) → h ≡ Current second generation is_stale → IfSome x (FirstIs h) → IfSome y (SecondIs h)
      → shown disks.a ≡ x → shown disks.b ≡ y → before ≡ judge → IfSome (shown (chosen second disks)) (λ c. 17 ≤ length c → SideRead r (of_side before limit second c) second c taken) → SideRead r (outcome_of judge limit a b) second (cond second b a) taken
  look_current shown before r second is_stale generation disks taken is first other same_a same_b same read =
      let at_a = subst (λ z. FirstIs z a) is (at_some x (FirstIs h) a is_a first) in
      let at_b = subst (λ z. SecondIs z b) is (at_some y (SecondIs h) b is_b other) in
      let able = current_able second is_stale generation a b at_a at_b in
      let there = shown_chosen shown second disks a b (same_a ∙ is_a) (same_b ∙ is_b) in
      let side = at_some (shown (chosen second disks)) (λ c. 17 ≤ length c → SideRead r (of_side before limit second c) second c taken) (cond second b a) there read (omega (arith, ap length able.is.is)) in
      subst (λ o. SideRead r o second (cond second b a) taken) (ap (λ (j : Judge). of_side j limit second (cond second b a)) same ∙ sym (outcome_current judge limit a b second is_stale generation at_a at_b)) side

  pub look_found : (second is_stale : Bool) (generation gate : ℕ) (taken : List (List ℕ)) → h ≡ Current second generation is_stale → IfSome x (FirstIs h) → IfSome y (SecondIs h)
      → outcome_of judge limit a b ≡ found second (generation_of (cond second b a)) gate taken → outcome_of judge limit a b ≡ found second generation gate taken
  look_found second is_stale generation gate taken is first other read =
      let at_a = subst (λ z. FirstIs z a) is (at_some x (FirstIs h) a is_a first) in
      let at_b = subst (λ z. SecondIs z b) is (at_some y (SecondIs h) b is_b other) in
      read ∙ ap (λ (n : ℕ). found second n gate taken) (able_generation generation (cond second b a) (current_able second is_stale generation a b at_a at_b))
