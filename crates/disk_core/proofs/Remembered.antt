-- What a call of a disk in memory does, from the one equation that tells what it leaves.
use Rattle.std.proofs.Common.{◌≡◌, inl, inr, ℕ, ◌≤◌, List, [], ◌∷◌, ◌++◌, length, refl, sym, ap, subst, arith, Some, Result, Ok, Err, OnOk, OnErr}
use Rattle.disk_core.specs.Disk.{written, cut_to, Torn, Cut, Same, Comes, Leads}
use Rattle.disk_core.specs.Story.{Step, Left, Image, ImageSince}
use Rattle.disk_core.specs.Story.Step.{wrote, shortened, synced}
use Rattle.disk_core.specs.StoryLaws.{image_reads, torn_none, since_only}
use Rattle.disk_core.proofs.Pushes.{leads_push, now_push}
use Rattle.disk_core.specs.Memory.{Memory, reads_as, image_of, image_since, steps_done, passed, refused, noted, noted_write}
use Rattle.disk_core.proofs.Notes.{read_sync, shown_cut, shown_write, torn_write, read_cut}

module _ (by : List ℕ → List ℕ → Type 0) (old new : Memory) where
  leads_noted : (step : Step) → new.base ≡ old.base → new.steps ≡ old.steps ++ step ∷ []
      → ((c : List ℕ) → Left (image_of old) (reads_as old) step c → Comes by (image_of old) c) → Leads steps_done image_since image_of by old new
  leads_noted step base steps comes = leads_push (λ (m : Memory). m.base) (λ (m : Memory). m.steps) old new step base steps by comes

  -- nothing was done to the file
  leads_still : new.base ≡ old.base → new.steps ≡ old.steps → ((d : List ℕ) → by d d) → Leads steps_done image_since image_of by old new
  leads_still base steps stays = record {
    grows = record {
      later = omega (arith, ap length steps);
      split = λ t c le had. inl (was t c had);
      before = λ t c le had. is t c had;
      after = λ t c le had. is t c (later t c le (was (length old.steps) c had));
    };
    now = λ c here. (c, image c here, stays c);
    meanwhile = λ c had. inl (only c (was (length old.steps) c had));
  }
    where
      was : (t : ℕ) (c : List ℕ) → image_since new t c → image_since old t c
      was t c had = subst (λ (l : List Step). ImageSince old.base l t c) steps (subst (λ (b : List ℕ). ImageSince b new.steps t c) base had)

      is : (t : ℕ) (c : List ℕ) → image_since old t c → image_since new t c
      is t c had = subst (λ (l : List Step). ImageSince new.base l t c) (sym steps) (subst (λ (b : List ℕ). ImageSince b old.steps t c) (sym base) had)

      later : (t : ℕ) (c : List ℕ) → t ≤ length old.steps → image_since old (length old.steps) c → image_since old t c
      later t c le had = (had.0, omega (arith, le, had.1), had.2, had.3)

      image : (c : List ℕ) → image_of new c → image_of old c
      image c here = subst (λ (l : List Step). Image old.base l c) steps (subst (λ (b : List ℕ). Image b new.steps c) base here)

      only : (c : List ℕ) → image_since old (length old.steps) c → image_of old c
      only c had = since_only old.base old.steps c had

module _ {T E : Type 0} (old new : Memory) where
  -- a call that does nothing to the file
  pub same_reads : (r : Result T E) → OnErr r (new ≡ refused old) → OnOk r (new ≡ passed old) → reads_as new ≡ reads_as old
  same_reads (Ok x) err ok = ap (λ (m : Memory). reads_as m) ok
  same_reads (Err e) err ok = ap (λ (m : Memory). reads_as m) err

  pub same_leads : (r : Result T E) → OnErr r (new ≡ refused old) → OnOk r (new ≡ passed old) → Leads steps_done image_since image_of Same old new
  same_leads (Ok x) err ok = leads_still Same old new (ap (λ (m : Memory). m.base) ok) (ap (λ (m : Memory). m.steps) ok) (λ d. refl)
  same_leads (Err e) err ok = leads_still Same old new (ap (λ (m : Memory). m.base) err) (ap (λ (m : Memory). m.steps) err) (λ d. refl)

  -- a write
  pub write_done : (at : ℕ) (bytes : List ℕ) (r : Result T E) → at ≤ length (reads_as old) → OnOk r (new ≡ noted_write at bytes old) → OnOk r (Some (reads_as new) ≡ written at bytes (Some (reads_as old)))
  write_done at bytes (Ok x) le ok = shown_write old.base new.base old.steps new.steps (ap (λ (m : Memory). m.base) ok) at bytes le (ap (λ (m : Memory). m.steps) ok)
  write_done at bytes (Err e) le ok = tt

  pub write_torn : (at : ℕ) (bytes : List ℕ) (r : Result T E) → at ≤ length (reads_as old) → OnErr r (new ≡ refused old) → OnOk r (new ≡ noted_write at bytes old) → Torn at (length bytes) (reads_as old) (reads_as new)
  write_torn at bytes (Ok x) le err ok = torn_write old.base new.base old.steps new.steps (ap (λ (m : Memory). m.base) ok) at bytes le (ap (λ (m : Memory). m.steps) ok)
  write_torn at bytes (Err e) le err ok = subst (Torn at (length bytes) (reads_as old)) (sym (ap (λ (m : Memory). reads_as m) err)) (torn_none at (length bytes) (reads_as old))

  pub write_leads : (at : ℕ) (bytes : List ℕ) (r : Result T E) → OnErr r (new ≡ refused old) → OnOk r (new ≡ noted_write at bytes old) → Leads steps_done image_since image_of (Torn at (length bytes)) old new
  write_leads at bytes (Ok x) err ok = leads_noted (Torn at (length bytes)) old new (wrote at bytes) (ap (λ (m : Memory). m.base) ok) (ap (λ (m : Memory). m.steps) ok) (λ c here. here)
  write_leads at bytes (Err e) err ok = leads_still (Torn at (length bytes)) old new (ap (λ (m : Memory). m.base) err) (ap (λ (m : Memory). m.steps) err) (λ d. torn_none at (length bytes) d)

  -- a cut
  pub cut_done : (to : ℕ) (r : Result T E) → OnOk r (new ≡ noted (shortened to) old) → OnOk r (Some (reads_as new) ≡ cut_to to (Some (reads_as old)))
  cut_done to (Ok x) ok = shown_cut old.base new.base old.steps new.steps (ap (λ (m : Memory). m.base) ok) to (ap (λ (m : Memory). m.steps) ok)
  cut_done to (Err e) ok = tt

  pub cut_torn : (to : ℕ) (r : Result T E) → OnErr r (new ≡ refused old) → OnOk r (new ≡ noted (shortened to) old) → Cut to (reads_as old) (reads_as new)
  cut_torn to (Ok x) err ok = inr (read_cut old.base new.base old.steps new.steps (ap (λ (m : Memory). m.base) ok) to (ap (λ (m : Memory). m.steps) ok))
  cut_torn to (Err e) err ok = inl (ap (λ (m : Memory). reads_as m) err)

  pub cut_leads : (to : ℕ) (r : Result T E) → OnErr r (new ≡ refused old) → OnOk r (new ≡ noted (shortened to) old) → Leads steps_done image_since image_of (Cut to) old new
  cut_leads to (Ok x) err ok = leads_noted (Cut to) old new (shortened to) (ap (λ (m : Memory). m.base) ok) (ap (λ (m : Memory). m.steps) ok) (λ c here. here)
  cut_leads to (Err e) err ok = leads_still (Cut to) old new (ap (λ (m : Memory). m.base) err) (ap (λ (m : Memory). m.steps) err) (λ d. inl refl)

  -- a sync
  pub sync_same : (r : Result T E) → OnErr r (new ≡ refused old) → OnOk r (new ≡ noted synced old) → reads_as new ≡ reads_as old
  sync_same (Ok x) err ok = read_sync old.base new.base old.steps new.steps (ap (λ (m : Memory). m.base) ok) (ap (λ (m : Memory). m.steps) ok)
  sync_same (Err e) err ok = ap (λ (m : Memory). reads_as m) err

  pub sync_stable : (r : Result T E) → OnOk r (new ≡ noted synced old) → OnOk r ((c : List ℕ) → image_of new c → Some (reads_as old) ≡ Some c)
  sync_stable (Ok x) ok = λ c here. ap Some (sym (now_push (λ (m : Memory). m.base) (λ (m : Memory). m.steps) old new synced (ap (λ (m : Memory). m.base) ok) (ap (λ (m : Memory). m.steps) ok) c here))
  sync_stable (Err e) ok = tt

  pub sync_leads : (r : Result T E) → OnErr r (new ≡ refused old) → OnOk r (new ≡ noted synced old) → Leads steps_done image_since image_of Same old new
  sync_leads (Ok x) err ok = leads_noted Same old new synced (ap (λ (m : Memory). m.base) ok) (ap (λ (m : Memory). m.steps) ok) (λ c here. (reads_as old, image_reads old.base old.steps, here))
  sync_leads (Err e) err ok = leads_still Same old new (ap (λ (m : Memory). m.base) err) (ap (λ (m : Memory). m.steps) err) (λ d. refl)
