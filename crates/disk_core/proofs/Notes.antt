-- A call more in the notes of a disk in memory.
use Rattle.std.proofs.Common.{◌≡◌, ℕ, ◌+◌, ◌≤◌, List, [], ◌∷◌, ◌++◌, length, take, drop, refl, sym, ◌∙◌, ap, subst, arith, length-append, Some, nat_lt, Bool, true, false}
use Rattle.std.proofs.lemmas.Bool.Decides.{nat_tests}
use Rattle.std.proofs.lemmas.List.{take_all, drop-append-le, take-append-le, length-drop, length-take, length-take-le, drop_at}
use Rattle.std.specs.List.{AllByRecursion}
use Rattle.disk_core.specs.Disk.{over, written, cut_to, Torn}
use Rattle.disk_core.specs.Story.{Step, read_after, read_after_all}
use Rattle.disk_core.specs.Story.Step.{wrote, shortened, synced}
use Rattle.disk_core.specs.StoryLaws.{torn_all}
use Rattle.disk_core.proofs.Pushes.{read_push}
use Rattle.disk_core.specs.Memory.{step_of, steps_of, IsWithin, size_of, written_size}
use Rattle.disk_core.specs.declared.call.Call.{Call}
use Rattle.disk_core.specs.declared.call.Call.TheVariants as calls

pub steps_push : (text : List ℕ) (log : List Call) (call : Call) → steps_of text (log ++ call ∷ []) ≡ steps_of text log ++ step_of text call ∷ []
steps_push text [] call = refl
steps_push text (x ∷ log) call = ap (λ (l : List Step). step_of text x ∷ l) (steps_push text log call)

-- what was written before reads as before
same_step : (text more : List ℕ) (call : Call) → IsWithin (length text) call → step_of (text ++ more) call ≡ step_of text call
same_step text more (calls.Write at from size) within =
    ap (wrote at) (ap (take size) (drop-append-le from text more (omega (arith, within))) ∙ take-append-le size (drop from text) more (omega (arith, within, length-drop from text)))
same_step text more (calls.Cut to) within = refl
same_step text more calls.Sync within = refl

same_steps : (text more : List ℕ) (log : List Call) → AllByRecursion (IsWithin (length text)) log → steps_of (text ++ more) log ≡ steps_of text log
same_steps text more [] all = refl
same_steps text more (x ∷ log) all = λ i. same_step text more x all.0 i ∷ same_steps text more log all.1 i

pub steps_write : (text bytes : List ℕ) (log : List Call) (at : ℕ) → AllByRecursion (IsWithin (length text)) log
    → steps_of (text ++ bytes) (log ++ calls.Write at (length text) (length bytes) ∷ []) ≡ steps_of text log ++ wrote at bytes ∷ []
steps_write text bytes log at all =
    let last : take (length bytes) (drop (length text) (text ++ bytes)) ≡ bytes = ap (take (length bytes)) (drop_at text bytes (length text) refl) ∙ take_all (length bytes) bytes (omega arith) in
    steps_push (text ++ bytes) log (calls.Write at (length text) (length bytes))
    ∙ (λ i. same_steps text bytes log all i ++ wrote at (last i) ∷ [])

pub within_more : (n m : ℕ) (log : List Call) → n ≤ m → AllByRecursion (IsWithin n) log → AllByRecursion (IsWithin m) log
within_more n m [] le all = tt
within_more n m (x ∷ log) le all = (one x all.0, within_more n m log le all.1)
  where
    one : (call : Call) → IsWithin n call → IsWithin m call
    one (calls.Write at from size) within = omega (arith, within, le)
    one (calls.Cut to) within = tt
    one calls.Sync within = tt

pub within_push : (n : ℕ) (log : List Call) (call : Call) → AllByRecursion (IsWithin n) log → IsWithin n call → AllByRecursion (IsWithin n) (log ++ call ∷ [])
within_push n [] call all last = (last, tt)
within_push n (x ∷ log) call all last = (all.0, within_push n log call all.1 last)

module _ (base base' : List ℕ) (steps steps' : List Step) (same : base' ≡ base) where
  read_of : (step : Step) → steps' ≡ steps ++ step ∷ [] → read_after_all base' steps' ≡ read_after (read_after_all base steps) step
  read_of step more = ap (λ (l : List Step). read_after_all base' l) more ∙ ap (λ (b : List ℕ). read_after_all b (steps ++ step ∷ [])) same ∙ read_push base steps step

  pub read_cut : (n : ℕ) → steps' ≡ steps ++ shortened n ∷ [] → read_after_all base' steps' ≡ take n (read_after_all base steps)
  unfolding read_after
  read_cut n more = read_of (shortened n) more

  pub read_sync : steps' ≡ steps ++ synced ∷ [] → read_after_all base' steps' ≡ read_after_all base steps
  unfolding read_after
  read_sync more = read_of synced more

  pub read_write : (at : ℕ) (bytes : List ℕ) → at ≤ length (read_after_all base steps) → steps' ≡ steps ++ wrote at bytes ∷ [] → read_after_all base' steps' ≡ over at bytes (read_after_all base steps)
  unfolding read_after
  read_write at bytes le more =
      let test : nat_lt (length (read_after_all base steps)) at ≡ false = grind (arith, nat_tests) in
      read_of (wrote at bytes) more ∙ rw test refl

  pub shown_cut : (n : ℕ) → steps' ≡ steps ++ shortened n ∷ [] → Some (read_after_all base' steps') ≡ cut_to n (Some (read_after_all base steps))
  unfolding cut_to
  shown_cut n more = ap Some (read_cut n more)

  pub shown_write : (at : ℕ) (bytes : List ℕ) → at ≤ length (read_after_all base steps) → steps' ≡ steps ++ wrote at bytes ∷ [] → Some (read_after_all base' steps') ≡ written at bytes (Some (read_after_all base steps))
  unfolding written
  shown_write at bytes le more = ap Some (read_write at bytes le more)

  pub torn_write : (at : ℕ) (bytes : List ℕ) → at ≤ length (read_after_all base steps) → steps' ≡ steps ++ wrote at bytes ∷ [] → Torn at (length bytes) (read_after_all base steps) (read_after_all base' steps')
  torn_write at bytes le more = subst (Torn at (length bytes) (read_after_all base steps)) (sym (read_write at bytes le more)) (torn_all at bytes (read_after_all base steps) le)

pub length_over : (at : ℕ) (bytes s : List ℕ) → at ≤ length s → length (over at bytes s) ≤ length s + length bytes
unfolding over
length_over at bytes s le =
    omega (arith, length-append (take at s ++ bytes) (drop (at + length bytes) s), length-append (take at s) bytes, length-take at s, length-drop (at + length bytes) s)

-- it reaches behind what was written
pub length_over_more : (at : ℕ) (bytes s : List ℕ) → at ≤ length s → at + length bytes ≤ length (over at bytes s)
unfolding over
length_over_more at bytes s le = omega (arith, length-append (take at s ++ bytes) (drop (at + length bytes) s), length-append (take at s) bytes, length-take-le at s le)

-- a step of a call, or more steps, makes the file longer by no more than was written
length_wrote : (at : ℕ) (part s : List ℕ) (b : Bool) → nat_lt (length s) at ≡ b → length (read_after s (wrote at part)) ≤ length s + length part
unfolding read_after
length_wrote at part s true e = rw e (omega arith)
length_wrote at part s false e = rw e (length_over at part s (grind (arith, nat_tests)))

length_cut : (s : List ℕ) (to : ℕ) → length (read_after s (shortened to)) ≤ length s + 0
unfolding read_after
length_cut s to = omega (arith, length-take to s)

length_sync : (s : List ℕ) → length (read_after s synced) ≤ length s + 0
unfolding read_after
length_sync s = omega arith

pub length_step : (s text : List ℕ) (call : Call) → length (read_after s (step_of text call)) ≤ length s + size_of call
length_step s text (calls.Write at from size) = omega (arith, length_wrote at (take size (drop from text)) s (nat_lt (length s) at) refl, length-take size (drop from text))
length_step s text (calls.Cut to) = length_cut s to
length_step s text calls.Sync = length_sync s

pub length_steps : (s text : List ℕ) (log : List Call) → length (read_after_all s (steps_of text log)) ≤ length s + written_size log
unfolding read_after_all written_size
length_steps s text [] = omega arith
length_steps s text (x ∷ log) = omega (arith, length_step s text x, length_steps (read_after s (step_of text x)) text log)

pub written_push : (log : List Call) (call : Call) → written_size (log ++ call ∷ []) ≡ written_size log + size_of call
unfolding written_size
written_push [] call = omega arith
written_push (x ∷ log) call = omega (arith, written_push log call)
