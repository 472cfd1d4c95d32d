-- What doors give at Ok.
use Rattle.std.proofs.Common.{◌≡◌, ℕ, List, [], ◌∷◌, ◌++◌, length, drop, map, Option, Some, None, refl, sym, ap, subst, ◌∙◌}
use Rattle.std.specs.List.{All}
use Rattle.std.proofs.lemmas.List.{length-map, drop-map}
use Rattle.std.proofs.lemmas.List.Elements.{All-map, All-weaker}
use Rattle.wfs_ends.specs.Ends.{Shown}
use Rattle.service_doors.specs.declared.doors.Asked.{Asked}
use Rattle.service_doors.specs.Accepting.{Accepting, IsNew}
use Rattle.service_doors.specs.Listening.{Listening, Opens, first_of}
use Rattle.service_doors.specs.Memory.{Turns, Row, no_links, IsNewRow, shown_links, accepting_of, passed, refused, listening_of, after_failed_listen}
use Rattle.service_doors.proofs.Firsts.{length_first, map_first, all_first}

-- doors that do not tell
abbrev pub untelling : ℕ → Listening
untelling faults = record { asked = None; ready = None; faults = faults }

pub opened_untold : {A : Type 0} (acceptors : List A) (f : A → Accepting) (ask : Asked) (faults : ℕ) → length acceptors ≡ ask.workers → All (λ a. IsNew (f a)) acceptors
    → Opens (untelling faults) ask (map f acceptors) (untelling faults)
opened_untold acceptors f ask faults number fresh = record {
  number = length-map acceptors f ∙ number;
  fresh = All-map IsNew f acceptors fresh;
  left = tt;
  ready = refl;
  asked = refl;
  faults = refl;
}

-- an acceptor in memory of which no call was made shows that
is_new : (r : Row) → IsNewRow r → IsNew (accepting_of r)
is_new r e = rw e.is (record { done = refl; out = refl; finished = refl; faults = refl })

-- what the acceptors of doors in memory have left
lefts : (rows : List Row) → map (λ (a : Accepting). a.left) (map accepting_of rows) ≡ map Some (map (λ (r : Row). shown_links r.left) rows)
lefts [] = refl
lefts (r ∷ rows) = ap (λ (t : List (Option (List Shown))). Some (shown_links r.left) ∷ t) (lefts rows)

-- doors in memory
pub opened : (waiting given rest : List Row) (asked asked' : List Asked) (calls calls' : Turns) (ask : Asked)
    → All IsNewRow waiting → given ≡ first_of no_links ask.workers waiting → rest ≡ drop ask.workers waiting → asked' ≡ asked ++ ask ∷ [] → calls' ≡ passed calls
    → Opens (listening_of (record { waiting = waiting; asked = asked; calls = calls })) ask (map accepting_of given)
    (listening_of (record { waiting = rest; asked = asked'; calls = calls' }))
opened waiting given rest asked asked' calls calls' ask new e r a k = record {
  number = length-map given accepting_of ∙ ap length e ∙ length_first no_links ask.workers waiting;
  fresh = All-map IsNew accepting_of given (All-weaker IsNewRow (λ r. IsNew (accepting_of r)) is_new given (subst (All IsNewRow) (sym e) (all_first IsNewRow no_links ask.workers waiting (record { is = refl }) new)));
  left = lefts given ∙ ap (λ (rows : List Row). map Some (map (λ (r : Row). shown_links r.left) rows)) e
      ∙ ap (map Some) (map_first (λ (r : Row). shown_links r.left) no_links ask.workers waiting);
  ready = ap (λ (rows : List Row). Some (map (λ (r : Row). shown_links r.left) rows)) r ∙ ap Some (sym (drop-map (λ (r : Row). shown_links r.left) ask.workers waiting));
  asked = ap Some a;
  faults = ap (λ (c : Turns). c.faults) k;
}

pub refused_entry : (waiting : List Row) (asked asked' : List Asked) (calls calls' : Turns) → asked' ≡ asked → calls' ≡ refused calls
    → record { waiting = waiting; asked = asked'; calls = calls' } ≡ after_failed_listen (record { waiting = waiting; asked = asked; calls = calls })
refused_entry waiting asked asked' calls calls' a k = rw (a, k)
