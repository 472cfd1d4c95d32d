use Rattle.std.proofs.Common.{inr, List, ℕ, Some, Ok, sym, subst, ◌∙◌, ◌≡◌}
use Rattle.feature_journal.specs.Kept.{Rests, seen, disks_of}
use Rattle.recovery.specs.Outcome.{outcome_of}
use Rattle.recovery.specs.Looked.{LookedIs, LookedAt}
use Rattle.recovery.proofs.Agrees.{says_side, unmade_side}
use Rattle.recovery.proofs.Phases.{read_of, nothing_goes, tail_goes, gates_goes, ok_map, err_map, every_ok, every_err}
use Rattle.recovery.proofs.recovering.recover.Goals as goal

pub returns-in-Ok-Nothing-clause-rests : goal.returns-in-Ok-Nothing-clause-rests
returns-in-Ok-Nothing-clause-rests g c =
    let h = c.in-Ok-Nothing in
    let judge = g.R.Replay.verdict c.args.replay.now in
    let taken = g.R.Replay.taken c.look.new.replay in
    let s = c.in-Ok.ensures.same in
    let at = subst (λ l. LookedAt g.D.Disk.shown l c.args.side taken c.sync.new.self) h.field-0-is h.ensures.known in
    ok_map c.start.result _ _ (λ j rests. subst (λ t. Rests g.D.Disk.images t (seen j)) (sym at.1) rests) c.start.ensures.rests

pub returns-in-Ok-Nothing-clause-crash : goal.returns-in-Ok-Nothing-clause-crash
returns-in-Ok-Nothing-clause-crash g c =
    let h = c.in-Ok-Nothing in
    let judge = g.R.Replay.verdict c.args.replay.now in
    let taken = g.R.Replay.taken c.look.new.replay in
    let s = c.in-Ok.ensures.same in
    let outcome = λ (a b : List ℕ) (is_a : g.D.Disk.shown c.args.disks.a ≡ Some a) (is_b : g.D.Disk.shown c.args.disks.b ≡ Some b). subst (λ l. LookedIs (Ok l) (outcome_of judge c.args.side a b) taken) h.field-0-is (h.ensures.answer a b (s.0 ∙ is_a) (s.1 ∙ is_b)) in
    every_ok c.start.result _ (λ x a b lists is_a is_b says. absurd (says_side judge c.args.side lists a b says (outcome a b is_a is_b).0))

pub returns-in-Ok-Nothing-clause-crash_err : goal.returns-in-Ok-Nothing-clause-crash_err
returns-in-Ok-Nothing-clause-crash_err g c =
    let h = c.in-Ok-Nothing in
    let judge = g.R.Replay.verdict c.args.replay.now in
    let taken = g.R.Replay.taken c.look.new.replay in
    let s = c.in-Ok.ensures.same in
    let outcome = λ (a b : List ℕ) (is_a : g.D.Disk.shown c.args.disks.a ≡ Some a) (is_b : g.D.Disk.shown c.args.disks.b ≡ Some b). subst (λ l. LookedIs (Ok l) (outcome_of judge c.args.side a b) taken) h.field-0-is (h.ensures.answer a b (s.0 ∙ is_a) (s.1 ∙ is_b)) in
    every_err c.start.result _ (λ x a b lists is_a is_b says. absurd (says_side judge c.args.side lists a b says (outcome a b is_a is_b).0))

pub returns-in-Ok-Nothing-clause-nothing : goal.returns-in-Ok-Nothing-clause-nothing
returns-in-Ok-Nothing-clause-nothing g c =
    let h = c.in-Ok-Nothing in
    let judge = g.R.Replay.verdict c.args.replay.now in
    let taken = g.R.Replay.taken c.look.new.replay in
    let s = c.in-Ok.ensures.same in
    let p = read_of g.D.Disk.shown g.D.Disk.moment g.D.Disk.since g.D.Disk.images c.args.disks c.sync.new.self c.look.new.disks c.in-Ok.ensures.within c.in-Ok.ensures.stable c.in-Ok.ensures.crash s h.ensures.untouched in
    let at = subst (λ l. LookedAt g.D.Disk.shown l c.args.side taken c.sync.new.self) h.field-0-is h.ensures.known in
    ok_map c.start.result _ _ (λ x goes a b is_a is_b un_a un_b. nothing_goes g.D.Disk.shown g.D.Disk.moment g.D.Disk.since g.D.Disk.images g.met.D.Disk.tells c.args.disks c.sync.new.self c.look.new.disks (disks_of x) p a b is_a is_b h.a h.b at.0 un_a un_b goes) c.start.ensures.goes

pub returns-in-Ok-Nothing-clause-nothing_err : goal.returns-in-Ok-Nothing-clause-nothing_err
returns-in-Ok-Nothing-clause-nothing_err g c =
    let h = c.in-Ok-Nothing in
    let judge = g.R.Replay.verdict c.args.replay.now in
    let taken = g.R.Replay.taken c.look.new.replay in
    let s = c.in-Ok.ensures.same in
    let p = read_of g.D.Disk.shown g.D.Disk.moment g.D.Disk.since g.D.Disk.images c.args.disks c.sync.new.self c.look.new.disks c.in-Ok.ensures.within c.in-Ok.ensures.stable c.in-Ok.ensures.crash s h.ensures.untouched in
    let at = subst (λ l. LookedAt g.D.Disk.shown l c.args.side taken c.sync.new.self) h.field-0-is h.ensures.known in
    err_map c.start.result _ _ (λ x goes a b is_a is_b un_a un_b. inr (nothing_goes g.D.Disk.shown g.D.Disk.moment g.D.Disk.since g.D.Disk.images g.met.D.Disk.tells c.args.disks c.sync.new.self c.look.new.disks x.0 p a b is_a is_b h.a h.b at.0 un_a un_b goes)) c.start.ensures.goes_err

pub returns-in-Ok-Found-clause-gates : goal.returns-in-Ok-Found-clause-gates
returns-in-Ok-Found-clause-gates g c =
    let h = c.in-Ok-Found in
    let judge = g.R.Replay.verdict c.args.replay.now in
    let taken = g.R.Replay.taken c.look.new.replay in
    let s = c.in-Ok.ensures.same in
    let outcome = λ (a b : List ℕ) (is_a : g.D.Disk.shown c.args.disks.a ≡ Some a) (is_b : g.D.Disk.shown c.args.disks.b ≡ Some b). subst (λ l. LookedIs (Ok l) (outcome_of judge c.args.side a b) taken) h.field-0-is (h.ensures.answer a b (s.0 ∙ is_a) (s.1 ∙ is_b)) in
    let p = read_of g.D.Disk.shown g.D.Disk.moment g.D.Disk.since g.D.Disk.images c.args.disks c.sync.new.self c.look.new.disks c.in-Ok.ensures.within c.in-Ok.ensures.stable c.in-Ok.ensures.crash s h.ensures.untouched in
    let at = subst (λ l. LookedAt g.D.Disk.shown l c.args.side taken c.sync.new.self) h.field-0-is h.ensures.known in
    ok_map c.take_over.result _ _ (λ x settles a b is_a is_b. gates_goes g.D.Disk.shown g.D.Disk.moment g.D.Disk.since g.D.Disk.images g.met.D.Disk.tells c.args.disks c.sync.new.self c.look.new.disks (disks_of x) p a b is_a is_b g.met.D.Disk.counts g.met.D.Disk.only judge c.args.side h.found taken at (outcome a b is_a is_b) settles) c.take_over.ensures.gates

pub returns-in-Ok-Found-clause-gates_err : goal.returns-in-Ok-Found-clause-gates_err
returns-in-Ok-Found-clause-gates_err g c =
    let h = c.in-Ok-Found in
    let judge = g.R.Replay.verdict c.args.replay.now in
    let taken = g.R.Replay.taken c.look.new.replay in
    let s = c.in-Ok.ensures.same in
    let outcome = λ (a b : List ℕ) (is_a : g.D.Disk.shown c.args.disks.a ≡ Some a) (is_b : g.D.Disk.shown c.args.disks.b ≡ Some b). subst (λ l. LookedIs (Ok l) (outcome_of judge c.args.side a b) taken) h.field-0-is (h.ensures.answer a b (s.0 ∙ is_a) (s.1 ∙ is_b)) in
    let p = read_of g.D.Disk.shown g.D.Disk.moment g.D.Disk.since g.D.Disk.images c.args.disks c.sync.new.self c.look.new.disks c.in-Ok.ensures.within c.in-Ok.ensures.stable c.in-Ok.ensures.crash s h.ensures.untouched in
    let at = subst (λ l. LookedAt g.D.Disk.shown l c.args.side taken c.sync.new.self) h.field-0-is h.ensures.known in
    err_map c.take_over.result _ _ (λ x settles a b is_a is_b. gates_goes g.D.Disk.shown g.D.Disk.moment g.D.Disk.since g.D.Disk.images g.met.D.Disk.tells c.args.disks c.sync.new.self c.look.new.disks x.0 p a b is_a is_b g.met.D.Disk.counts g.met.D.Disk.only judge c.args.side h.found taken at (outcome a b is_a is_b) settles) c.take_over.ensures.gates_err

pub returns-in-Ok-Found-clause-crash : goal.returns-in-Ok-Found-clause-crash
returns-in-Ok-Found-clause-crash g c =
    let h = c.in-Ok-Found in
    let judge = g.R.Replay.verdict c.args.replay.now in
    let taken = g.R.Replay.taken c.look.new.replay in
    let s = c.in-Ok.ensures.same in
    let outcome = λ (a b : List ℕ) (is_a : g.D.Disk.shown c.args.disks.a ≡ Some a) (is_b : g.D.Disk.shown c.args.disks.b ≡ Some b). subst (λ l. LookedIs (Ok l) (outcome_of judge c.args.side a b) taken) h.field-0-is (h.ensures.answer a b (s.0 ∙ is_a) (s.1 ∙ is_b)) in
    let p = read_of g.D.Disk.shown g.D.Disk.moment g.D.Disk.since g.D.Disk.images c.args.disks c.sync.new.self c.look.new.disks c.in-Ok.ensures.within c.in-Ok.ensures.stable c.in-Ok.ensures.crash s h.ensures.untouched in
    let at = subst (λ l. LookedAt g.D.Disk.shown l c.args.side taken c.sync.new.self) h.field-0-is h.ensures.known in
    ok_map c.take_over.result _ _ (λ x goes a b lists is_a is_b says. tail_goes g.D.Disk.shown g.D.Disk.moment g.D.Disk.since g.D.Disk.images g.met.D.Disk.tells c.args.disks c.sync.new.self c.look.new.disks (disks_of x) p a b is_a is_b judge c.args.side h.found taken lists says at (outcome a b is_a is_b) goes) c.take_over.ensures.goes

pub returns-in-Ok-Found-clause-crash_err : goal.returns-in-Ok-Found-clause-crash_err
returns-in-Ok-Found-clause-crash_err g c =
    let h = c.in-Ok-Found in
    let judge = g.R.Replay.verdict c.args.replay.now in
    let taken = g.R.Replay.taken c.look.new.replay in
    let s = c.in-Ok.ensures.same in
    let outcome = λ (a b : List ℕ) (is_a : g.D.Disk.shown c.args.disks.a ≡ Some a) (is_b : g.D.Disk.shown c.args.disks.b ≡ Some b). subst (λ l. LookedIs (Ok l) (outcome_of judge c.args.side a b) taken) h.field-0-is (h.ensures.answer a b (s.0 ∙ is_a) (s.1 ∙ is_b)) in
    let p = read_of g.D.Disk.shown g.D.Disk.moment g.D.Disk.since g.D.Disk.images c.args.disks c.sync.new.self c.look.new.disks c.in-Ok.ensures.within c.in-Ok.ensures.stable c.in-Ok.ensures.crash s h.ensures.untouched in
    let at = subst (λ l. LookedAt g.D.Disk.shown l c.args.side taken c.sync.new.self) h.field-0-is h.ensures.known in
    err_map c.take_over.result _ _ (λ x goes a b lists is_a is_b says. inr (tail_goes g.D.Disk.shown g.D.Disk.moment g.D.Disk.since g.D.Disk.images g.met.D.Disk.tells c.args.disks c.sync.new.self c.look.new.disks x.0 p a b is_a is_b judge c.args.side h.found taken lists says at (outcome a b is_a is_b) goes)) c.take_over.ensures.goes_err

pub returns-in-Ok-Found-clause-nothing : goal.returns-in-Ok-Found-clause-nothing
returns-in-Ok-Found-clause-nothing g c =
    let h = c.in-Ok-Found in
    let judge = g.R.Replay.verdict c.args.replay.now in
    let taken = g.R.Replay.taken c.look.new.replay in
    let s = c.in-Ok.ensures.same in
    let outcome = λ (a b : List ℕ) (is_a : g.D.Disk.shown c.args.disks.a ≡ Some a) (is_b : g.D.Disk.shown c.args.disks.b ≡ Some b). subst (λ l. LookedIs (Ok l) (outcome_of judge c.args.side a b) taken) h.field-0-is (h.ensures.answer a b (s.0 ∙ is_a) (s.1 ∙ is_b)) in
    every_ok c.take_over.result _ (λ x a b is_a is_b un_a un_b. absurd (unmade_side judge c.args.side a b h.found.second h.found.generation h.found.gate taken un_a un_b (outcome a b is_a is_b)))

pub returns-in-Ok-Found-clause-nothing_err : goal.returns-in-Ok-Found-clause-nothing_err
returns-in-Ok-Found-clause-nothing_err g c =
    let h = c.in-Ok-Found in
    let judge = g.R.Replay.verdict c.args.replay.now in
    let taken = g.R.Replay.taken c.look.new.replay in
    let s = c.in-Ok.ensures.same in
    let outcome = λ (a b : List ℕ) (is_a : g.D.Disk.shown c.args.disks.a ≡ Some a) (is_b : g.D.Disk.shown c.args.disks.b ≡ Some b). subst (λ l. LookedIs (Ok l) (outcome_of judge c.args.side a b) taken) h.field-0-is (h.ensures.answer a b (s.0 ∙ is_a) (s.1 ∙ is_b)) in
    every_err c.take_over.result _ (λ x a b is_a is_b un_a un_b. absurd (unmade_side judge c.args.side a b h.found.second h.found.generation h.found.gate taken un_a un_b (outcome a b is_a is_b)))
