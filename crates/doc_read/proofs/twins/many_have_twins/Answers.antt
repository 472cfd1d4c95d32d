use Rattle.std.proofs.Common.{ℕ, List, [], Bor, ◌||◌, refl, sym, ap, ◌∙◌, map, get_or}
use Rattle.doc_read.specs.Scope.{same_pair, texts}
use Rattle.doc_read.proofs.Repeats.{none_seen, twins_found, twins_pass, among_turn, is_new, is_old, pair_insert, pair_at, pair_within}
use Rattle.doc_read.proofs.twins.many_have_twins.Goals as goal

abbrev nothing : Bor (List ℕ) × Bor (List ℕ)
nothing = (record { ref_ptr = (0, 0); now = [] }, record { ref_ptr = (0, 0); now = [] })

pub loop-pair-init : goal.loop-pair-init
loop-pair-init c = record { seen = λ q. rw c.new-seen.ensures.empty refl; apart = none_seen same_pair }

pub returns-then-not-branch : goal.returns-then-not-branch
returns-then-not-branch c =
    let ps = c.args.pairs.now in
    let i = c.loop-pair.pair-index in
    let x = texts (get_or ps i nothing) in
    let here = is_old _ _ c.in_ok-insert.ensures.added c.if-not-branch.true in
    twins_found same_pair (map texts ps) i x (pair_within ps i c.loop-pair-test.true) (pair_at ps i nothing c.loop-pair-test.true) (sym (c.loop-pair.invariant.seen x) ∙ here)

pub loop-pair-preserved : goal.loop-pair-preserved
loop-pair-preserved c =
    let ps = c.args.pairs.now in
    let i = c.loop-pair.pair-index in
    let x = texts (get_or ps i nothing) in
    let within = pair_within ps i c.loop-pair-test.true in
    let apart = is_new _ _ c.in_ok-insert.ensures.added c.if-not-branch.false in
    let unseen = sym (c.loop-pair.invariant.seen x) ∙ apart in
    record {
      seen = λ q.
          pair_insert x q c.loop-pair.seen c.insert.new.self c.in_ok-insert.ensures.updates
          ∙ ap (λ b. b || same_pair x q) (c.loop-pair.invariant.seen q)
          ∙ sym (among_turn same_pair (map texts ps) i x q within (pair_at ps i nothing c.loop-pair-test.true));
      apart = twins_pass same_pair (map texts ps) i x within (pair_at ps i nothing c.loop-pair-test.true) unseen c.loop-pair.invariant.apart;
    }
