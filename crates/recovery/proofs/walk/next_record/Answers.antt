use Rattle.std.proofs.Common.{◌≡◌, ◌≤◌, ◌+◌, length, get_or, take, drop, refl, ◌∙◌, subst, arith}
use Rattle.std.specs.Int.{from_be_bytes, to_be_bytes, w32}
use Rattle.recovery.proofs.Walking.{gate_byte, torn_short, torn_long, opens_there, whole_there, held_there}
use Rattle.recovery.proofs.walk.next_record.Goals as goal

pub returns-then-len-at-lt5-clause-is : goal.returns-then-len-at-lt5-clause-is
returns-then-len-at-lt5-clause-is c s f =
    let side = c.args.side.now in
    let gate = c.args.gate in
    let in_limit = c.requires.within.0 in
    let inside = c.requires.within.1 in
    let one : get_or side.bytes.items gate 0 ≡ 1 = gate_byte side gate c.requires.held in_limit inside c.index.result.now c.index.ensures ∙ c.if-index-ne1.false in
    torn_short side gate c.requires.held in_limit inside s f one (omega (arith, c.len.ensures, c.if-len-at-lt5.true))

pub returns-then-sum-side-clause-is : goal.returns-then-sum-side-clause-is
returns-then-sum-side-clause-is c s f =
    let side = c.args.side.now in
    let gate = c.args.gate in
    let in_limit = c.requires.within.0 in
    let inside = c.requires.within.1 in
    let size = c.size_at-size.result in
    let one : get_or side.bytes.items gate 0 ≡ 1 = gate_byte side gate c.requires.held in_limit inside c.index.result.now c.index.ensures ∙ c.if-index-ne1.false in
    let room : gate + 5 ≤ length side.bytes.items = omega (arith, c.len.ensures, c.if-len-at-lt5.false) in
    let read : from_be_bytes w32 (take 4 (drop (gate + 1) side.bytes.items)) ≡ size = subst (λ l. from_be_bytes w32 (take 4 (drop (gate + 1) l)) ≡ size) c.deref.ensures.value c.size_at-size.ensures.read in
    torn_long side gate c.requires.held in_limit inside size s f one room read c.if-sum-side.true

pub returns-then-sum-side-2-clause-is : goal.returns-then-sum-side-2-clause-is
returns-then-sum-side-2-clause-is c s f =
    let side = c.args.side.now in
    let gate = c.args.gate in
    let in_limit = c.requires.within.0 in
    let inside = c.requires.within.1 in
    let size = c.size_at-size.result in
    let one : get_or side.bytes.items gate 0 ≡ 1 = gate_byte side gate c.requires.held in_limit inside c.index.result.now c.index.ensures ∙ c.if-index-ne1.false in
    let room : gate + 5 ≤ length side.bytes.items = omega (arith, c.len.ensures, c.if-len-at-lt5.false) in
    let read : from_be_bytes w32 (take 4 (drop (gate + 1) side.bytes.items)) ≡ size = subst (λ l. from_be_bytes w32 (take 4 (drop (gate + 1) l)) ≡ size) c.deref.ensures.value c.size_at-size.ensures.read in
    record { size = size; opens = opens_there side gate c.requires.held in_limit inside size s f one room read c.if-sum-side.false; is = refl; over = c.if-sum-side-2.true }

pub returns-else-sum-side-2-clause-is : goal.returns-else-sum-side-2-clause-is
returns-else-sum-side-2-clause-is c s f =
    let side = c.args.side.now in
    let gate = c.args.gate in
    let in_limit = c.requires.within.0 in
    let inside = c.requires.within.1 in
    let size = c.size_at-size.result in
    let one : get_or side.bytes.items gate 0 ≡ 1 = gate_byte side gate c.requires.held in_limit inside c.index.result.now c.index.ensures ∙ c.if-index-ne1.false in
    let room : gate + 5 ≤ length side.bytes.items = omega (arith, c.len.ensures, c.if-len-at-lt5.false) in
    let read : from_be_bytes w32 (take 4 (drop (gate + 1) side.bytes.items)) ≡ size = subst (λ l. from_be_bytes w32 (take 4 (drop (gate + 1) l)) ≡ size) c.deref.ensures.value c.size_at-size.ensures.read in
    whole_there side gate c.requires.held in_limit inside size s f one room read c.if-sum-side.false c.if-sum-side-2.false

pub returns-else-sum-side-2-clause-fits : goal.returns-else-sum-side-2-clause-fits
returns-else-sum-side-2-clause-fits c =
    let side = c.args.side.now in
    let gate = c.args.gate in
    let in_limit = c.requires.within.0 in
    let inside = c.requires.within.1 in
    let size = c.size_at-size.result in
    let one : get_or side.bytes.items gate 0 ≡ 1 = gate_byte side gate c.requires.held in_limit inside c.index.result.now c.index.ensures ∙ c.if-index-ne1.false in
    let room : gate + 5 ≤ length side.bytes.items = omega (arith, c.len.ensures, c.if-len-at-lt5.false) in
    let spelled : to_be_bytes w32 size ≡ take 4 (drop (gate + 1) side.bytes.items) = subst (λ l. to_be_bytes w32 size ≡ take 4 (drop (gate + 1) l)) c.deref.ensures.value c.size_at-size.ensures.spelled in
    held_there side gate c.requires.held in_limit inside size one room spelled c.size_at-size.ensures.fits c.if-sum-side.false c.if-sum-side-2.false
