-- One more seat is given.
use Rattle.std.proofs.Common.{rules, ◌≡◌, ◌+◌, ◌<◌, slice_index_or, refl, [], ◌∷◌, ◌++◌, length, ◌∙◌, sym, ap, subst, arith, ℕ, map, List}
use Rattle.std.specs.List.{range_with_len}
use Rattle.std.proofs.lemmas.List.Elements.{All-push}
use Rattle.std.proofs.lemmas.List.{length_push}
use Rattle.store_server.specs.Giving.{fresh_seat}
use Rattle.store_server.proofs.FreshSeats.{gave_more, came, more_came}
use Rattle.store_server.proofs.giving.give_seats.Goals as goal
use Rattle.turnstile_core.specs.Seats.{name_of, past, IsFreeAt}
use Rattle.turnstile_core.specs.declared.seat.Seat.{Seat}

pub loop-first-preserved : goal.loop-first-preserved
loop-first-preserved g c =
    let i = c.loop-first.invariant in
    let origin = (past c.args.first).origin in
    let P : Seat g.row.T.Denot g.row.T-Entry.Denot g.T.Kept → Type 0 = IsFreeAt (name_of c.args.turnstile.now) in
    let n = length c.loop-first.seats.items in
    let pushed : c.push.new.self.items ≡ c.loop-first.seats.items ++ c.split-next.result ∷ [] = search rules in
    let many : length c.push.new.self.items ≡ n + 1 = ap length pushed ∙ length_push c.loop-first.seats.items c.split-next.result in
    let whole = more_came past origin c.args.many c.loop-first.seats.items c.push.new.self.items c.split-next.result n refl i.3 (came origin c.args.many (past c.loop-first.first) (past c.split-next.result) n i.1 c.split-next.ensures.new) pushed in (
      (c.split-next.ensures.own ∙ i.0.0, c.split-next.ensures.stage ∙ i.0.1),
      gave_more origin (past c.loop-first.first) (past c.split-next.new.seat) n (length c.push.new.self.items) i.1 c.split-next.ensures.seat many,
      subst (λ (l : List (Seat g.row.T.Denot g.row.T-Entry.Denot g.T.Kept)). (k : ℕ) (d : Seat g.row.T.Denot g.row.T-Entry.Denot g.T.Kept) → k < length l → P (slice_index_or l k d)) (sym pushed) (All-push P c.loop-first.seats.items c.split-next.result i.2 (c.split-next.ensures.new_own ∙ i.0.0, c.split-next.ensures.new_free)),
      whole ∙ ap (λ (k : ℕ). map (fresh_seat origin c.args.many) (range_with_len 1 k)) (sym many),
      omega arith,
      omega arith,
    )
