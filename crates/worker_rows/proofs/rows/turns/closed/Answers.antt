use Rattle.std.proofs.Common.{rules, ◌≡◌, [], ◌∷◌, map, sym, ap, subst}
use Rattle.turnstile_core.specs.Closing.{AreAllSeats}
use Rattle.turnstile_core.specs.Seats.{past}
use Rattle.worker_rows.proofs.OneSeat.{is_all}
use Rattle.worker_rows.proofs.rows.turns.closed.Goals as goal

pub close-requires-clause-all : goal.close-requires-clause-all
close-requires-clause-all g c =
    let one : c.push.new.self.items ≡ c.args.first ∷ [] = search rules in
    subst AreAllSeats (ap (map past) (sym one)) (is_all (past c.args.first) c.requires.one.0 c.requires.one.1)
