-- What an acceptor shows, and what its calls change of that.
use Rattle.std.specs.Prelude.{◌≡◌, ℕ, ◌-◌, List, [], ◌∷◌, ◌++◌, Option, Some, None, IfSome}
use Rattle.wfs_ends.specs.Ends.{Shown, Rose, risen}

-- What an acceptor shows. Each count stands still at the last value of a u64.
pub record Accepting : Type 0 where
  -- what the links that are still to come show, in order, where it tells
  pub left : Option (List Shown)
  -- what the finished links show, in the order in which they were finished, where it tells
  pub done : Option (List Shown)
  -- how many links are handed out and not finished
  pub out : ℕ
  -- how many links were finished
  pub finished : ℕ
  -- how many calls failed
  pub faults : ℕ

-- an acceptor that does not tell its links
abbrev pub untold : ℕ → ℕ → ℕ → Accepting
untold out finished faults = record { left = None; done = None; out = out; finished = finished; faults = faults }

-- A link before the others, and one behind them. An acceptor that does not tell still does not.
abbrev pub led_by : Shown → Option (List Shown) → Option (List Shown)
led_by link None = None
led_by link (Some links) = Some (link ∷ links)

abbrev pub followed_by : Option (List Shown) → Shown → Option (List Shown)
followed_by None link = None
followed_by (Some links) link = Some (links ++ link ∷ [])

-- the first of the links to come was handed out
pub record HandsOut (old : Accepting) (link : Shown) (new : Accepting) : Type 0 where
  pub left : old.left ≡ led_by link new.left
  pub done : new.done ≡ old.done
  pub out : new.out ≡ risen old.out
  pub finished : new.finished ≡ old.finished
  pub faults : new.faults ≡ old.faults

-- No link was left, and nothing changed. An acceptor that does not tell its links never comes to their end.
pub record HasNoLink (old new : Accepting) : Type 0 where
  pub none : old.left ≡ Some []
  pub same : new ≡ old

-- a call failed, and nothing else changed
pub record HasFailed (old new : Accepting) : Type 0 where
  pub cause : Rose old.faults new.faults
  pub same : new ≡ record old { faults = new.faults }

-- a link that was out was finished
abbrev pub with_finished : Accepting → Shown → Accepting
with_finished a link = record a { done = followed_by a.done link; out = a.out - 1; finished = risen a.finished }

-- no call was made of it
pub record IsNew (a : Accepting) : Type 0 where
  pub done : IfSome a.done (λ links. links ≡ [])
  pub out : a.out ≡ 0
  pub finished : a.finished ≡ 0
  pub faults : a.faults ≡ 0
