-- A buffer that passes on what it holds.
use base.Fml.{GName}
use Rattle.std.proofs.Common.{◌≡◌, ℕ, ◌+◌, ◌-◌, List, [], ◌∷◌, ◌++◌, length, take, drop, Result, Ok, Err, refl, sym, ap, ◌∙◌, append_assoc, arith}
use Rattle.std.proofs.lemmas.List.{length-take, take-append-drop, take_rest, drop-drop, append-nil, append_cancel_left}
use Rattle.std.specs.Prelude.{IfOk, OnErr}
use Rattle.wfs_ends.specs.Ends.{Given, Untold, Told, Counted, Shown, KeepsLeft, GivesAll, GivesFront, Grows, Rose, behind_buffer, given_more}
use Rattle.wfs_ends.proofs.Given.{same_number, given_nil, given_twice, grows_on, keeps_on}

-- the next bytes are passed on, and the others are held still
pub passed_next : (mid new : Given) (bytes : List ℕ) (sent n : ℕ) → new ≡ given_more mid (take n (take (length bytes - sent) (drop sent bytes))) → given_more new (drop (sent + n) bytes) ≡ given_more mid (drop sent bytes)
passed_next mid new bytes sent n e = ap (λ o. given_more o (drop (sent + n) bytes)) e
    ∙ given_twice mid _ _
    ∙ ap (given_more mid) (ap (λ (x : List ℕ). take n x ++ drop (sent + n) bytes) (take_rest bytes sent) ∙ ap (λ (x : List ℕ). take n (drop sent bytes) ++ x) (sym (drop-drop n sent bytes)) ∙ take-append-drop n (drop sent bytes))

-- what grew once more
pub grows_next : (first mid new : Given) (text : List ℕ) → Grows first mid → new ≡ given_more mid text → Grows first new
grows_next first mid new text g e = grows_on g (record { more = text; is = e })

-- a sink behind a buffer keeps what the sink keeps
pub keeps_behind : (a b : GName) (h h' : List ℕ) (old new : Shown) → Grows old.given new.given → KeepsLeft old new → KeepsLeft (behind_buffer a b h old) (behind_buffer a b h' new)
keeps_behind a b h h' old new g k = record { left = k.left; takes = k.takes; passed = (g, k.passed); puts = k.puts; place = ap (λ (p : List GName). a ∷ b ∷ p) k.place }

tail_of : List GName → List GName
tail_of [] = []
tail_of (x ∷ xs) = xs

keeps_within : (a b : GName) (h h' : List ℕ) (old new : Shown) → KeepsLeft (behind_buffer a b h old) (behind_buffer a b h' new) → KeepsLeft old new
unfolding tail_of
keeps_within a b h h' old new k = record { left = k.left; takes = k.takes; passed = k.passed.1; puts = k.puts; place = ap (λ p. tail_of (tail_of p)) k.place }

-- what a front of a text through a buffer is to the sink behind it: some front of that front was passed on
record Reached (old new : Given) (text : List ℕ) : Type 0 where
  front : List ℕ
  rest : List ℕ
  parts : text ≡ front ++ rest
  given : new ≡ given_more old front

bytes_of : Given → List ℕ
bytes_of Untold = []
bytes_of (Told bytes) = bytes
bytes_of (Counted n) = []

reached : (old new : Given) (held text : List ℕ) → Grows old new → given_more new held ≡ given_more (given_more old []) text → Reached old new text
unfolding bytes_of
reached Untold new held text g e = record { front = []; rest = text; parts = refl; given = g.is }
reached (Told first) new held text g e = record { front = g.more; rest = held; parts = append_cancel_left first text (g.more ++ held) same; given = g.is }
  where
    same : first ++ text ≡ first ++ (g.more ++ held)
    same = ap (λ (x : List ℕ). x ++ text) (sym (append-nil first)) ∙ ap bytes_of (sym e ∙ ap (λ o. given_more o held) g.is) ∙ append_assoc first g.more held
reached (Counted n) new held text g e = record { front = take (length g.more) text; rest = drop (length g.more) text; parts = sym (take-append-drop (length g.more) text); given = g.is ∙ ap Counted (omega (arith, within, length-take (length g.more) text)) }
  where
    within : n + length g.more + length held ≡ n + 0 + length text
    within = same_number _ _ (ap (λ o. given_more o held) (sym g.is) ∙ e)

pub front_through : (a b : GName) (held text : List ℕ) (first now : Shown) → GivesFront (behind_buffer a b [] first) text (behind_buffer a b held now) → GivesFront first text now
front_through a b held text first now g = record {
  front = r.front;
  rest = r.rest ++ g.rest;
  parts = g.parts ∙ ap (λ (x : List ℕ). x ++ g.rest) r.parts ∙ append_assoc r.front r.rest g.rest;
  given = r.given;
  keeps = keeps_within a b [] held first now g.keeps;
  cause = g.cause;
}
  where
    r : Reached first.given now.given g.front
    r = reached first.given now.given held g.front g.keeps.passed.0 g.given

pub all_through : (a b : GName) (held text : List ℕ) (first mid now : Shown) → GivesAll (behind_buffer a b [] first) text (behind_buffer a b held mid) → given_more now.given [] ≡ given_more mid.given held → KeepsLeft mid now → now.failed_puts ≡ mid.failed_puts → GivesAll first text now
all_through a b held text first mid now g e k calm = record {
  given = given_nil now.given ∙ e ∙ g.given ∙ ap (λ o. given_more o text) (sym (given_nil first.given));
  keeps = keeps_on first mid now (keeps_within a b [] held first mid g.keeps) k;
  calm = calm ∙ g.calm;
}

pub cut_through : (a b : GName) (held still text : List ℕ) (first mid now : Shown) → GivesAll (behind_buffer a b [] first) text (behind_buffer a b held mid) → given_more now.given still ≡ given_more mid.given held → Grows mid.given now.given → KeepsLeft mid now → Rose mid.failed_puts now.failed_puts → GivesFront first text now
cut_through a b held still text first mid now g e more k c = record {
  front = r.front;
  rest = r.rest;
  parts = r.parts;
  given = r.given;
  keeps = keeps_on first mid now (keeps_within a b [] held first mid g.keeps) k;
  cause = omega (arith, g.keeps.puts, c);
}
  where
    r : Reached first.given now.given text
    r = reached first.given now.given still text (grows_on g.keeps.passed.0 more) (e ∙ g.given)

-- what one put gave
pub grows_put : {E : Type 0} (r : Result ℕ E) (old new : Given) (piece : List ℕ) → IfOk r (λ n. new ≡ given_more old (take n piece)) → OnErr r (new ≡ old) → Grows old new
grows_put (Ok n) old new piece e f = record { more = take n piece; is = e }
grows_put (Err _) old new piece e f = record { more = []; is = f ∙ given_nil old }
