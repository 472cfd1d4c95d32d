-- Each step on a word keeps the rule.
use Rattle.std.proofs.Common.{◌≡◌, ◌≢◌, ℕ, zero, suc, ◌+◌, ◌%◌, ◌^◌, ◌≤◌, List, [], ◌∷◌, ◌++◌, max, length, get_or, set, sym, refl, ap, ◌∙◌, subst, arith, Option, Some, length-set, length-append}
use Rattle.std.proofs.Math.Nat.{mod-add-mod}
use mathlib.Core.List.{IsPrefix}
use mathlib.Core.Logic.{dite}
use mathlib.Core.Option.{none, some, some-injective, some-ne-none}
use native.Mathlib.Decide.{ℕ_discrete}
use lib.ListN.{get_elem?}
use lib.Seq.{set-get_or}
use Rattle.atomic_table.specs.Table.{Me, keeps, takes, gives, put_back, rest, Allows, opening}
use Rattle.atomic_table.proofs.Lists.{set_here, set_else, set_again, at_last, one_turn}
use Rattle.turnstile_core.specs.declared.kept.Kept.{Ghosts as Meaning}
use Rattle.turnstile_core.specs.declared.view.View.{View}
use Rattle.turnstile_core.specs.declared.view.Past.{Past}
use Rattle.turnstile_core.specs.declared.view.Stage.{Stage}
use Rattle.turnstile_core.specs.declared.view.Stage.TheVariants.{Spent, Idle, Waits, Holds}
use Rattle.turnstile_core.specs.Places.{places_of}
use Rattle.turnstile_core.specs.Turns.{Spot, home, out, last_of, open_tickets, tickets, homes_of, Held, Knows, Fits, Remembers, InTurn}
use Rattle.turnstile_core.specs.Steps.{MayLeave, OpensAll, root, at_stage, with_past, took, grown, shown_at, saw, left_with, drawn, looked, entered, showed, spied, passed}
use Rattle.turnstile_core.proofs.Lines.{at_inside, prefix_self, prefix_longer, places_own, places_other}
use Rattle.turnstile_core.proofs.Views.{St, Homes, in_hand, line_grows, others_wait, next_waits, tickets_set, all_one, stays, spent_other, spent_stays}

abbrev M : Type 0 → Type 0 → Type 0
M T E = Me (Option T) (View T E)

module _ {T E : Type 0} (mean : Meaning T E) where
  abbrev Rule : St T E → Type 0
  Rule = InTurn mean

  -- a seat's view changes, but not what the rule says of the value that is out with it
  pub held_stays : (n : ℕ) (vs : List (View T E)) (h : List E) (sh : ℕ) (p : Spot T) (id : ℕ) (v w : View T E) → get_elem? vs id ≡ some v
      → ((t : ℕ) (x : T) → v.stage ≡ Holds t x → (w.stage ≡ Holds t x) × (w.past.seen ≡ v.past.seen) × (w.past.shown ≡ v.past.shown))
      → Held mean n vs h sh p → Held mean n (set vs id w) h sh p
  held_stays n vs h sh (home x) id v w at same held = held
  held_stays n vs h sh (out j x) id v w at same held = dite (ℕ_discrete j id)
      (λ e. let is : held.0 ≡ v = some-injective held.0 v (sym held.1 ∙ (ap (get_elem? vs) e ∙ at)) in
      let k = same n x (ap (λ (u : View T E). u.stage) (sym is) ∙ held.2) in (
        w,
        ap (get_elem? (set vs id w)) e ∙ set_here vs id w (at_inside vs id v at),
        k.0,
        k.1 ∙ (ap (λ (u : View T E). u.past.seen) (sym is) ∙ held.3),
        k.2 ∙ (ap (λ (u : View T E). u.past.shown) (sym is) ∙ held.4),
      ))
      (λ other. (held.0, set_else vs id j w other ∙ held.1, held.2, held.3, held.4))

  pub begins : (x : T) → mean.list x ≡ [] → mean.published x ≡ 0 → mean.settled x → ((n : ℕ) → mean.tally x n ≡ 0) → mean.opening x x → Rule (opening (0 ∷ 0 ∷ 0 ∷ 0 ∷ []) (Some x ∷ []) (root x))
  begins x empty none_shown calm zeros opened = record {
    serving = 0;
    line = [];
    spot = home x;
    history = [];
    shown = 0;
    below = omega arith;
    origin = x;
    words = refl;
    homes = refl;
    in_line = refl;
    few = omega arith;
    held = (sym empty, sym none_shown, calm);
    knows = first (λ j v. Knows 0 [] (home x) j v.stage) tt;
    remembers = first (λ j v. v.stage ≢ Spent → Remembers mean x [] 0 x (root x ∷ []) j v) (λ live. record {
      number = refl;
      fits = record { begins = prefix_self []; front = omega arith; shown = omega arith; places = refl; tally_is = zeros 0; given_all = λ _. refl; origin_is = refl };
      joined = λ i p e. absurd (some-ne-none p (sym e));
    });
    opened = opened;
    unmade = λ n more. (refl, zeros n);
  }
    where
      first : (K : ℕ → View T E → Type 0) → K 0 (root x) → (j : ℕ) (v : View T E) → get_elem? (root x ∷ []) j ≡ some v → K j v
      first K k zero v e = subst (λ (u : View T E). K zero u) (some-injective (root x) v e) k
      first K k (suc j) v e = absurd (some-ne-none v (sym e))

  -- what others know of the history goes on to hold, where each past of another number does
  others_remember : (origin : T) (h h' : List E) (sh sh' : ℕ) (x x' : T) (vs : List (View T E)) (id : ℕ) (v w : View T E) → get_elem? vs id ≡ some v → v.stage ≢ Spent
      → ((p : Past T E) → p.number ≢ id → Fits mean origin (length vs) h sh x p → Fits mean origin (length vs) h' sh' x' p)
      → (j : ℕ) (u : View T E) → j ≢ id → Remembers mean origin h sh x vs j u → Remembers mean origin h' sh' x' (set vs id w) j u
  others_remember origin h h' sh sh' x x' vs id v w at live fits j u other r = record {
    number = r.number;
    fits = grows u.past (fits u.past (λ e. other (sym r.number ∙ e)) r.fits);
    joined = λ i p e. let k = r.joined i p e in (grows p (fits p (spent_other vs id p.number v at live k.1) k.0), spent_stays vs id p.number v w at live k.1);
  }
    where
      grows : (p : Past T E) → Fits mean origin (length vs) h' sh' x' p → Fits mean origin (length (set vs id w)) h' sh' x' p
      grows p = subst (λ (k : ℕ). Fits mean origin k h' sh' x' p) (sym (length-set vs id w))

  -- a step of the seat id from the view v to w
  moved : (s : St T E) (r : Rule s) (id : ℕ) (words' : List ℕ) (homes' : Homes T) (v w : View T E) (serving' : ℕ) (line' : List ℕ) (spot' : Spot T) (h' : List E) (sh' : ℕ)
      → get_elem? s.views id ≡ some v → v.stage ≢ Spent
      → (w.past.number ≡ v.past.number) × (w.joined ≡ v.joined)
      → words' ≡ (length line' % 2 ^ 64) ∷ (serving' % 2 ^ 64) ∷ (length h' % 2 ^ 64) ∷ sh' ∷ []
      → homes' ≡ homes_of spot'
      → serving' + (tickets s.views + open_tickets w.stage) ≡ length line' + open_tickets v.stage
      → sh' ≤ length h' → Held mean serving' (set s.views id w) h' sh' spot'
      → Knows serving' line' spot' id w.stage
      → ((j : ℕ) (st : Stage T) → j ≢ id → Knows r.serving r.line r.spot j st → Knows serving' line' spot' j st)
      → Fits mean r.origin (length s.views) h' sh' (last_of spot') w.past
      → ((p : Past T E) → p.number ≢ id → Fits mean r.origin (length s.views) r.history r.shown (last_of r.spot) p → Fits mean r.origin (length s.views) h' sh' (last_of spot') p)
      → mean.opening r.origin (last_of spot')
      → ((n : ℕ) → n ≢ id → (places_of mean.seat_of n r.history ≡ []) × (mean.tally (last_of r.spot) n ≡ 0) → (places_of mean.seat_of n h' ≡ []) × (mean.tally (last_of spot') n ≡ 0))
      → Rule record { words = words'; homes = homes'; views = set s.views id w }
  moved s r id words' homes' v w serving' line' spot' h' sh' at live same words homes in_line below held mine others fits fits_others opened unmade =
      let own = r.remembers id v at live in let longer = length-set s.views id w in let sums = tickets_set s.views id v w at in let inside = at_inside s.views id v at in record {
        serving = serving';
        line = line';
        spot = spot';
        history = h';
        shown = sh';
        below = below;
        origin = r.origin;
        words = words;
        homes = homes;
        in_line = omega arith;
        few = subst (λ (k : ℕ). k ≤ 17) (sym longer) r.few;
        held = held;
        knows = stays (λ j u. Knows serving' line' spot' j u.stage) s.views id w mine (λ j u other e. others j u.stage other (r.knows j u e));
        remembers = stays (λ j u. u.stage ≢ Spent → Remembers mean r.origin h' sh' (last_of spot') (set s.views id w) j u) s.views id w
            (λ _. record {
              number = same.0 ∙ own.number;
              fits = grows w.past fits;
              joined = λ i p e. let k = own.joined i p (ap (λ (l : List (Past T E)). get_elem? l i) (sym same.1) ∙ e) in
                  (grows p (fits_others p (spent_other s.views id p.number v at live k.1) k.0), spent_stays s.views id p.number v w at live k.1);
            })
            (λ j u other e live'. others_remember r.origin r.history h' r.shown sh' (last_of r.spot) (last_of spot') s.views id v w at live fits_others j u other (r.remembers j u e live'));
        opened = opened;
        unmade = λ n more. let le : length s.views ≤ n = subst (λ (k : ℕ). k ≤ n) longer more in unmade n (λ e. omega arith) (r.unmade n le);
      }
    where
      grows : (p : Past T E) → Fits mean r.origin (length s.views) h' sh' (last_of spot') p → Fits mean r.origin (length (set s.views id w)) h' sh' (last_of spot') p
      grows p = subst (λ (k : ℕ). Fits mean r.origin k h' sh' (last_of spot') p) (sym (length-set s.views id w))

  pub draws : (slots id : ℕ) (m : M T E) → m.0.stage ≡ Idle → Allows Rule slots id m 0 (λ n. (n + 1) % 2 ^ 64) (drawn m)
  draws slots id m idle s r deep at fits =
      let t : ℕ = length r.line in let w : View T E = at_stage m.0 (Waits t) in
      let longer : length (r.line ++ id ∷ []) ≡ t + 1 = omega (arith, length-append r.line (id ∷ [])) in
      let none_yet = ap open_tickets idle in let in_line = r.in_line in let live : m.0.stage ≢ Spent = λ e. cc (e, idle) in (
        w,
        keeps,
        tt,
        moved s r id _ s.homes m.0 w r.serving (r.line ++ id ∷ []) r.spot r.history r.shown at live (refl, refl)
            (ap (λ (ws : List ℕ). set ws 0 ((get_or ws 0 0 + 1) % 2 ^ 64)) r.words
            ∙ ap (λ (k : ℕ). k ∷ (r.serving % 2 ^ 64) ∷ (length r.history % 2 ^ 64) ∷ r.shown ∷ []) (mod-add-mod t (2 ^ 64) 1 ∙ ap (λ (k : ℕ). k % 2 ^ 64) (sym longer)))
            r.homes (omega arith) r.below (held_stays r.serving s.views r.history r.shown r.spot id m.0 w at (λ u x e. absurd (cc (e, idle))) r.held)
            (omega arith, at_last r.line id t refl) (λ j st _. line_grows r.serving r.line r.spot id j st)
            (r.remembers id m.0 at live).fits (λ p _ k. k) r.opened (λ n _ k. k),
        (t, ap (λ (ws : List ℕ). get_or ws 0 0) r.words, refl),
      )

  -- nobody else has a turn while this seat's ticket is served
  is_home : (s : St T E) (r : Rule s) (id t : ℕ) (v : View T E) → get_elem? s.views id ≡ some v → v.stage ≡ Waits t → t ≡ r.serving → (x : T) × (r.spot ≡ home x)
  is_home s r id t v at waits now = go r.spot refl r.held
    where
      go : (p : Spot T) → r.spot ≡ p → Held mean r.serving s.views r.history r.shown p → (x : T) × (r.spot ≡ home x)
      go (home x) is h = (x, is)
      go (out j x) is h = let mine = subst (Knows r.serving r.line r.spot id) waits (r.knows id v at) in
          let theirs = subst (Knows r.serving r.line r.spot j) h.2 (r.knows j h.0 h.1) in
          let same : j ≡ id = some-injective j id (sym theirs.1 ∙ (ap (get_elem? r.line) (sym now) ∙ mine.1)) in
          let view : h.0 ≡ v = some-injective h.0 v (sym h.1 ∙ (ap (get_elem? s.views) same ∙ at)) in
          absurd (cc (h.2, waits, ap (λ (u : View T E). u.stage) view))

  -- the numbers that are served are one, since the line is shorter than 2^64
  served : (s : St T E) (r : Rule s) (id t : ℕ) (v : View T E) → get_elem? s.views id ≡ some v → v.stage ≡ Waits t → r.serving % 2 ^ 64 ≡ t % 2 ^ 64 → t ≡ r.serving
  served s r id t v at waits e = let mine = subst (Knows r.serving r.line r.spot id) waits (r.knows id v at) in let below = at_inside r.line t id mine.1 in
      let in_line = r.in_line in let few = r.few in let most = all_one s.views in
      sym (one_turn r.serving t (2 ^ 64) mine.0 (omega arith) e)

  -- a step that changes nothing
  unmoved : (s : St T E) (r : Rule s) (id i : ℕ) (v : View T E) → get_elem? s.views id ≡ some v → Rule record { words = set s.words i (get_or s.words i 0); homes = s.homes; views = set s.views id v }
  unmoved s r id i v at = subst (λ (z : List ℕ × List (View T E)). Rule record { words = z.0; homes = s.homes; views = z.1 }) (λ k. (sym (set-get_or s.words i 0) k, sym (set_again s.views id v at) k)) r

  pub looks : (slots id t : ℕ) (m : M T E) → m.0.stage ≡ Waits t → Allows Rule slots id m 1 (λ n. n) (looked mean m)
  looks slots id t m waits s r deep at below = let n : ℕ = get_or s.words 1 0 in let word : n ≡ r.serving % 2 ^ 64 = ap (λ (ws : List ℕ). get_or ws 1 0) r.words in
      let live : m.0.stage ≢ Spent = λ e. cc (e, waits) in
      dite (ℕ_discrete n (t % 2 ^ 64)) (λ hit.
      let now : t ≡ r.serving = served s r id t m.0 at waits (sym word ∙ hit) in
      let h = is_home s r id t m.0 at waits now in
      let x : T = h.0 in let w : View T E = took mean m.0 t x in
      let mine = subst (Knows r.serving r.line r.spot id) waits (r.knows id m.0 at) in
      let own = r.remembers id m.0 at live in
      let slot : s.homes ≡ some (Some x) ∷ [] = r.homes ∙ ap homes_of h.1 in
      let last : last_of r.spot ≡ x = ap last_of h.1 in
      let at_home = subst (Held mean r.serving s.views r.history r.shown) h.1 r.held in
      let whole : r.history ≡ mean.list x = at_home.0 in
      let fit : Fits mean r.origin (length s.views) (mean.list x) (mean.published x) x m.0.past = subst (λ (z : List E × ℕ × T). Fits mean r.origin (length s.views) z.0 z.1 z.2 m.0.past) (λ i. (whole i, at_home.1 i, last i)) own.fits in
      let open_x : mean.opening r.origin x = subst (mean.opening r.origin) last r.opened in
      let one_yet = ap open_tickets waits in let in_line = r.in_line in (
        w,
        takes 0 (Some x),
        ap (λ (hs : Homes T). get_elem? hs 0) slot,
        moved s r id _ _ m.0 w r.serving r.line (out id x) r.history r.shown at live (refl, refl) (set-get_or s.words 1 0 ∙ r.words)
            (ap (λ (hs : Homes T). set hs 0 none) slot) (omega arith) r.below
            (w, set_here s.views id w (at_inside s.views id m.0 at), ap (λ (k : ℕ). let st : Stage T = Holds k x in st) now, sym whole, sym at_home.1)
            (now, mine.1, refl) (λ j st _ k. others_wait r.serving r.line x (out id x) j st (subst (λ (p : Spot T). Knows r.serving r.line p j st) h.1 k))
            record { begins = subst (λ (es : List E). IsPrefix (mean.list x) es) (sym whole) (prefix_self (mean.list x)); front = omega (arith, ap length whole); shown = omega (arith, at_home.1); places = ap (places_of mean.seat_of m.0.past.number) whole ∙ fit.places; tally_is = fit.tally_is; given_all = fit.given_all; origin_is = fit.origin_is }
            (λ p _ k. subst (λ (y : T). Fits mean r.origin (length s.views) r.history r.shown y p) last k) open_x
            (λ k _ z. subst (λ (y : T). (places_of mean.seat_of k r.history ≡ []) × (mean.tally y k ≡ 0)) last z),
        (λ u is. let same : t ≡ u = cc (is, waits) in (
          (λ _. (
            x,
            record { begins = fit.begins; front = fit.front; places = fit.places; tally_is = fit.tally_is; opened = subst (λ (l : List T). OpensAll mean.opening l x) (sym own.fits.origin_is) (open_x, tt); shown = fit.shown },
            at_home.2,
            ap (λ (k : ℕ). let o : M T E = (took mean m.0 k x, (0, Some x) ∷ m.1) in o) same,
          )),
          (λ miss. absurd (miss (hit ∙ ap (λ (k : ℕ). k % 2 ^ 64) same))),
        )),
      ))
      (λ miss. (
        m.0,
        keeps,
        tt,
        unmoved s r id 1 m.0 at,
        (λ u is. let same : t ≡ u = cc (is, waits) in ((λ hit. absurd (miss (hit ∙ ap (λ (k : ℕ). k % 2 ^ 64) (sym same)))), (λ _. refl))),
      ))

  -- what a seat remembers goes on to hold where an entry of another seat is added
  entry_added : (origin : T) (made : ℕ) (h : List E) (sh : ℕ) (x : T) (e : E) (p : Past T E) → mean.seat_of e ≢ p.number → Fits mean origin made h sh x p → Fits mean origin made (h ++ e ∷ []) sh x p
  entry_added origin made h sh x e p other f = let front = f.front in record {
    begins = prefix_longer p.seen h (e ∷ []) f.begins;
    front = omega (arith, length-append h (e ∷ []));
    shown = f.shown;
    places = places_other mean.seat_of p.number 0 h e other ∙ f.places;
    tally_is = f.tally_is;
    given_all = f.given_all;
    origin_is = f.origin_is;
  }

  pub enters : (slots id t : ℕ) (x : T) (es : List E) (e : E) (m : M T E) → m.0.stage ≡ Holds t x → es ≡ m.0.past.seen ++ e ∷ [] → mean.seat_of e ≡ m.0.past.number
      → Allows Rule slots id m 2 (λ n. (n + 1) % 2 ^ 64) (entered es m)
  enters slots id t x es e m holds more own_entry s r deep at below =
      let v : View T E = m.0 in let w : View T E = with_past v (grown v.past es) in
      let live : v.stage ≢ Spent = λ z. cc (z, holds) in let own = r.remembers id v at live in
      let mine = subst (Knows r.serving r.line r.spot id) holds (r.knows id v at) in
      let held = subst (Held mean r.serving s.views r.history r.shown) mine.2 r.held in
      let same : held.0 ≡ v = some-injective held.0 v (sym held.1 ∙ at) in
      let whole : v.past.seen ≡ r.history = ap (λ (u : View T E). u.past.seen) (sym same) ∙ held.3 in
      let own_shown : v.past.shown ≡ r.shown = ap (λ (u : View T E). u.past.shown) (sym same) ∙ held.4 in
      let longer : es ≡ r.history ++ e ∷ [] = more ∙ ap (λ (l : List E). l ++ e ∷ []) whole in
      let count : length es ≡ length r.history + 1 = ap length longer ∙ length-append r.history (e ∷ []) in
      let entry_seat : mean.seat_of e ≡ id = own_entry ∙ own.number in
      let last : last_of r.spot ≡ x = ap last_of mine.2 in
      let places : places_of mean.seat_of v.past.number es ≡ v.past.places ++ length v.past.seen ∷ [] = ap (places_of mean.seat_of v.past.number) longer ∙ (places_own mean.seat_of v.past.number 0 r.history e own_entry
      ∙ (λ i. own.fits.places i ++ (let z : 0 + length r.history ≡ length v.past.seen = omega (arith, ap length whole) in z) i ∷ [])) in
      let in_line = r.in_line in (
        w,
        keeps,
        tt,
        moved s r id _ s.homes v w r.serving r.line r.spot es r.shown at live (refl, refl)
            (ap (λ (ws : List ℕ). set ws 2 ((get_or ws 2 0 + 1) % 2 ^ 64)) r.words ∙ ap (λ (k : ℕ). (length r.line % 2 ^ 64) ∷ (r.serving % 2 ^ 64) ∷ k ∷ r.shown ∷ []) (mod-add-mod (length r.history) (2 ^ 64) 1 ∙ ap (λ (k : ℕ). k % 2 ^ 64) (sym count)))
            r.homes (omega arith) (let b = r.below in omega arith)
            (subst (Held mean r.serving (set s.views id w) es r.shown) (sym mine.2) (w, set_here s.views id w (at_inside s.views id v at), subst (λ (k : ℕ). v.stage ≡ Holds k x) mine.0 holds, refl, own_shown))
            (r.knows id v at) (λ j st _ k. k)
            record { begins = prefix_self es; front = omega arith; shown = own.fits.shown; places = places; tally_is = own.fits.tally_is; given_all = own.fits.given_all; origin_is = own.fits.origin_is }
            (λ p other k. subst (λ (l : List E). Fits mean r.origin (length s.views) l r.shown (last_of r.spot) p) (sym longer) (entry_added r.origin (length s.views) r.history r.shown (last_of r.spot) e p (λ z. other (sym z ∙ entry_seat)) k))
            r.opened
            (λ n other z. (ap (places_of mean.seat_of n) longer ∙ (places_other mean.seat_of n 0 r.history e (λ k. other (sym k ∙ entry_seat)) ∙ z.0), z.1)),
        refl,
      )

  pub passes : (slots id : ℕ) (x y : T) (m : M T E) → MayLeave mean m x y → Allows Rule slots id m 1 (λ n. (n + 1) % 2 ^ 64) (passed mean m)
  passes slots id x y m ready s r deep at below =
      let t : ℕ = ready.holds.0 in let holds = ready.holds.1 in let has = ready.back in let kept = ready.entries in let shown_kept = ready.shown in
      let v : View T E = m.0 in let w : View T E = left_with v (mean.tally y v.past.number) in
      let live : v.stage ≢ Spent = λ z. cc (z, holds) in let own = r.remembers id v at live in
      let mine = subst (Knows r.serving r.line r.spot id) holds (r.knows id v at) in
      let held = subst (Held mean r.serving s.views r.history r.shown) mine.2 r.held in
      let same : held.0 ≡ v = some-injective held.0 v (sym held.1 ∙ at) in
      let whole : v.past.seen ≡ r.history = ap (λ (u : View T E). u.past.seen) (sym same) ∙ held.3 in
      let own_shown : r.shown ≡ v.past.shown = sym held.4 ∙ ap (λ (u : View T E). u.past.shown) same in
      let slot : s.homes ≡ none ∷ [] = r.homes ∙ ap homes_of mine.2 in
      let line_own : get_elem? r.line r.serving ≡ some id = ap (get_elem? r.line) (sym mine.0) ∙ mine.1 in
      let last : last_of r.spot ≡ x = ap last_of mine.2 in
      let one_yet = ap open_tickets holds in let in_line = r.in_line in
      let tallies' : (n : ℕ) → n ≢ id → mean.tally y n ≡ mean.tally (last_of r.spot) n = λ n other. ready.tallies n (λ z. other (z ∙ own.number)) ∙ ap (λ (q : T). mean.tally q n) (sym last) in (
        w,
        gives,
        tt,
        moved s r id _ _ v w (r.serving + 1) r.line (home y) r.history r.shown at live (refl, refl)
            (ap (λ (ws : List ℕ). set ws 1 ((get_or ws 1 0 + 1) % 2 ^ 64)) r.words ∙ ap (λ (k : ℕ). (length r.line % 2 ^ 64) ∷ k ∷ (length r.history % 2 ^ 64) ∷ r.shown ∷ []) (mod-add-mod r.serving (2 ^ 64) 1))
            (ap (put_back s.homes) has ∙ ap (λ (hs : Homes T). set hs 0 (some (Some y))) slot)
            (omega arith) r.below (sym whole ∙ sym kept, own_shown ∙ sym shown_kept, ready.settled) tt
            (λ j st other k. next_waits r.serving r.line id j x y st other line_own (subst (λ (p : Spot T). Knows r.serving r.line p j st) mine.2 k))
            record { begins = own.fits.begins; front = own.fits.front; shown = own.fits.shown; places = own.fits.places; tally_is = refl; given_all = own.fits.given_all; origin_is = own.fits.origin_is }
            (λ p other k. record { begins = k.begins; front = k.front; shown = k.shown; places = k.places; tally_is = tallies' p.number other ∙ k.tally_is; given_all = k.given_all; origin_is = k.origin_is })
            (let o = subst (λ (l : List T). OpensAll mean.opening l y) own.fits.origin_is ready.opening in o.0)
            (λ n other z. (z.0, tallies' n other ∙ z.1)),
        (λ u is. let told : y ≡ u = ap (in_hand y) (sym has ∙ is) in (λ i. (left_with v (mean.tally (told i) v.past.number), rest (has i)))),
      )

  pub shows : (slots id t n : ℕ) (x : T) (m : M T E) → m.0.stage ≡ Holds t x → m.0.past.shown ≤ n → n ≤ length m.0.past.seen
      → Allows Rule slots id m 3 (λ k. max k n) (showed n m)
  shows slots id t n x m holds up top s r deep at below =
      let v : View T E = m.0 in let w : View T E = with_past v (shown_at v.past n) in
      let live : v.stage ≢ Spent = λ z. cc (z, holds) in let own = r.remembers id v at live in
      let mine = subst (Knows r.serving r.line r.spot id) holds (r.knows id v at) in
      let held = subst (Held mean r.serving s.views r.history r.shown) mine.2 r.held in
      let same : held.0 ≡ v = some-injective held.0 v (sym held.1 ∙ at) in
      let whole : v.past.seen ≡ r.history = ap (λ (u : View T E). u.past.seen) (sym same) ∙ held.3 in
      let own_shown : v.past.shown ≡ r.shown = ap (λ (u : View T E). u.past.shown) (sym same) ∙ held.4 in
      let new_word : max r.shown n ≡ n = omega arith in let long = ap length whole in let in_line = r.in_line in (
        w,
        keeps,
        tt,
        moved s r id _ s.homes v w r.serving r.line r.spot r.history n at live (refl, refl)
            (ap (λ (ws : List ℕ). set ws 3 (max (get_or ws 3 0) n)) r.words ∙ ap (λ (k : ℕ). (length r.line % 2 ^ 64) ∷ (r.serving % 2 ^ 64) ∷ (length r.history % 2 ^ 64) ∷ k ∷ []) new_word)
            r.homes (omega arith) (omega arith)
            (subst (Held mean r.serving (set s.views id w) r.history n) (sym mine.2) (w, set_here s.views id w (at_inside s.views id v at), subst (λ (k : ℕ). v.stage ≡ Holds k x) mine.0 holds, whole, refl))
            (r.knows id v at) (λ j st _ k. k)
            record { begins = own.fits.begins; front = own.fits.front; shown = omega arith; places = own.fits.places; tally_is = own.fits.tally_is; given_all = own.fits.given_all; origin_is = own.fits.origin_is }
            (λ p _ k. let small = k.shown in record { begins = k.begins; front = k.front; shown = omega arith; places = k.places; tally_is = k.tally_is; given_all = k.given_all; origin_is = k.origin_is })
            r.opened (λ _ _ z. z),
        refl,
      )

  pub spies : (slots id : ℕ) (m : M T E) → m.0.stage ≢ Spent → Allows Rule slots id m 3 (λ k. k) (spied m)
  spies slots id m live s r deep at below =
      let v : View T E = m.0 in let n : ℕ = get_or s.words 3 0 in let w : View T E = with_past v (saw v.past n) in let word : n ≡ r.shown = ap (λ (ws : List ℕ). get_or ws 3 0) r.words in
      let own = r.remembers id v at live in let in_line = r.in_line in let small = own.fits.shown in let b = r.below in let f = own.fits.front in (
        w,
        keeps,
        tt,
        moved s r id _ s.homes v w r.serving r.line r.spot r.history r.shown at live (refl, refl) (set-get_or s.words 3 0 ∙ r.words)
            r.homes (omega arith) r.below (held_stays r.serving s.views r.history r.shown r.spot id v w at (λ t x is. (is, refl, word ∙ held_shown r.spot t x is (r.knows id v at) r.held)) r.held)
            (r.knows id v at) (λ j st _ k. k)
            record { begins = own.fits.begins; front = omega arith; shown = omega arith; places = own.fits.places; tally_is = own.fits.tally_is; given_all = own.fits.given_all; origin_is = own.fits.origin_is }
            (λ p _ k. k) r.opened (λ _ _ z. z),
        (omega arith, refl),
      )
    where
      -- a seat that holds the turn has shown what is shown
      held_shown : (p : Spot T) (t : ℕ) (x : T) → m.0.stage ≡ Holds t x → Knows r.serving r.line p id m.0.stage → Held mean r.serving s.views r.history r.shown p → r.shown ≡ m.0.past.shown
      held_shown p t x is k h = let mine = subst (Knows r.serving r.line p id) is k in let held = subst (Held mean r.serving s.views r.history r.shown) mine.2 h in
          sym held.4 ∙ ap (λ (u : View T E). u.past.shown) (some-injective held.0 m.0 (sym held.1 ∙ at))
