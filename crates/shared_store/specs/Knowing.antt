-- What a seat knows later, whatever came.
use Rattle.std.specs.Prelude.{◌≡◌, ℕ, ◌≤◌, List, [], ◌∷◌, ◌++◌, refl}
use Rattle.std.proofs.Common.{sym, ap, ◌∙◌, append_assoc, le_refl, le_trans}
use Rattle.std.proofs.lemmas.List.{append-nil}
use mathlib.Core.List.{IsPrefix}
use Rattle.shared_store.specs.declared.counter.Counter.{Counter}
use Rattle.shared_store.specs.Openings.{having, HasLegalHistory}
use Rattle.shared_store.specs.Turns.{seat_of}
use Rattle.turnstile_core.specs.Places.{places_of}
use Rattle.turnstile_core.specs.declared.view.Past.{Past}
use Rattle.wfs_ends.specs.Ends.{last_count}
use Rattle.wfs_model.specs.declared.entry.Entry.{Entry}

-- what a seat knows of the store
abbrev pub Known : Type 0 → Type 0
Known D = Past (Counter D) Entry

-- the places that a seat keeps are those of its own entries in what it has seen
abbrev pub KeepsPlaces : {D : Type 0} → Known D → Type 0
KeepsPlaces p = places_of seat_of p.number p.seen ≡ p.places

-- the entries that a seat has seen are a legal history, where the store had none as it was first kept
abbrev pub HasSeenLegal : {D : Type 0} → Known D → Type 0
HasSeenLegal {D} p = (first : Counter D) → p.origin ≡ first ∷ [] → first.store.entries ≡ [] → HasLegalHistory (having first.store p.seen)

-- a count of store faults only rises, up to its last value
pub record RisesTo (old new : ℕ) : Type 0 where
  pub rises : old ≤ new
  pub most : new ≤ last_count

-- The seat is the same, and nothing that it knew is lost: it has seen more of the one history.
pub record KnowsMore {D : Type 0} (p q : Known D) : Type 0 where
  pub number : q.number ≡ p.number
  pub given : q.given ≡ p.given
  pub origin : q.origin ≡ p.origin
  pub seen : IsPrefix p.seen q.seen
  pub front : p.front ≤ q.front
  pub kept : IsPrefix p.places q.places
  pub places : KeepsPlaces p → KeepsPlaces q
  pub tally : p.tally ≤ last_count → RisesTo p.tally q.tally
  pub legal : HasSeenLegal p → HasSeenLegal q

pub prefix_self : {A : Type 0} (xs : List A) → IsPrefix xs xs
prefix_self xs = ([], append-nil xs)

pub prefix_trans : {A : Type 0} (xs ys zs : List A) → IsPrefix xs ys → IsPrefix ys zs → IsPrefix xs zs
prefix_trans xs ys zs p q = (p.0 ++ q.0, sym (append_assoc xs p.0 q.0) ∙ (ap (λ l. l ++ q.0) p.1 ∙ q.1))

pub knows_same : {D : Type 0} (p : Known D) → KnowsMore p p
knows_same p = record {
  number = refl;
  given = refl;
  origin = refl;
  seen = prefix_self p.seen;
  front = le_refl p.front;
  kept = prefix_self p.places;
  places = λ own. own;
  tally = λ most. record { rises = le_refl p.tally; most = most };
  legal = λ legal. legal;
}

pub knows_both : {D : Type 0} (p q r : Known D) → KnowsMore p q → KnowsMore q r → KnowsMore p r
knows_both p q r h k = record {
  number = k.number ∙ h.number;
  given = k.given ∙ h.given;
  origin = k.origin ∙ h.origin;
  seen = prefix_trans p.seen q.seen r.seen h.seen k.seen;
  front = le_trans h.front k.front;
  kept = prefix_trans p.places q.places r.places h.kept k.kept;
  places = λ own. k.places (h.places own);
  tally = λ most. let a = h.tally most in let b = k.tally a.most in record { rises = le_trans a.rises b.rises; most = b.most };
  legal = λ legal. k.legal (h.legal legal);
}
