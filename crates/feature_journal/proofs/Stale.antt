-- While byte 0 of a stale side is closed, any byte may stand there.
use Rattle.std.proofs.Common.{◌≡◌, ◌⊎◌, inl, inr, ⊎_elim, ℕ, ◌<◌, List, [], ◌∷◌, ◌++◌, length, drop, refl, sym, ◌∙◌, ap, subst, arith, Bool, true, false, not, cond}
use Rattle.std.proofs.lemmas.Bool.{cases_eq}
use Rattle.std.specs.Int.{to_be_bytes, w64}
use Rattle.disk_core.specs.Disk.{Begins}
use Rattle.feature_journal.specs.Side.{side, mark, Closed, Gate}
use Rattle.feature_journal.specs.Whole.{Harmless, Stale, Marked, IsList, OneOf, Ends, Says}
use Rattle.feature_journal.specs.Whole.Harmless.{older, tied, equal}
use Rattle.feature_journal.specs.Whole.Stale.{stale_older, stale_tied, stale_greater}
use Rattle.feature_journal.specs.Whole.Ends.{closed}
use Rattle.feature_journal.proofs.Current.{Head, head}

pub marked_head : (generation : ℕ) (bodies : List (List ℕ)) (c : List ℕ) → Ends (side generation bodies) c → Marked generation c
marked_head generation bodies c ends = let h = head generation bodies c ends in first_of h h.rest refl
  where
    first_of : (h : Head generation c) (rest : List ℕ) → rest ≡ h.rest → Marked generation c
    first_of h [] e = absurd (omega (arith, ap length e, h.some))
    first_of h (first ∷ rest) e = record { gate = 1; first = first; is = record { rest = rest; is = h.is ∙ ap (λ (l : List ℕ). 1 ∷ (mark ++ to_be_bytes w64 generation ++ l)) (sym e) } }

-- a side that says one of the lists, whose byte 0 is open
pub opened_again : (own : ℕ) (bodies : List (List ℕ)) (o : List ℕ) → Begins (1 ∷ (drop 1 (side own bodies) ++ 0 ∷ [])) o → Closed (side own bodies) o
unfolding side
opened_again own bodies o b = b

-- the one that was current, beside it
beside_greater : (is_b : Bool) (generation own : ℕ) (lists : List (List (List ℕ))) (c : List ℕ) → (generation < own) ⊎ ((own ≡ generation) × (is_b ≡ true)) → Marked generation c → Harmless is_b own lists c
beside_greater is_b generation own lists c (inl less) m = older generation m less
beside_greater is_b generation own lists c (inr same) m = tied same.1 (subst (λ n. Marked n c) (sym same.0) m)

pub stale_says : (second : Bool) (generation : ℕ) (lists : List (List (List ℕ))) (bodies : List (List ℕ)) (text a b : List ℕ) → IsList generation bodies → OneOf lists bodies → Ends (side generation bodies) (cond second b a)
    → Stale (not second) generation lists text → Gate [] text (cond second a b) → Says lists a b
stale_says second generation lists bodies text a b list one ends (stale_older own first rest less is) gate =
    record {
      second = second;
      generation = generation;
      bodies = bodies;
      list = list;
      one = one;
      ends = ends;
      beside = older own (record { gate = gate.byte; first = first; is = record { rest = rest ++ gate.is.rest; is = gate.is.is ∙ ap (λ (l : List ℕ). (gate.byte ∷ l) ++ gate.is.rest) is } }) less;
    }
stale_says second generation lists bodies text a b list one ends (stale_tied first rest is_b is) gate =
    record {
      second = second;
      generation = generation;
      bodies = bodies;
      list = list;
      one = one;
      ends = ends;
      beside = tied is_b (record { gate = gate.byte; first = first; is = record { rest = rest ++ gate.is.rest; is = gate.is.is ∙ ap (λ (l : List ℕ). (gate.byte ∷ l) ++ gate.is.rest) is } });
    }
stale_says second generation lists bodies text a b list one ends (stale_greater own others olist oone over is) gate = elim (cases_eq gate.byte 1) [
  | inr not_open ↦ record {
    second = second;
    generation = generation;
    bodies = bodies;
    list = list;
    one = one;
    ends = ends;
    beside = equal gate.byte own others not_open olist oone (subst (λ (l : List ℕ). Begins (gate.byte ∷ l) (cond second a b)) is gate.is);
  }
  | inl is_open ↦
      let says = opened_again own others (cond second a b) (subst (λ (n : ℕ). Begins (n ∷ (drop 1 (side own others) ++ 0 ∷ [])) (cond second a b)) is_open (subst (λ (l : List ℕ). Begins (gate.byte ∷ l) (cond second a b)) is gate.is)) in
      turned second over ends says
]
  where
    turned : (second : Bool) → (generation < own) ⊎ ((own ≡ generation) × (not second ≡ false)) → Ends (side generation bodies) (cond second b a) → Closed (side own others) (cond second a b) → Says lists a b
    turned true over ends says = record {
      second = false;
      generation = own;
      bodies = others;
      list = olist;
      one = oone;
      ends = closed says;
      beside = beside_greater true generation own lists b (⊎_elim (λ less. inl less) (λ same. inr (same.0, refl)) over) (marked_head generation bodies b ends);
    }
    turned false over ends says = record {
      second = true;
      generation = own;
      bodies = others;
      list = olist;
      one = oone;
      ends = closed says;
      beside = beside_greater false generation own lists a (⊎_elim (λ less. inl less) (λ same. absurd (cc same.1)) over) (marked_head generation bodies a ends);
    }
