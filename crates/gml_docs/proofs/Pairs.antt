-- The positions of words, two words after two words.
use Rattle.std.proofs.Common.{◌≡◌, ℕ, List, [], ◌∷◌, Result, Ok, Err, refl, sym, ap, ◌∙◌}
use Rattle.wfs_ends.specs.Read.{◌>>=◌, each}
use Rattle.wfs_ends.proofs.Turns.{ok_is}
use Rattle.geom_core.specs.Plane.{Point}
use Rattle.geom_core.specs.Shapes.{position_of}
use Rattle.geom_core.specs.declared.fault.GeomFault.{GeomFault}
use Rattle.gml_docs.specs.declared.fault.GmlFault.{GmlFault}
use Rattle.gml_docs.specs.declared.fault.GmlFault.TheVariants.{Number}
use Rattle.gml_docs.specs.Numbers.{words, point_of, points_of, located, behind, shaped, placed, positions_of}

-- what comes of words behind positions that were found
unfoldable pub resumed : Result (List Point) GeomFault → List (List ℕ) → Result (List Point) GmlFault
resumed found ws = points_of ws >>= λ ps. shaped found >>= λ qs. each placed qs ps

pub at_start : (text : List ℕ) → resumed (Ok []) (words text) ≡ positions_of text
unfolding resumed positions_of
at_start text = refl

pub at_end : (found : Result (List Point) GeomFault) → resumed found [] ≡ shaped found
unfolding resumed points_of each
at_end (Ok ps) = refl
at_end (Err e) = refl

pub one_left : (found : Result (List Point) GeomFault) (a : List ℕ) → resumed found (a ∷ []) ≡ Err Number
unfolding resumed points_of
one_left found a = refl

placed_of : (qs ps : List Point) (p : Point) (r : Result Point GeomFault) → position_of p.x p.y ≡ r
    → (placed qs p >>= λ more. each placed more ps) ≡ (shaped (behind (Ok qs) (position_of p.x p.y)) >>= λ more. each placed more ps)
unfolding placed
placed_of qs ps p (Ok q) e = rw e refl
placed_of qs ps p (Err fault) e = rw e refl

placed_behind : (found : Result (List Point) GeomFault) (p : Point) (ps : List Point)
    → (shaped found >>= λ qs. each placed qs (p ∷ ps)) ≡ (shaped (behind found (position_of p.x p.y)) >>= λ qs. each placed qs ps)
unfolding each
placed_behind (Err e) p ps = refl
placed_behind (Ok qs) p ps = placed_of qs ps p (position_of p.x p.y) refl

-- by what the two words write, and what is written behind them
module _ (found : Result (List Point) GeomFault) (rest : Result (List Point) GmlFault) (q : Result Point GeomFault) where
  goes : (r : Result Point GmlFault) → (r >>= λ p. Ok (position_of p.x p.y)) ≡ Ok q
      → (r >>= λ p. rest >>= λ ps. Ok (p ∷ ps)) >>= (λ ps. shaped found >>= λ qs. each placed qs ps) ≡ (rest >>= λ ps. shaped (behind found q) >>= λ qs. each placed qs ps)
  goes (Err fault) e = absurd cc
  goes (Ok p) e = with_rest rest
    where
      with_rest : (s : Result (List Point) GmlFault) → (s >>= λ ps. Ok (p ∷ ps)) >>= (λ ps. shaped found >>= λ qs. each placed qs ps) ≡ (s >>= λ ps. shaped (behind found q) >>= λ qs. each placed qs ps)
      with_rest (Err fault) = refl
      with_rest (Ok ps) = placed_behind found p ps ∙ ap (λ x. shaped (behind found x) >>= λ qs. each placed qs ps) (ok_is GmlFault _ _ e)

module _ (found : Result (List Point) GeomFault) (a b : List ℕ) (ws : List (List ℕ)) where
  pub goes_on : (q : Result Point GeomFault) → located a b ≡ Ok q → resumed found (a ∷ b ∷ ws) ≡ resumed (behind found q) ws
  unfolding resumed points_of located
  goes_on q is = goes found (points_of ws) q (point_of a b) is

  pub fails : (fault : GmlFault) → located a b ≡ Err fault → resumed found (a ∷ b ∷ ws) ≡ Err fault
  unfolding resumed points_of located
  fails fault is = by (point_of a b) is
    where
      by : (r : Result Point GmlFault) → (r >>= λ p. Ok (position_of p.x p.y)) ≡ Err fault → (r >>= λ p. points_of ws >>= λ ps. Ok (p ∷ ps)) >>= (λ ps. shaped found >>= λ qs. each placed qs ps) ≡ Err fault
      by (Ok p) e = absurd cc
      by (Err other) e = cc

-- ---- turns of a loop over words

module _ (found : Result (List Point) GeomFault) (ws : List (List ℕ)) (total : Result (List Point) GmlFault) (so_far : resumed found ws ≡ total) where
  pub all_read : ws ≡ [] → total ≡ shaped found
  all_read e = sym so_far ∙ ap (resumed found) e ∙ at_end found

  module _ (a : List ℕ) (rest : List (List ℕ)) (is : ws ≡ a ∷ rest) where
    pub odd : rest ≡ [] → total ≡ Err Number
    odd e = sym so_far ∙ ap (resumed found) (is ∙ ap (λ r. a ∷ r) e) ∙ one_left found a

    pub no_point : (b : List ℕ) (more : List (List ℕ)) (fault : GmlFault) → rest ≡ b ∷ more → located a b ≡ Err fault → total ≡ Err fault
    no_point b more fault e now = sym so_far ∙ ap (resumed found) (is ∙ ap (λ r. a ∷ r) e) ∙ fails found a b more fault now

    pub one_more : (b : List ℕ) (more : List (List ℕ)) (q : Result Point GeomFault) (next : Result (List Point) GeomFault)
        → rest ≡ b ∷ more → located a b ≡ Ok q → next ≡ behind found q → resumed next more ≡ total
    one_more b more q next e now with_it =
        ap (λ f. resumed f more) with_it ∙ sym (goes_on found a b more q now) ∙ sym (ap (resumed found) (is ∙ ap (λ r. a ∷ r) e)) ∙ so_far
