-- Each geometry that is read is one.
use Rattle.std.proofs.Common.{◌≡◌, ℕ, ◌+◌, ◌≤◌, Bool, true, false, ◌&&◌, List, [], ◌∷◌, ◌++◌, length, Result, Ok, Err, refl, ap, subst, ◌∙◌, inl, inr, arith}
use Rattle.std.specs.Prelude.{ℤ, codes, All, if◌then◌else◌, nat_lt, sum_by}
use Rattle.std.proofs.lemmas.Bool.Decides.{nat_tests}
use Rattle.std.proofs.lemmas.Int.{ints}
use Rattle.std.proofs.lemmas.List.Elements.{All-nil, All-push}
use Rattle.wfs_ends.specs.Read.{each}
use Rattle.wfs_ends.proofs.Turns.{bind_ok, if_ok, chosen, ok_is}
use Rattle.doc_tree.specs.declared.tree.Element.{Element, out-Element}
use Rattle.geom_core.specs.Plane.{Point, IsPosition, Area}
use Rattle.geom_core.specs.Shapes.{is_coordinate, is_closed, are_holes_within, position_of, line_of, ring_of, polygon_of, IsLine, IsRing, IsPolygon}
use Rattle.geom_core.specs.declared.fault.GeomFault.{GeomFault}
use Rattle.geom_core.specs.declared.fault.GeomFault.TheVariants.{TooMany, TooFew, NotClosed, HoleOutside}
use Rattle.geom_core.specs.declared.geometry.Geometry.{Geometry}
use Rattle.geom_core.specs.declared.geometry.Geometry.TheVariants.{At, Along, Over}
use Rattle.gml_docs.specs.declared.fault.GmlFault.{GmlFault}
use Rattle.gml_docs.specs.declared.fault.GmlFault.TheVariants.{Kind}
use Rattle.gml_docs.specs.Numbers.{shaped, located, point_of, points_of, only_located, placed, positions_of, position_in, words}
use Rattle.gml_docs.specs.Elements.{is_gml, fitted, entered, no_more, position_at, list_at, next_position, several, path_of, only_position, point_at, line_at, ring_at, only_ring, side_at, next_hole, area_of, polygon_at, geometry_of}
use Rattle.geom_core.specs.Valid.{IsRingOf, IsAreaOf, IsGeometry}

pub shaped_is : {A : Type 0} (r : Result A GeomFault) (x : A) → shaped r ≡ Ok x → r ≡ Ok x
shaped_is (Ok y) x e = ap Ok (ok_is GmlFault y x e)
shaped_is (Err fault) x e = absurd cc

both : (a b : Bool) → (a && b) ≡ true → (a ≡ true) × (b ≡ true)
both true b e = (refl, e)
both false b e = absurd cc

-- ---- positions

position_is : (x y : ℤ) (p : Point) → position_of x y ≡ Ok p → IsPosition p
position_is x y p e =
    let held = if_ok (is_coordinate x && is_coordinate y) (Ok (record { x = x; y = y })) _ p e in
    let coordinates = both (is_coordinate x) (is_coordinate y) held.0 in
    subst IsPosition (ok_is GeomFault (record { x = x; y = y }) p held.1) (record {
      x = record { from = grind (arith, ints, coordinates.0); to = grind (arith, ints, coordinates.0) };
      y = record { from = grind (arith, ints, coordinates.1); to = grind (arith, ints, coordinates.1) };
    })

located_is : (ws : List (List ℕ)) (r : Result Point GeomFault) (p : Point) → only_located ws ≡ Ok r → r ≡ Ok p → IsPosition p
unfolding located
located_is [] r p e h = absurd cc
located_is (a ∷ []) r p e h = absurd cc
located_is (a ∷ b ∷ []) r p e h =
    let q = bind_ok (point_of a b) (λ p. Ok (position_of p.x p.y)) r e in
    position_is q.0.x q.0.y p (ok_is GmlFault (position_of q.0.x q.0.y) r q.2 ∙ h)
located_is (a ∷ b ∷ c ∷ rest) r p e h = absurd cc

text_position : (text : List ℕ) (p : Point) → position_in text ≡ Ok p → IsPosition p
unfolding position_in
text_position text p e =
    let r = bind_ok (only_located (words text)) shaped p e in
    located_is (words text) r.0 p r.1 (shaped_is r.0 p r.2)

placed_are : (ps acc all : List Point) → All IsPosition acc → each placed acc ps ≡ Ok all → All IsPosition all
unfolding each placed
placed_are [] acc all so_far h = subst (All IsPosition) (ok_is GmlFault acc all h) so_far
placed_are (p ∷ ps) acc all so_far h =
    let x = bind_ok (placed acc p) (λ more. each placed more ps) all h in
    let q = bind_ok (shaped (position_of p.x p.y)) (λ q. Ok (acc ++ q ∷ [])) x.0 x.1 in
    let is = position_is p.x p.y q.0 (shaped_is (position_of p.x p.y) q.0 q.1) in
    let more = subst (All IsPosition) (ok_is GmlFault (acc ++ q.0 ∷ []) x.0 q.2) (All-push IsPosition acc q.0 so_far is) in
    placed_are ps x.0 all more x.2

text_positions : (text : List ℕ) (ps : List Point) → positions_of text ≡ Ok ps → All IsPosition ps
unfolding positions_of
text_positions text ps h =
    let points = bind_ok (points_of (words text)) (each placed []) ps h in
    placed_are points.0 [] ps (All-nil IsPosition) points.2

module _ (srs : List (List ℕ)) where
  at_position : (local : List ℕ) (e : Element) (p : Point) → position_at local srs e ≡ Ok p → IsPosition p
  unfolding position_at
  at_position local e p h =
      let name = bind_ok (entered local srs e) _ p h in
      let none = bind_ok (no_more (out-Element e).children) _ p name.2 in
      text_position (out-Element e).text p none.2

  list_positions : (e : Element) (ps : List Point) → list_at srs e ≡ Ok ps → All IsPosition ps
  unfolding list_at
  list_positions e ps h =
      let name = bind_ok (entered (codes "posList") srs e) _ ps h in
      let none = bind_ok (no_more (out-Element e).children) _ ps name.2 in
      text_positions (out-Element e).text ps none.2

  each_position : (es : List Element) (acc all : List Point) → All IsPosition acc → each (next_position srs) acc es ≡ Ok all → All IsPosition all
  unfolding each next_position
  each_position [] acc all so_far h = subst (All IsPosition) (ok_is GmlFault acc all h) so_far
  each_position (e ∷ es) acc all so_far h =
      let x = bind_ok (next_position srs acc e) (λ more. each (next_position srs) more es) all h in
      let p = bind_ok (position_at (codes "pos") srs e) (λ p. Ok (acc ++ p ∷ [])) x.0 x.1 in
      let more = subst (All IsPosition) (ok_is GmlFault (acc ++ p.0 ∷ []) x.0 p.2) (All-push IsPosition acc p.0 so_far (at_position (codes "pos") e p.0 p.1)) in
      each_position es x.0 all more x.2

  enough : (b : Bool) (ps qs : List Point) → (if b then Err Kind else Ok ps) ≡ Ok qs → ps ≡ qs
  enough true ps qs h = absurd cc
  enough false ps qs h = ok_is GmlFault ps qs h

  path_positions : (es : List Element) (ps : List Point) → path_of srs es ≡ Ok ps → All IsPosition ps
  unfolding path_of several
  path_positions [] ps h = absurd cc
  path_positions (e ∷ es) ps h = elim (chosen (is_gml (codes "posList") e) _ _ (Ok ps) h) [
    | inl g ↦
        let list = bind_ok (list_at srs e) _ ps g.1 in
        let end = bind_ok (no_more es) _ ps list.2 in
        subst (All IsPosition) (ok_is GmlFault list.0 ps end.2) (list_positions e list.0 list.1)
    | inr g ↦
        let found = bind_ok (each (next_position srs) [] (e ∷ es)) _ ps g.1 in
        subst (All IsPosition) (enough (nat_lt (length found.0) 2) found.0 ps found.2) (each_position (e ∷ es) [] found.0 (All-nil IsPosition) found.1)
  ]

  -- ---- shapes

  not_less : (a b : ℕ) → nat_lt a b ≡ false → b ≤ a
  not_less a b h = grind (arith, nat_tests)

  line_is : (ps line : List Point) → line_of ps ≡ Ok line → IsLine line × (ps ≡ line)
  line_is ps line h = by (nat_lt 10_000 (length ps)) (nat_lt (length ps) 2) refl refl h
    where
      by : (a b : Bool) → nat_lt 10_000 (length ps) ≡ a → nat_lt (length ps) 2 ≡ b → (if a then Err TooMany else if b then Err TooFew else Ok ps) ≡ Ok line → IsLine line × (ps ≡ line)
      by true b e f h = absurd cc
      by false true e f h = absurd cc
      by false false e f h =
          let is : ps ≡ line = ok_is GeomFault ps line h in
          (subst IsLine is (record { few = not_less (length ps) 2 f; many = not_less 10_000 (length ps) e }), is)

  ring_is : (ps ring : List Point) → ring_of ps ≡ Ok ring → IsRing ring × (ps ≡ ring)
  ring_is ps ring h = by (nat_lt 10_000 (length ps)) (nat_lt (length ps) 4) (is_closed ps) refl refl refl h
    where
      by : (a b c : Bool) → nat_lt 10_000 (length ps) ≡ a → nat_lt (length ps) 4 ≡ b → is_closed ps ≡ c → (if a then Err TooMany else if b then Err TooFew else if c then Ok ps else Err NotClosed) ≡ Ok ring
          → IsRing ring × (ps ≡ ring)
      by true b c e f g h = absurd cc
      by false true c e f g h = absurd cc
      by false false false e f g h = absurd cc
      by false false true e f g h =
          let is : ps ≡ ring = ok_is GeomFault ps ring h in
          (subst IsRing is (record { few = not_less (length ps) 4 f; many = not_less 10_000 (length ps) e; closed = g }), is)

  pub polygon_is : (shell : List Point) (holes : List (List Point)) (area : Area) → polygon_of shell holes ≡ Ok area → IsPolygon shell holes × (record { shell = shell; holes = holes } ≡ area)
  polygon_is shell holes area h = by (nat_lt 10_000 (length shell + sum_by length holes)) (are_holes_within shell holes) refl refl h
    where
      by : (a b : Bool) → nat_lt 10_000 (length shell + sum_by length holes) ≡ a → are_holes_within shell holes ≡ b → (if a then Err TooMany else if b then Ok (record { shell = shell; holes = holes }) else Err HoleOutside) ≡ Ok area
          → IsPolygon shell holes × (record { shell = shell; holes = holes } ≡ area)
      by true b e f h = absurd cc
      by false false e f h = absurd cc
      by false true e f h = (record { many = not_less 10_000 (length shell + sum_by length holes) e; inside = f }, ok_is GeomFault (record { shell = shell; holes = holes }) area h)

  ring_read : (e : Element) (ring : List Point) → ring_at srs e ≡ Ok ring → IsRingOf ring
  unfolding ring_at
  ring_read e ring h =
      let name = bind_ok (entered (codes "LinearRing") srs e) _ ring h in
      let ps = bind_ok (path_of srs (out-Element e).children) _ ring name.2 in
      let is = ring_is ps.0 ring (shaped_is (ring_of ps.0) ring ps.2) in
      record { ring = is.0; positions = subst (All IsPosition) is.1 (path_positions (out-Element e).children ps.0 ps.1) }

  only_read : (es : List Element) (ring : List Point) → only_ring srs es ≡ Ok ring → IsRingOf ring
  only_read [] ring h = absurd cc
  only_read (e ∷ es) ring h =
      let r = bind_ok (ring_at srs e) _ ring h in
      let end = bind_ok (no_more es) _ ring r.2 in
      subst IsRingOf (ok_is GmlFault r.0 ring end.2) (ring_read e r.0 r.1)

  side_read : (local : List ℕ) (e : Element) (ring : List Point) → side_at local srs e ≡ Ok ring → IsRingOf ring
  unfolding side_at
  side_read local e ring h =
      let name = bind_ok (entered local srs e) _ ring h in
      only_read (out-Element e).children ring name.2

  holes_read : (es : List Element) (acc all : List (List Point)) → All IsRingOf acc → each (next_hole srs) acc es ≡ Ok all → All IsRingOf all
  unfolding each next_hole
  holes_read [] acc all so_far h = subst (All IsRingOf) (ok_is GmlFault acc all h) so_far
  holes_read (e ∷ es) acc all so_far h =
      let x = bind_ok (next_hole srs acc e) (λ more. each (next_hole srs) more es) all h in
      let hole = bind_ok (side_at (codes "interior") srs e) (λ hole. Ok (acc ++ hole ∷ [])) x.0 x.1 in
      let more = subst (All IsRingOf) (ok_is GmlFault (acc ++ hole.0 ∷ []) x.0 hole.2) (All-push IsRingOf acc hole.0 so_far (side_read (codes "interior") e hole.0 hole.1)) in
      holes_read es x.0 all more x.2

  area_read : (es : List Element) (area : Area) → area_of srs es ≡ Ok area → IsAreaOf area
  unfolding area_of
  area_read [] area h = absurd cc
  area_read (e ∷ es) area h =
      let shell = bind_ok (side_at (codes "exterior") srs e) _ area h in
      let holes = bind_ok (each (next_hole srs) [] es) _ area shell.2 in
      let is = polygon_is shell.0 holes.0 area (shaped_is (polygon_of shell.0 holes.0) area holes.2) in
      subst IsAreaOf is.1 (record { area = is.0; shell = side_read (codes "exterior") e shell.0 shell.1; holes = holes_read es [] holes.0 (All-nil IsRingOf) holes.1 })

  only_point : (es : List Element) (p : Point) → only_position srs es ≡ Ok p → IsPosition p
  only_point [] p h = absurd cc
  only_point (e ∷ es) p h =
      let q = bind_ok (position_at (codes "pos") srs e) _ p h in
      let end = bind_ok (no_more es) _ p q.2 in
      subst IsPosition (ok_is GmlFault q.0 p end.2) (at_position (codes "pos") e q.0 q.1)

  pub geometry_is : (e : Element) (g : Geometry) → geometry_of srs e ≡ Ok g → IsGeometry g
  unfolding geometry_of point_at line_at polygon_at
  geometry_is e g h = elim (chosen (is_gml (codes "Point") e) _ _ (Ok g) h) [
    | inl k ↦
        let fits = bind_ok (fitted srs e) _ g k.1 in
        let p = bind_ok (only_position srs (out-Element e).children) _ g fits.2 in
        subst IsGeometry (ok_is GmlFault (At p.0) g p.2) (only_point (out-Element e).children p.0 p.1)
    | inr k ↦ elim (chosen (is_gml (codes "LineString") e) _ _ (Ok g) k.1) [
      | inl l ↦
          let fits = bind_ok (fitted srs e) _ g l.1 in
          let ps = bind_ok (path_of srs (out-Element e).children) _ g fits.2 in
          let line = bind_ok (shaped (line_of ps.0)) _ g ps.2 in
          let is = line_is ps.0 line.0 (shaped_is (line_of ps.0) line.0 line.1) in
          subst IsGeometry (ok_is GmlFault (Along line.0) g line.2) (record { line = is.0; positions = subst (All IsPosition) is.1 (path_positions (out-Element e).children ps.0 ps.1) })
      | inr l ↦ elim (chosen (is_gml (codes "Polygon") e) _ _ (Ok g) l.1) [
        | inl m ↦
            let fits = bind_ok (fitted srs e) _ g m.1 in
            let area = bind_ok (area_of srs (out-Element e).children) _ g fits.2 in
            subst IsGeometry (ok_is GmlFault (Over area.0) g area.2) (area_read (out-Element e).children area.0 area.1)
        | inr m ↦ absurd (cc m.1)
      ]
    ]
  ]
