-- The element of a geometry stands in a canonical text, no larger than one that the geometry was read from.
use Rattle.std.proofs.Common.{◌≡◌, ℕ, pred, ◌<◌, true, false, List, [], ◌∷◌, ◌++◌, map, Ok, refl, sym, ap, subst, ◌∙◌, inl, inr, append_assoc, arith}
use Rattle.std.specs.Prelude.{codes}
use Rattle.std.proofs.lemmas.List.{append-nil}
use Rattle.wfs_ends.specs.Read.{each}
use Rattle.wfs_ends.proofs.Turns.{bind_ok, chosen, ok_is}
use Rattle.doc_tree.specs.declared.tree.Attribute.{Attribute}
use Rattle.doc_tree.specs.declared.tree.Element.{Element, out-Element}
use Rattle.doc_tree.specs.declared.tree.Prefixes.{Prefixes}
use Rattle.doc_read.specs.Scope.{has_twins}
use Rattle.doc_read.specs.Grammar.{IsName}
use Rattle.doc_laws.specs.RoundTrip.{ArePrefixes, is_covered}
use Rattle.doc_laws.proofs.Facts.{Meant}
use Rattle.doc_laws.proofs.Sizes.{no_text, Fits, FitAll, parts, split}
use Rattle.doc_laws.proofs.Canonical.{Canon, CanonContent}
use Rattle.doc_laws.proofs.Nodes.{IsTag, bare, standing_node, nothing, beside, alone}
use Rattle.geom_core.specs.Plane.{Point, Area, Bounds}
use Rattle.geom_core.specs.Shapes.{line_of, polygon_of}
use Rattle.geom_core.specs.declared.geometry.Geometry.{Geometry}
use Rattle.geom_core.specs.declared.geometry.Geometry.TheVariants.{At, Along, Over}
use Rattle.gml_docs.specs.declared.fault.GmlFault.{GmlFault}
use Rattle.gml_docs.specs.Numbers.{shaped}
use Rattle.gml_docs.specs.Elements.{is_gml, fitted, entered, no_more, path_of, only_position, point_at, line_at, ring_at, only_ring, side_at, next_hole, area_of, polygon_at, geometry_of, lower_corner, box_above, corners_of, envelope_of}
use Rattle.gml_docs.specs.Written.{gml_name, plain_name, position_text, element, leaf, parent, attributes_of, list_tree, side_tree, hole_tree, area_trees, tree_of}
use Rattle.fes_docs.specs.Written.{attribute, first_name, envelope_tree}
use Rattle.filter_laws.proofs.Texts.{position_meant, positions_meant}
use Rattle.filter_laws.proofs.Shapes.{shaped_is, polygon_is}

module _ (names : Prefixes) (are : ArePrefixes names) (gml : is_covered names (gml_name []) ≡ true) where
  tag : (local : List ℕ) → IsName local → IsTag names (gml_name local) []
  unfolding gml_name
  tag local is = bare names (gml_name local) gml is

  leaf_stands : (d n : ℕ) (local text : List ℕ) → IsName local → Meant text → 0 < d → 0 < n → Canon names false d (leaf local text) n
  unfolding leaf element
  leaf_stands d n local text is meant deep some = standing_node names false d n (gml_name local) [] [] text are (tag local is) meant deep some (nothing names false (pred d) (pred n))

  -- one with attributes, and with elements in it
  parent_stands : (d n : ℕ) (local : List ℕ) (xs : List Attribute) (kid : Element) (kids : List Element) → IsTag names (gml_name local) xs → 0 < d → 0 < n → CanonContent names false (pred d) (kid ∷ kids) (pred n)
      → Canon names false d (parent local xs (kid ∷ kids)) n
  unfolding parent element
  parent_stands d n local xs kid kids is deep some c = standing_node names false d n (gml_name local) xs (kid ∷ kids) [] are is no_text deep some c

  list_stands : (d n : ℕ) (ps : List Point) → 0 < d → 0 < n → Canon names false d (list_tree ps) n
  unfolding list_tree
  list_stands d n ps deep some = leaf_stands d n (codes "posList") _ (record { first = refl; each = refl }) (positions_meant ps) deep some

  -- ---- what was read is not larger

  record Room (d n : ℕ) : Type 0 where
    deep : 0 < d
    some : 0 < n

  room : (d n : ℕ) (e : Element) (es : List Element) → FitAll d n (e ∷ es) → Room d n
  room d n e es fit = let s = split d n e es fit in record { deep = s.deep; some = omega (arith, s.some, s.total) }

  module _ (srs : List (List ℕ)) where
    path_room : (d n : ℕ) (es : List Element) (ps : List Point) → path_of srs es ≡ Ok ps → FitAll d n es → Room d n
    unfolding path_of
    path_room d n [] ps h fit = absurd cc
    path_room d n (e ∷ es) ps h fit = room d n e es fit

    ring_stands : (d n : ℕ) (e : Element) (ring : List Point) → ring_at srs e ≡ Ok ring → Fits d n e → Canon names false d (parent (codes "LinearRing") [] (list_tree ring ∷ [])) n
    unfolding ring_at
    ring_stands d n e ring h fit =
        let name = bind_ok (entered (codes "LinearRing") srs e) _ ring h in
        let ps = bind_ok (path_of srs (out-Element e).children) _ ring name.2 in
        let p = parts d n e fit in
        let r = path_room (pred d) (pred n) (out-Element e).children ps.0 ps.1 p.kids in
        parent_stands d n (codes "LinearRing") [] _ [] (tag (codes "LinearRing") (record { first = refl; each = refl })) p.deep p.many
        (alone names false (pred d) (pred n) _ (list_stands (pred d) (pred n) ring r.deep r.some))

    only_stands : (d n : ℕ) (es : List Element) (ring : List Point) → only_ring srs es ≡ Ok ring → FitAll d n es → CanonContent names false d (parent (codes "LinearRing") [] (list_tree ring ∷ []) ∷ []) n
    only_stands d n [] ring h fit = absurd cc
    only_stands d n (e ∷ es) ring h fit =
        let r = bind_ok (ring_at srs e) _ ring h in
        let end = bind_ok (no_more es) _ ring r.2 in
        let s = split d n e es fit in
        beside names false d s.here 0 n _ [] (omega (arith, s.total)) (ring_stands d s.here e ring (r.1 ∙ end.2) s.one) (nothing names false d 0)

    side_stands : (d n : ℕ) (local : List ℕ) (e : Element) (ring : List Point) → IsName local → side_at local srs e ≡ Ok ring → Fits d n e → Canon names false d (side_tree local ring) n
    unfolding side_at side_tree
    side_stands d n local e ring is h fit =
        let name = bind_ok (entered local srs e) _ ring h in
        let p = parts d n e fit in
        parent_stands d n local [] _ [] (tag local is) p.deep p.many (only_stands (pred d) (pred n) (out-Element e).children ring name.2 p.kids)

    record Holes (d n : ℕ) (acc all : List (List Point)) : Type 0 where
      more : List (List Point)
      is : all ≡ acc ++ more
      stand : CanonContent names false d (map hole_tree more) n

    holes_stand : (d n : ℕ) (es : List Element) (acc all : List (List Point)) → each (next_hole srs) acc es ≡ Ok all → FitAll d n es → Holes d n acc all
    unfolding each next_hole hole_tree
    holes_stand d n [] acc all h fit = record { more = []; is = sym (ok_is GmlFault acc all h) ∙ sym (append-nil acc); stand = nothing names false d n }
    holes_stand d n (e ∷ es) acc all h fit =
        let x = bind_ok (next_hole srs acc e) (λ more. each (next_hole srs) more es) all h in
        let hole = bind_ok (side_at (codes "interior") srs e) (λ hole. Ok (acc ++ hole ∷ [])) x.0 x.1 in
        let s = split d n e es fit in
        let rest = holes_stand d s.there es x.0 all x.2 s.rest in
        let x_is : acc ++ hole.0 ∷ [] ≡ x.0 = ok_is GmlFault (acc ++ hole.0 ∷ []) x.0 hole.2 in
        record {
          more = hole.0 ∷ rest.more;
          is = rest.is ∙ ap (λ xs. xs ++ rest.more) (sym x_is) ∙ append_assoc acc (hole.0 ∷ []) rest.more;
          stand = beside names false d s.here s.there n _ _ s.total (side_stands d s.here (codes "interior") e hole.0 (record { first = refl; each = refl }) hole.1 s.one) rest.stand;
        }

    area_stands : (d n : ℕ) (es : List Element) (area : Area) → area_of srs es ≡ Ok area → FitAll d n es → CanonContent names false d (area_trees area) n
    unfolding area_of area_trees
    area_stands d n [] area h fit = absurd cc
    area_stands d n (e ∷ es) area h fit =
        let shell = bind_ok (side_at (codes "exterior") srs e) _ area h in
        let holes = bind_ok (each (next_hole srs) [] es) _ area shell.2 in
        let is = (polygon_is srs shell.0 holes.0 area (shaped_is (polygon_of shell.0 holes.0) area holes.2)).1 in
        let s = split d n e es fit in
        let inside = holes_stand d s.there es [] holes.0 holes.1 s.rest in
        let trees = subst (λ hs. CanonContent names false d (map hole_tree hs) s.there) (sym inside.is) inside.stand in
        subst (λ (a : Area). CanonContent names false d (side_tree (codes "exterior") a.shell ∷ map hole_tree a.holes) n) is
        (beside names false d s.here s.there n _ _ s.total (side_stands d s.here (codes "exterior") e shell.0 (record { first = refl; each = refl }) shell.1 s.one) trees)

    -- ---- geometries

    module _ (id name : List ℕ) (id_is : Meant id) (name_is : Meant name) where
      shape_tag : (local : List ℕ) → IsName local → IsTag names (gml_name local) (attributes_of id name)
      unfolding gml_name plain_name attributes_of has_twins
      shape_tag local is = record {
        covered = gml;
        local = is;
        attributes = rw gml refl;
        good = (record { local = record { first = refl; each = refl }; no_xmlns = λ e. refl; value = id_is }, (record { local = record { first = refl; each = refl }; no_xmlns = λ e. refl; value = name_is }, tt));
        once = refl;
        few = omega arith;
      }

      point_stands : (d n : ℕ) (e : Element) (p : Point) → only_position srs (out-Element e).children ≡ Ok p → Fits d n e → Canon names false d (parent (codes "Point") (attributes_of id name) (leaf (codes "pos") (position_text p) ∷ [])) n
      point_stands d n e p h fit =
          let q = parts d n e fit in
          let r = only_room (pred d) (pred n) (out-Element e).children p h q.kids in
          parent_stands d n (codes "Point") (attributes_of id name) _ [] (shape_tag (codes "Point") (record { first = refl; each = refl })) q.deep q.many
          (alone names false (pred d) (pred n) _ (leaf_stands (pred d) (pred n) (codes "pos") _ (record { first = refl; each = refl }) (position_meant p) r.deep r.some))
        where
          only_room : (d n : ℕ) (es : List Element) (p : Point) → only_position srs es ≡ Ok p → FitAll d n es → Room d n
          only_room d n [] p h fit = absurd cc
          only_room d n (e ∷ es) p h fit = room d n e es fit

      line_stands : (d n : ℕ) (e : Element) (ps line : List Point) → path_of srs (out-Element e).children ≡ Ok ps → Fits d n e → Canon names false d (parent (codes "LineString") (attributes_of id name) (list_tree line ∷ [])) n
      line_stands d n e ps line h fit =
          let q = parts d n e fit in
          let r = path_room (pred d) (pred n) (out-Element e).children ps h q.kids in
          parent_stands d n (codes "LineString") (attributes_of id name) _ [] (shape_tag (codes "LineString") (record { first = refl; each = refl })) q.deep q.many
          (alone names false (pred d) (pred n) _ (list_stands (pred d) (pred n) line r.deep r.some))

      polygon_stands : (d n : ℕ) (e : Element) (area : Area) → area_of srs (out-Element e).children ≡ Ok area → Fits d n e → Canon names false d (parent (codes "Polygon") (attributes_of id name) (area_trees area)) n
      unfolding area_trees
      polygon_stands d n e area h fit =
          let q = parts d n e fit in
          parent_stands d n (codes "Polygon") (attributes_of id name) _ _ (shape_tag (codes "Polygon") (record { first = refl; each = refl })) q.deep q.many
          (area_stands (pred d) (pred n) (out-Element e).children area h q.kids)

      abbrev Stands : ℕ → ℕ → Geometry → Type 0
      Stands d n g = Canon names false d (tree_of g id name) n

      pub geometry_stands : (d n : ℕ) (e : Element) (g : Geometry) → geometry_of srs e ≡ Ok g → Fits d n e → Canon names false d (tree_of g id name) n
      unfolding geometry_of point_at line_at polygon_at tree_of
      geometry_stands d n e g h fit = elim (chosen (is_gml (codes "Point") e) _ _ (Ok g) h) [
        | inl k ↦
            let fits = bind_ok (fitted srs e) _ g k.1 in
            let p = bind_ok (only_position srs (out-Element e).children) _ g fits.2 in
            subst (Stands d n) (ok_is GmlFault (At p.0) g p.2) (point_stands d n e p.0 p.1 fit)
        | inr k ↦ elim (chosen (is_gml (codes "LineString") e) _ _ (Ok g) k.1) [
          | inl l ↦
              let fits = bind_ok (fitted srs e) _ g l.1 in
              let ps = bind_ok (path_of srs (out-Element e).children) _ g fits.2 in
              let line = bind_ok (shaped (line_of ps.0)) _ g ps.2 in
              subst (Stands d n) (ok_is GmlFault (Along line.0) g line.2) (line_stands d n e ps.0 line.0 ps.1 fit)
          | inr l ↦ elim (chosen (is_gml (codes "Polygon") e) _ _ (Ok g) l.1) [
            | inl m ↦
                let fits = bind_ok (fitted srs e) _ g m.1 in
                let area = bind_ok (area_of srs (out-Element e).children) _ g fits.2 in
                subst (Stands d n) (ok_is GmlFault (Over area.0) g area.2) (polygon_stands d n e area.0 area.1 fit)
            | inr m ↦ absurd (cc m.1)
          ]
        ]
      ]

    -- ---- boxes

    srs_tag : (local value : List ℕ) → IsName local → Meant value → IsTag names (gml_name local) (attribute (codes "srsName") value ∷ [])
    unfolding gml_name plain_name attribute has_twins
    srs_tag local value is meant = record {
      covered = gml;
      local = is;
      attributes = refl;
      good = (record { local = record { first = refl; each = refl }; no_xmlns = λ e. refl; value = meant }, tt);
      once = refl;
      few = omega arith;
    }

    corners_stand : (d n : ℕ) (es : List Element) (area : Bounds) → corners_of srs es ≡ Ok area → FitAll d n es
        → CanonContent names false d (leaf (codes "lowerCorner") (position_text area.low) ∷ leaf (codes "upperCorner") (position_text area.high) ∷ []) n
    corners_stand d n [] area h fit = absurd cc
    corners_stand d n (e ∷ []) area h fit =
        let low = bind_ok (lower_corner srs e) (λ p. box_above srs p []) area h in
        absurd (cc low.2)
    corners_stand d n (e ∷ f ∷ es) area h fit =
        let s = split d n e (f ∷ es) fit in
        let t = split d s.there f es s.rest in
        beside names false d s.here s.there n _ _ s.total (leaf_stands d s.here (codes "lowerCorner") _ (record { first = refl; each = refl }) (position_meant area.low) s.deep s.some)
        (alone names false d s.there _ (leaf_stands d s.there (codes "upperCorner") _ (record { first = refl; each = refl }) (position_meant area.high) s.deep (omega (arith, t.some, t.total))))

    pub envelope_stands : (d n : ℕ) (e : Element) (area : Bounds) → envelope_of srs e ≡ Ok area → Meant (first_name srs) → Fits d n e → Canon names false d (envelope_tree srs area) n
    unfolding envelope_of envelope_tree
    envelope_stands d n e area h meant fit =
        let name = bind_ok (entered (codes "Envelope") srs e) _ area h in
        let p = parts d n e fit in
        parent_stands d n (codes "Envelope") _ _ _ (srs_tag (codes "Envelope") (first_name srs) (record { first = refl; each = refl }) meant) p.deep p.many
        (corners_stand (pred d) (pred n) (out-Element e).children area name.2 p.kids)
