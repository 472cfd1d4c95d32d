-- The element of a geometry reads back as that geometry.
use Rattle.std.proofs.Common.{◌≡◌, ℕ, true, List, [], ◌∷◌, ◌++◌, map, Ok, refl, sym, ap, ◌∙◌, append_assoc}
use Rattle.std.specs.Prelude.{codes, All}
use Rattle.std.specs.List.{list_all}
use Rattle.std.specs.Str.{bytes_eq}
use Rattle.std.proofs.lemmas.List.{append-nil}
use Rattle.std.proofs.lemmas.List.Elements.{All-head, All-tail}
use Rattle.wfs_ends.specs.Read.{each}
use Rattle.doc_tree.specs.declared.tree.Attribute.{Attribute}
use Rattle.doc_tree.specs.declared.tree.Element.{Element, out-Element}
use Rattle.doc_tree.specs.declared.tree.Element.TheOpen.{Element-F}
use Rattle.doc_tree.specs.declared.tree.Element.TheViews.{out-roll-Element}
use Rattle.geom_core.specs.Plane.{Point, IsPosition, Area}
use Rattle.geom_core.specs.Valid.{IsLineOf, IsRingOf, IsAreaOf}
use Rattle.geom_core.specs.declared.geometry.Geometry.TheVariants.{At, Along, Over}
use Rattle.geom_core.proofs.Valid.{line_is, ring_is, area_is}
use Rattle.doc_tree.specs.Attributes.{is_name, is_among}
use Rattle.gml_docs.specs.Elements.{gml_space, is_gml, is_fitting, fitted, entered, no_more, position_at, list_at, path_of, point_at, line_at, ring_at, only_ring, side_at, next_hole, area_of, polygon_at, geometry_of}
use Rattle.gml_docs.specs.Written.{position_text, positions_text, gml_name, plain_name, element, leaf, parent, attributes_of, list_tree, side_tree, hole_tree, area_trees, tree_of}
use Rattle.gml_docs.specs.RoundTrip.{ReadsBack}
use Rattle.gml_docs.proofs.Texts.{position_again, positions_again}

-- ---- what an element says

module _ (local : List ℕ) (attributes : List Attribute) (children : List Element) (text : List ℕ) where
  abbrev e : Element
  e = element local attributes children text

  is_named : (want : List ℕ) → is_gml want e ≡ bytes_eq local want
  unfolding is_gml gml_name element
  is_named want = ap (λ (o : Element-F Element). is_name gml_space want o.name) (out-roll-Element _)

  pub has_name : (out-Element e).name ≡ gml_name local
  unfolding element
  has_name = ap (λ (o : Element-F Element). o.name) (out-roll-Element _)

  pub has_children : (out-Element e).children ≡ children
  unfolding element
  has_children = ap (λ (o : Element-F Element). o.children) (out-roll-Element _)

  pub has_text : (out-Element e).text ≡ text
  unfolding element
  has_text = ap (λ (o : Element-F Element). o.text) (out-roll-Element _)

  pub has_attributes : (out-Element e).attributes ≡ attributes
  unfolding element
  has_attributes = ap (λ (o : Element-F Element). o.attributes) (out-roll-Element _)

  is_fitted : (names : List (List ℕ)) → list_all (is_fitting names) attributes ≡ true → fitted names e ≡ Ok tt
  unfolding fitted
  is_fitted names h = rw (has_attributes, h) refl

  is_entered : (names : List (List ℕ)) → bytes_eq local local ≡ true → list_all (is_fitting names) attributes ≡ true → entered local names e ≡ Ok tt
  unfolding entered
  is_entered names same h = rw (is_named local, same) (is_fitted names h)

-- the attributes that are written
attributes_fit : (names : List (List ℕ)) (id srs : List ℕ) → is_among names srs ≡ true → list_all (is_fitting names) (attributes_of id srs) ≡ true
unfolding attributes_of is_fitting gml_name plain_name
attributes_fit names id srs h = rw h refl

no_more_at_end : no_more [] ≡ Ok tt
unfolding no_more
no_more_at_end = refl

-- ---- positions

module _ (names : List (List ℕ)) where
  position_back : (p : Point) → IsPosition p → position_at (codes "pos") names (leaf (codes "pos") (position_text p)) ≡ Ok p
  unfolding position_at leaf
  position_back p h =
      rw (
        is_entered (codes "pos") [] [] (position_text p) names refl refl,
        has_children (codes "pos") [] [] (position_text p),
        no_more_at_end,
        has_text (codes "pos") [] [] (position_text p),
      ) (position_again p h)

  list_back : (ps : List Point) → All IsPosition ps → list_at names (list_tree ps) ≡ Ok ps
  unfolding list_at list_tree leaf
  list_back ps h =
      rw (
        is_entered (codes "posList") [] [] (positions_text ps) names refl refl,
        has_children (codes "posList") [] [] (positions_text ps),
        no_more_at_end,
        has_text (codes "posList") [] [] (positions_text ps),
      ) (positions_again ps h)

  is_list : (ps : List Point) → is_gml (codes "posList") (list_tree ps) ≡ true
  unfolding list_tree leaf
  is_list ps = is_named (codes "posList") [] [] (positions_text ps) (codes "posList")

  path_back : (ps : List Point) → All IsPosition ps → path_of names (list_tree ps ∷ []) ≡ Ok ps
  unfolding path_of
  path_back ps h = rw (is_list ps, list_back ps h, no_more_at_end) refl

  -- ---- rings

  ring_back : (ring : List Point) → IsRingOf ring → ring_at names (parent (codes "LinearRing") [] (list_tree ring ∷ [])) ≡ Ok ring
  unfolding ring_at parent
  ring_back ring h =
      rw (
        is_entered (codes "LinearRing") [] (list_tree ring ∷ []) [] names refl refl,
        has_children (codes "LinearRing") [] (list_tree ring ∷ []) [],
        path_back ring h.positions,
        ring_is ring h.ring,
      ) refl

  one_back : (ring : List Point) (inner : Element) → ring_at names inner ≡ Ok ring → only_ring names (inner ∷ []) ≡ Ok ring
  one_back ring inner back = rw (back, no_more_at_end) refl

  side_back : (local : List ℕ) → bytes_eq local local ≡ true → (ring : List Point) → IsRingOf ring → side_at local names (side_tree local ring) ≡ Ok ring
  unfolding side_at side_tree parent
  side_back local same ring h =
      let inner : List Element = element (codes "LinearRing") [] (list_tree ring ∷ []) [] ∷ [] in
      rw (
        is_entered local [] inner [] names same refl,
        has_children local [] inner [],
      ) (one_back ring (parent (codes "LinearRing") [] (list_tree ring ∷ [])) (ring_back ring h))

  holes_back : (found holes : List (List Point)) → All IsRingOf holes → each (next_hole names) found (map hole_tree holes) ≡ Ok (found ++ holes)
  unfolding each next_hole hole_tree
  holes_back found [] h = ap Ok (sym (append-nil found))
  holes_back found (hole ∷ holes) h =
      rw (side_back (codes "interior") refl hole (All-head IsRingOf hole holes h))
      (holes_back (found ++ hole ∷ []) holes (All-tail IsRingOf hole holes h) ∙ ap Ok (append_assoc found (hole ∷ []) holes))

  area_back : (area : Area) → IsAreaOf area → area_of names (area_trees area) ≡ Ok area
  unfolding area_of area_trees
  area_back area h = rw (side_back (codes "exterior") refl area.shell h.shell, holes_back [] area.holes h.holes, area_is area h.area) refl

-- ---- the whole

module _ (names : List (List ℕ)) (id srs : List ℕ) (known : is_among names srs ≡ true) where
  abbrev written : List Attribute
  written = attributes_of id srs

  point_back : (p : Point) → IsPosition p → geometry_of names (tree_of (At p) id srs) ≡ Ok (At p)
  unfolding geometry_of tree_of point_at parent
  point_back p h =
      let children : List Element = leaf (codes "pos") (position_text p) ∷ [] in
      rw (
        is_named (codes "Point") written children [] (codes "Point"),
        is_fitted (codes "Point") written children [] names (attributes_fit names id srs known),
        has_children (codes "Point") written children [],
        position_back names p h,
        no_more_at_end,
      ) refl

  line_back : (line : List Point) → IsLineOf line → geometry_of names (tree_of (Along line) id srs) ≡ Ok (Along line)
  unfolding geometry_of tree_of line_at parent
  line_back line h =
      let children : List Element = list_tree line ∷ [] in
      rw (
        is_named (codes "LineString") written children [] (codes "Point"),
        is_named (codes "LineString") written children [] (codes "LineString"),
        is_fitted (codes "LineString") written children [] names (attributes_fit names id srs known),
        has_children (codes "LineString") written children [],
        path_back names line h.positions,
        line_is line h.line,
      ) refl

  polygon_back : (area : Area) → IsAreaOf area → geometry_of names (tree_of (Over area) id srs) ≡ Ok (Over area)
  unfolding geometry_of tree_of polygon_at parent
  polygon_back area h =
      let children : List Element = area_trees area in
      rw (
        is_named (codes "Polygon") written children [] (codes "Point"),
        is_named (codes "Polygon") written children [] (codes "LineString"),
        is_named (codes "Polygon") written children [] (codes "Polygon"),
        is_fitted (codes "Polygon") written children [] names (attributes_fit names id srs known),
        has_children (codes "Polygon") written children [],
        area_back names area h,
      ) refl

pub reads_back : ReadsBack
reads_back (At p) id srs names h known = point_back names id srs known p h
reads_back (Along line) id srs names h known = line_back names id srs known line h
reads_back (Over area) id srs names h known = polygon_back names id srs known area h
