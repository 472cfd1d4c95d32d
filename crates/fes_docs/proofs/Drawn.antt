-- BBOX, Intersects and Disjoint read back as they were written.
use Rattle.std.proofs.Common.{◌≡◌, ℕ, ◌<◌, Bool, true, false, ◌&&◌, List, [], ◌∷◌, length, Option, Some, None, Result, Ok, Err, refl, sym, ap, subst, ◌∙◌, arith}
use Rattle.std.specs.Prelude.{ℤ, codes, if◌then◌else◌, int_le}
use Rattle.std.specs.List.{list_any, list_all}
use Rattle.std.specs.Str.{bytes_eq}
use Rattle.std.proofs.lemmas.Slice.Eq.{bytes_eq-Decides}
use Rattle.std.proofs.lemmas.Int.{ints}
use Rattle.wfs_ends.specs.Read.{◌>>=◌}
use Rattle.wfs_ends.proofs.Turns.{bind_ok, if_ok, ok_is}
use Rattle.doc_tree.specs.declared.tree.QName.{QName}
use Rattle.doc_tree.specs.declared.tree.Attribute.{Attribute}
use Rattle.doc_tree.specs.declared.tree.Element.{Element, out-Element}
use Rattle.geom_core.specs.Plane.{Point, IsPosition, Bounds}
use Rattle.geom_core.specs.Shapes.{is_coordinate, position_of, box_of}
use Rattle.geom_core.specs.declared.fault.GeomFault.{GeomFault}
use Rattle.geom_core.specs.declared.geometry.Geometry.{Geometry}
use Rattle.gml_docs.specs.declared.fault.GmlFault.{GmlFault}
use Rattle.gml_docs.specs.Numbers.{shaped, located, point_of, only_located, position_in, words}
use Rattle.doc_tree.specs.Attributes.{is_name, is_among}
use Rattle.gml_docs.specs.Elements.{is_gml, is_fitting, fitted, entered, no_more as gml_no_more, position_at, lower_corner, upper_corner, box_above, corners_of, envelope_of, geometry_of}
use Rattle.gml_docs.specs.Written.{gml_name, plain_name, position_text, element as gml_element, leaf as gml_leaf, parent as gml_parent, tree_of}
use Rattle.gml_docs.specs.RoundTrip.{IsGeometry}
use Rattle.gml_docs.proofs.Reading.{has_name, has_children, has_text, has_attributes, reads_back}
use Rattle.gml_docs.proofs.Texts.{position_again}
use Rattle.feature_values.specs.Ids.{is_colon}
use Rattle.feature_values.specs.declared.schema.FeatureType.{FeatureType}
use Rattle.feature_values.specs.declared.schema.Schema.{Schema}
use Rattle.fes_filter.specs.Check.{type_in, is_shape}
use Rattle.fes_filter.specs.declared.filter.Filter.{Filter}
use Rattle.fes_filter.specs.declared.filter.Filter.TheVariants.{InBox}
use Rattle.fes_docs.specs.declared.fault.FilterDocFault.{FilterDocFault}
use Rattle.fes_docs.specs.Names.{is_fes, fes_space, named, no_more, first_in, no_others}
use Rattle.fes_docs.specs.Sides.{property_at, suited}
use Rattle.fes_docs.specs.Spatial.{drawn, shape_at, envelope_alone, operands_of}
use Rattle.fes_docs.specs.Spatial.{box_of as bbox_of}
use Rattle.fes_docs.specs.Written.{attribute, parent, reference, first_name, envelope_tree, box_children, box_tree, shape_tree}
use Rattle.fes_docs.proofs.Built.{no_more_at_end, parent_children, parent_others}
use Rattle.fes_docs.proofs.Named.{reference_again, is_reference}
use Rattle.fes_docs.proofs.Beside.{suited_is, suits, reference_stands}

drawn_is : {A : Type 0} (r : Result A GmlFault) (x : A) → drawn r ≡ Ok x → r ≡ Ok x
drawn_is (Ok y) x e = ap Ok (ok_is FilterDocFault y x e)
drawn_is (Err fault) x e = absurd cc

shaped_is : {A : Type 0} (r : Result A GeomFault) (x : A) → shaped r ≡ Ok x → r ≡ Ok x
shaped_is (Ok y) x e = ap Ok (ok_is GmlFault y x e)
shaped_is (Err fault) x e = absurd cc

-- ---- positions lie within range

both : (a b : Bool) → (a && b) ≡ true → (a ≡ true) × (b ≡ true)
both true b e = (refl, e)
both false b e = absurd cc

position_is : (x y : ℤ) (p : Point) → position_of x y ≡ Ok p → IsPosition p
position_is x y p e =
    let held = if_ok (is_coordinate x && is_coordinate y) (Ok (record { x = x; y = y })) _ p e in
    let coordinates = both (is_coordinate x) (is_coordinate y) held.0 in
    subst IsPosition (ok_is GeomFault (record { x = x; y = y }) p held.1) (record {
      x = record { from = grind (arith, ints, coordinates.0); to = grind (arith, ints, coordinates.0) };
      y = record { from = grind (arith, ints, coordinates.1); to = grind (arith, ints, coordinates.1) };
    })

located_is : (ws : List (List ℕ)) (r : Result Point GeomFault) → only_located ws ≡ Ok r → (x : ℤ) × (y : ℤ) × (r ≡ position_of x y)
unfolding located
located_is [] r e = absurd cc
located_is (a ∷ []) r e = absurd cc
located_is (a ∷ b ∷ []) r e =
    let p = bind_ok (point_of a b) (λ p. Ok (position_of p.x p.y)) r e in
    (p.0.x, p.0.y, sym (ok_is GmlFault (position_of p.0.x p.0.y) r p.2))
located_is (a ∷ b ∷ c ∷ rest) r e = absurd cc

read_position : (text : List ℕ) (p : Point) → position_in text ≡ Ok p → IsPosition p
unfolding position_in
read_position text p e =
    let r = bind_ok (only_located (words text)) shaped p e in
    let at = located_is (words text) r.0 r.1 in
    position_is at.0 at.1 p (sym at.2 ∙ shaped_is r.0 p r.2)

corner_is : (local : List ℕ) (names : List (List ℕ)) (e : Element) (p : Point) → position_at local names e ≡ Ok p → IsPosition p
unfolding position_at
corner_is local names e p h =
    let name = bind_ok (entered local names e) (λ _. gml_no_more (out-Element e).children >>= λ _. position_in (out-Element e).text) p h in
    let none = bind_ok (gml_no_more (out-Element e).children) (λ _. position_in (out-Element e).text) p name.2 in
    read_position (out-Element e).text p none.2

-- ---- elements of GML

module _ (local : List ℕ) (attributes : List Attribute) (children : List Element) (text : List ℕ) (same : bytes_eq local local ≡ true) (names : List (List ℕ)) (fit : list_all (is_fitting names) attributes ≡ true) where
  abbrev e : Element
  e = gml_element local attributes children text

  enters : entered local names e ≡ Ok tt
  unfolding entered is_gml fitted gml_name
  enters = rw (has_name local attributes children text, same, has_attributes local attributes children text, fit) refl

gml_ends : gml_no_more [] ≡ Ok tt
unfolding gml_no_more
gml_ends = refl

corner_again : (local : List ℕ) (same : bytes_eq local local ≡ true) (names : List (List ℕ)) (p : Point) → IsPosition p → position_at local names (gml_leaf local (position_text p)) ≡ Ok p
unfolding position_at gml_leaf
corner_again local same names p h =
    rw (
      enters local [] [] (position_text p) same names refl,
      has_children local [] [] (position_text p),
      gml_ends,
      has_text local [] [] (position_text p),
    ) (position_again p h)

-- ---- boxes

-- what a box that was read is
pub record IsBox (area : Bounds) : Type 0 where
  pub low : IsPosition area.low
  pub high : IsPosition area.high
  pub turned : box_of area.low area.high ≡ Ok area

box_is : (low high : Point) (area : Bounds) → IsPosition low → IsPosition high → box_of low high ≡ Ok area → IsBox area
box_is low high area l h e =
    let held = if_ok (int_le low.x high.x && int_le low.y high.y) (Ok (record { low = low; high = high })) _ area e in
    let area_is : record { low = low; high = high } ≡ area = ok_is GeomFault (record { low = low; high = high }) area held.1 in
    subst IsBox area_is (record { low = l; high = h; turned = e ∙ ap Ok (sym area_is) })

above_is : (names : List (List ℕ)) (low : Point) (es : List Element) (area : Bounds) → IsPosition low → box_above names low es ≡ Ok area → IsBox area
unfolding upper_corner
above_is names low [] area l h = absurd cc
above_is names low (e ∷ es) area l h =
    let high = bind_ok (upper_corner names e) (λ p. gml_no_more es >>= λ _. shaped (box_of low p)) area h in
    let none = bind_ok (gml_no_more es) (λ _. shaped (box_of low high.0)) area high.2 in
    box_is low high.0 area l (corner_is (codes "upperCorner") names e high.0 high.1) (shaped_is (box_of low high.0) area none.2)

corners_is : (names : List (List ℕ)) (es : List Element) (area : Bounds) → corners_of names es ≡ Ok area → IsBox area
unfolding lower_corner
corners_is names [] area h = absurd cc
corners_is names (e ∷ es) area h =
    let low = bind_ok (lower_corner names e) (λ p. box_above names p es) area h in
    above_is names low.0 es area (corner_is (codes "lowerCorner") names e low.0 low.1) low.2

envelope_is : (names : List (List ℕ)) (e : Element) (area : Bounds) → envelope_of names e ≡ Ok area → IsBox area
unfolding envelope_of
envelope_is names e area h =
    let name = bind_ok (entered (codes "Envelope") names e) (λ _. corners_of names (out-Element e).children) area h in
    corners_is names (out-Element e).children area name.2

first_among : (names : List (List ℕ)) → 0 < length names → is_among names (first_name names) ≡ true
first_among [] h = absurd (omega (arith, h))
first_among (name ∷ names) h =
    let same : bytes_eq name name ≡ true = grind (arith, bytes_eq-Decides) in
    rw same refl

module _ (names : List (List ℕ)) (some : 0 < length names) where
  srs_fits : list_all (is_fitting names) (attribute (codes "srsName") (first_name names) ∷ []) ≡ true
  unfolding is_fitting attribute plain_name
  srs_fits = rw (first_among names some) refl

  envelope_again : (area : Bounds) → IsBox area → envelope_of names (envelope_tree names area) ≡ Ok area
  unfolding envelope_of envelope_tree gml_parent lower_corner upper_corner
  envelope_again area h =
      let attributes = attribute (codes "srsName") (first_name names) ∷ [] in
      let children = gml_leaf (codes "lowerCorner") (position_text area.low) ∷ gml_leaf (codes "upperCorner") (position_text area.high) ∷ [] in
      rw (
        enters (codes "Envelope") attributes children [] refl names srs_fits,
        has_children (codes "Envelope") attributes children [],
        corner_again (codes "lowerCorner") refl names area.low h.low,
        corner_again (codes "upperCorner") refl names area.high h.high,
        gml_ends,
        h.turned,
      ) refl

  no_reference : (area : Bounds) → is_fes (codes "ValueReference") (envelope_tree names area) ≡ false
  unfolding is_fes envelope_tree gml_parent gml_name
  no_reference area = ap (λ (n : QName). is_name fes_space (codes "ValueReference") n) (has_name (codes "Envelope") _ _ [])

  -- ---- BBOX

  alone_is : (whole : Element) (es : List Element) (area : Bounds) → envelope_alone names whole es ≡ Ok area → IsBox area
  unfolding envelope_alone
  alone_is whole es area h =
      let f = bind_ok (first_in whole es) (λ f. drawn (envelope_of names f.0) >>= λ a. no_more f.1 >>= λ _. Ok a) area h in
      let read = bind_ok (drawn (envelope_of names f.0.0)) (λ a. no_more f.0.1 >>= λ _. Ok a) area f.2 in
      let end = bind_ok (no_more f.0.1) (λ _. Ok read.0) area read.2 in
      envelope_is names f.0.0 area (drawn_is (envelope_of names f.0.0) area (read.1 ∙ end.2))

  alone_again : (whole : Element) (area : Bounds) → IsBox area → envelope_alone names whole (envelope_tree names area ∷ []) ≡ Ok area
  unfolding envelope_alone first_in
  alone_again whole area h = rw (envelope_again area h, no_more_at_end) refl

-- ---- properties of geometries

module _ (schema : Schema) (kind : Option ℕ) (no_colon : list_any is_colon schema.prefix ≡ false) (some : 0 < length schema.srs) where
  abbrev of_type : Option FeatureType
  of_type = type_in schema kind

  abbrev property : ℕ → Element
  property = reference schema kind

  shape_at_again : (e : Element) (i : ℕ) → shape_at of_type e ≡ Ok i → shape_at of_type (property i) ≡ Ok i
  unfolding shape_at
  shape_at_again e i h =
      let p = bind_ok (property_at of_type e) (λ p. suited (is_shape p.1) e >>= λ _. Ok p.0) i h in
      let suit = bind_ok (suited (is_shape p.0.1) e) (λ _. Ok p.0.0) i p.2 in
      let i_is : p.0.0 ≡ i = ok_is FilterDocFault p.0.0 i suit.2 in
      let again : property_at of_type (property i) ≡ Ok p.0 = ap (λ j. property_at of_type (property j)) (sym i_is) ∙ reference_again schema kind no_colon e p.0 p.1 in
      rw (again, suits (is_shape p.0.1) (property i) (suited_is (is_shape p.0.1) e suit.0 suit.1)) (ap Ok i_is)

  -- ---- BBOX

  abbrev BoxAgain : Filter → Type 0
  BoxAgain f = (i : Option ℕ) × (area : Bounds) × (f ≡ InBox i area) × (bbox_of schema.srs of_type (box_tree schema kind i area) ≡ Ok f)

  with_property : (whole e : Element) (rest : List Element) (f : Filter) → (shape_at of_type e >>= λ i. envelope_alone schema.srs whole rest >>= λ area. Ok (InBox (Some i) area)) ≡ Ok f → BoxAgain f
  unfolding bbox_of box_tree first_in
  with_property whole e rest f h =
      let i = bind_ok (shape_at of_type e) (λ i. envelope_alone schema.srs whole rest >>= λ area. Ok (InBox (Some i) area)) f h in
      let area = bind_ok (envelope_alone schema.srs whole rest) (λ area. Ok (InBox (Some i.0) area)) f i.2 in
      let f_is : f ≡ InBox (Some i.0) area.0 = sym (ok_is FilterDocFault (InBox (Some i.0) area.0) f area.2) in
      let children = box_children schema kind (Some i.0) (envelope_tree schema.srs area.0) in (
        Some i.0,
        area.0,
        f_is,
        rw (
          parent_others (codes "BBOX") children,
          parent_children (codes "BBOX") children,
          is_reference schema kind no_colon i.0 (codes "ValueReference"),
          shape_at_again e i.0 i.1,
          alone_again schema.srs some (parent (codes "BBOX") children) area.0 (alone_is schema.srs some whole rest area.0 area.1),
        ) (ap Ok (sym f_is)),
      )

  without_property : (whole : Element) (es : List Element) (f : Filter) → (envelope_alone schema.srs whole es >>= λ area. Ok (InBox None area)) ≡ Ok f → BoxAgain f
  unfolding bbox_of box_tree first_in
  without_property whole es f h =
      let area = bind_ok (envelope_alone schema.srs whole es) (λ area. Ok (InBox None area)) f h in
      let f_is : f ≡ InBox None area.0 = sym (ok_is FilterDocFault (InBox None area.0) f area.2) in
      let children = box_children schema kind None (envelope_tree schema.srs area.0) in (
        None,
        area.0,
        f_is,
        rw (
          parent_others (codes "BBOX") children,
          parent_children (codes "BBOX") children,
          no_reference schema.srs some area.0,
          alone_again schema.srs some (parent (codes "BBOX") children) area.0 (alone_is schema.srs some whole es area.0 area.1),
        ) (ap Ok (sym f_is)),
      )

  box_by : (b : Bool) (whole e : Element) (rest es : List Element) (f : Filter)
      → (if b then (shape_at of_type e >>= λ i. envelope_alone schema.srs whole rest >>= λ area. Ok (InBox (Some i) area)) else (envelope_alone schema.srs whole es >>= λ area. Ok (InBox None area))) ≡ Ok f → BoxAgain f
  box_by true whole e rest es f h = with_property whole e rest f h
  box_by false whole e rest es f h = without_property whole es f h

  pub box_again : (e : Element) (f : Filter) → bbox_of schema.srs of_type e ≡ Ok f → BoxAgain f
  unfolding bbox_of
  box_again e f h =
      let es = (out-Element e).children in
      let none = bind_ok (no_others [] e) (λ _. first_in e es >>= λ a. if is_fes (codes "ValueReference") a.0 then (shape_at of_type a.0 >>= λ i. envelope_alone schema.srs e a.1 >>= λ area. Ok (InBox (Some i) area)) else (envelope_alone schema.srs e es >>= λ area. Ok (InBox None area))) f h in
      let a = bind_ok (first_in e es) (λ a. if is_fes (codes "ValueReference") a.0 then (shape_at of_type a.0 >>= λ i. envelope_alone schema.srs e a.1 >>= λ area. Ok (InBox (Some i) area)) else (envelope_alone schema.srs e es >>= λ area. Ok (InBox None area))) f none.2 in
      box_by (is_fes (codes "ValueReference") a.0.0) e a.0.0 a.0.1 es f a.2

  -- ---- Intersects and Disjoint

  abbrev Operands : Type 0
  Operands = ℕ × Geometry

  shape_read : (e : Element) (o : Operands) → operands_of schema.srs of_type e ≡ Ok o → shape_at of_type (property o.0) ≡ Ok o.0
  unfolding operands_of
  shape_read e o h =
      let none = bind_ok (no_others [] e) (λ _. first_in e (out-Element e).children >>= λ a. named (codes "ValueReference") a.0 >>= λ _. shape_at of_type a.0 >>= λ i. first_in e a.1 >>= λ b. drawn (geometry_of schema.srs b.0) >>= λ g. no_more b.1 >>= λ _. Ok (i, g)) o h in
      let a = bind_ok (first_in e (out-Element e).children) (λ a. named (codes "ValueReference") a.0 >>= λ _. shape_at of_type a.0 >>= λ i. first_in e a.1 >>= λ b. drawn (geometry_of schema.srs b.0) >>= λ g. no_more b.1 >>= λ _. Ok (i, g)) o none.2 in
      let name = bind_ok (named (codes "ValueReference") a.0.0) (λ _. shape_at of_type a.0.0 >>= λ i. first_in e a.0.1 >>= λ b. drawn (geometry_of schema.srs b.0) >>= λ g. no_more b.1 >>= λ _. Ok (i, g)) o a.2 in
      let i = bind_ok (shape_at of_type a.0.0) (λ i. first_in e a.0.1 >>= λ b. drawn (geometry_of schema.srs b.0) >>= λ g. no_more b.1 >>= λ _. Ok (i, g)) o name.2 in
      let b = bind_ok (first_in e a.0.1) (λ b. drawn (geometry_of schema.srs b.0) >>= λ g. no_more b.1 >>= λ _. Ok (i.0, g)) o i.2 in
      let g = bind_ok (drawn (geometry_of schema.srs b.0.0)) (λ g. no_more b.0.1 >>= λ _. Ok (i.0, g)) o b.2 in
      let end = bind_ok (no_more b.0.1) (λ _. Ok (i.0, g.0)) o g.2 in
      let same : o.0 ≡ i.0 = ap (λ (x : Operands). x.0) (sym (ok_is FilterDocFault (i.0, g.0) o end.2)) in
      rw same (shape_at_again a.0.0 i.0 i.1)

  operands_again : (local : List ℕ) (e : Element) (o : Operands) → IsGeometry o.1 → operands_of schema.srs of_type e ≡ Ok o → operands_of schema.srs of_type (shape_tree schema kind local o.0 o.1) ≡ Ok o
  unfolding operands_of shape_tree first_in
  operands_again local e o g h =
      let children = property o.0 ∷ tree_of o.1 (codes "g") (first_name schema.srs) ∷ [] in
      rw (
        parent_others local children,
        parent_children local children,
        reference_stands None schema kind no_colon o.0,
        shape_read e o h,
        reads_back o.1 (codes "g") (first_name schema.srs) schema.srs g (first_among schema.srs some),
        no_more_at_end,
      ) refl

  -- a filter of two operands, in an element of this name
  pub drawn_again : (make : ℕ → Geometry → Filter) (local : List ℕ) (e : Element) (f : Filter) → (operands_of schema.srs of_type e >>= λ o. Ok (make o.0 o.1)) ≡ Ok f
      → (i : ℕ) × (g : Geometry) × (f ≡ make i g) × (IsGeometry g → (operands_of schema.srs of_type (shape_tree schema kind local i g) >>= λ o. Ok (make o.0 o.1)) ≡ Ok f)
  drawn_again make local e f h =
      let o = bind_ok (operands_of schema.srs of_type e) (λ o. Ok (make o.0 o.1)) f h in
      let f_is : f ≡ make o.0.0 o.0.1 = sym (ok_is FilterDocFault (make o.0.0 o.0.1) f o.2) in
      (o.0.0, o.0.1, f_is, λ g. rw (operands_again local e o.0 g o.1) (ap Ok (sym f_is)))
