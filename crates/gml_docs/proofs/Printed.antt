-- The canonical text of a geometry's element, by pieces.
use Rattle.std.proofs.Common.{◌≡◌, ℕ, zero, suc, ◌<◌, Bool, true, false, List, [], ◌∷◌, ◌++◌, length, map, refl, sym, ap, ◌∙◌, length-append, append_assoc, arith}
use Rattle.std.specs.Prelude.{ℤ, pos, negsuc, codes, decimal, ◌==◌, ◌/◌, ◌%◌, ◌||◌, ◌&&◌, nat_le, if◌then◌else◌}
use Rattle.std.specs.List.{flat_map, list_all}
use Rattle.std.specs.Str.{IsAscii, IsUtf8}
use Rattle.std.specs.Fmt.{digit_glyph, digits, digits_onto, signed_decimal}
use Rattle.std.proofs.lemmas.List.{append-nil}
use Rattle.std.proofs.lemmas.List.Concat.{flat_map-cons}
use Rattle.std.proofs.lemmas.List.Folds.{list_all-append}
use Rattle.std.proofs.lemmas.Str.{IsUtf8-from_ascii}
use Rattle.std.proofs.lemmas.Str.Ascii.{IsAscii-nil, IsAscii-cons}
use Rattle.std.proofs.lemmas.Bool.Decides.{nat_tests}
use Rattle.wfs_ends.specs.Ends.{joined}
use Rattle.doc_tree.specs.Characters.{is_plain}
use Rattle.doc_tree.specs.Escape.{escaped, escaped_byte, escaped_bytes}
use Rattle.doc_tree.specs.Tree.{prefixed, name_text, attribute_text, tag_text, end_tag_text, opened_text, leaf_text, element_text}
use Rattle.doc_tree.specs.declared.tree.Attribute.{Attribute}
use Rattle.doc_tree.specs.declared.tree.Element.{Element}
use Rattle.doc_tree.specs.declared.tree.Prefixes.{Prefixes}
use Rattle.doc_tree.proofs.Escapes.{both, plain_bytes, allowed_escaped, escaped_append}
use Rattle.doc_tree.proofs.Trees.{leaf_is, full_is}
use Rattle.geom_core.specs.Plane.{Point, Area}
use Rattle.geom_core.specs.declared.geometry.Geometry.TheVariants.{At, Along, Over}
use Rattle.gml_docs.specs.Written.{position_text, next_text, positions_text, gml_name, plain_name, element, leaf, parent, attributes_of, list_tree, side_tree, hole_tree, area_trees, tree_of}
use Rattle.gml_docs.specs.Printed.{id_text, gml_prefixes, geometry_text, WritesGml, StandsAlike, head_text, some_positions_text, list_text, ring_text, hole_text, point_text, line_text, area_text}
use Rattle.gml_docs.proofs.Reading.{has_name, has_children, has_text, has_attributes}

-- ---- numbers need no escape

-- a text that is written byte for byte
abbrev Plain : Bool → List ℕ → Type 0
Plain v bs = escaped v bs ≡ bs

-- a digit, a minus, a space or a dot
abbrev is_mild : ℕ → Bool
is_mild b = (b == 45) || (b == 32) || (b == 46) || (nat_le 48 b && nat_le b 57)

abbrev AreMild : List ℕ → Type 0
AreMild bs = list_all is_mild bs ≡ true

mild_byte : (v : Bool) (b : ℕ) → is_mild b ≡ true → escaped_byte v b ≡ b ∷ []
unfolding escaped_byte
mild_byte v b h = grind (arith, nat_tests, h)

mild_low : (b : ℕ) → is_mild b ≡ true → b < 128
mild_low b h = grind (arith, nat_tests, h)

mild_plain : (b : ℕ) → is_mild b ≡ true → is_plain b ≡ true
mild_plain b h = grind (arith, nat_tests, h)

mild_ascii : (bs : List ℕ) → AreMild bs → IsAscii bs
mild_ascii [] h = IsAscii-nil
mild_ascii (b ∷ bs) h = let k = both (is_mild b) (list_all is_mild bs) h in IsAscii-cons b bs (mild_low b k.0) (mild_ascii bs k.1)

all_plain : (bs : List ℕ) → AreMild bs → list_all is_plain bs ≡ true
all_plain [] h = refl
all_plain (b ∷ bs) h = let k = both (is_mild b) (list_all is_mild bs) h in rw (mild_plain b k.0) (all_plain bs k.1)

all_bytes : (v : Bool) (bs : List ℕ) → AreMild bs → escaped_bytes v bs ≡ bs
all_bytes v [] h = refl
all_bytes v (b ∷ bs) h =
    let k = both (is_mild b) (list_all is_mild bs) h in
    flat_map-cons (escaped_byte v) b bs ∙ rw (mild_byte v b k.0, all_bytes v bs k.1) refl

mild_utf8 : (bs : List ℕ) → AreMild bs → IsUtf8 bs
mild_utf8 bs h = IsUtf8-from_ascii bs (mild_ascii bs h)

-- mild bytes are characters of their own, which every document may hold
all_mild : (v : Bool) (bs : List ℕ) → AreMild bs → Plain v bs
all_mild v bs h =
    let text = mild_utf8 bs h in
    allowed_escaped v bs text (plain_bytes bs text (all_plain bs h)) ∙ all_bytes v bs h

mild_cons : (b : ℕ) (bs : List ℕ) → is_mild b ≡ true → AreMild bs → AreMild (b ∷ bs)
mild_cons b bs h rest = rw (h, rest) refl

mild_append : (a b : List ℕ) → AreMild a → AreMild b → AreMild (a ++ b)
mild_append a b p q = list_all-append is_mild a b ∙ rw (p, q) refl

glyph : (d : ℕ) → d < 10 → is_mild (digit_glyph false d) ≡ true
glyph d lt = grind (arith, nat_tests)

digits_mild : (k n : ℕ) (acc : List ℕ) → AreMild acc → AreMild (digits_onto k 10 false n acc)
digits_mild zero n acc h = h
digits_mild (suc k) n acc h =
    let one = mild_cons (digit_glyph false (n % 10)) acc (glyph (n % 10) (omega arith)) h in
    by (n / 10 == 0) one (digits_mild k (n / 10) (digit_glyph false (n % 10) ∷ acc) one)
  where
    by : (t : Bool) → AreMild (digit_glyph false (n % 10) ∷ acc) → AreMild (digits_onto k 10 false (n / 10) (digit_glyph false (n % 10) ∷ acc))
        → AreMild (if t then digit_glyph false (n % 10) ∷ acc else digits_onto k 10 false (n / 10) (digit_glyph false (n % 10) ∷ acc))
    by true one more = one
    by false one more = more

decimal_mild : (n : ℕ) → AreMild (decimal n)
unfolding digits
decimal_mild n = digits_mild 64 n [] refl

number_mild : (z : ℤ) → AreMild (signed_decimal z)
number_mild (pos n) = decimal_mild n
number_mild (negsuc n) = mild_cons 45 (decimal (suc n)) refl (decimal_mild (suc n))

-- ---- so positions need none

position_mild : (p : Point) → AreMild (position_text p)
unfolding position_text joined
position_mild p =
    mild_append (signed_decimal p.x) (32 ∷ (signed_decimal p.y ++ [])) (number_mild p.x)
    (mild_cons 32 (signed_decimal p.y ++ []) refl (mild_append (signed_decimal p.y) [] (number_mild p.y) refl))

next_mild : (p : Point) → AreMild (next_text p)
unfolding next_text
next_mild p = mild_cons 32 (position_text p) refl (position_mild p)

rest_mild : (ps : List Point) → AreMild (flat_map next_text ps)
rest_mild [] = refl
rest_mild (p ∷ ps) = rw (flat_map-cons next_text p ps) (mild_append (next_text p) (flat_map next_text ps) (next_mild p) (rest_mild ps))

positions_mild : (ps : List Point) → AreMild (positions_text ps)
unfolding positions_text
positions_mild [] = refl
positions_mild (p ∷ ps) = mild_append (position_text p) (flat_map next_text ps) (position_mild p) (rest_mild ps)

position_some : (p : Point) → (length (position_text p) == 0) ≡ false
unfolding position_text joined
position_some p = grind (arith, nat_tests, length-append)

positions_some : (p : Point) (ps : List Point) → (length (positions_text (p ∷ ps)) == 0) ≡ false
unfolding positions_text position_text joined
positions_some p ps = grind (arith, nat_tests, length-append)

-- mild bytes in front are written as they are
mild_front : (a b : List ℕ) → AreMild a → escaped true (a ++ b) ≡ a ++ escaped true b
mild_front a b h = escaped_append true a b (mild_utf8 a h) ∙ rw (all_mild true a h) refl

dot : (bs : List ℕ) → escaped true (46 ∷ bs) ≡ 46 ∷ escaped true bs
dot bs = mild_front (46 ∷ []) bs refl

-- an identifier needs it in its names alone
pub id_escaped : (kind : List ℕ) (number : ℕ) (property : List ℕ) → IsUtf8 kind → escaped true (id_text kind number property)
    ≡ joined (escaped true kind ∷ codes "." ∷ decimal number ∷ codes "." ∷ escaped true property ∷ [])
unfolding id_text joined
id_escaped kind number property text =
    escaped_append true kind (46 ∷ (decimal number ++ 46 ∷ (property ++ []))) text
    ∙ ap (λ (t : List ℕ). escaped true kind ++ t) (dot (decimal number ++ 46 ∷ (property ++ []))
    ∙ ap (λ (t : List ℕ). 46 ∷ t) (mild_front (decimal number) (46 ∷ (property ++ [])) (decimal_mild number)
    ∙ rw (dot (property ++ []), append-nil property, append-nil (escaped true property)) refl))

-- ---- the same pieces in other groups

group_attributes : (a e q b s : List ℕ) → (a ++ (e ++ q)) ++ ((b ++ (s ++ q)) ++ []) ≡ a ++ (e ++ (q ++ (b ++ (s ++ q))))
group_attributes a e q b s = simp (append_assoc, append-nil) refl

group_head : (l n a e m s q g : List ℕ) → (l ++ (n ++ ((a ++ (e ++ (m ++ (s ++ q)))) ++ []))) ++ g ≡ (l ++ (n ++ a)) ++ (e ++ (m ++ (s ++ (q ++ g))))
group_head l n a e m s q g = simp (append_assoc, append-nil) refl

group_parent : (l n g r : List ℕ) → (l ++ n) ++ (g ++ r) ≡ (l ++ (n ++ g)) ++ r
group_parent l n g r = simp append_assoc refl

group_leaf : (l n g t e : List ℕ) → (l ++ n) ++ (((g ++ (t ++ [])) ++ (e ++ [])) ++ []) ≡ (l ++ (n ++ g)) ++ (t ++ (e ++ []))
group_leaf l n g t e = simp (append_assoc, append-nil) refl

group_empty : (l n g : List ℕ) → (l ++ n) ++ (g ++ []) ≡ l ++ (n ++ g)
group_empty l n g = simp (append_assoc, append-nil) refl

group_point : (h a p b e : List ℕ) → h ++ ((a ++ (p ++ (b ++ []))) ++ (e ++ [])) ≡ h ++ (a ++ (p ++ ((b ++ e) ++ [])))
group_point h a p b e = simp (append_assoc, append-nil) refl

group_area : (h x ring y holes e : List ℕ) → h ++ (((x ++ (ring ++ (y ++ []))) ++ holes) ++ (e ++ [])) ≡ h ++ (x ++ (ring ++ (y ++ (holes ++ (e ++ [])))))
group_area h x ring y holes e = simp (append_assoc, append-nil) refl

-- ---- elements

some_child : (c : Element) (cs : List Element) → (length (c ∷ cs) == 0) ≡ false
some_child c cs = grind (arith, nat_tests)

module _ (names : Prefixes) (h : WritesGml names) where
  name_is : (local : List ℕ) → name_text names (gml_name local) ≡ codes "gml:" ++ local
  unfolding name_text gml_name prefixed joined
  name_is local = rw h.gml (rw append-nil refl)

  plain_is : (local : List ℕ) → name_text names (plain_name local) ≡ local
  unfolding name_text plain_name
  plain_is local = rw h.plain refl

  bare_is : (local : List ℕ) → tag_text names false (gml_name local) [] ≡ codes "<gml:" ++ local
  unfolding tag_text joined
  bare_is local = rw (name_is local) (ap (λ (t : List ℕ). codes "<gml:" ++ t) (append-nil local))

  end_is : (local : List ℕ) → end_tag_text names (gml_name local) ≡ codes "</gml:" ++ (local ++ codes ">")
  unfolding end_tag_text joined
  end_is local = rw (name_is local) refl

  attributes_are : (id srs : List ℕ) → flat_map (attribute_text names) (attributes_of id srs)
      ≡ codes " gml:id=\"" ++ (escaped true id ++ (codes "\" srsName=\"" ++ (escaped true srs ++ codes "\"")))
  unfolding attributes_of attribute_text joined
  attributes_are id srs =
      rw (name_is (codes "id"), plain_is (codes "srsName")) (group_attributes (codes " gml:id=\"") (escaped true id) (codes "\"") (codes " srsName=\"") (escaped true srs))

  full : (local : List ℕ) (attributes : List Attribute) (c : Element) (cs : List Element) → element_text names false (parent local attributes (c ∷ cs))
      ≡ joined (tag_text names false (gml_name local) attributes ∷ opened_text [] ∷ flat_map (element_text names false) (c ∷ cs) ∷ end_tag_text names (gml_name local) ∷ [])
  unfolding parent
  full local attributes c cs =
      full_is names false (element local attributes (c ∷ cs) []) (rw (has_children local attributes (c ∷ cs) []) (some_child c cs))
      ∙ rw (has_name local attributes (c ∷ cs) [], has_attributes local attributes (c ∷ cs) [], has_text local attributes (c ∷ cs) [], has_children local attributes (c ∷ cs) []) refl

  alone : (local text : List ℕ) → element_text names false (leaf local text)
      ≡ joined (tag_text names false (gml_name local) [] ∷ leaf_text names (gml_name local) text ∷ [])
  unfolding leaf
  alone local text =
      leaf_is names false (element local [] [] text) (rw (has_children local [] [] text) refl)
      ∙ rw (has_name local [] [] text, has_attributes local [] [] text, has_text local [] [] text) refl

  opened_nothing : opened_text [] ≡ codes ">"
  unfolding opened_text joined
  opened_nothing = rw (all_mild false [] refl) refl

  dressed : (start local id srs : List ℕ) → start ≡ codes "<gml:" ++ (local ++ codes " gml:id=\"")
      → tag_text names false (gml_name local) (attributes_of id srs) ++ codes ">" ≡ head_text start id srs
  unfolding tag_text head_text joined
  dressed start local id srs e =
      rw (e, attributes_are id srs, name_is local)
      (group_head (codes "<gml:") local (codes " gml:id=\"") (escaped true id) (codes "\" srsName=\"") (escaped true srs) (codes "\"") (codes ">"))

  -- an element that has children alone, with its attributes and without
  with_id : (start local id srs : List ℕ) (c : Element) (cs : List Element) → start ≡ codes "<gml:" ++ (local ++ codes " gml:id=\"")
      → element_text names false (parent local (attributes_of id srs) (c ∷ cs))
      ≡ joined (head_text start id srs ∷ flat_map (element_text names false) (c ∷ cs) ∷ (codes "</gml:" ++ (local ++ codes ">")) ∷ [])
  unfolding joined
  with_id start local id srs c cs e =
      full local (attributes_of id srs) c cs
      ∙ rw (opened_nothing, end_is local) (sym (append_assoc (tag_text names false (gml_name local) (attributes_of id srs)) (codes ">") _) ∙ rw (dressed start local id srs e) refl)

  without : (local : List ℕ) (c : Element) (cs : List Element) → element_text names false (parent local [] (c ∷ cs))
      ≡ joined ((codes "<gml:" ++ (local ++ codes ">")) ∷ flat_map (element_text names false) (c ∷ cs) ∷ (codes "</gml:" ++ (local ++ codes ">")) ∷ [])
  unfolding joined
  without local c cs = full local [] c cs ∙ rw (opened_nothing, end_is local, bare_is local) (group_parent (codes "<gml:") local (codes ">") _)

  -- one that has a text alone
  with_text : (local text : List ℕ) → (length text == 0) ≡ false → Plain false text → element_text names false (leaf local text)
      ≡ joined ((codes "<gml:" ++ (local ++ codes ">")) ∷ text ∷ (codes "</gml:" ++ (local ++ codes ">")) ∷ [])
  unfolding leaf_text opened_text joined
  with_text local text some plain = alone local text ∙ rw (some, plain, bare_is local, end_is local) (group_leaf (codes "<gml:") local (codes ">") text (codes "</gml:" ++ (local ++ codes ">")))

  without_text : (local : List ℕ) → element_text names false (leaf local []) ≡ codes "<gml:" ++ (local ++ codes "/>")
  unfolding leaf_text joined
  without_text local = alone local [] ∙ rw (bare_is local) (group_empty (codes "<gml:") local (codes "/>"))

  -- ---- geometries

  list_is : (ps : List Point) → element_text names false (list_tree ps) ≡ list_text ps
  unfolding list_tree some_positions_text positions_text
  list_is [] = without_text (codes "posList")
  list_is (p ∷ ps) = with_text (codes "posList") (positions_text (p ∷ ps)) (positions_some p ps) (all_mild false (positions_text (p ∷ ps)) (positions_mild (p ∷ ps)))

  one : (e : Element) → flat_map (element_text names false) (e ∷ []) ≡ element_text names false e
  one e = flat_map-cons (element_text names false) e [] ∙ append-nil (element_text names false e)

  inner_is : (ring : List Point) → element_text names false (parent (codes "LinearRing") [] (list_tree ring ∷ [])) ≡ ring_text ring
  unfolding ring_text
  inner_is ring = without (codes "LinearRing") (list_tree ring) [] ∙ rw (one (list_tree ring), list_is ring) refl

  side_is : (local : List ℕ) (ring : List Point) → element_text names false (side_tree local ring)
      ≡ joined ((codes "<gml:" ++ (local ++ codes ">")) ∷ ring_text ring ∷ (codes "</gml:" ++ (local ++ codes ">")) ∷ [])
  unfolding side_tree
  side_is local ring =
      let inner : Element = parent (codes "LinearRing") [] (list_tree ring ∷ []) in
      without local inner [] ∙ rw (one inner, inner_is ring) refl

  hole_is : (hole : List Point) → element_text names false (hole_tree hole) ≡ hole_text hole
  unfolding hole_tree hole_text
  hole_is hole = side_is (codes "interior") hole

  holes_are : (holes : List (List Point)) → flat_map (element_text names false) (map hole_tree holes) ≡ flat_map hole_text holes
  holes_are [] = refl
  holes_are (hole ∷ holes) =
      flat_map-cons (element_text names false) (hole_tree hole) (map hole_tree holes)
      ∙ rw (hole_is hole, holes_are holes) (sym (flat_map-cons hole_text hole holes))

  position_is : (p : Point) → element_text names false (leaf (codes "pos") (position_text p)) ≡ joined (codes "<gml:pos>" ∷ position_text p ∷ codes "</gml:pos>" ∷ [])
  position_is p = with_text (codes "pos") (position_text p) (position_some p) (all_mild false (position_text p) (position_mild p))

  point_is : (p : Point) (id srs : List ℕ) → element_text names false (tree_of (At p) id srs) ≡ point_text p id srs
  unfolding tree_of point_text joined
  point_is p id srs =
      with_id (codes "<gml:Point gml:id=\"") (codes "Point") id srs (leaf (codes "pos") (position_text p)) [] refl
      ∙ rw (one (leaf (codes "pos") (position_text p)), position_is p) (group_point _ (codes "<gml:pos>") (position_text p) (codes "</gml:pos>") (codes "</gml:Point>"))

  line_is : (line : List Point) (id srs : List ℕ) → element_text names false (tree_of (Along line) id srs) ≡ line_text line id srs
  unfolding tree_of line_text
  line_is line id srs =
      with_id (codes "<gml:LineString gml:id=\"") (codes "LineString") id srs (list_tree line) [] refl
      ∙ rw (one (list_tree line), list_is line) refl

  area_is : (area : Area) (id srs : List ℕ) → element_text names false (tree_of (Over area) id srs) ≡ area_text area id srs
  unfolding tree_of area_trees area_text joined
  area_is area id srs =
      with_id (codes "<gml:Polygon gml:id=\"") (codes "Polygon") id srs (side_tree (codes "exterior") area.shell) (map hole_tree area.holes) refl
      ∙ rw (flat_map-cons (element_text names false) (side_tree (codes "exterior") area.shell) (map hole_tree area.holes), side_is (codes "exterior") area.shell, holes_are area.holes)
      (group_area _ (codes "<gml:exterior>") (ring_text area.shell) (codes "</gml:exterior>") (flat_map hole_text area.holes) (codes "</gml:Polygon>"))

-- ---- the whole

own : WritesGml gml_prefixes
unfolding gml_prefixes
own = record { gml = refl; plain = refl }

pub prints_point : (p : Point) (id srs : List ℕ) → geometry_text (At p) id srs ≡ point_text p id srs
unfolding geometry_text
prints_point p id srs = point_is gml_prefixes own p id srs

pub prints_line : (line : List Point) (id srs : List ℕ) → geometry_text (Along line) id srs ≡ line_text line id srs
unfolding geometry_text
prints_line line id srs = line_is gml_prefixes own line id srs

pub prints_area : (area : Area) (id srs : List ℕ) → geometry_text (Over area) id srs ≡ area_text area id srs
unfolding geometry_text
prints_area area id srs = area_is gml_prefixes own area id srs

pub stands_alike : StandsAlike
stands_alike names (At p) id srs h = point_is names h p id srs ∙ sym (prints_point p id srs)
stands_alike names (Along line) id srs h = line_is names h line id srs ∙ sym (prints_line line id srs)
stands_alike names (Over area) id srs h = area_is names h area id srs ∙ sym (prints_area area id srs)
