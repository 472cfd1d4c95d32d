-- Lengths of what is written, and one turn of a loop that writes.
use Rattle.std.proofs.Common.{◌≡◌, ℕ, ◌+◌, ◌-◌, ◌<◌, ◌≤◌, List, [], ◌∷◌, ◌++◌, length, get_or, take, drop, refl, sym, ap, ◌∙◌, arith}
use Rattle.std.specs.List.{flat_map}
use Rattle.std.proofs.lemmas.List.{append-nil, length-append, at_drop_more, at_drop_all}
use Rattle.byteorder.specs.Endian.{big_bytes}
use Rattle.byteorder.specs.Numbers.{length-bytes_high_first}
use Rattle.byteorder.proofs.Bytes.{between-bytes_high_first}
use Rattle.wfs_ends.specs.Ends.{capped}
use Rattle.geom_core.specs.Plane.{Point, Area}
use Rattle.feature_values.specs.declared.feature.Rid.{Rid}
use Rattle.journal_format.specs.Numbers.{be}
use Rattle.journal_format.specs.Spelling.{text_bytes, counted, point_bytes, path_bytes, area_bytes, id_bytes}

pub length_be : (n x : ℕ) → length (be n x) ≡ n
unfolding be
length_be n x = length-bytes_high_first n x

pub length_text : (text : List ℕ) → length (text_bytes text) ≡ 4 + length text
unfolding text_bytes
length_text text = length-append (be 4 (length text)) text ∙ ap (λ n. n + length text) (length_be 4 (length text))

pub length_of_counted : {A : Type 0} (n : ℕ) (f : A → List ℕ) (xs : List A) → length (counted n f xs) ≡ n + length (flat_map f xs)
unfolding counted
length_of_counted n f xs = length-append (be n (length xs)) (flat_map f xs) ∙ ap (λ m. m + length (flat_map f xs)) (length_be n (length xs))

length_two : (n m x y : ℕ) → length (be n x ++ be m y) ≡ n + m
length_two n m x y =
    let a = length_be n x in
    let b = length_be m y in
    length-append (be n x) (be m y) ∙ rw (a, b) refl

pub length_point : (p : Point) → length (point_bytes p) ≡ 8
unfolding point_bytes
length_point p = length_two 4 4 _ _

pub length_path : (path : List Point) → length (path_bytes path) ≡ 4 + length (flat_map point_bytes path)
unfolding path_bytes
length_path path = length_of_counted 4 point_bytes path

pub length_id : (id : Rid) → length (id_bytes id) ≡ 10
unfolding id_bytes
length_id id = length_two 2 8 _ _

pub length_area : (area : Area) → length (area_bytes area) ≡ 4 + (length (path_bytes area.shell) + length (flat_map path_bytes area.holes))
unfolding area_bytes
length_area area =
    length_of_counted 4 path_bytes (area.shell ∷ area.holes) ∙ ap (λ n. 4 + n) (length-append (path_bytes area.shell) (flat_map path_bytes area.holes))

-- the last bytes of a number in eight bytes are the number in so many bytes
pub lowest : (n x : ℕ) (eight : List ℕ) → eight ≡ big_bytes 8 x ++ [] → n ≤ 8 → take (8 - (8 - n)) (drop (8 - n) eight) ≡ be n x
unfolding be
lowest n x eight is le =
    ap (λ ys. take (8 - (8 - n)) (drop (8 - n) ys)) (is ∙ append-nil (big_bytes 8 x)) ∙ between-bytes_high_first 8 n x le

pub flat_turn : {A : Type 0} (f : A → List ℕ) (xs : List A) (i : ℕ) (x : A) → i < length xs → x ≡ get_or xs i x → flat_map f (drop i xs) ≡ f x ++ flat_map f (drop (i + 1) xs)
flat_turn f xs i x lt is = at_drop_more (flat_map f) xs i x lt ∙ ap (λ y. f y ++ flat_map f (drop (i + 1) xs)) (sym is)

pub flat_end : {A : Type 0} (f : A → List ℕ) (xs : List A) (i : ℕ) → length xs ≤ i → flat_map f (drop i xs) ≡ []
flat_end f xs i le = at_drop_all (flat_map f) xs i le

pub capped_turn : (total x rest : ℕ) → capped (capped (total + capped x) + rest) ≡ capped (total + (x + rest))
capped_turn total x rest = grind arith
