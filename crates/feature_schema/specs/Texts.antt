-- The texts and names that a schema file may hold.
use Rattle.std.specs.Prelude.{ℕ, Bool, false, not, ◌&&◌, ◌||◌, ◌==◌, nat_le, nat_eq, List, [], ◌∷◌, length, codes}
use Rattle.std.specs.List.{list_all, starts_with}
use Rattle.std.specs.Str.{bytes_eq, is_utf8, chars}
use Rattle.doc_tree.specs.Characters.{is_allowed}

abbrev pub is_in_range : ℕ → ℕ → ℕ → Bool
is_in_range low high c = nat_le low c && nat_le c high

-- a character that a document may hold, other than a line feed
unfoldable pub is_line_character : ℕ → Bool
is_line_character c = is_allowed c && not (c == 10)

-- a text of 1 to 256 such characters
unfoldable pub is_line : List ℕ → Bool
is_line text = is_utf8 text && (is_in_range 1 256 (length (chars text)) && list_all is_line_character (chars text))

-- an ASCII letter or _
unfoldable pub is_name_start : ℕ → Bool
is_name_start c = (c == 95) || (is_in_range 65 90 c || is_in_range 97 122 c)

-- an ASCII letter, a digit or _
unfoldable pub is_name_byte : ℕ → Bool
is_name_byte c = is_name_start c || is_in_range 48 57 c

-- a name: an ASCII letter or _, and then letters, digits or _, at most 64 in all
unfoldable pub is_name : List ℕ → Bool
is_name [] = false
is_name (c ∷ cs) = is_name_start c && (list_all is_name_byte cs && nat_le (length cs) 63)

-- a prefix that the service's own documents have for another namespace
unfoldable pub is_taken : List ℕ → Bool
is_taken text =
    bytes_eq text (codes "wfs") || (bytes_eq text (codes "fes") || (bytes_eq text (codes "gml") || (bytes_eq text (codes "ows")
    || (bytes_eq text (codes "xlink") || bytes_eq text (codes "xs")))))

-- a prefix: a name that is none of these, and that does not begin with xml. Namespaces in XML 1.0 (section 3) reserves xml in
-- any case; that small letters alone are refused is this project's own.
unfoldable pub is_prefix : List ℕ → Bool
is_prefix text = is_name text && (not (is_taken text) && not (starts_with nat_eq text (codes "xml")))
