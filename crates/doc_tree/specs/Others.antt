-- The attributes that an element has beside those listed for it. Attributes of namespaces are not looked at.
use Rattle.std.specs.Prelude.{ℕ, Bool, true, false, ◌&&◌, not, if◌then◌else◌, List, [], map, filter, Option, Some, None}
use Rattle.std.specs.List.{fold}
use Rattle.std.specs.Str.{bytes_eq}
use Rattle.std.specs.Ordering.{nat_cmp}
use Rattle.std.specs.Cmp.Lexicographic.{slice_cmp}
use Rattle.std.specs.declared.cmp.Ordering.{Ordering}
use Rattle.std.specs.declared.cmp.Ordering.TheVariants.{Less}
use Rattle.doc_tree.specs.declared.tree.Attribute.{Attribute}
use Rattle.doc_tree.specs.Attributes.{is_among}

-- an attribute in no namespace that is none of the listed ones
unfoldable pub is_other : List (List ℕ) → Attribute → Bool
is_other listed a = bytes_eq a.name.space [] && not (is_among listed a.name.local)

abbrev pub is_less : Ordering → Bool
is_less Less = true
is_less other = false

-- the lesser of a name, if there is one, and another, in the order of bytes
abbrev pub lesser : Option (List ℕ) → List ℕ → List ℕ
lesser None name = name
lesser (Some least) name = if is_less (slice_cmp nat_cmp name least) then name else least

-- the least of some names
abbrev pub least : List (List ℕ) → Option (List ℕ)
least names = fold (λ found name. Some (lesser found name)) None names

-- the first by name of the attributes that are not listed
abbrev pub first_other : List (List ℕ) → List Attribute → Option (List ℕ)
first_other listed attributes = least (map (λ a. a.name.local) (filter (is_other listed) attributes))
