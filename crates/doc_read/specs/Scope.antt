-- Which prefixes stand for which spaces, and what names mean (Namespaces in XML 1.0).
use Rattle.std.specs.Prelude.{ℕ, Bool, true, false, ◌||◌, ◌&&◌, not, length, List, [], ◌∷◌, ◌++◌, map, Option, Some, None, Result, Ok, Err, ◌==◌, if◌then◌else◌, codes, encode_utf8_all}
use Rattle.std.specs.Str.{bytes_eq}
use Rattle.std.specs.Borrow.{Bor}
use Rattle.std.specs.List.{list_any, flat_map}
use Rattle.wfs_ends.specs.Read.{each}
use Rattle.doc_tree.specs.declared.tree.QName.{QName}
use Rattle.doc_tree.specs.declared.tree.Attribute.{Attribute}
use Rattle.doc_read.specs.declared.fault.DocFault.{DocFault}
use Rattle.doc_read.specs.declared.fault.DocFault.TheVariants.{Malformed, Prefix}
use Rattle.doc_read.specs.declared.scope.Bound.{Bound}
use Rattle.doc_read.specs.Lex.{Spelling, Raw}

-- ---- what comes twice

-- whether two of the items are the same
unfoldable pub has_twins : {K : Type 0} → (K → K → Bool) → List K → Bool
has_twins same [] = false
has_twins same (x ∷ xs) = list_any (same x) xs || has_twins same xs

abbrev pub same_pair : List ℕ × List ℕ → List ℕ × List ℕ → Bool
same_pair a b = bytes_eq a.0 b.0 && bytes_eq a.1 b.1

-- two texts that are borrowed
abbrev pub texts : Bor (List ℕ) × Bor (List ℕ) → List ℕ × List ℕ
texts pair = (pair.0.now, pair.1.now)

-- the texts of a name as it is spelled: its prefix and its local name
abbrev pub written : Spelling → List ℕ × List ℕ
written s = (encode_utf8_all s.prefix, encode_utf8_all s.local)

abbrev pub spellings : List Raw → List (List ℕ × List ℕ)
spellings rs = map (λ r. written r.name) rs

-- the texts of an expanded name (Namespaces in XML 1.0, 6.3): its local name and its space
abbrev pub expanded : QName → List ℕ × List ℕ
expanded name = (name.local, name.space)

abbrev pub expanded_names : List Attribute → List (List ℕ × List ℕ)
expanded_names attributes = map (λ a. expanded a.name) attributes

abbrev pub same_spelling : Spelling → Spelling → Bool
same_spelling a b = bytes_eq a.prefix b.prefix && bytes_eq a.local b.local

-- ---- prefixes

-- xml needs no declaration
abbrev pub xml_scope : List Bound
xml_scope = record { prefix = codes "xml"; space = codes "http://www.w3.org/XML/1998/namespace" } ∷ []

-- a binding has a prefix and the space that it stands for; that of the default space has no prefix
abbrev pub newer : List ℕ → Option (List ℕ) → Bound → Option (List ℕ)
newer prefix found b = if bytes_eq b.prefix prefix then Some b.space else found

-- the space of the newest declaration of the prefix, or what was found before
unfoldable pub newest : List ℕ → Option (List ℕ) → List Bound → Option (List ℕ)
newest prefix found [] = found
newest prefix found (b ∷ bs) = newest prefix (newer prefix found b) bs

abbrev pub space_of : List Bound → List ℕ → Option (List ℕ)
space_of scope prefix = newest (encode_utf8_all prefix) None scope

-- ---- declarations

abbrev pub is_default : Spelling → Bool
is_default s = length s.prefix == 0 && bytes_eq s.local (codes "xmlns")

abbrev pub is_declaration : Spelling → Bool
is_declaration s = bytes_eq s.prefix (codes "xmlns") || is_default s

-- xml always keeps its space
abbrev pub is_xml : Spelling → Bool
is_xml s = not (is_default s) && bytes_eq s.local (codes "xml")

abbrev pub declaration_of : Raw → Bound
declaration_of r = record { prefix = (if is_default r.name then [] else encode_utf8_all r.name.local); space = r.value }

-- a prefix can't stand for nothing
abbrev pub unbinds : Raw → Bool
unbinds r = not (is_default r.name) && length r.value == 0

unfoldable pub declared_step : List Bound → Raw → Result (List Bound) DocFault
declared_step found r =
    if is_declaration r.name
    then (if unbinds r then Err Malformed else (if is_xml r.name then Ok found else Ok (found ++ declaration_of r ∷ [])))
    else Ok found

-- the declarations of a tag
abbrev pub declared_at : List Raw → Result (List Bound) DocFault
declared_at rs = each declared_step [] rs

-- ---- names

abbrev pub named : Option (List ℕ) → List ℕ → Result QName DocFault
named None local = Err Prefix
named (Some space) local = Ok (record { space = space; local = encode_utf8_all local })

-- no prefix and no declaration stand for no space
abbrev pub or_none : Option (List ℕ) → List ℕ → Option (List ℕ)
or_none None prefix = if length prefix == 0 then Some [] else None
or_none (Some space) prefix = Some space

-- the default space applies to elements only
unfoldable pub element_name : List Bound → Spelling → Result QName DocFault
element_name scope s = named (or_none (space_of scope s.prefix) s.prefix) s.local

abbrev pub attribute_space : List Bound → Spelling → Option (List ℕ)
attribute_space scope s = if length s.prefix == 0 then Some [] else space_of scope s.prefix

abbrev pub as_attribute : Option (List ℕ) → Raw → List Attribute
as_attribute None r = []
as_attribute (Some space) r = record { name = record { space = space; local = encode_utf8_all r.name.local }; value = r.value } ∷ []

-- the attribute, where it is no declaration and its prefix is declared
unfoldable pub attribute_of : List Bound → Raw → List Attribute
attribute_of scope r = if is_declaration r.name then [] else as_attribute (attribute_space scope r.name) r

-- the attributes of a tag
abbrev pub attributes_in : List Bound → List Raw → List Attribute
attributes_in scope rs = flat_map (attribute_of scope) rs

abbrev pub is_none : Option (List ℕ) → Bool
is_none None = true
is_none (Some space) = false

-- the prefix of an attribute is not declared
abbrev pub is_unknown : List Bound → Raw → Bool
is_unknown scope r = not (is_declaration r.name) && is_none (attribute_space scope r.name)

unfoldable pub has_unknown : List Bound → List Raw → Bool
has_unknown scope rs = list_any (is_unknown scope) rs
