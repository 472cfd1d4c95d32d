-- The parts of a tag.
use Rattle.std.specs.Prelude.{codes, ℕ, length, zero, suc, ◌+◌, ◌*◌, ◌-◌, Bool, true, false, not, ◌++◌, map, ◌||◌, List, [], ◌∷◌, Result, Ok, Err, ◌==◌, nat_le, if◌then◌else◌, encode_utf8, encode_utf8_all}
use Rattle.std.specs.Str.{bytes_eq, chars}
use Rattle.wfs_ends.specs.Read.{◌>>=◌, until, unless}
use Rattle.doc_read.specs.declared.fault.DocFault.{DocFault}
use Rattle.doc_read.specs.declared.fault.DocFault.TheVariants.{Malformed}
use Rattle.doc_read.specs.declared.lex.Class.{Class}
use Rattle.doc_read.specs.declared.lex.Class.TheVariants.{Space, NameStart, NamePart, Value, Decimal, Hexadecimal}
use Rattle.doc_read.specs.declared.lex.Spelled as code
use Rattle.doc_read.specs.declared.tag.RawAttribute as code_raw
use Rattle.doc_read.specs.declared.tag.Tag as code_tag
use Rattle.doc_read.specs.Read.{Reads}
use Rattle.doc_tree.specs.Characters.{is_allowed}
use Rattle.doc_read.specs.Chars.{holds, split_front, starts, skip_space, expected_at}

-- ---- names

unfoldable pub name_at : List ℕ → Reads (List ℕ)
name_at [] = Err Malformed
name_at (c ∷ cs) = if holds NameStart c then Ok (split_front NamePart (c ∷ cs)) else Err Malformed

-- a name as it is spelled: with no prefix, the prefix is empty
pub record Spelling : Type 0 where
  pub prefix : List ℕ
  pub local : List ℕ

abbrev pub spelled : code.Spelled → Spelling
spelled s = record { prefix = chars s.prefix.now; local = chars s.local.now }

-- what follows the first name of a spelling
abbrev pub local_at : List ℕ → List ℕ → Reads Spelling
local_at first [] = Ok (record { prefix = []; local = first }, [])
local_at first (c ∷ cs) = if c == 58 then (name_at cs >>= λ n. Ok (record { prefix = first; local = n.0 }, n.1)) else Ok (record { prefix = []; local = first }, c ∷ cs)

-- a name, or two with a colon between (Namespaces in XML 1.0, 4)
unfoldable pub spelled_at : List ℕ → Reads Spelling
spelled_at cs = do
  n ← name_at cs
  local_at n.0 n.1

-- ---- references (XML 1.0, 4.1 and 4.6)

unfoldable pub named_reference : List ℕ → Result ℕ DocFault
named_reference name =
    if bytes_eq name (codes "lt") then Ok 60
    else (if bytes_eq name (codes "gt") then Ok 62
    else (if bytes_eq name (codes "amp") then Ok 38
    else (if bytes_eq name (codes "quot") then Ok 34
    else (if bytes_eq name (codes "apos") then Ok 39 else Err Malformed))))

unfoldable pub name_reference_at : List ℕ → Reads ℕ
name_reference_at cs = do
  name ← name_at cs
  rest ← expected_at 59 name.1
  c ← named_reference name.0
  Ok (c, rest)

-- what a digit is worth, up to f
abbrev pub digit : ℕ → ℕ
digit c = if nat_le c 57 then c - 48 else (if nat_le c 70 then c - 55 else c - 87)

-- the number that digits write, behind those that were read
unfoldable pub number : ℕ → ℕ → List ℕ → ℕ
number base value [] = value
number base value (c ∷ cs) = number base (value * base + digit c) cs

-- digits that write the number of an allowed character, and a semicolon
unfoldable pub number_reference_at : Class → ℕ → List ℕ → Reads ℕ
number_reference_at digits base cs = do
  some ← unless (not (starts digits cs)) Malformed
  rest ← expected_at 59 (split_front digits cs).1
  allowed ← unless (not (is_allowed (number base 0 (split_front digits cs).0))) Malformed
  Ok (number base 0 (split_front digits cs).0, rest)

-- behind a number sign
unfoldable pub numbered_at : List ℕ → Reads ℕ
numbered_at [] = number_reference_at Decimal 10 []
numbered_at (c ∷ cs) = if c == 120 then number_reference_at Hexadecimal 16 cs else number_reference_at Decimal 10 (c ∷ cs)

-- a reference behind its ampersand
unfoldable pub reference_at : List ℕ → Reads ℕ
reference_at [] = name_reference_at []
reference_at (c ∷ cs) = if c == 35 then numbered_at cs else name_reference_at (c ∷ cs)

-- ---- values (XML 1.0, 3.3.3)

-- a part of a text that was read, and the text after it
pub record Part : Type 0 where
  pub text : List ℕ
  pub rest : List ℕ

abbrev pub part : List ℕ → List ℕ → Part
part text rest = record { text = text; rest = rest }

-- white space in a value counts as a space
abbrev pub plain : ℕ → ℕ
plain c = if holds Space c then 32 else c

abbrev pub add_reference : Part → Reads ℕ → Result (Bool × Part) DocFault
add_reference s read = read >>= λ x. Ok (false, record { text = s.text ++ encode_utf8 x.0; rest = x.1 })

abbrev pub value_piece : ℕ → Part → List ℕ → Result (Bool × Part) DocFault
value_piece quote s [] = Err Malformed
value_piece quote s (c ∷ cs) =
    if c == quote then Ok (true, record { text = s.text; rest = cs })
    else (if c == 60 then Err Malformed
    else (if c == 38 then add_reference s (reference_at cs)
    else Ok (false, record { text = s.text ++ encode_utf8_all (map plain (split_front (Value quote) (c ∷ cs)).0); rest = (split_front (Value quote) (c ∷ cs)).1 })))

-- one piece of a value: its quote ends it
unfoldable pub value_turn : ℕ → Part → Result (Bool × Part) DocFault
value_turn quote s = value_piece quote s s.rest

-- a value behind its quote
abbrev pub inside_value : ℕ → List ℕ → Result Part DocFault
inside_value quote cs = until Malformed (value_turn quote) (length cs) (record { text = []; rest = cs })

unfoldable pub value_at : List ℕ → Reads (List ℕ)
value_at [] = Err Malformed
value_at (q ∷ cs) = if q == 34 || q == 39 then (inside_value q cs >>= λ v. Ok (v.text, v.rest)) else Err Malformed

-- ---- tags (XML 1.0, 3.1)

-- an attribute, with its name as it is spelled
pub record Raw : Type 0 where
  pub name : Spelling
  pub value : List ℕ

abbrev pub raw_of : code_raw.RawAttribute → Raw
raw_of r = record { name = spelled r.name; value = r.value }

unfoldable pub raw_attribute_at : List ℕ → Reads Raw
raw_attribute_at cs = do
  name ← spelled_at cs
  after ← expected_at 61 (skip_space name.1)
  value ← value_at (skip_space after)
  Ok (record { name = name.0; value = value.0 }, value.1)

-- The attributes of a tag, and what comes after the white space behind them. The number bounds the turns.
unfoldable pub attributes_at : ℕ → List Raw → List ℕ → Reads (List Raw)
attributes_at zero found cs = Err Malformed
attributes_at (suc n) found cs =
    if starts NameStart (skip_space cs)
    then (if starts Space cs then (raw_attribute_at (skip_space cs) >>= λ a. attributes_at n (found ++ a.0 ∷ []) a.1) else Err Malformed)
    else Ok (found, skip_space cs)

-- a start tag as it stands
pub record Tag : Type 0 where
  pub name : Spelling
  pub attributes : List Raw
  pub is_empty : Bool

abbrev pub tag_of : code_tag.Tag → Tag
tag_of t = record { name = spelled t.name; attributes = map raw_of t.attributes.items; is_empty = t.is_empty }

-- what ends a start tag: whether the element is empty
abbrev pub slash_at : List ℕ → Reads Bool
slash_at [] = Err Malformed
slash_at (c ∷ cs) = if c == 62 then Ok (true, cs) else Err Malformed

abbrev pub tag_end_at : List ℕ → Reads Bool
tag_end_at [] = Err Malformed
tag_end_at (c ∷ cs) = if c == 62 then Ok (false, cs) else (if c == 47 then slash_at cs else Err Malformed)

unfoldable pub tag_at : List ℕ → Reads Tag
tag_at cs = do
  name ← spelled_at cs
  attributes ← attributes_at (length name.1) [] name.1
  end ← tag_end_at attributes.1
  Ok (record { name = name.0; attributes = attributes.0; is_empty = end.0 }, end.1)
