-- What spells a tree: documents by their parts, apart from the reading function. Both share the classes of characters, what names and declarations mean,
-- which character a reference names, and line ends
-- (XML 1.0 and Namespaces in XML 1.0, in this project's profile).
use Rattle.std.specs.Prelude.{◌≡◌, ℕ, suc, pred, ◌+◌, ◌≤◌, ◌<◌, Bool, true, false, ◌⊎◌, length, List, [], ◌∷◌, ◌++◌, map, Ok, encode_utf8, encode_utf8_all, codes}
use Rattle.std.specs.List.{list_all}
use Rattle.std.specs.Str.{IsUtf8, chars}
use Rattle.doc_tree.specs.declared.tree.Attribute.{Attribute}
use Rattle.doc_tree.specs.declared.tree.Element.{Element}
use Rattle.doc_read.specs.declared.lex.Class.{Class}
use Rattle.doc_read.specs.declared.lex.Class.TheVariants.{Space, NameStart, NamePart, Text, Value, Quoted, Decimal, Hexadecimal}
use Rattle.doc_read.specs.declared.word.Word.{Word}
use Rattle.doc_read.specs.declared.word.Word.TheVariants as word
use Rattle.doc_tree.specs.Characters.{is_allowed}
use Rattle.doc_read.specs.Chars.{holds, starts, letters, contains}
use Rattle.doc_read.specs.Lex.{Spelling, Raw, Tag, named_reference, number, plain}
use Rattle.doc_read.specs.declared.scope.Bound.{Bound}
use Rattle.doc_read.specs.Scope.{xml_scope, has_twins, same_pair, spellings, expanded_names, declared_at, element_name, attributes_in, has_unknown}
use Rattle.doc_read.specs.Declaration.{fits}
use Rattle.doc_read.specs.Element.{Head, tree, max_elements, max_attributes}
use Rattle.doc_read.specs.Document.{line_feeds, unmarked, max_depth}

-- ---- names

pub record IsName (n : List ℕ) : Type 0 where
  pub first : starts NameStart n ≡ true
  pub each : list_all (holds NamePart) n ≡ true

abbrev pub IsBlank : List ℕ → Type 0
IsBlank gap = list_all (holds Space) gap ≡ true

abbrev pub IsQuote : ℕ → Type 0
IsQuote q = (q ≡ 34) ⊎ (q ≡ 39)

-- a name, or two with a colon between; an empty prefix is none
abbrev pub spelling : List ℕ → List ℕ → List ℕ
spelling [] local = local
spelling (c ∷ cs) local = (c ∷ cs) ++ 58 ∷ local

abbrev pub IsPrefix : List ℕ → Type 0
IsPrefix [] = Unit {0}
IsPrefix (c ∷ cs) = IsName (c ∷ cs)

pub record IsSpelling (s : Spelling) : Type 0 where
  pub prefix : IsPrefix s.prefix
  pub local : IsName s.local

abbrev pub spell : Spelling → List ℕ
spell s = spelling s.prefix s.local

-- ---- references: what stands between the ampersand and the semicolon

pub data Reference : Type 0 where
  named : List ℕ → Reference
  decimal : List ℕ → Reference
  hexadecimal : List ℕ → Reference

abbrev pub print_reference : Reference → List ℕ
print_reference (named name) = name
print_reference (decimal digits) = 35 ∷ digits
print_reference (hexadecimal digits) = 35 ∷ 120 ∷ digits

-- one digit or more, which write the number of an allowed character
pub record IsNumber (class : Class) (base : ℕ) (digits : List ℕ) (c : ℕ) : Type 0 where
  pub some : starts class digits ≡ true
  pub each : list_all (holds class) digits ≡ true
  pub allowed : is_allowed c ≡ true
  pub value : number base 0 digits ≡ c

abbrev pub IsReference : Reference → ℕ → Type 0
IsReference (named name) c = IsName name × (named_reference name ≡ Ok c)
IsReference (decimal digits) c = IsNumber Decimal 10 digits c
IsReference (hexadecimal digits) c = IsNumber Hexadecimal 16 digits c

-- ---- values: characters as they are, and references between

pub data Written : Type 0 where
  ended : List ℕ → Written
  refers : List ℕ → Reference → ℕ → Written → Written

abbrev pub print_written : Written → List ℕ
print_written (ended run) = run
print_written (refers run r c w) = run ++ 38 ∷ (print_reference r ++ 59 ∷ print_written w)

abbrev pub written_text : Written → List ℕ
written_text (ended run) = encode_utf8_all (map plain run)
written_text (refers run r c w) = encode_utf8_all (map plain run) ++ (encode_utf8 c ++ written_text w)

abbrev pub IsWritten : ℕ → Written → Type 0
IsWritten quote (ended run) = list_all (holds (Value quote)) run ≡ true
IsWritten quote (refers run r c w) = (list_all (holds (Value quote)) run ≡ true) × IsReference r c × IsWritten quote w

-- ---- tags

-- name = value, with white space around the sign
pub record SpellsRaw (text : List ℕ) (r : Raw) : Type 0 where
  pub before : List ℕ
  pub after : List ℕ
  pub quote : ℕ
  pub written : Written
  pub name : IsSpelling r.name
  pub before_blank : IsBlank before
  pub after_blank : IsBlank after
  pub quotes : IsQuote quote
  pub value : IsWritten quote written
  pub means : written_text written ≡ r.value
  pub whole : text ≡ spell r.name ++ before ++ 61 ∷ after ++ quote ∷ print_written written ++ quote ∷ []

-- white space stands before each attribute
abbrev pub SpellsRaws : List Raw → List ℕ → Type 0
SpellsRaws [] text = text ≡ []
SpellsRaws (r ∷ rs) text =
    (gap : List ℕ) × (one : List ℕ) × (others : List ℕ) × IsBlank gap × (0 < length gap) × SpellsRaw one r × SpellsRaws rs others × (text ≡ gap ++ one ++ others)

abbrev pub tag_end : Bool → List ℕ
tag_end true = 47 ∷ 62 ∷ []
tag_end false = 62 ∷ []

-- a start tag behind its less-than sign
pub record SpellsTag (text : List ℕ) (t : Tag) : Type 0 where
  pub raws : List ℕ
  pub gap : List ℕ
  pub name : IsSpelling t.name
  pub attributes : SpellsRaws t.attributes raws
  pub blank : IsBlank gap
  pub whole : text ≡ spell t.name ++ raws ++ gap ++ tag_end t.is_empty

-- the same, with what its names mean in a scope
pub record SpellsHead (scope : List Bound) (text : List ℕ) (h : Head) : Type 0 where
  pub raws : List Raw
  pub own : List Bound
  pub tag : SpellsTag text (record { name = h.spelling; attributes = raws; is_empty = h.is_empty })
  pub spelled_once : has_twins same_pair (spellings raws) ≡ false
  pub declared : declared_at raws ≡ Ok own
  pub inner : h.scope ≡ scope ++ own
  pub attributes : h.attributes ≡ attributes_in (scope ++ own) raws
  pub named_once : has_twins same_pair (expanded_names (attributes_in (scope ++ own) raws)) ≡ false
  pub known : has_unknown (scope ++ own) raws ≡ false
  pub name : element_name (scope ++ own) h.spelling ≡ Ok h.name

-- ---- comments, sections and references in content

pub data Piece : Type 0 where
  comment : List ℕ → Piece
  section : List ℕ → Piece
  reference : Reference → ℕ → Piece

abbrev pub print_comment : List ℕ → List ℕ
print_comment text = 60 ∷ 33 ∷ 45 ∷ 45 ∷ (text ++ 45 ∷ 45 ∷ 62 ∷ [])

abbrev pub print_piece : Piece → List ℕ
print_piece (comment text) = print_comment text
print_piece (section text) = codes "<![CDATA[" ++ (text ++ 93 ∷ 93 ∷ 62 ∷ [])
print_piece (reference r c) = 38 ∷ (print_reference r ++ 59 ∷ [])

-- the text that a piece stands for
abbrev pub piece_text : Piece → List ℕ
piece_text (comment text) = []
piece_text (section text) = encode_utf8_all text
piece_text (reference r c) = encode_utf8 c

abbrev pub IsPiece : Piece → Type 0
IsPiece (comment text) = contains word.Dashes text ≡ false
IsPiece (section text) = contains word.SectionEnd text ≡ false
IsPiece (reference r c) = IsReference r c

-- ---- elements

-- A text run stands before each piece, before each child, and before the end tag.
mutual
  pub data Markup : Type 0 where
    leaf : List ℕ → Head → Markup
    whole : List ℕ → Head → Content → List ℕ → Markup

  pub data Content : Type 0 where
    last : List ℕ → Content
    piece : List ℕ → Piece → Content → Content
    child : List ℕ → Markup → Content → Content

abbrev mutual
  -- behind the less-than sign
  pub print : Markup → List ℕ
  print (leaf text h) = text
  print (whole text h c gap) = text ++ (print_content c ++ 60 ∷ 47 ∷ (spell h.spelling ++ (gap ++ 62 ∷ [])))

  pub print_content : Content → List ℕ
  print_content (last run) = run
  print_content (piece run p c) = run ++ (print_piece p ++ print_content c)
  print_content (child run m c) = run ++ 60 ∷ (print m ++ print_content c)

abbrev pub content_text : Content → List ℕ
content_text (last run) = encode_utf8_all run
content_text (piece run p c) = encode_utf8_all run ++ (piece_text p ++ content_text c)
content_text (child run m c) = encode_utf8_all run ++ content_text c

-- an element that has children has no text
abbrev pub text_if : List Element → List ℕ → List ℕ
text_if [] text = text
text_if (t ∷ ts) text = []

abbrev mutual
  pub meaning : Markup → Element
  meaning (leaf text h) = tree h.name h.attributes [] []
  meaning (whole text h c gap) = tree h.name h.attributes (children c) (text_if (children c) (content_text c))

  pub children : Content → List Element
  children (last run) = []
  children (piece run p c) = children c
  children (child run m c) = meaning m ∷ children c

abbrev mutual
  pub count : Markup → ℕ
  count (leaf text h) = 1
  count (whole text h c gap) = suc (counts c)

  pub counts : Content → ℕ
  counts (last run) = 0
  counts (piece run p c) = counts c
  counts (child run m c) = count m + counts c

pub record IsRun (run : List ℕ) : Type 0 where
  pub each : list_all (holds Text) run ≡ true
  pub unclosed : contains word.SectionEnd run ≡ false

-- children or text
abbrev pub IsUnmixed : List Element → List ℕ → Type 0
IsUnmixed [] text = Unit {0}
IsUnmixed (t ∷ ts) text = list_all (holds Space) text ≡ true

abbrev pub IsFew : List Attribute → Type 0
IsFew attributes = length attributes ≤ max_attributes

-- the number is how many levels may stand
abbrev mutual
  pub IsMarkup : Markup → ℕ → List Bound → Type 0
  IsMarkup (leaf text h) d scope = (0 < d) × (h.is_empty ≡ true) × SpellsHead scope text h × IsFew h.attributes
  IsMarkup (whole text h c gap) d scope = (0 < d) × (h.is_empty ≡ false) × SpellsHead scope text h × IsFew h.attributes × IsContent c (pred d) h.scope × IsBlank gap × IsUnmixed (children c) (content_text c)

  pub IsContent : Content → ℕ → List Bound → Type 0
  IsContent (last run) d scope = IsRun run
  IsContent (piece run p c) d scope = IsRun run × IsPiece p × IsContent c d scope
  IsContent (child run m c) d scope = IsRun run × IsMarkup m d scope × IsContent c d scope

-- ---- documents

-- white space and comments
pub data Misc : Type 0 where
  spaces : List ℕ → Misc
  remark : List ℕ → List ℕ → Misc → Misc

abbrev pub print_misc : Misc → List ℕ
print_misc (spaces gap) = gap
print_misc (remark gap text m) = gap ++ (print_comment text ++ print_misc m)

abbrev pub IsMisc : Misc → Type 0
IsMisc (spaces gap) = IsBlank gap
IsMisc (remark gap text m) = IsBlank gap × (contains word.Dashes text ≡ false) × IsMisc m

-- white space, a word, an equals sign and a value in quotes
pub record SpellsSetting (w : Word) (text : List ℕ) : Type 0 where
  pub gap : List ℕ
  pub before : List ℕ
  pub after : List ℕ
  pub quote : ℕ
  pub value : List ℕ
  pub gap_blank : IsBlank gap
  pub some : 0 < length gap
  pub before_blank : IsBlank before
  pub after_blank : IsBlank after
  pub quotes : IsQuote quote
  pub inside : list_all (holds (Quoted quote)) value ≡ true
  pub fitting : fits w value ≡ true
  pub whole : text ≡ gap ++ letters w ++ before ++ 61 ∷ after ++ quote ∷ value ++ quote ∷ []

abbrev pub SpellsOptional : Word → List ℕ → Type 0
SpellsOptional w text = (text ≡ []) ⊎ SpellsSetting w text

pub record SpellsDeclaration (text : List ℕ) : Type 0 where
  pub version : List ℕ
  pub encoding : List ℕ
  pub standalone : List ℕ
  pub gap : List ℕ
  pub version_fits : SpellsSetting word.Version version
  pub encoding_fits : SpellsOptional word.Encoding encoding
  pub standalone_fits : SpellsOptional word.Standalone standalone
  pub gap_blank : IsBlank gap
  pub whole : text ≡ letters word.Declaration ++ version ++ encoding ++ standalone ++ gap ++ letters word.DeclarationEnd

-- the characters, with line feeds alone at the ends of lines, spell the tree
pub record SpellsText (cs : List ℕ) (e : Element) : Type 0 where
  pub opening : List ℕ
  pub before : Misc
  pub markup : Markup
  pub after : Misc
  pub opening_fits : (opening ≡ []) ⊎ SpellsDeclaration opening
  pub before_fits : IsMisc before
  pub fits : IsMarkup markup max_depth xml_scope
  pub after_fits : IsMisc after
  pub few : count markup ≤ max_elements
  pub means : meaning markup ≡ e
  pub whole : cs ≡ opening ++ (print_misc before ++ 60 ∷ (print markup ++ print_misc after))

-- the bytes are text, and its characters spell the tree
pub record Spells (bytes : List ℕ) (e : Element) : Type 0 where
  pub text : IsUtf8 bytes
  pub allowed : list_all is_allowed (chars bytes) ≡ true
  pub spells : SpellsText (line_feeds false (unmarked (chars bytes))) e
