-- Elements, and what stands inside them (XML 1.0, 3.1, 2.4, 2.5 and 2.7).
use Rattle.std.specs.Prelude.{ℕ, zero, suc, ◌+◌, Bool, true, false, ◌&&◌, length, List, [], ◌∷◌, ◌++◌, string_bytes, Result, Ok, Err, ◌==◌, nat_lt, nat_le, if◌then◌else◌, encode_utf8, encode_utf8_all}
use Rattle.std.specs.List.{list_all}
use Rattle.std.specs.Str.{chars}
use Rattle.wfs_ends.specs.Read.{◌>>=◌, until, unless}
use Rattle.doc_tree.specs.declared.tree.QName.{QName}
use Rattle.doc_tree.specs.declared.tree.Attribute.{Attribute}
use Rattle.doc_tree.specs.declared.tree.Element.{Element}
use Rattle.doc_tree.specs.declared.tree.Element.TheViews.{roll-Element}
use Rattle.doc_read.specs.declared.fault.DocFault.{DocFault}
use Rattle.doc_read.specs.declared.fault.DocFault.TheVariants.{Malformed, Prefix, Doctype, TooDeep, TooMany}
use Rattle.doc_read.specs.declared.lex.Class.TheVariants.{Space, Text}
use Rattle.doc_read.specs.declared.word.Word.TheVariants as word
use Rattle.doc_read.specs.declared.inside.Inside as code_inside
use Rattle.doc_read.specs.declared.head.Head as code_head
use Rattle.doc_read.specs.Read.{Reads}
use Rattle.doc_read.specs.Chars.{holds, split_front, skip_space, expected_at, begins, word_at, contains, split_word}
use Rattle.doc_read.specs.Lex.{Spelling, spelled, spelled_at, tag_at, reference_at}
use Rattle.doc_read.specs.declared.scope.Bound.{Bound}
use Rattle.doc_read.specs.Scope.{has_twins, same_pair, spellings, expanded_names, same_spelling, declared_at, element_name, attributes_in, has_unknown}

-- ---- start tags

-- a start tag, with what its names mean and the declarations that hold inside the element
pub record Head : Type 0 where
  pub spelling : Spelling
  pub name : QName
  pub attributes : List Attribute
  pub is_empty : Bool
  pub scope : List Bound

abbrev pub head_of : List Bound → code_head.Head → Head
head_of scope h = record { spelling = spelled h.spelling; name = h.name; attributes = h.attributes.items; is_empty = h.is_empty; scope = scope }

-- a tag that breaks several rules is malformed first, and then has an undeclared prefix
unfoldable pub head_at : List Bound → List ℕ → Reads Head
head_at scope cs = do
  tag ← tag_at cs
  spelled_once ← unless (has_twins same_pair (spellings tag.0.attributes)) Malformed
  own ← declared_at tag.0.attributes
  named_once ← unless (has_twins same_pair (expanded_names (attributes_in (scope ++ own) tag.0.attributes))) Malformed
  known ← unless (has_unknown (scope ++ own) tag.0.attributes) Prefix
  name ← element_name (scope ++ own) tag.0.name
  Ok (record { spelling = tag.0.name; name = name; attributes = attributes_in (scope ++ own) tag.0.attributes; is_empty = tag.0.is_empty; scope = scope ++ own }, tag.1)

-- ---- comments and sections

-- a comment behind its first dashes: no two dashes stand in it
unfoldable pub comment_at : List ℕ → Result (List ℕ) DocFault
comment_at cs = do
  comment ← split_word word.CommentEnd cs
  single ← unless (contains word.Dashes comment.0) Malformed
  Ok comment.1

-- what `<!` begins, where no text may stand: a comment
unfoldable pub remark_at : List ℕ → Result (List ℕ) DocFault
remark_at cs =
    if begins word.Dashes cs then (word_at word.Dashes cs >>= λ rest. comment_at rest)
    else (if begins word.Doctype cs then Err Doctype else Err Malformed)

-- what `<!` begins, where text may stand: the text of a section, or a comment, which has none
unfoldable pub marked_at : List ℕ → Reads (List ℕ)
marked_at cs =
    if begins word.Section cs then (word_at word.Section cs >>= λ rest. split_word word.SectionEnd rest)
    else (remark_at cs >>= λ rest. Ok ([], rest))

-- ---- content

-- what was read inside an element: its children, its text, how many elements came so far, and the text that is left
pub record Inside : Type 0 where
  pub children : List Element
  pub text : List ℕ
  pub seen : ℕ
  pub rest : List ℕ

abbrev pub inside_of : code_inside.Inside → Inside
inside_of s = record { children = s.children.items; text = string_bytes s.text; seen = s.seen; rest = chars s.rest.now }

-- an element, how many elements came so far, and the text that is left
abbrev pub ReadsElement : Type 0
ReadsElement = Result (Element × ℕ × List ℕ) DocFault

abbrev pub after_text : Inside → Reads (List ℕ) → Result (Bool × Inside) DocFault
after_text s read = read >>= λ x. Ok (false, record { children = s.children; text = s.text ++ encode_utf8_all x.0; seen = s.seen; rest = x.1 })

abbrev pub after_child : Inside → ReadsElement → Result (Bool × Inside) DocFault
after_child s read = read >>= λ e. Ok (false, record { children = s.children ++ e.0 ∷ []; text = s.text; seen = e.1; rest = e.2 })

abbrev pub after_reference : Inside → Reads ℕ → Result (Bool × Inside) DocFault
after_reference s read = read >>= λ x. Ok (false, record { children = s.children; text = s.text ++ encode_utf8 x.0; seen = s.seen; rest = x.1 })

-- characters up to the next markup or reference
unfoldable pub run_at : List ℕ → Reads (List ℕ)
run_at cs = do
  unclosed ← unless (contains word.SectionEnd (split_front Text cs).0) Malformed
  Ok (split_front Text cs)

-- behind a less-than sign: an end tag, which ends the content, a comment, a section or a child
abbrev pub markup_at : (ℕ → List ℕ → ReadsElement) → Inside → List ℕ → Result (Bool × Inside) DocFault
markup_at element s [] = Err Malformed
markup_at element s (c ∷ cs) =
    if c == 47 then Ok (true, record { children = s.children; text = s.text; seen = s.seen; rest = cs })
    else (if c == 33 then after_text s (marked_at cs) else after_child s (element s.seen (c ∷ cs)))

abbrev pub piece_at : (ℕ → List ℕ → ReadsElement) → Inside → List ℕ → Result (Bool × Inside) DocFault
piece_at element s [] = Err Malformed
piece_at element s (c ∷ cs) = if c == 60 then markup_at element s cs else (if c == 38 then after_reference s (reference_at cs) else after_text s (run_at (c ∷ cs)))

-- one piece of content, and whether it began the end tag
unfoldable pub turn_at : (ℕ → List ℕ → ReadsElement) → Inside → Result (Bool × Inside) DocFault
turn_at element s = piece_at element s s.rest

abbrev pub begun : ℕ → List ℕ → Inside
begun seen cs = record { children = []; text = []; seen = seen; rest = cs }

-- the content of an element, up to the name in its end tag
unfoldable pub content_at : (ℕ → List ℕ → ReadsElement) → ℕ → List ℕ → Result Inside DocFault
content_at element seen cs = until Malformed (turn_at element) (length cs) (begun seen cs)

-- ---- elements

-- the rest of an end tag: it is spelled as its start tag
unfoldable pub closed_at : Spelling → List ℕ → Result (List ℕ) DocFault
closed_at spelling cs = do
  name ← spelled_at cs
  if same_spelling name.0 spelling then expected_at 62 (skip_space name.1) else Err Malformed

abbrev pub tree : QName → List Attribute → List Element → List ℕ → Element
tree name attributes children text = roll-Element (record { name = name; attributes = attributes; children = children; text = text })

-- an element has children or text, and white space between children is none
unfoldable pub made : QName → List Attribute → List Element → List ℕ → Result Element DocFault
made name attributes children text =
    if length children == 0 then Ok (tree name attributes children text)
    else (if list_all (holds Space) text then Ok (tree name attributes children []) else Err Malformed)

abbrev pub max_elements : ℕ
max_elements = 100000

abbrev pub max_attributes : ℕ
max_attributes = 64

abbrev pub filled : Head → Result Inside DocFault → ReadsElement
filled h read = do
  inside ← read
  rest ← closed_at h.spelling inside.rest
  element ← made h.name h.attributes inside.children inside.text
  Ok (element, inside.seen, rest)

-- whether one more element with so many attributes may stand
unfoldable pub admitted : ℕ → ℕ → Result (Unit {0}) DocFault
admitted seen attributes = if nat_lt seen max_elements && nat_le attributes max_attributes then Ok tt else Err TooMany

-- behind a start tag, where child reads the children in a scope
unfoldable pub level_at : (List Bound → ℕ → List ℕ → ReadsElement) → ℕ → Head × List ℕ → ReadsElement
level_at child seen h = do
  few ← admitted seen (length h.0.attributes)
  if h.0.is_empty then Ok (tree h.0.name h.0.attributes [] [], seen + 1, h.1) else filled h.0 (content_at (child h.0.scope) (seen + 1) h.1)

-- an element, of which the less-than sign was read; the first number is how many levels may stand
unfoldable pub element_at : ℕ → List Bound → ℕ → List ℕ → ReadsElement
element_at zero scope seen cs = head_at scope cs >>= λ h. Err TooDeep
element_at (suc depth) scope seen cs = head_at scope cs >>= level_at (element_at depth) seen
