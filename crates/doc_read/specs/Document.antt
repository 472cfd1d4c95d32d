-- Whole documents.
use Rattle.std.specs.Prelude.{ℕ, ◌+◌, Bool, true, false, ◌&&◌, length, List, [], ◌∷◌, ◌++◌, Result, Ok, Err, ◌==◌, if◌then◌else◌}
use Rattle.std.specs.List.{list_all}
use Rattle.std.specs.Str.{is_utf8, chars}
use Rattle.wfs_ends.specs.Read.{◌>>=◌, until}
use Rattle.doc_tree.specs.declared.tree.Element.{Element}
use Rattle.doc_read.specs.declared.fault.DocFault.{DocFault}
use Rattle.doc_read.specs.declared.fault.DocFault.TheVariants.{NotText, Malformed}
use Rattle.doc_tree.specs.Characters.{is_allowed}
use Rattle.doc_read.specs.Chars.{expected_at, skip_space}
use Rattle.doc_read.specs.Declaration.{declaration_at}
use Rattle.doc_read.specs.Scope.{xml_scope}
use Rattle.doc_read.specs.Element.{remark_at, element_at}

-- what stands for a character, behind a carriage return or not
unfoldable pub line_piece : Bool → ℕ → List ℕ
line_piece was_return c = if c == 13 then 10 ∷ [] else (if was_return && c == 10 then [] else c ∷ [])

-- lines end in a line feed: a carriage return counts as one, with the line feed behind it (XML 1.0, 2.11)
unfoldable pub line_feeds : Bool → List ℕ → List ℕ
line_feeds was_return [] = []
line_feeds was_return (c ∷ cs) = line_piece was_return c ++ line_feeds (c == 13) cs

-- a leading byte order mark is no part of the document
abbrev pub unmarked : List ℕ → List ℕ
unmarked [] = []
unmarked (c ∷ cs) = if c == 0xfeff then cs else c ∷ cs

-- behind a less-than sign: a comment, or nothing
abbrev pub misc_remark : List ℕ → List ℕ → Result (Bool × List ℕ) DocFault
misc_remark cs [] = Ok (true, cs)
misc_remark cs (c ∷ after) = if c == 33 then (remark_at after >>= λ rest. Ok (false, rest)) else Ok (true, cs)

abbrev pub misc_piece : List ℕ → Result (Bool × List ℕ) DocFault
misc_piece [] = Ok (true, [])
misc_piece (c ∷ cs) = if c == 60 then misc_remark (c ∷ cs) cs else Ok (true, c ∷ cs)

unfoldable pub misc_turn : List ℕ → Result (Bool × List ℕ) DocFault
misc_turn cs = misc_piece (skip_space cs)

-- what comes after white space and comments
abbrev pub misc_at : List ℕ → Result (List ℕ) DocFault
misc_at cs = until Malformed misc_turn (length cs + 1) cs

abbrev pub max_depth : ℕ
max_depth = 32

-- a declaration, white space and comments, the root, and white space and comments again
unfoldable pub tree_at : List ℕ → Result Element DocFault
tree_at cs = do
  body ← declaration_at cs
  begin ← misc_at body
  after ← expected_at 60 begin
  root ← element_at max_depth xml_scope 0 after
  end ← misc_at root.2
  if length end == 0 then Ok root.0 else Err Malformed

-- The tree of a document, or its first fault in document order.
unfoldable pub document : List ℕ → Result Element DocFault
document bytes =
    if is_utf8 bytes then (if list_all is_allowed (chars bytes) then tree_at (line_feeds false (unmarked (chars bytes))) else Err NotText) else Err NotText
