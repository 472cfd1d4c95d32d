-- PropertyIsLike: the three characters of its attributes, and the pattern that its literal writes (FES 2.0, OGC
-- 09-026r2, section 7.7.3.3).
use Rattle.std.specs.Prelude.{ℕ, Bool, true, false, ◌||◌, if◌then◌else◌, ◌==◌, List, [], ◌∷◌, ◌++◌, codes, fold, Option, Some, None, Result, Ok, Err}
use Rattle.std.specs.Str.{chars}
use Rattle.wfs_ends.specs.Read.{◌>>=◌}
use Rattle.doc_tree.specs.declared.tree.Element.{Element, out-Element}
use Rattle.feature_values.specs.declared.schema.FeatureType.{FeatureType}
use Rattle.fes_filter.specs.Check.{is_words}
use Rattle.fes_filter.specs.declared.pattern.LikePart.{LikePart}
use Rattle.fes_filter.specs.declared.pattern.LikePart.TheVariants.{Exactly, One, Many}
use Rattle.fes_filter.specs.declared.filter.Filter.{Filter}
use Rattle.fes_filter.specs.declared.filter.Filter.TheVariants.{Like}
use Rattle.fes_filter.specs.declared.fault.FilterFault.TheVariants.{Choice}
use Rattle.fes_docs.specs.Names.{text_of, value_of, no_others, named, no_more, first_in, plain, missing}
use Rattle.fes_docs.specs.Sides.{property_at, suited, match_case, case_of}
use Rattle.fes_docs.specs.declared.like.Marks.{Marks}
use Rattle.fes_docs.specs.declared.fault.FilterDocFault.{FilterDocFault}
use Rattle.fes_docs.specs.declared.fault.FilterDocFault.TheVariants.{Checked}

-- ---- the three characters

abbrev pub bad_marks : FilterDocFault
bad_marks = Checked Choice (codes "escapeChar")

abbrev pub one_of : List ℕ → Result ℕ FilterDocFault
one_of (c ∷ []) = Ok c
one_of cs = Err bad_marks

abbrev pub mark_in : Element → Option (List ℕ) → Result ℕ FilterDocFault
mark_in e None = Err (missing e)
mark_in e (Some text) = one_of (chars text)

-- an attribute that has to be there, with one character
unfoldable pub mark_of : List ℕ → Element → Result ℕ FilterDocFault
mark_of local e = mark_in e (value_of local e)

-- they are three different ones
unfoldable pub marks_of : Element → Result Marks FilterDocFault
marks_of e = do
  many ← mark_of (codes "wildCard") e
  one ← mark_of (codes "singleChar") e
  escape ← mark_of (codes "escapeChar") e
  if (many == one) || (many == escape) || (one == escape) then Err bad_marks else Ok (record { many = many; one = one; escape = escape })

-- there are no attributes but these and matchCase
unfoldable pub only_marks : Element → Result (Unit {0}) FilterDocFault
only_marks e = no_others (match_case ∷ codes "wildCard" ∷ codes "singleChar" ∷ codes "escapeChar" ∷ []) e

-- ---- the pattern

-- a character behind no escape
abbrev pub part_of : Marks → ℕ → LikePart
part_of marks c = if c == marks.many then Many else (if c == marks.one then One else Exactly c)

-- the parts so far, and whether an escape stands behind them; and then one character more
abbrev pub next_part : Marks → List LikePart × Bool → ℕ → List LikePart × Bool
next_part marks found c =
    if found.1 then (found.0 ++ Exactly c ∷ [], false) else
    (if c == marks.escape then (found.0, true) else (found.0 ++ part_of marks c ∷ [], false))

-- a text as a pattern; no escape stands at its end
unfoldable pub pattern_of : Marks → List ℕ → Result (List LikePart) FilterDocFault
pattern_of marks text = let found = fold (next_part marks) ([], false) (chars text) in
    if found.1 then Err bad_marks else Ok found.0

-- ---- the operator

-- a Literal with a pattern, behind a property
unfoldable pub pattern_behind : Marks → ℕ → Element → List Element → Result Filter FilterDocFault
pattern_behind marks property whole es = do
  f ← first_in whole es
  _ ← named (codes "Literal") f.0
  _ ← plain f.0
  pattern ← pattern_of marks (text_of f.0)
  _ ← no_more f.1
  Ok (Like property pattern)

-- a property of texts, and then a pattern
unfoldable pub like_of : Option FeatureType → Element → Result Filter FilterDocFault
like_of of_type e = do
  _ ← case_of e
  marks ← marks_of e
  _ ← only_marks e
  f ← first_in e (out-Element e).children
  _ ← named (codes "ValueReference") f.0
  p ← property_at of_type f.0
  _ ← suited (is_words p.1) f.0
  pattern_behind marks p.0 e f.1
