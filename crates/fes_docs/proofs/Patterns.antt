-- The pattern of a text, by its characters one after the other.
use Rattle.std.proofs.Common.{◌≡◌, ℕ, Bool, false, List, [], map, fold, Result, Ok, Err, sym, ap, ◌∙◌}
use Rattle.std.specs.Prelude.{if◌then◌else◌}
use Rattle.std.specs.Str.{chars}
use Rattle.std.proofs.lemmas.List.{map-id}
use Rattle.fes_filter.specs.declared.pattern.LikePart.{LikePart}
use Rattle.fes_docs.specs.Like.{bad_marks, next_part, pattern_of}
use Rattle.fes_docs.specs.declared.like.Marks.{Marks}
use Rattle.fes_docs.specs.declared.fault.FilterDocFault.{FilterDocFault}

abbrev at_end : List LikePart × Bool → Result (List LikePart) FilterDocFault
at_end found = if found.1 then Err bad_marks else Ok found.0

pub read_whole : (marks : Marks) (text : List ℕ) (parts : List LikePart) (is_escaped : Bool) (read : List ℕ)
    → (parts, is_escaped) ≡ fold (next_part marks) ([], false) read → map (λ c. c) read ≡ chars text → pattern_of marks text ≡ (if is_escaped then Err bad_marks else Ok parts)
unfolding pattern_of
read_whole marks text parts is_escaped read found all = ap at_end (ap (fold (next_part marks) ([], false)) (sym all ∙ map-id read) ∙ sym found)
