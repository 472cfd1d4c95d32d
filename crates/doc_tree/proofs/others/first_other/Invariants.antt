use Rattle.std.proofs.Common.{◌≡◌, drop, map, filter, Some}
use Rattle.std.specs.List.{fold}
use Rattle.std.specs.Option.{option_copied}
use Rattle.doc_tree.specs.Others.{is_other, lesser, first_other}
use Rattle.doc_tree.proofs.others.first_other.Given as goal

abbrev pub invariant-loop-attribute : goal.invariant-loop-attribute
invariant-loop-attribute l = fold (λ found name. Some (lesser found name)) (option_copied l.least) (map (λ a. a.name.local) (filter (is_other (map (λ n. n.now) l.listed)) (drop l.attribute-index l.attributes))) ≡ first_other (map (λ n. n.now) l.listed) l.attributes
