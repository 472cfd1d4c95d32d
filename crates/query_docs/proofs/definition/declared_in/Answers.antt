use Rattle.std.proofs.Common.{◌≡◌, ℕ, ◌+◌, ◌<◌, List, [], ◌∷◌, ◌++◌, length, get_or, take, sym, ap, ◌∙◌}
use Rattle.std.specs.List.{flat_map}
use Rattle.std.proofs.lemmas.List.{take_more, take_all, append-nil}
use Rattle.std.proofs.lemmas.Grind.{flat_map-append}
use Rattle.std.proofs.lemmas.List.Concat.{flat_map-cons}
use Rattle.query_docs.specs.Definitions.{declared_by, declared_in}
use Rattle.query_docs.proofs.definition.declared_in.Goals as goal

more : {A B : Type 0} (f : A → List B) (xs : List A) (i : ℕ) (x : A) → i < length xs → x ≡ get_or xs i x → flat_map f (take (i + 1) xs) ≡ flat_map f (take i xs) ++ f x
more f xs i x lt is =
    ap (flat_map f) (take_more xs i x lt) ∙ flat_map-append f (take i xs) (get_or xs i x ∷ [])
    ∙ ap (λ t. flat_map f (take i xs) ++ t) (flat_map-cons f (get_or xs i x) [] ∙ append-nil (f (get_or xs i x)) ∙ ap f (sym is))

pub loop-element-preserved : goal.loop-element-preserved
loop-element-preserved c =
    c.in_ok-add_declared.ensures ∙ ap (λ t. t ++ declared_by c.element-item.result) c.loop-element.invariant
    ∙ sym (more declared_by c.args.elements.now c.loop-element.element-index c.element-item.result c.loop-element-test.true c.element-item.is)

pub returns : goal.returns
returns c = c.of.ensures ∙ c.loop-element.invariant ∙ ap declared_in (take_all c.loop-element.element-index c.args.elements.now c.loop-element-test.false)
