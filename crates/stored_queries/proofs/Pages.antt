-- Pages of features, seen through what lends them.
use Rattle.std.proofs.Common.{◌≡◌, ℕ, false, List, length, take, drop, map, filter, Option, Some, None, refl, sym, ap, ◌∙◌}
use Rattle.std.proofs.lemmas.List.{take-map, drop-map, length-map}
use Rattle.feature_values.specs.declared.feature.Feature.{Feature}
use Rattle.query_core.specs.Paging.{page_of}
use Rattle.wfs_model.specs.declared.asked.Present.{Present}
use Rattle.wfs_model.specs.declared.reply.Reply.TheVariants.{Values}
use Rattle.wfs_model.specs.Links.{next_page, previous_page, link_to}
use Rattle.wfs_model.specs.Read.{has_value, values}

page_map : {X Y : Type 0} (f : X → Y) (start : ℕ) (count : Option ℕ) (xs : List X) → map f (page_of start count xs) ≡ page_of start count (map f xs)
unfolding page_of
page_map f start None xs = sym (drop-map f start xs)
page_map f start (Some count) xs = sym (take-map f count (drop start xs)) ∙ ap (take count) (sym (drop-map f start xs))

pub values_shown : {X : Type 0} (now : X → Feature) (moment : ℕ) (present : Present) (kind : Option ℕ) (property : ℕ) (found : List Feature) (some : List X) (features : List Feature) (matched : ℕ) (next previous : Option (List ℕ))
    → map now some ≡ filter (has_value kind property) found → present.hits ≡ false → matched ≡ length some → features ≡ map now (page_of present.start present.count some)
    → next ≡ link_to present.link (next_page present.start present.count matched) → previous ≡ link_to present.link (previous_page present.start present.count)
    → Values moment matched property features next previous ≡ values moment present kind property found
unfolding values
values_shown now moment present kind property found some features matched next previous is shown counts page after before =
    rw (shown, ← is, length-map, ← page_map, after, before, page, counts) refl
