-- What a page has, and whether it alone has it.
use Rattle.std.specs.Prelude.{Bool, true, false, List}
use Rattle.std.specs.Arc.{arc_value}
use Rattle.paged_list.specs.declared.page.Page.{Page}
use Rattle.paged_list.specs.declared.page.Page.TheVariants.{Own, Shared}

module _ {X : Type 0} where
  -- the items of a page
  abbrev pub items_of : Page X → List X
  items_of (Own items) = items.items
  items_of (Shared items) = (arc_value items).items

  -- whether a page alone has its items
  abbrev pub is_own : Page X → Bool
  is_own (Own items) = true
  is_own (Shared items) = false
