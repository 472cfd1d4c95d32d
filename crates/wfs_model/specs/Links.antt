-- The links of pages (OGC 09-025r2, section 7.7.4.4). Where links stand is this project's own.
use Rattle.std.specs.Prelude.{ℕ, ◌+◌, ◌-◌, ◌&&◌, nat_lt, if◌then◌else◌, List, ◌++◌, min, codes, decimal, Option, Some, None}

-- the link to a page, from the beginning that all links of a request have
unfoldable pub page_link : List ℕ → ℕ → ℕ → List ℕ
page_link link start count = (((link ++ codes "&startIndex=") ++ decimal start) ++ codes "&count=") ++ decimal count

-- where a page begins, and how many members it has at most
pub record Page : Type 0 where
  pub start : ℕ
  pub count : ℕ

-- the page behind one that begins there and has at most so many members, where something is left for it
unfoldable pub next_page : ℕ → Option ℕ → ℕ → Option Page
next_page start None matched = None
next_page start (Some count) matched =
    if nat_lt 0 count && nat_lt (start + count) matched then Some (record { start = start + count; count = count }) else None

-- the page before one, where something stands before it
unfoldable pub previous_page : ℕ → Option ℕ → Option Page
previous_page start None = if nat_lt 0 start then Some (record { start = 0; count = start }) else None
previous_page start (Some count) =
    if nat_lt 0 count && nat_lt 0 start then Some (record { start = start - count; count = min count start }) else None

-- the link to a page; none where the request came otherwise than as a query of pairs, and where there is no such page
unfoldable pub link_to : Option (List ℕ) → Option Page → Option (List ℕ)
link_to (Some link) (Some page) = Some (page_link link page.start page.count)
link_to link page = None
