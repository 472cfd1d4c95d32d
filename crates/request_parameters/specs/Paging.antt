-- How features are presented (OGC 09-025r2, sections 7.6.3 and 7.6.4).
use Rattle.std.specs.Prelude.{ℕ, Bool, true, false, ◌&&◌, if◌then◌else◌, List, Option, Some, None, unwrap_or, codes, Ok}
use Rattle.std.specs.Str.{bytes_eq}
use Rattle.wfs_ends.specs.Read.{◌>>=◌}
use Rattle.wfs_model.specs.declared.asked.Present.{Present}
use Rattle.wfs_model.specs.Terms.{refused, count_of}
use Rattle.request_parameters.specs.Said.{Said, Ask, passing, read_if, read_or}
use Rattle.request_parameters.specs.Base.{format_of}
use Rattle.request_parameters.specs.declared.paging.Page.{Page}

-- the number at a name
unfoldable pub number_of : List ℕ → Said → Ask (Option ℕ)
number_of name said = read_if count_of (refused 11 name) (said name)

-- whether features are only counted, which is not for each request to ask
unfoldable pub hits_word : Bool → List ℕ → Option Bool
hits_word may_count text =
    if bytes_eq text (codes "results") then Some false else
    (if may_count && bytes_eq text (codes "hits") then Some true else None)

unfoldable pub hits_of : Bool → Said → Ask Bool
hits_of may_count said = read_or false (hits_word may_count) (refused 11 (codes "resultType")) (said (codes "resultType"))

-- references are never resolved
abbrev pub is_none : List ℕ → Bool
is_none text = bytes_eq text (codes "none")

unfoldable pub resolve_of : Said → Ask (Unit {0})
resolve_of said = passing is_none (refused 12 (codes "resolve")) (said (codes "resolve"))

unfoldable pub page_by : Bool → Said → Ask Page
page_by may_count said = do
  count ← number_of (codes "count") said
  start ← number_of (codes "startIndex") said
  hits ← hits_of may_count said
  _ ← format_of (codes "outputFormat") said
  _ ← resolve_of said
  Ok (record { start = unwrap_or start 0; count = count; hits = hits })

-- the page that a request for features or values asks for
abbrev pub page_of : Said → Ask Page
page_of said = page_by true said

-- the page of features that a request locks as well, so they are not only counted (13.2)
abbrev pub locked_page_of : Said → Ask Page
locked_page_of said = page_by false said

-- a page as it is presented, with the beginning of the links to other pages
abbrev pub presented : Page → Option (List ℕ) → Present
presented page link = record { start = page.start; count = page.count; hits = page.hits; link = link }
