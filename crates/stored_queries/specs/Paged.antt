-- Pages as the code holds them.
use Rattle.std.specs.Prelude.{ℕ}
use Rattle.wfs_model.specs.Links.{Page}

-- where a page begins, and how many members it has at most
abbrev pub page_at : ℕ × ℕ → Page
page_at pair = record { start = pair.0; count = pair.1 }
