-- The values that stand in all requests, and what features come and go in (OGC 09-025r2, sections 7.6.2, 7.6.3.7 and 7.6.5).
use Rattle.std.specs.Prelude.{ℕ, ◌==◌, ◌||◌, not, List, length, codes}
use Rattle.std.specs.List.{list_any}
use Rattle.std.specs.Str.{bytes_eq}
use Rattle.wfs_ends.specs.Read.{◌>>=◌, unless}
use Rattle.wfs_model.specs.Terms.{refused, is_version, is_format, is_listed}
use Rattle.request_parameters.specs.Said.{Said, Ask, required_of, passing}

-- the service: WFS
unfoldable pub service_of : Said → Ask (Unit {0})
service_of said = do
  text ← required_of (codes "service") said
  unless (not (bytes_eq text (codes "WFS"))) (refused 11 (codes "service"))

-- the version of the service
unfoldable pub version_of : Said → Ask (Unit {0})
version_of said = passing is_version (refused 11 (codes "version")) (said (codes "version"))

-- the reference system: one of its names
unfoldable pub srs_of : List (List ℕ) → Said → Ask (Unit {0})
srs_of srs said = passing (is_listed srs) (refused 11 (codes "srsName")) (said (codes "srsName"))

-- the format under a name: that in which features come in, or that in which they go out
unfoldable pub format_of : List ℕ → Said → Ask (Unit {0})
format_of name said = passing is_format (refused 11 name) (said name)

-- The versions of the service that a client accepts: where some are listed, one of them has to be the service's.
unfoldable pub negotiated : List (List ℕ) → Ask (Unit {0})
negotiated versions =
    unless (not (length versions == 0 || list_any is_version versions)) (refused 13 (codes "acceptVersions"))
