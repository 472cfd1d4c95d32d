-- Values that stand in requests, whatever form a request has (OGC 09-025r2, sections 7.6.2 to 7.6.6), and how requests are refused.
use Rattle.std.specs.Prelude.{ℕ, ◌^◌, Bool, ◌||◌, List, codes, Option}
use Rattle.std.specs.List.{list_any}
use Rattle.std.specs.Str.{bytes_eq}
use Rattle.feature_values.specs.Reads.{numeral_below}
use Rattle.wfs_model.specs.declared.fault.AskFault.{AskFault}
use Rattle.wfs_model.specs.declared.fault.AskFault.TheVariants.{Refused}

-- a refusal by a row, which points at a part of the request
abbrev pub refused : ℕ → List ℕ → AskFault
refused row locator = Refused (record { row = row; locator = locator })

-- a version of the service
unfoldable pub is_version : List ℕ → Bool
is_version text = bytes_eq text (codes "2.0.0") || bytes_eq text (codes "2.0.2")

-- the name of GML 3.2, in which features come in and go out
unfoldable pub is_format : List ℕ → Bool
is_format text =
    bytes_eq text (codes "application/gml+xml; version=3.2")
    || (bytes_eq text (codes "text/xml; subtype=gml/3.2") || bytes_eq text (codes "text/xml; subtype=gml/3.2.1"))

-- one of some names
unfoldable pub is_listed : List (List ℕ) → List ℕ → Bool
is_listed names text = list_any (λ name. bytes_eq name text) names

-- a number of 32 bits, in decimal digits
unfoldable pub count_of : List ℕ → Option ℕ
count_of text = numeral_below (2 ^ 32) text
