-- Refusals (OGC 06-121r9, 8.5; OGC 09-025r2, 7.5; RFC 9110, section 15).
use Rattle.std.specs.Prelude.{ℕ, Bool, true, if◌then◌else◌, ◌==◌, List, [], ◌∷◌, codes}
use Rattle.wfs_ends.specs.Ends.{joined}
use Rattle.doc_tree.specs.Escape.{escaped}
use Rattle.reply_documents.specs.Head.{answer_text}
use Rattle.reply_documents.specs.declared.row.Row as code

-- what all refusals of one row of the table of refusals have in common
pub record Row : Type 0 where
  -- of the answer
  pub status : ℕ
  -- of the exception
  pub code : List ℕ
  -- what the exception points at, where that is the same in each; else it is empty here
  pub locator : List ℕ
  -- the exception's text
  pub reason : List ℕ

abbrev pub row : ℕ → List ℕ → List ℕ → List ℕ → Row
row status code locator reason = record { status = status; code = code; locator = locator; reason = reason }

abbrev pub row_shown : code.Row → Row
row_shown r = row r.status r.code.now r.locator.now r.reason.now

-- The table. A number that is no row counts as 27.
unfoldable pub row_of : ℕ → Row
row_of n =
    if n == 1 then row 400 (codes "OperationParsingFailed") (codes "head") (codes "bad message head") else (
    if n == 2 then row 413 (codes "NoApplicableCode") (codes "size") (codes "message too large") else (
    if n == 3 then row 411 (codes "NoApplicableCode") (codes "Content-Length") (codes "length required") else (
    if n == 4 then row 501 (codes "OptionNotSupported") (codes "coding") (codes "coded body") else (
    if n == 5 then row 404 (codes "NoApplicableCode") (codes "path") (codes "unknown path") else (
    if n == 6 then row 501 (codes "OperationNotSupported") (codes "method") (codes "unknown method") else (
    if n == 7 then row 400 (codes "OperationParsingFailed") (codes "document") (codes "bad document") else (
    if n == 8 then row 400 (codes "OperationParsingFailed") [] (codes "misplaced or malformed") else (
    if n == 9 then row 501 (codes "OperationNotSupported") [] (codes "unknown operation") else (
    if n == 10 then row 400 (codes "MissingParameterValue") [] (codes "value missing") else (
    if n == 11 then row 400 (codes "InvalidParameterValue") [] (codes "value refused") else (
    if n == 12 then row 501 (codes "OptionNotSupported") [] (codes "option refused") else (
    if n == 13 then row 400 (codes "VersionNegotiationFailed") (codes "acceptVersions") (codes "no common version") else (
    if n == 14 then row 400 (codes "InvalidValue") [] (codes "value does not fit") else (
    if n == 15 then row 400 (codes "InvalidLockId") (codes "lockId") (codes "unknown lock") else (
    if n == 16 then row 403 (codes "LockHasExpired") (codes "lockId") (codes "lock has expired") else (
    if n == 17 then row 400 (codes "InvalidValue") (codes "Filter") (codes "more than one feature") else (
    if n == 18 then row 400 (codes "MissingParameterValue") (codes "lockId") (codes "feature is locked") else (
    if n == 19 then row 403 (codes "OperationProcessingFailed") [] (codes "feature is locked by another") else (
    if n == 20 then row 409 (codes "CannotLockAllFeatures") [] (codes "not all are free") else (
    if n == 21 then row 409 (codes "DuplicateStoredQueryIdValue") [] (codes "query exists") else (
    if n == 22 then row 400 (codes "DuplicateStoredQueryParameterName") [] (codes "parameter twice") else (
    if n == 23 then row 404 (codes "InvalidParameterValue") (codes "id") (codes "no such feature") else (
    if n == 24 then row 400 (codes "InvalidParameterValue") (codes "storedQuery_id") (codes "no such query") else (
    if n == 25 then row 500 (codes "NoApplicableCode") (codes "store") (codes "store fault") else (
    if n == 26 then row 503 (codes "NoApplicableCode") (codes "full") (codes "full") else (
    row 503 (codes "NoApplicableCode") (codes "memory") (codes "no memory")))))))))))))))))))))))))))

-- the media type of all replies but those that hold features
abbrev pub plain_media : List ℕ
plain_media = codes "text/xml"

-- an exception report with one exception of a row, which points at this
unfoldable pub report_text : Row → List ℕ → List ℕ
report_text r locator = joined (
    codes "<?xml version=\"1.0\" encoding=\"UTF-8\"?><ows:ExceptionReport xmlns:ows=\"http://www.opengis.net/ows/1.1\" version=\"2.0.2\"><ows:Exception exceptionCode=\""
    ∷ r.code ∷ codes "\" locator=\"" ∷ escaped true locator ∷ codes "\"><ows:ExceptionText>" ∷ r.reason
    ∷ codes "</ows:ExceptionText></ows:Exception></ows:ExceptionReport>" ∷ [])

unfoldable pub refusal_body : ℕ → List ℕ → List ℕ
refusal_body n locator = report_text (row_of n) locator

unfoldable pub refusal_text : ℕ → List ℕ → Bool → List ℕ
refusal_text n locator close = answer_text (row_of n).status plain_media (refusal_body n locator) close

-- a refusal that points at what all of its row point at
unfoldable pub fixed_text : ℕ → Bool → List ℕ
fixed_text n close = refusal_text n (row_of n).locator close
