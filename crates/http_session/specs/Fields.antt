-- What a head says of the rest of its message (RFC 9110, sections 8.4, 8.6 and 10.1.1; RFC 9112, sections 6 and 9.6).
use Rattle.std.specs.Prelude.{ℕ, min, List, [], ◌∷◌, length, take, drop, map, filter, codes, bytes_eq, Bool, true, false, ◌&&◌, ◌||◌, not, ◌==◌, nat_lt, if◌then◌else◌, Option, Some, None, Result, Ok, Err}
use Rattle.std.specs.List.{list_all, list_any}
use Rattle.std.specs.Char.{is_ascii_digit, to_ascii_lowercase}
use Rattle.std.specs.Str.Parse.{digits_value}
use Rattle.httparse.specs.Grammar.{RequestHead, is_ows, skip_ows}
use Rattle.httparse.specs.Spans.{name_and_value, header_bytes}
use Rattle.httparse.specs.declared.spans.HeaderSpan.{HeaderSpan}
use Rattle.http_session.specs.declared.fields.Named.{Named}
use Rattle.http_session.specs.declared.fields.Named.TheVariants as named
use Rattle.http_session.specs.declared.message.Ending.{Ending}
use Rattle.http_session.specs.declared.message.Ending.TheVariants as ending
use Rattle.http_session.specs.declared.plan.Body.{Body}
use Rattle.http_session.specs.declared.plan.Body.TheVariants as body
use Rattle.http_session.specs.declared.plan.Plan.{Plan}

-- a head has at most so many fields
abbrev pub field_limit : ℕ
field_limit = 64

-- a message has at most so many bytes of content
abbrev pub body_limit : ℕ
body_limit = 4194304

-- a field's name, and its value without the blanks around it
abbrev pub NameValue : Type 0
NameValue = List ℕ × List ℕ

-- one word, whatever the case of its ASCII letters
unfoldable pub same_word : List ℕ → List ℕ → Bool
same_word a b = bytes_eq (map to_ascii_lowercase a) (map to_ascii_lowercase b)

-- the values of the fields of this name, in order
unfoldable pub values_of : List ℕ → List NameValue → List (List ℕ)
values_of name fields = map (λ f. f.1) (filter (λ f. same_word f.0 name) fields)

abbrev pub is_none : List (List ℕ) → Bool
is_none [] = true
is_none (v ∷ vs) = false

-- the list that the fields stand for is this one word
abbrev pub is_only : List ℕ → List (List ℕ) → Bool
is_only word [] = false
is_only word (v ∷ []) = same_word v word
is_only word (v ∷ w ∷ vs) = false

-- a coding is named, and it is not this one
abbrev pub is_other_than : List ℕ → List (List ℕ) → Bool
is_other_than word values = not (is_none values || is_only word values)

-- decimal digits
abbrev pub is_number : List ℕ → Bool
is_number v = nat_lt 0 (length v) && list_all is_ascii_digit v

-- the length that the values of Content-Length state: each is the same number
unfoldable pub length_of : List (List ℕ) → Result (Option ℕ) Ending
length_of [] = Ok None
length_of (v ∷ vs) = if list_all (bytes_eq v) vs && is_number v then Ok (Some (digits_value 10 v)) else Err ending.BadHead

-- the parts between the commas
abbrev pub onto_first : ℕ → List (List ℕ) → List (List ℕ)
onto_first b [] = (b ∷ []) ∷ []
onto_first b (p ∷ ps) = (b ∷ p) ∷ ps

unfoldable pub parts_of : List ℕ → List (List ℕ)
parts_of [] = [] ∷ []
parts_of (b ∷ bytes) = if b == 44 then [] ∷ parts_of bytes else onto_first b (parts_of bytes)

-- the word stands first, and then only blanks
abbrev pub is_word_then_blank : List ℕ → List ℕ → Bool
is_word_then_blank word bytes = same_word (take (length word) bytes) word && list_all is_ows (drop (length word) bytes)

-- one word with blanks around it
unfoldable pub is_padded : List ℕ → List ℕ → Bool
is_padded word bytes = is_word_then_blank word (skip_ows bytes)

-- the list in a value of Connection has the word close
unfoldable pub lists_close : List ℕ → Bool
lists_close value = list_any (is_padded (codes "close")) (parts_of value)

-- a body is announced
abbrev pub is_announced : Body → Bool
is_announced (body.Sized n) = nat_lt 0 n
is_announced body.Chunked = true

-- both Transfer-Encoding and Content-Length stand
unfoldable pub both_stated : List NameValue → Bool
both_stated fields = not (is_none (values_of (codes "transfer-encoding") fields) || is_none (values_of (codes "content-length") fields))

-- a transfer coding other than chunked, or a content coding other than identity
unfoldable pub is_coded : List NameValue → Bool
is_coded fields = is_other_than (codes "chunked") (values_of (codes "transfer-encoding") fields) || is_other_than (codes "identity") (values_of (codes "content-encoding") fields)

unfoldable pub is_chunked : List NameValue → Bool
is_chunked fields = not (is_none (values_of (codes "transfer-encoding") fields))

-- the body, once codings and lengths are known to agree
abbrev pub body_of : Bool → Bool → Option ℕ → Result Body Ending
body_of is_chunked is_post (Some n) = if nat_lt body_limit n then Err ending.TooLarge else Ok (body.Sized n)
body_of is_chunked is_post None = if is_chunked then Ok body.Chunked else if is_post then Err ending.NoLength else Ok (body.Sized 0)

abbrev pub after_length : Result (Option ℕ) Ending → List ℕ → List NameValue → Result Body Ending
after_length (Err e) method fields = Err e
after_length (Ok stated) method fields = if is_coded fields then Err ending.Coding else body_of (is_chunked fields) (bytes_eq method (codes "POST")) stated

-- the value of an Expect field by which its sender waits
abbrev pub asks_to_wait : List ℕ → Bool
asks_to_wait value = same_word value (codes "100-continue")

-- the sender waits for the line 100 Continue: a body is announced by HTTP/1.1, with a field Expect: 100-continue
unfoldable pub is_due : Body → ℕ → List NameValue → Bool
is_due body minor fields = minor == 1 && is_announced body && list_any asks_to_wait (values_of (codes "expect") fields)

-- the connection closes after the answer
unfoldable pub closes : ℕ → List NameValue → Bool
closes minor fields = minor == 0 || list_any lists_close (values_of (codes "connection") fields)

abbrev pub with_body : Result Body Ending → ℕ → List NameValue → Result Plan Ending
with_body (Err e) minor fields = Err e
with_body (Ok body) minor fields = Ok (record { body = body; due = is_due body minor fields; close = closes minor fields })

-- whether the body comes in chunks, or how long it is
unfoldable pub framing_of : List ℕ → List NameValue → Result Body Ending
framing_of method fields =
    if nat_lt field_limit (length fields) then Err ending.BadHead
    else if both_stated fields then Err ending.BadHead
    else after_length (length_of (values_of (codes "content-length") fields)) method fields

-- what a head says of the rest of its message
unfoldable pub plan_of : List ℕ → ℕ → List NameValue → Result Plan Ending
plan_of method minor fields = with_body (framing_of method fields) minor fields

abbrev pub judged : RequestHead → Result Plan Ending
judged h = plan_of h.method h.minor (map name_and_value h.fields)

-- for the reader: what the values of one name are, as far as the rules ask
pub data Found : Type 0 where
  no_value : Found
  one_value : List ℕ → Found
  equal_values : List ℕ → Found
  other_values : Found

abbrev pub found_of : List (List ℕ) → Found
found_of [] = no_value
found_of (v ∷ []) = one_value v
found_of (v ∷ w ∷ vs) = if list_all (bytes_eq v) (w ∷ vs) then equal_values v else other_values

-- with one more value
abbrev pub found_more : Found → List ℕ → Found
found_more no_value w = one_value w
found_more (one_value v) w = if bytes_eq v w then equal_values v else other_values
found_more (equal_values v) w = if bytes_eq v w then equal_values v else other_values
found_more other_values w = other_values

-- with one more field
abbrev pub found_field : List ℕ → Found → NameValue → Found
found_field name seen field = if same_word field.0 name then found_more seen field.1 else seen

-- a field of this name whose value passes the test
abbrev pub is_field_with : List ℕ → (List ℕ → Bool) → NameValue → Bool
is_field_with name test field = same_word field.0 name && test field.1

abbrev pub is_close_field : NameValue → Bool
is_close_field field = is_field_with (codes "connection") lists_close field

abbrev pub is_wait_field : NameValue → Bool
is_wait_field field = is_field_with (codes "expect") asks_to_wait field

abbrev pub found : Named → Found
found named.None = no_value
found (named.One v) = one_value v.now
found (named.Equal v) = equal_values v.now
found named.Other = other_values

abbrev pub found_none : Found → Bool
found_none no_value = true
found_none (one_value v) = false
found_none (equal_values v) = false
found_none other_values = false

abbrev pub found_only : List ℕ → Found → Bool
found_only word no_value = false
found_only word (one_value v) = same_word v word
found_only word (equal_values v) = false
found_only word other_values = false

-- a number, where one above the limit stands for each greater one
abbrev pub capped : ℕ → ℕ
capped n = min n 4194305

unfoldable pub number_of : List ℕ → Option ℕ
number_of v = if is_number v then Some (capped (digits_value 10 v)) else None

abbrev pub stated_by : Option ℕ → Result (Option ℕ) Ending
stated_by None = Err ending.BadHead
stated_by (Some n) = Ok (Some n)

abbrev pub found_length : Found → Result (Option ℕ) Ending
found_length no_value = Ok None
found_length (one_value v) = stated_by (number_of v)
found_length (equal_values v) = stated_by (number_of v)
found_length other_values = Err ending.BadHead

-- the name and the value of a field in the bytes of a head
abbrev pub fields_at : List ℕ → List HeaderSpan → List NameValue
fields_at bytes headers = map (header_bytes bytes) headers

abbrev pub after_first : List ℕ → Option (List ℕ)
after_first [] = None
after_first (b ∷ bytes) = Some bytes

-- a length, where one above the limit stands for each greater one
abbrev pub capped_length : Result (Option ℕ) Ending → Result (Option ℕ) Ending
capped_length (Err e) = Err e
capped_length (Ok None) = Ok None
capped_length (Ok (Some n)) = Ok (Some (capped n))
