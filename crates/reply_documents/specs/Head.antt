-- The head of an answer (RFC 9112, sections 4 to 6).
use Rattle.std.specs.Prelude.{ℕ, Bool, true, false, List, [], ◌∷◌, length, codes, decimal, unwrap_or}
use Rattle.http.specs.StatusCode.{reason_phrase}
use Rattle.wfs_ends.specs.Ends.{joined, capped}

unfoldable pub phrase_of : ℕ → List ℕ
phrase_of status = unwrap_or (reason_phrase status) []

-- whether the connection ends after the answer
abbrev pub close_text : Bool → List ℕ
close_text true = codes "\r\nConnection: close"
close_text false = []

unfoldable pub status_line : ℕ → List ℕ
status_line status = joined (codes "HTTP/1.1 " ∷ decimal status ∷ codes " " ∷ phrase_of status ∷ [])

-- the head of an answer with this status and media type, whose body has so many bytes
unfoldable pub head_text : ℕ → List ℕ → ℕ → Bool → List ℕ
head_text status media size close = joined (
    status_line status ∷ codes "\r\nContent-Type: " ∷ media ∷ codes "\r\nContent-Length: " ∷ decimal size ∷ close_text close ∷ codes "\r\n\r\n" ∷ [])

-- an answer with its body
unfoldable pub answer_text : ℕ → List ℕ → List ℕ → Bool → List ℕ
answer_text status media body close = joined (head_text status media (capped (length body)) close ∷ body ∷ [])
