-- What each call makes of an image.
use Rattle.std.proofs.Common.{◌≡◌, ℕ, ◌+◌, ◌≤◌, List, [], ◌∷◌, ◌++◌, length, sym, ap, subst, arith, append_assoc, length-append, Option, Some, IfSome}
use Rattle.std.specs.Int.{to_be_bytes, w32}
use Rattle.disk_core.specs.Disk.{Begins, Torn, Keeps, Every, over}
use Rattle.disk_core.proofs.Bytes.{length-begins, begins_set, begins_byte, begins_front, begins_keeps}
use Rattle.disk_core.proofs.Seen.{seen, reads_more}
use Rattle.feature_journal.specs.Side.{framed, behind, opened, Closed, Gate}

pub closed_long : (front c : List ℕ) → Closed front c → length front + 1 ≤ length c
closed_long front c b = omega (arith, length-begins (front ++ 0 ∷ []) c b, length-append front (0 ∷ []))

pub gate_long : (front text c : List ℕ) → Gate front text c → length front + 1 ≤ length c
gate_long front text c b = omega (arith, length-begins _ c b.is, length-append front (b.byte ∷ text))

-- so a disk reads up to the gate
pub gate_reads : {D : Type 0} (shown : D → Option (List ℕ)) (images : D → List ℕ → Type 0) → ((d : D) (s : List ℕ) → shown d ≡ Some s → images d s) → (d : D) (gate : ℕ) (front text : List ℕ) → length front ≡ gate
    → Every (images d) (Gate front text) → IfSome (shown d) (λ s. gate ≤ length s)
gate_reads shown images reads d gate front text is all = reads_more (shown d) (Gate front text) (λ s. gate ≤ length s) (λ s b. omega (arith, gate_long front text s b, is)) (seen shown images reads d (Gate front text) all)

pub gate_front : (front text c : List ℕ) → Gate front text c → Gate front [] c
gate_front front text c b = record { byte = b.byte; is = begins_front (front ++ b.byte ∷ []) text c (subst (λ l. Begins l c) (sym (append_assoc front (b.byte ∷ []) text)) b.is) }

-- a record and a closed gate were written behind a gate
pub laid : (front size body c : List ℕ) → size ≡ to_be_bytes w32 (length body) → Begins ((front ++ 0 ∷ []) ++ (size ++ (body ++ 0 ∷ []))) c → Begins (front ++ 0 ∷ behind body) c
unfolding framed
laid front size body c is b = subst (λ text. Begins text c) (simp append_assoc (ap (λ (l : List ℕ). front ++ 0 ∷ (l ++ (body ++ 0 ∷ []))) is)) b

pub set_on : (gate : ℕ) (front text : List ℕ) (value : ℕ) (c : List ℕ) → length front ≡ gate → Gate front text c → Begins (front ++ value ∷ text) (over gate (value ∷ []) c)
set_on gate front text value c is b = begins_set gate front b.byte value text c is b.is

pub torn_on : (gate : ℕ) (front text d c : List ℕ) → length front ≡ gate → Gate front text d → Torn gate 1 d c → Gate front text c
torn_on gate front text d c is b torn = record { byte = _; is = begins_byte gate front b.byte text d c is b.is torn }

pub keeps_closed : (gate : ℕ) (front d c : List ℕ) → length front ≡ gate → Closed front d → Keeps (gate + 1) d c → Closed front c
keeps_closed gate front d c is b keeps =
    begins_keeps (gate + 1) (front ++ 0 ∷ []) d c (omega (arith, length-append front (0 ∷ []))) (omega (arith, closed_long front d b)) b keeps

pub begun_closed : (front body c : List ℕ) → Begins (front ++ 0 ∷ behind body) c → Closed front c
begun_closed front body c b = begins_front (front ++ 0 ∷ []) (framed body ++ 0 ∷ []) c (subst (λ text. Begins text c) (sym (append_assoc front (0 ∷ []) (framed body ++ 0 ∷ []))) b)

pub begun_open : (front body c : List ℕ) → Begins (front ++ 1 ∷ behind body) c → Closed (front ++ opened body) c
begun_open front body c b = subst (λ text. Begins text c) (sym (append_assoc front (opened body) (0 ∷ []))) b
