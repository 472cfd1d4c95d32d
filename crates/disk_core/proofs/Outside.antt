-- What is outside the ranges that are written.
use Rattle.std.proofs.Common.{◌≡◌, ◌⊎◌, inl, inr, ⊎_elim, ℕ, ◌+◌, ◌-◌, ◌≤◌, ◌<◌, List, [], ◌∷◌, length, get_or, take, sym, ◌∙◌, ap, subst, arith, Some}
use Rattle.std.specs.Prelude.{slice_get}
use Rattle.std.specs.List.{AllByRecursion}
use Rattle.std.proofs.lemmas.List.{get_or-take, get_or-drop, length-take}
use Rattle.std.proofs.lemmas.Option.{slice_get_within, slice_get-get_or, get_or_from_slice_get}
use Rattle.disk_core.specs.Disk.{Torn, SameOutside, Comes}
use Rattle.disk_core.specs.Story.{Step, read_after, Left, LeftAll}
use Rattle.disk_core.specs.Story.Step.{wrote, shortened, synced}
use Rattle.disk_core.specs.Memory.{IsChange, IsUntouched}

same_number : (at n k : ℕ) (old new : List ℕ) → Torn at n old new → (k < at) ⊎ (at + n ≤ k) → k < length old → get_or new k 0 ≡ get_or old k 0
same_number at n k old new torn (inl before) lt =
    sym (get_or-take (k + 1) new k 0 (omega arith)) ∙ ap (λ (l : List ℕ). get_or l k 0) (torn.front (k + 1) (omega (arith, before)) (omega (arith, lt))) ∙ get_or-take (k + 1) old k 0 (omega arith)
same_number at n k old new torn (inr behind) lt =
    let place : at + n + (k - (at + n)) ≡ k = omega (arith, behind) in
    ap (λ i. get_or new i 0) (sym place) ∙ sym (get_or-drop (at + n) new (k - (at + n)) 0) ∙ ap (λ (l : List ℕ). get_or l (k - (at + n)) 0) torn.back
    ∙ get_or-drop (at + n) old (k - (at + n)) 0 ∙ ap (λ i. get_or old i 0) place

-- a torn write leaves the rest
pub torn_outside : (at n : ℕ) (old new : List ℕ) → Torn at n old new → SameOutside at n old new
torn_outside at n old new torn k byte out is =
    let lt : k < length old = slice_get_within old k byte is in
    let long : k < length new = ⊎_elim (λ e. omega (arith, e, lt)) (λ e. omega (arith, e, lt)) torn.size in
    slice_get-get_or new k 0 long ∙ ap Some (same_number at n k old new torn out lt ∙ get_or_from_slice_get old k byte 0 is)

pub comes_outside : (images : List ℕ → Type 0) (at n : ℕ) (c : List ℕ) → Comes (Torn at n) images c → (d : List ℕ) × images d × SameOutside at n d c
comes_outside images at n c from = (from.0, from.1, torn_outside at n from.0 c from.2)

-- so does a cut behind it
cut_below : (to k byte : ℕ) (s : List ℕ) → k < to → slice_get s k ≡ Some byte → slice_get (take to s) k ≡ Some byte
cut_below to k byte s lt is =
    slice_get-get_or (take to s) k 0 (omega (arith, length-take to s, slice_get_within s k byte is, lt)) ∙ ap Some (get_or-take to s k 0 lt ∙ get_or_from_slice_get s k byte 0 is)

-- what no write touches stays in each image
pub stays : (images : List ℕ → Type 0) (s : List ℕ) (steps : List Step) (k byte : ℕ) → AllByRecursion IsChange steps → AllByRecursion (IsUntouched k) steps
    → ((d : List ℕ) → images d → slice_get d k ≡ Some byte) → (c : List ℕ) → LeftAll images s steps c → slice_get c k ≡ Some byte
unfolding LeftAll
stays images s [] k byte all out has c here = has c here
stays images s (wrote at bytes ∷ steps) k byte all out has c here =
    stays (Left images s (wrote at bytes)) (read_after s (wrote at bytes)) steps k byte all.1 out.1 (λ d left. torn_outside at (length bytes) left.0 d left.2 k byte out.0 (has left.0 left.1)) c here
stays images s (shortened to ∷ steps) k byte all out has c here =
    stays (Left images s (shortened to)) (read_after s (shortened to)) steps k byte all.1 out.1
    (λ d left. ⊎_elim (λ e. subst (λ (x : List ℕ). slice_get x k ≡ Some byte) (sym e) (has left.0 left.1))
    (λ e. subst (λ (x : List ℕ). slice_get x k ≡ Some byte) (sym e) (cut_below to k byte left.0 out.0 (has left.0 left.1))) left.2) c here
stays images s (synced ∷ steps) k byte all out has c here = absurd all.0
