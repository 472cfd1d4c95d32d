-- What a read gives, where the disk tells, along a run of calls.
use Rattle.std.proofs.Common.{◌≡◌, ℕ, List, take, refl, sym, subst, Option, Some, None, IfSome, Result, Ok, Err, OnOk}
use Rattle.disk_core.specs.Disk.{over, written, cut_to, Every}

pub if_some : (o : Option (List ℕ)) (P : List ℕ → Type 0) → ((s : List ℕ) → o ≡ Some s → P s) → IfSome o P
if_some None P f = tt
if_some (Some s) P f = f s refl

pub at_some : (o : Option (List ℕ)) (P : List ℕ → Type 0) (s : List ℕ) → o ≡ Some s → IfSome o P → P s
at_some o P s e p = subst (λ x. IfSome x P) e p

pub reads_more : (o : Option (List ℕ)) (P Q : List ℕ → Type 0) → ((s : List ℕ) → P s → Q s) → IfSome o P → IfSome o Q
reads_more None P Q f p = tt
reads_more (Some s) P Q f p = f s p

-- after a write
pub reads_written : (at : ℕ) (bytes : List ℕ) (o new : Option (List ℕ)) (P Q : List ℕ → Type 0) → ((s : List ℕ) → P s → Q (over at bytes s)) → new ≡ written at bytes o → IfSome o P → IfSome new Q
unfolding written
reads_written at bytes None new P Q f e p = subst (λ x. IfSome x Q) (sym e) tt
reads_written at bytes (Some s) new P Q f e p = subst (λ x. IfSome x Q) (sym e) (f s p)

-- what each image has, once it is stable
pub every_stable : (images : List ℕ → Type 0) (o : Option (List ℕ)) (P : List ℕ → Type 0) → ((c : List ℕ) → images c → o ≡ Some c) → IfSome o P → Every images P
every_stable images o P stable p c here = at_some o P c (stable c here) p

-- A disk as it reads is one of its images.
pub seen : {D : Type 0} (shown : D → Option (List ℕ)) (images : D → List ℕ → Type 0) → ((d : D) (s : List ℕ) → shown d ≡ Some s → images d s) → (d : D) (P : List ℕ → Type 0) → Every (images d) P → IfSome (shown d) P
seen shown images reads d P all = if_some (shown d) P (λ s e. all s (reads d s e))

pub ok_more : {T E : Type 0} (r : Result T E) (P Q : Type 0) → (P → Q) → OnOk r P → OnOk r Q
ok_more (Ok x) P Q f p = f p
ok_more (Err e) P Q f p = tt

-- after a cut
pub reads_cut : (n : ℕ) (o new : Option (List ℕ)) (P Q : List ℕ → Type 0) → ((s : List ℕ) → P s → Q (take n s)) → new ≡ cut_to n o → IfSome o P → IfSome new Q
unfolding cut_to
reads_cut n None new P Q f e p = subst (λ x. IfSome x Q) (sym e) tt
reads_cut n (Some s) new P Q f e p = subst (λ x. IfSome x Q) (sym e) (f s p)

pub ok_all : {T E : Type 0} (r : Result T E) (P : Type 0) → P → OnOk r P
ok_all (Ok x) P p = p
ok_all (Err e) P p = tt
