-- A disk in memory keeps the laws of a disk. Its impl can cite only what stands here.
use Rattle.std.proofs.Common.{◌≡◌, inl, inr, ℕ, ◌+◌, ◌≤◌, List, [], ◌∷◌, ◌++◌, length, take, drop, refl, sym, ◌∙◌, ap, subst, arith, append_assoc, length-append, nat_lt, Bool, true, false}
use Rattle.std.proofs.lemmas.Bool.Decides.{nat_tests}
use Rattle.std.proofs.lemmas.List.{take_all, drop_at, length-take-le, take-append-le, take-take, length-drop}
use Rattle.disk_core.specs.Disk.{over, Torn}
use Rattle.disk_core.specs.Story.{Step, read_after, Left, read_after_all, LeftAll, Image, ImageSince}
use Rattle.disk_core.specs.Story.Step.{wrote, shortened, synced}

-- nothing of a write or cut may be done
pub torn_none : (at n : ℕ) (s : List ℕ) → Torn at n s s
torn_none at n s = record { front = λ k le long. refl; back = refl; size = inl refl }

-- all of a write may be done
pub torn_all : (at : ℕ) (bytes s : List ℕ) → at ≤ length s → Torn at (length bytes) s (over at bytes s)
unfolding over
torn_all at bytes s le =
    let cut : length (take at s) ≡ at = length-take-le at s le in
    record {
      front = λ k below long. ap (take k) (append_assoc (take at s) bytes (drop (at + length bytes) s)) ∙ take-append-le k (take at s) (bytes ++ drop (at + length bytes) s) (omega (arith, cut)) ∙ take-take k at s below;
      back = drop_at (take at s ++ bytes) (drop (at + length bytes) s) (at + length bytes) (omega (arith, length-append (take at s) bytes, cut));
      size = inr (omega (arith, length-append (take at s ++ bytes) (drop (at + length bytes) s), length-append (take at s) bytes, cut, length-drop (at + length bytes) s));
    }

torn_read : (at : ℕ) (bytes s : List ℕ) (b : Bool) → nat_lt (length s) at ≡ b → Torn at (length bytes) s (read_after s (wrote at bytes))
unfolding read_after
torn_read at bytes s true e = rw e (torn_none at (length bytes) s)
torn_read at bytes s false e = rw e (torn_all at bytes s (grind (arith, nat_tests)))

-- what is read may be left
pub reads_left : (images : List ℕ → Type 0) (s : List ℕ) (steps : List Step) → images s → LeftAll images s steps (read_after_all s steps)
unfolding LeftAll read_after_all read_after
reads_left images s [] here = here
reads_left images s (wrote at bytes ∷ steps) here = reads_left (Left images s (wrote at bytes)) (read_after s (wrote at bytes)) steps (s, here, torn_read at bytes s (nat_lt (length s) at) refl)
reads_left images s (shortened n ∷ steps) here = reads_left (Left images s (shortened n)) (read_after s (shortened n)) steps (s, here, inr refl)
reads_left images s (synced ∷ steps) here = reads_left (Left images s synced) (read_after s synced) steps refl

pub image_reads : (base : List ℕ) (steps : List Step) → Image base steps (read_after_all base steps)
image_reads base steps = reads_left (λ d. d ≡ base) base steps refl

pub since_counts : (base : List ℕ) (steps : List Step) (t : ℕ) (c : List ℕ) → t ≤ length steps → Image base steps c → ImageSince base steps t c
since_counts base steps t c le here = (length steps, le, omega arith, subst (λ l. Image base l c) (sym (take_all (length steps) steps (omega arith))) here)

pub since_only : (base : List ℕ) (steps : List Step) (c : List ℕ) → ImageSince base steps (length steps) c → Image base steps c
since_only base steps c had = subst (λ l. Image base l c) (take_all had.0 steps had.1) had.3
