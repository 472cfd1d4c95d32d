-- What a disk in memory has gone through.
use Rattle.std.specs.Prelude.{◌≡◌, ◌≤◌, ℕ, List, [], ◌∷◌, length, take, nat_lt, if◌then◌else◌}
use Rattle.disk_core.specs.Disk.{over, Torn, Cut, Comes}

pub data Step : Type 0 where
  wrote : ℕ → List ℕ → Step
  shortened : ℕ → Step
  synced : Step

-- what is read after a step
unfoldable pub read_after : List ℕ → Step → List ℕ
read_after s (wrote at bytes) = if nat_lt (length s) at then s else over at bytes s
read_after s (shortened n) = take n s
read_after s synced = s

-- what a crash may leave after a step
abbrev pub Left : (List ℕ → Type 0) → List ℕ → Step → List ℕ → Type 0
Left images s (wrote at bytes) c = Comes (Torn at (length bytes)) images c
Left images s (shortened n) c = Comes (Cut n) images c
Left images s synced c = c ≡ s

unfoldable pub read_after_all : List ℕ → List Step → List ℕ
read_after_all s [] = s
read_after_all s (step ∷ steps) = read_after_all (read_after s step) steps

unfoldable pub LeftAll : (List ℕ → Type 0) → List ℕ → List Step → List ℕ → Type 0
LeftAll images s [] c = images c
LeftAll images s (step ∷ steps) c = LeftAll (Left images s step) (read_after s step) steps c

-- what a crash may leave of a disk that had these bytes at first, on the disk, and then these steps
abbrev pub Image : List ℕ → List Step → List ℕ → Type 0
Image base steps c = LeftAll (λ d. d ≡ base) base steps c

-- what a crash at some moment since t might have left
abbrev pub ImageSince : List ℕ → List Step → ℕ → List ℕ → Type 0
ImageSince base steps t c = (k : ℕ) × (t ≤ k) × (k ≤ length steps) × Image base (take k steps) c
