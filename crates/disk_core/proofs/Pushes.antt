-- A disk in memory, one step further.
use Rattle.std.proofs.Common.{◌≡◌, ◌⊎◌, inl, inr, ⊎_elim, ℕ, ◌+◌, ◌≤◌, ◌<◌, List, [], ◌∷◌, ◌++◌, length, take, refl, sym, ◌∙◌, ap, subst, arith, length-append}
use Rattle.std.proofs.lemmas.Bool.{cases_lt}
use Rattle.std.proofs.lemmas.List.{take_all, take-append-le}
use Rattle.disk_core.specs.Disk.{Comes, Grows, Leads}
use Rattle.disk_core.specs.Story.{Step, read_after, Left, read_after_all, LeftAll, Image, ImageSince}

-- a step more
pub left_push : (images : List ℕ → Type 0) (s : List ℕ) (steps : List Step) (step : Step) (c : List ℕ) → LeftAll images s (steps ++ step ∷ []) c ≡ Left (LeftAll images s steps) (read_after_all s steps) step c
unfolding LeftAll read_after_all
left_push images s [] step c = refl
left_push images s (x ∷ steps) step c = left_push (Left images s x) (read_after s x) steps step c

pub read_push : (s : List ℕ) (steps : List Step) (step : Step) → read_after_all s (steps ++ step ∷ []) ≡ read_after (read_after_all s steps) step
unfolding read_after_all
read_push s [] step = refl
read_push s (x ∷ steps) step = read_push (read_after s x) steps step

pub le_cases : (k n : ℕ) → (k ≤ n) ⊎ (n < k)
le_cases k n = ⊎_elim (λ late. inr late) (λ early. inl early) (cases_lt n k)

-- the runs of a disk whose bytes at first and steps since are known
module _ {D : Type 0} (base : D → List ℕ) (steps : D → List Step) where
  abbrev pub moment_of : D → ℕ
  moment_of d = length (steps d)

  abbrev pub since_of : D → ℕ → List ℕ → Type 0
  since_of d t c = ImageSince (base d) (steps d) t c

  abbrev pub images_of : D → List ℕ → Type 0
  images_of d c = Image (base d) (steps d) c

  module _ (x y : D) (step : Step) (same : base y ≡ base x) (more : steps y ≡ steps x ++ step ∷ []) where
    longer : length (steps y) ≡ length (steps x) + 1
    longer = omega (arith, ap length more, length-append (steps x) (step ∷ []))

    -- up to the old length nothing is new
    front : (k : ℕ) → k ≤ length (steps x) → take k (steps y) ≡ take k (steps x)
    front k le = ap (take k) more ∙ take-append-le k (steps x) (step ∷ []) le

    was : (k : ℕ) (c : List ℕ) → k ≤ length (steps x) → Image (base y) (take k (steps y)) c → Image (base x) (take k (steps x)) c
    was k c le here = subst (λ l. Image (base x) l c) (front k le) (subst (λ b. Image b (take k (steps y)) c) same here)

    is : (k : ℕ) (c : List ℕ) → k ≤ length (steps x) → Image (base x) (take k (steps x)) c → Image (base y) (take k (steps y)) c
    is k c le here = subst (λ b. Image b (take k (steps y)) c) (sym same) (subst (λ l. Image (base x) l c) (sym (front k le)) here)

    -- what may be left now, by the step
    pub now_push : (c : List ℕ) → Image (base y) (steps y) c → Left (Image (base x) (steps x)) (read_after_all (base x) (steps x)) step c
    now_push c here =
        let at_x = subst (λ l. Image (base x) l c) more (subst (λ b. Image b (steps y) c) same here) in
        subst (λ (T : Type 0). T) (left_push (λ d. d ≡ base x) (base x) (steps x) step c) at_x

    pub grows_push : Grows moment_of since_of x y
    grows_push = record {
      later = omega (arith, longer);
      split = λ t c le had. elim (le_cases had.0 (length (steps x))) [
        | inl early ↦ inl (had.0, had.1, early, was had.0 c early had.3)
        | inr late ↦ inr (had.0, omega (arith, late), had.2, had.3)
      ];
      before = λ t c le had. (had.0, had.1, omega (arith, had.2, longer), is had.0 c had.2 had.3);
      after = λ t c le had. (had.0, omega (arith, le, had.1), had.2, had.3);
    }

    pub leads_push : (by : List ℕ → List ℕ → Type 0) → ((c : List ℕ) → Left (Image (base x) (steps x)) (read_after_all (base x) (steps x)) step c → Comes by (Image (base x) (steps x)) c) → Leads moment_of since_of images_of by x y
    leads_push by comes = record {
      grows = grows_push;
      now = λ c here. comes c (now_push c here);
      meanwhile = λ c had. elim (le_cases had.0 (length (steps x))) [
        | inl early ↦ inl (subst (λ l. Image (base x) l c) (take_all had.0 (steps x) had.1) (was had.0 c early had.3))
        | inr late ↦ inr (comes c (now_push c (subst (λ l. Image (base y) l c) (take_all had.0 (steps y) (omega (arith, late, longer))) had.3)))
      ];
    }
