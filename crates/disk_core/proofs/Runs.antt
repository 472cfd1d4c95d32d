-- How calls go on from one another.
use Rattle.std.proofs.Common.{◌≡◌, inl, inr, ⊎_elim, ℕ, ◌≤◌, List, sym, subst, arith}
use Rattle.disk_core.specs.Disk.{Leads, Comes, Every, Goes, Grows}

module _ {D : Type 0} (moment : D → ℕ) (since : D → ℕ → List ℕ → Type 0) (images : D → List ℕ → Type 0) where
  pub grows_on : (x y z : D) → Grows moment since x y → Grows moment since y z → Grows moment since x z
  grows_on x y z a b = record {
    later = omega (arith, a.later, b.later);
    split = λ t c le had. ⊎_elim (λ was. ⊎_elim (λ old. inl old) (λ mid. inr (b.before (moment x) c a.later mid)) (a.split t c le was))
        (λ new. inr (b.after (moment x) c a.later new)) (b.split t c (omega (arith, le, a.later)) had);
    before = λ t c le had. b.before t c (omega (arith, le, a.later)) (a.before t c le had);
    after = λ t c le had. ⊎_elim (λ was. b.before t c (omega (arith, le, a.later)) (a.after t c le was)) (λ new. b.after t c (omega (arith, le, a.later)) new) (b.split (moment x) c a.later had);
  }

  -- of a disk that is left alone
  pub grows_still : (x : D) → ((t : ℕ) (c : List ℕ) → t ≤ moment x → images x c → since x t c) → ((c : List ℕ) → since x (moment x) c → images x c) → Grows moment since x x
  grows_still x counts only = record { later = omega arith; split = λ t c le had. inl had; before = λ t c le had. had; after = λ t c le had. counts t c le (only c had) }

  pub leads_still : (step : List ℕ → List ℕ → Type 0) (x y : D) → ((t : ℕ) (c : List ℕ) → t ≤ moment x → images x c → since x t c) → ((c : List ℕ) → since x (moment x) c → images x c) → ((c : List ℕ) → step c c) → y ≡ x
      → Leads moment since images step x y
  leads_still step x y counts only is same = subst (λ z. Leads moment since images step x z) (sym same) (record {
    grows = grows_still x counts only;
    now = λ c here. (c, here, is c);
    meanwhile = λ c had. inl (only c had);
  })

  -- one call after the other
  pub leads_on : (first second both : List ℕ → List ℕ → Type 0) (x y z : D) → ((d e c : List ℕ) → first d e → second e c → both d c) → ((d c : List ℕ) → first d c → both d c)
      → Leads moment since images first x y → Leads moment since images second y z → Leads moment since images both x z
  leads_on first second both x y z join front a b = record {
    grows = grows_on x y z a.grows b.grows;
    now = λ c here. chained c (b.now c here);
    meanwhile = λ c had. ⊎_elim (λ was. ⊎_elim (λ old. inl old) (λ come. inr (fronted c come)) (a.meanwhile c was))
        (λ new. ⊎_elim (λ mid. inr (fronted c (a.now c mid))) (λ come. inr (chained c come)) (b.meanwhile c new)) (b.grows.split (moment x) c a.grows.later had);
  }
    where
      chained : (c : List ℕ) → Comes second (images y) c → Comes both (images x) c
      chained c come = let from = a.now come.0 come.1 in (from.0, from.1, join from.0 come.0 c from.2 come.2)

      fronted : (c : List ℕ) → Comes first (images x) c → Comes both (images x) c
      fronted c come = (come.0, come.1, front come.0 c come.2)

  -- the same, of a step that may be more
  pub leads_more : (step more : List ℕ → List ℕ → Type 0) (x y : D) → ((d c : List ℕ) → step d c → more d c) → Leads moment since images step x y → Leads moment since images more x y
  leads_more step more x y is a = record {
    grows = a.grows;
    now = λ c here. let from = a.now c here in (from.0, from.1, is from.0 c from.2);
    meanwhile = λ c had. ⊎_elim (λ old. inl old) (λ come. inr (come.0, come.1, is come.0 c come.2)) (a.meanwhile c had);
  }

  -- what each image has, where the step keeps or makes it
  pub every_on : (step : List ℕ → List ℕ → Type 0) (P Q : List ℕ → Type 0) (x y : D) → ((d c : List ℕ) → P d → step d c → Q c) → Leads moment since images step x y → Every (images x) P → Every (images y) Q
  every_on step P Q x y keeps a all c here = let from = a.now c here in keeps from.0 c (all from.0 from.1) from.2

  -- the same at each moment
  pub goes : (step : List ℕ → List ℕ → Type 0) (P Q : List ℕ → Type 0) (x y : D) → ((c : List ℕ) → P c → Q c) → ((d c : List ℕ) → P d → step d c → Q c) → Leads moment since images step x y → Every (images x) P → Goes moment since Q x y
  goes step P Q x y has keeps a all = record {
    grows = a.grows;
    each = λ c had. ⊎_elim (λ old. has c (all c old)) (λ come. keeps come.0 c (all come.0 come.1) come.2) (a.meanwhile c had);
  }

  pub goes_more : (P Q : List ℕ → Type 0) (x y : D) → ((c : List ℕ) → P c → Q c) → Goes moment since P x y → Goes moment since Q x y
  goes_more P Q x y is a = record { grows = a.grows; each = λ c had. is c (a.each c had) }

  pub goes_on : (P : List ℕ → Type 0) (x y z : D) → Goes moment since P x y → Goes moment since P y z → Goes moment since P x z
  goes_on P x y z a b = record { grows = grows_on x y z a.grows b.grows; each = λ c had. ⊎_elim (λ was. a.each c was) (λ new. b.each c new) (b.grows.split (moment x) c a.grows.later had) }
