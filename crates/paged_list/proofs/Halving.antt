-- What a search by halves keeps: the items before its part pass the test, if any does, and those after it do not.
use Rattle.std.proofs.Common.{◌≡◌, refl, subst, ◌∙◌, ℕ, ◌+◌, ◌≤◌, ◌<◌, inl, inr, Bool, true, false, List, [], ◌∷◌, zero, suc, length, get_or, arith}
use Rattle.std.specs.Prelude.{◌⊎◌}
use Rattle.std.specs.Fn.{Called, AlwaysReturns}
use Rattle.std.specs.List.{AllWithin, HoldsAt}
use Rattle.std.specs.List.Sorted.{IsPartitionPoint, IsPartitionedBy}
use denote.Param.Members.{Mut}

not_both : (b : Bool) → b ≡ true → b ≡ false → ⊥
not_both true h k = absurd (cc)
not_both false h k = absurd (cc)

so_false : (b : Bool) → (b ≡ true → ⊥) → b ≡ false
so_false true h = absurd (h refl)
so_false false h = refl

-- a call of a test that always answers by p answers so, and leaves such a test
pub answers_next : {F X R : Type 0} (g : Mut F X R) (P : X → R → Type 0) (f : F) (a : X) (r : R) (f' : F) → Called g f a r f' → AlwaysReturns g P f → P a r × AlwaysReturns g P f'
answers_next g P f a r f' c h = ((h.at (a ∷ []) r f' c).0, record { at = λ xs. (h.at (a ∷ xs) r f' c).1 })

any_default : {X : Type 0} (xs : List X) (i : ℕ) (d e : X) → i < length xs → get_or xs i d ≡ get_or xs i e
any_default [] i d e h = absurd (omega arith)
any_default (x ∷ xs) zero d e h = refl
any_default (x ∷ xs) (suc i) d e h = any_default xs i d e (omega arith)

module _ {X : Type 0} (xs : List X) where
  -- what holds of an item that was read holds at its place
  pub at_read : (P : X → Type 0) (i : ℕ) (x : X) → i < length xs → x ≡ get_or xs i x → P x → HoldsAt P xs i
  at_read P i x h e p d = subst (λ (t : X). P t) (e ∙ any_default xs i x d h) p

module _ {X : Type 0} (p : X → Bool) (xs : List X) where
  pub record Halved (base size : ℕ) : Type 0 where
    pub low : (base ≡ 0) ⊎ HoldsAt (λ y. p y ≡ true) xs base
    pub high : IsPartitionedBy p xs → AllWithin (λ y. p y ≡ false) xs (base + size) (length xs)

  from_failing : (m low : ℕ) → m ≤ low → HoldsAt (λ y. p y ≡ false) xs m → IsPartitionedBy p xs → AllWithin (λ y. p y ≡ false) xs low (length xs)
  from_failing m low h q first k d a b = so_false _ (λ t. not_both _ (first m k d (omega arith) b t) (q d))

  pub unhalved : Halved 0 (length xs)
  unhalved = record { low = inl refl; high = λ first k d a b. absurd (omega arith) }

  pub failed : (base size mid left : ℕ) → mid ≤ base + left → Halved base size → HoldsAt (λ y. p y ≡ false) xs mid → Halved base left
  failed base size mid left h n q = record { low = n.low; high = from_failing mid (base + left) h q }

  pub passed : (base size mid left : ℕ) → base + size ≤ mid + left → Halved base size → HoldsAt (λ y. p y ≡ true) xs mid → Halved mid left
  passed base size mid left h n q = record { low = inr q; high = λ first k d a b. n.high first k d (omega arith) b }

  pub after_passing : (base size : ℕ) → size ≤ 1 → base < length xs → Halved base size → HoldsAt (λ y. p y ≡ true) xs base → IsPartitionedBy p xs → IsPartitionPoint (λ y. p y ≡ true) (λ y. p y ≡ false) xs (base + 1)
  after_passing base size one within n q first = (λ k d a b. first k base d (omega arith) within (q d), λ k d a b. n.high first k d (omega arith) b)

  before_failing : (base k : ℕ) (d : X) → (base ≡ 0) ⊎ HoldsAt (λ y. p y ≡ true) xs base → HoldsAt (λ y. p y ≡ false) xs base → k < base → p (get_or xs k d) ≡ true
  before_failing base k d (inl e) q h = absurd (omega arith)
  before_failing base k d (inr t) q h = absurd (not_both _ (t d) (q d))

  pub at_failing : (base size : ℕ) → Halved base size → HoldsAt (λ y. p y ≡ false) xs base → IsPartitionedBy p xs → IsPartitionPoint (λ y. p y ≡ true) (λ y. p y ≡ false) xs base
  at_failing base size n q first = (λ k d a b. before_failing base k d n.low q b, from_failing base base (omega arith) q first)
