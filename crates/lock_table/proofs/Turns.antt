-- Loops that look for the first element of which something is given.
use Rattle.std.proofs.Common.{◌≡◌, ℕ, ◌+◌, ◌<◌, ◌≤◌, true, false, List, length, get_or, drop, Option, Some, None, refl, sym, ap, ◌∙◌}
use Rattle.std.specs.Prelude.{is_some}
use Rattle.std.specs.Option.{option_or}
use Rattle.std.proofs.lemmas.List.{drop_more, at_drop_all}
use Rattle.feature_values.specs.declared.feature.Rid.{Rid}
use Rattle.lock_table.specs.Lock.{Lock}
use Rattle.lock_table.specs.Held.{first_of, holder, held_one, has_number, numbered}

module _ {X Y : Type 0} (f : X → Option Y) (xs : List X) (i : ℕ) (total : Option Y) where
  turn : (x d : X) → i < length xs → x ≡ get_or xs i d → first_of f (drop i xs) ≡ option_or (f x) (first_of f (drop (i + 1) xs))
  unfolding first_of
  turn x d lt e = rw (drop_more xs i d lt, ← e) refl

  -- behind an element of which nothing is given
  pub passed : (x d : X) (o : Option Y) → i < length xs → x ≡ get_or xs i d → o ≡ f x → is_some o ≡ false → first_of f (drop i xs) ≡ total → first_of f (drop (i + 1) xs) ≡ total
  passed x d (Some y) lt e given none so_far = absurd (let bad = none in cc)
  passed x d None lt e given none so_far = sym (turn x d lt e ∙ ap (λ o. option_or o (first_of f (drop (i + 1) xs))) (sym given)) ∙ so_far

  -- at one of which something is given
  pub found : (x d : X) (o : Option Y) → i < length xs → x ≡ get_or xs i d → o ≡ f x → is_some o ≡ true → first_of f (drop i xs) ≡ total → o ≡ total
  found x d None lt e given some so_far = absurd (let bad = some in cc)
  found x d (Some y) lt e given some so_far = sym (turn x d lt e ∙ ap (λ o. option_or o (first_of f (drop (i + 1) xs))) (sym given)) ∙ so_far

  -- behind the last one
  pub none_found : length xs ≤ i → first_of f (drop i xs) ≡ total → None ≡ total
  unfolding first_of
  none_found le so_far = sym (at_drop_all (λ rest. first_of f rest) xs i le) ∙ so_far

pub numbered_at : (number : ℕ) (lock : Lock) → has_number number lock ≡ true → Some lock.features ≡ numbered number lock
numbered_at number lock e = rw e refl

pub numbered_off : (number : ℕ) (lock : Lock) → has_number number lock ≡ false → None ≡ numbered number lock
numbered_off number lock e = rw e refl

pub held_at : (locks : List Lock) (moment : ℕ) (feature : Rid) → is_some (holder locks moment feature) ≡ true → Some feature ≡ held_one locks moment feature
held_at locks moment feature e = rw e refl

pub held_off : (locks : List Lock) (moment : ℕ) (feature : Rid) → is_some (holder locks moment feature) ≡ false → None ≡ held_one locks moment feature
held_off locks moment feature e = rw e refl
