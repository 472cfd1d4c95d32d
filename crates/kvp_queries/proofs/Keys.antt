-- One turn of a loop that reads the parts of a list.
use Rattle.std.proofs.Common.{◌≡◌, List, [], ◌∷◌, Result, Ok, refl, sym, ap, ◌∙◌}
use Rattle.wfs_ends.specs.Read.{◌>>=◌, FailsBut, each}

module _ {E A B : Type 0} (step : A → B → Result A E) (found : A) (parts : List B) (x : B) where
  turn : (rest : List B) → parts ≡ x ∷ rest → each step found parts ≡ (step found x >>= λ more. each step more rest)
  unfolding each
  turn rest is = ap (each step found) is

  pub goes_on : (rest : List B) (more : A) (total : Result A E) → parts ≡ x ∷ rest → step found x ≡ Ok more → each step found parts ≡ total → each step more rest ≡ total
  goes_on rest more total is now so_far = sym (turn rest is ∙ rw now refl) ∙ so_far

  pub fails : (rest : List B) (memory e : E) (total : Result A E) → parts ≡ x ∷ rest → FailsBut memory e (step found x) → each step found parts ≡ total → FailsBut memory e total
  fails rest memory e total is now so_far = λ other. sym so_far ∙ turn rest is ∙ rw (now other) refl

  pub ends : (more : A) (total : Result A E) → parts ≡ x ∷ [] → step found x ≡ Ok more → each step found parts ≡ total → total ≡ Ok more
  unfolding each
  ends more total is now so_far = sym so_far ∙ turn [] is ∙ rw now refl
