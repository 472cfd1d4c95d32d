-- Readings that did not fail.
use Rattle.std.proofs.Common.{◌≡◌, Bool, true, false, ◌&&◌, List, [], ◌∷◌, ◌++◌, Option, Some, None, Ok, refl, sym, ap, subst}
use Rattle.std.specs.Prelude.{All}
use Rattle.std.specs.List.{flat_map}
use Rattle.std.proofs.lemmas.List.Concat.{flat_map-cons}
use Rattle.std.proofs.lemmas.List.Elements.{All-nil, All-append, All-head, All-tail, All-push}
use Rattle.wfs_ends.specs.Read.{◌>>=◌, each, unless}
use Rattle.wfs_ends.proofs.Turns.{bind_ok, ok_is}
use Rattle.wfs_model.specs.declared.fault.AskFault.{AskFault}
use Rattle.request_parameters.specs.Said.{Ask, or_fault}

pub or_fault_ok : {A : Type 0} (r : Option A) (fault : AskFault) (x : A) → or_fault r fault ≡ Ok x → r ≡ Some x
or_fault_ok None fault x h = absurd cc
or_fault_ok (Some y) fault x h = ap Some (ok_is AskFault y x h)

pub unless_ok : (b : Bool) (fault : AskFault) (u : Unit {0}) → unless b fault ≡ Ok u → b ≡ false
unfolding unless
unless_ok true fault u h = absurd cc
unless_ok false fault u h = refl

pub not_both : (b : Bool) → (b && true) ≡ false → b ≡ false
not_both true h = absurd cc
not_both false h = refl

-- what each step keeps is kept
pub kept : {A B : Type 0} (step : A → B → Ask A) (P : A → Type 0) → ((found more : A) (x : B) → P found → step found x ≡ Ok more → P more)
    → (xs : List B) (found all : A) → P found → each step found xs ≡ Ok all → P all
unfolding each
kept step P keeps [] found all so_far h = subst P (ok_is AskFault found all h) so_far
kept step P keeps (x ∷ xs) found all so_far h =
    let one = bind_ok (step found x) (λ more. each step more xs) all h in
    kept step P keeps xs one.0 all (keeps found one.0 x so_far one.1) one.2

-- one more of what was read
pub pushed : {A : Type 0} (r : Ask A) (P : A → Type 0) (found more : List A) → ((x : A) → r ≡ Ok x → P x) → All P found → (r >>= λ x. Ok (found ++ x ∷ [])) ≡ Ok more → All P more
pushed r P found more is so_far h =
    let x = bind_ok r (λ x. Ok (found ++ x ∷ [])) more h in
    subst (All P) (ok_is AskFault (found ++ x.0 ∷ []) more x.2) (All-push P found x.0 so_far (is x.0 x.1))

pub flat : {A B : Type 0} (P : B → Type 0) (Q : A → Type 0) (f : A → List B) → ((x : A) → Q x → All P (f x)) → (xs : List A) → All Q xs → All P (flat_map f xs)
flat P Q f each_is [] h = All-nil P
flat P Q f each_is (x ∷ xs) h =
    subst (All P) (sym (flat_map-cons f x xs)) (All-append P (f x) (flat_map f xs) (each_is x (All-head Q x xs h)) (flat P Q f each_is xs (All-tail Q x xs h)))
