-- A set of names has just those of a list, when both get one more.
use Rattle.std.proofs.Common.{◌≡◌, ℕ, Bool, true, false, ◌||◌, List, [], ◌∷◌, ◌++◌, Global, String, refl, sym, ap, subst, ◌∙◌}
use Rattle.std.specs.List.{list_any}
use Rattle.std.proofs.lemmas.List.Folds.{list_any-append}
use Rattle.std.specs.Str.{bytes_eq, str_to_ascii_lowercase}
use Rattle.std.specs.BTreeSet.{BTreeSet, contains_text}
use Rattle.query_docs.specs.Asked.{Given, is_given}
use Rattle.query_docs.specs.Definitions.{is_declared}
use Rattle.query_docs.specs.Seen.{HasGiven, HasDeclared}

or_false : (b : Bool) → (b || false) ≡ b
or_false true = refl
or_false false = refl

any_push : {A : Type 0} (p : A → Bool) (xs : List A) (y : A) → list_any p (xs ++ y ∷ []) ≡ (list_any p xs || p y)
any_push p xs y = list_any-append p xs (y ∷ []) ∙ ap (λ (b : Bool). list_any p xs || b) (or_false (p y))

pub given_more : (seen new : BTreeSet (String Global)) (given : Given) (name value : List ℕ) → HasGiven seen given → ((q : List ℕ) → contains_text new q ≡ (contains_text seen q || bytes_eq name q)) → HasGiven new (given ++ (name, value) ∷ [])
unfolding is_given
given_more seen new given name value has more = λ q. more q ∙ ap (λ (b : Bool). b || bytes_eq name q) (has q) ∙ sym (any_push (λ (g : List ℕ × List ℕ). bytes_eq g.0 q) given (name, value))

pub declared_more : (seen new : BTreeSet (String Global)) (names : List (List ℕ)) (name : List ℕ) → HasDeclared seen names
    → ((q : List ℕ) → contains_text new q ≡ (contains_text seen q || bytes_eq (str_to_ascii_lowercase name) q)) → HasDeclared new (names ++ name ∷ [])
unfolding is_declared
declared_more seen new names name has more = λ q.
    more (str_to_ascii_lowercase q) ∙ ap (λ (b : Bool). b || bytes_eq (str_to_ascii_lowercase name) (str_to_ascii_lowercase q)) (has q)
    ∙ sym (any_push (λ (n : List ℕ). bytes_eq (str_to_ascii_lowercase n) (str_to_ascii_lowercase q)) names name)

pub none_given : (seen : BTreeSet (String Global)) → ((q : List ℕ) → contains_text seen q ≡ false) → HasGiven seen []
unfolding is_given
none_given seen none = none

pub none_declared : (seen : BTreeSet (String Global)) → ((q : List ℕ) → contains_text seen q ≡ false) → HasDeclared seen []
unfolding is_declared
none_declared seen none = λ q. none (str_to_ascii_lowercase q)

-- the same of the lists that the code has
pub given_after : (seen new : BTreeSet (String Global)) (given all : Given) (said name value : List ℕ) → said ≡ name → all ≡ given ++ (name, value) ∷ [] → HasGiven seen given
    → ((q : List ℕ) → contains_text new q ≡ (contains_text seen q || bytes_eq said q)) → HasGiven new all
given_after seen new given all said name value same is has more =
    subst (HasGiven new) (sym is) (given_more seen new given name value has (subst (λ (n : List ℕ). (q : List ℕ) → contains_text new q ≡ (contains_text seen q || bytes_eq n q)) same more))

pub declared_after : (seen new : BTreeSet (String Global)) (names all : List (List ℕ)) (said name : List ℕ) → said ≡ name → all ≡ names ++ name ∷ [] → HasDeclared seen names
    → ((q : List ℕ) → contains_text new q ≡ (contains_text seen q || bytes_eq (str_to_ascii_lowercase said) q)) → HasDeclared new all
declared_after seen new names all said name same is has more =
    subst (HasDeclared new) (sym is)
    (declared_more seen new names name has (subst (λ (n : List ℕ). (q : List ℕ) → contains_text new q ≡ (contains_text seen q || bytes_eq (str_to_ascii_lowercase n) q)) same more))
