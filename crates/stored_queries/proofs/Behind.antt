-- What is selected for one after the other of what is asked is what all their queries select.
use Rattle.std.proofs.Common.{◌≡◌, List, [], ◌∷◌, ◌++◌, Result, Ok, Err, refl, sym, ap, ◌∙◌}
use Rattle.std.specs.List.{fold}
use Rattle.std.proofs.lemmas.List.Sums.{fold-append}
use Rattle.wfs_ends.specs.Read.{◌>>=◌, each}
use Rattle.feature_values.specs.declared.feature.Feature.{Feature}
use Rattle.feature_values.specs.declared.schema.Schema.{Schema}
use Rattle.query_core.specs.Selecting.{all_selected, joined, selected_ids}
use Rattle.wfs_model.specs.declared.asked.Asked.{Asked}
use Rattle.wfs_model.specs.declared.stored.StoredQuery.{StoredQuery}
use Rattle.wfs_model.specs.Expand.{expanded, all_expanded}
use Rattle.stored_queries.specs.Meant.{with_selected, asked_selected}

turn : {E A Q : Type 0} (f : A → Q → A) (a : A) (found : List Q) (read : Result (List Q) E) (go : A → Result A E) (add : List Q → Result (List Q) E) → ((more : List Q) → go (fold f a (found ++ more)) ≡ (add (found ++ more) >>= λ all. Ok (fold f a all))) → ((read >>= λ more. Ok (fold f (fold f a found) more)) >>= go) ≡ (((read >>= λ more. Ok (found ++ more)) >>= add) >>= λ all. Ok (fold f a all))
turn f a found (Ok more) go add rest = ap go (sym (fold-append f a found more)) ∙ rest more
turn f a found (Err fault) go add rest = refl

-- folds of what each gives, one behind the other, are the fold of all
pub each_folds : {E A Q X : Type 0} (read : X → Result (List Q) E) (f : A → Q → A) (a : A) (found : List Q) (xs : List X) → each (λ got x. read x >>= λ more. Ok (fold f got more)) (fold f a found) xs ≡ (each (λ all x. read x >>= λ more. Ok (all ++ more)) found xs >>= λ all. Ok (fold f a all))
unfolding each
each_folds read f a found [] = refl
each_folds read f a found (x ∷ xs) =
    turn f a found (read x) (λ got. each (λ got x. read x >>= λ more. Ok (fold f got more)) got xs) (λ all. each (λ all x. read x >>= λ more. Ok (all ++ more)) all xs) (λ more. each_folds read f a (found ++ more) xs)

pub each_selected : (schema : Schema) (stored : List StoredQuery) (features : List Feature) (asked : List Asked) → each (λ ids one. with_selected features ids (expanded schema stored one)) [] asked ≡ asked_selected schema stored features asked
unfolding all_expanded asked_selected all_selected
each_selected schema stored features asked = each_folds (expanded schema stored) (λ ids query. joined ids (selected_ids features query)) [] [] asked
