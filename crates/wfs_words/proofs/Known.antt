-- What is known of the command of clap without its words.
use Rattle.std.proofs.Common.{◌≡◌, true, refl, List, [], ◌∷◌, codes, Some, None, Option, ◌⊎◌, inl, inr, false, ◌==◌, length, arith}
use Rattle.std.proofs.lemmas.Bool.Decides.{nat_tests}
use Rattle.clap.specs.declared.parser.matches.Found.{Found}
use Rattle.clap.specs.declared.error.kind.ErrorKind.{ErrorKind}
use Rattle.clap.specs.declared.error.kind.ErrorKind.TheVariants as kind
use Rattle.clap.proofs.WalkLemmas.{first_value-rows}
use Rattle.clap.specs.Words.{fault_of, rows_of, matches_of, first_value, Text, is_simple, is_simple_and_free, IsAmong, Kinds}
use Rattle.wfs_words.specs.ByClap.{serve_app, clap_texts}

pub serve_is_simple : is_simple serve_app ≡ true
serve_is_simple = refl

pub serve_is_free : is_simple_and_free serve_app ≡ true
serve_is_free = refl

-- what the matches give
pub found : (words : List Text) (f : Found) (a b c d : Option Text) → fault_of serve_app words ≡ [] → rows_of f ≡ matches_of serve_app words
    → a ≡ first_value f (codes "listen") → b ≡ first_value f (codes "workers") → c ≡ first_value f (codes "connections") → d ≡ first_value f (codes "dir")
    → clap_texts words ≡ Some (record { listen = a; workers = b; connections = c; directory = d })
unfolding clap_texts
found words f a b c d none rows ea eb ec ed =
    rw (none, ea, eb, ec, ed, first_value-rows f (codes "listen"), first_value-rows f (codes "workers"), first_value-rows f (codes "connections"), first_value-rows f (codes "dir"), rows) refl

not_empty : (k : ErrorKind) (kinds : Kinds) → IsAmong k kinds → (length kinds == 0) ≡ false
not_empty k [] in_it = elim in_it [ ]
not_empty k (x ∷ xs) in_it = grind (arith, nat_tests)

pub refused : (words : List Text) (k : ErrorKind) → (k ≡ kind.OutOfMemory → ⊥) → (k ≡ kind.OutOfMemory) ⊎ IsAmong k (fault_of serve_app words) → clap_texts words ≡ None
unfolding clap_texts
refused words k other (inl same) = absurd (other same)
refused words k other (inr some) = rw (not_empty k _ some) refl
