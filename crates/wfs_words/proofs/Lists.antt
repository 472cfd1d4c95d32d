-- The texts that were given as a list in the order of the words, as clap keeps them.
use Rattle.std.proofs.Common.{Bool, ◌&&◌, if◌then◌else◌, List, [], ◌∷◌, ◌++◌, Option, Some, None, option_map, codes}
use Rattle.std.specs.Prelude.{find}
use Rattle.std.specs.List.{list_any}
use Rattle.std.specs.Str.{bytes_eq}
use Rattle.clap.specs.Lexer.{long_of}
use Rattle.wfs_words.specs.declared.options.Name.{Name}
use Rattle.wfs_words.specs.declared.options.Name.TheVariants.{Listen as listen, Workers as workers, Connections as connections, Directory as dir}
use Rattle.wfs_words.specs.Words.{Text, Texts, name_of}

abbrev pub name_text : Name → Text
name_text listen = codes "listen"
name_text workers = codes "workers"
name_text connections = codes "connections"
name_text dir = codes "dir"

abbrev pub Given : Type 0
Given = List (Name × Text)

abbrev pub has : Name → Given → Bool
has n given = list_any (λ p. bytes_eq (name_text p.0) (name_text n)) given

-- one more, which must be new
abbrev pub add_list : Name → Text → Given → (Given → Option Given) → Option Given
add_list n v given next = if has n given then None else next (given ++ (n, v) ∷ [])

abbrev pub with_name : Option Name → (Name → Option Given) → Option Given
with_name None next = None
with_name (Some n) next = next n

-- a word where no option waits for its value: --x=v, --x, or the directory; next goes on with what waits and what was given
abbrev pub open_list : Option (Text × Option Text) → Text → Given → (Option Name → Given → Option Given) → Option Given
open_list (Some (t, Some v)) word given next = with_name (name_of t) (λ n. add_list n v given (next None))
open_list (Some (t, None)) word given next = with_name (name_of t) (λ n. next (Some n) given)
open_list None word given next = add_list dir word given (next None)

-- a word where one does: its value
abbrev pub value_list : Name → Option (Text × Option Text) → Text → Given → (Option Name → Given → Option Given) → Option Given
value_list n (Some p) word given next = None
value_list n None word given next = add_list n word given (next None)

unfoldable pub read_list : Option Name → Given → List Text → Option Given
read_list None given [] = Some given
read_list (Some n) given [] = None
read_list None given (word ∷ words) = open_list (long_of word) word given (λ wait more. read_list wait more words)
read_list (Some n) given (word ∷ words) = value_list n (long_of word) word given (λ wait more. read_list wait more words)

-- the value that was given
abbrev pub lookup : Name → Given → Option Text
lookup n given = option_map (λ p. p.1) (find (λ p. bytes_eq (name_text p.0) (name_text n)) given)

abbrev pub complete : Given → Bool
complete given = has listen given && (has workers given && has dir given)

abbrev pub texts_from : Given → Texts
texts_from given = record { listen = lookup listen given; workers = lookup workers given; connections = lookup connections given; directory = lookup dir given }

abbrev pub completed : Option Given → Option Texts
completed None = None
completed (Some given) = if complete given then Some (texts_from given) else None
