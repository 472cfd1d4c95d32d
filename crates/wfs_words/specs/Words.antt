-- The words of a command line behind the program's name, and what they ask for:
--   talk DIR · check DIR · compact DIR · drill N DIR · serve --listen A --workers N [--connections K] DIR
-- An option stands at most once, as `--x v` or `--x=v`, before or behind DIR. Each word that begins with a hyphen is one of these options.
use Rattle.std.specs.Prelude.{ℕ, Bool, true, false, not, ◌&&◌, ◌==◌, if◌then◌else◌, nat_lt, nat_le, List, [], ◌∷◌, length, Option, Some, None, option_map, is_some, codes, bytes_eq}
use Rattle.std.specs.List.{list_all}
use Rattle.std.specs.Str.{all_ascii_digits}
use Rattle.std.specs.Str.Parse.{digits_value, without_leading_plus}
use Rattle.clap.specs.Lexer.{long_of}
use Rattle.wfs_words.specs.declared.command.Command.{Command}
use Rattle.wfs_words.specs.declared.command.Command.TheVariants as command
use Rattle.wfs_words.specs.declared.options.Name.{Name}
use Rattle.wfs_words.specs.declared.options.Name.TheVariants as name
use Rattle.wfs_words.specs.declared.options.Found.{Found}
use Rattle.wfs_words.specs.declared.options.State as code
use Rattle.wfs_words.specs.declared.asked.Task.{Task}
use Rattle.wfs_words.specs.declared.asked.Task.TheVariants as task
use Rattle.wfs_words.specs.declared.asked.Asked as code_asked

abbrev pub Text : Type 0
Text = List ℕ

-- one thing after the other, where each is there
infixl 10 ◌>>=◌
abbrev pub ◌>>=◌ : {A B : Type 0} → Option A → (A → Option B) → Option B
(Some x) >>= f = f x
None >>= f = None

-- what the words ask for, and of which directory
pub record Asked : Type 0 where
  pub command : Command
  pub directory : Text

-- ---- words and numbers

-- the first word, and the words behind it
unfoldable pub first_word : List Text → Option (Text × List Text)
first_word [] = None
first_word (word ∷ more) = Some (word, more)

-- the word, where there is just one
unfoldable pub only_word : List Text → Option Text
only_word words = first_word words >>= λ p. if length p.1 == 0 then Some p.0 else None

-- the number, where it is from low to high
abbrev pub within : ℕ → ℕ → ℕ → Option ℕ
within low high n = if nat_le low n && nat_le n high then Some n else None

-- decimal digits
abbrev pub number : Text → Option ℕ
number digits = if nat_lt 0 (length digits) && all_ascii_digits digits then Some (digits_value 10 digits) else None

-- a number is decimal digits, behind a plus or not
unfoldable pub number_in : ℕ → ℕ → Text → Option ℕ
number_in low high text = number (without_leading_plus text) >>= λ n. within low high n

-- the word is not empty and does not begin with a hyphen
abbrev pub is_plain : Text → Bool
is_plain [] = false
is_plain (b ∷ rest) = not (b == 45)

-- the word is not empty, and where it begins with a hyphen it is `--x` or `--x=v`
abbrev pub is_fit : Text → Bool
is_fit [] = false
is_fit (b ∷ rest) = if b == 45 then is_some (long_of (b ∷ rest)) else true

-- ---- the options of serve

-- the option of this name
abbrev pub name_of : Text → Option Name
name_of t = if bytes_eq (codes "listen") t then Some name.Listen
    else (if bytes_eq (codes "workers") t then Some name.Workers
    else (if bytes_eq (codes "connections") t then Some name.Connections else None))

-- the texts that were given
pub record Texts : Type 0 where
  pub listen : Option Text
  pub workers : Option Text
  pub connections : Option Text
  pub directory : Option Text

abbrev pub no_texts : Texts
no_texts = record { listen = None; workers = None; connections = None; directory = None }

abbrev pub get : Name → Texts → Option Text
get name.Listen given = given.listen
get name.Workers given = given.workers
get name.Connections given = given.connections
get name.Directory given = given.directory

abbrev pub with_text : Name → Text → Texts → Texts
with_text name.Listen text given = record given { listen = Some text }
with_text name.Workers text given = record given { workers = Some text }
with_text name.Connections text given = record given { connections = Some text }
with_text name.Directory text given = record given { directory = Some text }

-- what was read so far: the option that waits for its value, if one does, and the texts
pub record State : Type 0 where
  pub waiting : Option Name
  pub given : Texts

-- one text more, unless the name has one
unfoldable pub add : Name → Text → Texts → Option State
add n text given = if is_some (get n given) then None else Some (record { waiting = None; given = with_text n text given })

-- a word where no option waits for its value: `--x=v`, `--x`, or the directory
unfoldable pub open_word : Option (Text × Option Text) → Text → Texts → Option State
open_word None word given = add name.Directory word given
open_word (Some (t, Some v)) word given = name_of t >>= λ n. add n v given
open_word (Some (t, None)) word given = name_of t >>= λ n. Some (record { waiting = Some n; given = given })

-- a word where one does: its value, which does not begin with a hyphen
unfoldable pub value_word : Name → Option (Text × Option Text) → Text → Texts → Option State
value_word n (Some long) word given = None
value_word n None word given = add n word given

abbrev pub next_word : Option Name → Text → Texts → Option State
next_word None word given = open_word (long_of word) word given
next_word (Some n) word given = value_word n (long_of word) word given

-- one word more
unfoldable pub step : State → Text → Option State
step s word = if is_fit word then next_word s.waiting word s.given else None

-- all the words, behind which no option waits
abbrev pub at_end : Option Name → Texts → Option Texts
at_end None given = Some given
at_end (Some n) given = None

unfoldable pub read : State → List Text → Option Texts
read s [] = at_end s.waiting s.given
read s (word ∷ words) = step s word >>= λ next. read next words

-- the texts that the words behind `serve` give
unfoldable pub texts_of : List Text → Option Texts
texts_of words = read (record { waiting = None; given = no_texts }) words

-- ---- the commands

-- after how many sessions a worker ends, where that was given
unfoldable pub limit_of : Option Text → Option (Option ℕ)
limit_of None = Some None
limit_of (Some text) = number_in 1 1000000 text >>= λ n. Some (Some n)

-- the command that an address, a number of workers, a limit or none, and a directory give
unfoldable pub serve_with : Text → Text → Option Text → Text → Option Asked
serve_with listen count limit directory =
    if length listen == 0 then None
    else (number_in 1 16 count >>= λ workers. limit_of limit >>= λ connections.
    Some (record { command = command.Serve listen workers connections; directory = directory }))

-- the command that the texts of serve give: all but the limit must be there
unfoldable pub served : Texts → Option Asked
served given =
    given.listen >>= λ listen. given.workers >>= λ count. given.directory >>= λ directory. serve_with listen count given.connections directory

unfoldable pub serve_of : List Text → Option Asked
serve_of words = texts_of words >>= served

-- a command whose one word is its directory
unfoldable pub in_directory : Command → List Text → Option Asked
in_directory c words = only_word words >>= λ word. if is_plain word then Some (record { command = c; directory = word }) else None

-- a number of requests, and the directory
unfoldable pub drill_of : List Text → Option Asked
drill_of words = first_word words >>= λ p. number_in 1 100000 p.0 >>= λ n. in_directory (command.Drill n) p.1

-- what the words of this command ask for
unfoldable pub command_of : Text → List Text → Option Asked
command_of word words =
    if bytes_eq word (codes "talk") then in_directory command.Talk words
    else if bytes_eq word (codes "check") then in_directory command.Check words
    else if bytes_eq word (codes "compact") then in_directory command.Compact words
    else if bytes_eq word (codes "drill") then drill_of words
    else if bytes_eq word (codes "serve") then serve_of words
    else None

-- what the words ask for; None where they are refused
unfoldable pub asked_of : List Text → Option Asked
asked_of words = first_word words >>= λ p. command_of p.0 p.1

abbrev pub is_serve : List Text → Bool
is_serve [] = false
is_serve (word ∷ words) = bytes_eq word (codes "serve")

-- the directory, or the empty text
abbrev pub directory_of : Option Asked → Text
directory_of None = []
directory_of (Some asked) = asked.directory

-- ---- for the reader

abbrev pub view_texts : Found → Texts
view_texts f = record {
  listen = option_map (λ t. t.now) f.listen;
  workers = option_map (λ t. t.now) f.workers;
  connections = option_map (λ t. t.now) f.connections;
  directory = option_map (λ t. t.now) f.directory;
}

abbrev pub view_state : code.State → State
view_state s = record { waiting = s.waiting; given = view_texts s.found }

abbrev pub command_for : Task → Command
command_for task.Talk = command.Talk
command_for task.Check = command.Check
command_for task.Compact = command.Compact
command_for (task.Drill n) = command.Drill n
command_for (task.Serve listen workers connections) = command.Serve listen.now workers connections

abbrev pub view_asked : code_asked.Asked → Asked
view_asked a = record { command = command_for a.task; directory = a.directory.now }
