-- The words of `serve` ask for 1 to 16 workers.
use Rattle.std.proofs.Common.{◌≡◌, ℕ, ◌≤◌, Bool, true, false, ◌&&◌, nat_le, List, Option, Some, None, refl, subst, arith}
use Rattle.std.specs.Prelude.{if◌then◌else◌, ◌==◌, length, bytes_eq, codes, IfSome, ⊤}
use Rattle.std.proofs.lemmas.Bool.Decides.{nat_tests}
use Rattle.std.specs.Str.Parse.{without_leading_plus}
use Rattle.wfs_words.specs.declared.command.Command.{Command}
use Rattle.wfs_words.specs.declared.command.Command.TheVariants as command
use Rattle.wfs_words.specs.Words.{Asked, Text, Texts, ◌>>=◌, within, number, number_in, limit_of, only_word, first_word, is_plain, texts_of, served, serve_with, serve_of, in_directory, drill_of, command_of, asked_of}
use Rattle.wfsd_commands.specs.Asking.{AskFor}
use Rattle.wfsd_program.specs.declared.words.ServeWords.{ServeWords}
use Rattle.wfsd_program.specs.Serving.{HasWorkers}

-- a command with workers has 1 to 16
abbrev Fit : Command → Type 0
Fit (command.Serve listen workers connections) = (1 ≤ workers) × (workers ≤ 16)
Fit command.Talk = ⊤
Fit command.Check = ⊤
Fit command.Compact = ⊤
Fit (command.Drill rounds) = ⊤

abbrev Fits : Option Asked → Type 0
Fits asked = IfSome asked (λ a. Fit a.command)

-- ---- the forms of the reading

then_fits : {A : Type 0} (o : Option A) (f : A → Option Asked) → ((a : A) → Fits (f a)) → Fits (o >>= f)
then_fits None f h = tt
then_fits (Some a) f h = h a

if_fits : (b : Bool) (x y : Option Asked) → Fits x → Fits y → Fits (if b then x else y)
if_fits true x y h k = h
if_fits false x y h k = k

le_is : (a b : ℕ) → nat_le a b ≡ true → a ≤ b
le_is a b h = grind (arith, nat_tests)

range_by : (n : ℕ) (f : ℕ → Option Asked) (a b : Bool) → nat_le 1 n ≡ a → nat_le n 16 ≡ b → ((m : ℕ) → 1 ≤ m → m ≤ 16 → Fits (f m)) → Fits ((if a && b then Some n else None) >>= f)
range_by n f true true low high h = h n (le_is 1 n low) (le_is n 16 high)
range_by n f true false low high h = tt
range_by n f false true low high h = tt
range_by n f false false low high h = tt

range_fits : (o : Option ℕ) (f : ℕ → Option Asked) → ((m : ℕ) → 1 ≤ m → m ≤ 16 → Fits (f m)) → Fits ((o >>= λ n. within 1 16 n) >>= f)
range_fits None f h = tt
range_fits (Some n) f h = range_by n f (nat_le 1 n) (nat_le n 16) refl refl h

-- ---- the commands

serve_with_fits : (listen count : Text) (limit : Option Text) (directory : Text) → Fits (serve_with listen count limit directory)
unfolding serve_with number_in
serve_with_fits listen count limit directory =
    let wanted : ℕ → Option ℕ → Option Asked = λ workers connections. Some (record { command = command.Serve listen workers connections; directory = directory }) in
    let by : ℕ → Option Asked = λ workers. limit_of limit >>= λ connections. wanted workers connections in
    let found : Option ℕ = number (without_leading_plus count) in
    let both = λ (workers : ℕ) (low : 1 ≤ workers) (high : workers ≤ 16) (connections : Option ℕ). let fit : (1 ≤ workers) × (workers ≤ 16) = (low, high) in fit in
    if_fits (length listen == 0) None ((found >>= λ n. within 1 16 n) >>= by) tt
    (range_fits found by (λ workers low high. then_fits (limit_of limit) (wanted workers) (both workers low high)))

served_fits : (given : Texts) → Fits (served given)
unfolding served
served_fits given = then_fits given.listen _ (λ listen. then_fits given.workers _ (λ count. then_fits given.directory _ (λ directory. serve_with_fits listen count given.connections directory)))

serve_fits : (words : List Text) → Fits (serve_of words)
unfolding serve_of
serve_fits words = then_fits (texts_of words) served served_fits

in_fits : (c : Command) (words : List Text) → Fit c → Fits (in_directory c words)
unfolding in_directory
in_fits c words h = then_fits (only_word words) _ (λ word. if_fits (is_plain word) _ None h tt)

drill_fits : (words : List Text) → Fits (drill_of words)
unfolding drill_of
drill_fits words = then_fits (first_word words) _ (λ p. then_fits (number_in 1 100000 p.0) _ (λ n. in_fits (command.Drill n) p.1 tt))

command_fits : (word : Text) (words : List Text) → Fits (command_of word words)
unfolding command_of
command_fits word words =
    if_fits (bytes_eq word (codes "talk")) _ _ (in_fits command.Talk words tt)
    (if_fits (bytes_eq word (codes "check")) _ _ (in_fits command.Check words tt)
    (if_fits (bytes_eq word (codes "compact")) _ _ (in_fits command.Compact words tt)
    (if_fits (bytes_eq word (codes "drill")) _ _ (drill_fits words)
    (if_fits (bytes_eq word (codes "serve")) _ _ (serve_fits words) tt))))

asked_fits : (words : List Text) → Fits (asked_of words)
unfolding asked_of
asked_fits words = then_fits (first_word words) _ (λ p. command_fits p.0 p.1)

pub has_workers : (words : List Text) (wanted : ServeWords) → AskFor words (command.Serve wanted.listen wanted.workers wanted.connections) → HasWorkers wanted
has_workers words wanted asked =
    let fits : Fits (Some (record { command = command.Serve wanted.listen wanted.workers wanted.connections; directory = asked.0 })) = subst Fits asked.1 (asked_fits words) in
    record { some = fits.0; most = fits.1 }
