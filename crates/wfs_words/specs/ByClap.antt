-- What clap's own definitions make of the words: for the reader.
use Rattle.std.specs.Prelude.{◌≡◌, true, if◌then◌else◌, List, ◌==◌, length, Option, Some, None, Result, Ok, Err, codes}
use Rattle.clap.specs.Words.{App, Row, Rule, first_of, new_app, new_rule, with_rule, matches_of, fault_of}
use Rattle.wfs_words.specs.Words.{Text, Texts}
use Rattle.wfs_words.specs.declared.command.WordFault.{WordFault}
use Rattle.wfs_words.specs.declared.command.WordFault.TheVariants.{OutOfMemory}

abbrev pub listen_rule : Rule
listen_rule = record (new_rule (codes "listen")) { long = Some (codes "listen"); required = true }

abbrev pub workers_rule : Rule
workers_rule = record (new_rule (codes "workers")) { long = Some (codes "workers"); required = true }

abbrev pub connections_rule : Rule
connections_rule = record (new_rule (codes "connections")) { long = Some (codes "connections") }

abbrev pub dir_rule : Rule
dir_rule = record (new_rule (codes "dir")) { required = true }

abbrev pub bare_app : App
bare_app = let new = new_app (codes "serve") in record new { top = record new.top { disable_help_flag = true } }

abbrev pub serve_app : App
serve_app = with_rule (with_rule (with_rule (with_rule bare_app listen_rule) workers_rule) connections_rule) dir_rule

abbrev pub texts_in : List Row → Texts
texts_in rows = record {
  listen = first_of (codes "listen") rows;
  workers = first_of (codes "workers") rows;
  connections = first_of (codes "connections") rows;
  directory = first_of (codes "dir") rows;
}

-- the texts that the words of serve give, its own word first
unfoldable pub clap_texts : List Text → Option Texts
clap_texts words = if length (fault_of serve_app words) == 0 then Some (texts_in (matches_of serve_app words)) else None

-- what was returned is what reading gives, unless memory ran out
abbrev pub Gives : {X Y : Type 0} → (X → Y) → Result X WordFault → Option Y → Type 0
Gives view (Ok x) read = read ≡ Some (view x)
Gives view (Err e) read = (e ≡ OutOfMemory → ⊥) → read ≡ None
