-- The declaration that may stand first (XML 1.0, 2.8 and 4.3.3).
use Rattle.std.specs.Prelude.{ℕ, Bool, not, map, List, [], ◌∷◌, ◌||◌, Result, Ok, Err, ◌==◌, if◌then◌else◌, codes}
use Rattle.std.specs.Str.{bytes_eq}
use Rattle.std.specs.Char.{to_ascii_lowercase}
use Rattle.wfs_ends.specs.Read.{◌>>=◌, unless}
use Rattle.doc_read.specs.declared.fault.DocFault.{DocFault}
use Rattle.doc_read.specs.declared.fault.DocFault.TheVariants.{Malformed}
use Rattle.doc_read.specs.declared.lex.Class.TheVariants.{Space, Quoted}
use Rattle.doc_read.specs.declared.word.Word.{Word}
use Rattle.doc_read.specs.declared.word.Word.TheVariants.{Declaration, Version, Encoding, Standalone, DeclarationEnd}
use Rattle.doc_read.specs.Read.{Reads}
use Rattle.doc_read.specs.Chars.{split_front, starts, skip_space, expected_at, begins, word_at}

-- what stands between quotes, as it stands
unfoldable pub quoted_at : List ℕ → Reads (List ℕ)
quoted_at [] = Err Malformed
quoted_at (q ∷ cs) = if q == 34 || q == 39 then (expected_at q (split_front (Quoted q) cs).1 >>= λ rest. Ok ((split_front (Quoted q) cs).0, rest)) else Err Malformed

-- white space, the word, an equals sign and a value in quotes
unfoldable pub setting_at : Word → List ℕ → Reads (List ℕ)
setting_at word cs = do
  gap ← unless (not (starts Space cs)) Malformed
  after ← word_at word (skip_space cs)
  value ← expected_at 61 (skip_space after)
  quoted_at (skip_space value)

-- the values that each setting may have
abbrev pub fits : Word → List ℕ → Bool
fits Version value = bytes_eq value (codes "1.0")
fits Encoding value = bytes_eq (map to_ascii_lowercase value) (codes "utf-8")
fits word value = bytes_eq value (codes "yes") || bytes_eq value (codes "no")

unfoldable pub required_at : Word → List ℕ → Result (List ℕ) DocFault
required_at word cs = do
  setting ← setting_at word cs
  if fits word setting.0 then Ok setting.1 else Err Malformed

unfoldable pub optional_at : Word → List ℕ → Result (List ℕ) DocFault
optional_at word cs = if begins word (skip_space cs) then required_at word cs else Ok cs

unfoldable pub settings_at : List ℕ → Result (List ℕ) DocFault
settings_at cs = do
  version ← required_at Version cs
  encoding ← optional_at Encoding version
  standalone ← optional_at Standalone encoding
  word_at DeclarationEnd (skip_space standalone)

-- what comes after the declaration, where one stands
unfoldable pub declaration_at : List ℕ → Result (List ℕ) DocFault
declaration_at cs = if begins Declaration cs then (word_at Declaration cs >>= λ rest. settings_at rest) else Ok cs
