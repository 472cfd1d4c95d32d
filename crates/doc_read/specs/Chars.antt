-- Sets of characters, and words.
use Rattle.std.specs.Prelude.{ℕ, Bool, true, false, [], ◌∷◌, ◌++◌, ◌&&◌, ◌||◌, not, List, take, drop, Result, Ok, Err, ◌==◌, if◌then◌else◌, codes}
use Rattle.std.specs.List.{prefix_len}
use Rattle.std.specs.Char.{is_ascii_alphabetic, is_ascii_alphanumeric, is_ascii_digit, is_ascii_hexdigit}
use Rattle.wfs_ends.specs.Read.{◌>>=◌}
use Rattle.doc_read.specs.declared.fault.DocFault.{DocFault}
use Rattle.doc_read.specs.declared.fault.DocFault.TheVariants.{Malformed}
use Rattle.doc_read.specs.declared.lex.Class.{Class}
use Rattle.doc_read.specs.declared.lex.Class.TheVariants.{Space, NameStart, NamePart, Text, Value, Quoted, Decimal, Hexadecimal}
use Rattle.doc_read.specs.declared.word.Word.{Word}
use Rattle.doc_read.specs.declared.word.Word.TheVariants.{Dashes, CommentEnd, Section, SectionEnd, Doctype, Declaration, Version, Encoding, Standalone, DeclarationEnd}
use Rattle.doc_read.specs.Read.{Reads}

abbrev pub holds : Class → ℕ → Bool
holds Space c = c == 32 || c == 9 || c == 10
holds NameStart c = is_ascii_alphabetic c || c == 95
holds NamePart c = is_ascii_alphanumeric c || c == 95 || c == 45 || c == 46
holds Text c = not (c == 60) && not (c == 38)
holds (Value quote) c = not (c == quote) && not (c == 60) && not (c == 38)
holds (Quoted quote) c = not (c == quote)
holds Decimal c = is_ascii_digit c
holds Hexadecimal c = is_ascii_hexdigit c

-- the longest front of the class, and what comes after it
unfoldable pub split_front : Class → List ℕ → List ℕ × List ℕ
split_front class cs = (take (prefix_len (holds class) cs) cs, drop (prefix_len (holds class) cs) cs)

abbrev pub starts : Class → List ℕ → Bool
starts class [] = false
starts class (c ∷ cs) = holds class c

abbrev pub skip_space : List ℕ → List ℕ
skip_space cs = (split_front Space cs).1

-- the one character that has to stand here
abbrev pub expected_at : ℕ → List ℕ → Result (List ℕ) DocFault
expected_at c [] = Err Malformed
expected_at c (d ∷ rest) = if d == c then Ok rest else Err Malformed

-- ---- words

abbrev pub letters : Word → List ℕ
letters Dashes = codes "--"
letters CommentEnd = codes "-->"
letters Section = codes "[CDATA["
letters SectionEnd = codes "]]>"
letters Doctype = codes "DOCTYPE"
letters Declaration = codes "<?xml"
letters Version = codes "version"
letters Encoding = codes "encoding"
letters Standalone = codes "standalone"
letters DeclarationEnd = codes "?>"

unfoldable pub letter_at : ℕ → List ℕ → Result (List ℕ) DocFault
letter_at c cs = expected_at c cs

-- what comes after letters that have to stand here
unfoldable pub letters_at : List ℕ → List ℕ → Result (List ℕ) DocFault
letters_at [] cs = Ok cs
letters_at (w ∷ ws) cs = letter_at w cs >>= λ rest. letters_at ws rest

-- what comes after a word that has to stand here
abbrev pub word_at : Word → List ℕ → Result (List ℕ) DocFault
word_at word cs = letters_at (letters word) cs

abbrev pub is_read : Result (List ℕ) DocFault → Bool
is_read (Ok rest) = true
is_read (Err e) = false

abbrev pub begins : Word → List ℕ → Bool
begins word cs = is_read (word_at word cs)

-- whether the word stands anywhere
unfoldable pub contains : Word → List ℕ → Bool
contains word [] = false
contains word (c ∷ cs) = begins word (c ∷ cs) || contains word cs

abbrev pub cut : List ℕ → Result (List ℕ) DocFault → Reads (List ℕ) → Reads (List ℕ)
cut found (Ok rest) later = Ok (found, rest)
cut found (Err e) later = later

-- what stands before the first place of the word, behind what was found before, and what comes after the word
unfoldable pub split_from : Word → List ℕ → List ℕ → Reads (List ℕ)
split_from word found [] = Err Malformed
split_from word found (c ∷ cs) = cut found (word_at word (c ∷ cs)) (split_from word (found ++ c ∷ []) cs)

abbrev pub split_word : Word → List ℕ → Reads (List ℕ)
split_word word cs = split_from word [] cs
