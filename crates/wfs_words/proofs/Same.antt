-- The texts as a list are the texts by name.
use Rattle.std.proofs.Common.{◌≡◌, Bool, true, false, ◌&&◌, if◌then◌else◌, List, [], ◌∷◌, ◌++◌, refl, sym, ap, ap₂, ◌∙◌, inl, inr, Option, Some, None, option_map}
use Rattle.std.specs.Prelude.{is_some}
use Rattle.std.specs.List.{list_all}
use Rattle.std.specs.Str.{bytes_eq}
use Rattle.std.proofs.lemmas.Bool.{cases_Bool, and_parts}
use Rattle.clap.specs.Lexer.{long_of}
use Rattle.wfs_words.specs.declared.options.Name.{Name}
use Rattle.wfs_words.specs.declared.options.Name.TheVariants.{Listen as listen, Workers as workers, Connections as connections, Directory as dir}
use Rattle.wfs_words.specs.Words.{Text, Texts, State, get, with_text, is_fit, name_of, ◌>>=◌, add, open_word, value_word, next_word, step, read, texts_of, served}
use Rattle.wfs_words.proofs.Lists.{name_text, Given, has, lookup, add_list, with_name, open_list, value_list, read_list, complete, completed, texts_from}

-- ---- looking up

lookup_is : (n : Name) (given : Given) → is_some (lookup n given) ≡ has n given
lookup_is n [] = refl
lookup_is n (p ∷ given) =
    elim (cases_Bool (bytes_eq (name_text p.0) (name_text n))) [
      | inl here ↦ rw here refl
      | inr other ↦ rw other (lookup_is n given)
    ]

get_is : (n : Name) (given : Given) → is_some (get n (texts_from given)) ≡ has n given
get_is listen given = lookup_is listen given
get_is workers given = lookup_is workers given
get_is connections given = lookup_is connections given
get_is dir given = lookup_is dir given

first_or : Option Text → Option Text → Option Text
first_or (Some x) o = Some x
first_or None o = o

lookup_last : (m n : Name) (v : Text) (given : Given) → lookup m (given ++ (n, v) ∷ []) ≡ first_or (lookup m given) (if bytes_eq (name_text n) (name_text m) then Some v else None)
unfolding first_or
lookup_last m n v [] =
    elim (cases_Bool (bytes_eq (name_text n) (name_text m))) [
      | inl here ↦ rw here refl
      | inr other ↦ rw other refl
    ]
lookup_last m n v (p ∷ given) =
    elim (cases_Bool (bytes_eq (name_text p.0) (name_text m))) [
      | inl here ↦ rw here refl
      | inr other ↦ rw other (lookup_last m n v given)
    ]

none_of : (n : Name) (given : Given) → has n given ≡ false → lookup n given ≡ None
none_of n given new = by (lookup n given) (lookup_is n given ∙ new)
  where
    by : (o : Option Text) → is_some o ≡ false → o ≡ None
    by None e = refl
    by (Some x) e = absurd cc

here_is : (n : Name) (v : Text) (given : Given) → bytes_eq (name_text n) (name_text n) ≡ true → has n given ≡ false → lookup n (given ++ (n, v) ∷ []) ≡ Some v
unfolding first_or
here_is n v given same new = lookup_last n n v given ∙ rw (none_of n given new, same) refl

other_is : (m n : Name) (v : Text) (given : Given) → bytes_eq (name_text n) (name_text m) ≡ false → lookup m (given ++ (n, v) ∷ []) ≡ lookup m given
unfolding first_or
other_is m n v given other = lookup_last m n v given ∙ rw other (by (lookup m given))
  where
    by : (o : Option Text) → first_or o None ≡ o
    by None = refl
    by (Some x) = refl

same_texts : {a b c d x y z w : Option Text} → a ≡ x → b ≡ y → c ≡ z → d ≡ w
    → ◌≡◌ {A = Texts} (record { listen = a; workers = b; connections = c; directory = d }) (record { listen = x; workers = y; connections = z; directory = w })
same_texts a b c d = cc

texts_more : (n : Name) (v : Text) (given : Given) → has n given ≡ false → texts_from (given ++ (n, v) ∷ []) ≡ with_text n v (texts_from given)
texts_more listen v given new = same_texts (here_is listen v given refl new) (other_is workers listen v given refl) (other_is connections listen v given refl) (other_is dir listen v given refl)
texts_more workers v given new = same_texts (other_is listen workers v given refl) (here_is workers v given refl new) (other_is connections workers v given refl) (other_is dir workers v given refl)
texts_more connections v given new = same_texts (other_is listen connections v given refl) (other_is workers connections v given refl) (here_is connections v given refl new) (other_is dir connections v given refl)
texts_more dir v given new = same_texts (other_is listen dir v given refl) (other_is workers dir v given refl) (other_is connections dir v given refl) (here_is dir v given refl new)

-- ---- the words

abbrev Alike : List Text → Type 0
Alike words = (wait : Option Name) (given : Given) → option_map texts_from (read_list wait given words) ≡ read (record { waiting = wait; given = texts_from given }) words

added : (n : Name) (v : Text) (given : Given) (words : List Text) → Alike words
    → option_map texts_from (add_list n v given (λ more. read_list None more words)) ≡ (add n v (texts_from given) >>= λ next. read next words)
unfolding add
added n v given words alike =
    elim (cases_Bool (has n given)) [
      | inl there ↦ rw (there, get_is n given, there) refl
      | inr new ↦ rw (new, get_is n given, new) (alike None (given ++ (n, v) ∷ []) ∙ ap (λ (t : Texts). read (record { waiting = None; given = t }) words) (texts_more n v given new))
    ]

opened : (o : Option (Text × Option Text)) (word : Text) (given : Given) (words : List Text) → Alike words
    → option_map texts_from (open_list o word given (λ wait more. read_list wait more words)) ≡ (open_word o word (texts_from given) >>= λ next. read next words)
unfolding open_word
opened None word given words alike = added dir word given words alike
opened (Some (t, Some v)) word given words alike = by (name_of t)
  where
    by : (r : Option Name) → option_map texts_from (with_name r (λ n. add_list n v given (λ more. read_list None more words))) ≡ ((r >>= λ n. add n v (texts_from given)) >>= λ next. read next words)
    by None = refl
    by (Some n) = added n v given words alike
opened (Some (t, None)) word given words alike = by (name_of t)
  where
    by : (r : Option Name) → option_map texts_from (with_name r (λ n. read_list (Some n) given words)) ≡ ((r >>= λ n. Some (record { waiting = Some n; given = texts_from given })) >>= λ next. read next words)
    by None = refl
    by (Some n) = alike (Some n) given

valued : (n : Name) (o : Option (Text × Option Text)) (word : Text) (given : Given) (words : List Text) → Alike words
    → option_map texts_from (value_list n o word given (λ wait more. read_list wait more words)) ≡ (value_word n o word (texts_from given) >>= λ next. read next words)
unfolding value_word
valued n None word given words alike = added n word given words alike
valued n (Some p) word given words alike = refl

pub alike : (words : List Text) → list_all is_fit words ≡ true → Alike words
unfolding read read_list step
alike [] fit None given = refl
alike [] fit (Some n) given = refl
alike (word ∷ words) fit None given =
    let parts = and_parts (is_fit word) (list_all is_fit words) fit in
    rw parts.0 (opened (long_of word) word given words (alike words parts.1))
alike (word ∷ words) fit (Some n) given =
    let parts = and_parts (is_fit word) (list_all is_fit words) fit in
    rw parts.0 (valued n (long_of word) word given words (alike words parts.1))

-- a word that is not fit ends the reading
pub unfit : (words : List Text) (s : State) → list_all is_fit words ≡ false → read s words ≡ None
unfolding read step
unfit [] s fit = cc
unfit (word ∷ words) s fit =
    elim (cases_Bool (is_fit word)) [
      | inl here ↦ rw here (by (next_word s.waiting word s.given) (λ next. unfit words next (rw here at fit)))
      | inr other ↦ rw other refl
    ]
  where
    by : (o : Option State) → ((next : State) → read next words ≡ None) → (o >>= λ next. read next words) ≡ None
    by None more = refl
    by (Some next) more = more next

-- without each of the three that serve needs there is no command
lacking_texts : (a b c d : Option Text) → (is_some a && (is_some b && is_some d)) ≡ false → served (record { listen = a; workers = b; connections = c; directory = d }) ≡ None
unfolding served
lacking_texts None b c d e = refl
lacking_texts (Some x) None c d e = refl
lacking_texts (Some x) (Some w) c None e = refl
lacking_texts (Some x) (Some w) c (Some y) e = cc

lacking : (given : Given) → complete given ≡ false → served (texts_from given) ≡ None
lacking given some =
    lacking_texts (lookup listen given) (lookup workers given) (lookup connections given) (lookup dir given)
    (ap₂ (λ (a r : Bool). a && r) (lookup_is listen given) (ap₂ (λ (a r : Bool). a && r) (lookup_is workers given) (lookup_is dir given)) ∙ some)

-- what clap takes as whole gives the command that the definition gives
pub commands_alike : (words : List Text) → list_all is_fit words ≡ true → (completed (read_list None [] words) >>= served) ≡ (texts_of words >>= served)
unfolding texts_of
commands_alike words fit = by (read_list None [] words) ∙ ap (λ (o : Option Texts). o >>= served) (alike words fit None [])
  where
    by : (o : Option Given) → (completed o >>= served) ≡ (option_map texts_from o >>= served)
    by None = refl
    by (Some given) =
        elim (cases_Bool (complete given)) [
          | inl all ↦ rw all refl
          | inr some ↦ rw some (sym (lacking given some))
        ]
