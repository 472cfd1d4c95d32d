-- clap reads the words of serve as the lists do.
use Rattle.std.proofs.Common.{◌≡◌, ℕ, true, false, not, ◌&&◌, ◌||◌, refl, sym, ap, subst, ◌∙◌, List, [], ◌∷◌, ◌++◌, map, codes, Option, Some, None, option_map, Bool, cond, inl, inr, append-nil, arith}
use Rattle.std.proofs.lemmas.Bool.{cases_Bool}
use Rattle.std.proofs.lemmas.Slice.Eq.{bytes_eq-Decides}
use Rattle.std.specs.Prelude.{⊤}
use Rattle.std.specs.List.{fold}
use Rattle.std.specs.Str.{bytes_eq}
use Rattle.clap.specs.Words.{Text, Row, Rule, built, Kinds}
use Rattle.clap.specs.Walk.{Walk, walked, idle, option, used, settled_rows, at_row, has_row, reading_by, more_values, takes_values, arg_by_long}
use Rattle.clap.specs.Simple.{Shape, filled, with_index}
use Rattle.clap.specs.declared.parser.matches.ValueSource.TheVariants.{CommandLine}
use Rattle.clap.specs.declared.error.kind.ErrorKind.TheVariants as kind
use Rattle.clap.specs.Faults.{turn_fault, walk_fault, settle_fault, long_fault}
use Rattle.clap.specs.Kinds.{or_else}
use Rattle.clap.specs.Lexer.{long_of, short_of}
use Rattle.wfs_words.specs.ByClap.{serve_app, listen_rule, workers_rule, connections_rule, dir_rule}
use Rattle.wfs_words.specs.declared.options.Name.{Name}
use Rattle.wfs_words.specs.declared.options.Name.TheVariants.{Listen as listen, Workers as workers, Connections as connections, Directory as dir}
use Rattle.wfs_words.specs.Words.{name_of}
use Rattle.wfs_words.proofs.Lists.{name_text, Given, has, add_list, open_list, read_list}

abbrev pub top : Shape
top = (built serve_app).top

abbrev pub rules : List Rule
rules = top.rules

abbrev pub rule : Name → Rule
rule listen = with_index 1 (filled listen_rule)
rule workers = with_index 1 (filled workers_rule)
rule connections = with_index 1 (filled connections_rule)
rule dir = with_index 1 (filled dir_rule)

abbrev pub row : Name × Text → Row
row p = record { id = name_text p.0; values = p.1 ∷ []; count = None; source = Some CommandLine; reading = reading_by (rule p.0) }

-- nothing waits
abbrev pub state : List Row → Option (Text × List Text) → ℕ → Walk
state rows pending position = record { held = record { rows = rows; pending = pending; skip = 0 }; waiting = idle; position = position; is_trailing = false; stopped = None }

-- an option waits for its value
abbrev waits : List Row → Name → ℕ → Walk
waits rows n position = record { held = record { rows = rows; pending = Some (name_text n, []); skip = 0 }; waiting = option (name_text n); position = position; is_trailing = false; stopped = None }

abbrev pub none : Kinds → Bool
none [] = true
none (k ∷ ks) = false

pub none_both : (a b : Kinds) → none (or_else a b) ≡ (none a && none b)
none_both [] b = refl
none_both (k ∷ ks) b = refl

-- ---- turns, at words that are not written out

pub record Flag (word : Text) (n : Name) (v : Option Text) : Type 0 where
  pub dashes : bytes_eq word (codes "--") ≡ false
  pub long : long_of word ≡ Some (name_text n, v)

attached : (n : Name) (v word : Text) (rows : List Row) (p : Option (Text × List Text)) (i : ℕ) → ¬ (n ≡ dir) → Flag word n (Some v)
    → walked rules [] (state rows p i) word ≡ state (used (rule n) (v ∷ []) (settled_rows rules p rows)) None i
unfolding walked
attached listen v word rows p i o f = rw (f.dashes, f.long) refl
attached workers v word rows p i o f = rw (f.dashes, f.long) refl
attached connections v word rows p i o f = rw (f.dashes, f.long) refl
attached dir v word rows p i o f = absurd (o refl)

-- what a use of an option comes to, whether it stands already
once : (s : Kinds) (there : Bool) → none (or_else (or_else s (or_else (cond (there && true) (kind.ArgumentConflict ∷ []) []) [])) []) ≡ (none s && not there)
once [] true = refl
once [] false = refl
once (k ∷ ks) there = refl

only : (s : Kinds) → none (or_else s []) ≡ none s
only [] = refl
only (k ∷ ks) = refl

attached_fault : (n : Name) (v word : Text) (rows : List Row) (p : Option (Text × List Text)) (i : ℕ) → ¬ (n ≡ dir) → Flag word n (Some v)
    → none (turn_fault top [] (state rows p i) word) ≡ (none (settle_fault rules false (state rows p i).held) && not (has_row (name_text n) (settled_rows rules p rows)))
attached_fault listen v word rows p i o f = rw (f.dashes, f.long) (once (settle_fault rules false (state rows p i).held) (has_row (name_text listen) (settled_rows rules p rows)))
attached_fault workers v word rows p i o f = rw (f.dashes, f.long) (once (settle_fault rules false (state rows p i).held) (has_row (name_text workers) (settled_rows rules p rows)))
attached_fault connections v word rows p i o f = rw (f.dashes, f.long) (once (settle_fault rules false (state rows p i).held) (has_row (name_text connections) (settled_rows rules p rows)))
attached_fault dir v word rows p i o f = absurd (o refl)

apart_fault : (n : Name) (word : Text) (rows : List Row) (p : Option (Text × List Text)) (i : ℕ) → ¬ (n ≡ dir) → Flag word n None
    → none (turn_fault top [] (state rows p i) word) ≡ none (settle_fault rules false (state rows p i).held)
apart_fault listen word rows p i o f = rw (f.dashes, f.long) (only (settle_fault rules false (state rows p i).held))
apart_fault workers word rows p i o f = rw (f.dashes, f.long) (only (settle_fault rules false (state rows p i).held))
apart_fault connections word rows p i o f = rw (f.dashes, f.long) (only (settle_fault rules false (state rows p i).held))
apart_fault dir word rows p i o f = absurd (o refl)

pub record Plain (word : Text) : Type 0 where
  pub dashes : bytes_eq word (codes "--") ≡ false
  pub long : long_of word ≡ None
  pub short : short_of word ≡ None

value_turn : (n : Name) (word : Text) (rows : List Row) (i : ℕ) → Plain word → walked rules [] (waits rows n i) word ≡ state rows (Some (name_text n, word ∷ [])) i
unfolding walked
value_turn listen word rows i p = rw (p.dashes, p.long, p.short) refl
value_turn workers word rows i p = rw (p.dashes, p.long, p.short) refl
value_turn connections word rows i p = rw (p.dashes, p.long, p.short) refl
value_turn dir word rows i p = rw (p.dashes, p.long, p.short) refl

value_fault : (n : Name) (word : Text) (rows : List Row) (i : ℕ) → Plain word → none (turn_fault top [] (waits rows n i) word) ≡ true
value_fault listen word rows i p = rw (p.dashes, p.long, p.short) refl
value_fault workers word rows i p = rw (p.dashes, p.long, p.short) refl
value_fault connections word rows i p = rw (p.dashes, p.long, p.short) refl
value_fault dir word rows i p = rw (p.dashes, p.long, p.short) refl

dir_turn : (word : Text) (rows : List Row) (q : Option (Text × List Text)) → Plain word → walked rules [] (state rows q 1) word ≡ state (settled_rows rules q rows) (Some (codes "dir", word ∷ [])) 2
unfolding walked
dir_turn word rows None p = rw (p.dashes, p.long, p.short) refl
dir_turn word rows (Some q) p =
    elim (cases_Bool (bytes_eq q.0 (codes "dir"))) [
      | inl e ↦ rw (p.dashes, p.long, p.short, e) refl
      | inr e ↦ rw (p.dashes, p.long, p.short, e) refl
    ]

dir_fault : (word : Text) (rows : List Row) (q : Option (Text × List Text)) → Plain word → none (turn_fault top [] (state rows q 1) word) ≡ none (settle_fault rules false (state rows q 1).held)
dir_fault word rows None p = rw (p.dashes, p.long, p.short) refl
dir_fault word rows (Some q) p =
    elim (cases_Bool (bytes_eq q.0 (codes "dir"))) [
      | inl e ↦ rw (p.dashes, p.long, p.short, e) refl
      | inr e ↦ rw (p.dashes, p.long, p.short, e) refl
    ]

second_dir : (word : Text) (rows : List Row) (q : Option (Text × List Text)) → Plain word → none (turn_fault top [] (state rows q 2) word) ≡ false
second_dir word rows q p = rw (p.dashes, p.long, p.short) refl

unknown : (word t : Text) (v : Option Text) (rows : List Row) (q : Option (Text × List Text)) (i : ℕ) → bytes_eq word (codes "--") ≡ false → long_of word ≡ Some (t, v) → name_of t ≡ None
    → none (turn_fault top [] (state rows q i) word) ≡ false
unknown word t v rows q i e l n =
    elim (cases_Bool (bytes_eq (codes "listen") t)) [
      | inl a ↦ absurd (some_none (rw a at n))
      | inr a ↦ elim (cases_Bool (bytes_eq (codes "workers") t)) [
        | inl b ↦ absurd (some_none (rw (a, b) at n))
        | inr b ↦ elim (cases_Bool (bytes_eq (codes "connections") t)) [
          | inl c ↦ absurd (some_none (rw (a, b, c) at n))
          | inr c ↦ rw (e, l, a, b, c) refl
        ]
      ]
    ]
  where
    some_none : {x : Name} → Some x ≡ None → ⊥
    some_none h = cc

-- a flag where a value is waited for
end_waits : (n : Name) (rows : List Row) (i : ℕ) → none (settle_fault rules false (waits rows n i).held) ≡ false
end_waits listen rows i = refl
end_waits workers rows i = refl
end_waits connections rows i = refl
end_waits dir rows i = refl

bad_first : (s rest : Kinds) → none s ≡ false → none (or_else s rest) ≡ false
bad_first [] rest bad = cc
bad_first (k ∷ ks) rest bad = refl

long_bad : (n : Name) (o : Option Rule) (v : Option Text) (rows : List Row) (i : ℕ) (rest : Kinds) → none (or_else (long_fault rules false o v (waits rows n i).held) rest) ≡ false
long_bad n None v rows i rest = refl
long_bad n (Some a) None rows i rest =
    let bad = end_waits n rows i in
    elim (cases_Bool (takes_values a)) [
      | inl takes ↦ rw takes (bad_first _ rest bad)
      | inr flag ↦ rw flag (bad_first _ rest (bad_first _ _ bad))
    ]
long_bad n (Some a) (Some x) rows i rest =
    let bad = end_waits n rows i in
    elim (cases_Bool (takes_values a)) [
      | inl takes ↦ rw takes (bad_first _ rest (bad_first _ _ bad))
      | inr flag ↦ rw flag refl
    ]

flag_fault : (n : Name) (word t : Text) (v : Option Text) (rows : List Row) (i : ℕ) → bytes_eq word (codes "--") ≡ false → long_of word ≡ Some (t, v) → none (turn_fault top [] (waits rows n i) word) ≡ false
flag_fault n word t v rows i e l = rw (e, l) (long_bad n (arg_by_long rules t) v rows i _)

alone : (there : Bool) → none (or_else (cond (there && true) (kind.ArgumentConflict ∷ []) []) []) ≡ not there
alone true = refl
alone false = refl

pending_fault : (n : Name) (v : Text) (rows : List Row) (i : ℕ) → none (settle_fault rules false (state rows (Some (name_text n, v ∷ [])) i).held) ≡ not (has_row (name_text n) rows)
pending_fault listen v rows i = alone (has_row (name_text listen) rows)
pending_fault workers v rows i = alone (has_row (name_text workers) rows)
pending_fault connections v rows i = alone (has_row (name_text connections) rows)
pending_fault dir v rows i = alone (has_row (name_text dir) rows)

pending_rows : (n : Name) (v : Text) (rows : List Row) → settled_rows rules (Some (name_text n, v ∷ [])) rows ≡ used (rule n) (v ∷ []) rows
pending_rows listen v rows = refl
pending_rows workers v rows = refl
pending_rows connections v rows = refl
pending_rows dir v rows = refl

apart : (n : Name) (word : Text) (rows : List Row) (p : Option (Text × List Text)) (i : ℕ) → ¬ (n ≡ dir) → Flag word n None
    → walked rules [] (state rows p i) word ≡ waits (settled_rows rules p rows) n i
unfolding walked
apart listen word rows p i o f = rw (f.dashes, f.long) refl
apart workers word rows p i o f = rw (f.dashes, f.long) refl
apart connections word rows p i o f = rw (f.dashes, f.long) refl
apart dir word rows p i o f = absurd (o refl)

-- ---- rows

fresh_row : (id : Text) (change : Row → List Row) (missing rows : List Row) → has_row id rows ≡ false → at_row id change missing rows ≡ rows ++ missing
fresh_row id change missing [] h = refl
fresh_row id change missing (r ∷ rows) h =
    elim (cases_Bool (bytes_eq r.id id)) [
      | inl here ↦ absurd (clash (rw here at h))
      | inr other ↦ rw other (ap (λ k. r ∷ k) (fresh_row id change missing rows (rw other at h)))
    ]
  where
    clash : true ≡ false → ⊥
    clash e = cc

pub has_row_is : (n : Name) (given : Given) → has_row (name_text n) (map row given) ≡ has n given
has_row_is n [] = refl
has_row_is n (p ∷ given) = rw (has_row_is n given) refl

map_last : (given : Given) (p : Name × Text) → map row given ++ row p ∷ [] ≡ map row (given ++ p ∷ [])
map_last [] p = refl
map_last (q ∷ given) p = ap (λ k. row q ∷ k) (map_last given p)

two_rows : (id : Text) (change : Row → List Row) (missing rows : List Row) → has_row id rows ≡ false → at_row id change missing (at_row id (λ _. []) [] rows) ≡ rows ++ missing
two_rows id change missing rows h = rw (fresh_row id (λ _. []) [] rows h, append-nil rows) (fresh_row id change missing rows h)

used_is : (n : Name) (v : Text) (given : Given) → has n given ≡ false → used (rule n) (v ∷ []) (map row given) ≡ map row (given ++ (n, v) ∷ [])
used_is listen v given h = two_rows (name_text listen) (more_values CommandLine (v ∷ [])) _ (map row given) (has_row_is listen given ∙ h) ∙ map_last given (listen, v)
used_is workers v given h = two_rows (name_text workers) (more_values CommandLine (v ∷ [])) _ (map row given) (has_row_is workers given ∙ h) ∙ map_last given (workers, v)
used_is connections v given h = two_rows (name_text connections) (more_values CommandLine (v ∷ [])) _ (map row given) (has_row_is connections given ∙ h) ∙ map_last given (connections, v)
used_is dir v given h = two_rows (name_text dir) (more_values CommandLine (v ∷ [])) _ (map row given) (has_row_is dir given ∙ h) ∙ map_last given (dir, v)

-- ---- all the words

abbrev pub end : Walk → List Text → Walk
end w words = fold (walked rules []) w words

-- the rows at the end, where nothing is at fault
abbrev pub total : Walk → List Text → Option (List Row)
total w words = cond (none (walk_fault top [] w words) && none (settle_fault rules false (end w words).held))
    (Some (settled_rows rules (end w words).held.pending (end w words).held.rows)) None

split_total : {A : Type 0} (a b c : Bool) (x : Option A) → cond ((a && b) && c) x None ≡ cond a (cond (b && c) x None) None
split_total true b c x = refl
split_total false b c x = refl

total_more : (w : Walk) (word : Text) (words : List Text) → total w (word ∷ words) ≡ cond (none (turn_fault top [] w word)) (total (walked rules [] w word) words) None
unfolding walk_fault
total_more w word words = rw (none_both (turn_fault top [] w word) (walk_fault top [] (walked rules [] w word) words)) (split_total (none (turn_fault top [] w word)) _ _ _)

total_last : (w : Walk) → total w [] ≡ cond (none (settle_fault rules false w.held)) (Some (settled_rows rules w.held.pending w.held.rows)) None
unfolding walk_fault
total_last w = refl

refused_turn : (w : Walk) (word : Text) (words : List Text) → none (turn_fault top [] w word) ≡ false → total w (word ∷ words) ≡ None
refused_turn w word words bad = total_more w word words ∙ rw bad refl

good_turn : (w next : Walk) (word : Text) (words : List Text) → none (turn_fault top [] w word) ≡ true → walked rules [] w word ≡ next → total w (word ∷ words) ≡ total next words
good_turn w next word words good is = total_more w word words ∙ rw (good, is) refl

pub data Fit (word : Text) : Type 0 where
  plain : Plain word → Fit word
  flag : (t : Text) (v : Option Text) → bytes_eq word (codes "--") ≡ false → long_of word ≡ Some (t, v) → Fit word

abbrev pub AllFit : List Text → Type 0
AllFit [] = ⊤
AllFit (word ∷ words) = Fit word × AllFit words

abbrev place : Given → ℕ
place given = cond (has dir given) 2 1

has_last : (m n : Name) (v : Text) (given : Given) → has m (given ++ (n, v) ∷ []) ≡ (has m given || (bytes_eq (name_text n) (name_text m) || false))
has_last m n v [] = refl
has_last m n v (p ∷ given) = rw (has_last m n v given) (or_again (bytes_eq (name_text p.0) (name_text m)) (has m given) _)
  where
    or_again : (a b c : Bool) → (a || (b || c)) ≡ ((a || b) || c)
    or_again true b c = refl
    or_again false b c = refl

or_false : (b : Bool) → (b || false) ≡ b
or_false true = refl
or_false false = refl

or_true : (b : Bool) → (b || true) ≡ true
or_true true = refl
or_true false = refl

same_place : (n : Name) (v : Text) (given : Given) → ¬ (n ≡ dir) → place (given ++ (n, v) ∷ []) ≡ place given
same_place listen v given o = rw (has_last dir listen v given, or_false (has dir given)) refl
same_place workers v given o = rw (has_last dir workers v given, or_false (has dir given)) refl
same_place connections v given o = rw (has_last dir connections v given, or_false (has dir given)) refl
same_place dir v given o = absurd (o refl)

next_place : (v : Text) (given : Given) → place (given ++ (dir, v) ∷ []) ≡ 2
next_place v given = rw (has_last dir dir v given, or_true (has dir given)) refl

abbrev is_name : Name → ℕ
is_name dir = 1
is_name listen = 0
is_name workers = 0
is_name connections = 0

zero_one : ◌≡◌ {A = ℕ} 0 1 → ⊥
zero_one e = absurd (omega arith)

no_dir : (n : Name) → is_name n ≡ 0 → ¬ (n ≡ dir)
no_dir n h e = let bad : 0 ≡ is_name dir = sym h ∙ ap is_name e in absurd (zero_one bad)

known : (t : Text) (n : Name) → name_of t ≡ Some n → (t ≡ name_text n) × (¬ (n ≡ dir))
known t n is =
    elim (cases_Bool (bytes_eq (codes "listen") t)) [
      | inl a ↦ let e : listen ≡ n = some_same (rw a at is) in (sym ((bytes_eq-Decides (codes "listen") t).0 a) ∙ ap name_text e, no_dir n (sym (ap is_name e)))
      | inr a ↦ elim (cases_Bool (bytes_eq (codes "workers") t)) [
        | inl b ↦ let e : workers ≡ n = some_same (rw (a, b) at is) in (sym ((bytes_eq-Decides (codes "workers") t).0 b) ∙ ap name_text e, no_dir n (sym (ap is_name e)))
        | inr b ↦ elim (cases_Bool (bytes_eq (codes "connections") t)) [
          | inl c ↦ let e : connections ≡ n = some_same (rw (a, b, c) at is) in (sym ((bytes_eq-Decides (codes "connections") t).0 c) ∙ ap name_text e, no_dir n (sym (ap is_name e)))
          | inr c ↦ absurd (none_some (rw (a, b, c) at is))
        ]
      ]
    ]
  where
    some_same : {x y : Name} → Some x ≡ Some y → x ≡ y
    some_same h = cc

    none_some : {x : Name} → None ≡ Some x → ⊥
    none_some h = cc

-- a state that is at fault stays so
open_bad : (words : List Text) → AllFit words → (given : Given) (rows : List Row) (p : Option (Text × List Text)) (i : ℕ) → i ≡ place given
    → none (settle_fault rules false (state rows p i).held) ≡ false → total (state rows p i) words ≡ None
open_bad [] fit given rows p i at bad = total_last (state rows p i) ∙ rw bad refl
open_bad (word ∷ words) (plain f, fits) given rows p i at bad =
    elim (cases_Bool (has dir given)) [
      | inl there ↦
          let two : i ≡ 2 = at ∙ rw there refl in
          refused_turn (state rows p i) word words (subst (λ k. none (turn_fault top [] (state rows p k) word) ≡ false) (sym two) (second_dir word rows p f))
      | inr new ↦
          let one : i ≡ 1 = at ∙ rw new refl in
          refused_turn (state rows p i) word words (subst (λ k. none (turn_fault top [] (state rows p k) word) ≡ false) (sym one) (dir_fault word rows p f ∙ bad))
    ]
open_bad (word ∷ words) (flag t v e l, fits) given rows p i at bad = go (name_of t) v l refl
  where
    go : (o : Option Name) (u : Option Text) → long_of word ≡ Some (t, u) → name_of t ≡ o → total (state rows p i) (word ∷ words) ≡ None
    go None u long no_name = refused_turn (state rows p i) word words (unknown word t u rows p i e long no_name)
    go (Some n) (Some x) long name =
        let (is, option_name) = known t n name in
        let f : Flag word n (Some x) = record { dashes = e; long = long ∙ ap (λ k. Some (k, Some x)) is } in
        refused_turn (state rows p i) word words (attached_fault n x word rows p i option_name f ∙ rw bad refl)
    go (Some n) None long name =
        let (is, option_name) = known t n name in
        let f : Flag word n None = record { dashes = e; long = long ∙ ap (λ k. Some (k, None)) is } in
        refused_turn (state rows p i) word words (apart_fault n word rows p i option_name f ∙ bad)

-- what is added, where it is new
added : (n : Name) (v : Text) (given : Given) (next : Given → Option Given) → has n given ≡ false → add_list n v given next ≡ next (given ++ (n, v) ∷ [])
added n v given next new = rw new refl

again : (n : Name) (v : Text) (given : Given) (next : Given → Option Given) → has n given ≡ true → add_list n v given next ≡ None
again n v given next there = rw there refl

-- a value is pending: at fault where its name stands already
pends : (n : Name) (v : Text) (given : Given) (i : ℕ) → none (settle_fault rules false (state (map row given) (Some (name_text n, v ∷ [])) i).held) ≡ not (has n given)
pends n v given i = pending_fault n v (map row given) i ∙ ap not (has_row_is n given)

settles : (n : Name) (v : Text) (given : Given) → has n given ≡ false → settled_rows rules (Some (name_text n, v ∷ [])) (map row given) ≡ map row (given ++ (n, v) ∷ [])
settles n v given new = pending_rows n v (map row given) ∙ used_is n v given new

-- what is shown of the rest of the words
abbrev Opens : List Text → Type 0
Opens words = (given : Given) (rows : List Row) (p : Option (Text × List Text)) (i : ℕ) → i ≡ place given
    → none (settle_fault rules false (state rows p i).held) ≡ true → settled_rows rules p rows ≡ map row given
    → total (state rows p i) words ≡ option_map (map row) (read_list None given words)

abbrev Waits : List Text → Type 0
Waits words = (n : Name) → ¬ (n ≡ dir) → (given : Given) (i : ℕ) → i ≡ place given
    → total (waits (map row given) n i) words ≡ option_map (map row) (read_list (Some n) given words)

dir_word : (word : Text) (words : List Text) → Plain word → Opens words → (given : Given) (rows : List Row) (p : Option (Text × List Text)) (i : ℕ) → i ≡ place given
    → none (settle_fault rules false (state rows p i).held) ≡ true → settled_rows rules p rows ≡ map row given → (there : Bool) → has dir given ≡ there
    → total (state rows p i) (word ∷ words) ≡ option_map (map row) (add_list dir word given (λ more. read_list None more words))
dir_word word words f opens given rows p i at ok is true there =
    let two : i ≡ 2 = at ∙ rw there refl in
    refused_turn (state rows p i) word words (subst (λ k. none (turn_fault top [] (state rows p k) word) ≡ false) (sym two) (second_dir word rows p f))
    ∙ ap (option_map (map row)) (sym (again dir word given (λ more. read_list None more words) there))
dir_word word words f opens given rows p i at ok is false new =
    let one : i ≡ 1 = at ∙ rw new refl in
    let next = state (settled_rows rules p rows) (Some (codes "dir", word ∷ [])) 2 in
    subst (λ k. total (state rows p k) (word ∷ words) ≡ total next words) (sym one)
    (good_turn (state rows p 1) next word words (dir_fault word rows p f ∙ subst (λ k. none (settle_fault rules false (state rows p k).held) ≡ true) one ok) (dir_turn word rows p f))
    ∙ subst (λ k. total (state k (Some (codes "dir", word ∷ [])) 2) words ≡ option_map (map row) (read_list None (given ++ (dir, word) ∷ []) words)) (sym is)
    (opens (given ++ (dir, word) ∷ []) (map row given) (Some (codes "dir", word ∷ [])) 2 (sym (next_place word given)) (pends dir word given 2 ∙ rw new refl) (settles dir word given new))
    ∙ ap (option_map (map row)) (sym (added dir word given (λ more. read_list None more words) new))

value_there : (word : Text) (words : List Text) (n : Name) (x : Text) → ¬ (n ≡ dir) → Flag word n (Some x) → Opens words
    → (given : Given) (rows : List Row) (p : Option (Text × List Text)) (i : ℕ) → i ≡ place given
    → none (settle_fault rules false (state rows p i).held) ≡ true → settled_rows rules p rows ≡ map row given → (there : Bool) → has n given ≡ there
    → total (state rows p i) (word ∷ words) ≡ option_map (map row) (add_list n x given (λ more. read_list None more words))
value_there word words n x o f opens given rows p i at ok is true there =
    refused_turn (state rows p i) word words (attached_fault n x word rows p i o f ∙ rw (ok, is, has_row_is n given, there) refl)
    ∙ ap (option_map (map row)) (sym (again n x given (λ more. read_list None more words) there))
value_there word words n x o f opens given rows p i at ok is false new =
    good_turn (state rows p i) (state (map row (given ++ (n, x) ∷ [])) None i) word words
    (attached_fault n x word rows p i o f ∙ rw (ok, is, has_row_is n given, new) refl)
    (attached n x word rows p i o f ∙ ap (λ k. state k None i) (ap (used (rule n) (x ∷ [])) is ∙ used_is n x given new))
    ∙ opens (given ++ (n, x) ∷ []) (map row (given ++ (n, x) ∷ [])) None i (at ∙ sym (same_place n x given o)) refl refl
    ∙ ap (option_map (map row)) (sym (added n x given (λ more. read_list None more words) new))

flag_word : (word : Text) (words : List Text) (t : Text) (v : Option Text) → bytes_eq word (codes "--") ≡ false → long_of word ≡ Some (t, v) → Opens words → Waits words
    → (given : Given) (rows : List Row) (p : Option (Text × List Text)) (i : ℕ) → i ≡ place given
    → none (settle_fault rules false (state rows p i).held) ≡ true → settled_rows rules p rows ≡ map row given → (o : Option Name) → name_of t ≡ o
    → total (state rows p i) (word ∷ words) ≡ option_map (map row) (open_list (Some (t, v)) word given (λ wait more. read_list wait more words))
flag_word word words t None e l opens waits_on given rows p i at ok is None no_name = refused_turn (state rows p i) word words (unknown word t None rows p i e l no_name) ∙ rw no_name refl
flag_word word words t (Some x) e l opens waits_on given rows p i at ok is None no_name = refused_turn (state rows p i) word words (unknown word t (Some x) rows p i e l no_name) ∙ rw no_name refl
flag_word word words t None e l opens waits_on given rows p i at ok is (Some n) name =
    let (same, option_name) = known t n name in
    let f : Flag word n None = record { dashes = e; long = l ∙ ap (λ k. Some (k, None)) same } in
    good_turn (state rows p i) (waits (settled_rows rules p rows) n i) word words (apart_fault n word rows p i option_name f ∙ ok) (apart n word rows p i option_name f)
    ∙ subst (λ k. total (waits k n i) words ≡ option_map (map row) (read_list (Some n) given words)) (sym is) (waits_on n option_name given i at)
    ∙ rw name refl
flag_word word words t (Some x) e l opens waits_on given rows p i at ok is (Some n) name =
    let (same, option_name) = known t n name in
    let f : Flag word n (Some x) = record { dashes = e; long = l ∙ ap (λ k. Some (k, Some x)) same } in
    rw name (value_there word words n x option_name f opens given rows p i at ok is (has n given) refl)

value_given : (word : Text) (words : List Text) (n : Name) → ¬ (n ≡ dir) → AllFit words → Opens words → (given : Given) (i : ℕ) → i ≡ place given → (there : Bool) → has n given ≡ there
    → total (state (map row given) (Some (name_text n, word ∷ [])) i) words ≡ option_map (map row) (add_list n word given (λ more. read_list None more words))
value_given word words n o fits opens given i at true there =
    open_bad words fits given (map row given) (Some (name_text n, word ∷ [])) i at (pends n word given i ∙ rw there refl)
    ∙ ap (option_map (map row)) (sym (again n word given (λ more. read_list None more words) there))
value_given word words n o fits opens given i at false new =
    opens (given ++ (n, word) ∷ []) (map row given) (Some (name_text n, word ∷ [])) i (at ∙ sym (same_place n word given o)) (pends n word given i ∙ rw new refl) (settles n word given new)
    ∙ ap (option_map (map row)) (sym (added n word given (λ more. read_list None more words) new))

-- clap's walk reads as the lists do
both : (words : List Text) → AllFit words → Opens words × Waits words
unfolding read_list
both [] fit = (
  λ given rows p i at ok is. total_last (state rows p i) ∙ rw (ok, is) refl,
  λ n o given i at. total_last (waits (map row given) n i) ∙ rw (end_waits n (map row given) i) refl,
)
both (word ∷ words) (plain f, fits) =
    let more = both words fits in (
      λ given rows p i at ok is. rw f.long (dir_word word words f more.0 given rows p i at ok is (has dir given) refl),
      λ n o given i at. rw f.long (good_turn (waits (map row given) n i) (state (map row given) (Some (name_text n, word ∷ [])) i) word words (value_fault n word (map row given) i f) (value_turn n word (map row given) i f)
          ∙ value_given word words n o fits more.0 given i at (has n given) refl),
    )
both (word ∷ words) (flag t v e l, fits) =
    let more = both words fits in (
      λ given rows p i at ok is. rw l (flag_word word words t v e l more.0 more.1 given rows p i at ok is (name_of t) refl),
      λ n o given i at. refused_turn (waits (map row given) n i) word words (flag_fault n word t v (map row given) i e l) ∙ rw l refl,
    )

pub serve_reads : (words : List Text) → AllFit words → total (state [] None 1) words ≡ option_map (map row) (read_list None [] words)
serve_reads words fit = (both words fit).0 [] [] None 1 refl refl refl
