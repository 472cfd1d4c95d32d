-- Lists gone through with a look back: one element more.
use Rattle.std.proofs.Common.{◌≡◌, ℕ, ◌+◌, ◌<◌, ◌≤◌, List, [], ◌∷◌, ◌++◌, length, take, get_or, ap, sym, subst, ◌∙◌, append_assoc}
use Rattle.std.specs.List.{flat_map}
use Rattle.std.proofs.lemmas.List.{take_more, take_all, append-nil}
use Rattle.std.proofs.lemmas.Grind.{flat_map-append}
use Rattle.std.proofs.lemmas.List.Concat.{flat_map-cons}
use Rattle.wfs_ends.specs.Ends.{Writing, Writes}
use Rattle.wfs_ends.proofs.Writing.{wrote_both}
use Rattle.service_docs.specs.InTurn.{in_turn}

more : {X Y : Type 0} (adds : List X → X → List Y) (before xs : List X) (x : X)
    → in_turn adds before (xs ++ x ∷ []) ≡ in_turn adds before xs ++ adds (before ++ xs) x
more {X} {Y} adds before [] x =
    append-nil (adds before x) ∙ ap (λ (ys : List X). adds ys x) (sym (append-nil before))
more {X} {Y} adds before (y ∷ xs) x =
    ap (λ (zs : List Y). adds before y ++ zs) (more adds (before ++ y ∷ []) xs x)
    ∙ ap (λ (ys : List X). adds before y ++ (in_turn adds (before ++ y ∷ []) xs ++ adds ys x)) (append_assoc before (y ∷ []) xs)
    ∙ sym (append_assoc (adds before y) (in_turn adds (before ++ y ∷ []) xs) (adds (before ++ y ∷ xs) x))

-- one more element of a list that a loop goes through
pub in_turn_more : {X Y : Type 0} (adds : List X → X → List Y) (xs : List X) (i : ℕ) (x : X) → i < length xs → x ≡ get_or xs i x
    → in_turn adds [] (take (i + 1) xs) ≡ in_turn adds [] (take i xs) ++ adds (take i xs) x
in_turn_more adds xs i x lt e = rw (take_more xs i x lt, ← e) (more adds [] (take i xs) x)

-- one turn more of a loop, which gives what the element adds
pub wrote_in_turn : {X Y : Type 0} (f : Y → List ℕ) (adds : List X → X → List Y) (xs : List X) (i : ℕ) (x : X) (s0 s1 s2 : Writing) → i < length xs → x ≡ get_or xs i x
    → Writes s0 (flat_map f (in_turn adds [] (take i xs))) s1 → Writes s1 (flat_map f (adds (take i xs) x)) s2
    → Writes s0 (flat_map f (in_turn adds [] (take (i + 1) xs))) s2
wrote_in_turn f adds xs i x s0 s1 s2 lt e a b =
    rw (in_turn_more adds xs i x lt e, flat_map-append f (in_turn adds [] (take i xs)) (adds (take i xs) x)) (wrote_both s0 s1 s2 _ _ a b)

-- after the last turn
pub wrote_each_in_turn : {X Y : Type 0} (f : Y → List ℕ) (adds : List X → X → List Y) (xs : List X) (i : ℕ) (s0 s1 : Writing) → length xs ≤ i
    → Writes s0 (flat_map f (in_turn adds [] (take i xs))) s1 → Writes s0 (flat_map f (in_turn adds [] xs)) s1
wrote_each_in_turn {X} f adds xs i s0 s1 le w =
    subst (λ (ys : List X). Writes s0 (flat_map f (in_turn adds [] ys)) s1) (take_all i xs le) w

-- a list of one
pub flat_map_one : {X : Type 0} (f : X → List ℕ) (x : X) → flat_map f (x ∷ []) ≡ f x
flat_map_one f x = flat_map-cons f x [] ∙ append-nil (f x)
