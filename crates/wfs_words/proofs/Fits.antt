-- The test in front of clap.
use Rattle.std.proofs.Common.{◌≡◌, ◌<◌, ◌-◌, suc, true, false, refl, sym, ap, ◌∙◌, List, [], ◌∷◌, map, length, take, drop, take_all, Option, Some, None, String, Global, codes, string_bytes, arith}
use Rattle.std.specs.List.{list_all}
use Rattle.std.proofs.lemmas.Slice.Eq.{bytes_eq-Decides}
use Rattle.wfs_words.specs.Words.{Text, Texts, Asked, is_fit, is_serve, ◌>>=◌, first_word, served, serve_of, texts_of, command_of, asked_of}
use Rattle.wfs_words.specs.ByClap.{clap_texts}
use Rattle.wfs_words.proofs.Served.{all_fit, serve_law}
use Rattle.wfs_words.proofs.Same.{unfit, commands_alike}

fit_through : (xs : List (String Global)) → list_all is_fit (map string_bytes xs) ≡ list_all (λ w. is_fit (string_bytes w)) xs
fit_through [] = refl
fit_through (x ∷ xs) = rw (fit_through xs) refl

-- the words behind the first
all_behind : (xs : List (String Global)) → take (suc (length xs) - 1) xs ≡ xs
all_behind xs = take_all _ xs (omega arith)

pub refused_unfit : (words : List (String Global)) → 0 < length words → list_all (λ w. is_fit (string_bytes w)) (take (length words - 1) (drop 1 words)) ≡ false → serve_of (drop 1 (map string_bytes words)) ≡ None
unfolding serve_of texts_of
refused_unfit [] some fit = absurd (omega arith)
refused_unfit (c ∷ ws) some fit =
    let not_all : list_all is_fit (map string_bytes ws) ≡ false = fit_through ws ∙ rw (all_behind ws) at fit in
    rw (unfit (map string_bytes ws) _ not_all) refl

-- where all are fit, what clap gives
served_fit : (words : List (String Global)) → 0 < length words → list_all (λ w. is_fit (string_bytes w)) (take (length words - 1) (drop 1 words)) ≡ true
    → (clap_texts (map string_bytes words) >>= served) ≡ serve_of (drop 1 (map string_bytes words))
unfolding serve_of
served_fit [] some fit = absurd (omega arith)
served_fit (c ∷ ws) some fit =
    let all : list_all is_fit (map string_bytes ws) ≡ true = fit_through ws ∙ rw (all_behind ws) at fit in
    ap (λ (o : Option Texts). o >>= served) (serve_law (string_bytes c) (map string_bytes ws) (all_fit (map string_bytes ws) all)) ∙ commands_alike (map string_bytes ws) all

pub fit_some : (words : List (String Global)) → 0 < length words → list_all (λ w. is_fit (string_bytes w)) (take (length words - 1) (drop 1 words)) ≡ true
    → (t : Texts) (a : Asked) → clap_texts (map string_bytes words) ≡ Some t → Some a ≡ served t → serve_of (drop 1 (map string_bytes words)) ≡ Some a
fit_some words some fit t a e k = sym (served_fit words some fit) ∙ ap (λ (o : Option Texts). o >>= served) e ∙ sym k

pub fit_none : (words : List (String Global)) → 0 < length words → list_all (λ w. is_fit (string_bytes w)) (take (length words - 1) (drop 1 words)) ≡ true
    → (t : Texts) → clap_texts (map string_bytes words) ≡ Some t → None ≡ served t → serve_of (drop 1 (map string_bytes words)) ≡ None
fit_none words some fit t e k = sym (served_fit words some fit) ∙ ap (λ (o : Option Texts). o >>= served) e ∙ sym k

pub fit_refused : (words : List (String Global)) → 0 < length words → list_all (λ w. is_fit (string_bytes w)) (take (length words - 1) (drop 1 words)) ≡ true
    → clap_texts (map string_bytes words) ≡ None → serve_of (drop 1 (map string_bytes words)) ≡ None
fit_refused words some fit e = sym (served_fit words some fit) ∙ ap (λ (o : Option Texts). o >>= served) e

-- the words of serve are those whose first word is its own
pub serve_asked : (words : List Text) → true ≡ is_serve words → asked_of words ≡ serve_of (drop 1 words)
unfolding asked_of first_word command_of
serve_asked [] is = cc
serve_asked (w ∷ ws) is = let e : w ≡ codes "serve" = (bytes_eq-Decides w (codes "serve")).0 (sym is) in rw e refl
