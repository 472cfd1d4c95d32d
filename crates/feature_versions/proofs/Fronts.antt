-- The first rows, none of which has a feature.
use Rattle.std.proofs.Common.{◌≡◌, ℕ, zero, suc, ◌+◌, ◌<◌, ◌≤◌, List, [], ◌∷◌, ◌++◌, length, get_or, take, drop, set, None, refl, sym, ap, ◌∙◌, arith}
use Rattle.std.specs.Prelude.{min}
use Rattle.std.specs.List.{insert}
use Rattle.std.specs.Option.{option_to_list}
use Rattle.std.proofs.lemmas.List.{length-take-le, take-append-drop, take-take, take_at, take_more}
use Rattle.std.proofs.lemmas.List.Concat.{flat_map-append}
use Rattle.feature_versions.specs.declared.rows.Row.{Row}
use Rattle.feature_versions.specs.Rows.{live_in, live, AreGone}

none_in : {X : Type 0} (xs ys : List X) → xs ++ ys ≡ [] → (xs ≡ []) × (ys ≡ [])
none_in [] ys is = (refl, is)
none_in (x ∷ xs) ys is = absurd cc

live_parts : (rows : List Row) (n : ℕ) → live rows ≡ live (take n rows) ++ live (drop n rows)
live_parts rows n = ap live (sym (take-append-drop n rows)) ∙ flat_map-append live_in (take n rows) (drop n rows)

-- all features stand behind them
pub gone_first : (rows : List Row) (n : ℕ) → AreGone n rows → live rows ≡ live (drop n rows)
gone_first rows n gone = live_parts rows n ∙ ap (λ l. l ++ live (drop n rows)) gone

gone_less : (rows : List Row) (m n : ℕ) → m ≤ n → AreGone n rows → AreGone m rows
gone_less rows m n le gone =
    let parts = live_parts (take n rows) m in
    ap live (sym (take-take m n rows le)) ∙ (none_in (live (take m (take n rows))) (live (drop m (take n rows))) (sym parts ∙ gone)).0

-- one more
pub gone_more : (rows : List Row) (n : ℕ) (d : Row) → n < length rows → (get_or rows n d).feature ≡ None → AreGone n rows → AreGone (n + 1) rows
gone_more rows n d lt none gone =
    ap live (take_more rows n d lt) ∙ flat_map-append live_in (take n rows) (get_or rows n d ∷ [])
    ∙ ap (λ l. l ++ (live_in (get_or rows n d) ++ [])) gone ∙ ap (λ o. option_to_list o ++ []) none

-- rows that are the same before a place
gone_before : (old new : List Row) (n place : ℕ) → take place new ≡ take place old → AreGone n old → AreGone (min n place) new
gone_before old new n place same gone =
    let within : min n place ≤ place = omega arith in
    let less : min n place ≤ n = omega arith in
    ap live (sym (take-take (min n place) place new within) ∙ ap (take (min n place)) same ∙ take-take (min n place) place old within)
    ∙ gone_less old (min n place) n less gone

pub gone_inserted : (rows : List Row) (n place : ℕ) (row : Row) → place ≤ length rows → AreGone n rows → AreGone (min n place) (insert rows place row)
gone_inserted rows n place row le =
    gone_before rows (insert rows place row) n place (take_at (take place rows) (row ∷ drop place rows) place (length-take-le place rows le))

pub gone_set : (rows : List Row) (n place : ℕ) (row : Row) → take place (set rows place row) ≡ take place rows → AreGone n rows → AreGone (min n place) (set rows place row)
gone_set rows n place row same = gone_before rows (set rows place row) n place same

-- a row that has no feature any more
pub gone_without : (rows : List Row) (n place number : ℕ) → AreGone n rows → AreGone n (set rows place (record { number = number; feature = None }))
gone_without [] n zero number gone = gone
gone_without [] n (suc place) number gone = gone
gone_without (row ∷ rows) zero zero number gone = refl
gone_without (row ∷ rows) zero (suc place) number gone = refl
gone_without (row ∷ rows) (suc n) zero number gone = (none_in (live_in row) (live (take n rows)) gone).1
gone_without (row ∷ rows) (suc n) (suc place) number gone =
    let parts = none_in (live_in row) (live (take n rows)) gone in
    ap (λ l. l ++ live (take n (set rows place (record { number = number; feature = None })))) parts.0 ∙ gone_without rows n place number parts.1
