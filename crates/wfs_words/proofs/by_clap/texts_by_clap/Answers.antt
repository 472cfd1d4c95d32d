use Rattle.std.proofs.Common.{◌≡◌, ◌⊎◌, ◌∙◌, ap, sym, subst, map, string_bytes, []}
use Rattle.clap.specs.Words.{fault_of, matches_of, is_simple, is_simple_and_free, rows_of, found_of, app_of, kind_of, IsAmong, App}
use Rattle.clap.specs.declared.error.kind.ErrorKind.TheVariants as kind
use Rattle.wfs_words.specs.ByClap.{serve_app}
use Rattle.wfs_words.proofs.Known.{found, refused, serve_is_simple, serve_is_free}
use Rattle.wfs_words.proofs.by_clap.texts_by_clap.Goals as goal

pub returns-in-Ok : goal.returns-in-Ok
returns-in-Ok c =
    let words = map string_bytes c.args.words.now in
    let app_is : app_of c.in_ok-usage.usage ≡ serve_app = c.in_ok-usage.ensures in
    let none : fault_of serve_app words ≡ [] = ap (λ a. fault_of a words) (sym app_is) ∙ c.in-Ok.ensures.kinds (ap is_simple_and_free app_is ∙ serve_is_free) in
    let rows : rows_of (found_of c.in-Ok.matches) ≡ matches_of serve_app words = (c.in-Ok.ensures.matches (ap is_simple app_is ∙ serve_is_simple)).0 ∙ ap (λ a. matches_of a words) app_is in
    found words (found_of c.in-Ok.matches) _ _ _ _ none rows c.get_str.ensures c.get_str-in-Ok.ensures c.get_str-in-Ok-2.ensures c.get_str-in-Ok-3.ensures

pub returns : goal.returns
returns c =
    let words = map string_bytes c.args.words.now in
    let app_is : app_of c.in_ok-usage.usage ≡ serve_app = c.in_ok-usage.ensures in
    let k = kind_of c.in-Err.error in
    let one = c.in-Err.ensures.kinds (ap is_simple_and_free app_is ∙ serve_is_free) in
    λ _. refused words k (λ same. c.in_default.not-OutOfMemory (c.kind.ensures ∙ same)) (subst (λ (a : App). (k ≡ kind.OutOfMemory) ⊎ IsAmong k (fault_of a words)) app_is one)
