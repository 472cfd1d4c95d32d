use Rattle.std.proofs.Common.{◌≡◌, ◌∙◌, ap, ap₂, rules, true}
use Rattle.std.proofs.lemmas.Result.{IfOk-weaker}
use Rattle.clap.specs.Words.{app_of, rule_of, with_rule, App}
use Rattle.clap.specs.Simple.{app_of_fields}
use Rattle.wfs_words.specs.ByClap.{bare_app, listen_rule, workers_rule, connections_rule, dir_rule}
use Rattle.wfs_words.proofs.by_clap.serve_usage.Goals as goal

pub returns : goal.returns
returns c =
    let bare_is : app_of c.disable_help_flag-bare.result ≡ bare_app =
    ap app_of_fields c.disable_help_flag-bare.ensures ∙ ap (λ (a : App). record a { top = record a.top { disable_help_flag = true } }) c.new-5.ensures.app in
    let listen_is : rule_of c.required-listen.result ≡ listen_rule = search rules in
    let workers_is : rule_of c.required-workers.result ≡ workers_rule = search rules in
    let connections_is : rule_of c.long-connections.result ≡ connections_rule = search rules in
    let dir_is : rule_of c.required-dir.result ≡ dir_rule = search rules in
    let first_is = c.in_ok-first.ensures.shape (search rules) ∙ ap₂ with_rule bare_is listen_is in
    let second_is = c.in_ok-second.ensures.shape (search rules) ∙ ap₂ with_rule first_is workers_is in
    let third_is = c.in_ok-third.ensures.shape (search rules) ∙ ap₂ with_rule second_is connections_is in
    IfOk-weaker c.arg-4.result _ _ (λ r a. a.shape (search rules) ∙ ap₂ with_rule third_is dir_is) c.arg-4.ensures
