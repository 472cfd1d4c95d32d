-- What the last entry leaves is published.
use Rattle.std.proofs.Common.{◌≤◌, ◌+◌, Option, List, [], ◌∷◌, length, sym, ap, ◌∙◌, subst, arith, length-append}
use Rattle.std.specs.Option.{option_to_list}
use Rattle.std.proofs.lemmas.Option.{slice_get_within}
use Rattle.snapshot_reads.specs.declared.book.Pair.{Pair}
use Rattle.snapshot_reads.specs.Content.{content_of}
use Rattle.snapshot_reads.specs.Pairs.{pair}
use Rattle.snapshot_reads.specs.Publishers.{given_of, shown_of}
use Rattle.shared_store.specs.Published.{ArePairsOf}
use Rattle.shared_store.proofs.Counting.{abreast_shown, pair_now, pairs_given, schema_given, shown_rises}
use Rattle.shared_store.proofs.counter.Counter.publish.Goals as goal
use Rattle.wfs_model.specs.declared.change.Change.{Change}
use Rattle.wfs_model.specs.Played.{played}

pub publish-published-requires-clause-next : goal.publish-published-requires-clause-next
publish-published-requires-clause-next g c = c.entries-front.ensures ∙ sym c.requires.given

pub publish-published-requires-clause-schema : goal.publish-published-requires-clause-schema
publish-published-requires-clause-schema g c =
    let x = c.args.self.now in
    let inside = slice_get_within (given_of x.publisher) (shown_of x.publisher).front (shown_of x.publisher) c.shown-shown.ensures.stands in
    c.features.ensures.schema ∙ sym (schema_given x.store (given_of x.publisher) c.requires.pairs (omega (arith, inside)))

pub publish-published-requires-clause-change : goal.publish-published-requires-clause-change
publish-published-requires-clause-change g c = λ abreast.
    let x = c.args.self.now in
    c.features.ensures.kept ∙ (c.requires.change abreast ∙ ap (λ (o : Option Change). played (shown_of x.publisher).content.kept (option_to_list o)) (sym c.last_change-change.ensures))

pub returns-clause-settled : goal.returns-clause-settled
returns-clause-settled g c =
    let x = c.args.self.now in
    let p = pair c.entries-front.result (content_of c.features.result.now) in
    let longer = ap length c.publish-published.ensures.given ∙ length-append (given_of x.publisher) (p ∷ []) in
    let is = pair_now x.store c.entries-front.result (content_of c.features.result.now) c.entries-front.ensures c.features.ensures.schema c.features.ensures.kept in
    record {
      pairs = subst (λ (l : List Pair). ArePairsOf x.store l) (sym c.publish-published.ensures.given) (pairs_given x.store (given_of x.publisher) p c.requires.given is c.requires.pairs);
      given = longer ∙ ap (λ n. n + 1) c.requires.given;
      shown = λ abreast. abreast_shown x.publisher c.publish-published.new.self c.entries-front.result (content_of c.features.result.now) c.publish-published.result c.publish-published.ensures.ok c.publish-published.ensures.behind abreast
          ∙ c.entries-front.ensures;
    }

pub returns-clause-above : goal.returns-clause-above
returns-clause-above g c =
    let x = c.args.self.now in
    let inside = slice_get_within (given_of x.publisher) (shown_of x.publisher).front (shown_of x.publisher) c.shown-shown.ensures.stands in
    let low : (shown_of x.publisher).front ≤ c.entries-front.result = omega (arith, inside, c.requires.given, c.entries-front.ensures) in
    let rises = (shown_rises x.publisher c.publish-published.new.self c.entries-front.result (content_of c.features.result.now) c.publish-published.result low c.publish-published.ensures.ok c.publish-published.ensures.err).0 in
    omega (arith, rises)

pub returns-clause-below : goal.returns-clause-below
returns-clause-below g c = omega arith
