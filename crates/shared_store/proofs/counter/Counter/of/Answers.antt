-- A store without a history has been published.
use Rattle.std.proofs.Common.{length, ap, sym, ◌∙◌, arith}
use Rattle.snapshot_reads.specs.declared.book.Pair.{Pair}
use Rattle.snapshot_reads.specs.Publishers.{given_of}
use Rattle.shared_store.proofs.Counting.{first_pairs}
use Rattle.shared_store.proofs.counter.Counter.of.Goals as goal

pub returns-clause-settled : goal.returns-clause-settled
returns-clause-settled g c = record {
  pairs = first_pairs c.args.store (given_of c.args.publisher) c.requires.fresh c.requires.given;
  given = let one = ap length c.requires.given in let none = ap length c.requires.fresh in omega (arith, one, none);
  shown = λ abreast. ap (λ (p : Pair). p.front) c.requires.shown ∙ sym (ap length c.requires.fresh);
}
