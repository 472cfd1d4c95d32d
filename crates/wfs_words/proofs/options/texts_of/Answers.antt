use Rattle.wfs_words.specs.Words.{view_state}
use Rattle.wfs_words.proofs.Firsts.{stops, goes_on}
use Rattle.wfs_words.proofs.options.texts_of.Goals as goal

pub returns-in-None : goal.returns-in-None
returns-in-None c = stops c.args.words.now c.loop-word.word-index c.word-item.result c.as_str.result.now (view_state c.loop-word.state) _ c.loop-word-test.true c.word-item.is c.as_str.ensures.value c.loop-word.invariant c.in-None.ensures

pub loop-word-preserved : goal.loop-word-preserved
loop-word-preserved c = goes_on c.args.words.now c.loop-word.word-index c.word-item.result c.as_str.result.now (view_state c.loop-word.state) (view_state c.in-Some.next) _ c.loop-word-test.true c.word-item.is c.as_str.ensures.value c.loop-word.invariant c.in-Some.ensures
