use Rattle.draid_gen.proofs.WordLists.{one_more, all_there}
use Rattle.draid_gen.proofs.words.fill_words.Goals as goal

pub words-preserved : goal.words-preserved
words-preserved c = one_more _ _ _ _ _ _ _ c.words-test.true c.words.auto.into c.next_word.ensures c.words.invariant

pub returns : goal.returns
returns c = all_there _ _ _ _ _ c.words-test.false c.words.auto.i-end c.words.auto.into c.words.invariant
