use Rattle.draid_perm.proofs.FillLemmas.{one_more, all_there, after-next}
use Rattle.draid_perm.proofs.words.fill_words.Goals as goal

pub words-preserved : goal.words-preserved
words-preserved c = record {
  words = one_more _ _ _ _ _ _ _ c.words-test.true c.words.auto.into c.next_word.ensures c.words.invariant.words;
  state = after-next c.words.i c.args.rng.now _ _ _ c.words.invariant.state c.next_word.ensures;
}

pub returns-clause-words : goal.returns-clause-words
returns-clause-words c = all_there _ _ _ _ _ c.words-test.false c.words.auto.i-end c.words.auto.into c.words.invariant.words
