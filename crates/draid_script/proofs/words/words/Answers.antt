use Rattle.std.proofs.Common.{arith, refl, ap, ◌∙◌, ◌+◌, ◌++◌, List, drop, length}
use Rattle.std.specs.List.{slice_split}
use Rattle.draid_script.specs.Word.{Placed, is_space, placed_from, words_of}
use Rattle.draid_script.proofs.Splits.{placed-push, word_last, word_more}
use Rattle.draid_script.proofs.words.words.Goals as goal

pub loop-words-preserved : goal.loop-words-preserved
loop-words-preserved c =
    let word = c.word_at-word.result in
    let next = c.loop-words.start + length word.text.now + 1 in
    let pushed = placed-push c.loop-words.words.items c.push.new.self.items word c.loop-words.start c.in_ok-push.ensures.items c.word_at-word.ensures.at in
    let more = word_more c.args.line.now word.text.now c.loop-words.start _ _ _ c.word_at-word.ensures.text refl c.word_at-word.ensures.bound c.if-end-line.false c.loop-words.invariant.rest in
    record {
      within = omega (arith, c.word_at-word.ensures.bound, c.if-end-line.false);
      rest = ap (λ (words : List Placed). words ++ placed_from next (slice_split is_space (drop next c.args.line.now))) pushed ∙ more;
    }

pub returns-then-end-line : goal.returns-then-end-line
unfolding words_of
returns-then-end-line c =
    let word = c.word_at-word.result in
    placed-push c.loop-words.words.items c.push.new.self.items word c.loop-words.start c.in_ok-push.ensures.items c.word_at-word.ensures.at
    ∙ word_last c.args.line.now word.text.now c.loop-words.start _ _ _ c.word_at-word.ensures.text refl c.if-end-line.true c.loop-words.invariant.rest
