use Rattle.std.proofs.Common.{◌∙◌, ◌++◌, [], ◌∷◌, sym, ap, List, ℕ, Vec, Global}
use Rattle.draid_block.proofs.Held.{none_is, absent_none, absent_more, present_more}
use Rattle.draid_block.proofs.search.absent_of.Goals as goal
use Rattle.draid_block.proofs.search.absent_of.Goals.{then-is_none+in_ok-push, else-is_none}

pub loop-i-init : goal.loop-i-init
loop-i-init c = c.new-absent.ensures.items ∙ sym (absent_none c.args.columns.now)

pub loop-i-preserved : goal.loop-i-preserved
loop-i-preserved c = elim c.if-is_none.branch [
  | then-is_none+in_ok-push w ↦
      let none = none_is c.index-columns-i.result c.is_none.result c.is_none.ensures ∙ w.if-is_none.true in
      ap (λ (v : Vec ℕ Global). v.items) w.absent-is ∙ w.in_ok-push.ensures.items ∙ ap (λ (l : List ℕ). l ++ c.loop-i.i ∷ []) c.loop-i.invariant
      ∙ sym (absent_more c.args.columns.now c.loop-i.i c.index-columns-i.result c.loop-i-test.true c.index-columns-i.is none)
  | else-is_none w ↦
      let some = none_is c.index-columns-i.result c.is_none.result c.is_none.ensures ∙ w.if-is_none.false in
      ap (λ (v : Vec ℕ Global). v.items) w.absent-is ∙ c.loop-i.invariant
      ∙ sym (present_more c.args.columns.now c.loop-i.i c.index-columns-i.result c.loop-i-test.true c.index-columns-i.is some)
]
