use Rattle.std.proofs.Common.{arith, ◌≡◌, ◌∙◌, ◌+◌, ◌<◌, Some, length, subst, slice_get, suc, sym}
use Rattle.std.specs.Prelude.{slice_index_or}
use Rattle.std.proofs.lemmas.Option.{slice_get-get_or}
use Rattle.draid_rack.specs.Rack.{OnBothTold}
use Rattle.draid_names.specs.declared.arm.ArmAt.{ArmAt}
use Rattle.draid_slots.specs.Table.{arms_of}
use Rattle.draid_mend.specs.Targets.{FailsBelow, MendsBelow}
use Rattle.draid_mend.proofs.Targeted.{answer_more, fails_more, mended_answers, other_slot, told_more}
use Rattle.draid_mend.proofs.targets.mend_next.Goals as goal

abbrev none : ArmAt
none = record { slot = 0; arm = 0 }

pub returns-then-at-rows-clause-mends : goal.returns-then-at-rows-clause-mends
returns-then-at-rows-clause-mends g c start was =
    let at : ArmAt = slice_index_or c.args.targets.now c.args.i none in
    let there : slice_get c.args.targets.now c.args.i ≡ Some at = slice_get-get_or c.args.targets.now c.args.i none c.requires.less in
    let other = c.if-at-rows.true in
    let up : suc c.args.i ≡ c.args.i + 1 = omega arith in
    let told = g.R.Rack.told c.args.rack.now in
    subst (λ k. OnBothTold start told (MendsBelow c.args.slots.now c.args.rows c.args.targets.now k c.args.column.now c.args.sources.now c.args.failed.now.items)) up
    (other_slot c.args.slots.now c.args.rows c.args.targets.now c.args.i at there c.args.column.now c.args.sources.now c.args.failed.now.items start told (λ same. absurd (omega (arith, other, same))) was)

pub mend_column-mended-requires-clause-there : goal.mend_column-mended-requires-clause-there
mend_column-mended-requires-clause-there g c =
    let at : ArmAt = slice_index_or c.args.targets.now c.args.i none in
    let there : slice_get c.args.targets.now c.args.i ≡ Some at = slice_get-get_or c.args.targets.now c.args.i none c.requires.less in
    let is = c.if-at-rows.false in
    let same : at.slot ≡ c.args.rows.slot = omega (arith, is) in
    subst (λ s. at.arm < length (arms_of c.args.slots.now s)) same (c.requires.there c.args.i at there)

pub returns-clause-mends : goal.returns-clause-mends
returns-clause-mends g c start was =
    let at : ArmAt = slice_index_or c.args.targets.now c.args.i none in
    let there : slice_get c.args.targets.now c.args.i ≡ Some at = slice_get-get_or c.args.targets.now c.args.i none c.requires.less in
    let is = c.if-at-rows.false in
    let same : at.slot ≡ c.args.rows.slot = omega (arith, is) in
    let up : suc c.args.i ≡ c.args.i + 1 = omega arith in
    let told = g.R.Rack.told c.mend_column-mended.new.rack in
    subst (λ k. OnBothTold start told (MendsBelow c.args.slots.now c.args.rows c.args.targets.now k c.args.column.now c.args.sources.now c.note.new.failed.items)) up
    (subst (λ f. OnBothTold start told (MendsBelow c.args.slots.now c.args.rows c.args.targets.now (suc c.args.i) c.args.column.now c.args.sources.now f)) (sym c.note.ensures.failed)
    (told_more c.args.slots.now c.args.rows c.args.targets.now c.args.i at there c.args.column.now c.args.sources.now same c.args.failed.now.items c.mend_column-mended.result start (g.R.Rack.told c.args.rack.now) told
    c.mend_column-mended.ensures.mends was))

pub returns-clause-fails : goal.returns-clause-fails
returns-clause-fails g c before was =
    let at : ArmAt = slice_index_or c.args.targets.now c.args.i none in
    let there : slice_get c.args.targets.now c.args.i ≡ Some at = slice_get-get_or c.args.targets.now c.args.i none c.requires.less in
    let is = c.if-at-rows.false in
    let same : at.slot ≡ c.args.rows.slot = omega (arith, is) in
    let up : suc c.args.i ≡ c.args.i + 1 = omega arith in
    subst (λ k. FailsBelow c.args.slots.now c.args.rows c.args.targets.now k before c.note.new.failed.items) up
    (subst (λ f. FailsBelow c.args.slots.now c.args.rows c.args.targets.now (suc c.args.i) before f) (sym c.note.ensures.failed)
    (fails_more c.args.slots.now c.args.rows c.args.targets.now c.args.i at there c.args.column.now c.args.sources.now same before c.args.failed.now.items c.mend_column-mended.result (g.R.Rack.told c.args.rack.now)
    (g.R.Rack.told c.mend_column-mended.new.rack) c.mend_column-mended.ensures.mends was))

pub returns-then-at-rows-clause-answered : goal.returns-then-at-rows-clause-answered
returns-then-at-rows-clause-answered g c is was =
    let at : ArmAt = slice_index_or c.args.targets.now c.args.i none in
    let there : slice_get c.args.targets.now c.args.i ≡ Some at = slice_get-get_or c.args.targets.now c.args.i none c.requires.less in
    let other = c.if-at-rows.true in
    answer_more c.args.slots.now c.args.rows c.args.targets.now c.args.i at there (λ same. absurd (omega (arith, other, same))) was

pub returns-clause-answered : goal.returns-clause-answered
returns-clause-answered g c is was =
    let at : ArmAt = slice_index_or c.args.targets.now c.args.i none in
    let there : slice_get c.args.targets.now c.args.i ≡ Some at = slice_get-get_or c.args.targets.now c.args.i none c.requires.less in
    answer_more c.args.slots.now c.args.rows c.args.targets.now c.args.i at there
    (λ same. mended_answers c.args.slots.now c.args.rows c.args.targets.now c.args.i at there c.args.column.now c.args.sources.now c.mend_column-mended.result (g.R.Rack.told c.args.rack.now) (g.R.Rack.told c.mend_column-mended.new.rack)
    c.mend_column-mended.ensures.mends (sym c.has_answered.ensures ∙ is)) was
