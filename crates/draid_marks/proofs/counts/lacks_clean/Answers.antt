use Rattle.std.proofs.Common.{◌≡◌, ◌<◌, ◌∙◌, arith, ap, refl, subst, sym}
use Rattle.std.proofs.lemmas.Bool.{true≢false}
use Rattle.draid_spec.specs.declared.layout.Geometry.{Geometry}
use Rattle.draid_marks.specs.Counting.{LacksClean}
use Rattle.draid_marks.proofs.Thinning.{lacks_more}
use Rattle.draid_marks.proofs.counts.lacks_clean.Goals as goal

pub loop-column-preserved : goal.loop-column-preserved
loop-column-preserved c = record {
  none = lacks_more c.args.slots.now c.args.pointer.now c.loop-column.column c.loop-column.invariant.none
      (λ none. true≢false (sym (c.has_no_clean.ensures.1 none) ∙ c.if-has_no_clean.false));
}

pub returns : goal.returns
returns c =
    let past = c.loop-column-test.false in
    let upto = c.loop-column.auto.column-end in
    let same = ap (λ (g : Geometry). g.g) c.geometry.ensures.geometry in
    let all : c.loop-column.column ≡ c.args.slots.now.geometry.g = omega (arith, past, upto, same) in (
      λ no. absurd (true≢false (sym no)),
      λ lacks. absurd (c.loop-column.invariant.none (subst (LacksClean c.args.slots.now c.args.pointer.now) (sym all) lacks)),
    )

pub loop-column-init : goal.loop-column-init
loop-column-init c = record { none = λ lacks. let less = lacks.1 in omega (arith, less) }

pub has_no_clean-requires : goal.has_no_clean-requires
has_no_clean-requires c = record {
  begins = c.requires.begins;
  column = subst (λ (g : Geometry). c.loop-column.column < g.g) c.geometry.ensures.geometry c.loop-column-test.true;
}

pub returns-then-has_no_clean : goal.returns-then-has_no_clean
returns-then-has_no_clean c = (
  λ is. (c.loop-column.column, subst (λ (g : Geometry). c.loop-column.column < g.g) c.geometry.ensures.geometry c.loop-column-test.true, c.has_no_clean.ensures.0 c.if-has_no_clean.true),
  λ lacks. refl,
)
