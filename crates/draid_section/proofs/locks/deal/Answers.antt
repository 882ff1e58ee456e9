use Rattle.std.proofs.Common.{◌+◌, ◌∙◌, Some, ap, arith, slice_set, subst, sym}
use Rattle.std.proofs.lemmas.Option.{slice_get-get_or}
use Rattle.draid_section.proofs.Splitting.{Splits, splits_done, splits_more}
use Rattle.draid_section.proofs.locks.deal.Goals as goal

pub loop-at-preserved : goal.loop-at-preserved
loop-at-preserved g c =
    let r = c.loop-at.invariant.0 in
    let many = r.many in
    let all = c.requires.may.fits.many in
    let lt = c.loop-at-test.true in
    let pass = c.index_mut.result.now in
    let there = sym (r.behind c.loop-at.at (omega arith)) ∙ (slice_get-get_or c.loop-at.firsts.items c.loop-at.at pass (omega (arith, lt, many, all)) ∙ ap Some (sym c.index_mut.ensures.value)) in
    let e = c.split-pass.ensures in (
      subst (λ ms. Splits c.args.numbers.now (c.loop-at.at + 1) c.args.firsts.now.items (slice_set c.loop-at.firsts.items c.loop-at.at c.split-pass.new.pass) ms) (sym c.push_reserved.ensures.items)
          (splits_more c.args.numbers.now c.args.firsts.now.items c.loop-at.at c.loop-at.firsts.items c.loop-at.passes.items pass c.split-pass.new.pass c.split-pass.result r there e.new (record { same = e.same; left = e.left })),
      c.push_reserved.ensures.capacity ∙ c.loop-at.invariant.1,
    )

pub returns : goal.returns
returns g c =
    let out = c.loop-at-test.false in
    let many = c.requires.may.fits.many in
    splits_done c.args.numbers.now c.args.firsts.now.items c.loop-at.at c.loop-at.firsts.items c.loop-at.passes.items (omega (arith, out, many)) c.loop-at.invariant.0
