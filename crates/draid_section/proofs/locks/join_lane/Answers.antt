use Rattle.std.proofs.Common.{◌∙◌, ap, rules, slice_set, subst, sym}
use Rattle.std.specs.Prelude.{slice_get}
use Rattle.draid_section.proofs.Unlocking.{Taking, taking_done, taking_more, taking_places, taking_start}
use Rattle.draid_section.proofs.locks.join_lane.Goals as goal

pub passes-init : goal.passes-init
passes-init g c = taking_start c.args.firsts.now.items c.args.passes.items

pub join-requires : goal.join-requires
join-requires g c =
    let old = c.args.firsts.now.items in
    let others = c.args.passes.items in
    let r = taking_places old others c.args.turns.now c.passes.passes.items c.pop.new.self.items c.passes.firsts.items c.in-Some.pass c.len-at.result c.index-turns-at.result c.index_mut.result.now c.requires.fits c.requires.fits_passes
    c.passes.invariant c.in-Some.ensures.items (c.len-at.ensures ∙ c.pop.new.self.ok.0) c.index-turns-at.is c.index_mut.ensures.value in
    record { own = (c.requires.fits.each c.len-at.result c.index-turns-at.result c.index_mut.result.now r.1 r.2, c.requires.fits_passes.each c.len-at.result c.index-turns-at.result c.in-Some.pass r.1 r.3) }

pub passes-preserved : goal.passes-preserved
passes-preserved g c =
    let old = c.args.firsts.now.items in
    let others = c.args.passes.items in
    let at_is = c.len-at.ensures ∙ c.pop.new.self.ok.0 in
    let r = taking_places old others c.args.turns.now c.passes.passes.items c.pop.new.self.items c.passes.firsts.items c.in-Some.pass c.len-at.result c.index-turns-at.result c.index_mut.result.now c.requires.fits c.requires.fits_passes
    c.passes.invariant c.in-Some.ensures.items at_is c.index-turns-at.is c.index_mut.ensures.value in
    let e = c.join.ensures in
    subst (λ k. Taking old others c.pop.new.self.items (slice_set c.passes.firsts.items k c.join.new.pass)) (sym at_is)
    (taking_more old others c.pop.new.self.items c.passes.firsts.items c.in-Some.pass r.0 c.index_mut.result.now c.join.new.pass (ap (slice_get old) (sym at_is) ∙ r.2) (record { table = e.own; begins = e.begins.0; begins_other = e.begins.1; own = e.made; numbers = e.numbers; follows = e.follows; follows_other = e.follows_other }))

pub returns : goal.returns
returns g c = taking_done c.args.firsts.now.items c.args.passes.items c.passes.passes.items c.passes.firsts.items (search rules) c.passes.invariant
