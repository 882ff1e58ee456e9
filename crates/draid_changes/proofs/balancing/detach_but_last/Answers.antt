use Rattle.std.proofs.Common.{◌∷◌, ◌∙◌, Err, arith, refl}
use Rattle.draid_pool.specs.Syncing.{end_of}
use Rattle.draid_pool.proofs.Rises.{areas_on, areas_still}
use Rattle.draid_pool.proofs.SyncSteps.{not_went}
use Rattle.draid_changes.proofs.Begun.{first_borrowed}
use Rattle.draid_changes.proofs.OthersGo.{counted, last_left, some_go, undone_all, undone_more, undone_none, undone_stops}
use Rattle.draid_changes.proofs.balancing.detach_but_last.Goals as goal

pub arms-gone-end-requires : goal.arms-gone-end-requires
arms-gone-end-requires g c =
    let first = c.index.result.now in
    (c.requires.go.3 0 first (first_borrowed g.R.Rack g.A.Area c.args.pool.now first c.requires.whole c.index.ensures)).low

pub loop-gone-init : goal.loop-gone-init
loop-gone-init g c =
    record {
      whole = c.requires.whole;
      idle = c.requires.idle;
      passes = c.requires.passes;
      objects = refl;
      later = areas_still g.A.Area.faults c.args.pool.now;
      undone = λ others last may. undone_none g.R.Rack g.A.Area c.args.slot others last c.args.pool.now may;
    }

pub detach_first-requires : goal.detach_first-requires
detach_first-requires g c =
    let l = c.loop-gone in
    let i = l.invariant in
    let old = c.args.pool.now in
    let first = c.index.result.now in
    let start = first_borrowed g.R.Rack g.A.Area old first c.requires.whole c.index.ensures in
    let go = c.requires.go in
    let below = c.loop-gone-test.true in
    let many = counted g.R.Rack g.A.Area c.args.slot (go.0 ∷ go.1) go.2 old first c.arms-gone-end.result.now start go.3 c.arms-gone-end.ensures.arms in
    record {
      whole = i.whole;
      idle = i.idle;
      passes = i.passes;
      go = some_go g.R.Rack g.A.Area c.args.slot (go.0 ∷ go.1) go.2 old l.pool l.pool l._gone (i.undone (go.0 ∷ go.1) go.2 go.3) (omega (arith, below, many));
    }

pub returns-in-Err : goal.returns-in-Err
returns-in-Err g c =
    let l = c.loop-gone in
    let i = l.invariant in
    let old = c.args.pool.now in
    let first = c.index.result.now in
    let start = first_borrowed g.R.Rack g.A.Area old first c.requires.whole c.index.ensures in
    let e = c.in-Err.ensures in
    record {
      whole = e.whole;
      objects = e.objects ∙ i.objects;
      later = areas_on g.A.Area.faults old l.pool c.detach_first.new.pool i.later e.later;
      not_shelf = e.not_shelf;
      passes = e.passes;
      carries = λ x others last is may.
          (let below = c.loop-gone-test.true in
          let many = counted g.R.Rack g.A.Area c.args.slot others last old first c.arms-gone-end.result.now start may c.arms-gone-end.ensures.arms in
          undone_stops g.R.Rack g.A.Area c.args.slot others last old l.pool c.detach_first.new.pool l._gone (i.undone others last may) (omega (arith, below, many)) (end_of {T = Unit} (Err c.in-Err.why)) (not_went Unit c.in-Err.why)
          e.carries x is);
      alone = tt;
    }

pub loop-gone-preserved : goal.loop-gone-preserved
loop-gone-preserved g c =
    let l = c.loop-gone in
    let i = l.invariant in
    let old = c.args.pool.now in
    let first = c.index.result.now in
    let start = first_borrowed g.R.Rack g.A.Area old first c.requires.whole c.index.ensures in
    let e = c.in_default.ensures in
    record {
      whole = e.whole;
      idle = e.idle;
      passes = e.passes;
      objects = e.objects ∙ i.objects;
      later = areas_on g.A.Area.faults old l.pool c.detach_first.new.pool i.later e.later;
      undone = λ others last may.
          (let below = c.loop-gone-test.true in
          let many = counted g.R.Rack g.A.Area c.args.slot others last old first c.arms-gone-end.result.now start may c.arms-gone-end.ensures.arms in
          undone_more g.R.Rack g.A.Area c.args.slot others last old l.pool c.detach_first.new.pool l._gone (i.undone others last may) (omega (arith, below, many)) e.carries e.gone);
    }

pub returns : goal.returns
returns g c =
    let l = c.loop-gone in
    let i = l.invariant in
    let old = c.args.pool.now in
    let first = c.index.result.now in
    let start = first_borrowed g.R.Rack g.A.Area old first c.requires.whole c.index.ensures in
    let past = c.loop-gone-test.false in
    let upto = l.auto._gone-end in
    record {
      whole = i.whole;
      objects = i.objects;
      later = i.later;
      not_shelf = λ is. absurd (cc is);
      passes = i.passes;
      carries = λ x others last is may.
          (let many = counted g.R.Rack g.A.Area c.args.slot others last old first c.arms-gone-end.result.now start may c.arms-gone-end.ensures.arms in
          undone_all g.R.Rack g.A.Area c.args.slot others last old l.pool l.pool l._gone (i.undone others last may) (omega (arith, past, upto, many)) x is);
      alone = λ others last may.
          (let many = counted g.R.Rack g.A.Area c.args.slot others last old first c.arms-gone-end.result.now start may c.arms-gone-end.ensures.arms in
          last_left g.R.Rack g.A.Area c.args.slot others last old l.pool l.pool l._gone (i.undone others last may) (omega (arith, past, upto, many)));
    }
