use Rattle.std.proofs.Common.{◌∙◌, ℕ, Bool, Some, inl, inr, ap, refl, subst, sym}
use Rattle.draid_pool.specs.Drifts.{groups_number, passes_number}
use Rattle.draid_visits.specs.Visits.{MayVisit, MendsBy}
use Rattle.draid_visits.proofs.MendEnds.{mends_wait}
use Rattle.draid_works.specs.Mended.{SyncsWaiting}
use Rattle.draid_works.proofs.MendBegun.{begun_is, each_valid, left_begun, low_begun, may_mend, may_stay, may_visit}
use Rattle.draid_works.proofs.mending.mend_through.Goals as goal

pub begin_mend-requires : goal.begin_mend-requires
begin_mend-requires g c =
    let may = c.requires.may in
    record { fits = c.requires.fits; geometry_is = may.geometry_is; passes = c.requires.passes; valid = each_valid g.R.Rack g.A.Area c.args.geometry.now (g.M.Metaslabs.last c.args.metaslabs.now) c.args.uber.now may; beyond = may.beyond }

pub go_on-requires : goal.go_on-requires
go_on-requires g c =
    let m = g.M.Metaslabs in
    let owns = m.owns c.args.metaslabs.now in
    let e = c.begin_mend.ensures in
    let f = c.in-Ok.ensures in
    let it = c.in-Ok.begun in
    let last = m.last c.begin_mend.new.metaslabs in
    let begun = begun_is g.R.Rack g.A.Area m.last m.went m.shared owns c.args.geometry.now c.args.kind c.args.limit it c.args.metaslabs.now c.begin_mend.new.metaslabs f.begins in
    let may = may_stay g.R.Rack g.A.Area c.args.geometry.now owns c.requires.own (m.last c.args.metaslabs.now) last c.args.uber.now e.stay e.valid c.requires.may in
    record {
      fits = e.fits;
      own = ap (λ (o : ℕ → Bool). o groups_number) e.owns ∙ c.requires.own;
      passes = ap (λ (o : ℕ → Bool). o passes_number) e.owns ∙ c.requires.passes;
      may = subst (λ k. MayVisit g.R.Rack g.A.Area c.args.geometry.now k last c.args.uber.now) (sym begun.kind_is) (may_visit g.R.Rack g.A.Area c.args.geometry.now c.args.kind last c.args.uber.now may f.alone);
      long = f.long;
      low = low_begun c.args.kind c.args.limit it begun;
    }

pub unreachable-requires : goal.unreachable-requires
unreachable-requires g c =
    let m = g.M.Metaslabs in
    let owns = m.owns c.begin_mend.new.metaslabs in
    let count = c.args.geometry.now.props.metaslabs in
    mends_wait g.R.Rack g.A.Area m.last m.went m.shared owns (SyncsWaiting g.R.Rack g.A.Area m.last m.went m.shared owns count) (λ a b u v none. none) c.args.geometry.now c.in-Ok.begun c.go_on.new.mending c.begin_mend.new.metaslabs c.go_on.new.metaslabs c.args.uber.now c.go_on.new.uber c.in-None.ensures.mends

pub returns-in-Some : goal.returns-in-Some
returns-in-Some g c =
    let m = g.M.Metaslabs in
    let owns = m.owns c.args.metaslabs.now in
    let e = c.begin_mend.ensures in
    let f = c.in-Ok.ensures in
    let d = c.in-Some.ensures in
    let it = c.in-Ok.begun in
    let mid = c.begin_mend.new.metaslabs in
    let new = c.go_on.new.metaslabs in
    let begun = begun_is g.R.Rack g.A.Area m.last m.went m.shared owns c.args.geometry.now c.args.kind c.args.limit it c.args.metaslabs.now mid f.begins in
    record {
      fits = d.fits;
      locks = d.locks ∙ e.locks;
      owns = d.owns ∙ e.owns;
      may = may_mend g.R.Rack g.A.Area c.args.geometry.now it.kind (m.last new) c.go_on.new.uber d.may;
      within = d.within c.args.limit (left_begun c.args.kind c.args.limit it begun);
      mends = inl (
        it,
        mid,
        c.go_on.new.mending,
        f.begins,
        subst (λ o. MendsBy g.R.Rack g.A.Area m.last m.went m.shared o (SyncsWaiting g.R.Rack g.A.Area m.last m.went m.shared o c.args.geometry.now.props.metaslabs) c.args.geometry.now mid c.args.uber.now it (Some c.in-Some.answer) new c.go_on.new.uber c.go_on.new.mending) e.owns d.mends,
      );
    }

pub returns-in-Err : goal.returns-in-Err
returns-in-Err g c =
    let m = g.M.Metaslabs in
    let e = c.begin_mend.ensures in
    record {
      fits = e.fits;
      locks = e.locks;
      owns = e.owns;
      may = may_stay g.R.Rack g.A.Area c.args.geometry.now (m.owns c.args.metaslabs.now) c.requires.own (m.last c.args.metaslabs.now) (m.last c.begin_mend.new.metaslabs) c.args.uber.now e.stay e.valid c.requires.may;
      within = tt;
      mends = inr (c.in-Err.fault, refl, c.in-Err.ensures.begins, refl);
    }
