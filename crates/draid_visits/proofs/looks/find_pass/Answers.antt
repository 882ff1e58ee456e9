use Rattle.std.proofs.Common.{◌∙◌, None, Some, arith, refl, subst}
use Rattle.draid_pool.specs.Rounds.{HeldOnce}
use Rattle.draid_pool.proofs.HeldBy.{stay_same, stay_then}
use Rattle.draid_pool.proofs.LookKeeps.{same_keeps}
use Rattle.draid_pool.proofs.RoundSteps.{held_by, round_all, round_more}
use Rattle.draid_visits.specs.Looks.{SeesPass}
use Rattle.draid_visits.proofs.LookHolds.{look_each, look_stays, look_whole}
use Rattle.draid_visits.proofs.looks.find_pass.Goals as goal

pub loop-metaslab-init : goal.loop-metaslab-init
loop-metaslab-init g c = record {
  fits = c.requires.fits;
  locks = refl;
  owns = refl;
  valid = c.requires.valid;
  stay = stay_same (g.M.Metaslabs.owns c.args.metaslabs.now) (g.M.Metaslabs.last c.args.metaslabs.now);
  whole = λ table seq floor whole. whole;
  each = (refl, refl);
}

pub hold-op-requires-clause-may : goal.hold-op-requires-clause-may
hold-op-requires-clause-may g c =
    let z = c.loop-metaslab.invariant.valid c.loop-metaslab.metaslab c.loop-metaslab-test.true in
    record { shard = z.0; there = z.1; valid = z.2; ready = λ x d. d.valid; keeps = λ x y after valid saw. same_keeps g.R.Rack g.A.Area x y valid saw.same; own = λ n is. absurd (cc) }

pub loop-metaslab-preserved : goal.loop-metaslab-preserved
loop-metaslab-preserved g c =
    let l = c.loop-metaslab in
    let i = l.invariant in
    let h = c.hold-op.ensures.held in
    let m = g.M.Metaslabs in
    let owns = m.owns c.args.metaslabs.now in
    let first = m.last c.args.metaslabs.now in
    let last = m.last l.metaslabs in
    let new = m.last c.hold-op.new.self in
    let did : SeesPass c.args.kind None h.before h.after = subst (λ out. SeesPass c.args.kind out h.before h.after) c.in_default.is h.related in
    let once : HeldOnce g.R.Rack g.A.Area m.last m.went m.shared owns (λ x y. SeesPass c.args.kind None x y) l.metaslabs l.metaslab c.hold-op.new.self
    = held_by g.R.Rack g.A.Area m.last m.went m.shared (m.owns l.metaslabs) owns i.owns (λ x y. SeesPass c.args.kind None x y) l.metaslabs l.metaslab c.hold-op.new.self h.shard h.before h.after h.there h.drifts h.is h.went did in
    record {
      fits = c.hold-op.ensures.fits;
      locks = c.hold-op.ensures.locks ∙ i.locks;
      owns = c.hold-op.ensures.owns ∙ i.owns;
      valid = look_each g.R.Rack g.A.Area m.last m.went m.shared owns (λ x y. SeesPass c.args.kind None x y) l.metaslabs l.metaslab c.hold-op.new.self once (λ x y saw. saw.same) c.args.count i.valid;
      stay = stay_then owns first last new i.stay (look_stays g.R.Rack g.A.Area m.last m.went m.shared owns (λ x y. SeesPass c.args.kind None x y) l.metaslabs l.metaslab c.hold-op.new.self once (λ x y saw. saw.same));
      whole = λ table seq floor whole. look_whole g.R.Rack g.A.Area m.last m.went m.shared owns (λ x y. SeesPass c.args.kind None x y) l.metaslabs l.metaslab c.hold-op.new.self once (λ x y saw. saw.same) table seq floor (i.whole table seq floor whole);
      each = round_more g.R.Rack g.A.Area m.last m.went m.shared owns (λ none x y. SeesPass c.args.kind None x y) l.metaslab 0 0 c.args.metaslabs.now l.metaslabs c.hold-op.new.self i.each once;
    }

pub returns-in-Some : goal.returns-in-Some
returns-in-Some g c =
    let l = c.loop-metaslab in
    let i = l.invariant in
    let h = c.hold-op.ensures.held in
    let m = g.M.Metaslabs in
    let owns = m.owns c.args.metaslabs.now in
    let first = m.last c.args.metaslabs.now in
    let last = m.last l.metaslabs in
    let new = m.last c.hold-op.new.self in
    let did : SeesPass c.args.kind (Some c.in-Some.number) h.before h.after = subst (λ out. SeesPass c.args.kind out h.before h.after) c.in-Some.is h.related in
    let once : HeldOnce g.R.Rack g.A.Area m.last m.went m.shared owns (λ x y. SeesPass c.args.kind (Some c.in-Some.number) x y) l.metaslabs l.metaslab c.hold-op.new.self
    = held_by g.R.Rack g.A.Area m.last m.went m.shared (m.owns l.metaslabs) owns i.owns (λ x y. SeesPass c.args.kind (Some c.in-Some.number) x y) l.metaslabs l.metaslab c.hold-op.new.self h.shard h.before h.after h.there h.drifts h.is h.went did in
    record {
      fits = c.hold-op.ensures.fits;
      locks = c.hold-op.ensures.locks ∙ i.locks;
      owns = c.hold-op.ensures.owns ∙ i.owns;
      valid = look_each g.R.Rack g.A.Area m.last m.went m.shared owns (λ x y. SeesPass c.args.kind (Some c.in-Some.number) x y) l.metaslabs l.metaslab c.hold-op.new.self once (λ x y saw. saw.same) c.args.count i.valid;
      stay = stay_then owns first last new i.stay (look_stays g.R.Rack g.A.Area m.last m.went m.shared owns (λ x y. SeesPass c.args.kind (Some c.in-Some.number) x y) l.metaslabs l.metaslab c.hold-op.new.self once (λ x y saw. saw.same));
      whole = λ table seq floor whole. look_whole g.R.Rack g.A.Area m.last m.went m.shared owns (λ x y. SeesPass c.args.kind (Some c.in-Some.number) x y) l.metaslabs l.metaslab c.hold-op.new.self once (λ x y saw. saw.same) table seq floor (i.whole table seq floor whole);
      finds = (record { place = l.metaslab; below = c.loop-metaslab-test.true; sum = 0; mid = l.metaslabs; front = i.each; stop = once }, refl);
    }

pub returns : goal.returns
returns g c =
    let l = c.loop-metaslab in
    let i = l.invariant in
    let end = c.loop-metaslab-test.false in
    let low = l.auto.metaslab-end in
    record {
      fits = i.fits;
      locks = i.locks;
      owns = i.owns;
      valid = i.valid;
      stay = i.stay;
      whole = i.whole;
      finds = round_all g.R.Rack g.A.Area g.M.Metaslabs.last g.M.Metaslabs.went g.M.Metaslabs.shared (g.M.Metaslabs.owns c.args.metaslabs.now) (λ none x y. SeesPass c.args.kind None x y) l.metaslab c.args.count 0 c.args.metaslabs.now l.metaslabs (omega (arith, low)) (omega (arith, end)) i.each;
    }
