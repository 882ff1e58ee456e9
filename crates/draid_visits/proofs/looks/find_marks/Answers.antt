use Rattle.std.proofs.Common.{◌<◌, ◌+◌, ◌∙◌, Bool, List, true, false, arith, refl, slice_set, subst, sym}
use Rattle.draid_pool.specs.Rounds.{HeldOnce}
use Rattle.draid_pool.proofs.HeldBy.{stay_same, stay_then}
use Rattle.draid_pool.proofs.LookKeeps.{same_keeps}
use Rattle.draid_pool.proofs.RoundSteps.{held_by, round_all}
use Rattle.draid_visits.specs.Looks.{SeesRebuilt}
use Rattle.draid_visits.proofs.LookHolds.{MarksAt, look_each, look_stays, look_whole, marks_else, marks_none, marks_then, sees_all}
use Rattle.draid_visits.proofs.looks.find_marks.Goals.{else-op, then-op}
use Rattle.draid_visits.proofs.looks.find_marks.Goals as goal

pub loop-metaslab-init : goal.loop-metaslab-init
loop-metaslab-init g c = record {
  fits = c.requires.fits;
  locks = refl;
  owns = refl;
  valid = c.requires.valid;
  stay = stay_same (g.M.Metaslabs.owns c.args.metaslabs.now) (g.M.Metaslabs.last c.args.metaslabs.now);
  whole = λ table seq floor whole. whole;
  found = marks_none g.R.Rack g.A.Area g.M.Metaslabs.last g.M.Metaslabs.went g.M.Metaslabs.shared (g.M.Metaslabs.owns c.args.metaslabs.now) c.args.metaslabs.now;
}

pub hold-op-requires-clause-may : goal.hold-op-requires-clause-may
hold-op-requires-clause-may g c =
    let z = c.loop-metaslab.invariant.valid c.loop-metaslab.metaslab c.loop-metaslab-test.true in
    record { shard = z.0; there = z.1; valid = z.2; ready = λ x d. d.valid; keeps = λ x y after valid saw. same_keeps g.R.Rack g.A.Area x y valid saw.same; own = λ n is. absurd (cc) }

pub loop-metaslab-preserved : goal.loop-metaslab-preserved
loop-metaslab-preserved g c =
    let l = c.loop-metaslab in
    let i = l.invariant in
    let h = c.hold-op.ensures.held in
    let m = g.M.Metaslabs in
    let owns = m.owns c.args.metaslabs.now in
    let first = m.last c.args.metaslabs.now in
    let last = m.last l.metaslabs in
    let new = m.last c.hold-op.new.self in
    let k = l.metaslab in
    let mark = c.hold-op.result.out in
    let once : HeldOnce g.R.Rack g.A.Area m.last m.went m.shared owns (SeesRebuilt g.R.Rack g.A.Area mark) l.metaslabs k c.hold-op.new.self
    = held_by g.R.Rack g.A.Area m.last m.went m.shared (m.owns l.metaslabs) owns i.owns (SeesRebuilt g.R.Rack g.A.Area mark) l.metaslabs k c.hold-op.new.self h.shard h.before h.after h.there h.drifts h.is h.went h.related in
    let few = c.requires.few in
    let below = c.loop-metaslab-test.true in
    let inside : k < 64 = omega (arith, few, below) in
    record {
      fits = c.hold-op.ensures.fits;
      locks = c.hold-op.ensures.locks ∙ i.locks;
      owns = c.hold-op.ensures.owns ∙ i.owns;
      valid = look_each g.R.Rack g.A.Area m.last m.went m.shared owns (SeesRebuilt g.R.Rack g.A.Area mark) l.metaslabs k c.hold-op.new.self once (λ x y saw. saw.same) c.args.count i.valid;
      stay = stay_then owns first last new i.stay (look_stays g.R.Rack g.A.Area m.last m.went m.shared owns (SeesRebuilt g.R.Rack g.A.Area mark) l.metaslabs k c.hold-op.new.self once (λ x y saw. saw.same));
      whole = λ table seq floor whole. look_whole g.R.Rack g.A.Area m.last m.went m.shared owns (SeesRebuilt g.R.Rack g.A.Area mark) l.metaslabs k c.hold-op.new.self once (λ x y saw. saw.same) table seq floor (i.whole table seq floor whole);
      found = elim c.if-op.branch [
        | then-op w ↦
            subst (λ (marks : List Bool). MarksAt g.R.Rack g.A.Area m.last m.went m.shared owns c.args.metaslabs.now marks c.if-op.some (k + 1) c.hold-op.new.self) (sym w.marks-is)
            (subst (λ (some : Bool). MarksAt g.R.Rack g.A.Area m.last m.went m.shared owns c.args.metaslabs.now (slice_set l.marks k true) some (k + 1) c.hold-op.new.self) (sym w.some-is)
            (marks_then g.R.Rack g.A.Area m.last m.went m.shared owns c.args.metaslabs.now l.marks l.some k l.metaslabs c.hold-op.new.self inside i.found
            (subst (λ (b : Bool). HeldOnce g.R.Rack g.A.Area m.last m.went m.shared owns (SeesRebuilt g.R.Rack g.A.Area b) l.metaslabs k c.hold-op.new.self) w.if-op.true once)))
        | else-op w ↦
            subst (λ (marks : List Bool). MarksAt g.R.Rack g.A.Area m.last m.went m.shared owns c.args.metaslabs.now marks c.if-op.some (k + 1) c.hold-op.new.self) (sym w.marks-is)
            (subst (λ (some : Bool). MarksAt g.R.Rack g.A.Area m.last m.went m.shared owns c.args.metaslabs.now l.marks some (k + 1) c.hold-op.new.self) (sym w.some-is)
            (marks_else g.R.Rack g.A.Area m.last m.went m.shared owns c.args.metaslabs.now l.marks l.some k l.metaslabs c.hold-op.new.self i.found
            (subst (λ (b : Bool). HeldOnce g.R.Rack g.A.Area m.last m.went m.shared owns (SeesRebuilt g.R.Rack g.A.Area b) l.metaslabs k c.hold-op.new.self) w.if-op.false once)))
      ];
    }

pub returns-then-some : goal.returns-then-some
returns-then-some g c =
    let l = c.loop-metaslab in
    let i = l.invariant in
    let end = c.loop-metaslab-test.false in
    let low = l.auto.metaslab-end in
    let one = i.found.one c.if-some.true in
    let under = one.1 in
    record {
      fits = i.fits;
      locks = i.locks;
      owns = i.owns;
      valid = i.valid;
      stay = i.stay;
      whole = i.whole;
      long = i.found.long;
      some = (one.0, omega (arith, under, low), one.2);
      finds = sees_all g.R.Rack g.A.Area g.M.Metaslabs.last g.M.Metaslabs.went g.M.Metaslabs.shared (g.M.Metaslabs.owns c.args.metaslabs.now) l.marks l.metaslab c.args.count c.args.metaslabs.now l.metaslabs (omega (arith, low)) (omega (arith, end)) i.found.sees;
    }

pub returns-else-some : goal.returns-else-some
returns-else-some g c =
    let l = c.loop-metaslab in
    let i = l.invariant in
    let end = c.loop-metaslab-test.false in
    let low = l.auto.metaslab-end in
    record {
      fits = i.fits;
      locks = i.locks;
      owns = i.owns;
      valid = i.valid;
      stay = i.stay;
      whole = i.whole;
      long = tt;
      some = tt;
      finds = round_all g.R.Rack g.A.Area g.M.Metaslabs.last g.M.Metaslabs.went g.M.Metaslabs.shared (g.M.Metaslabs.owns c.args.metaslabs.now) (λ none x y. SeesRebuilt g.R.Rack g.A.Area false x y) l.metaslab c.args.count 0 c.args.metaslabs.now l.metaslabs (omega (arith, low)) (omega (arith, end)) (i.found.none c.if-some.false);
    }
