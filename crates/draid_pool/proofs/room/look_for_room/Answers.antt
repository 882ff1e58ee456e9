use Rattle.std.proofs.Common.{◌≡◌, Ok, arith, refl, subst}
use Rattle.std.proofs.lemmas.Result.{err_from_is_err_and}
use Rattle.draid_pool.specs.Threads.{Knows, LeadsBy}
use Rattle.draid_pool.specs.Looking.{LooksDo}
use Rattle.draid_pool.proofs.LookKeeps.{did_see, look_keeps}
use Rattle.draid_pool.proofs.LookRooms.{looking_more, looking_none, starved, stay_on, still_on, whole_on}
use Rattle.draid_pool.proofs.room.look_for_room.Goals as goal

pub loop-metaslab-init : goal.loop-metaslab-init
loop-metaslab-init g c =
    looking_none g.R.Rack g.A.Area g.M.Metaslabs.went g.M.Metaslabs.shared (g.M.Metaslabs.locks c.args.metaslabs.now) (g.M.Metaslabs.owns c.args.metaslabs.now) (g.M.Metaslabs.fits c.args.metaslabs.now) (g.M.Metaslabs.last c.args.metaslabs.now) c.args.metaslabs.now c.args.count c.args.need (record { rooms = c.new.result; disabled = 0; full = 0; worn = 0 })
    c.new.ensures.items refl refl refl c.requires.fits c.requires.many

pub hold-op-requires-clause-may : goal.hold-op-requires-clause-may
hold-op-requires-clause-may g c =
    let z = c.loop-metaslab.invariant.valid c.loop-metaslab.metaslab c.loop-metaslab-test.true in
    record {
      shard = z.0;
      there = z.1;
      valid = z.2;
      ready = λ x d. d.valid;
      keeps = λ x y after valid saw. look_keeps g.R.Rack g.A.Area x y c.args.need after.out valid saw;
      own = λ n is. absurd (cc);
    }

pub loop-metaslab-preserved : goal.loop-metaslab-preserved
loop-metaslab-preserved g c =
    let h = c.hold-op.ensures.held in
    looking_more g.R.Rack g.A.Area g.M.Metaslabs.went g.M.Metaslabs.shared (g.M.Metaslabs.locks c.loop-metaslab.metaslabs) (g.M.Metaslabs.locks c.args.metaslabs.now) (g.M.Metaslabs.locks c.hold-op.new.self) (g.M.Metaslabs.owns c.args.metaslabs.now) (g.M.Metaslabs.owns c.loop-metaslab.metaslabs) (g.M.Metaslabs.owns c.hold-op.new.self) (g.M.Metaslabs.fits c.loop-metaslab.metaslabs) (g.M.Metaslabs.fits c.hold-op.new.self) (g.M.Metaslabs.last c.args.metaslabs.now) (g.M.Metaslabs.last c.loop-metaslab.metaslabs) (g.M.Metaslabs.last c.hold-op.new.self) c.args.metaslabs.now c.loop-metaslab.metaslabs c.hold-op.new.self
    c.args.count c.args.need c.loop-metaslab.metaslab c.loop-metaslab.rooms c.add.new.self c.loop-metaslab.invariant c.hold-op.ensures.fits c.hold-op.ensures.locks c.hold-op.ensures.owns
    h.shard h.before h.after h.there h.drifts h.keeps.valid h.is h.went c.in-Some.seen (did_see h.before h.after c.args.need c.hold-op.result.out c.in-Some.seen h.related c.in-Some.is) c.in_ok-add.ensures

-- ---- no memory

pub returns-in_err-add-clause-stay : goal.returns-in_err-add-clause-stay
returns-in_err-add-clause-stay g c =
    let h = c.hold-op.ensures.held in
    stay_on g.R.Rack g.A.Area g.M.Metaslabs.went g.M.Metaslabs.shared (g.M.Metaslabs.locks c.loop-metaslab.metaslabs) (g.M.Metaslabs.locks c.args.metaslabs.now) (g.M.Metaslabs.locks c.hold-op.new.self) (g.M.Metaslabs.owns c.args.metaslabs.now) (g.M.Metaslabs.owns c.loop-metaslab.metaslabs) (g.M.Metaslabs.owns c.hold-op.new.self) (g.M.Metaslabs.fits c.loop-metaslab.metaslabs) (g.M.Metaslabs.fits c.hold-op.new.self) (g.M.Metaslabs.last c.args.metaslabs.now) (g.M.Metaslabs.last c.loop-metaslab.metaslabs) (g.M.Metaslabs.last c.hold-op.new.self) c.args.metaslabs.now c.loop-metaslab.metaslabs c.hold-op.new.self
    c.args.count c.args.need c.loop-metaslab.metaslab c.loop-metaslab.rooms c.loop-metaslab.rooms c.loop-metaslab.invariant c.hold-op.ensures.fits c.hold-op.ensures.locks c.hold-op.ensures.owns
    h.shard h.before h.after h.there h.drifts h.keeps.valid h.is h.went c.in-Some.seen (did_see h.before h.after c.args.need c.hold-op.result.out c.in-Some.seen h.related c.in-Some.is)

pub returns-in_err-add-clause-whole : goal.returns-in_err-add-clause-whole
returns-in_err-add-clause-whole g c =
    let h = c.hold-op.ensures.held in
    whole_on g.R.Rack g.A.Area g.M.Metaslabs.went g.M.Metaslabs.shared (g.M.Metaslabs.locks c.loop-metaslab.metaslabs) (g.M.Metaslabs.locks c.args.metaslabs.now) (g.M.Metaslabs.locks c.hold-op.new.self) (g.M.Metaslabs.owns c.args.metaslabs.now) (g.M.Metaslabs.owns c.loop-metaslab.metaslabs) (g.M.Metaslabs.owns c.hold-op.new.self) (g.M.Metaslabs.fits c.loop-metaslab.metaslabs) (g.M.Metaslabs.fits c.hold-op.new.self) (g.M.Metaslabs.last c.args.metaslabs.now) (g.M.Metaslabs.last c.loop-metaslab.metaslabs) (g.M.Metaslabs.last c.hold-op.new.self) c.args.metaslabs.now c.loop-metaslab.metaslabs c.hold-op.new.self
    c.args.count c.args.need c.loop-metaslab.metaslab c.loop-metaslab.rooms c.loop-metaslab.rooms c.loop-metaslab.invariant c.hold-op.ensures.fits c.hold-op.ensures.locks c.hold-op.ensures.owns
    h.shard h.before h.after h.there h.drifts h.keeps.valid h.is h.went c.in-Some.seen (did_see h.before h.after c.args.need c.hold-op.result.out c.in-Some.seen h.related c.in-Some.is)

pub returns-in_err-add-clause-still : goal.returns-in_err-add-clause-still
returns-in_err-add-clause-still g c =
    let h = c.hold-op.ensures.held in
    still_on g.R.Rack g.A.Area g.M.Metaslabs.went g.M.Metaslabs.shared (g.M.Metaslabs.locks c.loop-metaslab.metaslabs) (g.M.Metaslabs.locks c.args.metaslabs.now) (g.M.Metaslabs.locks c.hold-op.new.self) (g.M.Metaslabs.owns c.args.metaslabs.now) (g.M.Metaslabs.owns c.loop-metaslab.metaslabs) (g.M.Metaslabs.owns c.hold-op.new.self) (g.M.Metaslabs.fits c.loop-metaslab.metaslabs) (g.M.Metaslabs.fits c.hold-op.new.self) (g.M.Metaslabs.last c.args.metaslabs.now) (g.M.Metaslabs.last c.loop-metaslab.metaslabs) (g.M.Metaslabs.last c.hold-op.new.self) c.args.metaslabs.now c.loop-metaslab.metaslabs c.hold-op.new.self
    c.args.count c.args.need c.loop-metaslab.metaslab c.loop-metaslab.rooms c.loop-metaslab.rooms c.loop-metaslab.invariant c.hold-op.ensures.fits c.hold-op.ensures.locks c.hold-op.ensures.owns
    h.shard h.before h.after h.there h.drifts h.keeps.valid h.is h.went c.in-Some.seen (did_see h.before h.after c.args.need c.hold-op.result.out c.in-Some.seen h.related c.in-Some.is)

pub returns-in_err-add-clause-step : goal.returns-in_err-add-clause-step
returns-in_err-add-clause-step g c table seq floor x known =
    let h = c.hold-op.ensures.held in
    let p = err_from_is_err_and c.from_residual.result c.from_residual.ensures.1 in
    rw (p.1, p.2) (starved g.R.Rack g.A.Area g.M.Metaslabs.went g.M.Metaslabs.shared (g.M.Metaslabs.locks c.loop-metaslab.metaslabs) (g.M.Metaslabs.locks c.args.metaslabs.now) (g.M.Metaslabs.locks c.hold-op.new.self) (g.M.Metaslabs.owns c.args.metaslabs.now) (g.M.Metaslabs.owns c.loop-metaslab.metaslabs) (g.M.Metaslabs.owns c.hold-op.new.self) (g.M.Metaslabs.fits c.loop-metaslab.metaslabs) (g.M.Metaslabs.fits c.hold-op.new.self) (g.M.Metaslabs.last c.args.metaslabs.now) (g.M.Metaslabs.last c.loop-metaslab.metaslabs) (g.M.Metaslabs.last c.hold-op.new.self) c.args.metaslabs.now c.loop-metaslab.metaslabs c.hold-op.new.self
    c.args.count c.args.need c.loop-metaslab.metaslab c.loop-metaslab.rooms c.loop-metaslab.rooms c.loop-metaslab.invariant c.hold-op.ensures.fits c.hold-op.ensures.locks c.hold-op.ensures.owns
    h.shard h.before h.after h.there h.drifts h.keeps.valid h.is h.went c.in-Some.seen (did_see h.before h.after c.args.need c.hold-op.result.out c.in-Some.seen h.related c.in-Some.is) table seq floor x known)

pub returns-clause-step : goal.returns-clause-step
returns-clause-step g c table seq floor x known =
    let below = c.loop-metaslab.auto.metaslab-end in
    let done = c.loop-metaslab-test.false in
    let all : c.loop-metaslab.metaslab ≡ c.args.count = omega (arith, below, done) in
    subst (λ n. LeadsBy g.R.Rack g.A.Area g.M.Metaslabs.went g.M.Metaslabs.shared c.args.metaslabs.now c.loop-metaslab.metaslabs x (LooksDo x c.args.need n (Ok c.loop-metaslab.rooms))
    (Knows g.R.Rack g.A.Area (g.M.Metaslabs.owns c.args.metaslabs.now) (g.M.Metaslabs.last c.loop-metaslab.metaslabs) table seq floor)) all (c.loop-metaslab.invariant.step table seq floor x known)
