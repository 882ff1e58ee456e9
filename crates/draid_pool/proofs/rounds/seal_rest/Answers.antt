use Rattle.std.proofs.Common.{◌≡◌, ◌==◌, ◌<◌, ◌+◌, ◌∙◌, ℕ, Some, Ok, Err, arith, refl, ap, subst, sym, if◌then◌else◌}
use Rattle.draid_pool.specs.Drifts.{groups_number}
use Rattle.draid_pool.specs.Grouping.{CommitsNext, SealsBy, SealsNext, WaitsForWrites}
use Rattle.draid_pool.specs.Rounds.{EachIs, HeldOnce}
use Rattle.draid_pool.proofs.GoneOn.{seals_more, seals_none, stands_more, stands_still}
use Rattle.draid_pool.proofs.GroupKeeps.{seal_keeps, seal_ready}
use Rattle.draid_pool.proofs.Holding.{some_same}
use Rattle.draid_pool.proofs.RoundSteps.{concerns_own, each_all, held_by, may_not, may_some}
use Rattle.draid_pool.proofs.rounds.seal_rest.Goals as goal

pub loop-metaslab-init : goal.loop-metaslab-init
loop-metaslab-init g c = record { fits = c.requires.fits; locks = refl; owns = refl; next = refl; stands = c.requires.stands; from = seals_none g.R.Rack g.A.Area g.M.Metaslabs.last g.M.Metaslabs.went g.M.Metaslabs.shared (g.M.Metaslabs.owns c.args.metaslabs.now) c.args.metaslabs.now c.args.syncing.now }

pub hold-op-requires-clause-may : goal.hold-op-requires-clause-may
hold-op-requires-clause-may g c =
    let i = c.loop-metaslab.invariant in
    let z = i.stands.closing c.loop-metaslab.metaslab c.loop-metaslab-test.true in
    let next = subst (λ group. SealsNext g.R.Rack group z.0) i.from.group z.2 in
    let own = ap (λ owns. owns groups_number) i.owns ∙ c.requires.own in
    record {
      shard = z.0;
      there = z.1;
      valid = z.2.valid;
      ready = λ x d. seal_ready g.R.Rack g.A.Area g.M.Metaslabs.shared (g.M.Metaslabs.owns c.loop-metaslab.metaslabs) own c.args.syncing.now.group z.0 x d next;
      keeps = λ x y after next did. seal_keeps g.R.Rack g.A.Area x y c.args.syncing.now.group after.out next did;
      own = λ n is. concerns_own (g.M.Metaslabs.owns c.loop-metaslab.metaslabs) groups_number n own is;
    }

pub overflow_add-syncing : goal.overflow_add-syncing
overflow_add-syncing g c =
    let l = c.loop-metaslab in
    let i = l.invariant in
    let h = c.hold-op.ensures.held in
    let came = may_some (WaitsForWrites c.args.syncing.now.group h.before h.after) (λ result. SealsBy g.R.Rack g.A.Area c.args.syncing.now.group h.before result h.after) c.hold-op.result.out c.in-Some.sealed h.related c.in-Some.is in
    let did : SealsBy g.R.Rack g.A.Area c.args.syncing.now.group h.before (Ok c.in-Ok.more) h.after = subst (λ result. SealsBy g.R.Rack g.A.Area c.args.syncing.now.group h.before result h.after) c.in-Ok.is came in
    let low = i.stands.thin in
    let own = did.low in
    let few = c.requires.few in
    let place = i.next in
    let below = c.loop-metaslab-test.true in
    omega (arith, low, own, few, below, place)

pub loop-metaslab-preserved : goal.loop-metaslab-preserved
loop-metaslab-preserved g c =
    let l = c.loop-metaslab in
    let i = l.invariant in
    let h = c.hold-op.ensures.held in
    let came = may_some (WaitsForWrites c.args.syncing.now.group h.before h.after) (λ result. SealsBy g.R.Rack g.A.Area c.args.syncing.now.group h.before result h.after) c.hold-op.result.out c.in-Some.sealed h.related c.in-Some.is in
    let did : SealsBy g.R.Rack g.A.Area c.args.syncing.now.group h.before (Ok c.in-Ok.more) h.after = subst (λ result. SealsBy g.R.Rack g.A.Area c.args.syncing.now.group h.before result h.after) c.in-Ok.is came in
    let once = held_by g.R.Rack g.A.Area g.M.Metaslabs.last g.M.Metaslabs.went g.M.Metaslabs.shared (g.M.Metaslabs.owns l.metaslabs) (g.M.Metaslabs.owns c.args.metaslabs.now) i.owns (λ x y. SealsBy g.R.Rack g.A.Area c.args.syncing.now.group x (Ok c.in-Ok.more) y) l.metaslabs l.metaslab c.hold-op.new.self h.shard h.before h.after h.there h.drifts h.is h.went did in
    let here = sym i.next in
    let new = record l.syncing { next = l.metaslab + 1; thin = l.syncing.thin + c.in-Ok.more } in
    let below = subst (λ m. m < c.args.count) here c.loop-metaslab-test.true in
    record {
      fits = c.hold-op.ensures.fits;
      locks = c.hold-op.ensures.locks ∙ i.locks;
      owns = c.hold-op.ensures.owns ∙ i.owns;
      next = refl;
      stands = stands_more g.R.Rack g.A.Area c.args.count l.syncing new (g.M.Metaslabs.last l.metaslabs) (g.M.Metaslabs.last c.hold-op.new.self) h.before h.after c.in-Ok.more i.stands below refl (ap (λ n. n + 1) here) refl
          (subst (λ m. (k : ℕ) → g.M.Metaslabs.last c.hold-op.new.self k ≡ (if k == m then Some h.after else g.M.Metaslabs.last l.metaslabs k)) here h.is)
          (subst (λ group. SealsBy g.R.Rack g.A.Area group h.before (Ok c.in-Ok.more) h.after) (sym i.from.group) did);
      from = seals_more g.R.Rack g.A.Area g.M.Metaslabs.last g.M.Metaslabs.went g.M.Metaslabs.shared (g.M.Metaslabs.owns c.args.metaslabs.now) c.args.metaslabs.now l.metaslabs c.hold-op.new.self c.args.syncing.now l.syncing new c.in-Ok.more i.from refl (ap (λ n. n + 1) here) refl
          (subst (λ m. HeldOnce g.R.Rack g.A.Area g.M.Metaslabs.last g.M.Metaslabs.went g.M.Metaslabs.shared (g.M.Metaslabs.owns c.args.metaslabs.now) (λ x y. SealsBy g.R.Rack g.A.Area c.args.syncing.now.group x (Ok c.in-Ok.more) y) l.metaslabs m c.hold-op.new.self) here once);
    }

pub returns-in-Err : goal.returns-in-Err
returns-in-Err g c =
    let l = c.loop-metaslab in
    let i = l.invariant in
    let h = c.hold-op.ensures.held in
    let came = may_some (WaitsForWrites c.args.syncing.now.group h.before h.after) (λ result. SealsBy g.R.Rack g.A.Area c.args.syncing.now.group h.before result h.after) c.hold-op.result.out c.in-Some.sealed h.related c.in-Some.is in
    let did : SealsBy g.R.Rack g.A.Area c.args.syncing.now.group h.before (Err c.in-Err.fault) h.after = subst (λ result. SealsBy g.R.Rack g.A.Area c.args.syncing.now.group h.before result h.after) c.in-Err.is came in
    let once = held_by g.R.Rack g.A.Area g.M.Metaslabs.last g.M.Metaslabs.went g.M.Metaslabs.shared (g.M.Metaslabs.owns l.metaslabs) (g.M.Metaslabs.owns c.args.metaslabs.now) i.owns (λ x y. SealsBy g.R.Rack g.A.Area c.args.syncing.now.group x (Err c.in-Err.fault) y) l.metaslabs l.metaslab c.hold-op.new.self h.shard h.before h.after h.there h.drifts h.is h.went did in
    record {
      fits = c.hold-op.ensures.fits;
      locks = c.hold-op.ensures.locks ∙ i.locks;
      owns = c.hold-op.ensures.owns ∙ i.owns;
      stands = λ none. absurd (cc none);
      next = tt;
      seals = record {
        mid = l.metaslabs;
        front = i.from;
        below = subst (λ m. m < c.args.count) (sym i.next) c.loop-metaslab-test.true;
        stop = subst (λ m. HeldOnce g.R.Rack g.A.Area g.M.Metaslabs.last g.M.Metaslabs.went g.M.Metaslabs.shared (g.M.Metaslabs.owns c.args.metaslabs.now) (λ x y. SealsBy g.R.Rack g.A.Area c.args.syncing.now.group x (Err c.in-Err.fault) y) l.metaslabs m c.hold-op.new.self) (sym i.next) once;
      };
    }

pub returns-in_default : goal.returns-in_default
returns-in_default g c =
    let l = c.loop-metaslab in
    let i = l.invariant in
    let h = c.hold-op.ensures.held in
    let did : WaitsForWrites c.args.syncing.now.group h.before h.after = may_not (WaitsForWrites c.args.syncing.now.group h.before h.after) (λ result. SealsBy g.R.Rack g.A.Area c.args.syncing.now.group h.before result h.after) c.hold-op.result.out h.related c.in_default.is in
    let once = held_by g.R.Rack g.A.Area g.M.Metaslabs.last g.M.Metaslabs.went g.M.Metaslabs.shared (g.M.Metaslabs.owns l.metaslabs) (g.M.Metaslabs.owns c.args.metaslabs.now) i.owns (λ x y. WaitsForWrites c.args.syncing.now.group x y) l.metaslabs l.metaslab c.hold-op.new.self h.shard h.before h.after h.there h.drifts h.is h.went did in
    let z = i.stands.closing l.metaslab c.loop-metaslab-test.true in
    let own = ap (λ owns. owns groups_number) i.owns ∙ c.requires.own in
    let shard_is : z.0 ≡ h.shard = some_same z.0 h.shard (sym z.1 ∙ h.there) in
    let found = seal_ready g.R.Rack g.A.Area g.M.Metaslabs.shared (g.M.Metaslabs.owns l.metaslabs) own l.syncing.group h.shard h.before h.drifts (subst (SealsNext g.R.Rack l.syncing.group) shard_is z.2) in
    record {
      fits = c.hold-op.ensures.fits;
      locks = c.hold-op.ensures.locks ∙ i.locks;
      owns = c.hold-op.ensures.owns ∙ i.owns;
      stands = λ none. stands_still g.R.Rack g.A.Area c.args.count l.syncing (g.M.Metaslabs.last l.metaslabs) (g.M.Metaslabs.last c.hold-op.new.self) l.metaslab h.after i.stands (sym i.next) h.is (subst (SealsNext g.R.Rack l.syncing.group) (sym did.same) found);
      next = tt;
      seals = record {
        mid = l.metaslabs;
        front = i.from;
        below = subst (λ m. m < c.args.count) (sym i.next) c.loop-metaslab-test.true;
        stop = subst (λ m. HeldOnce g.R.Rack g.A.Area g.M.Metaslabs.last g.M.Metaslabs.went g.M.Metaslabs.shared (g.M.Metaslabs.owns c.args.metaslabs.now) (λ x y. WaitsForWrites c.args.syncing.now.group x y) l.metaslabs m c.hold-op.new.self) (sym i.next) once;
      };
    }

pub returns : goal.returns
returns g c =
    let l = c.loop-metaslab in
    let i = l.invariant in
    let end = c.loop-metaslab-test.false in
    let low = i.stands.low in
    let place = i.next in
    record {
      fits = i.fits;
      locks = i.locks;
      owns = i.owns;
      stands = λ none. i.stands;
      next = subst (λ group. EachIs c.args.count (CommitsNext g.R.Rack group) (g.M.Metaslabs.last l.metaslabs)) i.from.group
          (each_all (CommitsNext g.R.Rack l.syncing.group) (g.M.Metaslabs.last l.metaslabs) l.syncing.next c.args.count (omega (arith, end, place)) i.stands.sealed);
      seals = (i.from, omega (arith, end, place, low));
    }
