use Rattle.std.proofs.Common.{◌∙◌, ℕ, Bool, None, Some, Ok, Err, inl, ap, subst}
use Rattle.draid_pool.specs.Drifts.{groups_number}
use Rattle.draid_pool.specs.Grouping.{FinishesIn}
use Rattle.draid_changes.specs.Switching.{SwitchesAll}
use Rattle.draid_changes.proofs.ArmSteps.{finish_not_last, leaf_unfinished_in, switch_readies, switch_whole, switches_in}
use Rattle.draid_changes.proofs.SameArms.{alike_there, finish_there}
use Rattle.draid_changes.proofs.switching.switch_leaf.Goals as goal

pub finish_group-requires : goal.finish_group-requires
finish_group-requires g c = record { fits = c.requires.fits; some = c.requires.some; few = c.requires.few; own = c.requires.own; valid = c.requires.valid; ready = c.requires.ready; beyond = c.requires.beyond }

pub returns-in_default : goal.returns-in_default
returns-in_default g c =
    let e = c.finish_group.ensures in
    let go = finish_there g.R.Rack g.A.Area g.M.Metaslabs.last g.M.Metaslabs.went g.M.Metaslabs.shared (g.M.Metaslabs.owns c.args.metaslabs.now) c.requires.own c.args.count c.args.metaslabs.now c.finish_group.new.metaslabs c.args.uber.now c.finish_group.new.uber None c.in_default.ensures.finishes in
    record {
      fits = e.fits;
      locks = e.locks;
      owns = e.owns;
      valid = e.valid;
      ready = e.ready;
      beyond = e.beyond;
      alike = alike_there g.R.Rack g.A.Area g.M.Metaslabs.last g.M.Metaslabs.went g.M.Metaslabs.shared (g.M.Metaslabs.owns c.args.metaslabs.now) c.requires.own c.args.metaslabs.now c.finish_group.new.metaslabs go c.requires.alike;
      whole = e.whole;
      leaf = tt;
      switches = c.in_default.ensures.finishes;
    }

pub arm_fault-requires : goal.arm_fault-requires
arm_fault-requires g c = λ is. finish_not_last g.R.Rack g.A.Area g.M.Metaslabs.last g.M.Metaslabs.went g.M.Metaslabs.shared (g.M.Metaslabs.owns c.args.metaslabs.now) c.args.count c.args.metaslabs.now c.finish_group.new.metaslabs c.args.uber.now c.finish_group.new.uber
    (subst (λ it. FinishesIn g.R.Rack g.A.Area g.M.Metaslabs.last g.M.Metaslabs.went g.M.Metaslabs.shared (g.M.Metaslabs.owns c.args.metaslabs.now) c.args.count c.args.metaslabs.now c.args.uber.now (Some (Err it)) c.finish_group.new.metaslabs c.finish_group.new.uber) is (subst (λ it. FinishesIn g.R.Rack g.A.Area g.M.Metaslabs.last g.M.Metaslabs.went g.M.Metaslabs.shared (g.M.Metaslabs.owns c.args.metaslabs.now) c.args.count c.args.metaslabs.now c.args.uber.now (Some it) c.finish_group.new.metaslabs c.finish_group.new.uber) c.in-Err.is c.in-Some.ensures.finishes))

pub returns-in-Err : goal.returns-in-Err
returns-in-Err g c =
    let e = c.finish_group.ensures in
    let finishes : FinishesIn g.R.Rack g.A.Area g.M.Metaslabs.last g.M.Metaslabs.went g.M.Metaslabs.shared (g.M.Metaslabs.owns c.args.metaslabs.now) c.args.count c.args.metaslabs.now c.args.uber.now (Some (Err c.in-Err.fault)) c.finish_group.new.metaslabs c.finish_group.new.uber = subst (λ it. FinishesIn g.R.Rack g.A.Area g.M.Metaslabs.last g.M.Metaslabs.went g.M.Metaslabs.shared (g.M.Metaslabs.owns c.args.metaslabs.now) c.args.count c.args.metaslabs.now c.args.uber.now (Some it) c.finish_group.new.metaslabs c.finish_group.new.uber) c.in-Err.is c.in-Some.ensures.finishes in
    let go = finish_there g.R.Rack g.A.Area g.M.Metaslabs.last g.M.Metaslabs.went g.M.Metaslabs.shared (g.M.Metaslabs.owns c.args.metaslabs.now) c.requires.own c.args.count c.args.metaslabs.now c.finish_group.new.metaslabs c.args.uber.now c.finish_group.new.uber (Some (Err c.in-Err.fault)) finishes in
    let alike = alike_there g.R.Rack g.A.Area g.M.Metaslabs.last g.M.Metaslabs.went g.M.Metaslabs.shared (g.M.Metaslabs.owns c.args.metaslabs.now) c.requires.own c.args.metaslabs.now c.finish_group.new.metaslabs go c.requires.alike in
    record {
      fits = e.fits;
      locks = e.locks;
      owns = e.owns;
      valid = e.valid;
      ready = e.ready;
      beyond = e.beyond;
      alike = alike;
      whole = e.whole;
      leaf = leaf_unfinished_in c.args.count c.args.leaf c.args.offline c.in-Err.fault c.arm_fault.result (g.M.Metaslabs.last c.finish_group.new.metaslabs) c.arm_fault.ensures;
      switches = inl (c.in-Err.fault, finishes, c.arm_fault.ensures);
    }

pub switch_arm-requires : goal.switch_arm-requires
switch_arm-requires g c =
    let e = c.finish_group.ensures in
    let finishes : FinishesIn g.R.Rack g.A.Area g.M.Metaslabs.last g.M.Metaslabs.went g.M.Metaslabs.shared (g.M.Metaslabs.owns c.args.metaslabs.now) c.args.count c.args.metaslabs.now c.args.uber.now (Some (Ok tt)) c.finish_group.new.metaslabs c.finish_group.new.uber = subst (λ it. FinishesIn g.R.Rack g.A.Area g.M.Metaslabs.last g.M.Metaslabs.went g.M.Metaslabs.shared (g.M.Metaslabs.owns c.args.metaslabs.now) c.args.count c.args.metaslabs.now c.args.uber.now (Some it) c.finish_group.new.metaslabs c.finish_group.new.uber) c.in-Ok.is c.in-Some.ensures.finishes in
    let go = finish_there g.R.Rack g.A.Area g.M.Metaslabs.last g.M.Metaslabs.went g.M.Metaslabs.shared (g.M.Metaslabs.owns c.args.metaslabs.now) c.requires.own c.args.count c.args.metaslabs.now c.finish_group.new.metaslabs c.args.uber.now c.finish_group.new.uber (Some (Ok tt)) finishes in
    let alike = alike_there g.R.Rack g.A.Area g.M.Metaslabs.last g.M.Metaslabs.went g.M.Metaslabs.shared (g.M.Metaslabs.owns c.args.metaslabs.now) c.requires.own c.args.metaslabs.now c.finish_group.new.metaslabs go c.requires.alike in
    record {
      fits = e.fits;
      some = c.requires.some;
      own = ap (λ (owns : ℕ → Bool). owns groups_number) e.owns ∙ c.requires.own;
      each = λ m less. (let z = e.ready m less in (z.0, z.1, z.2.valid));
      beyond = e.beyond;
      alike = alike;
    }

pub returns : goal.returns
returns g c =
    let e = c.finish_group.ensures in
    let finishes : FinishesIn g.R.Rack g.A.Area g.M.Metaslabs.last g.M.Metaslabs.went g.M.Metaslabs.shared (g.M.Metaslabs.owns c.args.metaslabs.now) c.args.count c.args.metaslabs.now c.args.uber.now (Some (Ok tt)) c.finish_group.new.metaslabs c.finish_group.new.uber = subst (λ it. FinishesIn g.R.Rack g.A.Area g.M.Metaslabs.last g.M.Metaslabs.went g.M.Metaslabs.shared (g.M.Metaslabs.owns c.args.metaslabs.now) c.args.count c.args.metaslabs.now c.args.uber.now (Some it) c.finish_group.new.metaslabs c.finish_group.new.uber) c.in-Ok.is c.in-Some.ensures.finishes in
    let go = finish_there g.R.Rack g.A.Area g.M.Metaslabs.last g.M.Metaslabs.went g.M.Metaslabs.shared (g.M.Metaslabs.owns c.args.metaslabs.now) c.requires.own c.args.count c.args.metaslabs.now c.finish_group.new.metaslabs c.args.uber.now c.finish_group.new.uber (Some (Ok tt)) finishes in
    let alike = alike_there g.R.Rack g.A.Area g.M.Metaslabs.last g.M.Metaslabs.went g.M.Metaslabs.shared (g.M.Metaslabs.owns c.args.metaslabs.now) c.requires.own c.args.metaslabs.now c.finish_group.new.metaslabs go c.requires.alike in
    let s = c.switch_arm.ensures in
    let switches : SwitchesAll g.R.Rack g.A.Area g.M.Metaslabs.last g.M.Metaslabs.went g.M.Metaslabs.shared (g.M.Metaslabs.owns c.args.metaslabs.now) c.args.count c.args.leaf c.args.offline c.finish_group.new.metaslabs c.switch_arm.result c.switch_arm.new.metaslabs = subst (λ owns. SwitchesAll g.R.Rack g.A.Area g.M.Metaslabs.last g.M.Metaslabs.went g.M.Metaslabs.shared owns c.args.count c.args.leaf c.args.offline c.finish_group.new.metaslabs c.switch_arm.result c.switch_arm.new.metaslabs) e.owns s.switches in
    let readies = switch_readies g.R.Rack g.A.Area g.M.Metaslabs.last g.M.Metaslabs.went g.M.Metaslabs.shared (g.M.Metaslabs.owns c.args.metaslabs.now) c.args.count c.requires.own c.requires.some c.args.leaf c.args.offline c.finish_group.new.metaslabs c.switch_arm.new.metaslabs c.finish_group.new.uber e.ready e.beyond c.switch_arm.result switches in
    record {
      fits = s.fits;
      locks = s.locks ∙ e.locks;
      owns = s.owns ∙ e.owns;
      valid = e.valid;
      ready = readies.0;
      beyond = readies.1;
      alike = s.alike;
      whole = λ table seq floor w. switch_whole g.R.Rack g.A.Area g.M.Metaslabs.last g.M.Metaslabs.went g.M.Metaslabs.shared (g.M.Metaslabs.owns c.args.metaslabs.now) c.args.count c.requires.own c.requires.some c.args.leaf c.args.offline c.finish_group.new.metaslabs c.switch_arm.new.metaslabs c.finish_group.new.uber e.ready e.beyond c.switch_arm.result switches table seq floor (e.whole table seq floor w);
      leaf = s.leaf;
      switches = switches_in g.R.Rack g.A.Area g.M.Metaslabs.last g.M.Metaslabs.went g.M.Metaslabs.shared (g.M.Metaslabs.owns c.args.metaslabs.now) c.args.count c.args.leaf c.args.offline c.args.metaslabs.now c.finish_group.new.metaslabs c.switch_arm.new.metaslabs c.args.uber.now c.finish_group.new.uber c.switch_arm.result finishes switches;
    }
