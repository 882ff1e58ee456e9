use Rattle.std.proofs.Common.{◌∙◌, ℕ, Bool, true, false, Ok, Err, inl, inr, ap, refl, subst}
use Rattle.draid_entries.specs.declared.history.ReserveFault.TheVariants as reserve
use Rattle.draid_shard.specs.Fits.{Valid}
use Rattle.draid_pool.specs.Drifts.{groups_number}
use Rattle.draid_pool.proofs.LookKeeps.{same_keeps}
use Rattle.draid_pool.proofs.RoundSteps.{each_stays, held_by}
use Rattle.draid_changes.specs.Switching.{ReservesEach, SeesLeaf, SwitchesEach}
use Rattle.draid_changes.proofs.ArmSteps.{in_none, it_is, it_isnt, may_switch_each}
use Rattle.draid_changes.proofs.SameArms.{alike_there, beyond_there, look_there, once_here, reserves_there, switches_alike, there_then}
use Rattle.draid_changes.proofs.switching.switch_arm.Goals as goal

pub hold-op-requires-clause-may : goal.hold-op-requires-clause-may
hold-op-requires-clause-may g c =
    let z = c.requires.each 0 c.requires.some in
    record { shard = z.0; there = z.1; valid = z.2; ready = λ x d. d.valid; keeps = λ x y after valid saw. same_keeps g.R.Rack g.A.Area x y valid saw.same; own = λ n is. absurd (cc) }

pub returns-then-not-op : goal.returns-then-not-op
returns-then-not-op g c =
    let h = c.hold-op.ensures.held in
    let did : SeesLeaf c.args.leaf false h.before h.after = subst (λ out. SeesLeaf c.args.leaf out h.before h.after) (it_isnt c.hold-op.result.out c.if-not-op.true) h.related in
    let look = held_by g.R.Rack g.A.Area g.M.Metaslabs.last g.M.Metaslabs.went g.M.Metaslabs.shared (g.M.Metaslabs.owns c.args.metaslabs.now) (g.M.Metaslabs.owns c.args.metaslabs.now) refl (SeesLeaf c.args.leaf false) c.args.metaslabs.now 0 c.hold-op.new.self h.shard h.before h.after h.there h.drifts h.is h.went did in
    let go = look_there g.R.Rack g.A.Area g.M.Metaslabs.last g.M.Metaslabs.went g.M.Metaslabs.shared (g.M.Metaslabs.owns c.args.metaslabs.now) c.requires.own c.args.leaf false c.args.metaslabs.now 0 c.hold-op.new.self look in
    let alike = alike_there g.R.Rack g.A.Area g.M.Metaslabs.last g.M.Metaslabs.went g.M.Metaslabs.shared (g.M.Metaslabs.owns c.args.metaslabs.now) c.requires.own c.args.metaslabs.now c.hold-op.new.self go c.requires.alike in
    let first = once_here g.R.Rack g.A.Area g.M.Metaslabs.last g.M.Metaslabs.went g.M.Metaslabs.shared (g.M.Metaslabs.owns c.args.metaslabs.now) c.requires.own (SeesLeaf c.args.leaf false) c.args.metaslabs.now 0 c.hold-op.new.self look in
    let each = each_stays (Valid g.R.Rack) (g.M.Metaslabs.last c.args.metaslabs.now) (g.M.Metaslabs.last c.hold-op.new.self) 0 h.after h.is h.keeps.valid c.args.count c.requires.each in
    record {
      fits = c.hold-op.ensures.fits;
      locks = c.hold-op.ensures.locks;
      owns = c.hold-op.ensures.owns;
      alike = alike;
      leaf = in_none g.R.Rack g.A.Area g.M.Metaslabs.last g.M.Metaslabs.went g.M.Metaslabs.shared (g.M.Metaslabs.owns c.args.metaslabs.now) c.args.count c.requires.own c.args.leaf c.args.offline c.args.metaslabs.now c.hold-op.new.self alike look first each;
      switches = inl (look, refl);
    }

pub reserve_each-requires : goal.reserve_each-requires
reserve_each-requires g c =
    let h = c.hold-op.ensures.held in
    let each = each_stays (Valid g.R.Rack) (g.M.Metaslabs.last c.args.metaslabs.now) (g.M.Metaslabs.last c.hold-op.new.self) 0 h.after h.is h.keeps.valid c.args.count c.requires.each in
    record { fits = c.hold-op.ensures.fits; own = ap (λ (owns : ℕ → Bool). owns groups_number) c.hold-op.ensures.owns ∙ c.requires.own; valid = each }

pub returns-in-Err-Worn : goal.returns-in-Err-Worn
returns-in-Err-Worn g c =
    let h = c.hold-op.ensures.held in
    let did : SeesLeaf c.args.leaf true h.before h.after = subst (λ out. SeesLeaf c.args.leaf out h.before h.after) (it_is c.hold-op.result.out c.if-not-op.false) h.related in
    let look = held_by g.R.Rack g.A.Area g.M.Metaslabs.last g.M.Metaslabs.went g.M.Metaslabs.shared (g.M.Metaslabs.owns c.args.metaslabs.now) (g.M.Metaslabs.owns c.args.metaslabs.now) refl (SeesLeaf c.args.leaf true) c.args.metaslabs.now 0 c.hold-op.new.self h.shard h.before h.after h.there h.drifts h.is h.went did in
    let go = look_there g.R.Rack g.A.Area g.M.Metaslabs.last g.M.Metaslabs.went g.M.Metaslabs.shared (g.M.Metaslabs.owns c.args.metaslabs.now) c.requires.own c.args.leaf true c.args.metaslabs.now 0 c.hold-op.new.self look in
    let alike = alike_there g.R.Rack g.A.Area g.M.Metaslabs.last g.M.Metaslabs.went g.M.Metaslabs.shared (g.M.Metaslabs.owns c.args.metaslabs.now) c.requires.own c.args.metaslabs.now c.hold-op.new.self go c.requires.alike in
    let first = once_here g.R.Rack g.A.Area g.M.Metaslabs.last g.M.Metaslabs.went g.M.Metaslabs.shared (g.M.Metaslabs.owns c.args.metaslabs.now) c.requires.own (SeesLeaf c.args.leaf true) c.args.metaslabs.now 0 c.hold-op.new.self look in
    let each = each_stays (Valid g.R.Rack) (g.M.Metaslabs.last c.args.metaslabs.now) (g.M.Metaslabs.last c.hold-op.new.self) 0 h.after h.is h.keeps.valid c.args.count c.requires.each in
    let f = c.reserve_each.ensures in
    let reserves : ReservesEach g.R.Rack g.A.Area g.M.Metaslabs.last g.M.Metaslabs.went g.M.Metaslabs.shared (g.M.Metaslabs.owns c.args.metaslabs.now) c.args.count c.hold-op.new.self (Err (reserve.Worn c.in-Err-Worn.field-0-0)) c.reserve_each.new.metaslabs = subst (λ owns. ReservesEach g.R.Rack g.A.Area g.M.Metaslabs.last g.M.Metaslabs.went g.M.Metaslabs.shared owns c.args.count c.hold-op.new.self (Err (reserve.Worn c.in-Err-Worn.field-0-0)) c.reserve_each.new.metaslabs) c.hold-op.ensures.owns (subst (λ r. ReservesEach g.R.Rack g.A.Area g.M.Metaslabs.last g.M.Metaslabs.went g.M.Metaslabs.shared (g.M.Metaslabs.owns c.hold-op.new.self) c.args.count c.hold-op.new.self r c.reserve_each.new.metaslabs) (c.in-Err-Worn.is ∙ ap Err c.in-Err-Worn.field-0-is) f.reserves) in
    let goes = reserves_there g.R.Rack g.A.Area g.M.Metaslabs.last g.M.Metaslabs.went g.M.Metaslabs.shared (g.M.Metaslabs.owns c.args.metaslabs.now) c.requires.own c.args.count c.hold-op.new.self c.reserve_each.new.metaslabs (Err (reserve.Worn c.in-Err-Worn.field-0-0)) reserves in
    record {
      fits = f.fits;
      locks = f.locks ∙ c.hold-op.ensures.locks;
      owns = f.owns ∙ c.hold-op.ensures.owns;
      alike = alike_there g.R.Rack g.A.Area g.M.Metaslabs.last g.M.Metaslabs.went g.M.Metaslabs.shared (g.M.Metaslabs.owns c.args.metaslabs.now) c.requires.own c.hold-op.new.self c.reserve_each.new.metaslabs goes alike;
      leaf = tt;
      switches = inr (c.hold-op.new.self, (reserve.Worn c.in-Err-Worn.field-0-0), look, reserves, refl);
    }

pub returns-in-Err-NoMemory : goal.returns-in-Err-NoMemory
returns-in-Err-NoMemory g c =
    let h = c.hold-op.ensures.held in
    let did : SeesLeaf c.args.leaf true h.before h.after = subst (λ out. SeesLeaf c.args.leaf out h.before h.after) (it_is c.hold-op.result.out c.if-not-op.false) h.related in
    let look = held_by g.R.Rack g.A.Area g.M.Metaslabs.last g.M.Metaslabs.went g.M.Metaslabs.shared (g.M.Metaslabs.owns c.args.metaslabs.now) (g.M.Metaslabs.owns c.args.metaslabs.now) refl (SeesLeaf c.args.leaf true) c.args.metaslabs.now 0 c.hold-op.new.self h.shard h.before h.after h.there h.drifts h.is h.went did in
    let go = look_there g.R.Rack g.A.Area g.M.Metaslabs.last g.M.Metaslabs.went g.M.Metaslabs.shared (g.M.Metaslabs.owns c.args.metaslabs.now) c.requires.own c.args.leaf true c.args.metaslabs.now 0 c.hold-op.new.self look in
    let alike = alike_there g.R.Rack g.A.Area g.M.Metaslabs.last g.M.Metaslabs.went g.M.Metaslabs.shared (g.M.Metaslabs.owns c.args.metaslabs.now) c.requires.own c.args.metaslabs.now c.hold-op.new.self go c.requires.alike in
    let first = once_here g.R.Rack g.A.Area g.M.Metaslabs.last g.M.Metaslabs.went g.M.Metaslabs.shared (g.M.Metaslabs.owns c.args.metaslabs.now) c.requires.own (SeesLeaf c.args.leaf true) c.args.metaslabs.now 0 c.hold-op.new.self look in
    let each = each_stays (Valid g.R.Rack) (g.M.Metaslabs.last c.args.metaslabs.now) (g.M.Metaslabs.last c.hold-op.new.self) 0 h.after h.is h.keeps.valid c.args.count c.requires.each in
    let f = c.reserve_each.ensures in
    let reserves : ReservesEach g.R.Rack g.A.Area g.M.Metaslabs.last g.M.Metaslabs.went g.M.Metaslabs.shared (g.M.Metaslabs.owns c.args.metaslabs.now) c.args.count c.hold-op.new.self (Err reserve.NoMemory) c.reserve_each.new.metaslabs = subst (λ owns. ReservesEach g.R.Rack g.A.Area g.M.Metaslabs.last g.M.Metaslabs.went g.M.Metaslabs.shared owns c.args.count c.hold-op.new.self (Err reserve.NoMemory) c.reserve_each.new.metaslabs) c.hold-op.ensures.owns (subst (λ r. ReservesEach g.R.Rack g.A.Area g.M.Metaslabs.last g.M.Metaslabs.went g.M.Metaslabs.shared (g.M.Metaslabs.owns c.hold-op.new.self) c.args.count c.hold-op.new.self r c.reserve_each.new.metaslabs) (c.in-Err-NoMemory.is ∙ ap Err c.in-Err-NoMemory.field-0-is) f.reserves) in
    let goes = reserves_there g.R.Rack g.A.Area g.M.Metaslabs.last g.M.Metaslabs.went g.M.Metaslabs.shared (g.M.Metaslabs.owns c.args.metaslabs.now) c.requires.own c.args.count c.hold-op.new.self c.reserve_each.new.metaslabs (Err reserve.NoMemory) reserves in
    record {
      fits = f.fits;
      locks = f.locks ∙ c.hold-op.ensures.locks;
      owns = f.owns ∙ c.hold-op.ensures.owns;
      alike = alike_there g.R.Rack g.A.Area g.M.Metaslabs.last g.M.Metaslabs.went g.M.Metaslabs.shared (g.M.Metaslabs.owns c.args.metaslabs.now) c.requires.own c.hold-op.new.self c.reserve_each.new.metaslabs goes alike;
      leaf = tt;
      switches = inr (c.hold-op.new.self, reserve.NoMemory, look, reserves, refl);
    }

pub switch_each-requires : goal.switch_each-requires
switch_each-requires g c =
    let h = c.hold-op.ensures.held in
    let did : SeesLeaf c.args.leaf true h.before h.after = subst (λ out. SeesLeaf c.args.leaf out h.before h.after) (it_is c.hold-op.result.out c.if-not-op.false) h.related in
    let look = held_by g.R.Rack g.A.Area g.M.Metaslabs.last g.M.Metaslabs.went g.M.Metaslabs.shared (g.M.Metaslabs.owns c.args.metaslabs.now) (g.M.Metaslabs.owns c.args.metaslabs.now) refl (SeesLeaf c.args.leaf true) c.args.metaslabs.now 0 c.hold-op.new.self h.shard h.before h.after h.there h.drifts h.is h.went did in
    let go = look_there g.R.Rack g.A.Area g.M.Metaslabs.last g.M.Metaslabs.went g.M.Metaslabs.shared (g.M.Metaslabs.owns c.args.metaslabs.now) c.requires.own c.args.leaf true c.args.metaslabs.now 0 c.hold-op.new.self look in
    let alike = alike_there g.R.Rack g.A.Area g.M.Metaslabs.last g.M.Metaslabs.went g.M.Metaslabs.shared (g.M.Metaslabs.owns c.args.metaslabs.now) c.requires.own c.args.metaslabs.now c.hold-op.new.self go c.requires.alike in
    let first = once_here g.R.Rack g.A.Area g.M.Metaslabs.last g.M.Metaslabs.went g.M.Metaslabs.shared (g.M.Metaslabs.owns c.args.metaslabs.now) c.requires.own (SeesLeaf c.args.leaf true) c.args.metaslabs.now 0 c.hold-op.new.self look in
    let each = each_stays (Valid g.R.Rack) (g.M.Metaslabs.last c.args.metaslabs.now) (g.M.Metaslabs.last c.hold-op.new.self) 0 h.after h.is h.keeps.valid c.args.count c.requires.each in
    let f = c.reserve_each.ensures in
    let reserves : ReservesEach g.R.Rack g.A.Area g.M.Metaslabs.last g.M.Metaslabs.went g.M.Metaslabs.shared (g.M.Metaslabs.owns c.args.metaslabs.now) c.args.count c.hold-op.new.self (Ok tt) c.reserve_each.new.metaslabs = subst (λ owns. ReservesEach g.R.Rack g.A.Area g.M.Metaslabs.last g.M.Metaslabs.went g.M.Metaslabs.shared owns c.args.count c.hold-op.new.self (Ok tt) c.reserve_each.new.metaslabs) c.hold-op.ensures.owns c.in-Ok.ensures.reserves in
    let goes = reserves_there g.R.Rack g.A.Area g.M.Metaslabs.last g.M.Metaslabs.went g.M.Metaslabs.shared (g.M.Metaslabs.owns c.args.metaslabs.now) c.requires.own c.args.count c.hold-op.new.self c.reserve_each.new.metaslabs (Ok tt) reserves in
    record {
      fits = f.fits;
      own = ap (λ (owns : ℕ → Bool). owns groups_number) (f.owns ∙ c.hold-op.ensures.owns) ∙ c.requires.own;
      ready = may_switch_each g.R.Rack g.A.Area g.M.Metaslabs.last g.M.Metaslabs.went g.M.Metaslabs.shared (g.M.Metaslabs.owns c.args.metaslabs.now) c.args.count c.requires.own c.args.leaf c.args.metaslabs.now c.hold-op.new.self c.reserve_each.new.metaslabs alike look first goes c.in-Ok.ensures.next;
    }

pub returns : goal.returns
returns g c =
    let h = c.hold-op.ensures.held in
    let did : SeesLeaf c.args.leaf true h.before h.after = subst (λ out. SeesLeaf c.args.leaf out h.before h.after) (it_is c.hold-op.result.out c.if-not-op.false) h.related in
    let look = held_by g.R.Rack g.A.Area g.M.Metaslabs.last g.M.Metaslabs.went g.M.Metaslabs.shared (g.M.Metaslabs.owns c.args.metaslabs.now) (g.M.Metaslabs.owns c.args.metaslabs.now) refl (SeesLeaf c.args.leaf true) c.args.metaslabs.now 0 c.hold-op.new.self h.shard h.before h.after h.there h.drifts h.is h.went did in
    let go = look_there g.R.Rack g.A.Area g.M.Metaslabs.last g.M.Metaslabs.went g.M.Metaslabs.shared (g.M.Metaslabs.owns c.args.metaslabs.now) c.requires.own c.args.leaf true c.args.metaslabs.now 0 c.hold-op.new.self look in
    let alike = alike_there g.R.Rack g.A.Area g.M.Metaslabs.last g.M.Metaslabs.went g.M.Metaslabs.shared (g.M.Metaslabs.owns c.args.metaslabs.now) c.requires.own c.args.metaslabs.now c.hold-op.new.self go c.requires.alike in
    let first = once_here g.R.Rack g.A.Area g.M.Metaslabs.last g.M.Metaslabs.went g.M.Metaslabs.shared (g.M.Metaslabs.owns c.args.metaslabs.now) c.requires.own (SeesLeaf c.args.leaf true) c.args.metaslabs.now 0 c.hold-op.new.self look in
    let each = each_stays (Valid g.R.Rack) (g.M.Metaslabs.last c.args.metaslabs.now) (g.M.Metaslabs.last c.hold-op.new.self) 0 h.after h.is h.keeps.valid c.args.count c.requires.each in
    let f = c.reserve_each.ensures in
    let reserves : ReservesEach g.R.Rack g.A.Area g.M.Metaslabs.last g.M.Metaslabs.went g.M.Metaslabs.shared (g.M.Metaslabs.owns c.args.metaslabs.now) c.args.count c.hold-op.new.self (Ok tt) c.reserve_each.new.metaslabs = subst (λ owns. ReservesEach g.R.Rack g.A.Area g.M.Metaslabs.last g.M.Metaslabs.went g.M.Metaslabs.shared owns c.args.count c.hold-op.new.self (Ok tt) c.reserve_each.new.metaslabs) c.hold-op.ensures.owns c.in-Ok.ensures.reserves in
    let goes = reserves_there g.R.Rack g.A.Area g.M.Metaslabs.last g.M.Metaslabs.went g.M.Metaslabs.shared (g.M.Metaslabs.owns c.args.metaslabs.now) c.requires.own c.args.count c.hold-op.new.self c.reserve_each.new.metaslabs (Ok tt) reserves in
    let s = c.switch_each.ensures in
    let switches : SwitchesEach g.R.Rack g.A.Area g.M.Metaslabs.last g.M.Metaslabs.went g.M.Metaslabs.shared (g.M.Metaslabs.owns c.args.metaslabs.now) c.args.count c.args.leaf c.args.offline c.reserve_each.new.metaslabs c.switch_each.new.metaslabs = subst (λ owns. SwitchesEach g.R.Rack g.A.Area g.M.Metaslabs.last g.M.Metaslabs.went g.M.Metaslabs.shared owns c.args.count c.args.leaf c.args.offline c.reserve_each.new.metaslabs c.switch_each.new.metaslabs) (f.owns ∙ c.hold-op.ensures.owns) s.switches in
    record {
      fits = s.fits;
      locks = s.locks ∙ (f.locks ∙ c.hold-op.ensures.locks);
      owns = s.owns ∙ (f.owns ∙ c.hold-op.ensures.owns);
      alike = switches_alike g.R.Rack g.A.Area g.M.Metaslabs.last g.M.Metaslabs.went g.M.Metaslabs.shared (g.M.Metaslabs.owns c.args.metaslabs.now) c.requires.own c.args.leaf c.args.offline c.args.count c.reserve_each.new.metaslabs c.switch_each.new.metaslabs
          (beyond_there g.R.Rack g.A.Area g.M.Metaslabs.last g.M.Metaslabs.went g.M.Metaslabs.shared (g.M.Metaslabs.owns c.args.metaslabs.now) c.requires.own c.args.count c.args.metaslabs.now c.reserve_each.new.metaslabs (there_then g.R.Rack g.A.Area g.M.Metaslabs.last g.M.Metaslabs.went g.M.Metaslabs.shared (g.M.Metaslabs.owns c.args.metaslabs.now) c.requires.own c.args.metaslabs.now c.hold-op.new.self c.reserve_each.new.metaslabs go goes) c.requires.beyond) switches
          (alike_there g.R.Rack g.A.Area g.M.Metaslabs.last g.M.Metaslabs.went g.M.Metaslabs.shared (g.M.Metaslabs.owns c.args.metaslabs.now) c.requires.own c.hold-op.new.self c.reserve_each.new.metaslabs goes alike);
      leaf = s.switched;
      switches = (c.hold-op.new.self, c.reserve_each.new.metaslabs, look, reserves, switches);
    }
