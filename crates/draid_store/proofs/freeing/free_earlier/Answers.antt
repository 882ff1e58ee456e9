use Rattle.std.proofs.Common.{◌∙◌, sym, ap, subst}
use Rattle.draid_store.specs.Freeing.{EarlierSays}
use Rattle.draid_pool.proofs.HeldBy.{stay_held}
use Rattle.draid_pool.proofs.Holding.{some_same}
use Rattle.draid_store.proofs.Awaiting.{earlier_says}
use Rattle.draid_store.proofs.FreeKeeps.{free_groups, free_keeps}
use Rattle.draid_store.proofs.FreeWhole.{earlier_has, earlier_served, earlier_whole, may_free}
use Rattle.draid_store.proofs.freeing.free_earlier.Goals as goal

pub hold-op-requires-clause-may : goal.hold-op-requires-clause-may
hold-op-requires-clause-may g c =
    let p = c.args.pointer in
    let has = c.requires.has in
    let owns = g.M.Metaslabs.owns c.args.metaslabs.now in
    record {
      shard = has.shard;
      there = has.there;
      valid = has.valid;
      ready = λ x d. may_free g.R.Rack g.A.Area g.M.Metaslabs.shared owns (g.M.Metaslabs.last c.args.metaslabs.now) p.object p 0 c.args.floor has c.requires.low x d;
      keeps = λ x y after needs f. free_keeps g.R.Rack g.A.Area x y p c.args.floor after.out f;
      own = λ n is. ap owns (sym (some_same p.object n is)) ∙ has.own;
    }

pub returns-clause-stay : goal.returns-clause-stay
returns-clause-stay g c =
    let h = c.hold-op.ensures.held in
    stay_held (g.M.Metaslabs.owns c.args.metaslabs.now) g.R.Rack g.A.Area g.M.Metaslabs.shared (g.M.Metaslabs.last c.args.metaslabs.now) (g.M.Metaslabs.last c.hold-op.new.self) c.args.pointer.metaslab h.shard h.before h.after h.there h.drifts h.keeps.part
    (free_groups g.R.Rack g.A.Area h.before h.after c.args.pointer c.args.floor c.hold-op.result.out h.related) h.is

pub returns-clause-whole : goal.returns-clause-whole
returns-clause-whole g c table seq whole apart =
    let h = c.hold-op.ensures.held in
    earlier_whole g.R.Rack g.A.Area g.M.Metaslabs.shared (g.M.Metaslabs.owns c.args.metaslabs.now) (g.M.Metaslabs.last c.args.metaslabs.now) c.args.pointer.object c.args.pointer seq c.args.floor (g.M.Metaslabs.last c.hold-op.new.self) table c.requires.has whole
    h.shard h.before h.after h.there h.drifts h.keeps (free_groups g.R.Rack g.A.Area h.before h.after c.args.pointer c.args.floor c.hold-op.result.out h.related) h.is apart c.hold-op.result.out h.related

pub returns-clause-served : goal.returns-clause-served
returns-clause-served g c table seq whole own none =
    let h = c.hold-op.ensures.held in
    earlier_served g.R.Rack g.A.Area g.M.Metaslabs.shared (g.M.Metaslabs.owns c.args.metaslabs.now) (g.M.Metaslabs.last c.args.metaslabs.now) c.args.pointer.object c.args.pointer seq c.args.floor (g.M.Metaslabs.last c.hold-op.new.self) table c.requires.has whole
    h.shard h.before h.after h.there h.drifts h.keeps (free_groups g.R.Rack g.A.Area h.before h.after c.args.pointer c.args.floor c.hold-op.result.out h.related) h.is c.hold-op.result.out h.related own none

pub returns-clause-says : goal.returns-clause-says
returns-clause-says g c table seq x we loose known =
    let h = c.hold-op.ensures.held in
    let owns = g.M.Metaslabs.owns c.args.metaslabs.now in
    let last = g.M.Metaslabs.last c.args.metaslabs.now in
    let new = g.M.Metaslabs.last c.hold-op.new.self in
    subst (λ o. EarlierSays g.R.Rack g.A.Area g.M.Metaslabs.went g.M.Metaslabs.shared owns o last new c.args.metaslabs.now c.hold-op.new.self c.args.pointer table table seq c.args.floor x we c.hold-op.result.out) (sym c.hold-op.ensures.owns)
    (earlier_says g.R.Rack g.A.Area g.M.Metaslabs.went g.M.Metaslabs.shared owns c.args.metaslabs.now c.hold-op.new.self last new c.args.pointer h.shard h.before h.after h.there h.drifts h.is h.went table seq c.args.floor x we known loose c.hold-op.result.out h.related)

pub returns-clause-has : goal.returns-clause-has
returns-clause-has g c none =
    let h = c.hold-op.ensures.held in
    earlier_has g.R.Rack g.A.Area g.M.Metaslabs.shared (g.M.Metaslabs.owns c.args.metaslabs.now) (g.M.Metaslabs.last c.args.metaslabs.now) (g.M.Metaslabs.last c.hold-op.new.self) c.args.pointer h.shard h.before h.after h.there h.drifts h.keeps.valid h.is
    c.args.floor c.requires.has c.hold-op.result.out h.related none
