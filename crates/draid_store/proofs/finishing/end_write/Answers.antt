use Rattle.std.proofs.Common.{◌∙◌, sym, ap, subst}
use Rattle.draid_store.specs.Putting.{EndSays}
use Rattle.draid_store.proofs.Ended.{ended_pointer, keeps_ended, some_ended}
use Rattle.draid_pool.proofs.Holding.{some_same}
use Rattle.draid_store.proofs.OpenKeeps.{may_finish}
use Rattle.draid_store.proofs.Saying.{end_says}
use Rattle.draid_store.proofs.WriteWhole.{end_stays, end_whole}
use Rattle.draid_store.proofs.finishing.end_write.Goals as goal

pub hold-op-requires-clause-may : goal.hold-op-requires-clause-may
hold-op-requires-clause-may g c =
    let o = c.requires.carries in
    let owns = g.M.Metaslabs.owns c.args.metaslabs.now in
    record {
      shard = o.shard;
      there = o.there;
      valid = o.valid;
      ready = λ x d. may_finish g.R.Rack g.A.Area g.M.Metaslabs.shared owns o.shard x o.valid d c.args.ticket c.args.block.now c.requires.own o.carries (c.requires.all ∙ sym o.columns_are);
      keeps = λ x y after needs d. keeps_ended g.R.Rack g.A.Area x y c.args.ticket c.args.block.now after.out d;
      own = λ n is. ap owns (sym (some_same c.args.ticket.pointer.object n is)) ∙ c.requires.own;
    }

pub returns-clause-says : goal.returns-clause-says
returns-clause-says g c =
    let h = c.hold-op.ensures.held in
    let owns = g.M.Metaslabs.owns c.args.metaslabs.now in
    let last = g.M.Metaslabs.last c.args.metaslabs.now in
    let new = g.M.Metaslabs.last c.hold-op.new.self in
    subst (λ o. EndSays g.R.Rack g.A.Area g.M.Metaslabs.went g.M.Metaslabs.shared owns o last new c.args.metaslabs.now c.hold-op.new.self c.args.metaslab c.args.ticket c.args.block.now c.in-Some.result) (sym c.hold-op.ensures.owns)
    (end_says g.R.Rack g.A.Area g.M.Metaslabs.went g.M.Metaslabs.shared owns last new c.args.metaslabs.now c.hold-op.new.self c.args.metaslab h.shard h.before h.after h.there h.drifts h.is h.went c.args.ticket c.args.block.now c.in-Some.result
    (some_ended g.R.Rack h.before c.args.ticket c.args.block.now h.after c.hold-op.result.out c.in-Some.result h.related c.in-Some.is))

pub returns-clause-stay : goal.returns-clause-stay
returns-clause-stay g c =
    let h = c.hold-op.ensures.held in
    end_stays g.R.Rack g.A.Area g.M.Metaslabs.shared (g.M.Metaslabs.owns c.args.metaslabs.now) (g.M.Metaslabs.last c.args.metaslabs.now) (g.M.Metaslabs.last c.hold-op.new.self) c.args.metaslab h.shard h.before h.after h.there h.drifts h.is
    c.args.ticket c.args.block.now c.in-Some.result (some_ended g.R.Rack h.before c.args.ticket c.args.block.now h.after c.hold-op.result.out c.in-Some.result h.related c.in-Some.is)

pub returns-clause-whole : goal.returns-clause-whole
returns-clause-whole g c table seq floor number at whole =
    let h = c.hold-op.ensures.held in
    end_whole g.R.Rack g.A.Area g.M.Metaslabs.shared (g.M.Metaslabs.owns c.args.metaslabs.now) (g.M.Metaslabs.last c.args.metaslabs.now) (g.M.Metaslabs.last c.hold-op.new.self) c.args.metaslab h.shard h.before h.after h.there h.drifts h.is
    c.args.ticket c.args.block.now table seq floor number at c.requires.own whole c.in-Some.result (some_ended g.R.Rack h.before c.args.ticket c.args.block.now h.after c.hold-op.result.out c.in-Some.result h.related c.in-Some.is)

pub returns-clause-pointer : goal.returns-clause-pointer
returns-clause-pointer g c =
    let h = c.hold-op.ensures.held in
    ended_pointer g.R.Rack h.before h.after c.args.ticket c.args.block.now c.in-Some.result (some_ended g.R.Rack h.before c.args.ticket c.args.block.now h.after c.hold-op.result.out c.in-Some.result h.related c.in-Some.is)
