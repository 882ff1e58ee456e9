use Rattle.std.proofs.Common.{◌≤◌, ◌+◌, ◌∙◌, sym, ap, subst}
use Rattle.draid_store.specs.Putting.{BeginSays}
use Rattle.draid_pool.proofs.Holding.{some_same}
use Rattle.draid_pool.proofs.Lists.{some_of}
use Rattle.draid_store.proofs.OpenKeeps.{begins_keep, may_begin}
use Rattle.draid_store.proofs.Saying.{begin_says}
use Rattle.draid_store.proofs.WriteWhole.{begin_refused, begin_served, begin_stays, begin_whole}
use Rattle.draid_store.proofs.beginning.begin_write.Goals as goal

pub hold-op-requires-clause-may : goal.hold-op-requires-clause-may
hold-op-requires-clause-may g c =
    let may = c.requires.may in
    let owns = g.M.Metaslabs.owns c.args.metaslabs.now in
    record {
      shard = may.shard;
      there = may.there;
      valid = may.valid;
      ready = λ x d. may_begin g.R.Rack g.A.Area g.M.Metaslabs.shared owns may.shard x may.valid d c.args.object (c.args.own.now.seq + 1) c.args.own.now.floor c.args.block.now c.requires.own may.new may.low may.cut;
      keeps = λ x y after needs b. begins_keep g.R.Rack g.A.Area x y c.args.object (c.args.own.now.seq + 1) c.args.own.now.floor c.args.block.now after.out b;
      own = λ n is. ap owns (sym (some_same c.args.object n is)) ∙ c.requires.own;
    }

pub returns-clause-says : goal.returns-clause-says
returns-clause-says g c =
    let h = c.hold-op.ensures.held in
    let owns = g.M.Metaslabs.owns c.args.metaslabs.now in
    let last = g.M.Metaslabs.last c.args.metaslabs.now in
    let new = g.M.Metaslabs.last c.hold-op.new.self in
    subst (λ o. BeginSays g.R.Rack g.A.Area g.M.Metaslabs.went g.M.Metaslabs.shared owns o last new c.args.metaslabs.now c.hold-op.new.self c.args.metaslab c.args.columns c.args.object c.args.own.now.seq c.args.own.now.floor c.args.block.now c.hold-op.result.out) (sym c.hold-op.ensures.owns)
    (begin_says g.R.Rack g.A.Area g.M.Metaslabs.went g.M.Metaslabs.shared owns last new c.args.metaslabs.now c.hold-op.new.self c.args.metaslab h.shard h.before h.after h.there h.drifts h.is h.went c.args.columns c.args.object c.args.own.now.seq c.args.own.now.floor
    c.args.block.now c.requires.own c.requires.may c.hold-op.result.out h.related)

pub returns-clause-stay : goal.returns-clause-stay
returns-clause-stay g c =
    let h = c.hold-op.ensures.held in
    begin_stays g.R.Rack g.A.Area g.M.Metaslabs.shared (g.M.Metaslabs.owns c.args.metaslabs.now) (g.M.Metaslabs.last c.args.metaslabs.now) (g.M.Metaslabs.last c.hold-op.new.self) c.args.metaslab h.shard h.before h.after h.there h.drifts h.is
    c.args.object (c.args.own.now.seq + 1) c.args.own.now.floor c.args.block.now c.hold-op.result.out h.related

pub returns-clause-whole : goal.returns-clause-whole
returns-clause-whole g c table whole =
    let h = c.hold-op.ensures.held in
    begin_whole g.R.Rack g.A.Area g.M.Metaslabs.shared (g.M.Metaslabs.owns c.args.metaslabs.now) (g.M.Metaslabs.last c.args.metaslabs.now) (g.M.Metaslabs.last c.hold-op.new.self) c.args.metaslab h.shard h.before h.after h.there h.drifts h.is
    c.args.object c.args.own.now.seq c.args.own.now.floor c.args.block.now table c.hold-op.result.out h.related whole

pub returns-clause-refused : goal.returns-clause-refused
returns-clause-refused g c =
    let h = c.hold-op.ensures.held in
    begin_refused g.R.Rack g.A.Area g.M.Metaslabs.shared (g.M.Metaslabs.owns c.args.metaslabs.now) (g.M.Metaslabs.last c.args.metaslabs.now) (g.M.Metaslabs.last c.hold-op.new.self) c.args.metaslab h.shard h.before h.after h.there h.drifts h.is
    c.args.object (c.args.own.now.seq + 1) c.args.own.now.floor c.args.block.now c.hold-op.result.out h.related

pub returns-clause-served : goal.returns-clause-served
returns-clause-served g c own none =
    let h = c.hold-op.ensures.held in
    let may = c.requires.may in
    begin_served g.R.Rack g.A.Area g.M.Metaslabs.shared (g.M.Metaslabs.owns c.args.metaslabs.now) (g.M.Metaslabs.last c.args.metaslabs.now) (g.M.Metaslabs.last c.hold-op.new.self) c.args.metaslab h.shard h.before h.after h.there h.drifts h.is
    c.args.object (c.args.own.now.seq + 1) c.args.own.now.floor c.args.block.now c.hold-op.result.out h.related
    (λ mine. subst (λ s. c.args.own.now.floor ≤ s.committed + 2) (some_of (g.M.Metaslabs.last c.args.metaslabs.now c.args.metaslab) may.shard h.shard may.there h.there) (may.next mine)) own none
