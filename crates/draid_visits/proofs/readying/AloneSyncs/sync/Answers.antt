use Rattle.std.proofs.Common.{subst}
use Rattle.draid_pool.specs.Grouping.{SyncsIn}
use Rattle.draid_visits.proofs.PassesStay.{sync_parts}
use Rattle.draid_visits.proofs.ReadyHolds.{sync_rises}
use Rattle.draid_visits.proofs.readying.AloneSyncs.sync.Goals as goal

pub returns-clause-keeps : goal.returns-clause-keeps
returns-clause-keeps g c =
    let m = g.M.Metaslabs in
    let old = c.args.metaslabs.now in
    sync_parts g.R.Rack g.A.Area m.last m.went m.shared (m.owns old) c.requires.passes c.args.count old c.sync_groups.new.metaslabs c.args.uber.now c.sync_groups.new.uber c.sync_groups.result c.sync_groups.ensures.syncs

pub returns-clause-rises : goal.returns-clause-rises
returns-clause-rises g c = λ it is.
    (let m = g.M.Metaslabs in
    let old = c.args.metaslabs.now in
    let u = c.args.uber.now in
    sync_rises g.R.Rack g.A.Area m.last m.went m.shared (m.owns old) c.requires.own c.args.count old u c.requires.ready c.requires.beyond it c.sync_groups.new.metaslabs c.sync_groups.new.uber
    (subst (λ out. SyncsIn g.R.Rack g.A.Area m.last m.went m.shared (m.owns old) c.args.count old u out c.sync_groups.new.metaslabs c.sync_groups.new.uber) is c.sync_groups.ensures.syncs))
