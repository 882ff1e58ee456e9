use Rattle.std.proofs.Common.{◌≡◌, Ok, subst}
use Rattle.draid_lanes.specs.Waits.{SyncsThrough}
use Rattle.draid_works.proofs.MendSyncs.{synced_parts, synced_rises}
use Rattle.draid_works.proofs.mending.WaitingSyncs.sync.Goals as goal

pub returns-clause-keeps : goal.returns-clause-keeps
returns-clause-keeps g c =
    let m = g.M.Metaslabs in
    let old = c.args.metaslabs.now in
    let did = c.sync_through in
    synced_parts g.R.Rack g.A.Area m.last m.went m.shared (m.owns old) c.args.count c.requires.passes old did.new.metaslabs c.args.uber.now did.new.uber did.result did.ensures.syncs

pub returns-clause-rises : goal.returns-clause-rises
returns-clause-rises g c = λ it is.
    (let m = g.M.Metaslabs in
    let old = c.args.metaslabs.now in
    let u = c.args.uber.now in
    let did = c.sync_through in
    synced_rises g.R.Rack g.A.Area m.last m.went m.shared (m.owns old) c.args.count c.requires.own old did.new.metaslabs u did.new.uber c.requires.ready c.requires.beyond it
    (subst (λ r. SyncsThrough g.R.Rack g.A.Area m.last m.went m.shared (m.owns old) c.args.count old u r did.new.metaslabs did.new.uber) (let same : did.result ≡ Ok it = cc in same) did.ensures.syncs))
