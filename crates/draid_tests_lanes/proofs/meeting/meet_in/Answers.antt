use Rattle.std.proofs.Common.{ap}
use Rattle.draid_shard.specs.States.{part_of}
use Rattle.draid_pool.proofs.Drifting.{same_groups}
use Rattle.draid_pool.proofs.HeldBy.{stay_held}
use Rattle.draid_pool.proofs.LookKeeps.{same_blocks, same_keeps}
use Rattle.draid_pool.proofs.QuietWhole.{quiet_whole}
use Rattle.draid_tests_lanes.proofs.meeting.meet_in.Goals as goal

pub hold-requires-clause-may : goal.hold-requires-clause-may
hold-requires-clause-may g c =
    let z = c.requires.many c.args.metaslab c.requires.inside in
    record { shard = z.0; there = z.1; valid = z.2; ready = λ x d. d.valid; keeps = λ x y after valid same. same_keeps g.R.Rack g.A.Area x y valid same; own = λ n is. absurd (cc) }

pub returns-clause-stay : goal.returns-clause-stay
returns-clause-stay g c =
    let h = c.hold.ensures.held in
    stay_held (g.M.Metaslabs.owns c.args.metaslabs.now) g.R.Rack g.A.Area g.M.Metaslabs.shared (g.M.Metaslabs.last c.args.metaslabs.now) (g.M.Metaslabs.last c.hold.new.self) c.args.metaslab h.shard h.before h.after h.there h.drifts (ap (λ s. part_of s) h.related)
    (same_groups h.before h.after h.related) h.is

pub returns-clause-whole : goal.returns-clause-whole
returns-clause-whole g c table seq floor w =
    let h = c.hold.ensures.held in
    quiet_whole g.R.Rack g.A.Area g.M.Metaslabs.shared (g.M.Metaslabs.owns c.args.metaslabs.now) (g.M.Metaslabs.last c.args.metaslabs.now) (g.M.Metaslabs.last c.hold.new.self) c.args.metaslab h.shard h.before h.after h.there h.drifts h.keeps.valid (ap (λ s. part_of s) h.related)
    (same_groups h.before h.after h.related) (same_blocks h.before h.after h.related) h.is table seq floor w
