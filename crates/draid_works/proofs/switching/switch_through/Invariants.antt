use Rattle.std.proofs.Common.{◌≡◌, ◌+◌, ℕ}
use Rattle.draid_uber.specs.Slots.{group_of}
use Rattle.draid_uber.specs.Uber as ubers
use Rattle.draid_pool.specs.Grouping.{ClosesNext}
use Rattle.draid_pool.specs.Rounds.{EachIs, NoneBeyond}
use Rattle.draid_changes.specs.Switching.{AllSameArms}
use Rattle.draid_works.specs.Switched.{TriedOn}
use Rattle.draid_works.proofs.switching.switch_through.Given as goal

abbrev pub invariant-loop : goal.invariant-loop
invariant-loop g l = record {
  fits : g.M.Metaslabs.fits l.metaslabs;
  locks : g.M.Metaslabs.locks l.metaslabs ≡ g.M.Metaslabs.locks l.initial.metaslabs;
  owns : g.M.Metaslabs.owns l.metaslabs ≡ g.M.Metaslabs.owns l.initial.metaslabs;
  valid : ubers.Valid g.A.Area.size l.uber;
  ready : EachIs l.count (ClosesNext g.R.Rack (group_of (ubers.kept_of l.uber) + 1)) (g.M.Metaslabs.last l.metaslabs);
  beyond : NoneBeyond l.count (g.M.Metaslabs.last l.metaslabs);
  alike : AllSameArms (g.M.Metaslabs.last l.metaslabs);
  waits : (n : ℕ) × TriedOn g.R.Rack g.A.Area g.M.Metaslabs.last g.M.Metaslabs.went g.M.Metaslabs.shared (g.M.Metaslabs.owns l.initial.metaslabs) l.count l.leaf l.offline n l.initial.metaslabs l.initial.uber l.metaslabs l.uber;
}
