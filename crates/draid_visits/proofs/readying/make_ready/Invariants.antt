use Rattle.std.proofs.Common.{◌≡◌, ◌+◌, ◌-◌, ℕ}
use Rattle.draid_names.specs.declared.pass_kind.PassKind.TheVariants.{Rebuild}
use Rattle.draid_names.specs.declared.numbers.TheConstants.{LAST_NUMBER}
use Rattle.draid_uber.specs.Slots.{group_of}
use Rattle.draid_uber.specs.Uber as ubers
use Rattle.draid_pool.specs.Grouping.{ClosesNext}
use Rattle.draid_pool.specs.Rounds.{EachIs, NoneBeyond}
use Rattle.draid_pool.specs.Threads.{KeepsWhole, all_of}
use Rattle.draid_visits.specs.Readies.{AllKeptFor, MayReadyIn, Waited}
use Rattle.draid_visits.specs.Starts.{LeftSo}
use Rattle.draid_visits.proofs.readying.make_ready.Given as goal

abbrev pub invariant-waits : goal.invariant-waits
invariant-waits g l = record {
  fits : g.M.Metaslabs.fits l.metaslabs;
  locks : g.M.Metaslabs.locks l.metaslabs ≡ g.M.Metaslabs.locks l.initial.metaslabs;
  owns : g.M.Metaslabs.owns l.metaslabs ≡ g.M.Metaslabs.owns l.initial.metaslabs;
  valid : ubers.Valid g.A.Area.size l.uber;
  ready : EachIs l.count (ClosesNext g.R.Rack (group_of (ubers.kept_of l.uber) + 1)) (g.M.Metaslabs.last l.metaslabs);
  beyond : NoneBeyond l.count (g.M.Metaslabs.last l.metaslabs);
  whole : KeepsWhole g.R.Rack (g.M.Metaslabs.owns l.initial.metaslabs) (all_of (g.M.Metaslabs.owns l.initial.metaslabs)) (g.M.Metaslabs.last l.initial.metaslabs) (g.M.Metaslabs.last l.metaslabs);
  rebuild : LeftSo l.metaslab (MayReadyIn g.R.Rack) (g.M.Metaslabs.last l.metaslabs);
  kept : AllKeptFor Rebuild (g.M.Metaslabs.last l.initial.metaslabs) (g.M.Metaslabs.last l.metaslabs);
  waited : (n : ℕ) × Waited g.R.Rack g.A.Area g.M.Metaslabs.last g.M.Metaslabs.went g.M.Metaslabs.shared (g.M.Metaslabs.owns l.initial.metaslabs) (g.S.Syncs.relates (g.M.Metaslabs.owns l.initial.metaslabs) l.count) l.metaslab n l.initial.metaslabs l.initial.uber l.metaslabs l.uber;
}

abbrev pub decreases-waits : goal.decreases-waits
decreases-waits g l = LAST_NUMBER - group_of (ubers.kept_of l.uber)
