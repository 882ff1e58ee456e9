use Rattle.std.proofs.Common.{◌≡◌, ◌||◌, ◌&&◌, not, rules}
use Rattle.draid_export.proofs.OnePass.{found_more, found_none}
use Rattle.draid_export.proofs.unsynced.is_unsynced.Goals as goal
use Rattle.draid_export.proofs.unsynced.is_unsynced.Goals.{then-others, else-others+then-closed, else-others+else-closed, then-closed-2, else-closed-2, then-commits, else-commits}

pub loop-event-init : goal.loop-event-init
loop-event-init c = found_none c.args.committed c.args.events.now

pub loop-event-preserved : goal.loop-event-preserved
loop-event-preserved c =
    let l = c.loop-event in
    let others : c.if-others.others ≡ (l.others || (l.closed && not c.ends_group-ends.result)) = elim c.if-others.branch [
      | then-others w ↦ search rules
      | else-others+then-closed w ↦ search rules
      | else-others+else-closed w ↦ search rules
    ] in
    let closed : c.if-closed-2.closed ≡ (l.closed || c.is_close_of-closes.result) = elim c.if-closed-2.branch [ then-closed-2 w ↦ search rules | else-closed-2 w ↦ search rules ] in
    let commits : c.if-commits.commits ≡ (l.commits || c.is_commit-commit.result) = elim c.if-commits.branch [ then-commits w ↦ search rules | else-commits w ↦ search rules ] in
    rw (others, closed, commits)
    (found_more c.args.committed c.args.events.now l.event-index l.closed l.others l.commits c.ends_group-ends.result c.is_close_of-closes.result c.is_commit-commit.result c.event-item.result
    c.loop-event-test.true c.event-item.is c.ends_group-ends.ensures c.is_close_of-closes.ensures c.is_commit-commit.ensures l.invariant)
