use Rattle.std.specs.Prelude.{is_some}
use Rattle.std.proofs.Common.{[]}
use Rattle.draid_session.specs.Session.{sits}
use Rattle.draid_run.specs.Shelves.{MayFind}
use Rattle.draid_run.proofs.Legal.{next_reached, off_reached, on_reached}
use Rattle.draid_run.proofs.laws.runs_stay_legal.Goals as goal

pub returns : goal.returns
returns g c words status input old new entry now first crash it reached =
    let s = it.session in
    let mid = on_reached c.args.alloc (g.D.Decides.choices c.args.decider.now) (MayFind g.R.Rack g.A.Area entry) (is_some entry.held) s.lines s.replies s.to (sits first []) (sits s.mid s.journal) s.runs reached in
    (mid, next_reached crash it.last (off_reached c.args.alloc s.lines s.ended s.broken s.saids s.mid it.last s.breaks mid))
