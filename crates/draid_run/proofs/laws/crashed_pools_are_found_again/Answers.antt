use Rattle.std.proofs.Common.{[], ◌∷◌, ◌++◌, subst, true}
use Rattle.draid_session.specs.Places.{Outside}
use Rattle.draid_session.specs.Sections.{RunsOn}
use Rattle.draid_session.specs.Session.{Agrees, sits}
use Rattle.draid_run.specs.Shelves.{MayFind}
use Rattle.draid_run.proofs.Next.{again}
use Rattle.draid_run.proofs.Runs.{shelf_agrees}
use Rattle.draid_run.proofs.laws.crashed_pools_are_found_again.Goals as goal

pub returns : goal.returns
returns g c words status input old new entry now first it tells holds known front back crash import said behind called group objects is_crash is_import same lines replies =
    let choices = g.D.Decides.choices c.args.decider.now in
    let finds = MayFind g.R.Rack g.A.Area entry in
    let s = it.session in
    let start = sits first [] in
    let mid = sits s.mid s.journal in
    let told = subst (λ b. RunsOn choices finds b Outside start s.lines s.replies s.to mid) tells s.runs in
    let lined = subst (λ ls. RunsOn choices finds true Outside start ls s.replies s.to mid) lines told in
    let runs = subst (λ rs. RunsOn choices finds true Outside start (front ++ (crash ∷ import ∷ back)) rs s.to mid) replies lined in
    again choices finds crash import back called group objects behind s.to mid front said start same is_crash is_import known (subst (λ b. Agrees b first) tells (shelf_agrees first entry entry holds)) runs
