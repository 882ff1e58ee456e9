use Rattle.std.proofs.Common.{[], List, ℕ, Contains, refl, subst}
use Rattle.draid_names.specs.declared.journal.Did.TheVariants.{NoneFree}
use Rattle.draid_session.specs.Phases.{Went}
use Rattle.draid_pool.specs.Syncing.{Phase}
use Rattle.draid_pool.proofs.Steps.{carried}
use Rattle.draid_changes.specs.Giving.{GivesOne}
use Rattle.draid_changes.proofs.Spares.{less_ready}
use Rattle.draid_changes.proofs.giving.give_one.Goals as goal

pub returns-in_default-clause-left : goal.returns-in_default-clause-left
returns-in_default-clause-left g c = λ more ready. less_ready more c.args.pool.now ready

pub returns-in_default-clause-carries : goal.returns-in_default-clause-carries
returns-in_default-clause-carries g c = λ x is.
    carried g.R.Rack g.A.Area c.args.pool.now x [] x (Phase x (GivesOne x.geometry x.perms NoneFree c.args.due.slot) Went) refl is (refl, (refl, refl))

pub give_spare-requires-clause-may : goal.give_spare-requires-clause-may
give_spare-requires-clause-may g c =
    c.requires.may c.in-Some.spare (subst (λ (free : List ℕ). Contains free c.in-Some.spare) c.as_slice.ensures.value (c.in-Some.ensures.names.some c.in-Some.spare refl))
