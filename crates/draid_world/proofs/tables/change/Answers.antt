use Rattle.std.proofs.Common.{Some, IsSome, ap, is_some, subst, sym}
use Rattle.std.proofs.lemmas.Bool.{true≢false}
use Rattle.draid_world.proofs.Maps.{held_updated, is_some_held}
use Rattle.draid_world.proofs.tables.change.Goals as goal

pub returns-in-Some : goal.returns-in-Some
returns-in-Some c =
    let found = sym c.in-Some.ensures.value in
    let holds = c.get_mut.follows.holds c.args.value in
    held_updated c.args.held.now.entries _ c.args.key (Some c.args.value) (holds.3 (ap is_some found)).0

pub returns-in_default : goal.returns-in_default
returns-in_default c = absurd (true≢false (sym (subst (λ o. IsSome o) (sym c.in_default.ensures.value) (is_some_held c.args.held.now.entries c.args.key c.requires.there))))
