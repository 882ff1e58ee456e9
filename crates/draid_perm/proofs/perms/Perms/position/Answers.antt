use Rattle.std.proofs.Common.{◌<◌, sym, ◌∙◌, arith}
use Rattle.std.proofs.Math.Nat.{mod-lt}
use Rattle.draid_perm.proofs.Children.{child_apart, child_at, position_in}
use Rattle.draid_perm.proofs.perms.Perms.position.Goals as goal

pub index_of-requires : goal.index_of-requires
index_of-requires c =
    let some : 0 < c.args.self.now.n = omega arith in
    (c.args.self.now.permuted c.turn-row.result.0 c.turn-row.ensures.base).onto _ (mod-lt _ some)

pub returns-clause-inverse : goal.returns-clause-inverse
returns-clause-inverse c =
    child_at c.args.self.now c.args.slice _ _ _ _ c.requires c.turn-row.ensures.row c.turn-row.ensures.turn c.index_of.ensures.within c.index_of.ensures.item

pub returns-clause-only : goal.returns-clause-only
returns-clause-only c = λ position below same.
    child_apart c.args.self.now c.args.slice position c.index_of.result below (position_in c.args.self.now.n _ c.index_of.result c.index_of.ensures.within)
    (same ∙ sym (returns-clause-inverse c))
