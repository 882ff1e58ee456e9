use Rattle.std.proofs.Common.{◌≡◌, ◌+◌, not, Bool, filter, rules}
use Rattle.std.proofs.lemmas.Fn.{filter_same}
use Rattle.draid_machine.specs.declared.names.ArmName.{ArmName}
use Rattle.draid_machine.specs.Names.{has_name}
use Rattle.draid_machine.specs.After.{capped}
use Rattle.draid_world.specs.World.{pass_of}
use Rattle.draid_arms.proofs.changes.lose_targets.Goals as goal

pub returns : goal.returns
returns c =
    let test : ArmName → Bool = λ n. not (has_name c.args.lost.now n) in
    let left : c.retain.new.self.items ≡ filter test c.args.pass.now.targets.items = filter_same _ test _ (λ x b f' k. search rules) _ _ c.retain.ensures.filtered in
    let errors : c.min-pass.result ≡ capped (c.args.pass.now.errors + 0) = search rules in
    λ i. record (pass_of c.args.pass.now) { targets = left i; errors = errors i }
