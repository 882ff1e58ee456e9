use Rattle.std.proofs.Common.{◌≡◌, ◌∙◌, ◌&&◌, ap, sym, not, true, false, Some, None, is_none, option_copied, rules}
use Rattle.draid_machine.specs.declared.names.ArmName.TheVariants.{Leaf}
use Rattle.draid_world.specs.World.{core_of}
use Rattle.draid_world.proofs.Maps.{answers_some, answers_none, arm_found}
use Rattle.draid_world.proofs.world.Tables.leaf_answers.Goals as goal

pub returns-then-is_none : goal.returns-then-is_none
returns-then-is_none c =
    let gone : is_none c.in-Some.arm.now.gone ≡ true = search rules in
    ap (λ b. b && not c.in-Some.arm.now.offline) (sym gone)
    ∙ answers_some (core_of c.args.self.now) c.args.leaf c.in-Some.arm.now (arm_found c.args.self.now.arms.entries (Leaf c.args.leaf) (Some c.in-Some.arm.now) (sym c.get.ensures.value ∙ ap option_copied c.in-Some.is))

pub returns-else-is_none : goal.returns-else-is_none
returns-else-is_none c =
    let gone : is_none c.in-Some.arm.now.gone ≡ c.is_none.result = search rules in
    let no : c.is_none.result ≡ false = search rules in
    no ∙ ap (λ b. b && not c.in-Some.arm.now.offline) (sym (gone ∙ no))
    ∙ answers_some (core_of c.args.self.now) c.args.leaf c.in-Some.arm.now (arm_found c.args.self.now.arms.entries (Leaf c.args.leaf) (Some c.in-Some.arm.now) (sym c.get.ensures.value ∙ ap option_copied c.in-Some.is))

pub returns-in-None : goal.returns-in-None
returns-in-None c = answers_none (core_of c.args.self.now) c.args.leaf (arm_found c.args.self.now.arms.entries (Leaf c.args.leaf) None (sym c.get.ensures.value ∙ ap option_copied c.in-None.is))
