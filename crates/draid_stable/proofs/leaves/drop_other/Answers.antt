use Rattle.std.proofs.Common.{◌≡◌, ◌∙◌, ap, false, not, sym}
use Rattle.std.proofs.lemmas.Bool.{true≢false}
use Rattle.draid_names.specs.declared.arm.ArmAt.{ArmAt}
use Rattle.draid_names.specs.declared.arm.ArmKind.TheVariants.{Leaf}
use Rattle.draid_rack.specs.Rack.{Shape}
use Rattle.draid_rack.proofs.Moments.{left_drops}
use Rattle.draid_slots.specs.Table.{IsArmOf, arm_at}
use Rattle.draid_stable.specs.Opening.{has_leaf_arm}
use Rattle.draid_stable.proofs.Gone.{counts_kept, kept_leaf, no_arm, none_of, not_named}
use Rattle.draid_stable.proofs.There.{found_leaf}
use Rattle.draid_stable.proofs.leaves.drop_other.Goals as goal

pub returns-then-is_none-clause-told : goal.returns-then-is_none-clause-told
returns-then-is_none-clause-told g c =
    let none : has_leaf_arm c.args.slots.now c.args.leaf ≡ false = no_arm c.args.slots.now c.args.leaf
    (none_of c.find.result ((at : ArmAt) → ¬ (IsArmOf Leaf c.args.leaf (arm_at c.args.slots.now at))) c.if-is_none.ensures c.find.ensures.none) in
    left_drops (λ leaf sector. not (has_leaf_arm c.args.slots.now leaf)) c.args.leaf (g.R.Rack.told c.args.rack.now) (g.R.Rack.told c.drop_leaf.new.self)
    (λ s. not_named (has_leaf_arm c.args.slots.now c.args.leaf) none) c.drop_leaf.ensures.told

pub returns-then-is_none-clause-kept : goal.returns-then-is_none-clause-kept
returns-then-is_none-clause-kept g c other named =
    let none : has_leaf_arm c.args.slots.now c.args.leaf ≡ false = no_arm c.args.slots.now c.args.leaf
    (none_of c.find.result ((at : ArmAt) → ¬ (IsArmOf Leaf c.args.leaf (arm_at c.args.slots.now at))) c.if-is_none.ensures c.find.ensures.none) in
    ap (λ (s : Shape). s.leaves other) c.drop_leaf.ensures.shape ∙ kept_leaf (has_leaf_arm c.args.slots.now) (g.R.Rack.shape c.args.rack.now).leaves c.args.leaf other none named

pub returns-else-is_none-clause-gone : goal.returns-else-is_none-clause-gone
returns-else-is_none-clause-gone g c none = absurd (true≢false (sym (found_leaf c.args.slots.now c.args.leaf c.find.result c.if-is_none.ensures c.find.ensures.found) ∙ none))

pub returns-then-is_none-clause-later : goal.returns-then-is_none-clause-later
returns-then-is_none-clause-later g c =
    let none : has_leaf_arm c.args.slots.now c.args.leaf ≡ false = no_arm c.args.slots.now c.args.leaf
    (none_of c.find.result ((at : ArmAt) → ¬ (IsArmOf Leaf c.args.leaf (arm_at c.args.slots.now at))) c.if-is_none.ensures c.find.ensures.none) in
    counts_kept c.args.slots.now c.args.leaf (g.R.Rack.faults c.args.rack.now) (g.R.Rack.faults c.drop_leaf.new.self) none c.drop_leaf.ensures.later
