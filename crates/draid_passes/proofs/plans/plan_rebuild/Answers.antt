use Rattle.std.proofs.lemmas.Bool.{true≢false}
use Rattle.draid_world.specs.World.{arm_in, core_of, pass_of, site_layout, state_of}
use Rattle.draid_names.specs.declared.pass_kind.PassKind.TheVariants.{Rebuild}
use Rattle.draid_machine.proofs.Small.{equal}
use Rattle.draid_machine.specs.declared.names.ArmName.{ArmName}
use Rattle.draid_machine.specs.Names.{has_name}
use Rattle.draid_machine.specs.Arms.{targets_of}
use Rattle.draid_machine.specs.After.{fill_if, map_arm}
use Rattle.std.specs.Prelude.{vec_len}
use Rattle.std.proofs.Common.{◌≡◌, ◌+◌, ◌∙◌, [], Some, ap, arith, false, length, option_map, sym}
use Rattle.draid_passes.proofs.plans.plan_rebuild.Goals as goal

pub returns-clause-legal : goal.returns-clause-legal
returns-clause-legal c = λ e.
    let w = c.args.world.now in
    let l = site_layout c.args.site.now in
    let targets = c.in_ok-targets.targets in
    let are : targets.items ≡ targets_of l (core_of w.tables) Rebuild = c.in_ok-targets.ensures in
    let some : targets_of l (core_of w.tables) Rebuild ≡ [] → ⊥ = λ none.
    let ok = targets.ok.0 in
    let empty : length targets.items ≡ 0 = ap length (are ∙ none) in
    let short : vec_len targets ≡ 0 = omega (arith, ok, empty) in
    true≢false (sym (equal (vec_len targets) 0 short) ∙ sym c.is_empty.ensures ∙ c.if-is_empty.false) in
    let fills : (n : ArmName) → arm_in c.fill_logs.new.arms.entries n ≡ map_arm (fill_if (has_name (targets_of l (core_of w.tables) Rebuild) n) (w.open_group + 1)) (arm_in w.tables.arms.entries n) = λ n.
    c.in_ok-fill_logs.ensures n ∙ ap (λ ns. map_arm (fill_if (has_name ns n) (w.open_group + 1)) (arm_in w.tables.arms.entries n)) (c.deref.ensures.value ∙ are) in
    record {
      idle = ap (option_map pass_of) c.requires.idle;
      last = c.requires.last;
      may = (some, c.if-world-ge-LAST_NUMBER.false);
      made = λ i. record (state_of w) {
        core = record (core_of w.tables) {
          arm = λ n. fills n i;
          pass = Some (record { number = w.tables.last + 1; kind = Rebuild; targets = are i; max = w.open_group + 1; next = 0; errors = 0; running = false });
          last = w.tables.last + 1;
        };
      };
    }
