use Rattle.std.proofs.Common.{◌≡◌, ◌∙◌, ◌⊎◌, inl, inr, true, Some, None, is_some, not, option_map, ap, refl, sym}
use Rattle.std.specs.Prelude.{IsSome}
use Rattle.std.proofs.lemmas.Bool.{true≢false}
use Rattle.draid_area.specs.Memory.{size_of_memory}
use Rattle.draid_shelf.specs.Memory.{area_count, check_counts, content_of, held_by, kit_counts, shape_at}
use Rattle.draid_shelf.specs.declared.devices.Devices.{Devices}
use Rattle.draid_shelf.proofs.Taken.{Asked, area_some, asked, count_kept, count_risen, is_failure, just_risen, lists_kept, no_failure, plan_kept, refuses, same_count, succeeds}
use Rattle.draid_shelf.proofs.kits.MemoryShelfShelf.take_uber.Goals.{then-fails-via-then-fails, then-fails-via-else-fails+then-is_missing}
use Rattle.draid_shelf.proofs.kits.MemoryShelfShelf.take_uber.Goals as goal

pub returns-then-fails : goal.returns-then-fails
returns-then-fails c =
    let mid : Asked c.args.self.now c.fails.new.self c.then-fails.self = elim c.then-fails.branch [
      | then-fails-via-then-fails w ↦ asked _ _ _ _ w.self-is (record { devices = refl; plan = refl; calls_are = refl; faults = refl; rule = refl })
      | then-fails-via-else-fails+then-is_missing w ↦ asked _ _ _ _ w.self-is (record { devices = refl; plan = refl; calls_are = refl; faults = refl; rule = refl })
    ] in
    let why : (c.fails.result ≡ true) ⊎ (IsSome c.args.self.now.devices.uber → ⊥) = elim c.then-fails.branch [
      | then-fails-via-then-fails w ↦ inl w.if-fails.true
      | then-fails-via-else-fails+then-is_missing w ↦ inr (λ there. true≢false (sym there ∙ c.is_none-is_missing.ensures ∙ ap (λ b. not b) w.if-is_missing.true))
    ] in
    let e = c.failed.ensures in
    let same : c.failed.new.self.devices ≡ c.args.self.now.devices = e.devices ∙ mid.devices in
    record {
      area = tt;
      told = tt;
      size = tt;
      count = tt;
      leaves = λ m. ap (λ (d : Devices). shape_at d.racks m) same;
      counts = λ m. ap (λ (d : Devices). kit_counts d m) same;
      check_counts = ap (λ (d : Devices). check_counts d) same;
      err = ap (λ (d : Devices). Some (held_by d)) same;
      err_size = ap (λ (d : Devices). option_map size_of_memory d.uber) same;
      err_count = ap (λ (d : Devices). area_count d.uber) same;
      moved = tt;
      kept = same;
      plan = plan_kept c.args.self.now c.failed.new.self c.fails.new.self (e.rule ∙ mid.rule) (e.plan ∙ mid.plan) (e.calls ∙ mid.calls_are) c.fails.ensures.failing;
      needs = λ _. is_failure _ e.fault;
      cause = count_risen _ _ _ _ mid.faults e.rose e.later;
      device = λ _. is_failure _ e.fault;
      risen = just_risen _ _ _ _ e.fault mid.faults e.risen;
      exact = refuses _ c.failed.result c.fails.result c.args.self.now.calls c.fails.new.self c.failed.new.self.calls e.fault c.args.self.now.unfused c.fails.ensures (e.calls ∙ mid.calls_are) why;
    }

pub returns : goal.returns
returns c =
    let was : c.args.self.now.devices.uber ≡ Some c.in-Some.area = sym c.take.ensures.value ∙ c.in-Some.is in
    let gone : c.take.new.self ≡ None = c.take.ensures.after in
    record {
      area = ap (λ x. content_of x) (sym was);
      told = rw gone;
      size = rw was refl;
      count = ap (λ x. area_count x) (sym was);
      leaves = λ _. refl;
      counts = λ _. refl;
      check_counts = refl;
      err = tt;
      err_size = tt;
      err_count = tt;
      moved = (was, record { racks = refl; evens = refl; odds = refl; even_is = refl; odd_is = refl; uber_is = gone });
      kept = tt;
      plan = record { rule = refl; lists = lists_kept c.args.self.now.calls c.fails.new.self c.args.self.now.plan c.fails.ensures.failing; fuse = refl };
      needs = λ none. absurd (area_some _ c.in-Some.area was none);
      cause = count_kept _ _;
      device = no_failure _;
      risen = same_count _ _;
      exact = succeeds _ _ _ _ c.if-fails.ensures (ap (λ x. is_some x) was);
    }
