use Rattle.std.proofs.Common.{◌≡◌, ◌∙◌, ◌⊎◌, inl, inr, true, Some, None, is_some, not, option_map, ap, ap₂, refl, sym}
use Rattle.std.proofs.lemmas.Bool.{true≢false}
use Rattle.draid_area.specs.Memory.{size_of_memory}
use Rattle.draid_shelf.specs.Kits.{checks_of}
use Rattle.draid_shelf.specs.Memory.{HoldsChecks, area_count, check_counts, content_of, held_by, kit_counts, shape_at}
use Rattle.draid_shelf.specs.declared.devices.Devices.{Devices}
use Rattle.draid_shelf.proofs.Taken.{Asked, asked, count_kept, count_risen, is_failure, just_risen, lists_kept, no_failure, plan_kept, refuses, same_count, succeeds}
use Rattle.draid_shelf.proofs.kits.MemoryShelfShelf.take_check.Goals.{then-is_none, else-is_none, then-fails-via-then-fails, then-fails-via-else-fails+then-is_missing}
use Rattle.draid_shelf.proofs.kits.MemoryShelfShelf.take_check.Goals as goal

pub returns-then-fails : goal.returns-then-fails
returns-then-fails c =
    let mid : Asked c.args.self.now c.fails.new.self c.then-fails.self = elim c.then-fails.branch [
      | then-fails-via-then-fails w ↦ asked _ _ _ _ w.self-is (record { devices = refl; plan = refl; calls_are = refl; faults = refl; rule = refl })
      | then-fails-via-else-fails+then-is_missing w ↦ asked _ _ _ _ w.self-is (record { devices = refl; plan = refl; calls_are = refl; faults = refl; rule = refl })
    ] in
    let missing : c.if-is_none.is_missing ≡ true → HoldsChecks c.args.self.now.devices → ⊥ = (λ so there. elim c.if-is_none.branch [
      | then-is_none v ↦ true≢false (sym there.even ∙ c.is_none.ensures ∙ ap (λ b. not b) v.if-is_none.true)
      | else-is_none v ↦ true≢false (sym there.odd ∙ v.is_none-is_missing.ensures ∙ ap (λ b. not b) (sym v.is_missing-is ∙ so))
    ]) in
    let why : (c.fails.result ≡ true) ⊎ (HoldsChecks c.args.self.now.devices → ⊥) = elim c.then-fails.branch [
      | then-fails-via-then-fails w ↦ inl w.if-fails.true
      | then-fails-via-else-fails+then-is_missing w ↦ inr (missing w.if-is_missing.true)
    ] in
    let e = c.failed.ensures in
    let same : c.failed.new.self.devices ≡ c.args.self.now.devices = e.devices ∙ mid.devices in
    record {
      areas = tt;
      told = tt;
      even_count = tt;
      odd_count = tt;
      leaves = λ m. ap (λ (d : Devices). shape_at d.racks m) same;
      counts = λ m. ap (λ (d : Devices). kit_counts d m) same;
      uber = ap (λ (d : Devices). option_map size_of_memory d.uber) same;
      uber_count = ap (λ (d : Devices). area_count d.uber) same;
      needs = λ _. is_failure _ e.fault;
      err = ap (λ (d : Devices). Some (held_by d)) same;
      err_counts = ap (λ (d : Devices). check_counts d) same;
      moved = tt;
      kept = same;
      plan = plan_kept c.args.self.now c.failed.new.self c.fails.new.self (e.rule ∙ mid.rule) (e.plan ∙ mid.plan) (e.calls ∙ mid.calls_are) c.fails.ensures.failing;
      cause = count_risen _ _ _ _ mid.faults e.rose e.later;
      device = λ _. is_failure _ e.fault;
      risen = just_risen _ _ _ _ e.fault mid.faults e.risen;
      exact = refuses _ c.failed.result c.fails.result c.args.self.now.calls c.fails.new.self c.failed.new.self.calls e.fault c.args.self.now.unfused c.fails.ensures (e.calls ∙ mid.calls_are) why;
    }

pub returns : goal.returns
returns c =
    let even : c.args.self.now.devices.check_even ≡ Some c.in-Some-Some.even = sym c.take.ensures.value ∙ c.in-Some-Some.is-0 in
    let odd : c.args.self.now.devices.check_odd ≡ Some c.in-Some-Some.odd = sym c.take-2.ensures.value ∙ c.in-Some-Some.is-1 in
    let none_even : c.take.new.self ≡ None = c.take.ensures.after in
    let none_odd : c.take-2.new.self ≡ None = c.take-2.ensures.after in
    record {
      areas = ap₂ (λ x y. checks_of (content_of x) (content_of y)) (sym even) (sym odd);
      told = rw none_even;
      even_count = ap (λ x. area_count x) (sym even);
      odd_count = ap (λ x. area_count x) (sym odd);
      leaves = λ _. refl;
      counts = λ _. refl;
      uber = refl;
      uber_count = refl;
      needs = λ none. let some = ap₂ (λ x y. checks_of (content_of x) (content_of y)) (sym even) (sym odd) ∙ none in absurd (cc);
      err = tt;
      err_counts = tt;
      moved = (even, odd, record { racks = refl; evens = refl; odds = refl; even_is = none_even; odd_is = none_odd; uber_is = refl });
      kept = tt;
      plan = record { rule = refl; lists = lists_kept c.args.self.now.calls c.fails.new.self c.args.self.now.plan c.fails.ensures.failing; fuse = refl };
      cause = count_kept _ _;
      device = no_failure _;
      risen = same_count _ _;
      exact = succeeds _ _ _ _ c.if-fails.ensures (record { even = ap (λ x. is_some x) even; odd = ap (λ x. is_some x) odd });
    }
