use Rattle.std.proofs.Common.{◌≡◌, ◌∙◌, ◌⊎◌, inl, inr, true, Some, None, option_map, ap, refl, sym}
use Rattle.std.proofs.lemmas.Bool.{true≢false}
use Rattle.draid_rack.specs.Memory.{shape_of_memory}
use Rattle.draid_area.specs.Memory.{size_of_memory}
use Rattle.draid_shelf.specs.Memory.{HoldsKit, area_at, area_count, check_counts, counts_by, held_by, kit_counts, rack_at, shape_at}
use Rattle.draid_shelf.specs.declared.devices.Devices.{Devices}
use Rattle.draid_shelf.proofs.Holdings.{held_set}
use Rattle.draid_shelf.proofs.Taken.{count_kept, count_risen, has_sector, is_failure, is_known, just_risen, kit_some, kit_taken, lists_kept, no_failure, plan_kept, refuses, same_count, set_other, succeeds}
use Rattle.draid_shelf.proofs.kits.MemoryShelfShelf.take.Goals.{then-fails-via-then-fails, then-fails-via-else-fails+then-not-holds}
use Rattle.draid_shelf.proofs.kits.MemoryShelfShelf.take.Goals as goal

pub returns-then-fails : goal.returns-then-fails
returns-then-fails c =
    let why : (c.fails.result ≡ true) ⊎ (HoldsKit c.args.self.now.devices c.args.metaslab c.args.geometry.now.props.sector → ⊥) = elim c.then-fails.branch [
      | then-fails-via-then-fails w ↦ inl w.if-fails.true
      | then-fails-via-else-fails+then-not-holds w ↦ inr (λ there. true≢false (sym (w.holds.ensures.1 there) ∙ w.if-not-holds.true))
    ] in
    let e = c.failed.ensures in
    let same : c.failed.new.self.devices ≡ c.args.self.now.devices = e.devices in
    record {
      sectors = tt;
      leaves = tt;
      kit = tt;
      told = tt;
      rack_count = tt;
      even_count = tt;
      odd_count = tt;
      others = λ q _. ap (λ (d : Devices). shape_at d.racks q) same;
      counts = λ q _. ap (λ (d : Devices). kit_counts d q) same;
      uber = ap (λ (d : Devices). option_map size_of_memory d.uber) same;
      uber_count = ap (λ (d : Devices). area_count d.uber) same;
      check_counts = ap (λ (d : Devices). check_counts d) same;
      err = ap (λ (d : Devices). Some (held_by d)) same;
      err_leaves = ap (λ (d : Devices). shape_at d.racks c.args.metaslab) same;
      err_counts = ap (λ (d : Devices). kit_counts d c.args.metaslab) same;
      moved = tt;
      kept = same;
      plan = plan_kept c.args.self.now c.failed.new.self c.fails.new.self e.rule e.plan e.calls c.fails.ensures.failing;
      needs = λ _. is_failure _ e.fault;
      cause = count_risen _ _ _ _ refl e.rose e.later;
      device = λ _. is_failure _ e.fault;
      risen = just_risen _ _ _ _ e.fault refl e.risen;
      exact = refuses _ c.failed.result c.fails.result c.args.self.now.calls c.fails.new.self c.failed.new.self.calls e.fault c.args.self.now.unfused c.fails.ensures e.calls why;
    }

pub returns : goal.returns
returns c =
    let m = c.args.metaslab in
    let s = c.in-Some-Some-Some in
    let rack : rack_at c.args.self.now.devices.racks m ≡ Some s.rack = sym c.take_from-rack.ensures.taken ∙ s.is-0 in
    let even : area_at c.args.self.now.devices.evens m ≡ Some s.even = sym c.take_from-even.ensures.taken ∙ s.is-1 in
    let odd : area_at c.args.self.now.devices.odds m ≡ Some s.odd = sym c.take_from-odd.ensures.taken ∙ s.is-2 in
    let there : HoldsKit c.args.self.now.devices m c.args.geometry.now.props.sector = c.holds.ensures.0 c.if-not-holds.false in
    record {
      sectors = has_sector _ s.rack _ rack there.rack;
      leaves = is_known _ s.rack rack;
      kit = kit_taken _ _ _ _ _ _ rack even odd;
      told = held_set c.args.metaslab None None None c.args.self.now.devices _ c.take_from-rack.ensures.left c.take_from-even.ensures.left c.take_from-odd.ensures.left refl refl refl;
      rack_count = λ who. ap (λ r. counts_by r who) (sym rack);
      even_count = ap (λ x. area_count x) (sym even);
      odd_count = ap (λ x. area_count x) (sym odd);
      others = λ q away. ap (option_map shape_of_memory) (set_other _ _ None q m away (c.take_from-rack.ensures.left q));
      counts = λ q away. λ j. record {
        rack = counts_by (set_other _ _ None q m away (c.take_from-rack.ensures.left q) j);
        even = area_count (set_other _ _ None q m away (c.take_from-even.ensures.left q) j);
        odd = area_count (set_other _ _ None q m away (c.take_from-odd.ensures.left q) j);
      };
      uber = refl;
      uber_count = refl;
      check_counts = refl;
      err = tt;
      err_leaves = tt;
      err_counts = tt;
      moved = (rack, even, odd, record { racks = c.take_from-rack.ensures.left; evens = c.take_from-even.ensures.left; odds = c.take_from-odd.ensures.left; check_even = refl; check_odd = refl; uber = refl });
      kept = tt;
      plan = record { rule = refl; lists = lists_kept c.args.self.now.calls c.fails.new.self c.args.self.now.plan c.fails.ensures.failing; fuse = refl };
      needs = λ none. absurd (kit_some _ _ _ s.rack s.even s.odd rack even odd none);
      cause = count_kept _ _;
      device = no_failure _;
      risen = same_count _ _;
      exact = succeeds _ _ _ _ c.if-fails.ensures there;
    }
