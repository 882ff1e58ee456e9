use Rattle.std.proofs.Common.{◌≡◌, ◌∙◌, ◌<◌, ◌≤◌, ◌^◌, arith, List, [], All, None, ap, length, subst, sym, refl}
use Rattle.std.specs.declared.alloc.Global.{Global}
use Rattle.std.specs.declared.vec.Vec.{Vec}
use Rattle.draid_names.specs.declared.arm.Arm.{Arm}
use Rattle.draid_names.specs.declared.pointer.Pointer.{Pointer}
use Rattle.draid_ranges.specs.Numbers.{Numbers}
use Rattle.draid_record.specs.Ranges.{IsRanged}
use Rattle.draid_record.specs.Record.{limits_of, told_record, told_slots}
use Rattle.draid_record.proofs.Spelled.{spelled_long}
use Rattle.draid_spec.specs.Geometry.{metaslab_sectors, metaslab_stripes}
use Rattle.draid_metaslab.specs.Spaces.{IsSpan}
use Rattle.draid_names.specs.declared.numbers.TheConstants.{NUMBERS}
use Rattle.draid_entries.specs.Listed.{AscendFrom}
use Rattle.draid_entries.specs.Live.{HasLive, first_twice}
use Rattle.draid_record.specs.declared.sizes.TheConstants.{SLOTS_AT}
use Rattle.draid_stable.specs.Opening as spec
use Rattle.draid_stable.specs.Opening.{IsSpaceOf}
use Rattle.draid_stable.proofs.Places.{ascending, each_block, inside, low_block}
use Rattle.draid_stable.proofs.Whole.{few_arms, few_blocks, few_slots, found_whole, metaslab_slots, ranged_of, short_logs, tables_are}
use Rattle.draid_stable.proofs.opening.read_tables.Goals as goal

pub lacking-requires-clause-count : goal.lacking-requires-clause-count
lacking-requires-clause-count g c =
    let limits = limits_of c.args.geometry c.args.metaslab c.args.group c.args.next_leaf in
    let ranged : IsRanged limits (told_record c.in_ok-it.it) =
    ranged_of c.args.geometry c.args.metaslab c.args.group c.args.next_leaf c.args.bytes.now (told_record c.in_ok-it.it) c.requires.layout.geometry_is c.requires.group c.in_ok-it.ensures.found in
    subst (λ (lists : List (Vec (Arm × Numbers) Global)). length lists < 2 ^ 16) (sym c.deref.ensures.value) (few_slots limits c.in_ok-it.it.slots.items ranged.children_are ranged.children_few)

pub lacking-requires-clause-few : goal.lacking-requires-clause-few
lacking-requires-clause-few g c =
    let limits = limits_of c.args.geometry c.args.metaslab c.args.group c.args.next_leaf in
    let ranged : IsRanged limits (told_record c.in_ok-it.it) =
    ranged_of c.args.geometry c.args.metaslab c.args.group c.args.next_leaf c.args.bytes.now (told_record c.in_ok-it.it) c.requires.layout.geometry_is c.requires.group c.in_ok-it.ensures.found in
    subst (λ (lists : List (Vec (Arm × Numbers) Global)). All (λ (list : Vec (Arm × Numbers) Global). length list.items ≤ 3) lists) (sym c.deref.ensures.value)
    (few_arms limits [] c.in_ok-it.it.slots.items ranged.slots_are)

pub lacking-requires-clause-short : goal.lacking-requires-clause-short
lacking-requires-clause-short g c =
    let limits = limits_of c.args.geometry c.args.metaslab c.args.group c.args.next_leaf in
    let ranged : IsRanged limits (told_record c.in_ok-it.it) =
    ranged_of c.args.geometry c.args.metaslab c.args.group c.args.next_leaf c.args.bytes.now (told_record c.in_ok-it.it) c.requires.layout.geometry_is c.requires.group c.in_ok-it.ensures.found in
    subst (λ (lists : List (Vec (Arm × Numbers) Global)). All (λ (list : Vec (Arm × Numbers) Global). All (λ (p : Arm × Numbers). length p.1.runs < 2 ^ 32) list.items) lists) (sym c.deref.ensures.value)
    (short_logs limits [] c.in_ok-it.it.slots.items ranged.slots_are)

pub entries_of-requires-clause-long : goal.entries_of-requires-clause-long
entries_of-requires-clause-long g c =
    spelled_long (limits_of c.args.geometry c.args.metaslab c.args.group c.args.next_leaf) c.args.bytes.now (told_record c.in_ok-it.it) c.in_ok-it.ensures.found

pub entries_of-requires-clause-few : goal.entries_of-requires-clause-few
entries_of-requires-clause-few g c =
    let ranged : IsRanged (limits_of c.args.geometry c.args.metaslab c.args.group c.args.next_leaf) (told_record c.in_ok-it.it) =
    ranged_of c.args.geometry c.args.metaslab c.args.group c.args.next_leaf c.args.bytes.now (told_record c.in_ok-it.it) c.requires.layout.geometry_is c.requires.group c.in_ok-it.ensures.found in
    subst (λ (blocks : List Pointer). length blocks ≤ 8192) (sym c.deref-2.ensures.value) (few_blocks c.args.geometry.props.version (length c.in_ok-it.it.blocks.items) ranged.few)

pub entries_of-requires-clause-ascending : goal.entries_of-requires-clause-ascending
entries_of-requires-clause-ascending g c =
    let limits = limits_of c.args.geometry c.args.metaslab c.args.group c.args.next_leaf in
    let ranged : IsRanged limits (told_record c.in_ok-it.it) =
    ranged_of c.args.geometry c.args.metaslab c.args.group c.args.next_leaf c.args.bytes.now (told_record c.in_ok-it.it) c.requires.layout.geometry_is c.requires.group c.in_ok-it.ensures.found in
    subst (AscendFrom 0) (sym c.deref-2.ensures.value) (ascending limits 0 0 c.in_ok-it.it.blocks.items ranged.blocks_are (omega arith))

pub entries_of-requires-clause-low : goal.entries_of-requires-clause-low
entries_of-requires-clause-low g c =
    let limits = limits_of c.args.geometry c.args.metaslab c.args.group c.args.next_leaf in
    let ranged : IsRanged limits (told_record c.in_ok-it.it) =
    ranged_of c.args.geometry c.args.metaslab c.args.group c.args.next_leaf c.args.bytes.now (told_record c.in_ok-it.it) c.requires.layout.geometry_is c.requires.group c.in_ok-it.ensures.found in
    subst (All (λ (b : Pointer). b.first < NUMBERS)) (sym c.deref-2.ensures.value)
    (each_block (λ b. b.first < NUMBERS) limits 0 c.in_ok-it.it.blocks.items ranged.blocks_are (λ low b is. low_block limits low b ranged.stripes_small is))

pub space_of-requires-clause-inside : goal.space_of-requires-clause-inside
space_of-requires-clause-inside g c =
    let limits = limits_of c.args.geometry c.args.metaslab c.args.group c.args.next_leaf in
    let ranged : IsRanged limits (told_record c.in_ok-it.it) =
    ranged_of c.args.geometry c.args.metaslab c.args.group c.args.next_leaf c.args.bytes.now (told_record c.in_ok-it.it) c.requires.layout.geometry_is c.requires.group c.in_ok-it.ensures.found in
    subst (All (λ (b : Pointer). IsSpan (metaslab_stripes c.args.geometry) b.first b.stripes)) (sym c.deref-3.ensures.value)
    (each_block (λ b. IsSpan (metaslab_stripes c.args.geometry) b.first b.stripes) limits 0 c.in_ok-it.it.blocks.items ranged.blocks_are
    (λ low b is. inside c.args.geometry c.args.metaslab c.args.group c.args.next_leaf low b c.requires.layout.geometry_is is))

pub slots_of-requires-clause-arms : goal.slots_of-requires-clause-arms
slots_of-requires-clause-arms g c =
    let ranged : IsRanged (limits_of c.args.geometry c.args.metaslab c.args.group c.args.next_leaf) (told_record c.in_ok-it.it) =
    ranged_of c.args.geometry c.args.metaslab c.args.group c.args.next_leaf c.args.bytes.now (told_record c.in_ok-it.it) c.requires.layout.geometry_is c.requires.group c.in_ok-it.ensures.found in
    metaslab_slots c.args.geometry c.args.metaslab c.args.group c.args.next_leaf c.in_ok-it.it.slots.items ranged.slots_are ranged.children_are

pub returns-clause-read : goal.returns-clause-read
returns-clause-read g c =
    let limits = limits_of c.args.geometry c.args.metaslab c.args.group c.args.next_leaf in
    let ranged : IsRanged limits (told_record c.in_ok-it.it) =
    ranged_of c.args.geometry c.args.metaslab c.args.group c.args.next_leaf c.args.bytes.now (told_record c.in_ok-it.it) c.requires.layout.geometry_is c.requires.group c.in_ok-it.ensures.found in
    let there = spec.has_leaf (g.R.Rack.shape c.args.rack.now) (metaslab_sectors c.args.geometry) in
    let lacks : spec.lacking_from there SLOTS_AT (told_slots c.in_ok-it.it.slots.items) ≡ None =
    ap (λ (lists : List (Vec (Arm × Numbers) Global)). spec.lacking_from there SLOTS_AT (told_slots lists)) (sym c.deref.ensures.value)
    ∙ ap (λ n. spec.lacking_from (spec.has_leaf (g.R.Rack.shape c.args.rack.now) n) SLOTS_AT (told_slots c.deref.result.now)) (sym c.metaslab_sectors.ensures.value) ∙ sym c.lacking.ensures ∙ c.in_default.is in
    let once : first_twice c.in_ok-it.it.blocks.items ≡ None = ap first_twice (sym c.deref-2.ensures.value) ∙ c.in_ok-entries.ensures.once in
    record {
      value = told_record c.in_ok-it.it;
      found = found_whole limits there c.args.bytes.now (told_record c.in_ok-it.it) c.in_ok-it.ensures.exact lacks once;
      ranged = ranged;
      tables = tables_are c.args.geometry c.args.perms c.args.metaslab c.args.group c.args.next_leaf there c.args.bytes.now c.in_ok-it.it ranged _
          (subst (HasLive c.in_ok-entries.entries) c.deref-2.ensures.value c.in_ok-entries.ensures.live)
          c.in-Ok-slots_of.ensures.of c.in-Ok-slots_of.ensures.arms c.in-Ok-slots_of.ensures.logs c.in-Ok-slots_of.ensures.detached c.in-Ok-slots_of.ensures.room
          (subst (λ blocks. IsSpaceOf c.args.geometry blocks c.in-Ok.space) c.deref-3.ensures.value c.in-Ok.ensures) refl refl c.in_ok-it.ensures.number;
    }
