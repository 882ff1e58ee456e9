use Rattle.std.specs.Prelude.{vec_capacity}
use Rattle.std.proofs.Common.{Err, length, ◌≡◌, ◌≤◌, ◌+◌, ◌^◌, ◌∙◌, ℕ, true, IsSome, List, None, Some, Vec, Global, All, ap, refl, sym, subst}
use Rattle.draid_names.specs.declared.pointer.Pointer.{Pointer}
use Rattle.draid_area.specs.Area as content
use Rattle.draid_rack.specs.Rack.{OnBothTold}
use Rattle.draid_columns.specs.Flushes.{FlushesBut, has_leaf}
use Rattle.draid_machine.specs.declared.event.Event.TheVariants.{Seal}
use Rattle.draid_machine.specs.After.{image_of, seal_state, sealed_core}
use Rattle.draid_machine.specs.Created.{IsReached}
use Rattle.draid_machine.specs.Step.{SealStep}
use Rattle.draid_machine.specs.State as machine
use Rattle.draid_machine.proofs.Small.{some_injective}
use Rattle.draid_entries.specs.Thin.{ThinIs}
use Rattle.draid_spec.specs.declared.layout.Geometry.{Geometry}
use Rattle.draid_spec.specs.Geometry.{metaslab_stripes}
use Rattle.draid_marks.specs.Counting.{BeginBelow}
use Rattle.draid_marks.specs.Layout.{layout_with}
use Rattle.draid_marks.specs.Missed.{MarksTable}
use Rattle.draid_marks.specs.Silent.{AreSilent}
use Rattle.draid_stable.specs.Sealing.{IsSettled, LosesTargets}
use Rattle.draid_stable.specs.Stable.{Stands}
use Rattle.draid_stable.proofs.Logs.{copied_small}
use Rattle.draid_record.specs.Record.{told_record}
use Rattle.draid_shard.specs.Fits.{Valid, birth_groups, changes_for_end, oldest_open}
use Rattle.draid_shard.specs.States.{Does, IsIn, layout_by, part_of}
use Rattle.draid_shard.proofs.Kept.{stored_more}
use Rattle.draid_shard.proofs.Changed.{same_arms, same_entries}
use Rattle.draid_shard.proofs.Staging.{room_for}
use Rattle.draid_shard.proofs.Standing.{reached_more}
use Rattle.draid_pool.specs.Groups.{ListsOnce}
use Rattle.draid_pool.specs.Sealing.{area_by}
use Rattle.draid_pool.proofs.Counting.{begin_inside}
use Rattle.draid_pool.proofs.Keeping.{pass_lost, pass_still}
use Rattle.draid_pool.proofs.Ranging.{blocks_low}
use Rattle.draid_pool.proofs.SealRecords.{Settles, has_record, no_writes, writes}
use Rattle.draid_pool.proofs.SealSteps.{birth_high, birth_low, flushes_acts, flushes_leave, layout_same, marked_sound, on_told, one_after, seal_step, sealed_in, sealed_valid}
use Rattle.draid_pool.proofs.Unsealed.{unsealed_keeps, unsealed_none, unsealed_valid}
use Rattle.draid_pool.proofs.sealing.seal_by.Given as given
use Rattle.draid_pool.proofs.sealing.seal_by.Goals as goal
use Rattle.draid_pool.proofs.sealing.seal_by.Goals.{After-add}

-- ---- what the parts did, by the plan's lists
settled : (g : given.Over) (c : After-add g) → IsSettled c.args.plan.made c.settle.new.it c.mark_silent.new.marks.items c.has_written-wrote.result
settled g c = subst (λ marks. IsSettled c.args.plan.made c.settle.new.it marks c.has_written-wrote.result) c.deref-3.ensures.value c.settle.ensures.settled

settles : (g : given.Over) (c : After-add g) → Settles c.args.plan.made c.settle.new.it c.mark_silent.new.marks.items c.has_written-wrote.result
settles g c = subst (λ marks. Settles c.args.plan.made c.settle.new.it marks c.has_written-wrote.result) c.deref-3.ensures.value c.settle.ensures.image

silent : (g : given.Over) (c : After-add g) → AreSilent c.args.shard.now.slots c.flush_leaves.new.failed.items c.mark_silent.new.marks.items
silent g c = subst (λ failed. AreSilent c.args.shard.now.slots failed c.mark_silent.new.marks.items) c.deref-2.ensures.value c.mark_silent.ensures.silent

told : (g : given.Over) (c : After-add g)
    → OnBothTold (g.R.Rack.told c.args.shard.now.rack) (g.R.Rack.told c.flush_leaves.new.rack) (FlushesBut c.args.plan.leaves.items c.flush_leaves.new.failed.items)
told g c = subst (λ leaves. OnBothTold (g.R.Rack.told c.args.shard.now.rack) (g.R.Rack.told c.flush_leaves.new.rack) (FlushesBut leaves c.flush_leaves.new.failed.items)) c.deref.ensures.value c.flush_leaves.ensures.told

among : (g : given.Over) (c : After-add g) → All (λ leaf. has_leaf c.args.plan.leaves.items leaf ≡ true) c.flush_leaves.new.failed.items
among g c = subst (λ (leaves : List ℕ). All (λ leaf. has_leaf leaves leaf ≡ true) c.flush_leaves.new.failed.items) c.deref.ensures.value c.flush_leaves.ensures.cause.among

table : (g : given.Over) (c : After-add g) → MarksTable c.args.shard.now.slots c.miss_marked.new.slots c.mark_silent.new.marks.items c.has_written-wrote.result c.args.group
table g c = subst (λ marks. MarksTable c.args.shard.now.slots c.miss_marked.new.slots marks c.has_written-wrote.result c.args.group) c.deref-4.ensures.value c.miss_marked.ensures

loses : (g : given.Over) (c : After-add g) → LosesTargets c.mark_silent.new.marks.items c.args.shard.now.pass c.lose_targets.new.pass
loses g c = subst (λ marks. LosesTargets marks c.args.shard.now.pass c.lose_targets.new.pass) c.deref-5.ensures.value c.lose_targets.ensures

pub write_to-requires : goal.write_to-requires
write_to-requires g c =
    subst (λ (blocks : Vec Pointer Global). All (λ (b : Pointer). b.first + b.stripes ≤ 2 ^ 49) blocks.items) (sym c.settle.ensures.settled.blocks_are)
    (blocks_low g.R.Rack c.args.shard.now c.requires.valid c.args.group c.args.plan.made.blocks.items c.requires.plan.made.blocks_are)

pub miss_marked-requires-clause-room : goal.miss_marked-requires-clause-room
miss_marked-requires-clause-room g c =
    let old = c.args.shard.now in
    λ at there among out.
    room_for old.slots (oldest_open old.open_group old.closing) (birth_groups old.closing) (changes_for_end old.pass old.closing) c.args.group (birth_low old.open_group c.args.group old.closing c.requires.closing.0)
    (birth_high old.open_group c.args.group old.closing c.requires.closing.0) c.requires.valid.logs at there out

-- ---- the shard afterwards
valid : (g : given.Over) (c : After-add g)
    → Valid g.R.Rack (record c.args.shard.now { rack = c.flush_leaves.new.rack; even = c.write_to.new.even; odd = c.write_to.new.odd; slots = c.miss_marked.new.slots; pass = c.lose_targets.new.pass; sealed = true; history = c.add.new.self })
valid g c =
    sealed_valid g.R.Rack c.args.shard.now c.requires.valid c.args.group c.requires.closing.0 c.requires.closing.1 c.flush_leaves.new.rack c.write_to.new.even c.write_to.new.odd c.miss_marked.new.slots
    c.lose_targets.new.pass c.add.new.self c.args.plan.leaves.items c.flush_leaves.new.failed c.mark_silent.new.marks.items c.has_written-wrote.result c.requires.plan.leaves_are
    (among g c) (silent g c) (table g c) (loses g c) c.flush_leaves.ensures.shape c.requires.tickets c.add.ensures.owed c.add.ensures.reserved
    (stored_more c.args.shard.now.history c.add.new.self _ c.add.ensures.stored)

pub thin-requires : goal.thin-requires
thin-requires g c =
    let at_add : After-add g = (goal.at.thin-requires g c).After-add in
    record {
      table = marked_sound c.args.shard.now.slots c.miss_marked.new.slots c.mark_silent.new.marks.items c.has_written-wrote.result c.args.group (table g at_add) c.requires.plan.made.sound;
      below = subst (λ (geometry : Geometry). BeginBelow c.args.shard.now.entries (metaslab_stripes geometry)) (sym (valid g at_add).slots.geometry_is) (begin_inside g.R.Rack c.args.shard.now c.requires.valid);
    }

-- ---- the event
abbrev after_seal : (g : given.Over) (c : After-add g) → machine.State → machine.State
after_seal g c w = seal_state (layout_by c.args.shard.now) w c.args.group c.flush_leaves.new.failed.items c.has_written-wrote.result

does : (g : given.Over) (c : After-add g)
    → Does c.args.shard.now (record c.args.shard.now { rack = c.flush_leaves.new.rack; even = c.write_to.new.even; odd = c.write_to.new.odd; slots = c.miss_marked.new.slots; pass = c.lose_targets.new.pass; sealed = true; history = c.add.new.self })
    (Seal c.args.group c.flush_leaves.new.failed)
does g c =
    let old = c.args.shard.now in
    let v = c.requires.valid in
    let closing = c.requires.closing.0 in
    record {
      part = refl;
      stored = c.add.ensures.stored;
      leads = λ w reached at. record {
        state = after_seal g c w;
        step = seal_step g.R.Rack old v c.args.group closing c.requires.closing.1 c.flush_leaves.new.rack c.write_to.new.even c.write_to.new.odd c.miss_marked.new.slots
            c.lose_targets.new.pass c.add.new.self c.args.plan.leaves.items c.flush_leaves.new.failed c.mark_silent.new.marks.items c.has_written-wrote.result c.requires.plan.leaves_are
            (among g c) (silent g c) (table g c) (loses g c) w reached at (c.requires.settled w at)
            (writes g.R.Rack old v c.args.group closing c.args.plan c.requires.plan w reached at c.has_written-wrote.result c.has_written-wrote.ensures)
            (no_writes g.R.Rack old v c.args.group closing c.args.plan c.requires.plan w reached at c.has_written-wrote.result c.has_written-wrote.ensures);
        is_in = sealed_in g.R.Rack old v c.args.group closing c.requires.closing.1 c.flush_leaves.new.rack c.write_to.new.even c.write_to.new.odd c.miss_marked.new.slots
            c.lose_targets.new.pass c.add.new.self c.args.plan.leaves.items c.flush_leaves.new.failed c.mark_silent.new.marks.items c.has_written-wrote.result c.requires.plan.leaves_are
            (among g c) (silent g c) (table g c) (loses g c) w reached at;
      };
    }

-- the state behind it
state_is : (g : given.Over) (c : After-add g) (w after : machine.State) → IsReached (layout_by c.args.shard.now) w → IsIn c.args.shard.now w → SealStep (layout_by c.args.shard.now) w c.args.group c.flush_leaves.new.failed.items after
    → after ≡ after_seal g c w
state_is g c w after reached at step =
    let old = c.args.shard.now in
    let v = c.requires.valid in
    let closing = c.requires.closing.0 in
    one_after g.R.Rack old v c.args.group closing c.requires.closing.1 c.flush_leaves.new.rack c.write_to.new.even c.write_to.new.odd c.miss_marked.new.slots
    c.lose_targets.new.pass c.add.new.self c.args.plan.leaves.items c.flush_leaves.new.failed c.mark_silent.new.marks.items c.has_written-wrote.result c.requires.plan.leaves_are
    (among g c) (silent g c) (table g c) (loses g c) w reached at after step
    (writes g.R.Rack old v c.args.group closing c.args.plan c.requires.plan w reached at c.has_written-wrote.result c.has_written-wrote.ensures)
    (no_writes g.R.Rack old v c.args.group closing c.args.plan c.requires.plan w reached at c.has_written-wrote.result c.has_written-wrote.ensures)

-- its image is the one whose record stands
image_is : (g : given.Over) (c : After-add g) (w after : machine.State) (image : machine.Image) (reached : IsReached (layout_by c.args.shard.now) w) (at : IsIn c.args.shard.now w)
    → SealStep (layout_by c.args.shard.now) w c.args.group c.flush_leaves.new.failed.items after → after.sealed ≡ Some image
    → image_of c.args.group c.args.shard.now.asked (sealed_core (layout_by c.args.shard.now) w.core c.args.group c.flush_leaves.new.failed.items c.has_written-wrote.result) ≡ image
image_is g c w after image reached at step is =
    some_injective _ image
    (ap (λ n. Some (image_of c.args.group n (sealed_core (layout_by c.args.shard.now) w.core c.args.group c.flush_leaves.new.failed.items c.has_written-wrote.result))) (sym at.asked)
    ∙ ap (λ (s : machine.State). s.sealed) (sym (state_is g c w after reached at step)) ∙ is)

stands : (g : given.Over) (c : After-add g) (w : machine.State) (reached : IsReached (layout_by c.args.shard.now) w) (at : IsIn c.args.shard.now w)
    → content.OnTold (g.A.Area.told (area_by c.write_to.new.even c.write_to.new.odd c.args.group))
    (ListsOnce c.args.shard.now.geometry c.args.shard.now.number
    (image_of c.args.group c.args.shard.now.asked (sealed_core (layout_by c.args.shard.now) w.core c.args.group c.flush_leaves.new.failed.items c.has_written-wrote.result)))
stands g c w reached at =
    let old = c.args.shard.now in
    on_told (g.A.Area.told (area_by c.write_to.new.even c.write_to.new.odd c.args.group)) (Stands (told_record c.settle.new.it))
    (ListsOnce old.geometry old.number (image_of c.args.group old.asked (sealed_core (layout_by old) w.core c.args.group c.flush_leaves.new.failed.items c.has_written-wrote.result)))
    (has_record g.R.Rack old c.requires.valid c.args.group c.requires.closing.0 c.args.plan c.requires.plan w reached at c.settle.new.it c.mark_silent.new.marks.items c.flush_leaves.new.failed.items
    c.has_written-wrote.result (settled g c) (settles g c) (silent g c)) c.in-Ok.ensures.stands

pub returns : goal.returns
unfolding does
returns g c =
    let at_add : After-add g = (goal.at.returns g c).After-add in
    let old = c.args.shard.now in
    let v = c.requires.valid in
    let cause = c.flush_leaves.ensures.cause in
    record {
      valid = valid g at_add;
      other = c.write_to.ensures.other;
      sealed = record {
        failed = c.flush_leaves.new.failed;
        does = does g at_add;
        acts = λ pieces w after step reached at.
            flushes_acts (g.R.Rack.shape old.rack) old.slots c.args.plan.leaves.items c.flush_leaves.new.failed.items w.core (g.R.Rack.told old.rack) (g.R.Rack.told c.flush_leaves.new.rack) at.slots
            (λ leaf is. subst IsSome (sym (v.leaves.leaves leaf is)) refl) (copied_small old.slots c.args.plan.made.slots.items c.requires.plan.made.slots_are) c.requires.plan.leaves_are (told g at_add);
        image = λ w after image step reached at is.
            subst (λ (i : machine.Image). content.OnTold (g.A.Area.told (area_by c.write_to.new.even c.write_to.new.odd c.args.group)) (ListsOnce old.geometry old.number i))
            (image_is g at_add w after image reached at step is) (stands g at_add w reached at);
        thin_is = λ w after step reached at.
            let stands = subst (IsIn (record old { rack = c.flush_leaves.new.rack; even = c.write_to.new.even; odd = c.write_to.new.odd; slots = c.miss_marked.new.slots; pass = c.lose_targets.new.pass; sealed = true; history = c.add.new.self }))
            (sym (state_is g at_add w after reached at step)) ((does g at_add).leads w reached at).is_in in
            let same : layout_with c.miss_marked.new.slots ≡ layout_by old = layout_same (part_of old) c.miss_marked.new.slots (valid g at_add).slots in
            subst (λ l. ThinIs l after.core c.args.group c.thin.result) same
            (c.thin.ensures.is after (subst (λ l. IsReached l after) (sym same) (reached_more (layout_by old) w after (Seal c.args.group c.flush_leaves.new.failed) reached step)) stands.slots stands.held);
        low = c.thin.ensures.low;
        counts = record { later = cause.later; cause = cause.cause };
      };
      seals = record { entries = same_entries c.args.shard.now.entries; open_group_is = refl; closing = refl; sealed = refl; committed = refl };
      refused = tt;
      keeps = tt;
      slots = record { same = (table g at_add).same; arms_stay = (table g at_add).arms_stay; detached_stay = (table g at_add).detached_stay };
      later = record { even = c.write_to.ensures.even_later; odd = c.write_to.ensures.odd_later };
      reserve = record { reserved = c.add.ensures.reserved; limit = c.add.ensures.limit };
      stays = record {
        pass = pass_lost c.mark_silent.new.marks.items old.pass c.lose_targets.new.pass (loses g at_add);
        rack = cause.later None;
        arms = record { same = (table g at_add).same; arms_stay = (table g at_add).arms_stay };
        asked = refl;
      };
      waits = tt;
    }

-- ---- a seal that is refused
pub returns-in-Err-Failed : goal.returns-in-Err-Failed
returns-in-Err-Failed g c = record {
  valid = unsealed_valid c.args.shard.now c.flush_leaves.new.rack c.write_to.new.even c.write_to.new.odd g.R.Rack c.flush_leaves.ensures.shape c.requires.valid;
  other = c.write_to.ensures.other;
  sealed = tt;
  seals = tt;
  refused = record {
    none = unsealed_none c.args.shard.now c.flush_leaves.new.rack c.write_to.new.even c.write_to.new.odd;
    leaves = flushes_leave c.args.plan.leaves.items c.flush_leaves.new.failed.items (g.R.Rack.told c.args.shard.now.rack) (g.R.Rack.told c.flush_leaves.new.rack)
        (subst (λ leaves. OnBothTold (g.R.Rack.told c.args.shard.now.rack) (g.R.Rack.told c.flush_leaves.new.rack) (FlushesBut leaves c.flush_leaves.new.failed.items)) c.deref.ensures.value c.flush_leaves.ensures.told);
    counts = c.flush_leaves.ensures.cause.later;
    why = (c.requires.settled, c.write_to.ensures.cause (c.in-Err-Failed.is ∙ ap Err c.in-Err-Failed.field-0-is));
  };
  keeps = unsealed_keeps c.args.shard.now c.flush_leaves.new.rack c.write_to.new.even c.write_to.new.odd;
  slots = same_arms c.args.shard.now.slots;
  later = record { even = c.write_to.ensures.even_later; odd = c.write_to.ensures.odd_later };
  reserve = record { reserved = refl; limit = refl };
  stays = record {
    pass = pass_still c.args.shard.now.pass;
    rack = c.flush_leaves.ensures.cause.later None;
    arms = record { same = (same_arms c.args.shard.now.slots).same; arms_stay = refl };
    asked = refl;
  };
  waits = tt;
}

pub returns-in-Err-NoMemory : goal.returns-in-Err-NoMemory
returns-in-Err-NoMemory g c = record {
  valid = unsealed_valid c.args.shard.now c.flush_leaves.new.rack c.write_to.new.even c.write_to.new.odd g.R.Rack c.flush_leaves.ensures.shape c.requires.valid;
  other = c.write_to.ensures.other;
  sealed = tt;
  seals = tt;
  refused = record {
    none = unsealed_none c.args.shard.now c.flush_leaves.new.rack c.write_to.new.even c.write_to.new.odd;
    leaves = flushes_leave c.args.plan.leaves.items c.flush_leaves.new.failed.items (g.R.Rack.told c.args.shard.now.rack) (g.R.Rack.told c.flush_leaves.new.rack)
        (subst (λ leaves. OnBothTold (g.R.Rack.told c.args.shard.now.rack) (g.R.Rack.told c.flush_leaves.new.rack) (FlushesBut leaves c.flush_leaves.new.failed.items)) c.deref.ensures.value c.flush_leaves.ensures.told);
    counts = c.flush_leaves.ensures.cause.later;
    why = tt;
  };
  keeps = unsealed_keeps c.args.shard.now c.flush_leaves.new.rack c.write_to.new.even c.write_to.new.odd;
  slots = same_arms c.args.shard.now.slots;
  later = record { even = c.write_to.ensures.even_later; odd = c.write_to.ensures.odd_later };
  reserve = record { reserved = refl; limit = refl };
  stays = record {
    pass = pass_still c.args.shard.now.pass;
    rack = c.flush_leaves.ensures.cause.later None;
    arms = record { same = (same_arms c.args.shard.now.slots).same; arms_stay = refl };
    asked = refl;
  };
  waits = tt;
}

-- ---- what the other clauses and calls ask for
pub flush_leaves-requires : goal.flush_leaves-requires
flush_leaves-requires g c =
    let plan = c.requires.plan in
    record {
      there = subst (All (λ leaf. IsSome ((g.R.Rack.shape c.args.shard.now.rack).leaves leaf))) (sym c.deref.ensures.value) plan.leaves_are.there;
      none = plan.none;
      room = subst (λ (leaves : List ℕ). length leaves ≤ vec_capacity c.args.plan.failed) (sym c.deref.ensures.value) plan.room;
    }

pub mark_silent-requires : goal.mark_silent-requires
mark_silent-requires g c = record { count = c.requires.plan.count ∙ ap (λ (geometry : Geometry). geometry.spec.children) (sym c.requires.valid.slots.geometry_is) }
