use Rattle.std.specs.Prelude.{◌==◌, ◌+◌, ◌||◌, ◌&&◌, not, ℕ, zero, suc, Bool, true, false, nat_le, nat_lt, List, [], ◌∷◌, ◌++◌, Option, Some, None, filter, length, min, count_by, is_none, is_some, if◌then◌else◌}
use Rattle.draid_names.specs.declared.numbers.TheConstants.{LAST_NUMBER}
use Rattle.draid_names.specs.declared.pass_kind.PassKind.{PassKind}
use Rattle.draid_names.specs.declared.pass_kind.PassKind.TheVariants.{Rebuild, Heal}
use Rattle.draid_machine.specs.declared.names.Key.{Key}
use Rattle.draid_machine.specs.declared.names.ArmName.{ArmName}
use Rattle.draid_machine.specs.declared.names.Stage.TheVariants.{Writing, Live, Freed}
use Rattle.draid_machine.specs.declared.names.Held.{Held}
use Rattle.draid_machine.specs.declared.names.Segment.{Segment}
use Rattle.draid_machine.specs.declared.event.Patched.{Patched}
use Rattle.draid_machine.specs.Names.{key_eq, name_eq, has_name, has_number, has_segment, is_nil, any_below, count_below, up_to, is_heal, is_block, is_freed_by}
use Rattle.draid_machine.specs.State.{Layout, Gone, Arm, Pass, Core, Loan, Image, State}
use Rattle.draid_machine.specs.Arms.{answers, fails, lies_on, leaf_at, passes, is_here, is_clean, is_silent, has_column, has_moved, targets_of}
use Rattle.draid_machine.specs.Claims.{is_on, is_at, claims}

-- ---- parts

-- a table with one entry changed
abbrev pub set_held : (Key → Option Held) → Key → Option Held → Key → Option Held
set_held f k v j = if key_eq k j then v else f j

abbrev pub set_arm : (ArmName → Option Arm) → ArmName → Option Arm → ArmName → Option Arm
set_arm f n v m = if name_eq n m then v else f m

abbrev pub set_order : (ℕ → List ArmName) → ℕ → List ArmName → ℕ → List ArmName
set_order f c v d = if c == d then v else f d

-- a table with all arms changed
abbrev pub map_arm : (Arm → Arm) → Option Arm → Option Arm
map_arm f None = None
map_arm f (Some a) = Some (f a)

abbrev pub each_arm : (ArmName → Arm → Arm) → (ArmName → Option Arm) → ArmName → Option Arm
each_arm f arms n = map_arm (f n) (arms n)

-- the log of an arm gets a group, is made 1..=last, loses the groups up to last, loses those above last
abbrev pub log_if : Bool → ℕ → Arm → Arm
log_if b group a = record a { log = (λ g. a.log g || (b && (g == group))) }

abbrev pub fill_if : Bool → ℕ → Arm → Arm
fill_if b last a = record a { log = (λ g. if b then up_to last g else a.log g) }

abbrev pub excise_if : Bool → ℕ → Arm → Arm
excise_if b last a = record a { log = (λ g. a.log g && not (b && nat_le g last)); fresh = a.fresh && not b }

abbrev pub cut_above : ℕ → Arm → Arm
cut_above last a = record a { log = (λ g. a.log g && nat_le g last) }

-- a pass loses targets; errors stand still at their last number
abbrev pub capped : ℕ → ℕ
capped errors = min errors LAST_NUMBER

abbrev pub lose_targets : (ArmName → Bool) → ℕ → Pass → Pass
lose_targets bad more p = record p { targets = filter (λ n. not (bad n)) p.targets; errors = capped (p.errors + more) }

abbrev pub map_pass : (Pass → Pass) → Option Pass → Option Pass
map_pass f None = None
map_pass f (Some p) = Some (f p)

abbrev pub without_key : Key → (Segment → Bool) → Segment → Bool
without_key k f s = f s && not (key_eq k s.key)

-- what goes isn't kept either
abbrev pub not_kept : Key → (Segment → Option ℕ) → Segment → Option ℕ
not_kept k f s = if key_eq k s.key then None else f s

-- ---- tickets and blocks

abbrev pub begin_state : State → Key → Held → State
begin_state w k h = record w { core = record w.core { held = set_held w.core.held k (Some h) } }

-- the arms of the column's slot on which it didn't land get the birth into their logs
abbrev pub is_landed : Layout → Core → Key → Held → ℕ → List ArmName → Segment → Bool
is_landed l q k h c landed s = key_eq k s.key && (s.column == c) && has_name landed s.arm && is_on l q.order s h

abbrev pub put_state : Layout → State → Key → List ArmName → Held → ℕ → ℕ → State
put_state l w k landed h c m =
    record w {
      core = record w.core {
        held = set_held w.core.held k (Some (record h { stage = Writing (c + 1) (if is_nil landed then m + 1 else m) }));
        arm = each_arm (λ n. log_if (has_name (w.core.order (l.slot_of h.first c)) n && not (has_name landed n)) h.birth) w.core.arm;
      };
      present = (λ s. w.present s || is_landed l w.core k h c landed s);
    }

-- a ticket goes with its segments
abbrev pub gone_state : State → Key → State
gone_state w k = record w { core = record w.core { held = set_held w.core.held k None }; present = without_key k w.present; aside = without_key k w.aside; kept = not_kept k w.kept }

abbrev pub live_state : State → Key → Held → State
live_state w k h = record w { core = record w.core { held = set_held w.core.held k (Some (record h { stage = Live })) } }

-- with more columns missed than the parity the ticket goes, else it is a block
abbrev pub finish_state : Layout → State → Key → Held → ℕ → State
finish_state l w k h m = if nat_lt l.parity m then gone_state w k else live_state w k h

abbrev pub free_state : State → Key → Held → ℕ → State
free_state w k h group = record w { core = record w.core { held = set_held w.core.held k (Some (record h { stage = Freed group })) } }

-- ---- arms

abbrev pub switch_state : State → ArmName → Arm → Bool → State
switch_state w n a offline = record w { core = record w.core { arm = set_arm w.core.arm n (Some (record a { offline = offline })) } }

-- a slot gets an arm, as its last; a slot loses an arm, which stays until its group is committed
abbrev pub attached_core : Core → ℕ → ArmName → ℕ → Core
attached_core q slot n last =
    record q {
      arm = set_arm q.arm n (Some (record { offline = false; fresh = true; log = up_to last; gone = None }));
      order = set_order q.order slot (q.order slot ++ n ∷ []);
    }

abbrev pub detached_core : Core → ℕ → ArmName → Arm → ℕ → Core
detached_core q slot n a group =
    record q {
      arm = set_arm q.arm n (Some (record a { gone = Some (record { slot = slot; group = group }) }));
      order = set_order q.order slot (filter (λ m. not (name_eq n m)) (q.order slot));
    }

-- each spare that has moved gets the log 1..=last and is fresh
abbrev pub renew_if : Bool → ℕ → Arm → Arm
renew_if b last a = record a { log = (λ g. if b then up_to last g else a.log g); fresh = a.fresh || b }

abbrev pub renewed_core : Layout → Core → ℕ → Core → Core
renewed_core l before last q = record q { arm = each_arm (λ n. renew_if (has_moved l before q n) last) q.arm }

-- a segment that was at a place and isn't now is kept for the group that is open; what is aside stays so at a place or kept
abbrev pub loses_place : Layout → State → Core → Segment → Bool
loses_place l w q s = w.present s && is_at l w.core s && not (is_at l q s)

abbrev pub kept_after : Layout → State → Core → Segment → Option ℕ
kept_after l w q s = if loses_place l w q s then Some w.open_group else w.kept s

abbrev pub aside_left : Layout → State → Core → Segment → Bool
aside_left l w q s = w.aside s && (is_at l q s || is_some (kept_after l w q s))

-- other arms than before: no loan counts
abbrev pub rearranged_state : Layout → State → ℕ → Core → State
rearranged_state l w last q = record w { core = renewed_core l w.core last q; loan = None; kept = kept_after l w q; aside = aside_left l w q }

abbrev pub detach_state : Layout → State → ℕ → ArmName → Arm → ℕ → State
detach_state l w slot n a last = rearranged_state l w last (detached_core w.core slot n a w.open_group)

-- ---- versions

abbrev pub upgrade_state : State → State
upgrade_state w = record w { asked = 2 }

-- ---- groups

abbrev pub close_state : State → ℕ → State
close_state w t = record w { closing = Some t; open_group = t + 1 }

-- the image of a group: the blocks born up to it and not freed up to it, and the arms that are there
abbrev pub keep_if : {A : Type 0} → Bool → A → Option A
keep_if b x = if b then Some x else None

abbrev pub seal_held : ℕ → Option Held → Option Held
seal_held t None = None
seal_held t (Some h) = keep_if (is_block h.stage && nat_le h.birth t && not (is_freed_by t h.stage)) (record h { stage = Live })

abbrev pub seal_arm : Option Arm → Option Arm
seal_arm None = None
seal_arm (Some a) = keep_if (is_here (Some a)) a

abbrev pub image_of : ℕ → ℕ → Core → Image
image_of t version q = record { group = t; version = version; core = record q { held = (λ k. seal_held t (q.held k)); arm = (λ n. seal_arm (q.arm n)) } }

-- the arms that lie on a silent leaf get the group into their logs where a block was written in it; a pass loses such targets, and for a
-- rebuild each counts an error
abbrev pub lost_errors : PassKind → (ArmName → Bool) → List ArmName → ℕ
lost_errors Rebuild bad targets = count_by bad targets
lost_errors Heal bad targets = 0

abbrev pub lose_some : (ArmName → Bool) → Pass → Pass
lose_some bad p = lose_targets bad (lost_errors p.kind bad p.targets) p

abbrev pub sealed_core : Layout → Core → ℕ → List ℕ → Bool → Core
sealed_core l q t failed wrote =
    let bad = lies_on l q (is_silent q failed) in
    record q { arm = each_arm (λ n. log_if (wrote && bad n) t) q.arm; pass = map_pass (lose_some bad) q.pass }

abbrev pub seal_state : Layout → State → ℕ → List ℕ → Bool → State
seal_state l w t failed wrote =
    let q = sealed_core l w.core t failed wrote in
    record w { core = q; sealed = Some (image_of t w.asked q) }

-- what was freed or detached up to the group goes; so do the segments of what was freed, and those kept for a group up to this one that are at no
-- place
abbrev pub is_freed_block : ℕ → Option Held → Bool
is_freed_block t None = false
is_freed_block t (Some h) = is_freed_by t h.stage

abbrev pub is_gone_by : ℕ → Option Gone → Bool
is_gone_by t None = false
is_gone_by t (Some g) = nat_le g.group t

abbrev pub is_gone_arm : ℕ → Option Arm → Bool
is_gone_arm t None = false
is_gone_arm t (Some a) = is_gone_by t a.gone

abbrev pub keep_loan : (Key → Bool) → Option Loan → Option Loan
keep_loan gone None = None
keep_loan gone (Some n) = keep_if (not (gone n.key)) n

abbrev pub is_kept_by : ℕ → Option ℕ → Bool
is_kept_by t None = false
is_kept_by t (Some g) = nat_le g t

abbrev pub stays : Layout → ℕ → State → Segment → Bool
stays l t w s = not (is_freed_block t (w.core.held s.key)) && (not (is_kept_by t (w.kept s)) || is_at l w.core s)

abbrev pub still_kept : ℕ → State → Segment → Option ℕ
still_kept t w s = if is_freed_block t (w.core.held s.key) || is_kept_by t (w.kept s) then None else w.kept s

abbrev pub commit_state : Layout → State → ℕ → Image → State
commit_state l w t img =
    record w {
      committed = t;
      version = img.version;
      closing = None;
      sealed = None;
      image = img;
      core = record w.core {
        held = (λ k. if is_freed_block t (w.core.held k) then None else w.core.held k);
        arm = (λ n. if is_gone_arm t (w.core.arm n) then None else w.core.arm n);
      };
      loan = keep_loan (λ k. is_freed_block t (w.core.held k)) w.loan;
      present = (λ s. w.present s && stays l t w s);
      aside = (λ s. w.aside s && stays l t w s);
      kept = still_kept t w;
    }

-- ---- the pass

abbrev pub planned_pass : State → PassKind → List ArmName → Pass
planned_pass w Rebuild targets =
    record { number = w.core.last + 1; kind = Rebuild; targets = targets; max = w.open_group + 1; next = 0; errors = 0; running = false }
planned_pass w Heal targets =
    record { number = w.core.last + 1; kind = Heal; targets = targets; max = w.committed; next = 0; errors = 0; running = true }

-- a rebuild sets its targets' logs to 1..=max
abbrev pub plan_state : State → PassKind → List ArmName → State
plan_state w kind targets =
    record w {
      core = record w.core {
        arm = each_arm (λ n. fill_if (not (is_heal kind) && has_name targets n) (w.open_group + 1)) w.core.arm;
        pass = Some (planned_pass w kind targets);
        last = w.core.last + 1;
      };
    }

-- at an attachment a rebuild is planned again, and a scrub loses the targets that have moved
abbrev pub replan_kind : Layout → State → (ArmName → Bool) → Pass → PassKind → State
replan_kind l w moved p Rebuild = plan_state w Rebuild (targets_of l w.core Rebuild)
replan_kind l w moved p Heal = record w { core = record w.core { pass = Some (lose_targets moved 0 p) } }

abbrev pub replan : Layout → State → (ArmName → Bool) → Option Pass → State
replan l w moved None = w
replan l w moved (Some p) = replan_kind l w moved p p.kind

abbrev pub attach_state : Layout → State → ℕ → ArmName → ℕ → State
attach_state l w slot n last =
    let q = attached_core w.core slot n last in
    replan l (rearranged_state l w last q) (has_moved l w.core q) w.core.pass

abbrev pub ready_state : State → Pass → State
ready_state w p = record w { core = record w.core { pass = Some (record p { running = true }) } }

-- in a scrub each call that failed counts an error
abbrev pub lend_errors : PassKind → List ℕ → ℕ
lend_errors Rebuild failed = 0
lend_errors Heal failed = length failed

abbrev pub lend_state : State → Pass → Loan → List ℕ → State
lend_state w p n failed =
    record w {
      core = record w.core { pass = Some (record p { errors = capped (p.errors + lend_errors p.kind failed) }) };
      serial = w.serial + 1;
      loan = Some n;
    }

-- ---- the landing of a rebuild's stripe

abbrev pub unsourced : Layout → Loan → ℕ
unsourced l n = count_below l.columns (λ c. is_none (n.chosen c))

-- a target that has a column of the stripe and doesn't answer there, or whose write fails
abbrev pub misses_stripe : Layout → Core → ℕ → List ℕ → ArmName → Bool
misses_stripe l q x failed n = has_column l q n x && (not (answers l q n x) || fails l q failed n x)

-- a segment of the stripe on a target that answers
abbrev pub is_mended : Layout → Core → Pass → Loan → Held → Segment → Bool
is_mended l q p n h s =
    key_eq n.key s.key && (h.first + s.row == n.stripe) && has_name p.targets s.arm && is_on l q.order s h && answers l q s.arm n.stripe

-- the segment of a column that was read from its chosen arm is aside
abbrev pub is_chosen_aside : Layout → State → Loan → Segment → ℕ → Option ArmName → Bool
is_chosen_aside l w n s c None = false
is_chosen_aside l w n s c (Some m) =
    passes (leaf_at l w.core.order m n.stripe) (λ leaf. w.aside (record { key = s.key; column = c; arm = m; leaf = leaf; row = s.row }))

-- a column that has a source is a copy of it, and any other is made from all chosen readings
abbrev pub is_source_aside : Layout → State → Loan → Segment → Bool
is_source_aside l w n s =
    if is_none (n.chosen s.column) then any_below l.columns (λ c. is_chosen_aside l w n s c (n.chosen c))
    else is_chosen_aside l w n s s.column (n.chosen s.column)

abbrev pub pass_over : State → Pass → ℕ → ℕ → State
pass_over w p more next =
    record w { loan = None; core = record w.core { pass = Some (record p { next = next; errors = capped (p.errors + more) }) } }

abbrev pub mend_state : Layout → State → Pass → Loan → Held → List ℕ → State
mend_state l w p n h failed =
    let bad = misses_stripe l w.core n.stripe failed in
    record w {
      loan = None;
      core = record w.core { pass = Some (record (lose_targets bad (count_by bad p.targets) p) { next = n.stripe + 1 }) };
      present = (λ s. if is_mended l w.core p n h s then not (fails l w.core failed s.arm n.stripe) else w.present s);
      aside = (λ s. if is_mended l w.core p n h s then is_source_aside l w n s && not (fails l w.core failed s.arm n.stripe) else w.aside s);
    }

-- with more columns without a source than the parity nothing is written, and one error counts
abbrev pub land_stripe_state : Layout → State → Pass → Loan → Held → List ℕ → State
land_stripe_state l w p n h failed = if nat_lt l.parity (unsourced l n) then pass_over w p 1 (n.stripe + 1) else mend_state l w p n h failed

-- ---- the landing of a scrub's block

-- whether what was written, or what landed, has a segment
abbrev pub was_written : List Patched → ℕ → ArmName → ℕ → Bool
was_written [] column n row = false
was_written (d ∷ ds) column n row = ((d.column == column) && name_eq d.arm n && has_number d.written.items row) || was_written ds column n row

abbrev pub has_landed : List Patched → ℕ → ArmName → ℕ → Bool
has_landed [] column n row = false
has_landed (d ∷ ds) column n row = ((d.column == column) && name_eq d.arm n && has_number d.landed.items row) || has_landed ds column n row

-- the columns that were rewritten: those of which a row landed, counted by arm
abbrev pub rewritten : Layout → Core → Held → List Patched → ℕ → ℕ
rewritten l q h patched zero = 0
rewritten l q h patched (suc c) = rewritten l q h patched c + count_by (λ n. any_below h.stripes (has_landed patched c n)) (q.order (l.slot_of h.first c))

abbrev pub is_written : Layout → Core → Loan → Held → List Patched → Segment → Bool
is_written l q n h patched s = key_eq n.key s.key && is_on l q.order s h && was_written patched s.column s.arm s.row

abbrev pub has_healed : Layout → Core → Loan → Held → List Patched → Segment → Bool
has_healed l q n h patched s = key_eq n.key s.key && is_on l q.order s h && has_landed patched s.column s.arm s.row

-- a target of the block that doesn't answer, or on which a call failed
abbrev pub misses_block : Layout → Core → Held → List ℕ → ArmName → Bool
misses_block l q h failed n = has_column l q n h.first && (not (answers l q n h.first) || fails l q failed n h.first)

-- A whole landing ends the doubt on clean arms and on what landed, and casts it on the block's other segments on arms that aren't clean and on
-- those at no place, which stay for an image alone. Any other landing casts it on what it wrote.
abbrev pub aside_after : Layout → State → Loan → Held → List Patched → Bool → Segment → Bool
aside_after l w n h patched true s =
    if not (key_eq n.key s.key) then w.aside s
    else if is_on l w.core.order s h then not (is_clean w.core h.birth s.arm || has_healed l w.core n h patched s)
    else w.aside s || w.present s
aside_after l w n h patched false s = w.aside s || is_written l w.core n h patched s

abbrev pub heal_state : Layout → State → Pass → Loan → Held → List ℕ → List Patched → Bool → State
heal_state l w p n h failed patched whole =
    record w {
      loan = None;
      core = record w.core {
        pass = Some (record (lose_targets (misses_block l w.core h failed) (length failed) p) { next = h.first + h.stripes });
      };
      present = (λ s. w.present s || has_healed l w.core n h patched s);
      aside = aside_after l w n h patched whole;
    }

abbrev pub land_block_state : Layout → State → Pass → Loan → Held → List ℕ → List Patched → Bool → Bool → State
land_block_state l w p n h failed patched unreadable whole =
    if unreadable then pass_over w p 1 (h.first + h.stripes) else heal_state l w p n h failed patched whole

-- ---- the end of a pass

-- a rebuild flushes its targets' leaves, and loses the targets on a silent one; without errors the targets that are left are clean up to max
abbrev pub ended_pass : Layout → Core → Pass → List ℕ → Pass
ended_pass l q p failed = if is_heal p.kind then p else lose_some (lies_on l q (is_silent q failed)) p

abbrev pub done_state : State → Pass → State
done_state w p =
    record w { core = record w.core { pass = None; arm = each_arm (λ n. excise_if ((p.errors == 0) && has_name p.targets n) p.max) w.core.arm } }

abbrev pub cancel_state : State → State
cancel_state w = record w { loan = None; core = record w.core { pass = None } }

-- ---- opening again

-- the state of an image: what it claims is present, and nothing is detached
abbrev pub reopen_state : Layout → State → Image → List Segment → State
reopen_state l w img doubtful =
    record {
      open_group = img.group + 1;
      closing = None;
      committed = img.group;
      version = img.version;
      asked = img.version;
      core = record img.core { arm = each_arm (λ n. cut_above img.group) img.core.arm };
      serial = 0;
      loan = None;
      image = img;
      sealed = None;
      present = claims l img.core;
      aside = (λ s. (w.aside s || has_segment doubtful s) && claims l img.core s);
      kept = (λ s. None);
    }
