-- A rebuild's stripe is kept as the loan that counts: what the shard is then, and for which states it stands.
use Rattle.std.proofs.Common.{◌≡◌, ◌++◌, ◌∷◌, ◌+◌, ◌*◌, ◌<◌, ◌≤◌, ◌∙◌, ℕ, zero, suc, false, List, [], Option, None, Some, IfSome, arith, refl, sym, ap, subst, inl, inr, option_map, length, slice_get}
use Rattle.std.specs.Prelude.{IsSomeAnd, Vec, slice_index_or, vec_capacity}
use Rattle.std.specs.declared.alloc.Global.{Global}
use Rattle.std.proofs.lemmas.Bool.{cases_lt}
use Rattle.std.proofs.lemmas.Bool.Decides.{nat_tests}
use Rattle.std.proofs.Math.Nat.{mod-lt}
use Rattle.draid_names.specs.declared.arm.Arm.{Arm}
use Rattle.draid_spec.specs.Geometry.{IsGeometry, metaslab_stripes}
use Rattle.draid_names.specs.declared.pass_kind.PassKind.TheVariants.{Rebuild}
use Rattle.draid_names.specs.declared.pointer.Pointer.{Pointer}
use Rattle.draid_rack.specs.declared.Rack.{Ghosts}
use Rattle.draid_rack.specs.Rack.{OnBothTold, Told}
use Rattle.draid_machine.specs.declared.event.Event.{Event}
use Rattle.draid_machine.specs.declared.event.Event.TheVariants.{Lend}
use Rattle.draid_machine.specs.declared.names.ArmName.{ArmName}
use Rattle.draid_machine.specs.After.{capped, lend_errors, lend_state}
use Rattle.draid_machine.specs.Created.{IsReached}
use Rattle.draid_machine.specs.Names.{is_heal}
use Rattle.draid_machine.specs.State as machine
use Rattle.draid_machine.specs.Step.{IsNext, IsTaken, LendStep, to_list as machine_list}
use Rattle.draid_machine.proofs.Fitted.{every_fit}
use Rattle.draid_machine.proofs.Small.{some_same}
use Rattle.draid_parity.specs.Columns.{StripeValue}
use Rattle.draid_entries.specs.declared.entry.Entry.{Entry}
use Rattle.draid_entries.specs.declared.history.History.{History}
use Rattle.draid_entries.specs.History.{events_of, owed_of, reserved_of, stored_of}
use Rattle.draid_entries.specs.Maps.{held_at, key_of}
use Rattle.draid_pass.specs.declared.pass.Pass.{Pass}
use Rattle.draid_slots.specs.States.{name_of, pass_in}
use Rattle.draid_slots.specs.Table.{SlotTable, arm_at}
use Rattle.draid_shard.specs.Left.{HasNothingLeft}
use Rattle.draid_shard.specs.Lends.{lend_events}
use Rattle.draid_shard.specs.Fits.{HasLeaves, Valid}
use Rattle.draid_shard.specs.Loans.{IsLentStripe, chosen_at, owed_for_loan, stripe_loan}
use Rattle.draid_shard.specs.Part.{IsRun, Part, layout_in}
use Rattle.draid_shard.specs.States.{Does, IsIn, layout_by, part_of}
use Rattle.draid_shard.specs.declared.loan.KeptLoan.{KeptLoan}
use Rattle.draid_shard.specs.declared.loan.KeptLoan.TheVariants.{Stripe}
use Rattle.draid_shard.specs.declared.loan.LentStripe.{LentStripe}
use Rattle.draid_shard.specs.declared.loan.Source.{Source}
use Rattle.draid_shard.specs.declared.shard.Shard.{Shard}
use Rattle.draid_shard.specs.Calls.{CountsFailed}
use Rattle.draid_shard.proofs.Held.{key_leads}
use Rattle.draid_shard.proofs.Shown.{state_shown}
use Rattle.draid_shard.proofs.Standing.{has_layout}
use Rattle.draid_mend.specs.Lending.{chosen_in, loan_of, taken_of, to_list}
use Rattle.draid_spec.specs.declared.layout.Geometry.{Geometry}
use Rattle.draid_mend.specs.declared.rooms.LendRoom.{LendRoom}
use Rattle.draid_mend.specs.Loans.{HasLendRoom, IsRunningRebuild, IsUnit, LendsUnit, NamesSources, source_in, unit_at}
use Rattle.draid_mend.specs.Reading.{ReadsStripe}
use Rattle.draid_mend.specs.Solving.{IsOneSector}
use Rattle.draid_mend.specs.declared.reading.Taken.{Taken}
use Rattle.draid_mend.specs.declared.reading.Taken.TheVariants.{Nowhere, Failed, From}
use Rattle.draid_mend.proofs.Lends as lends
use Rattle.draid_mend.proofs.Lends.{get_past}
use Rattle.draid_mend.proofs.Named.{length_push}

-- ---- the names of the sources

index_past : {X : Type 0} (xs : List X) (k : ℕ) (d : X) → length xs < k + 1 → slice_index_or xs k d ≡ d
index_past [] k d past = refl
index_past (x ∷ xs) zero d past = absurd (omega (arith, past))
index_past (x ∷ xs) (suc k) d past = index_past xs k d (omega (arith, past))

names_arm : (leaf : ℕ) (o : Option Arm) → option_map name_of o ≡ option_map (λ (source : Source). source.arm) (option_map (λ (a : Arm). record { arm = name_of a; leaf = leaf }) o)
names_arm leaf None = refl
names_arm leaf (Some a) = refl

names_taken : (slots : SlotTable) (slot : ℕ) (o : Option Taken) → taken_of slots slot o ≡ option_map (λ (source : Source). source.arm) (source_in slots slot o)
names_taken slots slot None = refl
names_taken slots slot (Some Nowhere) = refl
names_taken slots slot (Some (Failed leaf)) = refl
names_taken slots slot (Some (From arm leaf)) = names_arm leaf (arm_at slots (record { slot = slot; arm = arm }))

lists_are : (o : Option ArmName) → to_list o ≡ machine_list o
lists_are None = refl
lists_are (Some n) = refl

module _ (part : Part) (slots : SlotTable) (pointer : Pointer) (taken : List Taken) (count : ℕ) (chosen : List (Option Source)) (named : NamesSources part slots pointer taken count chosen)
    (many : length taken ≡ count) where
  pub chosen_is : (c : ℕ) → chosen_in part slots pointer taken c ≡ chosen_at chosen c
  chosen_is c = elim (cases_lt c count) [
    | inl less ↦ names_taken slots ((layout_in part).slot_of pointer.first c) (slice_get taken c) ∙ ap (option_map (λ (source : Source). source.arm)) (sym (named.each c less))
    | inr past ↦
        let all = named.many in
        let none : slice_get taken c ≡ None = get_past taken c (omega (arith, past, many)) in
        let out : slice_index_or chosen c None ≡ None = index_past chosen c None (omega (arith, past, all)) in
        ap (taken_of slots ((layout_in part).slot_of pointer.first c)) none ∙ sym (ap (option_map (λ (source : Source). source.arm)) out)
  ]

-- ---- the next unit

module _ {R A : Type 0} (shard : Shard R A) (entry : Entry) (stripe : ℕ) (unit : IsUnit shard entry stripe) (pass : Pass) (there : shard.pass ≡ Some pass) (rebuild : pass.kind ≡ Rebuild) where
  no_heal : is_heal pass.kind ≡ false
  no_heal = ap is_heal rebuild

  is_next : (w : machine.State) → IsIn shard w → IsNext w.core (pass_in shard.slots pass) (key_of entry.pointer) (held_at entry) stripe
  is_next w is =
      let next = unit.next w is pass there in
      let from = unit.over.from in
      let to = unit.over.to in
      let kind = no_heal in
      record {
        found = is.held (key_of entry.pointer) ∙ key_leads shard.entries entry.pointer.first entry unit.over.there;
        lent = grind (arith, nat_tests, kind);
        taken = grind (arith, nat_tests, from, to);
        from = next.behind;
        first = λ k i x found lent taken le less. next.first x le less (record { key = k; held = i; found = found; taken = taken });
      }

-- ---- the shard

module _ {R A : Type 0} (old : Shard R A) (r : R) (kept : LentStripe) (history : History) where
  abbrev pub lent : Shard R A
  lent = record old { rack = r; serial = old.serial + 1; kept = Some (Stripe kept); history = history }

  owes_too : (o : Option KeptLoan) → owed_for_loan o + lend_events o ≡ 2
  owes_too None = refl
  owes_too (Some k) = refl

  pub lent_valid : (rack : Ghosts R) → Valid rack old → rack.shape r ≡ rack.shape old.rack → IsLentStripe old.geometry old.pass kept → owed_of history + 1 ≡ owed_of old.history + lend_events old.kept
      → reserved_of history ≡ reserved_of old.history → stored_of old.history + 1 ≤ stored_of history → Valid rack lent
  lent_valid rack v shape is owed reserved stored = record {
    part = v.part;
    version = v.version;
    asked = v.asked;
    tables = v.tables;
    disabled = v.disabled;
    few = v.few;
    here = v.here;
    slots = v.slots;
    once = v.once;
    pass = v.pass;
    kept = is;
    serial = (let low = v.serial in omega (arith, low, stored));
    flushed = v.flushed;
    logs = v.logs;
    leaves = subst (λ shape. HasLeaves shape old.geometry old.slots) (sym shape) v.leaves;
    groups = v.groups;
    low = v.low;
    tickets = v.tickets;
    settled = v.settled;
    owed = (let was = v.owed in let two = owes_too old.kept in omega (arith, was, owed, reserved, two));
  }

pub one_run : (geometry : Geometry) → IsGeometry geometry → (stripe : ℕ) → stripe < metaslab_stripes geometry → IsRun geometry stripe 1
one_run geometry is stripe less =
    let least = is.props.least_height in
    let some : 0 < geometry.props.height = omega (arith, least) in
    let low = mod-lt stripe some in
    record { some = omega arith; inside = omega (arith, less); group = omega (arith, low) }

module _ {R A : Type 0} (rack : Ghosts R) (old : Shard R A) (v : Valid rack old) (entry : Entry) (stripe : ℕ) (unit : IsUnit old entry stripe) where
  pub unit_inside : stripe < metaslab_stripes old.geometry
  unit_inside =
      let run = (v.tables.placed entry.pointer.first entry unit.over.there).run in
      let inside = run.inside in
      let to = unit.over.to in
      omega (arith, inside, to)

  pub unit_run : IsRun old.geometry stripe 1
  unit_run = one_run old.geometry v.part.layout.geometry_is stripe unit_inside

  -- the pass stands at it, or before it
  pub unit_behind : (pass : Pass) → old.pass ≡ Some pass → pass.at ≤ stripe
  unit_behind pass there = let z = state_shown rack old v in (unit.next z.0 z.1 pass there).behind

-- ---- the event

abbrev pub kept_of : ℕ → ℕ → Pointer → Vec (Option Source) Global → StripeValue → Vec ℕ Global → Vec ℕ Global → LentStripe
kept_of serial stripe pointer chosen columns room spare = record { serial = serial; stripe = stripe; pointer = pointer; chosen = chosen; columns = columns; failed = room; faults = spare }

module _ {R A : Type 0} (rack : Ghosts R) (old : Shard R A) (v : Valid rack old) (entry : Entry) (stripe : ℕ) (unit : IsUnit old entry stripe)
    (pass : Pass) (there : old.pass ≡ Some pass) (runs : IsRunningRebuild pass) (r : R) (chosen : Vec (Option Source) Global) (columns : StripeValue) (room spare : Vec ℕ Global) (history : History)
    (taken : List Taken) (faults : Vec ℕ Global) (reads : ReadsStripe (part_of old) old.slots (unit_at entry.pointer stripe) old.geometry.g (rack.told old.rack) columns.columns taken faults.items)
    (named : NamesSources (part_of old) old.slots (unit_at entry.pointer stripe) taken old.geometry.g chosen.items) where
  abbrev kept : LentStripe
  kept = kept_of (old.serial + 1) stripe entry.pointer chosen columns room spare

  pub kept_is : (columns_are : IsOneSector old.geometry columns) → old.geometry.g * length pass.targets.items ≤ vec_capacity room → IsLentStripe old.geometry old.pass kept
  kept_is are enough = record {
    lender = pass;
    there = there;
    kind = runs.rebuild;
    inside = unit_inside rack old v entry stripe unit;
    chosen = named.many;
    columns = record { parity = are.parity; ndata = are.ndata };
    sector = are.len;
    room = enough;
  }

  module _ (w : machine.State) (reached : IsReached (layout_by old) w) (is : IsIn old w) where
    abbrev p : machine.Pass
    p = pass_in old.slots pass

    pass_there : w.core.pass ≡ Some p
    pass_there = is.pass ∙ ap (option_map (pass_in old.slots)) there

    abbrev loan : machine.Loan
    loan = loan_of (part_of old) old.slots w (unit_at entry.pointer stripe) (key_of entry.pointer) taken

    abbrev pub state : machine.State
    state = lend_state w p loan faults.items

    pub step : LendStep (layout_by old) w faults.items state
    step = lends.step (part_of old) old.slots w p (key_of entry.pointer) (held_at entry) (unit_at entry.pointer stripe) (rack.told old.rack) columns.columns taken faults.items
        v.part v.slots reached is.slots pass_there runs.rebuild runs.running (is_next old entry stripe unit pass there runs.rebuild w is) refl (unit_run rack old v entry stripe unit) reads

    errors_stay : capped (pass.errors + lend_errors pass.kind faults.items) ≡ pass.errors
    errors_stay =
        let low = ((every_fit (layout_by old) w (has_layout (part_of old) v.part) reached).core.pass p pass_there).errors in
        let none : lend_errors pass.kind faults.items ≡ 0 = ap (λ k. lend_errors k faults.items) runs.rebuild in
        grind (arith, nat_tests, low, none)

    abbrev names : (c : ℕ) → chosen_in (part_of old) old.slots (unit_at entry.pointer stripe) taken c ≡ chosen_at chosen.items c
    names c = chosen_is (part_of old) old.slots (unit_at entry.pointer stripe) taken old.geometry.g chosen.items named reads.many c

    loan_is : loan ≡ stripe_loan kept
    loan_is = λ i. record {
      key = key_of entry.pointer;
      stripe = stripe;
      serial = ap (λ n. n + 1) is.serial i;
      read = λ c. (lists_are (chosen_in (part_of old) old.slots (unit_at entry.pointer stripe) taken c) ∙ ap machine_list (names c)) i;
      chosen = λ c. names c i;
    }

    pub lent_in : IsIn (lent old r kept history) state
    lent_in = record {
      held = is.held;
      slots = record { order = is.slots.order; arms = is.slots.arms; detached = is.slots.detached; only = is.slots.only };
      pass = ap (λ (n : ℕ). Some (record p { errors = n })) errors_stay ∙ sym (ap (option_map (pass_in old.slots)) there);
      last = is.last;
      open_group_is = is.open_group_is;
      closing = is.closing;
      sealed = is.sealed;
      committed = is.committed;
      version = is.version;
      asked = is.asked;
      serial = ap (λ n. n + 1) is.serial;
      loan = ap Some loan_is;
    }

  pub lent_does : events_of history ≡ events_of old.history ++ Lend faults ∷ [] → Does old (lent old r kept history) (Lend faults)
  lent_does stored = record {
    part = refl;
    stored = stored;
    leads = λ w reached is. record { state = state w reached is; step = step w reached is; is_in = lent_in w reached is };
  }

-- ---- what was read stands in the shard

-- the rack tells what it did
told_same : (a b : Option Told) → b ≡ a → OnBothTold a b (λ x y. y ≡ x)
told_same a b same = subst (λ b. OnBothTold a b (λ x y. y ≡ x)) (sym same) (here a)
  where
    here : (a : Option Told) → OnBothTold a a (λ x y. y ≡ x)
    here None = refl
    here (Some x) = refl

-- the rebuild that runs
pub record HasRebuild {R A : Type 0} (shard : Shard R A) : Type 0 where
  pub pass : Pass
  pub there : shard.pass ≡ Some pass
  pub runs : IsRunningRebuild pass

pub rebuild_of : {R A : Type 0} (shard : Shard R A) → IsSomeAnd shard.pass IsRunningRebuild → HasRebuild shard
rebuild_of shard running = by shard.pass refl running
  where
    by : (o : Option Pass) → shard.pass ≡ o → IsSomeAnd o IsRunningRebuild → HasRebuild shard
    by None at none = absurd none
    by (Some p) at that = record { pass = p; there = at; runs = that }

module _ {R A : Type 0} (rack : Ghosts R) (old b : Shard R A) (v : Valid rack old) (after : b ≡ record old { rack = b.rack }) (entry : Entry) (stripe : ℕ) (unit : IsUnit old entry stripe)
    (running : IsSomeAnd old.pass IsRunningRebuild) (u : Pointer) (u_is : u ≡ unit_at entry.pointer stripe) (chosen : Vec (Option Source) Global) (columns : StripeValue) (room spare : Vec ℕ Global)
    (history : History) (taken : List Taken) (faults : Vec ℕ Global) (reads : ReadsStripe (part_of old) old.slots u old.geometry.g (rack.told old.rack) columns.columns taken faults.items)
    (named : NamesSources (part_of b) b.slots u taken b.geometry.g chosen.items) where
  abbrev h : HasRebuild old
  h = rebuild_of old running

  reads_at : ReadsStripe (part_of old) old.slots (unit_at entry.pointer stripe) old.geometry.g (rack.told old.rack) columns.columns taken faults.items
  reads_at = subst (λ u. ReadsStripe (part_of old) old.slots u old.geometry.g (rack.told old.rack) columns.columns taken faults.items) u_is reads

  named_at : NamesSources (part_of old) old.slots (unit_at entry.pointer stripe) taken old.geometry.g chosen.items
  named_at = subst (λ u. NamesSources (part_of old) old.slots u taken old.geometry.g chosen.items) u_is
      (subst (λ (s : Shard R A). NamesSources (part_of s) s.slots u taken s.geometry.g chosen.items) after named)

  abbrev kept_now : LentStripe
  kept_now = kept_of (old.serial + 1) stripe entry.pointer chosen columns room spare

  abbrev pub final : Shard R A
  final = record b { serial = b.serial + 1; kept = Some (Stripe (kept_of (b.serial + 1) stripe entry.pointer chosen columns room spare)); history = history }

  final_is : final ≡ lent old b.rack kept_now history
  final_is = ap (λ (s : Shard R A). record s { serial = s.serial + 1; kept = Some (Stripe (kept_of (s.serial + 1) stripe entry.pointer chosen columns room spare)); history = history }) after

  same_history : b.history ≡ old.history
  same_history = ap (λ (s : Shard R A). s.history) after

  pub final_valid : (event : Event) → rack.shape b.rack ≡ rack.shape old.rack → IsOneSector old.geometry columns → IfSome old.pass (λ p. old.geometry.g * length p.targets.items ≤ vec_capacity room)
      → owed_of history + 1 ≡ owed_of b.history + lend_events old.kept → reserved_of history ≡ reserved_of b.history → events_of history ≡ events_of b.history ++ event ∷ [] → Valid rack final
  final_valid event shape one enough owed reserved stored =
      let count : length (events_of history) ≡ length (events_of b.history ++ event ∷ []) = ap length stored in
      let more = length_push (events_of b.history) event in
      let same : length (events_of b.history) ≡ length (events_of old.history) = ap (λ (h : History). length (events_of h)) same_history in
      subst (Valid rack) (sym final_is)
      (lent_valid old b.rack kept_now history rack v shape
      (kept_is rack old v entry stripe unit h.pass h.there h.runs b.rack chosen columns room spare history taken faults reads_at named_at one
      (subst (λ o. IfSome o (λ (p : Pass). old.geometry.g * length p.targets.items ≤ vec_capacity room)) h.there enough))
      (owed ∙ ap (λ (h : History). owed_of h + lend_events old.kept) same_history) (reserved ∙ ap reserved_of same_history) (omega (arith, count, more, same)))

  pub final_lends : rack.told b.rack ≡ rack.told old.rack → CountsFailed faults.items (rack.faults old.rack) (rack.faults b.rack) → events_of history ≡ events_of b.history ++ Lend faults ∷ [] → LendsUnit rack old final
  final_lends told counts stored = subst (LendsUnit rack old) (sym final_is) (record {
    failed = faults;
    does = lent_does rack old v entry stripe unit h.pass h.there h.runs b.rack chosen columns room spare history taken faults reads_at named_at
        (stored ∙ ap (λ (h : History). events_of h ++ Lend faults ∷ []) same_history);
    acts = λ pieces w after step reached is. told_same (rack.told old.rack) (rack.told b.rack) told;
    counts = counts;
    kept = kept_now;
    kept_is = refl;
    serial = refl;
    behind = subst (λ o. IfSome o (λ (p : Pass). p.at ≤ stripe)) (sym h.there) (unit_behind rack old v entry stripe unit h.pass h.there);
    read = record { taken = taken; faults = faults.items; reads = reads_at; chosen = named_at };
  })

-- ---- room was made first

module _ {R A : Type 0} (old : Shard R A) (idle : Option KeptLoan) (history : History) where
  abbrev pub asked : Shard R A
  asked = record old { idle = idle; history = history }

  asked_in : (w : machine.State) → IsIn old w → IsIn asked w
  asked_in w is = record {
    held = is.held;
    slots = record { order = is.slots.order; arms = is.slots.arms; detached = is.slots.detached; only = is.slots.only };
    pass = is.pass;
    last = is.last;
    open_group_is = is.open_group_is;
    closing = is.closing;
    sealed = is.sealed;
    committed = is.committed;
    version = is.version;
    asked = is.asked;
    serial = is.serial;
    loan = is.loan;
  }

  pub back_in : (w : machine.State) → IsIn asked w → IsIn old w
  back_in w is = record {
    held = is.held;
    slots = record { order = is.slots.order; arms = is.slots.arms; detached = is.slots.detached; only = is.slots.only };
    pass = is.pass;
    last = is.last;
    open_group_is = is.open_group_is;
    closing = is.closing;
    sealed = is.sealed;
    committed = is.committed;
    version = is.version;
    asked = is.asked;
    serial = is.serial;
    loan = is.loan;
  }

  pub asked_unit : (entry : Entry) (stripe : ℕ) → IsUnit old entry stripe → IsUnit asked entry stripe
  asked_unit entry stripe unit = record { over = unit.over; next = λ w is p there. unit.next w (back_in w is) p there }

  pub asked_lends : (rack : Ghosts R) (new : Shard R A) → events_of history ≡ events_of old.history → LendsUnit rack asked new → LendsUnit rack old new
  asked_lends rack new same z = record {
    failed = z.failed;
    does = record {
      part = z.does.part;
      stored = z.does.stored ∙ ap (λ (events : List Event). events ++ Lend z.failed ∷ []) same;
      leads = λ w reached is. z.does.leads w reached (asked_in w is);
    };
    acts = λ pieces w after step reached is. z.acts pieces w after step reached (asked_in w is);
    counts = z.counts;
    kept = z.kept;
    kept_is = z.kept_is;
    serial = z.serial;
    behind = z.behind;
    read = z.read;
  }

-- ---- nothing is left

pub nothing_left : {R A : Type 0} (shard : Shard R A) → ((w : machine.State) → IsIn shard w → (p : Pass) → shard.pass ≡ Some p → (x : ℕ) → p.at ≤ x → IsTaken w.core x → ⊥) → IsSomeAnd shard.pass IsRunningRebuild → HasNothingLeft shard
nothing_left shard none running w is p there k h x found lent taken =
    let z = rebuild_of shard running in
    let own : pass_in shard.slots z.pass ≡ p = some_same w.core.pass (pass_in shard.slots z.pass) p (is.pass ∙ ap (option_map (pass_in shard.slots)) z.there) there in
    let at : z.pass.at ≡ p.next = ap (λ (p : machine.Pass). p.next) own in
    elim (cases_lt x p.next) [
      | inl less ↦ less
      | inr past ↦ absurd (none w is z.pass z.there x (omega (arith, at, past)) (record { key = k; held = h; found = found; taken = taken }))
    ]

-- the room for the calls of a landing
pub enough_room : (geometry : Geometry) (pass : Option Pass) (room : LendRoom) → IfSome pass (λ p. HasLendRoom geometry (length p.targets.items) room) → IfSome pass (λ p. geometry.g * length p.targets.items ≤ vec_capacity room.failed)
enough_room geometry None room has = tt
enough_room geometry (Some p) room has = has.failed
