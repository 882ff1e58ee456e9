-- A scrub's block is kept as the loan that counts: what the shard is then, and for which states it stands.
use Rattle.std.proofs.Common.{◌≡◌, ◌↔◌, ◌++◌, ◌∷◌, ◌+◌, ◌*◌, ◌<◌, ◌≤◌, ◌∙◌, ℕ, [], List, Option, None, Some, IfSome, Bool, true, false, arith, refl, sym, ap, subst, length, option_map, slice_get, if◌then◌else◌}
use Rattle.std.proofs.lemmas.Bool.Decides.{nat_tests}
use Rattle.std.specs.Prelude.{IsSomeAnd, Vec, slice_index_or, vec_capacity}
use Rattle.std.specs.declared.alloc.Global.{Global}
use Rattle.std.proofs.lemmas.List.{length-append}
use Rattle.std.proofs.lemmas.Option.{slice_get_within}
use Rattle.draid_rack.specs.declared.Rack.{Ghosts}
use Rattle.draid_rack.specs.Rack.{OnBothTold, OnTold, Told}
use Rattle.draid_columns.specs.Columns.{RowsStand}
use Rattle.draid_spec.specs.declared.layout.Geometry.{Geometry}
use Rattle.draid_block.specs.Blocks.{column_len, cut_of}
use Rattle.draid_block.specs.Columns.{stripes_of}
use Rattle.draid_machine.specs.declared.event.Event.{Event}
use Rattle.draid_machine.specs.declared.event.Event.TheVariants.{Lend}
use Rattle.draid_machine.specs.declared.names.ArmName.{ArmName}
use Rattle.draid_machine.specs.After.{capped, lend_errors, lend_state}
use Rattle.draid_machine.specs.Created.{IsReached}
use Rattle.draid_machine.specs.Names.{has_number, takes}
use Rattle.draid_machine.specs.State as machine
use Rattle.draid_machine.specs.Step.{LendStep}
use Rattle.draid_machine.proofs.Small.{none_some, some_same}
use Rattle.draid_entries.specs.declared.entry.Entry.{Entry}
use Rattle.draid_entries.specs.declared.history.History.{History}
use Rattle.draid_entries.specs.History.{events_of, owed_of, reserved_of, stored_of}
use Rattle.draid_entries.specs.Maps.{held_at, key_of, staged}
use Rattle.draid_pass.specs.declared.pass.Pass.{Pass}
use Rattle.draid_slots.specs.States.{HoldsPass, name_of, pass_in}
use Rattle.draid_shard.specs.Calls.{CountsFailed}
use Rattle.draid_shard.specs.Fits.{HasLeaves, LogsHaveRoom, Valid, birth_groups, changes_for_end, is_rebuild, oldest_open, owed_for_pass}
use Rattle.draid_shard.specs.Lends.{lend_events}
use Rattle.draid_shard.specs.Loans.{HasFlushRoom, IsLandingRoom, IsLentBlock, block_loan, owed_for_loan}
use Rattle.draid_shard.specs.Part.{IsRun}
use Rattle.draid_shard.specs.Rows.{leaf_on, name_on, rows_on}
use Rattle.draid_shard.proofs.Held.{key_leads}
use Rattle.draid_shard.proofs.Shown.{state_shown}
use Rattle.draid_shard.specs.States.{Does, IsIn, layout_by, part_of}
use Rattle.draid_shard.specs.declared.loan.KeptLoan.{KeptLoan}
use Rattle.draid_shard.specs.declared.loan.KeptLoan.TheVariants.{Block}
use Rattle.draid_shard.specs.declared.loan.LandingRoom.{LandingRoom}
use Rattle.draid_shard.specs.declared.loan.LentBlock.{LentBlock}
use Rattle.draid_shard.specs.declared.loan.ReadArm.{ReadArm}
use Rattle.draid_shard.specs.declared.loan.ReadingRoom.{ReadingRoom}
use Rattle.draid_shard.specs.declared.loan.Spot.{Spot}
use Rattle.draid_shard.specs.declared.shard.Shard.{Shard}
use Rattle.draid_shard.specs.Scrubs.{IsBlockHere, IsRunningScrub}
use Rattle.draid_restore.specs.Loans.{IsUnit, LendsBlock, counted}
use Rattle.draid_restore.specs.Reading.{IsRead, ReadsSpots, chosen_of, read_of, reading_of, unless_failed}
use Rattle.draid_shard.specs.Spots.{SpotOn, SpotsOf, rows_at, rows_for, spots_below}
use Rattle.draid_restore.proofs.ArmsRead.{reading_there}
use Rattle.draid_restore.proofs.LendSteps.{lend_step, lent_of}
use Rattle.draid_shard.proofs.Spotted.{spotted}
use Rattle.draid_restore.proofs.Units.{HasScrub, is_next, scrub_of}

-- the rack tells what it did
told_same : (a b : Option Told) → b ≡ a → OnBothTold a b (λ x y. y ≡ x)
told_same a b same = subst (λ b. OnBothTold a b (λ x y. y ≡ x)) (sym same) (here a)
  where
    here : (a : Option Told) → OnBothTold a a (λ x y. y ≡ x)
    here None = refl
    here (Some x) = refl

owes_too : (o : Option KeptLoan) → owed_for_loan o + lend_events o ≡ 2
owes_too None = refl
owes_too (Some k) = refl

-- one more event is stored
pub one_more : (old new : History) (event : Event) → events_of new ≡ events_of old ++ event ∷ [] → stored_of old + 1 ≤ stored_of new
one_more old new event is =
    let all : length (events_of new) ≡ length (events_of old ++ event ∷ []) = ap length is in
    let more = length-append (events_of old) (event ∷ []) in
    omega (arith, all, more)

-- the length of a column's reading
column_long : (geometry : Geometry) (len stripes : ℕ) → stripes ≡ stripes_of (cut_of geometry) len → stripes * geometry.props.sector ≡ column_len (cut_of geometry) len
unfolding column_len
column_long geometry len stripes is = ap (λ n. n * geometry.props.sector) is

-- the block of a unit
module _ {R A : Type 0} (rack : Ghosts R) (old : Shard R A) (v : Valid rack old) (entry : Entry) (stripe : ℕ) (unit : IsUnit old entry stripe) where
  pub unit_run : IsRun old.geometry entry.pointer.first entry.pointer.stripes
  unit_run = (v.tables.placed entry.pointer.first entry unit.there).run

module _ {R A : Type 0} (rack : Ghosts R) (old : Shard R A) (v : Valid rack old) (entry : Entry) (stripe : ℕ) (unit : IsUnit old entry stripe) (running : IsSomeAnd old.pass IsRunningScrub)
    (spots : List Spot) (spots_are : SpotsOf (part_of old) old.slots entry.pointer spots) (listed : spots ≡ spots_below (part_of old) old.slots entry.pointer old.geometry.g)
    (failed : Vec ℕ Global) (read : Vec ReadArm Global) (read_is : read.items ≡ read_of spots failed.items) (chosen : Vec (Option ArmName) Global) (many : length chosen.items ≡ old.geometry.g)
    (chosen_is : (c : ℕ) → c < old.geometry.g → slice_index_or chosen.items c None ≡ chosen_of spots failed.items c) (columns : Vec (Option (Vec ℕ Global)) Global) (all : length columns.items ≡ old.geometry.g)
    (room : LandingRoom) (landing : IsLandingRoom old.geometry entry.pointer.stripes room) (aside : ReadingRoom)
    (reads : ReadsSpots entry.pointer.stripes old.geometry.props.sector spots (length spots) (rack.told old.rack) columns.items failed.items) (r : R) (history : History) where
  abbrev scrub : HasScrub old
  scrub = scrub_of old running

  abbrev lent : LentBlock
  lent = lent_of (old.serial + 1) stripe entry.pointer read chosen columns room aside

  abbrev pub after : Shard R A
  after = record old { rack = r; serial = old.serial + 1; pass = option_map (counted (length failed.items)) old.pass; kept = Some (Block lent); history = history }

  abbrev now : Pass
  now = counted (length failed.items) scrub.pass

  pass_is : option_map (counted (length failed.items)) old.pass ≡ Some now
  pass_is = ap (option_map (counted (length failed.items))) scrub.there

  -- ---- what is kept
  fetched_long : (i : ℕ) (c : Vec ℕ Global) → slice_get columns.items i ≡ Some (Some c) → length c.items ≡ entry.pointer.stripes * old.geometry.props.sector
  fetched_long i c at = by (reading_of spots i) refl
    where
      by : (o : Option Spot) → reading_of spots i ≡ o → length c.items ≡ entry.pointer.stripes * old.geometry.props.sector
      by None none = absurd (
          let less = slice_get_within columns.items i (Some c) at in
          let gone = reads.silent i less none in
          none_some (Some c) c (some_same (slice_get columns.items i) (Some c) None at gone) refl)
      by (Some spot) is =
          let z = reading_there spots i spot is in
          let read_it = reads.read i z.0 spot is z.1 (slice_get_within spots z.0 spot z.1) in
          by_failed (has_number failed.items spot.leaf) refl read_it
        where
          by_failed : (b : Bool) → has_number failed.items spot.leaf ≡ b → IsRead entry.pointer.stripes old.geometry.props.sector (rack.told old.rack) failed.items spot (slice_get columns.items i)
              → length c.items ≡ entry.pointer.stripes * old.geometry.props.sector
          by_failed true has it = absurd (none_some (Some c) c (some_same (slice_get columns.items i) (Some c) None at (it.gone has)) refl)
          by_failed false has it =
              let y = it.stands has in
              let same : Some c ≡ Some y.0 = some_same (slice_get columns.items i) (Some c) (Some y.0) at y.1 in
              ap (λ (v : Vec ℕ Global). length v.items) (some_same (Some c) c y.0 refl same) ∙ y.2

  still_lent : IsLentBlock old.geometry (Some now) lent
  still_lent =
      let placed = v.tables.placed entry.pointer.first entry unit.there in
      let block = placed.is_block in
      record {
        lender = now;
        there = refl;
        kind = scrub.runs.scrub;
        run = placed.run;
        chosen = many;
        fetched = record {
          count = all ∙ v.part.layout.geometry_is.columns;
          some = block.some;
          short = block.short;
          stripes = block.stripes;
          long = λ i c at. fetched_long i c at ∙ column_long old.geometry entry.pointer.len entry.pointer.stripes block.stripes;
        };
        restored = tt;
        room = landing;
      }

  -- ---- the shard
  abbrev done : Shard R A
  done = record old { rack = r; serial = old.serial + 1; pass = Some now; kept = Some (Block lent); history = history }

  after_is : after ≡ done
  after_is = ap (λ (o : Option Pass). record old { rack = r; serial = old.serial + 1; pass = o; kept = Some (Block lent); history = history }) pass_is

  holds_pass : HoldsPass old.slots old.last_pass now
  holds_pass =
      let holds : HoldsPass old.slots old.last_pass scrub.pass = subst (λ o. IfSome o (HoldsPass old.slots old.last_pass)) scrub.there v.pass in
      record { current = record { number = holds.current.number; targets = holds.current.targets }; ascending = holds.ascending; some_max = holds.some_max }

  done_valid : rack.shape r ≡ rack.shape old.rack → owed_of history + 1 ≡ owed_of old.history + lend_events old.kept → reserved_of history ≡ reserved_of old.history → stored_of old.history + 1 ≤ stored_of history
      → Valid rack done
  done_valid shape owed reserved stored = record {
    part = v.part;
    version = v.version;
    asked = v.asked;
    tables = v.tables;
    disabled = v.disabled ∙ ap is_rebuild scrub.there;
    few = v.few;
    here = v.here;
    slots = v.slots;
    once = v.once;
    pass = holds_pass;
    kept = still_lent;
    serial = (let low = v.serial in omega (arith, low, stored));
    flushed = subst (λ o. HasFlushRoom old.geometry.spec.children o (vec_capacity old.flushed)) scrub.there v.flushed;
    logs = subst (λ o. LogsHaveRoom old.slots (oldest_open old.open_group old.closing) (birth_groups old.closing) (changes_for_end o old.closing)) scrub.there v.logs;
    leaves = subst (λ shape. HasLeaves shape old.geometry old.slots) (sym shape) v.leaves;
    groups = v.groups;
    low = v.low;
    tickets = v.tickets;
    settled = v.settled;
    owed = (let was = v.owed in let two = owes_too old.kept in let same : owed_for_pass old.pass ≡ owed_for_pass (Some scrub.pass) = ap owed_for_pass scrub.there in omega (arith, was, owed, reserved, two, same));
  }

  pub after_valid : rack.shape r ≡ rack.shape old.rack → owed_of history + 1 ≡ owed_of old.history + lend_events old.kept → reserved_of history ≡ reserved_of old.history → stored_of old.history + 1 ≤ stored_of history
      → Valid rack after
  after_valid shape owed reserved stored = subst (Valid rack) (sym after_is) (done_valid shape owed reserved stored)

  -- ---- the event
  module _ (w : machine.State) (reached : IsReached (layout_by old) w) (is : IsIn old w) where
    abbrev p : machine.Pass
    p = pass_in old.slots scrub.pass

    abbrev loan : machine.Loan
    loan = block_loan lent

    abbrev state : machine.State
    state = lend_state w p loan failed.items

    held_is : w.core.held (key_of entry.pointer) ≡ Some (held_at (staged entry.stage entry.pointer))
    held_is = is.held (key_of entry.pointer) ∙ key_leads old.entries entry.pointer.first entry unit.there

    step : LendStep (layout_by old) w failed.items state
    step = lend_step (part_of old) old.slots w entry.pointer entry.stage spots v.part v.slots reached is.slots (unit_run rack old v entry stripe unit) listed
        (spotted (part_of old) old.slots w entry.pointer entry.stage spots v.part v.slots reached is.slots (unit_run rack old v entry stripe unit) held_is spots_are)
        p (is.pass ∙ ap (option_map (pass_in old.slots)) scrub.there) scrub.runs.scrub scrub.runs.running stripe (is_next old entry stripe unit running w is) failed.items (old.serial + 1) (ap (λ n. n + 1) (sym is.serial))
        read read_is chosen many chosen_is columns room aside reads.fail

    done_in : IsIn done state
    done_in = record {
      held = is.held;
      slots = record { order = is.slots.order; arms = is.slots.arms; detached = is.slots.detached; only = is.slots.only };
      pass = ap (λ k. Some (record p { errors = capped (p.errors + lend_errors k failed.items) })) scrub.runs.scrub;
      last = is.last;
      open_group_is = is.open_group_is;
      closing = is.closing;
      sealed = is.sealed;
      committed = is.committed;
      version = is.version;
      asked = is.asked;
      serial = ap (λ n. n + 1) is.serial;
      loan = refl;
    }

  done_does : events_of history ≡ events_of old.history ++ Lend failed ∷ [] → Does old done (Lend failed)
  done_does stored = record {
    part = refl;
    stored = stored;
    leads = λ w reached is. record { state = state w reached is; step = step w reached is; is_in = done_in w reached is };
  }

  -- ---- what was read
  unless_none : (c : ℕ) → c < old.geometry.g → reading_of spots c ≡ None → slice_index_or chosen.items c None ≡ None
  unless_none c less none = chosen_is c less ∙ ap (unless_failed failed.items) none

  unless_some : (c : ℕ) (spot : Spot) (b : Bool) → c < old.geometry.g → reading_of spots c ≡ Some spot → has_number failed.items spot.leaf ≡ b → slice_index_or chosen.items c None ≡ (if b then None else Some spot.arm)
  unless_some c spot b less at has = chosen_is c less ∙ ap (unless_failed failed.items) at ∙ ap (λ b. if b then None else Some spot.arm) has

  read_at_column : (c : ℕ) (spot : Spot) → reading_of spots c ≡ Some spot → IsRead entry.pointer.stripes old.geometry.props.sector (rack.told old.rack) failed.items spot (slice_get columns.items c)
  read_at_column c spot at = let z = reading_there spots c spot at in reads.read c z.0 spot at z.1 (slice_get_within spots z.0 spot z.1)

  none_read : (c : ℕ) → c < old.geometry.g → (slice_get columns.items c ≡ Some None) ↔ (slice_index_or chosen.items c None ≡ None)
  none_read c less = by (reading_of spots c) refl
    where
      by_failed : (spot : Spot) (b : Bool) → reading_of spots c ≡ Some spot → has_number failed.items spot.leaf ≡ b → (slice_get columns.items c ≡ Some None) ↔ (slice_index_or chosen.items c None ≡ None)
      by_failed spot true at has = ((λ e. unless_some c spot true less at has), (λ e. (read_at_column c spot at).gone has))
      by_failed spot false at has =
          let y = (read_at_column c spot at).stands has in
          ((λ e. absurd (none_some (Some y.0) y.0 (some_same (slice_get columns.items c) (Some y.0) None y.1 e) refl)), (λ e. absurd (none_some (slice_index_or chosen.items c None) spot.arm e (unless_some c spot false less at has))))

      by : (o : Option Spot) → reading_of spots c ≡ o → (slice_get columns.items c ≡ Some None) ↔ (slice_index_or chosen.items c None ≡ None)
      by None none = ((λ e. unless_none c less none), (λ e. reads.silent c (subst (λ m. c < m) (sym all) less) none))
      by (Some spot) at = by_failed spot (has_number failed.items spot.leaf) at refl

  abbrev StandsIn : ℕ → ArmName → List ℕ → Type 0
  StandsIn c n bytes =
      (k : ℕ) × (leaf : ℕ) × (name_on old.slots (rows_at (part_of old) entry.pointer c) k ≡ Some n) × (leaf_on old.slots (rows_at (part_of old) entry.pointer c) k ≡ Some leaf)
      × OnTold (rack.told old.rack) (λ x. RowsStand (rows_on (rows_at (part_of old) entry.pointer c) leaf) x.reads bytes entry.pointer.stripes)

  stands_on : (spot : Spot) (bytes : List ℕ) (on : SpotOn (part_of old) old.slots entry.pointer spot)
      → OnTold (rack.told old.rack) (λ x. RowsStand (rows_for entry.pointer.stripes old.geometry.props.sector spot) x.reads bytes entry.pointer.stripes) → StandsIn spot.column spot.arm bytes
  stands_on spot bytes on stand = (
    on.k,
    spot.leaf,
    ap (option_map name_of) on.there ∙ ap Some on.arm_is,
    on.lies,
    subst (λ first. OnTold (rack.told old.rack) (λ x. RowsStand (record { leaf = spot.leaf; first = first; count = entry.pointer.stripes; size = old.geometry.props.sector }) x.reads bytes entry.pointer.stripes)) on.first stand,
  )

  reads_column : (c : ℕ) (n : ArmName) (bytes : Vec ℕ Global) → c < old.geometry.g → slice_index_or chosen.items c None ≡ Some n → slice_get columns.items c ≡ Some (Some bytes) → StandsIn c n bytes.items
  reads_column c n bytes less named at = by (reading_of spots c) refl
    where
      by_failed : (spot : Spot) (b : Bool) → reading_of spots c ≡ Some spot → has_number failed.items spot.leaf ≡ b → StandsIn c n bytes.items
      by_failed spot true here has = absurd (none_some (slice_index_or chosen.items c None) n (unless_some c spot true less here has) named)
      by_failed spot false here has =
          let y = (read_at_column c spot here).stands has in
          let z = reading_there spots c spot here in
          let same_bytes : y.0 ≡ bytes = some_same (Some y.0) y.0 bytes refl (some_same (slice_get columns.items c) (Some y.0) (Some bytes) y.1 at) in
          let same_arm : spot.arm ≡ n = some_same (slice_index_or chosen.items c None) spot.arm n (unless_some c spot false less here has) named in
          subst (λ d. StandsIn d n bytes.items) z.2 (subst (λ m. StandsIn spot.column m bytes.items) same_arm
          (subst (λ (v : Vec ℕ Global). StandsIn spot.column spot.arm v.items) same_bytes (stands_on spot y.0.items (spots_are.each z.0 spot z.1) y.3)))

      by : (o : Option Spot) → reading_of spots c ≡ o → StandsIn c n bytes.items
      by None none = absurd (none_some (slice_index_or chosen.items c None) n (unless_none c less none) named)
      by (Some spot) here = by_failed spot (has_number failed.items spot.leaf) here refl

  -- ---- all of it
  behind : IfSome old.pass (λ (pass : Pass). pass.at < entry.pointer.first + entry.pointer.stripes)
  behind =
      let s = state_shown rack old v in
      let n = unit.next s.0 s.1 scrub.pass scrub.there in
      let from = n.reaches.behind in
      let to = high_of stripe n.reaches.takes in
      subst (λ o. IfSome o (λ (pass : Pass). pass.at < entry.pointer.first + entry.pointer.stripes)) (sym scrub.there) (omega (arith, from, to))
    where
      high_of : (x : ℕ) → takes (held_at entry) x ≡ true → x < entry.pointer.first + entry.pointer.stripes
      high_of x taken = grind (arith, nat_tests, taken)

  is_here : IsBlockHere old.entries lent
  is_here =
      let s = state_shown rack old v in
      record { stage = entry.stage; there = unit.there; block = (unit.next s.0 s.1 scrub.pass scrub.there).reaches.is_block }

  done_lends : rack.told r ≡ rack.told old.rack → CountsFailed failed.items (rack.faults old.rack) (rack.faults r) → events_of history ≡ events_of old.history ++ Lend failed ∷ [] → LendsBlock rack old done
  done_lends told counts stored = record {
    failed = failed;
    does = done_does stored;
    acts = λ pieces w after step reached is. told_same (rack.told old.rack) (rack.told r) told;
    counts = counts;
    pass = sym pass_is;
    lent = lent;
    lent_is = refl;
    here = is_here;
    serial = refl;
    behind = behind;
    unsolved = refl;
    reads = record { none = none_read; reads = reads_column };
  }

  pub after_lends : rack.told r ≡ rack.told old.rack → CountsFailed failed.items (rack.faults old.rack) (rack.faults r) → events_of history ≡ events_of old.history ++ Lend failed ∷ [] → LendsBlock rack old after
  after_lends told counts stored = subst (LendsBlock rack old) (sym after_is) (done_lends told counts stored)
