-- What was fetched is what a state says.
use Rattle.std.proofs.Common.{◌≡◌, ◌+◌, ◌++◌, ◌*◌, ◌<◌, ◌≤◌, ◌⊎◌, ◌∙◌, ℕ, zero, suc, true, List, [], ◌∷◌, Option, Some, None, Vec, Global, arith, refl, sym, ap, subst, inl, inr, length, slice_get}
use Rattle.draid_names.specs.declared.numbers.TheConstants.{LONGEST_BLOCK}
use Rattle.draid_names.specs.declared.pointer.Pointer.{Pointer}
use Rattle.draid_rack.specs.Rack.{OnTold, Told}
use Rattle.draid_rack.specs.declared.Rack.{Ghosts}
use Rattle.draid_block.specs.Blocks.{column_len, cut_of}
use Rattle.draid_block.specs.Columns.{stripes_of}
use Rattle.draid_block.specs.Solving.{IsFetched}
use Rattle.draid_block.specs.declared.solve.Fetched.{Fetched}
use Rattle.draid_columns.specs.Columns.{RowsStand}
use Rattle.draid_machine.specs.declared.event.Event.TheVariants.{Fetch}
use Rattle.draid_machine.specs.declared.names.ArmName.{ArmName}
use Rattle.draid_machine.specs.declared.names.Held.{Held}
use Rattle.draid_machine.specs.declared.names.Key.{Key}
use Rattle.draid_machine.specs.declared.names.Stage.TheVariants.{Live}
use Rattle.draid_machine.specs.Arms as arms
use Rattle.draid_machine.specs.Arms.{leaf_at, passes}
use Rattle.draid_machine.specs.Created.{IsReached}
use Rattle.draid_machine.specs.Names.{has_name, has_number}
use Rattle.draid_machine.specs.State as machine
use Rattle.draid_machine.specs.Step.{FetchStep}
use Rattle.draid_machine.proofs.Small.{some_same}
use Rattle.draid_segments.specs.Reads.{IsAbsent, IsUnread}
use Rattle.draid_entries.specs.declared.history.History.{History}
use Rattle.draid_entries.specs.History.{events_of, owed_of, reserved_of, stored_of}
use Rattle.draid_entries.specs.Maps.{held_at, key_of, staged}
use Rattle.draid_slots.specs.Changes.{IsOf}
use Rattle.draid_slots.specs.Table.{SlotTable}
use Rattle.draid_readable.specs.Fetched.{AreFetched}
use Rattle.draid_blocks.specs.Fetching.{Fetches}
use Rattle.draid_shard.specs.Calls.{CountsFailed}
use Rattle.draid_shard.specs.Looks.{IsLive}
use Rattle.draid_shard.specs.Alike.{KeepsArms}
use Rattle.draid_shard.specs.Changes.{KeepsBlocks}
use Rattle.draid_shard.specs.Columns.{row_bytes}
use Rattle.draid_shard.specs.Fits.{IsPlaced, Valid}
use Rattle.draid_shard.specs.Part.{IsPart, IsRun, Part, layout_in}
use Rattle.draid_blocks.specs.Reads.{Columns, IsReadAt, IsSilentAt, ReadsColumns, StandsAt}
use Rattle.draid_shard.specs.Rows.{rows_on}
use Rattle.draid_slots.specs.States.{HasSlots}
use Rattle.draid_shard.specs.States.{IsIn, Leads, layout_by, part_of, stored_in}
use Rattle.draid_shard.specs.declared.places.ColumnRows.{ColumnRows}
use Rattle.draid_shard.specs.declared.shard.Shard.{Shard}
use Rattle.draid_shard.proofs.Answering.{row_leaf}
use Rattle.draid_shard.proofs.Changed.{same_arms, same_entries}
use Rattle.draid_blocks.proofs.DamageSteps.{same_in}
use Rattle.draid_shard.proofs.Finding.{columns_apart, reading_found, reading_none}
use Rattle.draid_shard.proofs.Held.{key_leads}
use Rattle.draid_shard.proofs.Homes.{geometry_is, row_sector}
use Rattle.draid_shard.proofs.Kept.{history_in}
use Rattle.draid_shard.proofs.WithRack.{valid_fetched, with_history}

get_below : (xs : Columns) (k : ℕ) (x : Option (Vec ℕ Global)) → slice_get xs k ≡ Some x → k < length xs
get_below [] k x is = absurd (cc)
get_below (y ∷ ys) zero x is = omega arith
get_below (y ∷ ys) (suc k) x is = let less = get_below ys k x is in omega (arith, less)

get_there : (xs : Columns) (k : ℕ) → k < length xs → (x : Option (Vec ℕ Global)) × (slice_get xs k ≡ Some x)
get_there [] k less = absurd (omega (arith, less))
get_there (y ∷ ys) zero less = (y, refl)
get_there (y ∷ ys) (suc k) less = get_there ys k (omega (arith, less))

module _ (part : Part) (is : IsPart part) (slots : SlotTable) (of : IsOf slots part.geometry part.perms part.number) (w : machine.State) (reached : IsReached (layout_in part) w) (has : HasSlots slots w.core)
    (pointer : Pointer) (run : IsRun part.geometry pointer.first pointer.stripes) (held : w.core.held (key_of pointer) ≡ Some (held_at (staged Live pointer))) (told : Option Told) (columns : Columns) (failed : List ℕ)
    (was : ReadsColumns part slots pointer part.geometry.g told columns failed) where
  abbrev block : Held
  block = held_at (staged Live pointer)

  -- the arm that was read
  record IsFound (c leaf : ℕ) : Type 0 where
    pub n : ArmName
    pub reads : arms.reading (layout_in part) w.core block c ≡ Some n
    pub lies : leaf_at (layout_in part) w.core.order n pointer.first ≡ Some leaf
    pub listed : has_name (w.core.order ((layout_in part).slot_of pointer.first c)) n ≡ true

  found : (c leaf : ℕ) → c < part.geometry.g → IsReadAt part slots pointer c leaf → IsFound c leaf
  found c leaf less r = let z = reading_found part is slots of w reached has pointer run c less r.rows r.of leaf r.on in record { n = z.0; reads = z.1; lies = z.2; listed = z.3 }

  one_leaf : (c d leaf : ℕ) → c < part.geometry.g → d < part.geometry.g → IsReadAt part slots pointer c leaf → IsReadAt part slots pointer d leaf → c ≡ d
  one_leaf c d leaf less other r q =
      let a = found c leaf less r in
      let b = found d leaf other q in
      columns_apart part is slots of w reached has pointer run c d leaf a.n b.n less other a.listed b.listed a.lies b.lies

  pub fetch_step : FetchStep (layout_in part) w (key_of pointer) failed w
  fetch_step = record {
    h = block;
    found = held;
    live = refl;
    fail = λ leaf at. (let z = was.fail leaf at in let a = found z.0 leaf z.1 z.3 in (z.0, a.n, z.1, a.reads, a.lies));
    made = refl;
  }

  read_at : (c : ℕ) (bytes : List ℕ) (s : StandsAt part slots pointer c told bytes) → IsReadAt part slots pointer c s.leaf
  read_at c bytes s = record { rows = s.rows; of = s.of; on = s.on }

  absent_is : (c : ℕ) → c < part.geometry.g → slice_get columns c ≡ Some None → IsAbsent (layout_in part) w.core block failed c
  absent_is c less at = by (was.absent c less at)
    where
      by : IsSilentAt part slots pointer c ⊎ ((leaf : ℕ) × IsReadAt part slots pointer c leaf × (has_number failed leaf ≡ true)) → IsAbsent (layout_in part) w.core block failed c
      by (inl s) = subst (IsUnread (layout_in part) w.core block failed) (sym (reading_none part is slots of w reached has pointer run c less s.rows s.of s.silent)) tt
      by (inr z) =
          let a = found c z.0 less z.1 in
          subst (IsUnread (layout_in part) w.core block failed) (sym a.reads) (subst (λ u. passes u (has_number failed) ≡ true) (sym a.lies) z.2)

  absent_back : (c : ℕ) → c < part.geometry.g → IsAbsent (layout_in part) w.core block failed c → slice_get columns c ≡ Some None
  absent_back c less unread = by z.0 z.1
    where
      z : (x : Option (Vec ℕ Global)) × (slice_get columns c ≡ Some x)
      z = get_there columns c (subst (λ n. c < n) (sym was.all) less)

      by : (x : Option (Vec ℕ Global)) → slice_get columns c ≡ Some x → slice_get columns c ≡ Some None
      by None at = at
      by (Some bytes) at =
          let s = was.stand c bytes less at in
          let a = found c s.leaf less (read_at c bytes.items s) in
          let fails : passes (leaf_at (layout_in part) w.core.order a.n pointer.first) (has_number failed) ≡ true = subst (IsUnread (layout_in part) w.core block failed) a.reads unread in
          let it : has_number failed s.leaf ≡ true = subst (λ u. passes u (has_number failed) ≡ true) a.lies fails in
          let d = was.fail s.leaf it in
          let same : c ≡ d.0 = one_leaf c d.0 s.leaf less d.1 (read_at c bytes.items s) d.3 in
          ap (slice_get columns) same ∙ d.2

  read_row : (c row leaf : ℕ) (n : ArmName) (bytes : Vec ℕ Global) → slice_get columns c ≡ Some (Some bytes) → arms.reading (layout_in part) w.core block c ≡ Some n → row < pointer.stripes
      → leaf_at (layout_in part) w.core.order n (pointer.first + row) ≡ Some leaf
      → OnTold told (λ x. x.reads leaf ((layout_in part).sector_of (pointer.first + row) c) ≡ Some (row_bytes part.geometry.props.sector bytes.items row))
  read_row c row leaf n bytes at reads less lies =
      let below : c < part.geometry.g = subst (λ m. c < m) was.all (get_below columns c (Some bytes) at) in
      let s = was.stand c bytes below at in
      let a = found c s.leaf below (read_at c bytes.items s) in
      let name : a.n ≡ n = some_same (arms.reading (layout_in part) w.core block c) a.n n a.reads reads in
      let lies_first = sym (row_leaf part is slots of w reached has pointer run c below s.rows s.of n row less) ∙ lies in
      let same : s.leaf ≡ leaf = some_same (leaf_at (layout_in part) w.core.order n pointer.first) s.leaf leaf (subst (λ m. leaf_at (layout_in part) w.core.order m pointer.first ≡ Some s.leaf) name a.lies) lies_first in
      let sector : (layout_in part).sector_of (pointer.first + row) c ≡ s.rows.first + row = row_sector part is pointer.first pointer.stripes row c run less ∙ ap (λ k. k + row) (sym s.of.first_is) in
      told_row s.rows s.leaf ((layout_in part).sector_of (pointer.first + row) c) told s.stand same sector s.of.size_is (subst (λ k. row < k) (sym s.of.count_is) less)
    where
      told_row : (rows : ColumnRows) (at sector : ℕ) (t : Option Told) → OnTold t (λ x. RowsStand (rows_on rows at) x.reads bytes.items rows.count) → at ≡ leaf → sector ≡ rows.first + row → rows.size ≡ part.geometry.props.sector → row < rows.count
          → OnTold t (λ x. x.reads leaf sector ≡ Some (row_bytes part.geometry.props.sector bytes.items row))
      told_row rows at sector None stand same s size few = tt
      told_row rows at sector (Some x) stand same s size few = (λ i. x.reads (sym same i) (s i)) ∙ stand row few ∙ ap (λ z. Some (row_bytes z bytes.items row)) size

  pub are_fetched : AreFetched (layout_in part) w block part.geometry.props.sector failed columns told
  are_fetched = record { absent = λ c less. (absent_is c less, absent_back c less); reads = read_row }

-- ---- columns that were read, where the rack alone changed

-- what was read is the same of either
pub reads_in : {R A : Type 0} (rack : Ghosts R) (old new : Shard R A) (pointer : Pointer) (n : ℕ) (columns : Columns) (failed : List ℕ) → new ≡ record old { rack = new.rack } → rack.told new.rack ≡ rack.told old.rack
    → ReadsColumns (part_of old) old.slots pointer n (rack.told old.rack) columns failed → ReadsColumns (part_of new) new.slots pointer n (rack.told new.rack) columns failed
reads_in rack old new pointer n columns failed after told was =
    subst (λ s. ReadsColumns (part_of s) s.slots pointer n (rack.told new.rack) columns failed) (sym after)
    (subst (λ t. ReadsColumns (part_of old) old.slots pointer n t columns failed) (sym told) was)

pub reads_back : {R A : Type 0} (rack : Ghosts R) (old new : Shard R A) (pointer : Pointer) (n : ℕ) (columns : Columns) (failed : List ℕ) → new ≡ record old { rack = new.rack } → rack.told new.rack ≡ rack.told old.rack
    → ReadsColumns (part_of new) new.slots pointer n (rack.told new.rack) columns failed → ReadsColumns (part_of old) old.slots pointer n (rack.told old.rack) columns failed
reads_back rack old new pointer n columns failed after told now =
    subst (λ t. ReadsColumns (part_of old) old.slots pointer n t columns failed) told
    (subst (λ s. ReadsColumns (part_of s) s.slots pointer n (rack.told new.rack) columns failed) after now)

-- ---- a fetch

module _ {R A : Type 0} (rack : Ghosts R) (old new : Shard R A) (valid : Valid rack old) (pointer : Pointer) (live : IsLive old pointer) (after : new ≡ record old { rack = new.rack; history = new.history })
    (fetched : Fetched) (pointer_is : fetched.pointer ≡ pointer) (failed : Vec ℕ Global)
    (was : ReadsColumns (part_of old) old.slots pointer old.geometry.g (rack.told old.rack) fetched.columns.items failed.items)
    (counts : CountsFailed failed.items (rack.faults old.rack) (rack.faults new.rack)) (stored : stored_in new ≡ stored_in old ++ Fetch (key_of pointer) failed ∷ []) where
  placed : IsPlaced old.geometry old.space old.open_group pointer
  placed = valid.tables.placed pointer.first (staged Live pointer) live

  held_here : (w : machine.State) → IsIn old w → w.core.held (key_of pointer) ≡ Some (held_at (staged Live pointer))
  held_here w is = is.held (key_of pointer) ∙ key_leads old.entries pointer.first (staged Live pointer) live

  leads : (w : machine.State) → IsReached (layout_by old) w → IsIn old w → Leads (layout_by old) w (Fetch (key_of pointer) failed) new
  leads w reached is = record {
    state = w;
    step = fetch_step (part_of old) valid.part old.slots valid.slots w reached is.slots pointer placed.run (held_here w is) (rack.told old.rack) fetched.columns.items failed.items was;
    is_in = subst (λ s. IsIn s w) (sym after) (same_in old new.rack new.history w is);
  }

  stripes_is : pointer.stripes ≡ stripes_of (cut_of old.geometry) fetched.pointer.len
  stripes_is = placed.is_block.stripes ∙ ap (λ (p : Pointer). stripes_of (cut_of old.geometry) p.len) (sym pointer_is)

  is_fetched : IsFetched (cut_of old.geometry) fetched
  unfolding column_len
  is_fetched = record {
    count = was.all ∙ (geometry_is (part_of old) valid.part).columns;
    some = subst (λ (p : Pointer). 1 ≤ p.len) (sym pointer_is) placed.is_block.some;
    short = subst (λ (p : Pointer). p.len ≤ LONGEST_BLOCK) (sym pointer_is) placed.is_block.short;
    stripes = ap (λ (p : Pointer). p.stripes) pointer_is ∙ stripes_is;
    long = λ c bytes at. was.long c bytes at ∙ ap (λ n. n * old.geometry.props.sector) stripes_is;
  }

  pub fetches : Fetches rack old new pointer fetched
  fetches = record {
    live = live;
    pointer_is = pointer_is;
    fetched_is = is_fetched;
    keeps = subst (KeepsBlocks old) (sym after) (record { entries = same_entries old.entries; groups = record { open_group_is = refl; closing = refl; sealed = refl; committed = refl } });
    slots = subst (λ (s : Shard R A). KeepsArms old.slots s.slots) (sym after) (same_arms old.slots);
    failed = failed;
    does = record { part = ap (λ s. part_of s) after; stored = stored; leads = leads };
    counts = counts;
    are = λ w h reached is held. subst (λ k. AreFetched (layout_by old) w k old.geometry.props.sector failed.items fetched.columns.items (rack.told old.rack))
        (some_same (w.core.held (key_of pointer)) (held_at (staged Live pointer)) h (held_here w is) held)
        (are_fetched (part_of old) valid.part old.slots valid.slots w reached is.slots pointer placed.run (held_here w is) (rack.told old.rack) fetched.columns.items failed.items was);
  }

-- its event was asked for before
pub fetches_asked : {R A : Type 0} (rack : Ghosts R) (old new : Shard R A) (history : History) (pointer : Pointer) (fetched : Fetched) → events_of history ≡ events_of old.history
    → Fetches rack (record old { history = history }) new pointer fetched → Fetches rack old new pointer fetched
fetches_asked rack old new history pointer fetched same f = record {
  live = f.live;
  pointer_is = f.pointer_is;
  fetched_is = f.fetched_is;
  keeps = (let same = f.keeps.groups in record {
    entries = f.keeps.entries;
    groups = record { open_group_is = same.open_group_is; closing = same.closing; sealed = same.sealed; committed = same.committed };
  });
  slots = record { same = f.slots.same; arms_stay = f.slots.arms_stay; detached_stay = f.slots.detached_stay };
  failed = f.failed;
  does = record {
    part = f.does.part;
    stored = f.does.stored ∙ ap (λ events. events ++ Fetch (key_of pointer) f.failed ∷ []) same;
    leads = λ w reached is. f.does.leads w reached (history_in old history w is);
  };
  counts = f.counts;
  are = λ w h reached is held. f.are w h reached (history_in old history w is) held;
}

-- the columns were read, and the event was stored
module _ {R A : Type 0} (rack : Ghosts R) (old mid : Shard R A) (valid : Valid rack old) (after : mid ≡ record old { rack = mid.rack }) (history : History) where
  owed_mid : owed_of mid.history ≡ owed_of old.history
  owed_mid = ap (λ s. owed_of s.history) after

  reserved_mid : reserved_of mid.history ≡ reserved_of old.history
  reserved_mid = ap (λ s. reserved_of s.history) after

  pub valid_stored : rack.shape mid.rack ≡ rack.shape old.rack → owed_of history + 1 ≡ owed_of mid.history + 1 → reserved_of history ≡ reserved_of mid.history
      → stored_of mid.history ≤ stored_of history → Valid rack (record mid { history = history })
  valid_stored shape owed reserved stored =
      valid_fetched rack old (record mid { history = history }) (with_history old mid history after) shape (let same = owed_mid in omega (arith, owed, same)) (reserved ∙ reserved_mid)
      (let same : stored_of mid.history ≡ stored_of old.history = ap (λ s. stored_of s.history) after in omega (arith, same, stored)) valid

  pub fetches_stored : (pointer : Pointer) (key : Key) (columns : Vec (Option (Vec ℕ Global)) Global) (failed : Vec ℕ Global) → IsLive old pointer → key ≡ key_of pointer
      → ReadsColumns (part_of old) old.slots pointer old.geometry.g (rack.told old.rack) columns.items failed.items → CountsFailed failed.items (rack.faults old.rack) (rack.faults mid.rack)
      → events_of history ≡ events_of mid.history ++ Fetch key failed ∷ [] → Fetches rack old (record mid { history = history }) pointer (record { pointer = pointer; columns = columns })
  fetches_stored pointer key columns failed live is was counts stored =
      fetches rack old (record mid { history = history }) valid pointer live (with_history old mid history after) (record { pointer = pointer; columns = columns }) refl failed was counts
      (stored ∙ ap (λ (k : Key). events_of mid.history ++ Fetch k failed ∷ []) is ∙ ap (λ s. stored_in s ++ Fetch (key_of pointer) failed ∷ []) after)
