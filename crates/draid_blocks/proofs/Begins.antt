-- The beginning of a write: legal where a run was given, and refused for what a state says.
use Rattle.std.proofs.Common.{◌↔◌, ◌==◌, true, sym, if◌then◌else◌, IsTrue, ◌≡◌, ◌+◌, ◌<◌, ◌≤◌, ◌^◌, ◌∙◌, ℕ, Bool, false, Option, Some, None, arith, refl, ap, inl, inr, max, subst}
use Rattle.std.proofs.lemmas.Bool.{cases_lt, true≢false}
use Rattle.std.proofs.lemmas.Bool.Decides.{nat_tests}
use Rattle.draid_names.specs.Numbers.{most_held}
use Rattle.draid_names.specs.declared.numbers.TheConstants.{LAST_NUMBER}
use Rattle.draid_names.specs.declared.pointer.Pointer.{Pointer}
use Rattle.draid_spec.specs.declared.layout.Geometry.{Geometry}
use Rattle.draid_spec.specs.Geometry.{IsGeometry}
use Rattle.draid_metaslab.specs.Spaces.{Stripes, is_free}
use Rattle.draid_metaslab.specs.Spots.{IsLowest}
use Rattle.draid_machine.specs.After.{begin_state, set_held}
use Rattle.draid_machine.specs.State as machine
use Rattle.draid_machine.specs.Step.{Fits}
use Rattle.draid_entries.specs.declared.entries.Entries.{Entries}
use Rattle.draid_entries.specs.declared.history.History.{History}
use Rattle.draid_entries.specs.Entries.{SetsEntry, begun, count_of, entry_at, held_in, owed_at, owed_by}
use Rattle.draid_entries.specs.Maps.{held_at, key_of}
use Rattle.draid_entries.proofs.Counted.{few}
use Rattle.draid_pass.specs.declared.pass.Pass.{Pass as ThePass}
use Rattle.std.specs.Prelude.{is_some}
use Rattle.draid_blocks.specs.declared.fault.BeginFault.{BeginFault}
use Rattle.draid_blocks.specs.declared.fault.BeginFault.TheVariants as begin
use Rattle.draid_shard.specs.declared.shard.Shard.{Shard}
use Rattle.draid_blocks.specs.Tickets.{BeginRefused, begins}
use Rattle.draid_shard.specs.Rooms.{block_events}
use Rattle.draid_shard.specs.Fits.{Tables, is_rebuild}
use Rattle.draid_blocks.specs.Holding.{EnterRefused, HoldRefused}
use Rattle.draid_shard.specs.States.{IsIn, Leads, layout_by}
use Rattle.draid_blocks.proofs.Entered.{set_same}
use Rattle.draid_shard.proofs.Held.{tables_in, with_tables}
use Rattle.draid_shard.proofs.FreeRuns.{enabled_by, longest_of, run_fits, spot_fits, spot_of}
use Rattle.draid_shard.proofs.Tables.{WasFree, spot_free}
use Rattle.draid_shard.proofs.Sizes.{some_height}

pub columns_low : (geometry : Geometry) → IsGeometry geometry → geometry.g ≤ 64
columns_low geometry is = let w = is.width in let d = is.disks in let c = is.spec.most_children in omega (arith, w, d, c)

-- without a rebuild it takes blocks
pub enabled_without : (disabled : Bool) (pass : Option ThePass) (rebuild : Option ℕ) → disabled ≡ is_rebuild pass → IsTrue (is_some rebuild) ↔ IsTrue (is_rebuild pass) → rebuild ≡ None → disabled ≡ false
enabled_without false pass rebuild same is none = refl
enabled_without true pass rebuild same is none = absurd (true≢false (sym (is.1 (sym same)) ∙ ap is_some none))

-- a table that holds so many at most counts them in 32 bits
pub low_count : (version count held : ℕ) → held ≡ count → count ≤ most_held version → held < 2 ^ 32
low_count version count held same few = omega (arith, same, few, at_most (version == 1))
  where
    at_most : (b : Bool) → (if b then 4096 else 8192) ≤ 8192
    at_most true = omega arith
    at_most false = omega arith

-- the greater of the open group and a floor
pub due_from : (group birth floor : ℕ) → birth ≡ max group floor → group ≤ birth
due_from group birth floor is = elim (cases_lt floor group) [
  | inl low ↦ (let m : max group floor ≡ group = grind (arith, nat_tests, low) in omega (arith, is, m))
  | inr high ↦ (let m : max group floor ≡ floor = grind (arith, nat_tests, high) in omega (arith, is, m, high))
]

pub due_upto : (group birth floor : ℕ) → birth ≡ max group floor → floor ≤ group + 1 → birth ≤ group + 1
due_upto group birth floor is below = elim (cases_lt floor group) [
  | inl low ↦ (let m : max group floor ≡ group = grind (arith, nat_tests, low) in omega (arith, is, m))
  | inr high ↦ (let m : max group floor ≡ floor = grind (arith, nat_tests, high) in omega (arith, is, m, below))
]

pub due_low : (group birth floor : ℕ) → birth ≡ max group floor → group ≤ LAST_NUMBER → floor ≤ LAST_NUMBER → birth ≤ LAST_NUMBER
due_low group birth floor is low below = elim (cases_lt floor group) [
  | inl less ↦ (let m : max group floor ≡ group = grind (arith, nat_tests, less) in omega (arith, is, m, low))
  | inr high ↦ (let m : max group floor ≡ floor = grind (arith, nat_tests, high) in omega (arith, is, m, below))
]

-- what a write owes that begins
pub owed_begun : (columns : ℕ) (old new : Entries) (p : Pointer) → SetsEntry old new p (Some (begun p)) → entry_at old p.first ≡ None → owed_by columns new ≡ owed_by columns old + columns + 2
owed_begun columns old new p sets none =
    let sum = sets.owed columns in
    let was : owed_at columns (entry_at old p.first) ≡ 0 = ap (owed_at columns) none in
    omega (arith, sum, was)

-- what a shard is that may begin a write
pub record MayBegin {R A : Type 0} (shard : Shard R A) : Type 0 where
  pub geometry_is : IsGeometry shard.geometry
  pub tables : Tables shard.geometry shard.open_group shard.space shard.entries
  pub enabled : is_rebuild shard.pass ≡ false
  pub few : count_of shard.entries < most_held shard.version

-- the run that was given, and its block
pub record IsGiven {R A : Type 0} (shard : Shard R A) (p : Pointer) : Type 0 where
  pub some : 0 < p.stripes
  pub lowest : IsLowest (is_free shard.space) shard.space.height p.stripes p.first
  pub inside : p.first + p.stripes ≤ shard.space.total
  pub unused : held_in shard.entries (key_of p) ≡ None
  pub from : shard.open_group ≤ p.birth
  pub upto : p.birth ≤ shard.open_group + 1

pub begins_leads : {R A : Type 0} (old : Shard R A) (space : Stripes) (entries : Entries) (history : History) (p : Pointer) → MayBegin old → IsGiven old p
    → SetsEntry old.entries entries p (Some (begun p)) → (w : machine.State) → IsIn old w → Leads (layout_by old) w (begins p) (with_tables old space entries history)
begins_leads old space entries history p may given sets w is_in = record {
  state = begin_state w (key_of p) (held_at (begun p));
  step = record {
    enabled = enabled_by old.slots old.pass w.core is_in.pass may.enabled;
    unused = is_in.held (key_of p) ∙ given.unused;
    few = few old.entries w.core (most_held w.version) is_in.held (let less = may.few in let same = ap most_held is_in.version in omega (arith, less, same));
    some = given.some;
    fits = run_fits old.geometry old.open_group old.space old.entries may.tables (layout_by old) w.core is_in.held refl refl p.first p.stripes height fits;
    lowest = λ x less other.
        let spot = spot_of old.geometry old.open_group old.space old.entries may.tables (layout_by old) w.core is_in.held refl refl x p.stripes height given.some other in
        let first = given.lowest.lowest x spot in
        omega (arith, less, first);
    birth = record {
      from = (let at = is_in.open_group_is in let from = given.from in omega (arith, at, from));
      upto = (let at = is_in.open_group_is in let upto = given.upto in omega (arith, at, upto));
    };
    made = refl;
  };
  is_in = tables_in old space entries history w (set_held w.core.held (key_of p) (Some (held_at (begun p)))) w.present w.aside w.kept is_in
      (set_same w.core.held old.entries entries p (Some (begun p)) is_in.held sets);
} where
  height : 0 < old.geometry.props.height
  height = some_height old.geometry may.geometry_is

  fits : WasFree old.geometry (is_free old.space) p.first p.stripes
  fits = spot_free old.geometry old.open_group old.space old.entries p.first p.stripes may.tables given.some given.lowest.spot given.inside

-- why none was begun, by each state
pub refused_by : {R A : Type 0} (old : Shard R A) (need stripes asked : ℕ) (fault : BeginFault) → MayBegin old → 0 < need → stripes ≡ need → asked ≡ block_events old
    → HoldRefused old.space old.history stripes asked fault → (w : machine.State) → IsIn old w → BeginRefused old need w fault
refused_by old need stripes asked (begin.Disabled pass) may some same events refused w is_in = absurd refused
refused_by old need stripes asked (begin.Entries held) may some same events refused w is_in = absurd refused
refused_by old need stripes asked (begin.NoRoom largest) may some same events refused w is_in = (
  enabled_by old.slots old.pass w.core is_in.pass may.enabled,
  few old.entries w.core (most_held w.version) is_in.held (let less = may.few in let version = ap most_held is_in.version in omega (arith, less, version)),
  longest_of old.geometry old.open_group old.space old.entries may.tables (layout_by old) w.core is_in.held refl refl largest (some_height old.geometry may.geometry_is) refused.0,
  (let less = refused.1 in omega (arith, less, same)),
)
refused_by old need stripes asked (begin.Worn used) may some same events refused w is_in = (
  enabled_by old.slots old.pass w.core is_in.pass may.enabled,
  few old.entries w.core (most_held w.version) is_in.held (let less = may.few in let version = ap most_held is_in.version in omega (arith, less, version)),
  (
    refused.0.0,
    subst (λ n. Fits (layout_by old) w.core refused.0.0 n) same
        (spot_fits old.geometry old.open_group old.space old.entries may.tables (layout_by old) w.core is_in.held refl refl refused.0.0 stripes (some_height old.geometry may.geometry_is)
        (omega (arith, some, same)) refused.0.1.spot),
  ),
  (let passes = refused.1 in omega (arith, passes, events)),
  refused.2,
)
refused_by old need stripes asked begin.NoMemory may some same events refused w is_in = tt

-- a run was given, and its block wasn't entered
pub hold_refused : (space : Stripes) (history : History) (need asked : ℕ) (fault : BeginFault) (first : ℕ) → IsLowest (is_free space) space.height need first → first + need ≤ space.total
    → EnterRefused history asked fault → HoldRefused space history need asked fault
hold_refused space history need asked (begin.Disabled pass) first lowest inside refused = refused
hold_refused space history need asked (begin.Entries held) first lowest inside refused = refused
hold_refused space history need asked (begin.NoRoom largest) first lowest inside refused = absurd refused
hold_refused space history need asked (begin.Worn events) first lowest inside refused = ((first, lowest, inside), refused.0, refused.1)
hold_refused space history need asked begin.NoMemory first lowest inside refused = tt
