-- One metaslab of a pool where a pass has nothing left to lend, or has something left that isn't lent.
use Rattle.std.proofs.Common.{◌≡◌, ◌≤◌, ◌∙◌, inl, inr, ℕ, Bool, true, false, List, [], ◌∷◌, Option, Some, None, arith, refl, sym, ap, subst, min, if◌then◌else◌}
use Rattle.std.specs.Prelude.{◌&&◌, ◌||◌, ⊤, IfNone, IfSome, IsSomeAnd, Result, Ok, is_some, nat_le, not, option_map}
use Rattle.std.proofs.lemmas.Bool.{cases_lt, true≢false}
use Rattle.std.proofs.lemmas.Bool.Decides.{nat_tests}
use Rattle.draid_names.specs.declared.pointer.Pointer.{Pointer}
use Rattle.draid_names.specs.declared.numbers.TheConstants.{LAST_NUMBER}
use Rattle.draid_names.specs.declared.pass_kind.PassKind.{PassKind}
use Rattle.draid_names.specs.declared.pass_kind.PassKind.TheVariants.{Heal, Rebuild}
use Rattle.draid_rack.specs.declared.Rack as racks
use Rattle.draid_area.specs.declared.Area as areas
use Rattle.draid_machine.specs.declared.event.Event.TheVariants.{Done}
use Rattle.draid_machine.specs.declared.names.Held.{Held}
use Rattle.draid_machine.specs.declared.names.Key.{Key}
use Rattle.draid_machine.specs.After.{ended_pass, lose_some}
use Rattle.draid_machine.specs.Arms.{is_silent, lies_on}
use Rattle.draid_machine.specs.Names.{is_block, is_heal}
use Rattle.draid_machine.specs.State as machine
use Rattle.draid_machine.specs.Step.{IsTaken, is_lent}
use Rattle.draid_machine.proofs.Small.{some_same}
use Rattle.draid_segments.specs.Segments.{Pieces}
use Rattle.draid_entries.specs.History.{left_for_groups}
use Rattle.draid_entries.specs.Maps.{held_at, key_of, staged}
use Rattle.draid_pass.specs.declared.pass.Pass.{Pass}
use Rattle.draid_slots.specs.States.{pass_in}
use Rattle.draid_shard.specs.Calls.{SameAreas, SameKit, SameReserve}
use Rattle.draid_shard.specs.Fits.{Valid}
use Rattle.draid_shard.specs.Left.{HasNothingLeft}
use Rattle.draid_shard.specs.Lends.{IsLendRefused, lend_events}
use Rattle.draid_shard.specs.Loans.{loan_in}
use Rattle.draid_shard.specs.Looks.{IsNextBlock, IsNextTaken, Reaches}
use Rattle.draid_shard.specs.Part.{Part, layout_in}
use Rattle.draid_shard.specs.Rooms.{IsWornFor}
use Rattle.draid_shard.specs.States.{DoesNone, IsIn}
use Rattle.draid_shard.specs.declared.loan.KeptLoan.{KeptLoan}
use Rattle.draid_shard.specs.declared.loan.LendFault.{LendFault}
use Rattle.draid_shard.specs.declared.loan.LendFault.TheVariants as fault
use Rattle.draid_shard.specs.declared.shard.Shard.{Shard}
use Rattle.draid_passing.specs.Ending.{Ends}
use Rattle.draid_passing.specs.declared.ending.Ended.{Ended}
use Rattle.draid_mend.specs.Loans.{HasUnit, IsRunningRebuild}
use Rattle.draid_restore.specs.Loans.{HasBlockLeft}
use Rattle.draid_shard.specs.Scrubs.{IsRunningScrub}
use Rattle.draid_session.specs.Holds.{Looked, On, View, view_of}
use Rattle.draid_session.specs.Passes as passes
use Rattle.draid_session.specs.State.{Metaslab}
use Rattle.draid_pool.specs.Metaslabs.{IsMetaslab}
use Rattle.draid_pool.specs.Shards.{Goes, SameBlocks}
use Rattle.draid_pool.proofs.Dids as dids
use Rattle.draid_pool.proofs.Dids.{none_here}
use Rattle.draid_pool.proofs.OneHold.{looked, passes_is, worn_is}
use Rattle.draid_visits.specs.Pieces.{GoesTo}
use Rattle.draid_visits.specs.Steps.{IsRunningOf, NextIs}
use Rattle.draid_visits.specs.declared.steps.Next.{Next}
use Rattle.draid_visits.specs.declared.steps.Next.TheVariants as next
use Rattle.draid_visits.proofs.PassSteps.{raised, rebuild_did, rebuild_goes}
use Rattle.draid_visits.proofs.Started.{fits, pass_told, same_world}

-- the pass that runs
pub record Running (o : Option Pass) : Type 0 where
  pub pass : Pass
  pub there : o ≡ Some pass
  pub runs : pass.running ≡ true

pub running_of : (o : Option Pass) → IsSomeAnd o (λ (p : Pass). p.running ≡ true) → Running o
running_of None is = absurd is
running_of (Some p) is = record { pass = p; there = refl; runs = is }

pub runs_of : (kind : PassKind) (o : Option Pass) → IsSomeAnd o (IsRunningOf kind) → IsSomeAnd o (λ (p : Pass). p.running ≡ true)
runs_of kind None is = absurd is
runs_of kind (Some p) is = is.running

pub runs_rebuild : (o : Option Pass) → IsSomeAnd o (IsRunningOf Rebuild) → IsSomeAnd o IsRunningRebuild
runs_rebuild None is = absurd is
runs_rebuild (Some p) is = record { rebuild = is.kind_is; running = is.running }

pub runs_scrub : (o : Option Pass) → IsSomeAnd o (IsRunningOf Heal) → IsSomeAnd o IsRunningScrub
runs_scrub None is = absurd is
runs_scrub (Some p) is = record { scrub = is.kind_is; running = is.running }

pub ok_as : {T E : Type 0} (r : Result T E) (a b : T) → r ≡ Ok a → a ≡ b → r ≡ Ok b
ok_as r a b is same = subst (λ z. r ≡ Ok z) same is

pub worn_as : {R A : Type 0} (shard : Shard R A) (why : LendFault) (events : ℕ) → IsLendRefused shard why → why ≡ fault.Worn events → IsWornFor shard (lend_events shard.kept)
worn_as shard why events refused is = (subst (IsLendRefused shard) is refused).0

-- ---- what is left

-- a rebuild lends whatever is taken
lends_all : (p : machine.Pass) (h : Held) → p.kind ≡ Rebuild → is_lent p h ≡ true
lends_all p h kind = ap (λ k. not (is_heal k) || (is_block h.stage && nat_le h.birth p.max)) kind

-- a scrub lends the blocks that were born up to its last group
lends_blocks : (p : machine.Pass) (h : Held) → p.kind ≡ Heal → is_block h.stage ≡ true → h.birth ≤ p.max → is_lent p h ≡ true
lends_blocks p h kind block born =
    ap (λ k. not (is_heal k) || (is_block h.stage && nat_le h.birth p.max)) kind ∙ (ap (λ b. b && nat_le h.birth p.max) block ∙ le_true h.birth p.max born)
  where
    le_true : (a b : ℕ) → a ≤ b → nat_le a b ≡ true
    le_true a b less = grind (arith, nat_tests, less)

lent_block : (p : machine.Pass) (h : Held) → p.kind ≡ Heal → is_lent p h ≡ true → (is_block h.stage ≡ true) × (h.birth ≤ p.max)
lent_block p h kind lent = by (is_block h.stage) refl (sym (ap (λ k. not (is_heal k) || (is_block h.stage && nat_le h.birth p.max)) kind) ∙ lent)
  where
    less : (a b : ℕ) → nat_le a b ≡ true → a ≤ b
    less a b is = grind (arith, nat_tests, is)

    by : (b : Bool) → is_block h.stage ≡ b → (b && nat_le h.birth p.max) ≡ true → (is_block h.stage ≡ true) × (h.birth ≤ p.max)
    by true is both = (is, less h.birth p.max both)
    by false is both = absurd (true≢false (sym both))

module _ {R A : Type 0} (shard : Shard R A) (p : Pass) (there : shard.pass ≡ Some p) where
  told : (w : machine.State) → IsIn shard w → w.core.pass ≡ Some (pass_in shard.slots p)
  told w is = is.pass ∙ ap (option_map (pass_in shard.slots)) there

  own : (w : machine.State) (q : machine.Pass) → IsIn shard w → w.core.pass ≡ Some q → pass_in shard.slots p ≡ q
  own w q is at = some_same w.core.pass (pass_in shard.slots p) q (told w is) at

  -- a rebuild has what is taken left
  pub taken_left : p.kind ≡ Rebuild → ((w : machine.State) → IsIn shard w → (x : ℕ) × IsNextTaken w.core p.at x) → HasBlockLeft shard
  taken_left kind next w is =
      let z = next w is in
      record {
        p = pass_in shard.slots p;
        key = z.1.taken.key;
        h = z.1.taken.held;
        stripe = z.0;
        pass = told w is;
        next = record {
          found = z.1.taken.found;
          lent = lends_all (pass_in shard.slots p) z.1.taken.held kind;
          taken = z.1.taken.taken;
          from = z.1.behind;
          first = λ k i y found lent takes from less. z.1.first y from less (record { key = k; held = i; found = found; taken = takes });
        };
      }

  -- a scrub its blocks
  pub block_left : p.kind ≡ Heal → ((w : machine.State) → IsIn shard w → (q : Pointer) × IsNextBlock w.core p.at p.max q) → HasBlockLeft shard
  block_left kind next w is =
      let z = next w is in
      let r = z.1.reaches in
      record {
        p = pass_in shard.slots p;
        key = key_of z.0;
        h = held_at (staged z.1.stage z.0);
        stripe = z.1.stripe;
        pass = told w is;
        next = record {
          found = r.there;
          lent = lends_blocks (pass_in shard.slots p) (held_at (staged z.1.stage z.0)) kind r.is_block r.born;
          taken = r.takes;
          from = r.behind;
          first = λ k i y found lent takes from less. (let b = lent_block (pass_in shard.slots p) i kind lent in
              let low = z.1.first k i y (record { there = found; is_block = b.0; born = b.1; takes = takes; behind = from }) in
              omega (arith, low, less));
        };
      }

  -- where none is taken from its place on nothing is left
  pub none_left : ((w : machine.State) → IsIn shard w → (x : ℕ) → p.at ≤ x → IsTaken w.core x → ⊥) → HasNothingLeft shard
  none_left none w is q at k h x found lent taken =
      let next : p.at ≡ q.next = ap (λ (z : machine.Pass). z.next) (own w q is at) in
      elim (cases_lt x q.next) [
        | inl less ↦ less
        | inr past ↦ absurd (none w is x (omega (arith, next, past)) (record { key = k; held = h; found = found; taken = taken }))
      ]

  -- nor where no block is reached
  pub no_block_left : p.kind ≡ Heal → ((w : machine.State) → IsIn shard w → (k : Key) (h : Held) (x : ℕ) → Reaches w.core p.at p.max k h x → ⊥) → HasNothingLeft shard
  no_block_left kind none w is q at k h x found lent taken =
      let same = own w q is at in
      let next : p.at ≡ q.next = ap (λ (z : machine.Pass). z.next) same in
      let max : p.max ≡ q.max = ap (λ (z : machine.Pass). z.max) same in
      let b = lent_block q h (sym (ap (λ (z : machine.Pass). z.kind) same) ∙ kind) lent in
      let born = b.1 in
      elim (cases_lt x q.next) [
        | inl less ↦ less
        | inr past ↦ absurd (none w is k h x (record { there = found; is_block = b.0; born = omega (arith, born, max); takes = taken; behind = omega (arith, next, past) }))
      ]

pub unit_left : {R A : Type 0} (shard : Shard R A) (p : Pass) → shard.pass ≡ Some p → p.kind ≡ Rebuild → HasUnit shard → HasBlockLeft shard
unit_left shard p there kind unit = taken_left shard p there kind (λ w is. (unit.stripe, unit.is.next w is p there))

pub if_some_is : {T : Type 0} (o : Option T) (P : T → Type 0) → is_some o ≡ true → IfSome o P → (x : T) × P x
if_some_is None P is holds = absurd (true≢false (sym is))
if_some_is (Some x) P is holds = (x, holds)

pub if_none_is : (o : Option ℕ) (P : Type 0) → is_some o ≡ false → IfNone o P → P
if_none_is None P is holds = holds
if_none_is (Some x) P is holds = absurd (true≢false is)

module _ {R A : Type 0} (rack : racks.Ghosts R) (area : areas.Ghosts A) (part : Part) (pieces : Pieces) (shard : Shard R A) (x : Metaslab) (is : IsMetaslab rack area part pieces shard x) where
  pub view : View
  view = view_of part.number x

  -- ---- it ends

  low_errors : (l : machine.Layout) (p : machine.Pass) (failed : List ℕ) (heal : Bool) → p.errors ≤ LAST_NUMBER
      → (if heal then p else lose_some (lies_on l x.world.core (is_silent x.world.core failed)) p).errors ≤ LAST_NUMBER
  low_errors l p failed true low = low
  low_errors l p failed false low = omega arith

  pub over : (new : Shard R A) (ended : Ended) (count : ℕ) (p : Pass) → count ≡ min ended.errors LAST_NUMBER → shard.pass ≡ Some p → Ends rack shard new ended → Valid rack new → SameAreas shard new → SameReserve shard new
      → Goes rack area part pieces x new (λ holds y. passes.EndsPass part.geometry part.perms part.number count holds × SameBlocks x y)
  over new ended count p counted there ends valid same reserve =
      let q : machine.Pass = pass_in shard.slots p in
      let told : x.world.core.pass ≡ Some q = pass_told rack area part pieces shard x is p there in
      let errors : ended.errors ≡ (ended_pass (layout_in part) x.world.core q ends.failed.items).errors
      = subst (λ part. ended.errors ≡ (ended_pass (layout_in part) x.world.core q ends.failed.items).errors) is.part_is (ends.errors x.world q is.stands.reached is.stands.is_in told) in
      let low : (ended_pass (layout_in part) x.world.core q ends.failed.items).errors ≤ LAST_NUMBER
      = low_errors (layout_in part) q ends.failed.items (is_heal q.kind) ((fits rack area part pieces shard x is).core.pass q told).errors in
      let d : dids.Done rack area part pieces new (Done ends.failed) x
      = rebuild_did rack area part pieces shard new (Done ends.failed) x is valid ends.does (ends.acts pieces) reserve (raised rack area ends.failed.items shard new same ends.counts) tt in
      rebuild_goes rack area part pieces new (Done ends.failed) x (λ holds. passes.EndsPass part.geometry part.perms part.number count holds) tt d (record {
        v = view_of part.number x;
        p = q;
        failed = ends.failed;
        after = d.reached.world;
        are = refl;
        there = refl;
        pass = told;
        errors_are = omega (arith, errors, low, counted);
      })

  -- ---- something is left

  keeps_back : (why : View → Type 0) → HasBlockLeft shard → why (view_of part.number x) → passes.KeepsBack part.geometry part.perms part.number (On (view_of part.number x) Looked ∷ []) why
  keeps_back why left so =
      let z = left x.world is.stands.is_in in
      record {
        v = view_of part.number x;
        are = refl;
        there = refl;
        more = record { p = z.p; key = z.key; h = z.h; stripe = z.stripe; pass = z.pass; next = z.next };
        why = so;
      }

  -- no more is to be lent
  pub paused : (kind : PassKind) → HasBlockLeft shard → Goes rack area part pieces x shard (λ holds y. NextIs part kind true next.Paused holds × SameBlocks x y)
  paused kind left = looked rack area part pieces shard x (λ holds y. NextIs part kind true next.Paused holds × SameBlocks x y) is ((refl, keeps_back (λ v. ⊤) left tt), same_world x)

  asks_told : (o : Option KeptLoan) → x.world.loan ≡ option_map loan_in o → passes.lend_asks x.world.loan ≡ lend_events o
  asks_told None told = ap passes.lend_asks told
  asks_told (Some kept) told = ap passes.lend_asks told

  pub worn_told : IsWornFor shard (lend_events shard.kept) → passes.LendIsWorn part.geometry part.perms (view_of part.number x)
  worn_told worn =
      worn_is rack area part pieces shard x (passes.lend_asks x.world.loan) left_for_groups is (subst (IsWornFor shard) (sym (asks_told shard.kept is.stands.is_in.loan)) worn)

  pub told_worn : passes.LendIsWorn part.geometry part.perms (view_of part.number x) → IsWornFor shard (lend_events shard.kept)
  told_worn worn =
      subst (IsWornFor shard) (asks_told shard.kept is.stands.is_in.loan) (passes_is rack area part pieces shard x (passes.lend_asks x.world.loan) left_for_groups is worn)

  module _ (new : Shard R A) (valid : Valid rack new) (same : DoesNone shard new) (kit : SameKit shard new) (reserve : SameReserve shard new) where
    here : IsMetaslab rack area part pieces new x
    here = none_here rack area part pieces shard new x is valid same kit.rack kit.areas reserve.limit reserve.reserved

    -- the limit leaves too few events
    pub worn : (kind : PassKind) → HasBlockLeft shard → IsWornFor shard (lend_events shard.kept) → Goes rack area part pieces x new (λ holds y. NextIs part kind false next.Worn holds × SameBlocks x y)
    worn kind left is_worn =
        looked rack area part pieces new x (λ holds y. NextIs part kind false next.Worn holds × SameBlocks x y) here
        ((refl, keeps_back (passes.LendIsWorn part.geometry part.perms) left (worn_told is_worn)), same_world x)

    -- memory was wanting
    pub starved : (kind : PassKind) → HasBlockLeft shard → Goes rack area part pieces x new (λ holds y. NextIs part kind false next.NoMemory holds × SameBlocks x y)
    starved kind left = looked rack area part pieces new x (λ holds y. NextIs part kind false next.NoMemory holds × SameBlocks x y) here ((refl, inl (keeps_back (λ v. ⊤) left tt)), same_world x)

-- as it is known whether the limit is used up
pub used_so : {R A : Type 0} (rack : racks.Ghosts R) (area : areas.Ghosts A) (part : Part) (pieces : Pieces) (x : Metaslab) (new : Shard R A) (P : Type 0) (kind : PassKind) (used known : Bool) (what : Next) → used ≡ known
    → GoesTo rack area part pieces x new (λ holds y. (P → NextIs part kind known what holds) × SameBlocks x y) → GoesTo rack area part pieces x new (λ holds y. (P → NextIs part kind used what holds) × SameBlocks x y)
used_so rack area part pieces x new P kind used known what is goes = subst (λ b. GoesTo rack area part pieces x new (λ holds y. (P → NextIs part kind b what holds) × SameBlocks x y)) (sym is) goes
