-- One metaslab as a group is closed, sealed and committed there.
use Rattle.std.proofs.Common.{◌≤◌, ◌≡◌, ◌==◌, ◌%◌, ◌<◌, ◌+◌, ◌∙◌, [], ◌∷◌, inl, inr, ℕ, suc, Bool, true, false, List, Option, Some, None, Ok, Err, IsSome, Contains, Vec, Global, arith, refl, sym, ap, subst, length, if◌then◌else◌}
use Rattle.std.specs.Prelude.{is_some}
use Rattle.draid_pool.proofs.Refusing.{not_both}
use Rattle.draid_names.specs.Faults.{Rose}
use Rattle.draid_names.specs.declared.numbers.TheConstants.{LAST_NUMBER}
use Rattle.draid_rack.specs.Rack.{OnTold, Told}
use Rattle.draid_rack.specs.Moments.{Leaves, LeavesTold}
use Rattle.draid_rack.specs.declared.Rack as racks
use Rattle.draid_area.specs.Area as content
use Rattle.draid_area.specs.declared.Area as areas
use Rattle.draid_machine.specs.declared.event.Event.{Event}
use Rattle.draid_machine.specs.declared.event.Event.TheVariants as event
use Rattle.draid_machine.specs.declared.names.ArmName.TheVariants.{Leaf}
use Rattle.draid_machine.specs.declared.names.Held.{Held}
use Rattle.draid_machine.specs.declared.names.Key.{Key}
use Rattle.draid_machine.specs.After.{image_of, map_arm, seal_arm, seal_state}
use Rattle.draid_machine.specs.Created.{IsReached}
use Rattle.draid_machine.specs.Images.{IsImage}
use Rattle.draid_machine.specs.Names.{is_block}
use Rattle.draid_machine.specs.Sound.{Sound}
use Rattle.draid_machine.specs.State as machine
use Rattle.draid_machine.specs.Step.{Step}
use Rattle.draid_machine.proofs.Rows.{reached_sound}
use Rattle.draid_machine.proofs.Small.{absurd_test, none_some, some_injective}
use Rattle.draid_objects.specs.Blocks.{without_freed}
use Rattle.draid_segments.specs.Acts.{nowhere}
use Rattle.draid_segments.specs.Segments.{Backed, Pieces}
use Rattle.draid_segments.proofs.Beginning.{flushed_backed}
use Rattle.draid_entries.specs.Entries.{held_in}
use Rattle.draid_entries.specs.History as history
use Rattle.draid_shard.specs.Calls.{SameKit, SameReserve}
use Rattle.draid_shard.specs.Fits.{AreGroups, Valid}
use Rattle.draid_pool.specs.Groups.{AreasLater, CloseRefused, KeepsOtherArea, ListsOnce, OpenUpto, Seals, Unsealed, area_in}
use Rattle.draid_shard.specs.Part.{Part, layout_in}
use Rattle.draid_shard.specs.States.{Does, DoesNone, IsIn, layout_by, part_of}
use Rattle.draid_pool.specs.declared.fault.CloseFault.{CloseFault}
use Rattle.draid_pool.specs.declared.fault.CloseFault.TheVariants as close
use Rattle.draid_pool.specs.declared.fault.SealFault.{SealFault}
use Rattle.draid_pool.specs.declared.fault.SealFault.TheVariants as seal
use Rattle.draid_shard.specs.declared.shard.Shard.{Shard}
use Rattle.draid_shard.proofs.Standing.{has_layout}
use Rattle.draid_session.specs.Follows.{CountsRise, HasNoEvent, area_count}
use Rattle.draid_session.specs.Groups as groups
use Rattle.draid_session.specs.Holds.{AreaFailed, CallStarved, Did, Hold, Looked, On, view_of}
use Rattle.draid_session.specs.State.{Metaslab}
use Rattle.draid_pool.specs.Importable.{IsAlike, Shared, keep_shared}
use Rattle.draid_pool.specs.Metaslabs.{IsMetaslab, counts_of, harm_of}
use Rattle.draid_pool.specs.Records.{HasRecords, area_for}
use Rattle.draid_pool.specs.Syncing.{CloseIs, Commits, KeepsCommitted, SealIs, Turns}
use Rattle.draid_pool.specs.declared.fault.SyncFault.{SyncFault}
use Rattle.draid_pool.specs.declared.fault.SyncFault.TheVariants as sync
use Rattle.draid_pool.proofs.Alike.{alike_committed, alike_kept, alike_sealed, own_arms}
use Rattle.draid_pool.proofs.Imaged.{leaf_in}
use Rattle.draid_pool.proofs.Dids.{Done, did_quiet, did_with, none_here, records_same}
use Rattle.draid_pool.proofs.Lists.{ext}
use Rattle.draid_pool.proofs.OneHold.{passes_is, worn_is}

-- ---- faults

-- why a pool's group isn't closed
abbrev pub close_fault : CloseFault → SyncFault
close_fault (close.Worn events) = sync.Worn
close_fault close.Last = sync.Last
close_fault close.NoMemory = sync.NoMemory

-- the group that isn't closed since it is the last
pub last_group : {R A : Type 0} (shard : Shard R A) (group : ℕ) (why : CloseFault) → why ≡ close.Last → CloseRefused shard group why → group ≡ LAST_NUMBER
last_group shard group why is refused = (let last : CloseRefused shard group close.Last = subst (CloseRefused shard group) is refused in last.1)

-- where no group is closing
pub idle_by : (o : Option ℕ) → is_some o ≡ false → o ≡ None
idle_by None none = refl
idle_by (Some t) none = absurd (cc)

pub open_next : (open_group committed group : ℕ) (closing : Option ℕ) (sealed : Bool) → AreGroups open_group closing committed sealed → closing ≡ None → group ≡ committed + 1 → group ≡ open_group
open_next open_group committed group closing sealed are idle next = (let a = subst (λ (o : Option ℕ). AreGroups open_group o committed sealed) idle are in next ∙ sym a.0)

-- one that is closing is that behind the committed one
pub closing_next : (open_group committed group : ℕ) (closing : Option ℕ) (sealed : Bool) → AreGroups open_group closing committed sealed → is_some closing ≡ true → group ≡ committed + 1 → closing ≡ Some group
closing_next open_group committed group None sealed are some next = absurd (cc)
closing_next open_group committed group (Some t) sealed are some next = ap (λ (n : ℕ). Some n) (are.1 ∙ sym next)

-- why a pool's group isn't sealed
abbrev pub seal_fault : SealFault → SyncFault
seal_fault (seal.NotYet tickets) = sync.NoMemory
seal_fault seal.Area = sync.Shelf
seal_fault seal.NoMemory = sync.NoMemory

-- ---- states

kept_here : (w : machine.State) → KeepsCommitted w w
kept_here w = record { held = refl; committed = refl; images = λ image is. is; leaves = λ kept_leaf next_leaf below. below; alike = λ shared is. is; opens = omega arith }

close_keeps : (l : machine.Layout) (w v : machine.State) (group : ℕ) → Step l w (event.Close group) v → KeepsCommitted w v
close_keeps l w v group step = subst (KeepsCommitted w) (sym step.made) (record {
  held = refl;
  committed = refl;
  images = λ image is. is;
  leaves = λ kept_leaf next_leaf below. record { kept = below.kept; sealed = below.sealed; now = below.now };
  alike = λ shared is. alike_kept shared w _ refl (own_arms w.core) refl refl is;
  opens = (let from = step.open_group in omega (arith, from));
})

from_mapped : (f : machine.Arm → machine.Arm) (o : Option machine.Arm) → IsSome (map_arm f o) → IsSome o
from_mapped f None some = some
from_mapped f (Some a) some = refl

from_sealed : (o : Option machine.Arm) → IsSome (seal_arm o) → IsSome o
from_sealed None some = some
from_sealed (Some a) some = refl

same_low : (n : ℕ) → n ≤ n
same_low n = omega arith

seal_keeps : (l : machine.Layout) (w v : machine.State) (group : ℕ) (failed : Vec ℕ Global) → Step l w (event.Seal group failed) v → KeepsCommitted w v
seal_keeps l w v group failed step = subst (KeepsCommitted w) (sym step.made) (record {
  alike = λ shared is. subst (IsAlike shared) step.made (alike_sealed shared l w v group failed.items step is);
  held = refl;
  committed = refl;
  images = λ image is. elim is [ inl here ↦ inl here | inr here ↦ absurd (none_some w.sealed image step.unsealed here) ];
  leaves = λ kept_leaf next_leaf below. record {
    kept = below.kept;
    sealed = λ image is leaf some.
        below.now leaf (from_mapped _ (w.core.arm (Leaf leaf)) (from_sealed _ (subst (λ (i : machine.Image). IsSome (i.core.arm (Leaf leaf))) (sym (some_injective _ image is)) some)));
    now = λ leaf some. below.now leaf (from_mapped _ (w.core.arm (Leaf leaf)) some);
  };
  opens = same_low w.open_group;
})

-- what a commit does to a state
pub record CommitsState (group : ℕ) (w v : machine.State) : Type 0 where
  pub held : v.core.held ≡ without_freed group w.core.held
  pub committed : v.committed ≡ group
  pub sealed : w.sealed ≡ Some v.image
  pub closing : w.closing ≡ Some group
  pub of : v.image.group ≡ group
  pub none : v.sealed ≡ None
  pub leaves : (leaf : ℕ) → IsSome (v.core.arm (Leaf leaf)) → IsSome (w.core.arm (Leaf leaf))
  pub alike : (shared : Shared) → IsAlike shared w → IsAlike (keep_shared shared) v

-- ---- areas

-- two groups on are of the same area
same_parity : (n m : ℕ) → m ≡ n + 2 → (n % 2 == 0) ≡ (m % 2 == 0)
same_parity n m is = ap (λ k. k == 0) (let same : n % 2 ≡ m % 2 = omega (arith, is) in same)

told_in : {A : Type 0} (told : A → Option content.Content) (b : Bool) (even odd : A) → (if b then told even else told odd) ≡ told (if b then even else odd)
told_in told true even odd = refl
told_in told false even odd = refl

module _ {R A : Type 0} (rack : racks.Ghosts R) (area : areas.Ghosts A) where
  area_told : (group : ℕ) (shard : Shard R A) → area_for group (area.told shard.even) (area.told shard.odd) ≡ area.told (area_in shard group)
  area_told group shard = told_in area.told (group % 2 == 0) shard.even shard.odd

  area_counts : (group : ℕ) (shard : Shard R A) → area_count group (counts_of rack area shard) ≡ area.faults (area_in shard group)
  area_counts group shard = by (group % 2 == 0)
    where
      by : (b : Bool) → (if b then area.faults shard.even else area.faults shard.odd) ≡ area.faults (if b then shard.even else shard.odd)
      by true = refl
      by false = refl

  pub state_sound : (part : Part) (pieces : Pieces) (shard : Shard R A) (x : Metaslab) → IsMetaslab rack area part pieces shard x → Sound (layout_in part) x.world
  state_sound part pieces shard x is =
      subst (λ p. Sound (layout_in p) x.world) is.part_is (reached_sound (layout_by shard) (has_layout (part_of shard) is.valid.part) x.world is.stands.reached)

  -- the record of the committed image stands where the next group's area alone may have changed
  committed_record : (part : Part) (pieces : Pieces) (old new : Shard R A) (group : ℕ) (x : Metaslab) (image : machine.Image) → IsMetaslab rack area part pieces old x → KeepsOtherArea group old new
      → image.group + 1 ≡ group → x.world.image ≡ image
      → content.OnTold (area_for image.group (area.told new.even) (area.told new.odd)) (ListsOnce part.geometry part.number image)
  committed_record part pieces old new group x image is other behind own =
      let parity : (image.group % 2 == 0) ≡ ((group + 1) % 2 == 0) = same_parity image.group (group + 1) (omega (arith, behind)) in
      let same : (s : Shard R A) → area_for image.group (area.told s.even) (area.told s.odd) ≡ area.told (area_in s (group + 1))
      = (λ (s : Shard R A). ap (λ b. if b then area.told s.even else area.told s.odd) parity ∙ area_told (group + 1) s) in
      subst (λ told. content.OnTold told (ListsOnce part.geometry part.number image))
      (same old ∙ ap area.told (sym other) ∙ sym (same new)) (is.records image (inl own))

  -- ---- looks

  look : (part : Part) (pieces : Pieces) (new : Shard R A) (x : Metaslab) (does : Hold → Metaslab → Type 0) → IsMetaslab rack area part pieces new x → does (On (view_of part.number x) Looked) x
      → Turns rack area part pieces x new does
  look part pieces new x does is done = record { act = Looked; reached = x; acts = refl; done = done; is = is }

  -- ---- closing

  -- it is closing already
  pub closing_here : (part : Part) (pieces : Pieces) (shard : Shard R A) (group : ℕ) (x : Metaslab) → IsMetaslab rack area part pieces shard x → shard.closing ≡ Some group
      → Turns rack area part pieces x shard (λ hold y. CloseIs part group (Ok tt) hold × KeepsCommitted x.world y.world)
  closing_here part pieces shard group x is closing =
      look part pieces shard x (λ hold y. CloseIs part group (Ok tt) hold × KeepsCommitted x.world y.world) is ((refl, is.stands.is_in.closing ∙ closing, refl), kept_here x.world)

  pub closed : (part : Part) (pieces : Pieces) (old new : Shard R A) (group : ℕ) (x : Metaslab) → IsMetaslab rack area part pieces old x → Valid rack new → Does old new (event.Close group) → SameKit old new
      → SameReserve old new → (history.Passes old.history 3 0 → ⊥) → Turns rack area part pieces x new (λ hold y. CloseIs part group (Ok tt) hold × KeepsCommitted x.world y.world)
  closed part pieces old new group x is valid does kit reserve fits =
      let d : Done rack area part pieces new (event.Close group) x
      = did_quiet rack area part pieces old new (event.Close group) x is valid does kit reserve (λ w after step a b same. same) (λ v step. refl) refl refl tt tt in
      record {
        act = Did (event.Close group) d.reached.world;
        reached = d.reached;
        acts = d.acts;
        done = ((refl, refl, (λ worn. fits (passes_is rack area part pieces old x 3 0 is worn)), refl), close_keeps (layout_in part) x.world d.reached.world group d.step);
        is = d.is;
      }

  close_stops : (part : Part) (pieces : Pieces) (old : Shard R A) (group : ℕ) (x : Metaslab) (why : CloseFault) → IsMetaslab rack area part pieces old x → old.closing ≡ None → CloseRefused old group why
      → CloseIs part group (Err (close_fault why)) (On (view_of part.number x) Looked)
  close_stops part pieces old group x (close.Worn events) is idle why = (refl, is.stands.is_in.closing ∙ idle, worn_is rack area part pieces old x 3 0 is why.0)
  close_stops part pieces old group x close.Last is idle why =
      (refl, is.stands.is_in.closing ∙ idle, (λ worn. why.0 (passes_is rack area part pieces old x 3 0 is worn)), why.1)
  close_stops part pieces old group x close.NoMemory is idle why = refl

  pub not_closed : (part : Part) (pieces : Pieces) (old new : Shard R A) (group : ℕ) (x : Metaslab) (why : CloseFault) (fault : SyncFault) → IsMetaslab rack area part pieces old x → Valid rack new
      → DoesNone old new → SameKit old new → SameReserve old new → old.closing ≡ None → CloseRefused old group why → close_fault why ≡ fault
      → Turns rack area part pieces x new (λ hold y. CloseIs part group (Err fault) hold × KeepsCommitted x.world y.world)
  not_closed part pieces old new group x why fault is valid none kit reserve idle refused same =
      look part pieces new x (λ hold y. CloseIs part group (Err fault) hold × KeepsCommitted x.world y.world)
      (none_here rack area part pieces old new x is valid none kit.rack kit.areas reserve.limit reserve.reserved)
      (subst (λ f. CloseIs part group (Err f) (On (view_of part.number x) Looked)) same (close_stops part pieces old group x why is idle refused), kept_here x.world)

  -- ---- sealing

  -- it is sealed already
  pub stays_sealed : (part : Part) (pieces : Pieces) (shard : Shard R A) (group : ℕ) (x : Metaslab) → IsMetaslab rack area part pieces shard x → shard.closing ≡ Some group → shard.sealed ≡ true
      → Turns rack area part pieces x shard (λ hold y. SealIs part group (Ok 0) hold × KeepsCommitted x.world y.world)
  stays_sealed part pieces shard group x is closing done =
      look part pieces shard x (λ hold y. SealIs part group (Ok 0) hold × KeepsCommitted x.world y.world) is
      ((refl, is.stands.is_in.closing ∙ closing, (λ none. not_both (is_some x.world.sealed) (is.stands.is_in.sealed ∙ done) (ap (λ (o : Option machine.Image). is_some o) none)), refl), kept_here x.world)

  sealed_record : (pieces : Pieces) (old new : Shard R A) (group thin : ℕ) (x : Metaslab) → IsMetaslab rack area (part_of old) pieces old x → (s : Seals rack area.told old new group thin)
      → KeepsOtherArea group old new → (v : machine.State) → Step (layout_by old) x.world (event.Seal group s.failed) v → HasRecords (part_of old) v (area.told new.even) (area.told new.odd)
  sealed_record pieces old new group thin x is s other v step image (inl here) =
      let sound = (state_sound (part_of old) pieces old x is).groups in
      let own : x.world.image ≡ image = sym (ap (λ (w : machine.State). w.image) step.made) ∙ here in
      let of : image.group ≡ x.world.committed = ap (λ (i : machine.Image). i.group) (sym own) ∙ sound.image_is in
      let next = (sound.closing_is group step.closing).0 in
      committed_record (part_of old) pieces old new group x image is other (omega (arith, of, next)) own
  sealed_record pieces old new group thin x is s other v step image (inr here) =
      let made : image_of group x.world.asked (seal_state (layout_by old) x.world group s.failed.items step.wrote).core ≡ image
      = some_injective _ image (sym (ap (λ (w : machine.State). w.sealed) step.made) ∙ here) in
      let of : group ≡ image.group = ap (λ (i : machine.Image). i.group) made in
      subst (λ told. content.OnTold told (ListsOnce old.geometry old.number image))
      (sym (area_told group new) ∙ ap (λ g. area_for g (area.told new.even) (area.told new.odd)) of) (s.image x.world v image step is.stands.reached is.stands.is_in here)

  sealed_here : (pieces : Pieces) (old new : Shard R A) (group thin : ℕ) (x : Metaslab) → IsMetaslab rack area (part_of old) pieces old x → Valid rack new → Seals rack area.told old new group thin
      → KeepsOtherArea group old new → SameReserve old new → AreasLater area.faults old new
      → Turns rack area (part_of old) pieces x new (λ hold y. SealIs (part_of old) group (Ok thin) hold × KeepsCommitted x.world y.world)
  sealed_here pieces old new group thin x is valid s other reserve later =
      let e : Event = event.Seal group s.failed in
      let d : Done rack area (part_of old) pieces new e x
      = did_with rack area (part_of old) pieces old new e x is valid s.does (s.acts pieces) (λ v step. refl) reserve.limit (let r = reserve.reserved in omega (arith, r))
      (λ v step is_in. record { rack = s.counts.later None; even = later.even; odd = later.odd; leaves = λ leaf stays. s.counts.cause leaf }) (sealed_record pieces old new group thin x is s other) tt in
      record {
        act = Did e d.reached.world;
        reached = d.reached;
        acts = d.acts;
        done = ((refl, refl, s.thin_is x.world d.reached.world d.step is.stands.reached is.stands.is_in), seal_keeps (layout_by old) x.world d.reached.world group s.failed d.step);
        is = d.is;
      }

  pub sealed : (part : Part) (pieces : Pieces) (old new : Shard R A) (group thin : ℕ) (x : Metaslab) → IsMetaslab rack area part pieces old x → Valid rack new → Seals rack area.told old new group thin
      → KeepsOtherArea group old new → SameReserve old new → AreasLater area.faults old new
      → Turns rack area part pieces x new (λ hold y. SealIs part group (Ok thin) hold × KeepsCommitted x.world y.world)
  sealed part pieces old new group thin x is valid s other reserve later =
      subst (λ p. IsMetaslab rack area p pieces old x → Turns rack area p pieces x new (λ hold y. SealIs p group (Ok thin) hold × KeepsCommitted x.world y.world)) is.part_is
      (λ here. sealed_here pieces old new group thin x here valid s other reserve later) is

  -- ---- a seal that is refused

  flushed_told : (o p : Option Told) (P : Told → Type 0) → ((x y : Told) → Leaves nowhere x y → P x → P y) → LeavesTold nowhere o p → OnTold o P → OnTold p P
  flushed_told None p P keeps leaves is = subst (λ q. OnTold q P) (sym leaves) tt
  flushed_told (Some x) None P keeps leaves is = absurd leaves
  flushed_told (Some x) (Some y) P keeps leaves is = keeps x y leaves is

  flushed_harm : (o p : Option Told) → LeavesTold nowhere o p → harm_of o ≡ harm_of p
  flushed_harm None p leaves = ap harm_of (sym leaves)
  flushed_harm (Some x) None leaves = absurd leaves
  flushed_harm (Some x) (Some y) leaves =
      ap Some (ext x.harmed y.harmed (λ leaf. ext (x.harmed leaf) (y.harmed leaf) (λ sector. sym (leaves.harm leaf sector refl))))

  module _ (pieces : Pieces) (old new : Shard R A) (group : ℕ) (x : Metaslab) (is : IsMetaslab rack area (part_of old) pieces old x) (valid : Valid rack new) (other : KeepsOtherArea group old new)
      (reserve : SameReserve old new) (later : AreasLater area.faults old new) (closing : old.closing ≡ Some group) (open_ : old.sealed ≡ false) where
    reached : Metaslab
    reached = record x { counts = counts_of rack area new }

    unsealed : x.world.sealed ≡ None
    unsealed = by x.world.sealed (is.stands.is_in.sealed ∙ open_)
      where
        by : (o : Option machine.Image) → is_some o ≡ false → o ≡ None
        by None none = refl
        by (Some image) none = absurd_test (is_some (Some image)) refl none

    old_record : HasRecords (part_of old) x.world (area.told new.even) (area.told new.odd)
    old_record image (inl own) =
        let sound = (state_sound (part_of old) pieces old x is).groups in
        let of : image.group ≡ x.world.committed = ap (λ (i : machine.Image). i.group) (sym own) ∙ sound.image_is in
        let next = (sound.closing_is group (is.stands.is_in.closing ∙ closing)).0 in
        committed_record (part_of old) pieces old new group x image is other (omega (arith, of, next)) own
    old_record image (inr own) = absurd (none_some x.world.sealed image unsealed own)

    flushed : (why : SealFault) → Unsealed rack area.faults old new group why → IsMetaslab rack area (part_of old) pieces new reached
    unfolding reached
    flushed why u = record {
      valid = valid;
      part_is = u.none.part;
      stands = record {
        is_in = u.none.stays x.world is.stands.is_in;
        reached = subst (λ (p : Part). IsReached (layout_in p) x.world) (sym u.none.part) is.stands.reached;
        segments = subst (λ (p : Part). OnTold (rack.told new.rack) (Backed (layout_in p) pieces x.world)) (sym u.none.part)
            (flushed_told (rack.told old.rack) (rack.told new.rack) (Backed (layout_by old) pieces x.world) (λ a b. flushed_backed (layout_by old) x.world pieces a b) u.leaves is.stands.segments);
      };
      run = is.run;
      events = is.events ∙ sym u.none.stored;
      limit = reserve.limit ∙ is.limit;
      reserved = is.reserved ∙ sym reserve.reserved;
      counts = refl;
      harm = is.harm ∙ flushed_harm (rack.told old.rack) (rack.told new.rack) u.leaves;
      records = old_record;
      bytes = is.bytes;
    }

    rests_on : (why : SealFault) → Unsealed rack area.faults old new group why → HasNoEvent x reached
    unfolding reached
    rests_on why u = record {
      opened = refl;
      events = refl;
      world = refl;
      harm = refl;
      counts = subst (λ c. CountsRise x.world x.world [] c (counts_of rack area new)) (sym is.counts) (record {
        rack = u.counts None;
        even = later.even;
        odd = later.odd;
        leaves = λ leaf stays. (let more = u.counts (Some leaf) in omega (arith, more));
      });
    }

    failed_area : Unsealed rack area.faults old new group seal.Area → Turns rack area (part_of old) pieces x new (λ hold y. SealIs (part_of old) group (Err sync.Shelf) hold × KeepsCommitted x.world y.world)
    unfolding reached
    failed_area u = record {
      act = AreaFailed group;
      reached = reached;
      acts = (
        rests_on seal.Area u,
        refl,
        subst (λ c. Rose (area_count group c) (area_count group (counts_of rack area new))) (sym is.counts)
            (subst (λ n. Rose n (area_count group (counts_of rack area new))) (sym (area_counts group old)) (subst (λ n. Rose (area.faults (area_in old group)) n) (sym (area_counts group new)) u.why.1)),
      );
      done = ((refl, refl, is.stands.is_in.closing ∙ closing, unsealed), kept_here x.world);
      is = flushed seal.Area u;
    }

    starved : (why : SealFault) → Unsealed rack area.faults old new group why → Turns rack area (part_of old) pieces x new (λ hold y. SealIs (part_of old) group (Err sync.NoMemory) hold × KeepsCommitted x.world y.world)
    unfolding reached
    starved why u = record {
      act = CallStarved;
      reached = reached;
      acts = (rests_on why u, refl);
      done = ((refl, is.stands.is_in.closing ∙ closing, unsealed), kept_here x.world);
      is = flushed why u;
    }

    not_sealed_here : (why : SealFault) → Unsealed rack area.faults old new group why → Turns rack area (part_of old) pieces x new (λ hold y. SealIs (part_of old) group (Err (seal_fault why)) hold × KeepsCommitted x.world y.world)
    not_sealed_here (seal.NotYet tickets) u = starved (seal.NotYet tickets) u
    not_sealed_here seal.Area u = failed_area u
    not_sealed_here seal.NoMemory u = starved seal.NoMemory u

  pub not_sealed : (part : Part) (pieces : Pieces) (old new : Shard R A) (group : ℕ) (x : Metaslab) (why : SealFault) (fault : SyncFault) → IsMetaslab rack area part pieces old x → Valid rack new
      → KeepsOtherArea group old new → SameReserve old new → AreasLater area.faults old new → old.closing ≡ Some group → old.sealed ≡ false → Unsealed rack area.faults old new group why → seal_fault why ≡ fault
      → Turns rack area part pieces x new (λ hold y. SealIs part group (Err fault) hold × KeepsCommitted x.world y.world)
  not_sealed part pieces old new group x why fault is valid other reserve later closing open_ u same =
      subst (λ p. IsMetaslab rack area p pieces old x → Turns rack area p pieces x new (λ hold y. SealIs p group (Err fault) hold × KeepsCommitted x.world y.world)) is.part_is
      (λ here. subst (λ f. Turns rack area (part_of old) pieces x new (λ hold y. SealIs (part_of old) group (Err f) hold × KeepsCommitted x.world y.world)) same
      (not_sealed_here pieces old new group x here valid other reserve later closing open_ why u)) is

  -- open tickets are none where all is settled
  pub no_tickets : (old : Shard R A) (w : machine.State) (group tickets : ℕ) → IsIn old w → ((key : Key) (h : Held) → held_in old.entries key ≡ Some h → is_block h.stage ≡ true) → OpenUpto w group tickets
      → 0 < tickets → ⊥
  no_tickets old w group tickets is_in settled o some = by o.keys refl
    where
      by : (keys : List Key) → o.keys ≡ keys → ⊥
      by [] are = (let many = o.many in let none : length o.keys ≡ 0 = ap length are in omega (arith, many, none, some))
      by (key ∷ keys) are =
          let z = o.each key (subst (λ ks. Contains ks key) (sym are) (let here : Contains (key ∷ keys) key = (0, (let less : 0 < suc (length keys) = omega arith in less), refl) in here)) in
          absurd_test (is_block z.0.stage) (settled key z.0 (sym (is_in.held key) ∙ z.1)) z.2

  -- ---- committing

  from_kept : (b : Bool) (o : Option machine.Arm) → IsSome (if b then None else o) → IsSome o
  from_kept true o some = absurd_test false some refl
  from_kept false o some = some

  commits_state : (l : machine.Layout) (w v : machine.State) (group : ℕ) → Sound l w → Step l w (event.Commit group) v → CommitsState group w v
  commits_state l w v group sound step = subst (CommitsState group w) (sym step.made) (record {
    held = refl;
    committed = refl;
    sealed = step.sealed;
    closing = step.closing;
    of = some_injective step.image.group group (sym (sound.groups.sealed_is step.image step.sealed) ∙ step.closing);
    none = refl;
    leaves = λ leaf some. from_kept _ (w.core.arm (Leaf leaf)) some;
    alike = λ shared is. subst (IsAlike (keep_shared shared)) step.made (alike_committed shared l w v group step is);
  })

  commit_here : (pieces : Pieces) (old new : Shard R A) (group : ℕ) (x : Metaslab) → IsMetaslab rack area (part_of old) pieces old x → Commits rack group old new
      → Turns rack area (part_of old) pieces x new (λ hold y. groups.Commits old.geometry old.perms group old.number hold × CommitsState group x.world y.world)
  commit_here pieces old new group x is z =
      let e : Event = event.Commit group in
      let sound = state_sound (part_of old) pieces old x is in
      let records : (v : machine.State) → Step (layout_by old) x.world e v → HasRecords (part_of old) v (area.told new.even) (area.told new.odd)
      = (λ (v : machine.State) (step : Step (layout_by old) x.world e v) (image : machine.Image) (here : IsImage v image).
      (let c = commits_state (layout_by old) x.world v group sound step in
      elim here [
        | inl own ↦ records_same rack area (part_of old) x.world old new z.areas is.records image (inr (c.sealed ∙ ap Some own))
        | inr own ↦ absurd (none_some v.sealed image c.none own)
      ])) in
      let counts : (v : machine.State) → Step (layout_by old) x.world e v → IsIn new v → CountsRise x.world v [] (counts_of rack area old) (counts_of rack area new)
      = (λ (v : machine.State) (step : Step (layout_by old) x.world e v) (is_in : IsIn new v). record {
        rack = z.leaves.rack_count;
        even = (let same = ap area.faults z.areas.even in omega (arith, same));
        odd = (let same = ap area.faults z.areas.odd in omega (arith, same));
        leaves = λ leaf stays. (let more = z.leaves.counts leaf (leaf_in new.slots v.core leaf is_in.slots stays.1) in omega (arith, more));
      }) in
      let d : Done rack area (part_of old) pieces new e x
      = did_with rack area (part_of old) pieces old new e x is z.valid z.does (z.acts pieces) (λ v step. refl) z.reserve.limit (let r = z.reserve.reserved in omega (arith, r)) counts records tt in
      record {
        act = Did e d.reached.world;
        reached = d.reached;
        acts = d.acts;
        done = ((refl, refl), commits_state (layout_by old) x.world d.reached.world group sound d.step);
        is = d.is;
      }

  pub commit_turns : (part : Part) (pieces : Pieces) (old new : Shard R A) (group : ℕ) (x : Metaslab) → IsMetaslab rack area part pieces old x → Commits rack group old new
      → Turns rack area part pieces x new (λ hold y. groups.Commits part.geometry part.perms group part.number hold × CommitsState group x.world y.world)
  commit_turns part pieces old new group x is z =
      subst (λ p. IsMetaslab rack area p pieces old x → Turns rack area p pieces x new (λ hold y. groups.Commits p.geometry p.perms group p.number hold × CommitsState group x.world y.world)) is.part_is
      (λ here. commit_here pieces old new group x here z) is
