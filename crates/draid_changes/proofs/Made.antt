-- One metaslab of a pool as a leaf is made there, which is no arm yet.
use Rattle.std.proofs.Common.{◌≡◌, ◌≢◌, ◌==◌, ◌≤◌, ◌&&◌, ◌∙◌, inl, inr, [], ℕ, Option, Some, None, Result, Ok, Err, arith, refl, sym, ap, subst}
use Rattle.std.specs.Prelude.{OnErr, OnOk, option_map}
use Rattle.std.proofs.lemmas.Bool.{cases_eq}
use Rattle.std.proofs.lemmas.Option.{slice_get_within}
use Rattle.draid_names.specs.Faults.{Rose}
use Rattle.draid_names.specs.declared.fault.DeviceFault.{DeviceFault}
use Rattle.draid_names.specs.declared.fault.DeviceFault.TheVariants as device
use Rattle.draid_rack.specs.declared.Rack as racks
use Rattle.draid_rack.specs.Moments.{LeavesTold}
use Rattle.draid_rack.specs.Rack.{CountsOthers, OnTold, Told, adds}
use Rattle.draid_rack.proofs.Moments.{left_adds}
use Rattle.draid_area.specs.declared.Area as areas
use Rattle.draid_machine.specs.declared.names.ArmName.TheVariants.{Leaf}
use Rattle.draid_machine.specs.Created.{IsReached}
use Rattle.draid_machine.specs.State as machine
use Rattle.draid_machine.proofs.Small.{equal, none_some, true_both}
use Rattle.draid_segments.specs.Segments.{Backed, Pieces}
use Rattle.draid_segments.proofs.Beginning.{leaf_backed}
use Rattle.draid_slots.specs.Table.{is_leaf_kind}
use Rattle.draid_slots.specs.declared.slot.Detached.{Detached}
use Rattle.draid_shard.specs.Calls.{SameAreas, SameReserve}
use Rattle.draid_shard.specs.Changes.{DoesNothing}
use Rattle.draid_shard.specs.Fits.{IsLeaf, Valid}
use Rattle.draid_shard.specs.Part.{Part, layout_in}
use Rattle.draid_shard.specs.Stands.{StandsFor}
use Rattle.draid_shard.specs.States.{IsIn, layout_by, part_of}
use Rattle.draid_shard.specs.declared.shard.Shard.{Shard}
use Rattle.draid_shard.proofs.Among.{any_among}
use Rattle.draid_shard.proofs.Homes.{lays}
use Rattle.draid_session.specs.Arms as arms
use Rattle.draid_session.specs.Follows.{CountsRise, calm_on}
use Rattle.draid_session.specs.Holds.{CallStarved, MadeLeaf, RackFailed}
use Rattle.draid_session.specs.Phases.{Went}
use Rattle.draid_session.specs.State.{Counts, Metaslab}
use Rattle.draid_pool.specs.Failing.{RackFails, RacksLater}
use Rattle.draid_pool.specs.Metaslabs.{IsMetaslab, counts_of, harm_of}
use Rattle.draid_pool.specs.Syncing.{KeepsCommitted, Turns}
use Rattle.draid_pool.specs.declared.pool.Pool.{Pool}
use Rattle.draid_pool.proofs.Dids.{records_same}
use Rattle.draid_pool.proofs.Lists.{present}
use Rattle.draid_pool.proofs.Rises.{rose_some}
use Rattle.draid_changes.specs.Making.{RackRose, end_of_making}
use Rattle.draid_changes.proofs.Calls.{leaf_of_name}
use Rattle.draid_changes.proofs.Reserved.{kept_here}

-- a refusal is no way through
pub not_made : (why : DeviceFault) → end_of_making (Err why) ≢ Went
not_made device.Failed is = absurd (cc)
not_made device.NoMemory is = absurd (cc)

-- ---- the count of a rack as a whole

-- none fell, and behind that one rose
pub rack_rose_then : {R A : Type 0} (faults : R → Option ℕ → ℕ) (old mid new : Pool R A) → RacksLater faults old mid → RackRose faults mid new → RackRose faults old new
rack_rose_then faults old mid new later rose =
    let inside = slice_get_within mid.metaslabs.shards.items rose.0 rose.1 rose.3 in
    let many = later.many in
    let was = present old.metaslabs.shards.items rose.0 (omega (arith, inside, many)) in
    (rose.0, was.0, rose.2, was.1, rose.4, rose_behind (faults was.0.rack None) (faults rose.1.rack None) (faults rose.2.rack None) (later.each rose.0 was.0 rose.1 was.1 rose.3) rose.5)
  where
    rose_behind : (a b c : ℕ) → a ≤ b → Rose b c → Rose a c
    rose_behind a b c low up = omega (arith, low, up)

-- one that rose isn't 0
pub rack_fails : {R A : Type 0} (faults : R → Option ℕ → ℕ) (old new : Pool R A) → RackRose faults old new → RackFails faults new
rack_fails faults old new rose = (rose.0, rose.2, rose.4, rose_some (faults rose.1.rack None) (faults rose.2.rack None) rose.5)

-- a leaf that came has no harm, and that of the others is as it was
harm_added : (bytes leaf sectors : ℕ) (o : Option Told) → harm_of (option_map (adds bytes leaf sectors) o) ≡ option_map (calm_on leaf) (harm_of o)
harm_added bytes leaf sectors None = refl
harm_added bytes leaf sectors (Some x) = refl

module _ {R A : Type 0} (rack : racks.Ghosts R) (area : areas.Ghosts A) where
  -- what the call says of a shard
  pub record Making (leaf : ℕ) (old new : Shard R A) : Type 0 where
    pub valid : Valid rack new
    pub areas : SameAreas old new
    pub none : DoesNothing old new
    pub later : CountsOthers leaf (rack.faults old.rack) (rack.faults new.rack)
    pub reserve : SameReserve old new

  -- a leaf that is no arm of the shard is none of its state
  no_arm : (leaf : ℕ) (shard : Shard R A) (w : machine.State) → IsIn shard w → (IsLeaf shard.slots leaf → ⊥) → w.core.arm (Leaf leaf) ≡ None
  no_arm leaf shard w is none = by (w.core.arm (Leaf leaf)) refl
    where
      by : (o : Option machine.Arm) → w.core.arm (Leaf leaf) ≡ o → w.core.arm (Leaf leaf) ≡ None
      by None own = own
      by (Some a) own = absurd (elim (is.slots.only (Leaf leaf) (λ gone. none_some (w.core.arm (Leaf leaf)) a gone own)) [
        | inl h ↦ none (inl (h.at, h.arm, h.there, (leaf_of_name h.arm.kind h.arm.number leaf h.name_is).0, (leaf_of_name h.arm.kind h.arm.number leaf h.name_is).1))
        | inr z ↦
            (let parts = leaf_of_name z.gone.kind z.gone.number leaf z.name_is in
            none (inr (any_among (λ (gone : Detached). is_leaf_kind gone.kind && (gone.number == leaf)) shard.slots.detached z.gone z.among
            (true_both (is_leaf_kind z.gone.kind) (z.gone.number == leaf) (ap is_leaf_kind parts.0) (equal z.gone.number leaf parts.1)))))
      ])

  counts_rise : (leaf : ℕ) (old new : Shard R A) (w : machine.State) → Making leaf old new → w.core.arm (Leaf leaf) ≡ None → CountsRise w w [] (counts_of rack area old) (counts_of rack area new)
  counts_rise leaf old new w m none = record {
    rack = m.later None (λ is. cc);
    even = (let e = ap area.faults m.areas.even in omega (arith, e));
    odd = (let e = ap area.faults m.areas.odd in omega (arith, e));
    leaves = λ l stays. elim (cases_eq l leaf) [
      | inl same ↦ absurd (stays.0 (subst (λ k. w.core.arm (Leaf k) ≡ None) (sym same) none))
      | inr other ↦ (let e = m.later (Some l) (λ is. other (let same : l ≡ leaf = cc in same)) in omega (arith, e))
    ];
  }

  backed : (leaf : ℕ) (old new : Shard R A) (w : machine.State) (pieces : Pieces) → Valid rack old → StandsFor rack old w pieces → w.core.arm (Leaf leaf) ≡ None → LeavesTold (λ l s. l == leaf) (rack.told old.rack) (rack.told new.rack)
      → OnTold (rack.told new.rack) (Backed (layout_by old) pieces w)
  backed leaf old new w pieces valid stands none left = by (rack.told old.rack) (rack.told new.rack) left stands.segments
    where
      by : (o p : Option Told) → LeavesTold (λ l s. l == leaf) o p → OnTold o (Backed (layout_by old) pieces w) → OnTold p (Backed (layout_by old) pieces w)
      by None p is b = subst (λ q. OnTold q (Backed (layout_by old) pieces w)) (sym is) tt
      by (Some x) None is b = absurd is
      by (Some x) (Some y) is b = leaf_backed (layout_by old) (lays (part_of old) valid.part) w stands.reached leaf none x y is pieces b

  -- the metaslab with another rack
  abbrev pub with_rack : Metaslab → Shard R A → Metaslab
  with_rack x new = record x { counts = counts_of rack area new; harm = harm_of (rack.told new.rack) }

  made_here : (part : Part) (pieces : Pieces) (leaf : ℕ) (old new : Shard R A) (x : Metaslab) → IsMetaslab rack area part pieces old x → Making leaf old new → x.world.core.arm (Leaf leaf) ≡ None
      → LeavesTold (λ l s. l == leaf) (rack.told old.rack) (rack.told new.rack) → IsMetaslab rack area part pieces new (with_rack x new)
  made_here part pieces leaf old new x is m none left = record {
    valid = m.valid;
    part_is = m.none.none.part ∙ is.part_is;
    stands = record {
      is_in = m.none.none.stays x.world is.stands.is_in;
      reached = subst (λ p. IsReached (layout_in p) x.world) (sym m.none.none.part) is.stands.reached;
      segments = subst (λ p. OnTold (rack.told new.rack) (Backed (layout_in p) pieces x.world)) (sym m.none.none.part) (backed leaf old new x.world pieces is.valid is.stands none left);
    };
    run = is.run;
    events = is.events ∙ sym m.none.none.stored;
    limit = m.reserve.limit ∙ is.limit;
    reserved = is.reserved ∙ sym m.reserve.reserved;
    counts = refl;
    harm = refl;
    records = records_same rack area part x.world old new m.areas is.records;
    bytes = is.bytes;
  }

  left_of : (leaf bytes sectors : ℕ) (result : Result Unit DeviceFault) (o p : Option Told) → OnOk result (p ≡ option_map (adds bytes leaf sectors) o) → OnErr result (p ≡ o) → LeavesTold (λ l s. l == leaf) o p
  left_of leaf bytes sectors result o p ok err = left_adds (λ l s. l == leaf) bytes leaf sectors result o p (λ s. equal leaf leaf refl) ok err

  pub make_turns : (leaf bytes sectors : ℕ) (old new : Shard R A) → Making leaf old new → (IsLeaf old.slots leaf → ⊥) → rack.told new.rack ≡ option_map (adds bytes leaf sectors) (rack.told old.rack)
      → (part : Part) (pieces : Pieces) (x : Metaslab) → IsMetaslab rack area part pieces old x
      → Turns rack area part pieces x new (λ hold y. arms.Makes part.geometry part.perms leaf part.number hold 0 × KeepsCommitted x.world y.world)
  make_turns leaf bytes sectors old new m unused came part pieces x is =
      let none = no_arm leaf old x.world is.stands.is_in unused in
      let left = left_of leaf bytes sectors (Ok tt) (rack.told old.rack) (rack.told new.rack) came tt in
      record {
        act = MadeLeaf leaf;
        reached = with_rack x new;
        acts = (
          record {
            opened = refl;
            events = refl;
            world = refl;
            harm = ap harm_of came ∙ (harm_added bytes leaf sectors (rack.told old.rack) ∙ ap (λ h. option_map (calm_on leaf) h) (sym is.harm));
            counts = subst (λ n. CountsRise x.world x.world [] n (counts_of rack area new)) (sym is.counts) (counts_rise leaf old new x.world m none);
          },
          refl,
        );
        done = ((refl, refl, refl), kept_here x.world);
        is = made_here part pieces leaf old new x is m none left;
      }

  pub make_stops : (leaf : ℕ) (old new : Shard R A) (why : DeviceFault) → Making leaf old new → (IsLeaf old.slots leaf → ⊥) → rack.told new.rack ≡ rack.told old.rack
      → (why ≡ device.Failed → Rose (rack.faults old.rack None) (rack.faults new.rack None)) → (part : Part) (pieces : Pieces) (x : Metaslab) → IsMetaslab rack area part pieces old x
      → Turns rack area part pieces x new (λ hold y. arms.MakeStops part.geometry part.perms part.number hold (end_of_making (Err why)) × KeepsCommitted x.world y.world)
  make_stops leaf old new why m unused same cause part pieces x is = by why cause
    where
      none : x.world.core.arm (Leaf leaf) ≡ None
      none = no_arm leaf old x.world is.stands.is_in unused

      here : IsMetaslab rack area part pieces new (with_rack x new)
      here = made_here part pieces leaf old new x is m none (left_of leaf 0 0 (Err why) (rack.told old.rack) (rack.told new.rack) tt same)

      counts : CountsRise x.world x.world [] x.counts (counts_of rack area new)
      counts = subst (λ n. CountsRise x.world x.world [] n (counts_of rack area new)) (sym is.counts) (counts_rise leaf old new x.world m none)

      by : (f : DeviceFault) → (f ≡ device.Failed → Rose (rack.faults old.rack None) (rack.faults new.rack None))
          → Turns rack area part pieces x new (λ hold y. arms.MakeStops part.geometry part.perms part.number hold (end_of_making (Err f)) × KeepsCommitted x.world y.world)
      by device.Failed rose = record {
        act = RackFailed;
        reached = with_rack x new;
        acts = (record { opened = refl; events = refl; world = refl; harm = ap harm_of same ∙ sym is.harm; counts = counts }, refl, subst (λ (c : Counts). Rose (c.rack None) (rack.faults new.rack None)) (sym is.counts) (rose refl));
        done = (refl, kept_here x.world);
        is = here;
      }
      by device.NoMemory rose = record {
        act = CallStarved;
        reached = with_rack x new;
        acts = (record { opened = refl; events = refl; world = refl; harm = ap harm_of same ∙ sym is.harm; counts = counts }, refl);
        done = (refl, kept_here x.world);
        is = here;
      }
