-- What a change of a leaf does to a metaslab keeps to what every hold keeps to, and a thread that alone changes arms may do it.
use Rattle.std.proofs.Common.{◌≡◌, arith, inl, ℕ, Bool, true, [], Option, Some, None, Ok, MatchOption, refl}
use Rattle.std.specs.Prelude.{Result}
use Rattle.draid_rack.specs.declared.Rack as racks
use Rattle.draid_area.specs.declared.Area as areas
use Rattle.draid_segments.specs.Segments.{Pieces}
use Rattle.draid_entries.specs.History.{reserved_of}
use Rattle.draid_entries.specs.declared.history.ReserveFault.{ReserveFault}
use Rattle.draid_shard.specs.Part.{Part, layout_in}
use Rattle.draid_shard.specs.declared.shard.Shard.{Shard}
use Rattle.draid_session.specs.Holds.{Did}
use Rattle.draid_session.specs.State.{Metaslab}
use Rattle.draid_pool.specs.Drifts.{Drifts, GoesOn, KeepsTo, groups_number, is_other}
use Rattle.draid_pool.specs.Metaslabs.{IsMetaslab}
use Rattle.draid_pool.proofs.Drifting.{same_pass}
use Rattle.draid_pool.proofs.GroupKeeps.{not_kept}
use Rattle.draid_pool.proofs.Imaged.{keeps_same}
use Rattle.draid_pool.proofs.OneHold.{reserved_here, with_reserved}
use Rattle.draid_pool.proofs.Rises.{records_same}
use Rattle.draid_pool.proofs.ShardSteps.{acts_since}
use Rattle.draid_pool.proofs.Since.{nothing_more}
use Rattle.draid_pool.proofs.SyncWhole.{KeepsQuiet}
use Rattle.draid_changes.specs.Switching.{HasReserved, ReservesOne}
use Rattle.draid_changes.specs.Walks.{MaySwitch, Switches, switch_event}
use Rattle.draid_changes.proofs.Leaves.{leaf_shared}
use Rattle.draid_changes.proofs.Reserved.{pass_kept}
use Rattle.draid_changes.proofs.Switched.{switch_did}

module _ {R A : Type 0} (rack : racks.Ghosts R) (area : areas.Ghosts A) where
  reserve_goes : (of : ℕ → Bool) (x y : Shard R A) (result : Result Unit ReserveFault) → ReservesOne rack x result y → (part : Part) (pieces : Pieces) (u : Metaslab) → IsMetaslab rack area part pieces x u → GoesOn rack area of part pieces u y
  reserve_goes of x y result r part pieces u is = record {
    reached = with_reserved u (reserved_of y.history);
    now = pieces;
    is = reserved_here rack area part pieces x y u is r.valid r.none r.kit r.limit;
    since = record { opened = refl; more = []; stored = nothing_more u.events; run = refl };
    images = λ mine. keeps_same u.world;
    same = λ k own. inl refl;
  }

  reserves_keep : (x y : Shard R A) (result : Result Unit ReserveFault) → ReservesOne rack x result y → KeepsTo rack area x y (Some groups_number)
  reserves_keep x y result r = record {
    valid = r.valid;
    part = r.none.part;
    later = (let same = r.keeps.groups.committed in omega (arith, same));
    opens = (let same = r.keeps.groups.open_group_is in omega (arith, same));
    groups = λ is. not_kept is;
    passes = λ other. pass_kept x.pass y.pass r.pass;
    others = record { each = λ key own. inl (r.keeps.entries.held key) };
    areas = records_same area.faults x y r.kit.areas;
    state = reserve_goes (is_other (Some groups_number)) x y result r;
  }

  pub reserve_keeps : (x y : Shard R A) (out : Option (Result Unit ReserveFault)) → MatchOption out ⊥ (λ result. ReservesOne rack x result y) → KeepsTo rack area x y (Some groups_number)
  reserve_keeps x y None did = absurd did
  reserve_keeps x y (Some result) did = reserves_keep x y result did

  switch_goes_on : (of : ℕ → Bool) → (of groups_number ≡ true → ⊥) → (leaf : ℕ) (offline : Bool) (x y : Shard R A) → Switches rack leaf offline x y → (part : Part) (pieces : Pieces) (u : Metaslab) → IsMetaslab rack area part pieces x u → GoesOn rack area of part pieces u y
  switch_goes_on of foreign leaf offline x y s part pieces u is =
      let d = switch_did rack area leaf offline x y s part pieces u is in
      record {
        reached = d.reached;
        now = pieces;
        is = d.is;
        since = acts_since (layout_in part) (Did (switch_event leaf offline) d.reached.world) u d.reached d.acts;
        images = λ mine. absurd (foreign mine);
        same = λ k own. inl refl;
      }

  pub switch_keeps : (leaf : ℕ) (offline : Bool) (x y : Shard R A) → Switches rack leaf offline x y → KeepsTo rack area x y (Some groups_number)
  switch_keeps leaf offline x y s = record {
    valid = s.valid;
    part = s.does.part;
    later = (let same = s.keeps.groups.committed in omega (arith, same));
    opens = (let same = s.keeps.groups.open_group_is in omega (arith, same));
    groups = λ is. not_kept is;
    passes = λ other. same_pass x.pass y.pass s.pass;
    others = record { each = λ key own. inl (s.keeps.entries.held key) };
    areas = records_same area.faults x y s.kit.areas;
    state = switch_goes_on (is_other (Some groups_number)) (λ mine. not_kept mine) leaf offline x y s;
  }

  -- ---- what others did since

  -- what was reserved is there, and the leaf is an arm yet
  pub switch_ready : (shared : Bool) (owns : ℕ → Bool) → owns groups_number ≡ true → (leaf : ℕ) (shard x : Shard R A) → Drifts rack area shared owns shard x → MaySwitch rack leaf shard → MaySwitch rack leaf x
  switch_ready shared owns own leaf shard x d may = record {
    valid = d.valid;
    reserved = (let same = (d.groups own).reserve in let was = may.reserved in omega (arith, same, was));
    arm = leaf_shared shard.slots x.slots leaf (d.groups own).arms.arms may.arm;
  }

  -- ---- what it leaves

  pub reserved_next : (x y : Shard R A) → ReservesOne rack x (Ok tt) y → HasReserved rack y
  reserved_next x y r = record { valid = r.valid; reserved = (let is = r.reserved in omega (arith, is)) }

  module _ (owns : ℕ → Bool) where
    pub reserve_quiet : (x y : Shard R A) (result : Result Unit ReserveFault) → ReservesOne rack x result y → KeepsQuiet rack owns x y
    reserve_quiet x y result r = record {
      keeps = record { valid = r.valid; part = r.none.part; opens = (let same = r.keeps.groups.open_group_is in omega (arith, same)); entries = record { each = λ key own. inl (r.keeps.entries.held key) } };
      committed = r.keeps.groups.committed;
    }

    pub switch_quiet : (leaf : ℕ) (offline : Bool) (x y : Shard R A) → Switches rack leaf offline x y → KeepsQuiet rack owns x y
    switch_quiet leaf offline x y s = record {
      keeps = record { valid = s.valid; part = s.does.part; opens = (let same = s.keeps.groups.open_group_is in omega (arith, same)); entries = record { each = λ key own. inl (s.keeps.entries.held key) } };
      committed = s.keeps.groups.committed;
    }
