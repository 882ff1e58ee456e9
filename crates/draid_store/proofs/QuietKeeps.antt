-- The begin and the end of a write keep to what every hold keeps to, on both sides.
use Rattle.std.proofs.Common.{◌≡◌, inl, [], ◌∷◌, ℕ, Bool, Option, Some, arith, refl}
use Rattle.draid_names.specs.declared.pointer.Pointer.{Pointer}
use Rattle.draid_rack.specs.declared.Rack as racks
use Rattle.draid_area.specs.declared.Area as areas
use Rattle.draid_machine.specs.declared.event.Event.{Event}
use Rattle.draid_machine.specs.declared.event.Event.TheVariants as event
use Rattle.draid_segments.specs.Segments.{Pieces}
use Rattle.draid_entries.specs.declared.entry.Entry.{Entry}
use Rattle.draid_entries.specs.Maps.{key_of}
use Rattle.draid_shard.specs.Calls.{SameKit, SameReserve}
use Rattle.draid_blocks.specs.Tickets.{begins}
use Rattle.draid_shard.specs.Changes.{SetsBlock}
use Rattle.draid_shard.specs.Fits.{Valid}
use Rattle.draid_shard.specs.Part.{Part, layout_in}
use Rattle.draid_shard.specs.States.{Does}
use Rattle.draid_shard.specs.declared.shard.Shard.{Shard}
use Rattle.draid_session.specs.State.{Metaslab}
use Rattle.draid_pool.specs.Metaslabs.{IsMetaslab}
use Rattle.draid_pool.proofs.Bytes.{nothing_known}
use Rattle.draid_pool.proofs.Dids.{Done, did_quiet}
use Rattle.draid_pool.proofs.Imaged.{LeavesImages, step_keeps}
use Rattle.draid_pool.proofs.Forgetting.{forget, forget_own, forget_same, forgotten}
use Rattle.draid_pool.specs.Drifts.{KeepsTo, is_other, StateStep}
use Rattle.draid_pool.proofs.Drifting.{same_pass}
use Rattle.draid_pool.proofs.Rises.{records_same}
use Rattle.draid_pool.proofs.ShardSteps.{other_key, sets_others}
use Rattle.draid_store.proofs.FreeKeeps.{sets_groups}

module _ {R A : Type 0} (rack : racks.Ghosts R) (area : areas.Ghosts A) where
  -- an event that led somewhere with the same pieces is a step of the state
  pub state_done : (of : ℕ → Bool) (old new : Shard R A) (e : Event) → LeavesImages e → ((part : Part) (pieces : Pieces) (x : Metaslab) → IsMetaslab rack area part pieces old x → Done rack area part pieces new e x) → StateStep rack area of old new
  state_done of old new e leaves done part pieces x is =
      let d = done part pieces x is in
      record { reached = d.reached; now = pieces; is = d.is; since = record { opened = d.acts.opened; more = e ∷ []; stored = d.acts.stored; run = (d.reached.world, d.step, refl) }; images = λ mine. step_keeps (layout_in part) x.world d.reached.world e d.step leaves; same = λ k mine. inl refl }

  one_keeps : (x y : Shard R A) (p : Pointer) (entry : Option Entry) (e : Event) → Valid rack y → Does x y e → SameKit x y → SameReserve x y → y.pass ≡ x.pass → SetsBlock x y p entry
      → StateStep rack area (is_other (Some p.object)) x y → KeepsTo rack area x y (Some p.object)
  one_keeps x y p entry e valid does kit reserve pass sets state = record {
    valid = valid;
    part = does.part;
    later = (let same = sets.groups.committed in omega (arith, same));
    opens = (let same = sets.groups.open_group_is in omega (arith, same));
    groups = λ other. sets_groups x y p entry sets reserve;
    passes = λ other. same_pass x.pass y.pass pass;
    others = sets_others y.committed x.entries y.entries p entry sets.entry;
    areas = records_same area.faults x y kit.areas;
    state = state;
  }

  pub begin_keeps : (x y : Shard R A) (p : Pointer) (entry : Option Entry) → Valid rack y → Does x y (begins p) → SameKit x y → SameReserve x y → y.pass ≡ x.pass → SetsBlock x y p entry
      → KeepsTo rack area x y (Some p.object)
  begin_keeps x y p entry valid does kit reserve pass sets = one_keeps x y p entry (begins p) valid does kit reserve pass sets (state_done (is_other (Some p.object)) x y (begins p) tt
      (λ part pieces u is. did_quiet rack area part pieces x y (begins p) u is valid does kit reserve (λ w after step s t same. same) (λ v step. refl) refl refl tt tt))

  -- of a block that came nothing is known but by the thread whose object it is of
  pub finish_keeps : (x y : Shard R A) (p : Pointer) (entry : Option Entry) → Valid rack y → Does x y (event.Finish (key_of p)) → SameKit x y → SameReserve x y → y.pass ≡ x.pass → SetsBlock x y p entry
      → KeepsTo rack area x y (Some p.object)
  finish_keeps x y p entry valid does kit reserve pass sets = one_keeps x y p entry (event.Finish (key_of p)) valid does kit reserve pass sets (λ part pieces u is.
      let now = forget (key_of p) pieces in
      let d = did_quiet rack area part now x y (event.Finish (key_of p)) u (forgotten rack area part (key_of p) pieces x u is) valid does kit reserve (λ w after step s t same. same) (λ v step. refl) refl refl tt
      (λ h at. nothing_known part.geometry h (key_of p) now (forget_own (key_of p) pieces)) in
      record {
        reached = d.reached;
        now = now;
        is = d.is;
        since = record { opened = d.acts.opened; more = event.Finish (key_of p) ∷ []; stored = d.acts.stored; run = (d.reached.world, d.step, refl) };
        images = λ mine. step_keeps (layout_in part) u.world d.reached.world (event.Finish (key_of p)) d.step tt;
        same = λ k mine. inl (forget_same (key_of p) pieces k (other_key p k mine));
      })
