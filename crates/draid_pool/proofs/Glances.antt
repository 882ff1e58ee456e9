-- A hold that changed nothing, by what its thread knows of a pool's state.
use Rattle.std.proofs.Common.{◌≡◌, ◌==◌, ◌∙◌, ℕ, Bool, [], ◌∷◌, Option, Some, refl, sym, ap, subst, if◌then◌else◌}
use Rattle.std.specs.Prelude.{slice_get}
use Rattle.draid_names.specs.declared.pointer.Pointer.{Pointer}
use Rattle.draid_rack.specs.declared.Rack as racks
use Rattle.draid_area.specs.declared.Area as areas
use Rattle.draid_machine.specs.declared.names.Key.{Key}
use Rattle.draid_segments.specs.Segments.{Pieces}
use Rattle.draid_objects.specs.Changes.{write_of}
use Rattle.draid_entries.specs.Entries.{held_in}
use Rattle.draid_entries.specs.Maps.{key_of}
use Rattle.draid_shard.specs.Fits.{Valid}
use Rattle.draid_shard.specs.Part.{Part, layout_in}
use Rattle.draid_shard.specs.States.{part_of}
use Rattle.draid_shard.specs.declared.shard.Shard.{Shard}
use Rattle.draid_session.specs.Holds.{Looked, On, view_of}
use Rattle.draid_session.specs.Looks.{OnlyLooks}
use Rattle.draid_session.specs.State.{Metaslab, State}
use Rattle.draid_pool.specs.Metaslabs.{IsMetaslab}
use Rattle.draid_pool.specs.Pools.{part_in}
use Rattle.draid_pool.proofs.Lastly.{write_object}
use Rattle.draid_pool.proofs.Moved.{turn, with_metaslab}
use Rattle.draid_pool.specs.Drifts.{Drifts}
use Rattle.draid_pool.specs.Threads.{Knows, LeadsBy, all_of}
use Rattle.draid_pool.proofs.BytesKept.{still_bytes}
use Rattle.draid_pool.proofs.Contents.{all_long}
use Rattle.draid_pool.proofs.Finds.{Found, found_drops, found_later, found_opens, looks, points_at_on}
use Rattle.draid_pool.proofs.HoldStep.{each_on, f, follows, here, live_key, pointer_at_on}
use Rattle.draid_pool.proofs.Owning.{own_drifts}

-- a metaslab stands for what it stood for, and holds what it held
pub record IsStill {R A : Type 0} (rack : racks.Ghosts R) (area : areas.Ghosts A) (old new : Shard R A) : Type 0 where
  pub valid : Valid rack new
  pub part_is : part_of new ≡ part_of old
  pub held : (k : Key) → held_in new.entries k ≡ held_in old.entries k
  pub stands : (part : Part) (pieces : Pieces) (u : Metaslab) → IsMetaslab rack area part pieces old u → IsMetaslab rack area part pieces new u

pub early_still : {R A : Type 0} (rack : racks.Ghosts R) (area : areas.Ghosts A) (old new : Shard R A) → Valid rack new → new ≡ old → IsStill rack area old new
early_still rack area old new valid same = record {
  valid = valid;
  part_is = ap (λ s. part_of s) same;
  held = λ k. ap (λ (s : Shard _ _). held_in s.entries k) same;
  stands = λ part pieces u is. subst (λ s. IsMetaslab rack area part pieces s u) (sym same) is;
}

module _ {R A S : Type 0} (rack : racks.Ghosts R) (area : areas.Ghosts A) (went : S → ℕ → Shard R A → Shard R A → S → Type 0) (shared : Bool) (owns : ℕ → Bool) (a b : S) (last new : ℕ → Option (Shard R A)) (m : ℕ)
    (shard before after : Shard R A) (there : last m ≡ Some shard) (drifts : Drifts rack area shared owns shard before)
    (is : (k : ℕ) → new k ≡ (if k == m then Some after else last k)) (goes : went a m before after b) (table : ℕ → Option Pointer) (seq floor : ℕ) (x : State) (knows : Knows rack area owns last table seq floor x)
    (still : IsStill rack area before after) where
  abbrev y : (y : Metaslab) × (slice_get x.metaslabs m ≡ Some y) × IsMetaslab rack area (part_in x m) (knows.pieces m) shard y
  y = here rack area went shared owns a b last new m shard before after there drifts still.valid is goes (all_of owns) (all_of owns) table seq floor knows.pieces x knows.but_it

  abbrev z : Found rack area shared owns (part_in x m) (knows.pieces m) y.0 before
  z = f rack area went shared owns a b last new m shard before after there drifts still.valid is goes (all_of owns) (all_of owns) table seq floor knows.pieces x knows.but_it

  it : IsMetaslab rack area (part_in x m) z.now after z.z
  it = still.stands (part_in x m) z.now z.z z.is

  pub look_step : LeadsBy rack area went shared a b x (λ holds store. (store ≡ x.store) × OnlyLooks holds) (Knows rack area owns new table seq floor)
  look_step = record {
    holds = On (view_of m z.z) Looked ∷ [];
    reached = with_metaslab x m z.z;
    store = x.store;
    follows = follows rack area went shared owns a b last new m shard before after there drifts still.valid is goes (all_of owns) (all_of owns) table seq floor knows.pieces x knows.but_it Looked z.z z.now it (looks (layout_in (part_in x m)) z.z) (λ same. refl)
        (still_bytes rack area (part_in x m) before after z.z (λ pieces is. still.stands (part_in x m) pieces z.z is));
    done = (refl, ((view_of m z.z, refl), tt));
    knows = record {
      pieces = turn m z.now knows.pieces;
      but_it = record {
        each = each_on rack area went shared owns a b last new m shard before after there drifts still.valid is goes (all_of owns) (all_of owns) table seq floor knows.pieces x knows.but_it z.z z.now it;
        holds = own_drifts owns x m y.0 z.z knows.pieces z.now y.1 (found_later rack area shared owns shard before drifts (part_in x m) (knows.pieces m) z.now y.0 z.z y.2 z.is)
            (found_opens rack area shared owns shard before drifts (part_in x m) (knows.pieces m) z.now y.0 z.z y.2 z.is)
            (found_drops rack area shared owns shard before drifts (part_in x m) (knows.pieces m) z.now y.0 z.z y.2 z.is) (all_long rack area (part_in x m) (knows.pieces m) shard y.0 y.2) z.same knows.but_it.holds;
        objects = λ q own_q. points_at_on last new (table q) (write_of x.store.changes q)
            (λ t w t_is w_is pt. pointer_at_on rack area went shared owns a b last new m shard before after there drifts still.valid is goes (all_of owns) (all_of owns) table seq floor knows.pieces x knows.but_it q t w own_q (pt.object_is ∙ write_object x.store.changes q w w_is)
            (λ same live. live_key rack before after t drifts.valid still.valid still.part_is (still.held (key_of t)) live) pt) (knows.but_it.objects q own_q);
        seq = knows.but_it.seq;
        floor = knows.but_it.floor;
      };
    };
  }
