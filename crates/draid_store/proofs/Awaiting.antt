-- The block that an object had before isn't freed yet, since its metaslab hasn't come to the group before the floor.
use Rattle.std.proofs.Common.{◌≡◌, ◌==◌, ◌∙◌, ℕ, Bool, true, [], ◌∷◌, Option, Some, None, refl, if◌then◌else◌}
use Rattle.std.specs.Prelude.{slice_get}
use Rattle.draid_names.specs.declared.pointer.Pointer.{Pointer}
use Rattle.draid_rack.specs.declared.Rack as racks
use Rattle.draid_area.specs.declared.Area as areas
use Rattle.draid_machine.specs.declared.names.Key.{Key}
use Rattle.draid_objects.specs.Changes.{Write, write_of}
use Rattle.draid_entries.specs.Maps.{key_of}
use Rattle.draid_shard.specs.Part.{layout_in}
use Rattle.draid_session.specs.Holds.{Looked, On, view_of}
use Rattle.draid_session.specs.Looks.{OnlyLooks}
use Rattle.draid_session.specs.State.{Metaslab, State}
use Rattle.draid_session.specs.Points.{KeepsBirth}
use Rattle.draid_pool.specs.Metaslabs.{IsMetaslab}
use Rattle.draid_pool.specs.Pools.{part_in}
use Rattle.draid_pool.proofs.Lastly.{write_object}
use Rattle.draid_pool.proofs.Moved.{turn, with_metaslab}
use Rattle.draid_pool.specs.Drifts.{Drifts}
use Rattle.draid_store.specs.Frees.{FreesShard}
use Rattle.draid_store.specs.Freeing.{EarlierSays}
use Rattle.draid_pool.specs.Threads.{IsPointerAt, LeadsBy, all_of, but}
use Rattle.draid_store.specs.Open.{KnowsEarlier}
use Rattle.draid_shard.specs.declared.shard.Shard.{Shard}
use Rattle.draid_store.proofs.Older.{earlier_step}
use Rattle.draid_pool.proofs.Contents.{all_long}
use Rattle.draid_pool.proofs.Finds.{Found, found_drops, found_later, found_opens, looks, points_at_on}
use Rattle.draid_pool.proofs.Hiding.{but_inside}
use Rattle.draid_pool.proofs.BytesKept.{still_bytes}
use Rattle.draid_pool.proofs.HoldStep.{each_on, f, follows, here, live_key, pointer_at_on}
use Rattle.draid_pool.proofs.Glances.{IsStill, early_still}
use Rattle.draid_pool.proofs.Owning.{StaysAt, but_drifts}

module _ {R A S : Type 0} (rack : racks.Ghosts R) (area : areas.Ghosts A) (went : S → ℕ → Shard R A → Shard R A → S → Type 0) (shared : Bool) (owns : ℕ → Bool) (a b : S) (last new : ℕ → Option (Shard R A)) (p : Pointer)
    (shard before after : Shard R A) (there : last p.metaslab ≡ Some shard) (drifts : Drifts rack area shared owns shard before)
    (is : (k : ℕ) → new k ≡ (if k == p.metaslab then Some after else last k)) (goes : went a p.metaslab before after b) (table : ℕ → Option Pointer) (seq floor : ℕ) (x : State) (we : Write)
    (known : KnowsEarlier rack area owns last table seq floor p we x) where
  module _ (still : IsStill rack area before after) where
    abbrev lives : ℕ → Key → Bool
    lives = but p.metaslab (key_of p) (all_of owns)

    abbrev y : (y : Metaslab) × (slice_get x.metaslabs p.metaslab ≡ Some y) × IsMetaslab rack area (part_in x p.metaslab) (known.pieces p.metaslab) shard y
    y = here rack area went shared owns a b last new p.metaslab shard before after there drifts still.valid is goes (all_of owns) lives table seq floor known.pieces x known.but_it

    abbrev z : Found rack area shared owns (part_in x p.metaslab) (known.pieces p.metaslab) y.0 before
    z = f rack area went shared owns a b last new p.metaslab shard before after there drifts still.valid is goes (all_of owns) lives table seq floor known.pieces x known.but_it

    it : IsMetaslab rack area (part_in x p.metaslab) z.now after z.z
    it = still.stands (part_in x p.metaslab) z.now z.z z.is

    stays : (k : Key) → owns k.object ≡ true → StaysAt y.0 z.z k
    stays k own = found_drops rack area shared owns shard before drifts (part_in x p.metaslab) (known.pieces p.metaslab) z.now y.0 z.z y.2 z.is k own

    on : (q : ℕ) (t : Pointer) (w : Write) → owns q ≡ true → t.object ≡ q → IsPointerAt last t w → IsPointerAt new t w
    on q t w own_q of pt = pointer_at_on rack area went shared owns a b last new p.metaslab shard before after there drifts still.valid is goes (all_of owns) lives table seq floor known.pieces x known.but_it q t w own_q of
        (λ same live. live_key rack before after t drifts.valid still.valid still.part_is (still.held (key_of t)) live) pt

    pub await_step : LeadsBy rack area went shared a b x (λ holds store. (store ≡ x.store) × OnlyLooks holds) (KnowsEarlier rack area owns new table seq floor p we)
    await_step = record {
      holds = On (view_of p.metaslab z.z) Looked ∷ [];
      reached = with_metaslab x p.metaslab z.z;
      store = x.store;
      follows = follows rack area went shared owns a b last new p.metaslab shard before after there drifts still.valid is goes (all_of owns) lives table seq floor known.pieces x known.but_it Looked z.z z.now it (looks (layout_in (part_in x p.metaslab)) z.z) (λ same. refl)
          (still_bytes rack area (part_in x p.metaslab) before after z.z (λ pieces is. still.stands (part_in x p.metaslab) pieces z.z is));
      done = (refl, ((view_of p.metaslab z.z, refl), tt));
      knows = record {
        pieces = turn p.metaslab z.now known.pieces;
        but_it = record {
          each = each_on rack area went shared owns a b last new p.metaslab shard before after there drifts still.valid is goes (all_of owns) lives table seq floor known.pieces x known.but_it z.z z.now it;
          holds = but_drifts x p.metaslab y.0 z.z y.1 owns (all_of owns) lives known.pieces z.now
              (found_later rack area shared owns shard before drifts (part_in x p.metaslab) (known.pieces p.metaslab) z.now y.0 z.z y.2 z.is)
              (found_opens rack area shared owns shard before drifts (part_in x p.metaslab) (known.pieces p.metaslab) z.now y.0 z.z y.2 z.is) stays
              (λ k seen. stays k (but_inside (all_of owns) p.metaslab (key_of p) p.metaslab k seen)) (all_long rack area (part_in x p.metaslab) (known.pieces p.metaslab) shard y.0 y.2) z.same known.but_it.holds;
          objects = λ q own_q. points_at_on last new (table q) (write_of x.store.changes q) (λ t w t_is w_is pt. on q t w own_q (pt.object_is ∙ write_object x.store.changes q w w_is) pt) (known.but_it.objects q own_q);
          seq = known.but_it.seq;
          floor = known.but_it.floor;
        };
        own = known.own;
        had = on p.object p we known.own refl known.had;
        newer = known.newer;
        is_last = known.is_last;
        later = known.later;
      };
    }

  pub earlier_says : (KeepsBirth x.store.marks we.birth → ⊥) → (out : Option ℕ) → FreesShard rack area before p floor out after → EarlierSays rack area went shared owns owns last new a b p table table seq floor x we out
  earlier_says loose None s = await_step (early_still rack area before after s.valid s.did.same)
  earlier_says loose (Some group) s = earlier_step rack area went shared owns a b last new p shard before after there drifts s.valid s.part is goes table seq floor x we known group s.did loose
