-- One hold of a metaslab by a thread, by what it knows of a pool's state.
use Rattle.std.proofs.Common.{◌≡◌, ◌==◌, ◌≤◌, ◌∙◌, inl, inr, arith, ℕ, Bool, true, false, [], ◌∷◌, Option, Some, refl, sym, ap, subst, slice_set, if◌then◌else◌}
use mathlib.Core.Logic.{dite}
use native.Mathlib.Decide.{ℕ_discrete}
use Rattle.std.specs.Prelude.{slice_get, option_map}
use Rattle.draid_names.specs.declared.pointer.Pointer.{Pointer}
use Rattle.draid_rack.specs.declared.Rack as racks
use Rattle.draid_area.specs.declared.Area as areas
use Rattle.draid_machine.specs.declared.names.Key.{Key}
use Rattle.draid_machine.specs.declared.names.Held.{Held}
use Rattle.draid_machine.specs.declared.names.Stage.TheVariants as stage
use Rattle.draid_machine.specs.Names.{key_eq}
use Rattle.draid_machine.specs.After.{is_freed_block}
use Rattle.draid_machine.proofs.Small.{bool_cases, held_other, key_true}
use Rattle.draid_segments.specs.Segments.{Pieces}
use Rattle.draid_objects.specs.Changes.{Write, write_of}
use Rattle.draid_entries.specs.declared.entry.Entry.{Entry}
use Rattle.draid_entries.specs.Entries.{held_in}
use Rattle.draid_entries.specs.Maps.{held_at, key_of, staged}
use Rattle.draid_shard.specs.Looks.{IsLive}
use Rattle.draid_shard.specs.Fits.{Valid}
use Rattle.draid_shard.specs.Changes.{SetsBlock}
use Rattle.draid_shard.specs.Part.{Part, layout_in}
use Rattle.draid_shard.specs.States.{part_of}
use Rattle.draid_shard.specs.declared.shard.Shard.{Shard}
use Rattle.draid_shard.proofs.Held.{held_entry, key_leads}
use Rattle.draid_session.specs.Follows.{MetaslabActs}
use Rattle.draid_session.specs.Holds.{Act, Looked, On, view_of}
use Rattle.draid_session.specs.State.{Metaslab, State}
use Rattle.draid_pool.specs.Metaslabs.{IsMetaslab}
use Rattle.draid_pool.specs.Pools.{part_in}
use Rattle.draid_pool.proofs.Lastly.{write_object}
use Rattle.draid_pool.proofs.Lists.{get_set_other, get_set_same, some_of}
use Rattle.draid_pool.proofs.Moved.{turn, turn_here, turn_other, with_metaslab}
use Rattle.draid_pool.specs.Drifts.{Drifts, KeepsBytes}
use Rattle.draid_pool.specs.Follows.{FollowsBy}
use Rattle.draid_pool.specs.Threads.{Between, IsPointerAt, KnowsBut, PointsAt}
use Rattle.draid_pool.proofs.ShardSteps.{at_here, at_other, live_before, same_entry}
use Rattle.draid_pool.proofs.Contents.{all_long, same_on}
use Rattle.draid_pool.proofs.Finds.{Found, found, found_drops, found_later, found_opens, points_at_on}
use Rattle.draid_pool.proofs.Owning.{StaysAt, but_drifts}

-- a block that is held as it was is live as it was
pub live_key : {R A : Type 0} (rack : racks.Ghosts R) (a b : Shard R A) (p : Pointer) → Valid rack a → Valid rack b → part_of b ≡ part_of a → held_in b.entries (key_of p) ≡ held_in a.entries (key_of p) → IsLive a p → IsLive b p
live_key rack a b p va vb part same live =
    let led = key_leads a.entries p.first (staged stage.Live p) live in
    let z = held_entry b.entries (key_of p) (held_at (staged stage.Live p)) (same ∙ led) in
    let number : b.number ≡ a.number = ap (λ (q : Part). q.number) part in
    z.there ∙ ap Some (same_entry z.e p z.key_is z.held_is (vb.here.each p.first z.e z.there ∙ (number ∙ sym (va.here.each p.first (staged stage.Live p) live))))

module _ {R A S : Type 0} (rack : racks.Ghosts R) (area : areas.Ghosts A) (went : S → ℕ → Shard R A → Shard R A → S → Type 0) (shared : Bool) (owns : ℕ → Bool) (a b : S) (last new : ℕ → Option (Shard R A)) (m : ℕ)
    (shard before after : Shard R A) (there : last m ≡ Some shard) (drifts : Drifts rack area shared owns shard before) (after_valid : Valid rack after)
    (is : (k : ℕ) → new k ≡ (if k == m then Some after else last k)) (goes : went a m before after b)
    (mine lives : ℕ → Key → Bool) (table : ℕ → Option Pointer) (seq floor : ℕ) (pieces : ℕ → Pieces) (x : State) (knows : KnowsBut rack area owns mine lives last table seq floor pieces x) where
  pub here : (y : Metaslab) × (slice_get x.metaslabs m ≡ Some y) × IsMetaslab rack area (part_in x m) (pieces m) shard y
  here = knows.each m shard there

  pub valid : Valid rack shard
  valid = here.2.valid

  -- what it finds
  pub f : Found rack area shared owns (part_in x m) (pieces m) here.0 before
  f = found rack area shared owns shard before drifts (part_in x m) (pieces m) here.0 here.2

  -- each metaslab as it was left
  pub each_on : (r : Metaslab) (now : Pieces) → IsMetaslab rack area (part_in x m) now after r → (k : ℕ) (c : Shard R A) → new k ≡ Some c
      → (y : Metaslab) × (slice_get (slice_set x.metaslabs m r) k ≡ Some y) × IsMetaslab rack area (part_in x k) (turn m now pieces k) c y
  each_on r now it k c at_k = dite (ℕ_discrete k m)
      (λ same.
      let c_is : after ≡ c = some_of (new m) after c (at_here rack area shared owns last new m shard before after there drifts valid after_valid is) (ap new (sym same) ∙ at_k) in (
        r,
        ap (slice_get (slice_set x.metaslabs m r)) same ∙ get_set_same x.metaslabs m here.0 r here.1,
        subst (λ j. IsMetaslab rack area (part_in x j) (turn m now pieces j) c r) (sym same)
            (subst (λ (d : Shard R A). IsMetaslab rack area (part_in x m) (turn m now pieces m) d r) c_is (subst (λ q. IsMetaslab rack area (part_in x m) q after r) (sym (turn_here m now pieces)) it)),
      ))
      (λ not.
      let z = knows.each k c (sym (at_other rack area shared owns last new m shard before after there drifts valid after_valid is k not) ∙ at_k) in (
        z.0,
        get_set_other x.metaslabs m k r not ∙ z.1,
        subst (λ q. IsMetaslab rack area (part_in x k) q c z.0) (sym (turn_other m k now pieces not)) z.2,
      ))

  -- the block of a pointer that the hold left live
  pub pointer_at_on : (q : ℕ) (r : Pointer) (w : Write) → owns q ≡ true → r.object ≡ q → (r.metaslab ≡ m → IsLive before r → IsLive after r) → IsPointerAt last r w → IsPointerAt new r w
  pointer_at_on q r w own object_q on pt = dite (ℕ_discrete r.metaslab m)
      (λ same.
      let c : pt.shard ≡ shard = some_of (last m) pt.shard shard (ap last (sym same) ∙ pt.there) there in
      record {
        object_is = pt.object_is;
        seq_is = pt.seq_is;
        metaslab_is = pt.metaslab_is;
        birth_is = pt.birth_is;
        len_is = pt.len_is;
        digest_is = pt.digest_is;
        shard = after;
        there = ap new same ∙ at_here rack area shared owns last new m shard before after there drifts valid after_valid is;
        live = on same (live_before rack area shared owns last new m shard before after there drifts valid after_valid is r (ap owns object_q ∙ own) (subst (λ (z : Shard R A). IsLive z r) c pt.live));
      })
      (λ not. record {
        object_is = pt.object_is;
        seq_is = pt.seq_is;
        metaslab_is = pt.metaslab_is;
        birth_is = pt.birth_is;
        len_is = pt.len_is;
        digest_is = pt.digest_is;
        shard = pt.shard;
        there = at_other rack area shared owns last new m shard before after there drifts valid after_valid is r.metaslab not ∙ pt.there;
        live = pt.live;
      })

  -- one hold that did this
  pub follows : (act : Act) (r : Metaslab) (now : Pieces) → IsMetaslab rack area (part_in x m) now after r → MetaslabActs (layout_in (part_in x m)) act f.z r → (act ≡ Looked → r ≡ f.z) → KeepsBytes rack area (part_in x m) before f.z after
      → FollowsBy (Between rack area went shared (part_in x)) (λ s t u v. ⊥) a (On (view_of m f.z) act ∷ []) x b (with_metaslab x m r)
  follows act r now it acts still bytes = (
    b,
    with_metaslab x m r,
    record {
      old = here.0;
      found = f.z;
      left = r;
      there = here.1;
      sees = refl;
      acts = acts;
      still = still;
      goes = record { before = before; after = after; goes = goes; pieces = f.now; now = now; found_is = f.is; left_is = it; since = f.since; alone = f.alone; bytes = bytes };
      made = refl;
    },
    (refl, refl),
  )

  -- ---- what is set under a key that isn't seen

  module _ (p : Pointer) (entry : Option Entry) (sets : SetsBlock before after p entry) (part : part_of after ≡ part_of before)
      (not_live : (h : Held) → held_in before.entries (key_of p) ≡ Some h → h.stage ≡ stage.Live → ⊥) (unseen : (k : Key) → mine m k ≡ true → key_eq (key_of p) k ≡ false) (unseen_live : (k : Key) → lives m k ≡ true → key_eq (key_of p) k ≡ false)
      (inside : (k : Key) → mine m k ≡ true → owns k.object ≡ true) (inside_live : (k : Key) → lives m k ≡ true → owns k.object ≡ true)
      (r : Metaslab) (now : Pieces) (it : IsMetaslab rack area (part_in x m) now after r) (same : (k : Key) → key_eq (key_of p) k ≡ false → now k ≡ f.now k) where
    pub held_same : (k : Key) → key_eq (key_of p) k ≡ false → held_in after.entries k ≡ held_in before.entries k
    held_same k other = sets.entry.held k ∙ held_other (held_in before.entries) (key_of p) k (option_map held_at entry) other

    world_same : (k : Key) → key_eq (key_of p) k ≡ false → r.world.core.held k ≡ f.z.world.core.held k
    world_same k other = it.stands.is_in.held k ∙ (held_same k other ∙ sym (f.is.stands.is_in.held k))

    committed : r.world.committed ≡ f.z.world.committed
    committed = it.stands.is_in.committed ∙ (sets.groups.committed ∙ sym f.is.stands.is_in.committed)

    stays : (k : Key) → owns k.object ≡ true → key_eq (key_of p) k ≡ false → StaysAt here.0 r k
    stays k own other = elim (found_drops rack area shared owns shard before drifts (part_in x m) (pieces m) f.now here.0 f.z here.2 f.is k own) [
      | inl e ↦ inl (world_same k other ∙ e)
      | inr e ↦ inr (ap (λ g. is_freed_block g (here.0.world.core.held k)) committed ∙ e.0, world_same k other ∙ e.1)
    ]

    later : here.0.world.committed ≤ r.world.committed
    later = (let c = found_later rack area shared owns shard before drifts (part_in x m) (pieces m) f.now here.0 f.z here.2 f.is in let d = committed in omega (arith, c, d))

    opens : here.0.world.open_group ≤ r.world.open_group
    opens = (
        let c = found_opens rack area shared owns shard before drifts (part_in x m) (pieces m) f.now here.0 f.z here.2 f.is in
        let a = it.stands.is_in.open_group_is in
        let b = f.is.stands.is_in.open_group_is in
        let same = sets.groups.open_group_is in
        omega (arith, a, b, c, same)
        )

    -- a pointer of the table
    still_live : (q : Pointer) → IsLive before q → IsLive after q
    still_live q live = elim (bool_cases (key_eq (key_of p) (key_of q))) [
      | inr other ↦ live_key rack before after q drifts.valid after_valid part (held_same (key_of q) other) live
      | inl one ↦ absurd (not_live (held_at (staged stage.Live q)) (ap (held_in before.entries) (key_true (key_of p) (key_of q) one) ∙ key_leads before.entries q.first (staged stage.Live q) live) refl)
    ]

    pub pointers_on : (q : ℕ) → owns q ≡ true → PointsAt new (table q) (write_of x.store.changes q)
    pointers_on q own = points_at_on last new (table q) (write_of x.store.changes q)
        (λ t w t_is w_is pt. pointer_at_on q t w own (pt.object_is ∙ write_object x.store.changes q w w_is) (λ at live. still_live t live) pt) (knows.objects q own)

    pub unseen_step : KnowsBut rack area owns mine lives new table seq floor (turn m now pieces) (with_metaslab x m r)
    unseen_step = record {
      each = each_on r now it;
      holds = but_drifts x m here.0 r here.1 owns mine lives pieces now later opens (λ k seen. stays k (inside k seen) (unseen k seen)) (λ k seen. stays k (inside_live k seen) (unseen_live k seen))
          (all_long rack area (part_in x m) (pieces m) shard here.0 here.2) (λ k seen. same_on (part_in x m) here.0 (pieces m) f.now now k (same k (unseen k seen)) (f.same k (inside k seen))) knows.holds;
      objects = pointers_on;
      seq = knows.seq;
      floor = knows.floor;
    }
