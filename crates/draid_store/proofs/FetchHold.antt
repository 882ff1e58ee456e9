-- A command that reads an object, by what its thread knows.
use Rattle.std.proofs.Common.{◌≡◌, ◌==◌, ◌≤◌, ◌∙◌, arith, inl, inr, ℕ, Bool, true, List, [], ◌∷◌, Option, Some, None, Result, Ok, Err, refl, sym, ap, subst, if◌then◌else◌}
use Rattle.std.specs.Prelude.{slice_get}
use Rattle.sha2.specs.Sha256.{sha256}
use Rattle.draid_names.specs.declared.pointer.Pointer.{Pointer}
use Rattle.draid_names.specs.declared.refusal.ObjectFault.{ObjectFault}
use Rattle.draid_names.specs.declared.refusal.ObjectFault.TheVariants as fault
use Rattle.draid_rack.specs.declared.Rack as racks
use Rattle.draid_area.specs.declared.Area as areas
use Rattle.draid_spec.specs.Geometry.{IsGeometry}
use Rattle.draid_block.specs.declared.solve.Fetched.{Fetched}
use Rattle.draid_machine.specs.declared.event.Event.TheVariants as event
use Rattle.draid_machine.specs.After.{is_freed_block}
use Rattle.draid_machine.specs.declared.names.Key.{Key}
use Rattle.draid_objects.specs.Changes.{Change, Write, key_of, write_of}
use Rattle.draid_objects.proofs.Imaging.{last_live}
use Rattle.draid_entries.specs.History.{left_for_groups}
use Rattle.draid_entries.specs.Maps as maps
use Rattle.draid_shard.specs.Changes.{KeepsBlocks}
use Rattle.draid_shard.specs.Fits.{Valid}
use Rattle.draid_shard.specs.Part.{Part, layout_in}
use Rattle.draid_shard.specs.States.{part_of}
use Rattle.draid_shard.specs.declared.shard.Shard.{Shard}
use Rattle.draid_session.specs.Follows.{MetaslabActs}
use Rattle.draid_session.specs.Holds.{Act, Did, Looked, On, view_of}
use Rattle.draid_session.specs.State.{Metaslab, State}
use Rattle.draid_pool.specs.Drifts.{Drifts, KeepsBytes}
use Rattle.draid_segments.specs.Segments.{Pieces}
use Rattle.draid_pool.specs.Metaslabs.{IsMetaslab}
use Rattle.draid_pool.specs.Objects.{HasPieces, HoldsObjects, blocks_of}
use Rattle.draid_pool.specs.Pools.{part_in}
use Rattle.draid_pool.specs.Shards.{FollowsIn, Goes}
use Rattle.draid_pool.specs.Threads.{CarriesBy, IsPointerAt, Knows, all_of, own_blocks, own_changes, own_store}
use Rattle.draid_pool.proofs.Contents.{all_long}
use Rattle.draid_pool.proofs.Finds.{Found, all_low, bound_in, found_drops, found_later, found_opens, looks, pointed_at, pointed_nowhere, points_at_on}
use Rattle.draid_pool.proofs.BytesKept.{act_bytes, still_bytes}
use Rattle.draid_pool.proofs.HoldStep.{each_on, f, follows, here, live_key, pointer_at_on}
use Rattle.draid_pool.proofs.Lastly.{by_last, write_object}
use Rattle.draid_pool.proofs.Moved.{blocks_at, turn, with_metaslab}
use Rattle.draid_pool.proofs.OneHold.{worn_is}
use Rattle.draid_pool.proofs.Owning.{StaysAt, own_drifts, own_is, pieces_since, write_own}
use Rattle.draid_pool.proofs.ShardSteps.{acts_one}
use Rattle.draid_store.specs.Answers.{FetchDoes, NoFetch}
use Rattle.draid_store.specs.Fetching.{FetchesBlock, FetchesNone, FetchesShard}
use Rattle.draid_store.proofs.FetchKeeps.{none_stands}
use Rattle.draid_store.proofs.FetchSteps.{IsOf, fetch_is}
use Rattle.draid_store.proofs.Fetched.{FetchesIn, fetches}

module _ {R A S : Type 0} (rack : racks.Ghosts R) (area : areas.Ghosts A) (went : S → ℕ → Shard R A → Shard R A → S → Type 0) (shared : Bool) (owns : ℕ → Bool) (a b : S) (last new : ℕ → Option (Shard R A)) (object : ℕ) (p : Pointer)
    (table : ℕ → Option Pointer) (seq floor : ℕ) (shard before after : Shard R A) (there : last p.metaslab ≡ Some shard) (drifts : Drifts rack area shared owns shard before) (valid : Valid rack after) (part : part_of after ≡ part_of before)
    (blocks : KeepsBlocks before after) (is : (k : ℕ) → new k ≡ (if k == p.metaslab then Some after else last k)) (goes : went a p.metaslab before after b) (own : owns object ≡ true)
    (at : table object ≡ Some p) (x : State) (knows : Knows rack area owns last table seq floor x) where
  abbrev m : ℕ
  m = p.metaslab

  abbrev y : (y : Metaslab) × (slice_get x.metaslabs p.metaslab ≡ Some y) × IsMetaslab rack area (part_in x p.metaslab) (knows.pieces p.metaslab) shard y
  y = here rack area went shared owns a b last new p.metaslab shard before after there drifts valid is goes (all_of owns) (all_of owns) table seq floor knows.pieces x knows.but_it

  abbrev z : Found rack area shared owns (part_in x p.metaslab) (knows.pieces p.metaslab) y.0 before
  z = f rack area went shared owns a b last new p.metaslab shard before after there drifts valid is goes (all_of owns) (all_of owns) table seq floor knows.pieces x knows.but_it

  -- ---- the object's write

  abbrev found_w : (write : Write) × (write_of x.store.changes object ≡ Some write) × IsPointerAt last p write
  found_w = pointed_at last (table object) (write_of x.store.changes object) p at (knows.but_it.objects object own)

  abbrev w : Write
  w = found_w.0

  of : IsPointerAt last p w
  of = found_w.2

  is_of : IsOf p w
  is_of = record {
    key = λ i. record { object = of.object_is i; seq = of.seq_is i };
    metaslab = of.metaslab_is;
    len = of.len_is;
    digest = of.digest_is;
  }

  content : HasPieces x.geometry w z.now
  content =
      let c = bound_in x.metaslabs in
      let holds : HoldsObjects x.geometry c (own_store owns x.store) (own_blocks (all_of owns) (blocks_of x.metaslabs)) knows.pieces = knows.but_it.holds.holds c (all_low x) in
      let cs : List Change = own_changes owns x.store.changes in
      let last_w : write_of cs object ≡ Some w = write_own owns x.store.changes object own ∙ found_w.1 in
      let live = last_live sha256 c object cs (own_store owns x.store).marks (own_blocks (all_of owns) (blocks_of x.metaslabs)) w holds.stores last_w in
      let has : HasPieces x.geometry w (knows.pieces w.metaslab) = holds.bytes w.metaslab (key_of w) live.0 w live.1 (by_last sha256 c cs (own_store owns x.store).marks (own_blocks (all_of owns) (blocks_of x.metaslabs)) object w holds.stores last_w) in
      let mine : owns w.object ≡ true = ap owns (write_object x.store.changes object w found_w.1) ∙ own in
      let here_w : own_blocks (all_of owns) (blocks_of x.metaslabs) p.metaslab (key_of w) ≡ Some live.0 = subst (λ n. own_blocks (all_of owns) (blocks_of x.metaslabs) n (key_of w) ≡ Some live.0) (sym of.metaslab_is) live.1 in
      let held : y.0.world.core.held (key_of w) ≡ Some live.0 = sym (own_is (all_of owns) (blocks_of x.metaslabs) p.metaslab (key_of w) mine ∙ blocks_at x.metaslabs p.metaslab y.0 (key_of w) y.1) ∙ here_w in
      pieces_since (part_in x p.metaslab) y.0 (knows.pieces p.metaslab) z.now live.0 w (z.same (key_of w) mine) held live.3.len live.3.digest_is
      (all_long rack area (part_in x p.metaslab) (knows.pieces p.metaslab) shard y.0 y.2) (subst (λ n. HasPieces x.geometry w (knows.pieces n)) (sym of.metaslab_is) has)

  geometry : IsGeometry x.geometry
  geometry = subst (λ (q : Part). IsGeometry q.geometry) z.is.part_is z.is.valid.part.layout.geometry_is

  -- ---- what is known then

  module _ (r : Metaslab) (it : IsMetaslab rack area (part_in x p.metaslab) z.now after r) where
    world_same : (k : Key) → r.world.core.held k ≡ z.z.world.core.held k
    world_same k = it.stands.is_in.held k ∙ (blocks.entries.held k ∙ sym (z.is.stands.is_in.held k))

    committed : r.world.committed ≡ z.z.world.committed
    committed = it.stands.is_in.committed ∙ (blocks.groups.committed ∙ sym z.is.stands.is_in.committed)

    stays : (k : Key) → owns k.object ≡ true → StaysAt y.0 r k
    stays k mine = elim (found_drops rack area shared owns shard before drifts (part_in x p.metaslab) (knows.pieces p.metaslab) z.now y.0 z.z y.2 z.is k mine) [
      | inl e ↦ inl (world_same k ∙ e)
      | inr e ↦ inr (subst (λ g. is_freed_block g (y.0.world.core.held k) ≡ true) (sym committed) e.0, world_same k ∙ e.1)
    ]

    later : y.0.world.committed ≤ r.world.committed
    later = (let c = found_later rack area shared owns shard before drifts (part_in x p.metaslab) (knows.pieces p.metaslab) z.now y.0 z.z y.2 z.is in let d = committed in omega (arith, c, d))

    opens : y.0.world.open_group ≤ r.world.open_group
    opens = (
        let c = found_opens rack area shared owns shard before drifts (part_in x p.metaslab) (knows.pieces p.metaslab) z.now y.0 z.z y.2 z.is in
        let a = it.stands.is_in.open_group_is in
        let b = z.is.stands.is_in.open_group_is in
        let same = blocks.groups.open_group_is in
        omega (arith, a, b, c, same)
        )

    knows_then : Knows rack area owns new table seq floor (with_metaslab x p.metaslab r)
    knows_then = record {
      pieces = turn p.metaslab z.now knows.pieces;
      but_it = record {
        each = each_on rack area went shared owns a b last new p.metaslab shard before after there drifts valid is goes (all_of owns) (all_of owns) table seq floor knows.pieces x knows.but_it r z.now it;
        holds = own_drifts owns x p.metaslab y.0 r knows.pieces z.now y.1 later opens stays (all_long rack area (part_in x p.metaslab) (knows.pieces p.metaslab) shard y.0 y.2) z.same knows.but_it.holds;
        objects = λ q own_q. points_at_on last new (table q) (write_of x.store.changes q)
            (λ t u t_is u_is pt. pointer_at_on rack area went shared owns a b last new p.metaslab shard before after there drifts valid is goes (all_of owns) (all_of owns) table seq floor knows.pieces x knows.but_it q t u own_q (pt.object_is ∙ write_object x.store.changes q u u_is)
            (λ same live. live_key rack before after t drifts.valid valid part (blocks.entries.held (maps.key_of t)) live) pt) (knows.but_it.objects q own_q);
        seq = knows.but_it.seq;
        floor = knows.but_it.floor;
      };
    }

  -- ---- its columns were read

  pub fetch_step : (fetched : Fetched) → FetchesBlock rack before p fetched after → CarriesBy rack area went shared owns new table seq floor a b x (FetchDoes x object (Ok fetched))
  fetch_step fetched d = record {
    holds = On (view_of p.metaslab z.z) act ∷ [];
    reached = with_metaslab x p.metaslab g.reached;
    store = x.store;
    follows = follows rack area went shared owns a b last new p.metaslab shard before after there drifts valid is goes (all_of owns) (all_of owns) table seq floor knows.pieces x knows.but_it act g.reached z.now g.is acts (λ same. absurd (cc)) bytes;
    done = fetch_is x object w p z.z g.reached fetched (On (view_of p.metaslab z.z) act ∷ []) z.now geometry found_w.1 is_of content
        (subst (λ hs. FetchesIn (part_in x p.metaslab) z.now p fetched z.z hs g.reached) g.done.are g.done);
    knows = knows_then g.reached g.is;
  }
    where
      goes_with : (pieces : Pieces) → IsMetaslab rack area (part_in x p.metaslab) pieces before z.z → Goes rack area (part_in x p.metaslab) pieces z.z after (FetchesIn (part_in x p.metaslab) pieces p fetched z.z)
      goes_with pieces is = fetches rack area (part_in x p.metaslab) before after p fetched d.fetches valid d.areas_are d.told d.reserve d.not_worn pieces z.z is

      g : Goes rack area (part_in x p.metaslab) z.now z.z after (FetchesIn (part_in x p.metaslab) z.now p fetched z.z)
      g = goes_with z.now z.is

      act : Act
      act = Did (event.Fetch (maps.key_of p) g.done.failed) g.reached.world

      bytes : KeepsBytes rack area (part_in x p.metaslab) before z.z after
      bytes pieces is has =
          let h = goes_with pieces is in
          let does = Did (event.Fetch (maps.key_of p) h.done.failed) h.reached.world in
          let did = acts_one (layout_in (part_in x p.metaslab)) p.metaslab does z.z h.reached (subst (λ hs. FollowsIn (layout_in (part_in x p.metaslab)) p.metaslab hs z.z h.reached) h.done.are h.follows) in
          act_bytes rack area (part_in x p.metaslab) pieces before after z.z h.reached does is h.is did tt has

      acts : MetaslabActs (layout_in (part_in x p.metaslab)) act z.z g.reached
      acts = acts_one (layout_in (part_in x p.metaslab)) p.metaslab act z.z g.reached (subst (λ hs. FollowsIn (layout_in (part_in x p.metaslab)) p.metaslab hs z.z g.reached) g.done.are g.follows)

  -- ---- none were

  look : (why : ObjectFault) → FetchesShard rack before p (Err why) after → FetchesNone rack before after → NoFetch x object why (On (view_of p.metaslab z.z) Looked ∷ []) → CarriesBy rack area went shared owns new table seq floor a b x (FetchDoes x object (Err why))
  look why d n done = record {
    holds = On (view_of p.metaslab z.z) Looked ∷ [];
    reached = with_metaslab x p.metaslab z.z;
    store = x.store;
    follows = follows rack area went shared owns a b last new p.metaslab shard before after there drifts valid is goes (all_of owns) (all_of owns) table seq floor knows.pieces x knows.but_it Looked z.z z.now it (looks (layout_in (part_in x p.metaslab)) z.z) (λ same. refl)
        (still_bytes rack area (part_in x p.metaslab) before after z.z (λ pieces is. none_stands rack area before after p why d n (part_in x p.metaslab) pieces z.z is));
    done = (refl, done);
    knows = knows_then z.z it;
  }
    where
      it : IsMetaslab rack area (part_in x p.metaslab) z.now after z.z
      it = none_stands rack area before after p why d n (part_in x p.metaslab) z.now z.z z.is

  pub step_of : (result : Result Fetched ObjectFault) → FetchesShard rack before p result after → CarriesBy rack area went shared owns new table seq floor a b x (FetchDoes x object result)
  step_of (Ok fetched) d = fetch_step fetched d.did
  step_of (Err fault.NoObject) d = absurd d.did
  step_of (Err (fault.Unreadable absent tried)) d = absurd d.did
  step_of (Err fault.Worn) d = look fault.Worn d d.did.0 (
    On (view_of p.metaslab z.z) Looked,
    refl,
    record {
      w = w;
      v = view_of p.metaslab z.z;
      written = found_w.1;
      looked = record { looked = refl; there = of.metaslab_is };
      worn = worn_is rack area (part_in x p.metaslab) z.now before z.z 1 left_for_groups z.is d.did.1;
    },
  )
  step_of (Err fault.NoMemory) d = look fault.NoMemory d d.did (On (view_of p.metaslab z.z) Looked, refl, (view_of p.metaslab z.z, refl))

-- the object has no bytes
pub not_fetched : {R A S : Type 0} (rack : racks.Ghosts R) (area : areas.Ghosts A) (went : S → ℕ → Shard R A → Shard R A → S → Type 0) (shared : Bool) (owns : ℕ → Bool) (a : S) (last : ℕ → Option (Shard R A)) (object : ℕ)
    (table : ℕ → Option Pointer) (seq floor : ℕ) → owns object ≡ true → table object ≡ None → (x : State) → Knows rack area owns last table seq floor x
    → CarriesBy rack area went shared owns last table seq floor a a x (FetchDoes x object (Err fault.NoObject))
not_fetched rack area went shared owns a last object table seq floor own none x knows = record {
  holds = [];
  reached = x;
  store = x.store;
  follows = (refl, refl);
  done = (refl, (pointed_nowhere last (table object) (write_of x.store.changes object) none (knows.but_it.objects object own), refl));
  knows = knows;
}
