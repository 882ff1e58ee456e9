-- The block that an object had before is freed in a hold, by what its thread knows of a pool's state.
use Rattle.std.proofs.Common.{◌≡◌, ◌≢◌, ◌==◌, ◌≤◌, ◌∙◌, inl, inr, arith, ℕ, Bool, true, false, [], ◌∷◌, Option, Some, None, refl, sym, ap, subst, slice_set, if◌then◌else◌, List}
use Rattle.std.specs.Prelude.{max, option_map, slice_get}
use Rattle.std.proofs.lemmas.Bool.Decides.{nat_tests}
use Rattle.draid_names.specs.declared.pointer.Pointer.{Pointer}
use Rattle.draid_rack.specs.declared.Rack as racks
use Rattle.draid_area.specs.declared.Area as areas
use Rattle.draid_machine.specs.declared.event.Event.TheVariants as event
use Rattle.draid_machine.specs.declared.names.Key.{Key}
use Rattle.draid_machine.specs.declared.names.Held.{Held}
use Rattle.draid_machine.specs.declared.names.Stage.TheVariants as stage
use Rattle.draid_machine.specs.Names.{key_eq}
use Rattle.draid_machine.specs.After.{set_held}
use Rattle.draid_machine.proofs.Small.{bool_cases, held_other, key_true}
use Rattle.draid_segments.specs.Segments.{Pieces}
use Rattle.draid_objects.specs.Blocks.{Blocks, Sets}
use Rattle.draid_objects.specs.Changes as changes
use Rattle.draid_objects.specs.Changes.{Write, write_of}
use Rattle.draid_objects.proofs.One.{one_set}
use Rattle.draid_entries.specs.Entries.{held_in}
use Rattle.draid_entries.specs.Maps.{held_at, key_of, staged}
use Rattle.draid_shard.specs.Fits.{Valid}
use Rattle.draid_shard.specs.Part.{layout_in}
use Rattle.draid_shard.specs.States.{part_of}
use Rattle.draid_shard.specs.declared.shard.Shard.{Shard}
use Rattle.draid_session.specs.Follows.{MetaslabActs}
use Rattle.draid_session.specs.Holds.{Did, On, view_of}
use Rattle.draid_session.specs.State.{Metaslab, State}
use Rattle.draid_session.specs.Writes as written
use Rattle.draid_pool.specs.Metaslabs.{IsMetaslab}
use Rattle.draid_pool.specs.Objects.{blocks_of, worlds_of}
use Rattle.draid_pool.specs.Pools.{part_in}
use Rattle.draid_pool.specs.Shards.{FollowsIn, FreesIn, Goes}
use Rattle.draid_pool.proofs.Entering.{older_holds, still}
use Rattle.draid_pool.proofs.Marked.{behind_later, marked_later, own_keeps, spare_of}
use Rattle.draid_objects.specs.Marks.{Mark}
use Rattle.draid_objects.specs.Stores.{AreMarkedUpto, IsBehindChecks, IsSpare}
use Rattle.draid_session.specs.Points.{KeepsBirth}
use Rattle.draid_pool.proofs.Lastly.{write_object}
use Rattle.draid_pool.proofs.Lists.{get_set_same, set_twice, some_of}
use Rattle.draid_pool.proofs.Moved.{blocks_at, each_set, moves_one, turn, with_metaslab}
use Rattle.draid_store.proofs.FreeKeeps.{same_key}
use Rattle.draid_pool.specs.Drifts.{Drifts}
use Rattle.draid_store.specs.Frees.{FreesBlock}
use Rattle.draid_pool.specs.Threads.{Bounds, HoldsBut, HoldsOwn, IsPointerAt, Knows, LeadsBy, PointsAt, all_of, but, own_blocks, own_changes, own_store}
use Rattle.draid_store.specs.Open.{KnowsEarlier}
use Rattle.draid_pool.proofs.ShardSteps.{acts_one}
use Rattle.draid_pool.proofs.Contents.{all_long}
use Rattle.draid_pool.proofs.Finds.{Found, all_low, bound_in, found_drops, found_later, found_opens, points_at_on}
use Rattle.draid_pool.proofs.Hiding.{but_away, but_inside, own_set}
use Rattle.draid_pool.proofs.BytesKept.{free_bytes}
use Rattle.draid_pool.proofs.HoldStep.{each_on, f, follows, here, live_key, pointer_at_on}
use Rattle.draid_pool.proofs.Owning.{StaysAt, bound_before, but_drifts, own_is, write_own}

-- ---- what is known of own objects behind it

module _ (owns : ℕ → Bool) (x : State) (m : ℕ) (z r : Metaslab) (pieces : ℕ → Pieces) (at : slice_get x.metaslabs m ≡ Some z) (key : Key) (own : owns key.object ≡ true) (h : Held) (found_h : z.world.core.held key ≡ Some h)
    (live : h.stage ≡ stage.Live) (group : ℕ) (later : x.store.floor ≤ group) (made : r.world.core.held ≡ set_held z.world.core.held key (Some (record h { stage = stage.Freed group }))) (committed : r.world.committed ≡ z.world.committed)
    (newer : Write) (last : write_of x.store.changes key.object ≡ Some newer) (differs : changes.key_of newer ≢ key) (holds : HoldsBut owns (all_of owns) (but m key (all_of owns)) x pieces) (opens : r.world.open_group ≡ z.world.open_group) (group_is : group ≡ max z.world.open_group x.store.floor) (loose : KeepsBirth x.store.marks h.birth → ⊥) where
  abbrev old_blocks : Blocks
  old_blocks = own_blocks (all_of owns) (blocks_of x.metaslabs)

  abbrev new_blocks : Blocks
  new_blocks = own_blocks (all_of owns) (blocks_of (slice_set x.metaslabs m r))

  there : old_blocks m key ≡ Some h
  there = own_is (all_of owns) (blocks_of x.metaslabs) m key own ∙ (blocks_at x.metaslabs m z key at ∙ found_h)

  set : Sets old_blocks new_blocks m key (Some (record h { stage = stage.Freed group }))
  set = own_set owns (blocks_of x.metaslabs) (blocks_of (slice_set x.metaslabs m r)) m key (Some (record h { stage = stage.Freed group })) own
      (one_set (worlds_of x.metaslabs) (worlds_of (slice_set x.metaslabs m r)) m z.world r.world (moves_one x.metaslabs m z r at) key (Some (record h { stage = stage.Freed group })) made)

  last_own : write_of (own_changes owns x.store.changes) key.object ≡ Some newer
  last_own = write_own owns x.store.changes key.object own ∙ last

  abbrev own_marks : List Mark
  own_marks = (own_store owns x.store).marks

  before : (c : ℕ) → Bounds (record x { metaslabs = slice_set x.metaslabs m r; store = record x.store { floor = group } }) c → (n : ℕ) (v : Metaslab) → slice_get x.metaslabs n ≡ Some v → IsBehindChecks c own_marks v.world.open_group
  before c b = holds.checks c (bound_before x m z r at c (let e = committed in omega (arith, e)) b)

  upto : AreMarkedUpto group own_marks
  upto = marked_later (max x.store.floor z.world.open_group) group own_marks (grind (arith, nat_tests, group_is)) (holds.marked m z at)

  spare : IsSpare group own_marks h.birth
  spare = spare_of group h.birth own_marks upto (λ kept. loose (own_keeps owns x.store.marks h.birth kept))

  up : (n : ℕ) → group ≤ max group n
  up n = grind (arith, nat_tests)

  pub older_freed : HoldsOwn owns (record x { metaslabs = slice_set x.metaslabs m r; store = record x.store { floor = group } }) pieces
  older_freed = record {
    holds = λ c b. older_holds x.geometry c (own_store owns x.store) old_blocks new_blocks pieces (holds.holds c (bound_before x m z r at c (let e = committed in omega (arith, e)) b)) m key h there live group later set newer last_own differs spare;
    only = λ n k i there_i is_live counts.
        let s = still x.geometry (bound_in x.metaslabs) (own_store owns x.store) old_blocks new_blocks pieces (holds.holds (bound_in x.metaslabs) (all_low x)) m key h there live group later set n k i there_i is_live in
        holds.only n k i (same n k (but_away (all_of owns) m key n k s.1) ∙ s.0) is_live counts;
    checks = λ c b. each_set x.metaslabs m z r (λ v. IsBehindChecks c own_marks v.world.open_group) at (behind_later c c z.world.open_group r.world.open_group own_marks (omega arith) (omega (arith, opens)) (before c b m z at)) (before c b);
    marked = λ n v there_v. marked_later group (max group v.world.open_group) own_marks (up v.world.open_group) upto;
  }
    where
      same : (n : ℕ) (k : Key) → but m key (all_of owns) n k ≡ all_of owns n k → own_blocks (but m key (all_of owns)) (blocks_of x.metaslabs) n k ≡ own_blocks (all_of owns) (blocks_of x.metaslabs) n k
      same n k e = ap (λ b. if b then blocks_of x.metaslabs n k else None) e

-- ---- the hold

module _ {R A S : Type 0} (rack : racks.Ghosts R) (area : areas.Ghosts A) (went : S → ℕ → Shard R A → Shard R A → S → Type 0) (shared : Bool) (owns : ℕ → Bool) (a b : S) (last new : ℕ → Option (Shard R A)) (p : Pointer)
    (shard before after : Shard R A) (there : last p.metaslab ≡ Some shard) (drifts : Drifts rack area shared owns shard before) (valid : Valid rack after) (part : part_of after ≡ part_of before)
    (is : (k : ℕ) → new k ≡ (if k == p.metaslab then Some after else last k)) (goes : went a p.metaslab before after b) (table : ℕ → Option Pointer) (seq floor : ℕ) (x : State) (we : Write)
    (known : KnowsEarlier rack area owns last table seq floor p we x) (group : ℕ) (frees : FreesBlock rack area before p floor group after) (loose : KeepsBirth x.store.marks we.birth → ⊥) where
  abbrev m : ℕ
  m = p.metaslab

  abbrev lives : ℕ → Key → Bool
  lives = but p.metaslab (key_of p) (all_of owns)

  abbrev pieces : ℕ → Pieces
  pieces = known.pieces

  abbrev y_here : (y : Metaslab) × (slice_get x.metaslabs p.metaslab ≡ Some y) × IsMetaslab rack area (part_in x p.metaslab) (known.pieces p.metaslab) shard y
  y_here = here rack area went shared owns a b last new p.metaslab shard before after there drifts valid is goes (all_of owns) lives table seq floor known.pieces x known.but_it

  abbrev z : Found rack area shared owns (part_in x p.metaslab) (known.pieces p.metaslab) y_here.0 before
  z = f rack area went shared owns a b last new p.metaslab shard before after there drifts valid is goes (all_of owns) lives table seq floor known.pieces x known.but_it

  abbrev pieces_then : ℕ → Pieces
  pieces_then = turn p.metaslab z.now known.pieces

  g : Goes rack area (part_in x p.metaslab) z.now z.z after (FreesIn p.metaslab p floor group z.z)
  g = frees.frees (part_in x p.metaslab) z.now z.z z.is

  acts : MetaslabActs (layout_in (part_in x p.metaslab)) (Did (event.Free (key_of p) group) g.reached.world) z.z g.reached
  acts = acts_one (layout_in (part_in x p.metaslab)) p.metaslab (Did (event.Free (key_of p) group) g.reached.world) z.z g.reached (subst (λ hs. FollowsIn (layout_in (part_in x p.metaslab)) p.metaslab hs z.z g.reached) g.done.are g.follows)

  stays : (k : Key) → owns k.object ≡ true → StaysAt y_here.0 z.z k
  stays k own = found_drops rack area shared owns shard before drifts (part_in x p.metaslab) (known.pieces p.metaslab) z.now y_here.0 z.z y_here.2 z.is k own

  found_it : HoldsBut owns (all_of owns) lives (with_metaslab x p.metaslab z.z) pieces_then
  found_it = but_drifts x p.metaslab y_here.0 z.z y_here.1 owns (all_of owns) lives known.pieces z.now
      (found_later rack area shared owns shard before drifts (part_in x p.metaslab) (known.pieces p.metaslab) z.now y_here.0 z.z y_here.2 z.is)
      (found_opens rack area shared owns shard before drifts (part_in x p.metaslab) (known.pieces p.metaslab) z.now y_here.0 z.z y_here.2 z.is) stays
      (λ k seen. stays k (but_inside (all_of owns) p.metaslab (key_of p) p.metaslab k seen)) (all_long rack area (part_in x p.metaslab) (known.pieces p.metaslab) shard y_here.0 y_here.2) z.same known.but_it.holds

  differs : changes.key_of known.newer ≢ key_of p
  differs same = (let seqs = ap (λ (k : Key). k.seq) same in let less = known.later in omega (arith, seqs, less))

  freed : HoldsOwn owns (record x { metaslabs = slice_set x.metaslabs p.metaslab g.reached; store = record x.store { floor = group } }) pieces_then
  freed = subst (λ ms. HoldsOwn owns (record x { metaslabs = ms; store = record x.store { floor = group } }) pieces_then) (set_twice x.metaslabs p.metaslab z.z g.reached)
      (older_freed owns (with_metaslab x p.metaslab z.z) p.metaslab z.z g.reached pieces_then (get_set_same x.metaslabs p.metaslab y_here.0 z.z y_here.1) (key_of p) known.own g.done.held g.done.found g.done.live group
      (let low = known.but_it.floor in let up = g.done.group_is in omega (arith, low, up)) g.done.made g.done.committed known.newer known.is_last differs found_it g.done.open_group_is (g.done.group_is ∙ ap (λ n. max z.z.world.open_group n) (sym known.but_it.floor)) (λ kept. loose (subst (KeepsBirth x.store.marks) (g.done.birth ∙ known.had.birth_is) kept)))

  -- another key
  other_key : (q : ℕ) (t : Pointer) (w : Write) → write_of x.store.changes q ≡ Some w → IsPointerAt last t w → key_eq (key_of p) (key_of t) ≡ false
  other_key q t w w_is pt = elim (bool_cases (key_eq (key_of p) (key_of t))) [
    | inr other ↦ other
    | inl one ↦
        let k_is = key_true (key_of p) (key_of t) one in
        let objects : p.object ≡ q = ap (λ (k : Key). k.object) k_is ∙ (pt.object_is ∙ write_object x.store.changes q w w_is) in
        let w_newer : w ≡ known.newer = some_of (write_of x.store.changes q) w known.newer w_is (ap (write_of x.store.changes) (sym objects) ∙ known.is_last) in
        let seqs = ap (λ (k : Key). k.seq) k_is in
        let own_seq = pt.seq_is in
        let same_seq = ap (λ (v : Write). v.seq) w_newer in
        let less = known.later in
        absurd (omega (arith, seqs, own_seq, same_seq, less))
  ]

  points : (q : ℕ) → owns q ≡ true → PointsAt new (table q) (write_of x.store.changes q)
  points q own_q = points_at_on last new (table q) (write_of x.store.changes q)
      (λ t w t_is w_is pt. pointer_at_on rack area went shared owns a b last new p.metaslab shard before after there drifts valid is goes (all_of owns) lives table seq floor known.pieces x known.but_it q t w own_q (pt.object_is ∙ write_object x.store.changes q w w_is)
      (λ same live. live_key rack before after t drifts.valid valid part
      (frees.sets.entry.held (key_of t) ∙ held_other (held_in before.entries) (key_of p) (key_of t) (option_map held_at (Some (staged (stage.Freed group) p))) (other_key q t w w_is pt)) live) pt)
      (known.but_it.objects q own_q)

  pub earlier_step : LeadsBy rack area went shared a b x (λ holds store. written.FreesBlock we floor group holds × (store ≡ record x.store { floor = group })) (Knows rack area owns new table seq group)
  earlier_step = record {
    holds = On (view_of p.metaslab z.z) (Did (event.Free (key_of p) group) g.reached.world) ∷ [];
    reached = with_metaslab x p.metaslab g.reached;
    store = record x.store { floor = group };
    follows = follows rack area went shared owns a b last new p.metaslab shard before after there drifts valid is goes (all_of owns) lives table seq floor known.pieces x known.but_it (Did (event.Free (key_of p) group) g.reached.world) g.reached z.now g.is acts (λ same. absurd (cc))
        (free_bytes rack area (part_in x p.metaslab) before after z.z p floor group (λ pieces is. frees.frees (part_in x p.metaslab) pieces z.z is));
    done = (
      record {
        v = view_of p.metaslab z.z;
        after = g.reached.world;
        did = ap (λ j. On (view_of p.metaslab z.z) (Did (event.Free j group) g.reached.world) ∷ []) (same_key p we known.had.object_is known.had.seq_is);
        there = known.had.metaslab_is;
        group_is = g.done.group_is;
      },
      refl,
    );
    knows = record {
      pieces = pieces_then;
      but_it = record {
        each = each_on rack area went shared owns a b last new p.metaslab shard before after there drifts valid is goes (all_of owns) lives table seq floor known.pieces x known.but_it g.reached z.now g.is;
        holds = freed;
        objects = points;
        seq = known.but_it.seq;
        floor = refl;
      };
    };
  }
