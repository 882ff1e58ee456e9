-- A command that frees an object, by what its thread knows.
use Rattle.std.proofs.Common.{◌≡◌, ◌==◌, ◌≤◌, ◌∙◌, arith, ℕ, Bool, true, false, List, [], ◌∷◌, Option, Some, None, Result, Ok, Err, refl, sym, ap, subst, slice_set, cond, max, if◌then◌else◌, ne_eqb, inl, inr}
use mathlib.Core.Logic.{dite}
use native.Mathlib.Decide.{ℕ_discrete}
use Rattle.std.specs.Prelude.{slice_get, nat_eq}
use Rattle.draid_names.specs.declared.pointer.Pointer.{Pointer}
use Rattle.draid_rack.specs.declared.Rack as racks
use Rattle.draid_area.specs.declared.Area as areas
use Rattle.draid_machine.specs.declared.event.Event.TheVariants as event
use Rattle.draid_machine.specs.declared.names.Key.{Key}
use Rattle.draid_machine.proofs.Small.{equal}
use Rattle.draid_segments.specs.Segments.{Pieces}
use Rattle.draid_objects.specs.Changes as changes
use Rattle.draid_objects.specs.Changes.{Change, Freed, Write, write_of}
use Rattle.draid_objects.proofs.Finding.{changes_it, other_changes}
use Rattle.draid_entries.specs.Maps.{key_of}
use Rattle.draid_shard.specs.Part.{layout_in}
use Rattle.draid_shard.specs.declared.shard.Shard.{Shard}
use Rattle.draid_session.specs.Follows.{MetaslabActs}
use Rattle.draid_session.specs.Holds.{Did, Hold, On, view_of}
use Rattle.draid_session.specs.State.{Metaslab, State, Store}
use Rattle.draid_pool.specs.Metaslabs.{IsMetaslab}
use Rattle.draid_pool.specs.Pools.{part_in}
use Rattle.draid_pool.specs.Shards.{FollowsIn, FreesIn, Goes}
use Rattle.draid_pool.proofs.Lastly.{write_object}
use Rattle.draid_pool.proofs.Wholes.{put_here, put_elsewhere}
use Rattle.draid_store.proofs.FreeKeeps.{same_key}
use Rattle.draid_pool.proofs.Lists.{get_set_same, set_twice}
use Rattle.draid_pool.proofs.Moved.{turn, with_metaslab}
use Rattle.draid_store.specs.Answers.{FreeDoes}
use Rattle.draid_store.specs.declared.fault.FreeFault.{FreeFault}
use Rattle.draid_store.specs.declared.fault.FreeFault.TheVariants.{NoObject}
use Rattle.draid_pool.proofs.OwnedStands.{ArePlain}
use Rattle.draid_store.proofs.Plain.{KeepsPlain}
use Rattle.draid_pool.specs.Drifts.{Drifts, KeepsTo, is_other}
use Rattle.draid_store.specs.Frees.{FreesBlock, IsEarly, TriesFree}
use Rattle.draid_store.specs.Freeing.{HasLoose}
use Rattle.draid_session.specs.Points.{KeepsBirth}
use Rattle.draid_pool.specs.Threads.{CarriesBy, HoldsOwn, IsPointerAt, Knows, PointsAt, all_of}
use Rattle.draid_pool.proofs.ShardSteps.{acts_one, live_on}
use Rattle.draid_store.proofs.FreeKnown.{own_freed}
use Rattle.draid_pool.proofs.Contents.{all_long}
use Rattle.draid_pool.proofs.Finds.{Found, found_drops, found_later, found_opens, pointed_at, pointed_nowhere, points_at_on}
use Rattle.draid_pool.proofs.Glances.{early_still, look_step}
use Rattle.draid_pool.proofs.BytesKept.{free_bytes}
use Rattle.draid_pool.proofs.HoldStep.{each_on, f, follows, here, pointer_at_on}
use Rattle.draid_pool.proofs.Owning.{own_drifts}
use Rattle.draid_session.specs.Writes.{LeavesBlock}

module _ {R A S : Type 0} (rack : racks.Ghosts R) (area : areas.Ghosts A) (went : S → ℕ → Shard R A → Shard R A → S → Type 0) (shared : Bool) (owns : ℕ → Bool) (a b : S) (last new : ℕ → Option (Shard R A)) (object : ℕ) (p : Pointer)
    (table : ℕ → Option Pointer) (seq floor : ℕ) (shard before after : Shard R A) (there : last p.metaslab ≡ Some shard) (drifts : Drifts rack area shared owns shard before)
    (keeps : KeepsTo rack area before after (Some object)) (is : (k : ℕ) → new k ≡ (if k == p.metaslab then Some after else last k)) (goes : went a p.metaslab before after b) (own : owns object ≡ true)
    (at : table object ≡ Some p) (x : State) (knows : Knows rack area owns last table seq floor x) where
  abbrev m : ℕ
  m = p.metaslab

  abbrev mine : ℕ → Key → Bool
  mine = all_of owns

  abbrev y : (y : Metaslab) × (slice_get x.metaslabs p.metaslab ≡ Some y) × IsMetaslab rack area (part_in x p.metaslab) (knows.pieces p.metaslab) shard y
  y = here rack area went shared owns a b last new p.metaslab shard before after there drifts keeps.valid is goes (all_of owns) (all_of owns) table seq floor knows.pieces x knows.but_it

  abbrev z : Found rack area shared owns (part_in x p.metaslab) (knows.pieces p.metaslab) y.0 before
  z = f rack area went shared owns a b last new p.metaslab shard before after there drifts keeps.valid is goes (all_of owns) (all_of owns) table seq floor knows.pieces x knows.but_it

  abbrev pieces : ℕ → Pieces
  pieces = turn p.metaslab z.now knows.pieces

  holds_found : HoldsOwn owns (with_metaslab x m z.z) pieces
  holds_found = own_drifts owns x m y.0 z.z knows.pieces z.now y.1 (found_later rack area shared owns shard before drifts (part_in x m) (knows.pieces m) z.now y.0 z.z y.2 z.is)
      (found_opens rack area shared owns shard before drifts (part_in x m) (knows.pieces m) z.now y.0 z.z y.2 z.is)
      (found_drops rack area shared owns shard before drifts (part_in x m) (knows.pieces m) z.now y.0 z.z y.2 z.is) (all_long rack area (part_in x m) (knows.pieces m) shard y.0 y.2) z.same knows.but_it.holds

  other_object : (q : ℕ) → (object ≡ q → ⊥) → is_other (Some object) q ≡ true
  other_object q not = ap (λ c. if c then false else true) (ne_eqb object q not)

  -- ---- it isn't its turn

  pub early_step : IsEarly rack area before floor after → CarriesBy rack area went shared owns new table seq floor a b x (TriesFree x object None)
  early_step early = look_step rack area went shared owns a b last new m shard before after there drifts is goes table seq floor x knows (early_still rack area before after keeps.valid early.same)

  -- ---- the block is freed

  pub free_step : HasLoose x.store object → (table' : ℕ → Option Pointer) (group : ℕ) → FreesBlock rack area before p floor group after → ((q : ℕ) → table' q ≡ cond (nat_eq object q) None (table q))
      → CarriesBy rack area went shared owns new table' seq group a b x (TriesFree x object (Some (Ok tt)))
  free_step loose table' group fb objects = by
    where
      found_w : (write : Write) × (write_of x.store.changes object ≡ Some write) × IsPointerAt last p write
      found_w = pointed_at last (table object) (write_of x.store.changes object) p at (knows.but_it.objects object own)

      w : Write
      w = found_w.0

      of : IsPointerAt last p w
      of = found_w.2

      key : key_of p ≡ changes.key_of w
      key = same_key p w of.object_is of.seq_is

      mine_p : p.object ≡ object
      mine_p = of.object_is ∙ write_object x.store.changes object w found_w.1

      g : Goes rack area (part_in x m) z.now z.z after (FreesIn m p floor group z.z)
      g = fb.frees (part_in x m) z.now z.z z.is

      r : Metaslab
      r = g.reached

      acts : MetaslabActs (layout_in (part_in x m)) (Did (event.Free (key_of p) group) r.world) z.z r
      acts = acts_one (layout_in (part_in x m)) m (Did (event.Free (key_of p) group) r.world) z.z r (subst (λ hs. FollowsIn (layout_in (part_in x m)) m hs z.z r) g.done.are g.follows)

      later : x.store.floor ≤ group
      later = (let a = g.done.group_is in let b = knows.but_it.floor in omega (arith, a, b))

      freed_at : HoldsOwn owns (record (with_metaslab (with_metaslab x m z.z) m r) { store = record { changes = Freed p.object group ∷ x.store.changes; marks = x.store.marks; seq = x.store.seq; floor = group } }) pieces
      freed_at = own_freed owns (with_metaslab x m z.z) m z.z r pieces (get_set_same x.metaslabs m y.0 z.z y.1) (key_of p) (ap owns mine_p ∙ own) g.done.held g.done.found g.done.live group later g.done.made g.done.committed
          w (ap (write_of x.store.changes) mine_p ∙ found_w.1) (sym key) (sym of.metaslab_is) holds_found g.done.open_group_is (g.done.group_is ∙ ap (λ n. max z.z.world.open_group n) (sym knows.but_it.floor)) (λ kept. loose w found_w.1 (subst (KeepsBirth x.store.marks) (g.done.birth ∙ of.birth_is) kept))

      store : Store
      store = record { changes = Freed object group ∷ x.store.changes; marks = x.store.marks; seq = x.store.seq; floor = group }

      holds_after : HoldsOwn owns (record x { metaslabs = slice_set x.metaslabs m r; store = store }) pieces
      holds_after = subst (λ o. HoldsOwn owns (record x { metaslabs = slice_set x.metaslabs m r; store = record { changes = Freed o group ∷ x.store.changes; marks = x.store.marks; seq = x.store.seq; floor = group } }) pieces) mine_p
          (subst (λ ms. HoldsOwn owns (record x { metaslabs = ms; store = record { changes = Freed p.object group ∷ x.store.changes; marks = x.store.marks; seq = x.store.seq; floor = group } }) pieces) (set_twice x.metaslabs m z.z r) freed_at)

      points : (q : ℕ) → owns q ≡ true → PointsAt new (table' q) (write_of store.changes q)
      points q own_q = dite (ℕ_discrete object q)
          (λ same.
          let t : table' q ≡ None = put_here (table' q) (table q) object q None (objects q) same in
          let v : write_of store.changes q ≡ None = changes_it (Freed object group) x.store.changes q (equal object q same) in
          subst (λ o. PointsAt new o (write_of store.changes q)) (sym t) (subst (λ o. PointsAt new None o) (sym v) tt))
          (λ not.
          let t : table' q ≡ table q = put_elsewhere (table' q) (table q) object q None (objects q) not in
          let v : write_of store.changes q ≡ write_of x.store.changes q = other_changes (Freed object group) x.store.changes q (ne_eqb object q not) in
          subst (λ o. PointsAt new o (write_of store.changes q)) (sym t) (subst (λ o. PointsAt new (table q) o) (sym v)
          (points_at_on last new (table q) (write_of x.store.changes q)
          (λ s u s_is u_is pt.
          let s_q : s.object ≡ q = pt.object_is ∙ write_object x.store.changes q u u_is in
          pointer_at_on rack area went shared owns a b last new p.metaslab shard before after there drifts keeps.valid is goes (all_of owns) (all_of owns) table seq floor knows.pieces x knows.but_it q s u own_q s_q (λ at. live_on rack area (is_other (Some object)) after.committed before after s drifts.valid keeps.valid keeps.part keeps.others (ap (is_other (Some object)) s_q ∙ other_object q not)) pt)
          (knows.but_it.objects q own_q))))

      by : CarriesBy rack area went shared owns new table' seq group a b x (TriesFree x object (Some (Ok tt)))
      by = record {
        holds = On (view_of m z.z) (Did (event.Free (key_of p) group) r.world) ∷ [];
        reached = with_metaslab x m r;
        store = store;
        follows = follows rack area went shared owns a b last new p.metaslab shard before after there drifts keeps.valid is goes (all_of owns) (all_of owns) table seq floor knows.pieces x knows.but_it (Did (event.Free (key_of p) group) r.world) r z.now g.is acts (λ same. absurd (cc))
            (free_bytes rack area (part_in x p.metaslab) before after z.z p floor group (λ pieces is. fb.frees (part_in x p.metaslab) pieces z.z is));
        done = record {
          w = w;
          group = group;
          written = found_w.1;
          marks = x.store.marks;
          leaves = inl (
            loose w found_w.1,
            record {
              v = view_of m z.z;
              after = r.world;
              did = ap (λ j. On (view_of m z.z) (Did (event.Free j group) r.world) ∷ []) key;
              there = of.metaslab_is;
              group_is = g.done.group_is ∙ ap (λ n. max z.z.world.open_group n) (sym knows.but_it.floor);
            },
            refl,
          );
          made = refl;
        };
        knows = record { pieces = pieces; but_it = record { each = each_on rack area went shared owns a b last new p.metaslab shard before after there drifts keeps.valid is goes (all_of owns) (all_of owns) table seq floor knows.pieces x knows.but_it r z.now g.is; holds = holds_after; objects = points; seq = knows.but_it.seq; floor = refl } };
      }

-- the object has no bytes
pub not_there : {R A S : Type 0} (rack : racks.Ghosts R) (area : areas.Ghosts A) (went : S → ℕ → Shard R A → Shard R A → S → Type 0) (shared : Bool) (owns : ℕ → Bool) (a : S) (last : ℕ → Option (Shard R A)) (object : ℕ)
    (table : ℕ → Option Pointer) (seq floor : ℕ) → owns object ≡ true → table object ≡ None → (x : State) → Knows rack area owns last table seq floor x
    → CarriesBy rack area went shared owns last table seq floor a a x (TriesFree x object (Some (Err NoObject)))
not_there rack area went shared owns a last object table seq floor own none x knows = record {
  holds = [];
  reached = x;
  store = x.store;
  follows = (refl, refl);
  done = (refl, refl, pointed_nowhere last (table object) (write_of x.store.changes object) none (knows.but_it.objects object own));
  knows = knows;
}

-- a freeing leaves images, arms and groups, and what befell the checkpoint
pub free_plain : (x : State) (object : ℕ) (result : Result Unit FreeFault) → HasLoose x.store object → (holds : List Hold) (store : Store) → FreeDoes x object result holds store → KeepsPlain x holds store
free_plain x object (Ok done) loose holds store f = by f.leaves
  where
    by : LeavesBlock x.store.marks f.w x.store.floor f.group holds f.marks → KeepsPlain x holds store
    by (inl b) = (
      subst ArePlain (sym b.1.did) (tt, tt),
      ap (λ (t : Store). t.marks) f.made ∙ b.2,
      (let is = b.1.group_is in let made = ap (λ (t : Store). t.floor) f.made in omega (arith, is, made)),
    )
    by (inr d) = absurd (loose f.w f.written d.0)
free_plain x object (Err fault) loose holds store f = (subst ArePlain (sym f.1) tt, ap (λ (t : Store). t.marks) f.0, (let floor = ap (λ (t : Store). t.floor) f.0 in omega (arith, floor)))
