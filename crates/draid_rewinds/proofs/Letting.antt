-- The blocks that a checkpoint alone keeps are those to which no object's pointer leads.
use Rattle.std.proofs.Common.{arith, ◌≡◌, ◌==◌, ◌+◌, ◌≤◌, ◌∙◌, inl, inr, ℕ, false, List, [], ◌∷◌, Option, Some, None, refl, sym, ap, subst, max}
use Rattle.std.specs.Prelude.{nat_eq}
use Rattle.std.specs.HashMap.{get}
use Rattle.sha2.specs.Sha256.{sha256}
use Rattle.draid_names.specs.declared.pointer.Pointer.{Pointer}
use Rattle.draid_rack.specs.declared.Rack as racks
use Rattle.draid_area.specs.declared.Area as areas
use Rattle.draid_machine.specs.declared.names.Stage.TheVariants.{Live}
use Rattle.draid_machine.proofs.Small.{bool_cases, is_equal, none_some}
use Rattle.draid_objects.specs.Blocks.{Blocks, SaysOf, sealed_at}
use Rattle.draid_objects.specs.Changes as changes
use Rattle.draid_objects.specs.Changes.{Change, Freed, Restored, Write, Wrote, group_of, kept, object_of, write_of}
use Rattle.draid_objects.specs.Marks.{Check, check_at, check_by, counted, is_dropped, shown_at}
use Rattle.draid_objects.specs.Rewinds.{is_its_own}
use Rattle.draid_objects.specs.Stores.{AreMarkedUpto, IsFloor}
use Rattle.draid_objects.proofs.Checking.{count_gone}
use Rattle.draid_objects.proofs.Finding.{changes_it, kept_all, other_changes}
use Rattle.draid_objects.proofs.Keeping.{floor_up}
use Rattle.draid_objects.proofs.Marking.{upto_all}
use Rattle.draid_objects.proofs.Rewinding.{discarded}
use Rattle.draid_objects.proofs.Sealing as sealing
use Rattle.draid_entries.specs.Maps.{held_at, key_of, staged}
use Rattle.draid_session.specs.Points.{given_up}
use Rattle.draid_session.specs.State.{State}
use Rattle.draid_pool.specs.Objects.{IsLastAt, IsPointerOf, PointsTo, blocks_of}
use Rattle.draid_pool.specs.Pools.{Represents}
use Rattle.draid_pool.specs.declared.pool.Pool.{Pool}
use Rattle.draid_pool.proofs.Lists.{present, some_of}
use Rattle.draid_pool.proofs.Lives.{held_by}
use Rattle.draid_pool.proofs.Marked.{marked_later}
use Rattle.draid_pool.proofs.Moved.{blocks_at}
use Rattle.std.proofs.lemmas.Option.{slice_get_within}
use Rattle.draid_rewinds.proofs.Forgotten.{MayForget}
use Rattle.draid_rewinds.proofs.Swept.{IsTestOf}

-- ---- changes

own_in : (c : Change) (o : ℕ) (v : Write) → object_of c ≡ o → changes.write_in (Some c) ≡ Some v → v.object ≡ o
own_in (Wrote w) o v own is = ap (λ (z : Write). z.object) (sym (some_of (Some w) w v refl is)) ∙ own
own_in (Freed object group) o v own is = absurd (none_some None v refl is)
own_in (Restored w group) o v own is = ap (λ (z : Write). z.object) (sym (some_of (Some w) w v refl is)) ∙ own

-- an object's write is of it
pub own_object : (cs : List Change) (o : ℕ) (v : Write) → write_of cs o ≡ Some v → v.object ≡ o
own_object [] o v is = absurd (none_some None v refl is)
own_object (c ∷ cs) o v is = elim (bool_cases (object_of c == o)) [
  | inl here ↦ own_in c o v (is_equal (object_of c) o here) (sym (changes_it c cs o here) ∙ is)
  | inr other ↦ own_object cs o v (sym (other_changes c cs o other) ∙ is)
]

-- ---- pointers

-- pointers of blocks that a state has alike, in one metaslab, are one
pub same_pointer : (p q : Pointer) → key_of q ≡ key_of p → held_at (staged Live q) ≡ held_at (staged Live p) → q.metaslab ≡ p.metaslab → q ≡ p
same_pointer p q key held metaslab = λ i. record {
  object = (key i).object;
  seq = (key i).seq;
  metaslab = metaslab i;
  first = (held i).first;
  stripes = (held i).stripes;
  len = (held i).len;
  birth = (held i).birth;
  digest = (held i).digest;
}

module _ {R A : Type 0} (rack : racks.Ghosts R) (area : areas.Ghosts A) (pool : Pool R A) (x : State) (r : Represents rack area pool x) where
  abbrev blocks : Blocks
  blocks = blocks_of x.metaslabs

  -- behind this group nothing befell the pool yet
  abbrev pub top : ℕ
  top = max x.store.floor (x.committed + 1)

  pub at_top : check_at top x.store.marks ≡ check_by x.store.marks
  at_top = upto_all top top x.store.marks r.stands.groups.marked (omega arith)

  pub floor_top : (o : ℕ) → IsFloor x.store.changes blocks o top
  floor_top o = floor_up x.store.changes blocks o x.store.floor top (r.stands.holds.floors o) (omega arith)

  pub kept_top : (o : ℕ) → kept top x.store.changes o ≡ write_of x.store.changes o
  kept_top o = kept_all top o x.store.changes (floor_top o).changed

  -- what an object's pointer leads to is there
  pub pointer_held : (p : Pointer) (w : Write) → IsPointerOf pool.metaslabs.shards.items p w → blocks p.metaslab (key_of p) ≡ Some (held_at (staged Live p))
  pointer_held p w of =
      let within = slice_get_within pool.metaslabs.shards.items p.metaslab of.shard of.there in
      let same = r.stands.shards in
      let y = present x.metaslabs p.metaslab (omega (arith, within, same)) in
      let is = r.stands.each p.metaslab of.shard y.0 of.there y.1 in
      blocks_at x.metaslabs p.metaslab y.0 (key_of p) y.1 ∙ held_by of.shard y.0.world p is.stands.is_in of.live

  pub pointer_key : (p : Pointer) (w : Write) → IsPointerOf pool.metaslabs.shards.items p w → key_of p ≡ changes.key_of w
  pointer_key p w of = λ i. record { object = of.object_is i; seq = of.seq_is i }

  -- a block that is its object's last write's is where the object's pointer leads
  leads_last : (table : ℕ → Option Pointer) (m : ℕ) (p : Pointer) (o : Option Pointer) (last : Option Write) → p.metaslab ≡ m → blocks m (key_of p) ≡ Some (held_at (staged Live p)) → PointsTo pool.metaslabs.shards.items o last → IsLastAt m (key_of p) last
      → o ≡ Some p
  leads_last table m p None None here there points at = absurd at
  leads_last table m p None (Some w) here there points at = absurd points
  leads_last table m p (Some q) None here there points at = absurd points
  leads_last table m p (Some q) (Some w) here there points at =
      let key : key_of q ≡ key_of p = pointer_key q w points ∙ at.1 in
      let place : q.metaslab ≡ m = points.metaslab_is ∙ at.0 in
      let own : blocks m (key_of p) ≡ Some (held_at (staged Live q)) = sym (ap (blocks m) key) ∙ (sym (ap (λ n. blocks n (key_of q)) place) ∙ pointer_held q w points) in
      ap Some (same_pointer p q key (some_of (blocks m (key_of p)) (held_at (staged Live q)) (held_at (staged Live p)) own there) (place ∙ sym here))

  pub last_leads : (m : ℕ) (p : Pointer) → p.metaslab ≡ m → blocks m (key_of p) ≡ Some (held_at (staged Live p)) → IsLastAt m (key_of p) (write_of x.store.changes p.object) → get nat_eq pool.own.objects p.object ≡ Some p
  last_leads m p here there last = leads_last (λ o. get nat_eq pool.own.objects o) m p (get nat_eq pool.own.objects p.object) (write_of x.store.changes p.object) here there (r.stands.objects p.object) last

  -- an object's last write has a block that is its own
  pub last_own : (c : Check) (o : ℕ) (w : Write) → check_by x.store.marks ≡ Some c → write_of x.store.changes o ≡ Some w → c.dropped (changes.key_of w) ≡ false
  last_own c o w check last = elim (bool_cases (c.dropped (changes.key_of w))) [
    | inl gone ↦
        let says : SaysOf (shown_at x.store.marks top blocks) o (Some w) = subst (SaysOf (shown_at x.store.marks top blocks) o) (kept_top o ∙ last) (r.stands.holds.stores.says top o (omega arith)) in
        let some = sealing.some_of (shown_at x.store.marks top blocks w.metaslab (changes.key_of w)) says.there in
        let none : shown_at x.store.marks top blocks w.metaslab (changes.key_of w) ≡ None
        = ap (λ z. counted z (sealed_at top blocks) w.metaslab (changes.key_of w)) (at_top ∙ check) ∙ count_gone (Some c) (sealed_at top blocks) w.metaslab (changes.key_of w) gone in
        absurd (none_some (shown_at x.store.marks top blocks w.metaslab (changes.key_of w)) some.0 none some.1)
    | inr own ↦ own
  ]

  pointed_write : (p : Pointer) (o : Option Pointer) (last : Option Write) → o ≡ Some p → PointsTo pool.metaslabs.shards.items o last → (w : Write) × (last ≡ Some w) × (key_of p ≡ changes.key_of w)
  pointed_write p None last leads points = absurd (none_some None p refl leads)
  pointed_write p (Some q) None leads points = absurd points
  pointed_write p (Some q) (Some w) leads points = (w, refl, ap key_of (sym (some_of (Some q) q p refl leads)) ∙ pointer_key q w points)

  -- ---- a discard

  module _ (c : Check) (check : check_by x.store.marks ≡ Some c) (floor_low : x.store.floor ≤ x.committed + 1) where
    pub its_test : IsTestOf (is_its_own c) (λ o. get nat_eq pool.own.objects o) blocks
    its_test = record {
      others = λ m p here there other. elim (bool_cases (c.dropped (key_of p))) [
        | inl gone ↦ gone
        | inr own ↦ absurd (other (last_leads m p here there (r.only m (key_of p) (held_at (staged Live p)) there refl (ap (λ o. is_dropped o (key_of p)) check ∙ own))))
      ];
      own = λ m p here there leads.
          (let z = pointed_write p (get nat_eq pool.own.objects p.object) (write_of x.store.changes p.object) leads (r.stands.objects p.object) in
          ap c.dropped z.2 ∙ last_own c p.object z.0 check z.1);
    }

    upto : AreMarkedUpto (x.committed + 1) x.store.marks
    upto = marked_later (max x.store.floor (x.committed + 1)) (x.committed + 1) x.store.marks (omega (arith, floor_low)) r.stands.groups.marked

    floor_at : (o : ℕ) → IsFloor x.store.changes blocks o (x.committed + 1)
    floor_at o = floor_up x.store.changes blocks o x.store.floor (x.committed + 1) (r.stands.holds.floors o) floor_low

    pub lets_go : MayForget rack area pool x (λ o. get nat_eq pool.own.objects o) (is_its_own c) (given_up (x.committed + 1) x.store)
    lets_go = record {
      told = its_test;
      marks = refl;
      seq = refl;
      floor = refl;
      stores = λ new frees. discarded sha256 x.committed (x.committed + 1) x.store.changes x.store.marks c blocks new r.stands.holds.stores check (omega arith) floor_at upto frees;
      writes = λ k. refl;
      changed = λ object. (floor_at object).changed;
      only = λ m k h there live not. r.only m k h there live (ap (λ o. is_dropped o k) check ∙ not);
      objects = r.stands.objects;
    }
