-- Who knows what some objects are knows it of fewer ones.
use Rattle.std.proofs.Common.{◌≡◌, ◌==◌, ◌∙◌, ◌∷◌, ℕ, Bool, true, false, List, [], Option, Some, cond, refl, sym, ap, subst, ◌≤◌}
use Rattle.std.proofs.lemmas.Bool.{true≢false}
use Rattle.sha2.specs.Sha256.{sha256}
use Rattle.draid_names.specs.declared.pointer.Pointer.{Pointer}
use Rattle.draid_rack.specs.declared.Rack as racks
use Rattle.draid_area.specs.declared.Area as areas
use Rattle.draid_spec.specs.declared.layout.Geometry.{Geometry}
use Rattle.draid_machine.specs.declared.names.Held.{Held}
use Rattle.draid_machine.specs.declared.names.Key.{Key}
use Rattle.draid_machine.proofs.Small.{is_equal}
use Rattle.draid_segments.specs.Segments.{Pieces}
use Rattle.draid_objects.specs.Blocks.{Blocks, none_held}
use Rattle.draid_objects.specs.Changes.{Change, object_of, own}
use Rattle.draid_objects.specs.Stores.{IsFloor}
use Rattle.draid_objects.proofs.Keeping.{none_floor}
use Rattle.draid_shard.specs.declared.shard.Shard.{Shard}
use Rattle.draid_session.specs.State.{State, Store}
use Rattle.draid_pool.specs.Objects.{HoldsObjects, IsLastAt, blocks_of}
use Rattle.draid_pool.specs.Threads.{Knows, all_of, own_blocks, own_changes, own_store, is_own_mark}
use Rattle.draid_pool.proofs.Owning.{own_is, own_not, own_some, write_own}
use Rattle.draid_section.proofs.Joined.{own_kept}
use Rattle.draid_section.proofs.Objectwise.{StoresOne, by_same, floor_on, one_none, one_of, stores_by}
use Rattle.draid_section.proofs.Markwise.{SameCheck, behind_all, behind_own, fewer_marks, fewer_never_fall, own_check, own_check_at, own_undropped_at, same_back, same_dropped, same_then}
use Rattle.draid_objects.specs.Marks.{Mark, MarksNeverFall, check_at, check_by, mark_group}
use Rattle.std.specs.Prelude.{filter, max}

-- of an object that isn't seen no change is
pub none_seen : (some : ℕ → Bool) (o : ℕ) (cs : List Change) → some o ≡ false → own o (own_changes some cs) ≡ []
none_seen some o [] not = refl
none_seen some o (c ∷ cs) not = by (object_of c == o) (some (object_of c)) refl refl (none_seen some o cs not)
  where
    by : (b d : Bool) → (object_of c == o) ≡ b → some (object_of c) ≡ d → own o (own_changes some cs) ≡ [] → own o (cond d (c ∷ own_changes some cs) (own_changes some cs)) ≡ []
    by true true is seen rest = absurd (true≢false (sym seen ∙ (ap some (is_equal (object_of c) o is) ∙ not)))
    by false true is seen rest = ap (λ b. cond b (c ∷ own o (own_changes some cs)) (own o (own_changes some cs))) is ∙ rest
    by b false is seen rest = rest

module _ (owns some : ℕ → Bool) (inside : (n : ℕ) → some n ≡ true → owns n ≡ true) (geometry : Geometry) (committed : ℕ) (store : Store) (blocks : Blocks) where
  abbrev changes : List Change
  changes = own_changes some store.changes

  abbrev seen : Blocks
  seen = own_blocks (all_of some) blocks

  changed : (o : ℕ) → some o ≡ true → own o (own_changes owns store.changes) ≡ own o changes
  changed o mine = own_kept owns o store.changes (inside o mine) ∙ sym (own_kept some o store.changes mine)

  same : (o : ℕ) → some o ≡ true → (m : ℕ) (k : Key) → k.object ≡ o → seen m k ≡ own_blocks (all_of owns) blocks m k
  same o mine m k of =
      let here : some k.object ≡ true = ap some of ∙ mine in
      own_is (all_of some) blocks m k here ∙ sym (own_is (all_of owns) blocks m k (inside k.object here))

  gone : (o : ℕ) → some o ≡ false → (m : ℕ) (k : Key) → k.object ≡ o → seen m k ≡ none_held k
  gone o not m k of = own_not (all_of some) blocks m k (ap some of ∙ not)

  abbrev marks : List Mark
  marks = filter (is_own_mark some) store.marks

  abbrev marks_before : List Mark
  marks_before = filter (is_own_mark owns) store.marks

  now : (o : ℕ) → some o ≡ true → SameCheck o (check_by marks_before) (check_by marks)
  now o mine = same_then o (check_by marks_before) (check_by store.marks) (check_by marks) (own_check owns o (inside o mine) store.marks) (same_back o (check_by marks) (check_by store.marks) (own_check some o mine store.marks))

  at : (o : ℕ) → some o ≡ true → (t : ℕ) → SameCheck o (check_at t marks_before) (check_at t marks)
  at o mine t =
      same_then o (check_at t marks_before) (check_at t store.marks) (check_at t marks) (own_check_at owns o (inside o mine) t store.marks)
      (same_back o (check_at t marks) (check_at t store.marks) (own_check_at some o mine t store.marks))

  module _ (pieces : ℕ → Pieces) (holds : HoldsObjects geometry committed (own_store owns store) (own_blocks (all_of owns) blocks) pieces) where
    one_by : (o : ℕ) (b : Bool) → some o ≡ b → StoresOne sha256 committed changes marks seen o
    one_by o true is = one_of sha256 committed changes marks seen o (own_changes owns store.changes) marks_before (own_blocks (all_of owns) blocks) holds.stores (changed o is) (same o is) (now o is) (at o is)
    one_by o false is = one_none sha256 committed changes marks seen o (none_seen some o store.changes is) (gone o is) (λ t. own_undropped_at some o is t store.marks)

    floor_by : (o : ℕ) (b : Bool) → some o ≡ b → IsFloor changes seen o store.floor
    floor_by o true is = floor_on (own_changes owns store.changes) changes (own_blocks (all_of owns) blocks) seen o store.floor (changed o is) (same o is) (holds.floors o)
    floor_by o false is = floor_on [] changes (λ m. none_held) seen o store.floor (sym (none_seen some o store.changes is)) (gone o is) (none_floor o store.floor)

    fewer_fall : MarksNeverFall marks_before → MarksNeverFall marks
    fewer_fall = fewer_never_fall owns some inside store.marks

    was : (m : ℕ) (k : Key) (h : Held) → seen m k ≡ Some h → own_blocks (all_of owns) blocks m k ≡ Some h
    was m k h at = sym (same k.object (own_some (all_of some) blocks m k h at) m k refl) ∙ at

    pub holds_some : HoldsObjects geometry committed (own_store some store) seen pieces
    holds_some = record {
      stores = stores_by sha256 committed changes marks seen (fewer_fall holds.stores.marked) (λ o. one_by o (some o) refl);
      floors = λ o. floor_by o (some o) refl;
      settled = λ m k h at. holds.settled m k h (was m k h at);
      numbered = λ m k h at. holds.numbered m k h (was m k h at);
      positive = fewer_marks owns some inside (λ m. 1 ≤ mark_group m) store.marks holds.positive;
      bytes = λ m k h write at is.
          (let mine = own_some (all_of some) blocks m k h at in
          holds.bytes m k h write (was m k h at) (by_same (own_changes owns store.changes) changes k.object (changed k.object mine) k refl ∙ is));
    }

module _ {R A : Type 0} (rack : racks.Ghosts R) (area : areas.Ghosts A) (owns some : ℕ → Bool) (inside : (n : ℕ) → some n ≡ true → owns n ≡ true) where
  pub knows_some : (last : ℕ → Option (Shard R A)) (table : ℕ → Option Pointer) (seq floor : ℕ) (x : State) → Knows rack area owns last table seq floor x → Knows rack area some last table seq floor x
  knows_some last table seq floor x k = record {
    pieces = k.pieces;
    but_it = record {
      each = k.but_it.each;
      holds = record {
        holds = λ c b. holds_some owns some inside x.geometry c x.store (blocks_of x.metaslabs) k.pieces (k.but_it.holds.holds c b);
        only = λ m j h at live counts.
            (let mine = own_some (all_of some) (blocks_of x.metaslabs) m j h at in
            let there = own_is (all_of owns) (blocks_of x.metaslabs) m j (inside j.object mine) ∙ (sym (own_is (all_of some) (blocks_of x.metaslabs) m j mine) ∙ at) in
            subst (IsLastAt m j) (write_own owns x.store.changes j.object (inside j.object mine) ∙ sym (write_own some x.store.changes j.object mine)) (k.but_it.holds.only m j h there live
            (same_dropped j.object (check_by (filter (is_own_mark owns) x.store.marks)) (check_by (filter (is_own_mark some) x.store.marks)) j (now owns some inside x.geometry 0 x.store (blocks_of x.metaslabs) j.object mine) refl ∙ counts)));
        checks = λ c b m y at. behind_own some c y.world.open_group x.store.marks (behind_all owns c y.world.open_group x.store.marks (k.but_it.holds.checks c b m y at));
        marked = λ m y at. fewer_marks owns some inside (λ q. mark_group q ≤ max x.store.floor y.world.open_group) x.store.marks (k.but_it.holds.marked m y at);
      };
      objects = λ o mine. k.but_it.objects o (inside o mine);
      seq = k.but_it.seq;
      floor = k.but_it.floor;
    };
  }
