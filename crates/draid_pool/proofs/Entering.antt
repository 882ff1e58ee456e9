-- The blocks of a pool of which one is another now, as the pool holds its objects.
use Rattle.std.proofs.Common.{◌≡◌, ◌≢◌, ◌==◌, ◌≤◌, ◌∙◌, inl, inr, ℕ, Bool, true, false, List, ◌∷◌, Option, Some, arith, refl, sym, ap, subst}
use Rattle.sha2.specs.Sha256.{sha256}
use Rattle.draid_spec.specs.declared.layout.Geometry.{Geometry}
use Rattle.draid_machine.specs.declared.names.Held.{Held}
use Rattle.draid_machine.specs.declared.names.Key.{Key}
use Rattle.draid_machine.specs.declared.names.Stage.TheVariants as stage
use Rattle.draid_machine.specs.Names.{is_block}
use Rattle.draid_objects.specs.Blocks.{Blocks, Sets}
use Rattle.draid_objects.specs.Changes.{Change, Freed, Write, key_of, write_of}
use Rattle.draid_objects.specs.Stores.{AreMarkedUpto, IsBehindChecks, IsFloor, IsOnlyLive, IsSpare}
use Rattle.draid_objects.proofs.Finding.{other_changes}
use Rattle.draid_objects.proofs.Keeping.{floor_up, freed_floor, freed_object_floor, object_freed, older_freed}
use Rattle.draid_objects.proofs.Sealing.{set_cases}
use Rattle.draid_segments.specs.Segments.{Pieces}
use Rattle.draid_session.specs.State.{Store}
use Rattle.draid_pool.specs.Objects.{HoldsObjects, IsLastAt}
use Rattle.draid_objects.specs.Marks.{Check, check_by, is_dropped}

some_is : {A : Type 0} (o : Option A) (x y : A) → o ≡ Some x → o ≡ Some y → x ≡ y
some_is o x y a b = (let h = sym a ∙ b in cc)

-- each live block that the checkpoint doesn't keep alone is that of its object's last write
abbrev pub OnlyLast : Option Check → Blocks → List Change → Type 0
OnlyLast check blocks changes = (m : ℕ) (k : Key) (h : Held) → blocks m k ≡ Some h → h.stage ≡ stage.Live → is_dropped check k ≡ false → IsLastAt m k (write_of changes k.object)

last_at : (m : ℕ) (k : Key) (o : Option Write) (w : Write) → o ≡ Some w → IsLastAt m k o → (w.metaslab ≡ m) × (key_of w ≡ k)
last_at m k o w same is = subst (IsLastAt m k) same is

-- one object has one of these
pub only_live : (check : Option Check) (blocks : Blocks) (changes : List Change) (w : Write) (key : Key) → OnlyLast check blocks changes → write_of changes key.object ≡ Some w → key_of w ≡ key → IsOnlyLive check blocks w.metaslab key
only_live check blocks changes w key only last is m k h at live kept object =
    let z = last_at m k (write_of changes k.object) w (ap (write_of changes) object ∙ last) (only m k h at live kept) in
    (sym z.0, sym z.1 ∙ is)

module _ (geometry : Geometry) (committed : ℕ) (store : Store) (old new : Blocks) (pieces : ℕ → Pieces) (holds : HoldsObjects geometry committed store old pieces)
    (m : ℕ) (key : Key) (h : Held) (found : old m key ≡ Some h) (live : h.stage ≡ stage.Live) (group : ℕ) (later : store.floor ≤ group)
    (sets : Sets old new m key (Some (record h { stage = stage.Freed group }))) where
  at : (n : ℕ) (j : Key) (i : Held) → new n j ≡ Some i → (g : Held) × (old n j ≡ Some g) × (is_block i.stage ≡ true)
  at n j i there = elim (set_cases old new m key (Some (record h { stage = stage.Freed group })) sets n j) [
    | inl z ↦
        let is : record h { stage = stage.Freed group } ≡ i = some_is (new n j) (record h { stage = stage.Freed group }) i z.2 there in
        (h, subst (λ (q : ℕ). old q j ≡ Some h) z.0 (subst (λ (q : Key). old m q ≡ Some h) z.1 found), subst (λ (x : Held). is_block x.stage ≡ true) is refl)
    | inr z ↦ (i, sym z.0 ∙ there, holds.settled n j i (sym z.0 ∙ there))
  ]

  floor_then : (o : ℕ) → IsFloor store.changes old o group
  floor_then o = floor_up store.changes old o store.floor group (holds.floors o) later

  -- the block of a live object, which is freed with it
  pub freed_holds : IsOnlyLive (check_by store.marks) old m key → IsSpare group store.marks h.birth → IsBehindChecks committed store.marks group → AreMarkedUpto group store.marks
      → HoldsObjects geometry committed (record { changes = Freed key.object group ∷ store.changes; marks = store.marks; seq = store.seq; floor = group }) new pieces
  freed_holds one spare behind upto = record {
    stores = object_freed sha256 committed m group store.changes store.marks old new key h holds.stores found live one (floor_then key.object) spare behind upto sets;
    floors = λ o. freed_object_floor m group store.changes old new key h o group sets (λ is. omega arith) (floor_then o);
    settled = λ n j i there. (at n j i there).2;
    numbered = λ n j i there. (let z = at n j i there in holds.numbered n j z.0 z.1);
    positive = holds.positive;
    bytes = λ n j i w there by. (let z = at n j i there in holds.bytes n j z.0 w z.1 by);
  }

  -- an older block
  pub older_holds : (w : Write) → write_of store.changes key.object ≡ Some w → key_of w ≢ key → IsSpare group store.marks h.birth → HoldsObjects geometry committed (record store { floor = group }) new pieces
  older_holds w last other spare = record {
    stores = older_freed sha256 committed m group store.changes store.marks old new key h w holds.stores last other found live (floor_then key.object) spare sets;
    floors = λ o. freed_floor m group store.changes old new key h o group sets (λ is. omega arith) (floor_then o);
    settled = λ n j i there. (at n j i there).2;
    numbered = λ n j i there. (let z = at n j i there in holds.numbered n j z.0 z.1);
    positive = holds.positive;
    bytes = λ n j i w there by. (let z = at n j i there in holds.bytes n j z.0 w z.1 by);
  }

  -- what is live then was, and isn't the one that was freed
  pub still : (n : ℕ) (j : Key) (i : Held) → new n j ≡ Some i → i.stage ≡ stage.Live → (old n j ≡ Some i) × ((m ≡ n) → (key ≡ j) → ⊥)
  still n j i there is_live = elim (set_cases old new m key (Some (record h { stage = stage.Freed group })) sets n j) [
    | inl z ↦
        let is : record h { stage = stage.Freed group } ≡ i = some_is (new n j) (record h { stage = stage.Freed group }) i z.2 there in
        absurd (not_live (ap (λ (x : Held). x.stage) is ∙ is_live))
    | inr z ↦ (sym z.0 ∙ there, z.1)
  ]
    where
      not_live : stage.Freed group ≡ stage.Live → ⊥
      not_live is = cc

  -- the last writes of the others
  pub freed_only : OnlyLast (check_by store.marks) old store.changes → (w : Write) → write_of store.changes key.object ≡ Some w → key_of w ≡ key → w.metaslab ≡ m → OnlyLast (check_by store.marks) new (Freed key.object group ∷ store.changes)
  freed_only only w last is here n j i there is_live counts =
      let z = still n j i there is_live in
      by (key.object == j.object) refl z.0 z.1
    where
      by : (b : Bool) → (key.object == j.object) ≡ b → old n j ≡ Some i → ((m ≡ n) → (key ≡ j) → ⊥) → IsLastAt n j (write_of (Freed key.object group ∷ store.changes) j.object)
      by true same was other =
          let object : key.object ≡ j.object = grind (arith, same) in
          let y = last_at n j (write_of store.changes j.object) w (ap (write_of store.changes) (sym object) ∙ last) (only n j i was is_live counts) in
          absurd (other (sym here ∙ y.0) (sym is ∙ y.1))
      by false same was other = subst (IsLastAt n j) (sym (other_changes (Freed key.object group) store.changes j.object same)) (only n j i was is_live counts)
