-- What the blocks store as a block comes, or as a write is given up.
use Rattle.std.proofs.Common.{◌≡◌, ◌==◌, ◌≤◌, ◌+◌, ◌⊎◌, ◌∙◌, inl, inr, ℕ, Bool, true, false, ◌∷◌, Option, Some, arith, refl, sym, ap, subst}
use Rattle.std.proofs.lemmas.Bool.{cases_eq}
use Rattle.sha2.specs.Sha256.{sha256}
use Rattle.draid_spec.specs.declared.layout.Geometry.{Geometry}
use Rattle.draid_machine.specs.declared.names.Held.{Held}
use Rattle.draid_machine.specs.declared.names.Key.{Key}
use Rattle.draid_machine.specs.declared.names.Stage.TheVariants as stage
use Rattle.draid_machine.specs.Names.{is_block, key_eq}
use Rattle.draid_machine.proofs.Small.{equal, is_equal, key_refl, key_true}
use Rattle.draid_segments.specs.Segments.{Pieces}
use Rattle.draid_objects.specs.Blocks.{Blocks, Sets}
use Rattle.draid_objects.specs.Changes as changes
use Rattle.draid_objects.specs.Changes.{Write, Wrote, write_by, write_of}
use Rattle.draid_objects.specs.Stores.{IsBlockOf}
use Rattle.draid_objects.proofs.Finding.{by_other, by_own, changes_it, other_changes, write_key}
use Rattle.draid_objects.proofs.Keeping.{floor_up, written, written_floor}
use Rattle.draid_objects.proofs.Sealing.{set_cases}
use Rattle.draid_session.specs.State.{Store}
use Rattle.draid_pool.specs.Objects.{HasPieces, HoldsObjects, IsLastAt}
use Rattle.draid_store.specs.Shards.{SamePieces}
use Rattle.draid_pool.proofs.Entering.{OnlyLast}
use Rattle.draid_objects.specs.Marks.{check_by, is_dropped}
use Rattle.draid_objects.specs.Stores.{IsBehindChecks}
use Rattle.std.proofs.lemmas.Bool.Decides.{nat_tests}
use Rattle.draid_pool.proofs.Moved.{turn, turn_here, turn_other}
use Rattle.draid_pool.proofs.Owning.{pieces_on}

differs : (object o : ℕ) → (o == object) ≡ false → (object == o) ≡ false
differs object o other = grind (arith, nat_tests, other)

module _ (geometry : Geometry) (committed : ℕ) (store : Store) (old : Blocks) (pieces : ℕ → Pieces) (holds : HoldsObjects geometry committed store old pieces) (m object : ℕ) (now : Pieces)
    (same : SamePieces (record { object = object; seq = store.seq + 1 }) (pieces m) now) where
  abbrev key : Key
  key = record { object = object; seq = store.seq + 1 }

  -- a key that is held isn't the new one
  not_key : (n : ℕ) (k : Key) (h : Held) → old n k ≡ Some h → key_eq key k ≡ false
  not_key n k h there = by (key_eq key k) refl
    where
      by : (b : Bool) → key_eq key k ≡ b → key_eq key k ≡ false
      by true is = absurd (let seqs = ap (λ (j : Key). j.seq) (key_true key k is) in let low = holds.numbered n k h there in omega (arith, seqs, low))
      by false is = is

  -- the pieces of what was held
  turned_pieces : (n : ℕ) (k : Key) (h : Held) → old n k ≡ Some h → turn m now pieces n k ≡ pieces n k
  turned_pieces n k h there = elim (cases_eq n m) [
    | inl is ↦ subst (λ j. turn m now pieces j k ≡ pieces j k) (sym is) (ap (λ f. f k) (turn_here m now pieces) ∙ same k (not_key n k h there))
    | inr other ↦ ap (λ f. f k) (turn_other m n now pieces (λ is. omega (arith, is, other)))
  ]

  was : (n : ℕ) (k : Key) (h : Held) (w : Write) → old n k ≡ Some h → write_by store.changes k ≡ Some w → HasPieces geometry w (turn m now pieces n)
  was n k h w there by =
      let its = write_key store.changes k w by in
      pieces_on geometry w (pieces n) (turn m now pieces n) (ap (λ j. turn m now pieces n j) its ∙ (turned_pieces n k h there ∙ ap (λ j. pieces n j) (sym its))) (holds.bytes n k h w there by)

  -- nothing came
  pub missed_holds : (group : ℕ) → store.floor ≤ group → HoldsObjects geometry committed (record { changes = store.changes; marks = store.marks; seq = store.seq + 1; floor = group }) old (turn m now pieces)
  missed_holds group later = record {
    stores = holds.stores;
    floors = λ o. floor_up store.changes old o store.floor group (holds.floors o) later;
    settled = holds.settled;
    numbered = λ n k h there. (let low = holds.numbered n k h there in omega (arith, low));
    positive = holds.positive;
    bytes = was;
  }

  -- a block came
  module _ (w : Write) (object_is : w.object ≡ object) (seq_is : w.seq ≡ store.seq + 1) (metaslab_is : w.metaslab ≡ m) (later : store.floor ≤ w.birth) (new : Blocks) (h : Held) (live : h.stage ≡ stage.Live)
      (of : IsBlockOf sha256 w h) (sets : Sets old new w.metaslab (changes.key_of w) (Some h)) (has : HasPieces geometry w now) where
    w_key : changes.key_of w ≡ key
    w_key = λ i. record { object = object_is i; seq = seq_is i }

    some_is : {A : Type 0} (o : Option A) (x y : A) → o ≡ Some x → o ≡ Some y → x ≡ y
    some_is o x y a b = (let e = sym a ∙ b in cc)

    pub written_holds : IsBehindChecks committed store.marks w.birth → HoldsObjects geometry committed (record { changes = Wrote w ∷ store.changes; marks = store.marks; seq = store.seq + 1; floor = w.birth }) new (turn m now pieces)
    written_holds behind = record {
      stores = written sha256 committed store.changes store.marks old new w h holds.stores (floor_up store.changes old w.object store.floor w.birth (holds.floors w.object) later)
          (λ n k i there block object. (let low = holds.numbered n k i there in omega (arith, low, seq_is))) live of behind sets;
      floors = λ o. written_floor store.changes old new w h o w.birth live sets (λ is. omega arith) (floor_up store.changes old o store.floor w.birth (holds.floors o) later);
      settled = λ n k i there. elim (set_cases old new w.metaslab (changes.key_of w) (Some h) sets n k) [
        | inl z ↦ subst (λ (x : Held). is_block x.stage ≡ true) (some_is (new n k) h i z.2 there) (ap is_block live)
        | inr z ↦ holds.settled n k i (sym z.0 ∙ there)
      ];
      numbered = λ n k i there. elim (set_cases old new w.metaslab (changes.key_of w) (Some h) sets n k) [
        | inl z ↦ (let seqs = ap (λ (j : Key). j.seq) z.1 in omega (arith, seqs, seq_is))
        | inr z ↦ (let low = holds.numbered n k i (sym z.0 ∙ there) in omega (arith, low))
      ];
      positive = holds.positive;
      bytes = λ n k i v there by. elim (set_cases old new w.metaslab (changes.key_of w) (Some h) sets n k) [
        | inl z ↦
            let own : w ≡ v = some_is (write_by (Wrote w ∷ store.changes) k) w v (by_own w store.changes k (subst (λ j. key_eq (changes.key_of w) j ≡ true) z.1 (key_refl (changes.key_of w)))) by in
            subst (λ u. HasPieces geometry u (turn m now pieces n)) own
            (subst (λ f. HasPieces geometry w f) (sym (ap (λ j. turn m now pieces j) (sym z.0 ∙ metaslab_is) ∙ turn_here m now pieces)) has)
        | inr z ↦
            let there_before = sym z.0 ∙ there in
            was n k i v there_before (sym (by_other w store.changes k (subst (λ j. key_eq j k ≡ false) (sym w_key) (not_key n k i there_before))) ∙ by)
      ];
    }

    -- the last writes
    pub written_only : OnlyLast (check_by store.marks) old store.changes → (n : ℕ) (k : Key) (i : Held) → new n k ≡ Some i → i.stage ≡ stage.Live → is_dropped (check_by store.marks) k ≡ false
        → IsLastAt n k (write_of (Wrote w ∷ store.changes) k.object) ⊎ IsLastAt n k (write_of store.changes object)
    written_only only n k i there is_live counts = elim (set_cases old new w.metaslab (changes.key_of w) (Some h) sets n k) [
      | inl z ↦ inl (subst (IsLastAt n k) (sym (changes_it (Wrote w) store.changes k.object (equal w.object k.object (ap (λ (j : Key). j.object) z.1)))) (z.0, z.1))
      | inr z ↦ other (w.object == k.object) refl (only n k i (sym z.0 ∙ there) is_live counts)
    ]
      where
        other : (b : Bool) → (w.object == k.object) ≡ b → IsLastAt n k (write_of store.changes k.object)
            → IsLastAt n k (write_of (Wrote w ∷ store.changes) k.object) ⊎ IsLastAt n k (write_of store.changes object)
        other true is last = inr (subst (IsLastAt n k) (ap (write_of store.changes) (sym (is_equal w.object k.object is) ∙ object_is)) last)
        other false is last = inl (subst (IsLastAt n k) (sym (other_changes (Wrote w) store.changes k.object is)) last)
