-- What an import finds of blocks and of the check record, as the pool's uberblock keeps it.
use Rattle.std.proofs.Common.{arith, ◌≡◌, ◌==◌, ◌+◌, ◌≤◌, ◌++◌, ◌∙◌, inl, inr, ℕ, Bool, true, false, List, [], Option, Some, None, Result, Ok, Err, length, refl, sym, ap, subst, if◌then◌else◌}
use Rattle.std.specs.Prelude.{All, Contains, IsErrOf, IsSome, OnOk, map}
use Rattle.std.proofs.lemmas.Bool.Decides.{nat_tests}
use Rattle.std.proofs.lemmas.List.{length-map}
use Rattle.std.proofs.lemmas.List.Elements.{All-append, All-contains_itself, All-map, All-weaker}
use Rattle.draid_area.specs.declared.Area as areas
use Rattle.draid_checkpoint.specs.declared.check.DroppedIn.{DroppedIn}
use Rattle.draid_names.specs.declared.pointer.Pointer.{Pointer}
use Rattle.draid_machine.specs.declared.names.Key.{Key}
use Rattle.draid_record.specs.Checks.{CheckTold, IsCheck, most_drops}
use Rattle.draid_record.specs.declared.checks.Dropped.{Dropped}
use Rattle.draid_record.specs.declared.fault.RecordFaultKind.{RecordFaultKind}
use Rattle.draid_import.specs.declared.fault.ImportFault.TheVariants as fault
use Rattle.draid_record.specs.declared.uber.UberBody.{UberBody}
use Rattle.draid_shelf.specs.Kits.{Held}
use Rattle.draid_shard.specs.declared.shard.Shard.{Shard}
use Rattle.draid_objects.specs.Marks.{Mark}
use Rattle.draid_uber.specs.Checks.{told_by}
use Rattle.draid_uber.specs.Points.{block_of, dropped_in}
use Rattle.draid_uber.specs.Slots.{group_of}
use Rattle.draid_uber.specs.Uber.{Valid, areas_of, kept_of, layout_of, next_leaf_of, point_of, version_of}
use Rattle.draid_uber.specs.declared.uber.Uber.{Uber}
use Rattle.draid_found.specs.Drops.{AreNewestBeside, HaveNamed, key_in}
use Rattle.draid_found.specs.Older.{HaveOlder}
use Rattle.draid_pool.specs.Ubers.{check_told}
use Rattle.draid_pool.specs.Whole.{PointFits}
use Rattle.draid_pool.proofs.Wholes.{fits_none}
use Rattle.draid_import.specs.Checking.{HoldsCheck, KeepsUber}
use Rattle.draid_import.specs.Imported.{IsLastIn}
use Rattle.draid_import.specs.Points.{HasRoom, KeepsPoint}
use Rattle.draid_import.proofs.ImportBeside.{at_list, none_in, nothing}
use Rattle.draid_import.proofs.PointDrops.{mapped}

-- ---- an uberblock of which just the checkpoint changes

pub kept_uber : {A : Type 0} (area : areas.Ghosts A) (old new : Uber A) → Valid area.size new → areas_of new ≡ areas_of old → kept_of new ≡ kept_of old → layout_of new ≡ layout_of old → version_of new ≡ version_of old → next_leaf_of new ≡ next_leaf_of old
    → KeepsUber area old new
kept_uber area old new valid same kept layout version leaf = record {
  valid = valid;
  told = ap (told_by area.told) same;
  uber = ap (λ a. a.uber) same;
  kept = kept;
  layout = layout;
  version = version;
  leaf = leaf;
  later = (let counts = ap (λ a. area.faults a.uber + (area.faults a.even + area.faults a.odd)) same in omega (arith, counts));
}

pub kept_both : {A : Type 0} (area : areas.Ghosts A) (old mid new : Uber A) → KeepsUber area old mid → KeepsUber area mid new → KeepsUber area old new
kept_both area old mid new k l = record {
  valid = l.valid;
  told = l.told ∙ k.told;
  uber = l.uber ∙ k.uber;
  kept = l.kept ∙ k.kept;
  layout = l.layout ∙ k.layout;
  version = l.version ∙ k.version;
  leaf = l.leaf ∙ k.leaf;
  later = (let first = k.later in let more = l.later in omega (arith, first, more));
}

-- what is said of the group of the one is said of the other's
pub new_value : {A : Type 0} (area : areas.Ghosts A) (old new : Uber A) (k : KeepsUber area old new) (o : Option Held) (value : CheckTold) (marks : List Mark)
    → (HoldsCheck (group_of (kept_of old)) o (Ok value) → value ≡ check_told marks (group_of (kept_of old))) → HoldsCheck (group_of (kept_of new)) o (Ok value) → value ≡ check_told marks (group_of (kept_of new))
new_value area old new k o value marks = subst (λ (b : Option UberBody). HoldsCheck (group_of b) o (Ok value) → value ≡ check_told marks (group_of b)) (sym k.kept)

pub ok_then : {E : Type 0} (r : Result Unit E) (P Q : Type 0) → (P → Q) → OnOk r P → OnOk r Q
ok_then (Ok u) P Q f p = f p
ok_then (Err e) P Q f p = tt

-- ---- the checkpoint

module _ {R A : Type 0} (group : ℕ) (value : CheckTold) (shards : List (Shard R A)) (newest : ℕ → Option Pointer) (was : ℕ) (uber : Uber A) (p : KeepsPoint group value shards newest was uber) (range : IsCheck group value) where
  -- it is of a group up to the one that was found
  pub early_by : (own : ℕ) → (point_of uber).group ≡ Some own → own ≤ group
  early_by own is = by (value.group == 0) (sym (p.group_is ∙ p.keeps.group_is) ∙ is)
    where
      by : (b : Bool) → (if b then None else Some value.group) ≡ Some own → own ≤ group
      by true same = absurd (cc)
      by false same = (let one : value.group ≡ own = cc in let upto = range.upto in omega (arith, one, upto))

  -- where there is none, none is dropped
  no_drops : (point_of uber).group ≡ None → (point_of uber).drops ≡ []
  no_drops none = p.drops ∙ ((λ i. empty i ++ map (dropped_in (group + 1)) (no_older i)))
    where
      is_zero : value.group ≡ 0
      is_zero = by (value.group == 0) refl (sym (p.group_is ∙ p.keeps.group_is) ∙ none)
        where
          by : (b : Bool) → (value.group == 0) ≡ b → (if b then None else Some value.group) ≡ None → value.group ≡ 0
          by true is same = grind (arith, nat_tests, is)
          by false is same = absurd (cc)

      empty : p.told.drops ≡ []
      empty = nothing p.told.drops (let few = subst (λ n. length value.drops ≤ most_drops n) is_zero range.few in let many = sym (length-map p.told.drops block_of) ∙ ap length p.keeps.blocks in omega (arith, few, many))

      no_older : p.older ≡ []
      no_older = elim p.are [
        | inl z ↦ z.1
        | inr z ↦ (let some = z.0 in absurd (omega (arith, some, is_zero)))
      ]

  module _ (seq : ℕ) (have : HaveNamed shards value.group value.drops) (beside : AreNewestBeside shards value.drops newest) (last : IsLastIn shards seq) where
    older_have : (d : Dropped) → Contains p.older d → HaveOlder shards newest value.group (key_in d)
    older_have d has = elim p.are [
      | inl z ↦ absurd (none_in p.older d z.1 has)
      | inr z ↦ z.1.are d has
    ]

    named_by : (e : DroppedIn) → Contains p.told.drops e → Contains value.drops (block_of e)
    named_by e has = subst (λ ds. Contains ds (block_of e)) p.keeps.blocks (mapped block_of p.told.drops e has)

    -- what holds of each block that is named and of each that was dropped now
    each_drop : (P : DroppedIn → Type 0) → ((e : DroppedIn) → Contains value.drops (block_of e) → P e) → ((d : Dropped) → HaveOlder shards newest value.group (key_in d) → P (dropped_in (group + 1) d)) → All P (point_of uber).drops
    each_drop P named dropped = subst (All P) (sym p.drops) (All-append P p.told.drops (map (dropped_in (group + 1)) p.older)
        (All-weaker (Contains p.told.drops) P (λ e has. named e (named_by e has)) p.told.drops (All-contains_itself p.told.drops))
        (All-map P (dropped_in (group + 1)) p.older (All-weaker (Contains p.older) (λ d. P (dropped_in (group + 1) d)) (λ d has. dropped d (older_have d has)) p.older (All-contains_itself p.older))))

    -- the pool's uberblock has room for the blocks of the table
    pub fits_by : HasRoom newest (point_of uber) → PointFits 0 (point_of uber) newest seq
    fits_by (inr z) = fits_none (point_of uber) newest seq z.0 z.1
    fits_by (inl (objects, names, room, few)) = record {
      names = names.names;
      each = λ o q at kept. (names.each o).1 (subst IsSome (sym at) refl);
      room = (let many = names.many in omega (arith, many, room));
      few = (let many = names.many in omega (arith, many, few));
      apart = each_drop (λ d. (q : Pointer) → newest d.object ≡ Some q → d.seq ≡ q.seq → ⊥)
          (λ e has q at same.
          (let own = beside.pointers e.object q at in
          own.1 (subst (Contains value.drops) (λ i. record { object = sym own.0.object_is i; seq = same i }) has)))
          (λ d o q at same.
          (let object = ap (λ (k : Key). k.object) o.has.key_is in
          let seq_is = ap (λ (k : Key). k.seq) o.has.key_is in
          o.has.other (q, ap newest object ∙ at, sym (seq_is ∙ same))));
      begun = each_drop (λ d. d.seq ≤ seq)
          (λ e has.
          (let z = at_list value.drops (block_of e) has in
          let b = have z.0 (block_of e) z.1 in
          let low = last.all b.m b.shard b.has.block.first b.has.block.e b.there b.has.block.there in
          let seq_is = ap (λ (k : Key). k.seq) b.has.block.key_is in
          omega (arith, low, seq_is)))
          (λ d o.
          (let low = last.all o.m o.shard o.has.first o.has.e o.there o.has.there in
          let seq_is = ap (λ (k : Key). k.seq) o.has.key_is in
          omega (arith, low, seq_is)));
      none = no_drops;
    }

-- the blocks of a vector
pub deref_drops : {R A : Type 0} (shards : List (Shard R A)) (view drops : List Dropped) (newest : ℕ → Option Pointer) → view ≡ drops → AreNewestBeside shards view newest → AreNewestBeside shards drops newest
deref_drops shards view drops newest same = subst (λ ds. AreNewestBeside shards ds newest) same

-- ---- want of memory

pub starved_no_record : {T : Type 0} (metaslab : Option ℕ) (place : ℕ) (kind : RecordFaultKind) → IsErrOf {T = T} (Err fault.NoMemory) (fault.Record metaslab place kind) → ⊥
starved_no_record metaslab place kind err = absurd (cc)

pub starved_no_check : {T : Type 0} (place : ℕ) (kind : RecordFaultKind) → IsErrOf {T = T} (Err fault.NoMemory) (fault.Check place kind) → ⊥
starved_no_check place kind err = absurd (cc)

pub starved_no_shelf : {T : Type 0} → IsErrOf {T = T} (Err fault.NoMemory) fault.Shelf → ⊥
starved_no_shelf err = absurd (cc)

pub starved_some : {T : Type 0} → IsErrOf {T = T} (Err fault.NoMemory) fault.NoPool → ⊥
starved_some err = absurd (cc)
