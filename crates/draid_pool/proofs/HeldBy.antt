-- What a thread needs of its metaslabs, as they are held.
use Rattle.std.proofs.Common.{◌≡◌, ◌==◌, ◌≤◌, ◌+◌, ◌∙◌, ◌⊎◌, inl, inr, arith, ℕ, Bool, true, false, Option, Some, None, refl, sym, ap, subst, option_map, if◌then◌else◌, eq-eqb, ne_eqb}
use mathlib.Core.Logic.{dite}
use native.Mathlib.Decide.{ℕ_discrete}
use Rattle.draid_names.specs.declared.numbers.TheConstants.{LAST_NUMBER}
use Rattle.draid_names.specs.declared.pointer.Pointer.{Pointer}
use Rattle.draid_rack.specs.declared.Rack as racks
use Rattle.draid_area.specs.declared.Area as areas
use Rattle.draid_machine.specs.declared.names.Key.{Key}
use Rattle.draid_machine.specs.declared.names.Held.{Held}
use Rattle.draid_machine.specs.Names.{is_block, key_eq}
use Rattle.draid_machine.proofs.Small.{bool_cases, key_true, none_some}
use Rattle.draid_entries.specs.declared.entry.Entry.{Entry}
use Rattle.draid_entries.specs.Entries.{SetsEntry, held_in}
use Rattle.draid_entries.specs.Maps.{held_at, key_of}
use Rattle.draid_shard.specs.Fits.{Valid}
use Rattle.draid_shard.specs.Looks.{IsLive}
use Rattle.draid_shard.specs.Part.{Part}
use Rattle.draid_shard.specs.States.{part_of}
use Rattle.draid_shard.specs.declared.shard.Shard.{Shard}
use Rattle.draid_pool.specs.Drifts.{Drifts, KeepsGroups, KeepsOf, groups_number}
use Rattle.draid_pool.proofs.Drifting.{groups_kept}
use Rattle.draid_pool.specs.Threads.{AllStay, HasPointer, IsHeldBy, IsNear, IsWholeBut, Stays}
use Rattle.draid_pool.proofs.Arms.{share_then}
use Rattle.draid_pool.proofs.Lists.{some_of}
use Rattle.draid_pool.proofs.Nears.{open_upto}
use Rattle.draid_pool.proofs.ShardSteps.{pointer_on}

-- ---- one metaslab

module _ {R A : Type 0} (rack : racks.Ghosts R) (mine : Key → Bool) (seq : ℕ) (old new : Shard R A) (valid : Valid rack new) (held : IsHeldBy rack mine seq old) where
  -- others held it
  pub held_drifts : (owns : ℕ → Bool) (group : ℕ) → ((k : Key) → mine k ≡ true → owns k.object ≡ true) → KeepsOf owns group old.entries new.entries → IsHeldBy rack mine seq new
  held_drifts owns group inside keeps = record {
    valid = valid;
    numbered = λ key h seen there. held.numbered key h seen (was key h seen there);
    settled = λ key h seen there. held.settled key h seen (was key h seen there);
  }
    where
      was : (key : Key) (h : Held) → mine key ≡ true → held_in new.entries key ≡ Some h → held_in old.entries key ≡ Some h
      was key h seen there = elim (keeps.each key (inside key seen)) [
        | inl e ↦ sym e ∙ there
        | inr e ↦ absurd (none_some (held_in new.entries key) h e.1 there)
      ]

-- of fewer places, with a later number
pub held_more : {R A : Type 0} (rack : racks.Ghosts R) (mine then_mine : Key → Bool) (seq then_seq : ℕ) (s : Shard R A) → ((k : Key) → then_mine k ≡ true → mine k ≡ true) → seq ≤ then_seq → IsHeldBy rack mine seq s → IsHeldBy rack then_mine then_seq s
held_more rack mine then_mine seq then_seq s inside later held = record {
  valid = held.valid;
  numbered = λ k h seen at. (let low = held.numbered k h (inside k seen) at in omega (arith, low, later));
  settled = λ k h seen at. held.settled k h (inside k seen) at;
}

-- what is set under a key that is seen, or isn't
pub record FitsAt (mine : Key → Bool) (seq : ℕ) (p : Pointer) (entry : Option Entry) : Type 0 where
  pub numbered : (e : Entry) → entry ≡ Some e → mine (key_of p) ≡ true → (key_of p).seq ≤ seq
  pub settled : (e : Entry) → entry ≡ Some e → mine (key_of p) ≡ true → is_block e.stage ≡ true

module _ {R A : Type 0} (rack : racks.Ghosts R) (mine then_mine : Key → Bool) (seq then_seq : ℕ) (old new : Shard R A) (valid : Valid rack new) (held : IsHeldBy rack mine seq old) (later : seq ≤ then_seq) where
  -- a block is set
  pub held_set : (p : Pointer) (entry : Option Entry) → SetsEntry old.entries new.entries p entry → ((k : Key) → key_eq (key_of p) k ≡ false → then_mine k ≡ true → mine k ≡ true) → FitsAt then_mine then_seq p entry
      → IsHeldBy rack then_mine then_seq new
  held_set p entry sets inside fits = record {
    valid = valid;
    numbered = λ key h seen there. elim (bool_cases (key_eq (key_of p) key)) [
      | inl one ↦
          let is = key_true (key_of p) key one in
          subst (λ (k : Key). k.seq ≤ then_seq) is (let z = entry_of entry h (here key h one there) in fits.numbered z.0 z.1 (ap then_mine is ∙ seen))
      | inr other ↦ (let low = held.numbered key h (inside key other seen) (away key h other there) in omega (arith, low, later))
    ];
    settled = λ key h seen there. elim (bool_cases (key_eq (key_of p) key)) [
      | inl one ↦
          let is = key_true (key_of p) key one in
          let z = entry_of entry h (here key h one there) in
          ap (λ (i : Held). is_block i.stage) (sym z.2) ∙ fits.settled z.0 z.1 (ap then_mine is ∙ seen)
      | inr other ↦ held.settled key h (inside key other seen) (away key h other there)
    ];
  }
    where
      here : (key : Key) (h : Held) → key_eq (key_of p) key ≡ true → held_in new.entries key ≡ Some h → option_map held_at entry ≡ Some h
      here key h one there = sym (sets.held key ∙ ap (λ b. if b then option_map held_at entry else held_in old.entries key) one) ∙ there

      away : (key : Key) (h : Held) → key_eq (key_of p) key ≡ false → held_in new.entries key ≡ Some h → held_in old.entries key ≡ Some h
      away key h other there = sym (sets.held key ∙ ap (λ b. if b then option_map held_at entry else held_in old.entries key) other) ∙ there

      entry_of : (o : Option Entry) (h : Held) → option_map held_at o ≡ Some h → (e : Entry) × (o ≡ Some e) × (held_at e ≡ h)
      entry_of None h e = absurd (cc)
      entry_of (Some e) h is = (e, refl, (let same : held_at e ≡ h = cc in same))

-- ---- all of them

groups_then : {R A : Type 0} (a b c : Shard R A) → KeepsGroups a b → KeepsGroups b c → KeepsGroups a c
groups_then a b c x y = record {
  groups = record { open_group_is = y.groups.open_group_is ∙ x.groups.open_group_is; closing = y.groups.closing ∙ x.groups.closing; sealed = y.groups.sealed ∙ x.groups.sealed; committed = y.groups.committed ∙ x.groups.committed };
  arms = share_then a.slots b.slots c.slots x.arms y.arms;
  leaves = λ leaf is. x.leaves leaf (y.leaves leaf is);
  reserve = y.reserve ∙ x.reserve;
}

module _ {R A : Type 0} (owns : ℕ → Bool) where
  pub stay_same : (last : ℕ → Option (Shard R A)) → AllStay owns last last
  stay_same last = record {
    each = λ m shard at. (shard, at, record { part = refl; groups = λ own. groups_kept shard });
    absent = λ m at. at;
  }

  pub stay_then : (last mid now : ℕ → Option (Shard R A)) → AllStay owns last mid → AllStay owns mid now → AllStay owns last now
  stay_then last mid now a b = record {
    each = λ m shard at. (let x = a.each m shard at in let y = b.each m x.0 x.1 in (y.0, y.1, record { part = y.2.part ∙ x.2.part; groups = λ own. groups_then shard x.0 y.0 (x.2.groups own) (y.2.groups own) }));
    absent = λ m at. b.absent m (a.absent m at);
  }

  -- where all metaslabs had committed one group, they have then
  pub together_on : (last now : ℕ → Option (Shard R A)) → AllStay owns last now
      → ((m n : ℕ) (shard other : Shard R A) → owns groups_number ≡ true → last m ≡ Some shard → last n ≡ Some other → other.committed ≡ shard.committed)
      → (m n : ℕ) (shard other : Shard R A) → owns groups_number ≡ true → now m ≡ Some shard → now n ≡ Some other → other.committed ≡ shard.committed
  together_on last now stay same m n shard other own at there =
      let x = before m shard at in
      let y = before n other there in
      (y.2.groups own).groups.committed ∙ (same m n x.0 y.0 own x.1 y.1 ∙ sym (x.2.groups own).groups.committed)
    where
      before : (k : ℕ) (s : Shard R A) → now k ≡ Some s → (was : Shard R A) × (last k ≡ Some was) × Stays owns was s
      before k s at_k = by (last k) refl
        where
          by : (o : Option (Shard R A)) → last k ≡ o → (was : Shard R A) × (last k ≡ Some was) × Stays owns was s
          by None is = absurd (none_some (now k) s (stay.absent k is) at_k)
          by (Some was) is = (let z = stay.each k was is in (was, is, subst (Stays owns was) (some_of (now k) z.0 s z.1 at_k) z.2))

  -- one hold
  module _ (rack : racks.Ghosts R) (area : areas.Ghosts A) (shared : Bool) (last now : ℕ → Option (Shard R A)) (m : ℕ) (shard before after : Shard R A) (there : last m ≡ Some shard) (drifts : Drifts rack area shared owns shard before)
      (part : part_of after ≡ part_of before) (groups : KeepsGroups before after) (is : (k : ℕ) → now k ≡ (if k == m then Some after else last k)) where
    here : now m ≡ Some after
    here = is m ∙ ap (λ b. if b then Some after else last m) (eq-eqb m m refl)

    away : (k : ℕ) → (k ≡ m → ⊥) → now k ≡ last k
    away k not = is k ∙ ap (λ b. if b then Some after else last k) (ne_eqb k m not)

    pub stay_held : AllStay owns last now
    stay_held = record {
      each = λ k s at. dite (ℕ_discrete k m)
          (λ same.
          let s_is : shard ≡ s = some_of (last m) shard s there (ap last (sym same) ∙ at) in
          (after, ap now same ∙ here, subst (λ c. Stays owns c after) s_is (record { part = part ∙ drifts.part; groups = λ own. groups_then shard before after (drifts.groups own) groups })))
          (λ not. (s, away k not ∙ at, record { part = refl; groups = λ own. groups_kept s }));
      absent = λ k at. dite (ℕ_discrete k m)
          (λ same. absurd (none_some (last m) shard (ap last (sym same) ∙ at) there))
          (λ not. away k not ∙ at);
    }

    -- what is so of the metaslab that was held, and was of the others, is so of each
    pub shards_on : (rest : ℕ → Shard R A → Type 0) → rest m after → ((k : ℕ) (s : Shard R A) → last k ≡ Some s → (k ≡ m → ⊥) → rest k s) → (k : ℕ) (s : Shard R A) → now k ≡ Some s → rest k s
    shards_on rest at_m others k s at = dite (ℕ_discrete k m)
        (λ same. subst (λ j. rest j s) (sym same) (subst (rest m) (some_of (now m) after s here (ap now (sym same) ∙ at)) at_m))
        (λ not. others k s (sym (away k not) ∙ at) not)

    -- a floor is near what is left that isn't above one which was, or than the group that is open in the metaslab that was held
    near_on : (floor then_floor : ℕ) → IsNear floor last → (then_floor ≤ floor) ⊎ (then_floor ≤ after.open_group) → IsNear then_floor now
    near_on floor then_floor was (inl less) = dite (ℕ_discrete was.metaslab m)
        (λ same.
        let up = was.near in
        let one = ap (λ (s : Shard R A). s.open_group) (some_of (last m) was.shard shard (ap last (sym same) ∙ was.there) there) in
        let rises = drifts.opens in
        let stays = groups.groups.open_group_is in
        record { metaslab = m; shard = after; there = here; near = omega (arith, less, up, one, rises, stays) })
        (λ not. (let up = was.near in record { metaslab = was.metaslab; shard = was.shard; there = away was.metaslab not ∙ was.there; near = omega (arith, less, up) }))
    near_on floor then_floor was (inr up) = record { metaslab = m; shard = after; there = here; near = up }

    -- where the groups are the thread's own it is near the metaslab that was held in any case
    near_held : Valid rack after → (floor then_floor : ℕ) → (owns groups_number ≡ true → floor ≤ shard.committed + 2) → (then_floor ≤ floor) ⊎ (then_floor ≤ after.open_group) → owns groups_number ≡ true → then_floor ≤ after.committed + 2
    near_held valid floor then_floor next (inl less) own =
        let up = next own in
        let drift = (drifts.groups own).groups.committed in
        let stays = groups.groups.committed in
        omega (arith, less, up, drift, stays)
    near_held valid floor then_floor next (inr up) own = (let most = open_upto after.open_group after.closing after.committed after.sealed valid.groups in omega (arith, up, most))

    -- so what is whole
    pub whole_on : Valid rack after → (mine then_mine : ℕ → Key → Bool) (table then_table : ℕ → Option Pointer) (seq floor then_seq then_floor : ℕ) → IsWholeBut rack owns mine last table seq floor → IsHeldBy rack (then_mine m) then_seq after
        → ((n : ℕ) (k : Key) → (n ≡ m → ⊥) → then_mine n k ≡ true → mine n k ≡ true) → seq ≤ then_seq → (then_floor ≤ floor) ⊎ (then_floor ≤ after.open_group) → then_floor ≤ LAST_NUMBER
        → ((o : ℕ) (q : Pointer) → then_table o ≡ Some q → HasPointer last rack owns o q × (IsLive before q → IsLive after q)) → IsWholeBut rack owns then_mine now then_table then_seq then_floor
    whole_on valid mine then_mine table then_table seq floor then_seq then_floor whole held others later near low pointers = record {
      shards = shards_on (λ k s. IsHeldBy rack (then_mine k) then_seq s) held (λ k s at not. held_more rack (mine k) (then_mine k) seq then_seq s (λ key seen. others k key not seen) later (whole.shards k s at));
      placed = shards_on (λ k s. s.number ≡ k) (ap (λ (q : Part). q.number) (part ∙ drifts.part) ∙ whole.placed m shard there) (λ k s at not. whole.placed k s at);
      together = together_on last now stay_held whole.together;
      next = λ k s own at. (let up = near_held valid floor then_floor (λ mine. whole.next m shard mine there) near own in let same = together_on last now stay_held whole.together m k after s own here at in omega (arith, up, same));
      pointers = λ o q at. (let z = pointers o q at in pointer_on rack area shared owns last now m shard before after there drifts (whole.shards m shard there).valid valid is o q z.0 z.1);
      low = low;
      reached = near_on floor then_floor whole.reached near;
    }
