-- What a thread needs, as it frees an object of its own.
use Rattle.std.proofs.Common.{◌≡◌, ◌==◌, ◌≤◌, ◌+◌, ◌∙◌, ◌⊎◌, inl, inr, arith, ℕ, Bool, true, false, Option, Some, None, option_map, refl, sym, ap, subst, cond, if◌then◌else◌, ne_eqb}
use mathlib.Core.Logic.{dite}
use native.Mathlib.Decide.{ℕ_discrete}
use Rattle.std.specs.Prelude.{max, nat_eq}
use Rattle.std.proofs.lemmas.Bool.{cases_lt}
use Rattle.draid_names.specs.declared.numbers.TheConstants.{LAST_NUMBER}
use Rattle.draid_names.specs.declared.pointer.Pointer.{Pointer}
use Rattle.draid_rack.specs.declared.Rack as racks
use Rattle.draid_area.specs.declared.Area as areas
use Rattle.draid_machine.specs.declared.names.Stage.TheVariants as stage
use Rattle.draid_machine.specs.Names.{is_block, key_eq}
use Rattle.draid_machine.proofs.Small.{held_other}
use Rattle.draid_entries.specs.declared.entry.Entry.{Entry}
use Rattle.draid_entries.specs.Entries.{held_in}
use Rattle.draid_entries.specs.Maps.{held_at, key_of, staged}
use Rattle.draid_shard.specs.Fits.{Valid}
use Rattle.draid_shard.specs.Looks.{IsLive}
use Rattle.draid_shard.specs.declared.shard.Shard.{Shard}
use Rattle.draid_shard.proofs.Held.{key_leads}
use Rattle.draid_pool.specs.Drifts.{Drifts, KeepsGroups, KeepsTo, groups_number, is_other}
use Rattle.draid_pool.specs.Threads.{HasPointer, IsHeldBy, IsWholeBy, all_of}
use Rattle.draid_store.specs.Freeing.{EarlierWhole, IsApart}
use Rattle.draid_store.specs.Frees.{FreesBlock, FreesShard, IsEarly, MayFreeIn}
use Rattle.draid_pool.proofs.HeldBy.{held_drifts, held_set, whole_on}
use Rattle.draid_pool.proofs.Lists.{some_of}
use Rattle.draid_pool.proofs.HoldStep.{live_key}
use Rattle.draid_pool.proofs.ShardSteps.{live_on, other_key, pointer_on}
use Rattle.draid_pool.proofs.Wholes.{open_high, open_low, put_elsewhere, put_here}

-- the later one of the open group and a floor is that, or at most the group that is open now
pub near_open : (group open_group floor now : ℕ) → group ≡ max open_group floor → open_group ≤ now → (group ≤ floor) ⊎ (group ≤ now)
near_open group open_group floor now is high = elim (cases_lt open_group floor) [
  | inl less ↦ inl (omega (arith, is, less))
  | inr from ↦ inr (omega (arith, is, from, high))
]

module _ {R A : Type 0} (rack : racks.Ghosts R) (area : areas.Ghosts A) (shared : Bool) (owns : ℕ → Bool) (last : ℕ → Option (Shard R A)) (object : ℕ) (p : Pointer) (seq floor : ℕ) where
  pub may_free : (has : HasPointer last rack owns object p) → floor ≤ LAST_NUMBER → (x : Shard R A) → Drifts rack area shared owns has.shard x → MayFreeIn rack x p floor
  may_free has low x d = record {
    valid = d.valid;
    live = live_on rack area owns x.committed has.shard x p has.valid d.valid d.part d.own (ap owns has.object_is ∙ has.own) has.live;
    low = low;
  }

  module _ (new : ℕ → Option (Shard R A)) (table : ℕ → Option Pointer) (has : HasPointer last rack owns object p) (whole : IsWholeBy rack owns last table seq floor) (shard before after : Shard R A) (there : last p.metaslab ≡ Some shard)
      (drifts : Drifts rack area shared owns shard before) (keeps : KeepsTo rack area before after (Some p.object)) (groups : KeepsGroups before after) (is : (k : ℕ) → new k ≡ (if k == p.metaslab then Some after else last k)) where
    own_key : all_of owns p.metaslab (key_of p) ≡ true
    own_key = ap owns has.object_is ∙ has.own

    held : IsHeldBy rack (all_of owns p.metaslab) seq shard
    held = whole.shards p.metaslab shard there

    held_before : IsHeldBy rack (all_of owns p.metaslab) seq before
    held_before = held_drifts rack (all_of owns p.metaslab) seq shard before drifts.valid held owns before.committed (λ k mine. mine) drifts.own

    -- the committed group of the metaslab that was held
    committed : owns groups_number ≡ true → after.committed ≡ shard.committed
    committed own = groups.groups.committed ∙ (drifts.groups own).groups.committed

    whole_then : (table' : ℕ → Option Pointer) (group : ℕ) → IsHeldBy rack (all_of owns p.metaslab) seq after → (group ≤ floor) ⊎ (group ≤ after.open_group) → group ≤ LAST_NUMBER
        → ((q : ℕ) (r : Pointer) → table' q ≡ Some r → HasPointer last rack owns q r × (IsLive before r → IsLive after r)) → IsWholeBy rack owns new table' seq group
    whole_then table' group now near low pointers = whole_on owns rack area shared last new p.metaslab shard before after there drifts keeps.part groups is keeps.valid (all_of owns) (all_of owns) table table' seq floor seq group whole now (λ n k not seen. seen) (omega arith) near low pointers

    pub early_whole : IsEarly rack area before floor after → IsWholeBy rack owns new table seq floor
    early_whole early = whole_then table floor (subst (λ (s : Shard R A). IsHeldBy rack (all_of owns p.metaslab) seq s) (sym early.same) held_before)
        (inl (omega arith)) whole.low
        (λ q r r_is. (whole.pointers q r r_is, λ live. subst (λ (s : Shard R A). IsLive s r) (sym early.same) live))

    -- the block is freed, and its pointer isn't in the table then
    pub free_whole : (table' : ℕ → Option Pointer) (group : ℕ) → FreesBlock rack area before p floor group after
        → ((q : ℕ) (r : Pointer) → table' q ≡ Some r → HasPointer last rack owns q r × (key_eq (key_of p) (key_of r) ≡ false)) → IsWholeBy rack owns new table' seq group
    free_whole table' group fb others = whole_then table' group
        (held_set rack (all_of owns p.metaslab) (all_of owns p.metaslab) seq seq before after keeps.valid held_before (omega arith) p freed fb.sets.entry (λ k other seen. seen) (record {
          numbered = λ e e_is seen. (whole.shards p.metaslab has.shard has.there).numbered (key_of p) (held_at (staged stage.Live p)) own_key (key_leads has.shard.entries p.first (staged stage.Live p) has.live);
          settled = λ e e_is seen. ap (λ (i : Entry). is_block i.stage) (some_of freed e (staged (stage.Freed group) p) e_is refl);
        }))
        (near_open group before.open_group floor after.open_group fb.group_is (let stays = groups.groups.open_group_is in omega (arith, stays))) fb.low
        (λ q r r_is. (let h = others q r r_is in
        (h.0, live_key rack before after r drifts.valid keeps.valid keeps.part (fb.sets.entry.held (key_of r) ∙ held_other (held_in before.entries) (key_of p) (key_of r) (option_map held_at freed) h.1))))
      where
        freed : Option Entry
        freed = Some (staged (stage.Freed group) p)

    -- who alone closes groups always finds it its turn
    pub free_served : owns groups_number ≡ true → IsEarly rack area before floor after → ⊥
    free_served own early =
        let up = whole.next p.metaslab shard own there in
        let high = open_high before.open_group before.closing before.committed before.sealed drifts.valid.groups in
        let same = (drifts.groups own).groups.committed in
        let late = early.early in
        omega (arith, up, high, same, late)

    -- an earlier block, of which no pointer is in the table
    pub earlier_whole : IsApart table p → (out : Option ℕ) → FreesShard rack area before p floor out after → EarlierWhole rack owns new table seq floor out
    earlier_whole apart None f = early_whole f.did
    earlier_whole apart (Some group) f = free_whole table group f.did (λ q r r_is. (whole.pointers q r r_is, apart q r r_is))

    pub earlier_served : (out : Option ℕ) → FreesShard rack area before p floor out after → owns groups_number ≡ true → out ≡ None → ⊥
    earlier_served None f own none = free_served own f.did
    earlier_served (Some group) f own none = absurd (cc)

-- the pointers of a table from which an object's is taken
pub left_in_table : {R A : Type 0} (rack : racks.Ghosts R) (owns : ℕ → Bool) (last : ℕ → Option (Shard R A)) (object seq floor : ℕ) (p : Pointer) (table table' : ℕ → Option Pointer) → IsWholeBy rack owns last table seq floor → p.object ≡ object
    → ((q : ℕ) → table' q ≡ cond (nat_eq object q) None (table q)) → (q : ℕ) (r : Pointer) → table' q ≡ Some r → HasPointer last rack owns q r × (key_eq (key_of p) (key_of r) ≡ false)
left_in_table rack owns last object seq floor p table table' whole named objects q r r_is = dite (ℕ_discrete object q)
    (λ same. absurd (let e : None ≡ Some r = sym (put_here (table' q) (table q) object q None (objects q) same) ∙ r_is in cc))
    (λ not.
    let h = whole.pointers q r (sym (put_elsewhere (table' q) (table q) object q None (objects q) not) ∙ r_is) in
    (h, other_key p (key_of r) (ap (λ n. is_other (Some n) r.object) named ∙ (ap (is_other (Some object)) h.object_is ∙ ap (λ c. if c then false else true) (ne_eqb object q not)))))

-- ---- what the hold's answer says

module _ {R A : Type 0} (rack : racks.Ghosts R) (area : areas.Ghosts A) (old new : Shard R A) (p : Pointer) (floor : ℕ) where
  pub did_early : (out : Option ℕ) → FreesShard rack area old p floor out new → out ≡ None → IsEarly rack area old floor new
  did_early None f is = f.did
  did_early (Some group) f is = absurd (cc)

  pub did_free : (group : ℕ) (out : Option ℕ) → FreesShard rack area old p floor out new → out ≡ Some group → FreesBlock rack area old p floor group new
  did_free group None f is = absurd (cc)
  did_free group (Some t) f is = (let same : t ≡ group = cc in subst (λ n. FreesBlock rack area old p floor n new) same f.did)

-- where an earlier block is to be tried again it is live yet
pub earlier_has : {R A : Type 0} (rack : racks.Ghosts R) (area : areas.Ghosts A) (shared : Bool) (owns : ℕ → Bool) (last new : ℕ → Option (Shard R A)) (p : Pointer) (shard before after : Shard R A) → last p.metaslab ≡ Some shard → Drifts rack area shared owns shard before → Valid rack after
    → ((k : ℕ) → new k ≡ (if k == p.metaslab then Some after else last k)) → (floor : ℕ) → HasPointer last rack owns p.object p → (out : Option ℕ) → FreesShard rack area before p floor out after → out ≡ None → HasPointer new rack owns p.object p
earlier_has {R} {A} rack area shared owns last new p shard before after there drifts valid is floor has None f none =
    pointer_on rack area shared owns last new p.metaslab shard before after there drifts (subst (Valid rack) (some_of (last p.metaslab) has.shard shard has.there there) has.valid) valid is p.object p has
    (λ live. subst (λ (s : Shard R A). IsLive s p) (sym f.did.same) live)
earlier_has rack area shared owns last new p shard before after there drifts valid is floor has (Some group) f none = absurd (cc)
