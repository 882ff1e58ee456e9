-- On a shelf that tells what it holds, and knows its leaves, the check record has one fault, or none; and where it has one, nothing else is found.
use Rattle.std.proofs.Common.{arith, ◌≡◌, ◌+◌, ◌*◌, ◌<◌, ◌≤◌, ◌∙◌, ◌⊎◌, inl, inr, ℕ, List, Option, Some, None, Ok, Err, sym, ap, subst}
use Rattle.std.proofs.lemmas.Bool.{cases_eq, cases_lt}
use Rattle.draid_area.specs.declared.Area as areas
use Rattle.draid_rack.specs.Rack.{Shape}
use Rattle.draid_rack.specs.declared.Rack as racks
use Rattle.draid_record.specs.Checks.{CheckTold}
use Rattle.draid_record.specs.declared.checks.Dropped.{Dropped}
use Rattle.draid_record.specs.declared.fault.RecordFault.TheVariants.{Bad}
use Rattle.draid_record.specs.declared.fault.RecordFaultKind.{RecordFaultKind}
use Rattle.draid_machine.specs.declared.names.Key.{Key}
use Rattle.draid_shelf.specs.Kits.{Held, KitCounts, puts_checks, puts_uber}
use Rattle.draid_shard.specs.declared.shard.Shard.{Shard}
use Rattle.draid_spec.specs.declared.layout.Geometry.{Geometry}
use Rattle.draid_uber.specs.Slots.{group_of}
use Rattle.draid_uber.specs.Uber.{kept_of, layout_of, next_leaf_of}
use Rattle.draid_uber.specs.declared.uber.Uber.{Uber}
use Rattle.draid_session.specs.State.{limit_of}
use Rattle.draid_found.specs.Drops.{HaveBorn, HaveNamed, LackNamed, key_in}
use Rattle.draid_pool.specs.Taking.{takes_areas}
use Rattle.draid_import.specs.Checking.{CheckIsBad, HoldsCheck, IsBadCheck, IsChecked}
use Rattle.draid_import.specs.Faulty.{HoldsNoGroup, RecordIsBad}
use Rattle.draid_import.specs.Findings.{FindsPool, KnowsLeaves}
use Rattle.draid_import.specs.Found.{AreReopened, OpensAllOver}
use Rattle.draid_import.proofs.ImportCheck.{bad_value, ok_bad, ok_value, one_told}
use Rattle.draid_import.proofs.OneAnswer.{IsSameUber, all_here, no_fault, none_chosen, ok_err, one_chosen, one_uber, turns_bad, twin}

-- ---- metaslabs with the same blocks

module _ {R A : Type 0} (group : ℕ) (x : Held) (ss ts : List (Shard R A)) (there : (upto : ℕ) (key : Key) → HaveBorn ss upto key → HaveBorn ts upto key) where
  not_bad : (value : CheckTold) (p : ℕ) (k : RecordFaultKind) → IsChecked (HoldsCheck group (Some x)) ss value → IsBadCheck (HoldsCheck group (Some x)) ts p k → ⊥
  not_bad value p k c (inl bad) = ok_bad value (Bad p k) (one_told group x (Ok value) (Err (Bad p k)) c.read bad)
  not_bad value p k c (inr n) =
      let same : value ≡ n.value = ok_value value n.value (one_told group x (Ok value) (Ok n.value) c.read n.read) in
      n.lack.lack (there n.value.group (key_in n.lack.named) (subst (λ (v : CheckTold). HaveNamed ss v.group v.drops) same c.have n.i n.lack.named n.lack.there))

  -- what the ones lack first isn't behind what the others lack
  not_lower : (upto : ℕ) (drops : List Dropped) (i j : ℕ) → LackNamed ss upto drops i → (b : LackNamed ts upto drops j) → j < i → ⊥
  not_lower upto drops i j a b less = b.lack (there upto (key_in b.named) (a.before j b.named less b.there))

one_bad : {R A : Type 0} (group : ℕ) (x : Held) (ss ts : List (Shard R A)) → ((upto : ℕ) (key : Key) → HaveBorn ss upto key → HaveBorn ts upto key) → ((upto : ℕ) (key : Key) → HaveBorn ts upto key → HaveBorn ss upto key)
    → (p q : ℕ) (k l : RecordFaultKind) → IsBadCheck (HoldsCheck group (Some x)) ss p k → IsBadCheck (HoldsCheck group (Some x)) ts q l → (p ≡ q) × (k ≡ l)
one_bad group x ss ts there back p q k l (inl a) (inl b) = bad_value p q k l (one_told group x (Err (Bad p k)) (Err (Bad q l)) a b)
one_bad group x ss ts there back p q k l (inl a) (inr b) = absurd (ok_bad b.value (Bad p k) (one_told group x (Ok b.value) (Err (Bad p k)) b.read a))
one_bad group x ss ts there back p q k l (inr a) (inl b) = absurd (ok_bad a.value (Bad q l) (one_told group x (Ok a.value) (Err (Bad q l)) a.read b))
one_bad group x ss ts there back p q k l (inr a) (inr b) = by (cases_lt a.i b.i) (cases_eq a.i b.i)
  where
    same : a.value ≡ b.value
    same = ok_value a.value b.value (one_told group x (Ok a.value) (Ok b.value) a.read b.read)

    other : LackNamed ts a.value.group a.value.drops b.i
    other = subst (λ (v : CheckTold). LackNamed ts v.group v.drops b.i) (sym same) b.lack

    by : (a.i < b.i) ⊎ (b.i ≤ a.i) → (a.i ≡ b.i) ⊎ (a.i ≡ b.i → ⊥) → (p ≡ q) × (k ≡ l)
    by (inl less) either = absurd (not_lower group x ts ss back a.value.group a.value.drops b.i a.i other a.lack less)
    by (inr past) (inl here) = (a.place_is ∙ (ap (λ n. 30 + 16 * n) here ∙ sym b.place_is), a.kind_is ∙ sym b.kind_is)
    by (inr past) (inr elsewhere) = absurd (not_lower group x ss ts there a.value.group a.value.drops a.i b.i a.lack other (omega (arith, past, elsewhere)))

-- those that were opened from the same records have the same blocks
same_born : {R A : Type 0} (rack : racks.Ghosts R) (area : areas.Ghosts A) (geometry : Geometry) (group next : ℕ) (y : Held) (leaves : ℕ → Option Shape) (counts : ℕ → KitCounts) → KnowsLeaves y leaves → (ss ts : List (Shard R A))
    → AreReopened rack geometry group ss → OpensAllOver rack area (limit_of geometry) group next (Some y) leaves counts ss
    → AreReopened rack geometry group ts → OpensAllOver rack area (limit_of geometry) group next (Some y) leaves counts ts
    → (upto : ℕ) (key : Key) → HaveBorn ss upto key → HaveBorn ts upto key
same_born rack area geometry group next y leaves counts known ss ts are over are' over' upto key h =
    let t = twin rack area geometry group next y leaves counts known geometry.props.metaslabs ts ss (all_here rack area geometry group next y leaves counts known ts are' over') (all_here rack area geometry group next y leaves counts known ss are over) h.m h.shard h.there in
    let b = h.has.block in
    record { m = h.m; shard = t.0; there = t.1; has = record { block = record { first = b.first; e = b.e; there = sym (t.2.«at» b.first) ∙ b.there; key_is = b.key_is }; born = h.has.born } }

-- ---- the law

module _ {R A : Type 0} (rack : racks.Ghosts R) (area : areas.Ghosts A) (x : Held) (leaves : ℕ → Option Shape) (counts : ℕ → KitCounts) where
  pub none_no_check : (p : ℕ) (k : RecordFaultKind) → HoldsNoGroup (Some x) → CheckIsBad rack area (Some x) leaves counts p k → ⊥
  none_no_check p k none bad = none_chosen x.uber (Ok bad.body.body) none bad.body.chosen

  module _ (known : KnowsLeaves x leaves) where
    -- what is said of one uberblock is said of the other
    module _ (u v : Uber A) (same : IsSameUber u v) (ss : List (Shard R A)) where
      turns_reopened : AreReopened rack (layout_of v) (group_of (kept_of v)) ss → AreReopened rack (layout_of u) (group_of (kept_of u)) ss
      turns_reopened are = subst (λ (l : Geometry). AreReopened rack l (group_of (kept_of u)) ss) same.layout (subst (λ n. AreReopened rack (layout_of v) n ss) same.group are)

      turns_over : OpensAllOver rack area (limit_of (layout_of v)) (group_of (kept_of v)) (next_leaf_of v) (takes_areas (Some x)) leaves counts ss
          → OpensAllOver rack area (limit_of (layout_of u)) (group_of (kept_of u)) (next_leaf_of u) (takes_areas (Some x)) leaves counts ss
      turns_over over = subst (λ (l : Geometry). OpensAllOver rack area (limit_of l) (group_of (kept_of u)) (next_leaf_of u) (takes_areas (Some x)) leaves counts ss) same.layout
          (subst (λ n. OpensAllOver rack area (limit_of (layout_of v)) n (next_leaf_of u) (takes_areas (Some x)) leaves counts ss) same.group
          (subst (λ n. OpensAllOver rack area (limit_of (layout_of v)) (group_of (kept_of v)) n (takes_areas (Some x)) leaves counts ss) same.next over))

      turns_check : (p : ℕ) (k : RecordFaultKind) → IsBadCheck (HoldsCheck (group_of (kept_of v)) (Some x)) ss p k → IsBadCheck (HoldsCheck (group_of (kept_of u)) (Some x)) ss p k
      turns_check p k bad = subst (λ n. IsBadCheck (HoldsCheck n (Some x)) ss p k) same.group bad

    pub pool_no_check : (group : ℕ) (name : List ℕ) (objects : ℕ) (p : ℕ) (k : RecordFaultKind) → FindsPool rack area (Some x) leaves counts group name objects → CheckIsBad rack area (Some x) leaves counts p k → ⊥
    pool_no_check group name objects p k f bad =
        let r = f.read in
        let same = one_uber area x f.uber bad.uber r.found bad.found r.body bad.body in
        not_bad (group_of (kept_of f.uber)) x f.shards bad.shards
        (same_born rack area (layout_of f.uber) (group_of (kept_of f.uber)) (next_leaf_of f.uber) (puts_checks None (puts_uber None x)) leaves counts known f.shards bad.shards r.reopened r.over
        (turns_reopened f.uber bad.uber same bad.shards bad.reopened) (turns_over f.uber bad.uber same bad.shards bad.over)) r.blocks.value p k r.blocks.checked (turns_check f.uber bad.uber same bad.shards p k bad.bad)

    pub fault_no_check : (a : Option ℕ) (q : ℕ) (l : RecordFaultKind) (p : ℕ) (k : RecordFaultKind) → RecordIsBad rack area (Some x) leaves counts a q l → CheckIsBad rack area (Some x) leaves counts p k → ⊥
    fault_no_check a q l p k (inl ill) bad = ok_err bad.body.body (Bad q l) (one_chosen x.uber (Some (Ok bad.body.body)) (Some (Err (Bad q l))) bad.body.chosen ill.bad)
    fault_no_check a q l p k (inr ill) bad =
        let same = one_uber area x bad.uber ill.uber bad.found ill.found bad.body ill.body in
        no_fault rack area (layout_of bad.uber) (group_of (kept_of bad.uber)) (next_leaf_of bad.uber) (puts_checks None (puts_uber None x)) leaves counts known bad.shards a q l bad.reopened bad.over bad.together
        (turns_bad rack area x leaves counts known bad.uber ill.uber a q l same ill.bad)

    pub same_check : (p q : ℕ) (k l : RecordFaultKind) → CheckIsBad rack area (Some x) leaves counts p k → CheckIsBad rack area (Some x) leaves counts q l → (p ≡ q) × (k ≡ l)
    same_check p q k l a b = one_bad (group_of (kept_of a.uber)) x a.shards b.shards (same_born rack area (layout_of a.uber) (group_of (kept_of a.uber)) (next_leaf_of a.uber) y leaves counts known a.shards b.shards a.reopened a.over reopened over)
        (same_born rack area (layout_of a.uber) (group_of (kept_of a.uber)) (next_leaf_of a.uber) y leaves counts known b.shards a.shards reopened over a.reopened a.over) p q k l a.bad (turns_check a.uber b.uber same b.shards q l b.bad)
      where
        y : Held
        y = puts_checks None (puts_uber None x)

        same : IsSameUber a.uber b.uber
        same = one_uber area x a.uber b.uber a.found b.found a.body b.body

        reopened : AreReopened rack (layout_of a.uber) (group_of (kept_of a.uber)) b.shards
        reopened = turns_reopened a.uber b.uber same b.shards b.reopened

        over : OpensAllOver rack area (limit_of (layout_of a.uber)) (group_of (kept_of a.uber)) (next_leaf_of a.uber) (takes_areas (Some x)) leaves counts b.shards
        over = turns_over a.uber b.uber same b.shards b.over
