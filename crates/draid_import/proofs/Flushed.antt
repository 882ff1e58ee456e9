-- An import finds the same on a shelf whether or not the area of the uberblock was flushed before.
use Rattle.std.proofs.Common.{◌≡◌, ◌⊎◌, inl, inr, ℕ, List, Option, Some, None, Result, Ok, Err, subst}
use Rattle.std.specs.Prelude.{IsSomeAnd, option_map}
use Rattle.draid_record.specs.declared.fault.RecordFaultKind.{RecordFaultKind}
use Rattle.draid_area.specs.Area.{Content, OnTold, flushes}
use Rattle.draid_area.specs.declared.Area as areas
use Rattle.draid_rack.specs.Rack.{Shape}
use Rattle.draid_rack.specs.declared.Rack as racks
use Rattle.draid_record.specs.declared.fault.RecordFault.TheVariants.{Bad}
use Rattle.draid_record.specs.Checks.{CheckTold}
use Rattle.draid_record.specs.declared.fault.RecordFault.{RecordFault}
use Rattle.draid_shelf.specs.Kits.{ChecksTold, Held, KitCounts}
use Rattle.draid_pool.specs.Taking.{takes_areas}
use Rattle.draid_uber.specs.Slots.{chosen_of, group_of}
use Rattle.draid_uber.specs.Uber.{kept_of, layout_of, next_leaf_of}
use Rattle.draid_uber.specs.declared.uber.Uber.{Uber}
use Rattle.draid_session.specs.State.{limit_of}
use Rattle.draid_import.specs.Checking.{CheckIsBad, HoldsCheck, check_held}
use Rattle.draid_import.specs.Faulty.{AreReadApart, HoldsNoGroup, OneIsUnread, RecordIsBad, TellsBody}
use Rattle.draid_import.specs.Findings.{FindsPool}
use Rattle.draid_import.specs.Found.{OpensAllOver, SameButFlushed}
use Rattle.draid_import.proofs.ImportCheck.{bad_by, beside_by}
use Rattle.draid_pool.proofs.Lists.{ext}

-- the bytes of an area are the same, flushed or not
bytes_same : (P : List ℕ → Type 0) (o n : Option Content) → (n ≡ o) ⊎ (n ≡ option_map flushes o) → IsSomeAnd n (λ c. P c.bytes) → IsSomeAnd o (λ c. P c.bytes)
bytes_same P o n (inl same) h = subst (λ (z : Option Content). IsSomeAnd z (λ c. P c.bytes)) same h
bytes_same P o n (inr flushed) h = by o (subst (λ (z : Option Content). IsSomeAnd z (λ c. P c.bytes)) flushed h)
  where
    by : (p : Option Content) → IsSomeAnd (option_map flushes p) (λ c. P c.bytes) → IsSomeAnd p (λ c. P c.bytes)
    by None h = absurd h
    by (Some c) h = h

told_same : (P : List ℕ → Type 0) (o n : Option Content) → (n ≡ o) ⊎ (n ≡ option_map flushes o) → OnTold n (λ c. P c.bytes) → OnTold o (λ c. P c.bytes)
told_same P o n (inl same) h = subst (λ (z : Option Content). OnTold z (λ c. P c.bytes)) same h
told_same P o n (inr flushed) h = by o (subst (λ (z : Option Content). OnTold z (λ c. P c.bytes)) flushed h)
  where
    by : (p : Option Content) → OnTold (option_map flushes p) (λ c. P c.bytes) → OnTold p (λ c. P c.bytes)
    by None h = tt
    by (Some c) h = h

pub none_before : (x y : Held) → SameButFlushed x y → HoldsNoGroup (Some y) → HoldsNoGroup (Some x)
none_before x y same none = told_same (λ bytes. chosen_of bytes ≡ None) x.uber y.uber same.uber none

body_before : {A : Type 0} (x y : Held) (uber : Uber A) → SameButFlushed x y → TellsBody (Some y) uber → TellsBody (Some x) uber
body_before x y uber same t = record {
  body = t.body;
  chosen = bytes_same (λ bytes. chosen_of bytes ≡ Some (Ok t.body)) x.uber y.uber same.uber t.chosen;
  kept = t.kept;
  spec = t.spec;
  props = t.props;
  next_leaf = t.next_leaf;
}

-- but for the uberblock the same is held
taken_same : (x y : Held) → SameButFlushed x y → takes_areas (Some y) ≡ takes_areas (Some x)
taken_same x y same = λ i. Some (record { uber = None; checks = None; kits = ext y.kits x.kits same.kits i })

module _ {R A : Type 0} (rack : racks.Ghosts R) (area : areas.Ghosts A) (x y : Held) (leaves : ℕ → Option Shape) (counts : ℕ → KitCounts) (same : SameButFlushed x y) where
  pub fault_before : (metaslab : Option ℕ) (place : ℕ) (kind : RecordFaultKind) → RecordIsBad rack area (Some y) leaves counts metaslab place kind → RecordIsBad rack area (Some x) leaves counts metaslab place kind
  fault_before metaslab place kind (inl bad) =
      inl (record { metaslab_is = bad.metaslab_is; bad = bytes_same (λ bytes. chosen_of bytes ≡ Some (Err (Bad place kind))) x.uber y.uber same.uber bad.bad })
  fault_before metaslab place kind (inr bad) =
      let uber = bad.uber in
      inr (record {
        uber = uber;
        found = bad.found;
        body = body_before x y uber same bad.body;
        bad = subst (λ (h : Option Held). OneIsUnread rack area (layout_of uber) (group_of (kept_of uber)) (next_leaf_of uber) h leaves counts metaslab place kind
            ⊎ AreReadApart rack area (layout_of uber) (group_of (kept_of uber)) (next_leaf_of uber) h leaves counts metaslab place kind) (taken_same x y same) bad.bad;
      })

  check_before : (group : ℕ) (answer : Result CheckTold RecordFault) → HoldsCheck group (Some y) answer → HoldsCheck group (Some x) answer
  check_before group answer tells = subst (λ (o : Option ChecksTold). IsSomeAnd o (λ checks. check_held group checks ≡ answer)) same.checks tells

  pub bad_before : (place : ℕ) (kind : RecordFaultKind) → CheckIsBad rack area (Some y) leaves counts place kind → CheckIsBad rack area (Some x) leaves counts place kind
  bad_before place kind bad =
      let uber = bad.uber in
      record {
        uber = uber;
        shards = bad.shards;
        found = bad.found;
        body = body_before x y uber same bad.body;
        reopened = bad.reopened;
        over = subst (λ (h : Option Held). OpensAllOver rack area (limit_of (layout_of uber)) (group_of (kept_of uber)) (next_leaf_of uber) h leaves counts bad.shards) (taken_same x y same) bad.over;
        together = bad.together;
        bad = bad_by (HoldsCheck (group_of (kept_of uber)) (Some y)) (HoldsCheck (group_of (kept_of uber)) (Some x)) (check_before (group_of (kept_of uber))) bad.shards place kind bad.bad;
      }

  pub pool_before : (group : ℕ) (name : List ℕ) (objects : ℕ) → FindsPool rack area (Some y) leaves counts group name objects → FindsPool rack area (Some x) leaves counts group name objects
  pool_before group name objects f =
      let r = f.read in
      let uber = f.uber in
      record {
        uber = uber;
        shards = f.shards;
        newest = f.newest;
        seq = f.seq;
        read = record {
          found = r.found;
          body = body_before x y uber same r.body;
          reopened = r.reopened;
          over = subst (λ (h : Option Held). OpensAllOver rack area (limit_of (layout_of uber)) (group_of (kept_of uber)) (next_leaf_of uber) h leaves counts f.shards) (taken_same x y same) r.over;
          together = r.together;
          blocks = beside_by (HoldsCheck (group_of (kept_of uber)) (Some y)) (HoldsCheck (group_of (kept_of uber)) (Some x)) (check_before (group_of (kept_of uber))) f.shards (group_of (kept_of uber)) 0 f.newest f.seq uber r.blocks;
        };
        group_is = f.group_is;
        name_is = f.name_is;
        names = f.names;
      }
