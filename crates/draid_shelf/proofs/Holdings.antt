-- What a shelf in memory tells after its places were changed.
use Rattle.std.proofs.Common.{arith, refl, inl, inr, ◌≡◌, ◌<◌, ◌≤◌, ◌∙◌, ◌==◌, ap, sym, subst, ℕ, Bool, true, false, List, [], Option, Some, None, length, option_map, slice_index_or, if◌then◌else◌}
use Rattle.draid_spec.specs.Geometry.{metaslab_sectors}
use Rattle.std.specs.Prelude.{IsSomeAnd, option_and_then, replicate, slice_set}
use Rattle.std.proofs.lemmas.Bool.{cases_lt}
use Rattle.std.proofs.lemmas.Bool.Decides.{nat_tests}
use Rattle.std.proofs.lemmas.List.{places, length-replicate, get_or-set_same, get_or-set_other}
use Rattle.std.specs.declared.vec.Vec.{Vec}
use Rattle.std.specs.declared.alloc.Global.{Global}
use Rattle.draid_faults.specs.declared.crash.CrashRule.{CrashRule}
use Rattle.draid_spec.specs.declared.layout.Geometry.{Geometry}
use Rattle.draid_rack.specs.Rack.{Told, HasJust, OnTold, Reads}
use Rattle.draid_rack.specs.Memory.{calls_of, faults_of_memory, shape_of_memory, told_by_memory}
use Rattle.draid_rack.specs.Moments as rack
use Rattle.draid_rack.specs.declared.memory.MemoryRack.{MemoryRack}
use Rattle.draid_area.specs.Area.{Content, begins}
use Rattle.draid_area.specs.Memory as device
use Rattle.draid_area.specs.Moments as moments
use Rattle.draid_area.specs.declared.memory.MemoryArea.{MemoryArea}
use Rattle.draid_shelf.specs.Shelf.{HasLeavesOf}
use Rattle.draid_shelf.specs.Kits.{AreNewChecks, Both, CrashedChecks, CrashedHeld, CrashedKit, IsNewArea, IsNewKit, IsNewPool, IsNewRack, IsUncounted, checks_of, kit_of, puts_kit, uber_bytes}
use Rattle.draid_shelf.specs.Failing.{put_list}
use Rattle.draid_shelf.specs.Memory.{Areas, Begins, CrashesAll, CrashesAreas, CrashesRacks, FusesAreas, FusesRacks, IsMade, IsMadeArea, KeepsAll, KeepsArea, KeepsAreas, KeepsRack, KeepsRacks, MakesAll, PutsFuse, Racks, area_at, area_count, check_counts, content_of, counts_by, held_at, held_by, kit_counts, list_at, list_of, rack_at, shape_at}
use Rattle.draid_shelf.specs.declared.devices.Devices.{Devices}

-- a place after one was set
pub at_set : {A : Type 0} (xs : List (Option A)) (m q : ℕ) (v : Option A) → m < length xs → slice_index_or (slice_set xs m v) q None ≡ (if q == m then v else slice_index_or xs q None)
at_set xs m q v low = at (q == m) refl
  where
    at : (b : Bool) → (q == m) ≡ b → slice_index_or (slice_set xs m v) q None ≡ (if b then v else slice_index_or xs q None)
    at true is = let e : q ≡ m = grind (arith, nat_tests) in rw e (get_or-set_same xs m v None low)
    at false is = let e : q ≡ m → ⊥ = (λ same. absurd (grind (arith, nat_tests))) in get_or-set_other xs m q v None e

-- the place that was set
pub set_here : {A : Type 0} (now was v : Option A) (m : ℕ) → now ≡ (if m == m then v else was) → now ≡ v
set_here now was v m is = grind (arith, nat_tests)

-- the kits after one place was set
kit_if : (b : Bool) (r s : Option Told) (e f o p : Option Content) → kit_of (if b then r else s) (if b then e else f) (if b then o else p) ≡ (if b then kit_of r e o else kit_of s f p)
kit_if true r s e f o p = refl
kit_if false r s e f o p = refl

told_if : (b : Bool) (x y : Option MemoryRack) → option_and_then told_by_memory (if b then x else y) ≡ (if b then option_and_then told_by_memory x else option_and_then told_by_memory y)
told_if true x y = refl
told_if false x y = refl

content_if : (b : Bool) (x y : Option MemoryArea) → content_of (if b then x else y) ≡ (if b then content_of x else content_of y)
content_if true x y = refl
content_if false x y = refl

pub held_set : (m : ℕ) (r : Option MemoryRack) (e o : Option MemoryArea) (old new : Devices) → ((q : ℕ) → rack_at new.racks q ≡ (if q == m then r else rack_at old.racks q)) → ((q : ℕ) → area_at new.evens q ≡ (if q == m then e else area_at old.evens q))
    → ((q : ℕ) → area_at new.odds q ≡ (if q == m then o else area_at old.odds q)) → content_of new.uber ≡ content_of old.uber → new.check_even ≡ old.check_even → new.check_odd ≡ old.check_odd
    → Some (held_by new) ≡ Some (puts_kit m (kit_of (option_and_then told_by_memory r) (content_of e) (content_of o)) (held_by old))
held_set m r e o old new racks evens odds uber check_even check_odd = λ j. Some (record { uber = uber j; checks = checks_of (content_of (check_even j)) (content_of (check_odd j)); kits = λ q. kit_at q j })
  where
    rack_told : (q : ℕ) → held_at new.racks q ≡ (if q == m then option_and_then told_by_memory r else held_at old.racks q)
    rack_told q = ap (λ x. option_and_then told_by_memory x) (racks q) ∙ told_if (q == m) r (rack_at old.racks q)

    even_told : (q : ℕ) → content_of (area_at new.evens q) ≡ (if q == m then content_of e else content_of (area_at old.evens q))
    even_told q = ap (λ x. content_of x) (evens q) ∙ content_if (q == m) e (area_at old.evens q)

    odd_told : (q : ℕ) → content_of (area_at new.odds q) ≡ (if q == m then content_of o else content_of (area_at old.odds q))
    odd_told q = ap (λ x. content_of x) (odds q) ∙ content_if (q == m) o (area_at old.odds q)

    kit_at : (q : ℕ) → kit_of (held_at new.racks q) (content_of (area_at new.evens q)) (content_of (area_at new.odds q)) ≡ (if q == m then kit_of (option_and_then told_by_memory r) (content_of e) (content_of o) else kit_of (held_at old.racks q) (content_of (area_at old.evens q)) (content_of (area_at old.odds q)))
    kit_at q = rw (rack_told q, even_told q, odd_told q) (kit_if (q == m) _ _ _ _ _ _)

-- a rack and an area as they were made, with a fuse
pub made_as : (geometry : Geometry) (list : List ℕ) (made now : MemoryRack) → IsMade geometry list false made → PutsFuse true (calls_of made) (calls_of now) → told_by_memory now ≡ told_by_memory made → shape_of_memory now ≡ shape_of_memory made → ((who : Option ℕ) → faults_of_memory now who ≡ faults_of_memory made who) → IsMade geometry list true now
made_as geometry list made now is calls told shape counts = record {
  calls = record { next = calls.next ∙ is.calls.next; list = calls.list ∙ is.calls.list; fuse = calls.fuse };
  leaves = subst (λ s. HasLeavesOf geometry s) (sym shape) is.leaves;
  told = subst (λ t. OnTold t (IsNewRack geometry)) (sym told) is.told;
  counts = λ who. counts who ∙ is.counts who;
}

pub made_rack : (geometry : Geometry) (list : List ℕ) (rack : MemoryRack) (sectors : ℕ) → Begins list false (calls_of rack) → sectors ≡ metaslab_sectors geometry → HasJust (shape_of_memory rack) geometry.spec.children sectors geometry.props.sector
    → ((l s : ℕ) → l < geometry.spec.children → s < sectors → Reads (told_by_memory rack) l s (replicate geometry.props.sector 0))
    → OnTold (told_by_memory rack) (λ x. (l s : ℕ) → x.soft l s ≡ false) → OnTold (told_by_memory rack) (λ x. (l s : ℕ) → x.harmed l s ≡ false) → ((who : Option ℕ) → faults_of_memory rack who ≡ 0) → IsMade geometry list false rack
made_rack geometry list rack sectors calls is leaves zeros firm unharmed counts = record {
  calls = calls;
  leaves = subst (λ n. HasJust (shape_of_memory rack) geometry.spec.children n geometry.props.sector) is leaves;
  told = record { zeros = subst (λ n. (l s : ℕ) → l < geometry.spec.children → s < n → Reads (told_by_memory rack) l s (replicate geometry.props.sector 0)) is zeros; soft = firm; harmed = unharmed };
  counts = counts;
}

pub made_area : (bytes list : List ℕ) (area : MemoryArea) → Begins list false (device.calls_of area) → device.told_by_memory area ≡ Some (begins bytes) → device.size_of_memory area ≡ length bytes → device.faults_of_memory area ≡ 0 → IsMadeArea bytes list false area
made_area bytes list area calls begun size none = record {
  calls = calls;
  size = size;
  told = subst (λ t. IsSomeAnd t (IsNewArea bytes)) (sym begun) (record { bytes_are = refl; firm = refl; soft = λ i. refl });
  count = none;
}

pub made_area_as : (bytes list : List ℕ) (made now : MemoryArea) → IsMadeArea bytes list false made → PutsFuse true (device.calls_of made) (device.calls_of now) → device.told_by_memory now ≡ device.told_by_memory made → device.size_of_memory now ≡ device.size_of_memory made
    → device.faults_of_memory now ≡ device.faults_of_memory made → IsMadeArea bytes list true now
made_area_as bytes list made now is calls told size count = record {
  calls = record { next = calls.next ∙ is.calls.next; list = calls.list ∙ is.calls.list; fuse = calls.fuse };
  size = size ∙ is.size;
  told = subst (λ t. IsSomeAnd t (IsNewArea bytes)) (sym told) is.told;
  count = count ∙ is.count;
}

-- ---- a crash
crashed_kit : (r s : Option Told) (e f o p : Option Content) → Both rack.IsCrashOutcome r s → Both moments.IsCrashOutcome e f → Both moments.IsCrashOutcome o p → Both CrashedKit (kit_of r e o) (kit_of s f p)
crashed_kit None s e f o p a b d = rw a refl
crashed_kit (Some r) None e f o p a b d = absurd a
crashed_kit (Some r) (Some s) None f o p a b d = rw b refl
crashed_kit (Some r) (Some s) (Some e) None o p a b d = absurd b
crashed_kit (Some r) (Some s) (Some e) (Some f) None p a b d = rw d refl
crashed_kit (Some r) (Some s) (Some e) (Some f) (Some o) None a b d = absurd d
crashed_kit (Some r) (Some s) (Some e) (Some f) (Some o) (Some p) a b d = record { rack = a; even = b; odd = d }

-- behind the last place nothing is held
none_past : {A : Type 0} (xs : List (Option A)) (m : ℕ) → length xs ≤ m → slice_index_or xs m None ≡ None
none_past xs m high = grind (arith, places)

crashed_rack_at : (rule : CrashRule) (old new : Racks) (m : ℕ) → length old ≡ 64 → CrashesRacks rule 64 old new → Both rack.IsCrashOutcome (held_at old m) (held_at new m)
crashed_rack_at rule old new m long h = elim (cases_lt m 64) [
  | inl low ↦ (h.crashed m low).told
  | inr high ↦ (let e = none_past old m (omega (arith, long, high)) in rw (h.same m high, e) refl)
]

crashed_area_at : (rule : CrashRule) (old new : Areas) (m : ℕ) → length old ≡ 64 → CrashesAreas rule 64 old new → Both moments.IsCrashOutcome (content_of (area_at old m)) (content_of (area_at new m))
crashed_area_at rule old new m long h = elim (cases_lt m 64) [
  | inl low ↦ (h.crashed m low).told
  | inr high ↦ (let e = none_past old m (omega (arith, long, high)) in rw (h.same m high, e) refl)
]

crashed_checks : (e f o p : Option Content) → Both moments.IsCrashOutcome e f → Both moments.IsCrashOutcome o p → Both CrashedChecks (checks_of e o) (checks_of f p)
crashed_checks None f o p a b = rw a refl
crashed_checks (Some e) None o p a b = absurd a
crashed_checks (Some e) (Some f) None p a b = rw b refl
crashed_checks (Some e) (Some f) (Some o) None a b = absurd b
crashed_checks (Some e) (Some f) (Some o) (Some p) a b = record { even = a; odd = b }

pub crashed_held : (rule : CrashRule) (old new : Devices) → length old.racks ≡ 64 → length old.evens ≡ 64 → length old.odds ≡ 64 → CrashesAll rule old new → CrashedHeld (held_by old) (held_by new)
crashed_held rule old new long_r long_e long_o all = record {
  uber = all.uber.told;
  checks = crashed_checks (content_of old.check_even) (content_of new.check_even) (content_of old.check_odd) (content_of new.check_odd) all.check_even.told all.check_odd.told;
  kits = λ m. crashed_kit (held_at old.racks m) (held_at new.racks m) (content_of (area_at old.evens m)) (content_of (area_at new.evens m)) (content_of (area_at old.odds m)) (content_of (area_at new.odds m))
      (crashed_rack_at rule old.racks new.racks m long_r all.racks) (crashed_area_at rule old.evens new.evens m long_e all.evens) (crashed_area_at rule old.odds new.odds m long_o all.odds);
}

-- what a crash keeps
crashed_shape_at : (rule : CrashRule) (old new : Racks) (m : ℕ) → CrashesRacks rule 64 old new → shape_at new m ≡ shape_at old m
crashed_shape_at rule old new m h = elim (cases_lt m 64) [
  | inl low ↦ (h.crashed m low).shape
  | inr high ↦ ap (λ o. option_map shape_of_memory o) (h.same m high)
]

crashed_counts_at : (rule : CrashRule) (old new : Racks) (m : ℕ) → CrashesRacks rule 64 old new → (who : Option ℕ) → counts_by (rack_at new m) who ≡ counts_by (rack_at old m) who
crashed_counts_at rule old new m h who = elim (cases_lt m 64) [
  | inl low ↦ (h.crashed m low).counts who
  | inr high ↦ ap (λ o. counts_by o who) (h.same m high)
]

crashed_count_at : (rule : CrashRule) (old new : Areas) (m : ℕ) → CrashesAreas rule 64 old new → area_count (area_at new m) ≡ area_count (area_at old m)
crashed_count_at rule old new m h = elim (cases_lt m 64) [
  | inl low ↦ (h.crashed m low).count
  | inr high ↦ ap (λ o. area_count o) (h.same m high)
]

pub crashed_shapes : (rule : CrashRule) (old new : Devices) → CrashesAll rule old new → (m : ℕ) → shape_at new.racks m ≡ shape_at old.racks m
crashed_shapes rule old new all m = crashed_shape_at rule old.racks new.racks m all.racks

pub crashed_counts : (rule : CrashRule) (old new : Devices) → CrashesAll rule old new → (m : ℕ) → kit_counts new m ≡ kit_counts old m
crashed_counts rule old new all m = λ j. record {
  rack = λ who. crashed_counts_at rule old.racks new.racks m all.racks who j;
  even = crashed_count_at rule old.evens new.evens m all.evens j;
  odd = crashed_count_at rule old.odds new.odds m all.odds j;
}

pub crashed_check_counts : (rule : CrashRule) (old new : Devices) → CrashesAll rule old new → check_counts new ≡ check_counts old
crashed_check_counts rule old new all = λ j. record { even = all.check_even.count j; odd = all.check_odd.count j }

-- ---- a fuse
pub kept_self_rack : (x : Option MemoryRack) → KeepsRack x x
kept_self_rack x = record { told = refl; shape = refl; counts = λ who. refl }

pub kept_self_area : (x : Option MemoryArea) → KeepsArea x x
kept_self_area x = record { told = refl; size = refl; count = refl }

pub kept_racks : (upto : ℕ) (old new : Racks) → FusesRacks upto old new → KeepsRacks old new
kept_racks upto old new h m = elim (cases_lt m upto) [
  | inl low ↦ (h.fused m low).kept
  | inr high ↦ subst (λ y. KeepsRack (rack_at old m) y) (sym (h.same m high)) (kept_self_rack (rack_at old m))
]

pub kept_areas : (upto : ℕ) (old new : Areas) → FusesAreas upto old new → KeepsAreas old new
kept_areas upto old new h m = elim (cases_lt m upto) [
  | inl low ↦ (h.fused m low).kept
  | inr high ↦ subst (λ y. KeepsArea (area_at old m) y) (sym (h.same m high)) (kept_self_area (area_at old m))
]

pub kept_held : (old new : Devices) → KeepsAll old new → held_by new ≡ held_by old
kept_held old new all = λ j. record {
  uber = all.uber.told j;
  checks = checks_of (all.check_even.told j) (all.check_odd.told j);
  kits = λ m. kit_of ((all.racks m).told j) ((all.evens m).told j) ((all.odds m).told j);
}

pub kept_counts : (old new : Devices) → KeepsAll old new → (m : ℕ) → kit_counts new m ≡ kit_counts old m
kept_counts old new all m = λ j. record { rack = λ who. (all.racks m).counts who j; even = (all.evens m).count j; odd = (all.odds m).count j }

pub kept_check_counts : (old new : Devices) → KeepsAll old new → check_counts new ≡ check_counts old
kept_check_counts old new all = λ j. record { even = all.check_even.count j; odd = all.check_odd.count j }

-- ---- lists
list_if : (b : Bool) (x y : Option (Vec ℕ Global)) → list_of (if b then x else y) ≡ (if b then list_of x else list_of y)
list_if true x y = refl
list_if false x y = refl

pub list_set : (old new : List (Option (Vec ℕ Global))) (m : ℕ) (v : Vec ℕ Global) → ((q : ℕ) → slice_index_or new q None ≡ (if q == m then Some v else slice_index_or old q None)) → (q : ℕ) → list_at new q ≡ put_list m v.items (list_at old) q
list_set old new m v set q = ap (λ x. list_of x) (set q) ∙ list_if (q == m) (Some v) (slice_index_or old q None)

-- ---- a new pool
module _ (geometry : Geometry) (list : List ℕ) (fused : Bool) where
  made_leaves : (r : Option MemoryRack) → IsSomeAnd r (IsMade geometry list fused) → IsSomeAnd (option_map shape_of_memory r) (HasLeavesOf geometry)
  made_leaves None is = absurd is
  made_leaves (Some r) is = is.leaves

  rack_uncounted : (r : Option MemoryRack) (who : Option ℕ) → IsSomeAnd r (IsMade geometry list fused) → counts_by r who ≡ 0
  rack_uncounted None who is = absurd is
  rack_uncounted (Some r) who is = is.counts who

  rack_told : (r : Option MemoryRack) → IsSomeAnd r (IsMade geometry list fused) → IsSomeAnd (option_and_then told_by_memory r) (IsNewRack geometry)
  rack_told None is = absurd is
  rack_told (Some r) is = is.told

module _ (bytes list : List ℕ) (fused : Bool) where
  area_uncounted : (x : Option MemoryArea) → IsSomeAnd x (IsMadeArea bytes list fused) → area_count x ≡ 0
  area_uncounted None is = absurd is
  area_uncounted (Some x) is = is.count

  area_told : (x : Option MemoryArea) → IsSomeAnd x (IsMadeArea bytes list fused) → IsSomeAnd (content_of x) (IsNewArea bytes)
  area_told None is = absurd is
  area_told (Some x) is = is.told

  area_sized : (x : Option MemoryArea) → IsSomeAnd x (IsMadeArea bytes list fused) → option_map device.size_of_memory x ≡ Some (length bytes)
  area_sized None is = absurd is
  area_sized (Some x) is = ap Some is.size

new_kit : (geometry : Geometry) (r : Option Told) (e o : Option Content) → IsSomeAnd r (IsNewRack geometry) → IsSomeAnd e (IsNewArea []) → IsSomeAnd o (IsNewArea []) → IsSomeAnd (kit_of r e o) (IsNewKit geometry)
new_kit geometry None e o a b d = absurd a
new_kit geometry (Some r) None o a b d = absurd b
new_kit geometry (Some r) (Some e) None a b d = absurd d
new_kit geometry (Some r) (Some e) (Some o) a b d = record { rack = a; even = b; odd = d }

new_checks : (e o : Option Content) → IsSomeAnd e (IsNewArea []) → IsSomeAnd o (IsNewArea []) → IsSomeAnd (checks_of e o) AreNewChecks
new_checks None o a b = absurd a
new_checks (Some e) None a b = absurd b
new_checks (Some e) (Some o) a b = record { even = a; odd = b }

no_rack : (r : Option MemoryRack) (e o : Option Content) → r ≡ None → kit_of (option_and_then told_by_memory r) e o ≡ None
no_rack r e o is = rw is refl

module _ (geometry : Geometry) (racks evens odds : ℕ → List ℕ) (check_even check_odd uber : List ℕ) (fused : Bool) (devices : Devices) (made : MakesAll geometry racks evens odds check_even check_odd uber fused devices) where
  pub new_pool : IsNewPool geometry (held_by devices)
  new_pool = record {
    uber = area_told (replicate uber_bytes 0) uber fused devices.uber made.uber_is;
    checks = new_checks (content_of devices.check_even) (content_of devices.check_odd) (area_told [] check_even fused devices.check_even made.check_even_is) (area_told [] check_odd fused devices.check_odd made.check_odd_is);
    kits = λ m low. new_kit geometry (held_at devices.racks m) (content_of (area_at devices.evens m)) (content_of (area_at devices.odds m))
        (rack_told geometry (racks m) fused (rack_at devices.racks m) (made.racks_are.there m low)) (area_told [] (evens m) fused (area_at devices.evens m) (made.evens_are.there m low))
        (area_told [] (odds m) fused (area_at devices.odds m) (made.odds_are.there m low));
    no_other = λ m high. no_rack (rack_at devices.racks m) (content_of (area_at devices.evens m)) (content_of (area_at devices.odds m)) (made.racks_are.no_other m high);
  }

  pub new_leaves : (m : ℕ) → m < geometry.props.metaslabs → IsSomeAnd (shape_at devices.racks m) (HasLeavesOf geometry)
  new_leaves m low = made_leaves geometry (racks m) fused (rack_at devices.racks m) (made.racks_are.there m low)

  pub new_counts : (m : ℕ) → m < geometry.props.metaslabs → IsUncounted (kit_counts devices m)
  new_counts m low = record {
    no_rack = λ who. rack_uncounted geometry (racks m) fused (rack_at devices.racks m) who (made.racks_are.there m low);
    no_even = area_uncounted [] (evens m) fused (area_at devices.evens m) (made.evens_are.there m low);
    no_odd = area_uncounted [] (odds m) fused (area_at devices.odds m) (made.odds_are.there m low);
  }

  pub new_check_counts : check_counts devices ≡ record { even = 0; odd = 0 }
  new_check_counts = λ j. record { even = area_uncounted [] check_even fused devices.check_even made.check_even_is j; odd = area_uncounted [] check_odd fused devices.check_odd made.check_odd_is j }

  pub new_uber_count : area_count devices.uber ≡ 0
  new_uber_count = area_uncounted (replicate uber_bytes 0) uber fused devices.uber made.uber_is

  pub new_uber_size : option_map device.size_of_memory devices.uber ≡ Some uber_bytes
  new_uber_size = area_sized (replicate uber_bytes 0) uber fused devices.uber made.uber_is ∙ ap Some (length-replicate {A = ℕ} uber_bytes 0)
