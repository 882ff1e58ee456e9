-- What an import finds on a shelf, and what it leaves there where it is refused.
use Rattle.std.proofs.Common.{arith, ◌≡◌, ◌==◌, ◌%◌, ◌<◌, ◌≤◌, ◌∙◌, ◌⊎◌, inl, inr, ℕ, List, Option, Some, None, Ok, length, refl, sym, ap, subst}
use Rattle.std.specs.Prelude.{IsSome, IsSomeAnd, MatchOption, nat_eq, option_map, slice_get}
use Rattle.std.specs.HashMap.{get}
use Rattle.std.proofs.lemmas.Bool.{cases_lt}
use Rattle.draid_record.specs.declared.fault.RecordFaultKind.{RecordFaultKind}
use Rattle.draid_area.specs.Area.{Content, flushes}
use Rattle.draid_area.specs.declared.Area as areas
use Rattle.draid_rack.specs.Rack.{Shape, Told, OnBothTold}
use Rattle.draid_rack.specs.declared.Rack as racks
use Rattle.draid_spec.specs.declared.layout.Geometry.{Geometry}
use Rattle.draid_spec.specs.Geometry.{metaslab_sectors}
use Rattle.draid_record.specs.Record.{limits_of, record_of}
use Rattle.draid_segments.specs.Acts.{DropsBut, IsNamed}
use Rattle.draid_shelf.specs.Kits.{ChecksTold, Held, KitCounts, KitTold, OnHeld, checks_of, puts_checks, puts_uber}
use Rattle.draid_pool.specs.Taking.{TellsAreas, gives_areas, takes_areas}
use Rattle.draid_stable.specs.Images.{image_by}
use Rattle.draid_stable.specs.Opening.{has_leaf}
use Rattle.draid_stable.specs.Stable as stable
use Rattle.draid_shard.specs.Part.{Part}
use Rattle.draid_shard.specs.declared.shard.Shard.{Shard}
use Rattle.draid_import.specs.Reopening.{area_of_kit}
use Rattle.draid_import.proofs.Reopened.{told_read}
use Rattle.draid_uber.specs.Checks.{told_by}
use Rattle.draid_uber.specs.Slots.{chosen_of, group_of}
use Rattle.draid_uber.specs.Uber.{areas_of, count_of, kept_of, layout_of, next_leaf_of}
use Rattle.draid_uber.specs.declared.uber.Uber.{Uber}
use Rattle.draid_session.specs.Making.{vdev_name_of}
use Rattle.draid_session.specs.State.{limit_of}
use Rattle.draid_pool.specs.declared.pool.Pool.{Pool}
use Rattle.draid_pool.specs.Returning.{TakesBack, kit_in}
use Rattle.draid_import.specs.Faulty.{OneIsUnread, TellsBody}
use Rattle.draid_import.specs.Findings.{FindsPool, IsHeldAgain, IsKitBack, IsOpenedKit, IsReadPool, KeepsKitCounts, LeavesAll}
use Rattle.draid_pool.specs.Pools.{HasNames, group_in}
use Rattle.draid_import.specs.Found.{IsFoundUber, IsRecovered, LeavesShards, LeavesUber, OpensAllOver, OpensOver}
use Rattle.draid_pool.proofs.Returned.{KitIs, kit_is}
use Rattle.draid_import.proofs.ImportMetaslab.{of_told}
use Rattle.draid_pool.proofs.Lists.{ext, present}

-- ---- what was read

-- the uberblock was taken before, and nothing else was changed
pub over_entry : {R A : Type 0} (rack : racks.Ghosts R) (area : areas.Ghosts A) (limit group next : ℕ) (o mid : Option Held) (leaves yet_leaves : ℕ → Option Shape) (counts yet : ℕ → KitCounts) (shards : List (Shard R A))
    → mid ≡ takes_areas o → ((m : ℕ) → yet_leaves m ≡ leaves m) → ((m : ℕ) → yet m ≡ counts m) → OpensAllOver rack area limit group next mid yet_leaves yet shards
    → OpensAllOver rack area limit group next (takes_areas o) leaves counts shards
over_entry rack area limit group next o mid leaves yet_leaves counts yet shards taken same_leaves same over =
    subst (λ (h : Option Held). OpensAllOver rack area limit group next h leaves counts shards) taken
    (subst (λ (s : ℕ → Option Shape). OpensAllOver rack area limit group next mid s counts shards) (ext yet_leaves leaves same_leaves)
    (subst (λ (k : ℕ → KitCounts). OpensAllOver rack area limit group next mid yet_leaves k shards) (ext yet counts same) over))

pub unread_entry : {R A : Type 0} (rack : racks.Ghosts R) (area : areas.Ghosts A) (geometry : Geometry) (group next : ℕ) (o mid : Option Held) (leaves yet_leaves : ℕ → Option Shape) (counts yet : ℕ → KitCounts)
    (metaslab : Option ℕ) (place : ℕ) (kind : RecordFaultKind) → mid ≡ takes_areas o → ((m : ℕ) → yet_leaves m ≡ leaves m) → ((m : ℕ) → yet m ≡ counts m) → OneIsUnread rack area geometry group next mid yet_leaves yet metaslab place kind
    → OneIsUnread rack area geometry group next (takes_areas o) leaves counts metaslab place kind
unread_entry rack area geometry group next o mid leaves yet_leaves counts yet metaslab place kind taken same_leaves same one =
    subst (λ (h : Option Held). OneIsUnread rack area geometry group next h leaves counts metaslab place kind) taken
    (subst (λ (s : ℕ → Option Shape). OneIsUnread rack area geometry group next mid s counts metaslab place kind) (ext yet_leaves leaves same_leaves)
    (subst (λ (k : ℕ → KitCounts). OneIsUnread rack area geometry group next mid yet_leaves k metaslab place kind) (ext yet counts same) one))

-- the finding that a pool is of which so much was read
pub finds_pool : {R A : Type 0} (rack : racks.Ghosts R) (area : areas.Ghosts A) (held : Option Held) (leaves : ℕ → Option Shape) (counts : ℕ → KitCounts) (count : ℕ) (pool : Pool R A) (group : ℕ) (name : List ℕ) (objects : ℕ)
    → IsReadPool rack area held leaves counts count pool → group ≡ group_in pool → name ≡ vdev_name_of pool.geometry.spec → HasNames (get nat_eq pool.own.objects) objects
    → FindsPool rack area held leaves counts group name objects
finds_pool rack area held leaves counts count pool group name objects is group_is name_is names = record {
  uber = is.uber;
  shards = is.shards;
  newest = is.newest;
  seq = is.seq;
  read = is.read;
  group_is = group_is ∙ ap (λ u. group_of (kept_of u)) is.made.uber_is;
  name_is = name_is ∙ ap (λ (g : Geometry). vdev_name_of g.spec) is.made.layout;
  names = record {
    names = names.names;
    ascending = names.ascending;
    each = λ object.
        (let own = names.each object in
        (λ c. subst IsSome (is.made.objects object) (own.0 c), λ some. own.1 (subst IsSome (sym (is.made.objects object)) some)));
    many = names.many;
  };
}

-- ---- a refusal

pub keeps_counts : (before after : KitCounts) → after ≡ before → KeepsKitCounts before after
keeps_counts before after same = record {
  rack = (let rack = ap (λ (k : KitCounts). k.rack None) same in omega (arith, rack));
  even = (let even = ap (λ (k : KitCounts). k.even) same in omega (arith, even));
  odd = (let odd = ap (λ (k : KitCounts). k.odd) same in omega (arith, odd));
}

-- no uberblock was found
pub left_unfound : {A : Type 0} (area : areas.Ghosts A) (o n : Option Held) (before after : ℕ → KitCounts) (count now : ℕ) → ((m : ℕ) → after m ≡ before m) → LeavesUber o n count now → LeavesAll area o n before after count now
left_unfound area o n before after count now same left = record {
  tells = left.tells;
  held = inl left.held;
  counts = λ m. keeps_counts (before m) (after m) (same m);
  uber = left.later;
}

-- what a rack tells of which leaves went
both_told : (o n : Option Told) (x y : Told) (P : Told → Told → Type 0) → o ≡ Some x → n ≡ Some y → OnBothTold o n P → P x y
both_told o n x y P is now holds = subst (λ z. OnBothTold (Some x) z P) now (subst (λ z. OnBothTold z n P) is holds)

pub some_kit : (o : Option KitTold) → (o ≡ None → ⊥) → (k : KitTold) × (o ≡ Some k)
some_kit None some = absurd (some refl)
some_kit (Some k) some = (k, refl)

module _ {R A : Type 0} (rack : racks.Ghosts R) (area : areas.Ghosts A) (geometry : Geometry) (group next : ℕ) (o : Held) (leaves : ℕ → Option Shape) (before : ℕ → KitCounts) where
  -- a metaslab that was opened, and given back
  opened_kit : (m : ℕ) (shard : Shard R A) (kit : KitTold) (n : Option KitTold) → shard.geometry ≡ geometry → shard.number ≡ m → OpensOver rack area (limit_of geometry) group next m (Some o) (leaves m) (before m) shard
      → kit_in rack area shard ≡ Some kit → n ≡ Some kit → IsKitBack geometry m group next (o.kits m) n
  opened_kit m shard kit n layout number over tells is = inr (subst (λ z. MatchOption z ⊥ (λ x. MatchOption n ⊥ (λ y. IsOpenedKit geometry m group next x y))) (sym was.1)
      (subst (λ z. MatchOption z ⊥ (λ y. IsOpenedKit geometry m group next was.0 y)) (sym is) opened))
    where
      was : (k : KitTold) × (o.kits m ≡ Some k)
      was = some_kit (o.kits m) (λ none. (let failed = over.taken.some none in cc))

      k : KitIs (rack.told over.kit.rack) (area.told over.kit.even) (area.told over.kit.odd) was.0
      k = kit_is (rack.told over.kit.rack) (area.told over.kit.even) (area.told over.kit.odd) was.0 (over.taken.told ∙ was.1)

      j : KitIs (rack.told shard.rack) (area.told shard.even) (area.told shard.odd) kit
      j = kit_is (rack.told shard.rack) (area.told shard.even) (area.told shard.odd) kit tells

      read : record_of (limits_of shard.geometry shard.number group next) (stable.area_of group was.0.even was.0.odd).bytes ≡ Ok over.opens.value
      read = of_told (group % 2 == 0) area.told over.kit.even over.kit.odd was.0.even was.0.odd (λ c. record_of (limits_of shard.geometry shard.number group next) c.bytes ≡ Ok over.opens.value) k.even k.odd
          (told_read (area.told (area_of_kit over.kit group)) (limits_of shard.geometry shard.number group next) (has_leaf (rack.shape over.kit.rack) (metaslab_sectors shard.geometry)) over.opens.value over.opens.read)

      same_some : {X : Type 0} (a b : X) (r q : Option X) → r ≡ q → r ≡ Some a → q ≡ Some b → a ≡ b
      same_some a b r q same one two = cc

      opened : IsOpenedKit geometry m group next was.0 kit
      opened = record {
        value = over.opens.value;
        read = subst (λ n. record_of (limits_of geometry n group next) (stable.area_of group was.0.even was.0.odd).bytes ≡ Ok over.opens.value) number
            (subst (λ (g : Geometry). record_of (limits_of g shard.number group next) (stable.area_of group was.0.even was.0.odd).bytes ≡ Ok over.opens.value) layout read);
        rack = both_told (rack.told over.kit.rack) (rack.told shard.rack) was.0.rack kit.rack (DropsBut (IsNamed (image_by over.opens.value))) k.rack j.rack over.opens.leaves;
        even = same_some kit.even was.0.even (area.told shard.even) (area.told over.kit.even) over.opens.even j.even k.even;
        odd = same_some kit.odd was.0.odd (area.told shard.odd) (area.told over.kit.odd) over.opens.odd j.odd k.odd;
      }

-- one of them, as it was opened and counted
opened_counts : {R A : Type 0} (rack : racks.Ghosts R) (area : areas.Ghosts A) (limit group next m : ℕ) (o : Option Held) (known : Option Shape) (before after : KitCounts) (shard : Shard R A)
    → OpensOver rack area limit group next m o known before shard → after.rack None ≡ rack.faults shard.rack None → after.even ≡ area.faults shard.even → after.odd ≡ area.faults shard.odd → KeepsKitCounts before after
opened_counts rack area limit group next m o known before after shard over own even odd = record {
  rack = (let was = over.taken.rack_count None in let up = over.later.on_rack.own in omega (arith, own, was, up));
  even = (let was = over.taken.even_count in let up = over.later.even in omega (arith, even, was, up));
  odd = (let was = over.taken.odd_count in let up = over.later.odd in omega (arith, odd, was, up));
}

-- the shelf tells again once the pool's own areas are back
tells_again : (o back new : Option Held) (told content even odd : Option Content) (P : Content → Type 0) → OnHeld o (TellsAreas (record { uber = content; even = even; odd = odd })) → OnHeld o (λ x. IsSomeAnd x.uber P)
    → OnHeld o (λ x. IsSome x.checks) → told ≡ option_map flushes content
    → new ≡ gives_areas (record { uber = told; even = even; odd = odd }) back → OnHeld (takes_areas o) (λ x. IsSome back) → OnHeld o (λ x. IsSome new)
tells_again None back new told content even odd P own some checks flushed gives still = tt
tells_again (Some x) back new told content even odd P own some checks flushed gives still = by x.uber refl some back refl still even odd refl refl (subst IsSome (sym own.checks) checks)
  where
    by : (u : Option Content) → x.uber ≡ u → IsSomeAnd u P → (b : Option Held) → back ≡ b → IsSome b → (e d : Option Content) → even ≡ e → odd ≡ d → IsSome (checks_of e d) → IsSome new
    by None is some b same there e d ee dd both = absurd some
    by (Some c) is some None same there e d ee dd both = absurd (cc)
    by (Some c) is some (Some b) same there None d ee dd both = absurd (cc)
    by (Some c) is some (Some b) same there (Some e) None ee dd both = absurd (cc)
    by (Some c) is some (Some b) same there (Some e) (Some d) ee dd both =
        let area : told ≡ Some (flushes c) = flushed ∙ ap (λ z. option_map flushes z) (own.uber ∙ is) in
        subst IsSome (sym (gives ∙ (λ i. gives_areas (record { uber = area i; even = ee i; odd = dd i }) (same i)))) refl

module _ {R A : Type 0} (rack : racks.Ghosts R) (area : areas.Ghosts A) (geometry : Geometry) (group next : ℕ) (leaves : ℕ → Option Shape) (counts : ℕ → KitCounts) (shards : List (Shard R A))
    (are : (m : ℕ) (shard : Shard R A) → slice_get shards m ≡ Some shard → (shard.geometry ≡ geometry) × (shard.number ≡ m)) where
  held_back : (x b : Held) (t : Content) (k : ChecksTold) → Some t ≡ option_map flushes x.uber → Some k ≡ x.checks → TakesBack rack area shards (puts_checks None (puts_uber None x)) b
      → OpensAllOver rack area (limit_of geometry) group next (Some (puts_checks None (puts_uber None x))) leaves counts shards → IsHeldAgain geometry group next x (puts_checks (Some k) (puts_uber (Some t) b))
  held_back x b t k flushed checks back over = record { uber = flushed; checks = checks; kits = λ m. by m (cases_lt m (length shards)) }
    where
      by : (m : ℕ) → (m < length shards) ⊎ (length shards ≤ m) → IsKitBack geometry m group next (x.kits m) (b.kits m)
      by m (inl below) =
          let s = present shards m below in
          let is = are m s.0 s.1 in
          let kit = back.kits m s.0 s.1 in
          opened_kit rack area geometry group next (puts_checks None (puts_uber None x)) leaves counts m s.0 kit.0 (b.kits m) is.0 is.1 (over m s.0 s.1) kit.1 kit.2
      by m (inr past) = inl (back.others m past)

  held_again : (o back : Option Held) (told content even odd : Option Content) → OnHeld o (TellsAreas (record { uber = content; even = even; odd = odd })) → told ≡ option_map flushes content
      → OnHeld back (λ y. MatchOption (takes_areas o) ⊥ (λ x. TakesBack rack area shards x y)) → OpensAllOver rack area (limit_of geometry) group next (takes_areas o) leaves counts shards
      → OnHeld (gives_areas (record { uber = told; even = even; odd = odd }) back) (λ y. MatchOption o ⊥ (λ x. IsHeldAgain geometry group next x y))
  held_again o back told content None odd own flushed held over = tt
  held_again o back told content (Some e) None own flushed held over = tt
  held_again o back None content (Some e) (Some d) own flushed held over = tt
  held_again o None (Some t) content (Some e) (Some d) own flushed held over = tt
  held_again None (Some b) (Some t) content (Some e) (Some d) own flushed held over = absurd held
  held_again (Some x) (Some b) (Some t) content (Some e) (Some d) own flushed held over = held_back x b t (record { even = e; odd = d }) (flushed ∙ ap (λ z. option_map flushes z) own.uber) own.checks held over

-- the areas that were taken tell what was held
own_areas : {A : Type 0} (area : areas.Ghosts A) (o : Option Held) (count : ℕ) (uber : Uber A) (r : IsRecovered area o count uber)
    → OnHeld o (TellsAreas (record { uber = r.content; even = area.told (areas_of uber).even; odd = area.told (areas_of uber).odd }))
own_areas area None count uber r = tt
own_areas area (Some x) count uber r = record { uber = r.own; checks = r.checks }

-- an uberblock was found, metaslabs were opened, and all is given back
pub left_found : {R A : Type 0} (rack : racks.Ghosts R) (area : areas.Ghosts A) (o mid back new : Option Held) (yet_leaves late_leaves : ℕ → Option Shape) (counts yet late after : ℕ → KitCounts) (count now : ℕ) (uber : Uber A)
    → IsFoundUber area uber → IsRecovered area o count uber → TellsBody o uber → mid ≡ takes_areas o → ((m : ℕ) → yet m ≡ counts m)
    → LeavesShards rack area (layout_of uber) (group_of (kept_of uber)) (next_leaf_of uber) mid back yet late yet_leaves late_leaves
    → new ≡ gives_areas (told_by area.told (areas_of uber)) back → ((m : ℕ) → after m ≡ late m) → now ≡ count_of area.faults uber → LeavesAll area o new counts after count now
left_found {R} {A} rack area o mid back new yet_leaves late_leaves counts yet late after count now uber found r body taken same l gives counted own = record {
  tells = tells_again o back new (area.told (areas_of uber).uber) r.content (area.told (areas_of uber).even) (area.told (areas_of uber).odd) (λ c. chosen_of c.bytes ≡ Some (Ok body.body)) (own_areas area o count uber r) body.chosen r.some_checks r.flushed gives (subst (λ z. OnHeld z (λ x. IsSome back)) taken l.tells);
  held = inr (record {
    uber = uber;
    found = found;
    body = body;
    held = subst (λ z. OnHeld z (λ y. MatchOption o ⊥ (λ x. IsHeldAgain (layout_of uber) (group_of (kept_of uber)) (next_leaf_of uber) x y))) (sym gives)
        (held_again rack area (layout_of uber) (group_of (kept_of uber)) (next_leaf_of uber) yet_leaves yet l.shards part o back (area.told (areas_of uber).uber) r.content (area.told (areas_of uber).even) (area.told (areas_of uber).odd) (own_areas area o count uber r) r.flushed
        (subst (λ z. OnHeld back (λ y. MatchOption z ⊥ (λ x. TakesBack rack area l.shards x y))) taken l.held)
        (subst (λ (z : Option Held). OpensAllOver rack area (limit_of (layout_of uber)) (group_of (kept_of uber)) (next_leaf_of uber) z yet_leaves yet l.shards) taken l.over));
  });
  counts = λ m. subst (λ (k : KitCounts). KeepsKitCounts k (after m)) (same m) (subst (λ (k : KitCounts). KeepsKitCounts (yet m) k) (sym (counted m)) (count_at m (cases_lt m (length l.shards))));
  uber = (let up = r.later in omega (arith, up, own));
}
  where
    part : (m : ℕ) (shard : Shard R A) → slice_get l.shards m ≡ Some shard → (shard.geometry ≡ layout_of uber) × (shard.number ≡ m)
    part m shard at = (let is = (l.each m shard at).part_is in (ap (λ (p : Part). p.geometry) is, ap (λ (p : Part). p.number) is))

    count_at : (m : ℕ) → (m < length l.shards) ⊎ (length l.shards ≤ m) → KeepsKitCounts (yet m) (late m)
    count_at m (inl below) =
        let s = present l.shards m below in
        opened_counts rack area (limit_of (layout_of uber)) (group_of (kept_of uber)) (next_leaf_of uber) m mid (yet_leaves m) (yet m) (late m) s.0 (l.over m s.0 s.1) (l.rack_count m s.0 None s.1) (l.even_count m s.0 s.1)
        (l.odd_count m s.0 s.1)
    count_at m (inr past) =
        let later = l.others m past in
        record { rack = (let own = later.rack None in omega (arith, own)); even = later.even; odd = later.odd }
