-- The metaslabs that an import opens, and the blocks that it finds there.
use Rattle.std.proofs.Common.{arith, ◌≡◌, ◌==◌, ◌%◌, ◌+◌, ◌<◌, ◌≤◌, ◌++◌, ◌∙◌, ◌⊎◌, inl, inr, ℕ, Bool, true, false, List, [], ◌∷◌, Option, Some, None, Ok, Err, refl, sym, ap, subst, slice_set, length, length-append, if◌then◌else◌}
use Rattle.std.specs.Prelude.{⊤, ◌↔◌, IsErrOf, IsSome, IsSomeAnd, IsTrue, MatchOption, find, nat_eq, option_map, slice_get}
use Rattle.std.proofs.lemmas.Bool.{cases_eq, cases_lt}
use Rattle.std.proofs.lemmas.Bool.Decides.{nat_tests}
use Rattle.std.proofs.lemmas.List.{length-set}
use Rattle.std.proofs.lemmas.Option.{slice_get_within}
use Rattle.draid_names.specs.Faults.{Rose}
use Rattle.draid_names.specs.declared.fault.DeviceFault.{DeviceFault}
use Rattle.draid_names.specs.declared.pointer.Pointer.{Pointer}
use Rattle.draid_rack.specs.Rack.{Shape}
use Rattle.draid_rack.specs.declared.Rack as racks
use Rattle.draid_area.specs.Area as content
use Rattle.draid_area.specs.declared.Area as areas
use Rattle.draid_record.specs.Uber.{IsUber}
use Rattle.draid_record.specs.declared.uber.UberBody.{UberBody}
use Rattle.draid_machine.specs.declared.names.Held.{Held}
use Rattle.draid_machine.specs.declared.names.Stage.{Stage}
use Rattle.draid_machine.specs.declared.names.Stage.TheVariants.{Freed, Live}
use Rattle.draid_machine.specs.Created.{created}
use Rattle.draid_machine.specs.Names.{is_block}
use Rattle.draid_machine.proofs.Small.{is_equal, some_injective}
use Rattle.draid_entries.specs.declared.entry.Entry.{Entry}
use Rattle.draid_entries.specs.Entries.{entry_at}
use Rattle.draid_entries.specs.Listed.{has_key, held_of}
use Rattle.draid_entries.specs.Maps.{held_at, key_of, staged}
use Rattle.draid_shelf.specs.Kits as shelf
use Rattle.draid_shelf.specs.Shelf.{IsKnown}
use Rattle.draid_shelf.specs.declared.kit.Kit.{Kit}
use Rattle.draid_spec.specs.declared.layout.Geometry.{Geometry}
use Rattle.draid_map.specs.Place.{IsLayout}
use Rattle.std.specs.HashMap.{get}
use Rattle.draid_shard.specs.Looks.{IsLive}
use Rattle.draid_shard.specs.Changes.{SetsBlock}
use Rattle.draid_shard.specs.Fits.{Valid}
use Rattle.draid_import.specs.Reopening.{GivesBack, Opens, area_of_kit, OpenIsRefused}
use Rattle.draid_shard.specs.Part.{Part}
use Rattle.draid_import.specs.declared.fault.OpenFault.{OpenFault}
use Rattle.draid_import.specs.declared.fault.OpenFault.TheVariants as why_not
use Rattle.draid_shard.specs.States.{layout_by, part_of}
use Rattle.draid_shard.specs.declared.shard.Shard.{Shard}
use Rattle.draid_found.specs.Together.{AreTogether}
use Rattle.draid_shard.proofs.Changed.{arms_then, same_arms}
use Rattle.draid_shard.proofs.Held.{held_entry, key_leads}
use Rattle.draid_import.proofs.Reopened.{both_same}
use Rattle.draid_uber.specs.declared.uber.Uber.{Uber}
use Rattle.draid_uber.specs.Slots.{group_of}
use Rattle.draid_uber.specs.Uber as ubers
use Rattle.draid_uber.specs.Uber.{kept_of, layout_of, next_leaf_of, version_of, point_of}
use Rattle.draid_found.specs.Found.{AllLive, AreReady}
use Rattle.draid_import.specs.Imported.{HasPointers, IsLastIn, Stays}
use Rattle.draid_import.specs.Found.{AnyRecordsRose, AreFreed, AreReopened, CountsLater, FreesAt, FreesOlder, FreesIfOlder, HaveLowLeaves, IsFoundUber, IsReopened, LeavesUber, OpensOver, RecordsRose, SameButFlushed, StaysHeld}
use Rattle.draid_pool.specs.Returning.{Returns}
use Rattle.draid_uber.specs.Checks.{AreasTold}
use Rattle.draid_pool.specs.Taking.{TakesFirst, TellsAreas, gives_areas, takes_areas}
use Rattle.draid_pool.specs.Whole.{IsWhole, PointFits}
use Rattle.draid_import.specs.declared.fault.ImportFault.{ImportFault}
use Rattle.draid_import.specs.declared.fault.ImportFault.TheVariants as fault
use Rattle.draid_pool.specs.declared.pool.Pool.{Pool}
use Rattle.draid_pool.proofs.Returned.{at_end, put_here as placed_here, put_there as placed_there}
use Rattle.draid_pool.specs.Threads.{IsNear}
use Rattle.draid_pool.proofs.Lists.{get_set_other, get_set_same, present, some_of}
use Rattle.draid_pool.proofs.Takings.{from_first, get_before, rose_since}
use Rattle.draid_pool.proofs.Arms.{AllShare, all_kept, have_from, leaf_kept}
use Rattle.draid_pool.proofs.Wholes.{live_beside, one_live, open_high}

-- ---- the uberblock

pub found_uber : {A : Type 0} (area : areas.Ghosts A) (uber : Uber A) → ubers.Valid area.size uber → IsSomeAnd (kept_of uber) (λ body. (version_of uber ≡ body.props.version) × (next_leaf_of uber ≡ body.next_leaf))
    → IsSomeAnd (kept_of uber) IsUber → IsFoundUber area uber
found_uber area uber valid same ranges = by (kept_of uber) refl same ranges valid.held.kept_is
  where
    by : (kept : Option UberBody) → kept_of uber ≡ kept → IsSomeAnd kept (λ body. (version_of uber ≡ body.props.version) × (next_leaf_of uber ≡ body.next_leaf)) → IsSomeAnd kept IsUber
        → MatchOption kept ⊤ (λ body. (body.spec ≡ (layout_of uber).spec) × (body.props ≡ (layout_of uber).props)) → IsFoundUber area uber
    by None is same ranges own = absurd same
    by (Some body) is same ranges own =
        let group : group_of (kept_of uber) ≡ body.group = ap (λ (kept : Option UberBody). group_of kept) is in
        let above = ranges.group_above in
        let below = ranges.group_below in
        record { valid = valid; version = same.0 ∙ ap (λ p. p.version) own.1; some = omega (arith, group, above); low = omega (arith, group, below) }

pub leaf_found : {A : Type 0} (uber : Uber A) → IsSomeAnd (kept_of uber) (λ body. (version_of uber ≡ body.props.version) × (next_leaf_of uber ≡ body.next_leaf)) → IsSomeAnd (kept_of uber) (λ body. next_leaf_of uber ≡ body.next_leaf)
leaf_found uber both = by (kept_of uber) both
  where
    by : (kept : Option UberBody) → IsSomeAnd kept (λ body. (version_of uber ≡ body.props.version) × (next_leaf_of uber ≡ body.next_leaf)) → IsSomeAnd kept (λ body. next_leaf_of uber ≡ body.next_leaf)
    by None same = absurd same
    by (Some body) same = same.1

-- ---- the shelf

pub uber_left : (o n : Option shelf.Held) (count count' : ℕ) → n ≡ o → count' ≡ count → LeavesUber o n count count'
uber_left o n count count' same counted = record {
  held = subst (λ (z : Option shelf.Held). shelf.OnHeld z (λ y. MatchOption o ⊥ (λ x. SameButFlushed x y))) (sym same) (by o);
  tells = subst (λ (z : Option shelf.Held). shelf.OnHeld o (λ x. IsSome z)) (sym same) (still o);
  later = omega (arith, counted);
}
  where
    still : (p : Option shelf.Held) → shelf.OnHeld p (λ x. IsSome p)
    still None = tt
    still (Some x) = refl

    by : (p : Option shelf.Held) → shelf.OnHeld p (λ y. MatchOption p ⊥ (λ x. SameButFlushed x y))
    by None = tt
    by (Some x) = record { uber = inl refl; checks = refl; kits = λ m. refl }

-- areas that were taken tell what was held
pub own_uber : (told : AreasTold) (o : Option shelf.Held) → shelf.OnHeld o (TellsAreas told) → shelf.OnHeld o (λ x. told.uber ≡ x.uber)
own_uber told None is = tt
own_uber told (Some x) is = is.uber

pub own_checks : (told : AreasTold) (o : Option shelf.Held) → shelf.OnHeld o (TellsAreas told) → shelf.OnHeld o (λ x. shelf.checks_of told.even told.odd ≡ x.checks)
own_checks told None is = tt
own_checks told (Some x) is = is.checks

pub areas_put : {T : Type 0} (taken : T) (o mid n : Option shelf.Held) (was now even odd : Option content.Content) (count count' : ℕ) → mid ≡ takes_areas o → n ≡ gives_areas (record { uber = now; even = even; odd = odd }) mid
    → shelf.OnHeld o (TellsAreas (record { uber = was; even = even; odd = odd })) → shelf.NeedsUber (Ok taken) o → shelf.OnHeld o (λ x. IsSome x.checks)
    → (now ≡ was) ⊎ (now ≡ option_map content.flushes was) → count ≤ count' → LeavesUber o n count count'
areas_put taken o mid n was now even odd count count' takes gives is needs some_checks left later = record {
  held = subst (λ (z : Option shelf.Held). shelf.OnHeld z (λ y. MatchOption o ⊥ (λ x. SameButFlushed x y))) (sym (gives ∙ ap (gives_areas (record { uber = now; even = even; odd = odd })) takes)) (by now even odd o left is);
  tells = subst (λ (z : Option shelf.Held). shelf.OnHeld o (λ x. IsSome z)) (sym (gives ∙ ap (gives_areas (record { uber = now; even = even; odd = odd })) takes)) (still o is needs some_checks);
  later = later;
} where
  -- what was left tells where what was taken did
  some_left : (w c e d : Option content.Content) → (c ≡ w) ⊎ (c ≡ option_map content.flushes w) → (w ≡ None → ⊥) → IsSome (shelf.checks_of e d) → (x : shelf.Held) → IsSome (gives_areas (record { uber = c; even = e; odd = d }) (takes_areas (Some x)))
  some_left None c e d left some both x = absurd (some refl)
  some_left (Some w) c None d left some both x = absurd (cc)
  some_left (Some w) c (Some e) None left some both x = absurd (cc)
  some_left (Some w) c (Some e) (Some d) (inl same) some both x = subst (λ z. IsSome (gives_areas (record { uber = z; even = Some e; odd = Some d }) (takes_areas (Some x)))) (sym same) refl
  some_left (Some w) c (Some e) (Some d) (inr flushed) some both x = subst (λ z. IsSome (gives_areas (record { uber = z; even = Some e; odd = Some d }) (takes_areas (Some x)))) (sym flushed) refl

  still : (p : Option shelf.Held) → shelf.OnHeld p (TellsAreas (record { uber = was; even = even; odd = odd })) → shelf.NeedsUber (Ok taken) p → shelf.OnHeld p (λ x. IsSome x.checks) → shelf.OnHeld p (λ x. IsSome (gives_areas (record { uber = now; even = even; odd = odd }) (takes_areas p)))
  still None is needs some_checks = tt
  still (Some x) is needs some_checks = some_left was now even odd left (λ none. (let failed = needs (sym is.uber ∙ none) in cc)) (subst IsSome (sym is.checks) some_checks) x

  by : (c e d : Option content.Content) (p : Option shelf.Held) → (c ≡ was) ⊎ (c ≡ option_map content.flushes was) → shelf.OnHeld p (TellsAreas (record { uber = was; even = e; odd = d }))
      → shelf.OnHeld (gives_areas (record { uber = c; even = e; odd = d }) (takes_areas p)) (λ y. MatchOption p ⊥ (λ x. SameButFlushed x y))
  by c None d p left is = tt
  by c (Some e) None p left is = tt
  by None (Some e) (Some d) p left is = tt
  by (Some c) (Some e) (Some d) None left is = tt
  by (Some c) (Some e) (Some d) (Some x) (inl same) is = record { uber = inl (same ∙ is.uber); checks = is.checks; kits = λ m. refl }
  by (Some c) (Some e) (Some d) (Some x) (inr flushed) is = record { uber = inr (flushed ∙ ap (λ (z : Option content.Content). option_map content.flushes z) is.uber); checks = is.checks; kits = λ m. refl }

-- counts that are the same
pub counts_later : (before after : shelf.KitCounts) → after ≡ before → CountsLater before after
counts_later before after same = record {
  rack = λ who. ap (λ (k : shelf.KitCounts). k.rack who) same;
  even = (let even = ap (λ (k : shelf.KitCounts). k.even) same in omega (arith, even));
  odd = (let odd = ap (λ (k : shelf.KitCounts). k.odd) same in omega (arith, odd));
}

-- the area of a group that failed is one of the metaslab's
pub records_rose : {R A : Type 0} (faults : A → ℕ) (old new : Kit R A) (group : ℕ) (before after : shelf.KitCounts) → faults old.even ≡ before.even → faults old.odd ≡ before.odd → after.even ≡ faults new.even → after.odd ≡ faults new.odd
    → Rose (faults (area_of_kit old group)) (faults (area_of_kit new group)) → RecordsRose before after
records_rose {R} {A} faults old new group before after even odd even' odd' rose = by (group % 2 == 0) rose
  where
    by : (b : Bool) → Rose (faults (if b then old.even else old.odd)) (faults (if b then new.even else new.odd)) → RecordsRose before after
    by true h = inl (subst (λ (n : ℕ). Rose n after.even) even (subst (λ (n : ℕ). Rose (faults old.even) n) (sym even') h))
    by false h = inr (subst (λ (n : ℕ). Rose n after.odd) odd (subst (λ (n : ℕ). Rose (faults old.odd) n) (sym odd') h))

-- so it is once those that were open are given back, and since the beginning
pub records_rose_back : {R A : Type 0} (rack : racks.Ghosts R) (area : areas.Ghosts A) (shards : List (Shard R A)) (n metaslabs : ℕ) (first since last last' : ℕ) (mid_told new_told : Option shelf.Held) (before middle late after : ℕ → shelf.KitCounts)
    → length shards ≡ n → n < metaslabs → first ≤ since → last' ≡ last → ((m : ℕ) → n ≤ m → middle m ≡ before m) → Returns rack area shards mid_told new_told late after → Rose since last ⊎ RecordsRose (middle n) (late n)
    → Rose first last' ⊎ AnyRecordsRose metaslabs before after
records_rose_back rack area shards n metaslabs first since last last' mid_told new_told before middle late after many below later same yet r (inl rose) =
    inl (subst (λ (k : ℕ). Rose first k) (sym same) (rose_since first since last later rose))
records_rose_back rack area shards n metaslabs first since last last' mid_told new_told before middle late after many below later same yet r (inr rose) =
    inr (n, below, subst (λ (k : shelf.KitCounts). RecordsRose k (after n)) (yet n (omega arith)) (subst (λ (k : shelf.KitCounts). RecordsRose (middle n) k) (sym (r.others n (omega (arith, many)))) rose))

-- why a metaslab wasn't opened
pub refused_area : {R A : Type 0} (rack : racks.Ghosts R) (faults : A → ℕ) (told : A → Option content.Content) (geometry : Geometry) (number : ℕ) (old new : Kit R A) (group next : ℕ) (why : OpenFault)
    → OpenIsRefused rack faults told geometry number old new group next why → why ≡ why_not.Area → Rose (faults (area_of_kit old group)) (faults (area_of_kit new group))
refused_area rack faults told geometry number old new group next why_not.Area h is = h
refused_area rack faults told geometry number old new group next (why_not.Record place kind) h is = absurd (cc)
refused_area rack faults told geometry number old new group next why_not.NoMemory h is = absurd (cc)

pub fault_is : {T : Type 0} (why : ImportFault) → IsErrOf {T = T} (Err why) fault.Shelf → why ≡ fault.Shelf
fault_is why failed = cc

-- where an uberblock was found its area was held
pub absent_not : {T : Type 0} (uber : T) (o : Option shelf.Held) (P Q : Type 0) → shelf.OnHeld o (λ held. held.uber ≡ None → IsErrOf (Ok uber) fault.NoPool × P) → shelf.OnHeld o (λ held. held.uber ≡ None → Q)
absent_not uber None P Q h = tt
absent_not uber (Some x) P Q h = λ none. (let failed = (h none).0 in absurd (cc))

pub stays_same : (o n : Option shelf.Held) → n ≡ o → StaysHeld o n
stays_same o n same = subst (λ (z : Option shelf.Held). StaysHeld o z) (sym same) (by o)
  where
    by : (p : Option shelf.Held) → StaysHeld p p
    by None = tt
    by (Some x) = record { uber = refl; checks = refl; kits = λ m. refl }

-- a kit that tells what was held is put back
pub stays_put : (n : ℕ) (old mid new : Option shelf.Held) (k : Option shelf.KitTold) → mid ≡ shelf.takes_kit n old → new ≡ shelf.gives_kit n k mid → shelf.OnHeld old (λ x. k ≡ x.kits n) → StaysHeld old new
stays_put n old mid new k takes gives is = subst (λ (z : Option shelf.Held). StaysHeld old z) (sym (gives ∙ ap (shelf.gives_kit n k) takes)) (by k old is)
  where
    by : (j : Option shelf.KitTold) (p : Option shelf.Held) → shelf.OnHeld p (λ x. j ≡ x.kits n) → StaysHeld p (shelf.gives_kit n j (shelf.takes_kit n p))
    by None p is = tt
    by (Some j) None is = tt
    by (Some j) (Some x) is = record {
      uber = refl;
      checks = refl;
      kits = λ m. elim (cases_eq m n) [
        | inl here ↦ placed_here n m (Some j) (if m == n then None else x.kits m) here ∙ (is ∙ ap (λ (q : ℕ). x.kits q) (sym here))
        | inr other ↦
            placed_there n m (Some j) (if m == n then None else x.kits m) (λ same. omega (arith, same, other)) ∙ placed_there n m None (x.kits m) (λ same. omega (arith, same, other))
      ];
    }

-- the kit that a refusal gives back tells what the one that was taken told
pub kit_back : {R A : Type 0} (rack : racks.Ghosts R) (told : A → Option content.Content) (old new : Kit R A) (group : ℕ) (o : Option shelf.Held) (n : ℕ) → GivesBack told old new group
    → shelf.OnHeld o (λ x. shelf.kit_of (rack.told old.rack) (told old.even) (told old.odd) ≡ x.kits n) → shelf.OnHeld o (λ x. shelf.kit_of (rack.told new.rack) (told new.even) (told new.odd) ≡ x.kits n)
kit_back rack told old new group o n back is =
    let both = both_same told old new group back in
    subst (λ (k : Option shelf.KitTold). shelf.OnHeld o (λ x. k ≡ x.kits n)) (sym (λ i. shelf.kit_of (rack.told (back.rack i)) (both.0 i) (both.1 i))) is

-- a failure is one whatever the answer would have been
pub refused_too : {T U : Type 0} (why : ImportFault) → IsErrOf {T = T} (Err why) fault.Shelf → IsErrOf {T = U} (Err why) fault.Shelf
refused_too why failed = (let same : why ≡ fault.Shelf = cc in ap Err same)

-- ---- metaslabs

live_of : (o : Option Pointer) (h : Held) → option_map held_of o ≡ Some h → h.stage ≡ Live
live_of None h is = absurd (cc)
live_of (Some b) h is = ap (λ (i : Held). i.stage) (sym (some_injective (held_of b) h is))

-- all blocks of a record are live
pub reopened : {R A : Type 0} (rack : racks.Ghosts R) (told : A → Option content.Content) (kit : Kit R A) (group own next : ℕ) (part : Part) (shard : Shard R A) → Valid rack shard → part_of shard ≡ part
    → shard.committed ≡ group → Opens rack told kit own next shard → IsReopened rack part group shard
reopened rack told kit group own next part shard valid part_is committed o = record {
  valid = valid;
  part_is = part_is;
  committed = committed;
  live = λ first e there.
      (let i = o.is_in (created (layout_by shard) 1) [] in
      live_of (find (has_key (key_of e.pointer)) o.value.blocks) (held_at e) (i.held (key_of e.pointer) ∙ key_leads shard.entries first e there));
}

-- what holds of each place, and of one that is put behind them
pub each_pushed : {X : Type 0} (P : ℕ → X → Type 0) (xs ys : List X) (x : X) (n : ℕ) → ys ≡ xs ++ x ∷ [] → length xs ≡ n → ((m : ℕ) (y : X) → slice_get xs m ≡ Some y → P m y) → P n x
    → (m : ℕ) (y : X) → slice_get ys m ≡ Some y → P m y
each_pushed P xs ys x n more many each own m y there = by (cases_lt m n)
  where
    «at» : slice_get (xs ++ x ∷ []) m ≡ Some y
    «at» = ap (λ zs. slice_get zs m) (sym more) ∙ there

    by : (m < n) ⊎ (n ≤ m) → P m y
    by (inl below) = each m y (sym (get_before xs (x ∷ []) m (omega (arith, below, many))) ∙ «at»)
    by (inr past) =
        let within = slice_get_within (xs ++ x ∷ []) m y «at» in
        let long = length-append xs (x ∷ []) in
        let last : m ≡ n = omega (arith, within, long, many, past) in
        let same : x ≡ y = some_of (slice_get (xs ++ x ∷ []) m) x y (at_end xs x [] m (omega (arith, last, many))) «at» in
        subst (λ (k : ℕ). P k y) (sym last) (subst (P n) same own)

pub each_none : {X : Type 0} (P : ℕ → X → Type 0) (xs : List X) → xs ≡ [] → (m : ℕ) (y : X) → slice_get xs m ≡ Some y → P m y
each_none P xs none m y there = (let at : slice_get [] m ≡ Some y = subst (λ zs. slice_get zs m ≡ Some y) none there in absurd (cc))

-- what was held for it was so from the beginning
pub over_first : {R A : Type 0} (rack : racks.Ghosts R) (area : areas.Ghosts A) (limit group next n : ℕ) (old mid : Option shelf.Held) (known yet : Option Shape) (before middle : shelf.KitCounts) (shard : Shard R A) → TakesFirst n old mid → yet ≡ known → middle ≡ before
    → OpensOver rack area limit group next n mid yet middle shard → OpensOver rack area limit group next n old known before shard
over_first rack area limit group next n old mid known yet before middle shard takes same_leaves same o =
    let t = o.taken in
    record {
      kit = o.kit;
      taken = record {
        told = from_first n old mid (λ k. shelf.kit_of (rack.told o.kit.rack) (area.told o.kit.even) (area.told o.kit.odd) ≡ k) takes t.told;
        some = from_first n old mid (λ k. k ≡ None → IsErrOf (Ok o.kit) DeviceFault.Failed) takes t.some;
        leaves = subst (λ (s : Option Shape). IsKnown s (rack.shape o.kit.rack)) same_leaves t.leaves;
        rack_count = λ who. t.rack_count who ∙ ap (λ (c : shelf.KitCounts). c.rack who) same;
        even_count = t.even_count ∙ ap (λ (c : shelf.KitCounts). c.even) same;
        odd_count = t.odd_count ∙ ap (λ (c : shelf.KitCounts). c.odd) same;
      };
      opens = o.opens;
      later = o.later;
      limit_is = o.limit_is;
    }

pub all_ready : {R A : Type 0} (rack : racks.Ghosts R) (geometry : Geometry) (group : ℕ) (shards : List (Shard R A)) → AreReopened rack geometry group shards → AreReady rack shards
all_ready rack geometry group shards are m shard there = (let is = are.each m shard there in record { valid = is.valid; number_is = ap (λ (p : Part). p.number) is.part_is; live = is.live })

-- ---- older blocks

pub elsewhere : (new old x : Option Entry) (q n : ℕ) → new ≡ (if q == n then x else old) → (q ≡ n → ⊥) → new ≡ old
elsewhere new old x q n is other = grind (arith, nat_tests, is, other)

module _ {R A : Type 0} (rack : racks.Ghosts R) (newest : ℕ → Option Pointer) (own : Option ℕ) where
  pub frees_none : (shard : Shard R A) → Valid rack shard → AllLive shard → FreesOlder rack newest own shard shard
  frees_none shard valid live = record {
    valid = valid;
    part = refl;
    committed = refl;
    slots = same_arms shard.slots;
    kept = λ p stays here. here;
    blocks = λ first e there. (ap (λ (s : Stage). is_block s) (live first e there), (e, there, refl));
  }

  -- a block that doesn't stay is freed
  pub frees_more : (old mid new : Shard R A) (p : Pointer) (group : ℕ) → FreesOlder rack newest own old mid → IsLive mid p → (Stays newest own p → ⊥) → Valid rack new → part_of new ≡ part_of mid
      → SetsBlock mid new p (Some (staged (Freed group) p)) → FreesOlder rack newest own old new
  frees_more old mid new p group f live older valid part sets = record {
    valid = valid;
    part = part ∙ f.part;
    committed = sets.groups.committed ∙ f.committed;
    slots = arms_then old.slots mid.slots new.slots f.slots sets.slots;
    kept = λ q stays here.
        (let yet = f.kept q stays here in
        live_beside mid new p q (Some (staged (Freed group) p)) sets
        (λ same. (let one : p ≡ q = one_live mid p q live yet same in older (subst (Stays newest own) (sym one) stays))) yet);
    blocks = λ first e there. by first e (first == p.first) refl (sym (sets.entry.at first) ∙ there);
  } where
    by : (first : ℕ) (e : Entry) (b : Bool) → (first == p.first) ≡ b → (if first == p.first then Some (staged (Freed group) p) else entry_at mid.entries first) ≡ Some e
        → (is_block e.stage ≡ true) × ((e' : Entry) × (entry_at old.entries first ≡ Some e') × (e'.pointer ≡ e.pointer))
    by first e true same there =
        let is : staged (Freed group) p ≡ e = some_injective (staged (Freed group) p) e (ap (λ b. if b then Some (staged (Freed group) p) else entry_at mid.entries first) (sym same) ∙ there) in
        let at : entry_at mid.entries first ≡ Some (staged Live p) = ap (entry_at mid.entries) (is_equal first p.first same) ∙ live in
        let was = (f.blocks first (staged Live p) at).1 in
        (ap (λ (x : Entry). is_block x.stage) (sym is), (was.0, was.1, was.2 ∙ ap (λ (x : Entry). x.pointer) is))
    by first e false other there = f.blocks first e (ap (λ b. if b then Some (staged (Freed group) p) else entry_at mid.entries first) (sym other) ∙ there)

  pub frees_step : (area : areas.Ghosts A) (old mid new : Shard R A) (p : Pointer) (floor : ℕ) → FreesOlder rack newest own old mid → IsLive mid p → FreesIfOlder rack area newest own p floor mid new
      → FreesOlder rack newest own old new
  frees_step area old mid new p floor f live one = elim one.done [
    | inl same ↦ subst (FreesOlder rack newest own old) (sym same.1) f
    | inr freed ↦ frees_more old mid new p freed.1.0 f live freed.0 one.valid one.part freed.1.1
  ]

  -- the blocks behind it are as they were
  pub left_behind : (area : areas.Ghosts A) (mid new : Shard R A) (p : Pointer) (floor from : ℕ) → from ≤ p.first → FreesIfOlder rack area newest own p floor mid new → ((first : ℕ) (e : Entry) → from ≤ first → entry_at mid.entries first ≡ Some e → e.stage ≡ Live)
      → (first : ℕ) (e : Entry) → p.first + 1 ≤ first → entry_at new.entries first ≡ Some e → e.stage ≡ Live
  left_behind area mid new p floor from low one live first e past there = live first e (omega (arith, low, past)) (by one.done)
    where
      by : (Stays newest own p × (new ≡ mid)) ⊎ ((Stays newest own p → ⊥) × ((group : ℕ) × SetsBlock mid new p (Some (staged (Freed group) p)) × FreesAt rack area p floor group mid new))
          → entry_at mid.entries first ≡ Some e
      by (inl same) = ap (λ (x : Shard R A). entry_at x.entries first) (sym same.1) ∙ there
      by (inr freed) = sym (elsewhere (entry_at new.entries first) (entry_at mid.entries first) (Some (staged (Freed freed.1.0) p)) first p.first (freed.1.1.entry.at first) (λ same. omega (arith, same, past))) ∙ there

  -- the blocks of metaslabs below a number
  pub record Freeing (n : ℕ) (old new : List (Shard R A)) : Type 0 where
    pub many : length new ≡ length old
    pub done : (m : ℕ) (shard : Shard R A) → m < n → slice_get new m ≡ Some shard → (before : Shard R A) × (slice_get old m ≡ Some before) × FreesOlder rack newest own before shard
    pub left : (m : ℕ) → n ≤ m → slice_get new m ≡ slice_get old m

  pub freeing_none : (shards : List (Shard R A)) → Freeing 0 shards shards
  freeing_none shards = record { many = refl; done = λ m shard below there. absurd (omega (arith, below)); left = λ m past. refl }

  pub freeing_more : (n : ℕ) (old mid : List (Shard R A)) (shard shard' : Shard R A) → slice_get mid n ≡ Some shard → Freeing n old mid → FreesOlder rack newest own shard shard' → Freeing (n + 1) old (slice_set mid n shard')
  freeing_more n old mid shard shard' there f frees = record {
    many = length-set mid n shard' ∙ f.many;
    done = λ m s below at. elim (cases_eq m n) [
      | inl same ↦
          (let here = get_set_same mid n shard shard' there in
          let is : shard' ≡ s = some_of (slice_get (slice_set mid n shard') n) shard' s here (subst (λ (k : ℕ). slice_get (slice_set mid n shard') k ≡ Some s) same at) in
          (shard, ap (slice_get old) same ∙ (sym (f.left n (omega arith)) ∙ there), subst (FreesOlder rack newest own shard) is frees))
      | inr other ↦ f.done m s (omega (arith, below, other)) (sym (get_set_other mid n m shard' other) ∙ at)
    ];
    left = λ m past. get_set_other mid n m shard' (λ same. omega (arith, same, past)) ∙ f.left m (omega (arith, past));
  }

  pub freeing_all : (n : ℕ) (old new : List (Shard R A)) → length old ≤ n → Freeing n old new → AreFreed rack newest own old new
  freeing_all n old new all f = record {
    many = f.many;
    each = λ m shard there. (let within = slice_get_within new m shard there in let many = f.many in f.done m shard (omega (arith, within, many, all)) there);
  }

-- ---- the pool

-- metaslabs of one pool, of which none has a detached arm
all_share : {R A : Type 0} {next : ℕ} (shards : List (Shard R A)) → AreTogether shards (length shards) → HaveLowLeaves next shards → AllShare shards
all_share shards together low m n a b at here =
    let inside = slice_get_within shards m a at in
    let within = slice_get_within shards n b here in
    let first = present shards 0 (omega (arith, inside)) in
    record {
      arms = have_from first.0.slots a.slots b.slots (together.alike m first.0 a inside first.1 at) (together.alike n first.0 b within first.1 here);
      detached = (low n b here).detached ∙ sym (low m a at).detached;
    }

module _ {R A : Type 0} (rack : racks.Ghosts R) (area : areas.Ghosts A) where
  pub imported_whole : (pool : Pool R A) (geometry : Geometry) (old : List (Shard R A)) (newest : ℕ → Option Pointer) → IsFoundUber area pool.uber → layout_of pool.uber ≡ geometry → pool.geometry ≡ geometry
      → AreReopened rack geometry (group_of (kept_of pool.uber)) old → HasPointers old newest → IsLastIn old pool.own.seq → PointFits 0 (point_of pool.uber) (get nat_eq pool.own.objects) pool.own.seq
      → ((own : ℕ) → (point_of pool.uber).group ≡ Some own → own ≤ group_of (kept_of pool.uber)) → AreTogether old (length old) → HaveLowLeaves (next_leaf_of pool.uber) old → AreFreed rack newest (point_of pool.uber).group old pool.metaslabs.shards.items
      → ((object : ℕ) → get nat_eq pool.own.objects object ≡ newest object) → pool.own.floor ≡ group_of (kept_of pool.uber) + 1 → IsWhole rack area pool
  imported_whole pool geometry old newest found layout used are pointers last fits early together low freed table floor = record {
    perms = are.perms;
    layout = subst (λ (x : Geometry). IsLayout x are.perms) (sym used) are.layout;
    many = freed.many ∙ (are.many ∙ ap (λ (x : Geometry). x.props.metaslabs) (sym used));
    shards = λ m shard there.
        (let f = freed.each m shard there in
        let is = are.each m f.0 f.1 in
        let frees = f.2 in
        record {
          valid = frees.valid;
          part = frees.part ∙ (is.part_is ∙ ap (λ (x : Geometry). record { geometry = x; perms = are.perms; number = m }) (sym used));
          numbered = λ key h held.
              (let e = held_entry shard.entries key h held in
              let was = (frees.blocks h.first e.e e.there).1 in
              let low = last.all m f.0 h.first was.0 f.1 was.1 in
              let same = ap (λ (p : Pointer). p.seq) was.2 in
              let own = ap (λ k. k.seq) e.key_is in
              omega (arith, low, same, own));
          settled = λ key h held.
              (let e = held_entry shard.entries key h held in
              subst (λ (i : Held). is_block i.stage ≡ true) e.held_is (frees.blocks h.first e.e e.there).0);
          committed = frees.committed ∙ is.committed;
          leaves = λ leaf own. (low m f.0 f.1).below leaf (leaf_kept f.0.slots shard.slots leaf frees.slots own);
        });
    alike = all_kept old pool.metaslabs.shards.items (λ k z there. (let f = freed.each k z there in record { before = f.0; there = f.1; slots = f.2.slots })) (all_share old together low);
    uber = found.valid;
    uber_layout = ap (λ g. ubers.layout_in g pool.geometry.props.version) (layout ∙ sym used);
    objects = λ object pointer there.
        (let to = pointers object pointer (sym (table object) ∙ there) in
        let within = slice_get_within old pointer.metaslab to.shard to.there in
        let many = freed.many in
        let s = present pool.metaslabs.shards.items pointer.metaslab (omega (arith, within, many)) in
        let f = freed.each pointer.metaslab s.0 s.1 in
        let same : to.shard ≡ f.0 = some_of (slice_get old pointer.metaslab) to.shard f.0 to.there f.1 in
        record {
          object_is = to.object_is;
          shard = s.0;
          there = s.1;
          live = f.2.kept pointer (inl (ap newest to.object_is ∙ (sym (table object) ∙ there))) (subst (λ (x : Shard R A). IsLive x pointer) same to.live);
        });
    floor = omega (arith, floor);
    low = (let low = found.low in omega (arith, floor, low));
    near = near;
    point = fits;
    behind = λ own m shard is there.
        (let f = freed.each m shard there in
        let high = open_high shard.open_group shard.closing shard.committed shard.sealed f.2.valid.groups in
        let committed = f.2.committed ∙ (are.each m f.0 f.1).committed in
        let low = early own is in
        omega (arith, high, committed, low));
  }
    where
      near : IsNear pool.own.floor (slice_get pool.metaslabs.shards.items)
      near =
          let some = are.layout.geometry_is.props.some_metaslabs in
          let long = are.many in
          let many = freed.many in
          let s = present pool.metaslabs.shards.items 0 (omega (arith, some, long, many)) in
          let f = freed.each 0 s.0 s.1 in
          let high = open_high s.0.open_group s.0.closing s.0.committed s.0.sealed f.2.valid.groups in
          let committed = f.2.committed ∙ (are.each 0 f.0 f.1).committed in
          record { metaslab = 0; shard = s.0; there = s.1; near = omega (arith, floor, high, committed) }

-- where the shelf has a pool, its uberblock is held
pub pool_there : (o : Option shelf.Held) (has : Bool) (Q : shelf.Held → Type 0) → shelf.OnHeld o (λ held. IsTrue has ↔ IsSome held.uber) → has ≡ true → shelf.OnHeld o (λ held. held.uber ≡ None → Q held)
pool_there None has Q h on = tt
pool_there (Some x) has Q h on = λ none. absurd (by x.uber none (h.0 on))
  where
    by : (u : Option content.Content) → u ≡ None → IsSome u → ⊥
    by None is some = cc
    by (Some c) is some = cc

-- where nothing was taken
pub none_there : (o : Option shelf.Held) (P : shelf.Held → Type 0) → ((x : shelf.Held) → P x) → shelf.OnHeld o P
none_there None P h = tt
none_there (Some x) P h = h x
