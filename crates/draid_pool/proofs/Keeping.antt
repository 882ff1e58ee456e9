-- What each call of a sync keeps of the metaslabs of a pool, and so the whole sync.
use Rattle.std.proofs.Common.{◌≡◌, ◌≤◌, ◌∙◌, inl, inr, ℕ, Bool, List, Option, Some, None, arith, refl, sym, ap, subst, length}
use Rattle.std.specs.Prelude.{slice_get}
use Rattle.std.proofs.lemmas.Bool.{cases_eq}
use Rattle.std.proofs.lemmas.List.{length-set}
use Rattle.std.proofs.lemmas.Option.{slice_get_within}
use Rattle.draid_rack.specs.declared.Rack as racks
use Rattle.draid_area.specs.declared.Area as areas
use Rattle.draid_pass.specs.declared.pass.Pass.{Pass}
use Rattle.draid_record.specs.Record.{PassTold}
use Rattle.draid_slots.specs.Table.{SlotTable}
use Rattle.draid_stable.specs.Sealing.{LosesTargets}
use Rattle.draid_shard.specs.Alike.{KeepsArms}
use Rattle.draid_shard.specs.declared.shard.Shard.{Shard}
use Rattle.draid_shard.proofs.Changed.{same_arms}
use Rattle.draid_pool.specs.Failing.{RacksLater}
use Rattle.draid_pool.specs.Keeping.{AllArmsStay, AllAskedStay, AllHaveAsked, ArmsStay, KeepsEach}
use Rattle.draid_pool.specs.Passes.{KeepsPass, KeepsPasses}
use Rattle.draid_pool.specs.Syncing.{Commits, CommitsBelow, KeepsShard, KeepsShards}
use Rattle.draid_pool.specs.declared.pool.Pool.{Pool}
use Rattle.draid_pool.proofs.Lifted.{SetsShard}
use Rattle.draid_pool.proofs.Lists.{get_set_other, get_set_same, present, some_of}
use Rattle.draid_pool.proofs.SealSteps.{lost_by}

-- ---- one pass

pub pass_still : (p : Option Pass) → KeepsPass p p
pass_still None = tt
pass_still (Some p) = record { number_is = refl; kind_is = refl; max_is = refl; at_is = refl; running_is = refl }

pass_on : (p q r : Option Pass) → KeepsPass p q → KeepsPass q r → KeepsPass p r
pass_on None None r first second = second
pass_on None (Some q) r first second = absurd first
pass_on (Some p) None r first second = absurd first
pass_on (Some p) (Some q) None first second = second
pass_on (Some p) (Some q) (Some r) first second = record {
  number_is = second.number_is ∙ first.number_is;
  kind_is = second.kind_is ∙ first.kind_is;
  max_is = second.max_is ∙ first.max_is;
  at_is = second.at_is ∙ first.at_is;
  running_is = second.running_is ∙ first.running_is;
}

-- one that lost targets is the same
pub pass_lost : (marks : List (List Bool)) (old new : Option Pass) → LosesTargets marks old new → KeepsPass old new
pass_lost marks old new loses = lost_by marks KeepsPass tt
    (λ p r less. record {
      number_is = less.number;
      kind_is = ap (λ (t : PassTold). t.kind) less.told;
      max_is = ap (λ (t : PassTold). t.max) less.told;
      at_is = ap (λ (t : PassTold). t.«at») less.told;
      running_is = ap (λ (t : PassTold). t.running) less.told;
    }) old new loses

-- ---- one metaslab

pub arms_by : (old new : SlotTable) → KeepsArms old new → ArmsStay old new
arms_by old new kept = record { same = kept.same; arms_stay = kept.arms_stay }

pub arms_on : (old mid new : SlotTable) → ArmsStay old mid → ArmsStay mid new → ArmsStay old new
arms_on old mid new first second = record {
  same = record {
    geometry_is = second.same.geometry_is ∙ first.same.geometry_is;
    perms_are = second.same.perms_are ∙ first.same.perms_are;
    metaslab_is = second.same.metaslab_is ∙ first.same.metaslab_is;
  };
  arms_stay = second.arms_stay ∙ first.arms_stay;
}

module _ {R A : Type 0} (faults : R → Option ℕ → ℕ) where
  -- the rack and the pass are as they were
  pub stays_by : (old new : Shard R A) → new.pass ≡ old.pass → new.rack ≡ old.rack → KeepsArms old.slots new.slots → new.asked ≡ old.asked → KeepsShard faults old new
  stays_by old new pass rack arms asked = record {
    pass = subst (KeepsPass old.pass) (sym pass) (pass_still old.pass);
    rack = (let same = ap (λ r. faults r None) rack in omega (arith, same));
    arms = arms_by old.slots new.slots arms;
    asked = asked;
  }

  pub stays_still : (shard : Shard R A) → KeepsShard faults shard shard
  stays_still shard = stays_by shard shard refl refl (same_arms shard.slots) refl

  stays_on : (old mid new : Shard R A) → KeepsShard faults old mid → KeepsShard faults mid new → KeepsShard faults old new
  stays_on old mid new first second = record {
    pass = pass_on old.pass mid.pass new.pass first.pass second.pass;
    rack = (let a = first.rack in let b = second.rack in omega (arith, a, b));
    arms = arms_on old.slots mid.slots new.slots first.arms second.arms;
    asked = second.asked ∙ first.asked;
  }

-- ---- all metaslabs

module _ {R A : Type 0} (keeps : Shard R A → Shard R A → Type 0) (still : (shard : Shard R A) → keeps shard shard) where
  -- none was called
  pub each_same : (old new : Pool R A) → new.metaslabs.shards.items ≡ old.metaslabs.shards.items → KeepsEach keeps old new
  each_same old new same = record {
    many = ap (λ zs. length zs) same;
    each = λ m before after at is.
        subst (λ z. keeps before z) (some_of (slice_get old.metaslabs.shards.items m) before after at (ap (λ zs. slice_get zs m) (sym same) ∙ is)) (still before);
  }

  -- one was
  pub each_set : (rack : racks.Ghosts R) (area : areas.Ghosts A) (m : ℕ) (old new : Pool R A) (shard shard' : Shard R A) → SetsShard rack area m old new shard shard' → keeps shard shard' → KeepsEach keeps old new
  each_set rack area m old new shard shard' set kept = record {
    many = ap (λ zs. length zs) set.sets ∙ length-set old.metaslabs.shards.items m shard';
    each = λ k before after at is. elim (cases_eq k m) [
      | inl same ↦
          let was : shard ≡ before = some_of (slice_get old.metaslabs.shards.items m) shard before set.there (subst (λ j. slice_get old.metaslabs.shards.items j ≡ Some before) same at) in
          let now : shard' ≡ after = some_of (slice_get new.metaslabs.shards.items m) shard' after (ap (λ zs. slice_get zs m) set.sets ∙ get_set_same old.metaslabs.shards.items m shard shard' set.there)
          (subst (λ j. slice_get new.metaslabs.shards.items j ≡ Some after) same is) in
          subst (λ z. keeps z after) was (subst (λ z. keeps shard z) now kept)
      | inr other ↦
          let stays : slice_get new.metaslabs.shards.items k ≡ slice_get old.metaslabs.shards.items k = ap (λ zs. slice_get zs k) set.sets ∙ get_set_other old.metaslabs.shards.items m k shard' (λ same. omega (arith, same, other)) in
          subst (λ z. keeps before z) (some_of (slice_get old.metaslabs.shards.items k) before after at (sym stays ∙ is)) (still before)
    ];
  }

module _ {R A : Type 0} where
  -- all committed their group
  pub each_committed : (keeps : Shard R A → Shard R A → Type 0) (rack : racks.Ghosts R) (group : ℕ) (old new : Pool R A) → ((before after : Shard R A) → Commits rack group before after → keeps before after)
      → CommitsBelow rack group (length old.metaslabs.shards.items) old.metaslabs.shards.items new.metaslabs.shards.items → KeepsEach keeps old new
  each_committed keeps rack group old new by commits = record {
    many = commits.many;
    each = λ m before after at is.
        let z = commits.below m before (slice_get_within old.metaslabs.shards.items m before at) at in
        subst (λ y. keeps before y) (some_of (slice_get new.metaslabs.shards.items m) z.0 after z.1 is) (by before z.0 z.2);
  }

  -- two calls, one behind the other
  pub each_on : (keeps : Shard R A → Shard R A → Type 0) (on : (a b c : Shard R A) → keeps a b → keeps b c → keeps a c) (old mid new : Pool R A) → KeepsEach keeps old mid → KeepsEach keeps mid new → KeepsEach keeps old new
  each_on keeps on old mid new first second = record {
    many = second.many ∙ first.many;
    each = λ m before after at is.
        (let inside = slice_get_within old.metaslabs.shards.items m before at in
        let many = first.many in
        let z = present mid.metaslabs.shards.items m (omega (arith, inside, many)) in
        on before z.0 after (first.each m before z.0 at z.1) (second.each m z.0 after z.1 is));
  }

  each_weaker : (keeps stays : Shard R A → Shard R A → Type 0) → ((before after : Shard R A) → keeps before after → stays before after) → (old new : Pool R A) → KeepsEach keeps old new → KeepsEach stays old new
  each_weaker keeps stays by old new kept = record { many = kept.many; each = λ m before after at is. by before after (kept.each m before after at is) }

module _ {R A : Type 0} (faults : R → Option ℕ → ℕ) where
  pub all_stay : (old new : Pool R A) → new.metaslabs.shards.items ≡ old.metaslabs.shards.items → KeepsShards faults old new
  all_stay old new same = each_same (KeepsShard faults) (stays_still faults) old new same

  pub all_on : (old mid new : Pool R A) → KeepsShards faults old mid → KeepsShards faults mid new → KeepsShards faults old new
  all_on old mid new first second = each_on (KeepsShard faults) (stays_on faults) old mid new first second

  -- ---- by matter

  pub passes_by : (old new : Pool R A) → KeepsShards faults old new → KeepsPasses old new
  passes_by old new kept = each_weaker (KeepsShard faults) (λ (before : Shard R A) after. KeepsPass before.pass after.pass) (λ before after k. k.pass) old new kept

  pub racks_by : (old new : Pool R A) → KeepsShards faults old new → RacksLater faults old new
  racks_by old new kept = each_weaker (KeepsShard faults) (λ (before : Shard R A) after. faults before.rack None ≤ faults after.rack None) (λ before after k. k.rack) old new kept

  pub all_arms_by : (old new : Pool R A) → KeepsShards faults old new → AllArmsStay old new
  all_arms_by old new kept = each_weaker (KeepsShard faults) (λ (before : Shard R A) after. ArmsStay before.slots after.slots) (λ before after k. k.arms) old new kept

  pub all_asked_by : (old new : Pool R A) → KeepsShards faults old new → AllAskedStay old new
  all_asked_by old new kept = each_weaker (KeepsShard faults) (λ (before : Shard R A) after. after.asked ≡ before.asked) (λ before after k. k.asked) old new kept

  pub racks_on : (old mid new : Pool R A) → RacksLater faults old mid → RacksLater faults mid new → RacksLater faults old new
  racks_on old mid new first second = each_on (λ (before : Shard R A) after. faults before.rack None ≤ faults after.rack None) (λ a b c low high. omega (arith, low, high)) old mid new first second

module _ {R A : Type 0} where
  pub passes_on : (old mid new : Pool R A) → KeepsPasses old mid → KeepsPasses mid new → KeepsPasses old new
  passes_on old mid new first second = each_on (λ (before : Shard R A) after. KeepsPass before.pass after.pass) (λ a b c. pass_on a.pass b.pass c.pass) old mid new first second

module _ {R A : Type 0} (rack : racks.Ghosts R) where
  pub all_set_on : (area : areas.Ghosts A) (m : ℕ) (old mid new : Pool R A) (shard shard' : Shard R A) → KeepsShards rack.faults old mid → SetsShard rack area m mid new shard shard' → KeepsShard rack.faults shard shard'
      → KeepsShards rack.faults old new
  all_set_on area m old mid new shard shard' first set kept = all_on rack.faults old mid new first (each_set (KeepsShard rack.faults) (stays_still rack.faults) rack area m mid new shard shard' set kept)

  pub all_committed : (group : ℕ) (old new : Pool R A) → CommitsBelow rack group (length old.metaslabs.shards.items) old.metaslabs.shards.items new.metaslabs.shards.items → KeepsShards rack.faults old new
  all_committed group old new commits = each_committed (KeepsShard rack.faults) rack group old new (λ before after c. c.stays) commits

-- each that committed has the version that it asked for
pub asked_committed : {R A : Type 0} (rack : racks.Ghosts R) (group : ℕ) (old new : Pool R A) → CommitsBelow rack group (length old.metaslabs.shards.items) old.metaslabs.shards.items new.metaslabs.shards.items
    → AllHaveAsked new
asked_committed {R} {A} rack group old new commits m z there =
    let inside = slice_get_within new.metaslabs.shards.items m z there in
    let many = commits.many in
    let was = present old.metaslabs.shards.items m (omega (arith, inside, many)) in
    let after = commits.below m was.0 (omega (arith, inside, many)) was.1 in
    subst (λ (q : Shard R A). q.version ≡ q.asked) (some_of (slice_get new.metaslabs.shards.items m) after.0 z after.1 there) after.2.version
