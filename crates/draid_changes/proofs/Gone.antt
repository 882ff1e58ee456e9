-- What an arm that goes and version 2 leave behind the sync that comes.
use Rattle.std.proofs.Common.{◌≡◌, ◌⊎◌, ◌∙◌, inl, inr, ℕ, List, [], Some, arith, ap, length, subst, sym}
use Rattle.std.specs.Prelude.{Contains, slice_get, slice_index_or}
use Rattle.std.proofs.lemmas.List.Elements.{Contains-push}
use Rattle.std.proofs.lemmas.Option.{slice_get_within}
use Rattle.draid_names.specs.declared.arm.Arm.{Arm}
use Rattle.draid_names.specs.declared.arm.ArmAt.{ArmAt}
use Rattle.draid_rack.specs.declared.Rack as racks
use Rattle.draid_machine.specs.declared.names.ArmName.{ArmName}
use Rattle.draid_slots.specs.declared.slot.Detached.{Detached}
use Rattle.draid_shard.specs.declared.shard.Shard.{Shard}
use Rattle.draid_disks.specs.Checks.{Each}
use Rattle.draid_disks.specs.Disks.{IsNamed}
use Rattle.draid_pool.specs.Keeping.{AllArmsStay, AllAskedStay, AllHaveAsked}
use Rattle.draid_pool.specs.declared.pool.Pool.{Pool}
use Rattle.draid_pool.proofs.Lists.{present}
use Rattle.draid_changes.specs.Behind.{AllHaveTwo, IsGone}
use Rattle.draid_changes.specs.Detaching.{Leaves, MayLeave}
use Rattle.draid_changes.specs.Upgrading.{UpgradesIn}
use Rattle.draid_changes.specs.Walks.{ChangedBelow}
use Rattle.draid_changes.proofs.Walk.{changed_at}

module _ {R A : Type 0} (rack : racks.Ghosts R) where
  -- what is detached has no name of an arm
  none_left : (at : ArmAt) (n : ArmName) (old new : Shard R A) → Leaves rack at n old new → IsNamed old.slots at n → (other : ArmAt) → IsNamed new.slots other n → ⊥
  none_left at n old new s was other is =
      let gone : Detached = record { kind = was.0.kind; number = was.0.number; slot = at.slot; group = old.open_group; offline = was.0.offline } in
      s.valid.once.apart other is.0 gone is.1
      (subst (λ (list : List Detached). Contains list gone) (sym (s.slots.gone was.0 was.1)) (Contains-push old.slots.detached gone)) (is.2 ∙ sym was.2)

  pub all_left : (at : ArmAt) (n : ArmName) (late mid : Pool R A) → ChangedBelow (Leaves rack at n) (length late.metaslabs.shards.items) late.metaslabs.shards.items mid.metaslabs.shards.items
      → ((m : ℕ) (z : Shard R A) → slice_get late.metaslabs.shards.items m ≡ Some z → MayLeave rack at n z) → IsGone n mid
  all_left at n late mid leaves ready m z there =
      let was = changed_at (Leaves rack at n) late.metaslabs.shards.items mid.metaslabs.shards.items leaves m z there in
      none_left at n was.0 z was.2 (ready m was.0 was.1).may.there

  -- where it was asked for already it is asked for
  two_asked : (old new : Shard R A) → UpgradesIn rack old new → new.asked ≡ 2
  two_asked old new (inl s) = s.asked
  two_asked old new (inr s) = ap (λ (z : Shard R A). z.asked) s.0 ∙ by s.2.version
    where
      by : (old.version ≡ 1) ⊎ (old.version ≡ 2) → old.asked ≡ 2
      by (inl one) = (let least = s.2.asked.0 in let most = s.2.asked.1 in let other = s.1 in omega (arith, one, least, most, other))
      by (inr two) = (let least = s.2.asked.0 in let most = s.2.asked.1 in omega (arith, two, least, most))

  pub all_asked : (pool new : Pool R A) → ChangedBelow (UpgradesIn rack) (length pool.metaslabs.shards.items) pool.metaslabs.shards.items new.metaslabs.shards.items
      → Each (λ (shard : Shard R A). shard.asked ≡ 2) new.metaslabs.shards.items
  all_asked pool new upgrades m z there =
      let was = changed_at (UpgradesIn rack) pool.metaslabs.shards.items new.metaslabs.shards.items upgrades m z there in
      two_asked was.0 z was.2

-- ---- behind a sync

module _ {R A : Type 0} (mid new : Pool R A) where
  was_there : length new.metaslabs.shards.items ≡ length mid.metaslabs.shards.items → (m : ℕ) (z : Shard R A) → slice_get new.metaslabs.shards.items m ≡ Some z → (y : Shard R A) × (slice_get mid.metaslabs.shards.items m ≡ Some y)
  was_there many m z there = (let inside = slice_get_within new.metaslabs.shards.items m z there in present mid.metaslabs.shards.items m (omega (arith, inside, many)))

  pub gone_on : (n : ArmName) → AllArmsStay mid new → IsGone n mid → IsGone n new
  gone_on n stay gone m z there at named =
      let y = was_there stay.many m z there in
      gone m y.0 y.1 at (named.0, ap (λ (arms : List (List Arm)). slice_get (slice_index_or arms at.slot []) at.arm) (sym (stay.each m y.0 z y.1 there).arms_stay) ∙ named.1, named.2)

  pub two_on : AllAskedStay mid new → AllHaveAsked new → Each (λ (shard : Shard R A). shard.asked ≡ 2) mid.metaslabs.shards.items → AllHaveTwo new
  two_on stay have two m z there = (let y = was_there stay.many m z there in have m z there ∙ (stay.each m y.0 z y.1 there ∙ two m y.0 y.1))
