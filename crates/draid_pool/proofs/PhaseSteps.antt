-- What the phases of a sync over metaslabs ask of each other.
use Rattle.std.proofs.Common.{◌≡◌, ◌<◌, ◌≤◌, ◌+◌, ◌∙◌, ℕ, Bool, true, Option, Some, arith, sym, subst}
use Rattle.draid_names.specs.declared.numbers.TheConstants.{LAST_NUMBER}
use Rattle.draid_rack.specs.declared.Rack as racks
use Rattle.draid_area.specs.declared.Area as areas
use Rattle.draid_record.specs.declared.uber.UberBody.{UberBody}
use Rattle.draid_shard.specs.Fits.{AreGroups}
use Rattle.draid_shard.specs.declared.shard.Shard.{Shard}
use Rattle.draid_uber.specs.Held.{IsNext}
use Rattle.draid_uber.specs.Slots.{group_of}
use Rattle.draid_pool.specs.Drifts.{Drifts, groups_number}
use Rattle.draid_pool.specs.Grouping.{ClosesNext, CommitsNext}
use Rattle.draid_pool.specs.Rounds.{EachIs}
use Rattle.draid_pool.proofs.GroupKeeps.{close_ready, closing_behind}
use Rattle.draid_pool.proofs.Holding.{some_same}
use Rattle.draid_pool.proofs.Wholes.{open_high}

module _ {R A : Type 0} (rack : racks.Ghosts R) where
  -- there is a number for the next group
  pub next_low : (group count : ℕ) (last : ℕ → Option (Shard R A)) → 0 < count → EachIs count (ClosesNext rack group) last → group ≤ LAST_NUMBER
  next_low group count last some each =
      let z = each 0 some in
      let high = open_high z.0.open_group z.0.closing z.0.committed z.0.sealed z.2.valid.groups in
      let low = z.2.valid.low in
      let is = z.2.next in
      omega (arith, high, low, is)

  -- and one behind it where it is sealed
  pub sealed_is_next : (kept : Option UberBody) (group count : ℕ) (last : ℕ → Option (Shard R A)) → 0 < count → group ≡ group_of kept + 1 → EachIs count (CommitsNext rack group) last → IsNext kept group
  sealed_is_next kept group count last some next each =
      let z = each 0 some in
      let are : (z.0.open_group ≡ group + 1) × (group ≡ z.0.committed + 1) = subst (λ o. AreGroups z.0.open_group o z.0.committed z.0.sealed) z.2.closing z.2.valid.groups in
      let behind = are.0 in
      let low = z.2.valid.low in
      record { behind = omega (arith, next); below = omega (arith, behind, low) }

  module _ (area : areas.Ghosts A) (shared : Bool) (owns : ℕ → Bool) (own : owns groups_number ≡ true) (count : ℕ) (last : ℕ → Option (Shard R A)) (m : ℕ) (less : m < count) (shard before : Shard R A) (there : last m ≡ Some shard)
      (drifts : Drifts rack area shared owns shard before) (next : ℕ) (each : EachIs count (ClosesNext rack next) last) where
    -- a metaslab as it was found is ready for what it was as it was left
    pub found_ready : ClosesNext rack next before
    found_ready = (let z = each m less in close_ready rack area shared owns own next shard before drifts (subst (ClosesNext rack next) (some_same z.0 shard (sym z.1 ∙ there)) z.2))

    -- the group that is closing there is the next one
    pub found_next : (group : ℕ) → before.closing ≡ Some group → group ≡ next
    found_next group closing = (let behind = closing_behind rack area before group drifts.valid closing in let is = found_ready.next in omega (arith, behind, is))
