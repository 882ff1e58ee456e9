-- A restored block landed on all its arms.
use Rattle.std.proofs.Common.{◌+◌, ℕ, true, false, List, Option, Some, None, sym, subst, inl, inr, length}
use Rattle.draid_machine.specs.Names.{has_number}
use Rattle.draid_machine.specs.declared.event.Patched.{Patched}
use Rattle.draid_machine.proofs.Small.{either_true}
use Rattle.draid_rack.specs.Rack.{OnBothTold, OnTold, Told}
use Rattle.draid_heal.specs.Arms.{HealsArms}
use Rattle.draid_heal.specs.Settle.{AreFine, FirmArms}
use Rattle.draid_heal.specs.Stands.{LandsRows, SettlesArms}
use Rattle.draid_shard.specs.declared.loan.Spot.{Spot}
use Rattle.draid_heal.proofs.Armed.{get_upto}
use Rattle.draid_heal.proofs.Settled.{unsettled}

module _ (count size : ℕ) (spots : List Spot) (patched : List Patched) (columns : List (List ℕ)) (failed : List ℕ) where
  pub firm_arms : (o p : Option Told) → OnBothTold o p (HealsArms count size spots patched columns (length spots) failed) → AreFine spots failed → OnTold p (FirmArms count spots patched)
  firm_arms None p h fine = subst (λ p. OnTold p (FirmArms count spots patched)) (sym h) tt
  firm_arms (Some x) None h fine = absurd h
  firm_arms (Some x) (Some y) h fine = λ k r spot part at noted less is. let s = h.stands k spot part (get_upto spots k spot at) at noted in
      elim (either_true spot.clean (has_number part.landed.items r) is) [
        | inl clean ↦ s.firm (fine k spot at clean) (spot.first + r)
        | inr landed ↦ s.landed_firm r landed
      ]

  pub lands_part : (o p : Option Told) → OnBothTold o p (HealsArms count size spots patched columns (length spots) failed) → OnBothTold o p (LandsRows count size spots patched columns failed false)
  lands_part None p h = h
  lands_part (Some x) None h = h
  lands_part (Some x) (Some y) h = record { y = y; heals = h; settles = unsettled count spots patched y }

  pub lands_whole : (o p q : Option Told) → OnBothTold o p (HealsArms count size spots patched columns (length spots) failed) → OnBothTold p q (SettlesArms count spots patched true) → OnBothTold o q (LandsRows count size spots patched columns failed true)
  lands_whole None None q h s = s
  lands_whole None (Some y) q h s = absurd (cc)
  lands_whole (Some x) None q h s = absurd h
  lands_whole (Some x) (Some y) None h s = absurd s
  lands_whole (Some x) (Some y) (Some z) h s = record { y = y; heals = h; settles = s }
