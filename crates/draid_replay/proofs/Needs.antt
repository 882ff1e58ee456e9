-- What calls ask of a state whose numbers are in their ranges.
use Rattle.std.proofs.Common.{◌≡◌, ◌<◌, ◌^◌, Option, Some, None, IfSome, option_map, refl, ap, arith}
use Rattle.draid_machine.specs.State as state
use Rattle.draid_world.specs.World.{AreLow, core_of, held_in, image_of, loan_of, pass_of, state_of}
use Rattle.draid_world.specs.declared.world.Lent.{Lent}
use Rattle.draid_world.specs.declared.world.World.{World}
use Rattle.draid_world.specs.declared.world.WorldPass.{WorldPass}
use Rattle.draid_passes.specs.Left.{AreShort}
use Rattle.draid_steps.specs.Columns.{AreCounted}
use Rattle.draid_images.specs.Openings.{IsLowImage}
use Rattle.draid_replay.specs.Within.{IsWithin, IsSmallImage}

pub low : (w : World) → IsWithin (state_of w) → AreLow (core_of w.tables)
low w s k h found = let short = (s.holds k h found).short in omega (arith, short)

pub counted : (w : World) → IsWithin (state_of w) → AreCounted (core_of w.tables)
counted w s k h found = let small = s.holds k h found in (small.birth, small.counted)

pub short : (w : World) → IsWithin (state_of w) → AreShort (held_in w.tables.held.entries)
short w s k h found = (s.holds k h found).short

low_image : (i : state.Image) → IsSmallImage i → IsLowImage i
low_image i s = ((let g = s.group in omega (arith, g)), λ k h found. let short = (s.held k h found).short in omega (arith, short))

pub image_low : (w : World) → IsWithin (state_of w) → IsLowImage (image_of w.image)
image_low w s = low_image (image_of w.image) s.opened

pub sealed_low : (w : World) → IsWithin (state_of w) → (i : state.Image) → (state_of w).sealed ≡ Some i → IsLowImage i
sealed_low w s i is = low_image i (s.seals i is)

pub max_small : (w : World) → IsWithin (state_of w) → IfSome w.tables.pass (λ pass. pass.max < 2 ^ 48)
max_small w s = by w.tables.pass refl
  where
    by : (o : Option WorldPass) → w.tables.pass ≡ o → IfSome o (λ pass. pass.max < 2 ^ 48)
    by None is = tt
    by (Some p) is = s.passes (pass_of p) (ap (option_map pass_of) is)

pub stripe_small : (w : World) → IsWithin (state_of w) → IfSome w.loan (λ loan. loan.stripe < 2 ^ 48)
stripe_small w s = by w.loan refl
  where
    by : (o : Option Lent) → w.loan ≡ o → IfSome o (λ loan. loan.stripe < 2 ^ 48)
    by None is = tt
    by (Some n) is = s.lends (loan_of n) (ap (option_map loan_of) is)
