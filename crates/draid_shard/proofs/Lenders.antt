-- The loan that a shard keeps, and the rooms of its pass, where another pass takes the place of the old one.
use Rattle.std.proofs.Common.{◌≡◌, ◌*◌, ◌≤◌, ◌∙◌, ℕ, zero, suc, Bool, Option, Some, None, IfSome, arith, refl, sym, ap, length, if◌then◌else◌}
use Rattle.draid_spec.specs.declared.layout.Geometry.{Geometry}
use Rattle.draid_machine.proofs.Small.{none_some, some_injective}
use Rattle.draid_pass.specs.declared.pass.Pass.{Pass}
use Rattle.draid_shard.specs.Fits.{birth_groups, changes_for_end, is_rebuild}
use Rattle.draid_shard.specs.Loans.{HasFlushRoom, IsKept, IsLentBlock, IsLentStripe}
use Rattle.draid_shard.specs.declared.loan.KeptLoan.{KeptLoan}
use Rattle.draid_shard.specs.declared.loan.KeptLoan.TheVariants.{Block, Stripe}
use Rattle.draid_shard.specs.declared.loan.LentBlock.{LentBlock}
use Rattle.draid_shard.specs.declared.loan.LentStripe.{LentStripe}

times_less : (g a b : ℕ) → a ≤ b → g * a ≤ g * b
times_less zero a b le = omega arith
times_less (suc g) a b le = let less = times_less g a b le in omega (arith, le, less)

-- a pass of the same kind, with no more targets
abbrev pub StillLends : Option Pass → Option Pass → Type 0
StillLends None None = Unit {0}
StillLends None (Some q) = ⊥
StillLends (Some p) None = ⊥
StillLends (Some p) (Some q) = (q.kind ≡ p.kind) × (length q.targets.items ≤ length p.targets.items)

stripe_by : (geometry : Geometry) (old new : Option Pass) (lent : LentStripe) → StillLends old new → IsLentStripe geometry old lent → IsLentStripe geometry new lent
stripe_by geometry None new lent still is = absurd (none_some None is.lender refl is.there)
stripe_by geometry (Some p) None lent still is = absurd still
stripe_by geometry (Some p) (Some q) lent still is =
    let same : p ≡ is.lender = some_injective p is.lender is.there in
    let room = is.room in
    let count : length is.lender.targets.items ≡ length p.targets.items = ap (λ (x : Pass). length x.targets.items) (sym same) in
    let fewer = still.1 in
    let less = times_less geometry.g (length q.targets.items) (length is.lender.targets.items) (omega (arith, count, fewer)) in
    record {
      lender = q;
      there = refl;
      kind = still.0 ∙ ap (λ (x : Pass). x.kind) same ∙ is.kind;
      inside = is.inside;
      chosen = is.chosen;
      columns = is.columns;
      sector = is.sector;
      room = omega (arith, less, room);
    }

block_by : (geometry : Geometry) (old new : Option Pass) (lent : LentBlock) → StillLends old new → IsLentBlock geometry old lent → IsLentBlock geometry new lent
block_by geometry None new lent still is = absurd (none_some None is.lender refl is.there)
block_by geometry (Some p) None lent still is = absurd still
block_by geometry (Some p) (Some q) lent still is = record {
  lender = q;
  there = refl;
  kind = still.0 ∙ ap (λ (x : Pass). x.kind) (some_injective p is.lender is.there) ∙ is.kind;
  run = is.run;
  chosen = is.chosen;
  fetched = is.fetched;
  restored = is.restored;
  room = is.room;
}

kept_by : (geometry : Geometry) (old new : Option Pass) (kept : KeptLoan) → StillLends old new → IsKept geometry old kept → IsKept geometry new kept
kept_by geometry old new (Stripe lent) still is = stripe_by geometry old new lent still is
kept_by geometry old new (Block lent) still is = block_by geometry old new lent still is

pub kept_still : (geometry : Geometry) (old new : Option Pass) (kept : Option KeptLoan) → StillLends old new → IfSome kept (IsKept geometry old) → IfSome kept (IsKept geometry new)
kept_still geometry old new None still is = tt
kept_still geometry old new (Some kept) still is = kept_by geometry old new kept still is

pub flush_still : (children room : ℕ) (old new : Option Pass) → StillLends old new → HasFlushRoom children old room → HasFlushRoom children new room
flush_still children room None None still has = tt
flush_still children room None (Some q) still has = absurd still
flush_still children room (Some p) None still has = absurd still
flush_still children room (Some p) (Some q) still has = has

-- as many changes of a log are wanted
pub changes_still : (old new : Option Pass) (closing : Option ℕ) → is_rebuild new ≡ is_rebuild old → changes_for_end new closing ≡ changes_for_end old closing
changes_still old new closing same = ap (λ (b : Bool). if b then birth_groups closing else 0) same

-- without a pass no loan counts
pub no_loan : (geometry : Geometry) (pass : Option Pass) (kept : Option KeptLoan) → pass ≡ None → IfSome kept (IsKept geometry pass) → kept ≡ None
no_loan geometry pass None none is = refl
no_loan geometry pass (Some (Stripe lent)) none is = absurd (none_some pass is.lender none is.there)
no_loan geometry pass (Some (Block lent)) none is = absurd (none_some pass is.lender none is.there)
