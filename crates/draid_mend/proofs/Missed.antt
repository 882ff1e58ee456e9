-- The columns of a loan that were read from no source: they ascend, and are columns. A loan is kept as well behind their solving.
use Rattle.std.proofs.Common.{◌≡◌, ◌<◌, ◌++◌, ◌∷◌, ◌∙◌, [], ℕ, zero, suc, Bool, true, false, List, Option, None, IfSome, Some, arith, sym, ap, subst, if◌then◌else◌}
use Rattle.std.specs.Prelude.{All, is_none, slice_index_or}
use Rattle.std.specs.List.Sorted.{IsStrictlyIncreasing}
use Rattle.std.proofs.lemmas.List.Elements.{All-nil, All-push}
use Rattle.draid_rack.specs.declared.Rack.{Ghosts}
use Rattle.draid_block.proofs.Sets.{ascending-push}
use Rattle.draid_shard.specs.Fits.{Valid}
use Rattle.draid_shard.specs.Loans.{IsKept, IsLentStripe, owed_for_loan}
use Rattle.draid_shard.specs.declared.loan.KeptLoan.TheVariants.{Stripe}
use Rattle.draid_shard.specs.declared.loan.LentStripe.{LentStripe}
use Rattle.draid_shard.specs.declared.loan.Source.{Source}
use Rattle.draid_shard.specs.declared.shard.Shard.{Shard}
use Rattle.draid_mend.specs.Missing.{missing_in}

module _ (chosen : List (Option Source)) where
  less_by : (c : ℕ) (b : Bool) → All (λ i. i < c) (missing_in chosen c) → All (λ i. i < suc c) (if b then missing_in chosen c ++ c ∷ [] else missing_in chosen c)
  less_by c true all = All-push (λ i. i < suc c) (missing_in chosen c) c (λ k d there. (let less = all k d there in omega (arith, less))) (omega arith)
  less_by c false all = λ k d there. (let less = all k d there in omega (arith, less))

  pub missing_less : (n : ℕ) → All (λ i. i < n) (missing_in chosen n)
  missing_less zero = All-nil (λ i. i < zero)
  missing_less (suc c) = less_by c (is_none (slice_index_or chosen c None)) (missing_less c)

  ascend_by : (c : ℕ) (b : Bool) → IsStrictlyIncreasing (missing_in chosen c) → IsStrictlyIncreasing (if b then missing_in chosen c ++ c ∷ [] else missing_in chosen c)
  ascend_by c true all = ascending-push (missing_in chosen c) c all (missing_less c)
  ascend_by c false all = all

  pub missing_ascends : (n : ℕ) → IsStrictlyIncreasing (missing_in chosen n)
  missing_ascends zero = λ k below. absurd (omega (arith, below))
  missing_ascends (suc c) = ascend_by c (is_none (slice_index_or chosen c None)) (missing_ascends c)

-- a loan whose columns changed alone, and not in their number and length
module _ {R A : Type 0} (rack : Ghosts R) (old : Shard R A) (v : Valid rack old) (kept new : LentStripe) (there : old.kept ≡ Some (Stripe kept)) (rest : new ≡ record kept { columns = new.columns })
    (parity : new.columns.parity ≡ kept.columns.parity) (ndata : new.columns.ndata ≡ kept.columns.ndata) (len : new.columns.len ≡ kept.columns.len) where
  is : IsLentStripe old.geometry old.pass kept
  is = subst (λ o. IfSome o (IsKept old.geometry old.pass)) there v.kept

  still : IsLentStripe old.geometry old.pass (record kept { columns = new.columns })
  still = record {
    lender = is.lender;
    there = is.there;
    kind = is.kind;
    inside = is.inside;
    chosen = is.chosen;
    columns = record { parity = parity ∙ is.columns.parity; ndata = ndata ∙ is.columns.ndata };
    sector = len ∙ is.sector;
    room = is.room;
  }

  pub solved_valid : Valid rack (record old { kept = Some (Stripe new) })
  solved_valid = record {
    part = v.part;
    version = v.version;
    asked = v.asked;
    tables = v.tables;
    disabled = v.disabled;
    few = v.few;
    here = v.here;
    slots = v.slots;
    once = v.once;
    pass = v.pass;
    kept = subst (IsLentStripe old.geometry old.pass) (sym rest) still;
    serial = v.serial;
    flushed = v.flushed;
    logs = v.logs;
    leaves = v.leaves;
    groups = v.groups;
    low = v.low;
    tickets = v.tickets;
    settled = v.settled;
    owed = (let was = v.owed in let one : owed_for_loan old.kept ≡ 1 = ap owed_for_loan there in omega (arith, was, one));
  }
