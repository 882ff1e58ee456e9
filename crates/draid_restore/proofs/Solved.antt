-- The block of a loan was restored: the shard stands as before.
use Rattle.std.proofs.Common.{◌≡◌, ◌∙◌, ℕ, Option, None, Some, Result, IfSome, OnErr, OnOk, arith, refl, sym, ap, subst, option_map}
use Rattle.std.specs.Prelude.{Err, Ok}
use Rattle.draid_names.specs.declared.fault.NoMemory.{NoMemory}
use Rattle.draid_spec.specs.declared.layout.Geometry.{Geometry}
use Rattle.draid_block.specs.Blocks.{BlockValue, cut_of}
use Rattle.draid_block.specs.Solving.{IsFetched}
use Rattle.draid_block.specs.declared.solve.SolveFault.{SolveFault}
use Rattle.draid_block.specs.declared.solve.SolveFault.TheVariants.{Unreadable}
use Rattle.draid_rack.specs.declared.Rack.{Ghosts}
use Rattle.draid_shard.specs.Fits.{Valid}
use Rattle.draid_shard.specs.Loans.{IsKept, IsLentBlock, IsRestoredBlock, block_loan, loan_in, owed_for_loan}
use Rattle.draid_shard.specs.States.{DoesNone}
use Rattle.draid_shard.specs.declared.loan.KeptLoan.TheVariants.{Block}
use Rattle.draid_shard.specs.declared.loan.LentBlock.{LentBlock}
use Rattle.draid_shard.specs.declared.shard.Shard.{Shard}
use Rattle.draid_restore.specs.Restoring.{AnswersBlock, fetched_of}

pub not_unreadable : (result : Result BlockValue SolveFault) (fault : SolveFault) (absent tried : ℕ) → result ≡ Err fault → fault ≡ Unreadable absent tried
    → ((a t : ℕ) → result ≡ Err (Unreadable a t) → ⊥) → ⊥
not_unreadable result fault absent tried is kind never = never absent tried (is ∙ ap Err kind)

-- what was restored is as long as the block
pub restored_fits : (geometry : Geometry) (lent : LentBlock) (restored : Option BlockValue) (result : Result Unit NoMemory) → OnOk result (AnswersBlock geometry (fetched_of lent) restored)
    → OnErr result (restored ≡ None) → IfSome restored (IsRestoredBlock geometry lent.pointer.len)
restored_fits geometry lent None result answers none = tt
restored_fits geometry lent (Some block) (Ok done) answers none = record { cut = answers.cut_is; long = answers.digest.len }
restored_fits geometry lent (Some block) (Err fault) answers none = absurd (let is : Some block ≡ None = none in cc)

module _ {R A : Type 0} (rack : Ghosts R) (old : Shard R A) (v : Valid rack old) (was : LentBlock) (there : old.kept ≡ Some (Block was)) where
  pub was_lent : IsLentBlock old.geometry old.pass was
  was_lent = subst (λ o. IfSome o (IsKept old.geometry old.pass)) there v.kept

  pub was_fetched : IsFetched (cut_of old.geometry) (fetched_of was)
  was_fetched = was_lent.fetched

  module _ (new : LentBlock) (rest : new ≡ record was { restored = new.restored }) (fits : IfSome new.restored (IsRestoredBlock old.geometry was.pointer.len)) where
    abbrev pub solved : Shard R A
    solved = record old { kept = Some (Block new) }

    still_lent : IsLentBlock old.geometry old.pass new
    still_lent =
        let is = was_lent in
        subst (IsLentBlock old.geometry old.pass) (sym rest)
        (record { lender = is.lender; there = is.there; kind = is.kind; run = is.run; chosen = is.chosen; fetched = is.fetched; restored = fits; room = is.room })

    pub solved_valid : Valid rack solved
    solved_valid = record {
      part = v.part;
      version = v.version;
      asked = v.asked;
      tables = v.tables;
      disabled = v.disabled;
      few = v.few;
      here = v.here;
      slots = v.slots;
      once = v.once;
      pass = v.pass;
      kept = still_lent;
      serial = v.serial;
      flushed = v.flushed;
      logs = v.logs;
      leaves = v.leaves;
      groups = v.groups;
      low = v.low;
      tickets = v.tickets;
      settled = v.settled;
      owed = (let all = v.owed in let one : owed_for_loan old.kept ≡ 1 = ap owed_for_loan there in omega (arith, all, one));
    }

    pub solved_none : DoesNone old solved
    solved_none = record {
      part = refl;
      stored = refl;
      stays = λ w is. record {
        held = is.held;
        slots = record { order = is.slots.order; arms = is.slots.arms; detached = is.slots.detached; only = is.slots.only };
        pass = is.pass;
        last = is.last;
        open_group_is = is.open_group_is;
        closing = is.closing;
        sealed = is.sealed;
        committed = is.committed;
        version = is.version;
        asked = is.asked;
        serial = is.serial;
        loan = is.loan ∙ ap (option_map loan_in) there ∙ ap (λ (x : LentBlock). Some (block_loan x)) (sym rest);
      };
    }
