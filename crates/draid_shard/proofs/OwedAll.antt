-- What a history owes, without what is reserved, is owed in each state for which the shard stands.
use Rattle.std.proofs.Common.{◌≡◌, ◌+◌, ◌∙◌, ◌↔◌, ℕ, Option, Some, None, option_map, arith, refl, ap, is_some}
use Rattle.draid_rack.specs.declared.Rack.{Ghosts}
use Rattle.draid_machine.specs.State as machine
use Rattle.draid_pass.specs.declared.pass.Pass.{Pass}
use Rattle.draid_slots.specs.Table.{SlotTable}
use Rattle.draid_entries.specs.Entries.{owed_by}
use Rattle.draid_entries.specs.History.{owed_of, reserved_of}
use Rattle.draid_entries.specs.Owed.{IsOwed, owed_by_group, owed_by_loan, owed_by_pass}
use Rattle.draid_entries.proofs.Owing.{owes, owes_back}
use Rattle.draid_shard.specs.declared.shard.Shard.{Shard}
use Rattle.draid_shard.specs.Fits.{Valid, owed_for_group, owed_for_pass}
use Rattle.draid_shard.specs.Loans.{loan_in, owed_for_loan}
use Rattle.draid_shard.specs.declared.loan.KeptLoan.{KeptLoan}
use Rattle.draid_shard.specs.States.{IsIn}
use Rattle.draid_slots.specs.States.{pass_in}

pass_owes : (slots : SlotTable) (pass : Option Pass) → owed_by_pass (option_map (pass_in slots) pass) ≡ owed_for_pass pass
pass_owes slots None = refl
pass_owes slots (Some pass) = refl

group_owes : (closing : Option ℕ) (sealed : Option machine.Image) → owed_by_group closing sealed ≡ owed_for_group closing (is_some sealed)
group_owes None sealed = refl
group_owes (Some t) None = refl
group_owes (Some t) (Some image) = refl

loan_owes : (kept : Option KeptLoan) → owed_by_loan (option_map loan_in kept) ≡ owed_for_loan kept
loan_owes None = refl
loan_owes (Some kept) = refl

-- what is owed besides blocks and tickets
besides : {R A : Type 0} (shard : Shard R A) (w : machine.State) → IsIn shard w
    → owed_by_pass w.core.pass + owed_by_loan w.loan + owed_by_group w.closing w.sealed ≡ owed_for_pass shard.pass + owed_for_loan shard.kept + owed_for_group shard.closing shard.sealed
besides shard w is_in =
    let pass : owed_by_pass w.core.pass ≡ owed_for_pass shard.pass = ap owed_by_pass is_in.pass ∙ pass_owes shard.slots shard.pass in
    let loan : owed_by_loan w.loan ≡ owed_for_loan shard.kept = ap owed_by_loan is_in.loan ∙ loan_owes shard.kept in
    let group : owed_by_group w.closing w.sealed ≡ owed_for_group shard.closing shard.sealed
    = group_owes w.closing w.sealed ∙ ap (λ t. owed_for_group t (is_some w.sealed)) is_in.closing ∙ ap (owed_for_group shard.closing) is_in.sealed in
    omega (arith, pass, loan, group)

pub owed_is : {R A : Type 0} (rack : Ghosts R) (shard : Shard R A) (w : machine.State) (owed : ℕ) → Valid rack shard → IsIn shard w
    → (IsOwed shard.geometry.g w owed ↔ (owed + reserved_of shard.history ≡ owed_of shard.history))
owed_is rack shard w owed v is_in = (to, from)
  where
    rest : owed_by_pass w.core.pass + owed_by_loan w.loan + owed_by_group w.closing w.sealed ≡ owed_for_pass shard.pass + owed_for_loan shard.kept + owed_for_group shard.closing shard.sealed
    rest = besides shard w is_in

    to : IsOwed shard.geometry.g w owed → owed + reserved_of shard.history ≡ owed_of shard.history
    to o =
        let blocks = owes shard.entries w.core shard.geometry.g o.blocks is_in.held o.by_blocks in
        let is = o.is in
        let all = v.owed in
        omega (arith, blocks, is, all, rest)

    from : owed + reserved_of shard.history ≡ owed_of shard.history → IsOwed shard.geometry.g w owed
    from same = record {
      blocks = owed_by shard.geometry.g shard.entries;
      by_blocks = owes_back shard.entries w.core shard.geometry.g (owed_by shard.geometry.g shard.entries) is_in.held refl;
      is = let all = v.owed in omega (arith, same, all, rest);
    }
