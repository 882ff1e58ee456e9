use Rattle.std.proofs.lemmas.Bool.{true≢false}
use Rattle.std.proofs.Common.{rules, ◌≡◌, ◌∙◌, ap, sym, Some, None, Bool, ℕ}
use Rattle.draid_machine.specs.Arms.{online}
use Rattle.draid_machine.specs.declared.names.ArmName.TheVariants.{Leaf}
use Rattle.draid_world.specs.World.{arm_in, core_of, state_of}
use Rattle.draid_steps.proofs.Lists.{all_numbers, not_all_numbers}
use Rattle.draid_images.specs.declared.copies.Copying.TheVariants.{Sealing}
use Rattle.draid_images.specs.Copies.{copied_core}
use Rattle.draid_images.proofs.Anyone.{online_arm, offline_arm, late, has_written, not_written}
use Rattle.draid_images.proofs.seals.seal.Goals as goal

pub returns-then-not-are_online-clause-illegal : goal.returns-then-not-are_online-clause-illegal
returns-then-not-are_online-clause-illegal c = λ e new step.
    let test : ℕ → Bool = λ leaf. online (arm_in c.args.world.now.tables.arms.entries (Leaf leaf)) in
    let z = not_all_numbers test c.args.failed.now (sym c.are_online.ensures ∙ c.if-not-are_online.true) in
    let f = step.fail z.0 z.1 in
    offline_arm (arm_in c.args.world.now.tables.arms.entries (Leaf z.0)) z.2 f.0 f.1 f.2

pub returns-clause-legal : goal.returns-clause-legal
returns-clause-legal c = λ e.
    let w = c.args.world.now in
    let q = core_of w.tables in
    let t = c.args.group in
    let test : ℕ → Bool = λ leaf. online (arm_in w.tables.arms.entries (Leaf leaf)) in
    let closing : (state_of w).closing ≡ Some t = search rules in
    let unsealed : (state_of w).sealed ≡ None = search rules in
    record {
      wrote = c.has_written-wrote.result;
      closing = closing;
      unsealed = unsealed;
      settled = λ k h found ticket. late t h (c.has_early_ticket.ensures.no c.if-has_early_ticket.false k h found) ticket;
      writes = λ is. let z = c.has_written-wrote.ensures.yes is in has_written q t z.0 z.1 z.2 z.3;
      no_writes = λ is written. not_written t written.h (c.has_written-wrote.ensures.no is written.key written.h written.found) written.block written.born written.stays;
      fail = λ leaf has. online_arm (arm_in w.tables.arms.entries (Leaf leaf)) (all_numbers test c.args.failed.now (sym c.are_online.ensures ∙ c.if-not-are_online.false) leaf has);
      made = λ i. record (state_of w) {
        core = c.in_ok-seal_tables.ensures i;
        sealed = Some (record { group = t; version = w.asked; core = (c.in_ok-tables.ensures ∙ ap (copied_core (Sealing t)) c.in_ok-seal_tables.ensures) i });
      };
    }

pub returns-then-has_early_ticket-clause-legal : goal.returns-then-has_early_ticket-clause-legal
returns-then-has_early_ticket-clause-legal c = λ e. absurd (true≢false (sym e))

pub returns-then-not-are_online-clause-legal : goal.returns-then-not-are_online-clause-legal
returns-then-not-are_online-clause-legal c = λ e. absurd (true≢false (sym e))

pub returns-clause-illegal : goal.returns-clause-illegal
returns-clause-illegal c = λ e. absurd (true≢false e)
