use Rattle.std.proofs.Common.{arith, refl}
use Rattle.draid_machine.specs.After.{cancel_state}
use Rattle.draid_shard.proofs.Changed.{same_entries}
use Rattle.draid_shard.proofs.Kept.{stored_more}
use Rattle.draid_passing.proofs.Cancelled.{cancel_in, cancel_step, cancel_valid}
use Rattle.draid_passing.proofs.Spaces.{untold}
use Rattle.draid_passing.proofs.cancelling.cancel.Goals as goal

pub returns : goal.returns
returns g c =
    let old = c.args.shard.now in
    let e = c.add.ensures in
    record {
      valid = cancel_valid old c.enable.new.self c.add.new.self g.R.Rack c.requires.valid c.enable.ensures
          (let owed = e.owed in let pass = c.owed_for_pass.ensures in let loan = c.owed_for_loan.ensures in omega (arith, owed, pass, loan)) e.reserved (stored_more old.history c.add.new.self _ e.stored);
      kit = record { rack = refl; areas = record { even = refl; odd = refl } };
      event = record {
        part = refl;
        stored = e.stored;
        leads = λ w reached is. record {
          state = cancel_state w;
          step = cancel_step old c.enable.new.self c.add.new.self c.requires.pass w is;
          is_in = cancel_in old c.enable.new.self c.add.new.self w is;
        };
      };
      acts = λ pieces w after step reached is. untold (g.R.Rack.told old.rack);
      keeps = record { entries = same_entries old.entries; groups = record { open_group_is = refl; closing = refl; sealed = refl; committed = refl } };
      slots = refl;
      none = refl;
      reserve = record { reserved = e.reserved; limit = e.limit };
    }
