use Rattle.std.proofs.Common.{◌+◌, ◌++◌, ◌∷◌, ◌∙◌, [], List, ap, ap₂}
use Rattle.draid_machine.specs.declared.event.Event.{Event}
use Rattle.draid_entries.proofs.Sets.{on_err_of}
use Rattle.draid_shard.proofs.Changed.{same_entries}
use Rattle.draid_blocks.proofs.tickets.enter.Goals as goal

pub begin-requires : goal.begin-requires
begin-requires c = record { low = c.requires.low; free = c.requires.free; unused = c.requires.unused }

pub add_asked-requires : goal.add_asked-requires
add_asked-requires c = record { some = c.requires.asked; asked = c.in-Ok.ensures.asked }

pub returns : goal.returns
returns c =
    let same = c.ask.ensures.same in
    let e = c.add_asked.ensures in
    record {
      entered = c.in_ok-begin.ensures.entered;
      count = c.in_ok-begin.ensures.count;
      stored = record {
        stored = e.stored ∙ ap₂ (λ (events : List Event) (event : Event). events ++ event ∷ []) same.events c.begin_event.ensures;
        owed = e.owed ∙ ap (λ n. n + c.args.asked) same.owed;
        reserved = e.reserved ∙ same.reserved;
        limit = e.limit ∙ same.limit;
      };
      not_worn = c.in-Ok.ensures.answer;
      same = tt;
      kept = tt;
      refused = tt;
    }

pub returns-in_err-begin-clause-same : goal.returns-in_err-begin-clause-same
returns-in_err-begin-clause-same c = on_err_of c.from_residual.result _ c.in_err-begin.ensures.same

pub returns-in_err-begin-clause-kept : goal.returns-in_err-begin-clause-kept
returns-in_err-begin-clause-kept c = on_err_of c.from_residual.result _ c.ask.ensures.same

pub returns-in-Err-Worn-clause-same : goal.returns-in-Err-Worn-clause-same
returns-in-Err-Worn-clause-same c = same_entries c.args.entries.now

pub returns-in-Err-Worn-clause-kept : goal.returns-in-Err-Worn-clause-kept
returns-in-Err-Worn-clause-kept c = c.ask.ensures.same

pub returns-in-Err-NoMemory : goal.returns-in-Err-NoMemory
returns-in-Err-NoMemory c = record {
  entered = tt;
  count = tt;
  stored = tt;
  not_worn = tt;
  same = same_entries c.args.entries.now;
  kept = c.ask.ensures.same;
  refused = tt;
}
