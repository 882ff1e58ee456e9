use Rattle.std.proofs.Common.{ap}
use Rattle.draid_script.specs.Line.{command_in}
use Rattle.draid_script.specs.declared.line.Line.{Line}
use Rattle.draid_run.specs.Desks.{asked_in}
use Rattle.draid_run.proofs.Asking.{asks_nothing}
use Rattle.draid_run.proofs.answer.asked.Goals as goal

pub returns-in-Write : goal.returns-in-Write
returns-in-Write c = ap (λ (l : Line). asked_in (command_in l)) c.in-Write.is

pub returns-in-Fill : goal.returns-in-Fill
returns-in-Fill c = ap (λ (l : Line). asked_in (command_in l)) c.in-Fill.is

pub returns-in-Read : goal.returns-in-Read
returns-in-Read c = ap (λ (l : Line). asked_in (command_in l)) c.in-Read.is

pub returns-in-Free : goal.returns-in-Free
returns-in-Free c = ap (λ (l : Line). asked_in (command_in l)) c.in-Free.is

pub returns-in-Sum : goal.returns-in-Sum
returns-in-Sum c = ap (λ (l : Line). asked_in (command_in l)) c.in-Sum.is

pub returns-in-Damage : goal.returns-in-Damage
returns-in-Damage c = ap (λ (l : Line). asked_in (command_in l)) c.in-Damage.is

pub returns-in-Status : goal.returns-in-Status
returns-in-Status c = ap (λ (l : Line). asked_in (command_in l)) c.in-Status.is

pub returns-in-Detach : goal.returns-in-Detach
returns-in-Detach c = ap (λ (l : Line). asked_in (command_in l)) c.in-Detach.is

pub returns-in-Upgrade : goal.returns-in-Upgrade
returns-in-Upgrade c = ap (λ (l : Line). asked_in (command_in l)) c.in-Upgrade.is

pub returns-in-Sync : goal.returns-in-Sync
returns-in-Sync c = ap (λ (l : Line). asked_in (command_in l)) c.in-Sync.is

pub returns-in-Rebuild : goal.returns-in-Rebuild
returns-in-Rebuild c = ap (λ (l : Line). asked_in (command_in l)) c.in-Rebuild.is

pub returns-in-Scrub : goal.returns-in-Scrub
returns-in-Scrub c = ap (λ (l : Line). asked_in (command_in l)) c.in-Scrub.is

pub returns-in-Rebalance : goal.returns-in-Rebalance
returns-in-Rebalance c = ap (λ (l : Line). asked_in (command_in l)) c.in-Rebalance.is

pub returns-in-Cancel : goal.returns-in-Cancel
returns-in-Cancel c = ap (λ (l : Line). asked_in (command_in l)) c.in-Cancel.is

pub returns-in-Checkpoint : goal.returns-in-Checkpoint
returns-in-Checkpoint c = ap (λ (l : Line). asked_in (command_in l)) c.in-Checkpoint.is

pub returns-in-Rewind : goal.returns-in-Rewind
returns-in-Rewind c = ap (λ (l : Line). asked_in (command_in l)) c.in-Rewind.is

pub returns-in-Discard : goal.returns-in-Discard
returns-in-Discard c = ap (λ (l : Line). asked_in (command_in l)) c.in-Discard.is

pub unreachable-requires : goal.unreachable-requires
unreachable-requires c =
    c.requires (asks_nothing c.args.line.now c.in_default.not-Write c.in_default.not-Fill c.in_default.not-Read c.in_default.not-Free c.in_default.not-Sum c.in_default.not-Offline c.in_default.not-Online c.in_default.not-Damage c.in_default.not-Spare c.in_default.not-Replace c.in_default.not-Status c.in_default.not-Detach c.in_default.not-Upgrade c.in_default.not-Rebuild c.in_default.not-Scrub c.in_default.not-Cancel c.in_default.not-Rebalance c.in_default.not-Sync c.in_default.not-Checkpoint c.in_default.not-Rewind c.in_default.not-Discard)
