use Rattle.std.proofs.Common.{subst}
use Rattle.draid_reply.specs.declared.reply.Reply.TheVariants as reply
use Rattle.draid_session.specs.Marked.{GoesBack, IsOpenThen, TakesMark}
use Rattle.draid_session.proofs.Marked.{checkpointed_has, rewound_now}
use Rattle.draid_marked.proofs.Standing.{on_have, run_has}
use Rattle.draid_marked.proofs.laws.checkpoints_stand.Goals as goal

pub returns-clause-made : goal.returns-clause-made
returns-clause-made c old new group is_open takes =
    let t : TakesMark old (reply.Checkpointed group) new = subst (λ b. IsOpenThen b TakesMark old (reply.Checkpointed group) new) is_open takes in
    checkpointed_has old new group t.2

pub returns-clause-lines : goal.returns-clause-lines
returns-clause-lines c objects lines replies from to old new has leaves on = on_have objects lines replies from to old new leaves has on

pub returns-clause-runs : goal.returns-clause-runs
returns-clause-runs c objects lines replies to broken saids old new has leaves last run = run_has objects lines replies to broken saids old new leaves last has run

pub returns-clause-rewound : goal.returns-clause-rewound
returns-clause-rewound c objects old new group many has is_open back object =
    let r : GoesBack old (reply.Rewound group many) new = subst (λ b. IsOpenThen b GoesBack old (reply.Rewound group many) new) is_open back in
    rewound_now objects r.0 old new group has r.1 r.4 object
