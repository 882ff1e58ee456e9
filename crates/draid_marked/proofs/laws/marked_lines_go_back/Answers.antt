use Rattle.std.proofs.Common.{subst}
use Rattle.draid_reply.specs.declared.reply.Reply.TheVariants as reply
use Rattle.draid_session.specs.Marked.{GoesBack, IsOpenThen, TakesMark}
use Rattle.draid_session.specs.Places.{Outside}
use Rattle.draid_session.proofs.Marked.{checkpointed_has, rewound_now}
use Rattle.draid_marked.proofs.Standing.{on_have}
use Rattle.draid_marked.proofs.laws.marked_lines_go_back.Goals as goal

pub returns : goal.returns
returns c lines replies old first mid new group later many is_open takes leaves all still back object =
    let t : TakesMark old (reply.Checkpointed group) first = subst (λ b. IsOpenThen b TakesMark old (reply.Checkpointed group) first) is_open takes in
    let r : GoesBack mid (reply.Rewound later many) new = subst (λ b. IsOpenThen b GoesBack mid (reply.Rewound later many) new) still back in
    rewound_now old.book.now r.0 mid new later (on_have old.book.now lines replies Outside Outside first mid leaves (checkpointed_has old first group t.2) all) r.1 r.4 object
