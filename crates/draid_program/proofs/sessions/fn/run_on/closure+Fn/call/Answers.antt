use Rattle.draid_program.proofs.sessions.fn.run_on.closure+Fn.call.Goals as goal

pub closure-requires : goal.closure-requires
closure-requires g c =
    let given = c.requires.1.1.1.1 in
    let bounds = given.1.1.1.1 in
    (bounds.0, (bounds.1, (bounds.2, (bounds.3, (given.0, (given.1.0, (given.1.1.0, given.1.1.1.0)))))))
