use Rattle.draid_section.proofs.Idle.{ok_map}
use Rattle.draid_section.proofs.section.run_under.Goals as goal

pub run_over-requires-clause-may : goal.run_over-requires-clause-may
run_over-requires-clause-may g c κs within = c.requires.may c.in-Ok-lock_uber.made.turn c.in-Ok-lock_uber.made.first c.in-Ok-lock_uber.ensures.locked

pub returns-in-Ok-lock_uber-clause-ran : goal.returns-in-Ok-lock_uber-clause-ran
returns-in-Ok-lock_uber-clause-ran g c = ok_map c.run_over.result.2 (λ over. record { lock = c.in-Ok-lock_uber.made.turn; first = c.in-Ok-lock_uber.made.first; made = c.in-Ok-lock_uber.ensures.locked; over = over }) c.run_over.ensures.ran
