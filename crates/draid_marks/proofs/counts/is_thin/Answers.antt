use Rattle.draid_marks.proofs.counts.is_thin.Goals as goal

pub returns-then-is_born_in : goal.returns-then-is_born_in
returns-then-is_born_in c = (λ is. (c.is_born_in.ensures.0 c.if-is_born_in.true, c.lacks_clean.ensures.0 is), λ thin. c.lacks_clean.ensures.1 thin.1)

pub returns-else-is_born_in : goal.returns-else-is_born_in
returns-else-is_born_in c = (λ is. absurd (cc), λ thin. c.is_born_in.ensures.1 thin.0)
