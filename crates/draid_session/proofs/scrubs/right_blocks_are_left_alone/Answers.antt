use Rattle.draid_session.proofs.Landing.{few_rewritten, leaves_clean}
use Rattle.draid_session.proofs.scrubs.right_blocks_are_left_alone.Goals as goal

pub returns-clause-clean : goal.returns-clause-clean
returns-clause-clean c layout state new pass serial failed patched pieces x y step lay reached acts right = leaves_clean layout lay state new reached pass serial failed.items patched.items step pieces x y acts right

pub returns-clause-few : goal.returns-clause-few
returns-clause-few c layout state new pass serial failed patched pieces x y step lay reached acts right = few_rewritten layout state.core step.h patched.items
    (λ col n r at. leaves_clean layout lay state new reached pass serial failed.items patched.items step pieces x y acts right col n r (step.lands.landed col n r at)) layout.columns
