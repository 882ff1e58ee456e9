use Rattle.draid_disks.proofs.Alike.{share_attached, share_detached}
use Rattle.draid_disks.proofs.laws.changes_keep_arms_shared.Goals as goal

pub returns-clause-attach : goal.returns-clause-attach
returns-clause-attach c = λ a b v d slot arm same also share one other. share_attached a b v d slot arm same also share one other

pub returns-clause-detach : goal.returns-clause-detach
returns-clause-detach c = λ a b v d at group x y same also low is_x is_y share one other. share_detached a b v d at group x y same also low is_x is_y share one other
