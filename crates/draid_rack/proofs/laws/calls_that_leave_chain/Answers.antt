use Rattle.draid_rack.proofs.Moments.{kept, left_more, left_on, left_only, left_same}
use Rattle.draid_rack.proofs.laws.calls_that_leave_chain.Goals as goal

pub returns : goal.returns
returns c = record { same = left_same; chain = left_on; more = left_more; only = left_only; moments = λ named x y orderly leaves. kept named x y orderly (left_only named x y leaves) }
