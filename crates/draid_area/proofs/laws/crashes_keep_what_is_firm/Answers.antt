use Rattle.std.proofs.Common.{refl}
use Rattle.draid_area.proofs.Moments.{leaves_all, moments, unwritten}
use Rattle.draid_area.proofs.laws.crashes_keep_what_is_firm.Goals as goal

pub returns : goal.returns
returns c = record {
  flushed = λ x left may. leaves_all _ left (λ i. refl) refl may;
  unwritten = unwritten;
  moments = moments;
}
