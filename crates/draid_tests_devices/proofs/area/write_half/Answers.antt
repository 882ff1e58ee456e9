use Rattle.std.proofs.Common.{rules}
use Rattle.draid_area.specs.Area.{within}
use Rattle.draid_area.proofs.Moments.{kept, leaves_written, told_flushed, told_on, told_writes}
use Rattle.draid_tests_devices.proofs.area.write_half.Goals as goal

pub returns-in_err-write-clause-others : goal.returns-in_err-write-clause-others
returns-in_err-write-clause-others g c =
    let named = within c.args.at 512 in
    kept named _ _ (g.met.A.Area.orderly c.args.area.now) (told_writes named _ _ _ _ _ (rw c.requires.half.1 (λ i out. out)) c.write.ensures.told)

pub returns-clause-others : goal.returns-clause-others
returns-clause-others g c =
    let named = within c.args.at 512 in
    let written = told_writes named _ _ _ _ _ (rw c.requires.half.1 (λ i out. out)) c.write.ensures.told in
    let flushed = told_flushed named _ _ _ c.flush.ensures.ok c.flush.ensures.err in
    kept named _ _ (g.met.A.Area.orderly c.args.area.now) (told_on named _ _ _ written flushed)

pub returns-clause-outlasts : goal.returns-clause-outlasts
returns-clause-outlasts g c = leaves_written _ _ _ _ _ _ _ _ c.write.ensures.told (search rules) c.flush.ensures.ok
