use Rattle.std.proofs.Common.{sym}
use Rattle.draid_chain.proofs.Holders.{holder_is}
use Rattle.draid_layouts.specs.Layout.{slice_in}
use Rattle.draid_layouts.proofs.laws.homes_are_holders.Goals as goal

pub returns : goal.returns
returns c geometry perms metaslab slot spare x first column = sym (holder_is perms geometry.spec.spares (slice_in geometry metaslab x) slot spare first column)
