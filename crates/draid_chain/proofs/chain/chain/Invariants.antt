use Rattle.std.proofs.Common.{◌-◌, ◌≤◌}
use Rattle.draid_chain.specs.Used.{first_in}
use Rattle.draid_chain.proofs.Walks.{HasComeTo}
use Rattle.draid_chain.proofs.chain.chain.Given as goal

abbrev pub invariant-links : goal.invariant-links
invariant-links l = record {
  come : HasComeTo l.perms l.geometry.spec.spares l.slice (first_in l.used) l.spare l.holder l.links;
  most : l.links ≤ l.geometry.spec.spares;
}

-- the spares that aren't passed yet
abbrev pub decreases-links : goal.decreases-links
decreases-links l = l.geometry.spec.spares - l.links
