-- A space that is shut, or takes blocks again.
use Rattle.std.proofs.Common.{◌≡◌, ℕ, Bool, Option, None, Some, refl}
use Rattle.draid_rack.specs.Rack.{OnBothTold, Told}
use Rattle.draid_spec.specs.declared.layout.Geometry.{Geometry}
use Rattle.draid_metaslab.specs.Spaces.{Stripes}
use Rattle.draid_entries.specs.declared.entries.Entries.{Entries}
use Rattle.draid_shard.specs.Fits.{Tables}

-- what its stripes are stays
pub tables_shut : (geometry : Geometry) (group : ℕ) (space : Stripes) (entries : Entries) (b : Bool) → Tables geometry group space entries → Tables geometry group (record space { disabled = b }) entries
tables_shut geometry group space entries b t = record {
  height = t.height;
  total = t.total;
  count = t.count;
  inside = t.inside;
  placed = λ first e there. (let p = t.placed first e there in record { run = p.run; held = p.held; is_block = p.is_block });
  apart = t.apart;
  covered = t.covered;
}

-- what is told of a rack that no call reached
pub untold : (o : Option Told) → OnBothTold o o (λ x y. y ≡ x)
untold None = refl
untold (Some x) = refl
