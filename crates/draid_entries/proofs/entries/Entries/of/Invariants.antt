use Rattle.std.proofs.Common.{◌≡◌, [], drop, take}
use Rattle.draid_entries.specs.Live.{HasLive, twice_in}
use Rattle.draid_entries.proofs.entries.Entries.of.Given as goal

abbrev pub invariant-loop-place : goal.invariant-loop-place
invariant-loop-place l = record {
  live : HasLive l.table (take l.place l.blocks);
  twice : twice_in [] l.blocks ≡ twice_in (take l.place l.blocks) (drop l.place l.blocks);
}
