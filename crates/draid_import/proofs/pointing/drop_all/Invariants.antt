use Rattle.std.proofs.Common.{◌≡◌, ◌≤◌, ◌+◌, ◌++◌, length}
use Rattle.std.specs.Prelude.{map, take}
use Rattle.draid_uber.specs.Points.{dropped_in}
use Rattle.draid_uber.specs.Uber.{Valid, areas_of, changed_of, kept_of, layout_of, next_leaf_of, point_of, version_of}
use Rattle.draid_import.specs.Points.{changed_by}
use Rattle.draid_import.proofs.pointing.drop_all.Given as goal

-- so many were dropped
abbrev pub invariant-loop-block : goal.invariant-loop-block
invariant-loop-block g l = record {
  valid : Valid g.A.Area.size l.uber;
  group : (point_of l.uber).group ≡ (point_of l.initial.uber).group;
  drops : (point_of l.uber).drops ≡ (point_of l.initial.uber).drops ++ map (dropped_in l.group) (take l.block-index l.blocks);
  room : (point_of l.initial.uber).spare ≤ (point_of l.uber).spare + l.block-index;
  many : length (point_of l.uber).drops ≡ length (point_of l.initial.uber).drops + l.block-index;
  changed : changed_of l.uber ≡ changed_by (take l.block-index l.blocks) l.group (changed_of l.initial.uber);
  areas : areas_of l.uber ≡ areas_of l.initial.uber;
  kept : kept_of l.uber ≡ kept_of l.initial.uber;
  layout : layout_of l.uber ≡ layout_of l.initial.uber;
  version : version_of l.uber ≡ version_of l.initial.uber;
  leaf : next_leaf_of l.uber ≡ next_leaf_of l.initial.uber;
  bound : l.block-index ≤ length l.blocks;
}
