use Rattle.std.proofs.Common.{arith}
use Rattle.draid_disks.proofs.checks.has_leaf_beside.Goals as goal

pub overflow_add-at : goal.overflow_add-at
overflow_add-at c = omega arith

pub offset_bounds-arms-at : goal.offset_bounds-arms-at
offset_bounds-arms-at c = omega arith

pub slice_bounds-has_leaf-count : goal.slice_bounds-has_leaf-count
slice_bounds-has_leaf-count c = omega arith

pub slice_bounds-has_leaf-start : goal.slice_bounds-has_leaf-start
slice_bounds-has_leaf-start c = omega arith

pub slice_bounds-has_leaf-end-else-has_leaf : goal.slice_bounds-has_leaf-end-else-has_leaf
slice_bounds-has_leaf-end-else-has_leaf c = omega arith
