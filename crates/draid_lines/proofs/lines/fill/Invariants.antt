use Rattle.std.proofs.Common.{◌≡◌, ◌+◌, ◌-◌, ◌≤◌, vec_len, length}
use Rattle.std.specs.List.{position_or_len}
use Rattle.draid_lines.specs.Lines.{Takes, is_end}
use Rattle.draid_lines.proofs.lines.fill.Given as goal

abbrev pub invariant-loop-held : goal.invariant-loop-held
invariant-loop-held g l =
    let left = g.S.Source.left in
    let faults = g.S.Source.faults in
    record {
      none : position_or_len is_end l.held.items ≡ length l.held.items;
      takes : Takes l.fn.held.items l.held.items (left l.fn.source) (left l.source);
      later : faults l.fn.source ≤ faults l.source;
    }

abbrev pub decreases-loop-held : goal.decreases-loop-held
decreases-loop-held g l = l.longest + 1 - vec_len l.held
