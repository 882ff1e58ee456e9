use Rattle.draid_rack.proofs.Sound.{blank_more, blanks_count, blanks_firm, blanks_long, blanks_unharmed, blanks_up_to, none_more}
use Rattle.draid_rack.proofs.memory.MemoryRack.new.Goals as goal

pub loop-leaf-preserved : goal.loop-leaf-preserved
loop-leaf-preserved c = record {
  there = blank_more c.loop-leaf.rows c.insert_leaf.new.leaves _ _ _ c.in_ok-new.new c.loop-leaf.invariant.there c.in_ok-new.ensures c.in_ok-insert_leaf.ensures.ok;
  no_other = none_more c.loop-leaf.rows c.insert_leaf.new.leaves _ c.in_ok-new.new c.loop-leaf.invariant.no_other c.in_ok-insert_leaf.ensures.ok;
}

pub invariant_of-result : goal.invariant_of-result
invariant_of-result c = record {
  whole = blanks_long c.loop-leaf.rows _ _ _ c.loop-leaf.invariant.there c.loop-leaf.invariant.no_other;
  orderly = blanks_up_to c.loop-leaf.rows _ _ _ c.loop-leaf.invariant.there c.loop-leaf.invariant.no_other;
}

pub returns-clause-counts : goal.returns-clause-counts
returns-clause-counts c = blanks_count c.loop-leaf.rows _ _ _ c.loop-leaf.invariant.there c.loop-leaf.invariant.no_other

pub returns-clause-firm : goal.returns-clause-firm
returns-clause-firm c = blanks_firm c.loop-leaf.rows _ _ _ c.loop-leaf.invariant.there c.loop-leaf.invariant.no_other

pub returns-clause-unharmed : goal.returns-clause-unharmed
returns-clause-unharmed c = blanks_unharmed c.loop-leaf.rows _ _ _ c.loop-leaf.invariant.there c.loop-leaf.invariant.no_other
