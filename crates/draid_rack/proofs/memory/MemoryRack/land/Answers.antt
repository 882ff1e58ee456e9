use Rattle.std.proofs.Common.{arith, ap, ◌∙◌}
use Rattle.draid_rack.specs.Leaves.{bytes_of, view_at}
use Rattle.draid_rack.specs.Sectors.{is_sector}
use Rattle.draid_rack.proofs.Flushed.{counts_none, kept, landed_keeps, marked_keeps, marked_reads, only_none}
use Rattle.draid_rack.proofs.Sound.{long_on, long_same, tick_later, up_to_on, up_to_same}
use Rattle.draid_rack.proofs.Tells.{lands_by, lands_failed, long_at, shape_same, there_at}
use Rattle.draid_rack.proofs.Counted.{counts_leaf, only_leaf, rises_after}
use Rattle.draid_rack.proofs.Moments.{elapsed_lands}
use Rattle.draid_rack.proofs.memory.MemoryRack.land.Goals as goal

pub invariant_of-self : goal.invariant_of-self
invariant_of-self c =
    let was = c.args.self.now.leaves in
    let mid = c.mark_sector.new.leaves in
    record {
      whole = long_same _ mid c.count_fault.new.leaves c.count_fault.ensures.views
          (long_on _ _ _ was mid (λ x h. record { bytes = h.bytes; kept = h.kept }) c.args.self.now.whole c.mark_sector.ensures);
      orderly = up_to_same _ _ mid c.count_fault.new.leaves (omega arith) c.count_fault.ensures.views
          (up_to_on c.args.self.now.clock _ _ _ was mid (tick_later _ _ c.later-self.ensures) (λ x h. omega arith) c.args.self.now.orderly c.mark_sector.ensures);
    }

pub returns-then-fails-clause-told : goal.returns-then-fails-clause-told
returns-then-fails-clause-told c =
    lands_failed _ _ c.args.self.now.clock _ _ c.args.self.now.leaves c.count_fault.new.leaves c.later-self.ensures _ _ c.mark_sector.new.leaves
    c.requires.place.there c.mark_sector.ensures c.count_fault.ensures.views

pub land_sector-requires : goal.land_sector-requires
land_sector-requires c = long_at _ c.args.self.now.leaves _ _ _ c.args.self.now.whole c.requires.place.there c.requires.place.whole

pub invariant_of-self-2 : goal.invariant_of-self-2
invariant_of-self-2 c =
    let was = c.args.self.now.leaves in
    record {
      whole = long_on _ _ _ was c.land_sector.new.leaves (λ x h. record { bytes = c.requires.place.whole; kept = h.kept }) c.args.self.now.whole c.land_sector.ensures;
      orderly = up_to_on c.args.self.now.clock _ _ _ was c.land_sector.new.leaves (tick_later _ _ c.later-self.ensures) (λ x h. omega arith) c.args.self.now.orderly c.land_sector.ensures;
    }

pub returns-clause-told : goal.returns-clause-told
returns-clause-told c =
    lands_by _ _ c.args.self.now.clock _ _ c.args.self.now.leaves c.land_sector.new.leaves c.later-self.ensures _
    (there_at c.args.self.now.leaves _ _ c.requires.place.there) c.land_sector.ensures

pub returns-clause-shape : goal.returns-clause-shape
returns-clause-shape c = shape_same _ c.args.self.now.leaves c.land_sector.new.leaves c.land_sector.ensures.sectors

pub returns-then-fails-clause-moments : goal.returns-then-fails-clause-moments
returns-then-fails-clause-moments c = elapsed_lands _ _ _ _ _ _ _ (returns-then-fails-clause-told c)

pub returns-clause-moments : goal.returns-clause-moments
returns-clause-moments c = elapsed_lands _ _ _ _ _ _ _ (returns-clause-told c)

pub returns-then-fails-clause-cause : goal.returns-then-fails-clause-cause
returns-then-fails-clause-cause c =
    counts_leaf c.args.leaf c.args.self.now.own_faults c.args.self.now.leaves c.count_fault.new.leaves
    (rises_after _ _ _ _ c.mark_sector.ensures.faults c.count_fault.ensures) _

pub returns-then-fails-clause-exact : goal.returns-then-fails-clause-exact
returns-then-fails-clause-exact c =
    only_leaf c.args.leaf c.args.self.now.own_faults c.args.self.now.leaves c.count_fault.new.leaves
    (rises_after _ _ _ _ c.mark_sector.ensures.faults c.count_fault.ensures)

pub returns-then-fails-clause-shape : goal.returns-then-fails-clause-shape
returns-then-fails-clause-shape c = shape_same _ c.args.self.now.leaves c.count_fault.new.leaves (λ l. c.count_fault.ensures.sectors l ∙ c.mark_sector.ensures.sectors l)

pub returns-then-fails-clause-same : goal.returns-then-fails-clause-same
returns-then-fails-clause-same c = λ l s. ap bytes_of (c.count_fault.ensures.views l s) ∙ marked_reads _ _ (view_at c.mark_sector.new.leaves l s) (view_at c.args.self.now.leaves l s) (is_sector c.args.leaf c.args.sector l s) (c.mark_sector.ensures.views l s)

pub returns-then-fails-clause-flushed : goal.returns-then-fails-clause-flushed
returns-then-fails-clause-flushed c = λ l s. ap kept (c.count_fault.ensures.views l s) ∙ marked_keeps _ _ (view_at c.mark_sector.new.leaves l s) (view_at c.args.self.now.leaves l s) (is_sector c.args.leaf c.args.sector l s) (c.mark_sector.ensures.views l s)

pub returns-clause-flushed : goal.returns-clause-flushed
returns-clause-flushed c = λ l s. landed_keeps _ _ _ (view_at c.land_sector.new.leaves l s) (view_at c.args.self.now.leaves l s) (is_sector c.args.leaf c.args.sector l s) (c.land_sector.ensures.views l s)

pub returns-clause-cause : goal.returns-clause-cause
returns-clause-cause c = counts_none c.args.leaf c.args.self.now.own_faults c.args.self.now.leaves c.land_sector.new.leaves c.land_sector.ensures.faults

pub returns-clause-exact : goal.returns-clause-exact
returns-clause-exact c = only_none c.args.leaf c.args.self.now.own_faults c.args.self.now.leaves c.land_sector.new.leaves c.land_sector.ensures.faults

pub returns-clause-same : goal.returns-clause-same
returns-clause-same c = tt
