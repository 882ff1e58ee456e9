use Rattle.std.proofs.Common.{◌&&◌, nat_lt, arith, ap, sym, ◌∙◌}
use Rattle.std.specs.Prelude.{◌-◌, vec_len, vec_capacity}
use Rattle.draid_ranges.specs.Numbers.{Numbers, has}
use Rattle.draid_slots.specs.Table.{next_rooms}
use Rattle.draid_slots.proofs.Logging as one
use Rattle.draid_slots.proofs.slots.Slots.excise.Goals as goal

pub index_mut-requires : goal.index_mut-requires
index_mut-requires c =
    let s = c.self.inside in
    let below = one.slot_within s.geometry s.perms s.metaslab s.slots.items s.detached.items (next_rooms s.next.items) (vec_capacity s.detached - vec_len s.detached) _ c.self.view_is c.args.at c.requires.there in
    omega (arith, below, s.slots.ok.0)

pub index_mut-requires-2 : goal.index_mut-requires-2
index_mut-requires-2 c =
    let s = c.self.inside in
    let place = one.place s.geometry s.perms s.metaslab s.slots.items s.detached.items (next_rooms s.next.items) (vec_capacity s.detached - vec_len s.detached) _ c.self.view_is c.args.at c.requires.there c.self.invariant c.index_mut.result.now c.index_mut.ensures.value in
    let below = place.log_within in
    omega (arith, below, c.index_mut.result.now.logs.ok.0)

pub invariant_of-self : goal.invariant_of-self
invariant_of-self c =
    let s = c.self.inside in
    one.log_kept s.geometry s.perms s.metaslab s.slots.items s.detached.items (next_rooms s.next.items) (vec_capacity s.detached - vec_len s.detached) _ c.self.view_is c.args.at c.requires.there c.self.invariant c.index_mut.result.now c.index_mut.ensures.value
    c.excise.new.self

pub returns-clause-changes : goal.returns-clause-changes
returns-clause-changes c =
    let s = c.self.inside in
    let before : Numbers = c.index_mut-2.result.now in
    let was = one.log_was s.geometry s.perms s.metaslab s.slots.items s.detached.items (next_rooms s.next.items) (vec_capacity s.detached - vec_len s.detached) _ c.self.view_is c.args.at c.requires.there c.self.invariant c.index_mut.result.now c.index_mut.ensures.value
    before c.index_mut-2.ensures.value in
    let left = c.excise.ensures.left in
    one.log_changed s.geometry s.perms s.metaslab s.slots.items s.detached.items (next_rooms s.next.items) (vec_capacity s.detached - vec_len s.detached) _ c.self.view_is c.args.at c.requires.there c.self.invariant c.index_mut.result.now c.index_mut.ensures.value
    before c.excise.new.self _ c.index_mut-2.ensures.value (λ x. c.excise.ensures.members x ∙ sym (ap (λ l. has l x && nat_lt c.args.upto x) was)) (omega (arith, left))

pub returns-clause-room : goal.returns-clause-room
returns-clause-room c =
    let s = c.self.inside in
    one.log_roomy s.geometry s.perms s.metaslab s.slots.items s.detached.items (next_rooms s.next.items) (vec_capacity s.detached - vec_len s.detached) _ c.self.view_is c.args.at c.requires.there c.self.invariant c.index_mut.result.now c.index_mut.ensures.value
    c.index_mut-2.result.now c.excise.new.self c.index_mut-2.ensures.value c.excise.ensures.left
