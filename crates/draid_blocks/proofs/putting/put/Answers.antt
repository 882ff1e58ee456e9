use Rattle.draid_blocks.proofs.Begins.{columns_low}
use Rattle.std.proofs.Common.{◌≡◌, ◌+◌, ◌<◌, ◌^◌, ◌∙◌, ◌++◌, ◌∷◌, [], arith, Some, ap, refl, subst, sym}
use Rattle.draid_names.specs.declared.pointer.Pointer.{Pointer}
use Rattle.draid_machine.specs.declared.event.Event.TheVariants.{Put}
use Rattle.draid_machine.specs.declared.names.Stage.TheVariants.{Writing}
use Rattle.draid_entries.specs.Entries.{IsEntered, SetsEntry}
use Rattle.draid_entries.specs.Maps.{key_of, staged}
use Rattle.draid_shard.specs.Fits.{birth_groups, changes_for_end, oldest_open}
use Rattle.draid_shard.specs.Rows.{HasRoomFor}
use Rattle.draid_shard.specs.States.{part_of}
use Rattle.draid_blocks.specs.declared.ticket.Ticket.{Ticket}
use Rattle.draid_shard.proofs.Fitted.{born_from, born_low, fits_rows}
use Rattle.draid_shard.proofs.Homes.{geometry_is}
use Rattle.draid_blocks.proofs.PutKept.{owes_one, put_valid}
use Rattle.draid_blocks.proofs.Puts.{IsAfter, counted, missed_none, missed_one, nowhere, put_acted, put_carries, put_leads, same_pointer}
use Rattle.draid_shard.proofs.Kept.{stored_more}
use Rattle.draid_shard.proofs.Staging.{column_long, room_for}
use Rattle.draid_blocks.proofs.putting.put.Given as given
use Rattle.draid_blocks.proofs.putting.put.Goals as goal
use Rattle.draid_blocks.proofs.putting.put.Goals.{else-is_empty, then-is_empty}

pub rows_of-rows-requires-clause-part : goal.rows_of-rows-requires-clause-part
rows_of-rows-requires-clause-part g c = c.requires.valid.part

pub rows_of-rows-requires-clause-run : goal.rows_of-rows-requires-clause-run
rows_of-rows-requires-clause-run g c = let t = c.requires.valid.tables in (t.placed c.args.ticket.now.pointer.first _ c.requires.carries.is_open).run

pub column-column-requires : goal.column-column-requires
column-column-requires g c =
    let cut = c.requires.carries.cut in
    let columns = (geometry_is (part_of c.args.shard.now) c.requires.valid.part).columns in
    let left = c.requires.left in
    subst (λ cut. c.args.ticket.now.next < cut.parity + cut.ndata) (sym cut) (omega (arith, columns, left))

pub land-landed-requires-clause-fits : goal.land-landed-requires-clause-fits
land-landed-requires-clause-fits g c =
    let v = c.requires.valid in
    fits_rows (part_of c.args.shard.now) v.part c.args.shard.now.slots v.slots _ c.args.ticket.now.pointer (v.tables.placed c.args.ticket.now.pointer.first _ c.requires.carries.is_open).run
    c.args.ticket.now.next c.requires.left c.rows_of-rows.result c.rows_of-rows.ensures v.leaves

pub land-landed-requires-clause-long : goal.land-landed-requires-clause-long
land-landed-requires-clause-long g c =
    let block = (c.requires.valid.tables.placed c.args.ticket.now.pointer.first _ c.requires.carries.is_open).is_block in
    column_long c.args.shard.now.geometry _ c.args.ticket.now.pointer _ _ _ _ c.requires.carries.cut block.stripes c.requires.carries.content.len c.rows_of-rows.ensures.count_is c.rows_of-rows.ensures.size_is c.column-column.ensures.len

pub land-landed-requires-clause-birth : goal.land-landed-requires-clause-birth
land-landed-requires-clause-birth g c =
    let v = c.requires.valid in
    let block = (v.tables.placed c.args.ticket.now.pointer.first _ c.requires.carries.is_open).is_block in
    subst (λ birth. birth < 2 ^ 48) (sym c.rows_of-rows.ensures.birth_is) (born_low c.args.ticket.now.pointer.birth block.low)

pub land-landed-requires-clause-room : goal.land-landed-requires-clause-room
land-landed-requires-clause-room g c =
    let v = c.requires.valid in
    subst (HasRoomFor c.args.shard.now.slots) (sym c.rows_of-rows.ensures.birth_is) (room_for c.args.shard.now.slots (oldest_open c.args.shard.now.open_group c.args.shard.now.closing) (birth_groups c.args.shard.now.closing) (changes_for_end c.args.shard.now.pass c.args.shard.now.closing) c.args.ticket.now.pointer.birth
    (v.tickets c.args.ticket.now.pointer.first _ c.args.ticket.now.next c.args.ticket.now.missed c.requires.carries.is_open refl)
    (born_from c.args.shard.now.open_group c.args.shard.now.committed c.args.ticket.now.pointer.birth c.args.shard.now.closing c.args.shard.now.sealed v.groups
    (v.tables.placed c.args.ticket.now.pointer.first _ c.requires.carries.is_open).is_block.born) v.logs)

pub turn-requires : goal.turn-requires
turn-requires g c =
    let pointer : c.if-is_empty.ticket.pointer ≡ c.args.ticket.now.pointer = elim c.if-is_empty.branch [
      | then-is_empty w ↦ ap (λ (t : Ticket). t.pointer) w.ticket-is
      | else-is_empty w ↦ ap (λ (t : Ticket). t.pointer) w.ticket-is
    ] in
    record {
      there = subst (λ (p : Pointer). IsEntered c.args.shard.now.entries p) (sym pointer)
          (record { stage = Writing c.args.ticket.now.next c.args.ticket.now.missed; there = c.requires.carries.is_open });
    }

pub add-requires-clause-owed : goal.add-requires-clause-owed
add-requires-clause-owed g c =
    let pointer : c.if-is_empty.ticket.pointer ≡ c.args.ticket.now.pointer = elim c.if-is_empty.branch [
      | then-is_empty w ↦ ap (λ (t : Ticket). t.pointer) w.ticket-is
      | else-is_empty w ↦ ap (λ (t : Ticket). t.pointer) w.ticket-is
    ] in
    let next : c.if-is_empty.ticket.next + 1 ≡ c.args.ticket.now.next + 1 = elim c.if-is_empty.branch [
      | then-is_empty w ↦ ap (λ (t : Ticket). t.next + 1) w.ticket-is
      | else-is_empty w ↦ ap (λ (t : Ticket). t.next + 1) w.ticket-is
    ] in
    owes_one g.R.Rack c.args.shard.now c.requires.valid c.args.ticket.now.pointer c.args.ticket.now.next c.args.ticket.now.missed (c.if-is_empty.ticket.next + 1) c.if-is_empty.ticket.missed
    c.requires.carries.is_open c.requires.left next c.turn.new.self
    (same_pointer c.args.shard.now.entries c.turn.new.self c.if-is_empty.ticket.pointer c.args.ticket.now.pointer (Writing (c.if-is_empty.ticket.next + 1) c.if-is_empty.ticket.missed) pointer c.turn.ensures.entered)
    c.args.shard.now.history refl

-- the ticket afterwards
abbrev ticket : (g : given.Over) (c : goal.After-add g) → Ticket
ticket g c = record c.if-is_empty.ticket { next = c.if-is_empty.ticket.next + 1 }

after : (g : given.Over) (c : goal.After-add g) → IsAfter c.land-landed.result.landed c.args.ticket.now (ticket g c)
after g c =
    let nil = nowhere c.land-landed.result.landed c.as_slice.result.now c.is_empty.result c.as_slice.ensures c.is_empty.ensures in
    elim c.if-is_empty.branch [
      | then-is_empty w ↦ record {
        pointer_is = ap (λ (t : Ticket). t.pointer) w.ticket-is;
        counts = record {
          next_is = ap (λ (t : Ticket). t.next + 1) w.ticket-is;
          missed_is = missed_one c.land-landed.result.landed c.args.ticket.now.missed c.if-is_empty.ticket.missed (nil ∙ w.if-is_empty.true) (ap (λ (t : Ticket). t.missed) w.ticket-is);
        };
      }
      | else-is_empty w ↦ record {
        pointer_is = ap (λ (t : Ticket). t.pointer) w.ticket-is;
        counts = record {
          next_is = ap (λ (t : Ticket). t.next + 1) w.ticket-is;
          missed_is = missed_none c.land-landed.result.landed c.args.ticket.now.missed c.if-is_empty.ticket.missed (nil ∙ w.if-is_empty.false) (ap (λ (t : Ticket). t.missed) w.ticket-is);
        };
      }
    ]

sets : (g : given.Over) (c : goal.After-add g)
    → SetsEntry c.args.shard.now.entries c.turn.new.self c.args.ticket.now.pointer (Some (staged (Writing (c.if-is_empty.ticket.next + 1) c.if-is_empty.ticket.missed) c.args.ticket.now.pointer))
sets g c = same_pointer c.args.shard.now.entries c.turn.new.self c.if-is_empty.ticket.pointer c.args.ticket.now.pointer (Writing (c.if-is_empty.ticket.next + 1) c.if-is_empty.ticket.missed)
    (after g c).pointer_is c.turn.ensures.entered

pub returns-clause-valid : goal.returns-clause-valid
returns-clause-valid g c =
    put_valid g.R.Rack c.args.shard.now c.requires.valid c.args.ticket.now.pointer c.args.ticket.now.next c.args.ticket.now.missed (c.if-is_empty.ticket.next + 1) c.if-is_empty.ticket.missed
    c.requires.carries.is_open c.requires.left (after g c).counts.next_is c.turn.new.self (sets g c)
    c.land-landed.new.rack c.land-landed.new.slots c.add.new.self c.rows_of-rows.result.birth c.rows_of-rows.ensures.birth_is c.land-landed.ensures.lands.logs c.land-landed.ensures.shape
    c.turn.ensures.count c.add.ensures.owed c.add.ensures.reserved (stored_more c.args.shard.now.history c.add.new.self _ c.add.ensures.stored)

pub returns-clause-carries : goal.returns-clause-carries
returns-clause-carries g c =
    put_carries c.args.shard.now _ c.args.ticket.now (ticket g c) c.args.block.now c.land-landed.result.landed c.requires.carries c.requires.left refl (after g c) (sets g c)

pub returns-clause-put : goal.returns-clause-put
returns-clause-put g c =
    let v = c.requires.valid in
    let run = (v.tables.placed c.args.ticket.now.pointer.first _ c.requires.carries.is_open).run in
    let counts = (after g c).counts in
    record {
      landed = c.land-landed.result.landed;
      failed = c.land-landed.result.failed;
      does = record {
        part = refl;
        stored = c.add.ensures.stored ∙ ap (λ key. c.args.shard.now.history.events.items ++ Put key c.land-landed.result.landed c.land-landed.result.failed ∷ []) (c.key_of.ensures ∙ ap key_of (after g c).pointer_is);
        leads = put_leads c.args.shard.now c.land-landed.new.rack c.land-landed.new.slots c.turn.new.self c.add.new.self c.args.ticket.now.pointer c.args.ticket.now.next c.args.ticket.now.missed
            (c.if-is_empty.ticket.next + 1) c.if-is_empty.ticket.missed c.rows_of-rows.result c.column-column.result.now c.land-landed.result _ _ _ _ v.part v.slots run c.requires.left c.rows_of-rows.ensures
            c.requires.carries.is_open c.land-landed.ensures.lands (sets g c) counts;
      };
      pointer = (after g c).pointer_is;
      next = counts.next_is;
      missed = counted c.land-landed.result.landed c.args.ticket.now.missed c.if-is_empty.ticket.missed counts.missed_is;
      sets = record {
        entry = sets g c;
        groups = record { open_group_is = refl; closing = refl; sealed = refl; committed = refl };
        slots = record { same = c.land-landed.ensures.lands.logs.same; arms_stay = c.land-landed.ensures.lands.logs.arms; detached_stay = c.land-landed.ensures.lands.logs.detached };
      };
      acts = put_acted c.args.shard.now c.land-landed.new.rack c.land-landed.new.slots c.turn.new.self c.add.new.self c.args.ticket.now.pointer c.args.ticket.now.next c.args.ticket.now.missed
          (c.if-is_empty.ticket.next + 1) c.if-is_empty.ticket.missed c.rows_of-rows.result c.column-column.result.now c.land-landed.result _ _ _ _ v.part v.slots run c.requires.left c.rows_of-rows.ensures
          c.requires.carries.is_open c.land-landed.ensures.lands (sets g c) counts g.R.Rack c.args.block.now.columns refl refl c.column-column.ensures.column;
      counts = c.land-landed.ensures.lands.counts;
    }

pub returns-clause-areas : goal.returns-clause-areas
returns-clause-areas g c = record { even = refl; odd = refl }

pub returns-clause-reserve : goal.returns-clause-reserve
returns-clause-reserve g c = record { reserved = c.add.ensures.reserved; limit = c.add.ensures.limit }

pub rows_of-rows-requires-clause-column : goal.rows_of-rows-requires-clause-column
rows_of-rows-requires-clause-column g c = c.requires.left

pub add-requires-clause-some : goal.add-requires-clause-some
add-requires-clause-some g c = omega arith

pub overflow_add-ticket : goal.overflow_add-ticket
overflow_add-ticket g c =
    let few = c.requires.carries.few in
    let left = c.requires.left in
    let most = columns_low c.args.shard.now.geometry c.requires.valid.part.layout.geometry_is in
    omega (arith, few, left, most)

pub overflow_add-ticket-2 : goal.overflow_add-ticket-2
overflow_add-ticket-2 g c =
    let left = c.requires.left in
    let most = columns_low c.args.shard.now.geometry c.requires.valid.part.layout.geometry_is in
    let next : c.if-is_empty.ticket.next ≡ c.args.ticket.now.next = elim c.if-is_empty.branch [
      | then-is_empty w ↦ ap (λ (t : Ticket). t.next) w.ticket-is
      | else-is_empty w ↦ ap (λ (t : Ticket). t.next) w.ticket-is
    ] in
    omega (arith, next, left, most)
