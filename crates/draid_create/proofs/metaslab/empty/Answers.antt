use Rattle.std.proofs.Common.{arith, refl, sym, rules}
use Rattle.draid_layouts.specs.Layout.{layout_of}
use Rattle.draid_create.proofs.Creation.{created_slots, empty_tables, has_leaves, no_tickets, none_here, once_new, owes_none}
use Rattle.draid_pool.proofs.Rooms.{own_version, rooms_enough}
use Rattle.draid_create.proofs.metaslab.empty.Goals as goal

pub returns : goal.returns
returns g c =
    record {
      valid = record {
        part = c.requires.part;
        version = c.requires.part.layout.geometry_is.version;
        asked = own_version c.args.geometry.props.version c.requires.part.layout.geometry_is.version;
        tables = empty_tables c.args.geometry 2 c.in-Ok.space c.new-4.result c.in-Ok.ensures.sizes.0 c.in-Ok.ensures.sizes.1 c.in-Ok.ensures.held.0 c.new-4.ensures.count c.new-4.ensures.none
            c.in-Ok.ensures.free;
        disabled = c.in-Ok.ensures.enabled;
        few = (let count = c.new-4.ensures.count in omega (arith, count));
        here = none_here c.new-4.result c.args.number c.new-4.ensures.none;
        slots = c.in-Ok-new_slots.ensures.of;
        once = once_new c.args.geometry.spec.children c.in-Ok-new_slots.slots c.in-Ok-new_slots.ensures.new;
        pass = tt;
        kept = tt;
        serial = omega arith;
        flushed = tt;
        logs = rooms_enough c.in-Ok-new_slots.slots 2 2 0 3 0 (omega arith) c.in-Ok-new_slots.ensures.room;
        leaves = has_leaves (g.R.Rack.shape c.args.kit.rack) c.args.geometry c.in-Ok-new_slots.slots c.requires.rack c.in-Ok-new_slots.ensures.new;
        groups = (refl, refl);
        low = omega arith;
        tickets = no_tickets c.new-4.result 2 c.new-4.ensures.none;
        settled = λ sealed. no_tickets c.new-4.result 2 c.new-4.ensures.none;
        owed = (let own = owes_none c.args.geometry.g c.new-4.result c.new-4.ensures.none in let none = c.new-3.ensures.none in omega (arith, own, none.0, none.1));
      };
      part = refl;
      kit = (refl, refl, refl);
      version = refl;
      blocks = refl;
      created = record {
        held = λ key. sym (c.new-4.ensures.held key);
        slots = created_slots (layout_of c.args.geometry c.args.perms c.args.number) c.args.geometry.spec.children c.in-Ok-new_slots.slots refl c.in-Ok-new_slots.ensures.new;
        pass = refl;
        last = refl;
        open_group_is = refl;
        closing = refl;
        sealed = refl;
        committed = refl;
        version = refl;
        asked = refl;
        serial = refl;
        loan = refl;
      };
      none = search rules;
      back = tt;
    }

pub returns-in_default : goal.returns-in_default
returns-in_default g c =
    record {
      valid = tt;
      part = tt;
      kit = tt;
      version = tt;
      blocks = tt;
      created = tt;
      none = tt;
      back = refl;
    }

pub returns-in_default-new_slots : goal.returns-in_default-new_slots
returns-in_default-new_slots g c =
    record {
      valid = tt;
      part = tt;
      kit = tt;
      version = tt;
      blocks = tt;
      created = tt;
      none = tt;
      back = refl;
    }
