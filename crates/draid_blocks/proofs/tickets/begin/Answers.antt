use Rattle.draid_shard.proofs.Changed.{same_arms, same_entries}
use Rattle.std.proofs.Common.{rules, ◌≡◌, ◌∙◌, Some, arith, ap, ap₂, refl, sym, subst, length}
use Rattle.std.proofs.lemmas.Bool.{true≢false}
use Rattle.draid_names.specs.Numbers.{most_held}
use Rattle.draid_names.specs.declared.pointer.Pointer.{Pointer}
use Rattle.draid_block.specs.Blocks.{cut_of}
use Rattle.draid_block.specs.Columns.{Cut, stripes_of}
use Rattle.draid_machine.specs.declared.names.Stage.TheVariants.{Writing}
use Rattle.draid_metaslab.specs.Spaces.{is_free}
use Rattle.draid_metaslab.specs.Spots.{IsLowest}
use Rattle.draid_entries.specs.Entries.{begun, count_of, held_in}
use Rattle.draid_entries.specs.declared.entry.Entry.{Entry}
use Rattle.draid_entries.specs.History.{Passes, left_for_groups}
use Rattle.draid_entries.specs.Maps.{key_of}
use Rattle.draid_machine.proofs.Small.{some_same}
use Rattle.draid_blocks.proofs.Begins.{IsGiven, MayBegin, begins_leads, due_from, due_low, due_upto, enabled_without, low_count, owed_begun, refused_by}
use Rattle.draid_shard.proofs.FreeRuns.{fewer}
use Rattle.draid_blocks.proofs.Entered.{here_same, here_set, stays_in, tickets_same, tickets_staged}
use Rattle.draid_shard.proofs.Tables.{set_here}
use Rattle.draid_shard.proofs.Kept.{fitting, stored_more, valid_with}
use Rattle.draid_blocks.proofs.tickets.begin.Goals as goal

pub hold-requires-clause-tables : goal.hold-requires-clause-tables
hold-requires-clause-tables g c = fitting g.R.Rack c.args.shard.now c.requires.valid

pub returns-in-Ok-clause-valid : goal.returns-in-Ok-clause-valid
returns-in-Ok-clause-valid g c =
    let v = c.requires.valid in
    let e = c.in-Ok.ensures in
    let p = c.in-Ok.pointer in
    let birth = ap (λ (q : Pointer). q.birth) e.placed ∙ c.max.ensures in
    let less = fewer (count_of c.args.shard.now.entries) (most_held c.args.shard.now.version) v.few (λ same. true≢false (sym (c.is_full.ensures.count.1 same) ∙ c.if-is_full.false)) in
    let owes = owed_begun c.args.shard.now.geometry.g c.args.shard.now.entries c.hold.new.entries p e.entered e.was in
    valid_with g.R.Rack c.args.shard.now c.hold.new.space c.hold.new.entries c.hold.new.history v
    (e.tables c.args.shard.now.geometry c.args.shard.now.open_group v.tables (record {
      object_small = c.requires.new.object_small;
      some_seq = c.requires.new.some_seq;
      most_seq = c.requires.new.seq_small;
      digest_len = search rules;
      some = c.len.ensures.some;
      short = c.len.ensures.short;
      stripes = c.stripes.ensures.stripes ∙ ap₂ stripes_of c.requires.cut (sym c.len.ensures.len);
      born = due_upto c.args.shard.now.open_group c.max.result c.args.floor c.max.ensures c.requires.floor.upto;
      low = due_low c.args.shard.now.open_group c.max.result c.args.floor c.max.ensures v.low c.requires.floor.low;
    }))
    e.disabled (let count = e.count in omega (arith, less, count))
    (here_set c.args.shard.now.entries c.hold.new.entries p (Some (begun p)) c.args.shard.now.number
    (λ x is. ap (λ (y : Entry). y.pointer.metaslab) (sym (some_same (Some (begun p)) (begun p) x refl is)) ∙ ap (λ (q : Pointer). q.metaslab) e.placed) e.entered v.here)
    (λ from low was. tickets_staged c.args.shard.now.entries c.hold.new.entries p (Writing 0 0) from
    (let due = due_from c.args.shard.now.open_group p.birth c.args.floor birth in omega (arith, low, due)) was e.entered)
    (let owed = e.stored.owed in let reserved = e.stored.reserved in let asked = c.block_events-asked.ensures in omega (arith, owes, owed, reserved, asked))
    (stored_more c.args.shard.now.history c.hold.new.history _ e.stored.stored)

pub returns-in-Ok-clause-event : goal.returns-in-Ok-clause-event
returns-in-Ok-clause-event g c =
    let e = c.in-Ok.ensures in
    let p = c.in-Ok.pointer in
    let stripes : p.stripes ≡ c.stripes.result = ap (λ (q : Pointer). q.stripes) e.placed in
    let birth = ap (λ (q : Pointer). q.birth) e.placed ∙ c.max.ensures in
    let v = c.requires.valid in
    let enabled = enabled_without c.args.shard.now.space.disabled c.args.shard.now.pass c.rebuild.result c.requires.valid.disabled c.rebuild.ensures.is c.in_default.is in
    let may : MayBegin c.args.shard.now = record {
      geometry_is = v.part.layout.geometry_is;
      tables = v.tables;
      enabled = sym v.disabled ∙ enabled;
      few = fewer (count_of c.args.shard.now.entries) (most_held c.args.shard.now.version) v.few (λ same. true≢false (sym (c.is_full.ensures.count.1 same) ∙ c.if-is_full.false));
    } in
    let given : IsGiven c.args.shard.now p = record {
      some = (let some = c.stripes.ensures.some in omega (arith, some, stripes));
      lowest = subst (λ n. IsLowest (is_free c.args.shard.now.space) c.args.shard.now.space.height n p.first) (sym stripes) e.lowest;
      inside = (let inside = e.inside in omega (arith, inside, stripes));
      unused = ap (held_in c.args.shard.now.entries) (ap key_of e.placed) ∙ c.requires.new.unused;
      from = due_from c.args.shard.now.open_group p.birth c.args.floor birth;
      upto = due_upto c.args.shard.now.open_group p.birth c.args.floor birth c.requires.floor.upto;
    } in
    record {
      part = refl;
      stored = e.stored.stored;
      leads = λ w reached is_in. begins_leads c.args.shard.now c.hold.new.space c.hold.new.entries c.hold.new.history p may given e.entered w is_in;
    }

pub returns-in-Err-clause-valid : goal.returns-in-Err-clause-valid
returns-in-Err-clause-valid g c =
    let v = c.requires.valid in
    let e = c.in-Err.ensures in
    valid_with g.R.Rack c.args.shard.now c.hold.new.space c.hold.new.entries c.hold.new.history v
    (e.tables c.args.shard.now.geometry c.args.shard.now.open_group v.tables (record {
      object_small = c.requires.new.object_small;
      some_seq = c.requires.new.some_seq;
      most_seq = c.requires.new.seq_small;
      digest_len = search rules;
      some = c.len.ensures.some;
      short = c.len.ensures.short;
      stripes = c.stripes.ensures.stripes ∙ ap₂ stripes_of c.requires.cut (sym c.len.ensures.len);
      born = due_upto c.args.shard.now.open_group c.max.result c.args.floor c.max.ensures c.requires.floor.upto;
      low = due_low c.args.shard.now.open_group c.max.result c.args.floor c.max.ensures v.low c.requires.floor.low;
    }))
    e.disabled (let count = e.same.count in let few = v.few in omega (arith, few, count))
    (here_same c.args.shard.now.entries c.hold.new.entries c.args.shard.now.number v.here e.same)
    (λ from low was. tickets_same c.args.shard.now.entries c.hold.new.entries from was e.same)
    (let owed = e.kept.owed in let reserved = e.kept.reserved in let same = e.same.owed c.args.shard.now.geometry.g in omega (arith, owed, reserved, same)) (let stored = e.kept.stored in omega (arith, stored))

pub returns-in-Err-clause-refused : goal.returns-in-Err-clause-refused
returns-in-Err-clause-refused g c w is_in =
    let v = c.requires.valid in
    let enabled = enabled_without c.args.shard.now.space.disabled c.args.shard.now.pass c.rebuild.result c.requires.valid.disabled c.rebuild.ensures.is c.in_default.is in
    let may : MayBegin c.args.shard.now = record {
      geometry_is = v.part.layout.geometry_is;
      tables = v.tables;
      enabled = sym v.disabled ∙ enabled;
      few = fewer (count_of c.args.shard.now.entries) (most_held c.args.shard.now.version) v.few (λ same. true≢false (sym (c.is_full.ensures.count.1 same) ∙ c.if-is_full.false));
    } in
    let same = c.stripes.ensures.stripes ∙ ap (λ (cut : Cut). stripes_of cut (length c.args.block.now.bytes)) c.requires.cut in
    refused_by c.args.shard.now (stripes_of (cut_of c.args.shard.now.geometry) (length c.args.block.now.bytes)) c.stripes.result c.block_events-asked.result c.in-Err.fault may
    (let some = c.stripes.ensures.some in omega (arith, some, same)) same c.block_events-asked.ensures c.in-Err.ensures.refused w is_in

pub returns-in-Ok-clause-kit : goal.returns-in-Ok-clause-kit
returns-in-Ok-clause-kit g c = record { rack = refl; areas = record { even = refl; odd = refl } }

pub returns-in-Ok-clause-reserve : goal.returns-in-Ok-clause-reserve
returns-in-Ok-clause-reserve g c = let e = c.in-Ok.ensures in record { reserved = e.stored.reserved; limit = e.stored.limit }

pub returns-in-Ok-clause-not_worn : goal.returns-in-Ok-clause-not_worn
returns-in-Ok-clause-not_worn g c worn = let e = c.in-Ok.ensures in e.not_worn (subst (λ n. Passes c.args.shard.now.history n left_for_groups) (sym c.block_events-asked.ensures) worn)

pub returns-in-Ok-clause-ticket : goal.returns-in-Ok-clause-ticket
returns-in-Ok-clause-ticket g c =
    let e = c.in-Ok.ensures in
    let p = c.in-Ok.pointer in
    record {
      named = record {
        object_is = ap (λ (q : Pointer). q.object) e.placed;
        seq_is = ap (λ (q : Pointer). q.seq) e.placed;
        metaslab_is = ap (λ (q : Pointer). q.metaslab) e.placed;
        birth_is = ap (λ (q : Pointer). q.birth) e.placed ∙ c.max.ensures;
        fresh = (refl, refl);
      };
      carries = record {
        is_open = set_here c.args.shard.now.entries c.hold.new.entries p (Some (begun p)) e.entered;
        cut = c.requires.cut;
        content = record {
          len = sym c.len.ensures.len ∙ sym (ap (λ (q : Pointer). q.len) e.placed);
          digest = sym c.digest.ensures.digest ∙ sym (ap (λ (q : Pointer). q.digest) e.placed);
          bytes = c.digest.ensures.bytes;
        };
        columns = c.digest.ensures.columns;
        count = omega arith;
        few = omega arith;
      };
      was = e.was;
      enters = record { entry = e.entered; groups = record { open_group_is = refl; closing = refl; sealed = refl; committed = refl }; slots = same_arms c.args.shard.now.slots };
    }

pub returns-in-Err-clause-kit : goal.returns-in-Err-clause-kit
returns-in-Err-clause-kit g c = record { rack = refl; areas = record { even = refl; odd = refl } }

pub returns-in-Err-clause-none : goal.returns-in-Err-clause-none
returns-in-Err-clause-none g c =
    let e = c.in-Err.ensures in
    record {
      none = record {
        part = refl;
        stored = e.kept.events;
        stays = λ w is_in. stays_in c.args.shard.now c.hold.new.space c.hold.new.entries c.hold.new.history w e.same is_in;
      };
      keeps = record { entries = e.same; groups = record { open_group_is = refl; closing = refl; sealed = refl; committed = refl } };
      slots = same_arms c.args.shard.now.slots;
    }

pub returns-in-Err-clause-reserve : goal.returns-in-Err-clause-reserve
returns-in-Err-clause-reserve g c = let e = c.in-Err.ensures in record { reserved = e.kept.reserved; limit = e.kept.limit }

pub returns-then-is_full-clause-valid : goal.returns-then-is_full-clause-valid
returns-then-is_full-clause-valid g c = c.requires.valid

pub returns-then-is_full-clause-kit : goal.returns-then-is_full-clause-kit
returns-then-is_full-clause-kit g c = record { rack = refl; areas = record { even = refl; odd = refl } }

pub returns-then-is_full-clause-none : goal.returns-then-is_full-clause-none
returns-then-is_full-clause-none g c = record {
  none = record { part = refl; stored = refl; stays = λ w is_in. is_in };
  keeps = record {
    entries = record { at = λ _. refl; held = λ _. refl; count = refl; owed = λ _. refl };
    groups = record { open_group_is = refl; closing = refl; sealed = refl; committed = refl };
  };
  slots = same_arms c.args.shard.now.slots;
}

pub returns-then-is_full-clause-refused : goal.returns-then-is_full-clause-refused
returns-then-is_full-clause-refused g c w is_in = (c.in_default.ensures.none w is_in, (c.is_full.ensures.held w is_in).0 c.if-is_full.true, c.count.ensures)

pub returns-in-Some-clause-refused : goal.returns-in-Some-clause-refused
returns-in-Some-clause-refused g c w is_in = c.in-Some.ensures.some w is_in

pub is_full-requires : goal.is_full-requires
is_full-requires g c = record { valid = c.requires.valid }

pub returns-in-Some-clause-valid : goal.returns-in-Some-clause-valid
returns-in-Some-clause-valid g c = c.requires.valid

pub returns-in-Some-clause-kit : goal.returns-in-Some-clause-kit
returns-in-Some-clause-kit g c = record { rack = refl; areas = record { even = refl; odd = refl } }

pub returns-in-Some-clause-none : goal.returns-in-Some-clause-none
returns-in-Some-clause-none g c = record {
  none = record { part = refl; stored = refl; stays = λ w is_in. is_in };
  keeps = record { entries = same_entries c.args.shard.now.entries; groups = record { open_group_is = refl; closing = refl; sealed = refl; committed = refl } };
  slots = same_arms c.args.shard.now.slots;
}

pub returns-in-Some-clause-reserve : goal.returns-in-Some-clause-reserve
returns-in-Some-clause-reserve g c = record { reserved = refl; limit = refl }

pub returns-then-is_full-clause-reserve : goal.returns-then-is_full-clause-reserve
returns-then-is_full-clause-reserve g c = record { reserved = refl; limit = refl }

pub overflow_cast-result : goal.overflow_cast-result
overflow_cast-result g c = let low = low_count c.args.shard.now.version (count_of c.args.shard.now.entries) c.count.result c.count.ensures c.requires.valid.few in omega (arith, low)

pub hold-requires-clause-some : goal.hold-requires-clause-some
hold-requires-clause-some g c = c.stripes.ensures.some

pub hold-requires-clause-asked : goal.hold-requires-clause-asked
hold-requires-clause-asked g c = let asked = c.block_events-asked.ensures in omega (arith, asked)

pub hold-requires-clause-unused : goal.hold-requires-clause-unused
hold-requires-clause-unused g c = c.requires.new.unused

pub hold-requires-clause-enabled : goal.hold-requires-clause-enabled
hold-requires-clause-enabled g c = enabled_without c.args.shard.now.space.disabled c.args.shard.now.pass c.rebuild.result c.requires.valid.disabled c.rebuild.ensures.is c.in_default.is
