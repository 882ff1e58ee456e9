use Rattle.std.proofs.Common.{◌-◌, ◌*◌, ◌∙◌, ℕ, List, arith, ap, subst, sym, Err, rules}
use Rattle.draid_spec.specs.Geometry.{metaslab_sectors}
use Rattle.draid_entries.specs.Entries.{count_of}
use Rattle.draid_record.specs.Record.{limits_of}
use Rattle.draid_record.specs.declared.sizes.TheConstants.{BLOCK_BYTES}
use Rattle.draid_stable.specs.Opening.{AreRead, has_leaf, len_of}
use Rattle.draid_import.specs.Reopening.{AreReadFrom}
use Rattle.draid_import.proofs.reopening.read_kit.Goals as goal

pub first_block-blocks_at-requires : goal.first_block-blocks_at-requires
first_block-blocks_at-requires g c =
    subst (λ (bytes : List ℕ). AreReadFrom bytes c.in-Ok-read_tables.tables) (c.deref.ensures.value ∙ sym c.deref-in-Ok-read_tables.ensures.value) (record {
      geometry = c.args.geometry;
      perms = c.args.perms;
      limits = limits_of c.args.geometry c.args.number c.args.group c.args.next_leaf;
      there = has_leaf (g.R.Rack.shape c.read_group.new.kit.rack) (metaslab_sectors c.args.geometry);
      read = c.in-Ok-read_tables.ensures.read;
    })

pub returns-in-Err-Failed : goal.returns-in-Err-Failed
returns-in-Err-Failed g c =
    record {
      back = c.read_group.ensures.back;
      later = c.read_group.ensures.later;
      read = tt;
      refused = c.read_group.ensures.cause (c.in-Err-Failed.is ∙ ap Err c.in-Err-Failed.field-0-is);
    }

pub returns-in-Err-NoMemory : goal.returns-in-Err-NoMemory
returns-in-Err-NoMemory g c =
    record {
      back = c.read_group.ensures.back;
      later = c.read_group.ensures.later;
      read = tt;
      refused = tt;
    }

pub returns-in-Err-Bad : goal.returns-in-Err-Bad
returns-in-Err-Bad g c =
    record {
      back = c.read_group.ensures.back;
      later = c.read_group.ensures.later;
      read = tt;
      refused = search rules;
    }

pub returns : goal.returns
returns g c =
    record {
      back = c.read_group.ensures.back;
      later = c.read_group.ensures.later;
      read = tt;
      refused = tt;
    }

pub returns-in-Ok-read_tables : goal.returns-in-Ok-read_tables
returns-in-Ok-read_tables g c =
    record {
      back = c.read_group.ensures.back;
      later = c.read_group.ensures.later;
      read = (let limits = limits_of c.args.geometry c.args.number c.args.group c.args.next_leaf in
          let rack = c.in-Ok.ensures.back.rack in
          let read = subst (λ r. AreRead c.args.geometry c.args.perms limits (has_leaf (g.R.Rack.shape r) (metaslab_sectors c.args.geometry)) c.in-Ok.bytes.items c.in-Ok-read_tables.tables) rack
          (subst (λ bytes. AreRead c.args.geometry c.args.perms limits (has_leaf (g.R.Rack.shape c.read_group.new.kit.rack) (metaslab_sectors c.args.geometry)) bytes c.in-Ok-read_tables.tables)
          c.deref.ensures.value c.in-Ok-read_tables.ensures.read) in
          record {
            bytes = c.in-Ok.bytes.items;
            are = c.in-Ok.ensures.bytes;
            read = read;
            place = c.first_block-blocks_at.ensures ∙ ap (λ (bytes : List ℕ). len_of bytes - BLOCK_BYTES * count_of c.in-Ok-read_tables.tables.entries) c.deref-in-Ok-read_tables.ensures.value
                ∙ ap (λ n. len_of c.in-Ok.bytes.items - BLOCK_BYTES * n) (let count = read.tables.entries.count in omega (arith, count));
          });
      refused = tt;
    }
