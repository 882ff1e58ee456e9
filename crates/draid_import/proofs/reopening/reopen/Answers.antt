use Rattle.std.proofs.Common.{◌+◌, ◌||◌, ◌∙◌, arith, ap, inl, not, refl, subst, sym}
use Rattle.draid_spec.specs.Geometry.{IsGeometry, metaslab_sectors}
use Rattle.draid_rack.specs.Moments.{LeavesTold}
use Rattle.draid_metaslab.specs.Spaces.{Stripes, is_free}
use Rattle.draid_record.specs.Record.{limits_of}
use Rattle.draid_record.proofs.Ranged.{ranged_spelled}
use Rattle.draid_stable.specs.Opening.{KeepsCounts, has_leaf, has_leaf_arm}
use Rattle.draid_stable.proofs.Gone.{no_arm}
use Rattle.draid_stable.proofs.There.{whole_parts}
use Rattle.draid_shard.specs.Fits.{is_rebuild}
use Rattle.draid_import.specs.Reopening.{area_of_kit}
use Rattle.draid_pool.proofs.Rooms.{own_version}
use Rattle.draid_import.proofs.Once.{told_low, told_once}
use Rattle.draid_import.proofs.Reopened.{are_here, both_same, drops_but, enough_room, leaves_there, no_writes, tables_fit, told_opening, told_place}
use Rattle.draid_import.proofs.reopening.reopen.Goals as goal

pub returns-in-Err : goal.returns-in-Err
returns-in-Err g c = record {
  valid = tt;
  part = tt;
  begins = tt;
  opened = tt;
  gone = tt;
  counts = c.read_kit.ensures.later;
  back = c.read_kit.ensures.back;
  refused = c.in-Err.ensures.refused;
}

pub returns-in_default : goal.returns-in_default
returns-in_default g c = record {
  valid = tt;
  part = tt;
  begins = tt;
  opened = tt;
  gone = tt;
  counts = c.read_kit.ensures.later;
  back = c.read_kit.ensures.back;
  refused = tt;
}

pub returns-in_default-flush_room : goal.returns-in_default-flush_room
returns-in_default-flush_room g c = record {
  valid = tt;
  part = tt;
  begins = tt;
  opened = tt;
  gone = tt;
  counts = c.read_kit.ensures.later;
  back = c.read_kit.ensures.back;
  refused = tt;
}

pub returns : goal.returns
returns g c =
    let geometry = c.args.geometry in
    let limits = limits_of geometry c.args.number c.args.group c.args.next_leaf in
    let there = has_leaf (g.R.Rack.shape c.args.kit.rack) (metaslab_sectors geometry) in
    let r = c.in-Ok.ensures.read.read in
    let t = r.tables in
    let parts = whole_parts limits there c.in-Ok.ensures.read.bytes r.value r.found in
    let h = c.in-Ok-history_of.ensures in
    record {
      valid = (let is : IsGeometry geometry = c.requires.part.layout.geometry_is in
          let shut = c.shut_for.ensures in
          let blocks = r.ranged.blocks_are in
          record {
            part = c.requires.part;
            version = is.version;
            asked = own_version geometry.props.version is.version;
            tables = tables_fit geometry c.args.number c.args.group c.args.next_leaf r.value.blocks is c.requires.group.1 blocks c.in-Ok.it.tables.entries t.entries c.shut_for.new.space
                (λ x. ap (λ (s : Stripes). is_free s x) shut ∙ t.space.free x) (ap (λ (s : Stripes). s.height) shut ∙ t.space.height) (ap (λ (s : Stripes). s.total) shut ∙ t.space.total)
                (ap (λ (s : Stripes). s.held) shut ∙ t.space.held);
            disabled = ap (λ (s : Stripes). s.disabled) shut ∙ ap (λ b. b || is_rebuild c.in-Ok.it.tables.pass) t.space.enabled;
            few = (let count = t.entries.count in let few = r.ranged.few in omega (arith, count, few));
            here = are_here geometry c.args.number c.args.group c.args.next_leaf r.value.blocks is c.requires.group.1 blocks c.in-Ok.it.tables.entries t.entries;
            slots = record { geometry_is = t.of.geometry_is; perms_are = t.of.perms_are; metaslab_is = t.of.metaslab_is ∙ r.ranged.metaslab_is };
            once = told_once limits r.value.slots r.ranged.slots_are c.in-Ok.it.tables.slots t.arms t.detached;
            pass = t.holds;
            kept = tt;
            serial = omega arith;
            flushed = c.in-Ok-flush_room.ensures;
            logs = enough_room c.in-Ok.it.tables.slots c.in-Ok.it.tables.pass (c.args.group + 1) 0 t.room;
            leaves = leaves_there (g.R.Rack.shape c.args.kit.rack) (g.R.Rack.shape c.keep_arms.new.rack) geometry c.in-Ok.it.tables.slots r.value.slots t.arms t.detached parts.lacks c.requires.bytes
                (c.keep_arms.ensures.bytes ∙ ap (λ rack. (g.R.Rack.shape rack).bytes) c.in-Ok.ensures.back.rack)
                (λ leaf named. c.keep_arms.ensures.kept leaf named ∙ ap (λ rack. (g.R.Rack.shape rack).leaves leaf) c.in-Ok.ensures.back.rack);
            groups = (refl, refl);
            low = (let low = c.requires.group.1 in omega (arith, low));
            tickets = no_writes geometry c.args.number c.args.group c.args.next_leaf r.value.blocks is c.requires.group.1 blocks c.in-Ok.it.tables.entries t.entries (c.args.group + 1);
            settled = λ sealed. no_writes geometry c.args.number c.args.group c.args.next_leaf r.value.blocks is c.requires.group.1 blocks c.in-Ok.it.tables.entries t.entries (c.args.group + 1);
            owed = (let own = t.entries.owed geometry.g in let count = t.entries.count in let owed = h.owed in let none = h.reserved in omega (arith, own, count, owed, none));
          });
      part = refl;
      begins = (c.in-Ok-history_of.ensures.limit_is, refl);
      opened = (let back = c.in-Ok.ensures.back in
          let same = both_same g.A.Area.told c.args.kit c.read_kit.new.kit c.args.group back in
          record {
            value = r.value;
            in_range = ranged_spelled limits r.value r.ranged;
            read = told_opening (g.A.Area.told (area_of_kit c.args.kit c.args.group)) limits there c.in-Ok.ensures.read.bytes r.value c.in-Ok.ensures.read.are r.found;
            arms = t.arms;
            low = record { detached = t.detached; below = told_low limits r.value.slots r.ranged.slots_are c.in-Ok.it.tables.slots t.arms t.detached };
            entries = t.entries;
            is_in = λ w doubtful. record {
              held = λ key. sym (t.entries.held key);
              slots = t.slots;
              pass = t.pass;
              last = sym t.last;
              open_group_is = ap (λ n. n + 1) r.ranged.group_is;
              closing = refl;
              sealed = refl;
              committed = r.ranged.group_is;
              version = r.ranged.version_is;
              asked = r.ranged.version_is;
              serial = refl;
              loan = refl;
            };
            leaves = drops_but c.in-Ok.it.tables.slots r.value (g.R.Rack.told c.args.kit.rack) (g.R.Rack.told c.keep_arms.new.rack) t.arms
                (subst (λ rack. LeavesTold (λ leaf sector. not (has_leaf_arm c.in-Ok.it.tables.slots leaf)) (g.R.Rack.told rack) (g.R.Rack.told c.keep_arms.new.rack)) back.rack c.keep_arms.ensures.told);
            blocks = told_place (g.A.Area.told (area_of_kit c.args.kit c.args.group)) c.in-Ok.ensures.read.bytes r.value.blocks c.in-Ok.it.blocks_at c.in-Ok.ensures.read.are c.in-Ok.ensures.read.place;
            none = (h.events, h.reserved);
            even = same.0;
            odd = same.1;
          });
      gone = λ leaf low other. c.keep_arms.ensures.gone leaf low (no_arm c.in-Ok.it.tables.slots leaf (λ at is. other (inl (at, is.0, is.1, is.2, is.3))));
      counts = (let later = c.keep_arms.ensures.later in
          let before = c.read_kit.ensures.later in
          let kept = subst (λ rack. KeepsCounts c.in-Ok.it.tables.slots (g.R.Rack.faults rack) (g.R.Rack.faults c.keep_arms.new.rack)) c.in-Ok.ensures.back.rack later in
          record { on_rack = record { own = kept.own; leaves = kept.leaves }; even = before.even; odd = before.odd });
      back = tt;
      refused = tt;
    }
