use Rattle.std.proofs.Common.{◌∙◌, ◌+◌, ◌++◌, ap, inr, length, refl, subst, sym}
use Rattle.std.specs.Prelude.{map, nat_eq}
use Rattle.std.specs.HashMap.{get}
use Rattle.draid_record.specs.Checks.{told_check}
use Rattle.draid_uber.specs.Points.{block_of, dropped_in}
use Rattle.draid_uber.specs.Slots.{group_of}
use Rattle.draid_uber.specs.Uber.{changed_of, kept_of, point_of}
use Rattle.draid_pool.proofs.Counted.{has_names}
use Rattle.draid_import.specs.Points.{AreOthers, changed_by}
use Rattle.draid_import.proofs.ImportCheck.{same_uber}
use Rattle.draid_import.proofs.ImportFits.{kept_both, kept_uber, ok_then}
use Rattle.draid_import.proofs.PointDrops.{all_few, all_room, as_many, enough_room, few_named, lists_view, no_point, not_none, room_seen, none_kept, older_kept, others_by, room_left}
use Rattle.draid_import.proofs.pointing.keep_point.Goals as goal

pub returns-then-check-eq0 : goal.returns-then-check-eq0
returns-then-check-eq0 g c =
    let e = c.keep_check.ensures in
    let new = c.keep_check.new.self in
    let group = group_of (kept_of c.args.uber.now) in
    let value = told_check c.args.check.now in
    let none = c.if-check-eq0.true in
    record {
      same = kept_uber g.A.Area c.args.uber.now new e.valid e.areas e.kept e.layout e.version e.leaf;
      keeps = ok_then c.keep_check.result _ _ (λ keeps. none_kept group value c.args.shards.now (get nat_eq c.args.newest.now) (changed_of c.args.uber.now) new none keeps e.changed) e.keeps;
      room = ok_then c.keep_check.result _ _ (λ keeps. inr (no_point group value (point_of new) keeps none c.requires.range)) e.keeps;
    }

pub returns-in-Err : goal.returns-in-Err
returns-in-Err g c = record { same = same_uber g.A.Area c.args.uber.now c.requires.valid; keeps = tt; room = tt }

pub returns-in_default : goal.returns-in_default
returns-in_default g c = record { same = same_uber g.A.Area c.args.uber.now c.requires.valid; keeps = tt; room = tt }

pub returns : goal.returns
returns g c =
    let e = c.keep_check-2.ensures in
    record { same = kept_uber g.A.Area c.args.uber.now c.keep_check-2.new.self e.valid e.areas e.kept e.layout e.version e.leaf; keeps = tt; room = tt }

pub drop_all-requires : goal.drop_all-requires
drop_all-requires g c =
    let e = c.in-Ok-keep_check.ensures in
    let group = group_of (kept_of c.args.uber.now) in
    let value = told_check c.args.check.now in
    let mid = c.keep_check-2.new.self in
    let named = as_many group value (point_of mid) e.keeps in
    let sum = c.in-Some.ensures.0 in
    let few = c.in-Some.ensures.1 in
    let some = c.len-2.ensures ∙ c.in-Ok.older.ok.0 in
    let all = c.len.ensures ∙ c.args.check.now.drops.ok.0 in
    let older = c.in-Ok.older.items in
    let many = ap length c.deref-in-Ok-keep_check.ensures.value in
    record {
      room = enough_room (length c.deref-in-Ok-keep_check.result.now) (length older) c.len-2.result c.len-3.result c.in-Some.more (point_of mid).spare many some sum e.room;
      few = few_named (length (point_of mid).drops) (length value.drops) c.len.result (length c.deref-in-Ok-keep_check.result.now) (length older) c.len-2.result c.len-3.result c.in-Some.more named all many some sum few;
      other = subst (AreOthers (map block_of (point_of mid).drops)) (sym c.deref-in-Ok-keep_check.ensures.value)
          (others_by group value c.args.shards.now (get nat_eq c.args.newest.now) (changed_of c.args.uber.now) mid older (lists_view c.deref.ensures.value c.in-Ok.ensures) e.keeps);
      valid = c.keep_check-2.ensures.valid;
    }

pub returns-in-Ok-keep_check : goal.returns-in-Ok-keep_check
returns-in-Ok-keep_check g c =
    let e = c.in-Ok-keep_check.ensures in
    let k = c.keep_check-2.ensures in
    let d = c.drop_all.ensures in
    let group = group_of (kept_of c.args.uber.now) in
    let value = told_check c.args.check.now in
    let mid = c.keep_check-2.new.self in
    let new = c.drop_all.new.uber in
    let newest = get nat_eq c.args.newest.now in
    let older = c.in-Ok.older.items in
    let named = as_many group value (point_of mid) e.keeps in
    let sum = c.in-Some.ensures.0 in
    let few = c.in-Some.ensures.1 in
    let some = c.len-2.ensures ∙ c.in-Ok.older.ok.0 in
    let all = c.len.ensures ∙ c.args.check.now.drops.ok.0 in
    let many = ap length c.deref-in-Ok-keep_check.ensures.value in
    let view = c.deref-in-Ok-keep_check.ensures.value in
    let drops = d.drops ∙ ap (λ ds. (point_of mid).drops ++ map (dropped_in (c.committed-group.result + 1)) ds) view in
    record {
      same = kept_both g.A.Area c.args.uber.now mid new (kept_uber g.A.Area c.args.uber.now mid k.valid k.areas k.kept k.layout k.version k.leaf) (kept_uber g.A.Area mid new d.valid d.areas d.kept d.layout d.version d.leaf);
      keeps = older_kept group value c.args.shards.now newest (changed_of c.args.uber.now) mid new older (c.committed-group.result + 1) (not_none value.group c.if-check-eq0.false) (lists_view c.deref.ensures.value c.in-Ok.ensures) e.keeps
          (ap (λ n. n + 1) (c.committed-group.ensures ∙ ap group_of k.kept)) d.group drops k.changed (d.changed ∙ ap (λ ds. changed_by ds (c.committed-group.result + 1) (changed_of mid)) view);
      room = room_left newest (point_of mid) (point_of new) (length value.drops) (length older) c.len-3.result older (c.committed-group.result + 1)
          (has_names c.args.newest.now c.len-3.result c.len-3.ensures.unique c.len-3.ensures.len) refl named drops (room_seen (point_of mid).spare (point_of new).spare (length c.deref-in-Ok-keep_check.result.now) (length older) many d.room)
          (all_room (length older) c.len-2.result c.len-3.result c.in-Some.more (point_of mid).spare some sum e.room) (all_few (length value.drops) c.len.result (length older) c.len-2.result c.len-3.result c.in-Some.more all some sum few);
    }
