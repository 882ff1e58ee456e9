use Rattle.std.proofs.Common.{Err, ◌∙◌, ap, subst, sym, ◌≡◌, []}
use Rattle.draid_area.specs.Area.{OnTold}
use Rattle.draid_machine.specs.Created.{created}
use Rattle.draid_shard.specs.Fits.{Valid}
use Rattle.draid_shard.specs.Part.{Part, layout_in}
use Rattle.draid_shard.specs.States.{IsIn, part_of, stored_in}
use Rattle.draid_pool.specs.Groups.{ListsOnce}
use Rattle.draid_create.proofs.FirstRecord.{odd_in, odd_valid}
use Rattle.draid_entries.specs.History.{limit_in, reserved_of}
use Rattle.draid_shard.specs.declared.shard.Shard.{Shard}
use Rattle.draid_shelf.specs.declared.kit.Kit.{Kit}
use Rattle.draid_names.specs.Faults.{Rose}
use Rattle.draid_create.proofs.metaslab.create_metaslab.Goals as goal

pub returns-in-Ok-write_first : goal.returns-in-Ok-write_first
returns-in-Ok-write_first g c =
    record {
      valid = subst (Valid g.R.Rack) (sym c.write_first.ensures.same) (odd_valid g.R.Rack c.in-Ok.shard c.write_first.new.shard.odd c.in-Ok.ensures.valid);
      part = ap part_of c.write_first.ensures.same ∙ c.in-Ok.ensures.part;
      kit = (ap (λ (s : Shard g.row.R.Denot g.row.A.Denot). s.rack) c.write_first.ensures.same ∙ c.in-Ok.ensures.kit.0, ap (λ (s : Shard g.row.R.Denot g.row.A.Denot). s.even) c.write_first.ensures.same ∙ c.in-Ok.ensures.kit.1);
      «record» = (let version = c.args.geometry.props.version in
          let given : Part = record { geometry = c.args.geometry; perms = c.args.perms; number = c.args.number } in
          let told = g.A.Area.told c.write_first.new.shard.odd in
          let own : OnTold told (ListsOnce c.args.geometry c.args.number (created (layout_in given) version).image) = subst (λ (p : Part). OnTold told (ListsOnce p.geometry p.number (created (layout_in p) version).image)) c.in-Ok.ensures.part
          (subst (λ n. OnTold told (ListsOnce c.in-Ok.shard.geometry c.in-Ok.shard.number (created (layout_in (part_of c.in-Ok.shard)) n).image)) c.in-Ok.ensures.version
          c.in-Ok-write_first.ensures.record) in
          subst (λ (p : Part). OnTold told (ListsOnce c.args.geometry c.args.number (created (layout_in p) version).image))
          (sym (ap part_of c.write_first.ensures.same ∙ c.in-Ok.ensures.part)) own);
      created = subst (λ s. IsIn s (created (layout_in (part_of s)) c.args.geometry.props.version)) (sym c.write_first.ensures.same)
          (odd_in c.in-Ok.shard c.write_first.new.shard.odd (created (layout_in (part_of c.in-Ok.shard)) c.args.geometry.props.version) c.in-Ok.ensures.created);
      none = subst (λ (s : Shard g.row.R.Denot g.row.A.Denot). (stored_in s ≡ []) × (reserved_of s.history ≡ 0) × (limit_in s.history ≡ c.args.events)) (sym c.write_first.ensures.same) c.in-Ok.ensures.none;
      blocks = ap (λ (s : Shard g.row.R.Denot g.row.A.Denot). s.blocks_at) c.write_first.ensures.same ∙ c.in-Ok.ensures.blocks;
      refused = tt;
      why = tt;
    }

pub returns-in-Err : goal.returns-in-Err
returns-in-Err g c =
    record {
      valid = tt;
      part = tt;
      kit = tt;
      «record» = tt;
      created = tt;
      none = tt;
      blocks = tt;
      refused = (ap (λ (k : Kit g.row.R.Denot g.row.A.Denot). k.rack) c.in-Err.ensures.back, ap (λ (k : Kit g.row.R.Denot g.row.A.Denot). k.even) c.in-Err.ensures.back);
      why = λ is. absurd (cc);
    }

pub returns-in-Err-write_first : goal.returns-in-Err-write_first
returns-in-Err-write_first g c =
    let kit = c.in-Ok.ensures.kit in
    let same = c.write_first.ensures.same in
    let back = c.into_kit.ensures in
    record {
      valid = tt;
      part = tt;
      kit = tt;
      «record» = tt;
      created = tt;
      none = tt;
      blocks = tt;
      refused = (ap (λ (k : Kit g.row.R.Denot g.row.A.Denot). k.rack) back ∙ (ap (λ (s : Shard g.row.R.Denot g.row.A.Denot). s.rack) same ∙ kit.0), ap (λ (k : Kit g.row.R.Denot g.row.A.Denot). k.even) back ∙ (ap (λ (s : Shard g.row.R.Denot g.row.A.Denot). s.even) same ∙ kit.1));
      why = λ failed. subst (λ n. Rose (g.A.Area.faults c.args.kit.odd) n) (ap g.A.Area.faults (sym (ap (λ (k : Kit g.row.R.Denot g.row.A.Denot). k.odd) back)))
          (subst (λ n. Rose n (g.A.Area.faults c.write_first.new.shard.odd)) (ap g.A.Area.faults kit.2) (c.write_first.ensures.cause (c.in-Err-write_first.is ∙ ap Err failed)));
    }
