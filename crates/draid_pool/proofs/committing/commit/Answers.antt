use Rattle.std.proofs.Common.{◌∙◌, ◌++◌, ◌∷◌, [], List, None, ap, arith, length, refl}
use Rattle.draid_machine.specs.declared.event.Event.{Event}
use Rattle.draid_machine.specs.declared.event.Event.TheVariants.{Commit}
use Rattle.draid_machine.proofs.Small.{none_some}
use Rattle.draid_shard.proofs.Kept.{fitting, stored_more}
use Rattle.draid_pool.proofs.Committed.{commit_acts, commit_drops, commit_leads, commit_valid, owes_one}
use Rattle.draid_pool.proofs.Keeping.{pass_still}
use Rattle.draid_pool.proofs.committing.commit.Goals as goal

pub release_freed-requires : goal.release_freed-requires
release_freed-requires g c = record { tables = fitting g.R.Rack c.args.shard.now c.requires.valid }

pub returns : goal.returns
returns g c =
    record {
      valid = (let v = c.requires.valid in
          commit_valid g.R.Rack c.args.shard.now v c.args.group c.requires.sealed.0 c.requires.sealed.1 c.drop_detached.new.rack c.release_freed.new.space c.release_freed.new.entries c.commit.new.self c.lends_freed-freed.result c.drop_if.new.kept c.drop_if.ensures.kept c.add.new.self
          c.release_freed.ensures.drops c.commit.ensures c.drop_detached.ensures (c.release_freed.ensures.tables c.args.shard.now.geometry c.args.shard.now.open_group v.tables) c.release_freed.ensures.disabled
          (let owed = c.add.ensures.owed in let loan = c.drop_if.ensures.owed in omega (arith, owed, loan)) (c.add.ensures.reserved ∙ c.drop_if.ensures.reserved)
          (let more = stored_more c.drop_if.new.history c.add.new.self _ c.add.ensures.stored in let same = ap length c.drop_if.ensures.stored in omega (arith, more, same)));
      areas = record { even = refl; odd = refl };
      event = record {
        part = refl;
        stored = c.add.ensures.stored ∙ ap (λ (events : List Event). events ++ Commit c.args.group ∷ []) c.drop_if.ensures.stored;
        leads = commit_leads g.R.Rack c.args.shard.now c.requires.valid c.args.group c.requires.sealed.0 c.requires.sealed.1 c.drop_detached.new.rack c.release_freed.new.space c.release_freed.new.entries c.commit.new.self
            c.lends_freed-freed.result c.drop_if.new.kept c.drop_if.ensures.kept c.add.new.self c.release_freed.ensures.drops c.commit.ensures c.drop_detached.ensures c.lends_freed-freed.ensures;
      };
      commits = record { entries = c.release_freed.ensures.drops; open_group_is = refl; closing = refl; sealed = refl; committed = refl };
      acts = commit_acts g.R.Rack c.args.shard.now c.requires.valid c.args.group c.requires.sealed.0 c.requires.sealed.1 c.drop_detached.new.rack c.release_freed.new.space c.release_freed.new.entries c.commit.new.self c.lends_freed-freed.result c.drop_if.new.kept c.drop_if.ensures.kept c.add.new.self
          c.release_freed.ensures.drops c.commit.ensures c.drop_detached.ensures;
      leaves = commit_drops g.R.Rack c.args.shard.now c.requires.valid c.args.group c.requires.sealed.0 c.requires.sealed.1 c.drop_detached.new.rack c.release_freed.new.space c.release_freed.new.entries c.commit.new.self c.lends_freed-freed.result c.drop_if.new.kept c.drop_if.ensures.kept c.add.new.self
          c.release_freed.ensures.drops c.commit.ensures c.drop_detached.ensures;
      slots = c.commit.ensures;
      reserve = record { reserved = c.add.ensures.reserved ∙ c.drop_if.ensures.reserved; limit = c.add.ensures.limit ∙ c.drop_if.ensures.limit };
      stays = record {
        pass = pass_still c.args.shard.now.pass;
        rack = c.drop_detached.ensures.drops.counts None (λ leaf is. absurd (none_some None leaf refl is));
        arms = record { same = c.commit.ensures.same; arms_stay = c.commit.ensures.arms_stay };
        asked = refl;
      };
      version = refl;
    }

pub drop_if-requires : goal.drop_if-requires
drop_if-requires g c = let all = c.requires.valid.owed in record { owed = omega (arith, all) }

pub add-requires-clause-owed : goal.add-requires-clause-owed
add-requires-clause-owed g c =
    let all = c.requires.valid.owed in
    let one = owes_one c.args.shard.now.closing c.args.shard.now.sealed c.args.group c.requires.sealed.0 c.requires.sealed.1 in
    let owed = c.drop_if.ensures.owed in
    let reserved = c.drop_if.ensures.reserved in
    omega (arith, all, one, owed, reserved)
