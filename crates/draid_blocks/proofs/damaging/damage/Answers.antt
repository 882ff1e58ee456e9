use Rattle.draid_shard.proofs.Changed.{same_arms, same_entries}
use Rattle.std.proofs.Common.{◌∙◌, ◌++◌, ◌∷◌, [], ap, arith, refl, subst, sym}
use Rattle.draid_machine.specs.declared.event.Event.TheVariants.{Damage}
use Rattle.draid_entries.specs.History.{events_of}
use Rattle.draid_shard.specs.Fits.{HasLeaves}
use Rattle.draid_shard.proofs.Kept.{stored_more}
use Rattle.draid_blocks.proofs.DamageSteps.{damage_acts, damage_step, same_in, sector_there}
use Rattle.draid_blocks.proofs.damaging.damage.Goals as goal

pub damage-done-requires : goal.damage-done-requires
damage-done-requires g c = record { place = sector_there _ c.args.shard.now.slots c.args.leaf c.args.sector _ (c.requires.valid.leaves.leaves c.args.leaf c.requires.leaf) c.requires.sector }

pub returns-clause-valid : goal.returns-clause-valid
returns-clause-valid g c =
    let v = c.requires.valid in
    record {
      part = v.part;
      version = v.version;
      asked = v.asked;
      tables = v.tables;
      disabled = v.disabled;
      few = v.few;
      here = v.here;
      slots = v.slots;
      once = v.once;
      pass = v.pass;
      kept = v.kept;
      serial = (let low = v.serial in let more = stored_more c.args.shard.now.history c.add_reserved.new.self _ c.add_reserved.ensures.stored in omega (arith, low, more));
      flushed = v.flushed;
      logs = v.logs;
      leaves = subst (λ shape. HasLeaves shape c.args.shard.now.geometry c.args.shard.now.slots) (sym c.damage-done.ensures.shape) v.leaves;
      groups = v.groups;
      low = v.low;
      tickets = v.tickets;
      settled = v.settled;
      owed = (let was = v.owed in let o = c.add_reserved.ensures.owed in let r = c.add_reserved.ensures.reserved in omega (arith, was, o, r));
    }

pub returns-clause-event : goal.returns-clause-event
returns-clause-event g c = record {
  part = refl;
  stored = c.add_reserved.ensures.stored ∙ ap (λ failed. events_of c.args.shard.now.history ++ Damage c.args.leaf c.args.sector failed ∷ []) c.is_err-failed.ensures.value;
  leads = λ w reached is. record {
    state = w;
    step = damage_step c.args.shard.now w c.args.leaf c.args.sector is c.requires.leaf c.requires.sector;
    is_in = same_in c.args.shard.now _ _ w is;
  };
}

pub returns-clause-acts : goal.returns-clause-acts
returns-clause-acts g c = λ pieces w after step reached is. damage_acts c.args.leaf c.args.sector c.damage-done.result _ _ c.damage-done.ensures.ok c.damage-done.ensures.err

pub add_reserved-requires : goal.add_reserved-requires
add_reserved-requires g c = record { reserved = c.requires.reserved }

pub returns-clause-areas : goal.returns-clause-areas
returns-clause-areas g c = record { even = refl; odd = refl }

pub returns-clause-keeps : goal.returns-clause-keeps
returns-clause-keeps g c = record { entries = same_entries c.args.shard.now.entries; groups = record { open_group_is = refl; closing = refl; sealed = refl; committed = refl } }

pub returns-clause-cause : goal.returns-clause-cause
returns-clause-cause g c = c.damage-done.ensures.cause

pub returns-clause-reserve : goal.returns-clause-reserve
returns-clause-reserve g c = c.add_reserved.ensures.reserved

pub returns-clause-limit : goal.returns-clause-limit
returns-clause-limit g c = c.add_reserved.ensures.limit

pub returns-clause-slots : goal.returns-clause-slots
returns-clause-slots g c = same_arms c.args.shard.now.slots
