use Rattle.std.proofs.Common.{◌<◌, ◌∙◌, Ok, Err, true, false, refl, subst, sym, arith}
use Rattle.draid_spec.specs.Geometry.{metaslab_sectors}
use Rattle.draid_shard.specs.Part.{Part}
use Rattle.draid_shard.proofs.Changed.{arms_then, same_arms}
use Rattle.draid_shard.proofs.Shown.{state_shown}
use Rattle.draid_pool.proofs.Refusing.{not_both}
use Rattle.draid_store.proofs.Damages.{damages, damages_nowhere, damages_starved, damages_worn, leaf_stays, raises_damage}
use Rattle.draid_store.proofs.Sets.{kept_still, kept_then}
use Rattle.draid_store.proofs.damaging.damage_sector.Goals as goal

pub returns-then-not-has_leaf : goal.returns-then-not-has_leaf
returns-then-not-has_leaf g c =
    record {
      valid = c.requires.valid;
      part = refl;
      keeps = kept_still c.args.shard.now;
      slots = same_arms c.args.shard.now.slots;
      damages = damages_nowhere g.R.Rack g.A.Area c.args.shard.now c.args.leaf (λ is. not_both c.has_leaf.result (c.has_leaf.ensures.1 is) c.if-not-has_leaf.true);
    }

pub returns-in-Err-NoMemory : goal.returns-in-Err-NoMemory
returns-in-Err-NoMemory g c =
    record {
      valid = c.in-Err-NoMemory.ensures.valid;
      part = c.in-Err-NoMemory.ensures.none.part;
      keeps = c.in-Err-NoMemory.ensures.keeps;
      slots = c.in-Err-NoMemory.ensures.slots;
      damages = (let e = c.in-Err-NoMemory.ensures in
          damages_starved g.R.Rack g.A.Area c.args.shard.now c.reserve.new.self (record { valid = e.valid; none = e.none; kit = e.kit; limit = e.limit }) e.same);
    }

pub returns-in-Err-Worn : goal.returns-in-Err-Worn
returns-in-Err-Worn g c =
    let e = c.in-Err-Worn.ensures in
    let leaf = c.has_leaf.ensures.0 c.if-not-has_leaf.false in
    record {
      valid = e.valid;
      part = e.none.part;
      keeps = e.keeps;
      slots = e.slots;
      damages = damages_worn g.R.Rack g.A.Area c.args.shard.now c.reserve.new.self c.args.leaf (record { valid = e.valid; none = e.none; kit = e.kit; limit = e.limit }) e.same leaf
          c.in-Err-Worn.field-0 c.in-Err-Worn.field-0-0 c.in-Err-Worn.field-0-is e.answer;
    }

pub damage-requires : goal.damage-requires
damage-requires g c =
    record {
      valid = c.reserve.ensures.valid;
      reserved = (let more = c.in-Ok.ensures.reserved in omega (arith, more));
      leaf = (let is = state_shown g.R.Rack c.args.shard.now c.requires.valid in
          leaf_stays g.R.Rack g.A.Area c.args.shard.now c.reserve.new.self is.0 c.args.leaf is.1 c.reserve.ensures.none (c.has_leaf.ensures.0 c.if-not-has_leaf.false));
      sector = subst (λ (p : Part). c.args.sector < metaslab_sectors p.geometry) (sym c.reserve.ensures.none.part) c.requires.sector;
    }

pub returns-in-Ok-damage : goal.returns-in-Ok-damage
returns-in-Ok-damage g c =
    let e = c.in-Ok.ensures in
    let d = c.in-Ok-damage.ensures in
    record {
      valid = d.valid;
      part = d.event.part ∙ e.none.part;
      keeps = kept_then c.args.shard.now c.reserve.new.self c.damage.new.shard e.keeps d.keeps;
      slots = arms_then c.args.shard.now.slots c.reserve.new.self.slots c.damage.new.shard.slots e.slots d.slots;
      damages = damages g.R.Rack g.A.Area c.args.shard.now c.reserve.new.self c.damage.new.shard c.args.leaf c.args.sector false
          (record { valid = e.valid; none = e.none; kit = e.kit; limit = e.limit }) e.reserved e.answer d.valid d.event d.acts
          (raises_damage g.R.Rack g.A.Area c.reserve.new.self c.damage.new.shard c.args.leaf c.args.sector (Ok c.in-Ok-damage.field-0) d.areas d.cause) d.reserve d.limit;
    }

pub returns-in-Err : goal.returns-in-Err
returns-in-Err g c =
    let e = c.in-Ok.ensures in
    let d = c.in-Err.ensures in
    record {
      valid = d.valid;
      part = d.event.part ∙ e.none.part;
      keeps = kept_then c.args.shard.now c.reserve.new.self c.damage.new.shard e.keeps d.keeps;
      slots = arms_then c.args.shard.now.slots c.reserve.new.self.slots c.damage.new.shard.slots e.slots d.slots;
      damages = damages g.R.Rack g.A.Area c.args.shard.now c.reserve.new.self c.damage.new.shard c.args.leaf c.args.sector true
          (record { valid = e.valid; none = e.none; kit = e.kit; limit = e.limit }) e.reserved e.answer d.valid d.event d.acts
          (raises_damage g.R.Rack g.A.Area c.reserve.new.self c.damage.new.shard c.args.leaf c.args.sector (Err c.in-Err.field-0) d.areas d.cause) d.reserve d.limit;
    }
