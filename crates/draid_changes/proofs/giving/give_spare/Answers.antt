use Rattle.std.proofs.Common.{◌≡◌, ℕ, List, refl, subst, sym, length}
use Rattle.draid_names.specs.declared.arm.ArmKind.TheVariants as kind
use Rattle.draid_rack.specs.declared.Rack as racks
use Rattle.draid_shard.specs.declared.shard.Shard.{Shard}
use Rattle.draid_pool.specs.declared.pool.Pool.{Pool}
use Rattle.draid_pool.proofs.Wholes.{same_pointers, whole_valid}
use Rattle.draid_changes.specs.Attaching.{Attaches, MayCome}
use Rattle.draid_changes.specs.Walks.{ChangedBelow}
use Rattle.draid_changes.proofs.Events.{areas_changed}
use Rattle.draid_changes.proofs.Spares.{given_arms, given_done, given_idle, given_left, given_whole, ready_come}
use Rattle.draid_changes.proofs.Whole.{SameOwn}
use Rattle.draid_changes.proofs.giving.give_spare.Goals as goal

-- a spare's number in the words of an arm
called : {R A : Type 0} (rack : racks.Ghosts R) (old new : List (Shard R A)) (slot spare number : ℕ) → number ≡ spare → ChangedBelow (Attaches rack slot kind.Spare number) (length old) old new
    → ChangedBelow (Attaches rack slot kind.Spare spare) (length old) old new
called rack old new slot spare number is c = subst (λ n. ChangedBelow (Attaches rack slot kind.Spare n) (length old) old new) is c

pub attach_all-requires : goal.attach_all-requires
attach_all-requires g c =
    let old = c.args.pool.now in
    record {
      ready = λ m shard there. subst (λ n. MayCome g.R.Rack c.args.slot kind.Spare n shard) (sym c.from.ensures)
          (ready_come g.R.Rack shard c.args.slot c.args.spare (whole_valid g.R.Rack g.A.Area old m shard c.requires.whole there) (c.requires.ready m shard there) (c.requires.may m shard there));
    }

pub returns : goal.returns
returns g c =
    let old = c.args.pool.now in
    let new : Pool g.row.R.Denot g.row.A.Denot = record old { metaslabs = record { shards = c.attach_all.new.shards } } in
    let changes = called g.R.Rack old.metaslabs.shards.items new.metaslabs.shards.items c.args.slot c.args.spare c.from.result c.from.ensures c.attach_all.ensures.attaches in
    let set : SameOwn old new = record { geometry = refl; uber = refl; objects = refl; seq = refl; floor = refl } in
    record {
      whole = given_whole g.R.Rack g.A.Area c.args.slot c.args.spare old new changes set c.requires.whole;
      same = same_pointers old new refl;
      later = areas_changed g.R.Rack g.A.Area (Attaches g.R.Rack c.args.slot kind.Spare c.args.spare) old new changes set (λ a b s. s.kit.areas);
      idle = given_idle g.R.Rack g.A.Area c.args.slot c.args.spare old new changes set c.requires.idle;
      left = given_left g.R.Rack g.A.Area c.args.slot c.args.spare old new changes set;
      arms = given_arms g.R.Rack g.A.Area c.args.slot c.args.spare old new changes set c.requires.whole;
      carries = λ x is. given_done g.R.Rack g.A.Area c.args.slot c.args.spare old new changes set x is c.requires.idle;
    }
