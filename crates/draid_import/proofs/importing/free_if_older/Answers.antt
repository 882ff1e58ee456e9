use Rattle.std.proofs.Common.{◌≡◌, ◌∙◌, ◌⊎◌, arith, inl, inr, refl, sym, true}
use Rattle.std.specs.Prelude.{Some, nat_eq}
use Rattle.std.specs.HashMap.{get}
use Rattle.std.proofs.lemmas.Bool.{true≢false}
use Rattle.draid_checkpoint.specs.Check.{holds_birth}
use Rattle.draid_uber.specs.Uber.{point_of}
use Rattle.draid_pool.proofs.Freed.{frees}
use Rattle.draid_import.proofs.importing.free_if_older.Goals as goal

pub returns-then-is_newest : goal.returns-then-is_newest
returns-then-is_newest g c = record {
  frees = record { valid = c.requires.valid; part = refl; open_group_is = refl; done = inl (inl (c.is_newest.ensures.0 c.if-is_newest.true), refl) };
}

pub returns-then-holds : goal.returns-then-holds
returns-then-holds g c = record {
  frees = record { valid = c.requires.valid; part = refl; open_group_is = refl; done = inl (inr (sym c.holds.ensures ∙ c.if-holds.true), refl) };
}

pub returns : goal.returns
returns g c =
    let e = c.in-Ok.ensures in
    record {
      frees = record {
        valid = e.valid;
        part = e.event.1.part;
        open_group_is = e.sets.groups.open_group_is;
        done = inr (
          gone,
          (
            c.in-Ok._group,
            e.sets,
            frees g.R.Rack g.A.Area c.args.shard.now c.free.new.shard c.args.pointer.now c.args.floor c.in-Ok._group e.valid e.kit e.reserve e.event.0 e.event.1
                (let low = c.requires.valid.low in let floor = c.requires.floor in let last = c.requires.last in let is = e.event.0 in omega (arith, low, floor, last, is)) c.requires.live,
          ),
        );
      };
    }
  where
    gone : (get nat_eq c.args.newest.now c.args.pointer.now.object ≡ Some c.args.pointer.now) ⊎ (holds_birth (point_of c.args.uber.now).group c.args.pointer.now.birth ≡ true) → ⊥
    gone (inl same) = true≢false (sym (c.is_newest.ensures.1 same) ∙ c.if-is_newest.false)
    gone (inr held) = true≢false (sym held ∙ (sym c.holds.ensures ∙ c.if-holds.false))
