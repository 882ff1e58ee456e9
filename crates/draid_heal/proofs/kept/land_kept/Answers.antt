use Rattle.std.proofs.Common.{Option, refl, sym, subst}
use Rattle.std.specs.Prelude.{IfSome}
use Rattle.draid_block.specs.Blocks.{BlockValue}
use Rattle.draid_shard.specs.Loans.{IsRestoredBlock}
use Rattle.draid_heal.specs.Lands.{LandsOr}
use Rattle.draid_heal.proofs.Fitting.{rows_are_long}
use Rattle.draid_heal.proofs.kept.land_kept.Goals as goal

pub land_restored-requires-clause-long : goal.land_restored-requires-clause-long
land_restored-requires-clause-long g c =
    let geometry = c.args.shard.now.geometry in
    let pointer = c.args.lent.now.pointer in
    let is : IsRestoredBlock geometry pointer.len c.in-Some.block = subst (λ (o : Option BlockValue). IfSome o (IsRestoredBlock geometry pointer.len)) c.in-Some.is c.requires.lent.restored in
    rows_are_long geometry pointer c.in-Some.block.cut c.in-Some.block.bytes is.cut is.long c.requires.lent.fetched.stripes

pub returns : goal.returns
returns g c = record {
  rest = refl;
  lands = subst (λ (o : Option BlockValue). LandsOr g.R.Rack c.args.shard.now c.land_restored.new.shard c.args.pass.now c.land_restored.new.pass c.args.lent.now.pointer o
      c.land_restored.new.room.patched.items c.land_restored.new.room.failed.items c.land_restored.result) (sym c.in-Some.is) c.land_restored.ensures.lands;
}
