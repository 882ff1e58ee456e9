use Rattle.std.proofs.Common.{◌+◌, ◌∙◌, Option, subst, sym}
use Rattle.std.specs.Prelude.{IfSome, IsSomeAnd, None}
use Rattle.draid_pass.specs.declared.pass.Pass.{Pass}
use Rattle.draid_shard.specs.Loans.{IsKept, IsLentBlock}
use Rattle.draid_shard.specs.declared.loan.KeptLoan.{KeptLoan}
use Rattle.draid_shard.specs.Scrubs.{IsRunningScrub}
use Rattle.draid_heal.proofs.Comes.{at_is_behind, final_keeps, final_lands, final_moves, final_none, final_valid, here_is, is_block, lands_listed, serial_is_kept, unread_is}
use Rattle.draid_heal.proofs.landing.land.Goals as goal

pub block_in-lent-requires : goal.block_in-lent-requires
block_in-lent-requires g c = is_block c.args.shard.now c.take-2.result c.take-2.ensures.value c.requires.here

pub land_kept-rewritten-requires-clause-laid : goal.land_kept-rewritten-requires-clause-laid
land_kept-rewritten-requires-clause-laid g c =
    let v = c.requires.valid in
    record { part = v.part; slots = v.slots; once = v.once; leaves = v.leaves }

pub land_kept-rewritten-requires-clause-lent : goal.land_kept-rewritten-requires-clause-lent
land_kept-rewritten-requires-clause-lent g c =
    let there = sym c.take.ensures.value ∙ c.in-Some.is in
    let kept = sym c.take-2.ensures.value ∙ c.block_in-lent.ensures in
    subst (λ (o : Option Pass). IsLentBlock c.args.shard.now.geometry o c.block_in-lent.result) there
    (subst (λ (o : Option KeptLoan). IfSome o (IsKept c.args.shard.now.geometry c.args.shard.now.pass)) kept c.requires.valid.kept)

pub returns-clause-valid : goal.returns-clause-valid
returns-clause-valid g c =
    let there = sym c.take.ensures.value ∙ c.in-Some.is in
    let kept = sym c.take-2.ensures.value ∙ c.block_in-lent.ensures in
    let lent = c.block_in-lent.result in
    let back = c.land_kept-rewritten.new.lent in
    let rest = c.land_kept-rewritten.ensures.rest in
    let at_is = at_is_behind lent back rest c.from.result c.from.ensures in
    let base = record c.args.shard.now { pass = c.take.new.self; kept = c.take-2.new.self } in
    let lands = lands_listed lent back rest g.R.Rack base c.land_kept-rewritten.new.shard c.in-Some.pass c.land_kept-rewritten.new.pass c.land_kept-rewritten.result back.room.failed.items c.taken_out.result.items
    back.room.patched.items c.taken_out-2.result.items c.land_kept-rewritten.ensures.lands c.taken_out.ensures c.taken_out-2.ensures in
    let e = c.add.ensures in
    final_valid g.R.Rack c.args.shard.now c.requires.valid c.in-Some.pass there (subst (λ (o : Option Pass). IsSomeAnd o IsRunningScrub) there c.requires.running) lent kept
    (here_is c.args.shard.now lent kept c.requires.here) c.take.new.self c.take-2.new.self c.take-2.ensures.after c.land_kept-rewritten.new.shard c.land_kept-rewritten.new.pass c.taken_out.result c.taken_out-2.result
    c.land_kept-rewritten.result (back.pointer.first + c.from.result) at_is _ c.add.new.self lands _ e.owed e.reserved e.stored

pub returns-clause-lands : goal.returns-clause-lands
returns-clause-lands g c =
    let there = sym c.take.ensures.value ∙ c.in-Some.is in
    let kept = sym c.take-2.ensures.value ∙ c.block_in-lent.ensures in
    let lent = c.block_in-lent.result in
    let back = c.land_kept-rewritten.new.lent in
    let rest = c.land_kept-rewritten.ensures.rest in
    let at_is = at_is_behind lent back rest c.from.result c.from.ensures in
    let base = record c.args.shard.now { pass = c.take.new.self; kept = c.take-2.new.self } in
    let lands = lands_listed lent back rest g.R.Rack base c.land_kept-rewritten.new.shard c.in-Some.pass c.land_kept-rewritten.new.pass c.land_kept-rewritten.result back.room.failed.items c.taken_out.result.items
    back.room.patched.items c.taken_out-2.result.items c.land_kept-rewritten.ensures.lands c.taken_out.ensures c.taken_out-2.ensures in
    final_lands g.R.Rack c.args.shard.now c.requires.valid c.in-Some.pass there (subst (λ (o : Option Pass). IsSomeAnd o IsRunningScrub) there c.requires.running) lent kept
    (here_is c.args.shard.now lent kept c.requires.here) c.take.new.self c.take-2.new.self c.take-2.ensures.after c.land_kept-rewritten.new.shard c.land_kept-rewritten.new.pass c.taken_out.result c.taken_out-2.result
    c.land_kept-rewritten.result (back.pointer.first + c.from.result) at_is _ c.add.new.self lands
    back.serial c.is_none.result (serial_is_kept lent back rest) (unread_is lent back rest c.is_none.result c.is_none.ensures) c.add.ensures.stored

pub returns-clause-keeps : goal.returns-clause-keeps
returns-clause-keeps g c =
    let there = sym c.take.ensures.value ∙ c.in-Some.is in
    let kept = sym c.take-2.ensures.value ∙ c.block_in-lent.ensures in
    let lent = c.block_in-lent.result in
    let back = c.land_kept-rewritten.new.lent in
    let rest = c.land_kept-rewritten.ensures.rest in
    let at_is = at_is_behind lent back rest c.from.result c.from.ensures in
    let base = record c.args.shard.now { pass = c.take.new.self; kept = c.take-2.new.self } in
    let lands = lands_listed lent back rest g.R.Rack base c.land_kept-rewritten.new.shard c.in-Some.pass c.land_kept-rewritten.new.pass c.land_kept-rewritten.result back.room.failed.items c.taken_out.result.items
    back.room.patched.items c.taken_out-2.result.items c.land_kept-rewritten.ensures.lands c.taken_out.ensures c.taken_out-2.ensures in
    final_keeps g.R.Rack c.args.shard.now c.requires.valid c.in-Some.pass there (subst (λ (o : Option Pass). IsSomeAnd o IsRunningScrub) there c.requires.running) lent kept
    (here_is c.args.shard.now lent kept c.requires.here) c.take.new.self c.take-2.new.self c.take-2.ensures.after c.land_kept-rewritten.new.shard c.land_kept-rewritten.new.pass c.taken_out.result c.taken_out-2.result
    c.land_kept-rewritten.result (back.pointer.first + c.from.result) at_is _ c.add.new.self lands

pub returns-clause-moves : goal.returns-clause-moves
returns-clause-moves g c =
    let there = sym c.take.ensures.value ∙ c.in-Some.is in
    let kept = sym c.take-2.ensures.value ∙ c.block_in-lent.ensures in
    let lent = c.block_in-lent.result in
    let back = c.land_kept-rewritten.new.lent in
    let rest = c.land_kept-rewritten.ensures.rest in
    let at_is = at_is_behind lent back rest c.from.result c.from.ensures in
    let base = record c.args.shard.now { pass = c.take.new.self; kept = c.take-2.new.self } in
    let lands = lands_listed lent back rest g.R.Rack base c.land_kept-rewritten.new.shard c.in-Some.pass c.land_kept-rewritten.new.pass c.land_kept-rewritten.result back.room.failed.items c.taken_out.result.items
    back.room.patched.items c.taken_out-2.result.items c.land_kept-rewritten.ensures.lands c.taken_out.ensures c.taken_out-2.ensures in
    final_moves g.R.Rack c.args.shard.now c.requires.valid c.in-Some.pass there (subst (λ (o : Option Pass). IsSomeAnd o IsRunningScrub) there c.requires.running) lent kept
    (here_is c.args.shard.now lent kept c.requires.here) c.take.new.self c.take-2.new.self c.take-2.ensures.after c.land_kept-rewritten.new.shard c.land_kept-rewritten.new.pass c.taken_out.result c.taken_out-2.result
    c.land_kept-rewritten.result (back.pointer.first + c.from.result) at_is None c.add.new.self lands

pub returns-clause-none : goal.returns-clause-none
returns-clause-none g c =
    let there = sym c.take.ensures.value ∙ c.in-Some.is in
    let kept = sym c.take-2.ensures.value ∙ c.block_in-lent.ensures in
    let lent = c.block_in-lent.result in
    let back = c.land_kept-rewritten.new.lent in
    let rest = c.land_kept-rewritten.ensures.rest in
    let at_is = at_is_behind lent back rest c.from.result c.from.ensures in
    let base = record c.args.shard.now { pass = c.take.new.self; kept = c.take-2.new.self } in
    let lands = lands_listed lent back rest g.R.Rack base c.land_kept-rewritten.new.shard c.in-Some.pass c.land_kept-rewritten.new.pass c.land_kept-rewritten.result back.room.failed.items c.taken_out.result.items
    back.room.patched.items c.taken_out-2.result.items c.land_kept-rewritten.ensures.lands c.taken_out.ensures c.taken_out-2.ensures in
    final_none g.R.Rack c.args.shard.now c.requires.valid c.in-Some.pass there (subst (λ (o : Option Pass). IsSomeAnd o IsRunningScrub) there c.requires.running) lent kept
    (here_is c.args.shard.now lent kept c.requires.here) c.take.new.self c.take-2.new.self c.take-2.ensures.after c.land_kept-rewritten.new.shard c.land_kept-rewritten.new.pass c.taken_out.result c.taken_out-2.result
    c.land_kept-rewritten.result (back.pointer.first + c.from.result) at_is None c.add.new.self lands
