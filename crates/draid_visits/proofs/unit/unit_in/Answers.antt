use Rattle.std.proofs.Common.{◌≡◌, arith, false, refl, subst, sym}
use Rattle.draid_names.specs.declared.pass_kind.PassKind.TheVariants.{Heal, Rebuild}
use Rattle.draid_pool.specs.Shards.{SameBlocks}
use Rattle.draid_visits.specs.Pieces.{GoesTo}
use Rattle.draid_visits.specs.Steps.{HadContents, MovesOn, NextIs}
use Rattle.draid_visits.specs.Visiting.{IsOnly}
use Rattle.draid_visits.proofs.Lifting.{goes_by, goes_later, goes_to, goes_under}
use Rattle.draid_visits.proofs.unit.unit_in.Goals as goal

pub returns-in-Rebuild-clause-landed : goal.returns-in-Rebuild-clause-landed
returns-in-Rebuild-clause-landed g c = λ repaired is.
    (let e = c.stripe_in.ensures.landed repaired is in
    let none = e.1 in
    (subst (λ k. MovesOn k c.args.shard.now c.stripe_in.new.shard) (sym c.in-Rebuild.is) e.0, omega (arith, none)))

pub returns-in-Rebuild-clause-only : goal.returns-in-Rebuild-clause-only
returns-in-Rebuild-clause-only g c = subst (λ k. IsOnly k c.stripe_in.new.shard) (sym c.in-Rebuild.is) c.stripe_in.ensures.only

pub returns-in-Rebuild-clause-moves : goal.returns-in-Rebuild-clause-moves
returns-in-Rebuild-clause-moves g c = λ part pieces x at.
    goes_later g.R.Rack g.A.Area part pieces x c.stripe_in.new.shard (λ holds y. NextIs part Rebuild false c.stripe_in.result holds × SameBlocks x y) (c.stripe_in.ensures.goes part pieces x at)

pub returns-in-Rebuild-clause-goes : goal.returns-in-Rebuild-clause-goes
returns-in-Rebuild-clause-goes g c = λ part pieces x at.
    (let new = c.stripe_in.new.shard in
    let came = c.stripe_in.result in
    subst (λ k. GoesTo g.R.Rack g.A.Area part pieces x new (λ holds y. ((k ≡ Heal → HadContents g.R.Rack g.A.Area part c.args.shard.now x) → NextIs part k false came holds) × SameBlocks x y)) (sym c.in-Rebuild.is)
    (goes_under g.R.Rack g.A.Area part pieces x new (Rebuild ≡ Heal → HadContents g.R.Rack g.A.Area part c.args.shard.now x) (NextIs part Rebuild false came)
    (goes_to g.R.Rack g.A.Area part pieces x new (λ holds y. NextIs part Rebuild false came holds × SameBlocks x y) (c.stripe_in.ensures.goes part pieces x at))))

pub returns-in-Heal-clause-landed : goal.returns-in-Heal-clause-landed
returns-in-Heal-clause-landed g c = λ repaired is.
    (let e = c.block_in.ensures.landed repaired is in
    (subst (λ k. MovesOn k c.args.shard.now c.block_in.new.shard) (sym c.in-Heal.is) e.0, e.1))

pub returns-in-Heal-clause-tells : goal.returns-in-Heal-clause-tells
returns-in-Heal-clause-tells g c = λ repaired heal came. c.block_in.ensures.tells repaired came

pub returns-in-Heal-clause-only : goal.returns-in-Heal-clause-only
returns-in-Heal-clause-only g c = subst (λ k. IsOnly k c.block_in.new.shard) (sym c.in-Heal.is) c.block_in.ensures.only

pub returns-in-Heal-clause-goes : goal.returns-in-Heal-clause-goes
returns-in-Heal-clause-goes g c = λ part pieces x at.
    (let new = c.block_in.new.shard in
    let came = c.block_in.result in
    subst (λ k. GoesTo g.R.Rack g.A.Area part pieces x new (λ holds y. ((k ≡ Heal → HadContents g.R.Rack g.A.Area part c.args.shard.now x) → NextIs part k false came holds) × SameBlocks x y)) (sym c.in-Heal.is)
    (goes_by g.R.Rack g.A.Area part pieces x new (HadContents g.R.Rack g.A.Area part c.args.shard.now x) (Heal ≡ Heal → HadContents g.R.Rack g.A.Area part c.args.shard.now x) (NextIs part Heal false came) (λ had. had refl)
    (c.block_in.ensures.goes part pieces x at)))
