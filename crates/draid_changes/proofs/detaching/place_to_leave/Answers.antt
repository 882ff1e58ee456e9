use Rattle.std.proofs.Common.{◌≡◌, ◌∙◌, ℕ, arith, ap, inl, inr, refl, sym, subst, Some, length}
use Rattle.std.specs.Prelude.{slice_get}
use Rattle.std.proofs.lemmas.Option.{slice_get_within}
use Rattle.draid_slots.specs.Table.{arms_of}
use Rattle.draid_disks.specs.Checks.{HasWholeOver, IsGoingRefused}
use Rattle.draid_shard.specs.declared.shard.Shard.{Shard}
use Rattle.draid_changes.proofs.Begun.{first_borrowed}
use Rattle.draid_changes.proofs.Staying.{going_broken, none_broken, none_named, stands}
use Rattle.draid_changes.proofs.Forbids.{named_shared}
use Rattle.draid_changes.proofs.detaching.place_to_leave.Goals as goal

pub returns-in_default-clause-broken : goal.returns-in_default-clause-broken
returns-in_default-clause-broken g c = λ x u is.
    (let pool = c.args.pool.now in
    let first = c.index.result.now in
    let at = first_borrowed g.R.Rack g.A.Area pool first c.requires.whole c.index.ensures in
    none_named g.R.Rack g.A.Area pool c.requires.whole x is first at c.args.arm c.in_default.ensures.none)

pub returns-in_default-clause-refused : goal.returns-in_default-clause-refused
returns-in_default-clause-refused g c =
    let pool = c.args.pool.now in
    let first = c.index.result.now in
    (first, first_borrowed g.R.Rack g.A.Area pool first c.requires.whole c.index.ensures, inl (refl, c.in_default.ensures.none))

pub detach_fault-requires-clause-slot : goal.detach_fault-requires-clause-slot
detach_fault-requires-clause-slot g c = c.in-Some.ensures.found.1

pub detach_fault-requires-clause-there : goal.detach_fault-requires-clause-there
detach_fault-requires-clause-there g c =
    let arms = arms_of c.index.result.now.slots c.in-Some.at.slot in
    slice_get_within arms c.in-Some.at.arm c.in-Some.ensures.found.0.0 c.in-Some.ensures.found.0.1

pub detach_fault-requires-clause-alike : goal.detach_fault-requires-clause-alike
detach_fault-requires-clause-alike g c = λ m shard here.
    (let pool = c.args.pool.now in
    let first = c.index.result.now in
    let at = first_borrowed g.R.Rack g.A.Area pool first c.requires.whole c.index.ensures in
    (c.requires.whole.alike 0 m first shard at (ap (λ shards. slice_get shards m) (sym c.deref.ensures.value) ∙ here)).arms)

pub returns-in-Some-detach_fault-clause-broken : goal.returns-in-Some-detach_fault-clause-broken
returns-in-Some-detach_fault-clause-broken g c = λ x u is.
    (let pool = c.args.pool.now in
    let first = c.index.result.now in
    let at = first_borrowed g.R.Rack g.A.Area pool first c.requires.whole c.index.ensures in
    going_broken g.R.Rack g.A.Area pool c.requires.whole x is first at c.args.arm c.in-Some.at c.in-Some.ensures.found.0 c.in-Some-detach_fault.why
    (subst (λ shards. IsGoingRefused first.slots shards c.in-Some.at c.in-Some-detach_fault.why) c.deref.ensures.value c.in-Some-detach_fault.ensures.some) u)

pub returns-in-Some-detach_fault-clause-refused : goal.returns-in-Some-detach_fault-clause-refused
returns-in-Some-detach_fault-clause-refused g c =
    let pool = c.args.pool.now in
    let first = c.index.result.now in
    let at = c.in-Some.at in
    let why = c.in-Some-detach_fault.why in
    (first, first_borrowed g.R.Rack g.A.Area pool first c.requires.whole c.index.ensures, inr (at, c.in-Some.ensures.found.0, subst (λ shards. IsGoingRefused first.slots shards at why) c.deref.ensures.value c.in-Some-detach_fault.ensures.some))

pub returns-in-None-clause-may : goal.returns-in-None-clause-may
returns-in-None-clause-may g c = λ m shard here.
    (let pool = c.args.pool.now in
    let first = c.index.result.now in
    let at = first_borrowed g.R.Rack g.A.Area pool first c.requires.whole c.index.ensures in
    let same = (c.requires.whole.alike 0 m first shard at here).arms in
    let goes = c.in-None.ensures.none m shard (ap (λ shards. slice_get shards m) c.deref.ensures.value ∙ here) in
    let found = c.in-Some.ensures.found in
    record {
      pass = goes.0;
      low = (let low = found.1 in let children = same.children in omega (arith, low, children));
      there = named_shared first.slots shard.slots c.in-Some.at c.args.arm same found.1 found.0;
      may = goes.1;
    })

pub returns-in-None-clause-stands : goal.returns-in-None-clause-stands
returns-in-None-clause-stands g c = λ x is.
    (let pool = c.args.pool.now in
    let first = c.index.result.now in
    let at = first_borrowed g.R.Rack g.A.Area pool first c.requires.whole c.index.ensures in
    stands g.R.Rack g.A.Area pool c.requires.whole x is first at c.args.arm c.in-Some.at c.in-Some.ensures.found.0)

pub returns-in-None-clause-none : goal.returns-in-None-clause-none
returns-in-None-clause-none g c = λ x u why is.
    (let pool = c.args.pool.now in
    let first = c.index.result.now in
    let at = first_borrowed g.R.Rack g.A.Area pool first c.requires.whole c.index.ensures in
    let goes = λ (m : ℕ) (shard : Shard g.row.R.Denot g.row.A.Denot) (here : slice_get pool.metaslabs.shards.items m ≡ Some shard). c.in-None.ensures.none m shard (ap (λ shards. slice_get shards m) c.deref.ensures.value ∙ here) in
    none_broken g.R.Rack g.A.Area pool c.requires.whole x is first at c.args.arm c.in-Some.at c.in-Some.ensures.found.0 (λ m shard here. (goes m shard here).0) (goes 0 first at).1.leaf_beside
    (subst (λ shards. HasWholeOver shards c.in-Some.at (length (arms_of first.slots c.in-Some.at.slot))) c.deref.ensures.value c.in-None.ensures.whole) u why)
