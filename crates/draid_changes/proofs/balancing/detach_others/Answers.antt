use Rattle.std.proofs.Common.{◌≡◌, ◌∙◌, ◌∷◌, inl, inr, ℕ, Option, ap, arith, refl, sym}
use Rattle.std.specs.Prelude.{slice_get}
use Rattle.draid_pool.specs.declared.fault.SyncFault.TheVariants as sync
use Rattle.draid_pool.proofs.Rises.{areas_still, err_on}
use Rattle.draid_changes.specs.Balancing.{SomeGo, StayTogether}
use Rattle.draid_changes.proofs.Balanced.{all_go, all_stay, low_there, none_may_go, some_may_go, some_stop}
use Rattle.draid_changes.proofs.balancing.detach_others.Goals as goal
use Rattle.draid_changes.proofs.balancing.detach_others.Goals.{then-errors-gt0-via-then-errors-gt0, then-errors-gt0-via-else-errors-gt0+then-not-all_have_others}

pub all_have_others-requires : goal.all_have_others-requires
all_have_others-requires g c = λ m shard here.
    low_there g.R.Rack g.A.Area c.args.pool.now c.requires.whole c.args.slot c.requires.slot m shard (ap (λ shards. slice_get shards m) (sym c.deref.ensures.value) ∙ here)

pub returns-then-errors-gt0 : goal.returns-then-errors-gt0
returns-then-errors-gt0 g c =
    let why : StayTogether c.args.slot c.args.errors c.args.pool.now = elim c.then-errors-gt0.branch [
      | then-errors-gt0-via-then-errors-gt0 w ↦ inl (λ none. (let some = w.if-errors-gt0.true in omega (arith, some, none)))
      | then-errors-gt0-via-else-errors-gt0+then-not-all_have_others w ↦
          let z = w.all_have_others.ensures.none w.if-not-all_have_others.true in
          inr (z.0, z.1, ap (λ shards. slice_get shards z.0) (sym w.deref.ensures.value) ∙ z.2, z.3)
    ] in
    record {
      whole = c.requires.whole;
      same = λ object. refl;
      later = areas_still g.A.Area.faults c.args.pool.now;
      cause = λ is. absurd (cc is);
      carries = λ x is.
          all_stay g.R.Rack g.A.Area c.args.pool.now c.requires.whole c.args.slot c.requires.slot x is c.args.errors
          (none_may_go g.R.Rack g.A.Area c.args.pool.now c.requires.whole c.args.slot c.requires.slot x is c.args.errors why);
      passes = c.requires.passes;
      arms = (refl, why);
    }

pub detach_and_sync-requires : goal.detach_and_sync-requires
detach_and_sync-requires g c = record {
  whole = c.requires.whole;
  idle = c.requires.idle;
  passes = c.requires.passes;
  go = some_may_go g.R.Rack g.A.Area c.args.pool.now c.requires.whole c.args.slot c.requires.slot c.requires.passes
      (λ m shard there. c.all_have_others.ensures.all c.if-not-all_have_others.false m shard (ap (λ shards. slice_get shards m) c.deref.ensures.value ∙ there));
}

pub returns-in-Ok : goal.returns-in-Ok
returns-in-Ok g c =
    let pool = c.args.pool.now in
    let go : SomeGo c.args.slot pool = some_may_go g.R.Rack g.A.Area pool c.requires.whole c.args.slot c.requires.slot c.requires.passes
    (λ m shard there. c.all_have_others.ensures.all c.if-not-all_have_others.false m shard (ap (λ shards. slice_get shards m) c.deref.ensures.value ∙ there)) in
    let none = c.if-errors-gt0.false in
    let calm : c.args.errors ≡ 0 = omega (arith, none) in
    let e = c.in-Ok.ensures in
    record {
      whole = e.whole;
      same = e.same;
      later = e.later;
      cause = λ is. absurd (cc is);
      carries = λ x is.
          all_go g.R.Rack g.A.Area pool c.requires.whole c.args.slot c.requires.slot x is c.detach_and_sync.new.pool c.args.errors go.0 go.1 go.2 calm go.3 c.in-Ok.group
          (e.carries x (go.0 ∷ go.1) go.2 is go.3);
      passes = e.passes;
      arms = e.alone;
    }

pub returns-in-Err : goal.returns-in-Err
returns-in-Err g c =
    let pool = c.args.pool.now in
    let go : SomeGo c.args.slot pool = some_may_go g.R.Rack g.A.Area pool c.requires.whole c.args.slot c.requires.slot c.requires.passes
    (λ m shard there. c.all_have_others.ensures.all c.if-not-all_have_others.false m shard (ap (λ shards. slice_get shards m) c.deref.ensures.value ∙ there)) in
    let none = c.if-errors-gt0.false in
    let calm : c.args.errors ≡ 0 = omega (arith, none) in
    let e = c.in-Err.ensures in
    record {
      whole = e.whole;
      same = e.same;
      later = e.later;
      cause = λ is. e.cause (err_on (Option ℕ) ℕ c.in-Err.why sync.Shelf is);
      carries = λ x is.
          some_stop g.R.Rack g.A.Area pool c.requires.whole c.args.slot c.requires.slot x is c.detach_and_sync.new.pool c.args.errors go.0 go.1 go.2 calm go.3 c.in-Err.why
          (e.carries x (go.0 ∷ go.1) go.2 is go.3);
      passes = e.passes;
      arms = tt;
    }
