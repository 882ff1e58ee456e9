use Rattle.std.proofs.Common.{◌≡◌, ◌∙◌, ℕ, Bool, Option, Some, ap, nat_eq, refl, sym, subst}
use Rattle.std.specs.HashMap.{get}
use Rattle.draid_names.specs.declared.pointer.Pointer.{Pointer}
use Rattle.draid_pool.specs.Threads.{AllStay, IsWholeBy, Knows}
use Rattle.draid_pool.proofs.HeldBy.{stay_same, stay_then}
use Rattle.draid_store.specs.Answers.{FreeDoes}
use Rattle.draid_store.specs.Pointers.{TriesTake}
use Rattle.draid_works.proofs.Waited.{Waits, freed_own, step_own, waits_more, waits_none}
use Rattle.draid_works.proofs.freeing.free_through.Goals as goal
use Rattle.draid_session.specs.State.{Store}
use Rattle.draid_store.specs.Freeing.{HasLoose}

pub loop-init : goal.loop-init
loop-init g c = record {
  fits = c.requires.fits;
  locks = refl;
  owns = refl;
  stay = stay_same (g.M.Metaslabs.owns c.args.metaslabs.now) (g.M.Metaslabs.last c.args.metaslabs.now);
  whole = c.requires.whole;
  takes = λ other. refl;
  waits = λ x loose knows. waits_none g.R.Rack g.A.Area g.M.Metaslabs.went g.M.Metaslabs.shared c.args.metaslabs.now x (λ y. Knows g.R.Rack g.A.Area (g.M.Metaslabs.owns c.args.metaslabs.now) (g.M.Metaslabs.last c.args.metaslabs.now) (λ o. get nat_eq c.args.own.now.objects o) c.args.own.now.seq c.args.own.now.floor y) knows;
}

pub free_object-requires : goal.free_object-requires
free_object-requires g c =
    let i = c.loop.invariant in
    record {
      fits = i.fits;
      own = ap (λ (owns : ℕ → Bool). owns c.args.object) i.owns ∙ c.requires.own;
      whole = subst (λ o. IsWholeBy g.R.Rack o (g.M.Metaslabs.last c.loop.metaslabs) (λ o. get nat_eq c.loop.own.objects o) c.loop.own.seq c.loop.own.floor) (sym i.owns) i.whole;
    }

pub loop-preserved : goal.loop-preserved
loop-preserved g c =
    let i = c.loop.invariant in
    let e = c.free_object.ensures in
    let f = c.in_default.ensures in
    record {
      fits = e.fits;
      locks = e.locks ∙ i.locks;
      owns = e.owns ∙ i.owns;
      stay = stay_then (g.M.Metaslabs.owns c.args.metaslabs.now) (g.M.Metaslabs.last c.args.metaslabs.now) (g.M.Metaslabs.last c.loop.metaslabs) (g.M.Metaslabs.last c.free_object.new.metaslabs) i.stay
          (subst (λ o. AllStay o (g.M.Metaslabs.last c.loop.metaslabs) (g.M.Metaslabs.last c.free_object.new.metaslabs)) i.owns e.stay);
      whole = subst (λ o. IsWholeBy g.R.Rack o (g.M.Metaslabs.last c.free_object.new.metaslabs) (λ o. get nat_eq c.free_object.new.own.objects o) c.free_object.new.own.seq c.free_object.new.own.floor) (e.owns ∙ i.owns) e.whole;
      takes = λ other. f.takes other ∙ i.takes other;
      waits = λ x loose knows.
          (let one = i.waits x loose knows in
          waits_more g.R.Rack g.A.Area g.M.Metaslabs.went g.M.Metaslabs.shared c.args.metaslabs.now c.loop.metaslabs c.free_object.new.metaslabs x
          (λ y. Knows g.R.Rack g.A.Area (g.M.Metaslabs.owns c.args.metaslabs.now) (g.M.Metaslabs.last c.loop.metaslabs) (λ o. get nat_eq c.loop.own.objects o) c.loop.own.seq c.loop.own.floor y) one
          (λ y. Knows g.R.Rack g.A.Area (g.M.Metaslabs.owns c.args.metaslabs.now) (g.M.Metaslabs.last c.free_object.new.metaslabs) (λ o. get nat_eq c.free_object.new.own.objects o) c.free_object.new.own.seq c.free_object.new.own.floor y)
          (step_own g.R.Rack g.A.Area g.M.Metaslabs.went g.M.Metaslabs.shared (g.M.Metaslabs.owns c.args.metaslabs.now) (g.M.Metaslabs.owns c.free_object.new.metaslabs) (g.M.Metaslabs.owns c.loop.metaslabs) i.owns (e.owns ∙ i.owns) (g.M.Metaslabs.last c.loop.metaslabs) (g.M.Metaslabs.last c.free_object.new.metaslabs) c.loop.metaslabs c.free_object.new.metaslabs
          (λ o. get nat_eq c.loop.own.objects o) (λ o. get nat_eq c.free_object.new.own.objects o) c.loop.own.seq c.loop.own.floor c.free_object.new.own.seq c.free_object.new.own.floor (λ y. HasLoose y.store c.args.object) Waits f.step
          (record one.reached { store = one.store }) (subst (λ (t : Store). HasLoose t c.args.object) (sym one.done.0) loose) one.knows));
    }

pub returns-in-Some-free_object : goal.returns-in-Some-free_object
returns-in-Some-free_object g c =
    let i = c.loop.invariant in
    let e = c.free_object.ensures in
    let f = c.in-Some-free_object.ensures in
    let r = c.in-Some-free_object.result in
    let table : ◌≡◌ {A = ℕ → Option Pointer} (λ o. get nat_eq c.loop.own.objects o) (λ o. get nat_eq c.args.own.now.objects o) = λ j. λ o. i.takes o j in
    record {
      fits = e.fits;
      locks = e.locks ∙ i.locks;
      owns = e.owns ∙ i.owns;
      stay = stay_then (g.M.Metaslabs.owns c.args.metaslabs.now) (g.M.Metaslabs.last c.args.metaslabs.now) (g.M.Metaslabs.last c.loop.metaslabs) (g.M.Metaslabs.last c.free_object.new.metaslabs) i.stay
          (subst (λ o. AllStay o (g.M.Metaslabs.last c.loop.metaslabs) (g.M.Metaslabs.last c.free_object.new.metaslabs)) i.owns e.stay);
      whole = subst (λ o. IsWholeBy g.R.Rack o (g.M.Metaslabs.last c.free_object.new.metaslabs) (λ o. get nat_eq c.free_object.new.own.objects o) c.free_object.new.own.seq c.free_object.new.own.floor) (e.owns ∙ i.owns) e.whole;
      takes = subst (λ (t : ℕ → Option Pointer). TriesTake c.args.object t (λ o. get nat_eq c.free_object.new.own.objects o) (Some r)) table f.takes;
      step = λ x loose knows.
          (let one = i.waits x loose knows in
          freed_own g.R.Rack g.A.Area g.M.Metaslabs.went g.M.Metaslabs.shared c.args.metaslabs.now c.loop.metaslabs c.free_object.new.metaslabs x
          (λ y. Knows g.R.Rack g.A.Area (g.M.Metaslabs.owns c.args.metaslabs.now) (g.M.Metaslabs.last c.loop.metaslabs) (λ o. get nat_eq c.loop.own.objects o) c.loop.own.seq c.loop.own.floor y)
          (λ y. Knows g.R.Rack g.A.Area (g.M.Metaslabs.owns c.args.metaslabs.now) (g.M.Metaslabs.last c.free_object.new.metaslabs) (λ o. get nat_eq c.free_object.new.own.objects o) c.free_object.new.own.seq c.free_object.new.own.floor y) one c.args.object r
          (step_own g.R.Rack g.A.Area g.M.Metaslabs.went g.M.Metaslabs.shared (g.M.Metaslabs.owns c.args.metaslabs.now) (g.M.Metaslabs.owns c.free_object.new.metaslabs) (g.M.Metaslabs.owns c.loop.metaslabs) i.owns (e.owns ∙ i.owns) (g.M.Metaslabs.last c.loop.metaslabs) (g.M.Metaslabs.last c.free_object.new.metaslabs) c.loop.metaslabs c.free_object.new.metaslabs
          (λ o. get nat_eq c.loop.own.objects o) (λ o. get nat_eq c.free_object.new.own.objects o) c.loop.own.seq c.loop.own.floor c.free_object.new.own.seq c.free_object.new.own.floor (λ y. HasLoose y.store c.args.object) (λ y. FreeDoes y c.args.object r) f.step
          (record one.reached { store = one.store }) (subst (λ (t : Store). HasLoose t c.args.object) (sym one.done.0) loose) one.knows));
    }
