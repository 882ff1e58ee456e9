use Rattle.std.proofs.Common.{◌∙◌, None, Some, refl, sym, subst}
use Rattle.draid_pool.specs.Threads.{AllStay, HasPointer, IsWholeBy, Knows}
use Rattle.draid_pool.proofs.HeldBy.{stay_same, stay_then}
use Rattle.draid_store.specs.Open.{KnowsEarlier}
use Rattle.draid_works.proofs.Waited.{earlier_own, rest_freed, waits_more, waits_none}
use Rattle.draid_works.proofs.writing.free_rest.Goals as goal
use Rattle.draid_session.specs.State.{Store}
use Rattle.draid_session.specs.Points.{KeepsBirth}

pub loop-init : goal.loop-init
loop-init g c = record {
  fits = c.requires.fits;
  locks = refl;
  owns = refl;
  stay = stay_same (g.M.Metaslabs.owns c.args.metaslabs.now) (g.M.Metaslabs.last c.args.metaslabs.now);
  has = c.requires.has;
  whole = λ table seq w apart. w;
  waits = λ table seq x we loose knows. waits_none g.R.Rack g.A.Area g.M.Metaslabs.went g.M.Metaslabs.shared c.args.metaslabs.now x (λ y. KnowsEarlier g.R.Rack g.A.Area (g.M.Metaslabs.owns c.args.metaslabs.now) (g.M.Metaslabs.last c.args.metaslabs.now) table seq c.args.floor c.args.pointer we y) knows;
}

pub free_earlier-requires : goal.free_earlier-requires
free_earlier-requires g c =
    let i = c.loop.invariant in
    record {
      fits = i.fits;
      has = subst (λ o. HasPointer (g.M.Metaslabs.last c.loop.metaslabs) g.R.Rack o c.args.pointer.object c.args.pointer) (sym i.owns) i.has;
      low = c.requires.low;
    }

pub loop-preserved : goal.loop-preserved
loop-preserved g c =
    let i = c.loop.invariant in
    let e = c.free_earlier.ensures in
    let f = c.in_default.ensures in
    record {
      fits = e.fits;
      locks = e.locks ∙ i.locks;
      owns = e.owns ∙ i.owns;
      stay = stay_then (g.M.Metaslabs.owns c.args.metaslabs.now) (g.M.Metaslabs.last c.args.metaslabs.now) (g.M.Metaslabs.last c.loop.metaslabs) (g.M.Metaslabs.last c.free_earlier.new.metaslabs) i.stay
          (subst (λ o. AllStay o (g.M.Metaslabs.last c.loop.metaslabs) (g.M.Metaslabs.last c.free_earlier.new.metaslabs)) i.owns e.stay);
      has = subst (λ o. HasPointer (g.M.Metaslabs.last c.free_earlier.new.metaslabs) g.R.Rack o c.args.pointer.object c.args.pointer) i.owns (f.has refl);
      whole = λ table seq w apart.
          subst (λ o. IsWholeBy g.R.Rack o (g.M.Metaslabs.last c.free_earlier.new.metaslabs) table seq c.args.floor) i.owns
          (f.whole table seq (subst (λ o. IsWholeBy g.R.Rack o (g.M.Metaslabs.last c.loop.metaslabs) table seq c.args.floor) (sym i.owns) (i.whole table seq w apart)) apart);
      waits = λ table seq x we loose knows.
          (let one = i.waits table seq x we loose knows in
          waits_more g.R.Rack g.A.Area g.M.Metaslabs.went g.M.Metaslabs.shared c.args.metaslabs.now c.loop.metaslabs c.free_earlier.new.metaslabs x
          (λ y. KnowsEarlier g.R.Rack g.A.Area (g.M.Metaslabs.owns c.args.metaslabs.now) (g.M.Metaslabs.last c.loop.metaslabs) table seq c.args.floor c.args.pointer we y) one
          (λ y. KnowsEarlier g.R.Rack g.A.Area (g.M.Metaslabs.owns c.args.metaslabs.now) (g.M.Metaslabs.last c.free_earlier.new.metaslabs) table seq c.args.floor c.args.pointer we y)
          (earlier_own g.R.Rack g.A.Area g.M.Metaslabs.went g.M.Metaslabs.shared (g.M.Metaslabs.owns c.args.metaslabs.now) (g.M.Metaslabs.owns c.free_earlier.new.metaslabs) (g.M.Metaslabs.owns c.loop.metaslabs) i.owns (e.owns ∙ i.owns) (g.M.Metaslabs.last c.loop.metaslabs) (g.M.Metaslabs.last c.free_earlier.new.metaslabs) c.loop.metaslabs c.free_earlier.new.metaslabs
          c.args.pointer table seq c.args.floor we None (f.says table seq) (record one.reached { store = one.store }) (subst (λ (t : Store). KeepsBirth t.marks we.birth → ⊥) (sym one.done.0) loose) one.knows));
    }

pub returns-in-Some-free_earlier : goal.returns-in-Some-free_earlier
returns-in-Some-free_earlier g c =
    let i = c.loop.invariant in
    let e = c.free_earlier.ensures in
    let f = c.in-Some-free_earlier.ensures in
    let group = c.in-Some-free_earlier.group in
    record {
      fits = e.fits;
      locks = e.locks ∙ i.locks;
      owns = e.owns ∙ i.owns;
      stay = stay_then (g.M.Metaslabs.owns c.args.metaslabs.now) (g.M.Metaslabs.last c.args.metaslabs.now) (g.M.Metaslabs.last c.loop.metaslabs) (g.M.Metaslabs.last c.free_earlier.new.metaslabs) i.stay
          (subst (λ o. AllStay o (g.M.Metaslabs.last c.loop.metaslabs) (g.M.Metaslabs.last c.free_earlier.new.metaslabs)) i.owns e.stay);
      whole = λ table seq w apart.
          subst (λ o. IsWholeBy g.R.Rack o (g.M.Metaslabs.last c.free_earlier.new.metaslabs) table seq group) i.owns
          (f.whole table seq (subst (λ o. IsWholeBy g.R.Rack o (g.M.Metaslabs.last c.loop.metaslabs) table seq c.args.floor) (sym i.owns) (i.whole table seq w apart)) apart);
      says = λ table seq x we loose knows.
          (let one = i.waits table seq x we loose knows in
          rest_freed g.R.Rack g.A.Area g.M.Metaslabs.went g.M.Metaslabs.shared c.args.metaslabs.now c.loop.metaslabs c.free_earlier.new.metaslabs x
          (λ y. KnowsEarlier g.R.Rack g.A.Area (g.M.Metaslabs.owns c.args.metaslabs.now) (g.M.Metaslabs.last c.loop.metaslabs) table seq c.args.floor c.args.pointer we y)
          (λ y. Knows g.R.Rack g.A.Area (g.M.Metaslabs.owns c.args.metaslabs.now) (g.M.Metaslabs.last c.free_earlier.new.metaslabs) table seq group y) one we c.args.floor group
          (earlier_own g.R.Rack g.A.Area g.M.Metaslabs.went g.M.Metaslabs.shared (g.M.Metaslabs.owns c.args.metaslabs.now) (g.M.Metaslabs.owns c.free_earlier.new.metaslabs) (g.M.Metaslabs.owns c.loop.metaslabs) i.owns (e.owns ∙ i.owns) (g.M.Metaslabs.last c.loop.metaslabs) (g.M.Metaslabs.last c.free_earlier.new.metaslabs) c.loop.metaslabs c.free_earlier.new.metaslabs
          c.args.pointer table seq c.args.floor we (Some group) (f.says table seq) (record one.reached { store = one.store }) (subst (λ (t : Store). KeepsBirth t.marks we.birth → ⊥) (sym one.done.0) loose) one.knows));
    }
