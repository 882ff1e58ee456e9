use Rattle.std.proofs.Common.{◌≡◌, ◌∙◌, ℕ, Bool, Option, None, Some, ap, nat_eq, refl, sym, subst}
use Rattle.std.specs.Fn.{FnReturnsAt}
use Rattle.std.specs.HashMap.{get}
use Rattle.draid_names.specs.declared.pointer.Pointer.{Pointer}
use Rattle.draid_session.specs.State.{State, Store}
use Rattle.draid_pool.specs.Threads.{AllStay, IsWholeBy, Knows}
use Rattle.draid_pool.proofs.HeldBy.{stay_same, stay_then}
use Rattle.draid_pool.proofs.QuietWhole.{layout_stays}
use Rattle.draid_store.specs.Storing.{ComesBack, StoreSetsTable, WritesBy}
use Rattle.draid_works.proofs.Waited.{many_stay, served, waited_layout, waits_more, waits_none}
use Rattle.draid_works.proofs.writing.store_through.Goals as goal
use Rattle.draid_objects.specs.Marks.{check_by}

pub loop-init : goal.loop-init
loop-init g c = record {
  fits = c.requires.fits;
  locks = refl;
  owns = refl;
  stay = stay_same (g.M.Metaslabs.owns c.args.metaslabs.now) (g.M.Metaslabs.last c.args.metaslabs.now);
  whole = c.requires.whole;
  sets = λ other. refl;
  waits = λ x none knows layout. waits_none g.R.Rack g.A.Area g.M.Metaslabs.went g.M.Metaslabs.shared c.args.metaslabs.now x (λ y. Knows g.R.Rack g.A.Area (g.M.Metaslabs.owns c.args.metaslabs.now) (g.M.Metaslabs.last c.args.metaslabs.now) (λ o. get nat_eq c.args.own.now.objects o) c.args.own.now.seq c.args.own.now.floor y) knows;
}

pub write_encoded-requires : goal.write_encoded-requires
write_encoded-requires g c =
    let i = c.loop.invariant in
    record {
      chooser = c.requires.chooser;
      fits = i.fits;
      own = ap (λ (owns : ℕ → Bool). owns c.args.object) i.owns ∙ c.requires.own;
      geometry = c.requires.geometry;
      layout = layout_stays (g.M.Metaslabs.owns c.args.metaslabs.now) (g.M.Metaslabs.last c.args.metaslabs.now) (g.M.Metaslabs.last c.loop.metaslabs) c.args.geometry.now i.stay c.requires.layout;
      many = many_stay g.R.Rack (g.M.Metaslabs.owns c.args.metaslabs.now) c.args.geometry.now.props.metaslabs (g.M.Metaslabs.last c.args.metaslabs.now) (g.M.Metaslabs.last c.loop.metaslabs) (λ o. get nat_eq c.loop.own.objects o) c.loop.own.seq c.loop.own.floor i.stay i.whole c.requires.many;
      object = c.requires.object;
      cut = c.requires.cut;
      whole = subst (λ o. IsWholeBy g.R.Rack o (g.M.Metaslabs.last c.loop.metaslabs) (λ o. get nat_eq c.loop.own.objects o) c.loop.own.seq c.loop.own.floor) (sym i.owns) i.whole;
    }

pub loop-preserved : goal.loop-preserved
loop-preserved g c =
    let i = c.loop.invariant in
    let e = c.write_encoded.ensures in
    let f = c.in_default.ensures in
    record {
      fits = e.fits;
      locks = e.locks ∙ i.locks;
      owns = e.owns ∙ i.owns;
      stay = stay_then (g.M.Metaslabs.owns c.args.metaslabs.now) (g.M.Metaslabs.last c.args.metaslabs.now) (g.M.Metaslabs.last c.loop.metaslabs) (g.M.Metaslabs.last c.write_encoded.new.metaslabs) i.stay
          (subst (λ o. AllStay o (g.M.Metaslabs.last c.loop.metaslabs) (g.M.Metaslabs.last c.write_encoded.new.metaslabs)) i.owns e.stay);
      whole = subst (λ o. IsWholeBy g.R.Rack o (g.M.Metaslabs.last c.write_encoded.new.metaslabs) (λ o. get nat_eq c.write_encoded.new.own.objects o) c.write_encoded.new.own.seq c.write_encoded.new.own.floor) i.owns e.whole;
      sets = λ other. f.sets other ∙ i.sets other;
      waits = λ x none knows layout.
          (let one = i.waits x none knows layout in
          waits_more g.R.Rack g.A.Area g.M.Metaslabs.went g.M.Metaslabs.shared c.args.metaslabs.now c.loop.metaslabs c.write_encoded.new.metaslabs x
          (λ y. Knows g.R.Rack g.A.Area (g.M.Metaslabs.owns c.args.metaslabs.now) (g.M.Metaslabs.last c.loop.metaslabs) (λ o. get nat_eq c.loop.own.objects o) c.loop.own.seq c.loop.own.floor y) one
          (λ y. Knows g.R.Rack g.A.Area (g.M.Metaslabs.owns c.args.metaslabs.now) (g.M.Metaslabs.last c.write_encoded.new.metaslabs) (λ o. get nat_eq c.write_encoded.new.own.objects o) c.write_encoded.new.own.seq c.write_encoded.new.own.floor y)
          (subst (λ o. (x : State) → x.geometry ≡ c.args.geometry.now → check_by x.store.marks ≡ None → Knows g.R.Rack g.A.Area o (g.M.Metaslabs.last c.loop.metaslabs) (λ o. get nat_eq c.loop.own.objects o) c.loop.own.seq c.loop.own.floor x
          → WritesBy g.R.Rack g.A.Area g.M.Metaslabs.went g.M.Metaslabs.shared o (g.M.Metaslabs.last c.write_encoded.new.metaslabs) c.loop.metaslabs c.write_encoded.new.metaslabs None (FnReturnsAt g.F.Fn c.args.chooser.now) c.args.object c.args.block.now.bytes (λ o. get nat_eq c.write_encoded.new.own.objects o) c.write_encoded.new.own.seq c.write_encoded.new.own.floor x None) i.owns f.step
          (record one.reached { store = one.store })
          ((waited_layout g.R.Rack g.A.Area g.M.Metaslabs.went g.M.Metaslabs.shared c.args.metaslabs.now c.loop.metaslabs c.write_encoded.new.metaslabs x
          (λ y. Knows g.R.Rack g.A.Area (g.M.Metaslabs.owns c.args.metaslabs.now) (g.M.Metaslabs.last c.loop.metaslabs) (λ o. get nat_eq c.loop.own.objects o) c.loop.own.seq c.loop.own.floor y) one).geometry ∙ layout) (ap (λ (t : Store). check_by t.marks) one.done.0 ∙ none) one.knows));
    }

pub returns-in-Some-write_encoded : goal.returns-in-Some-write_encoded
returns-in-Some-write_encoded g c =
    let i = c.loop.invariant in
    let e = c.write_encoded.ensures in
    let f = c.in-Some-write_encoded.ensures in
    let r = c.in-Some-write_encoded.stored in
    let table : ◌≡◌ {A = ℕ → Option Pointer} (λ o. get nat_eq c.loop.own.objects o) (λ o. get nat_eq c.args.own.now.objects o) = λ j. λ o. i.sets o j in
    record {
      fits = e.fits;
      locks = e.locks ∙ i.locks;
      owns = e.owns ∙ i.owns;
      stay = stay_then (g.M.Metaslabs.owns c.args.metaslabs.now) (g.M.Metaslabs.last c.args.metaslabs.now) (g.M.Metaslabs.last c.loop.metaslabs) (g.M.Metaslabs.last c.write_encoded.new.metaslabs) i.stay
          (subst (λ o. AllStay o (g.M.Metaslabs.last c.loop.metaslabs) (g.M.Metaslabs.last c.write_encoded.new.metaslabs)) i.owns e.stay);
      whole = subst (λ o. IsWholeBy g.R.Rack o (g.M.Metaslabs.last c.write_encoded.new.metaslabs) (λ o. get nat_eq c.write_encoded.new.own.objects o) c.write_encoded.new.own.seq c.write_encoded.new.own.floor) i.owns e.whole;
      sets = subst (λ (t : ℕ → Option Pointer). StoreSetsTable c.args.object c.args.block.now.bytes t (λ o. get nat_eq c.write_encoded.new.own.objects o) (Some r)) table f.sets;
      earlier = λ p is.
          subst (λ o. ComesBack g.R.Rack o (g.M.Metaslabs.last c.write_encoded.new.metaslabs) (λ o. get nat_eq c.write_encoded.new.own.objects o) c.args.object p) i.owns (f.earlier p (ap Some is));
      step = λ x layout none knows.
          (let one = i.waits x none knows layout in
          served g.R.Rack g.A.Area g.M.Metaslabs.went g.M.Metaslabs.shared (g.M.Metaslabs.owns c.args.metaslabs.now) (g.M.Metaslabs.last c.write_encoded.new.metaslabs) c.args.metaslabs.now c.loop.metaslabs c.write_encoded.new.metaslabs (FnReturnsAt g.F.Fn c.args.chooser.now) c.args.object c.args.block.now.bytes
          (λ o. get nat_eq c.write_encoded.new.own.objects o) c.write_encoded.new.own.seq c.write_encoded.new.own.floor x
          (λ y. Knows g.R.Rack g.A.Area (g.M.Metaslabs.owns c.args.metaslabs.now) (g.M.Metaslabs.last c.loop.metaslabs) (λ o. get nat_eq c.loop.own.objects o) c.loop.own.seq c.loop.own.floor y) one r
          (subst (λ o. (x : State) → x.geometry ≡ c.args.geometry.now → check_by x.store.marks ≡ None → Knows g.R.Rack g.A.Area o (g.M.Metaslabs.last c.loop.metaslabs) (λ o. get nat_eq c.loop.own.objects o) c.loop.own.seq c.loop.own.floor x
          → WritesBy g.R.Rack g.A.Area g.M.Metaslabs.went g.M.Metaslabs.shared o (g.M.Metaslabs.last c.write_encoded.new.metaslabs) c.loop.metaslabs c.write_encoded.new.metaslabs None (FnReturnsAt g.F.Fn c.args.chooser.now) c.args.object c.args.block.now.bytes (λ o. get nat_eq c.write_encoded.new.own.objects o) c.write_encoded.new.own.seq c.write_encoded.new.own.floor x (Some r)) i.owns f.step
          (record one.reached { store = one.store })
          ((waited_layout g.R.Rack g.A.Area g.M.Metaslabs.went g.M.Metaslabs.shared c.args.metaslabs.now c.loop.metaslabs c.write_encoded.new.metaslabs x
          (λ y. Knows g.R.Rack g.A.Area (g.M.Metaslabs.owns c.args.metaslabs.now) (g.M.Metaslabs.last c.loop.metaslabs) (λ o. get nat_eq c.loop.own.objects o) c.loop.own.seq c.loop.own.floor y) one).geometry ∙ layout) (ap (λ (t : Store). check_by t.marks) one.done.0 ∙ none) one.knows));
    }
