use Rattle.std.proofs.Common.{◌≡◌, ◌∙◌, ℕ, List, [], Option, None, Some, Ok, Result, ap, nat_eq, refl, sym, subst}
use Rattle.std.specs.Fn.{FnReturnsAt}
use Rattle.std.specs.HashMap.{get}
use Rattle.draid_names.specs.declared.pointer.Pointer.{Pointer}
use Rattle.draid_names.specs.declared.refusal.WriteFault.{WriteFault}
use Rattle.draid_objects.specs.Changes.{Write}
use Rattle.draid_session.specs.State.{State}
use Rattle.draid_pool.specs.Threads.{AllStay, CarriesBy, HasPointer, IsWholeBy, Knows}
use Rattle.draid_pool.proofs.HeldBy.{stay_same, stay_then}
use Rattle.draid_store.specs.Open.{KnowsEarlier}
use Rattle.draid_store.specs.Storing.{ComesBack}
use Rattle.draid_works.specs.Waiting.{FreesRest, LooksBut, StoresThrough}
use Rattle.draid_works.proofs.Waited.{replaced}
use Rattle.draid_works.proofs.writing.write_through.Goals as goal
use Rattle.draid_session.specs.Points.{KeepsBirth}

-- ---- there is no memory for the block

pub returns-in_default-clause-stay : goal.returns-in_default-clause-stay
returns-in_default-clause-stay g c = stay_same (g.M.Metaslabs.owns c.args.metaslabs.now) (g.M.Metaslabs.last c.args.metaslabs.now)

pub returns-in_default-clause-step : goal.returns-in_default-clause-step
returns-in_default-clause-step g c x layout none knows = record { holds = []; reached = x; store = x.store; follows = (refl, refl); done = ([], refl, (tt, refl)); knows = knows }

-- ---- a whole write

pub returns-in-Ok-None-clause-step : goal.returns-in-Ok-None-clause-step
returns-in-Ok-None-clause-step g c x layout none knows =
    let e = c.store_through.ensures in
    let is_none : c.store_through.result ≡ Ok None = c.in-Ok-None.is ∙ ap Ok c.in-Ok-None.field-0-is in
    subst (λ (r : Result (Option Pointer) WriteFault). StoresThrough g.R.Rack g.A.Area g.M.Metaslabs.went g.M.Metaslabs.shared (g.M.Metaslabs.owns c.args.metaslabs.now) (g.M.Metaslabs.last c.store_through.new.metaslabs) c.args.metaslabs.now c.store_through.new.metaslabs (FnReturnsAt g.F.Fn c.args.chooser.now) c.args.object c.args.bytes.now (λ o. get nat_eq c.store_through.new.own.objects o) c.store_through.new.own.seq c.store_through.new.own.floor x r) is_none
    (subst (λ (w : List ℕ). StoresThrough g.R.Rack g.A.Area g.M.Metaslabs.went g.M.Metaslabs.shared (g.M.Metaslabs.owns c.args.metaslabs.now) (g.M.Metaslabs.last c.store_through.new.metaslabs) c.args.metaslabs.now c.store_through.new.metaslabs (FnReturnsAt g.F.Fn c.args.chooser.now) c.args.object w (λ o. get nat_eq c.store_through.new.own.objects o) c.store_through.new.own.seq c.store_through.new.own.floor x c.store_through.result) c.in-Ok.ensures.bytes
    (e.step x layout none knows))

-- ---- its earlier block is freed behind it

pub free_rest-own-requires-clause-has : goal.free_rest-own-requires-clause-has
free_rest-own-requires-clause-has g c =
    let e = c.store_through.ensures in
    let p = c.in-Ok-Some.earlier in
    let some : c.store_through.result ≡ Ok (Some p) = c.in-Ok-Some.is ∙ ap Ok c.in-Ok-Some.field-0-is in
    let back : ComesBack g.R.Rack (g.M.Metaslabs.owns c.args.metaslabs.now) (g.M.Metaslabs.last c.store_through.new.metaslabs) (λ o. get nat_eq c.store_through.new.own.objects o) c.args.object p = e.earlier p some in
    subst (λ o. HasPointer (g.M.Metaslabs.last c.store_through.new.metaslabs) g.R.Rack o p.object p) (sym e.owns)
    (subst (λ n. HasPointer (g.M.Metaslabs.last c.store_through.new.metaslabs) g.R.Rack (g.M.Metaslabs.owns c.args.metaslabs.now) n p) (sym back.has.object_is) back.has)

pub returns-in-Ok-Some-clause-stay : goal.returns-in-Ok-Some-clause-stay
returns-in-Ok-Some-clause-stay g c =
    let e = c.store_through.ensures in
    stay_then (g.M.Metaslabs.owns c.args.metaslabs.now) (g.M.Metaslabs.last c.args.metaslabs.now) (g.M.Metaslabs.last c.store_through.new.metaslabs) (g.M.Metaslabs.last c.free_rest-own.new.metaslabs) e.stay
    (subst (λ o. AllStay o (g.M.Metaslabs.last c.store_through.new.metaslabs) (g.M.Metaslabs.last c.free_rest-own.new.metaslabs)) e.owns c.free_rest-own.ensures.stay)

pub returns-in-Ok-Some-clause-whole : goal.returns-in-Ok-Some-clause-whole
returns-in-Ok-Some-clause-whole g c =
    let e = c.store_through.ensures in
    let p = c.in-Ok-Some.earlier in
    let some : c.store_through.result ≡ Ok (Some p) = c.in-Ok-Some.is ∙ ap Ok c.in-Ok-Some.field-0-is in
    let back : ComesBack g.R.Rack (g.M.Metaslabs.owns c.args.metaslabs.now) (g.M.Metaslabs.last c.store_through.new.metaslabs) (λ o. get nat_eq c.store_through.new.own.objects o) c.args.object p = e.earlier p some in
    subst (λ o. IsWholeBy g.R.Rack o (g.M.Metaslabs.last c.free_rest-own.new.metaslabs) (λ o. get nat_eq c.store_through.new.own.objects o) c.store_through.new.own.seq c.free_rest-own.result) e.owns
    (c.free_rest-own.ensures.whole (λ o. get nat_eq c.store_through.new.own.objects o) c.store_through.new.own.seq
    (subst (λ o. IsWholeBy g.R.Rack o (g.M.Metaslabs.last c.store_through.new.metaslabs) (λ o. get nat_eq c.store_through.new.own.objects o) c.store_through.new.own.seq c.store_through.new.own.floor) (sym e.owns) e.whole) back.apart)

pub returns-in-Ok-Some-clause-step : goal.returns-in-Ok-Some-clause-step
returns-in-Ok-Some-clause-step g c x layout none knows =
    let e = c.store_through.ensures in
    let p = c.in-Ok-Some.earlier in
    let some : c.store_through.result ≡ Ok (Some p) = c.in-Ok-Some.is ∙ ap Ok c.in-Ok-Some.field-0-is in
    replaced g.R.Rack g.A.Area g.M.Metaslabs.went g.M.Metaslabs.shared (g.M.Metaslabs.owns c.args.metaslabs.now) (g.M.Metaslabs.last c.store_through.new.metaslabs) c.args.metaslabs.now c.store_through.new.metaslabs c.free_rest-own.new.metaslabs (FnReturnsAt g.F.Fn c.args.chooser.now) c.args.object c.args.bytes.now p
    (λ o. get nat_eq c.store_through.new.own.objects o) c.store_through.new.own.seq c.store_through.new.own.floor c.free_rest-own.result x none
    (λ y. Knows g.R.Rack g.A.Area (g.M.Metaslabs.owns c.args.metaslabs.now) (g.M.Metaslabs.last c.free_rest-own.new.metaslabs) (λ o. get nat_eq c.store_through.new.own.objects o) c.store_through.new.own.seq c.free_rest-own.result y)
    (subst (λ (r : Result (Option Pointer) WriteFault). StoresThrough g.R.Rack g.A.Area g.M.Metaslabs.went g.M.Metaslabs.shared (g.M.Metaslabs.owns c.args.metaslabs.now) (g.M.Metaslabs.last c.store_through.new.metaslabs) c.args.metaslabs.now c.store_through.new.metaslabs (FnReturnsAt g.F.Fn c.args.chooser.now) c.args.object c.args.bytes.now (λ o. get nat_eq c.store_through.new.own.objects o) c.store_through.new.own.seq c.store_through.new.own.floor x r) some
    (subst (λ (w : List ℕ). StoresThrough g.R.Rack g.A.Area g.M.Metaslabs.went g.M.Metaslabs.shared (g.M.Metaslabs.owns c.args.metaslabs.now) (g.M.Metaslabs.last c.store_through.new.metaslabs) c.args.metaslabs.now c.store_through.new.metaslabs (FnReturnsAt g.F.Fn c.args.chooser.now) c.args.object w (λ o. get nat_eq c.store_through.new.own.objects o) c.store_through.new.own.seq c.store_through.new.own.floor x c.store_through.result) c.in-Ok.ensures.bytes
    (e.step x layout none knows)))
    (subst (λ o. (y : State) (we : Write) → (KeepsBirth y.store.marks we.birth → ⊥) → KnowsEarlier g.R.Rack g.A.Area o (g.M.Metaslabs.last c.store_through.new.metaslabs) (λ o. get nat_eq c.store_through.new.own.objects o) c.store_through.new.own.seq c.store_through.new.own.floor p we y
    → CarriesBy g.R.Rack g.A.Area g.M.Metaslabs.went g.M.Metaslabs.shared o (g.M.Metaslabs.last c.free_rest-own.new.metaslabs) (λ o. get nat_eq c.store_through.new.own.objects o) c.store_through.new.own.seq c.free_rest-own.result c.store_through.new.metaslabs c.free_rest-own.new.metaslabs y (LooksBut (FreesRest y we c.store_through.new.own.floor c.free_rest-own.result))) e.owns
    (c.free_rest-own.ensures.says (λ o. get nat_eq c.store_through.new.own.objects o) c.store_through.new.own.seq))

-- ---- it was refused

pub returns-clause-step : goal.returns-clause-step
returns-clause-step g c x layout none knows =
    subst (λ (r : Result (Option Pointer) WriteFault). StoresThrough g.R.Rack g.A.Area g.M.Metaslabs.went g.M.Metaslabs.shared (g.M.Metaslabs.owns c.args.metaslabs.now) (g.M.Metaslabs.last c.store_through.new.metaslabs) c.args.metaslabs.now c.store_through.new.metaslabs (FnReturnsAt g.F.Fn c.args.chooser.now) c.args.object c.args.bytes.now (λ o. get nat_eq c.store_through.new.own.objects o) c.store_through.new.own.seq c.store_through.new.own.floor x r) c.in-Err.is
    (subst (λ (w : List ℕ). StoresThrough g.R.Rack g.A.Area g.M.Metaslabs.went g.M.Metaslabs.shared (g.M.Metaslabs.owns c.args.metaslabs.now) (g.M.Metaslabs.last c.store_through.new.metaslabs) c.args.metaslabs.now c.store_through.new.metaslabs (FnReturnsAt g.F.Fn c.args.chooser.now) c.args.object w (λ o. get nat_eq c.store_through.new.own.objects o) c.store_through.new.own.seq c.store_through.new.own.floor x c.store_through.result) c.in-Ok.ensures.bytes
    (c.store_through.ensures.step x layout none knows))
