use Rattle.std.proofs.Common.{◌≡◌, ◌∙◌, ℕ, Option, Some, None, Ok, refl, sym, ap, subst}
use Rattle.std.specs.Prelude.{nat_eq}
use Rattle.std.specs.HashMap.{get}
use Rattle.std.specs.Option.{option_copied}
use Rattle.draid_names.specs.declared.pointer.Pointer.{Pointer}
use Rattle.draid_pool.specs.Drifts.{KeepsTo}
use Rattle.draid_store.specs.Frees.{TriesFree}
use Rattle.draid_store.specs.Pointers.{TriesTake}
use Rattle.draid_pool.specs.Threads.{CarriesBy, IsWholeBy}
use Rattle.draid_pool.proofs.HeldBy.{stay_held, stay_same}
use Rattle.draid_pool.proofs.Holding.{some_same}
use Rattle.draid_store.proofs.FreeKeeps.{free_groups, free_keeps}
use Rattle.draid_store.proofs.FreeHold.{early_step, free_step, not_there}
use Rattle.draid_store.proofs.FreeWhole.{did_early, did_free, early_whole, free_served, free_whole, left_in_table, may_free}
use Rattle.draid_store.proofs.freeing.free_object.Goals as goal

pub returns-in_default-clause-stay : goal.returns-in_default-clause-stay
returns-in_default-clause-stay g c = stay_same (g.M.Metaslabs.owns c.args.metaslabs.now) (g.M.Metaslabs.last c.args.metaslabs.now)

pub returns-in_default-clause-takes : goal.returns-in_default-clause-takes
returns-in_default-clause-takes g c = (sym c.get.ensures.value ∙ ap option_copied c.in_default.is, λ other. refl)

pub returns-in_default-clause-step : goal.returns-in_default-clause-step
returns-in_default-clause-step g c x loose knows =
    not_there g.R.Rack g.A.Area g.M.Metaslabs.went g.M.Metaslabs.shared (g.M.Metaslabs.owns c.args.metaslabs.now) c.args.metaslabs.now (g.M.Metaslabs.last c.args.metaslabs.now) c.args.object (λ o. get nat_eq c.args.own.now.objects o)
    c.args.own.now.seq c.args.own.now.floor c.requires.own (sym c.get.ensures.value ∙ ap option_copied c.in_default.is) x knows

pub hold-op-requires-clause-may : goal.hold-op-requires-clause-may
hold-op-requires-clause-may g c =
    let p = c.in-Some.found.now in
    let has = c.requires.whole.pointers c.args.object p (sym c.get.ensures.value ∙ ap option_copied c.in-Some.is) in
    record {
      shard = has.shard;
      there = has.there;
      valid = has.valid;
      ready = λ x d. may_free g.R.Rack g.A.Area g.M.Metaslabs.shared (g.M.Metaslabs.owns c.args.metaslabs.now) (g.M.Metaslabs.last c.args.metaslabs.now) c.args.object p c.args.own.now.seq c.args.own.now.floor has c.requires.whole.low x d;
      keeps = λ x y after needs f. free_keeps g.R.Rack g.A.Area x y p c.args.own.now.floor after.out f;
      own = λ n is. ap (g.M.Metaslabs.owns c.args.metaslabs.now) (sym (some_same p.object n is) ∙ has.object_is) ∙ has.own;
    }

pub returns-in_err-group-clause-whole : goal.returns-in_err-group-clause-whole
returns-in_err-group-clause-whole g c =
    let p = c.in-Some.found.now in
    let h = c.hold-op.ensures.held in
    let last = g.M.Metaslabs.last c.args.metaslabs.now in
    let owns = g.M.Metaslabs.owns c.args.metaslabs.now in
    let new = g.M.Metaslabs.last c.hold-op.new.self in
    let table : ℕ → Option Pointer = λ o. get nat_eq c.args.own.now.objects o in
    let at : table c.args.object ≡ Some p = sym c.get.ensures.value ∙ ap option_copied c.in-Some.is in
    subst (λ o. IsWholeBy g.R.Rack o new table c.args.own.now.seq c.args.own.now.floor) (sym c.hold-op.ensures.owns)
    (early_whole g.R.Rack g.A.Area g.M.Metaslabs.shared owns last c.args.object p c.args.own.now.seq c.args.own.now.floor new table (c.requires.whole.pointers c.args.object p at) c.requires.whole h.shard h.before h.after h.there h.drifts h.keeps
    (free_groups g.R.Rack g.A.Area h.before h.after p c.args.own.now.floor c.hold-op.result.out h.related) h.is
    (did_early g.R.Rack g.A.Area h.before h.after p c.args.own.now.floor c.hold-op.result.out h.related c.in_err-group.was))

pub returns-in_err-group-clause-stay : goal.returns-in_err-group-clause-stay
returns-in_err-group-clause-stay g c =
    let p = c.in-Some.found.now in
    let h = c.hold-op.ensures.held in
    let last = g.M.Metaslabs.last c.args.metaslabs.now in
    let owns = g.M.Metaslabs.owns c.args.metaslabs.now in
    stay_held owns g.R.Rack g.A.Area g.M.Metaslabs.shared last (g.M.Metaslabs.last c.hold-op.new.self) p.metaslab h.shard h.before h.after h.there h.drifts h.keeps.part (free_groups g.R.Rack g.A.Area h.before h.after p c.args.own.now.floor c.hold-op.result.out h.related) h.is

pub returns-in_err-group-clause-takes : goal.returns-in_err-group-clause-takes
returns-in_err-group-clause-takes g c =
    subst (TriesTake c.args.object (λ o. get nat_eq c.args.own.now.objects o) (λ o. get nat_eq c.args.own.now.objects o)) (sym c.from_residual.ensures) (λ other. refl)

pub returns-in_err-group-clause-served : goal.returns-in_err-group-clause-served
returns-in_err-group-clause-served g c own none =
    let p = c.in-Some.found.now in
    let h = c.hold-op.ensures.held in
    let last = g.M.Metaslabs.last c.args.metaslabs.now in
    let owns = g.M.Metaslabs.owns c.args.metaslabs.now in
    let table : ℕ → Option Pointer = λ o. get nat_eq c.args.own.now.objects o in
    let at : table c.args.object ≡ Some p = sym c.get.ensures.value ∙ ap option_copied c.in-Some.is in
    free_served g.R.Rack g.A.Area g.M.Metaslabs.shared owns last c.args.object p c.args.own.now.seq c.args.own.now.floor (g.M.Metaslabs.last c.hold-op.new.self) table (c.requires.whole.pointers c.args.object p at) c.requires.whole h.shard h.before h.after h.there h.drifts h.keeps
    (free_groups g.R.Rack g.A.Area h.before h.after p c.args.own.now.floor c.hold-op.result.out h.related) h.is own
    (did_early g.R.Rack g.A.Area h.before h.after p c.args.own.now.floor c.hold-op.result.out h.related c.in_err-group.was)

pub returns-in_err-group-clause-step : goal.returns-in_err-group-clause-step
returns-in_err-group-clause-step g c x loose knows =
    let p = c.in-Some.found.now in
    let h = c.hold-op.ensures.held in
    let last = g.M.Metaslabs.last c.args.metaslabs.now in
    let owns = g.M.Metaslabs.owns c.args.metaslabs.now in
    let new = g.M.Metaslabs.last c.hold-op.new.self in
    let table : ℕ → Option Pointer = λ o. get nat_eq c.args.own.now.objects o in
    let at : table c.args.object ≡ Some p = sym c.get.ensures.value ∙ ap option_copied c.in-Some.is in
    let has = c.requires.whole.pointers c.args.object p at in
    subst (λ r. CarriesBy g.R.Rack g.A.Area g.M.Metaslabs.went g.M.Metaslabs.shared (g.M.Metaslabs.owns c.hold-op.new.self) new table c.args.own.now.seq c.args.own.now.floor c.args.metaslabs.now c.hold-op.new.self x (TriesFree x c.args.object r)) (sym c.from_residual.ensures)
    (subst (λ o. CarriesBy g.R.Rack g.A.Area g.M.Metaslabs.went g.M.Metaslabs.shared o new table c.args.own.now.seq c.args.own.now.floor c.args.metaslabs.now c.hold-op.new.self x (TriesFree x c.args.object None)) (sym c.hold-op.ensures.owns)
    (early_step g.R.Rack g.A.Area g.M.Metaslabs.went g.M.Metaslabs.shared owns c.args.metaslabs.now c.hold-op.new.self last new c.args.object p table c.args.own.now.seq c.args.own.now.floor h.shard h.before h.after h.there h.drifts
    (subst (λ n. KeepsTo g.R.Rack g.A.Area h.before h.after (Some n)) has.object_is h.keeps) h.is h.went c.requires.own at x knows
    (did_early g.R.Rack g.A.Area h.before h.after p c.args.own.now.floor c.hold-op.result.out h.related c.in_err-group.was)))

pub returns-clause-whole : goal.returns-clause-whole
returns-clause-whole g c =
    let p = c.in-Some.found.now in
    let h = c.hold-op.ensures.held in
    let last = g.M.Metaslabs.last c.args.metaslabs.now in
    let owns = g.M.Metaslabs.owns c.args.metaslabs.now in
    let new = g.M.Metaslabs.last c.hold-op.new.self in
    let table : ℕ → Option Pointer = λ o. get nat_eq c.args.own.now.objects o in
    let after : ℕ → Option Pointer = λ o. get nat_eq c.remove.new.self o in
    let at : table c.args.object ≡ Some p = sym c.get.ensures.value ∙ ap option_copied c.in-Some.is in
    subst (λ o. IsWholeBy g.R.Rack o new after c.args.own.now.seq c.in_ok-group.group) (sym c.hold-op.ensures.owns)
    (free_whole g.R.Rack g.A.Area g.M.Metaslabs.shared owns last c.args.object p c.args.own.now.seq c.args.own.now.floor new table (c.requires.whole.pointers c.args.object p at) c.requires.whole h.shard h.before h.after h.there h.drifts h.keeps
    (free_groups g.R.Rack g.A.Area h.before h.after p c.args.own.now.floor c.hold-op.result.out h.related) h.is after c.in_ok-group.group
    (did_free g.R.Rack g.A.Area h.before h.after p c.args.own.now.floor c.in_ok-group.group c.hold-op.result.out h.related c.in_ok-group.was)
    (left_in_table g.R.Rack owns last c.args.object c.args.own.now.seq c.args.own.now.floor p table after c.requires.whole (c.requires.whole.pointers c.args.object p at).object_is (λ q. c.remove.ensures.updates.0 q)))

pub returns-clause-stay : goal.returns-clause-stay
returns-clause-stay g c =
    let p = c.in-Some.found.now in
    let h = c.hold-op.ensures.held in
    let last = g.M.Metaslabs.last c.args.metaslabs.now in
    let owns = g.M.Metaslabs.owns c.args.metaslabs.now in
    stay_held owns g.R.Rack g.A.Area g.M.Metaslabs.shared last (g.M.Metaslabs.last c.hold-op.new.self) p.metaslab h.shard h.before h.after h.there h.drifts h.keeps.part (free_groups g.R.Rack g.A.Area h.before h.after p c.args.own.now.floor c.hold-op.result.out h.related) h.is

pub returns-clause-takes : goal.returns-clause-takes
returns-clause-takes g c = (c.in-Some.found.now, sym c.get.ensures.value ∙ ap option_copied c.in-Some.is, λ other. c.remove.ensures.updates.0 other)

pub returns-clause-step : goal.returns-clause-step
returns-clause-step g c x loose knows =
    let p = c.in-Some.found.now in
    let h = c.hold-op.ensures.held in
    let last = g.M.Metaslabs.last c.args.metaslabs.now in
    let owns = g.M.Metaslabs.owns c.args.metaslabs.now in
    let new = g.M.Metaslabs.last c.hold-op.new.self in
    let table : ℕ → Option Pointer = λ o. get nat_eq c.args.own.now.objects o in
    let after : ℕ → Option Pointer = λ o. get nat_eq c.remove.new.self o in
    let at : table c.args.object ≡ Some p = sym c.get.ensures.value ∙ ap option_copied c.in-Some.is in
    let has = c.requires.whole.pointers c.args.object p at in
    subst (λ o. CarriesBy g.R.Rack g.A.Area g.M.Metaslabs.went g.M.Metaslabs.shared o new after c.args.own.now.seq c.in_ok-group.group c.args.metaslabs.now c.hold-op.new.self x (TriesFree x c.args.object (Some (Ok tt)))) (sym c.hold-op.ensures.owns)
    (free_step g.R.Rack g.A.Area g.M.Metaslabs.went g.M.Metaslabs.shared owns c.args.metaslabs.now c.hold-op.new.self last new c.args.object p table c.args.own.now.seq c.args.own.now.floor h.shard h.before h.after h.there h.drifts
    (subst (λ n. KeepsTo g.R.Rack g.A.Area h.before h.after (Some n)) has.object_is h.keeps) h.is h.went c.requires.own at x knows loose after c.in_ok-group.group
    (did_free g.R.Rack g.A.Area h.before h.after p c.args.own.now.floor c.in_ok-group.group c.hold-op.result.out h.related c.in_ok-group.was) (λ q. c.remove.ensures.updates.0 q))
