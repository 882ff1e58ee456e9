use Rattle.std.proofs.Common.{◌∙◌, ap, sym, subst}
use Rattle.std.specs.Prelude.{nat_eq}
use Rattle.std.specs.HashMap.{get}
use Rattle.std.specs.Option.{option_copied}
use Rattle.draid_pool.proofs.HeldBy.{stay_held, stay_same}
use Rattle.draid_store.proofs.FetchHold.{not_fetched, step_of}
use Rattle.draid_store.proofs.FetchKeeps.{did_fetch, fetch_blocks, fetch_finds, fetch_groups, fetched_as, keeps_fetch, may_fetch}
use Rattle.draid_store.proofs.Pointed.{fetch_nothing}
use Rattle.draid_pool.proofs.QuietWhole.{quiet_whole}
use Rattle.std.specs.Prelude.{IfOk}
use Rattle.draid_block.specs.Blocks.{cut_of}
use Rattle.draid_block.specs.Solving.{IsFetched}
use Rattle.draid_pool.specs.Threads.{CarriesBy}
use Rattle.draid_store.specs.Answers.{FetchDoes}
use Rattle.draid_store.specs.Pointers.{FetchFinds}
use Rattle.draid_store.proofs.fetching.fetch_object.Goals as goal

pub returns-in_default-clause-stay : goal.returns-in_default-clause-stay
returns-in_default-clause-stay g c = stay_same (g.M.Metaslabs.owns c.args.metaslabs.now) (g.M.Metaslabs.last c.args.metaslabs.now)

pub returns-in_default-clause-found : goal.returns-in_default-clause-found
returns-in_default-clause-found g c = fetch_nothing (get nat_eq c.args.own.now.objects c.args.object) (sym (sym c.get.ensures.value ∙ ap option_copied c.in_default.is))

pub returns-in_default-clause-step : goal.returns-in_default-clause-step
returns-in_default-clause-step g c x knows =
    not_fetched g.R.Rack g.A.Area g.M.Metaslabs.went g.M.Metaslabs.shared (g.M.Metaslabs.owns c.args.metaslabs.now) c.args.metaslabs.now (g.M.Metaslabs.last c.args.metaslabs.now) c.args.object (λ o. get nat_eq c.args.own.now.objects o)
    c.args.own.now.seq c.args.own.now.floor c.requires.own (sym c.get.ensures.value ∙ ap option_copied c.in_default.is) x knows

pub hold-op-requires-clause-may : goal.hold-op-requires-clause-may
hold-op-requires-clause-may g c =
    let p = c.in-Some.found.now in
    let has = c.requires.whole.pointers c.args.object p (sym c.get.ensures.value ∙ ap option_copied c.in-Some.is) in
    record {
      shard = has.shard;
      there = has.there;
      valid = has.valid;
      ready = λ x d. may_fetch g.R.Rack g.A.Area g.M.Metaslabs.shared (g.M.Metaslabs.owns c.args.metaslabs.now) (g.M.Metaslabs.last c.args.metaslabs.now) c.args.object p has x d;
      keeps = λ x y after needs f. keeps_fetch g.R.Rack g.A.Area x y p after.out f;
      own = λ n is. absurd (cc);
    }

pub returns-clause-stay : goal.returns-clause-stay
returns-clause-stay g c =
    let p = c.in-Some.found.now in
    let h = c.hold-op.ensures.held in
    let owns = g.M.Metaslabs.owns c.args.metaslabs.now in
    let last = g.M.Metaslabs.last c.args.metaslabs.now in
    let new = g.M.Metaslabs.last c.hold-op.new.self in
    let did = did_fetch g.R.Rack g.A.Area h.before h.after p c.hold-op.result.out c.in-Some-out.result h.related c.in-Some-out.is in
    stay_held owns g.R.Rack g.A.Area g.M.Metaslabs.shared last new p.metaslab h.shard h.before h.after h.there h.drifts h.keeps.part (fetch_groups g.R.Rack g.A.Area h.before h.after p c.in-Some-out.result did) h.is

pub returns-clause-whole : goal.returns-clause-whole
returns-clause-whole g c =
    let p = c.in-Some.found.now in
    let h = c.hold-op.ensures.held in
    let owns = g.M.Metaslabs.owns c.args.metaslabs.now in
    let last = g.M.Metaslabs.last c.args.metaslabs.now in
    let new = g.M.Metaslabs.last c.hold-op.new.self in
    let did = did_fetch g.R.Rack g.A.Area h.before h.after p c.hold-op.result.out c.in-Some-out.result h.related c.in-Some-out.is in
    quiet_whole g.R.Rack g.A.Area g.M.Metaslabs.shared owns last new p.metaslab h.shard h.before h.after h.there h.drifts h.keeps.valid h.keeps.part (fetch_groups g.R.Rack g.A.Area h.before h.after p c.in-Some-out.result did)
    (fetch_blocks g.R.Rack g.A.Area h.before h.after p c.in-Some-out.result did) h.is (λ o. get nat_eq c.args.own.now.objects o) c.args.own.now.seq c.args.own.now.floor c.requires.whole

pub returns-clause-found : goal.returns-clause-found
returns-clause-found g c =
    let p = c.in-Some.found.now in
    let h = c.hold-op.ensures.held in
    let owns = g.M.Metaslabs.owns c.args.metaslabs.now in
    let last = g.M.Metaslabs.last c.args.metaslabs.now in
    let new = g.M.Metaslabs.last c.hold-op.new.self in
    let did = did_fetch g.R.Rack g.A.Area h.before h.after p c.hold-op.result.out c.in-Some-out.result h.related c.in-Some-out.is in
    subst (λ r. FetchFinds (get nat_eq c.args.own.now.objects c.args.object) r) (sym c.in-Some-out.result-is)
    (fetch_finds g.R.Rack g.A.Area h.before h.after p (get nat_eq c.args.own.now.objects c.args.object) c.in-Some-out.result did (sym c.get.ensures.value ∙ ap option_copied c.in-Some.is))

pub returns-clause-fetched : goal.returns-clause-fetched
returns-clause-fetched g c geometry have =
    let p = c.in-Some.found.now in
    let h = c.hold-op.ensures.held in
    let owns = g.M.Metaslabs.owns c.args.metaslabs.now in
    let last = g.M.Metaslabs.last c.args.metaslabs.now in
    let new = g.M.Metaslabs.last c.hold-op.new.self in
    let did = did_fetch g.R.Rack g.A.Area h.before h.after p c.hold-op.result.out c.in-Some-out.result h.related c.in-Some-out.is in
    subst (λ r. IfOk r (IsFetched (cut_of geometry))) (sym c.in-Some-out.result-is)
    (fetched_as g.R.Rack g.A.Area h.shard h.before h.after p c.in-Some-out.result geometry did h.drifts.part (have p.metaslab h.shard h.there))

pub returns-clause-step : goal.returns-clause-step
returns-clause-step g c x knows =
    let p = c.in-Some.found.now in
    let h = c.hold-op.ensures.held in
    let owns = g.M.Metaslabs.owns c.args.metaslabs.now in
    let last = g.M.Metaslabs.last c.args.metaslabs.now in
    let new = g.M.Metaslabs.last c.hold-op.new.self in
    let did = did_fetch g.R.Rack g.A.Area h.before h.after p c.hold-op.result.out c.in-Some-out.result h.related c.in-Some-out.is in
    subst (λ r. CarriesBy g.R.Rack g.A.Area g.M.Metaslabs.went g.M.Metaslabs.shared owns new (λ o. get nat_eq c.args.own.now.objects o) c.args.own.now.seq c.args.own.now.floor c.args.metaslabs.now c.hold-op.new.self x (FetchDoes x c.args.object r)) (sym c.in-Some-out.result-is)
    (step_of g.R.Rack g.A.Area g.M.Metaslabs.went g.M.Metaslabs.shared owns c.args.metaslabs.now c.hold-op.new.self last new c.args.object p (λ o. get nat_eq c.args.own.now.objects o) c.args.own.now.seq c.args.own.now.floor
    h.shard h.before h.after h.there h.drifts h.keeps.valid h.keeps.part (fetch_blocks g.R.Rack g.A.Area h.before h.after p c.in-Some-out.result did) h.is h.went c.requires.own (sym c.get.ensures.value ∙ ap option_copied c.in-Some.is) x knows
    c.in-Some-out.result did)
