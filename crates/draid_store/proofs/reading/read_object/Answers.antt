use Rattle.std.proofs.Common.{Ok, Err, nat_eq}
use Rattle.std.specs.HashMap.{get}
use Rattle.std.proofs.lemmas.Result.{err_from_is_err_and}
use Rattle.draid_block.specs.declared.many.Solve.TheVariants.{Bytes, Unreadable}
use Rattle.draid_names.specs.declared.refusal.ObjectFault.TheVariants.{NoMemory}
use Rattle.draid_pool.specs.Threads.{Knows}
use Rattle.draid_store.specs.Answers.{FetchDoes, ReadDoes}
use Rattle.draid_pool.proofs.Joining.{leads_as}
use Rattle.draid_store.proofs.Pointed as pointed
use Rattle.draid_store.proofs.Pointed.{read_bytes, read_lost, read_stops}
use Rattle.draid_store.proofs.ReadSteps.{read_starved, solved_as, unread, unread_is}
use Rattle.draid_store.proofs.reading.read_object.Goals as goal

pub returns-in_err-fetched-clause-read : goal.returns-in_err-fetched-clause-read
returns-in_err-fetched-clause-read g c =
    let p = err_from_is_err_and c.from_residual.result c.from_residual.ensures.1 in
    rw (p.1, p.2) (read_stops (get nat_eq c.args.own.now.objects c.args.object) c.in_err-fetched.field-0.0 c.in_err-fetched.ensures.found)

pub returns-in_err-fetched-clause-step : goal.returns-in_err-fetched-clause-step
returns-in_err-fetched-clause-step g c x layout knows =
    let p = err_from_is_err_and c.from_residual.result c.from_residual.ensures.1 in
    rw (p.1, p.2) (leads_as g.R.Rack g.A.Area g.M.Metaslabs.went g.M.Metaslabs.shared c.args.metaslabs.now c.fetch_object.new.metaslabs x (FetchDoes x c.args.object (Err c.in_err-fetched.field-0.0)) (ReadDoes x c.args.object (Err c.in_err-fetched.field-0.0))
    (λ y. Knows g.R.Rack g.A.Area (g.M.Metaslabs.owns c.args.metaslabs.now) (g.M.Metaslabs.last c.fetch_object.new.metaslabs) (λ o. get nat_eq c.args.own.now.objects o) c.args.own.now.seq c.args.own.now.floor y)
    (unread x c.args.object c.in_err-fetched.field-0.0) (c.in_err-fetched.ensures.step x knows))

pub solve_block-requires : goal.solve_block-requires
solve_block-requires g c = record { geometry = c.requires.geometry; fetched = c.in_ok-fetched.ensures.fetched c.args.geometry.now c.requires.layout }

pub returns-in-Ok-clause-read : goal.returns-in-Ok-clause-read
returns-in-Ok-clause-read g c = read_bytes (get nat_eq c.args.own.now.objects c.args.object) c.in_ok-fetched.fetched c.in-Ok.bytes c.in_ok-fetched.ensures.found c.in-Ok.ensures.digest

pub returns-in-Ok-clause-step : goal.returns-in-Ok-clause-step
returns-in-Ok-clause-step g c x layout knows =
    let e = c.in-Ok.ensures in
    solved_as g.R.Rack g.A.Area g.M.Metaslabs.went g.M.Metaslabs.shared c.args.metaslabs.now c.fetch_object.new.metaslabs x c.args.object c.in_ok-fetched.fetched (Bytes c.in-Ok.bytes) c.args.geometry.now
    (λ y. Knows g.R.Rack g.A.Area (g.M.Metaslabs.owns c.args.metaslabs.now) (g.M.Metaslabs.last c.fetch_object.new.metaslabs) (λ o. get nat_eq c.args.own.now.objects o) c.args.own.now.seq c.args.own.now.floor y)
    layout (record { solves = e.solves; digest = e.digest; readable = e.readable }) (c.in_ok-fetched.ensures.step x knows)

pub returns-in-Err-Unreadable-clause-read : goal.returns-in-Err-Unreadable-clause-read
returns-in-Err-Unreadable-clause-read g c = read_lost (get nat_eq c.args.own.now.objects c.args.object) c.in_ok-fetched.fetched c.in-Err-Unreadable.absent c.in-Err-Unreadable.tried c.in_ok-fetched.ensures.found

pub returns-in-Err-Unreadable-clause-step : goal.returns-in-Err-Unreadable-clause-step
returns-in-Err-Unreadable-clause-step g c x layout knows =
    let e = c.in-Err-Unreadable.ensures in
    solved_as g.R.Rack g.A.Area g.M.Metaslabs.went g.M.Metaslabs.shared c.args.metaslabs.now c.fetch_object.new.metaslabs x c.args.object c.in_ok-fetched.fetched (Unreadable c.in-Err-Unreadable.absent c.in-Err-Unreadable.tried) c.args.geometry.now
    (λ y. Knows g.R.Rack g.A.Area (g.M.Metaslabs.owns c.args.metaslabs.now) (g.M.Metaslabs.last c.fetch_object.new.metaslabs) (λ o. get nat_eq c.args.own.now.objects o) c.args.own.now.seq c.args.own.now.floor y)
    layout (unread_is _ c.in_ok-fetched.fetched c.in-Err-Unreadable.field-0 c.in-Err-Unreadable.absent c.in-Err-Unreadable.tried c.in-Err-Unreadable.field-0-is e.solves e.digest e.readable) (c.in_ok-fetched.ensures.step x knows)

pub returns-clause-read : goal.returns-clause-read
returns-clause-read g c = pointed.read_starved (get nat_eq c.args.own.now.objects c.args.object) c.in_ok-fetched.fetched c.in_ok-fetched.ensures.found

pub returns-clause-step : goal.returns-clause-step
returns-clause-step g c x layout knows =
    leads_as g.R.Rack g.A.Area g.M.Metaslabs.went g.M.Metaslabs.shared c.args.metaslabs.now c.fetch_object.new.metaslabs x (FetchDoes x c.args.object (Ok c.in_ok-fetched.fetched)) (ReadDoes x c.args.object (Err NoMemory))
    (λ y. Knows g.R.Rack g.A.Area (g.M.Metaslabs.owns c.args.metaslabs.now) (g.M.Metaslabs.last c.fetch_object.new.metaslabs) (λ o. get nat_eq c.args.own.now.objects o) c.args.own.now.seq c.args.own.now.floor y)
    (read_starved x c.args.object c.in_ok-fetched.fetched) (c.in_ok-fetched.ensures.step x knows)
