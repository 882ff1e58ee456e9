use Rattle.std.proofs.Common.{◌+◌, ◌∙◌, arith, All, List, Ok, Err, nat_eq, ap, sym, subst, length}
use Rattle.std.specs.HashMap.{get}
use Rattle.std.specs.List.{AllZip}
use Rattle.std.proofs.lemmas.Result.{err_from_is_err_and}
use Rattle.draid_spec.specs.declared.layout.Geometry.{Geometry}
use Rattle.draid_block.specs.Blocks.{cut_of}
use Rattle.draid_block.specs.Many.{IsSolved}
use Rattle.draid_block.specs.Solving.{IsFetched}
use Rattle.draid_block.specs.declared.many.Solve.{Solve}
use Rattle.draid_block.specs.declared.solve.Fetched.{Fetched}
use Rattle.draid_names.specs.declared.refusal.ObjectFault.TheVariants.{NoMemory}
use Rattle.draid_pool.specs.Threads.{Knows}
use Rattle.draid_store.specs.Batches.{AddTries, FeedsAll, FetchesBatch, FirstUnread}
use Rattle.draid_store.proofs.Batched.{batch_added, batch_stops, solved_length, unread_in, unsolved}
use Rattle.draid_pool.proofs.Joining.{leads_as}
use Rattle.draid_store.proofs.PointedSums.{adds_all, stops_behind, stops_of, stops_starved, stops_unread}
use Rattle.draid_store.proofs.summing.add_batch.Goals as goal

pub solve_many-requires-clause-fetched : goal.solve_many-requires-clause-fetched
solve_many-requires-clause-fetched g c κs within = subst (All (IsFetched (cut_of c.args.geometry.now))) (sym c.deref.ensures.value) (c.fetch_batch-batch.ensures.fetched c.args.geometry.now c.requires.layout)

-- ---- no memory

pub returns-in_default-clause-adds : goal.returns-in_default-clause-adds
returns-in_default-clause-adds g c = stops_starved (λ o. get nat_eq c.args.own.now.objects o) c.args.first c.args.count c.requires.some

pub returns-in_default-clause-step : goal.returns-in_default-clause-step
returns-in_default-clause-step g c x layout knows =
    leads_as g.R.Rack g.A.Area g.M.Metaslabs.went g.M.Metaslabs.shared c.args.metaslabs.now c.fetch_batch-batch.new.metaslabs x (FetchesBatch x c.args.first c.args.count c.fetch_batch-batch.result) (AddTries x c.args.first c.args.count c.args.hasher.now c.args.hasher.now (Err (record { object = c.args.first; why = NoMemory })))
    (λ y. Knows g.R.Rack g.A.Area (g.M.Metaslabs.owns c.args.metaslabs.now) (g.M.Metaslabs.last c.fetch_batch-batch.new.metaslabs) (λ o. get nat_eq c.args.own.now.objects o) c.args.own.now.seq c.args.own.now.floor y)
    (unsolved x c.args.first c.args.count c.fetch_batch-batch.result c.args.hasher.now c.args.hasher.now c.requires.some) (c.fetch_batch-batch.ensures.step x knows)

pub feed-requires : goal.feed-requires
feed-requires g c =
    let solved = subst (λ (bs : List Fetched). AllZip (IsSolved (cut_of c.args.geometry.now)) bs c.in-Ok.solves.items) c.deref.ensures.value c.in-Ok.ensures.answers in
    let long = ap length c.deref-2.ensures.value ∙ solved_length (cut_of c.args.geometry.now) _ c.in-Ok.solves.items solved in
    let short = c.fetch_batch-batch.ensures.few in
    let range = c.requires.range in
    record { range = omega (arith, long, short, range) }

-- ---- one of the blocks can't be read

pub returns-in_err-feed-clause-added : goal.returns-in_err-feed-clause-added
returns-in_err-feed-clause-added g c = (let p = err_from_is_err_and c.from_residual.result c.from_residual.ensures.1 in rw p.1 tt)

pub returns-in_err-feed-clause-adds : goal.returns-in_err-feed-clause-adds
returns-in_err-feed-clause-adds g c =
    let solved = subst (λ (bs : List Fetched). AllZip (IsSolved (cut_of c.args.geometry.now)) bs c.in-Ok.solves.items) c.deref.ensures.value c.in-Ok.ensures.answers in
    let unread = subst (λ (ss : List Solve). FirstUnread c.args.first ss c.in_err-feed.field-0.0) c.deref-2.ensures.value c.in_err-feed.ensures in
    let p = err_from_is_err_and c.from_residual.result c.from_residual.ensures.1 in
    rw (p.1, p.2) (stops_unread (cut_of c.args.geometry.now) (λ o. get nat_eq c.args.own.now.objects o) c.args.first c.args.count c.fetch_batch-batch.result.blocks.items c.in-Ok.solves.items c.in_err-feed.field-0.0 c.fetch_batch-batch.ensures.found solved unread c.fetch_batch-batch.ensures.few)

pub returns-in_err-feed-clause-step : goal.returns-in_err-feed-clause-step
returns-in_err-feed-clause-step g c x layout knows =
    let solved = subst (λ (bs : List Fetched). AllZip (IsSolved (cut_of c.args.geometry.now)) bs c.in-Ok.solves.items) c.deref.ensures.value c.in-Ok.ensures.answers in
    let here = subst (λ (g : Geometry). AllZip (IsSolved (cut_of g)) c.fetch_batch-batch.result.blocks.items c.in-Ok.solves.items) (sym layout) solved in
    let unread = subst (λ (ss : List Solve). FirstUnread c.args.first ss c.in_err-feed.field-0.0) c.deref-2.ensures.value c.in_err-feed.ensures in
    let p = err_from_is_err_and c.from_residual.result c.from_residual.ensures.1 in
    rw (p.1, p.2) (leads_as g.R.Rack g.A.Area g.M.Metaslabs.went g.M.Metaslabs.shared c.args.metaslabs.now c.fetch_batch-batch.new.metaslabs x (FetchesBatch x c.args.first c.args.count c.fetch_batch-batch.result) (AddTries x c.args.first c.args.count c.args.hasher.now c.feed.new.hasher (Err c.in_err-feed.field-0.0))
    (λ y. Knows g.R.Rack g.A.Area (g.M.Metaslabs.owns c.args.metaslabs.now) (g.M.Metaslabs.last c.fetch_batch-batch.new.metaslabs) (λ o. get nat_eq c.args.own.now.objects o) c.args.own.now.seq c.args.own.now.floor y)
    (unread_in x c.args.first c.args.count c.fetch_batch-batch.result c.in-Ok.solves.items c.args.hasher.now c.feed.new.hasher c.in_err-feed.field-0.0 here unread) (c.fetch_batch-batch.ensures.step x knows))

-- ---- all give their bytes

pub returns-in-None-clause-added : goal.returns-in-None-clause-added
returns-in-None-clause-added g c =
    let some = c.fetch_batch-batch.ensures.some c.in-None.is in
    let few = c.fetch_batch-batch.ensures.few in
    let added = c.len-added.ensures in
    (omega (arith, some, added), omega (arith, few, added))

pub returns-in-None-clause-adds : goal.returns-in-None-clause-adds
returns-in-None-clause-adds g c =
    let solved = subst (λ (bs : List Fetched). AllZip (IsSolved (cut_of c.args.geometry.now)) bs c.in-Ok.solves.items) c.deref.ensures.value c.in-Ok.ensures.answers in
    let fed = subst (λ (ss : List Solve). FeedsAll ss c.args.hasher.now c.feed.new.hasher) c.deref-2.ensures.value c.in_ok-feed.ensures in
    adds_all (cut_of c.args.geometry.now) (λ o. get nat_eq c.args.own.now.objects o) c.args.first c.len-added.result c.fetch_batch-batch.result.blocks.items c.in-Ok.solves.items c.args.hasher.now c.feed.new.hasher
    c.fetch_batch-batch.ensures.found solved fed (c.len-added.ensures ∙ c.fetch_batch-batch.result.blocks.ok.0)

pub returns-in-None-clause-step : goal.returns-in-None-clause-step
returns-in-None-clause-step g c x layout knows =
    let solved = subst (λ (bs : List Fetched). AllZip (IsSolved (cut_of c.args.geometry.now)) bs c.in-Ok.solves.items) c.deref.ensures.value c.in-Ok.ensures.answers in
    let here = subst (λ (g : Geometry). AllZip (IsSolved (cut_of g)) c.fetch_batch-batch.result.blocks.items c.in-Ok.solves.items) (sym layout) solved in
    let fed = subst (λ (ss : List Solve). FeedsAll ss c.args.hasher.now c.feed.new.hasher) c.deref-2.ensures.value c.in_ok-feed.ensures in
    leads_as g.R.Rack g.A.Area g.M.Metaslabs.went g.M.Metaslabs.shared c.args.metaslabs.now c.fetch_batch-batch.new.metaslabs x (FetchesBatch x c.args.first c.args.count c.fetch_batch-batch.result) (AddTries x c.args.first c.args.count c.args.hasher.now c.feed.new.hasher (Ok c.len-added.result))
    (λ y. Knows g.R.Rack g.A.Area (g.M.Metaslabs.owns c.args.metaslabs.now) (g.M.Metaslabs.last c.fetch_batch-batch.new.metaslabs) (λ o. get nat_eq c.args.own.now.objects o) c.args.own.now.seq c.args.own.now.floor y)
    (batch_added x c.args.first c.args.count c.len-added.result c.fetch_batch-batch.result c.in-Ok.solves.items c.args.hasher.now c.feed.new.hasher here fed c.len-added.ensures c.in-None.is) (c.fetch_batch-batch.ensures.step x knows)

-- ---- and the next object gives none

pub returns-clause-adds : goal.returns-clause-adds
returns-clause-adds g c =
    let solved = subst (λ (bs : List Fetched). AllZip (IsSolved (cut_of c.args.geometry.now)) bs c.in-Ok.solves.items) c.deref.ensures.value c.in-Ok.ensures.answers in
    let fed = subst (λ (ss : List Solve). FeedsAll ss c.args.hasher.now c.feed.new.hasher) c.deref-2.ensures.value c.in_ok-feed.ensures in
    let stop = stops_of (λ o. get nat_eq c.args.own.now.objects o) c.args.first c.args.count (length c.fetch_batch-batch.result.blocks.items) c.fetch_batch-batch.result.fault c.in-Some.why c.in-Some.is c.fetch_batch-batch.ensures.stops in
    stops_behind (cut_of c.args.geometry.now) (λ o. get nat_eq c.args.own.now.objects o) c.args.first c.args.count c.len-added.result c.fetch_batch-batch.result.blocks.items c.in-Ok.solves.items c.args.hasher.now c.feed.new.hasher
    c.in-Some.why c.fetch_batch-batch.ensures.found solved fed (c.len-added.ensures ∙ c.fetch_batch-batch.result.blocks.ok.0) stop.0 stop.1

pub returns-clause-step : goal.returns-clause-step
returns-clause-step g c x layout knows =
    let solved = subst (λ (bs : List Fetched). AllZip (IsSolved (cut_of c.args.geometry.now)) bs c.in-Ok.solves.items) c.deref.ensures.value c.in-Ok.ensures.answers in
    let here = subst (λ (g : Geometry). AllZip (IsSolved (cut_of g)) c.fetch_batch-batch.result.blocks.items c.in-Ok.solves.items) (sym layout) solved in
    let fed = subst (λ (ss : List Solve). FeedsAll ss c.args.hasher.now c.feed.new.hasher) c.deref-2.ensures.value c.in_ok-feed.ensures in
    leads_as g.R.Rack g.A.Area g.M.Metaslabs.went g.M.Metaslabs.shared c.args.metaslabs.now c.fetch_batch-batch.new.metaslabs x (FetchesBatch x c.args.first c.args.count c.fetch_batch-batch.result) (AddTries x c.args.first c.args.count c.args.hasher.now c.feed.new.hasher (Err (record { object = c.args.first + c.len-added.result; why = c.in-Some.why })))
    (λ y. Knows g.R.Rack g.A.Area (g.M.Metaslabs.owns c.args.metaslabs.now) (g.M.Metaslabs.last c.fetch_batch-batch.new.metaslabs) (λ o. get nat_eq c.args.own.now.objects o) c.args.own.now.seq c.args.own.now.floor y)
    (batch_stops x c.args.first c.args.count c.len-added.result c.fetch_batch-batch.result c.in-Ok.solves.items c.args.hasher.now c.feed.new.hasher c.in-Some.why here fed c.len-added.ensures c.in-Some.is) (c.fetch_batch-batch.ensures.step x knows)
