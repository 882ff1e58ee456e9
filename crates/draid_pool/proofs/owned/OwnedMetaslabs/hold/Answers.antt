use Rattle.std.proofs.Common.{◌∙◌, true, sym, ap, Some}
use Rattle.std.proofs.lemmas.Option.{slice_get-get_or, slice_get_within}
use Rattle.draid_pool.proofs.Holding.{owned_holds, owned_needs}
use Rattle.draid_pool.proofs.SetAgain.{item_again}
use Rattle.draid_pool.proofs.owned.OwnedMetaslabs.hold.Goals as goal

pub returns-clause-held : goal.returns-clause-held
returns-clause-held g c =
    let shards = c.args.self.now.shards.items in
    let may = c.requires.may in
    let within = slice_get_within shards c.args.metaslab may.shard may.there in
    let there = slice_get-get_or shards c.args.metaslab c.index_mut.result.now within ∙ ap Some (sym c.index_mut.ensures.value) in
    owned_holds g.R.Rack g.A.Area g.O.Act.needs g.O.Act.relates g.O.Act.concerns (λ _. true) shards c.args.metaslab c.args.op c.act.new.self c.index_mut.result.now c.act.new.value may there c.act.ensures _
    (λ same. ap (λ v. record { shards = v }) (item_again c.args.self.now.shards c.args.metaslab c.act.new.value (there ∙ ap Some (sym same))))

pub act-requires : goal.act-requires
act-requires g c =
    let shards = c.args.self.now.shards.items in
    let may = c.requires.may in
    let within = slice_get_within shards c.args.metaslab may.shard may.there in
    let there = slice_get-get_or shards c.args.metaslab c.index_mut.result.now within ∙ ap Some (sym c.index_mut.ensures.value) in
    owned_needs g.R.Rack g.A.Area g.O.Act.needs g.O.Act.relates g.O.Act.concerns (λ _. true) shards c.args.metaslab c.args.op c.index_mut.result.now may there
