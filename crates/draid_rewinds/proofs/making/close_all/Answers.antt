use Rattle.draid_pool.proofs.GroupClosed.{closed_all, closes_each}
use Rattle.draid_rewinds.proofs.making.close_all.Goals as goal

pub close_each-requires-clause-next : goal.close_each-requires-clause-next
close_each-requires-clause-next g c = closes_each g.R.Rack g.A.Area c.args.pool.now c.args.group c.requires.whole c.requires.next

pub returns-clause-whole : goal.returns-clause-whole
returns-clause-whole g c = (closed_all g.R.Rack g.A.Area c.args.pool.now c.args.group c.close_each.result c.close_each.new.metaslabs c.requires.whole c.close_each.ensures.closes).whole

pub returns-clause-later : goal.returns-clause-later
returns-clause-later g c = (closed_all g.R.Rack g.A.Area c.args.pool.now c.args.group c.close_each.result c.close_each.new.metaslabs c.requires.whole c.close_each.ensures.closes).later

pub returns-clause-closing : goal.returns-clause-closing
returns-clause-closing g c = (closed_all g.R.Rack g.A.Area c.args.pool.now c.args.group c.close_each.result c.close_each.new.metaslabs c.requires.whole c.close_each.ensures.closes).closing

pub returns-clause-carries : goal.returns-clause-carries
returns-clause-carries g c = (closed_all g.R.Rack g.A.Area c.args.pool.now c.args.group c.close_each.result c.close_each.new.metaslabs c.requires.whole c.close_each.ensures.closes).carries
