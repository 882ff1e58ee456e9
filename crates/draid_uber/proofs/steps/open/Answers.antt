use Rattle.draid_uber.proofs.Ends.{open_done, open_refused}
use Rattle.draid_uber.proofs.steps.open.Goals as goal

pub returns-clause-refused : goal.returns-clause-refused
returns-clause-refused g c = λ kept body bytes e len first is_body next filled. open_refused kept c.args.slot c.base.result e c.base.ensures body bytes c.put.result _ _ len first is_body next filled c.put.ensures.puts

pub returns-clause-opened : goal.returns-clause-opened
returns-clause-opened g c = λ kept body bytes e len first is_body next filled. open_done kept c.args.slot c.base.result e c.base.ensures body bytes c.put.result _ _ len first is_body next filled c.put.ensures.puts
