use Rattle.draid_script.specs.declared.line.StatusFormat.TheVariants.{Json, Text}
use Rattle.draid_status.proofs.Shown.{text_shows}
use Rattle.draid_status.proofs.replies.status_bytes.Goals as goal

pub returns-in-Text : goal.returns-in-Text
returns-in-Text g c = record {
  shows = λ x is. text_shows x c.args.format Text c.in-Text.is c.view.result c.in-Ok.view c.in-Ok.is (c.view.ensures.view x is) c.status_text.result c.status_text.ensures;
}

pub returns : goal.returns
returns g c = record {
  shows = λ x is. text_shows x c.args.format Json c.in-Json.is c.view.result c.in-Ok.view c.in-Ok.is (c.view.ensures.view x is) c.status_json.result c.status_json.ensures;
}
