-- A book beside a checkpoint, behind a reply or behind a command that breaks off.
use Rattle.std.proofs.Common.{◌≡◌, sym, subst}
use Rattle.draid_script.specs.Line.{Command}
use Rattle.draid_reply.specs.declared.reply.Reply.{Reply}
use Rattle.draid_session.specs.Marked.{Marked, MarkedAnswers}
use Rattle.draid_session.specs.Session.{Desk}
use Rattle.draid_marked.specs.Ending.{MarkedBreaks}
use Rattle.draid_marked.specs.Keeping.{KeepsMarked}

pub record NextMarked (m : Marked) (command : Command) (reply : Reply) (new : Desk) : Type 0 where
  pub next : Marked
  pub answers : MarkedAnswers m command reply next
  pub keeps : KeepsMarked new next

pub next_at : (m : Marked) (command : Command) (reply : Reply) (old new : Desk) → new ≡ old → NextMarked m command reply old → NextMarked m command reply new
next_at m command reply old new is next = subst (NextMarked m command reply) (sym is) next

pub record EndsMarked (m : Marked) (command : Command) (new : Desk) : Type 0 where
  pub last : Marked
  pub breaks : MarkedBreaks m command last
  pub keeps : KeepsMarked new last
