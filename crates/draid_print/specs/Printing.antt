-- What is printed of the replies of a run.
use Rattle.std.specs.Prelude.{◌≡◌, ◌++◌, ℕ, List, [], ◌∷◌, Option, Some, None, Result, Ok, Err, codes, flat_map, map}
use Rattle.std.specs.Fmt.{decimal}
use Rattle.std.specs.Io.KnownBytes.{Appends}
use Rattle.draid_lines.specs.Sink.{AppendsFront}
use Rattle.draid_reply.specs.Reply.{text_of}
use Rattle.draid_reply.specs.declared.reply.Reply.{Reply}
use Rattle.draid_session.specs.Said.{Said}
use Rattle.draid_exits.specs.declared.status.Status.{Status}
use Rattle.draid_exits.specs.declared.status.Status.TheVariants.{SinkFault, NoMemory}
use Rattle.draid_print.specs.declared.printing.LaneReplies.{LaneReplies}

-- what is printed for a reply: before that to a lane comes the lane's number
abbrev pub lane_text : Option ℕ → List ℕ
lane_text None = []
lane_text (Some lane) = decimal lane ++ codes " "

abbrev pub said_text : Said → List ℕ
said_text said = lane_text said.lane ++ text_of said.reply

abbrev pub texts_of : List Said → List ℕ
texts_of saids = flat_map said_text saids

-- what became of the text of a reply
abbrev pub PrintIs : List ℕ → Option (List ℕ) → Option (List ℕ) → Result Unit Status → Type 0
PrintIs text old new (Ok done) = Appends old new text
PrintIs text old new (Err SinkFault) = AppendsFront old new text
PrintIs text old new (Err NoMemory) = new ≡ old
PrintIs text old new (Err status) = ⊥

-- each lane's replies
abbrev pub replies_in : List LaneReplies → List (List Reply)
replies_in ran = map (λ (lane : LaneReplies). lane.replies.items) ran

-- What became of the texts of some replies: all were printed; or the sink failed at one, or memory was wanting for it, behind those before.
abbrev pub PrintsAre : List Said → Option (List ℕ) → Option (List ℕ) → Result Unit Status → Type 0
PrintsAre saids old new (Ok done) = Appends old new (texts_of saids)
PrintsAre saids old new (Err SinkFault) = (part : List Said) × (said : Said) × (rest : List Said) × (mid : Option (List ℕ)) × (saids ≡ part ++ said ∷ rest) × Appends old mid (texts_of part) × AppendsFront mid new (said_text said)
PrintsAre saids old new (Err NoMemory) = (part : List Said) × (said : Said) × (rest : List Said) × (saids ≡ part ++ said ∷ rest) × Appends old new (texts_of part)
PrintsAre saids old new (Err status) = ⊥
