-- What lanes that ran in threads come to, by what their jobs replied.
use Rattle.std.proofs.Common.{◌≡◌, ◌∙◌, ◌∷◌, arith, ℕ, suc, Bool, true, false, List, [], Option, Some, length, map, refl, sym, ap, subst, None}
use Rattle.std.specs.Prelude.{slice_get}
use Rattle.std.specs.Borrow.{Bor}
use Rattle.std.specs.Fn.{FnReturnsAt, Shared}
use Rattle.std.specs.declared.vec.Vec.{Vec}
use Rattle.std.specs.declared.alloc.Global.{Global}
use Rattle.std.proofs.lemmas.List.{length-map}
use Rattle.std.proofs.lemmas.Option.{slice_get_within}
use Rattle.draid_names.specs.declared.room.Room.{Room}
use Rattle.draid_choose.specs.Rooms.{IsChooser}
use Rattle.draid_rack.specs.declared.Rack as racks
use Rattle.draid_area.specs.declared.Area as areas
use Rattle.draid_script.specs.Line.{Command, command_in}
use Rattle.draid_script.specs.declared.line.Line.{Line}
use Rattle.draid_reply.specs.declared.reply.Reply.{Reply}
use Rattle.draid_session.specs.Choices.{Choices, choices_by}
use Rattle.draid_session.specs.Holds.{Hold}
use Rattle.draid_session.specs.Known.{Known}
use Rattle.draid_session.specs.Lanes.{Says, Section}
use Rattle.draid_session.specs.Looks.{AllOf}
use Rattle.draid_session.specs.Sections.{LaneLearns, LanesLearn, NoClash}
use Rattle.draid_session.specs.State.{State, Store}
use Rattle.draid_turn.specs.declared.span.Span.{Span}
use Rattle.draid_pool.specs.Failing.{AreaRose, AreasLater}
use Rattle.draid_pool.specs.Knows.{KnowsPointers}
use Rattle.draid_pool.specs.Pools.{Represents}
use Rattle.draid_pool.specs.Whole.{IsWhole}
use Rattle.draid_pool.specs.declared.pool.Pool.{Pool}
use Rattle.draid_pool.proofs.Lists.{present, some_of}
use Rattle.draid_lanes.specs.Locks.{owned_by}
use Rattle.draid_lanes.specs.Telling.{JobsTeach, JobsTell}
use Rattle.draid_lanes.specs.declared.lane.Lane.{Lane}
use Rattle.draid_lanes.proofs.TurnsThen.{leads_as}
use Rattle.draid_tables.specs.Lists.{AreLaneLists, ListsEach}
use Rattle.draid_section.specs.Running.{WereDone}
use Rattle.draid_section.specs.Section.{RunsInLanes}
use Rattle.draid_section.specs.Told.{LearnEach, SectionStood}
use Rattle.draid_section.proofs.Answered.{section_is}
use Rattle.draid_section.proofs.Counted.{areas_come_back, failed_stays}
use Rattle.draid_section.proofs.SectionLaw.{section_stood}
use Rattle.draid_section.proofs.TeachLaw.{section_taught, were_done}
use Rattle.draid_works.specs.Job.{AreAll, CommandsDone, HasScrub}
use Rattle.draid_works.specs.declared.job.LaneCommands.{LaneCommands}
use Rattle.draid_works.proofs.CommandsFail.{commands_fail}
use Rattle.draid_works.proofs.LaneTeaches.{all_taught}
use Rattle.draid_works.proofs.LaneTells.{commands_lead}
use Rattle.draid_program.specs.Jobs.{AreJobsOf, IsJobOf, told_of}
use Rattle.draid_clashes.specs.Lanes.{commands_in, lanes_in}
use Rattle.draid_run.specs.Sections.{IsStopped, LanesTeach, MayRunLanes, RunsSection, StopWhere, StopsWhere}
use Rattle.draid_print.specs.Printing.{replies_in}
use Rattle.draid_print.specs.declared.printing.LaneReplies.{LaneReplies}
use Rattle.draid_program.proofs.LanesGiven.{Does, Needs, job_of, keeps, may_all}
use Rattle.draid_uber.specs.Uber.{point_of}

-- ---- lists

-- which lanes were stopped
stops_one : (stopped : Bool) (lines : List Line) (replies : List Reply) → AreAll stopped lines replies → StopsWhere stopped (commands_in lines) replies
stops_one false lines replies all = all ∙ sym (length-map lines command_in)
stops_one true lines replies all = (let same = length-map lines command_in in omega (arith, all, same))

module _ {F : Type 0} where
  abbrev pub commands_of_job : LaneCommands F → List Command
  commands_of_job job = map command_in job.lines.items

  abbrev pub replies_of_job : LaneCommands F → List Reply
  replies_of_job job = job.replies.items

  -- the jobs' commands are those of the lanes
  same_commands : (chooser : F) (lanes : List (Vec Line Global)) (jobs : List (LaneCommands F)) → length jobs ≡ length lanes
      → ((i : ℕ) (lines : Vec Line Global) (job : LaneCommands F) → slice_get lanes i ≡ Some lines → slice_get jobs i ≡ Some job → IsJobOf chooser lines job) → map commands_of_job jobs ≡ lanes_in lanes
  same_commands chooser [] [] many each = refl
  same_commands chooser [] (job ∷ jobs) many each = absurd (omega (arith, many))
  same_commands chooser (lines ∷ lanes) [] many each = absurd (omega (arith, many))
  same_commands chooser (lines ∷ lanes) (job ∷ jobs) many each =
      let is = each 0 lines job refl refl in
      let front : commands_of_job job ≡ commands_in lines.items = ap (λ (ls : Vec Line Global). map command_in ls.items) is.lines_are in
      ap (λ (cs : List Command). cs ∷ map commands_of_job jobs) front
      ∙ ap (λ (css : List (List Command)). commands_in lines.items ∷ css) (same_commands chooser lanes jobs (omega (arith, many)) (λ i l j a b. each (suc i) l j a b))

  same_replies : (done : List (LaneCommands F)) → map replies_of_job done ≡ replies_in (map told_of done)
  same_replies [] = refl
  same_replies (job ∷ done) = ap (λ (rs : List (List Reply)). job.replies.items ∷ rs) (same_replies done)

  stop_all : (lanes : List (Vec Line Global)) (done : List (LaneCommands F)) → length done ≡ length lanes
      → ((i : ℕ) (lines : Vec Line Global) (end : LaneCommands F) → slice_get lanes i ≡ Some lines → slice_get done i ≡ Some end → AreAll end.stopped lines.items end.replies.items) → StopWhere (lanes_in lanes) (map told_of done)
  stop_all [] [] many each = tt
  stop_all [] (end ∷ done) many each = absurd (omega (arith, many))
  stop_all (lines ∷ lanes) [] many each = absurd (omega (arith, many))
  stop_all (lines ∷ lanes) (end ∷ done) many each =
      (stops_one end.stopped lines.items end.replies.items (each 0 lines end refl refl), stop_all lanes done (omega (arith, many)) (λ i l e a b. each (suc i) l e a b))

  -- what is learned of each lane
  abbrev pub LearnsJob : LaneCommands F → LaneCommands F → Known → Known → Type 0
  LearnsJob job done known new = LaneLearns (map command_in job.lines.items) done.replies.items known new

  learn_all : (jobs done : List (LaneCommands F)) (known later : Known) → LearnEach LearnsJob jobs done known later → LanesLearn (map commands_of_job jobs) (map replies_of_job done) known later
  learn_all [] [] known later learn = learn
  learn_all [] (end ∷ done) known later learn = absurd learn
  learn_all (job ∷ jobs) [] known later learn = absurd learn
  learn_all (job ∷ jobs) (end ∷ done) known later (mid, one, more) = (mid, one, learn_all jobs done mid later more)

-- ---- lanes that ran

module _ {R A F : Type 0} (rack : racks.Ghosts R) (area : areas.Ghosts A) (closure : Shared F (Bor (List Room) × Unit {0}) (Option ℕ)) (sync : Type 0) (is_sync : sync) (lanes : Vec (Vec Line Global) Global) (may : MayRunLanes (lanes_in lanes.items)) (numbers : List (Vec Span Global)) (al : AreLaneLists numbers)
    (each : ListsEach lanes.items numbers) (pool : Pool R A) (whole : IsWhole rack area pool) (unpointed : (point_of pool.uber).group ≡ None) (chooser : F) (chooser_is : IsChooser closure chooser) (jobs : Vec (LaneCommands F) Global) (are : AreJobsOf chooser lanes.items jobs.items) (new : Pool R A) (new_whole : IsWhole rack area new) (done : Vec (LaneCommands F) Global) where
  abbrev choices : Choices
  choices = choices_by (FnReturnsAt closure chooser)

  module _ {G W : Type 0} where
    abbrev Need : LaneCommands F → Lane R A G W → Type 0
    Need job lane = Needs lanes may numbers each rack area closure sync is_sync pool whole unpointed chooser chooser_is jobs are job lane

    abbrev Do : LaneCommands F → Lane R A G W → LaneCommands F → Lane R A G W → Type 0
    Do job old end next = Does lanes may numbers each rack area closure sync is_sync pool whole unpointed chooser chooser_is jobs are job old end next

    module _ (d : RunsInLanes rack area Do pool numbers jobs new done) where
      many : length numbers ≡ length jobs.items
      many = each.many ∙ sym are.many

      were : WereDone Do jobs.items done.items
      were = were_done rack area Need Do pool whole numbers al jobs (may_all lanes may numbers each rack area closure sync is_sync pool whole unpointed chooser chooser_is jobs are) (keeps lanes may numbers each rack area closure sync is_sync pool whole unpointed chooser chooser_is jobs are) d.locks d.firsts d.locked d.groups
          d.alone d.owns d.dealt new.uber new.metaslabs.shards.items d.owns' done d.ran many

      pub as_many : length done.items ≡ length lanes.items
      as_many = were.many ∙ are.many

      pub stops : StopWhere (lanes_in lanes.items) (map told_of done.items)
      stops = stop_all lanes.items done.items as_many at
        where
          at : (i : ℕ) (lines : Vec Line Global) (end : LaneCommands F) → slice_get lanes.items i ≡ Some lines → slice_get done.items i ≡ Some end → AreAll end.stopped lines.items end.replies.items
          at i lines end there end_is =
              let within = slice_get_within lanes.items i lines there in
              let job = present jobs.items i (let same = are.many in omega (arith, within, same)) in
              let z = were.each i job.0 job.1 in
              let same : z.1 ≡ end = some_of (slice_get done.items i) z.1 end z.3 end_is in
              let is = are.each i lines job.0 there job.1 in
              subst (λ (e : LaneCommands F). AreAll e.stopped lines.items e.replies.items) same (subst (λ (ls : Vec Line Global). AreAll z.1.stopped ls.items z.1.replies.items) is.lines_are z.4.all)

      -- ---- what failed

      find_stopped : (ran : List (LaneCommands F)) → (AllOf (λ (lane : LaneReplies). lane.stopped ≡ false) (map told_of ran) → ⊥) → (i : ℕ) × (end : LaneCommands F) × (slice_get ran i ≡ Some end) × (end.stopped ≡ true)
      find_stopped [] some = absurd (some tt)
      find_stopped (end ∷ ran) some = by end.stopped refl (λ all. find_stopped ran all)
        where
          by : (b : Bool) → end.stopped ≡ b → ((AllOf (λ (lane : LaneReplies). lane.stopped ≡ false) (map told_of ran) → ⊥) → (i : ℕ) × (e : LaneCommands F) × (slice_get ran i ≡ Some e) × (e.stopped ≡ true))
              → (i : ℕ) × (e : LaneCommands F) × (slice_get (end ∷ ran) i ≡ Some e) × (e.stopped ≡ true)
          by true is rest = (0, end, refl, is)
          by false is rest = (let z = rest (λ all. some (is, all)) in (suc z.0, z.1, z.2, z.3))

      pub cause : IsStopped (map told_of done.items) → AreaRose area.faults pool new
      cause some =
          let z = find_stopped done.items some in
          failed_stays rack area Do pool numbers jobs new done d z.0 z.1 z.2
          (λ job lane next did. commands_fail rack area (choices_by (FnReturnsAt closure job.chooser.now)) job.lines.items z.1.replies.items lane next
          (subst (λ b. CommandsDone rack area (choices_by (FnReturnsAt closure job.chooser.now)) job.lines.items z.1.replies.items b lane next) z.3 did.done))

      pub later : AreasLater area.faults pool new
      later = areas_come_back rack area Do pool numbers jobs new done d

      -- ---- a pool of a known state

      abbrev Tells : State → LaneCommands F → LaneCommands F → Store → List Hold → Store → Type 0
      Tells x job end old holds store = job.chooser.now ≡ chooser → Says x choices (commands_of_job job) old holds (replies_of_job end) store

      abbrev Rests : LaneCommands F → Type 0
      Rests job = HasScrub job.lines.items

      tell : (x : State) → length x.metaslabs ≡ x.geometry.props.metaslabs → JobsTell rack area (Tells x) Rests Do x
      tell x many_x job lane end next did y stands none =
          leads_as rack area x lane next _ _
          (λ holds store l. ((λ rests same. subst (λ (c : F). Says x (choices_by (FnReturnsAt closure c)) (commands_of_job job) y.store holds (replies_of_job end) store) same (l.0 rests)), l.1))
          (commands_lead rack area x (choices_by (FnReturnsAt closure job.chooser.now)) many_x job.lines.items end.replies.items end.stopped lane next did.whole_before did.given did.done y stands none)

      stood : (x : State) → Represents rack area pool x → SectionStood rack area (Tells x) x jobs.items done.items new
      stood x r =
          section_stood rack area Need Do pool whole numbers al jobs (may_all lanes may numbers each rack area closure sync is_sync pool whole unpointed chooser chooser_is jobs are) (keeps lanes may numbers each rack area closure sync is_sync pool whole unpointed chooser chooser_is jobs are) d.locks d.firsts d.locked d.groups d.alone
          d.owns d.dealt new.uber new.metaslabs.shards.items d.owns' done d.ran x r (Tells x) Rests (tell x r.stands.many) many new d.geometry refl refl d.takes new_whole

      pub runs : (x : State) → Represents rack area pool x → RunsSection rack area choices x (lanes_in lanes.items) (replies_in (map told_of done.items)) new
      runs x r =
          let s = stood x r in
          let one = same_commands chooser lanes.items jobs.items are.many are.each in
          let two = same_replies done.items in
          record {
            reached = s.reached;
            section = subst (λ (cs : List (List Command)). Section x choices cs (replies_in (map told_of done.items)) s.reached) one (subst (λ (rs : List (List Reply)). Section x choices (map commands_of_job jobs.items) rs s.reached) two
                (section_is x choices (Tells x) commands_of_job replies_of_job rack area jobs.items done.items new
                (λ i job end old holds store there said. said (job_of lanes may numbers each rack area closure sync is_sync pool whole unpointed chooser chooser_is jobs are i job there).2.chooser_is)
                (subst NoClash (sym one) may.apart) s));
            represents = s.represents;
          }

      -- ---- a pool of no known state

      teach : JobsTeach LearnsJob Do
      teach job lane end next did rest known knows =
          all_taught rack area (choices_by (FnReturnsAt closure job.chooser.now)) (owned_by lane.metaslabs.passes.items) rest job.lines.items end.replies.items end.stopped lane next refl did.done did.fits known knows

      pub teaches : (known : Known) → KnowsPointers pool known → LanesTeach (lanes_in lanes.items) (replies_in (map told_of done.items)) known new
      teaches known knows =
          let t = section_taught rack area Need Do pool whole numbers al jobs (may_all lanes may numbers each rack area closure sync is_sync pool whole unpointed chooser chooser_is jobs are) (keeps lanes may numbers each rack area closure sync is_sync pool whole unpointed chooser chooser_is jobs are) d.locks d.firsts d.locked d.groups d.alone
          d.owns d.dealt new.uber new.metaslabs.shards.items d.owns' done d.ran many LearnsJob teach new d.takes known knows in
          let one = same_commands chooser lanes.items jobs.items are.many are.each in
          let two = same_replies done.items in
          record {
            later = t.later;
            learn = subst (λ (cs : List (List Command)). LanesLearn cs (replies_in (map told_of done.items)) known t.later) one (subst (λ (rs : List (List Reply)). LanesLearn (map commands_of_job jobs.items) rs known t.later) two (learn_all jobs.items done.items known t.later t.learn));
            fits = t.fits;
          }
