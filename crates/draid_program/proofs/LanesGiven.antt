-- What the jobs of a section's lanes are given.
use Rattle.std.proofs.Common.{◌≡◌, ◌∙◌, ◌∷◌, ◌≤◌, inl, inr, arith, ℕ, zero, suc, Bool, true, List, [], Option, Some, length, refl, sym, ap, subst, None}
use Rattle.std.specs.Prelude.{slice_get, vec_capacity}
use Rattle.std.specs.Borrow.{Bor}
use Rattle.std.specs.Fn.{FnReturnsAt, Shared}
use Rattle.std.specs.declared.vec.Vec.{Vec}
use Rattle.std.specs.declared.alloc.Global.{Global}
use Rattle.std.proofs.lemmas.Option.{slice_get_within}
use Rattle.draid_names.specs.declared.room.Room.{Room}
use Rattle.draid_choose.specs.Rooms.{IsChooser}
use Rattle.draid_rack.specs.declared.Rack as racks
use Rattle.draid_area.specs.declared.Area as areas
use Rattle.draid_script.specs.Line.{Command, SyncPool, WriteObject, FillObjects, ReadObject, FreeObject, SumObjects, TakeOffline, TakeOnline, RebuildPool, ScrubPool, command_in}
use Rattle.draid_script.specs.Writing.{IsForLanes}
use Rattle.draid_script.specs.declared.line.Line.{Line}
use Rattle.draid_session.specs.Choices.{choices_by}
use Rattle.draid_session.specs.Looks.{AllOf}
use Rattle.draid_spec.specs.Geometry.{IsGeometry}
use Rattle.draid_turn.specs.Numbers.{holds}
use Rattle.draid_turn.specs.declared.span.Span.{Span}
use Rattle.draid_pool.specs.Drifts.{passes_number}
use Rattle.draid_pool.specs.Whole.{IsWhole}
use Rattle.draid_pool.specs.declared.pool.Pool.{Pool}
use Rattle.draid_lanes.specs.Locks.{owned_by}
use Rattle.draid_lanes.specs.declared.lane.Lane.{Lane}
use Rattle.draid_tables.specs.Lists.{AreAllInRange, ListsEach, Wants, commands_of}
use Rattle.draid_tables.proofs.Listing.{get_map, present}
use Rattle.draid_section.specs.Running.{KeepLanes}
use Rattle.draid_section.specs.Section.{MayRunAll, BeginsLane}
use Rattle.draid_works.specs.Job.{DoesCommands, MayAllBeGiven, MayBeGiven, MayDoCommands}
use Rattle.draid_works.specs.Job as works
use Rattle.draid_works.specs.declared.job.LaneCommands.{LaneCommands}
use Rattle.draid_program.specs.Jobs.{AreJobsOf, IsJobOf}
use Rattle.draid_clashes.specs.Lanes.{lanes_in}
use Rattle.draid_run.specs.Sections.{IsOfLane, MayRunLanes}
use Rattle.draid_uber.specs.Uber.{point_of}

pub all_at : {X : Type 0} (P : X → Type 0) (xs : List X) (i : ℕ) (x : X) → AllOf P xs → slice_get xs i ≡ Some x → P x
all_at P [] i x all there = absurd (cc)
all_at P (y ∷ xs) zero x all there = (let same : y ≡ x = cc in subst P same all.0)
all_at P (y ∷ xs) (suc i) x all there = all_at P xs i x all.1 there

-- a lane that owns what a command wants may be given the command
of_lane : (owns : ℕ → Bool) (command : Command) → ((n : ℕ) → Wants command n → owns n ≡ true) → IsForLanes command → works.IsOfLane owns command
of_lane owns SyncPool own may = tt
of_lane owns (WriteObject object bytes) own may = own object (inl (omega arith, omega arith))
of_lane owns (FillObjects first count len seed) own may = λ o low high. own o (inl (low, high))
of_lane owns (ReadObject object) own may = own object (inl (omega arith, omega arith))
of_lane owns (FreeObject object) own may = own object (inl (omega arith, omega arith))
of_lane owns (SumObjects first count) own may = λ o low high. own o (inl (low, high))
of_lane owns (TakeOffline leaf) own may = tt
of_lane owns (TakeOnline leaf) own may = tt
of_lane owns (RebuildPool limit) own may = own passes_number (inr (tt, refl))
of_lane owns (ScrubPool limit) own may = own passes_number (inr (tt, refl))
of_lane owns command own may = absurd may

module _ (lanes : Vec (Vec Line Global) Global) (may : MayRunLanes (lanes_in lanes.items)) where
  -- a line of a lane is one that lanes may have
  line_of_lane : (i k : ℕ) (lines : Vec Line Global) (line : Line) → slice_get lanes.items i ≡ Some lines → slice_get lines.items k ≡ Some line → IsOfLane (command_in line)
  line_of_lane i k lines line there at =
      all_at IsOfLane (commands_of lines.items) k (command_in line)
      (all_at (AllOf IsOfLane) (lanes_in lanes.items) i (commands_of lines.items) may.each (get_map (λ (ls : Vec Line Global). commands_of ls.items) lanes.items i lines there)) (get_map command_in lines.items k line at)

  pub in_range : AreAllInRange lanes.items
  in_range i lines there k line at = (line_of_lane i k lines line there at).1

  module _ (numbers : List (Vec Span Global)) (each : ListsEach lanes.items numbers) where
    given : (i : ℕ) (lines : Vec Line Global) (list : Vec Span Global) (owns : ℕ → Bool) → slice_get lanes.items i ≡ Some lines → slice_get numbers i ≡ Some list → ((n : ℕ) → owns n ≡ holds n list.items) → MayAllBeGiven owns lines.items
    given i lines list owns there list_is same k line at =
        let is = line_of_lane i k lines line there at in
        record {
          of_lane = of_lane owns (command_in line)
              (λ n wants. same n ∙ (each.each i lines list there list_is n).1 (inr (record { k = k; command = command_in line; in_it = get_map command_in lines.items k line at; wants = wants }))) is.0;
          range = is.1;
        }

    module _ {R A F : Type 0} (rack : racks.Ghosts R) (area : areas.Ghosts A) (closure : Shared F (Bor (List Room) × Unit {0}) (Option ℕ)) (sync : Type 0) (is_sync : sync) (pool : Pool R A) (whole : IsWhole rack area pool) (unpointed : (point_of pool.uber).group ≡ None) (chooser : F) (chooser_is : IsChooser closure chooser)
        (jobs : Vec (LaneCommands F) Global) (are : AreJobsOf chooser lanes.items jobs.items) where
      -- the lines of a job
      pub job_of : (i : ℕ) (job : LaneCommands F) → slice_get jobs.items i ≡ Some job → (lines : Vec Line Global) × (slice_get lanes.items i ≡ Some lines) × IsJobOf chooser lines job
      job_of i job there =
          let within = slice_get_within jobs.items i job there in
          let lines = present lanes.items i (let many = are.many in omega (arith, within, many)) in
          (lines.0, lines.1, are.each i lines.0 job lines.1 there)

      module _ {G W : Type 0} where
        abbrev pub Needs : LaneCommands F → Lane R A G W → Type 0
        Needs job lane = sync × MayDoCommands rack area closure job.chooser.now job.lines.items job.replies lane

        needed : (i : ℕ) (job : LaneCommands F) (lane : Lane R A G W) → BeginsLane rack area pool numbers jobs.items i job lane → Needs job lane
        needed i job lane begins =
            let z = job_of i job begins.job_is in
            let is = z.2 in (
              is_sync,
              record {
                chooser_is = subst (IsChooser closure) (sym is.chooser_is) chooser_is;
                whole = begins.whole;
                geometry_is = subst IsGeometry (sym begins.geometry) whole.layout.geometry_is;
                given = subst (λ (ls : Vec Line Global). MayAllBeGiven (owned_by lane.metaslabs.passes.items) ls.items) (sym is.lines_are) (given i z.0 begins.list (owned_by lane.metaslabs.passes.items) z.1 begins.list_is begins.owns);
                none = is.none;
                room = subst (λ (ls : Vec Line Global). length ls.items ≤ vec_capacity job.replies) (sym is.lines_are) is.room;
              },
            )

        pub may_all : MayRunAll {R = R} {A = A} {G = G} {W = W} rack area Needs pool numbers jobs.items
        may_all = record { unpointed = unpointed; each = needed }

        abbrev pub Does : LaneCommands F → Lane R A G W → LaneCommands F → Lane R A G W → Type 0
        Does job old done new = DoesCommands rack area (choices_by (FnReturnsAt closure job.chooser.now)) job.lines old done.lines done.replies.items done.stopped new

        pub keeps : KeepLanes {R = R} {A = A} {G = G} {W = W} rack area Needs Does
        keeps job lane done next needed does = record { whole = does.leaves.whole; same = does.leaves.same; numbers = does.leaves.numbers }
