-- A run that has ended: what was served, and then the last line.
use Rattle.std.proofs.Common.{refl, sym, subst, ◌≡◌, ◌∙◌, ◌⊎◌, inl, inr, ℕ, List, [], ◌∷◌, Option, Some, None, MatchOption}
use Rattle.std.specs.Prelude.{⊤}
use Rattle.std.proofs.lemmas.List.{append-nil}
use Rattle.draid_record.specs.declared.fault.RecordFaultKind.{RecordFaultKind}
use Rattle.draid_rack.specs.declared.Rack as racks
use Rattle.draid_area.specs.declared.Area as areas
use Rattle.draid_lines.specs.Lines.{lines_of}
use Rattle.draid_session.specs.Said.{Said}
use Rattle.draid_session.specs.Choices.{Choices}
use Rattle.draid_session.specs.Places.{Ended, Inside, Outside, Place}
use Rattle.draid_session.specs.Session.{Desk, Untouched, Bare, Made, Open, Shut, Foreign, Unknown, left_of}
use Rattle.draid_pool.specs.declared.pool.Pool.{Pool}
use Rattle.draid_exits.specs.declared.status.RecordName.{RecordName}
use Rattle.draid_run.specs.Desks.{IsDesk, LeavesDesk}
use Rattle.draid_words.specs.Mode.{asked}
use Rattle.draid_run.specs.Script.{all_replies, BreaksOff, Ends, EndsWithLine, Fails, FailsShut, GetsReplies, IsSession, LaneFails, MayEndAt, Prints, RunsFrom, Shows}
use Rattle.draid_run.specs.Serve.{LaneStopped, Served}
use Rattle.draid_pool.specs.Shelves.{OnShelf}
use Rattle.draid_run.specs.Shelves.{AreaRose, DeviceFailed, HasFailed, HasFault, HoldsDesk, IsClosed, MakesLeavesAt, MakesLeavesBy, MayMakeLeaves, RackFailedOn, RackRose, TellsAsBefore}
use Rattle.draid_exits.specs.Status.{HasNumber, last_text}
use Rattle.draid_exits.specs.declared.status.Status.{Status}
use Rattle.draid_exits.specs.declared.status.Status.TheVariants.{Done, Usage, Line, SourceFault, SinkFault, NoMemory, TooLong, ShelfFault, Record}
use Rattle.draid_run.proofs.Broke.{broken_rose}
use Rattle.draid_run.proofs.Crashing.{firm_left}
use Rattle.draid_print.proofs.Appending.{appends_none}

-- ---- the last line

-- a run that ended at a number may as well have ended for want of memory
ends_short : (ended : Status) (broken : Option (List ℕ)) (saids : List Said) (mid last : Desk) (lines : List (List ℕ)) (input : List ℕ) → HasNumber ended → BreaksOff lines ended broken saids mid last → Ends ended broken lines input
    → Ends NoMemory broken lines input
ends_short (Line line kind at) None saids mid last lines input number breaks ends = elim ends.0 [ inl bad ↦ (bad.0 ∷ bad.1, bad.2) | inr inside ↦ ([], inside.0 ∙ sym (append-nil lines)) ]
ends_short (Line line kind at) (Some text) saids mid last lines input number breaks ends = absurd breaks
ends_short (TooLong line) None saids mid last lines input number breaks ends = (lines_of ends.0, ends.1)
ends_short (TooLong line) (Some text) saids mid last lines input number breaks ends = absurd breaks
ends_short (Record which place kind) None saids mid last lines input number breaks ends = absurd breaks
ends_short (Record which place kind) (Some text) saids mid last lines input number breaks ends = ends
ends_short Done broken saids mid last lines input number breaks ends = absurd number
ends_short Usage broken saids mid last lines input number breaks ends = absurd number
ends_short SourceFault broken saids mid last lines input number breaks ends = absurd number
ends_short SinkFault broken saids mid last lines input number breaks ends = absurd number
ends_short NoMemory broken saids mid last lines input number breaks ends = absurd number
ends_short ShelfFault broken saids mid last lines input number breaks ends = absurd number

ends_known : (ended : Status) (broken : Option (List ℕ)) (saids : List Said) (mid last : Desk) (lines : List (List ℕ)) (input : Option (List ℕ)) → HasNumber ended → BreaksOff lines ended broken saids mid last
    → MatchOption input ⊤ (Ends ended broken lines) → MatchOption input ⊤ (Ends NoMemory broken lines)
ends_known ended broken saids mid last lines None number breaks ends = tt
ends_known ended broken saids mid last lines (Some bytes) number breaks ends = ends_short ended broken saids mid last lines bytes number breaks ends

breaks_short : (lines : List (List ℕ)) (ended : Status) (broken : Option (List ℕ)) (saids : List Said) (mid last : Desk) → HasNumber ended → BreaksOff lines ended broken saids mid last → BreaksOff lines NoMemory broken saids mid last
breaks_short lines (Line line kind at) None saids mid last number breaks = breaks
breaks_short lines (Line line kind at) (Some text) saids mid last number breaks = absurd breaks
breaks_short lines (TooLong line) None saids mid last number breaks = breaks
breaks_short lines (TooLong line) (Some text) saids mid last number breaks = absurd breaks
breaks_short lines (Record which place kind) None saids mid last number breaks = absurd breaks
breaks_short lines (Record which place kind) (Some text) saids mid last number breaks = breaks
breaks_short lines Done broken saids mid last number breaks = absurd number
breaks_short lines Usage broken saids mid last number breaks = absurd number
breaks_short lines SourceFault broken saids mid last number breaks = absurd number
breaks_short lines SinkFault broken saids mid last number breaks = absurd number
breaks_short lines NoMemory broken saids mid last number breaks = absurd number
breaks_short lines ShelfFault broken saids mid last number breaks = absurd number

may_short : (to : Place) (ended : Status) (broken : Option (List ℕ)) → HasNumber ended → MayEndAt to ended broken → MayEndAt to NoMemory broken
may_short Outside ended broken number may = tt
may_short (Inside lanes) (Line line kind at) None number may = tt
may_short (Inside lanes) (Line line kind at) (Some text) number may = absurd may
may_short (Inside lanes) (TooLong line) None number may = tt
may_short (Inside lanes) (TooLong line) (Some text) number may = absurd may
may_short (Inside lanes) (Record which place kind) None number may = tt
may_short (Inside lanes) (Record which place kind) (Some text) number may = absurd may
may_short Ended (Line line kind at) broken number may = absurd may
may_short Ended (TooLong line) broken number may = absurd may
may_short Ended (Record which place kind) broken number may = absurd may
may_short to Done broken number may = absurd number
may_short to Usage broken number may = absurd number
may_short to SourceFault broken number may = absurd number
may_short to SinkFault broken number may = absurd number
may_short to NoMemory broken number may = absurd number
may_short to ShelfFault broken number may = absurd number

-- where a lane was stopped, the run ends at the desk behind that
last_same : (ended : Status) (broken : Option (List ℕ)) (lines : List (List ℕ)) (saids : List Said) (mid last : Desk) → MayEndAt Ended ended broken → BreaksOff lines ended broken saids mid last → last ≡ mid
last_same ShelfFault None lines saids mid last may breaks = breaks.1
last_same SinkFault None lines saids mid last may breaks = breaks.1
last_same NoMemory None lines saids mid last may breaks = breaks.1
last_same ShelfFault (Some text) lines saids mid last may breaks = absurd may
last_same SinkFault (Some text) lines saids mid last may breaks = absurd may
last_same NoMemory (Some text) lines saids mid last may breaks = absurd may
last_same Done broken lines saids mid last may breaks = absurd may
last_same Usage broken lines saids mid last may breaks = absurd may
last_same (Line line kind at) broken lines saids mid last may breaks = absurd may
last_same SourceFault broken lines saids mid last may breaks = absurd may
last_same (TooLong line) broken lines saids mid last may breaks = absurd may
last_same (Record which place kind) broken lines saids mid last may breaks = absurd may

-- what stopped it shows on the shelf
lane_left : {R A : Type 0} (area : areas.Ghosts A) (entry before now : OnShelf) (pool : Option (Pool R A)) (old mid : Desk) → (HasFault area entry before pool mid → HasFailed entry now) → LaneStopped area pool old mid → LaneFails entry now old mid
lane_left area entry before now pool (Open x) (Open y) shows stopped = stopped
lane_left area entry before now pool (Foreign known) (Foreign later) shows stopped = shows stopped
lane_left area entry before now pool (Open x) Untouched shows stopped = absurd stopped
lane_left area entry before now pool (Open x) Bare shows stopped = absurd stopped
lane_left area entry before now pool (Open x) (Made told n geometry) shows stopped = absurd stopped
lane_left area entry before now pool (Open x) (Shut crash y) shows stopped = absurd stopped
lane_left area entry before now pool (Open x) (Foreign known) shows stopped = absurd stopped
lane_left area entry before now pool (Open x) Unknown shows stopped = absurd stopped
lane_left area entry before now pool (Foreign known) Untouched shows stopped = absurd stopped
lane_left area entry before now pool (Foreign known) Bare shows stopped = absurd stopped
lane_left area entry before now pool (Foreign known) (Made told n geometry) shows stopped = absurd stopped
lane_left area entry before now pool (Foreign known) (Open y) shows stopped = absurd stopped
lane_left area entry before now pool (Foreign known) (Shut crash y) shows stopped = absurd stopped
lane_left area entry before now pool (Foreign known) Unknown shows stopped = absurd stopped
lane_left area entry before now pool Untouched mid shows stopped = absurd stopped
lane_left area entry before now pool Bare mid shows stopped = absurd stopped
lane_left area entry before now pool (Made told n geometry) mid shows stopped = absurd stopped
lane_left area entry before now pool (Shut crash x) mid shows stopped = absurd stopped
lane_left area entry before now pool Unknown mid shows stopped = absurd stopped

shows_short : (ended : Status) (replies : List (List Said)) (shown : List Said) → HasNumber ended → Shows ended replies shown → Shows NoMemory replies shown
shows_short (Line line kind at) replies shown number shows = inl shows
shows_short (TooLong line) replies shown number shows = inl shows
shows_short (Record which place kind) replies shown number shows = inl shows
shows_short Done replies shown number shows = absurd number
shows_short Usage replies shown number shows = absurd number
shows_short SourceFault replies shown number shows = absurd number
shows_short SinkFault replies shown number shows = absurd number
shows_short NoMemory replies shown number shows = absurd number
shows_short ShelfFault replies shown number shows = absurd number

gets_short : (ended : Status) (shown : List Said) (old new : Option (List ℕ)) → HasNumber ended → GetsReplies ended shown old new → GetsReplies NoMemory shown old new
gets_short (Line line kind at) shown old new number gets = gets
gets_short (TooLong line) shown old new number gets = gets
gets_short (Record which place kind) shown old new number gets = gets
gets_short Done shown old new number gets = absurd number
gets_short Usage shown old new number gets = absurd number
gets_short SourceFault shown old new number gets = absurd number
gets_short SinkFault shown old new number gets = absurd number
gets_short NoMemory shown old new number gets = absurd number
gets_short ShelfFault shown old new number gets = absurd number

-- what failed, by what was open
shelf_fails : {A : Type 0} (area : areas.Ghosts A) (broken : Option (List ℕ)) (lines : List (List ℕ)) (saids : List Said) (mid last : Desk) (entry now : OnShelf) → MayEndAt Outside ShelfFault broken → BreaksOff lines ShelfFault broken saids mid last
    → (IsClosed mid → FailsShut area broken lines mid entry now) → HasFailed entry now ⊎ (MakesLeavesAt lines broken × RackFailedOn now) → Fails area broken lines mid last entry now
shelf_fails area None lines saids mid last entry now may breaks shut failed = absurd may
shelf_fails area (Some text) lines saids Untouched last entry now may breaks shut failed = shut tt
shelf_fails area (Some text) lines saids Bare last entry now may breaks shut failed = shut tt
shelf_fails area (Some text) lines saids (Made told n geometry) last entry now may breaks shut failed = shut tt
shelf_fails area (Some text) lines saids (Shut crash x) last entry now may breaks shut failed = shut tt
shelf_fails area (Some text) lines saids Unknown last entry now may breaks shut failed = shut tt
shelf_fails area (Some text) lines saids (Foreign known) last entry now may breaks shut failed = failed
shelf_fails area (Some text) lines saids (Open x) last entry now may breaks shut failed =
    let b = breaks.breaks in
    let it = b.2 in
    let rose = broken_rose x.geometry x.perms breaks.command x.store it.holds it.store x it.mid it.broken it.follows in
    subst (λ d. Fails area (Some text) lines (Open x) d entry now) (sym b.1) (subst (λ s. AreaRose x s ⊎ (MakesLeavesAt lines (Some text) × RackRose x s)) (sym it.made) (elim rose [
      | inl area ↦ inl area
      | inr whole ↦ inr (subst MakesLeavesBy (sym breaks.line) whole.0, whole.1)
    ]))

not_usage : NoMemory ≡ Usage → ⊥
not_usage e = cc e

not_fault : (meant : Status) → (meant ≡ Usage) ⊎ (meant ≡ NoMemory) → meant ≡ ShelfFault → ⊥
not_fault meant (inl usage) is = (let e = sym usage ∙ is in cc e)
not_fault meant (inr none) is = (let e = sym none ∙ is in cc e)

not_bad : (meant : Status) → (meant ≡ Usage) ⊎ (meant ≡ NoMemory) → (which : RecordName) (place : ℕ) (kind : RecordFaultKind) → meant ≡ Record which place kind → ⊥
not_bad meant (inl usage) which place kind is = (let e = sym usage ∙ is in cc e)
not_bad meant (inr none) which place kind is = (let e = sym none ∙ is in cc e)

-- a line of an input that makes leaves
may_make : (input : Option (List ℕ)) (broken : Option (List ℕ)) (lines : List (List ℕ)) → MatchOption input ⊤ (Ends ShelfFault broken lines) → MakesLeavesAt lines broken → MayMakeLeaves input
may_make None broken lines ends makes = tt
may_make (Some bytes) None lines ends makes = absurd makes
may_make (Some bytes) (Some text) lines ends makes = (lines, text, ends.0, ends.1, makes)

-- what has failed shows on the shelf
pub device_failed : {R A : Type 0} (rack : racks.Ghosts R) (area : areas.Ghosts A) (choices : Choices) (first : Desk) (ended : Status) (input start held : Option (List ℕ)) (entry before now : OnShelf) (pool : Option (Pool R A))
    → (is : Served rack area choices first ended input start held entry before pool) → LeavesDesk rack area entry before now pool is.last → ended ≡ ShelfFault → DeviceFailed input entry now
device_failed rack area choices first ended input start held entry before now pool is leaves e = elim (is.failed e) [
  | inl fault ↦ inl (leaves.failed fault)
  | inr whole ↦ inr (may_make input is.broken is.lines (subst (λ s. MatchOption input ⊤ (Ends s is.broken is.lines)) e is.ends) whole.0, leaves.racks whole.1)
]

module _ {R A : Type 0} (rack : racks.Ghosts R) (area : areas.Ghosts A) (choices : Choices) (first : Desk) where
  -- want of memory for the last line is as good an end as that line
  short_served : (ended : Status) (input start held : Option (List ℕ)) (entry now : OnShelf) (pool : Option (Pool R A)) → HasNumber ended → Served rack area choices first ended input start held entry now pool
      → Served rack area choices first NoMemory input start held entry now pool
  short_served ended input start held entry now pool number is = record {
    lines = is.lines;
    replies = is.replies;
    shown = is.shown;
    mid = is.mid;
    journal = is.journal;
    last = is.last;
    broken = is.broken;
    saids = is.saids;
    desk = is.desk;
    to = is.to;
    runs = is.runs;
    may = may_short is.to ended is.broken number is.may;
    stopped = is.stopped;
    breaks = breaks_short is.lines ended is.broken is.saids is.mid is.last number is.breaks;
    ends = ends_known ended is.broken is.saids is.mid is.last is.lines input number is.breaks is.ends;
    shows = shows_short ended (all_replies is.replies is.saids) is.shown number is.shows;
    prints = gets_short ended is.shown start held number is.prints;
    failed = λ e. absurd (cc e);
    since = λ e. absurd (cc e);
    bad = λ which place kind e. absurd (cc e);
    firm = is.firm;
  }

  -- what was served, as the run of these words
  run_of : (words : List (List ℕ)) (status ended : Status) (input start mid new : Option (List ℕ)) (entry before now : OnShelf) (pool : Option (Pool R A)) → (ended ≡ Usage → ⊥) → IsSession words
      → (is : Served rack area choices first ended input start mid entry before pool) → LeavesDesk rack area entry before now pool is.last → TellsAsBefore entry now
      → Prints status ended (last_text ended) mid new → RunsFrom rack area choices words status input start new entry now first
  run_of words status ended input start mid new entry before now pool other session is leaves tells line = record {
    last = is.last;
    session = record {
      lines = is.lines;
      replies = is.replies;
      shown = is.shown;
      ended = ended;
      mid = is.mid;
      journal = is.journal;
      broken = is.broken;
      saids = is.saids;
      to = is.to;
      runs = is.runs;
      may = is.may;
      breaks = is.breaks;
      ends = is.ends;
      shows = is.shows;
    };
    script = record {
      usage = λ e. absurd (other e);
      refused = λ wrong. absurd (wrong session);
      prints = record { between = mid; replies = is.prints; last = line };
    };
    shelf = leaves.shelf;
    tells = tells;
    firm = λ rest came. firm_left rack area is.last before now pool is.desk.stands leaves.same (is.firm rest came);
    failed = λ e outside. shelf_fails area is.broken is.lines is.saids is.mid is.last entry now (subst (λ s. MayEndAt Outside s is.broken) e (subst (λ p. MayEndAt p ended is.broken) outside is.may)) (subst (λ s. BreaksOff is.lines s is.broken is.saids is.mid is.last) e is.breaks)
        (λ closed. (let since = is.since e closed in subst (FailsShut area is.broken is.lines is.mid entry) (sym (leaves.same since.0)) since.1)) (elim (is.failed e) [ inl fault ↦ inl (leaves.failed fault) | inr whole ↦ inr (whole.0, leaves.racks whole.1) ]);
    stopped = λ e.
        (let it = is.stopped e in
        let same = last_same ended is.broken is.lines is.saids is.mid is.last (subst (λ p. MayEndAt p ended is.broken) e is.may) is.breaks in
        record {
          lanes = it.lanes;
          old = it.old;
          line = it.line;
          saids = it.saids;
          step = it.step;
          turns = it.turns;
          failed = lane_left area entry before now pool it.old.desk is.mid (λ fault. leaves.failed (subst (HasFault area entry before pool) (sym same) fault)) it.failed;
        });
    bad = is.bad;
  }

  -- a run of a session: what was served, the last line, and the pool on the shelf
  pub run_served : (words : List (List ℕ)) (status ended : Status) (input start mid new : Option (List ℕ)) (entry before now : OnShelf) (pool : Option (Pool R A)) → IsSession words → (ended ≡ Usage → ⊥)
      → Served rack area choices first ended input start mid entry before pool → EndsWithLine ended status mid new
      → ((x : Desk) → IsDesk rack area entry before pool x → LeavesDesk rack area entry before now pool x) → TellsAsBefore entry now
      → RunsFrom rack area choices words status input start new entry now first
  run_served words status ended input start mid new entry before now pool session other is line leaves tells = elim line.is [
    | inl same ↦
        let prints = subst (λ m. Prints status m (last_text m) mid new) same line.prints in
        run_of words status ended input start mid new entry before now pool other session is (leaves is.last is.desk) tells prints
    | inr none ↦
        let prints = subst (λ m. Prints status m (last_text m) mid new) none.0 line.prints in
        let short = short_served ended input start mid entry before pool none.1 is in
        run_of words status NoMemory input start mid new entry before now pool (λ e. absurd (not_usage e)) session short (leaves short.last short.desk) tells prints
  ]

module _ {R A : Type 0} (rack : racks.Ghosts R) (area : areas.Ghosts A) (choices : Choices) (words : List (List ℕ)) (status : Status) (input old new : Option (List ℕ)) (entry : OnShelf) (first : Desk) (at : HoldsDesk first entry entry) where
  -- a run that does nothing but print its last line
  run_of_none : (meant : Status) → MayEndAt Outside meant None → (meant ≡ Usage → asked words ≡ None) → (meant ≡ Usage) ⊎ (meant ≡ NoMemory) → ((known : Option (List ℕ)) → MatchOption known ⊤ (Ends meant None [])) → Shows meant [] []
      → BreaksOff [] meant None [] first first → GetsReplies meant [] old old → (HasNumber meant → ⊥) → EndsWithLine meant status old new → RunsFrom rack area choices words status input old new entry entry first
  run_of_none meant may wrong refused ends shows breaks gets plain line = elim line.is [
    | inl same ↦ record {
      last = first;
      session = record {
        lines = [];
        replies = [];
        shown = [];
        ended = meant;
        mid = first;
        journal = [];
        broken = None;
        saids = [];
        to = Outside;
        runs = (refl, refl);
        may = may;
        breaks = breaks;
        ends = ends input;
        shows = shows;
      };
      script = record {
        usage = wrong;
        refused = λ _. record { nothing = refl; cause = refused };
        prints = record { between = old; replies = gets; last = subst (λ m. Prints status m (last_text m) old new) same line.prints };
      };
      shelf = back first at;
      tells = refl;
      firm = λ rest came. absurd (cc came);
      failed = λ e. absurd (not_fault meant refused e);
      stopped = λ e. absurd (cc e);
      bad = λ which place kind e. absurd (not_bad meant refused which place kind e);
    }
    | inr none ↦ absurd (plain none.1)
  ]
    where
      back : (x : Desk) → HoldsDesk x entry entry → HoldsDesk (left_of x) entry entry
      back Untouched is = is
      back Bare is = is
      back (Made tells count geometry) is = is
      back (Shut crash x) is = is
      back Unknown is = is
      back (Open x) is = absurd is
      back (Foreign known) is = absurd is

  -- a run whose words aren't those of a session
  pub run_refused : asked words ≡ None → EndsWithLine Usage status old new → RunsFrom rack area choices words status input old new entry entry first
  run_refused wrong = run_of_none Usage tt (λ e. wrong) (inl refl) ends_nothing refl (refl, refl) (appends_none old) (λ number. number) where
    ends_nothing : (known : Option (List ℕ)) → MatchOption known ⊤ (Ends Usage None [])
    ends_nothing None = tt
    ends_nothing (Some bytes) = refl

  -- a run whose words can't be read for want of memory
  pub run_unread : EndsWithLine NoMemory status old new → RunsFrom rack area choices words status input old new entry entry first
  run_unread = run_of_none NoMemory tt (λ e. absurd (not_usage e)) (inr refl) ends_nothing (inl refl) (refl, refl) (appends_none old) (λ number. number) where
    ends_nothing : (known : Option (List ℕ)) → MatchOption known ⊤ (Ends NoMemory None [])
    ends_nothing None = tt
    ends_nothing (Some bytes) = (lines_of bytes, refl)
