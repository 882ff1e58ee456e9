-- A run ends for a failing shelf only where a count rose: no count falls from the entry on, where no pool is made.
use Rattle.std.proofs.Common.{◌≡◌, ◌≤◌, ◌-◌, ◌^◌, ◌∙◌, min, inl, inr, arith, refl, sym, ap, subst, ℕ, Bool, true, false, List, [], ◌∷◌, ◌++◌, Option, Some, None, Result, Ok, Err, length}
use Rattle.std.specs.Prelude.{⊤, is_some, slice_get}
use Rattle.draid_rack.specs.Rack.{Shape}
use Rattle.draid_rack.specs.declared.Rack as racks
use Rattle.draid_area.specs.declared.Area as areas
use Rattle.draid_spec.specs.declared.layout.Geometry.{Geometry}
use Rattle.draid_lines.specs.Lines.{lines_of}
use Rattle.draid_machine.proofs.Small.{some_injective}
use Rattle.draid_script.specs.Grammar.{line_of}
use Rattle.draid_script.specs.Line.{Command, CreatePool, ImportPool, Silent}
use Rattle.draid_script.specs.declared.fault.LineFault.{LineFault}
use Rattle.draid_script.specs.declared.name.CommandName.TheVariants as name
use Rattle.draid_segments.specs.Segments.{Pieces}
use Rattle.draid_reply.specs.declared.reply.Reply.{Reply}
use Rattle.draid_reply.specs.declared.reply.Reply.TheVariants.{Crashed, Exported, Imported, NoMemory, NoPool}
use Rattle.draid_shelf.specs.Kits.{Held, KitCounts}
use Rattle.draid_uber.specs.Uber.{kept_of, layout_of, next_leaf_of}
use Rattle.draid_uber.specs.declared.uber.Uber.{Uber}
use Rattle.draid_session.specs.Choices.{Choices}
use Rattle.draid_session.specs.Places.{Ended, Inside, Outside, Place, line_at, line_behind}
use Rattle.draid_session.specs.Sections.{RunsOn}
use Rattle.draid_session.specs.Looks.{AllOf}
use Rattle.draid_session.specs.Opening.{Finds, Imports}
use Rattle.draid_session.specs.Said.{Said}
use Rattle.draid_session.specs.Session.{Agrees, Bare, Breaks, CarriesOut, Desk, Finding, FindsGiven, FindsGivenIf, FindsNew, FindsNewIf, FindsNoGroup, Foreign, ImportTurns, IsStill, KnowsShelf, LeavesState, Made, Open, ReplyTurns, ShelfFails, Shut, ShutTurns, Sitting, TurnsBy, Unknown, Untouched, desk_behind, left_of, sits}
use Rattle.draid_session.specs.State.{Metaslab, State}
use Rattle.draid_session.specs.Staying.{IsNoCreate, MakesNoPool, MakesNoPoolIn}
use Rattle.draid_session.proofs.Lists.{all_back, all_front}
use Rattle.draid_session.proofs.Shelved.{found_there, low_there}
use Rattle.draid_pool.specs.Returning.{own_count}
use Rattle.draid_pool.specs.Shelves.{OnShelf}
use Rattle.draid_pool.specs.Taking.{HoldsMade}
use Rattle.draid_import.specs.Found.{HasRisen, IsFoundUber, IsRecovered}
use Rattle.draid_import.specs.Importing.{RestsThere}
use Rattle.draid_import.proofs.ImportMade.{made_not}
use Rattle.draid_import.proofs.ImportPool.{body_found}
use Rattle.draid_run.specs.Script.{BreaksOff, Ends, Fails, FailsShut, LaneFails, MayEndAt, Prints, RunsFrom}
use Rattle.draid_run.specs.Shelves.{AreaRose, FailsIn, HoldsDesk, HoldsNew, HoldsShut, MayFind, RackRose}
use Rattle.draid_run.specs.Unfailing.{NothingRose}
use Rattle.draid_exits.specs.declared.status.Status.{Status}
use Rattle.draid_exits.specs.declared.status.Status.TheVariants.{ShelfFault}
use Rattle.draid_run.proofs.Broke.{IsLater, follows_later, later_more, later_none}
use Rattle.draid_run.proofs.GivenBack.{new_count}
use Rattle.draid_run.proofs.Importings.{new_held, resting}
use Rattle.draid_run.proofs.Places.{before_last, led_on}
use Rattle.draid_run.proofs.Sectioned.{on_keeps, section_later}

-- ---- counts since the entry

-- no count of a metaslab is below that at the entry
record IsAbove (entry : OnShelf) (m : ℕ) (y : Metaslab) : Type 0 where
  pub even : (entry.counts m).even ≤ y.counts.even
  pub odd : (entry.counts m).odd ≤ y.counts.odd
  pub rack : (entry.counts m).rack None ≤ y.counts.rack None

record AreAbove (entry : OnShelf) (x : State) : Type 0 where
  pub each : (m : ℕ) (y : Metaslab) → slice_get x.metaslabs m ≡ Some y → IsAbove entry m y
  pub uber : min (own_count entry.own) (2 ^ 64 - 1) ≤ x.uber_count

-- so on a desk: a pool, the devices of a new one, or none
abbrev IsUp : OnShelf → Desk → Type 0
IsUp entry Bare = ⊤
IsUp entry (Made told failed geometry) = own_count entry.own ≤ failed
IsUp entry (Open x) = AreAbove entry x
IsUp entry (Shut crash x) = AreAbove entry x
IsUp entry desk = ⊥

above_later : (entry : OnShelf) (x z : State) → IsLater x z → AreAbove entry x → AreAbove entry z
above_later entry x z later up = record { each = each; uber = (let was = up.uber in let more = later.uber in omega (arith, was, more)) }
  where
    each : (m : ℕ) (y : Metaslab) → slice_get z.metaslabs m ≡ Some y → IsAbove entry m y
    each m y there =
        let came = later.each m y there in
        let was = up.each m came.y came.there in
        let even = was.even in
        let more_even = came.even in
        let odd = was.odd in
        let more_odd = came.odd in
        let rack = was.rack in
        let more_rack = came.rack in
        record { even = omega (arith, even, more_even); odd = omega (arith, odd, more_odd); rack = omega (arith, rack, more_rack) }

found_later : (x mid : State) (group : ℕ) → Finds x group mid → IsLater x mid
found_later x mid group f = record {
  each = λ k z there. (let one = found_there x mid group f k z there in record { y = one.0; there = one.1; even = one.2.counts.even; odd = one.2.counts.odd; rack = one.2.counts.rack });
  uber = (let more = f.counts in omega (arith, more));
}

imports_later : (x new : State) (group : ℕ) → Imports x group new → IsLater x new
imports_later x new group i = later_more x i.mid new (found_later x i.mid group i.finds) (follows_later i.holds i.mid new i.follows)

still_later : (x y : State) → IsStill x y → IsLater x y
still_later x y s = subst (IsLater x) (sym s.same) (record { each = (later_none x).each; uber = (let more = s.later in omega (arith, more)) })

none_later : (x y : State) → FindsNoGroup x y → IsLater x y
none_later x y n = later_more x (record x { pending = false }) y (record { each = (later_none x).each; uber = omega arith }) (still_later (record x { pending = false }) y n.is)

leaves_later : (x y : State) → LeavesState x y → IsLater x y
leaves_later x y (inl s) = still_later x y s
leaves_later x y (inr found) = found_later x y found.0 found.1

-- ---- one line

behind_up : (entry : OnShelf) (reply : Reply) (x : State) → AreAbove entry x → IsUp entry (desk_behind reply x)
behind_up entry (Exported group) x up = up
behind_up entry Crashed x up = up
behind_up entry reply x up = up

given_up : (entry : OnShelf) (x : State) (reply : Reply) (new : Desk) → AreAbove entry x → FindsGiven x reply new → IsUp entry new
given_up entry x (Imported called group many) (Open new) up it = above_later entry x new (imports_later x new group it.0) up
given_up entry x (NoPool name.Import) (Shut true new) up it = above_later entry x new (none_later x new it) up
given_up entry x (NoMemory name.Import) (Shut true new) up it = above_later entry x new (leaves_later x new it) up
given_up entry x (NoMemory name.Import) (Shut false new) up it = above_later entry x new (imports_later x new it.0 it.1) up
given_up entry x reply new up it = absurd it

new_up : (entry : OnShelf) (failed : ℕ) (geometry : Geometry) (reply : Reply) (new : Desk) → own_count entry.own ≤ failed → FindsNew failed geometry reply new → IsUp entry new
new_up entry failed geometry (NoPool name.Import) new up it = subst (IsUp entry) (sym it.2) (let more = it.1 in omega (arith, up, more))
new_up entry failed geometry (NoMemory name.Import) new up it = subst (IsUp entry) (sym it.2) (let more = it.1 in omega (arith, up, more))
new_up entry failed geometry reply new up it = absurd it

module _ (choices : Choices) (finds : Finding → Type 0) (entry : OnShelf) where
  import_up : (old new : Desk) (reply : Reply) → IsUp entry old → Agrees true old → ImportTurns finds old reply new → IsUp entry new
  import_up Untouched new reply up agrees it = absurd up
  import_up Bare new reply up agrees it = subst (IsUp entry) (sym it.1) tt
  import_up (Made told failed geometry) new reply up agrees it = new_up entry failed geometry reply new up (subst (λ b. FindsNewIf b failed geometry reply new) agrees it)
  import_up (Open x) new reply up agrees it = absurd it
  import_up (Shut crash x) new reply up agrees it = given_up entry x reply new up (subst (λ b. FindsGivenIf b x reply new) agrees it)
  import_up (Foreign known) new reply up agrees it = absurd up
  import_up Unknown new reply up agrees it = absurd up

  shut_up : (old new : Desk) (command : Command) (reply : Reply) → IsNoCreate command → IsUp entry old → Agrees true old → ShutTurns finds old command reply new → IsUp entry new
  shut_up old new (CreatePool text children keys) reply none up agrees it = absurd none
  shut_up old new ImportPool reply none up agrees it = import_up old new reply up agrees it
  shut_up old new command reply none up agrees it = subst (IsUp entry) (sym it.3) up

  carried_up : (old state : State) (command : Command) (reply : Reply) → CarriesOut choices command reply old state → AreAbove entry old → AreAbove entry state
  carried_up old state command reply it up =
      let mid = above_later entry old it.mid (follows_later it.holds old it.mid it.follows) up in
      subst (AreAbove entry) (sym it.made) (record { each = mid.each; uber = mid.uber })

  reply_up : (old new : Desk) (command : Command) (reply : Reply) → IsNoCreate command → IsUp entry old → Agrees true old → ReplyTurns choices finds old command reply new → IsUp entry new
  reply_up Untouched new command reply none up agrees it = absurd up
  reply_up Bare new command reply none up agrees it = shut_up Bare new command reply none up agrees it
  reply_up (Made told failed geometry) new command reply none up agrees it = shut_up (Made told failed geometry) new command reply none up agrees it
  reply_up (Open x) new command reply none up agrees it = subst (IsUp entry) (sym it.2) (behind_up entry reply it.0 (carried_up x it.0 command reply it.1 up))
  reply_up (Shut crash x) new command reply none up agrees it = shut_up (Shut crash x) new command reply none up agrees it
  reply_up (Foreign known) new command reply none up agrees it = absurd up
  reply_up Unknown new command reply none up agrees it = absurd up

  line_up : (line : Result Command LineFault) (old new : Desk) (saids : List Said) → MakesNoPoolIn line → IsUp entry old → Agrees true old → TurnsBy choices finds line old saids new → IsUp entry new
  line_up (Err fault) old new saids none up agrees it = absurd it
  line_up (Ok Silent) old new [] none up agrees it = subst (IsUp entry) (sym it) up
  line_up (Ok Silent) old new (said ∷ more) none up agrees it = absurd it
  line_up (Ok command) old new [] none up agrees it = absurd it
  line_up (Ok command) old new (said ∷ []) none up agrees it = reply_up old new command said.reply none up agrees it.1
  line_up (Ok command) old new (said ∷ other ∷ more) none up agrees it = absurd it

  run_up : (from : Place) (lines : List (List ℕ)) (replies : List (List Said)) (to : Place) (old new : Sitting) → AllOf MakesNoPool lines → IsUp entry old.desk → Agrees true old.desk → RunsOn choices finds true from old lines replies to new
      → IsUp entry new.desk × Agrees true new.desk
  run_up from lines replies to old new none up agrees runs =
      on_keeps choices finds true (λ desk. IsUp entry desk × Agrees true desk) MakesNoPool
      (λ line a b saids makes turns told p. (line_up (line_of line) a.desk b.desk saids makes p.0 p.1 turns.0, told))
      (λ x y lanes said section p. (above_later entry x y (section_later x choices lanes said y section) p.0, sym section.together.rest.told ∙ p.1))
      (λ known later p. absurd p.0)
      from lines replies to old new none runs (up, agrees)

-- ---- the entry

first_up : (first : Desk) (entry : OnShelf) → HoldsDesk first entry entry → KnowsShelf first → IsUp entry first
first_up Untouched entry holds known = absurd known
first_up Bare entry holds known = tt
first_up (Made told failed geometry) entry holds known = (let is = new_count failed geometry entry holds.made in omega (arith, is))
first_up (Open x) entry holds known = absurd holds
first_up (Shut crash x) entry holds known = record { each = each; uber = (let is = holds.uber in omega (arith, is)) }
  where
    each : (m : ℕ) (y : Metaslab) → slice_get x.metaslabs m ≡ Some y → IsAbove entry m y
    each m y there =
        let same = holds.counts m y there in
        let even = same.even in
        let odd = same.odd in
        let rack = same.rack None in
        record { even = omega (arith, even); odd = omega (arith, odd); rack = omega (arith, rack) }
first_up (Foreign known) entry holds knows = absurd knows
first_up Unknown entry holds known = absurd known

first_agrees : (first : Desk) (entry : OnShelf) → HoldsDesk first entry entry → is_some entry.held ≡ true → Agrees true first
first_agrees Untouched entry holds tells = tt
first_agrees Bare entry holds tells = refl
first_agrees (Made told failed geometry) entry holds tells = holds.told_is ∙ tells
first_agrees (Open x) entry holds tells = absurd holds
first_agrees (Shut crash x) entry holds tells = holds.told ∙ tells
first_agrees (Foreign known) entry holds tells = absurd holds
first_agrees Unknown entry holds tells = tt

-- ---- where the run broke off

module _ (entry now : OnShelf) (none : NothingRose entry now) where
  -- a pool was open
  area_not : (x y : State) → AreAbove entry x → HoldsShut false y now → AreaRose x y → ⊥
  area_not x y up shut (inl (m, a, b, at, there, rose)) =
      let was = up.each m a at in
      let is = shut.counts m b there in
      elim rose [
        | inl more ↦ (let low = was.even in let same = is.even in none.even m (omega (arith, low, same, more)))
        | inr more ↦ (let low = was.odd in let same = is.odd in none.odd m (omega (arith, low, same, more)))
      ]
  area_not x y up shut (inr more) = (let low = up.uber in let same = shut.uber in none.uber (omega (arith, low, same, more)))

  rack_not : (x y : State) → AreAbove entry x → HoldsShut false y now → RackRose x y → ⊥
  rack_not x y up shut (m, a, b, at, there, more) =
      let low = (up.each m a at).rack in
      let same = (shut.counts m b there).rack None in
      none.racks m (omega (arith, low, same, more))

  -- a lane of a section was stopped
  lane_not : (old mid : Desk) → IsUp entry old → HoldsDesk (left_of mid) entry now → LaneFails entry now old mid → ⊥
  lane_not (Open x) (Open y) up holds fails = area_not x y up holds fails
  lane_not (Open x) Untouched up holds fails = fails
  lane_not (Open x) Bare up holds fails = fails
  lane_not (Open x) (Made told failed geometry) up holds fails = fails
  lane_not (Open x) (Shut crash y) up holds fails = fails
  lane_not (Open x) (Foreign known) up holds fails = fails
  lane_not (Open x) Unknown up holds fails = fails
  lane_not (Foreign known) mid up holds fails = up
  lane_not Untouched mid up holds fails = up
  lane_not Bare mid up holds fails = fails
  lane_not (Made told failed geometry) mid up holds fails = fails
  lane_not (Shut crash x) mid up holds fails = fails
  lane_not Unknown mid up holds fails = up

  -- a pool was imported that had been given back: the uberblock that was found names its metaslabs
  metaslabs_found : {A : Type 0} (area : areas.Ghosts A) (x : State) (pieces : ℕ → Pieces) (o : Option Held) (leaves : ℕ → Option Shape) (counts : ℕ → KitCounts) (count : ℕ) (uber : Uber A)
      → RestsThere x pieces o leaves counts count → IsFoundUber area uber → IsRecovered area o count uber → (layout_of uber).props.metaslabs ≡ length x.metaslabs
  metaslabs_found area x pieces None leaves counts count uber there found r = absurd there.held
  metaslabs_found area x pieces (Some held) leaves counts count uber there found r =
      ap (λ (g : Geometry). g.props.metaslabs) (body_found area x pieces held leaves counts count uber there found r).b.layout ∙ sym there.held.many

  shut_not : {A : Type 0} (area : areas.Ghosts A) (crash : Bool) (x : State) (before : OnShelf) → AreAbove entry x → x.told ≡ true → HoldsShut crash x before → entry.faults ≤ before.faults
      → HasRisen area before.held before.faults now.faults (own_count before.own) (own_count now.own) before.counts now.counts → ⊥
  shut_not area crash x before up told shut later (inl (inl more)) = none.shelf (omega (arith, later, more))
  shut_not area crash x before up told shut later (inl (inr more)) = (let low = up.uber in let same = shut.uber in none.uber (omega (arith, low, same, more)))
  shut_not area crash x before up told shut later (inr f) =
      let r = resting crash x before shut told in
      let many = metaslabs_found area x r.pieces before.held before.leaves before.counts (own_count before.own) f.uber r.rests f.found f.recovered in
      let less = f.rose.1 in
      let one = low_there x.metaslabs f.rose.0 (omega (arith, less, many)) in
      let was = up.each f.rose.0 one.0 one.1 in
      let is = shut.counts f.rose.0 one.0 one.1 in
      elim f.rose.2 [
        | inl more ↦ (let low = was.even in let same = is.even in none.even f.rose.0 (omega (arith, low, same, more)))
        | inr more ↦ (let low = was.odd in let same = is.odd in none.odd f.rose.0 (omega (arith, low, same, more)))
      ]

  -- a new pool was to be imported that was never opened: it has no uberblock
  made_unrisen : {A : Type 0} (area : areas.Ghosts A) (told : Bool) (failed : ℕ) (geometry : Geometry) (before : OnShelf) → own_count entry.own ≤ failed → told ≡ true → HoldsNew told failed geometry before
      → entry.faults ≤ before.faults → HasRisen area before.held before.faults now.faults (own_count before.own) (own_count now.own) before.counts now.counts → ⊥
  made_unrisen area told failed geometry before up agrees new later (inl (inl more)) = none.shelf (omega (arith, later, more))
  made_unrisen area told failed geometry before up agrees new later (inl (inr more)) = (let same = new_count failed geometry before new.made in none.uber (omega (arith, up, same, more)))
  made_unrisen area told failed geometry before up agrees new later (inr f) =
      made_not geometry before.held f.recovered.content (kept_of f.uber) (λ body. next_leaf_of f.uber ≡ body.next_leaf) f.recovered.own f.recovered.finds f.recovered.leaf
      (new_held before.held (HoldsMade geometry) (sym agrees ∙ new.told_is) new.made.held)

  -- no pool was open, and none is made
  command_not : {A : Type 0} (area : areas.Ghosts A) (command : Command) (before : OnShelf) → IsNoCreate command
      → (HasRisen area before.held before.faults now.faults (own_count before.own) (own_count now.own) before.counts now.counts → ⊥) → FailsIn area command before now → ⊥
  command_not area (CreatePool text children keys) before makes risen failed = makes
  command_not area ImportPool before makes risen failed = risen failed
  command_not area command before makes risen failed = failed

  -- there was no pool
  bare_not : (command : Command) (last : Desk) → IsNoCreate command → Breaks ShelfFails Bare command last → ⊥
  bare_not (CreatePool text children keys) last makes breaks = makes
  bare_not ImportPool last makes breaks = breaks
  bare_not command last makes breaks = breaks

  same_text : (text : List ℕ) (lines : List (List ℕ)) (command : Command) → MakesNoPoolIn (line_behind lines text) → line_behind lines text ≡ Ok command → IsNoCreate command
  same_text text lines command makes is = subst MakesNoPoolIn is makes

  module _ {A : Type 0} (area : areas.Ghosts A) (text : List ℕ) (lines : List (List ℕ)) (makes : MakesNoPoolIn (line_behind lines text)) where
    came_not : (mid : Desk) (f : FailsShut area (Some text) lines mid entry now)
        → (HasRisen area f.came.before.held f.came.before.faults now.faults (own_count f.came.before.own) (own_count now.own) f.came.before.counts now.counts → ⊥) → ⊥
    came_not mid f risen =
        let named : text ≡ f.came.text = some_injective text f.came.text f.came.is in
        command_not area f.came.command f.came.before (same_text f.came.text lines f.came.command (subst (λ t. MakesNoPoolIn (line_behind lines t)) named makes) f.came.line) risen f.failed

    none_fails : (saids : List Said) (mid last : Desk) → IsUp entry mid → Agrees true mid → HoldsDesk (left_of last) entry now → BreaksOff lines ShelfFault (Some text) saids mid last
        → Fails area (Some text) lines mid last entry now → ⊥
    none_fails saids Untouched last up agrees holds breaks fails = up
    none_fails saids Bare last up agrees holds breaks fails = bare_not breaks.command last (same_text text lines breaks.command makes breaks.line) breaks.breaks
    none_fails saids (Made told failed geometry) last up agrees holds breaks fails =
        came_not (Made told failed geometry) fails (made_unrisen area told failed geometry fails.came.before up agrees fails.came.held fails.came.later)
    none_fails saids (Open x) (Open y) up agrees holds breaks fails = elim fails [ inl areas ↦ area_not x y up holds areas | inr racks ↦ rack_not x y up holds racks.1 ]
    none_fails saids (Open x) last up agrees holds breaks fails = fails
    none_fails saids (Shut crash x) last up agrees holds breaks fails =
        came_not (Shut crash x) fails (shut_not area crash x fails.came.before up agrees fails.came.held fails.came.later)
    none_fails saids (Foreign known) last up agrees holds breaks fails = up
    none_fails saids Unknown last up agrees holds breaks fails = up

-- ---- the run

pub meant_shelf : (status ended : Status) (text : List ℕ) (old new : Option (List ℕ)) → Prints status ended text old new → status ≡ ShelfFault → ended ≡ ShelfFault
meant_shelf status ended text old new prints is = sym (subst (λ s. Prints s ended text old new) is prints).0

pub unfailing : {R A : Type 0} (rack : racks.Ghosts R) (area : areas.Ghosts A) (choices : Choices) (words : List (List ℕ)) (status : Status) (input : List ℕ) (old new : Option (List ℕ)) (entry now : OnShelf) (first : Desk)
    → RunsFrom rack area choices words status (Some input) old new entry now first → HoldsDesk first entry entry → is_some entry.held ≡ true → KnowsShelf first → AllOf MakesNoPool (lines_of input)
    → NothingRose entry now → status ≡ ShelfFault → ⊥
unfailing rack area choices words status input old new entry now first it at tells known makes none is =
    by it.session.to it.session.broken refl refl (subst (λ e. MayEndAt it.session.to e it.session.broken) ended it.session.may) (subst (λ e. Ends e it.session.broken it.session.lines input) ended it.session.ends)
    (subst (λ e. BreaksOff it.session.lines e it.session.broken it.session.saids it.session.mid it.last) ended it.session.breaks)
  where
    ended : it.session.ended ≡ ShelfFault
    ended = meant_shelf status it.session.ended _ it.script.prints.between new it.script.prints.last is

    told_runs : RunsOn choices (MayFind rack area entry) true Outside (sits first []) it.session.lines it.session.replies it.session.to (sits it.session.mid it.session.journal)
    told_runs = subst (λ t. RunsOn choices (MayFind rack area entry) t Outside (sits first []) it.session.lines it.session.replies it.session.to (sits it.session.mid it.session.journal)) tells it.session.runs

    -- a lane was stopped
    stopped_not : (rest : List (List ℕ)) → lines_of input ≡ it.session.lines ++ rest → it.session.to ≡ Ended → BreaksOff it.session.lines ShelfFault None it.session.saids it.session.mid it.last → ⊥
    stopped_not rest is at_end breaks =
        let s = it.stopped at_end in
        let all : AllOf MakesNoPool it.session.lines = all_front MakesNoPool it.session.lines rest (subst (AllOf MakesNoPool) is makes) in
        let before = before_last choices (MayFind rack area entry) (is_some entry.held) Outside (sits first []) it.session.lines it.session.replies it.session.to (sits it.session.mid it.session.journal) it.session.runs (Inside s.lanes) s.old s.line s.saids s.step in
        let front : AllOf MakesNoPool before.front = all_front MakesNoPool before.front (s.line ∷ []) (subst (AllOf MakesNoPool) before.lines_are all) in
        let behind = run_up choices (MayFind rack area entry) entry Outside before.front before.said (Inside s.lanes) (sits first []) s.old front (first_up first entry at known) (first_agrees first entry at tells)
        (subst (λ t. RunsOn choices (MayFind rack area entry) t Outside (sits first []) before.front before.said (Inside s.lanes) s.old) tells before.runs) in
        lane_not entry now none s.old.desk it.session.mid behind.0 (subst (λ d. HoldsDesk (left_of d) entry now) breaks.1 it.shelf) s.failed

    by : (to : Place) (broken : Option (List ℕ)) → it.session.to ≡ to → it.session.broken ≡ broken → MayEndAt it.session.to ShelfFault it.session.broken → Ends ShelfFault it.session.broken it.session.lines input
        → BreaksOff it.session.lines ShelfFault it.session.broken it.session.saids it.session.mid it.last → ⊥
    by Outside None there same may ends breaks = subst (λ p. MayEndAt p ShelfFault None) there (subst (MayEndAt it.session.to ShelfFault) same may)
    by Outside (Some text) there same may ends breaks = broke text there same (subst (λ b. Ends ShelfFault b it.session.lines input) same ends) (subst (λ b. BreaksOff it.session.lines ShelfFault b it.session.saids it.session.mid it.last) same breaks)
      where
        broke : (text : List ℕ) → it.session.to ≡ Outside → it.session.broken ≡ Some text → Ends ShelfFault (Some text) it.session.lines input → BreaksOff it.session.lines ShelfFault (Some text) it.session.saids it.session.mid it.last → ⊥
        broke text there same ends breaks =
            let all : AllOf MakesNoPool (it.session.lines ++ (text ∷ ends.0)) = subst (AllOf MakesNoPool) ends.1 makes in
            let behind = run_up choices (MayFind rack area entry) entry Outside it.session.lines it.session.replies it.session.to (sits first []) (sits it.session.mid it.session.journal) (all_front MakesNoPool it.session.lines (text ∷ ends.0) all)
            (first_up first entry at known) (first_agrees first entry at tells) told_runs in
            let led = led_on choices (MayFind rack area entry) true Outside (sits first []) it.session.lines it.session.replies it.session.to (sits it.session.mid it.session.journal) (λ e. (let f = sym there ∙ e in cc f)) told_runs in
            let asked : line_of text ≡ line_behind it.session.lines text = ap (λ p. line_at p text) (sym there ∙ led) in
            none_fails entry now none area text it.session.lines (subst MakesNoPoolIn asked (all_back MakesNoPool it.session.lines (text ∷ ends.0) all).0) it.session.saids it.session.mid it.last behind.0 behind.1 it.shelf breaks
            (subst (λ b. Fails area b it.session.lines it.session.mid it.last entry now) same (it.failed ended there))
    by (Inside lanes) None there same may ends breaks = subst (λ p. MayEndAt p ShelfFault None) there (subst (MayEndAt it.session.to ShelfFault) same may)
    by (Inside lanes) (Some text) there same may ends breaks = subst (λ p. MayEndAt p ShelfFault (Some text)) there (subst (MayEndAt it.session.to ShelfFault) same may)
    by Ended None there same may ends breaks =
        let e = subst (λ b. Ends ShelfFault b it.session.lines input) same ends in
        stopped_not e.0 e.1 there (subst (λ b. BreaksOff it.session.lines ShelfFault b it.session.saids it.session.mid it.last) same breaks)
    by Ended (Some text) there same may ends breaks = subst (λ p. MayEndAt p ShelfFault (Some text)) there (subst (MayEndAt it.session.to ShelfFault) same may)
