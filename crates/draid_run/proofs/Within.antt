-- Lines inside a section, and its end.
use Rattle.std.proofs.Common.{arith, refl, sym, subst, ap, ◌≡◌, ◌∙◌, ◌≤◌, inl, inr, ℕ, zero, suc, List, Bool, true, false, [], ◌∷◌, ◌++◌, Option, Some, None, Result, Ok, Err, Vec, Global, length, map, flat_map, replicate, slice_index_or, slice_set}
use Rattle.std.specs.Prelude.{IfErr, IfOk, max, if◌then◌else◌}
use Rattle.std.specs.List.{list_any}
use Rattle.draid_names.specs.declared.journal.Entry.{Entry}
use Rattle.draid_names.specs.declared.room.Room.{Room}
use Rattle.draid_rack.specs.declared.Rack as racks
use Rattle.draid_area.specs.declared.Area as areas
use Rattle.draid_script.proofs.Read.{lane_inv}
use Rattle.draid_script.specs.Grammar.{lane_of, line_of}
use Rattle.draid_script.specs.Line.{Command, FillObjects, FreeObject, InLane, IsInRange, LaneCommand, OpenLanes, ReadObject, RebuildPool, ScrubPool, SectionEnd, SilentLane, SumObjects, SyncPool, TakeOffline, TakeOnline, WriteObject, most_lanes}
use Rattle.draid_script.specs.Writing.{IsForLanes}
use Rattle.draid_script.specs.declared.fault.LineFault.{LineFault}
use Rattle.draid_script.specs.declared.line.Line.{Line}
use Rattle.draid_script.specs.declared.name.CommandName.{CommandName}
use Rattle.draid_script.specs.declared.name.CommandName.TheVariants as name
use Rattle.draid_reply.specs.Reply.{text_of}
use Rattle.draid_reply.specs.declared.reply.Reply.{Reply}
use Rattle.draid_session.specs.Choices.{Choices, choices_by, choices_with}
use Rattle.draid_session.specs.Lanes as lanes
use Rattle.draid_session.specs.Lanes.{Section, Together}
use Rattle.draid_session.specs.Holds.{Hold}
use Rattle.draid_session.specs.Looks.{AllOf}
use Rattle.draid_session.specs.Places.{Ended, Inside, Outside, Place, asked_inside, line_at, opened_lanes, with_command}
use Rattle.draid_session.specs.Said.{Said}
use Rattle.draid_session.specs.Sections.{LaneTurns, OutsideTurns, SectionTurns}
use Rattle.draid_session.specs.Session.{Desk, Untouched, Bare, Made, Open, Shut, Foreign, Unknown, sits}
use Rattle.draid_session.specs.State.{State, Store}
use Rattle.draid_session.proofs.Lanewise.{all_both, all_set}
use Rattle.draid_pool.specs.Shelves.{OnShelf}
use Rattle.draid_pool.specs.declared.pool.Pool.{Pool}
use Rattle.draid_run.specs.Crashes.{LeavesFirm}
use Rattle.draid_run.specs.Desks.{IsDesk, asked_in}
use Rattle.draid_run.specs.Script.{MayEndAt}
use Rattle.draid_clashes.specs.Lanes.{lanes_in}
use Rattle.draid_run.specs.Sections.{AreLanes, IsOfLane, RanIs, SectionIs, place_in, place_next, place_of, saids_of}
use Rattle.draid_run.specs.Serve.{LineIs, Placed, Printed, done_of, opened_by}
use Rattle.draid_print.specs.Printing.{PrintIs}
use Rattle.draid_run.specs.Shelves.{MayFind}
use Rattle.draid_print.specs.declared.printing.LaneReplies.{LaneReplies}
use Rattle.draid_exits.specs.declared.status.Status.{Status}
use Rattle.draid_exits.specs.declared.status.Status.TheVariants as status_is
use Rattle.draid_exits.specs.declared.status.Status.TheVariants.{Done, Usage, SourceFault, SinkFault, NoMemory, TooLong, ShelfFault, Record}
use Rattle.draid_run.proofs.Deciding.{with_spare}
use Rattle.draid_run.proofs.Exits.{printed_alone}
use Rattle.draid_print.proofs.Appending.{appends_none}
use Rattle.draid_run.proofs.Lining.{lanes_many}

-- ---- the lines of a section

-- what a line of a lane may be
asks_lane : (count lane : ℕ) (text : List ℕ) (command : Command) → lane_of count text ≡ Ok (InLane lane command) → IsForLanes command
asks_lane count lane text command gives = (let read = lane_inv count text (InLane lane command) gives in read.5)

new_lanes : (n : ℕ) → AllOf (AllOf IsOfLane) (replicate n [])
new_lanes zero = tt
new_lanes (suc n) = (tt, new_lanes n)

many_new : (n : ℕ) → length (replicate {A = List Command} n []) ≡ n
many_new zero = refl
many_new (suc n) = (let rest = many_new n in omega (arith, rest))

pub opens_lanes : (lanes : List (Vec Line Global)) (n : ℕ) → 1 ≤ n → n ≤ most_lanes → lanes_in lanes ≡ replicate n [] → AreLanes lanes
opens_lanes lanes n some few are =
    let many : length lanes ≡ n = sym (lanes_many lanes) ∙ ap (λ ls. length ls) are ∙ many_new n in
    record { some = omega (arith, some, many); few = subst (λ m. m ≤ most_lanes) (sym many) few; each = subst (AllOf (AllOf IsOfLane)) (sym are) (new_lanes n) }

at_lane : (lanes : List (List Command)) (lane : ℕ) → AllOf (AllOf IsOfLane) lanes → AllOf IsOfLane (slice_index_or lanes lane [])
at_lane [] lane all = tt
at_lane (l ∷ lanes) zero all = all.0
at_lane (l ∷ lanes) (suc lane) all = at_lane lanes lane all.1

many_set : {T : Type 0} (xs : List T) (i : ℕ) (x : T) → length (slice_set xs i x) ≡ length xs
many_set [] i x = refl
many_set (y ∷ xs) zero x = refl
many_set (y ∷ xs) (suc i) x = (let rest = many_set xs i x in omega (arith, rest))

pub keeps_lanes : (old new : List (Vec Line Global)) (count lane : ℕ) (text : List ℕ) (command : Command) → lane_of count text ≡ Ok (InLane lane command) → IsInRange command → lanes_in new ≡ with_command lane command (lanes_in old) → AreLanes old → AreLanes new
keeps_lanes old new count lane text command gives range are was =
    let many : length new ≡ length old = sym (lanes_many new) ∙ ap (λ ls. length ls) are ∙ many_set (lanes_in old) lane (slice_index_or (lanes_in old) lane [] ++ command ∷ []) ∙ lanes_many old in
    let some = was.some in
    record {
      some = omega (arith, some, many);
      few = subst (λ m. m ≤ most_lanes) (sym many) was.few;
      each = subst (AllOf (AllOf IsOfLane)) (sym are) (all_set (AllOf IsOfLane) (lanes_in old) lane (slice_index_or (lanes_in old) lane [] ++ command ∷ []) was.each
          (all_both IsOfLane (slice_index_or (lanes_in old) lane []) (command ∷ []) (at_lane (lanes_in old) lane was.each) ((asks_lane count lane text command gives, range), tt)));
    }

pub lanes_plain : (lanes : List (List Command)) → AllOf (AllOf IsOfLane) lanes → AllOf (AllOf IsForLanes) lanes
lanes_plain [] all = tt
lanes_plain (lane ∷ lanes) all = (plain lane all.0, lanes_plain lanes all.1)
  where
    plain : (lane : List Command) → AllOf IsOfLane lane → AllOf IsForLanes lane
    plain [] all = tt
    plain (command ∷ lane) all = (all.0.0, plain lane all.1)

module _ {R A : Type 0} (rack : racks.Ghosts R) (area : areas.Ghosts A) (choices : Choices) (past : List Entry) (lanes : List (List Command)) (number : ℕ) (text : List ℕ) (entry now : OnShelf) (pool : Option (Pool R A)) (x : Desk) where
  -- a line that isn't the end is kept
  pub line_kept : (line : LaneCommand) (to : Place) (held : Option (List ℕ)) → lane_of (length lanes) text ≡ Ok line → LaneTurns choices (Ok line) x lanes [] x to → (to ≡ Ended → ⊥) → IsDesk rack area entry now pool x
      → Printed rack area choices past past (Inside lanes) text entry now pool x now pool held held to
  line_kept line to held read turns more desk = record {
    saids = [];
    placed = record { new = x; desk = desk; turns = (subst (λ l. LaneTurns choices l x lanes [] x to) (sym read) turns, refl); stopped = λ e. absurd (more e) };
    firm = tt;
    prints = appends_none held;
  }

  -- ---- its end

  module _ (pool' : Option (Pool R A)) (held held' : Option (List ℕ)) (end : lane_of (length lanes) text ≡ Ok SectionEnd) where
    placed_end : (result : Result (Vec LaneReplies Global) Reply) → SectionIs rack area choices lanes entry now x pool' result → Placed rack area choices past past (Inside lanes) text entry x (saids_of result) now pool' (place_of result)
    placed_end result it = record {
      new = it.new;
      desk = it.desk;
      turns = (subst (λ l. LaneTurns choices l x lanes (saids_of result) it.new (place_of result)) (sym end) it.turns, refl);
      stopped = it.stopped;
    }

    -- one reply
    pub end_alone : (reply : Reply) (result : Result Unit Status) → SectionIs rack area choices lanes entry now x pool' (Err reply) → PrintIs (text_of reply) held held' result
        → LineIs rack area choices past past (Inside lanes) number text entry now pool x now pool' held held' Outside result
    end_alone reply result it prints =
        printed_alone rack area choices past past (Inside lanes) number text entry now pool x now pool' reply held held' (placed_end (Err reply) it) tt result prints

    may_sink : (b : Bool) → MayEndAt (if b then Ended else Outside) SinkFault None
    may_sink true = tt
    may_sink false = tt

    may_want : (b : Bool) → MayEndAt (if b then Ended else Outside) NoMemory None
    may_want true = tt
    may_want false = tt

    -- those of the lanes
    pub end_ran : (ran : Vec LaneReplies Global) (result : Result Unit Status) → SectionIs rack area choices lanes entry now x pool' (Ok ran) → RanIs ran.items held held' result
        → LineIs rack area choices past past (Inside lanes) number text entry now pool x now pool' held held' Outside result
    end_ran ran (Ok done) it prints = record {
      saids = saids_of (Ok ran);
      placed = subst (λ b. Placed rack area choices past past (Inside lanes) text entry x (saids_of (Ok ran)) now pool' (if b then Ended else Outside)) prints.1 (placed_end (Ok ran) it);
      firm = tt;
      prints = prints.0;
    }
    end_ran ran (Err ShelfFault) it prints = inr (record {
      saids = saids_of (Ok ran);
      placed = subst (λ b. Placed rack area choices past past (Inside lanes) text entry x (saids_of (Ok ran)) now pool' (if b then Ended else Outside)) prints.1 (placed_end (Ok ran) it);
      firm = tt;
      prints = prints.0;
    })
    end_ran ran (Err SinkFault) it (part, said, rest, mid, are, whole, some) = record {
      part = part;
      said = said;
      rest = rest;
      mid = mid;
      to = place_of (Ok ran);
      ends = may_sink (list_any (λ (lane : LaneReplies). lane.stopped) ran.items);
      placed = subst (λ saids. Placed rack area choices past past (Inside lanes) text entry x saids now pool' (place_of (Ok ran))) are (placed_end (Ok ran) it);
      firm = tt;
      whole = whole;
      prints = some;
    }
    end_ran ran (Err NoMemory) it (part, said, rest, are, whole) = inr (record {
      part = part;
      said = said;
      rest = rest;
      to = place_of (Ok ran);
      ends = may_want (list_any (λ (lane : LaneReplies). lane.stopped) ran.items);
      placed = subst (λ saids. Placed rack area choices past past (Inside lanes) text entry x saids now pool' (place_of (Ok ran))) are (placed_end (Ok ran) it);
      firm = tt;
      prints = whole;
    })
    end_ran ran (Err Done) it prints = absurd prints
    end_ran ran (Err Usage) it prints = absurd prints
    end_ran ran (Err (status_is.Line line why at)) it prints = absurd prints
    end_ran ran (Err SourceFault) it prints = absurd prints
    end_ran ran (Err (TooLong line)) it prints = absurd prints
    end_ran ran (Err (Record which place kind)) it prints = absurd prints

-- ---- a section opens

pub opened_is : (command : Command) (count : ℕ) → opened_by command ≡ Some count → command ≡ OpenLanes count
opened_is (OpenLanes n) count is = cc is
opened_is command count is = cc is

pub in_range : (command : Command) (count : ℕ) → opened_by command ≡ Some count → IsInRange command → (1 ≤ count) × (count ≤ most_lanes)
in_range command count is range = subst IsInRange (opened_is command count is) range

pub goes_on : (next : Option (Vec (Vec Line Global) Global)) → place_in next ≡ Ended → ⊥
goes_on None is = cc is
goes_on (Some lanes) is = cc is

module _ {R A : Type 0} (rack : racks.Ghosts R) (area : areas.Ghosts A) (choices : Choices) (past : List Entry) (number : ℕ) (text : List ℕ) (entry now : OnShelf) (pool : Option (Pool R A)) (x : Desk) (held : Option (List ℕ)) (count : ℕ) (asked : line_of text ≡ Ok (OpenLanes count)) where
  pub line_opened : (result : Result (Option (Vec (Vec Line Global) Global)) Status) → IfOk result (λ next. place_in next ≡ opened_lanes count) → IfErr result (λ status. status ≡ NoMemory) → IsDesk rack area entry now pool x
      → LineIs rack area choices past past Outside number text entry now pool x now pool held held (place_next result) (done_of result)
  line_opened (Ok next) opened refused desk = record {
    saids = [];
    placed = record { new = x; desk = desk; turns = subst (λ l. OutsideTurns choices (MayFind rack area entry) l (sits x past) [] (sits x past) (place_in next)) (sym asked) (refl, refl, opened); stopped = λ e. absurd (goes_on next e) };
    firm = subst (λ l. LeavesFirm l [] now pool now pool) (sym asked) tt;
    prints = appends_none held;
  }
  line_opened (Err status) opened refused desk = subst (λ s. LineIs rack area choices past past Outside number text entry now pool x now pool held held Outside (Err s)) (sym refused) (inl (refl, refl, refl))

-- ---- whatever the policy of spares is

lane_asked : (command : Command) → IsForLanes command → (called : CommandName) × (asked_in command ≡ Some called)
lane_asked SyncPool is = (name.Sync, refl)
lane_asked (WriteObject object bytes) is = (name.Write, refl)
lane_asked (FillObjects first count len seed) is = (name.Fill, refl)
lane_asked (ReadObject object) is = (name.Read, refl)
lane_asked (FreeObject object) is = (name.Free, refl)
lane_asked (SumObjects first count) is = (name.Sum, refl)
lane_asked (TakeOffline leaf) is = (name.Offline, refl)
lane_asked (TakeOnline leaf) is = (name.Online, refl)
lane_asked (RebuildPool limit) is = (name.Rebuild, refl)
lane_asked (ScrubPool limit) is = (name.Scrub, refl)
lane_asked command is = absurd is

module _ (room : List Room → Option ℕ → Type 0) (spare : ℕ → ℕ → List ℕ → Option ℕ → Type 0) (x : State) where
  abbrev By : Choices
  By = choices_by room

  abbrev With : Choices
  With = choices_with room spare

  says_with : (commands : List Command) (old : Store) (holds : List Hold) (replies : List Reply) (new : Store) → AllOf IsForLanes commands → lanes.Says x By commands old holds replies new → lanes.Says x With commands old holds replies new
  says_with [] old holds [] new all says = says
  says_with [] old holds (reply ∷ replies) new all says = absurd says
  says_with (command ∷ commands) old holds [] new all says = says
  says_with (command ∷ commands) old holds (reply ∷ replies) new all (front, back, left, mid, are, leaves, does, rest) =
      let asked = lane_asked command all.0 in
      (front, back, left, mid, are, leaves, with_spare room spare x.geometry x.perms command asked.0 asked.1 old left reply mid does, says_with commands mid back replies new all.1 rest)

  abbrev lane_with : lanes.Lane x By → lanes.Lane x With
  lane_with lane = record { holds = lane.holds; store = lane.store; own = lane.own }

  holds_with : (all : List (lanes.Lane x By)) → map (λ (lane : lanes.Lane x With). lane.holds) (map lane_with all) ≡ map (λ (lane : lanes.Lane x By). lane.holds) all
  holds_with [] = refl
  holds_with (lane ∷ all) = ap (λ rest. lane.holds ∷ rest) (holds_with all)

  own_with : (all : List (lanes.Lane x By)) → flat_map (λ (lane : lanes.Lane x With). lane.own) (map lane_with all) ≡ flat_map (λ (lane : lanes.Lane x By). lane.own) all
  own_with [] = refl
  own_with (lane ∷ all) = ap (λ rest. lane.own ++ rest) (own_with all)

  greatest_with : (f : Store → ℕ) (all : List (lanes.Lane x By)) → lanes.greatest x With f (map lane_with all) ≡ lanes.greatest x By f all
  greatest_with f [] = refl
  greatest_with f (lane ∷ all) = ap (λ n. max (f lane.store) n) (greatest_with f all)

  store_with : (all : List (lanes.Lane x By)) → lanes.store_of x With (map lane_with all) ≡ lanes.store_of x By all
  store_with all = λ i. record {
    changes = own_with all i ++ x.store.changes;
    marks = x.store.marks;
    seq = greatest_with (λ (s : Store). s.seq) all i;
    floor = greatest_with (λ (s : Store). s.floor) all i;
  }

  ran_with : (all : List (lanes.Lane x By)) (commands : List (List Command)) (replies : List (List Reply)) → AllOf (AllOf IsForLanes) commands → lanes.LanesRan x By all commands replies → lanes.LanesRan x With (map lane_with all) commands replies
  ran_with [] [] [] plain ran = tt
  ran_with [] [] (r ∷ rs) plain ran = absurd ran
  ran_with [] (c ∷ cs) rs plain ran = absurd ran
  ran_with (lane ∷ all) [] rs plain ran = absurd ran
  ran_with (lane ∷ all) (c ∷ cs) [] plain ran = absurd ran
  ran_with (lane ∷ all) (c ∷ cs) (r ∷ rs) plain ran = (record { says = says_with c x.store lane.holds r lane.store plain.0 ran.0.says; changes = ran.0.changes }, ran_with all cs rs plain.1 ran.1)

  section_with : (commands : List (List Command)) (replies : List (List Reply)) (new : State) → AllOf (AllOf IsForLanes) commands → Section x By commands replies new → Section x With commands replies new
  section_with commands replies new plain s = record {
    lanes = map lane_with s.lanes;
    unpointed = s.unpointed;
    apart = s.apart;
    ran = ran_with s.lanes commands replies plain s.ran;
    together = subst (λ holds. Together holds x new) (sym (holds_with s.lanes)) s.together;
    made = s.made ∙ sym (store_with s.lanes);
    steps = s.steps;
    switches = s.switches;
  }

module _ (room : List Room → Option ℕ → Type 0) (spare : ℕ → ℕ → List ℕ → Option ℕ → Type 0) where
  turns_with : (old new : Desk) (commands : List (List Command)) (saids : List Said) (to : Place) → AllOf (AllOf IsForLanes) commands → SectionTurns (choices_by room) old commands saids new to → SectionTurns (choices_with room spare) old commands saids new to
  turns_with (Open x) new commands saids to plain (inl said) = inl said
  turns_with (Open x) new commands saids to plain (inr (none, inl refused)) = inr (none, inl refused)
  turns_with (Open x) new commands saids to plain (inr (none, inr (replies, are, apart, mends, behind, (state, section, is)))) =
      inr (none, inr (replies, are, apart, mends, behind, (state, section_with room spare x commands replies state plain section, is)))
  turns_with (Foreign known) new commands saids to plain t = t
  turns_with Untouched new commands saids to plain t = t
  turns_with Bare new commands saids to plain t = t
  turns_with (Made told failed geometry) new commands saids to plain t = t
  turns_with (Shut crash x) new commands saids to plain t = t
  turns_with Unknown new commands saids to plain t = t

  inside_with : (line : Result LaneCommand LineFault) (old new : Desk) (commands : List (List Command)) (saids : List Said) (to : Place) → AllOf (AllOf IsForLanes) commands → LaneTurns (choices_by room) line old commands saids new to
      → LaneTurns (choices_with room spare) line old commands saids new to
  inside_with (Err fault) old new commands saids to plain t = absurd t
  inside_with (Ok SilentLane) old new commands saids to plain t = t
  inside_with (Ok (InLane lane command)) old new commands saids to plain t = t
  inside_with (Ok SectionEnd) old new commands saids to plain t = turns_with old new commands saids to plain t

  module _ {R A : Type 0} (rack : racks.Ghosts R) (area : areas.Ghosts A) (past after : List Entry) (lanes : List (List Command)) (plain : AllOf (AllOf IsForLanes) lanes) (number : ℕ) (text : List ℕ) (entry before : OnShelf) (pool : Option (Pool R A)) (x : Desk) (now : OnShelf) (pool' : Option (Pool R A)) (held held' : Option (List ℕ)) where
    placed_with : (saids : List Said) (to : Place) → Placed rack area (choices_by room) past after (Inside lanes) text entry x saids now pool' to → Placed rack area (choices_with room spare) past after (Inside lanes) text entry x saids now pool' to
    placed_with saids to p = record { new = p.new; desk = p.desk; turns = (inside_with (lane_of (length lanes) text) x p.new lanes saids to plain p.turns.0, p.turns.1); stopped = p.stopped }

    printed_with : (to : Place) → Printed rack area (choices_by room) past after (Inside lanes) text entry before pool x now pool' held held' to → Printed rack area (choices_with room spare) past after (Inside lanes) text entry before pool x now pool' held held' to
    printed_with to p = record { saids = p.saids; placed = placed_with p.saids to p.placed; firm = p.firm; prints = p.prints }

    pub line_with : (to : Place) (result : Result Unit Status) → LineIs rack area (choices_by room) past after (Inside lanes) number text entry before pool x now pool' held held' to result
        → LineIs rack area (choices_with room spare) past after (Inside lanes) number text entry before pool x now pool' held held' to result
    line_with to (Ok done) it = printed_with to it
    line_with to (Err SinkFault) it = record { part = it.part; said = it.said; rest = it.rest; mid = it.mid; to = it.to; ends = it.ends; placed = placed_with (it.part ++ it.said ∷ it.rest) it.to it.placed; firm = it.firm; whole = it.whole; prints = it.prints }
    line_with to (Err ShelfFault) (inl it) = inl it
    line_with to (Err ShelfFault) (inr it) = inr (printed_with Ended it)
    line_with to (Err (Record which place kind)) it = it
    line_with to (Err (status_is.Line line why at)) it = it
    line_with to (Err NoMemory) (inl it) = inl it
    line_with to (Err NoMemory) (inr it) =
        inr (record { part = it.part; said = it.said; rest = it.rest; to = it.to; ends = it.ends; placed = placed_with (it.part ++ it.said ∷ it.rest) it.to it.placed; firm = it.firm; prints = it.prints })
    line_with to (Err Done) it = it
    line_with to (Err Usage) it = it
    line_with to (Err SourceFault) it = it
    line_with to (Err (TooLong line)) it = it
