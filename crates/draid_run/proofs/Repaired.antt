-- What the repair agent did: spares that came, a rebuild and a scrub, one behind the other.
use Rattle.std.proofs.Common.{arith, ◌≡◌, ◌≢◌, ◌+◌, ◌++◌, ◌∙◌, ℕ, Bool, true, false, List, [], Option, Some, None, Result, Ok, Err, OnOk, append_assoc, ap, inl, inr, length, refl, subst, sym, ◌≤◌, ◌∷◌, drop, IfOk, IsErr, Vec, Global, length-append, IsTrue, IsFalse}
use Rattle.std.specs.Prelude.{slice_get}
use Rattle.std.proofs.lemmas.List.{append-nil}
use Rattle.draid_names.specs.declared.fault.Failed.{Failed}
use Rattle.draid_names.specs.declared.journal.Entry.{Entry}
use Rattle.draid_names.specs.declared.pass_kind.PassKind.TheVariants.{Rebuild}
use Rattle.draid_machine.proofs.Small.{none_some}
use Rattle.draid_rack.specs.declared.Rack as racks
use Rattle.draid_area.specs.declared.Area as areas
use Rattle.draid_perm.specs.declared.perms.Perms.{Perms}
use Rattle.draid_spec.specs.declared.layout.Geometry.{Geometry}
use Rattle.draid_script.specs.Line.{RunAgent}
use Rattle.draid_script.specs.declared.name.CommandName.TheVariants as name
use Rattle.draid_reply.specs.declared.reply.AgentErrors.{AgentErrors}
use Rattle.draid_reply.specs.declared.reply.Reply.{Reply}
use Rattle.draid_reply.specs.declared.reply.Reply.TheVariants as replies
use Rattle.draid_session.specs.Agent as agent
use Rattle.draid_session.specs.Agent.{AreNumbered}
use Rattle.draid_session.specs.Replies.{IsReplyTo}
use Rattle.draid_session.specs.Holds.{Hold}
use Rattle.draid_session.specs.Passes as passes
use Rattle.draid_session.specs.Phases.{Broke, End, Starved, WasLast, WasWorn}
use Rattle.draid_session.specs.State.{State, Store}
use Rattle.draid_pool.specs.Carries.{CarriesOut}
use Rattle.draid_pool.specs.Pools.{Represents}
use Rattle.draid_pool.specs.declared.fault.SyncFault.{SyncFault}
use Rattle.draid_pool.specs.declared.fault.SyncFault.TheVariants as sync
use Rattle.draid_pool.specs.declared.pool.Pool.{Pool}
use Rattle.draid_pool.proofs.Steps.{carried, carries_so}
use Rattle.draid_changes.specs.Agent.{AddsEntries, most_slots, GiveDoes, GiveStarves, GiveStops}
use Rattle.draid_changes.specs.declared.agent.GiveFault.{GiveFault}
use Rattle.draid_changes.specs.declared.agent.GiveFault.TheVariants as fault
use Rattle.draid_visits.specs.Rebuilding.{RebuildDoes, RebuildIs, RunsWhere, ScrubDoes, ScrubIs, stopped_by}
use Rattle.draid_visits.specs.Visiting.{NoPasses}
use Rattle.draid_visits.specs.declared.rebuilding.MendFault.{MendFault}
use Rattle.draid_visits.specs.declared.rebuilding.MendFault.TheVariants as mending
use Rattle.draid_visits.specs.declared.rebuilding.Mended.{Mended}
use Rattle.draid_visits.proofs.Leading.{Steps, steps_as, steps_then}
use Rattle.draid_run.specs.Repairing.{AgentSays, IsAgentReply, NotesBehind, EndsBy, HealEnds, IsStop, RebuildEnds, RepairEnds, RepairHalts, RepairNotes, ScrubEnds}

-- ---- the passes of the pool

-- a pass without a limit leaves none
pub rebuilt_whole : {R A : Type 0} (it : Mended) (pool : Pool R A) → it.paused ≡ false → RunsWhere Rebuild it.paused pool → NoPasses pool
rebuilt_whole it pool whole behind = subst (λ b. RunsWhere Rebuild b pool) whole behind

-- nothing is in the way of one where there is none
pub no_scrub_there : {R A : Type 0} (why : MendFault) (old new : Pool R A) → NoPasses old → RebuildIs (Err why) old new → (metaslab number : ℕ) → why ≡ mending.PassThere metaslab number → ⊥
no_scrub_there {R} {A} why old new idle is metaslab number same =
    let found = subst (λ w. RebuildIs {R = R} {A = A} (Err w) old new) same is in
    none_some found.1.shard.pass found.1.has.pass (idle metaslab found.1.shard (subst (λ (q : Pool R A). slice_get q.metaslabs.shards.items metaslab ≡ Some found.1.shard) found.0 found.1.there)) found.1.has.has

pub scrub_stop : {R A : Type 0} (why : MendFault) (old new : Pool R A) → NoPasses old → ScrubIs (Err why) old new → IsStop why
scrub_stop mending.Nothing old new idle is = absurd is
scrub_stop {R} {A} (mending.PassThere metaslab number) old new idle is =
    absurd (none_some is.1.shard.pass is.1.has.pass (idle metaslab is.1.shard (subst (λ (q : Pool R A). slice_get q.metaslabs.shards.items metaslab ≡ Some is.1.shard) is.0 is.1.there)) is.1.has.has)
scrub_stop mending.Worn old new idle is = tt
scrub_stop mending.Last old new idle is = tt
scrub_stop mending.Shelf old new idle is = absurd is
scrub_stop mending.NoMemory old new idle is = tt

module _ {R A : Type 0} (rack : racks.Ghosts R) (area : areas.Ghosts A) where
  -- ---- a rebuild

  pub rebuild_ended : (old new : Pool R A) (it : Mended) → it.paused ≡ false → ((x : State) → Represents rack area old x → CarriesOut rack area new x (RebuildDoes x None (Ok it)))
      → Steps rack area old new (λ g p. RebuildEnds g p (Ok it.errors))
  rebuild_ended old new it whole first =
      steps_as rack area (λ g p holds. passes.RebuildReplies g p None it.from it.units it.errors it.paused holds) (λ g p. RebuildEnds g p (Ok it.errors)) old new first
      (λ g p holds r. inl (r.0, subst (λ w. passes.Rebuilds g p None holds (passes.outcome_of w) r.0) whole r.1, r.4))

  pub rebuild_other : (old new : Pool R A) (given : MendFault) (result : Result ℕ SyncFault) → EndsBy given result → ((x : State) → Represents rack area old x → CarriesOut rack area new x (RebuildDoes x None (Err given)))
      → Steps rack area old new (λ g p. RebuildEnds g p result)
  rebuild_other old new mending.Nothing (Ok errors) is first =
      steps_as rack area (λ g p holds. passes.RebuildsNothing g p None holds) (λ g p. RebuildEnds g p (Ok errors)) old new first (λ g p holds r. inr (r, is))
  rebuild_other old new given (Ok errors) is first = absurd is
  rebuild_other old new given (Err why) is first = by why (subst (λ f. (x : State) → Represents rack area old x → CarriesOut rack area new x (RebuildDoes x None (Err f))) is first)
    where
      by : (why : SyncFault) → ((x : State) → Represents rack area old x → CarriesOut rack area new x (RebuildDoes x None (Err (stopped_by why)))) → Steps rack area old new (λ g p. RebuildEnds g p (Err why))
      by sync.Worn step = step
      by sync.Last step = step
      by sync.Shelf step = step
      by sync.NoMemory step = step

  -- ---- a scrub

  pub scrub_ended : (old new : Pool R A) (it : Mended) → it.paused ≡ false → ((x : State) → Represents rack area old x → CarriesOut rack area new x (ScrubDoes x None (Ok it)))
      → Steps rack area old new (λ g p. ScrubEnds g p (Ok it.errors))
  scrub_ended old new it whole first =
      steps_as rack area (λ g p holds. passes.ScrubReplies g p None it.from it.units it.repaired it.errors it.paused holds) (λ g p. ScrubEnds g p (Ok it.errors)) old new first
      (λ g p holds s. (s.0, subst (λ w. passes.Scrubs g p None holds (passes.outcome_of w) s.0) whole s.1, s.5))

  pub scrub_halted : (old new : Pool R A) (why : SyncFault) (given : MendFault) → given ≡ stopped_by why → ((x : State) → Represents rack area old x → CarriesOut rack area new x (ScrubDoes x None (Err given)))
      → Steps rack area old new (λ g p. ScrubEnds g p (Err why))
  scrub_halted old new why given is first = by why (subst (λ f. (x : State) → Represents rack area old x → CarriesOut rack area new x (ScrubDoes x None (Err f))) is first)
    where
      by : (why : SyncFault) → ((x : State) → Represents rack area old x → CarriesOut rack area new x (ScrubDoes x None (Err (stopped_by why)))) → Steps rack area old new (λ g p. ScrubEnds g p (Err why))
      by sync.Worn step = step
      by sync.Last step = step
      by sync.Shelf step = λ x r. absurd ((step x r).done)
      by sync.NoMemory step = step

  -- ---- both

  pub heal_ended : (old mid new : Pool R A) (errors : AgentErrors) → Steps rack area old mid (λ g p. RebuildEnds g p (Ok errors.rebuild)) → Steps rack area mid new (λ g p. ScrubEnds g p (Ok errors.scrub))
      → Steps rack area old new (λ g p. HealEnds g p (Ok errors))
  heal_ended old mid new errors first second =
      steps_then rack area (λ g p. RebuildEnds g p (Ok errors.rebuild)) (λ g p. ScrubEnds g p (Ok errors.scrub)) (λ g p. HealEnds g p (Ok errors)) old mid new first second
      (λ x front back r s t. (front, back, refl, s, t))

  pub heal_unbuilt : (old new : Pool R A) (why : SyncFault) → Steps rack area old new (λ g p. RebuildEnds g p (Err why)) → Steps rack area old new (λ g p. HealEnds g p (Err why))
  heal_unbuilt old new why first = steps_as rack area (λ g p. RebuildEnds g p (Err why)) (λ g p. HealEnds g p (Err why)) old new first (by why)
    where
      by : (why : SyncFault) (g : Geometry) (p : Perms) (holds : List Hold) → RebuildEnds g p (Err why) holds → HealEnds g p (Err why) holds
      by sync.Worn g p holds s = inl s
      by sync.Last g p holds s = inl s
      by sync.Shelf g p holds s = inl s
      by sync.NoMemory g p holds (inl s) = inl (inl s)
      by sync.NoMemory g p holds (inr looks) = inr looks

  pub heal_unscrubbed : (old mid new : Pool R A) (errors : ℕ) (why : SyncFault) → Steps rack area old mid (λ g p. RebuildEnds g p (Ok errors)) → Steps rack area mid new (λ g p. ScrubEnds g p (Err why))
      → Steps rack area old new (λ g p. HealEnds g p (Err why))
  heal_unscrubbed old mid new errors why first second =
      steps_then rack area (λ g p. RebuildEnds g p (Ok errors)) (λ g p. ScrubEnds g p (Err why)) (λ g p. HealEnds g p (Err why)) old mid new first second (λ x front back r s t. by why x.geometry x.perms front back s t)
    where
      by : (why : SyncFault) (g : Geometry) (p : Perms) (front back : List Hold) → RebuildEnds g p (Ok errors) front → ScrubEnds g p (Err why) back → HealEnds g p (Err why) (front ++ back)
      by sync.Worn g p front back s t = inr (errors, front, back, t.0, t.1, refl, s, t.2)
      by sync.Last g p front back s t = inr (errors, front, back, t.0, t.1, refl, s, t.2)
      by sync.Shelf g p front back s t = absurd t
      by sync.NoMemory g p front back s t = inl (inr (errors, front, back, t.0, t.1, refl, s, t.2))

-- ---- the spares, and then both

-- further holds behind the spares that came
acts_then : (g : Geometry) (p : Perms) (chosen : ℕ → ℕ → List ℕ → Option ℕ → Type 0) (least number : ℕ) (entries : List Entry) (front rest : List Hold) → agent.Acts g p chosen least number entries front []
    → agent.Acts g p chosen least number entries (front ++ rest) rest
acts_then g p chosen least number entries front rest a = record {
  views = a.views;
  back = a.back ++ rest;
  begins = record {
    finish = a.begins.finish;
    looks = a.begins.looks;
    are = ap (λ hs. hs ++ rest) a.begins.are ∙ (append_assoc a.begins.finish (a.begins.looks ++ a.back) rest ∙ ap (λ hs. a.begins.finish ++ hs) (append_assoc a.begins.looks a.back rest));
    finishes = a.begins.finishes;
    looked = a.begins.looked;
    none = a.begins.none;
  };
  gives = a.gives;
  reserving = a.reserving;
  coming = a.coming;
  are = ap (λ hs. hs ++ rest) a.are ∙ (append_assoc a.reserving (a.coming ++ []) rest ∙ ap (λ hs. a.reserving ++ (hs ++ rest)) (append-nil a.coming));
  reserves = a.reserves;
  comes = a.comes;
}

module _ {R A : Type 0} (rack : racks.Ghosts R) (area : areas.Ghosts A) (chosen : ℕ → ℕ → List ℕ → Option ℕ → Type 0) (least : ℕ) (before after : List Entry) where
  -- spares came
  abbrev Came : Geometry → Perms → List Hold → Type 0
  Came g p holds =
      (entries : List Entry) × (after ≡ before ++ entries) × (entries ≢ []) × agent.SomeCame g p chosen entries × agent.Acts g p chosen least (length before + 1) entries holds []

  came_of : (old mid : Pool R A) → ((x : State) → Represents rack area old x → CarriesOut rack area mid x (GiveDoes x chosen least before (Ok true) after)) → Steps rack area old mid Came
  came_of old mid first x r =
      carries_so rack area mid x (GiveDoes x chosen least before (Ok true) after) (λ holds store. (store ≡ x.store) × Came x.geometry x.perms holds) (first x r) (λ holds store d. (d.0, (d.1, d.2, d.3, d.4, d.5)))

  pub repair_healed : (old mid new : Pool R A) (errors : AgentErrors) → ((x : State) → Represents rack area old x → CarriesOut rack area mid x (GiveDoes x chosen least before (Ok true) after))
      → Steps rack area mid new (λ g p. HealEnds g p (Ok errors)) → Steps rack area old new (λ g p. RepairEnds g p chosen least before (Ok (Some errors)) after)
  repair_healed old mid new errors first second =
      steps_then rack area Came (λ g p. HealEnds g p (Ok errors)) (λ g p. RepairEnds g p chosen least before (Ok (Some errors)) after) old mid new (came_of old mid first) second
      (λ x front back r s t. (s.0, s.1, (back, s.2, acts_then x.geometry x.perms chosen least (length before + 1) s.0 front back s.4, (s.3, t))))

  pub repair_unhealed : (old mid new : Pool R A) (why : SyncFault) → ((x : State) → Represents rack area old x → CarriesOut rack area mid x (GiveDoes x chosen least before (Ok true) after))
      → Steps rack area mid new (λ g p. HealEnds g p (Err why)) → (x : State) → Represents rack area old x
      → CarriesOut rack area new x (λ holds store. (store ≡ x.store) × ((entries : List Entry) × (after ≡ before ++ entries) × RepairHalts x.geometry x.perms chosen least before why entries holds))
  repair_unhealed old mid new why first second =
      steps_then rack area Came (λ g p. HealEnds g p (Err why)) (λ g p holds. (entries : List Entry) × (after ≡ before ++ entries) × RepairHalts g p chosen least before why entries holds) old mid new (came_of old mid first) second
      (λ x front back r s t. (s.0, s.1, by why x.geometry x.perms s.0 front back s.3 s.4 t))
    where
      by : (why : SyncFault) (g : Geometry) (p : Perms) (entries : List Entry) (front back : List Hold) → agent.SomeCame g p chosen entries → agent.Acts g p chosen least (length before + 1) entries front []
          → HealEnds g p (Err why) back → RepairHalts g p chosen least before why entries (front ++ back)
      by sync.Worn g p entries front back came acts t = inr (inr (back, came, acts_then g p chosen least (length before + 1) entries front back acts, t))
      by sync.Last g p entries front back came acts t = inr (inr (back, came, acts_then g p chosen least (length before + 1) entries front back acts, t))
      by sync.Shelf g p entries front back came acts t = inr (inr (back, came, acts_then g p chosen least (length before + 1) entries front back acts, t))
      by sync.NoMemory g p entries front back came acts (inl t) = inl (inr (inr (back, came, acts_then g p chosen least (length before + 1) entries front back acts, t)))
      by sync.NoMemory g p entries front back came acts (inr looks) = inr (inr (inl (back, came, acts_then g p chosen least (length before + 1) entries front back acts, looks)))

  -- none came
  pub repair_uncame : (old new : Pool R A) → ((x : State) → Represents rack area old x → CarriesOut rack area new x (GiveDoes x chosen least before (Ok false) after))
      → Steps rack area old new (λ g p. RepairEnds g p chosen least before (Ok None) after)
  repair_uncame old new first x r =
      carries_so rack area new x (GiveDoes x chosen least before (Ok false) after) (λ holds store. (store ≡ x.store) × RepairEnds x.geometry x.perms chosen least before (Ok None) after holds) (first x r)
      (λ holds store d. (d.0, (d.1, d.2, ([], d.3, d.5, (refl, d.4)))))

  -- ---- it was refused, or stopped before the first spare came

  stops_of : (x : State) (number : ℕ) (holds : List Hold) (end : End) → GiveStops x chosen least before holds end → agent.RepairStops x.geometry x.perms chosen least number [] holds end
  stops_of x number holds end (inl (other, ends)) = inl (refl, other, ends)
  stops_of x number holds end (inr (views, rest, count, other, begins, due, reserves)) = inr (inl (refl, other, views, rest, count, begins, due, reserves))

  starves_of : (x : State) (number : ℕ) (holds : List Hold) → GiveStarves x chosen least before holds → agent.RepairStarves x.geometry x.perms chosen least number [] holds
  starves_of x number holds (inl stops) = inl (stops_of x number holds Starved stops)
  starves_of x number holds (inr (finish, looks, are, ends, only)) = inr (inl (refl, finish, looks, are, ends, only))

  pub repair_refused : (old new : Pool R A) (why : GiveFault) → ((x : State) → Represents rack area old x → CarriesOut rack area new x (GiveDoes x chosen least before (Err why) after))
      → Steps rack area old new (λ g p. RepairEnds g p chosen least before (Err why) after)
  repair_refused old new why first x r =
      (let c = first x r in
      record { holds = c.holds; reached = c.reached; store = c.store; follows = c.follows; done = by why c.holds c.store c.done; represents = c.represents })
    where
      same : after ≡ before → after ≡ before ++ []
      same is = is ∙ sym (append-nil before)

      by : (why : GiveFault) (holds : List Hold) (store : Store) → GiveDoes x chosen least before (Err why) after holds store
          → (store ≡ x.store) × RepairEnds x.geometry x.perms chosen least before (Err why) after holds
      by fault.Idle holds store d = (d.0, (d.1, d.2))
      by (fault.PassThere metaslab number) holds store d = (d.0, (d.1, d.2))
      by (fault.Stopped sync.Worn) holds store d = (d.0, ([], same d.1, stops_of x (length before + 1) holds WasWorn d.2))
      by (fault.Stopped sync.Last) holds store d = (d.0, ([], same d.1, stops_of x (length before + 1) holds WasLast d.2))
      by (fault.Stopped sync.Shelf) holds store d = (d.0, ([], same d.1, stops_of x (length before + 1) holds Broke d.2))
      by (fault.Stopped sync.NoMemory) holds store d = (d.0, ([], same d.1, starves_of x (length before + 1) holds d.2))

-- ---- by a device of the pool

abbrev refused : SyncFault → Result ℕ SyncFault
refused why = Err why

pub refused_same : (a b : SyncFault) → refused a ≡ refused b → a ≡ b
refused_same a b is = cc is

-- it stopped a rebuild where it stopped the whole
pub shelf_ended : (given : MendFault) (result : Result ℕ SyncFault) → EndsBy given result → result ≡ Err sync.Shelf → given ≡ mending.Shelf
shelf_ended mending.Nothing (Ok errors) is same = absurd (cc same)
shelf_ended given (Ok errors) is same = absurd is
shelf_ended given (Err why) is same = is ∙ ap stopped_by (refused_same why sync.Shelf same)

-- it never stops a scrub
pub scrub_no_shelf : {R A : Type 0} (why : SyncFault) (given : MendFault) (old new : Pool R A) → given ≡ stopped_by why → ScrubIs (Err given) old new → why ≡ sync.Shelf → ⊥
scrub_no_shelf {R} {A} why given old new is passes same = subst (λ f. ScrubIs {R = R} {A = A} (Err f) old new) (is ∙ ap stopped_by same) passes

-- behind a rebuild that found nothing to do there is no pass
pub rebuild_idle : {R A : Type 0} (given : MendFault) (result : Result ℕ SyncFault) (old new : Pool R A) → EndsBy given result → RebuildIs (Err given) old new → OnOk result (NoPasses new)
rebuild_idle mending.Nothing (Ok errors) old new is passes = passes.1.idle
rebuild_idle given (Ok errors) old new is passes = absurd is
rebuild_idle given (Err why) old new is passes = tt

-- ---- the journal

-- no entry came
pub no_entries : (before after : List Entry) → after ≡ before → AddsEntries before after
no_entries before after same = record { more = []; are = same ∙ sym (append-nil before); numbered = tt; few = omega arith }

-- whatever came of it, some entries may have come
pub some_entries : (answer : Result (Option AgentErrors) GiveFault) (before after : List Entry) → RepairNotes answer before after → AddsEntries before after
some_entries (Ok errors) before after notes = notes
some_entries (Err fault.Idle) before after notes = no_entries before after notes
some_entries (Err (fault.PassThere metaslab number)) before after notes = no_entries before after notes
some_entries (Err (fault.Stopped why)) before after notes = notes

-- where no spare came for what was refused
pub refused_notes : (why : GiveFault) (before after : List Entry) → after ≡ before → RepairNotes (Err why) before after
refused_notes fault.Idle before after same = same
refused_notes (fault.PassThere metaslab number) before after same = same
refused_notes (fault.Stopped why) before after same = no_entries before after same

-- ---- the same refusal

abbrev ended : GiveFault → Result (Option AgentErrors) GiveFault
ended why = Err why

pub ended_same : (a b : GiveFault) → ended a ≡ ended b → a ≡ b
ended_same a b is = cc is

pub stopped_same : (a b : SyncFault) → ended (fault.Stopped a) ≡ ended (fault.Stopped b) → a ≡ b
stopped_same a b is = cc is

-- ---- the reply

same_behind : (past cs bs : List Entry) → past ++ cs ≡ past ++ bs → cs ≡ bs
same_behind [] cs bs is = is
same_behind (e ∷ past) cs bs is = same_behind past cs bs (rest e e (past ++ cs) (past ++ bs) is)
  where
    rest : (a b : Entry) (xs ys : List Entry) → a ∷ xs ≡ b ∷ ys → xs ≡ ys
    rest a b xs ys same = cc same

-- what is behind the first entries
behind_first : (before more : List Entry) → drop (length before) (before ++ more) ≡ more
behind_first [] more = refl
behind_first (e ∷ before) more = behind_first before more

-- the list of a reply has the entries that came
pub list_added : (before after items : List Entry) → AddsEntries before after → items ≡ drop (length before) after → after ≡ before ++ items
list_added before after items adds is = adds.are ∙ ap (λ es. before ++ es) (sym (is ∙ (ap (λ es. drop (length before) es) adds.are ∙ behind_first before adds.more)))

pub list_short : (before after items : List Entry) → AddsEntries before after → items ≡ drop (length before) after → length items ≤ most_slots
list_short before after items adds is = (let long = ap length (is ∙ (ap (λ es. drop (length before) es) adds.are ∙ behind_first before adds.more)) in let few = adds.few in omega (arith, long, few))

pub list_long : (before after : List Entry) → AddsEntries before after → length before ≤ length after
list_long before after adds = (let long = ap length adds.are in let both = length-append before adds.more in omega (arith, long, both))

no_error : false ≡ true → ⊥
no_error is = cc is

module _ (parity least : ℕ) (entries : Vec Entry Global) where
  pub agent_fits : (answer : Result (Option AgentErrors) GiveFault) (said : Result Reply Failed) → IsAgentReply parity entries answer said → IfOk said (IsReplyTo (RunAgent least))
  agent_fits (Ok errors) said is = subst (λ s. IfOk s (IsReplyTo (RunAgent least))) (sym is) tt
  agent_fits (Err fault.Idle) said is = subst (λ s. IfOk s (IsReplyTo (RunAgent least))) (sym is) tt
  agent_fits (Err (fault.PassThere metaslab number)) said is = subst (λ s. IfOk s (IsReplyTo (RunAgent least))) (sym is) tt
  agent_fits (Err (fault.Stopped sync.Worn)) said is = subst (λ s. IfOk s (IsReplyTo (RunAgent least))) (sym is) tt
  agent_fits (Err (fault.Stopped sync.Last)) said is = subst (λ s. IfOk s (IsReplyTo (RunAgent least))) (sym is) tt
  agent_fits (Err (fault.Stopped sync.NoMemory)) said is = subst (λ s. IfOk s (IsReplyTo (RunAgent least))) (sym is) tt
  agent_fits (Err (fault.Stopped sync.Shelf)) (Ok reply) is = absurd is
  agent_fits (Err (fault.Stopped sync.Shelf)) (Err failed) is = tt

  pub agent_cause : (answer : Result (Option AgentErrors) GiveFault) (said : Result Reply Failed) → IsAgentReply parity entries answer said → IsErr said → answer ≡ Err (fault.Stopped sync.Shelf)
  agent_cause (Ok errors) said is failed = absurd (no_error (subst IsErr is failed))
  agent_cause (Err fault.Idle) said is failed = absurd (no_error (subst IsErr is failed))
  agent_cause (Err (fault.PassThere metaslab number)) said is failed = absurd (no_error (subst IsErr is failed))
  agent_cause (Err (fault.Stopped sync.Worn)) said is failed = absurd (no_error (subst IsErr is failed))
  agent_cause (Err (fault.Stopped sync.Last)) said is failed = absurd (no_error (subst IsErr is failed))
  agent_cause (Err (fault.Stopped sync.NoMemory)) said is failed = absurd (no_error (subst IsErr is failed))
  agent_cause (Err (fault.Stopped sync.Shelf)) said is failed = refl

  module _ (before after : List Entry) (added : after ≡ before ++ entries.items) where
    abbrev Noting : Result Reply Failed → Type 0
    Noting said = IfOk said (λ reply. NotesBehind before reply after)

    pub agent_notes : (answer : Result (Option AgentErrors) GiveFault) (said : Result Reply Failed) → IsAgentReply parity entries answer said → RepairNotes answer before after → Noting said
    agent_notes (Ok errors) said is notes =
        subst Noting (sym is) (entries.items, (refl, subst (AreNumbered (length before + 1)) (same_behind before notes.more entries.items (sym notes.are ∙ added)) notes.numbered), added)
    agent_notes (Err fault.Idle) said is notes = subst Noting (sym is) ([], refl, notes ∙ sym (append-nil before))
    agent_notes (Err (fault.PassThere metaslab number)) said is notes = subst Noting (sym is) ([], refl, notes ∙ sym (append-nil before))
    agent_notes (Err (fault.Stopped sync.Worn)) said is notes = subst Noting (sym is) (notes.more, notes.numbered, notes.are)
    agent_notes (Err (fault.Stopped sync.Last)) said is notes = subst Noting (sym is) (notes.more, notes.numbered, notes.are)
    agent_notes (Err (fault.Stopped sync.NoMemory)) said is notes = subst Noting (sym is) (notes.more, notes.numbered, notes.are)
    agent_notes (Err (fault.Stopped sync.Shelf)) (Ok reply) is notes = absurd is
    agent_notes (Err (fault.Stopped sync.Shelf)) (Err failed) is notes = tt

module _ {R A : Type 0} (rack : racks.Ghosts R) (area : areas.Ghosts A) (chosen : ℕ → ℕ → List ℕ → Option ℕ → Type 0) (least : ℕ) (before after : List Entry) (old new : Pool R A) (entries : Vec Entry Global) (said : Result Reply Failed) where
  pub agent_step : (answer : Result (Option AgentErrors) GiveFault) → IsAgentReply old.geometry.spec.parity entries answer said → after ≡ before ++ entries.items
      → Steps rack area old new (λ g p. RepairEnds g p chosen least before answer after) → (x : State) → Represents rack area old x → CarriesOut rack area new x (AgentSays x chosen least before said after)
  agent_step answer is added step x r =
      carries_so rack area new x (λ holds store. (store ≡ x.store) × RepairEnds x.geometry x.perms chosen least before answer after holds) (AgentSays x chosen least before said after) (step x r)
      (λ holds store d. inr (record {
        answer = answer;
        entries = entries;
        reply = subst (λ (g : Geometry). IsAgentReply g.spec.parity entries answer said) (sym r.stands.geometry) is;
        added = added;
        kept = d.0;
        ends = d.1;
      }))

-- memory was wanting for the list
pub agent_wants : {R A : Type 0} (rack : racks.Ghosts R) (area : areas.Ghosts A) (chosen : ℕ → ℕ → List ℕ → Option ℕ → Type 0) (least : ℕ) (before after : List Entry) (old : Pool R A) (said : Result Reply Failed)
    → said ≡ Ok (replies.NoMemory name.Agent) → after ≡ before → (x : State) → Represents rack area old x → CarriesOut rack area old x (AgentSays x chosen least before said after)
agent_wants rack area chosen least before after old said is same x r =
    carried rack area old x [] x (AgentSays x chosen least before said after) refl r (inl (record { said_is = is; same = same; kept = refl; none = refl }))

-- ---- whether a spare came, by the test of it

pub by_came : (P : Bool → Type 0) (came : Bool) → IsTrue came → P came → P true
by_came P true is p = p
by_came P false is p = absurd (cc is)

pub by_none : (P : Bool → Type 0) (came : Bool) → IsFalse came → P came → P false
by_none P true is p = absurd (cc is)
by_none P false is p = p
