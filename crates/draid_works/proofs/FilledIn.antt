-- Objects of a lane's that were given contents one after another.
use Rattle.std.proofs.Common.{◌≡◌, ◌∙◌, ◌<◌, ◌+◌, ℕ, suc, Bool, true, List, [], ◌++◌, Option, Result, Ok, Err, arith, refl, sym, subst, None, ap}
use Rattle.draid_names.specs.declared.room.Room.{Room}
use Rattle.draid_names.specs.declared.refusal.WriteFault.{WriteFault}
use Rattle.draid_names.specs.declared.refusal.WriteFault.TheVariants as fault
use Rattle.draid_rack.specs.declared.Rack as racks
use Rattle.draid_area.specs.declared.Area as areas
use Rattle.draid_spec.specs.declared.layout.Geometry.{Geometry}
use Rattle.draid_perm.specs.declared.perms.Perms.{Perms}
use Rattle.draid_shard.specs.declared.shard.Shard.{Shard}
use Rattle.draid_script.specs.Line.{FillObjects}
use Rattle.draid_reply.specs.declared.reply.Reply.TheVariants.{Filled, FillRefused}
use Rattle.draid_session.specs.Choices.{choices_by}
use Rattle.draid_session.specs.Holds.{Hold}
use Rattle.draid_session.specs.Making.{content_of}
use Rattle.draid_session.specs.State.{State, Store}
use Rattle.draid_session.specs.Writes.{Refuses, Writes}
use Rattle.draid_pool.specs.Carries.{ReplyDoes}
use Rattle.draid_pool.specs.Pools.{part_in}
use Rattle.draid_pool.specs.Threads.{Between, CarriesBy, Knows, LeadsBy}
use Rattle.draid_pool.proofs.Joining.{leads_as, same_layout}
use Rattle.draid_store.specs.Answers.{WriteDoes}
use Rattle.draid_store.proofs.Filled.{FillsOf}
use Rattle.draid_lanes.specs.Governing.{lane_last}
use Rattle.draid_lanes.specs.Lanes.{IsSameLane, table_of}
use Rattle.draid_lanes.specs.Locks.{owned_by}
use Rattle.draid_lanes.specs.Waits.{LaneWent}
use Rattle.draid_lanes.specs.declared.lane.Lane.{Lane}
use Rattle.draid_works.specs.Lanes.{LaneCarries, LaneKnows}
use Rattle.draid_works.specs.Waiting.{LooksBut}
use Rattle.draid_works.proofs.Waited.{led, leads_next, left_then}
use Rattle.draid_objects.specs.Marks.{check_by}
use Rattle.draid_works.proofs.Grown.{fills_leave}

-- ---- of any metaslabs that one thread has

module _ {R A S : Type 0} (rack : racks.Ghosts R) (area : areas.Ghosts A) (went : S → ℕ → Shard R A → Shard R A → S → Type 0) (shared : Bool) (chosen : List Room → Option ℕ → Type 0) (first len seed : ℕ) (x : State) where
  -- a fill that stopped, looks aside
  abbrev pub FillStopped : (count : ℕ) → (written : ℕ) → WriteFault → List Hold → Store → Type 0
  FillStopped count written why = LooksBut (ReplyDoes x (choices_by chosen) (FillObjects first count len seed) (FillRefused first written why))

  -- none was filled yet
  pub fills_none : (a : S) (known : State → Type 0) → known x → LeadsBy rack area went shared a a x (LooksBut (FillsOf x chosen first len seed 0)) known
  fills_none a known is = record { holds = []; reached = x; store = x.store; follows = (refl, refl); done = ([], refl, (refl, refl)); knows = is }

  -- no memory for the first
  pub fill_unbegun : (a : S) (known : State → Type 0) (count : ℕ) → 0 < count → known x → LeadsBy rack area went shared a a x (FillStopped count 0 fault.NoMemory) known
  fill_unbegun a known count some is = record {
    holds = [];
    reached = x;
    store = x.store;
    follows = (refl, refl);
    done = (
      [],
      refl,
      (refl, record { front = []; back = []; mid = x.store; fewer = some; are = refl; fills = (refl, refl); refuses = (tt, refl) }),
    );
    knows = is;
  }

  -- all were
  pub fills_all : (a b : S) (known : State → Type 0) (written count : ℕ) → written ≡ count → LeadsBy rack area went shared a b x (LooksBut (FillsOf x chosen first len seed written)) known
      → LeadsBy rack area went shared a b x (LooksBut (ReplyDoes x (choices_by chosen) (FillObjects first count len seed) (Filled first count))) known
  fills_all a b known written count same m = leads_as rack area went shared a b x (LooksBut (FillsOf x chosen first len seed written)) (LooksBut (ReplyDoes x (choices_by chosen) (FillObjects first count len seed) (Filled first count))) known
      (λ holds store d. (d.0, d.1, (refl, refl, subst (λ k. FillsOf x chosen first len seed k d.0 store) same d.2))) m

  module _ (a b c : S) (known then_known : State → Type 0) (written : ℕ) (bytes : List ℕ) (is : bytes ≡ content_of seed (first + written) len)
      (m : LeadsBy rack area went shared a b x (LooksBut (FillsOf x chosen first len seed written)) known) where
    -- where those before led
    abbrev pub filled : State
    filled = led rack area went shared a b c x (LooksBut (FillsOf x chosen first len seed written)) known m

    layout : (filled.geometry ≡ x.geometry) × (filled.perms ≡ x.perms)
    layout = same_layout (Between rack area went shared (part_in x)) m.holds a x b m.reached m.follows

    pub filled_layout : filled.geometry ≡ x.geometry
    filled_layout = layout.0

    -- one more
    pub fills_more : LeadsBy rack area went shared b c filled (LooksBut (WriteDoes filled chosen (first + written) bytes (Ok tt))) then_known
        → LeadsBy rack area went shared a c x (LooksBut (FillsOf x chosen first len seed (written + 1))) then_known
    fills_more two = leads_next rack area went shared a b c x (LooksBut (FillsOf x chosen first len seed written)) known m (LooksBut (WriteDoes filled chosen (first + written) bytes (Ok tt))) then_known
        (LooksBut (FillsOf x chosen first len seed (written + 1))) two
        (λ back store d.
        let gave = subst (λ b. Writes filled.geometry filled.perms chosen (first + written) b m.store d.0 store) is d.2 in
        let laid = subst (λ (q : Geometry). Writes q filled.perms chosen (first + written) (content_of seed (first + written) len) m.store d.0 store) layout.0 gave in
        let here = subst (λ (q : Perms). Writes x.geometry q chosen (first + written) (content_of seed (first + written) len) m.store d.0 store) layout.1 laid in
        let next : suc written ≡ written + 1 = omega arith in (
          m.done.0 ++ d.0,
          left_then m.holds m.done.0 back d.0 m.done.1 d.1,
          subst (λ k. FillsOf x chosen first len seed k (m.done.0 ++ d.0) store) next (m.done.0, d.0, m.store, refl, m.done.2, here),
        ))

    -- or the next one was refused
    pub fill_stopped : (count : ℕ) (why : WriteFault) → written < count → LeadsBy rack area went shared b c filled (LooksBut (WriteDoes filled chosen (first + written) bytes (Err why))) then_known
        → LeadsBy rack area went shared a c x (FillStopped count written why) then_known
    fill_stopped count why fewer two = leads_next rack area went shared a b c x (LooksBut (FillsOf x chosen first len seed written)) known m (LooksBut (WriteDoes filled chosen (first + written) bytes (Err why))) then_known
        (FillStopped count written why) two
        (λ back store d.
        let gave = subst (λ b. Refuses filled.geometry filled.perms chosen (first + written) b why m.store d.0 store) is d.2 in
        let laid = subst (λ (q : Geometry). Refuses q filled.perms chosen (first + written) (content_of seed (first + written) len) why m.store d.0 store) layout.0 gave in
        let here = subst (λ (q : Perms). Refuses x.geometry q chosen (first + written) (content_of seed (first + written) len) why m.store d.0 store) layout.1 laid in (
          m.done.0 ++ d.0,
          left_then m.holds m.done.0 back d.0 m.done.1 d.1,
          (refl, record { front = m.done.0; back = d.0; mid = m.store; fewer = fewer; are = refl; fills = m.done.2; refuses = here }),
        ))

-- ---- of a lane

module _ {R A G W : Type 0} where
  -- a lane is the same as itself, and as what it was two steps before
  pub same_lane : (lane : Lane R A G W) → IsSameLane lane lane
  same_lane lane = record { turns = refl; owns = refl; uber = refl; geometry = refl }

  pub same_then : (old mid new : Lane R A G W) → IsSameLane old mid → IsSameLane mid new → IsSameLane old new
  same_then old mid new m n = record { turns = n.turns ∙ m.turns; owns = n.owns ∙ m.owns; uber = n.uber ∙ m.uber; geometry = n.geometry ∙ m.geometry }

-- a lane knows the state of a pool as far as what was its own before goes
abbrev pub KnowsThen : {R A G W : Type 0} → racks.Ghosts R → areas.Ghosts A → (old : Lane R A G W) → Lane R A G W → State → Type 0
KnowsThen rack area old lane y = Knows rack area (owned_by old.metaslabs.passes.items) (lane_last lane.metaslabs) (table_of lane) lane.own.seq lane.own.floor y

module _ {R A G W : Type 0} (rack : racks.Ghosts R) (area : areas.Ghosts A) (old mid new : Lane R A G W) (same : IsSameLane old mid) where
  -- the next step of the same lane is one of what the lane owned at first
  pub goes_on : (does : State → List Hold → Store → Type 0) → ((y : State) → y.geometry ≡ mid.geometry → check_by y.store.marks ≡ None → LaneKnows rack area mid y → LaneCarries rack area mid new y (does y))
      → (y : State) → y.geometry ≡ old.geometry → check_by y.store.marks ≡ None → KnowsThen rack area old mid y → LeadsBy rack area (LaneWent rack area) true mid.metaslabs new.metaslabs y (does y) (KnowsThen rack area old new)
  goes_on does step y layout none knows =
      subst (λ (o : ℕ → Bool). CarriesBy rack area (LaneWent rack area) true o (lane_last new.metaslabs) (table_of new) new.own.seq new.own.floor mid.metaslabs new.metaslabs y (does y)) same.owns
      (step y (layout ∙ sym same.geometry) none (subst (λ (o : ℕ → Bool). Knows rack area o (lane_last mid.metaslabs) (table_of mid) mid.own.seq mid.own.floor y) (sym same.owns) knows))

module _ {R A G W : Type 0} (rack : racks.Ghosts R) (area : areas.Ghosts A) (old mid new : Lane R A G W) (same : IsSameLane old mid) (chosen : List Room → Option ℕ → Type 0) (first len seed written : ℕ) (bytes : List ℕ) (result : Result Unit WriteFault)
    (is : bytes ≡ content_of seed (first + written) len) (step : (y : State) → y.geometry ≡ mid.geometry → check_by y.store.marks ≡ None → LaneKnows rack area mid y → LaneCarries rack area mid new y (LooksBut (WriteDoes y chosen (first + written) bytes result)))
    (x : State) (geometry : x.geometry ≡ old.geometry) (none : check_by x.store.marks ≡ None) (m : LaneCarries rack area old mid x (LooksBut (FillsOf x chosen first len seed written))) where
  -- where those before led
  abbrev y : State
  y = filled rack area (LaneWent rack area) true chosen first len seed x old.metaslabs mid.metaslabs new.metaslabs (KnowsThen rack area old mid) (KnowsThen rack area old new) written bytes is m

  -- the write of one more, from there
  next : LeadsBy rack area (LaneWent rack area) true mid.metaslabs new.metaslabs y (LooksBut (WriteDoes y chosen (first + written) bytes result)) (KnowsThen rack area old new)
  next = goes_on rack area old mid new same (λ z. LooksBut (WriteDoes z chosen (first + written) bytes result)) step y
      (filled_layout rack area (LaneWent rack area) true chosen first len seed x old.metaslabs mid.metaslabs new.metaslabs (KnowsThen rack area old mid) (KnowsThen rack area old new) written bytes is m ∙ geometry) (ap check_by (fills_leave x.geometry x.perms chosen (λ object. content_of seed object len) first written x.store m.store m.done.0 none m.done.2) ∙ none) m.knows

  -- one more
  pub lane_fills_more : result ≡ Ok tt → LaneCarries rack area old new x (LooksBut (FillsOf x chosen first len seed (written + 1)))
  lane_fills_more ok = fills_more rack area (LaneWent rack area) true chosen first len seed x old.metaslabs mid.metaslabs new.metaslabs (KnowsThen rack area old mid) (KnowsThen rack area old new) written bytes is m
      (subst (λ r. LeadsBy rack area (LaneWent rack area) true mid.metaslabs new.metaslabs y (LooksBut (WriteDoes y chosen (first + written) bytes r)) (KnowsThen rack area old new)) ok next)

  -- or the next one was refused
  pub lane_fill_stopped : (count : ℕ) (why : WriteFault) → result ≡ Err why → written < count
      → LaneCarries rack area old new x (LooksBut (ReplyDoes x (choices_by chosen) (FillObjects first count len seed) (FillRefused first written why)))
  lane_fill_stopped count why err fewer = fill_stopped rack area (LaneWent rack area) true chosen first len seed x old.metaslabs mid.metaslabs new.metaslabs (KnowsThen rack area old mid) (KnowsThen rack area old new) written bytes is m count why fewer
      (subst (λ r. LeadsBy rack area (LaneWent rack area) true mid.metaslabs new.metaslabs y (LooksBut (WriteDoes y chosen (first + written) bytes r)) (KnowsThen rack area old new)) err next)
