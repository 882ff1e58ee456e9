-- What is said of a lane's holds, one after another, and in rounds over metaslabs.
use Rattle.std.proofs.Common.{◌≡◌, ◌+◌, ◌++◌, ◌∷◌, [], ℕ, zero, suc, Bool, true, List, arith, refl, sym, subst}
use Rattle.draid_rack.specs.declared.Rack as racks
use Rattle.draid_area.specs.declared.Area as areas
use Rattle.draid_segments.specs.Segments.{Pieces}
use Rattle.draid_spec.specs.declared.layout.Geometry.{Geometry}
use Rattle.draid_machine.specs.declared.event.Event.TheVariants as event
use Rattle.draid_machine.specs.declared.names.Key.{Key}
use Rattle.draid_machine.specs.State as machine
use Rattle.draid_objects.specs.Blocks.{Table}
use Rattle.draid_session.specs.Holds.{Act, AreaFailed, CallStarved, Did, Hold, Looked, MadeLeaf, On, OnUber, RackFailed, Reserved, UberAct, UberView, View, view_of}
use Rattle.draid_session.specs.Lanes.{IsLookOnly}
use Rattle.draid_session.specs.State.{Metaslab, State}
use Rattle.draid_shard.specs.declared.shard.Shard.{Shard}
use Rattle.draid_pool.specs.Drifts.{KeepsBytes}
use Rattle.draid_pool.specs.Metaslabs.{IsMetaslab}
use Rattle.draid_pool.specs.Pools.{part_in}
use Rattle.draid_pool.specs.Rounds.{HeldEach, HeldFrom}
use Rattle.draid_pool.specs.Syncing.{Turns}
use Rattle.draid_pool.proofs.BytesKept.{ActEnds, act_bytes}
use Rattle.draid_pool.proofs.Walks.{Walked, walked_more}
use Rattle.draid_lanes.specs.Governing.{lane_last}
use Rattle.draid_lanes.specs.Traces.{LaneTurn}
use Rattle.draid_lanes.specs.Waits.{LaneWent}
use Rattle.draid_lanes.specs.declared.locked.Locked.{Locked}
use Rattle.draid_lanes.proofs.OneTurn.{HasCame, Once, came_one, gone, hold, only_at, traced_one, turn}
use Rattle.draid_lanes.proofs.Tracing.{Traced, traced_none, traced_then, traced_uber}

-- it is one hold, that is so
pub record IsOneOf (told : Hold → Type 0) (hs : List Hold) : Type 0 where
  pub hold : Hold
  pub are : hs ≡ hold ∷ []
  pub is : told hold

-- what a hold is told to do to a metaslab, whatever that stood for
abbrev pub TellsAt : {R A : Type 0} → racks.Ghosts R → areas.Ghosts A → State → ℕ → (Hold → Type 0) → Shard R A → Shard R A → Type 0
TellsAt rack area x m told before after = (pieces : Pieces) (y : Metaslab) → IsMetaslab rack area (part_in x m) pieces before y → Turns rack area (part_in x m) pieces y after (λ hold z. told hold)

-- a hold that is told so ends no ticket
abbrev pub EndsNone : (Hold → Type 0) → Type 0
EndsNone told = (v : View) (key : Key) (w : machine.State) → told (On v (Did (event.Finish key) w)) → ⊥

-- nor does a look
pub looks_end : EndsNone IsLookOnly
looks_end v key w is = absurd (cc)

-- the hold of the next metaslab comes behind a walk
walked_on : (told : ℕ → Hold → ℕ → Type 0) (first n sum more : ℕ) (hs ks : List Hold) → Walked told first n hs sum → IsOneOf (λ hold. told (first + n) hold more) ks → Walked told first (suc n) (hs ++ ks) (sum + more)
walked_on told first n sum more hs ks w one = subst (λ l. Walked told first (suc n) (hs ++ l) (sum + more)) (sym one.are) (walked_more told first n hs sum one.hold more w one.is)

module _ {R A G W : Type 0} (rack : racks.Ghosts R) (area : areas.Ghosts A) (x : State) where
  -- What a lane did between two of its states, with these holds of the uberblock among it, is what is said to be done. It knows what its metaslabs came to.
  pub record Says (a b : Locked R A G W) (ubers : List Hold) (does : List Hold → Type 0) : Type 0 where
    pub turns : ℕ → List LaneTurn
    pub holds : List Hold
    pub traced : Traced rack area x a b turns holds ubers
    pub done : does holds
    pub came : HasCame rack area x b

  pub said_none : (a : Locked R A G W) → HasCame rack area x a → Says a a [] (λ hs. hs ≡ [])
  said_none a came = record { turns = λ m. []; holds = []; traced = traced_none rack area x a; done = refl; came = came }

  pub said_as : (a b : Locked R A G W) (us : List Hold) (P Q : List Hold → Type 0) → Says a b us P → ((hs : List Hold) → P hs → Q hs) → Says a b us Q
  said_as a b us P Q s so = record { turns = s.turns; holds = s.holds; traced = s.traced; done = so s.holds s.done; came = s.came }

  -- the one and then the other
  pub said_on : (a b c : Locked R A G W) (us vs : List Hold) (P Q both : List Hold → Type 0) → Says a b us P → Says b c vs Q → ((hs ks : List Hold) → P hs → Q ks → both (hs ++ ks)) → Says a c (us ++ vs) both
  said_on a b c us vs P Q both s t so = record {
    turns = λ m. s.turns m ++ t.turns m;
    holds = s.holds ++ t.holds;
    traced = traced_then rack area x a b c s.turns t.turns s.holds t.holds us vs s.traced t.traced;
    done = so s.holds t.holds s.done t.done;
    came = t.came;
  }

  pub said_uber : (a : Locked R A G W) (u : UberView) (act : UberAct) → HasCame rack area x a → Says a a (OnUber u act ∷ []) (λ hs. hs ≡ OnUber u act ∷ [])
  said_uber a u act came = record { turns = λ m. []; holds = OnUber u act ∷ []; traced = traced_uber rack area x a (OnUber u act) (λ m. refl) refl; done = refl; came = came }

-- ---- bytes

-- an act that ends no ticket ends none without bytes
plain_ends : (geometry : Geometry) (pieces : Pieces) (table : Table) (act : Act) → ((key : Key) (w : machine.State) → act ≡ Did (event.Finish key) w → ⊥) → ActEnds geometry pieces table act
plain_ends geometry pieces table (Did (event.Finish key) w) none = absurd (none key w refl)
plain_ends geometry pieces table (Did (event.Begin key first stripes len birth digest) w) none = tt
plain_ends geometry pieces table (Did (event.Put key landed failed) w) none = tt
plain_ends geometry pieces table (Did (event.Abort key) w) none = tt
plain_ends geometry pieces table (Did (event.Free key group) w) none = tt
plain_ends geometry pieces table (Did (event.Fetch key failed) w) none = tt
plain_ends geometry pieces table (Did (event.Damage leaf sector failed) w) none = tt
plain_ends geometry pieces table (Did (event.Offline leaf) w) none = tt
plain_ends geometry pieces table (Did (event.Online leaf) w) none = tt
plain_ends geometry pieces table (Did (event.Attach slot arm) w) none = tt
plain_ends geometry pieces table (Did (event.Detach slot arm) w) none = tt
plain_ends geometry pieces table (Did event.Upgrade w) none = tt
plain_ends geometry pieces table (Did (event.Close group) w) none = tt
plain_ends geometry pieces table (Did (event.Seal group failed) w) none = tt
plain_ends geometry pieces table (Did (event.Commit group) w) none = tt
plain_ends geometry pieces table (Did (event.Plan kind) w) none = tt
plain_ends geometry pieces table (Did event.Ready w) none = tt
plain_ends geometry pieces table (Did (event.Lend failed) w) none = tt
plain_ends geometry pieces table (Did (event.LandStripe pass serial failed) w) none = tt
plain_ends geometry pieces table (Did (event.LandBlock pass serial failed patched unreadable) w) none = tt
plain_ends geometry pieces table (Did (event.Done failed) w) none = tt
plain_ends geometry pieces table (Did event.Cancel w) none = tt
plain_ends geometry pieces table (Did (event.Reopen group doubtful) w) none = tt
plain_ends geometry pieces table Looked none = tt
plain_ends geometry pieces table (Reserved n) none = tt
plain_ends geometry pieces table (MadeLeaf leaf) none = tt
plain_ends geometry pieces table (AreaFailed group) none = tt
plain_ends geometry pieces table RackFailed none = tt
plain_ends geometry pieces table CallStarved none = tt

-- so blocks that had bytes have them behind the hold
told_bytes : {R A : Type 0} (rack : racks.Ghosts R) (area : areas.Ghosts A) (x : State) (m : ℕ) (told : Hold → Type 0) (before after : Shard R A) (y : Metaslab) → TellsAt rack area x m told before after → EndsNone told → KeepsBytes rack area (part_in x m) before y after
told_bytes rack area x m told before after y tells ends pieces is has =
    let t = tells pieces y is in
    act_bytes rack area (part_in x m) pieces before after y t.reached t.act is t.is t.acts
    (plain_ends (part_in x m).geometry pieces y.world.core.held t.act (λ key w same. ends (view_of m y) key w (subst (λ (a : Act). told (On (view_of m y) a)) same t.done))) has

module _ {R A G W : Type 0} (rack : racks.Ghosts R) (area : areas.Ghosts A) (x : State) (owns : ℕ → Bool) where
  -- ---- one hold

  pub said_one : (does : Shard R A → Shard R A → Type 0) (told : Hold → Type 0) (a : Locked R A G W) (m : ℕ) (b : Locked R A G W) (h : Once rack area x owns does a m b) → HasCame rack area x a → TellsAt rack area x m told h.before h.after → EndsNone told
      → Says rack area x a b [] (IsOneOf told)
  said_one does told a m b h came tells ends =
      let g = gone rack area x owns does a m b h came in
      let t = tells g.now g.reached g.is in
      record {
        turns = only_at m (turn rack area x owns does a m b h came told t ∷ []);
        holds = hold rack area x owns does a m b h came told t ∷ [];
        traced = traced_one rack area x owns does a m b h came told t (told_bytes rack area x m told h.before h.after g.reached tells ends);
        done = record { hold = hold rack area x owns does a m b h came told t; are = refl; is = t.done };
        came = came_one rack area x owns does a m b h came told t;
      }

  -- ---- rounds

  abbrev pub Each : (ℕ → Shard R A → Shard R A → Type 0) → ℕ → Locked R A G W → ℕ → Locked R A G W → Type 0
  Each does n a sum b = HeldEach rack area lane_last (LaneWent rack area) true owns does n a sum b

  abbrev pub From : (ℕ → Shard R A → Shard R A → Type 0) → ℕ → ℕ → Locked R A G W → ℕ → Locked R A G W → Type 0
  From does first n a sum b = HeldFrom rack area lane_last (LaneWent rack area) true owns does first n a sum b

  module _ (does : ℕ → Shard R A → Shard R A → Type 0) (told : ℕ → Hold → ℕ → Type 0) (tells : (n m : ℕ) (before after : Shard R A) → does n before after → TellsAt rack area x m (λ hold. told m hold n) before after)
      (ends : (n m : ℕ) → EndsNone (λ hold. told m hold n)) where
    pub from_said : (first n sum : ℕ) (a b : Locked R A G W) → From does first n a sum b → HasCame rack area x a → Says rack area x a b [] (λ hs. Walked told first n hs sum)
    from_said first zero sum a b each came =
        subst (λ s. Says rack area x a s [] (λ hs. Walked told first 0 hs sum)) (sym each.0)
        (said_as rack area x a a [] (λ hs. hs ≡ []) (λ hs. Walked told first 0 hs sum) (said_none rack area x a came) (λ hs none. (none, each.1)))
    from_said first (suc n) sum a b (mid, some, more, each, once, adds) came =
        let front = from_said first n some a mid each came in
        let one = said_one (does more) (λ hold. told (first + n) hold more) mid (first + n) b once front.came (tells more (first + n) once.before once.after once.did) (ends more (first + n)) in
        subst (λ k. Says rack area x a b [] (λ hs. Walked told first (suc n) hs k)) (sym adds)
        (said_on rack area x a mid b [] [] (λ hs. Walked told first n hs some) (IsOneOf (λ hold. told (first + n) hold more)) (λ hs. Walked told first (suc n) hs (some + more)) front one (λ hs ks w one. walked_on told first n some more hs ks w one))

    pub each_from : (n sum : ℕ) (a b : Locked R A G W) → Each does n a sum b → From does 0 n a sum b
    each_from zero sum a b each = each
    each_from (suc n) sum a b (mid, some, more, each, once, adds) =
        (mid, some, more, each_from n some a mid each, subst (λ m. Once rack area x owns (does more) mid m b) (let same : n ≡ 0 + n = omega arith in same) once, adds)

    pub round_said : (n sum : ℕ) (a b : Locked R A G W) → Each does n a sum b → HasCame rack area x a → Says rack area x a b [] (λ hs. Walked told 0 n hs sum)
    round_said n sum a b each came = from_said 0 n sum a b (each_from n sum a b each) came
