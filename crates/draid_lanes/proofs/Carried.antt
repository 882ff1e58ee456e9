-- What a lane did by holds of metaslabs alone, told from the state in which the section began.
use Rattle.std.proofs.Common.{◌≡◌, ◌++◌, ◌∷◌, ◌∙◌, [], ℕ, true, List, Some, refl, sym, ap, subst, length, slice_set}
use mathlib.Core.Logic.{dite}
use native.Mathlib.Decide.{ℕ_discrete}
use Rattle.std.specs.Prelude.{slice_get}
use Rattle.draid_rack.specs.declared.Rack as racks
use Rattle.draid_area.specs.declared.Area as areas
use Rattle.draid_session.specs.Follows.{MetaslabActs}
use Rattle.draid_session.specs.Holds.{Act, Hold, On, OnUber, View}
use Rattle.draid_session.specs.State.{Metaslab, State}
use Rattle.draid_shard.specs.Part.{Part, layout_in}
use Rattle.draid_turn.specs.Calls.{Caller, Lock}
use Rattle.draid_turn.specs.declared.past.Past.{Past}
use Rattle.draid_pool.specs.Drifts.{KeepsBytes, Since}
use Rattle.draid_pool.specs.Follows.{FollowsBy, HeldAt}
use Rattle.draid_pool.specs.Metaslabs.{IsMetaslab}
use Rattle.draid_pool.specs.Pools.{part_in}
use Rattle.draid_pool.specs.Threads.{Between}
use Rattle.draid_pool.specs.declared.cell.Cell.{Cell}
use Rattle.draid_pool.proofs.Holding.{some_same}
use Rattle.draid_pool.proofs.Lists.{some_of}
use Rattle.draid_pool.proofs.Places.{get_set_other, get_set_same, set_length}
use Rattle.draid_pool.proofs.ShardSteps.{acts_since}
use Rattle.draid_lanes.specs.Locks.{Went, left_in}
use Rattle.draid_lanes.specs.Traces.{CameAt, LaneTurn}
use Rattle.draid_lanes.specs.Waits.{LaneWent}
use Rattle.draid_lanes.specs.declared.locked.Locked.{Locked}
use Rattle.draid_lanes.proofs.OneTurn.{CameTo, behind_is, came_at, came_on, came_to, its_turn, only_at, traced_hold}
use Rattle.draid_lanes.proofs.Tracing.{Traced, traced_none, traced_then}

-- two states have the same layout of each metaslab
abbrev pub SameParts : State → State → Type 0
SameParts x s = (m : ℕ) → part_in s m ≡ part_in x m

parts_then : (x s t : State) → SameParts x s → t ≡ record s { metaslabs = t.metaslabs } → SameParts x t
parts_then x s t parts same k = ap (λ (u : State). part_in u k) same ∙ parts k

module _ {R A G W : Type 0} (rack : racks.Ghosts R) (area : areas.Ghosts A) (x : State) where
  -- each metaslab of a list is what one of the state came to, up to where a lane saw it
  abbrev pub AreSeen : Locked R A G W → List Metaslab → Type 0
  AreSeen a ys = (m : ℕ) (lock : Lock (Cell R A)) (pass : Caller (Past (Cell R A))) → slice_get a.turns.now m ≡ Some lock → slice_get a.passes.items m ≡ Some pass → (z : Metaslab) × (slice_get ys m ≡ Some z) × CameAt rack area x lock pass.seen m z

  -- A lane's holds led from one state to another: they were its turns, and each metaslab is what it saw then. Nothing but the metaslabs is another.
  pub record Carried (a b : Locked R A G W) (holds : List Hold) (s t : State) : Type 0 where
    pub turns : ℕ → List LaneTurn
    pub traced : Traced rack area x a b turns holds []
    pub seen : AreSeen b t.metaslabs
    pub same : t ≡ record s { metaslabs = t.metaslabs }
    pub many : length t.metaslabs ≡ length s.metaslabs

  none_carried : (a : Locked R A G W) (s : State) → AreSeen a s.metaslabs → Carried a a [] s s
  none_carried a s seen = record { turns = λ m. []; traced = traced_none rack area x a; seen = seen; same = refl; many = refl }

  module _ (part : ℕ → Part) (part_is : (m : ℕ) → part m ≡ part_in x m) where
    abbrev Goes : Locked R A G W → ℕ → Metaslab → Metaslab → Metaslab → Locked R A G W → Type 0
    Goes = Between rack area (LaneWent rack area) true part

    abbrev NoUber : Locked R A G W → State → State → Locked R A G W → Type 0
    NoUber a s t b = ⊥

    -- ---- one hold

    module _ (a b : Locked R A G W) (v : View) (act : Act) (s t : State) (parts : SameParts x s) (seen : AreSeen a s.metaslabs) (h : HeldAt Goes NoUber a v act s b t) where
      abbrev m : ℕ
      m = v.metaslab

      abbrev w : Went rack area a.turns.now a.passes.items m h.goes.before h.goes.after b.passes.items
      w = h.goes.goes.1

      was_came : CameTo rack area x m (left_in w.lock w.pass.seen) h.old
      was_came =
          let was = seen m w.lock w.pass w.lock_is w.pass_is in
          came_to rack area x w.lock w.pass.seen m h.old (subst (CameAt rack area x w.lock w.pass.seen m) (some_of (slice_get s.metaslabs m) was.0 h.old was.1 h.there) was.2)

      found_came : CameTo rack area x m h.goes.before h.found
      found_came = came_on rack area x m (left_in w.lock w.pass.seen) h.goes.before h.old h.found h.goes.pieces was_came (subst (λ p. IsMetaslab rack area p h.goes.pieces h.goes.before h.found) (part_is m) h.goes.found_is)
          (subst (λ p. Since (layout_in p) h.old h.found) (part_is m) h.goes.since)

      acts : MetaslabActs (layout_in (part_in x m)) act h.found h.left
      acts = subst (λ p. MetaslabActs (layout_in p) act h.found h.left) (parts m) h.acts

      left_came : CameTo rack area x m h.goes.after h.left
      left_came = came_on rack area x m h.goes.before h.goes.after h.found h.left h.goes.now found_came (subst (λ p. IsMetaslab rack area p h.goes.now h.goes.after h.left) (part_is m) h.goes.left_is)
          (acts_since (layout_in (part_in x m)) act h.found h.left acts)

      abbrev turn : LaneTurn
      turn = its_turn rack area x a b m h.goes.before h.goes.after h.goes.goes h.found h.left found_came left_came act acts

      bytes : KeepsBytes rack area (part_in x m) h.goes.before h.found h.goes.after
      bytes = subst (λ p. KeepsBytes rack area p h.goes.before h.found h.goes.after) (part_is m) h.goes.bytes

      traced : Traced rack area x a b (only_at m (turn ∷ [])) (On v act ∷ []) []
      traced = subst (λ u. Traced rack area x a b (only_at m (turn ∷ [])) (On u act ∷ []) []) (sym h.sees) (traced_hold rack area x a b m h.goes.before h.goes.after h.goes.goes h.found h.left found_came left_came act acts bytes)

      -- the metaslab, and the others
      here : CameAt rack area x w.lock w.next.seen m h.left
      here = came_at rack area x w.lock w.next.seen m h.goes.after h.left (ap (left_in w.lock) w.seen ∙ behind_is rack area x a b m h.goes.before h.goes.after h.goes.goes h.found h.left found_came left_came act acts) left_came

      abbrev SeenAt : ℕ → Type 0
      SeenAt k = (lock : Lock (Cell R A)) (pass : Caller (Past (Cell R A))) → slice_get a.turns.now k ≡ Some lock → slice_get (slice_set a.passes.items m w.next) k ≡ Some pass
          → (z : Metaslab) × (slice_get (slice_set s.metaslabs m h.left) k ≡ Some z) × CameAt rack area x lock pass.seen k z

      seen_here : SeenAt m
      seen_here lock pass there at = (
        h.left,
        get_set_same s.metaslabs m h.old h.left h.there,
        subst (λ (q : Lock (Cell R A) × Caller (Past (Cell R A))). CameAt rack area x q.0 q.1.seen m h.left)
            (λ i. (some_same w.lock lock (sym w.lock_is ∙ there) i, some_same w.next pass (sym (get_set_same a.passes.items m w.pass w.next w.pass_is) ∙ at) i)) here,
      )

      seen_away : (k : ℕ) → (k ≡ m → ⊥) → SeenAt k
      seen_away k not lock pass there at =
          let was = seen k lock pass there (sym (get_set_other a.passes.items m k w.next not) ∙ at) in
          (was.0, get_set_other s.metaslabs m k h.left not ∙ was.1, was.2)

      seen_each : (k : ℕ) → SeenAt k
      seen_each k = dite (ℕ_discrete k m) (λ same. subst SeenAt (sym same) seen_here) (λ not. seen_away k not)

      seen_then : AreSeen b t.metaslabs
      seen_then k lock pass there at =
          let z = seen_each k lock pass (sym (ap (λ ls. slice_get ls k) h.goes.goes.0) ∙ there) (sym (ap (λ ps. slice_get ps k) w.sets) ∙ at) in
          (z.0, ap (λ (u : State). slice_get u.metaslabs k) h.made ∙ z.1, z.2)

      one_carried : Carried a b (On v act ∷ []) s t
      one_carried = record {
        turns = only_at m (turn ∷ []);
        traced = traced;
        seen = seen_then;
        same = h.made ∙ ap (λ ys. record s { metaslabs = ys }) (sym (ap (λ (u : State). u.metaslabs) h.made));
        many = ap (λ (u : State). length u.metaslabs) h.made ∙ set_length s.metaslabs m h.left;
      }

    then_carried : (a b c : Locked R A G W) (hs ks : List Hold) (r s t : State) → Carried a b hs r s → Carried b c ks s t → Carried a c (hs ++ ks) r t
    then_carried a b c hs ks r s t one two = record {
      turns = λ k. one.turns k ++ two.turns k;
      traced = traced_then rack area x a b c one.turns two.turns hs ks [] [] one.traced two.traced;
      seen = two.seen;
      same = two.same ∙ ap (λ (u : State). record u { metaslabs = t.metaslabs }) one.same;
      many = two.many ∙ one.many;
    }

    -- ---- all of them

    pub carried : (holds : List Hold) (a b : Locked R A G W) (s t : State) → SameParts x s → AreSeen a s.metaslabs → FollowsBy Goes NoUber a holds s b t → Carried a b holds s t
    carried [] a b s t parts seen f = subst (λ (q : Locked R A G W × State). Carried a q.0 [] s q.1) (λ i. (sym f.0 i, sym f.1 i)) (none_carried a s seen)
    carried (On v act ∷ holds) a b s t parts seen f =
        let one = one_carried a f.0 v act s f.1 parts seen f.2 in
        then_carried a f.0 b (On v act ∷ []) holds s f.1 t one (carried holds f.0 b f.1 t (parts_then x s f.1 parts one.same) one.seen f.3)
    carried (OnUber u act ∷ holds) a b s t parts seen f = absurd f.3
