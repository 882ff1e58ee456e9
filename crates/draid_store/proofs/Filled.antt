-- Objects that were given contents one after another.
use Rattle.std.proofs.Common.{◌≡◌, ◌∙◌, ◌<◌, ◌+◌, ℕ, suc, List, [], ◌++◌, Option, Result, Ok, Err, arith, refl, ap, subst, length, take, drop}
use Rattle.std.proofs.lemmas.List.{append-nil, drop_all, take_all}
use Rattle.draid_names.specs.declared.room.Room.{Room}
use Rattle.draid_names.specs.declared.refusal.WriteFault.{WriteFault}
use Rattle.draid_names.specs.declared.refusal.WriteFault.TheVariants as fault
use Rattle.draid_rack.specs.declared.Rack as racks
use Rattle.draid_area.specs.declared.Area as areas
use Rattle.draid_spec.specs.declared.layout.Geometry.{Geometry}
use Rattle.draid_perm.specs.declared.perms.Perms.{Perms}
use Rattle.draid_script.specs.Line.{FillObjects}
use Rattle.draid_reply.specs.declared.reply.Reply.TheVariants.{Filled, FillRefused}
use Rattle.draid_session.specs.Choices.{choices_by}
use Rattle.draid_session.specs.Holds.{Hold}
use Rattle.draid_session.specs.Making.{content_of}
use Rattle.draid_session.specs.State.{State, Store}
use Rattle.draid_session.specs.Writes.{Fills, Refuses, Writes}
use Rattle.draid_store.specs.Answers.{WriteDoes}
use Rattle.draid_pool.specs.Carries.{CarriesOut, ReplyDoes}
use Rattle.draid_pool.specs.Pools.{Represents}
use Rattle.draid_pool.specs.declared.pool.Pool.{Pool}
use Rattle.draid_pool.proofs.Following.{follows_but, follows_on, same_layout}

-- a buffer that was written from end to end
pub whole : (n : ℕ) (x items : List ℕ) → length x ≡ length items → length items ≡ n → take n (x ++ drop (length x) items) ≡ x
whole n x items same long = ap (λ d. take n (x ++ d)) (drop_all (length x) items (omega (arith, same))) ∙ ap (λ y. take n y) (append-nil x) ∙ take_all n x (omega (arith, same, long))

-- the first so many objects were filled
abbrev pub FillsOf : State → (List Room → Option ℕ → Type 0) → (first len seed written : ℕ) → List Hold → Store → Type 0
FillsOf x chosen first len seed written holds store = Fills x.geometry x.perms chosen (λ o. content_of seed o len) first written x.store holds store

module _ {R A : Type 0} (rack : racks.Ghosts R) (area : areas.Ghosts A) (chosen : List Room → Option ℕ → Type 0) (first len seed : ℕ) (x : State) where
  pub filled_none : (pool : Pool R A) → Represents rack area pool x → CarriesOut rack area pool x (FillsOf x chosen first len seed 0)
  filled_none pool is = record { holds = []; reached = x; store = x.store; follows = refl; done = (refl, refl); represents = is }

  -- no memory for the first
  pub fill_unbegun : (pool : Pool R A) (count : ℕ) → 0 < count → Represents rack area pool x → CarriesOut rack area pool x (ReplyDoes x (choices_by chosen) (FillObjects first count len seed) (FillRefused first 0 fault.NoMemory))
  fill_unbegun pool count some is = record {
    holds = [];
    reached = x;
    store = x.store;
    follows = refl;
    done = (
      refl,
      record { front = []; back = []; mid = x.store; fewer = some; are = refl; fills = (refl, refl); refuses = (tt, refl) },
    );
    represents = is;
  }

  pub filled_all : (pool : Pool R A) (written count : ℕ) → written ≡ count → CarriesOut rack area pool x (FillsOf x chosen first len seed written)
      → CarriesOut rack area pool x (ReplyDoes x (choices_by chosen) (FillObjects first count len seed) (Filled first count))
  filled_all pool written count same m = record {
    holds = m.holds;
    reached = m.reached;
    store = m.store;
    follows = m.follows;
    done = (refl, refl, subst (λ k. FillsOf x chosen first len seed k m.holds m.store) same m.done);
    represents = m.represents;
  }

  module _ (mid new : Pool R A) (written : ℕ) (bytes : List ℕ) (result : Result Unit WriteFault) (is : bytes ≡ content_of seed (first + written) len)
      (m : CarriesOut rack area mid x (FillsOf x chosen first len seed written))
      (n : CarriesOut rack area new (record m.reached { store = m.store }) (WriteDoes (record m.reached { store = m.store }) chosen (first + written) bytes result)) where
    -- both, one after the other
    carried : (P : List Hold → Store → Type 0) → P (m.holds ++ n.holds) n.store → CarriesOut rack area new x P
    carried P done = record {
      holds = m.holds ++ n.holds;
      reached = record n.reached { store = m.reached.store };
      store = n.store;
      follows = follows_on m.holds n.holds x m.reached (record n.reached { store = m.reached.store }) m.follows (follows_but n.holds m.reached n.reached m.store n.follows);
      done = done;
      represents = n.represents;
    }

    pub filled_more : result ≡ Ok tt → CarriesOut rack area new x (FillsOf x chosen first len seed (written + 1))
    filled_more ok =
        let same = same_layout m.holds x m.reached m.follows in
        let wrote : Writes m.reached.geometry m.reached.perms chosen (first + written) bytes m.store n.holds n.store
        = subst (λ r. WriteDoes (record m.reached { store = m.store }) chosen (first + written) bytes r n.holds n.store) ok n.done in
        let gave = subst (λ b. Writes m.reached.geometry m.reached.perms chosen (first + written) b m.store n.holds n.store) is wrote in
        let laid = subst (λ (q : Geometry). Writes q m.reached.perms chosen (first + written) (content_of seed (first + written) len) m.store n.holds n.store) same.0 gave in
        let here = subst (λ (q : Perms). Writes x.geometry q chosen (first + written) (content_of seed (first + written) len) m.store n.holds n.store) same.1 laid in
        let next : suc written ≡ written + 1 = omega arith in
        carried (FillsOf x chosen first len seed (written + 1))
        (subst (λ k. FillsOf x chosen first len seed k (m.holds ++ n.holds) n.store) next (m.holds, n.holds, m.store, refl, m.done, here))

    pub fill_stopped : (count : ℕ) (why : WriteFault) → result ≡ Err why → written < count
        → CarriesOut rack area new x (ReplyDoes x (choices_by chosen) (FillObjects first count len seed) (FillRefused first written why))
    fill_stopped count why err fewer =
        let same = same_layout m.holds x m.reached m.follows in
        let refused : Refuses m.reached.geometry m.reached.perms chosen (first + written) bytes why m.store n.holds n.store
        = subst (λ r. WriteDoes (record m.reached { store = m.store }) chosen (first + written) bytes r n.holds n.store) err n.done in
        let gave = subst (λ b. Refuses m.reached.geometry m.reached.perms chosen (first + written) b why m.store n.holds n.store) is refused in
        let laid = subst (λ (q : Geometry). Refuses q m.reached.perms chosen (first + written) (content_of seed (first + written) len) why m.store n.holds n.store) same.0 gave in
        let here = subst (λ (q : Perms). Refuses x.geometry q chosen (first + written) (content_of seed (first + written) len) why m.store n.holds n.store) same.1 laid in
        carried (ReplyDoes x (choices_by chosen) (FillObjects first count len seed) (FillRefused first written why))
        (refl, record { front = m.holds; back = n.holds; mid = m.store; fewer = fewer; are = refl; fills = m.done; refuses = here })
