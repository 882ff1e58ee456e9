-- A pool outlives a failure that is rebuilt onto a spare while it is in use.
use Rattle.std.proofs.Common.{◌≡◌, ◌∙◌, ◌<◌, ◌⊎◌, ◌++◌, ◌==◌, ◌&&◌, ◌||◌, not, ℕ, zero, suc, Bool, true, false, nat_lt, List, [], ◌∷◌, Option, Some, None, length, inl, inr, arith, refl, sym, ap, subst, if◌then◌else◌}
use Rattle.std.specs.Prelude.{Contains, slice_get}
use Rattle.std.proofs.lemmas.Bool.{true≢false}
use Rattle.draid_spec.specs.declared.layout.Geometry.{Geometry}
use Rattle.draid_perm.specs.declared.perms.Perms.{Perms}
use Rattle.draid_map.specs.Place.{IsLayout}
use Rattle.draid_machine.specs.declared.event.Event.{Event}
use Rattle.draid_machine.specs.declared.event.Event.TheVariants as event
use Rattle.draid_machine.specs.declared.names.ArmName.{ArmName}
use Rattle.draid_machine.specs.declared.names.ArmName.TheVariants.{Leaf, Spare}
use Rattle.draid_machine.specs.After.{attached_core, is_gone_arm, is_gone_by, log_if, map_arm, rearranged_state, gone_state, live_state, lose_some, map_pass}
use Rattle.draid_machine.specs.Arms.{HasEmptyLog, first_leaf, first_spare, has_moved, is_fresh, is_here, is_silent, leaf_answers, lies_on, logged, online, passes, answers, fails, first_spares, has_column, leaf_at, same_leaf}
use Rattle.draid_machine.specs.Created.{IsReached, created, created_core, new_arm}
use Rattle.draid_machine.specs.Images.{Owned}
use Rattle.draid_machine.specs.Names.{has_name, name_eq, any_below}
use Rattle.draid_machine.specs.State as machine
use Rattle.draid_machine.specs.Step.{Step, PutStep}
use Rattle.draid_machine.proofs.Losing.{every_segment, first_listed}
use Rattle.draid_machine.proofs.Small.{absurd_test, both_true, equal, has_append, is_equal, name_refl, none_some, some_injective, true_left, any_at, below, either_true, not_false, true_both}
use Rattle.draid_layouts.specs.Layout.{layout_of}
use Rattle.draid_layouts.proofs.Layouts.{layout_is}
use Rattle.draid_script.specs.Line.{AttachSpare, TakeOffline, Command}
use Rattle.draid_reply.specs.declared.reply.Reply.TheVariants.{OfflineDone, Spared}
use Rattle.draid_session.specs.Bearing.{Failure, IsPoolWhole, IsSlotWhole, IsUp, IsWholeBut, AreIdle, IsOfUse, Outlives, OutlivesAll, Uses}
use Rattle.draid_session.specs.Choices.{Choices}
use Rattle.draid_session.specs.Holds.{Did, On, View}
use Rattle.draid_session.specs.Present.{AreReached}
use Rattle.draid_session.specs.Session.{CarriesOut}
use Rattle.draid_session.specs.State.{Metaslab, State}
use Rattle.draid_session.proofs.Bearing.{IsOfOffline, offline_of, one_goes}
use Rattle.draid_session.proofs.Present.{follows_reached, step_reached}
use Rattle.draid_session.proofs.Reaching.{same_reached, fresh_reached}
use Rattle.draid_session.proofs.Rebuilt.{AtState, commit_still, follows_keep, log_still}
use Rattle.draid_session.proofs.Visited.{layout_stays}
use Rattle.draid_machine.specs.declared.names.Key.{Key}
use Rattle.draid_machine.proofs.Fitted.{every_fit}
use Rattle.draid_machine.proofs.Rows.{reached_sound}
use Rattle.draid_reply.specs.declared.reply.Reply.{Reply}
use Rattle.draid_session.proofs.Outliving.{FirstUp, FirstsUp, HasFresh, HasGood, IsReadySlot, IsSpared, SameUp, StandsIn, attach_none, back_there, first_kept, fresh_still, joined_after, laid_follows, listed_still, own_fresh, own_listed, own_order, own_ready, passes_same, rebuilt_whole, slot_still, spare_at, spare_last, stands_same, up_commit, up_log}
use Rattle.draid_session.specs.Making.{IsFresh}
use Rattle.draid_session.proofs.Whole.{AtHome, HomesUp, HomesUpBy, at_home_is, homes_but, homes_up, none_fails}

-- ---- small things

and_none : (a b : Bool) → b ≡ false → (a && b) ≡ false
and_none true b is = is
and_none false b is = refl

none_within : (k : ℕ) (f : ℕ → Bool) → ((x : ℕ) → x < k → f x ≡ false) → any_below k f ≡ false
none_within zero f none = refl
none_within (suc k) f none = by (any_below k f) (f k) (none_within k f (λ x less. none x (omega (arith, less)))) (none k (omega arith))
  where
    by : (a b : Bool) → a ≡ false → b ≡ false → (a || b) ≡ false
    by a b first second = rw first second

pub some_within : (k : ℕ) (f : ℕ → Bool) → any_below k f ≡ true → (c : ℕ) × (c < k) × (f c ≡ true)
some_within zero f is = absurd (true≢false (sym is))
some_within (suc k) f is = elim (either_true (any_below k f) (f k) is) [
  | inl before ↦ (let z = some_within k f before in (z.0, (let low = z.1 in omega (arith, low)), z.2))
  | inr last ↦ (k, omega arith, last)
]

silent_not : (q : machine.Core) (leaf : ℕ) → leaf_answers q leaf ≡ true → is_silent q [] leaf ≡ false
silent_not q leaf up = by (leaf_answers q leaf) up
  where
    by : (b : Bool) → b ≡ true → (not b || false) ≡ false
    by b is = rw is refl

silent_none : (q : machine.Core) (o : Option ℕ) → passes o (leaf_answers q) ≡ true → passes o (is_silent q []) ≡ false
silent_none q None up = refl
silent_none q (Some leaf) up = silent_not q leaf up

-- ---- events of a pool in use

use_same : (l : machine.Layout) (v : View) (e : Event) (w new : machine.State) → IsOfUse (On v (Did e new)) → Step l w e new → SameUp w new
use_same l v (event.Begin key first stripes len birth digest) w new of s = subst (SameUp w) (sym s.made) (record { order = refl; answers = λ leaf. refl })
use_same l v (event.Put key landed failed) w new of s = subst (SameUp w) (sym s.made) (record { order = refl; answers = λ leaf. up_log _ s.h.birth (w.core.arm (Leaf leaf)) })
use_same l v (event.Finish key) w new of s = subst (SameUp w) (sym s.made) (by (nat_lt l.parity s.m))
  where
    by : (c : Bool) → SameUp w (if c then gone_state w key else live_state w key s.h)
    by true = record { order = refl; answers = λ leaf. refl }
    by false = record { order = refl; answers = λ leaf. refl }
use_same l v (event.Abort key) w new of s = subst (SameUp w) (sym s.made) (record { order = refl; answers = λ leaf. refl })
use_same l v (event.Free key group) w new of s = subst (SameUp w) (sym s.made) (record { order = refl; answers = λ leaf. refl })
use_same l v (event.Fetch key failed) w new of s = subst (SameUp w) (sym s.made) (record { order = refl; answers = λ leaf. refl })
use_same l v (event.Close t) w new of s = subst (SameUp w) (sym s.made) (record { order = refl; answers = λ leaf. refl })
use_same l v (event.Seal t failed) w new of s = subst (SameUp w) (sym s.made) (record { order = refl; answers = λ leaf. up_log _ t (w.core.arm (Leaf leaf)) })
use_same l v (event.Commit t) w new of s = subst (SameUp w) (sym s.made) (record { order = refl; answers = λ leaf. up_commit t (w.core.arm (Leaf leaf)) })
use_same l v e w new of s = absurd of

use_pass : (l : machine.Layout) (v : View) (e : Event) (w new : machine.State) → IsOfUse (On v (Did e new)) → Step l w e new → w.core.pass ≡ None → new.core.pass ≡ None
use_pass l v (event.Begin key first stripes len birth digest) w new of s none = ap (λ (x : machine.State). x.core.pass) s.made ∙ none
use_pass l v (event.Put key landed failed) w new of s none = ap (λ (x : machine.State). x.core.pass) s.made ∙ none
use_pass l v (event.Finish key) w new of s none = ap (λ (x : machine.State). x.core.pass) s.made ∙ by (nat_lt l.parity s.m)
  where
    by : (c : Bool) → (if c then gone_state w key else live_state w key s.h).core.pass ≡ None
    by true = none
    by false = none
use_pass l v (event.Abort key) w new of s none = ap (λ (x : machine.State). x.core.pass) s.made ∙ none
use_pass l v (event.Free key group) w new of s none = ap (λ (x : machine.State). x.core.pass) s.made ∙ none
use_pass l v (event.Fetch key failed) w new of s none = ap (λ (x : machine.State). x.core.pass) s.made ∙ none
use_pass l v (event.Close t) w new of s none = ap (λ (x : machine.State). x.core.pass) s.made ∙ none
use_pass l v (event.Seal t failed) w new of s none = ap (λ (x : machine.State). x.core.pass) s.made ∙ ap (map_pass (lose_some (lies_on l w.core (is_silent w.core failed.items)))) none
use_pass l v (event.Commit t) w new of s none = ap (λ (x : machine.State). x.core.pass) s.made ∙ none
use_pass l v e w new of s none = absurd of

-- ---- an arm that has missed nothing stays so

pub record IsSure (l : machine.Layout) (slot : ℕ) (n : ArmName) (w : machine.State) : Type 0 where
  pub stands : StandsIn slot n w.core
  pub homes : HomesUp l w.core n
  pub empty : HasEmptyLog w.core n

homes_same : (l : machine.Layout) (w new : machine.State) (n : ArmName) → SameUp w new → HomesUp l w.core n → HomesUp l new.core n
homes_same l w new (Leaf m) same homes = tt
homes_same l w new (Spare t) same homes =
    subst (λ (o : ℕ → List ArmName). HomesUpBy l o (leaf_answers new.core) (Spare t)) (sym same.order)
    (λ x inside column. passes_same w.core new.core (first_leaf (w.core.order (l.home (first_spares w.core.order) t x))) same.answers (homes x inside column))

module _ (l : machine.Layout) (lay : machine.IsLayout l) (w : machine.State) (reached : IsReached l w) (slot : ℕ) (n : ArmName) (is : IsSure l slot n w) where
  owned_here : Owned l w
  owned_here = every_segment l w lay reached

  answers_for : (k : ArmName) → has_name (w.core.order slot) k ≡ true → IsUp w.core k → HomesUp l w.core k → (x c : ℕ) → c < l.columns → x < l.stripes → has_name (w.core.order (l.slot_of x c)) k ≡ true → answers l w.core k x ≡ true
  answers_for (Leaf m) listed up homes x c column inside there = up
  answers_for (Spare t) listed up homes x c column inside there =
      let a = owned_here.listed.data_of slot (Spare t) listed in
      let fits = (owned_here.spares t a.0 a.1).0 in
      ap (λ b. passes (if b then first_leaf (w.core.order (l.home (first_spares w.core.order) t x)) else None) (leaf_answers w.core)) (below t l.spares fits)
      ∙ homes x inside (any_at l.columns (λ c. has_name (w.core.order (l.slot_of x c)) (Spare t)) c column there)

  -- a put lands there
  put_lands : (key : Key) (landed : List ArmName) (new : machine.State) (s : PutStep l w key landed [] new) → (has_name (w.core.order (l.slot_of s.h.first s.c)) n && not (has_name landed n)) ≡ false
  put_lands key landed new s = by (has_name (w.core.order (l.slot_of s.h.first s.c)) n) refl
    where
      inside : s.h.first < l.stripes
      inside =
          let within = (reached_sound l lay w reached).core.inside key s.h s.found in
          let some = (every_fit l w lay reached).core.held.some key s.h s.found in
          omega (arith, within, some)

      landed_is : has_name (w.core.order (l.slot_of s.h.first s.c)) n ≡ true → has_name landed n ≡ true
      landed_is there =
          s.lands n there
          ∙ true_both (answers l w.core n s.h.first) (not (fails l w.core [] n s.h.first)) (answers_for n is.stands.0 is.stands.1 is.homes s.h.first s.c s.more inside there)
          (not_false (fails l w.core [] n s.h.first) (none_fails (leaf_at l w.core.order n s.h.first)))

      off : (b : Bool) → b ≡ true → (true && not b) ≡ false
      off b at = rw at refl

      by : (b : Bool) → has_name (w.core.order (l.slot_of s.h.first s.c)) n ≡ b → (b && not (has_name landed n)) ≡ false
      by false at = refl
      by true at = off (has_name landed n) (landed_is at)

  -- it lies on no silent leaf
  lies_by : (k : ArmName) → IsUp w.core k → HomesUp l w.core k → has_name (w.core.order slot) k ≡ true → lies_on l w.core (is_silent w.core []) k ≡ false
  lies_by (Leaf m) up homes listed = silent_not w.core m up
  lies_by (Spare t) up homes listed =
      none_within l.stripes (λ x. has_column l w.core (Spare t) x && passes (leaf_at l w.core.order (Spare t) x) (is_silent w.core [])) (λ x inside. one x inside (has_column l w.core (Spare t) x) refl)
    where
      fits : t < l.spares
      fits = (let a = owned_here.listed.data_of slot (Spare t) listed in (owned_here.spares t a.0 a.1).0)

      one : (x : ℕ) → x < l.stripes → (b : Bool) → has_column l w.core (Spare t) x ≡ b → (b && passes (leaf_at l w.core.order (Spare t) x) (is_silent w.core [])) ≡ false
      one x inside false at = refl
      one x inside true at =
          ap (λ b. passes (if b then first_leaf (w.core.order (l.home (first_spares w.core.order) t x)) else None) (is_silent w.core [])) (below t l.spares fits)
          ∙ silent_none w.core (first_leaf (w.core.order (l.home (first_spares w.core.order) t x))) (homes x inside at)

  log_on : (v : View) (e : Event) (new : machine.State) → IsOfUse (On v (Did e new)) → Step l w e new → HasEmptyLog new.core n
  log_on v (event.Begin key first stripes len birth digest) new of s = subst (λ (x : machine.State). HasEmptyLog x.core n) (sym s.made) is.empty
  log_on v (event.Put key landed failed) new of s =
      let s' : PutStep l w key landed [] new = subst (λ ls. PutStep l w key landed ls new) of s in
      subst (λ (x : machine.State). HasEmptyLog x.core n) (sym s'.made) (λ g. log_still n (has_name (w.core.order (l.slot_of s'.h.first s'.c)) n && not (has_name landed n)) s'.h.birth g (w.core.arm n) (put_lands key landed new s') (is.empty g))
  log_on v (event.Finish key) new of s = subst (λ (x : machine.State). HasEmptyLog x.core n) (sym s.made) (by (nat_lt l.parity s.m))
    where
      by : (c : Bool) → HasEmptyLog (if c then gone_state w key else live_state w key s.h).core n
      by true = is.empty
      by false = is.empty
  log_on v (event.Abort key) new of s = subst (λ (x : machine.State). HasEmptyLog x.core n) (sym s.made) is.empty
  log_on v (event.Free key group) new of s = subst (λ (x : machine.State). HasEmptyLog x.core n) (sym s.made) is.empty
  log_on v (event.Fetch key failed) new of s = subst (λ (x : machine.State). HasEmptyLog x.core n) (sym s.made) is.empty
  log_on v (event.Close t) new of s = subst (λ (x : machine.State). HasEmptyLog x.core n) (sym s.made) is.empty
  log_on v (event.Seal t failed) new of s =
      let well : lies_on l w.core (is_silent w.core failed.items) n ≡ false = subst (λ (ls : List ℕ). lies_on l w.core (is_silent w.core ls) n ≡ false) (sym of) (lies_by n is.stands.1 is.homes is.stands.0) in
      subst (λ (x : machine.State). HasEmptyLog x.core n) (sym s.made) (λ g. log_still n (s.wrote && lies_on l w.core (is_silent w.core failed.items) n) t g (w.core.arm n) (and_none s.wrote (lies_on l w.core (is_silent w.core failed.items) n) well) (is.empty g))
  log_on v (event.Commit t) new of s = subst (λ (x : machine.State). HasEmptyLog x.core n) (sym s.made) (λ g. commit_still n (is_gone_arm t (w.core.arm n)) (w.core.arm n) g (is.empty g))
  log_on v e new of s = absurd of

  sure_on : (v : View) (e : Event) (new : machine.State) → IsOfUse (On v (Did e new)) → Step l w e new → IsSure l slot n new
  sure_on v e new of s =
      let same = use_same l v e w new of s in
      record { stands = stands_same slot n w new same is.stands; homes = homes_same l w new n same is.homes; empty = log_on v e new of s }

-- ---- slots of a pool in use

fresh_log : (c : Bool) (t : ℕ) (o : Option machine.Arm) → is_fresh o ≡ true → is_fresh (map_arm (log_if c t) o) ≡ true
fresh_log c t None fresh = fresh
fresh_log c t (Some a) fresh = fresh

not_gone : (t : ℕ) (g : Option machine.Gone) → g ≡ None → is_gone_by t g ≡ false
not_gone t g none = rw none refl

fresh_if : (c : Bool) (o : Option machine.Arm) → c ≡ false → is_fresh o ≡ true → is_fresh (if c then None else o) ≡ true
fresh_if true o is fresh = absurd (true≢false is)
fresh_if false o is fresh = fresh

gone_arm : (t : ℕ) (o : Option machine.Arm) (a : machine.Arm) → o ≡ Some a → a.gone ≡ None → is_gone_arm t o ≡ false
gone_arm t None a found here = absurd (none_some None a refl found)
gone_arm t (Some b) a found here = not_gone t b.gone (ap (λ (c : machine.Arm). c.gone) (some_injective b a found) ∙ here)

-- a spare that came new or moved is so still
fresh_on : (l : machine.Layout) → machine.IsLayout l → (w : machine.State) → IsReached l w → (slot : ℕ) (n : ArmName) → has_name (w.core.order slot) n ≡ true → is_fresh (w.core.arm n) ≡ true
    → (v : View) (e : Event) (new : machine.State) → IsOfUse (On v (Did e new)) → Step l w e new → is_fresh (new.core.arm n) ≡ true
fresh_on l lay w r slot n listed fresh v (event.Begin key first stripes len birth digest) new of s = subst (λ (x : machine.State). is_fresh (x.core.arm n) ≡ true) (sym s.made) fresh
fresh_on l lay w r slot n listed fresh v (event.Put key landed failed) new of s = subst (λ (x : machine.State). is_fresh (x.core.arm n) ≡ true) (sym s.made) (fresh_log _ s.h.birth (w.core.arm n) fresh)
fresh_on l lay w r slot n listed fresh v (event.Finish key) new of s = subst (λ (x : machine.State). is_fresh (x.core.arm n) ≡ true) (sym s.made) (by (nat_lt l.parity s.m))
  where
    by : (c : Bool) → is_fresh ((if c then gone_state w key else live_state w key s.h).core.arm n) ≡ true
    by true = fresh
    by false = fresh
fresh_on l lay w r slot n listed fresh v (event.Abort key) new of s = subst (λ (x : machine.State). is_fresh (x.core.arm n) ≡ true) (sym s.made) fresh
fresh_on l lay w r slot n listed fresh v (event.Free key group) new of s = subst (λ (x : machine.State). is_fresh (x.core.arm n) ≡ true) (sym s.made) fresh
fresh_on l lay w r slot n listed fresh v (event.Fetch key failed) new of s = subst (λ (x : machine.State). is_fresh (x.core.arm n) ≡ true) (sym s.made) fresh
fresh_on l lay w r slot n listed fresh v (event.Close t) new of s = subst (λ (x : machine.State). is_fresh (x.core.arm n) ≡ true) (sym s.made) fresh
fresh_on l lay w r slot n listed fresh v (event.Seal t failed) new of s = subst (λ (x : machine.State). is_fresh (x.core.arm n) ≡ true) (sym s.made) (fresh_log _ t (w.core.arm n) fresh)
fresh_on l lay w r slot n listed fresh v (event.Commit t) new of s =
    let a = (every_segment l w lay r).listed.data_of slot n listed in
    subst (λ (x : machine.State). is_fresh (x.core.arm n) ≡ true) (sym s.made) (fresh_if (is_gone_arm t (w.core.arm n)) (w.core.arm n) (gone_arm t (w.core.arm n) a.0 a.1 a.2) fresh)
fresh_on l lay w r slot n listed fresh v e new of s = absurd of

-- a slot whose spare lies somewhere on another slot's disk
pub record IsTouching (l : machine.Layout) (b slot : ℕ) (q : machine.Core) : Type 0 where
  pub t : ℕ
  pub listed : has_name (q.order slot) (Spare t) ≡ true
  pub x : ℕ
  pub inside : x < l.stripes
  pub column : any_below l.columns (λ c. has_name (q.order (l.slot_of x c)) (Spare t)) ≡ true
  pub home : l.home (first_spares q.order) t x ≡ b

-- the state of a pool of which a slot's disk is offline
pub record IsDegraded (l : machine.Layout) (children b : ℕ) (w : machine.State) : Type 0 where
  pub pass : w.core.pass ≡ None
  pub firsts : (slot : ℕ) → slot < children → (slot ≡ b → ⊥) → FirstUp w.core slot
  pub slots : (slot : ℕ) → slot < children → (slot ≡ b → ⊥) → ((n : ArmName) × IsSure l slot n w) ⊎ IsTouching l b slot w.core

first_same : (w new : machine.State) (slot : ℕ) → SameUp w new → FirstUp w.core slot → FirstUp new.core slot
first_same w new slot same first none =
    subst (λ ns. passes (first_leaf ns) (leaf_answers new.core) ≡ true) (sym (ap (λ (f : ℕ → List ArmName). f slot) same.order))
    (passes_same w.core new.core (first_leaf (w.core.order slot)) same.answers (first (subst (λ ns. first_spare ns ≡ None) (ap (λ (f : ℕ → List ArmName). f slot) same.order) none)))

touching_same : (l : machine.Layout) (b slot : ℕ) (w new : machine.State) → SameUp w new → IsTouching l b slot w.core → IsTouching l b slot new.core
touching_same l b slot w new same is = record {
  t = is.t;
  listed = subst (λ (o : ℕ → List ArmName). has_name (o slot) (Spare is.t) ≡ true) (sym same.order) is.listed;
  x = is.x;
  inside = is.inside;
  column = subst (λ (o : ℕ → List ArmName). any_below l.columns (λ c. has_name (o (l.slot_of is.x c)) (Spare is.t)) ≡ true) (sym same.order) is.column;
  home = subst (λ (o : ℕ → List ArmName). l.home (first_spares o) is.t is.x ≡ b) (sym same.order) is.home;
}

module _ (geometry : Geometry) (perms : Perms) (lay : IsLayout geometry perms) (m : ℕ) where
  -- as a slot's disk is offline
  degraded_on : (b : ℕ) (v : View) (e : Event) (w new : machine.State) → IsOfUse (On v (Did e new)) → IsReached (layout_of geometry perms m) w → Step (layout_of geometry perms m) w e new
      → IsDegraded (layout_of geometry perms m) geometry.spec.children b w → IsDegraded (layout_of geometry perms m) geometry.spec.children b new
  degraded_on b v e w new of r s is =
      let same = use_same (layout_of geometry perms m) v e w new of s in
      record {
        pass = use_pass (layout_of geometry perms m) v e w new of s is.pass;
        firsts = λ slot inside other. first_same w new slot same (is.firsts slot inside other);
        slots = λ slot inside other. elim (is.slots slot inside other) [
          | inl sure ↦ inl (sure.0, sure_on (layout_of geometry perms m) (layout_is geometry perms m lay) w r slot sure.0 sure.1 v e new of s)
          | inr touching ↦ inr (touching_same (layout_of geometry perms m) b slot w new same touching)
        ];
      }

  -- as it has its spare
  sure_of : (w : machine.State) → IsReached (layout_of geometry perms m) w → FirstsUp geometry.spec.children w.core → (slot : ℕ) (n : ArmName) → has_name (w.core.order slot) n ≡ true → IsUp w.core n → HasEmptyLog w.core n
      → IsSure (layout_of geometry perms m) slot n w
  sure_of w r firsts slot n listed up empty = record { stands = (listed, up); homes = homes_up geometry perms m lay w r firsts n; empty = empty }

  spared_on : (b u : ℕ) (v : View) (e : Event) (w new : machine.State) → IsOfUse (On v (Did e new)) → IsReached (layout_of geometry perms m) w → Step (layout_of geometry perms m) w e new
      → IsSpared geometry.spec.children b u w → IsSpared geometry.spec.children b u new
  spared_on b u v e w new of r s is = record {
    pass = use_pass (layout_of geometry perms m) v e w new of s is.pass;
    slots = λ slot inside. record { first = first_same w new slot same (is.slots slot inside).first; arm = arm slot (is.slots slot inside).arm };
    listed = subst (λ (o : ℕ → List ArmName). has_name (o b) (Spare u) ≡ true) (sym same.order) is.listed;
    fresh = fresh_on (layout_of geometry perms m) (layout_is geometry perms m lay) w r b (Spare u) is.listed is.fresh v e new of s;
  }
    where
      same : SameUp w new
      same = use_same (layout_of geometry perms m) v e w new of s

      arm : (slot : ℕ) → HasGood w.core slot ⊎ HasFresh w.core slot → HasGood new.core slot ⊎ HasFresh new.core slot
      arm slot (inl good) =
          let sure = sure_on (layout_of geometry perms m) (layout_is geometry perms m lay) w r slot good.n (sure_of w r (λ k inside. (is.slots k inside).first) slot good.n good.listed good.up good.empty) v e new of s in
          inl (record { n = good.n; listed = sure.stands.0; up = sure.stands.1; empty = sure.empty })
      arm slot (inr fresh) = inr (record {
        t = fresh.t;
        listed = subst (λ (o : ℕ → List ArmName). has_name (o slot) (Spare fresh.t) ≡ true) (sym same.order) fresh.listed;
        fresh = fresh_on (layout_of geometry perms m) (layout_is geometry perms m lay) w r slot (Spare fresh.t) fresh.listed fresh.fresh v e new of s;
      })

  -- as all slots are whole
  pub record IsAllWhole (w : machine.State) : Type 0 where
    pub pass : w.core.pass ≡ None
    pub slots : (slot : ℕ) → slot < geometry.spec.children → IsSlotWhole w.core slot

  whole_on : (v : View) (e : Event) (w new : machine.State) → IsOfUse (On v (Did e new)) → IsReached (layout_of geometry perms m) w → Step (layout_of geometry perms m) w e new → IsAllWhole w → IsAllWhole new
  whole_on v e w new of r s is = record { pass = use_pass (layout_of geometry perms m) v e w new of s is.pass; slots = slots }
    where
      slots : (slot : ℕ) → slot < geometry.spec.children → IsSlotWhole new.core slot
      slots slot inside =
          let whole = is.slots slot inside in
          let sure = sure_on (layout_of geometry perms m) (layout_is geometry perms m lay) w r slot whole.n (sure_of w r (λ k low. (is.slots k low).first) slot whole.n whole.listed whole.up whole.empty) v e new of s in
          record { n = whole.n; listed = sure.stands.0; up = sure.stands.1; empty = sure.empty; first = first_same w new slot (use_same (layout_of geometry perms m) v e w new of s) whole.first }

-- ---- the spare comes

first_some : (ns : List ArmName) (m : ℕ) → has_name ns (Leaf m) ≡ true → (k : ℕ) × (first_leaf ns ≡ Some k)
first_some [] m at = absurd (true≢false (sym at))
first_some (Leaf j ∷ ns) m at = (j, refl)
first_some (Spare t ∷ ns) m at = first_some ns m at

module _ (geometry : Geometry) (perms : Perms) (lay : IsLayout geometry perms) (m : ℕ) (w : machine.State) (r : IsReached (layout_of geometry perms m) w) (b u last : ℕ) (unused : w.core.arm (Spare u) ≡ None)
    (behind : IsReached (layout_of geometry perms m) (rearranged_state (layout_of geometry perms m) w last (attached_core w.core b (Spare u) last))) (slot_b : b < geometry.spec.children) where
  abbrev l : machine.Layout
  l = layout_of geometry perms m

  owned : Owned (layout_of geometry perms m) w
  owned = every_segment (layout_of geometry perms m) w (layout_is geometry perms m lay) r

  abbrev order' : ℕ → List ArmName
  order' = (attached_core w.core b (Spare u) last).order

  -- what is listed is so still
  listed_on : (slot : ℕ) (n : ArmName) → has_name (w.core.order slot) n ≡ true → has_name (order' slot) n ≡ true
  listed_on slot n at = by (b == slot) refl
    where
      by : (c : Bool) → (b == slot) ≡ c → has_name (if c then w.core.order b ++ Spare u ∷ [] else w.core.order slot) n ≡ true
      by false is = at
      by true is = has_append (w.core.order b) (Spare u ∷ []) n ∙ true_left (has_name (w.core.order b) n) (has_name (Spare u ∷ []) n) (subst (λ k. has_name (w.core.order k) n ≡ true) (sym (is_equal b slot is)) at)

  other_order : (slot : ℕ) → (slot ≡ b → ⊥) → order' slot ≡ w.core.order slot
  other_order slot other = by (b == slot) refl
    where
      by : (c : Bool) → (b == slot) ≡ c → (if c then w.core.order b ++ Spare u ∷ [] else w.core.order slot) ≡ w.core.order slot
      by false is = refl
      by true is = absurd (other (sym (is_equal b slot is)))

  -- a spare that lay on the slot's disk lies elsewhere now
  moves : (slot : ℕ) (is : IsTouching (layout_of geometry perms m) b slot w.core) → has_moved (layout_of geometry perms m) w.core (attached_core w.core b (Spare u) last) (Spare is.t) ≡ true
  moves slot is =
      any_at (layout_of geometry perms m).stripes (λ x. has_column (layout_of geometry perms m) (attached_core w.core b (Spare u) last) (Spare is.t) x
      && not (same_leaf (leaf_at (layout_of geometry perms m) w.core.order (Spare is.t) x) (leaf_at (layout_of geometry perms m) order' (Spare is.t) x))) is.x is.inside
      (true_both _ _ column (not_false _ apart))
    where
      c : (k : ℕ) × (k < geometry.g) × (has_name (w.core.order ((layout_of geometry perms m).slot_of is.x k)) (Spare is.t) ≡ true)
      c = some_within geometry.g (λ c. has_name (w.core.order ((layout_of geometry perms m).slot_of is.x c)) (Spare is.t)) is.column

      column : has_column (layout_of geometry perms m) (attached_core w.core b (Spare u) last) (Spare is.t) is.x ≡ true
      column = any_at geometry.g (λ c. has_name (order' ((layout_of geometry perms m).slot_of is.x c)) (Spare is.t)) c.0 c.1 (listed_on ((layout_of geometry perms m).slot_of is.x c.0) (Spare is.t) c.2)

      now : AtHome geometry perms m lay (rearranged_state (layout_of geometry perms m) w last (attached_core w.core b (Spare u) last)) behind is.t is.x
      now = at_home_is geometry perms m lay (rearranged_state (layout_of geometry perms m) w last (attached_core w.core b (Spare u) last)) behind is.t is.x column

      home' : ℕ
      home' = (layout_of geometry perms m).home (first_spares order') is.t is.x

      away : (layout_of geometry perms m).home (first_spares order') is.t is.x ≡ b → ⊥
      away same = spare_last (layout_of geometry perms m) w b u last owned.listed unused (w.core.order b)
          (subst (λ ns. first_spare ns ≡ None) (own_order (layout_of geometry perms m) w b u last owned.listed unused) (subst (λ k. first_spare (order' k) ≡ None) same now.free))

      low : is.t < geometry.spec.spares
      low = (let a = owned.listed.data_of slot (Spare is.t) is.listed in (owned.spares is.t a.0 a.1).0)

      -- where it lay, and where it lies
      has_disk : (slot : ℕ) → slot < geometry.spec.children → (k : ℕ) × (first_leaf (w.core.order slot) ≡ Some k)
      has_disk slot inside = (let leaf = (every_fit (layout_of geometry perms m) w (layout_is geometry perms m lay) r).core.order.leaf slot inside in first_some (w.core.order slot) leaf.0 leaf.1)

      old : (k : ℕ) × (first_leaf (w.core.order b) ≡ Some k)
      old = has_disk b slot_b

      new : (k : ℕ) × (first_leaf (w.core.order ((layout_of geometry perms m).home (first_spares order') is.t is.x)) ≡ Some k)
      new = has_disk ((layout_of geometry perms m).home (first_spares order') is.t is.x) ((layout_is geometry perms m lay).homes (first_spares order') is.x is.t)

      lay_on : leaf_at (layout_of geometry perms m) w.core.order (Spare is.t) is.x ≡ Some old.0
      lay_on =
          ap (λ c. if c then first_leaf (w.core.order ((layout_of geometry perms m).home (first_spares w.core.order) is.t is.x)) else None) (below is.t geometry.spec.spares low)
          ∙ (ap (λ k. first_leaf (w.core.order k)) is.home ∙ old.1)

      lies_on_now : leaf_at (layout_of geometry perms m) order' (Spare is.t) is.x ≡ Some new.0
      lies_on_now =
          ap (λ c. if c then first_leaf (order' ((layout_of geometry perms m).home (first_spares order') is.t is.x)) else None) (below is.t geometry.spec.spares low)
          ∙ (ap first_leaf (other_order ((layout_of geometry perms m).home (first_spares order') is.t is.x) away) ∙ new.1)

      differ : (old.0 == new.0) ≡ false
      differ = by (old.0 == new.0) refl
        where
          by : (c : Bool) → (old.0 == new.0) ≡ c → (old.0 == new.0) ≡ false
          by false is_ = is_
          by true is_ =
              let same = is_equal old.0 new.0 is_ in
              absurd (away (owned.listed.one ((layout_of geometry perms m).home (first_spares order') is.t is.x) b (Leaf new.0)
              (first_listed (w.core.order ((layout_of geometry perms m).home (first_spares order') is.t is.x)) new.0 new.1)
              (subst (λ k. has_name (w.core.order b) (Leaf k) ≡ true) same (first_listed (w.core.order b) old.0 old.1))))

      apart : same_leaf (leaf_at (layout_of geometry perms m) w.core.order (Spare is.t) is.x) (leaf_at (layout_of geometry perms m) order' (Spare is.t) is.x) ≡ false
      apart = ap (λ o. same_leaf o (leaf_at (layout_of geometry perms m) order' (Spare is.t) is.x)) lay_on ∙ (ap (same_leaf (Some old.0)) lies_on_now ∙ differ)

  -- each other slot is ready then
  slot_ready : (slot : ℕ) → slot < geometry.spec.children → IsDegraded (layout_of geometry perms m) geometry.spec.children b w → IsReadySlot (joined_after (layout_of geometry perms m) w b u last owned.listed unused) slot
  slot_ready slot inside is = by (b == slot) refl
    where
      other_of : (b == slot) ≡ false → slot ≡ b → ⊥
      other_of at same = absurd_test (b == slot) (equal b slot (sym same)) at

      by : (c : Bool) → (b == slot) ≡ c → IsReadySlot (joined_after (layout_of geometry perms m) w b u last owned.listed unused) slot
      by true at = subst (IsReadySlot (joined_after (layout_of geometry perms m) w b u last owned.listed unused)) (is_equal b slot at) (own_ready (layout_of geometry perms m) w b u last owned.listed unused)
      by false at = elim (is.slots slot inside (other_of at)) [
        | inl sure ↦ slot_still (layout_of geometry perms m) w b u last owned.listed unused slot at
            (record { first = is.firsts slot inside (other_of at); arm = inl (record { n = sure.0; listed = sure.1.stands.0; up = sure.1.stands.1; empty = sure.1.empty }) })
        | inr touching ↦ (
            let a = owned.listed.data_of slot (Spare touching.t) touching.listed in
            record {
              first = first_kept (layout_of geometry perms m) w b u last owned.listed unused slot at (is.firsts slot inside (other_of at));
              arm = inr (record {
                t = touching.t;
                listed = listed_still (layout_of geometry perms m) w b u last owned.listed unused slot at (Spare touching.t) touching.listed;
                fresh = fresh_still (layout_of geometry perms m) w b u last owned.listed unused slot at touching.t touching.listed a.0 a.1 (inr (moves slot touching));
              });
            })
      ]

-- ---- states with a layout

pub record IsLaid (geometry : Geometry) (perms : Perms) (x : State) : Type 0 where
  pub g : x.geometry ≡ geometry
  pub p : x.perms ≡ perms
  pub reached : AreReached x
  pub inside : (m : ℕ) (y : Metaslab) → slice_get x.metaslabs m ≡ Some y → m < geometry.props.metaslabs

module _ (geometry : Geometry) (perms : Perms) where
  reached_at : (x : State) → IsLaid geometry perms x → (m : ℕ) (y : Metaslab) → slice_get x.metaslabs m ≡ Some y → IsReached (layout_of geometry perms m) y.world
  reached_at x laid m y there =
      let g = laid.g in
      let p = laid.p in
      let same : layout_of x.geometry x.perms m ≡ layout_of geometry perms m = λ i. layout_of (g i) (p i) m in
      subst (λ (l : machine.Layout). IsReached l y.world) same (laid.reached.each m y there)

  laid_layout : (x : State) → IsLaid geometry perms x → IsLayout geometry perms → IsLayout x.geometry x.perms
  laid_layout x laid lay = subst (λ (g : Geometry). IsLayout g x.perms) (sym laid.g) (subst (IsLayout geometry) (sym laid.p) lay)

  module _ (choices : Choices) where
    command_laid : (command : Command) (reply : Reply) (x z : State) → CarriesOut choices command reply x z → IsLaid geometry perms x → IsLaid geometry perms z
    command_laid command reply x z it laid =
        let same = layout_stays it.holds x it.mid it.follows in
        record {
          g = ap (λ (s : State). s.geometry) it.made ∙ (same.0 ∙ laid.g);
          p = ap (λ (s : State). s.perms) it.made ∙ (same.1 ∙ laid.p);
          reached = same_reached it.mid z (ap (λ (s : State). s.geometry) it.made) (ap (λ (s : State). s.perms) it.made) (ap (λ (s : State). s.metaslabs) it.made) (follows_reached it.holds x it.mid it.follows laid.reached);
          inside = λ m y there.
              let back = back_there it.holds x it.mid m y it.follows (subst (λ (ys : List Metaslab). slice_get ys m ≡ Some y) (ap (λ (s : State). s.metaslabs) it.made) there) in
              laid.inside m back.0 back.1;
        }

    uses_laid : (done : List (Command × Reply)) (x z : State) → Uses choices done x z → IsLaid geometry perms x → IsLaid geometry perms z
    uses_laid [] x z uses laid = subst (IsLaid geometry perms) (sym uses) laid
    uses_laid (one ∷ done) x z (mid, it, all, rest) laid = uses_laid done mid z rest (command_laid one.0 one.1 x mid it laid)

    module _ (m : ℕ) (P : machine.State → Type 0)
        (keeps : (v : View) (e : Event) (w new : machine.State) → IsOfUse (On v (Did e new)) → IsReached (layout_of geometry perms m) w → Step (layout_of geometry perms m) w e new → P w → P new) where
      uses_at : (done : List (Command × Reply)) (x z : State) → Uses choices done x z → IsLaid geometry perms x → AtState m P x → AtState m P z
      uses_at [] x z uses laid p = subst (AtState m P) (sym uses) p
      uses_at (one ∷ done) x z (mid, it, all, rest) laid p =
          uses_at done mid z rest (command_laid one.0 one.1 x mid it laid)
          (λ y there. laid_follows geometry perms m IsOfUse P keeps it.holds x it.mid laid.g laid.p all it.follows laid.reached p y (subst (λ (ys : List Metaslab). slice_get ys m ≡ Some y) (ap (λ (s : State). s.metaslabs) it.made) there))

-- ---- one failure

module _ (geometry : Geometry) (perms : Perms) (lay : IsLayout geometry perms) where
  -- a pool whose slots are whole
  whole_laid : (x : State) → IsPoolWhole x → x.geometry ≡ geometry → x.perms ≡ perms → IsLaid geometry perms x
  whole_laid x is g p = record { g = g; p = p; reached = is.slots.reached; inside = λ m y there. subst (λ (h : Geometry). m < h.props.metaslabs) g (is.inside m y there) }

  whole_at : (x : State) → IsPoolWhole x → x.geometry ≡ geometry → (m : ℕ) → AtState m (IsAllWhole geometry perms lay m) x
  whole_at x is g m y there = record { pass = is.passes m y there; slots = slots }
    where
      slots : (slot : ℕ) → slot < geometry.spec.children → IsSlotWhole y.world.core slot
      slots slot inside = elim (is.slots.whole m y there slot (subst (λ (h : Geometry). slot < h.spec.children) (sym g) inside)) [
        | inl none ↦ absurd (let low = none.1 in omega (arith, low))
        | inr (inl whole) ↦ whole
        | inr (inr (leaf, none, listed)) ↦ absurd (let low = none.1 in omega (arith, low))
      ]

  pub pool_whole : (x : State) → IsLaid geometry perms x → AreIdle x → ((m : ℕ) → AtState m (IsAllWhole geometry perms lay m) x) → IsPoolWhole x
  pool_whole x laid idle whole = record {
    slots = record {
      layout = laid_layout geometry perms x laid lay;
      reached = laid.reached;
      idle = idle;
      whole = λ m y there slot inside. inr (inl ((whole m y there).slots slot (subst (λ (h : Geometry). slot < h.spec.children) laid.g inside)));
    };
    inside = λ m y there. subst (λ (h : Geometry). m < h.props.metaslabs) (sym laid.g) (laid.inside m y there);
    passes = λ m y there. (whole m y there).pass;
  }

module _ (choices : Choices) (geometry : Geometry) (perms : Perms) (lay : IsLayout geometry perms) where
  -- as it is in use it stays so
  pub uses_whole : (done : List (Command × Reply)) (x z : State) → Uses choices done x z → IsPoolWhole x → x.geometry ≡ geometry → x.perms ≡ perms → AreIdle z → IsPoolWhole z
  uses_whole done x z uses is g p idle =
      let laid = whole_laid geometry perms lay x is g p in
      pool_whole geometry perms lay z (uses_laid geometry perms choices done x z uses laid) idle
      (λ m. uses_at geometry perms choices m (IsAllWhole geometry perms lay m) (whole_on geometry perms lay m) done x z uses laid (whole_at geometry perms lay x is g m))

  module _ (f : Failure) (x z : State) (o : Outlives choices f x z) (is : IsPoolWhole x) (g : x.geometry ≡ geometry) (p : x.perms ≡ perms) where
    worked_whole : IsPoolWhole o.worked
    worked_whole = uses_whole o.before x o.worked o.works is g p o.quiet

    worked_laid : IsLaid geometry perms o.worked
    worked_laid = uses_laid geometry perms choices o.before x o.worked o.works (whole_laid geometry perms lay x is g p)

    gone : IsWholeBut [] (f.leaf ∷ []) o.failed
    gone = one_goes choices [] [] f.leaf o.worked o.failed o.goes worked_whole.slots

    failed_laid : IsLaid geometry perms o.failed
    failed_laid = command_laid geometry perms choices (TakeOffline f.leaf) (OfflineDone f.leaf) o.worked o.failed o.goes worked_laid

    -- as the disk is offline
    record IsFailed (w : machine.State) : Type 0 where
      pub pass : w.core.pass ≡ None
      pub listed : has_name (w.core.order f.slot) (Leaf f.leaf) ≡ true

    failed_at : (m : ℕ) → AtState m IsFailed o.failed
    failed_at m y there =
        follows_keep m (IsOfOffline f.leaf) IsFailed still o.goes.holds o.worked o.goes.mid (offline_of f.leaf o.worked o.quiet o.goes.holds o.goes.mid o.goes.does.2 o.goes.follows) o.goes.follows worked_laid.reached
        (λ k at. record { pass = worked_whole.passes m k at; listed = o.stands m k at }) y (subst (λ (ys : List Metaslab). slice_get ys m ≡ Some y) (ap (λ (s : State). s.metaslabs) o.goes.made) there)
      where
        still : (l : machine.Layout) (v : View) (e : Event) (w new : machine.State) → v.metaslab ≡ m → IsOfOffline f.leaf (On v (Did e new)) → machine.IsLayout l → IsReached l w → Step l w e new → IsFailed w → IsFailed new
        still l v (event.Offline leaf) w new at q lay' r s p' = subst IsFailed (sym s.made) (record { pass = p'.pass; listed = p'.listed })
        still l v e w new at q lay' r s p' = absurd q

    only_one : (leaf : ℕ) → Contains (f.leaf ∷ []) leaf → f.leaf ≡ leaf
    only_one leaf (zero, less, same) = same
    only_one leaf (suc k, less, same) = absurd (omega (arith, less))

    degraded_at : (m : ℕ) → AtState m (IsDegraded (layout_of geometry perms m) geometry.spec.children f.slot) o.failed
    degraded_at m y there = record { pass = (failed_at m y there).pass; firsts = firsts; slots = slots }
      where
        r : IsReached (layout_of geometry perms m) y.world
        r = reached_at geometry perms o.failed failed_laid m y there

        owned : Owned (layout_of geometry perms m) y.world
        owned = every_segment (layout_of geometry perms m) y.world (layout_is geometry perms m lay) r

        whole : (slot : ℕ) → slot < geometry.spec.children → (slot ≡ f.slot → ⊥) → IsSlotWhole y.world.core slot
        whole slot inside other = elim (gone.whole m y there slot (subst (λ (h : Geometry). slot < h.spec.children) (sym failed_laid.g) inside)) [
          | inl none ↦ absurd (let low = none.1 in omega (arith, low))
          | inr (inl is_whole) ↦ is_whole
          | inr (inr (leaf, one, listed)) ↦ absurd (other (owned.listed.one slot f.slot (Leaf f.leaf) (subst (λ k. has_name (y.world.core.order slot) (Leaf k) ≡ true) (sym (only_one leaf one)) listed) (failed_at m y there).listed))
        ]

        firsts : (slot : ℕ) → slot < geometry.spec.children → (slot ≡ f.slot → ⊥) → FirstUp y.world.core slot
        firsts slot inside other = (whole slot inside other).first

        touches : ℕ → ℕ → Bool
        touches t k = any_below geometry.g (λ c. has_name (y.world.core.order ((layout_of geometry perms m).slot_of k c)) (Spare t)) && ((layout_of geometry perms m).home (first_spares y.world.core.order) t k == f.slot)

        by_spare : (slot t : ℕ) → has_name (y.world.core.order slot) (Spare t) ≡ true → HasEmptyLog y.world.core (Spare t) → (c : Bool) → any_below (layout_of geometry perms m).stripes (touches t) ≡ c
            → ((n : ArmName) × IsSure (layout_of geometry perms m) slot n y.world) ⊎ IsTouching (layout_of geometry perms m) f.slot slot y.world.core
        by_spare slot t listed empty true at =
            let k = some_within (layout_of geometry perms m).stripes (touches t) at in
            let both = both_true (any_below geometry.g (λ c. has_name (y.world.core.order ((layout_of geometry perms m).slot_of k.0 c)) (Spare t))) ((layout_of geometry perms m).home (first_spares y.world.core.order) t k.0 == f.slot) k.2 in
            inr (record { t = t; listed = listed; x = k.0; inside = k.1; column = both.0; home = is_equal ((layout_of geometry perms m).home (first_spares y.world.core.order) t k.0) f.slot both.1 })
        by_spare slot t listed empty false at =
            inl (
              Spare t,
              record {
                stands = (listed, tt);
                homes = homes_but geometry perms m lay y.world r f.slot firsts (Spare t) (λ k inside column home. absurd_test (any_below (layout_of geometry perms m).stripes (touches t))
                    (any_at (layout_of geometry perms m).stripes (touches t) k inside (true_both _ _ column (equal ((layout_of geometry perms m).home (first_spares y.world.core.order) t k) f.slot home))) at);
                empty = empty;
              },
            )

        by_arm : (slot : ℕ) (n : ArmName) → has_name (y.world.core.order slot) n ≡ true → IsUp y.world.core n → HasEmptyLog y.world.core n
            → ((k : ArmName) × IsSure (layout_of geometry perms m) slot k y.world) ⊎ IsTouching (layout_of geometry perms m) f.slot slot y.world.core
        by_arm slot (Leaf j) listed up empty = inl (Leaf j, record { stands = (listed, up); homes = tt; empty = empty })
        by_arm slot (Spare t) listed up empty = by_spare slot t listed empty (any_below (layout_of geometry perms m).stripes (touches t)) refl

        slots : (slot : ℕ) → slot < geometry.spec.children → (slot ≡ f.slot → ⊥) → ((n : ArmName) × IsSure (layout_of geometry perms m) slot n y.world) ⊎ IsTouching (layout_of geometry perms m) f.slot slot y.world.core
        slots slot inside other = (let it = whole slot inside other in by_arm slot it.n it.listed it.up it.empty)

    now_laid : IsLaid geometry perms o.degraded
    now_laid = uses_laid geometry perms choices o.between o.failed o.degraded o.degrades failed_laid

    now_at : (m : ℕ) → AtState m (IsDegraded (layout_of geometry perms m) geometry.spec.children f.slot) o.degraded
    now_at m = uses_at geometry perms choices m (IsDegraded (layout_of geometry perms m) geometry.spec.children f.slot) (degraded_on geometry perms lay m f.slot) o.between o.failed o.degraded o.degrades failed_laid (degraded_at m)

    spared_laid : IsLaid geometry perms o.spared
    spared_laid = command_laid geometry perms choices (AttachSpare f.slot f.spare) (Spared f.slot o.called) o.degraded o.spared o.gets now_laid

    attaches : (m : ℕ) (w new : machine.State) → IsReached (layout_of geometry perms m) w → Step (layout_of geometry perms m) w (event.Attach f.slot (Spare f.spare)) new
        → IsDegraded (layout_of geometry perms m) geometry.spec.children f.slot w → IsSpared geometry.spec.children f.slot f.spare new
    attaches m w new r s it =
        let same = s.made ∙ attach_none (layout_of geometry perms m) w f.slot f.spare s.last it.pass in
        let behind = subst (IsReached (layout_of geometry perms m)) same (step_reached (layout_of geometry perms m) w new (event.Attach f.slot (Spare f.spare)) r s) in
        let listed = (every_segment (layout_of geometry perms m) w (layout_is geometry perms m lay) r).listed in
        subst (IsSpared geometry.spec.children f.slot f.spare) (sym same) (record {
          pass = it.pass;
          slots = λ slot inside. slot_ready geometry perms lay m w r f.slot f.spare s.last s.unused behind s.slot_is slot inside it;
          listed = own_listed (layout_of geometry perms m) w f.slot f.spare s.last listed s.unused;
          fresh = own_fresh (layout_of geometry perms m) w f.slot f.spare s.last listed s.unused;
        })

    spared_at : (m : ℕ) → AtState m (IsSpared geometry.spec.children f.slot f.spare) o.spared
    spared_at m y there =
        let mid : slice_get o.gets.mid.metaslabs m ≡ Some y = subst (λ (ys : List Metaslab). slice_get ys m ≡ Some y) (ap (λ (s : State). s.metaslabs) o.gets.made) there in
        let back = back_there o.gets.holds o.degraded o.gets.mid m y o.gets.follows mid in
        let dg = now_laid.g in
        let dp = now_laid.p in
        let same : layout_of o.degraded.geometry o.degraded.perms m ≡ layout_of geometry perms m = λ i. layout_of (dg i) (dp i) m in
        spare_at f.slot f.spare o.degraded o.calm_now m (IsDegraded (layout_of geometry perms m) geometry.spec.children f.slot) (IsSpared geometry.spec.children f.slot f.spare)
        (λ w new r s it. attaches m w new (subst (λ (l : machine.Layout). IsReached l w) same r) (subst (λ (l : machine.Layout). Step l w (event.Attach f.slot (Spare f.spare)) new) same s) it)
        o.gets.holds o.gets.mid o.gets.does.3 o.gets.follows now_laid.reached (subst (λ (h : Geometry). m < h.props.metaslabs) (sym now_laid.g) (now_laid.inside m back.0 back.1)) (now_at m) y mid

    used_laid : IsLaid geometry perms o.used
    used_laid = uses_laid geometry perms choices o.later o.spared o.used o.goes_on spared_laid

    used_at : (m : ℕ) → AtState m (IsSpared o.used.geometry.spec.children f.slot f.spare) o.used
    used_at m y there =
        subst (λ (h : Geometry). IsSpared h.spec.children f.slot f.spare y.world) (sym used_laid.g)
        (uses_at geometry perms choices m (IsSpared geometry.spec.children f.slot f.spare) (spared_on geometry perms lay m f.slot f.spare) o.later o.spared o.used o.goes_on spared_laid (spared_at m) y there)

    pub outlived : IsPoolWhole z
    outlived = rebuilt_whole choices f.slot f.spare o.limit o.from o.stripes o.used z (laid_layout geometry perms o.used used_laid lay) used_laid.reached
        (λ m y there. subst (λ (h : Geometry). m < h.props.metaslabs) (sym used_laid.g) (used_laid.inside m y there)) used_at o.rebuilt o.calm o.idle

pub all_outlived : (choices : Choices) (failures : List Failure) (x z : State) → OutlivesAll choices failures x z → IsPoolWhole x → IsPoolWhole z
all_outlived choices [] x z o is = subst IsPoolWhole (sym o) is
all_outlived choices (f ∷ failures) x z (mid, one, rest) is = all_outlived choices failures mid z rest (outlived choices x.geometry x.perms is.slots.layout f x mid one is refl refl)

-- ---- new pools

less_of : {X : Type 0} (xs : List X) (k : ℕ) (x : X) → slice_get xs k ≡ Some x → k < length xs
less_of [] k x at = absurd (none_some None x refl at)
less_of (y ∷ xs) zero x at = omega arith
less_of (y ∷ xs) (suc k) x at = let rest = less_of xs k x at in omega (arith, rest)

created_slot : (l : machine.Layout) (slot : ℕ) → slot < l.slots → IsSlotWhole (created_core l) slot
created_slot l slot inside = record {
  n = Leaf slot;
  listed = subst (λ ns. has_name ns (Leaf slot) ≡ true) (sym order) (true_left (name_eq (Leaf slot) (Leaf slot)) false (name_refl (Leaf slot)));
  up = up;
  empty = λ g. ap (λ o. logged o g) arm;
  first = λ none. subst (λ ns. passes (first_leaf ns) (leaf_answers (created_core l)) ≡ true) (sym order) up;
}
  where
    low : nat_lt slot l.slots ≡ true
    low = below slot l.slots inside

    order : (created_core l).order slot ≡ Leaf slot ∷ []
    order = ap (λ (c : Bool). if c then Leaf slot ∷ [] else []) low

    arm : (created_core l).arm (Leaf slot) ≡ Some new_arm
    arm = ap (λ (c : Bool). if c then Some new_arm else None) low

    up : leaf_answers (created_core l) slot ≡ true
    up = ap (λ o. is_here o && online o) arm

pub fresh_whole : (geometry : Geometry) (x : State) → IsFresh geometry x → IsPoolWhole x
fresh_whole geometry x f = pool_whole geometry x.perms f.perms x laid (λ m y there. ap (λ (w : machine.State). w.closing) (new m y there)) (λ m y there. record {
  pass = ap (λ (w : machine.State). w.core.pass) (new m y there);
  slots = λ slot inside. subst (λ (w : machine.State). IsSlotWhole w.core slot) (sym (new m y there)) (created_slot (layout_of geometry x.perms m) slot inside);
})
  where
    new : (m : ℕ) (y : Metaslab) → slice_get x.metaslabs m ≡ Some y → y.world ≡ created (layout_of geometry x.perms m) geometry.props.version
    new m y there = (f.each m y there).world ∙ (f.each m y there).opened

    laid : IsLaid geometry x.perms x
    laid = record {
      g = f.layout;
      p = refl;
      reached = fresh_reached geometry x f;
      inside = λ m y there. (let low = less_of x.metaslabs m y there in let many = f.many in omega (arith, low, many));
    }
