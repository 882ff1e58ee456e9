-- Behind a rebuild that is done without errors each arm that came new has missed nothing.
use Rattle.std.proofs.Common.{◌≡◌, ◌∙◌, ◌+◌, ◌<◌, ◌≤◌, ◌⊎◌, ◌&&◌, not, ℕ, zero, suc, Bool, true, false, nat_lt, List, [], ◌∷◌, Option, Some, None, count_by, inl, inr, arith, refl, sym, ap, subst, if◌then◌else◌}
use Rattle.std.specs.Prelude.{⊤, slice_get}
use Rattle.std.proofs.lemmas.Bool.{cases_eq}
use Rattle.draid_names.specs.declared.pass_kind.PassKind.{PassKind}
use Rattle.draid_names.specs.declared.pass_kind.PassKind.TheVariants.{Heal, Rebuild}
use Rattle.draid_machine.specs.declared.event.Event.{Event}
use Rattle.draid_machine.specs.declared.event.Event.TheVariants as event
use Rattle.draid_machine.specs.declared.names.ArmName.{ArmName}
use Rattle.draid_machine.specs.declared.names.ArmName.TheVariants.{Leaf, Spare}
use Rattle.draid_machine.specs.declared.names.Held.{Held}
use Rattle.draid_machine.specs.declared.names.Key.{Key}
use Rattle.draid_machine.specs.After.{commit_state, ended_pass, is_freed_block, is_gone_arm, log_if, lose_some, lose_targets, map_arm, map_pass, mend_state, misses_stripe, pass_over, planned_pass, seal_state, unsourced}
use Rattle.draid_machine.specs.Arms.{HasEmptyLog, arms_below, is_fresh, is_here, is_silent, is_target, leaf_answers, lies_on, logged, online, targets_of}
use Rattle.draid_machine.specs.Created.{IsReached}
use Rattle.draid_machine.specs.Fitting.{Fitting}
use Rattle.draid_machine.specs.Names.{has_name}
use Rattle.draid_machine.specs.Sound.{Sound}
use Rattle.draid_machine.specs.State as machine
use Rattle.draid_machine.specs.Step.{DoneStep, SealStep, Step}
use Rattle.draid_machine.proofs.Fitted.{every_fit}
use Rattle.draid_machine.proofs.Losing.{every_segment}
use Rattle.draid_machine.proofs.Rows.{reached_sound}
use Rattle.draid_machine.proofs.Small.{filter_has, has_append, kept_some, no_errors, no_more_errors, none_some, not_false, some_injective, some_same, true_left, true_right}
use Rattle.draid_layouts.specs.Layout.{layout_of}
use Rattle.draid_session.specs.Bearing.{IsUp, IsWanted}
use Rattle.draid_session.specs.Follows.{Follows, Holds, MetaslabActs}
use Rattle.draid_session.specs.Holds.{Act, AreaFailed, Did, Hold, Looked, MadeLeaf, On, OnUber, RackFailed, CallStarved, Reserved, View}
use Rattle.draid_session.specs.Looks.{AllOf}
use Rattle.draid_session.specs.Present.{AreReached}
use Rattle.draid_session.specs.State.{Metaslab, State}
use Rattle.draid_session.proofs.Beside.{uber_rest}
use Rattle.draid_session.proofs.Calm.{hold_back}
use Rattle.draid_session.proofs.Grouped.{OfSync}
use Rattle.draid_session.proofs.Present.{hold_reached}
use Rattle.draid_session.proofs.Upto.{ended_empty, none_counted}

-- ---- one metaslab, through holds

-- so it is with the state of a metaslab
abbrev pub AtState : ℕ → (machine.State → Type 0) → State → Type 0
AtState m P x = (y : Metaslab) → slice_get x.metaslabs m ≡ Some y → P y.world

module _ (m : ℕ) (Q : Hold → Type 0) (P : machine.State → Type 0)
    (keeps : (l : machine.Layout) (v : View) (e : Event) (w new : machine.State) → v.metaslab ≡ m → Q (On v (Did e new)) → machine.IsLayout l → IsReached l w → Step l w e new → P w → P new) where
  acts_keep : (l : machine.Layout) → machine.IsLayout l → (v : View) (act : Act) (x y : Metaslab) → v.metaslab ≡ m → Q (On v act) → IsReached l x.world → MetaslabActs l act x y → P x.world → P y.world
  acts_keep l lay v Looked x y at q r it p = subst P (sym (ap (λ (k : Metaslab). k.world) it)) p
  acts_keep l lay v (Did e w) x y at q r it p = subst P (sym it.world) (keeps l v e x.world w at q lay r it.legal p)
  acts_keep l lay v (Reserved events) x y at q r it p = subst P (sym (ap (λ (k : Metaslab). k.world) it)) p
  acts_keep l lay v (MadeLeaf leaf) x y at q r it p = subst P (sym it.0.world) p
  acts_keep l lay v (AreaFailed group) x y at q r it p = subst P (sym it.0.world) p
  acts_keep l lay v RackFailed x y at q r it p = subst P (sym it.0.world) p
  acts_keep l lay v CallStarved x y at q r it p = subst P (sym it.0.world) p

  pub hold_keeps : (hold : Hold) (x z : State) → Q hold → Holds hold x z → AreReached x → AtState m P x → AtState m P z
  hold_keeps (On v act) x z q it r p y there = elim (hold_back v act x z it m y there) [
    | inl own ↦ subst (λ (k : Metaslab). P k.world) own.2
        (acts_keep (layout_of x.geometry x.perms v.metaslab) (r.layout v.metaslab) v act it.before it.after (sym own.0) q (r.each v.metaslab it.before it.there) it.acts (p it.before own.1))
    | inr other ↦ p y other.1
  ]
  hold_keeps (OnUber u act) x z q it r p y there = p y (subst (λ (ys : List Metaslab). slice_get ys m ≡ Some y) (uber_rest act x z it.acts).0 there)

  pub follows_keep : (holds : List Hold) (x z : State) → AllOf Q holds → Follows holds x z → AreReached x → AtState m P x → AtState m P z
  follows_keep [] x z all follows r p = subst (AtState m P) (sym follows) p
  follows_keep (hold ∷ holds) x z all follows r p =
      follows_keep holds follows.0 z all.1 follows.2 (hold_reached hold x follows.0 follows.1 r) (hold_keeps hold x follows.0 all.0 follows.1 r p)

-- ---- what comes to be of an arm

module _ (n : ArmName) where
  -- it is wanted, and no pass is there
  pub record Waits (w : machine.State) : Type 0 where
    pub pass : w.core.pass ≡ None
    pub wanted : IsWanted w.core n

  -- a rebuild is there which, unless it has errors, has it among its targets
  pub record Comes (w : machine.State) : Type 0 where
    pub p : machine.Pass
    pub pass : w.core.pass ≡ Some p
    pub rebuild : p.kind ≡ Rebuild
    pub target : p.errors ≡ 0 → has_name p.targets n ≡ true

  -- it has missed nothing, and nothing was born that isn't committed
  pub record IsMadeGood (w : machine.State) : Type 0 where
    pub pass : w.core.pass ≡ None
    pub empty : HasEmptyLog w.core n
    pub births : (k : Key) (h : Held) → w.core.held k ≡ Some h → h.birth ≤ w.committed

-- ---- the holds of a sync, and those of other metaslabs

abbrev pub IsOfSync : Act → Type 0
IsOfSync Looked = ⊤
IsOfSync (Did (event.Close t) w) = ⊤
IsOfSync (Did (event.Seal t failed) w) = ⊤
IsOfSync (Did (event.Commit t) w) = ⊤
IsOfSync (AreaFailed t) = ⊤
IsOfSync CallStarved = ⊤
IsOfSync act = ⊥

abbrev pub IsElsewhere : ℕ → Hold → Type 0
IsElsewhere m (On v act) = IsOfSync act ⊎ (v.metaslab ≡ m → ⊥)
IsElsewhere m (OnUber u act) = ⊤

pub elsewhere_sync : (m : ℕ) → OfSync (IsElsewhere m)
elsewhere_sync m = record { look = λ v. inl tt; close = λ v t w. inl tt; seal = λ v t failed w. inl tt; commit = λ v t w. inl tt; area = λ v t. inl tt; starve = λ v. inl tt; uber = λ u act. tt }

-- those of a rebuild on its own metaslab, up to its end
abbrev pub IsOfRebuild : Act → Type 0
IsOfRebuild (Did event.Ready w) = ⊤
IsOfRebuild (Did (event.Lend failed) w) = ⊤
IsOfRebuild (Did (event.LandStripe pass serial failed) w) = ⊤
IsOfRebuild act = IsOfSync act

abbrev pub IsWithin : Hold → Type 0
IsWithin (On v act) = IsOfRebuild act
IsWithin (OnUber u act) = ⊤

pub within_sync : OfSync IsWithin
within_sync = record { look = λ v. tt; close = λ v t w. tt; seal = λ v t failed w. tt; commit = λ v t w. tt; area = λ v t. tt; starve = λ v. tt; uber = λ u act. tt }

-- ---- arms that are wanted

module _ (n : ArmName) where
  -- an arm that isn't detached stays at a commit
  stays_there : (t : ℕ) (o : Option machine.Arm) (a : machine.Arm) → o ≡ Some a → a.gone ≡ None → (if is_gone_arm t o then None else o) ≡ o
  stays_there t None a is here = absurd (none_some None a refl is)
  stays_there t (Some b) a is here = by b.gone (ap (λ (c : machine.Arm). c.gone) (some_injective b a is) ∙ here)
    where
      by : (g : Option machine.Gone) → b.gone ≡ None → (if is_gone_arm t (Some b) then None else Some b) ≡ Some b
      by g none = rw none refl

  up_by : (q r : machine.Core) (k : ArmName) → ((leaf : ℕ) → k ≡ Leaf leaf → leaf_answers r leaf ≡ leaf_answers q leaf) → IsUp q k → IsUp r k
  up_by q r (Leaf leaf) same up = same leaf refl ∙ up
  up_by q r (Spare t) same up = tt

  log_fresh : (b : Bool) (t : ℕ) (o : Option machine.Arm) → is_fresh (map_arm (log_if b t) o) ≡ is_fresh o
  log_fresh b t None = refl
  log_fresh b t (Some a) = refl

  log_answers : (b : Bool) (t : ℕ) (o : Option machine.Arm) → (is_here (map_arm (log_if b t) o) && online (map_arm (log_if b t) o)) ≡ (is_here o && online o)
  log_answers b t None = refl
  log_answers b t (Some a) = refl

  pub waits_on : (l : machine.Layout) (v : View) (e : Event) (w new : machine.State) → IsOfSync (Did e new) → machine.IsLayout l → IsReached l w → Step l w e new → Waits n w → Waits n new
  waits_on l v (event.Close t) w new of lay r s is = subst (Waits n) (sym s.made) (record { pass = is.pass; wanted = is.wanted })
  waits_on l v (event.Seal t failed) w new of lay r s is =
      subst (Waits n) (sym s.made) (record {
        pass = ap (map_pass (lose_some (lies_on l w.core (is_silent w.core failed.items)))) is.pass;
        wanted = record {
          slot = is.wanted.slot;
          listed = is.wanted.listed;
          fresh = log_fresh _ t (w.core.arm n) ∙ is.wanted.fresh;
          up = up_by w.core (seal_state l w t failed.items s.wrote).core n (λ leaf same. log_answers (s.wrote && lies_on l w.core (is_silent w.core failed.items) (Leaf leaf)) t (w.core.arm (Leaf leaf))) is.wanted.up;
        };
      })
  waits_on l v (event.Commit t) w new of lay r s is =
      let owned = every_segment l w lay r in
      let a = owned.listed.data_of is.wanted.slot n is.wanted.listed in
      let same : (if is_gone_arm t (w.core.arm n) then None else w.core.arm n) ≡ w.core.arm n = stays_there t (w.core.arm n) a.0 a.1 a.2 in
      subst (Waits n) (sym s.made) (record {
        pass = is.pass;
        wanted = record {
          slot = is.wanted.slot;
          listed = is.wanted.listed;
          fresh = ap is_fresh same ∙ is.wanted.fresh;
          up = up_by w.core (commit_state l w t s.image).core n (λ leaf own. ap (λ o. is_here o && online o) (subst (λ k. (if is_gone_arm t (w.core.arm k) then None else w.core.arm k) ≡ w.core.arm k) own same)) is.wanted.up;
        };
      })
  waits_on l v e w new of lay r s is = absurd of

  -- ---- arms that a rebuild has as a target

  capped_lost : (bad : ArmName → Bool) (p : machine.Pass) → (lose_targets bad (count_by bad p.targets) p).errors ≡ 0 → (p.errors ≡ 0 → has_name p.targets n ≡ true)
      → has_name (lose_targets bad (count_by bad p.targets) p).targets n ≡ true
  capped_lost bad p none target =
      let had = target (no_errors p.errors (count_by bad p.targets) none) in
      filter_has (λ m. not (bad m)) p.targets n had (not_false (bad n) (none_counted bad p.targets n (no_more_errors p.errors (count_by bad p.targets) none) had))

  lost_some : (bad : ArmName → Bool) (p : machine.Pass) → p.kind ≡ Rebuild → lose_some bad p ≡ lose_targets bad (count_by bad p.targets) p
  lost_some bad p rebuild = rw rebuild refl

  pub comes_on : (l : machine.Layout) (v : View) (e : Event) (w new : machine.State) → IsOfRebuild (Did e new) → machine.IsLayout l → IsReached l w → Step l w e new → Comes n w → Comes n new
  comes_on l v (event.Close t) w new of lay r s is = subst (Comes n) (sym s.made) (record { p = is.p; pass = is.pass; rebuild = is.rebuild; target = is.target })
  comes_on l v (event.Seal t failed) w new of lay r s is =
      let bad = lies_on l w.core (is_silent w.core failed.items) in
      subst (Comes n) (sym s.made) (record {
        p = lose_some bad is.p;
        pass = ap (map_pass (lose_some bad)) is.pass;
        rebuild = is.rebuild;
        target = λ none. subst (λ (q : machine.Pass). has_name q.targets n ≡ true) (sym (lost_some bad is.p is.rebuild))
            (capped_lost bad is.p (subst (λ (q : machine.Pass). q.errors ≡ 0) (lost_some bad is.p is.rebuild) none) is.target);
      })
  comes_on l v (event.Commit t) w new of lay r s is = subst (Comes n) (sym s.made) (record { p = is.p; pass = is.pass; rebuild = is.rebuild; target = is.target })
  comes_on l v event.Ready w new of lay r s is =
      let same = some_same w.core.pass s.p is.p s.pass is.pass in
      subst (Comes n) (sym s.made) (record {
        p = record s.p { running = true };
        pass = refl;
        rebuild = s.rebuild;
        target = λ none. subst (λ (q : machine.Pass). has_name q.targets n ≡ true) (sym same) (is.target (subst (λ (q : machine.Pass). q.errors ≡ 0) same none));
      })
  comes_on l v (event.Lend failed) w new of lay r s is =
      let same = some_same w.core.pass s.p is.p s.pass is.pass in
      subst (Comes n) (sym s.made) (record {
        p = _;
        pass = refl;
        rebuild = subst (λ (q : machine.Pass). q.kind ≡ Rebuild) (sym same) is.rebuild;
        target = λ none. subst (λ (q : machine.Pass). has_name q.targets n ≡ true) (sym same) (is.target (subst (λ (q : machine.Pass). q.errors ≡ 0) same (no_errors s.p.errors _ none)));
      })
  comes_on l v (event.LandStripe pass serial failed) w new of lay r s is = subst (Comes n) (sym s.made) (by (nat_lt l.parity (unsourced l s.n)))
    where
      same : s.p ≡ is.p
      same = some_same w.core.pass s.p is.p s.counts.pass_is is.pass

      had : s.p.errors ≡ 0 → has_name s.p.targets n ≡ true
      had none = subst (λ (q : machine.Pass). has_name q.targets n ≡ true) (sym same) (is.target (subst (λ (q : machine.Pass). q.errors ≡ 0) same none))

      by : (b : Bool) → Comes n (if b then pass_over w s.p 1 (s.n.stripe + 1) else mend_state l w s.p s.n s.h failed.items)
      by true = record { p = _; pass = refl; rebuild = s.rebuild; target = λ none. had (no_errors s.p.errors 1 none) }
      by false = record { p = _; pass = refl; rebuild = s.rebuild; target = λ none. capped_lost (misses_stripe l w.core s.n.stripe failed.items) s.p none had }
  comes_on l v e w new of lay r s is = absurd of

  -- ---- arms that have missed nothing

  none_written : (l : machine.Layout) (w : machine.State) (t : ℕ) (failed : List ℕ) (new : machine.State) → Sound l w → IsMadeGood n w → (s : SealStep l w t failed new) → s.wrote ≡ false
  none_written l w t failed new sound is s = by s.wrote refl
    where
      by : (b : Bool) → s.wrote ≡ b → s.wrote ≡ false
      by false e = e
      by true e = absurd (let h = s.writes e in let low = is.births h.key h.h h.found in let born = h.born in let next = (sound.groups.closing_is t s.closing).0 in omega (arith, low, born, next))

  pub log_still : (b : Bool) (t g : ℕ) (o : Option machine.Arm) → b ≡ false → logged o g ≡ false → logged (map_arm (log_if b t) o) g ≡ false
  log_still b t g None is empty = refl
  log_still b t g (Some a) is empty = rw (is, empty) refl

  pub commit_still : (b : Bool) (o : Option machine.Arm) (g : ℕ) → logged o g ≡ false → logged (if b then None else o) g ≡ false
  commit_still true o g empty = refl
  commit_still false o g empty = empty

  pub good_on : (l : machine.Layout) (v : View) (e : Event) (w new : machine.State) → IsOfSync (Did e new) → machine.IsLayout l → IsReached l w → Step l w e new → IsMadeGood n w → IsMadeGood n new
  good_on l v (event.Close t) w new of lay r s is = subst (IsMadeGood n) (sym s.made) (record { pass = is.pass; empty = is.empty; births = is.births })
  good_on l v (event.Seal t failed) w new of lay r s is =
      let none = none_written l w t failed.items new (reached_sound l lay w r) is s in
      subst (IsMadeGood n) (sym s.made) (record {
        pass = ap (map_pass (lose_some (lies_on l w.core (is_silent w.core failed.items)))) is.pass;
        empty = λ g. log_still (s.wrote && lies_on l w.core (is_silent w.core failed.items) n) t g (w.core.arm n) (rw none refl) (is.empty g);
        births = is.births;
      })
  good_on l v (event.Commit t) w new of lay r s is =
      let next = ((reached_sound l lay w r).groups.closing_is t s.closing).0 in
      subst (IsMadeGood n) (sym s.made) (record {
        pass = is.pass;
        empty = λ g. commit_still (is_gone_arm t (w.core.arm n)) (w.core.arm n) g (is.empty g);
        births = λ k h found. (let low = is.births k h (kept_some (is_freed_block t (w.core.held k)) (w.core.held k) h found).1 in omega (arith, low, next));
      })
  good_on l v e w new of lay r s is = absurd of

  -- ---- a rebuild takes what is wanted, and its end makes that good

  pub below_has : (order : ℕ → List ArmName) (top slot : ℕ) → slot < top → has_name (order slot) n ≡ true → has_name (arms_below order top) n ≡ true
  below_has order zero slot less listed = absurd (omega (arith, less))
  below_has order (suc top) slot less listed = sym (sym (has_append (arms_below order top) (order top) n)) ∙ elim (cases_eq slot top) [
    | inl same ↦ true_right (has_name (arms_below order top) n) (has_name (order top) n) (subst (λ k. has_name (order k) n ≡ true) same listed)
    | inr other ↦ true_left (has_name (arms_below order top) n) (has_name (order top) n) (below_has order top slot (omega (arith, less, other)) listed)
  ]

  pub target_by : (l : machine.Layout) (q : machine.Core) (k : ArmName) → is_fresh (q.arm k) ≡ true → IsUp q k → is_target l q Rebuild k ≡ true
  target_by l q (Leaf leaf) fresh up = rw (fresh, up) refl
  target_by l q (Spare t) fresh up = rw fresh refl

  pub planned : (l : machine.Layout) (w new : machine.State) → machine.IsLayout l → IsReached l w → Step l w (event.Plan Rebuild) new → Waits n w → Comes n new
  planned l w new lay r s is =
      let fits : Fitting l w = every_fit l w lay r in
      let inside = fits.core.order.slots is.wanted.slot n is.wanted.listed in
      subst (Comes n) (sym s.made) (record {
        p = planned_pass w Rebuild (targets_of l w.core Rebuild);
        pass = refl;
        rebuild = refl;
        target = λ none. filter_has (is_target l w.core Rebuild) (arms_below w.core.order l.slots) n (below_has w.core.order l.slots is.wanted.slot inside is.wanted.listed) (target_by l w.core n is.wanted.fresh is.wanted.up);
      })

  pub ended : (l : machine.Layout) (w new : machine.State) (failed : List ℕ) → machine.IsLayout l → IsReached l w → (s : DoneStep l w failed new) → ((p : machine.Pass) → w.core.pass ≡ Some p → (ended_pass l w.core p failed).errors ≡ 0)
      → Comes n w → IsMadeGood n new
  ended l w new failed lay r s errors is =
      let none = errors is.p is.pass in
      let quiet = (reached_sound l lay w r).core.quiet in
      let running : is.p.running ≡ true = subst (λ (q : machine.Pass). q.running ≡ true) (some_same w.core.pass s.p is.p s.pass is.pass) s.running in
      record {
        pass = ap (λ (v : machine.State). v.core.pass) s.made;
        empty = ended_empty l lay w new failed is.p n r s is.pass is.rebuild none (is.target (ended_none is.p none));
        births = λ k h found.
            let committed : new.committed ≡ w.committed = ap (λ (v : machine.State). v.committed) s.made in
            let same : w.core.held k ≡ Some h = sym (ap (λ (v : machine.State). v.core.held k) s.made) ∙ found in
            let low = (quiet is.p k h is.pass is.rebuild running same).1 in
            omega (arith, committed, low);
      }
    where
      ended_none : (p : machine.Pass) → (ended_pass l w.core p failed).errors ≡ 0 → p.errors ≡ 0
      ended_none p none = by p.kind refl none
        where
          by : (k : PassKind) → p.kind ≡ k → (ended_pass l w.core p failed).errors ≡ 0 → p.errors ≡ 0
          by Rebuild kind zero_ = no_errors p.errors (count_by (lies_on l w.core (is_silent w.core failed)) p.targets) (subst (λ (q : machine.Pass). q.errors ≡ 0) (rebuild_is kind) zero_)
            where
              rebuild_is : p.kind ≡ Rebuild → ended_pass l w.core p failed ≡ lose_targets (lies_on l w.core (is_silent w.core failed)) (count_by (lies_on l w.core (is_silent w.core failed)) p.targets) p
              rebuild_is kind = rw kind refl
          by Heal kind zero_ = subst (λ (q : machine.Pass). q.errors ≡ 0) (heal_is kind) zero_
            where
              heal_is : p.kind ≡ Heal → ended_pass l w.core p failed ≡ p
              heal_is kind = rw kind refl
