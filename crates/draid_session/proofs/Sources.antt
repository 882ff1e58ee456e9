-- A rebuild has no errors where no call fails and no more slots lack an arm that has missed nothing than there are parity columns.
use Rattle.std.proofs.Common.{◌≡◌, ◌∙◌, ◌+◌, ◌<◌, ◌≤◌, ◌⊎◌, not, ℕ, zero, suc, Bool, true, false, nat_lt, List, [], ◌∷◌, Option, Some, None, length, inl, inr, arith, refl, sym, ap, subst, if◌then◌else◌}
use Rattle.std.specs.Prelude.{Contains, is_none}
use Rattle.std.proofs.lemmas.Bool.{true≢false}
use Rattle.draid_names.specs.declared.pass_kind.PassKind.TheVariants.{Rebuild}
use Rattle.draid_spec.specs.declared.layout.Geometry.{Geometry}
use Rattle.draid_perm.specs.declared.perms.Perms.{Perms}
use Rattle.draid_map.specs.Place.{IsLayout}
use Rattle.draid_machine.specs.declared.event.Event.{Event}
use Rattle.draid_machine.specs.declared.event.Event.TheVariants as event
use Rattle.draid_machine.specs.declared.names.ArmName.{ArmName}
use Rattle.draid_machine.specs.declared.names.ArmName.TheVariants.{Leaf, Spare}
use Rattle.draid_machine.specs.After.{mend_state, pass_over, unsourced, lose_some, map_pass, keep_loan}
use Rattle.draid_machine.specs.Arms.{HasEmptyLog, arms_below, first_leaf, is_fresh, is_silent, is_target, leaf_answers, lies_on, logged, passes, targets_of, answers, fails, first_spares, leaf_at, IsFirst}
use Rattle.draid_machine.specs.Created.{IsReached}
use Rattle.draid_machine.specs.Names.{has_name, name_eq, count_below, is_heal}
use Rattle.draid_machine.specs.State as machine
use Rattle.draid_machine.specs.Step.{Step, LendStep, unless_failed}
use Rattle.draid_machine.proofs.Losing.{every_segment}
use Rattle.draid_machine.proofs.Small.{absurd_test, both_true, has_filter, name_true, none_some, some_injective, any_at, below, either_true, mapped_pass, kept_if}
use Rattle.draid_layouts.specs.Layout.{layout_of}
use Rattle.draid_layouts.proofs.Layouts.{layout_is}
use Rattle.draid_session.specs.Bearing.{HaveNoPass, IsUp, FailsNoCall, HasFewBroken, HaveFewBroken}
use Rattle.draid_session.specs.Follows.{Follows, Holds}
use Rattle.draid_session.specs.Holds.{AreaFailed, Did, Hold, Looked, MadeLeaf, On, OnUber, RackFailed, CallStarved, Reserved, View}
use Rattle.draid_session.specs.Looks.{AllOf}
use Rattle.draid_session.specs.Passes as passes
use Rattle.draid_session.specs.Passes.{Ended, Tally}
use Rattle.draid_session.specs.Present.{AreReached}
use Rattle.draid_session.specs.State.{State}
use Rattle.draid_session.proofs.Present.{hold_reached}
use Rattle.draid_session.proofs.Rebuilt.{AtState}
use Rattle.draid_session.proofs.Visited.{layout_stays}
use Rattle.draid_session.proofs.Whole.{at_home_is, none_fails, Costs, one_column}
use Rattle.draid_machine.specs.declared.names.Key.{Key}
use Rattle.draid_machine.proofs.Rows.{reached_sound}
use Rattle.draid_session.proofs.Outliving.{FirstsUp, stands_same, IsCalmMending, IsKept, IsMending, laid_hold, log_kept, same_up, firsts_same, rebuild_mends}
use Rattle.draid_session.specs.Undisturbed.{FindsCalm, HasSources, IsUndisturbed, TargetsLieWell}
use Rattle.draid_session.proofs.Fewer.{Has, to_has}
use Rattle.draid_session.proofs.Settled.{every_fresh}
use Rattle.draid_session.proofs.Undisturbed.{rebuild_counts}
use Rattle.draid_session.proofs.Using.{some_within}

-- ---- so many columns

-- a list without a number that it has
abbrev without : (xs : List ℕ) (x : ℕ) → Has xs x → List ℕ
without [] x at = []
without (y ∷ ys) x (inl is) = ys
without (y ∷ ys) x (inr at) = y ∷ without ys x at

one_less : (xs : List ℕ) (x : ℕ) (at : Has xs x) → length xs ≡ suc (length (without xs x at))
one_less [] x at = absurd at
one_less (y ∷ ys) x (inl is) = refl
one_less (y ∷ ys) x (inr at) = ap suc (one_less ys x at)

has_still : (xs : List ℕ) (x z : ℕ) (at : Has xs x) → Has xs z → (z ≡ x → ⊥) → Has (without xs x at) z
has_still [] x z at there other = absurd at
has_still (y ∷ ys) x z (inl is) (inl same) other = absurd (other (sym same ∙ is))
has_still (y ∷ ys) x z (inl is) (inr there) other = there
has_still (y ∷ ys) x z (inr at) (inl same) other = inl same
has_still (y ∷ ys) x z (inr at) (inr there) other = inr (has_still ys x z at there other)

-- numbers below a bound of which each takes one of a list for itself are no more than these
fewer_below : (P : ℕ → ℕ → Type 0) → ((c d s : ℕ) → P c s → P d s → c ≡ d) → (k : ℕ) (f : ℕ → Bool) (ss : List ℕ)
    → ((c : ℕ) → c < k → f c ≡ true → (s : ℕ) × Has ss s × P c s) → count_below k f ≤ length ss
fewer_below P one zero f ss takes = omega arith
fewer_below P one (suc k) f ss takes = by (fewer_below P one k f ss (λ c less is. takes c (omega (arith, less)) is)) (λ ts more. fewer_below P one k f ts more) (f k) refl
  where
    by : count_below k f ≤ length ss → ((ts : List ℕ) → ((c : ℕ) → c < k → f c ≡ true → (s : ℕ) × Has ts s × P c s) → count_below k f ≤ length ts) → (b : Bool) → f k ≡ b
        → (if b then count_below k f + 1 else count_below k f) ≤ length ss
    by rest again false is = rest
    by rest again true is =
        let own = takes k (omega arith) is in
        let fewer = again (without ss own.0 own.1) (λ c less passes_. (
        let it = takes c (omega (arith, less)) passes_ in
        (it.0, has_still ss own.0 it.0 own.1 it.1 (λ same. (let e = one c k own.0 (subst (P c) same it.2) own.2 in omega (arith, less, e))), it.2)
        )) in
        let long = one_less ss own.0 own.1 in
        omega (arith, fewer, long)

-- a list with an arm that is so has a first that is
first_there : (P : ArmName → Type 0) (ns : List ArmName) (n : ArmName) (o : Option ArmName) → has_name ns n ≡ true → P n → IsFirst P ns o → is_none o ≡ false
first_there P [] n o at is first = absurd (true≢false (sym at))
first_there P (m ∷ ns) n (Some k) at is first = refl
first_there P (m ∷ ns) n None at is first = elim (either_true (name_eq m n) (has_name ns n) at) [
  | inl here ↦ absurd (first.0 (subst P (sym (name_true m n here)) is))
  | inr there ↦ first_there P ns n None there is first.1
]

-- an arm answers wherever its slot has a column, where each slot without a spare has a first disk that answers
answers_at : (geometry : Geometry) (perms : Perms) (lay : IsLayout geometry perms) (m : ℕ) (w : machine.State) (r : IsReached (layout_of geometry perms m) w) → FirstsUp geometry.spec.children w.core
    → (x c : ℕ) → c < geometry.g → (n : ArmName) → has_name (w.core.order ((layout_of geometry perms m).slot_of x c)) n ≡ true → IsUp w.core n → answers (layout_of geometry perms m) w.core n x ≡ true
answers_at geometry perms lay m w r firsts x c inside (Leaf leaf) listed up = up
answers_at geometry perms lay m w r firsts x c inside (Spare t) listed up =
    let column = any_at geometry.g (λ c. has_name (w.core.order ((layout_of geometry perms m).slot_of x c)) (Spare t)) c inside listed in
    let owned = every_segment (layout_of geometry perms m) w (layout_is geometry perms m lay) r in
    let a = owned.listed.data_of ((layout_of geometry perms m).slot_of x c) (Spare t) listed in
    ap (λ b. passes (if b then first_leaf (w.core.order ((layout_of geometry perms m).home (first_spares w.core.order) t x)) else None) (leaf_answers w.core)) (below t geometry.spec.spares (owned.spares t a.0 a.1).0)
    ∙ firsts ((layout_of geometry perms m).home (first_spares w.core.order) t x) ((layout_is geometry perms m lay).homes (first_spares w.core.order) x t) (at_home_is geometry perms m lay w r t x column).free

-- ---- one metaslab

module _ (geometry : Geometry) (perms : Perms) (lay : IsLayout geometry perms) (m : ℕ) where
  record IsSteadyIn (w : machine.State) : Type 0 where
    pub slots : List ℕ
    pub few : length slots ≤ geometry.spec.parity
    pub firsts : FirstsUp geometry.spec.children w.core
    pub good : (slot : ℕ) → slot < geometry.spec.children → Contains slots slot ⊎ ((n : ArmName) × IsKept geometry.spec.children slot n w)
    pub pass : (p : machine.Pass) → w.core.pass ≡ Some p → (p.kind ≡ Rebuild) × ((leaf : ℕ) → has_name p.targets (Leaf leaf) ≡ true → leaf_answers w.core leaf ≡ true)
    pub sources : HasSources (layout_of geometry perms m) w

  -- the pass that stays is a rebuild, and its targets that are leaves answered
  abbrev FromPass : machine.State → machine.State → Type 0
  FromPass w new = (p : machine.Pass) → new.core.pass ≡ Some p → (p.kind ≡ Rebuild) × ((leaf : ℕ) → has_name p.targets (Leaf leaf) ≡ true → leaf_answers w.core leaf ≡ true)

  lost_from : (bad : ArmName → Bool) (w : machine.State) → IsSteadyIn w → (p : machine.Pass) → map_pass (lose_some bad) w.core.pass ≡ Some p → (p.kind ≡ Rebuild) × ((leaf : ℕ) → has_name p.targets (Leaf leaf) ≡ true → leaf_answers w.core leaf ≡ true)
  lost_from bad w is p pass =
      let z = mapped_pass (lose_some bad) w.core.pass p pass in
      let had = is.pass z.0 z.1 in
      (ap (λ (q : machine.Pass). q.kind) z.2 ∙ had.0, λ leaf at. had.1 leaf (has_filter (λ k. not (bad k)) z.0.targets (Leaf leaf) (subst (λ (q : machine.Pass). has_name q.targets (Leaf leaf) ≡ true) z.2 at)).0)

  same_from : (w : machine.State) (q r : machine.Pass) → IsSteadyIn w → w.core.pass ≡ Some q → r.kind ≡ q.kind → ((n : ArmName) → has_name r.targets n ≡ true → has_name q.targets n ≡ true)
      → (p : machine.Pass) → Some r ≡ Some p → (p.kind ≡ Rebuild) × ((leaf : ℕ) → has_name p.targets (Leaf leaf) ≡ true → leaf_answers w.core leaf ≡ true)
  same_from w q r is pass kind fewer p same =
      let had = is.pass q pass in
      let e = some_injective r p same in
      (ap (λ (s : machine.Pass). s.kind) (sym e) ∙ (kind ∙ had.0), λ leaf at. had.1 leaf (fewer (Leaf leaf) (subst (λ (s : machine.Pass). has_name s.targets (Leaf leaf) ≡ true) (sym e) at)))

  planned_from : (w : machine.State) (leaf : ℕ) → has_name (targets_of (layout_of geometry perms m) w.core Rebuild) (Leaf leaf) ≡ true → leaf_answers w.core leaf ≡ true
  planned_from w leaf at = (both_true (is_fresh (w.core.arm (Leaf leaf))) (leaf_answers w.core leaf) (has_filter (is_target (layout_of geometry perms m) w.core Rebuild) (arms_below w.core.order geometry.spec.children) (Leaf leaf) at).1).1

  pass_on : (v : View) (e : Event) (w new : machine.State) → IsMending (On v (Did e new)) → Step (layout_of geometry perms m) w e new → IsSteadyIn w → FromPass w new
  pass_on v (event.Close t) w new of s is = subst (FromPass w) (sym s.made) is.pass
  pass_on v (event.Seal t failed) w new of s is = subst (FromPass w) (sym s.made) (lost_from (lies_on (layout_of geometry perms m) w.core (is_silent w.core failed.items)) w is)
  pass_on v (event.Commit t) w new of s is = subst (FromPass w) (sym s.made) is.pass
  pass_on v (event.Plan Rebuild) w new of s is =
      subst (FromPass w) (sym s.made) (λ p same. (
        ap (λ (q : machine.Pass). q.kind) (sym (some_injective _ p same)),
        λ leaf at. planned_from w leaf (subst (λ (q : machine.Pass). has_name q.targets (Leaf leaf) ≡ true) (sym (some_injective _ p same)) at),
      ))
  pass_on v event.Ready w new of s is = subst (FromPass w) (sym s.made) (same_from w s.p _ is s.pass refl (λ n at. at))
  pass_on v (event.Lend failed) w new of s is = subst (FromPass w) (sym s.made) (same_from w s.p _ is s.pass refl (λ n at. at))
  pass_on v (event.LandStripe pass serial failed) w new of s is = subst (FromPass w) (sym s.made) (by (nat_lt geometry.spec.parity (unsourced (layout_of geometry perms m) s.n)))
    where
      by : (c : Bool) → FromPass w (if c then pass_over w s.p 1 (s.n.stripe + 1) else mend_state (layout_of geometry perms m) w s.p s.n s.h failed.items)
      by true = same_from w s.p _ is s.counts.pass_is refl (λ n at. at)
      by false = same_from w s.p _ is s.counts.pass_is refl (λ n at. (has_filter _ s.p.targets n at).0)
  pass_on v (event.Done failed) w new of s is = subst (FromPass w) (sym s.made) (λ p none. absurd (none_some None p refl none))
  pass_on v e w new of s is = absurd of

  -- of a stripe that is lent a column lacks a source only where its slot has no such arm
  lends : (w new : machine.State) (failed : List ℕ) → IsReached (layout_of geometry perms m) w → (s : LendStep (layout_of geometry perms m) w failed new) → failed ≡ [] → s.p.kind ≡ Rebuild → IsSteadyIn w
      → unsourced (layout_of geometry perms m) s.n ≤ geometry.spec.parity
  lends w new failed r s none rebuild is =
      let most : count_below geometry.g (λ c. is_none (s.n.chosen c)) ≤ length is.slots =
      fewer_below (Costs geometry perms m lay w r s.n.stripe) (one_column geometry perms m lay w r s.n.stripe) geometry.g (λ c. is_none (s.n.chosen c)) is.slots takes in
      let few = is.few in
      omega (arith, most, few)
    where
      -- an arm that is sure is a source
      sure_source : (c : ℕ) → c < geometry.g → (n : ArmName) → IsKept geometry.spec.children ((layout_of geometry perms m).slot_of s.n.stripe c) n w → is_none (s.n.chosen c) ≡ false
      sure_source c inside n kept =
          let chosen = s.chosen c inside in
          let first = first_there (λ k. (answers (layout_of geometry perms m) w.core k s.n.stripe ≡ true) × HasEmptyLog w.core k) (w.core.order ((layout_of geometry perms m).slot_of s.n.stripe c)) n chosen.from kept.stands.0
          (answers_at geometry perms lay m w r kept.firsts s.n.stripe c inside n kept.stands.0 kept.stands.1, kept.empty) (chosen.rebuild (heal_off s.p.kind rebuild)) in
          ap is_none (chosen.chosen_is ∙ unless_none failed none chosen.from) ∙ first
        where
          heal_off : (k : _) → k ≡ Rebuild → is_heal k ≡ false
          heal_off k is_ = ap is_heal is_

          unless_none : (fs : List ℕ) → fs ≡ [] → (o : Option ArmName) → unless_failed (layout_of geometry perms m) w.core s.n.stripe fs o ≡ o
          unless_none fs empty None = refl
          unless_none fs empty (Some k) =
              ap (λ b. if b then None else Some k) (ap (λ ls. fails (layout_of geometry perms m) w.core ls k s.n.stripe) empty ∙ none_fails (leaf_at (layout_of geometry perms m) w.core.order k s.n.stripe))

      takes : (c : ℕ) → c < geometry.g → is_none (s.n.chosen c) ≡ true → (slot : ℕ) × Has is.slots slot × Costs geometry perms m lay w r s.n.stripe c slot
      takes c inside lacks = elim (is.good ((layout_of geometry perms m).slot_of s.n.stripe c) ((layout_is geometry perms m lay).slots s.n.stripe c inside)) [
        | inl at ↦ ((layout_of geometry perms m).slot_of s.n.stripe c, to_has is.slots ((layout_of geometry perms m).slot_of s.n.stripe c) at, (inside, inl refl))
        | inr kept ↦ absurd (absurd_test (is_none (s.n.chosen c)) lacks (sure_source c inside kept.0 kept.1))
      ]

  -- ---- what stays so

  kept_loan : (gone : Key → Bool) (o : Option machine.Loan) (n : machine.Loan) → keep_loan gone o ≡ Some n → o ≡ Some n
  kept_loan gone None n is = absurd (none_some None n refl is)
  kept_loan gone (Some k) n is = ap Some (kept_if (not (gone k.key)) k n is).1

  sources_on : (v : View) (e : Event) (w new : machine.State) → IsMending (On v (Did e new)) → FailsNoCall (On v (Did e new)) → IsReached (layout_of geometry perms m) w → Step (layout_of geometry perms m) w e new → IsSteadyIn w
      → HasSources (layout_of geometry perms m) new
  sources_on v (event.Close t) w new of calm r s is = subst (HasSources (layout_of geometry perms m)) (sym s.made) is.sources
  sources_on v (event.Seal t failed) w new of calm r s is = subst (HasSources (layout_of geometry perms m)) (sym s.made) is.sources
  sources_on v (event.Commit t) w new of calm r s is = subst (HasSources (layout_of geometry perms m)) (sym s.made) (λ n loan. is.sources n (kept_loan _ w.loan n loan))
  sources_on v (event.Plan Rebuild) w new of calm r s is = subst (HasSources (layout_of geometry perms m)) (sym s.made) is.sources
  sources_on v event.Ready w new of calm r s is = subst (HasSources (layout_of geometry perms m)) (sym s.made) is.sources
  sources_on v (event.Lend failed) w new of calm r s is =
      subst (HasSources (layout_of geometry perms m)) (sym s.made) (λ n loan. subst (λ (k : machine.Loan). unsourced (layout_of geometry perms m) k ≤ geometry.spec.parity) (some_injective s.n n loan) (lends w new failed.items r s calm (is.pass s.p s.pass).0 is))
  sources_on v (event.LandStripe pass serial failed) w new of calm r s is = subst (HasSources (layout_of geometry perms m)) (sym s.made) (by (nat_lt geometry.spec.parity (unsourced (layout_of geometry perms m) s.n)))
    where
      by : (c : Bool) → HasSources (layout_of geometry perms m) (if c then pass_over w s.p 1 (s.n.stripe + 1) else mend_state (layout_of geometry perms m) w s.p s.n s.h failed.items)
      by true n loan = absurd (none_some None n refl loan)
      by false n loan = absurd (none_some None n refl loan)
  sources_on v (event.Done failed) w new of calm r s is = subst (HasSources (layout_of geometry perms m)) (sym s.made) is.sources
  sources_on v e w new of calm r s is = absurd of

  abbrev IsQuietMending : Hold → Type 0
  IsQuietMending hold = IsCalmMending hold × FailsNoCall hold

  steady_on : (v : View) (e : Event) (w new : machine.State) → IsQuietMending (On v (Did e new)) → IsReached (layout_of geometry perms m) w → Step (layout_of geometry perms m) w e new → IsSteadyIn w → IsSteadyIn new
  steady_on v e w new q r s is =
      let up = same_up (layout_of geometry perms m) v e w new q.0.0 s in
      record {
        slots = is.slots;
        few = is.few;
        firsts = firsts_same geometry.spec.children w new up is.firsts;
        good = λ slot inside. elim (is.good slot inside) [
          | inl at ↦ inl at
          | inr kept ↦ (
              let k = kept.1 in
              let logs = log_kept slot m kept.0 geometry perms lay v e w new q.0 r s k in
              inr (kept.0, record { firsts = firsts_same geometry.spec.children w new up k.firsts; stands = stands_same slot kept.0 w new up k.stands; empty = logs.0; old = logs.1 }))
        ];
        pass = λ p pass_. (let from = pass_on v e w new q.0.0 s is p pass_ in (from.0, λ leaf at. up.answers leaf ∙ from.1 leaf at));
        sources = sources_on v e w new q.0.0 q.1 r s is;
      }

  -- so nothing disturbs it
  lie_well : (w : machine.State) → IsReached (layout_of geometry perms m) w → IsSteadyIn w → TargetsLieWell (layout_of geometry perms m) w.core
  lie_well w r is p (Leaf leaf) pass at = (is.pass p pass).1 leaf at
  lie_well w r is p (Spare t) pass at = λ x column.
      let c = some_within geometry.g (λ c. has_name (w.core.order ((layout_of geometry perms m).slot_of x c)) (Spare t)) column in
      answers_at geometry perms lay m w r is.firsts x c.0 c.1 (Spare t) c.2 tt

  finds_calm : (v : View) (e : Event) (w new : machine.State) → IsMending (On v (Did e new)) → FailsNoCall (On v (Did e new)) → IsReached (layout_of geometry perms m) w → IsSteadyIn w → FindsCalm (layout_of geometry perms m) w e
  finds_calm v (event.Close t) w new of calm r is = tt
  finds_calm v (event.Seal t failed) w new of calm r is = (calm, lie_well w r is)
  finds_calm v (event.Commit t) w new of calm r is = tt
  finds_calm v (event.Plan Rebuild) w new of calm r is = tt
  finds_calm v event.Ready w new of calm r is = tt
  finds_calm v (event.Lend failed) w new of calm r is = calm
  finds_calm v (event.LandStripe pass serial failed) w new of calm r is = (calm, lie_well w r is, is.sources)
  finds_calm v (event.Done failed) w new of calm r is = (calm, lie_well w r is)
  finds_calm v e w new of calm r is = absurd of

module _ (geometry : Geometry) (perms : Perms) (lay : IsLayout geometry perms) where
  hold_undisturbed : (hold : Hold) (x z : State) → x.geometry ≡ geometry → x.perms ≡ perms → IsQuietMending geometry perms lay 0 hold → Holds hold x z → AreReached x → ((m : ℕ) → AtState m (IsSteadyIn geometry perms lay m) x) → IsUndisturbed geometry perms hold
  hold_undisturbed (On v (Did e w)) x z g p q it r steady =
      let same : layout_of x.geometry x.perms v.metaslab ≡ layout_of geometry perms v.metaslab = λ i. layout_of (g i) (p i) v.metaslab in
      subst (λ (y : machine.State). FindsCalm (layout_of geometry perms v.metaslab) y e) (sym (ap (λ (u : View). u.world) it.sees))
      (finds_calm geometry perms lay v.metaslab v e it.before.world w q.0.0 q.1 (subst (λ (l : machine.Layout). IsReached l it.before.world) same (r.each v.metaslab it.before it.there)) (steady v.metaslab it.before it.there))
  hold_undisturbed (On v Looked) x z g p q it r steady = tt
  hold_undisturbed (On v (Reserved k)) x z g p q it r steady = tt
  hold_undisturbed (On v (MadeLeaf k)) x z g p q it r steady = tt
  hold_undisturbed (On v (AreaFailed k)) x z g p q it r steady = tt
  hold_undisturbed (On v RackFailed) x z g p q it r steady = tt
  hold_undisturbed (On v CallStarved) x z g p q it r steady = tt
  hold_undisturbed (OnUber u act) x z g p q it r steady = tt

  follow_undisturbed : (holds : List Hold) (x z : State) → x.geometry ≡ geometry → x.perms ≡ perms → AllOf (IsQuietMending geometry perms lay 0) holds → Follows holds x z → AreReached x
      → ((m : ℕ) → AtState m (IsSteadyIn geometry perms lay m) x) → AllOf (IsUndisturbed geometry perms) holds
  follow_undisturbed [] x z g p all follows r steady = tt
  follow_undisturbed (hold ∷ holds) x z g p all follows r steady =
      let same = layout_stays (hold ∷ []) x follows.0 (follows.0, follows.1, refl) in (
        hold_undisturbed hold x follows.0 g p all.0 follows.1 r steady,
        follow_undisturbed holds follows.0 z (same.0 ∙ g) (same.1 ∙ p) all.1 follows.2 (hold_reached hold x follows.0 follows.1 r)
            (λ m. laid_hold geometry perms m (IsQuietMending geometry perms lay m) (IsSteadyIn geometry perms lay m) (steady_on geometry perms lay m) hold x follows.0 g p all.0 follows.1 r (steady m)),
      )

  flush_of : (hold : Hold) → FailsNoCall hold → IsMending hold → IsQuietMending geometry perms lay 0 hold
  flush_of (On v (Did (event.Seal t failed) w)) calm of = ((of, calm), calm)
  flush_of (On v (Did (event.Close t) w)) calm of = ((of, tt), calm)
  flush_of (On v (Did (event.Commit t) w)) calm of = ((of, tt), calm)
  flush_of (On v (Did (event.Plan Rebuild) w)) calm of = ((of, tt), calm)
  flush_of (On v (Did event.Ready w)) calm of = ((of, tt), calm)
  flush_of (On v (Did (event.Lend failed) w)) calm of = ((of, tt), calm)
  flush_of (On v (Did (event.LandStripe pass serial failed) w)) calm of = ((of, tt), calm)
  flush_of (On v (Did (event.Done failed) w)) calm of = ((of, tt), calm)
  flush_of (On v Looked) calm of = ((of, tt), calm)
  flush_of (On v (AreaFailed k)) calm of = ((of, tt), calm)
  flush_of (On v CallStarved) calm of = ((of, tt), calm)
  flush_of (OnUber u act) calm of = ((of, tt), calm)
  flush_of hold calm of = absurd of

  all_quiet : (holds : List Hold) → AllOf FailsNoCall holds → AllOf IsMending holds → AllOf (IsQuietMending geometry perms lay 0) holds
  all_quiet [] a b = tt
  all_quiet (hold ∷ holds) a b = (flush_of hold a.0 b.0, all_quiet holds a.1 b.1)

-- an arm that has missed nothing isn't new
not_new : (l : machine.Layout) → machine.IsLayout l → (w : machine.State) → IsReached l w → (n : ArmName) → HasEmptyLog w.core n → is_fresh (w.core.arm n) ≡ false
not_new l lay w r n empty = by (w.core.arm n) refl
  where
    test : (a : machine.Arm) → w.core.arm n ≡ Some a → (c : Bool) → a.fresh ≡ c → a.fresh ≡ false
    test a found false is = is
    test a found true is = absurd (absurd_test (a.log 1) ((every_fresh l lay w r).core n a found is) (ap (λ o. logged o 1) (sym found) ∙ empty 1))

    by : (o : Option machine.Arm) → w.core.arm n ≡ o → is_fresh o ≡ false
    by None found = refl
    by (Some a) found = test a found a.fresh refl

pub few_counts : (geometry : Geometry) (perms : Perms) → IsLayout geometry perms → (limit : Option ℕ) (holds : List Hold) (t : Tally) (x z : State) → x.geometry ≡ geometry → x.perms ≡ perms
    → passes.Rebuilds geometry perms limit holds Ended t → Follows holds x z → AreReached x → HaveNoPass x → HaveFewBroken x → AllOf FailsNoCall holds → t.errors ≡ 0
few_counts geometry perms lay limit holds t x z g p rebuilds follows reached idle broken calm =
    rebuild_counts geometry perms limit holds Ended t x z rebuilds
    (follow_undisturbed geometry perms lay holds x z g p (all_quiet geometry perms lay holds calm (rebuild_mends geometry perms limit holds t rebuilds)) follows reached start) follows
    (record { layout = g; children = p; errors = λ k y there q pass. absurd (none_some y.world.core.pass q (idle k y there) pass) })
  where
    start : (m : ℕ) → AtState m (IsSteadyIn geometry perms lay m) x
    start m y there = record {
      slots = b.slots;
      few = subst (λ (h : Geometry). length b.slots ≤ h.spec.parity) g b.few;
      firsts = firsts;
      good = λ slot inside. elim (b.good slot (subst (λ (h : Geometry). slot < h.spec.children) (sym g) inside)) [
        | inl at ↦ inl at
        | inr it ↦ inr (it.n, record { firsts = firsts; stands = (it.listed, it.up); empty = it.empty; old = not_new (layout_of geometry perms m) (layout_is geometry perms m lay) y.world r it.n it.empty })
      ];
      pass = λ q pass. absurd (none_some y.world.core.pass q (idle m y there) pass);
      sources = λ n loan. (let fits = (reached_sound (layout_of geometry perms m) (layout_is geometry perms m lay) y.world r).loan n loan in absurd (none_some y.world.core.pass fits.p (idle m y there) fits.pass));
    }
      where
        b : HasFewBroken x.geometry.spec.children x.geometry.spec.parity y.world.core
        b = broken m y there

        r : IsReached (layout_of geometry perms m) y.world
        r = (let same : layout_of x.geometry x.perms m ≡ layout_of geometry perms m = λ i. layout_of (g i) (p i) m in subst (λ (l : machine.Layout). IsReached l y.world) same (reached.each m y there))

        firsts : FirstsUp geometry.spec.children y.world.core
        firsts slot inside = b.first slot (subst (λ (h : Geometry). slot < h.spec.children) (sym g) inside)
