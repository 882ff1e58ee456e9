-- The end of a pass is the state machine's, and the rack does what that says.
use Rattle.std.proofs.Common.{not, ◌≡◌, ◌==◌, ◌≤◌, ◌∙◌, ℕ, Bool, true, false, List, [], Option, Some, None, All, IfSome, IsSomeAnd, Vec, Global, option_map, arith, refl, sym, ap, subst, length, min, if◌then◌else◌}
use Rattle.std.proofs.lemmas.List.Elements.{All-filter}
use Rattle.draid_map.specs.Place.{IsLayout}
use Rattle.draid_names.specs.declared.numbers.TheConstants.{LAST_NUMBER}
use Rattle.draid_names.specs.declared.pass_kind.PassKind.{PassKind}
use Rattle.draid_names.specs.declared.pass_kind.PassKind.TheVariants.{Rebuild, Heal}
use Rattle.draid_rack.specs.Rack.{OnBothTold, Told}
use Rattle.draid_rack.specs.declared.Rack.{Ghosts}
use Rattle.draid_rack.proofs.Moments.{leaves_self}
use Rattle.draid_columns.specs.Flushes as flushes
use Rattle.draid_columns.specs.Flushes.{FlushesBut, has_leaf}
use Rattle.draid_layouts.specs.Layout.{layout_of}
use Rattle.draid_machine.specs.declared.names.ArmName.{ArmName}
use Rattle.draid_machine.specs.After.{done_state, ended_pass, lose_some}
use Rattle.draid_machine.specs.Arms.{is_silent, lies_on}
use Rattle.draid_machine.specs.Created.{IsReached}
use Rattle.draid_machine.specs.Names.{has_number, is_heal}
use Rattle.draid_machine.specs.Step.{is_lent}
use Rattle.draid_machine.specs.State as machine
use Rattle.draid_machine.specs.Step.{DoneStep, FlushesThere}
use Rattle.draid_machine.proofs.Fitted.{every_fit}
use Rattle.draid_machine.proofs.Rows.{reached_sound}
use Rattle.draid_machine.proofs.Small.{absurd_test, some_same}
use Rattle.draid_machine.specs.Sound.{LoanFits}
use Rattle.draid_shard.specs.declared.loan.KeptLoan.{KeptLoan}
use Rattle.draid_entries.specs.declared.history.History.{History}
use Rattle.draid_marks.specs.Layout.{layout_with}
use Rattle.draid_marks.proofs.Silence.{same_number}
use Rattle.draid_metaslab.specs.Spaces.{Stripes}
use Rattle.draid_pass.specs.declared.pass.Pass.{Pass}
use Rattle.draid_plans.specs.Ends.{EndsAll, is_lost}
use Rattle.draid_plans.specs.Targets.{AreMarked}
use Rattle.draid_segments.specs.Acts.{FlushesTargets, nowhere}
use Rattle.draid_slots.specs.States.{HasSlots, HoldsPass, name_of, names_at, pass_in}
use Rattle.draid_slots.specs.Table.{IsThere, SlotTable}
use Rattle.draid_shard.specs.Calls as calls
use Rattle.draid_shard.specs.Calls.{ActsOn}
use Rattle.draid_shard.specs.Fits.{Valid}
use Rattle.draid_shard.specs.Loans.{loan_in}
use Rattle.draid_shard.specs.States.{IsIn, layout_by, part_of}
use Rattle.draid_shard.specs.declared.shard.Shard.{Shard}
use Rattle.draid_shard.proofs.Homes.{lays}
use Rattle.draid_passing.specs.Ending.{FirmsBy, IsEnded, last_good}
use Rattle.draid_shard.specs.Left.{HasNothingLeft}
use Rattle.draid_passing.specs.Flushing.{due_leaves}
use Rattle.draid_passing.specs.declared.ending.Ended.{Ended}
use Rattle.draid_passing.proofs.Bearing.{among_all, answers_due, bears_name, due_answers, name_bears, names_many}

heal_is : (k : PassKind) → is_heal k ≡ true → k ≡ Heal
heal_is Heal is = refl
heal_is Rebuild is = absurd_test false is refl

min_left : (a b : ℕ) → a ≤ b → min a b ≡ a
min_left a b le = omega (arith, le)

pub counts_flushes : (all failed : List ℕ) (old new : Option ℕ → ℕ) → flushes.CountsFailed all failed old new → calls.CountsFailed failed old new
counts_flushes all failed old new c = record { later = c.later; cause = c.cause }

pub counts_still : (old : Option ℕ → ℕ) → calls.CountsFailed [] old old
counts_still old = record { later = λ who. omega arith; cause = λ leaf. omega arith }

module _ {R A : Type 0} (rack : Ghosts R) (old : Shard R A) (v : Valid rack old) (pass mid : Pass) (there : old.pass ≡ Some pass) (r : R) (failed : Vec ℕ Global)
    (firms : FirmsBy pass.kind rack old.slots pass mid failed.items old.rack r) where
  -- the pass as it ends
  abbrev pub good : Pass
  good = record mid { max = last_good mid old.committed }

  layout_is : layout_with old.slots ≡ layout_by old
  layout_is = λ i. layout_of (v.slots.geometry_is i) (v.slots.perms_are i) (v.slots.metaslab_is i)

  pub targets_there : All (IsThere old.slots) pass.targets.items
  targets_there = (subst (λ o. IfSome o (HoldsPass old.slots old.last_pass)) there v.pass).current.targets

  module _ (w : machine.State) (reached : IsReached (layout_by old) w) (at : IsIn old w) where
    abbrev l : machine.Layout
    l = layout_by old

    abbrev p : machine.Pass
    p = pass_in old.slots pass

    own_reached : IsReached (layout_with old.slots) w
    own_reached = subst (λ l. IsReached l w) (sym layout_is) reached

    own_lay : IsLayout old.slots.geometry old.slots.perms
    own_lay = subst (λ g. IsLayout g old.slots.perms) (sym v.slots.geometry_is) (subst (IsLayout old.geometry) (sym v.slots.perms_are) v.part.layout)

    pub pass_there : w.core.pass ≡ Some p
    pass_there = at.pass ∙ ap (option_map (pass_in old.slots)) there

    -- ---- the leaves that are flushed

    flushes_there : pass.kind ≡ Rebuild → (leaf : ℕ) → has_leaf (due_leaves old.slots pass.targets.items) leaf ≡ true → FlushesThere l w.core p leaf
    flushes_there kind leaf due =
        let z = due_answers old.slots own_lay w own_reached at.slots leaf pass.targets.items due in
        let b = bears_name old.slots own_lay w own_reached at.slots leaf pass.targets.items targets_there z.1 in
        record {
          rebuild = ap is_heal kind;
          arm = b.arm;
          target = b.target;
          lies = subst (λ m. lies_on m w.core (λ n. n == leaf) b.arm ≡ true) layout_is b.lies;
          answers = z.0;
        }

    there_flushes : (leaf : ℕ) → FlushesThere l w.core p leaf → has_leaf (due_leaves old.slots pass.targets.items) leaf ≡ true
    there_flushes leaf f =
        answers_due old.slots own_lay w own_reached at.slots leaf pass.targets.items f.answers
        (name_bears old.slots own_lay w own_reached at.slots leaf pass.targets.items targets_there
        (record { arm = f.arm; target = f.target; lies = subst (λ m. lies_on m w.core (λ n. n == leaf) f.arm ≡ true) (sym layout_is) f.lies }))

    fails_there : (k : PassKind) → pass.kind ≡ k → FirmsBy k rack old.slots pass mid failed.items old.rack r → (leaf : ℕ) → has_number failed.items leaf ≡ true → FlushesThere l w.core p leaf
    fails_there Rebuild kind f leaf is = flushes_there kind leaf (among_all (λ m. has_leaf (due_leaves old.slots pass.targets.items) m ≡ true) failed.items leaf f.cause.among is)
    fails_there Heal kind f leaf is = absurd_test false (sym (ap (λ xs. has_number xs leaf) f.1) ∙ is) refl

    -- ---- the pass as it ends

    max_low : (k : PassKind) → pass.kind ≡ k → pass.max ≤ elim k as (λ k. ℕ) [ Rebuild ↦ LAST_NUMBER | Heal ↦ old.committed ]
    max_low Rebuild kind = ((every_fit l w (lays (part_of old) v.part) reached).core.pass p pass_there).max
    max_low Heal kind =
        let upto = (reached_sound l (lays (part_of old) v.part) w reached).core.heal p pass_there kind in
        let same = at.committed in
        omega (arith, upto, same)

    good_max : (k : PassKind) → pass.kind ≡ k → mid.kind ≡ pass.kind → mid.max ≡ pass.max → last_good mid old.committed ≡ pass.max
    good_max k kind kind_stays max_stays =
        (λ i. min (max_stays i) (elim ((kind_stays ∙ kind) i) as (λ k. ℕ) [ Rebuild ↦ LAST_NUMBER | Heal ↦ old.committed ])) ∙ min_left pass.max (elim k as (λ k. ℕ) [ Rebuild ↦ LAST_NUMBER | Heal ↦ old.committed ]) (max_low k kind)

    capped : mid.max ≡ pass.max → last_good mid old.committed ≡ pass.max → pass_in old.slots good ≡ pass_in old.slots mid
    capped max_stays is = λ i. record {
      number = mid.number;
      kind = mid.kind;
      targets = names_at old.slots mid.targets.items;
      max = (is ∙ sym max_stays) i;
      next = mid.at;
      errors = mid.errors;
      running = mid.running;
    }

    ended_by : (k : PassKind) → pass.kind ≡ k → FirmsBy k rack old.slots pass mid failed.items old.rack r → pass_in old.slots good ≡ ended_pass l w.core p failed.items
    ended_by Rebuild kind f =
        let bad : ArmName → Bool = lies_on l w.core (is_silent w.core failed.items) in
        let marked : AreMarked old.slots f.marks bad = λ place arm is. f.silent.lie w own_reached at.slots place arm is ∙ ap (λ m. lies_on m w.core (is_silent w.core failed.items) (name_of arm)) layout_is in
        capped f.loses.max_stays (good_max Rebuild kind f.loses.kind_stays f.loses.max_stays) ∙ f.loses_all old.slots bad marked targets_there
        ∙ sym (ap (λ k. if is_heal k then p else lose_some bad p) kind)
    ended_by Heal kind f =
        let same : mid ≡ pass = f.0 in
        capped (ap (λ (x : Pass). x.max) same) (good_max Heal kind (ap (λ (x : Pass). x.kind) same) (ap (λ (x : Pass). x.max) same)) ∙ ap (pass_in old.slots) same
        ∙ sym (ap (λ k. if is_heal k then p else lose_some (lies_on l w.core (is_silent w.core failed.items)) p) kind)

    pub ended_is : pass_in old.slots good ≡ ended_pass l w.core p failed.items
    ended_is = ended_by pass.kind refl firms

    -- no loan counts: what it lent would be left to lend
    pub loan_none : HasNothingLeft old → w.loan ≡ None
    loan_none left = by old.kept refl
      where
        by : (o : Option KeptLoan) → old.kept ≡ o → w.loan ≡ None
        by None e = at.loan ∙ ap (option_map loan_in) e
        by (Some kept) e = absurd clash
          where
            fits : LoanFits w.core (loan_in kept)
            fits = (reached_sound l (lays (part_of old) v.part) w reached).loan (loan_in kept) (at.loan ∙ ap (option_map loan_in) e)

            clash : ⊥
            clash =
                let same : fits.p ≡ p = some_same w.core.pass fits.p p fits.pass pass_there in
                let lent : is_lent p fits.h ≡ true = ap (λ (x : machine.Pass). is_lent x fits.h) (sym same) ∙ fits.lent in
                let less = left w at p pass_there (loan_in kept).key fits.h (loan_in kept).stripe fits.found lent fits.taken in
                let next : fits.p.next ≡ p.next = ap (λ (x : machine.Pass). x.next) same in
                let from = fits.from in
                omega (arith, next, less, from)

    pub done_step : IsSomeAnd old.pass (λ (x : Pass). x.running ≡ true) → HasNothingLeft old → DoneStep l w failed.items (done_state w (ended_pass l w.core p failed.items))
    done_step runs left = record {
      p = p;
      pass = pass_there;
      running = subst (λ o. IsSomeAnd o (λ (x : Pass). x.running ≡ true)) there runs;
      finished = left w at p pass_there;
      idle = loan_none left;
      fail = fails_there pass.kind refl firms;
      made = refl;
    }

    -- ---- what the rack tells

    flushed : (k : PassKind) → pass.kind ≡ k → FirmsBy k rack old.slots pass mid failed.items old.rack r → OnBothTold (rack.told old.rack) (rack.told r) (FlushesTargets l w.core p failed.items)
    flushed Rebuild kind f = by (rack.told old.rack) (rack.told r) f.told
      where
        by : (o q : Option Told) → OnBothTold o q (FlushesBut (due_leaves old.slots pass.targets.items) failed.items) → OnBothTold o q (FlushesTargets l w.core p failed.items)
        by None q is = is
        by (Some x) None is = absurd is
        by (Some x) (Some y) is = record { same = is.leaves; done = λ leaf sector flushes fine. is.firm leaf sector (there_flushes leaf flushes) (same_number failed.items leaf ∙ fine) }
    flushed Heal kind f = subst (λ s. OnBothTold (rack.told old.rack) (rack.told s) (FlushesTargets l w.core p failed.items)) (sym f.2) (by (rack.told old.rack))
      where
        by : (o : Option Told) → OnBothTold o o (FlushesTargets l w.core p failed.items)
        by None = refl
        by (Some x) = record { same = leaves_self nowhere x; done = λ leaf sector flushes fine. absurd_test (is_heal pass.kind) (ap is_heal kind) flushes.rebuild }

    pub done_acts : (q : machine.Pass) → w.core.pass ≡ Some q → OnBothTold (rack.told old.rack) (rack.told r) (FlushesTargets l w.core q failed.items)
    done_acts q is = subst (λ q. OnBothTold (rack.told old.rack) (rack.told r) (FlushesTargets l w.core q failed.items)) (some_same w.core.pass p q pass_there is) (flushed pass.kind refl firms)

    -- ---- the answer

    pub errors_are : (ended : Ended) (q : machine.Pass) → IsEnded good ended → w.core.pass ≡ Some q → ended.errors ≡ (ended_pass l w.core q failed.items).errors
    errors_are ended q is pass_is =
        is.0 ∙ ap (λ (x : machine.Pass). x.errors) ended_is ∙ ap (λ q. (ended_pass l w.core q failed.items).errors) (some_same w.core.pass p q pass_there pass_is)

    left_there : (k : PassKind) → pass.kind ≡ k → FirmsBy k rack old.slots pass mid failed.items old.rack r → All (IsThere old.slots) mid.targets.items
    left_there Rebuild kind f = subst (All (IsThere old.slots)) (sym f.loses.targets_are) (All-filter (λ place. not (is_lost f.marks place)) (IsThere old.slots) pass.targets.items targets_there)
    left_there Heal kind f = subst (λ (x : Pass). All (IsThere old.slots) x.targets.items) (sym f.0) targets_there

    pub excised_are : (ended : Ended) (q : machine.Pass) → IsEnded good ended → w.core.pass ≡ Some q
        → ended.excised ≡ (let e = ended_pass l w.core q failed.items in if e.errors == 0 then length e.targets else 0)
    excised_are ended q is pass_is =
        is.1 ∙ ap (λ n. if good.errors == 0 then n else 0) (sym (names_many old.slots mid.targets.items (left_there pass.kind refl firms)))
        ∙ ap (λ (e : machine.Pass). if e.errors == 0 then length e.targets else 0) (ended_is ∙ ap (λ q. ended_pass l w.core q failed.items) (some_same w.core.pass p q pass_there pass_is))

  -- ---- the shard behind it

  pub mid_there : All (IsThere old.slots) mid.targets.items
  mid_there = by pass.kind firms
    where
      by : (k : PassKind) → FirmsBy k rack old.slots pass mid failed.items old.rack r → All (IsThere old.slots) mid.targets.items
      by Rebuild f = subst (All (IsThere old.slots)) (sym f.loses.targets_are) (All-filter (λ place. not (is_lost f.marks place)) (IsThere old.slots) pass.targets.items targets_there)
      by Heal f = subst (λ (x : Pass). All (IsThere old.slots) x.targets.items) (sym f.0) targets_there

  pub mid_kind : mid.kind ≡ pass.kind
  mid_kind = by pass.kind firms
    where
      by : (k : PassKind) → FirmsBy k rack old.slots pass mid failed.items old.rack r → mid.kind ≡ pass.kind
      by Rebuild f = f.loses.kind_stays
      by Heal f = ap (λ (x : Pass). x.kind) f.0

  pub mid_max : mid.max ≡ pass.max
  mid_max = by pass.kind firms
    where
      by : (k : PassKind) → FirmsBy k rack old.slots pass mid failed.items old.rack r → mid.max ≡ pass.max
      by Rebuild f = f.loses.max_stays
      by Heal f = ap (λ (x : Pass). x.max) f.0

  pub good_same : last_good mid old.committed ≤ last_good pass old.committed
  good_same =
      let same : last_good mid old.committed ≡ last_good pass old.committed = (λ i. min (mid_max i) (elim (mid_kind i) as (λ k. ℕ) [ Rebuild ↦ LAST_NUMBER | Heal ↦ old.committed ])) in
      omega (arith, same)

  pub shape_stays : rack.shape r ≡ rack.shape old.rack
  shape_stays = by pass.kind firms
    where
      by : (k : PassKind) → FirmsBy k rack old.slots pass mid failed.items old.rack r → rack.shape r ≡ rack.shape old.rack
      by Rebuild f = f.shape
      by Heal f = ap rack.shape f.2

  pub counts_are : calls.CountsFailed failed.items (rack.faults old.rack) (rack.faults r)
  counts_are = by pass.kind firms
    where
      by : (k : PassKind) → FirmsBy k rack old.slots pass mid failed.items old.rack r → calls.CountsFailed failed.items (rack.faults old.rack) (rack.faults r)
      by Rebuild f = counts_flushes (due_leaves old.slots pass.targets.items) failed.items (rack.faults old.rack) (rack.faults r) f.cause
      by Heal f = subst (λ xs. calls.CountsFailed xs (rack.faults old.rack) (rack.faults r)) (sym f.1)
          (subst (λ s. calls.CountsFailed [] (rack.faults old.rack) (rack.faults s)) (sym f.2) (counts_still (rack.faults old.rack)))

  module _ (slots : SlotTable) (state : EndsAll old.slots slots good) (space : Stripes) (flushed : Vec ℕ Global) (history : History) (left : HasNothingLeft old) where
    pub done_in : (w : machine.State) (reached : IsReached (layout_by old) w) (at : IsIn old w)
        → IsIn (record old { rack = r; slots = slots; space = space; pass = None; kept = None; flushed = flushed; history = history }) (done_state w (ended_pass (layout_by old) w.core (pass_in old.slots pass) failed.items))
    done_in w reached at = record {
      held = at.held;
      slots = subst (λ (p : machine.Pass). HasSlots slots (done_state w p).core) (ended_is w reached at) (state w (λ a b x y i j same. v.once.arms a b x y i j same) at.slots);
      pass = refl;
      last = at.last;
      open_group_is = at.open_group_is;
      closing = at.closing;
      sealed = at.sealed;
      committed = at.committed;
      version = at.version;
      asked = at.asked;
      serial = at.serial;
      loan = loan_none w reached at left;
    }
