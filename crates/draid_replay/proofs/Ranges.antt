-- Legal events keep numbers in their ranges.
use Rattle.std.proofs.Common.{◌≡◌, ◌+◌, ◌<◌, ◌≤◌, ◌^◌, ℕ, Bool, true, false, List, Option, Some, None, nat_lt, if◌then◌else◌, refl, sym, ap, subst, inl, inr, arith}
use Rattle.draid_names.specs.declared.numbers.TheConstants.{LAST_NUMBER}
use Rattle.draid_names.specs.declared.pass_kind.PassKind.{PassKind}
use Rattle.draid_names.specs.declared.pass_kind.PassKind.TheVariants.{Rebuild, Heal}
use Rattle.draid_machine.specs.declared.names.Key.{Key}
use Rattle.draid_machine.specs.declared.names.ArmName.{ArmName}
use Rattle.draid_machine.specs.declared.names.Stage.{Stage}
use Rattle.draid_machine.specs.declared.names.Stage.TheVariants.{Writing, Live, Freed}
use Rattle.draid_machine.specs.declared.names.Held.{Held}
use Rattle.draid_machine.specs.declared.event.Event.{Event}
use Rattle.draid_machine.specs.declared.event.Event.TheVariants.{Begin, Put, Finish, Abort, Free, Fetch, Damage, Offline, Online, Attach, Detach, Upgrade, Close, Seal, Commit, Plan, Ready, Lend, LandStripe, LandBlock, Done, Cancel, Reopen}
use Rattle.draid_machine.specs.Names.{key_eq, is_nil}
use Rattle.draid_machine.specs.State.{Layout, Pass, Loan, Image, State}
use Rattle.draid_machine.specs.Arms.{has_moved, targets_of}
use Rattle.draid_machine.specs.After.{attach_state, attached_core, rearranged_state, replan, replan_kind, lose_targets, set_held, seal_held, keep_loan, is_freed_block, seal_state, sealed_core, commit_state, planned_pass, plan_state, finish_state, land_stripe_state, land_block_state, unsourced}
use Rattle.draid_machine.specs.Step.{Step, MayPlan}
use Rattle.draid_machine.proofs.Small.{some_injective, none_some, mapped_pass, kept_some, kept_if, both_true, is_below}
use Rattle.draid_replay.specs.Within.{IsSmall, AreSmall, IsSmallPass, IsSmallImage, AreWithin, IsWithin, IsSmallEvent}

-- ---- blocks and tickets
held_set : (f : Key → Option Held) (k : Key) (h : Held) → AreSmall f → IsSmall h → AreSmall (set_held f k (Some h))
held_set f k h all small j i found = by (key_eq k j) found
  where
    by : (b : Bool) → (if b then Some h else f j) ≡ Some i → IsSmall i
    by true is = subst IsSmall (some_injective h i is) small
    by false is = all j i is

held_unset : (f : Key → Option Held) (k : Key) → AreSmall f → AreSmall (set_held f k None)
held_unset f k all j i found = by (key_eq k j) found
  where
    by : (b : Bool) → (if b then None else f j) ≡ Some i → IsSmall i
    by true is = absurd (none_some None i refl is)
    by false is = all j i is

abbrev missed_of : Stage → ℕ
missed_of (Writing c m) = m
missed_of Live = 0
missed_of (Freed g) = 0

abbrev put_of : Stage → ℕ
put_of (Writing c m) = c
put_of Live = 0
put_of (Freed g) = 0

put_small : (h : Held) (c m : ℕ) (nil : Bool) → IsSmall h → h.stage ≡ Writing c m → IsSmall (record h { stage = Writing (c + 1) (if nil then m + 1 else m) })
put_small h c m nil small at = record {
  short = small.short;
  birth = small.birth;
  counted = λ d n is.
      let most = small.counted c m at in
      subst (λ x. n ≤ x) (ap put_of is) (subst (λ x. x ≤ c + 1) (ap missed_of is) (by nil most));
}
  where
    by : (b : Bool) → m ≤ c → (if b then m + 1 else m) ≤ c + 1
    by true le = omega (arith, le)
    by false le = omega (arith, le)

live_small : (h : Held) → IsSmall h → IsSmall (record h { stage = Live })
live_small h small = record { short = small.short; birth = small.birth; counted = λ c m is. absurd (no_ticket is) }
  where
    no_ticket : {c m : ℕ} → Live ≡ Writing c m → ⊥
    no_ticket is = absurd (cc)

freed_small : (h : Held) (g : ℕ) → IsSmall h → IsSmall (record h { stage = Freed g })
freed_small h g small = record { short = small.short; birth = small.birth; counted = λ c m is. absurd (no_ticket is) }
  where
    no_ticket : {c m : ℕ} → Freed g ≡ Writing c m → ⊥
    no_ticket is = absurd (cc)

sealed_small : (t : ℕ) (f : Key → Option Held) → AreSmall f → AreSmall (λ k. seal_held t (f k))
sealed_small t f all k h found = by (f k) refl found
  where
    by : (o : Option Held) → f k ≡ o → seal_held t o ≡ Some h → IsSmall h
    by None at is = absurd (none_some None h refl is)
    by (Some i) at is = subst IsSmall (kept_if _ (record i { stage = Live }) h is).1 (live_small i (all k i at))

if_within : (b : Bool) (x y : State) → IsWithin x → IsWithin y → IsWithin (if b then x else y)
if_within true x y p q = p
if_within false x y p q = q

kept_loan : (gone : Key → Bool) (o : Option Loan) (n : Loan) → keep_loan gone o ≡ Some n → o ≡ Some n
kept_loan gone None n is = absurd (none_some None n refl is)
kept_loan gone (Some m) n is = ap (λ (x : Loan). Some x) (kept_if _ m n is).1

no_number : (t : ℕ) → None ≡ Some t → t + 1 < 2 ^ 48
no_number t is = absurd (none_some None t refl is)

no_image : (i : Image) → None ≡ Some i → IsSmallImage i
no_image i is = absurd (none_some None i refl is)

no_loan : (n : Loan) → None ≡ Some n → n.stripe < 2 ^ 48
no_loan n is = absurd (none_some None n refl is)

no_pass : IsSmallPass None
no_pass p is = absurd (none_some None p refl is)

some_pass : (p : Pass) → p.max < 2 ^ 48 → IsSmallPass (Some p)
some_pass p small r is = subst (λ (x : Pass). x.max < 2 ^ 48) (some_injective p r is) small

-- ---- kinds of event
seal_within : (l : Layout) (w : State) (t : ℕ) (failed : List ℕ) (wrote : Bool) → IsWithin w → w.closing ≡ Some t → IsWithin (seal_state l w t failed wrote)
seal_within l w t failed wrote s closing = record {
  opens = s.opens;
  closes = s.closes;
  commits = s.commits;
  holds = s.holds;
  passes = passes;
  lends = s.lends;
  opened = s.opened;
  seals = λ i is. subst IsSmallImage (some_injective _ i is) (record { group = s.closes t closing; held = sealed_small t w.core.held s.holds; pass = passes });
}
  where
    passes : IsSmallPass (sealed_core l w.core t failed wrote).pass
    passes p is = let z = mapped_pass _ w.core.pass p is in subst (λ (x : Pass). x.max < 2 ^ 48) (sym z.2) (s.passes z.0 z.1)

commit_within : (l : Layout) (w : State) (t : ℕ) (image : Image) → IsWithin w → w.closing ≡ Some t → w.sealed ≡ Some image → IsWithin (commit_state l w t image)
commit_within l w t image s closing sealed = record {
  opens = s.opens;
  closes = no_number;
  commits = (let c = s.closes t closing in omega (arith, c));
  holds = λ k h is. s.holds k h (kept_some (is_freed_block t (w.core.held k)) (w.core.held k) h is).1;
  passes = s.passes;
  lends = λ n is. s.lends n (kept_loan _ w.loan n is);
  opened = s.seals image sealed;
  seals = no_image;
}

plan_within : (w : State) (kind : PassKind) (targets : List ArmName) → IsWithin w → MayPlan w kind targets → IsWithin (plan_state w kind targets)
plan_within w kind targets s may = record {
  opens = s.opens;
  closes = s.closes;
  commits = s.commits;
  holds = s.holds;
  passes = by kind may;
  lends = s.lends;
  opened = s.opened;
  seals = s.seals;
}
  where
    by : (kind : PassKind) → MayPlan w kind targets → IsSmallPass (Some (planned_pass w kind targets))
    by Rebuild may = let low = may.1 in some_pass (planned_pass w Rebuild targets) (omega (arith, low))
    by Heal may = some_pass (planned_pass w Heal targets) s.commits

-- a pass with another place, other targets or errors
passed_within : (w : State) (q : Pass) (loan : Option Loan) → IsWithin w → q.max < 2 ^ 48 → ((n : Loan) → loan ≡ Some n → n.stripe < 2 ^ 48)
    → AreWithin w.open_group w.closing w.committed w.core.held (Some q) loan w.image w.sealed
passed_within w q loan s small lends = record {
  opens = s.opens;
  closes = s.closes;
  commits = s.commits;
  holds = s.holds;
  passes = some_pass q small;
  lends = lends;
  opened = s.opened;
  seals = s.seals;
}

ended_within : (w : State) (loan : Option Loan) → IsWithin w → ((n : Loan) → loan ≡ Some n → n.stripe < 2 ^ 48) → AreWithin w.open_group w.closing w.committed w.core.held None loan w.image w.sealed
ended_within w loan s lends = record { opens = s.opens; closes = s.closes; commits = s.commits; holds = s.holds; passes = no_pass; lends = lends; opened = s.opened; seals = s.seals }

-- no loan counts any more
rearranged_within : (w : State) → IsWithin w → AreWithin w.open_group w.closing w.committed w.core.held w.core.pass None w.image w.sealed
rearranged_within w s = record { opens = s.opens; closes = s.closes; commits = s.commits; holds = s.holds; passes = s.passes; lends = no_loan; opened = s.opened; seals = s.seals }

-- a pass that is planned again, or loses targets
replanned_within : (l : Layout) (w : State) (moved : ArmName → Bool) (o : Option Pass) → IsWithin w → IsSmallPass o → ((p : Pass) → o ≡ Some p → p.kind ≡ Rebuild → w.open_group < LAST_NUMBER)
    → IsWithin (replan l w moved o)
replanned_within l w moved None s small low = s
replanned_within l w moved (Some p) s small low = by p.kind refl
  where
    again : (targets : List ArmName) → w.open_group < LAST_NUMBER → (planned_pass w Rebuild targets).max < 2 ^ 48
    again targets below = omega (arith, below)

    by : (kind : PassKind) → p.kind ≡ kind → IsWithin (replan_kind l w moved p kind)
    by Rebuild at = passed_within w (planned_pass w Rebuild (targets_of l w.core Rebuild)) w.loan s (again (targets_of l w.core Rebuild) (low p refl at)) s.lends
    by Heal at = passed_within w (lose_targets moved 0 p) w.loan s (small p refl) s.lends

held_within : (w : State) (f : Key → Option Held) → IsWithin w → AreSmall f → AreWithin w.open_group w.closing w.committed f w.core.pass w.loan w.image w.sealed
held_within w f s all = record { opens = s.opens; closes = s.closes; commits = s.commits; holds = all; passes = s.passes; lends = s.lends; opened = s.opened; seals = s.seals }

opened_within : (i : Image) → IsSmallImage i → AreWithin (i.group + 1) None i.group i.core.held i.core.pass None i None
opened_within i small = record {
  opens = small.group;
  closes = no_number;
  commits = (let g = small.group in omega (arith, g));
  holds = small.held;
  passes = small.pass;
  lends = no_loan;
  opened = small;
  seals = no_image;
}

to : (x new : State) → new ≡ x → IsWithin x → IsWithin new
to x new is s = subst IsWithin (sym is) s

pub kept : (l : Layout) (w new : State) (e : Event) → l.stripes < 2 ^ 48 → IsWithin w → IsSmallEvent e → Step l w e new → IsWithin new
kept l w new (Begin key first stripes len birth digest) few s small step =
    let h : Held = record { first = first; stripes = stripes; len = len; birth = birth; digest = digest; stage = Writing 0 0 } in
    let inside = step.fits.inside in
    to _ new step.made (held_within w (set_held w.core.held key (Some h)) s
    (held_set w.core.held key h s.holds (record {
      short = omega (arith, inside, few);
      birth = small.1;
      counted = λ c m is. let z : 0 ≡ m = ap missed_of is in omega (arith, z);
    })))
kept l w new (Put key landed failed) few s small step =
    to _ new step.made (held_within w _ s (held_set w.core.held key _ s.holds (put_small step.h step.c step.m (is_nil landed) (s.holds key step.h step.found) step.stage)))
kept l w new (Finish key) few s small step =
    to (finish_state l w key step.h step.m) new step.made
    (if_within (nat_lt l.parity step.m) _ _
    (held_within w _ s (held_unset w.core.held key s.holds))
    (held_within w _ s (held_set w.core.held key _ s.holds (live_small step.h (s.holds key step.h step.found)))))
kept l w new (Abort key) few s small step = to _ new step.made (held_within w _ s (held_unset w.core.held key s.holds))
kept l w new (Free key group) few s small step = to _ new step.made (held_within w _ s (held_set w.core.held key _ s.holds (freed_small step.h group (s.holds key step.h step.found))))
kept l w new (Fetch key failed) few s small step = to w new step.made s
kept l w new (Damage leaf sector failed) few s small step = to w new step.made s
kept l w new (Offline leaf) few s small step = to _ new step.made s
kept l w new (Online leaf) few s small step = to _ new step.made s
kept l w new (Attach slot arm) few s small step =
    let q = attached_core w.core slot arm step.last in
    to (attach_state l w slot arm step.last) new step.made
    (replanned_within l (rearranged_state l w step.last q) (has_moved l w.core q) w.core.pass (rearranged_within w s) s.passes (λ p at rebuild. (step.may p at rebuild).1))
kept l w new (Detach slot arm) few s small step = to _ new step.made (rearranged_within w s)
kept l w new Upgrade few s small step = to _ new step.made s
kept l w new (Close group) few s small step =
    let below = step.below in
    to _ new step.made (record {
      opens = omega (arith, below);
      closes = λ t is. let z : group ≡ t = some_injective group t is in omega (arith, below, z);
      commits = s.commits;
      holds = s.holds;
      passes = s.passes;
      lends = s.lends;
      opened = s.opened;
      seals = s.seals;
    })
kept l w new (Seal group failed) few s small step = to (seal_state l w group failed.items step.wrote) new step.made (seal_within l w group failed.items step.wrote s step.closing)
kept l w new (Commit group) few s small step = to (commit_state l w group step.image) new step.made (commit_within l w group step.image s step.closing step.sealed)
kept l w new (Plan kind) few s small step = to _ new step.made (plan_within w kind _ s step.may)
kept l w new Ready few s small step = to _ new step.made (passed_within w _ w.loan s (s.passes step.p step.pass) s.lends)
kept l w new (Lend failed) few s small step =
    let next = step.next in
    let short = (s.holds step.n.key step.h next.found).short in
    let below = is_below step.n.stripe (step.h.first + step.h.stripes) (both_true _ (nat_lt step.n.stripe (step.h.first + step.h.stripes)) next.taken).1 in
    to _ new step.made (passed_within w _ (Some step.n) s (s.passes step.p step.pass) (λ n is. subst (λ (x : Loan). x.stripe < 2 ^ 48) (some_injective step.n n is) (omega (arith, short, below))))
kept l w new (LandStripe pass serial failed) few s small step =
    let q = s.passes step.p step.counts.pass_is in
    to (land_stripe_state l w step.p step.n step.h failed.items) new step.made
    (if_within (nat_lt l.parity (unsourced l step.n)) _ _ (passed_within w _ None s q no_loan) (passed_within w _ None s q no_loan))
kept l w new (LandBlock pass serial failed patched unreadable) few s small step =
    let q = s.passes step.p step.counts.pass_is in
    to (land_block_state l w step.p step.n step.h failed.items patched.items unreadable step.whole) new step.made
    (if_within unreadable _ _ (passed_within w _ None s q no_loan) (passed_within w _ None s q no_loan))
kept l w new (Done failed) few s small step = to _ new step.made (ended_within w w.loan s s.lends)
kept l w new Cancel few s small step = to _ new step.made (ended_within w None s no_loan)
kept l w new (Reopen group doubtful) few s small step = to _ new step.made (elim step.one [
  | inl z ↦ opened_within step.image (subst IsSmallImage z.0 s.opened)
  | inr z ↦ opened_within step.image (s.seals step.image z.0)
])
