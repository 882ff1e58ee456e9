-- Events on which the rack does nothing, but for those that change a slot's arms.
use Rattle.std.proofs.Common.{◌≡◌, ◌+◌, ◌<◌, ◌≤◌, ◌&&◌, not, ℕ, Bool, true, false, nat_lt, if◌then◌else◌, List, Option, Some, None, refl, sym, ◌∙◌, ap, subst, inl, inr, arith}
use Rattle.draid_names.specs.declared.pass_kind.PassKind.{PassKind}
use Rattle.draid_names.specs.declared.pass_kind.PassKind.TheVariants.{Rebuild, Heal}
use Rattle.draid_machine.specs.declared.names.Key.{Key}
use Rattle.draid_machine.specs.declared.names.ArmName.{ArmName}
use Rattle.draid_machine.specs.declared.names.Stage.{Stage}
use Rattle.draid_machine.specs.declared.names.Stage.TheVariants.{Live, Freed}
use Rattle.draid_machine.specs.declared.names.Held.{Held}
use Rattle.draid_machine.specs.declared.names.Segment.{Segment}
use Rattle.draid_machine.specs.Names.{key_eq, has_name, is_block, is_freed_by, is_heal, up_to}
use Rattle.draid_machine.specs.State.{Layout, IsLayout, Arm, Pass, Core, Loan, Image, State}
use Rattle.draid_machine.specs.Arms.{lies}
use Rattle.draid_machine.specs.Claims.{passed}
use Rattle.draid_machine.specs.After.{begin_state, cancel_state, capped, close_state, fill_if, finish_state, free_state, gone_state, lend_errors, lend_state, live_state, pass_over, plan_state, planned_pass, ready_state, set_held, switch_state, upgrade_state}
use Rattle.draid_machine.specs.Images.{ImagesStand, Owned}
use Rattle.draid_machine.specs.Sound.{Sound}
use Rattle.draid_machine.proofs.Small.{some_injective, some_same, none_some, bool_cases, both_true, key_true, held_cases, arm_cases, mapped_arm, absurd_test, no_errors, no_more_errors}
use Rattle.draid_machine.proofs.Follows.{SamePass, from_passed, to_passed}
use Rattle.draid_machine.proofs.Passes.{filled}
use Rattle.draid_machine.proofs.Seals.{sealed_held}
use Rattle.draid_machine.proofs.Tickets.{rebuild_heal}
use Rattle.draid_segments.specs.Segments.{HasScrubbed, IsLasting, group_in, image_group}
use Rattle.draid_segments.proofs.Backing.{Calm}

-- ---- what a scrub has put right
-- a pass that goes on as it was has put nothing right but what it had
pub scrubbed_before : (o : Option Pass) (p p' : Pass) (n : ArmName) (h : Held) (row : ℕ) → o ≡ Some p → SamePass p p' → HasScrubbed (Some p') n h row → HasScrubbed o n h row
scrubbed_before o p p' n h row found same s =
    let is : s.p ≡ p' = sym (some_injective p' s.p s.pass_is) in
    let v = from_passed (Some p') n h row (subst (λ (q : Pass). passed (Some q) n h row ≡ true) is s.by) in
    let its : v.p ≡ p' = sym (some_injective p' v.p v.pass) in
    record {
      p = p;
      pass_is = found;
      heal = sym same.kind ∙ ap (λ (q : Pass). q.kind) (sym is) ∙ s.heal;
      by = to_passed (Some p) n h row (record {
        p = p;
        pass = refl;
        running = sym same.running ∙ subst (λ (q : Pass). q.running ≡ true) its v.running;
        errors = same.errors (subst (λ (q : Pass). q.errors ≡ 0) its v.errors);
        target = same.targets n (subst (λ (q : Pass). has_name q.targets n ≡ true) its v.target);
        max = subst (λ m. h.birth ≤ m) same.max (subst (λ (q : Pass). h.birth ≤ q.max) its v.max);
        next = subst (λ m. h.first + row < m) same.next (subst (λ (q : Pass). h.first + row < q.next) its v.next);
      });
    }

pub no_scrub : {A : Type 0} (o : Option Pass) (n : ArmName) (h : Held) (row : ℕ) → ((p : Pass) → o ≡ Some p → p.kind ≡ Rebuild) → HasScrubbed o n h row → A
no_scrub o n h row rebuild s = rebuild_heal s.p.kind (rebuild s.p s.pass_is) s.heal

-- ---- the last fact, where what befalls an arm only adds to its log, and a pass goes on as it was
-- blocks and tickets, order and segments are as they were
module _ (l : Layout) (w new : State) (held : new.core.held ≡ w.core.held) (order : new.core.order ≡ w.core.order) (present : new.present ≡ w.present) (aside : new.aside ≡ w.aside)
    (image : new.image ≡ w.image) (sealed : new.sealed ≡ w.sealed) (committed : new.committed ≡ w.committed)
    (arms : (s : Segment) (h : Held) (a : Arm) → w.core.held s.key ≡ Some h → new.core.arm s.arm ≡ Some a → (b : Arm) × (w.core.arm s.arm ≡ Some b) × (a.log h.birth ≡ false → b.log h.birth ≡ false))
    (pass : (n : ArmName) (h : Held) (row : ℕ) → HasScrubbed new.core.pass n h row → HasScrubbed w.core.pass n h row) where
  pub quiet_calm : Calm l w new
  quiet_calm = record {
    sure = λ s h is. (h, record { held = ap (λ f. f s.key) (sym held) ∙ is.held; present = ap (λ f. f s) (sym present) ∙ is.present; sure = ap (λ f. f s) (sym aside) ∙ is.sure }, refl);
    images = λ img is. elim is [ inl e ↦ inl (sym image ∙ e) | inr e ↦ inr (sym sealed ∙ e) ];
    claimed = λ img s h is e claim sure. ap (λ f. f s) (sym aside) ∙ sure;
    group = ap (λ c. group_in c new.sealed) committed ∙ ap (λ o. group_in w.committed o) sealed;
    last = λ s h is sure.
        let there = ap (λ f. f s.key) (sym held) ∙ is.on.held in
        let z = arms s h is.a there is.on.arm in (
          h,
          record {
            a = z.0;
            on = record {
              held = there;
              arm = z.1;
              listed = subst (λ f. has_name (f (l.slot_of h.first s.column)) s.arm ≡ true) order is.on.listed;
              column = is.on.column;
              row = is.on.row;
              lies = subst (λ f. lies_at f s h ≡ true) order is.on.lies;
            };
            block = is.block;
            birth = is.birth;
            stays = is.stays;
            why = elim is.why [ inl clean ↦ inl (z.2 clean) | inr y ↦ inr (pass s.arm h s.row y) ];
          },
          ap (λ f. f s) (sym aside) ∙ sure,
          refl,
        );
  }
    where
      lies_at : (ℕ → List ArmName) → Segment → Held → Bool
      lies_at f s h = lies l f s.arm (h.first + s.row) s.leaf

module _ (l : Layout) (lay : IsLayout l) (w : State) (sound : Sound l w) (images : ImagesStand l w) (owned : Owned l w) where
  same_arms : (s : Segment) (h : Held) (a : Arm) → w.core.held s.key ≡ Some h → w.core.arm s.arm ≡ Some a → (b : Arm) × (w.core.arm s.arm ≡ Some b) × (a.log h.birth ≡ false → b.log h.birth ≡ false)
  same_arms s h a held found = (a, found, λ e. e)

  -- tickets are born above every image
  pub above : (k : Key) (h : Held) → w.core.held k ≡ Some h → is_block h.stage ≡ false → image_group w < h.birth
  above k h found ticket = by w.sealed refl
    where
      by : (o : Option Image) → w.sealed ≡ o → group_in w.committed o < h.birth
      by None is = sound.core.tickets k h found ticket
      by (Some img) is = sound.groups.tickets img k h is found ticket

  -- ---- tickets and blocks
  pub begin_calm : (k : Key) (h : Held) → w.core.held k ≡ None → is_block h.stage ≡ false → Calm l w (begin_state w k h)
  begin_calm k h unused ticket = record {
    sure = λ s i is. elim (held_cases w.core.held k s.key (Some h) i is.held) [
      | inl z ↦ let o = owned.present s is.present in absurd (none_some (w.core.held s.key) o.h (subst (λ q. w.core.held q ≡ None) z.0 unused) o.held)
      | inr z ↦ (i, record { held = z.1; present = is.present; sure = is.sure }, refl)
    ];
    images = λ img is. is;
    claimed = λ img s i is e claim sure. sure;
    group = refl;
    last = λ s i is sure. elim (held_cases w.core.held k s.key (Some h) i is.on.held) [
      | inl z ↦ absurd_test (is_block i.stage) is.block (subst (λ (v : Held). is_block v.stage ≡ false) (some_injective h i z.1) ticket)
      | inr z ↦ (
        i,
        record {
          a = is.a;
          on = record { held = z.1; arm = is.on.arm; listed = is.on.listed; column = is.on.column; row = is.on.row; lies = is.on.lies };
          block = is.block;
          birth = is.birth;
          stays = is.stays;
          why = is.why;
        },
        sure,
        refl,
      )
    ];
  }

  -- what goes by its key isn't what another key has
  kept_test : (b c : Bool) → (b && not c) ≡ false → c ≡ false → b ≡ false
  kept_test true true e f = f
  kept_test true false e f = e
  kept_test false c e f = refl

  pub gone_calm : (k : Key) (h : Held) → w.core.held k ≡ Some h → is_block h.stage ≡ false → Calm l w (gone_state w k)
  gone_calm k h found ticket = record {
    sure = λ s i is. elim (held_cases w.core.held k s.key None i is.held) [
      | inl z ↦ absurd (none_some None i refl z.1)
      | inr z ↦ (i, record { held = z.1; present = (both_true (w.present s) (not (key_eq k s.key)) is.present).0; sure = kept_test (w.aside s) (key_eq k s.key) is.sure z.0 }, refl)
    ];
    images = λ img is. is;
    claimed = λ img s i is e claim sure.
        let v = sealed_held img.group (w.core.held s.key) i (sym ((images.each img is).blocks s.key) ∙ e) in
        kept_test (w.aside s) (key_eq k s.key) sure (differs s v.h v.found v.block);
    group = refl;
    last = λ s i is sure. elim (held_cases w.core.held k s.key None i is.on.held) [
      | inl z ↦ absurd (none_some None i refl z.1)
      | inr z ↦ (
        i,
        record {
          a = is.a;
          on = record { held = z.1; arm = is.on.arm; listed = is.on.listed; column = is.on.column; row = is.on.row; lies = is.on.lies };
          block = is.block;
          birth = is.birth;
          stays = is.stays;
          why = is.why;
        },
        kept_test (w.aside s) (key_eq k s.key) sure z.0,
        refl,
      )
    ];
  }
    where
      differs : (s : Segment) (j : Held) → w.core.held s.key ≡ Some j → is_block j.stage ≡ true → key_eq k s.key ≡ false
      differs s j e block = elim (bool_cases (key_eq k s.key)) [
        | inl t ↦
            let same = some_same (w.core.held s.key) h j (subst (λ q. w.core.held q ≡ Some h) (key_true k s.key t) found) e in
            absurd_test (is_block h.stage) (subst (λ (q : Held). is_block q.stage ≡ true) (sym same) block) ticket
        | inr f ↦ f
      ]

  -- a ticket or a block gets another stage
  stage_calm : (k : Key) (h : Held) (st : Stage) → w.core.held k ≡ Some h
      → (is_block st ≡ true → h.birth ≤ image_group w → is_freed_by (image_group w) st ≡ false → (is_block h.stage ≡ true) × (is_freed_by (image_group w) h.stage ≡ false))
      → Calm l w (record w { core = record w.core { held = set_held w.core.held k (Some (record h { stage = st })) } })
  stage_calm k h st found back = record {
    sure = λ s i is. elim (held_cases w.core.held k s.key (Some (record h { stage = st })) i is.held) [
      | inl z ↦ (h, record { held = subst (λ q. w.core.held q ≡ Some h) z.0 found; present = is.present; sure = is.sure }, ap (λ (q : Held). q.first) (sym (some_injective (record h { stage = st }) i z.1)))
      | inr z ↦ (i, record { held = z.1; present = is.present; sure = is.sure }, refl)
    ];
    images = λ img is. is;
    claimed = λ img s i is e claim sure. sure;
    group = refl;
    last = λ s i is sure. elim (held_cases w.core.held k s.key (Some (record h { stage = st })) i is.on.held) [
      | inl z ↦
          let same : i ≡ record h { stage = st } = sym (some_injective (record h { stage = st }) i z.1) in
          let there : w.core.held s.key ≡ Some h = subst (λ q. w.core.held q ≡ Some h) z.0 found in
          (h, of_stage s i is same there, sure, ap (λ (q : Held). q.first) same)
      | inr z ↦ (
        i,
        record {
          a = is.a;
          on = record { held = z.1; arm = is.on.arm; listed = is.on.listed; column = is.on.column; row = is.on.row; lies = is.on.lies };
          block = is.block;
          birth = is.birth;
          stays = is.stays;
          why = is.why;
        },
        sure,
        refl,
      )
    ];
  }
    where
      after : Core
      after = record w.core { held = set_held w.core.held k (Some (record h { stage = st })) }

      of_stage : (s : Segment) (i : Held) → IsLasting l (image_group w) after s i → i ≡ record h { stage = st } → w.core.held s.key ≡ Some h → IsLasting l (image_group w) w.core s h
      of_stage s i is same there =
          let v : IsLasting l (image_group w) after s (record h { stage = st }) = subst (λ (q : Held). IsLasting l (image_group w) after s q) same is in
          let b = back v.block v.birth v.stays in
          record {
            a = v.a;
            on = record { held = there; arm = v.on.arm; listed = v.on.listed; column = v.on.column; row = v.on.row; lies = v.on.lies };
            block = b.0;
            birth = v.birth;
            stays = b.1;
            why = elim v.why [ inl clean ↦ inl clean | inr y ↦ inr (record { p = y.p; pass_is = y.pass_is; heal = y.heal; by = y.by }) ];
          }

  live_calm : (k : Key) (h : Held) → w.core.held k ≡ Some h → is_block h.stage ≡ false → Calm l w (live_state w k h)
  live_calm k h found ticket = stage_calm k h Live found (λ block birth stays. let high = above k h found ticket in absurd (omega (arith, birth, high)))

  pub finish_calm : (k : Key) (h : Held) (m : ℕ) → w.core.held k ≡ Some h → is_block h.stage ≡ false → Calm l w (finish_state l w k h m)
  finish_calm k h m found ticket = by (nat_lt l.parity m)
    where
      by : (b : Bool) → Calm l w (if b then gone_state w k else live_state w k h)
      by true = gone_calm k h found ticket
      by false = live_calm k h found ticket

  pub free_calm : (k : Key) (h : Held) (group : ℕ) → w.core.held k ≡ Some h → h.stage ≡ Live → Calm l w (free_state w k h group)
  free_calm k h group found live = stage_calm k h (Freed group) found (λ block birth stays. (ap is_block live, ap (is_freed_by (image_group w)) live))

  -- ---- arms and groups
  pub switch_calm : (n : ArmName) (a : Arm) (offline : Bool) → w.core.arm n ≡ Some a → Calm l w (switch_state w n a offline)
  switch_calm n a offline found = quiet_calm l w (switch_state w n a offline) refl refl refl refl refl refl refl
      (λ s h b held e. elim (arm_cases w.core.arm n s.arm (Some (record a { offline = offline })) b e) [
        | inl z ↦ (a, subst (λ m. w.core.arm m ≡ Some a) z.0 found, λ clean. subst (λ (q : Arm). q.log h.birth ≡ false) (sym (some_injective (record a { offline = offline }) b z.1)) clean)
        | inr z ↦ (b, z.1, λ clean. clean)
      ])
      (λ m h row y. y)

  pub close_calm : (t : ℕ) → Calm l w (close_state w t)
  close_calm t = quiet_calm l w (close_state w t) refl refl refl refl refl refl refl same_arms (λ m h row y. y)

  pub upgrade_calm : Calm l w (upgrade_state w)
  upgrade_calm = quiet_calm l w (upgrade_state w) refl refl refl refl refl refl refl same_arms (λ m h row y. y)

  -- ---- the pass
  not_filled : (b : Bool) (last g : ℕ) (a : Arm) → 1 ≤ g → g ≤ last → (fill_if b last a).log g ≡ false → a.log g ≡ false
  not_filled true last g a some less e = absurd_test (up_to last g) (filled last g some less) e
  not_filled false last g a some less e = e

  pub plan_calm : (kind : PassKind) (targets : List ArmName) → Calm l w (plan_state w kind targets)
  plan_calm kind targets = quiet_calm l w (plan_state w kind targets) refl refl refl refl refl refl refl
      (λ s h a held e.
      let z = mapped_arm (fill_if (not (is_heal kind) && has_name targets s.arm) (w.open_group + 1)) (w.core.arm s.arm) a e in (
        z.0,
        z.1,
        λ clean. not_filled (not (is_heal kind) && has_name targets s.arm) (w.open_group + 1) h.birth z.0 (sound.core.some s.key h held) (sound.core.births s.key h held)
            (subst (λ (q : Arm). q.log h.birth ≡ false) z.2 clean),
      ))
      (λ n h row y. none kind n h row y)
    where
      none : (kind : PassKind) (n : ArmName) (h : Held) (row : ℕ) → HasScrubbed (Some (planned_pass w kind targets)) n h row → HasScrubbed w.core.pass n h row
      none Rebuild n h row y = no_scrub (Some (planned_pass w Rebuild targets)) n h row (λ p e. ap (λ (q : Pass). q.kind) (sym (some_injective (planned_pass w Rebuild targets) p e))) y
      none Heal n h row y =
          let v = from_passed (Some y.p) n h row y.by in
          let is : v.p ≡ planned_pass w Heal targets = sym (some_injective y.p v.p v.pass) ∙ sym (some_injective (planned_pass w Heal targets) y.p y.pass_is) in
          let less = v.next in
          let zero : v.p.next ≡ 0 = ap (λ (q : Pass). q.next) is in
          absurd (omega (arith, less, zero))

  pub ready_calm : (p : Pass) → p.kind ≡ Rebuild → Calm l w (ready_state w p)
  ready_calm p rebuild = quiet_calm l w (ready_state w p) refl refl refl refl refl refl refl same_arms
      (λ n h row y. no_scrub (Some (record p { running = true })) n h row (λ q e. ap (λ (v : Pass). v.kind) (sym (some_injective (record p { running = true }) q e)) ∙ rebuild) y)

  pub lend_calm : (p : Pass) (n : Loan) (failed : List ℕ) → w.core.pass ≡ Some p → Calm l w (lend_state w p n failed)
  lend_calm p n failed pass = quiet_calm l w (lend_state w p n failed) refl refl refl refl refl refl refl same_arms
      (λ m h row y. scrubbed_before w.core.pass p (record p { errors = capped (p.errors + lend_errors p.kind failed) }) m h row pass
      (record { kind = refl; max = refl; next = refl; running = refl; errors = λ e. no_errors p.errors (lend_errors p.kind failed) e; targets = λ k e. e }) y)

  pub cancel_calm : Calm l w (cancel_state w)
  cancel_calm = quiet_calm l w (cancel_state w) refl refl refl refl refl refl refl same_arms (λ n h row y. absurd (none_some None y.p refl y.pass_is))

  -- a landing that writes nothing: an error counts
  pub over_calm : (p : Pass) (next : ℕ) → Calm l w (pass_over w p 1 next)
  over_calm p next = quiet_calm l w (pass_over w p 1 next) refl refl refl refl refl refl refl same_arms
      (λ n h row y.
      let v = from_passed (Some y.p) n h row y.by in
      let q : Pass = record p { next = next; errors = capped (p.errors + 1) } in
      let is : v.p ≡ q = sym (some_injective y.p v.p v.pass) ∙ sym (some_injective q y.p y.pass_is) in
      let none = no_more_errors p.errors 1 (subst (λ (k : Pass). k.errors ≡ 0) is v.errors) in
      absurd (omega (arith, none)))
