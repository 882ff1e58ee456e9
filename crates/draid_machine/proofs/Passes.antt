-- The events of a pass but its landings.
use Rattle.std.proofs.Common.{◌≡◌, ◌+◌, ◌<◌, ◌≤◌, ◌⊎◌, ◌&&◌, ◌||◌, ◌==◌, not, ℕ, Bool, true, false, nat_le, List, Option, Some, None, refl, sym, ◌∙◌, ap, subst, inl, inr, arith, if◌then◌else◌}
use Rattle.std.proofs.lemmas.Bool.{true≢false}
use Rattle.std.proofs.lemmas.Bool.Decides.{nat_tests}
use Rattle.draid_names.specs.declared.pass_kind.PassKind.{PassKind}
use Rattle.draid_names.specs.declared.pass_kind.PassKind.TheVariants.{Rebuild, Heal}
use Rattle.draid_machine.specs.declared.names.Key.{Key}
use Rattle.draid_machine.specs.declared.names.ArmName.{ArmName}
use Rattle.draid_machine.specs.declared.names.Held.{Held}
use Rattle.draid_machine.specs.Names.{has_name, is_block, takes, is_heal, up_to}
use Rattle.draid_machine.specs.State.{Layout, IsLayout, Arm, Pass, Core, Loan, State}
use Rattle.draid_machine.specs.Arms.{lies_on, is_silent}
use Rattle.draid_machine.specs.Claims.{passed}
use Rattle.draid_machine.specs.After.{fill_if, excise_if, lose_targets, lose_some, lost_errors, capped, planned_pass, plan_state, ready_state, lend_errors, lend_state, ended_pass, done_state}
use Rattle.draid_machine.specs.Sound.{CoreSound, LoanFits, Sound}
use Rattle.draid_machine.specs.Step.{is_lent, IsNext}
use Rattle.draid_machine.proofs.Small.{some_injective, some_same, none_some, both_true, true_both, bool_cases, absurd_test, true_right, mapped_arm, has_filter, no_errors}
use Rattle.draid_machine.proofs.Follows.{SamePass, Follows, from_passed, to_passed}
use Rattle.draid_machine.proofs.Calm.{calm, same_held, same_pass}
use Rattle.draid_machine.proofs.Tickets.{rebuild_heal, no_ticket}

pub filled : (last birth : ℕ) → 1 ≤ birth → birth ≤ last → up_to last birth ≡ true
filled last birth some low = grind (arith, nat_tests)

no_pass : (l : Layout) (o : Option Pass) (n : ArmName) (h : Held) (row : ℕ) → o ≡ None → passed o n h row ≡ true → ⊥
no_pass l o n h row none e = let z = from_passed o n h row e in none_some o z.p none z.pass

module _ (l : Layout) (lay : IsLayout l) where
  pub no_loan : (w : State) (n : Loan) → Sound l w → w.core.pass ≡ None → w.loan ≡ Some n → ⊥
  no_loan w n s idle e = let z = s.loan n e in none_some w.core.pass z.p idle z.pass

  -- ---- Plan
  plan_next : (w : State) (kind : PassKind) (targets : List ArmName) → (planned_pass w kind targets).next ≡ 0
  plan_next w Rebuild targets = refl
  plan_next w Heal targets = refl

  plan_kind : (w : State) (kind : PassKind) (targets : List ArmName) → (planned_pass w kind targets).kind ≡ kind
  plan_kind w Rebuild targets = refl
  plan_kind w Heal targets = refl

  plan_targets : (w : State) (kind : PassKind) (targets : List ArmName) → (planned_pass w kind targets).targets ≡ targets
  plan_targets w Rebuild targets = refl
  plan_targets w Heal targets = refl

  plan_running : (w : State) (kind : PassKind) (targets : List ArmName) → (planned_pass w kind targets).running ≡ is_heal kind
  plan_running w Rebuild targets = refl
  plan_running w Heal targets = refl

  plan_max : (w : State) (kind : PassKind) (targets : List ArmName) → kind ≡ Heal → (planned_pass w kind targets).max ≡ w.committed
  plan_max w Rebuild targets e = rebuild_heal Rebuild refl e
  plan_max w Heal targets e = refl

  fill_false : (b : Bool) (last g : ℕ) (a : Arm) → 1 ≤ g → g ≤ last → (fill_if b last a).log g ≡ false → a.log g ≡ false
  fill_false true last g a some low e = absurd_test (up_to last g) (filled last g some low) e
  fill_false false last g a some low e = e

  fill_true : (b : Bool) (last g : ℕ) (a : Arm) → b ≡ true → up_to last g ≡ true → (fill_if b last a).log g ≡ true
  fill_true true last g a b e = e
  fill_true false last g a b e = absurd (true≢false (sym b))

  pub plan_sound : (w : State) (kind : PassKind) (targets : List ArmName) → w.core.pass ≡ None → Sound l w → Sound l (plan_state w kind targets)
  plan_sound w kind targets idle s =
      let new = planned_pass w kind targets in
      let top = w.open_group + 1 in
      let f : ArmName → Arm → Arm = λ n. fill_if (not (is_heal kind) && has_name targets n) top in
      record {
        core = record {
          apart = s.core.apart;
          runs = s.core.runs;
          inside = s.core.inside;
          some = s.core.some;
          births = s.core.births;
          tickets = s.core.tickets;
          targets = λ p n a k h pass is target arm e.
              let same = some_injective new p pass in
              let kind_is : kind ≡ Rebuild = sym (plan_kind w kind targets) ∙ ap (λ (x : Pass). x.kind) same ∙ is in
              let has : has_name targets n ≡ true = subst (λ ns. has_name ns n ≡ true) (plan_targets w kind targets) (subst (λ (x : Pass). has_name x.targets n ≡ true) (sym same) target) in
              let z = mapped_arm (f n) (w.core.arm n) a arm in
              let all : (not (is_heal kind) && has_name targets n) ≡ true = true_both (not (is_heal kind)) (has_name targets n) (ap (λ x. not (is_heal x)) kind_is) has in
              subst (λ (x : Arm). x.log h.birth ≡ true) (sym z.2) (fill_true (not (is_heal kind) && has_name targets n) top h.birth z.0 all (filled top h.birth (s.core.some k h e) (s.core.births k h e)));
          quiet = λ p k h pass is running e.
              let same = some_injective new p pass in
              let kind_is : kind ≡ Rebuild = sym (plan_kind w kind targets) ∙ ap (λ (x : Pass). x.kind) same ∙ is in
              absurd_test p.running running (ap (λ (x : Pass). x.running) (sym same) ∙ plan_running w kind targets ∙ ap is_heal kind_is);
          planned = λ p pass waits.
              let same = some_injective new p pass in
              let heal : is_heal kind ≡ false = sym (plan_running w kind targets) ∙ ap (λ (x : Pass). x.running) same ∙ waits in
              (ap (λ (x : Pass). x.kind) (sym same) ∙ plan_kind w kind targets ∙ rebuilds kind heal, ap (λ (x : Pass). x.next) (sym same) ∙ plan_next w kind targets);
          heal = λ p pass is.
              let same = some_injective new p pass in
              let kind_is : kind ≡ Heal = sym (plan_kind w kind targets) ∙ ap (λ (x : Pass). x.kind) same ∙ is in
              let max : p.max ≡ w.committed = ap (λ (x : Pass). x.max) (sym same) ∙ plan_max w kind targets kind_is in
              omega (arith, max);
        };
        groups = s.groups;
        loan = λ n e. absurd (no_loan w n s idle e);
        covered = λ g c.
            let z = mapped_arm (f g.arm) (w.core.arm g.arm) c.a c.on.arm in
            s.covered g (record {
              h = c.h;
              a = z.0;
              on = record { held = c.on.held; arm = z.1; listed = c.on.listed; column = c.on.column; row = c.on.row; lies = c.on.lies };
              put = c.put;
              why = elim c.why [
                | inl clean ↦ inl (fill_false (not (is_heal kind) && has_name targets g.arm) top c.h.birth z.0 (s.core.some g.key c.h c.on.held) (s.core.births g.key c.h c.on.held) (subst (λ (x : Arm). x.log c.h.birth ≡ false) z.2 clean))
                | inr y ↦
                    let has = from_passed (Some new) g.arm c.h g.row y.1 in
                    absurd (nothing (c.h.first + g.row) has.p.next has.next (ap (λ (x : Pass). x.next) (sym (some_injective new has.p has.pass)) ∙ plan_next w kind targets))
              ];
            });
        image = s.image;
        sealed = s.sealed;
      }
    where
      rebuilds : (kind : PassKind) → is_heal kind ≡ false → kind ≡ Rebuild
      rebuilds Rebuild e = refl
      rebuilds Heal e = absurd (true≢false e)

      nothing : (x next : ℕ) → x < next → next ≡ 0 → ⊥
      nothing x next less e = omega (arith, less, e)

  -- ---- Ready
  pub ready_sound : (w : State) (p : Pass) → w.core.pass ≡ Some p → p.kind ≡ Rebuild → p.running ≡ false → ((k : Key) (h : Held) → w.core.held k ≡ Some h → is_block h.stage ≡ true)
      → ((k : Key) (h : Held) → w.core.held k ≡ Some h → h.birth ≤ w.committed) → Sound l w → Sound l (ready_state w p)
  ready_sound w p pass kind waits blocks births s =
      let new : Pass = record p { running = true } in
      record {
        core = record {
          apart = s.core.apart;
          runs = s.core.runs;
          inside = s.core.inside;
          some = s.core.some;
          births = s.core.births;
          tickets = s.core.tickets;
          targets = λ r n a k h e is target arm held. s.core.targets p n a k h pass kind (subst (λ (x : Pass). has_name x.targets n ≡ true) (sym (some_injective new r e)) target) arm held;
          quiet = λ r k h e is running held. (blocks k h held, births k h held);
          planned = λ r e idle. absurd_test r.running (ap (λ (x : Pass). x.running) (sym (some_injective new r e))) idle;
          heal = λ r e is. rebuild_heal r.kind (ap (λ (x : Pass). x.kind) (sym (some_injective new r e)) ∙ kind) is;
        };
        groups = s.groups;
        loan = λ n e. let z = s.loan n e in absurd_test p.running (ap (λ (x : Pass). x.running) (some_same w.core.pass p z.p pass z.pass) ∙ z.running) waits;
        covered = λ g c. s.covered g (record {
          h = c.h;
          a = c.a;
          on = record { held = c.on.held; arm = c.on.arm; listed = c.on.listed; column = c.on.column; row = c.on.row; lies = c.on.lies };
          put = c.put;
          why = elim c.why [
            | inl clean ↦ inl clean
            | inr y ↦
                let has = from_passed (Some new) g.arm c.h g.row y.1 in
                absurd (nothing (c.h.first + g.row) has.p.next has.next (ap (λ (x : Pass). x.next) (sym (some_injective new has.p has.pass)) ∙ (s.core.planned p pass waits).1))
          ];
        });
        image = s.image;
        sealed = s.sealed;
      }
    where
      nothing : (x next : ℕ) → x < next → next ≡ 0 → ⊥
      nothing x next less e = omega (arith, less, e)

  -- ---- Lend
  lent_block : (committed top : ℕ) (q : Core) (p : Pass) (k : Key) (h : Held) → CoreSound l committed top q → q.pass ≡ Some p → p.running ≡ true → q.held k ≡ Some h → is_lent p h ≡ true → is_block h.stage ≡ true
  lent_block committed top q p k h s pass running found lent = by p.kind refl
    where
      by : (kind : PassKind) → p.kind ≡ kind → is_block h.stage ≡ true
      by Rebuild e = (s.quiet p k h pass e running found).0
      by Heal e = (both_true (is_block h.stage) (nat_le h.birth p.max) (subst (λ kind. (not (is_heal kind) || (is_block h.stage && nat_le h.birth p.max)) ≡ true) e lent)).0

  pub is_lent_block : (p : Pass) (h : Held) → is_block h.stage ≡ true → h.birth ≤ p.max → is_lent p h ≡ true
  is_lent_block p h block max = true_right (not (is_heal p.kind)) (is_block h.stage && nat_le h.birth p.max) (true_both (is_block h.stage) (nat_le h.birth p.max) block (low h.birth p.max max))
    where
      low : (x y : ℕ) → x ≤ y → nat_le x y ≡ true
      low x y e = grind (arith, nat_tests)

  pub follows_pass : (q : Core) (pass' : Option Pass) → ((p' : Pass) → pass' ≡ Some p' → (p : Pass) × (q.pass ≡ Some p) × SamePass p p') → Follows l q (record q { pass = pass' })
  follows_pass q pass' f = record {
    held = λ k h e. (h, e, same_held h);
    arm = λ n a e. (a, e, λ g z. z);
    listed = λ c n z. z;
    lies = λ c x n leaf listed z. z;
    pass = f;
  }

  pub lend_sound : (w : State) (p : Pass) (h : Held) (n : Loan) (failed : List ℕ) → w.core.pass ≡ Some p → p.running ≡ true → IsNext w.core p n.key h n.stripe → Sound l w → Sound l (lend_state w p n failed)
  lend_sound w p h n failed pass running next s =
      let new : Pass = record p { errors = capped (p.errors + lend_errors p.kind failed) } in
      let q' : Core = record w.core { pass = Some new } in
      let same : SamePass p new = record { kind = refl; max = refl; next = refl; running = refl; errors = λ e. no_errors p.errors (lend_errors p.kind failed) e; targets = λ m z. z } in
      let f : Follows l w.core q' = follows_pass w.core (Some new) (λ r e. (p, pass, subst (λ x. SamePass p x) (some_injective new r e) same)) in
      calm l lay w q' (Some n) (w.serial + 1) w.present w.aside w.kept s f
      (λ m e. subst (λ x. LoanFits q' x) (some_injective n m e) (record {
        p = new;
        h = h;
        pass = refl;
        running = running;
        found = next.found;
        block = lent_block w.committed (w.open_group + 1) w.core p n.key h s.core pass running next.found next.lent;
        taken = next.taken;
        lent = next.lent;
        from = next.from;
        clear = λ k i x e block max t from below. next.first k i x e (is_lent_block p i block max) t from below;
      }))
      (λ g b c here. here)

  -- ---- Done
  lose_same : (bad : ArmName → Bool) (more : ℕ) (p : Pass) → SamePass p (lose_targets bad more p)
  lose_same bad more p = record {
    kind = refl;
    max = refl;
    next = refl;
    running = refl;
    errors = λ e. no_errors p.errors more e;
    targets = λ n e. (has_filter (λ m. not (bad m)) p.targets n e).0;
  }

  pub lost_same : (bad : ArmName → Bool) (p : Pass) → SamePass p (lose_some bad p)
  lost_same bad p = lose_same bad (lost_errors p.kind bad p.targets) p

  pub ended_same : (q : Core) (p : Pass) (failed : List ℕ) → SamePass p (ended_pass l q p failed)
  ended_same q p failed = by (is_heal p.kind)
    where
      by : (b : Bool) → SamePass p (if b then p else lose_some (lies_on l q (is_silent q failed)) p)
      by true = same_pass p
      by false = lost_same (lies_on l q (is_silent q failed)) p

  excised : (a : Arm) (b : Bool) (last g : ℕ) → (excise_if b last a).log g ≡ false → (a.log g ≡ false) ⊎ ((b ≡ true) × (g ≤ last))
  excised a b last g e = by (a.log g) refl (b && nat_le g last) refl e
    where
      high : nat_le g last ≡ true → g ≤ last
      high z = grind (arith, nat_tests)

      by : (x : Bool) → a.log g ≡ x → (y : Bool) → (b && nat_le g last) ≡ y → (x && not y) ≡ false → (a.log g ≡ false) ⊎ ((b ≡ true) × (g ≤ last))
      by false is y eq e = inl is
      by true is true eq e = let z = both_true b (nat_le g last) eq in inr (z.0, high z.1)
      by true is false eq e = absurd (true≢false e)

  pub done_sound : (w : State) (p : Pass) (failed : List ℕ) → w.core.pass ≡ Some p → p.running ≡ true
      → ((k : Key) (h : Held) (x : ℕ) → w.core.held k ≡ Some h → is_lent p h ≡ true → takes h x ≡ true → x < p.next) → w.loan ≡ None
      → Sound l w → Sound l (done_state w (ended_pass l w.core p failed))
  done_sound w p failed pass running finished idle s =
      let r = ended_pass l w.core p failed in
      let same = ended_same w.core p failed in
      record {
        core = record {
          apart = s.core.apart;
          runs = s.core.runs;
          inside = s.core.inside;
          some = s.core.some;
          births = s.core.births;
          tickets = s.core.tickets;
          targets = λ x n a k h e. absurd (none_some None x refl e);
          quiet = λ x k h e. absurd (none_some None x refl e);
          planned = λ x e. absurd (none_some None x refl e);
          heal = λ x e. absurd (none_some None x refl e);
        };
        groups = s.groups;
        loan = λ n e. absurd (none_some w.loan n idle e);
        covered = λ g c.
            let z = mapped_arm (excise_if ((r.errors == 0) && has_name r.targets g.arm) r.max) (w.core.arm g.arm) c.a c.on.arm in
            s.covered g (record {
              h = c.h;
              a = z.0;
              on = record { held = c.on.held; arm = z.1; listed = c.on.listed; column = c.on.column; row = c.on.row; lies = c.on.lies };
              put = c.put;
              why = elim c.why [
                | inl clean ↦ elim (excised z.0 ((r.errors == 0) && has_name r.targets g.arm) r.max c.h.birth (subst (λ (x : Arm). x.log c.h.birth ≡ false) z.2 clean)) [
                  | inl was ↦ inl was
                  | inr out ↦
                      let both = both_true (r.errors == 0) (has_name r.targets g.arm) out.0 in
                      let max : c.h.birth ≤ p.max = subst (λ m. c.h.birth ≤ m) same.max out.1 in
                      let block = is_done g.key c.h max c.on.held in
                      inr (
                        block,
                        to_passed w.core.pass g.arm c.h g.row (record {
                          p = p;
                          pass = pass;
                          running = running;
                          errors = same.errors (zero_of r.errors both.0);
                          target = same.targets g.arm both.1;
                          max = max;
                          next = finished g.key c.h (c.h.first + g.row) c.on.held (is_lent_block p c.h block max) (takes_row c.h g.row c.on.row);
                        }),
                      )
                ]
                | inr y ↦ absurd (no_pass l None g.arm c.h g.row refl y.1)
              ];
            });
        image = s.image;
        sealed = s.sealed;
      }
    where
      zero_of : (x : ℕ) → (x == 0) ≡ true → x ≡ 0
      zero_of x e = grind (arith, nat_tests)

      takes_row : (h : Held) (r : ℕ) → r < h.stripes → takes h (h.first + r) ≡ true
      takes_row h r less = grind (arith, nat_tests)

      is_done : (k : Key) (h : Held) → h.birth ≤ p.max → w.core.held k ≡ Some h → is_block h.stage ≡ true
      is_done k h max found = elim (bool_cases (is_block h.stage)) [
        | inl b ↦ b
        | inr t ↦ absurd (no_ticket l lay w.committed (w.open_group + 1) w.core k h p s.core found t pass running max)
      ]
