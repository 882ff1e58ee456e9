-- So every legal history keeps that a state and its images can be written as records.
use Rattle.std.proofs.Common.{◌≡◌, ◌+◌, ◌<◌, ◌≤◌, not, ℕ, Bool, true, false, nat_le, nat_lt, List, [], ◌∷◌, Option, Some, None, filter, length, refl, sym, ◌∙◌, ap, subst, inl, inr, arith, if◌then◌else◌}
use Rattle.std.proofs.lemmas.Bool.{true≢false}
use Rattle.draid_names.specs.Numbers.{most_held}
use Rattle.draid_names.specs.declared.numbers.TheConstants.{LAST_NUMBER}
use Rattle.draid_names.specs.declared.pass_kind.PassKind.{PassKind}
use Rattle.draid_names.specs.declared.pass_kind.PassKind.TheVariants.{Rebuild, Heal}
use Rattle.draid_machine.specs.declared.names.Key.{Key}
use Rattle.draid_machine.specs.declared.names.ArmName.{ArmName}
use Rattle.draid_machine.specs.declared.names.ArmName.TheVariants.{Leaf}
use Rattle.draid_machine.specs.declared.names.Stage.TheVariants.{Writing, Live, Freed}
use Rattle.draid_machine.specs.declared.names.Held.{Held}
use Rattle.draid_machine.specs.declared.names.Segment.{Segment}
use Rattle.draid_machine.specs.declared.event.Patched.{Patched}
use Rattle.draid_machine.specs.declared.event.Event.{Event}
use Rattle.draid_machine.specs.declared.event.Event.TheVariants.{Begin, Put, Finish, Abort, Free, Fetch, Damage, Offline, Online, Attach, Detach, Upgrade, Close, Seal, Commit, Plan, Ready, Lend, LandStripe, LandBlock, Done, Cancel, Reopen}
use Rattle.draid_machine.specs.Names.{name_eq, has_name, is_nil, takes}
use Rattle.draid_machine.specs.State.{Layout, IsLayout, Arm, Pass, Core, Loan, Image, State}
use Rattle.draid_machine.specs.Arms.{lies_on, is_silent, has_moved, targets_of, is_target, arms_below}
use Rattle.draid_machine.specs.After.{begin_state, put_state, gone_state, live_state, finish_state, free_state, switch_state, attached_core, rearranged_state, attach_state, detach_state, upgrade_state, close_state, lose_some, lose_targets, lost_errors, capped, image_of, sealed_core, seal_state, is_freed_block, commit_state, planned_pass, plan_state, ready_state, lend_errors, lend_state, unsourced, misses_stripe, pass_over, mend_state, land_stripe_state, misses_block, heal_state, land_block_state, ended_pass, done_state, cancel_state, reopen_state}
use Rattle.draid_machine.specs.Created.{created, created_core, IsReached}
use Rattle.draid_machine.specs.Images.{IsImage, AreListed}
use Rattle.draid_machine.specs.Sound.{Sound}
use Rattle.draid_machine.specs.Fitting.{HeldFits, IsOnce, OrderFits, PassFits, CoreFits, IsVersion, Fitting}
use Rattle.draid_machine.specs.Step.{MayPlan, MayReplan, LeavesLeaf, Step, Run}
use Rattle.draid_machine.proofs.Small.{some_injective, some_same, none_some, both_true, bool_cases, absurd_test, true_left, mapped_pass, kept_some, name_refl, is_below, below}
use Rattle.draid_machine.proofs.Seals.{sealed_held}
use Rattle.draid_machine.proofs.Moves.{replan_cases}
use Rattle.draid_machine.proofs.Listing.{opened_image}
use Rattle.draid_machine.proofs.Ranges.{held_more, held_fewer, held_staged, held_gone, held_begun, filter_own, fewer_targets, joined_targets, order_joined, order_left, in_range}
use Rattle.draid_machine.proofs.Losing.{AllFits, step_all, created_fit}

module _ (l : Layout) where
  -- the versions and the images stay
  fit_on : (w w' : State) → w'.version ≡ w.version → w'.asked ≡ w.asked → w'.image ≡ w.image → w'.sealed ≡ w.sealed → w'.open_group ≤ LAST_NUMBER → CoreFits l w'.version w'.core → Fitting l w → Fitting l w'
  fit_on w w' version asked image sealed open_group core s = record {
    versions = record {
      committed = subst IsVersion (sym version) s.versions.committed;
      asked = subst IsVersion (sym asked) s.versions.asked;
      least = (let z = s.versions.least in omega (arith, z, version, asked));
      image = ap (λ (i : Image). i.version) image ∙ s.versions.image ∙ sym version;
      sealed = λ img e. s.versions.sealed img (sym sealed ∙ e) ∙ sym asked;
    };
    open_group = open_group;
    core = core;
    images = λ img is. elim is [
      | inl e ↦ s.images img (inl (sym image ∙ e))
      | inr e ↦ s.images img (inr (sym sealed ∙ e))
    ];
  }

  same_core : (version : ℕ) (q q' : Core) → q'.held ≡ q.held → q'.order ≡ q.order → q'.pass ≡ q.pass → q'.last ≡ q.last → CoreFits l version q → CoreFits l version q'
  same_core version q q' held order pass last s = record {
    held = subst (HeldFits (most_held version)) (sym held) s.held;
    order = subst (OrderFits l) (sym order) s.order;
    last = (let z = s.last in omega (arith, z, last));
    pass = λ p e. subst (λ o. PassFits l o q'.last p) (sym order) (subst (λ x. PassFits l q.order x p) (sym last) (s.pass p (sym pass ∙ e)));
  }

  -- the core stays but for arms
  quiet : (w w' : State) → w'.version ≡ w.version → w'.asked ≡ w.asked → w'.image ≡ w.image → w'.sealed ≡ w.sealed → w'.open_group ≡ w.open_group
      → w'.core.held ≡ w.core.held → w'.core.order ≡ w.core.order → w'.core.pass ≡ w.core.pass → w'.core.last ≡ w.core.last → Fitting l w → Fitting l w'
  quiet w w' version asked image sealed open_group held order pass last s =
      fit_on w w' version asked image sealed (let z = s.open_group in omega (arith, z, open_group))
      (subst (λ v. CoreFits l v w'.core) (sym version) (same_core w.version w.core w'.core held order pass last s.core)) s

  -- only blocks and tickets change
  held_on : (w w' : State) → w'.version ≡ w.version → w'.asked ≡ w.asked → w'.image ≡ w.image → w'.sealed ≡ w.sealed → w'.open_group ≡ w.open_group
      → w'.core.order ≡ w.core.order → w'.core.pass ≡ w.core.pass → w'.core.last ≡ w.core.last → HeldFits (most_held w.version) w'.core.held → Fitting l w → Fitting l w'
  held_on w w' version asked image sealed open_group order pass last held s =
      let z = same_core w.version w.core (record w'.core { held = w.core.held }) refl order pass last s.core in
      fit_on w w' version asked image sealed (let z = s.open_group in omega (arith, z, open_group))
      (subst (λ v. CoreFits l v w'.core) (sym version) (record { held = held; order = z.order; last = z.last; pass = z.pass })) s

  -- only the pass changes
  pass_on : (w w' : State) → w'.version ≡ w.version → w'.asked ≡ w.asked → w'.image ≡ w.image → w'.sealed ≡ w.sealed → w'.open_group ≡ w.open_group
      → w'.core.held ≡ w.core.held → w'.core.order ≡ w.core.order → w'.core.last ≤ LAST_NUMBER → ((p : Pass) → w'.core.pass ≡ Some p → PassFits l w'.core.order w'.core.last p) → Fitting l w → Fitting l w'
  pass_on w w' version asked image sealed open_group held order last pass s =
      fit_on w w' version asked image sealed (let z = s.open_group in omega (arith, z, open_group))
      (subst (λ v. CoreFits l v w'.core) (sym version)
      (record { held = subst (HeldFits (most_held w.version)) (sym held) s.core.held; order = subst (OrderFits l) (sym order) s.core.order; last = last; pass = pass })) s

  -- a pass goes on
  goes_on : (w w' : State) (p p' : Pass) → w.core.pass ≡ Some p → w'.version ≡ w.version → w'.asked ≡ w.asked → w'.image ≡ w.image → w'.sealed ≡ w.sealed → w'.open_group ≡ w.open_group
      → w'.core ≡ record w.core { pass = Some p' } → (PassFits l w.core.order w.core.last p → PassFits l w.core.order w.core.last p') → Fitting l w → Fitting l w'
  goes_on w w' p p' pass version asked image sealed open_group core f s =
      let new : CoreFits l w.version (record w.core { pass = Some p' })
      = record { held = s.core.held; order = s.core.order; last = s.core.last; pass = λ r e. subst (PassFits l w.core.order w.core.last) (some_injective p' r e) (f (s.core.pass p pass)) } in
      fit_on w w' version asked image sealed (let z = s.open_group in omega (arith, z, open_group))
      (subst (λ v. CoreFits l v w'.core) (sym version) (subst (CoreFits l w.version) (sym core) new)) s

  -- a pass that loses targets, and perhaps errors
  lost_fits : (order : ℕ → List ArmName) (last more : ℕ) (bad : ArmName → Bool) (p : Pass) → PassFits l order last p → PassFits l order last (lose_targets bad more p)
  lost_fits order last more bad p f = record {
    number = f.number;
    next = f.next;
    max = f.max;
    errors = in_range p.errors more;
    targets = fewer_targets (λ n. not (bad n)) p.targets (arms_below order l.slots) f.targets;
  }

  plan_fits : (w : State) (kind : PassKind) (targets : List ArmName) (order : ℕ → List ArmName) → targets ≡ filter (has_name targets) (arms_below order l.slots)
      → (kind ≡ Rebuild → w.open_group < LAST_NUMBER) → w.committed ≤ LAST_NUMBER → PassFits l order (w.core.last + 1) (planned_pass w kind targets)
  plan_fits w Rebuild targets order listed below low = record { number = refl; next = omega arith; max = (let z = below refl in omega (arith, z)); errors = omega arith; targets = listed }
  plan_fits w Heal targets order listed below low = record { number = refl; next = omega arith; max = low; errors = omega arith; targets = listed }

  -- more is held in a later version
  most_more : (v u : ℕ) → IsVersion v → IsVersion u → v ≤ u → most_held v ≤ most_held u
  most_more v u (inl a) (inl b) less = rw (a, b) (omega arith)
  most_more v u (inl a) (inr b) less = rw (a, b) (omega arith)
  most_more v u (inr a) (inl b) less = absurd (omega (arith, a, b, less))
  most_more v u (inr a) (inr b) less = rw (a, b) (omega arith)

module _ (l : Layout) (lay : IsLayout l) where
  low_group : (w : State) → Sound l w → Fitting l w → w.committed ≤ LAST_NUMBER
  low_group w sound s = by w.closing refl
    where
      by : (o : Option ℕ) → w.closing ≡ o → w.committed ≤ LAST_NUMBER
      by None e = let z = (sound.groups.idle e).0 in let top = s.open_group in omega (arith, z, top)
      by (Some t) e = let z = sound.groups.closing_is t e in let a = z.0 in let b = z.1 in let top = s.open_group in omega (arith, a, b, top)

  finish_fits : (w : State) (k : Key) (h : Held) (m : ℕ) → w.core.held k ≡ Some h → Fitting l w → Fitting l (finish_state l w k h m)
  finish_fits w k h m found s = by (nat_lt l.parity m)
    where
      by : (b : Bool) → Fitting l (if b then gone_state w k else live_state w k h)
      by true = held_on l w (gone_state w k) refl refl refl refl refl refl refl refl (held_gone (most_held w.version) w.core.held k s.core.held) s
      by false = held_on l w (live_state w k h) refl refl refl refl refl refl refl refl (held_staged (most_held w.version) w.core.held k h Live found s.core.held) s

  -- ---- Attach, Detach
  module _ (w : State) (slot : ℕ) (n : ArmName) (last : ℕ) (inside : slot < l.slots) (room : length (w.core.order slot) < 3) (unused : w.core.arm n ≡ None) (may : MayReplan w)
      (listed : AreListed w.core) (s : Fitting l w) where
    abbrev q : Core
    q = attached_core w.core slot n last

    abbrev r : State
    r = rearranged_state l w last q

    no_arm : (c : ℕ) → has_name (w.core.order c) n ≡ false
    no_arm c = elim (bool_cases (has_name (w.core.order c) n)) [
      | inl has ↦ let z = listed.data_of c n has in absurd (none_some (w.core.arm n) z.0 unused z.1)
      | inr out ↦ out
    ]

    no_target : (p : Pass) → w.core.pass ≡ Some p → has_name p.targets n ≡ false
    no_target p pass = elim (bool_cases (has_name p.targets n)) [
      | inl has ↦ let z = listed.targets p n pass has in absurd_test (has_name (w.core.order z.0) n) z.1 (no_arm z.0)
      | inr out ↦ out
    ]

    order : OrderFits l q.order
    order = order_joined l w.core.order slot n s.core.order inside room (no_arm slot)

    still_fits : (p : Pass) → w.core.pass ≡ Some p → PassFits l q.order w.core.last p
    still_fits p pass =
        let f = s.core.pass p pass in
        record { number = f.number; next = f.next; max = f.max; errors = f.errors; targets = f.targets ∙ sym (joined_targets w.core.order slot n (has_name p.targets) l.slots (no_target p pass)) }

    attach_fits : w.committed ≤ LAST_NUMBER → Fitting l (attach_state l w slot n last)
    attach_fits low =
        replan_cases l (λ v. Fitting l v) r (has_moved l w.core q) w.core.pass
        (λ none. fit_on l w r refl refl refl refl s.open_group (record { held = s.core.held; order = order; last = s.core.last; pass = λ p e. absurd (none_some w.core.pass p none e) }) s)
        (λ p pass kind. fit_on l w (record r { core = record r.core { pass = Some (lose_targets (has_moved l w.core q) 0 p) } }) refl refl refl refl s.open_group
        (record {
          held = s.core.held;
          order = order;
          last = s.core.last;
          pass = λ v e. subst (PassFits l q.order w.core.last) (some_injective (lose_targets (has_moved l w.core q) 0 p) v e)
              (lost_fits l q.order w.core.last 0 (has_moved l w.core q) p (still_fits p pass));
        }) s)
        (λ p pass kind.
        let numbers = may p pass kind in
        let less = numbers.0 in
        let ts = targets_of l r.core Rebuild in
        fit_on l w (plan_state r Rebuild ts) refl refl refl refl s.open_group
        (record {
          held = s.core.held;
          order = order;
          last = omega (arith, less);
          pass = λ v e. subst (PassFits l q.order (w.core.last + 1)) (some_injective (planned_pass r Rebuild ts) v e)
              (plan_fits l r Rebuild ts q.order (filter_own (is_target l r.core Rebuild) (arms_below q.order l.slots)) (λ e. numbers.1) low);
        }) s)

  detach_fits : (w : State) (slot : ℕ) (n : ArmName) (a : Arm) (last : ℕ) → has_name (w.core.order slot) n ≡ true → LeavesLeaf w.core slot n → w.core.pass ≡ None → Fitting l w → Fitting l (detach_state l w slot n a last)
  detach_fits w slot n a last listed leaves idle s =
      fit_on l w (detach_state l w slot n a last) refl refl refl refl s.open_group
      (record {
        held = s.core.held;
        order = order_left l w.core.order slot n s.core.order (s.core.order.slots slot n listed) leaves;
        last = s.core.last;
        pass = λ p e. absurd (none_some w.core.pass p idle e);
      }) s

  -- ---- versions and groups
  upgrade_fits : (w : State) → w.sealed ≡ None → Fitting l w → Fitting l (upgrade_state w)
  upgrade_fits w unsealed s = record {
    versions = record {
      committed = s.versions.committed;
      asked = inr refl;
      least = elim s.versions.committed [ inl e ↦ omega (arith, e) | inr e ↦ omega (arith, e) ];
      image = s.versions.image;
      sealed = λ img e. absurd (none_some w.sealed img unsealed e);
    };
    open_group = s.open_group;
    core = s.core;
    images = s.images;
  }

  seal_fits : (w : State) (t : ℕ) (failed : List ℕ) (wrote : Bool) → Fitting l w → Fitting l (seal_state l w t failed wrote)
  seal_fits w t failed wrote s =
      let q = sealed_core l w.core t failed wrote in
      let bad = lies_on l w.core (is_silent w.core failed) in
      let pass : (p : Pass) → q.pass ≡ Some p → PassFits l w.core.order w.core.last p
      = λ p e. let z = mapped_pass (lose_some bad) w.core.pass p e in
      subst (PassFits l w.core.order w.core.last) (sym z.2) (lost_fits l w.core.order w.core.last (lost_errors z.0.kind bad z.0.targets) bad z.0 (s.core.pass z.0 z.1)) in
      let held : HeldFits (most_held w.asked) (image_of t w.asked q).core.held
      = held_more (most_held w.version) (most_held w.asked) (image_of t w.asked q).core.held (most_more l w.version w.asked s.versions.committed s.versions.asked s.versions.least)
      (held_fewer (most_held w.version) w.core.held (image_of t w.asked q).core.held (λ k h e. let z = sealed_held t (w.core.held k) h e in (z.h, z.found, ap (λ (x : Held). x.stripes) z.is)) s.core.held) in
      record {
        versions = record {
          committed = s.versions.committed;
          asked = s.versions.asked;
          least = s.versions.least;
          image = s.versions.image;
          sealed = λ img e. ap (λ (i : Image). i.version) (sym (some_injective (image_of t w.asked q) img e));
        };
        open_group = s.open_group;
        core = record { held = s.core.held; order = s.core.order; last = s.core.last; pass = pass };
        images = λ img is. elim is [
          | inl e ↦ s.images img (inl e)
          | inr e ↦ subst (λ (i : Image). CoreFits l i.version i.core) (some_injective (image_of t w.asked q) img e) (record { held = held; order = s.core.order; last = s.core.last; pass = pass })
        ];
      }

  commit_fits : (w : State) (t : ℕ) (img : Image) → w.sealed ≡ Some img → Fitting l w → Fitting l (commit_state l w t img)
  commit_fits w t img sealed s =
      let same = s.versions.sealed img sealed in
      let more : most_held w.version ≤ most_held img.version = subst (λ v. most_held w.version ≤ most_held v) (sym same) (most_more l w.version w.asked s.versions.committed s.versions.asked s.versions.least) in
      record {
        versions = record {
          committed = subst IsVersion (sym same) s.versions.asked;
          asked = s.versions.asked;
          least = omega (arith, same);
          image = refl;
          sealed = λ i e. absurd (none_some None i refl e);
        };
        open_group = s.open_group;
        core = record {
          held = held_more (most_held w.version) (most_held img.version) (commit_state l w t img).core.held more
              (held_fewer (most_held w.version) w.core.held (commit_state l w t img).core.held (λ k h e. (h, (kept_some (is_freed_block t (w.core.held k)) (w.core.held k) h e).1, refl)) s.core.held);
          order = s.core.order;
          last = s.core.last;
          pass = s.core.pass;
        };
        images = λ i is. elim is [
          | inl e ↦ subst (λ (x : Image). CoreFits l x.version x.core) e (s.images img (inr sealed))
          | inr e ↦ absurd (none_some None i refl e)
        ];
      }

  reopen_fits : (w : State) (img : Image) (doubtful : List Segment) → IsImage w img → img.group < w.open_group → Fitting l w → Fitting l (reopen_state l w img doubtful)
  reopen_fits w img doubtful is less s =
      let c = s.images img is in
      record {
        versions = record { committed = version; asked = version; least = omega arith; image = refl; sealed = λ i e. absurd (none_some None i refl e) };
        open_group = (let top = s.open_group in omega (arith, top, less));
        core = record { held = c.held; order = c.order; last = c.last; pass = c.pass };
        images = λ i e. elim e [
          | inl x ↦ subst (λ (y : Image). CoreFits l y.version y.core) x c
          | inr x ↦ absurd (none_some None i refl x)
        ];
      }
    where
      version : IsVersion img.version
      version = elim is [
        | inl e ↦ subst IsVersion (sym s.versions.image ∙ ap (λ (i : Image). i.version) e) s.versions.committed
        | inr e ↦ subst IsVersion (sym (s.versions.sealed img e)) s.versions.asked
      ]

  -- ---- landings
  module _ (w : State) (p : Pass) (n : Loan) (h : Held) (failed : List ℕ) (pass : w.core.pass ≡ Some p) (loan : w.loan ≡ Some n) (found : w.core.held n.key ≡ Some h) (sound : Sound l w) (s : Fitting l w) where
    its_end : h.first + h.stripes ≤ l.stripes
    its_end = sound.core.inside n.key h found

    its_stripe : n.stripe + 1 ≤ l.stripes
    its_stripe =
        let z = sound.loan n loan in
        let taken = subst (λ (x : Held). takes x n.stripe ≡ true) (some_same (w.core.held n.key) z.h h z.found found) z.taken in
        let under : n.stripe < h.first + h.stripes = is_below n.stripe (h.first + h.stripes) (both_true (nat_le h.first n.stripe) (nat_lt n.stripe (h.first + h.stripes)) taken).1 in
        let end = its_end in
        omega (arith, under, end)

    over_fits : (more next : ℕ) → next ≤ l.stripes → Fitting l (pass_over w p more next)
    over_fits more next low =
        goes_on l w (pass_over w p more next) p (record p { next = next; errors = capped (p.errors + more) }) pass refl refl refl refl refl refl
        (λ f. record { number = f.number; next = low; max = f.max; errors = in_range p.errors more; targets = f.targets }) s

    stripe_fits : Fitting l (land_stripe_state l w p n h failed)
    stripe_fits = by (nat_lt l.parity (unsourced l n))
      where
        by : (b : Bool) → Fitting l (if b then pass_over w p 1 (n.stripe + 1) else mend_state l w p n h failed)
        by true = over_fits 1 (n.stripe + 1) its_stripe
        by false = goes_on l w (mend_state l w p n h failed) p _ pass refl refl refl refl refl refl
            (λ f. let z = lost_fits l w.core.order w.core.last _ (misses_stripe l w.core n.stripe failed) p f in record { number = z.number; next = its_stripe; max = z.max; errors = z.errors; targets = z.targets }) s

    block_fits : (patched : List Patched) (unreadable whole : Bool) → Fitting l (land_block_state l w p n h failed patched unreadable whole)
    block_fits patched true whole = over_fits 1 (h.first + h.stripes) its_end
    block_fits patched false whole = goes_on l w (heal_state l w p n h failed patched whole) p _ pass refl refl refl refl refl refl
        (λ f. let z = lost_fits l w.core.order w.core.last _ (misses_block l w.core h failed) p f in record { number = z.number; next = its_end; max = z.max; errors = z.errors; targets = z.targets }) s

  -- ---- every event
  below_last : (w : State) (kind : PassKind) (targets : List ArmName) → MayPlan w kind targets → kind ≡ Rebuild → w.open_group < LAST_NUMBER
  below_last w Rebuild targets may e = may.1
  below_last w Heal targets may e = absurd (true≢false (ap heals e))
    where
      heals : PassKind → Bool
      heals Rebuild = false
      heals Heal = true

  step_fitting : (w : State) (e : Event) (new : State) → Step l w e new → AllFits l lay w → Fitting l w → Fitting l new
  step_fitting w (Begin key first stripes len birth digest) new x a s =
      subst (λ v. Fitting l v) (sym x.made) (held_on l w (begin_state w key _) refl refl refl refl refl refl refl refl (held_begun (most_held w.version) w.core key _ x.few x.some s.core.held) s)
  step_fitting w (Put key landed failed) new x a s =
      subst (λ v. Fitting l v) (sym x.made) (held_on l w (put_state l w key landed x.h x.c x.m) refl refl refl refl refl refl refl refl
      (held_staged (most_held w.version) w.core.held key x.h (Writing (x.c + 1) (if is_nil landed then x.m + 1 else x.m)) x.found s.core.held) s)
  step_fitting w (Finish key) new x a s = subst (λ v. Fitting l v) (sym x.made) (finish_fits w key x.h x.m x.found s)
  step_fitting w (Abort key) new x a s =
      subst (λ v. Fitting l v) (sym x.made) (held_on l w (gone_state w key) refl refl refl refl refl refl refl refl (held_gone (most_held w.version) w.core.held key s.core.held) s)
  step_fitting w (Free key group) new x a s =
      subst (λ v. Fitting l v) (sym x.made) (held_on l w (free_state w key x.h group) refl refl refl refl refl refl refl refl (held_staged (most_held w.version) w.core.held key x.h (Freed group) x.found s.core.held) s)
  step_fitting w (Fetch key failed) new x a s = subst (λ v. Fitting l v) (sym x.made) s
  step_fitting w (Damage leaf sector failed) new x a s = subst (λ v. Fitting l v) (sym x.made) s
  step_fitting w (Offline leaf) new x a s = subst (λ v. Fitting l v) (sym x.made) (quiet l w (switch_state w (Leaf leaf) x.a true) refl refl refl refl refl refl refl refl refl s)
  step_fitting w (Online leaf) new x a s = subst (λ v. Fitting l v) (sym x.made) (quiet l w (switch_state w (Leaf leaf) x.a false) refl refl refl refl refl refl refl refl refl s)
  step_fitting w (Attach slot arm) new x a s =
      subst (λ v. Fitting l v) (sym x.made) (attach_fits w slot arm x.last x.slot_is x.room x.unused x.may a.listed.core s (low_group w a.sound s))
  step_fitting w (Detach slot arm) new x a s = subst (λ v. Fitting l v) (sym x.made) (detach_fits w slot arm x.a x.last x.listed x.leaves x.idle s)
  step_fitting w Upgrade new x a s = subst (λ v. Fitting l v) (sym x.made) (upgrade_fits w (a.sound.groups.idle x.idle).1 s)
  step_fitting w (Close group) new x a s =
      subst (λ v. Fitting l v) (sym x.made) (fit_on l w (close_state w group) refl refl refl refl (let under = x.below in omega (arith, under))
      (record { held = s.core.held; order = s.core.order; last = s.core.last; pass = s.core.pass }) s)
  step_fitting w (Seal group failed) new x a s = subst (λ v. Fitting l v) (sym x.made) (seal_fits w group failed.items x.wrote s)
  step_fitting w (Commit group) new x a s = subst (λ v. Fitting l v) (sym x.made) (commit_fits w group x.image x.sealed s)
  step_fitting w (Plan kind) new x a s =
      let ts = targets_of l w.core kind in
      subst (λ v. Fitting l v) (sym x.made) (pass_on l w (plan_state w kind ts) refl refl refl refl refl refl refl (let under = x.last in omega (arith, under))
      (λ p e. subst (PassFits l w.core.order (w.core.last + 1)) (some_injective (planned_pass w kind ts) p e)
      (plan_fits l w kind ts w.core.order (filter_own (is_target l w.core kind) (arms_below w.core.order l.slots)) (below_last w kind ts x.may) (low_group w a.sound s))) s)
  step_fitting w Ready new x a s =
      subst (λ v. Fitting l v) (sym x.made) (goes_on l w (ready_state w x.p) x.p (record x.p { running = true }) x.pass refl refl refl refl refl refl
      (λ f. record { number = f.number; next = f.next; max = f.max; errors = f.errors; targets = f.targets }) s)
  step_fitting w (Lend failed) new x a s =
      subst (λ v. Fitting l v) (sym x.made) (goes_on l w (lend_state w x.p x.n failed.items) x.p (record x.p { errors = capped (x.p.errors + lend_errors x.p.kind failed.items) }) x.pass refl refl refl refl refl refl
      (λ f. record { number = f.number; next = f.next; max = f.max; errors = in_range x.p.errors (lend_errors x.p.kind failed.items); targets = f.targets }) s)
  step_fitting w (LandStripe pass serial failed) new x a s = subst (λ v. Fitting l v) (sym x.made) (stripe_fits w x.p x.n x.h failed.items x.counts.pass_is x.counts.loan x.counts.found a.sound s)
  step_fitting w (LandBlock pass serial failed patched unreadable) new x a s =
      subst (λ v. Fitting l v) (sym x.made) (block_fits w x.p x.n x.h failed.items x.counts.pass_is x.counts.loan x.counts.found a.sound s patched.items unreadable x.whole)
  step_fitting w (Done failed) new x a s =
      subst (λ v. Fitting l v) (sym x.made) (pass_on l w (done_state w (ended_pass l w.core x.p failed.items)) refl refl refl refl refl refl refl s.core.last (λ p e. absurd (none_some None p refl e)) s)
  step_fitting w Cancel new x a s = subst (λ v. Fitting l v) (sym x.made) (pass_on l w (cancel_state w) refl refl refl refl refl refl refl s.core.last (λ p e. absurd (none_some None p refl e)) s)
  step_fitting w (Reopen group doubtful) new x a s =
      let is = opened_image l lay w x.image group x.one in
      subst (λ v. Fitting l v) (sym x.made) (reopen_fits w x.image doubtful.items is (a.images.each x.image is).group s)

  run_fitting : (w : State) (es : List Event) (new : State) → Run l w es new → AllFits l lay w → Fitting l w → Fitting l new
  run_fitting w [] new is a s = subst (λ v. Fitting l v) (sym is) s
  run_fitting w (e ∷ es) new r a s = run_fitting r.0 es new r.2 (step_all l lay w e r.0 r.1 a) (step_fitting w e r.0 r.1 a s)

  -- ---- a new metaslab
  created_order : OrderFits l (created_core l).order
  created_order = record {
    leaf = λ c less. (c, rw (below c l.slots less) (true_left (name_eq (Leaf c) (Leaf c)) false (name_refl (Leaf c))));
    three = λ c. short (nat_lt c l.slots) c;
    once = λ c. single (nat_lt c l.slots) c;
    slots = λ c n e. inside (nat_lt c l.slots) c n refl e;
  }
    where
      short : (b : Bool) (c : ℕ) → length (if b then Leaf c ∷ [] else []) ≤ 3
      short true c = omega arith
      short false c = omega arith

      single : (b : Bool) (c : ℕ) → IsOnce (if b then Leaf c ∷ [] else [])
      single true c = (refl, tt)
      single false c = tt

      inside : (b : Bool) (c : ℕ) (n : ArmName) → nat_lt c l.slots ≡ b → has_name (if b then Leaf c ∷ [] else []) n ≡ true → c < l.slots
      inside true c n is e = is_below c l.slots is
      inside false c n is e = absurd (true≢false (sym e))

  created_core_fits : (version : ℕ) → CoreFits l version (created_core l)
  created_core_fits version = record {
    held = record { some = λ k h e. absurd (none_some None h refl e); keys = []; all = λ k h e. absurd (none_some None h refl e); few = omega arith };
    order = created_order;
    last = omega arith;
    pass = λ p e. absurd (none_some None p refl e);
  }

  created_fitting : (version : ℕ) → IsVersion version → Fitting l (created l version)
  created_fitting version one = record {
    versions = record { committed = one; asked = one; least = omega arith; image = refl; sealed = λ img e. absurd (none_some None img refl e) };
    open_group = omega arith;
    core = created_core_fits version;
    images = λ img is. elim is [
      | inl e ↦ subst (λ (i : Image). CoreFits l i.version i.core) e (created_core_fits version)
      | inr e ↦ absurd (none_some None img refl e)
    ];
  }

pub every_fit : (l : Layout) (w : State) → IsLayout l → IsReached l w → Fitting l w
every_fit l w lay r = run_fitting l lay (created l r.version) r.events w r.run (created_fit l lay r.version) (created_fitting l lay r.version r.one)
