-- An arm joins a slot or leaves it: what loses its place is kept. So every legal history keeps what is said of segments.
use Rattle.std.proofs.Common.{◌≡◌, ◌+◌, ◌<◌, ◌≤◌, ◌⊎◌, ◌&&◌, ◌||◌, ◌==◌, not, ℕ, Bool, true, false, nat_lt, List, [], ◌∷◌, Option, Some, None, is_some, refl, sym, ◌∙◌, ap, subst, inl, inr, arith, if◌then◌else◌}
use Rattle.std.proofs.lemmas.Bool.{true≢false}
use Rattle.draid_names.specs.declared.pass_kind.PassKind.TheVariants.{Rebuild}
use Rattle.draid_machine.specs.declared.names.ArmName.{ArmName}
use Rattle.draid_machine.specs.declared.names.ArmName.TheVariants.{Leaf, Spare}
use Rattle.draid_machine.specs.declared.names.Stage.TheVariants.{Freed}
use Rattle.draid_machine.specs.declared.names.Held.{Held}
use Rattle.draid_machine.specs.declared.names.Segment.{Segment}
use Rattle.draid_machine.specs.declared.event.Event.{Event}
use Rattle.draid_machine.specs.declared.event.Event.TheVariants.{Begin, Put, Finish, Abort, Free, Fetch, Damage, Offline, Online, Attach, Detach, Upgrade, Close, Seal, Commit, Plan, Ready, Lend, LandStripe, LandBlock, Done, Cancel, Reopen}
use Rattle.draid_machine.specs.Names.{name_eq, has_name, is_block, up_to}
use Rattle.draid_machine.specs.State.{Layout, IsLayout, Gone, Arm, Pass, Core, Loan, State}
use Rattle.draid_machine.specs.Arms.{lies, passes, first_leaf, first_spare, first_spares, has_moved, targets_of}
use Rattle.draid_machine.specs.Claims.{is_on, is_at}
use Rattle.draid_machine.specs.After.{set_arm, renew_if, attached_core, detached_core, renewed_core, loses_place, kept_after, rearranged_state, attach_state, detach_state, lose_targets, ended_pass}
use Rattle.draid_machine.specs.Created.{created, IsReached}
use Rattle.draid_machine.specs.Images.{ImagesStand, AreListed, WasArm, HadSlot, KeptOn, IsKept, IsOwned, Owned}
use Rattle.draid_machine.specs.Sound.{Sound}
use Rattle.draid_machine.specs.Step.{Step, Run}
use Rattle.draid_machine.proofs.Small.{some_injective, some_same, none_some, both_true, either_true, bool_cases, absurd_test, true_left, true_right, four_true, name_true, arm_at, arm_other, equal, is_equal, is_below}
use Rattle.draid_machine.proofs.Tickets.{rebuild_heal}
use Rattle.draid_machine.proofs.Moves.{replan_cases}
use Rattle.draid_machine.proofs.Listing.{Listed, step_listed, created_all, stays_listed, keeps_listed}
use Rattle.draid_machine.proofs.Rows.{step_sound, created_sound}
use Rattle.draid_machine.proofs.Standing.{step_stands, created_stands}
use Rattle.draid_machine.proofs.Spares.{ArmsFit, step_fits, created_fits}
use Rattle.draid_machine.proofs.Staying.{SegmentsFit, at_cases, kept_on, had_still}
use Rattle.draid_machine.proofs.Owning.{each_gone, stage_segments, begin_segments, gone_segments, finish_segments, put_segments, switch_segments, close_segments, upgrade_segments, seal_segments, commit_segments, plan_segments, goes_segments, done_segments, cancel_segments, stripe_segments, block_segments, reopen_segments, created_segments}

-- the first leaf of a slot, and its first spare, are arms of it
pub first_listed : (ns : List ArmName) (m : ℕ) → first_leaf ns ≡ Some m → has_name ns (Leaf m) ≡ true
first_listed [] m e = absurd (none_some None m refl e)
first_listed (Leaf k ∷ ns) m e = true_left (name_eq (Leaf k) (Leaf m)) (has_name ns (Leaf m)) (equal k m (some_injective k m e))
first_listed (Spare t ∷ ns) m e = true_right (name_eq (Spare t) (Leaf m)) (has_name ns (Leaf m)) (first_listed ns m e)

pub spare_listed : (ns : List ArmName) (t : ℕ) → first_spare ns ≡ Some t → has_name ns (Spare t) ≡ true
spare_listed [] t e = absurd (none_some None t refl e)
spare_listed (Leaf k ∷ ns) t e = true_right (name_eq (Leaf k) (Spare t)) (has_name ns (Spare t)) (spare_listed ns t e)
spare_listed (Spare u ∷ ns) t e = true_left (name_eq (Spare u) (Spare t)) (has_name ns (Spare t)) (equal u t (some_injective u t e))

-- where an arm keeps a stripe by some orders, it lay as long as their arms had their slots
pub lay_by : (l : Layout) (order : ℕ → List ArmName) (q : Core) (group : ℕ) (n : ArmName) (x leaf : ℕ) → ((slot : ℕ) (m : ArmName) → has_name (order slot) m ≡ true → HadSlot q group slot m)
    → lies l order n x leaf ≡ true → KeptOn l q group n x leaf
lay_by l order q group (Leaf m) x leaf had e = sym (is_equal m leaf e)
lay_by l order q group (Spare t) x leaf had e = by (nat_lt t l.spares) refl e
  where
    its_leaf : (o : Option ℕ) → first_leaf (order (l.home (first_spares order) t x)) ≡ o → passes o (λ m. m == leaf) ≡ true → has_name (order (l.home (first_spares order) t x)) (Leaf leaf) ≡ true
    its_leaf None is e = absurd (true≢false (sym e))
    its_leaf (Some m) is e = first_listed (order (l.home (first_spares order) t x)) leaf (is ∙ ap Some (is_equal m leaf e))

    by : (b : Bool) → nat_lt t l.spares ≡ b → passes (if b then first_leaf (order (l.home (first_spares order) t x)) else None) (λ m. m == leaf) ≡ true → KeptOn l q group (Spare t) x leaf
    by true is e = record {
      there = is_below t l.spares is;
      first = first_spares order;
      owners = λ slot u first. had slot (Spare u) (spare_listed (order slot) u first);
      leaf_of = had (l.home (first_spares order) t x) (Leaf leaf) (its_leaf (first_leaf (order (l.home (first_spares order) t x))) refl e);
    }
    by false is e = absurd (true≢false (sym e))

module _ (l : Layout) (w : State) (last : ℕ) (arm' : ArmName → Option Arm) (order' : ℕ → List ArmName) (opened : w.committed < w.open_group)
    (slots : (g slot : ℕ) (n : ArmName) → g ≤ w.open_group → HadSlot w.core g slot n → HadSlot (record w.core { arm = arm'; order = order' }) g slot n) (s : SegmentsFit l w) where
  abbrev changed : Core
  changed = record w.core { arm = arm'; order = order' }

  abbrev after : Option Pass → State
  after o = record (rearranged_state l w last changed) { core = record (renewed_core l w.core last changed) { pass = o } }

  kept_cases : (g : Segment) (k : ℕ) → kept_after l w changed g ≡ Some k → ((loses_place l w changed g ≡ true) × (w.open_group ≡ k)) ⊎ (w.kept g ≡ Some k)
  kept_cases g k e = by (loses_place l w changed g) refl e
    where
      by : (b : Bool) → loses_place l w changed g ≡ b → (if b then Some w.open_group else w.kept g) ≡ Some k → ((loses_place l w changed g ≡ true) × (w.open_group ≡ k)) ⊎ (w.kept g ≡ Some k)
      by true is e = inl (is, some_injective w.open_group k e)
      by false is e = inr e

  had : (o : Option Pass) (g slot : ℕ) (n : ArmName) → g ≤ w.open_group → HadSlot w.core g slot n → HadSlot (after o).core g slot n
  had o g slot n upto x =
      had_still changed (after o).core g slot n refl (each_gone (λ m. renew_if (has_moved l w.core changed m) last) arm' (λ m a. refl)) (slots g slot n upto x)

  kept_place : (o : Option Pass) (g : Segment) (i : IsOwned l w g) → w.present g ≡ true → (is_at l changed g ≡ true) ⊎ IsKept l (after o) g i.h
  kept_place o g i here = by (is_at l changed g) (is_at l w.core g) refl refl
    where
      loses : is_at l w.core g ≡ true → is_at l changed g ≡ false → kept_after l w changed g ≡ Some w.open_group
      loses before now = rw (here, before, now) refl

      keeps : is_at l w.core g ≡ false → kept_after l w changed g ≡ w.kept g
      keeps before = rw (here, before) refl

      by : (now before : Bool) → is_at l changed g ≡ now → is_at l w.core g ≡ before → (is_at l changed g ≡ true) ⊎ IsKept l (after o) g i.h
      by true before is was = inl is
      by false true is was =
          let z = at_cases l w.core g was in
          let on : is_on l w.core.order g i.h ≡ true = subst (λ h. is_on l w.core.order g h ≡ true) (some_same (w.core.held g.key) z.0 i.h z.1 i.held) z.2 in
          let y = four_true (has_name (w.core.order (l.slot_of i.h.first g.column)) g.arm) (nat_lt g.column l.columns) (nat_lt g.row i.h.stripes) (lies l w.core.order g.arm (i.h.first + g.row) g.leaf) on in
          inr (record {
            group = w.open_group;
            kept = loses was is;
            arm = had o w.open_group (l.slot_of i.h.first g.column) g.arm (omega arith) (inl y.0);
            on = lay_by l w.core.order (after o).core w.open_group g.arm (i.h.first + g.row) g.leaf (λ slot m listed. had o w.open_group slot m (omega arith) (inl listed)) y.3;
          })
      by false false is was = elim i.place [
        | inl place ↦ absurd_test (is_at l w.core g) place was
        | inr k ↦ inr (record {
          group = k.group;
          kept = keeps was ∙ k.kept;
          arm = had o k.group (l.slot_of i.h.first g.column) g.arm (s.kept.upto g k.group k.kept) k.arm;
          on = kept_on l w.core (after o).core k.group g.arm (i.h.first + g.row) g.leaf (λ slot m x. had o k.group slot m (s.kept.upto g k.group k.kept) x) k.on;
        })
      ]

  some_kept : (o : Option ℕ) → is_some o ≡ true → (g : ℕ) × (o ≡ Some g)
  some_kept None e = absurd (true≢false (sym e))
  some_kept (Some g) e = (g, refl)

  pub moved_segments : (o : Option Pass) → ((p : Pass) → o ≡ Some p → p.kind ≡ Rebuild → ⊥) → SegmentsFit l (after o)
  moved_segments o idle = record {
    present = λ g here. let i = s.present g here in record { h = i.h; held = i.held; column = i.column; row = i.row; put = i.put; place = kept_place o g i here };
    kept = record {
      present = λ g k e. elim (kept_cases g k e) [
        | inl z ↦ (both_true (w.present g) (is_at l w.core g) (both_true (w.present g && is_at l w.core g) (not (is_at l changed g)) z.0).0).0
        | inr z ↦ s.kept.present g k z
      ];
      later = λ g k e. elim (kept_cases g k e) [
        | inl z ↦ subst (λ x. w.committed < x) z.1 opened
        | inr z ↦ s.kept.later g k z
      ];
      upto = λ g k e. elim (kept_cases g k e) [
        | inl z ↦ (let same = z.1 in omega (arith, same))
        | inr z ↦ s.kept.upto g k z
      ];
      rebuild = λ p g k pass kind e. absurd (idle p pass kind);
    };
    aside = record {
      held = λ g e. s.aside.held g (both_true (w.aside g) (is_at l changed g || is_some (kept_after l w changed g)) e).0;
      place = λ g e. elim (either_true (is_at l changed g) (is_some (kept_after l w changed g)) (both_true (w.aside g) (is_at l changed g || is_some (kept_after l w changed g)) e).1) [
        | inl place ↦ inl place
        | inr kept ↦ inr (some_kept (kept_after l w changed g) kept)
      ];
    };
  }

module _ (l : Layout) (lay : IsLayout l) where
  opened : (w : State) → Sound l w → w.committed < w.open_group
  opened w s = by w.closing refl
    where
      by : (o : Option ℕ) → w.closing ≡ o → w.committed < w.open_group
      by None e = let z = (s.groups.idle e).0 in omega (arith, z)
      by (Some t) e = let z = s.groups.closing_is t e in let a = z.0 in let b = z.1 in omega (arith, a, b)

  -- ---- Attach
  module _ (w : State) (slot : ℕ) (n : ArmName) (last : ℕ) (unused : w.core.arm n ≡ None) (listed : AreListed w.core) (sound : Sound l w) (s : SegmentsFit l w) where
    abbrev joined : Core
    joined = attached_core w.core slot n last

    abbrev new_one : Arm
    new_one = record { offline = false; fresh = true; log = up_to last; gone = None }

    other : (m : ArmName) (a : Arm) → w.core.arm m ≡ Some a → name_eq n m ≡ false
    other m a e = elim (bool_cases (name_eq n m)) [
      | inl is ↦ absurd (none_some (w.core.arm m) a (subst (λ x. w.core.arm x ≡ None) (name_true n m is) unused) e)
      | inr out ↦ out
    ]

    attached_slots : (g c : ℕ) (m : ArmName) → g ≤ w.open_group → HadSlot w.core g c m → HadSlot (record w.core { arm = joined.arm; order = joined.order }) g c m
    attached_slots g c m upto (inl here) = inl (stays_listed l lay w slot n new_one refl unused listed c m here)
    attached_slots g c m upto (inr x) =
        let was : WasArm w.core c m = x.0 in
        inr (record { a = was.a; g = was.g; found = arm_other w.core.arm n m (Some new_one) (other m was.a was.found) ∙ was.found; gone = was.gone; slot_is = was.slot_is }, x.1)

    attach_segments : SegmentsFit l (attach_state l w slot n last)
    attach_segments =
        let at : (o : Option Pass) → ((p : Pass) → o ≡ Some p → p.kind ≡ Rebuild → ⊥) → SegmentsFit l (record (rearranged_state l w last joined) { core = record (renewed_core l w.core last joined) { pass = o } })
        = moved_segments l w last joined.arm joined.order (opened w sound) attached_slots s in
        replan_cases l (λ v. SegmentsFit l v) (rearranged_state l w last joined) (has_moved l w.core joined) w.core.pass
        (λ none. at w.core.pass (λ p e kind. none_some w.core.pass p none e))
        (λ p pass kind. at (Some (lose_targets (has_moved l w.core joined) 0 p)) (λ r e rebuild. rebuild_heal r.kind rebuild (ap (λ (x : Pass). x.kind) (sym (some_injective (lose_targets (has_moved l w.core joined) 0 p) r e)) ∙ kind)))
        (λ p pass kind. plan_segments l (record (rearranged_state l w last joined) { core = record (renewed_core l w.core last joined) { pass = None } }) Rebuild
        (targets_of l (renewed_core l w.core last joined) Rebuild) (at None (λ r e rebuild. none_some None r refl e)))

  -- ---- Detach
  module _ (w : State) (slot : ℕ) (n : ArmName) (a : Arm) (last : ℕ) (there : has_name (w.core.order slot) n ≡ true) (found : w.core.arm n ≡ Some a) (idle : w.core.pass ≡ None)
      (listed : AreListed w.core) (sound : Sound l w) (s : SegmentsFit l w) where
    abbrev left : Core
    left = detached_core w.core slot n a w.open_group

    went : (m : ArmName) (b : Arm) (y : Gone) → w.core.arm m ≡ Some b → b.gone ≡ Some y → name_eq n m ≡ false
    went m b y e is = elim (bool_cases (name_eq n m)) [
      | inl same ↦
          let z = listed.data_of slot n there in
          let one = some_same (w.core.arm m) b z.0 e (subst (λ x. w.core.arm x ≡ Some z.0) (name_true n m same) z.1) in
          absurd (none_some b.gone y (ap (λ (x : Arm). x.gone) one ∙ z.2) is)
      | inr out ↦ out
    ]

    leaves : (g c : ℕ) (m : ArmName) → g ≤ w.open_group → n ≡ m → slot ≡ c → HadSlot (record w.core { arm = left.arm; order = left.order }) g c m
    leaves g c m upto is at =
        let x : Gone = record { slot = slot; group = w.open_group } in
        let v : Arm = record a { gone = Some x } in
        inr (record { a = v; g = x; found = subst (λ k. set_arm w.core.arm n (Some v) k ≡ Some v) is (arm_at w.core.arm n (Some v)); gone = refl; slot_is = at }, upto)

    detached_slots : (g c : ℕ) (m : ArmName) → g ≤ w.open_group → HadSlot w.core g c m → HadSlot (record w.core { arm = left.arm; order = left.order }) g c m
    detached_slots g c m upto (inl here) = elim (bool_cases (name_eq n m)) [
      | inl is ↦ leaves g c m upto (name_true n m is) (listed.one slot c m (subst (λ k. has_name (w.core.order slot) k ≡ true) (name_true n m is) there) here)
      | inr out ↦ inl (keeps_listed l lay w slot n a there found idle listed c m out here)
    ]
    detached_slots g c m upto (inr x) =
        let was : WasArm w.core c m = x.0 in
        inr (record { a = was.a; g = was.g; found = arm_other w.core.arm n m _ (went m was.a was.g was.found was.gone) ∙ was.found; gone = was.gone; slot_is = was.slot_is }, x.1)

    detach_segments : SegmentsFit l (detach_state l w slot n a last)
    detach_segments = moved_segments l w last left.arm left.order (opened w sound) detached_slots s w.core.pass (λ p e kind. none_some w.core.pass p idle e)

  -- ---- every event
  loan_block : (w : State) (n : Loan) (h : Held) → Sound l w → w.loan ≡ Some n → w.core.held n.key ≡ Some h → is_block h.stage ≡ true
  loan_block w n h s loan found =
      let z = s.loan n loan in
      subst (λ (x : Held). is_block x.stage ≡ true) (some_same (w.core.held n.key) z.h h z.found found) z.block

  loan_runs : (w : State) (n : Loan) (p : Pass) → Sound l w → w.loan ≡ Some n → w.core.pass ≡ Some p → p.running ≡ true
  loan_runs w n p s loan pass =
      let z = s.loan n loan in
      subst (λ (x : Pass). x.running ≡ true) (some_same w.core.pass z.p p z.pass pass) z.running

  pub step_segments : (w : State) (e : Event) (new : State) → Step l w e new → AreListed w.core → Sound l w → ImagesStand l w → SegmentsFit l w → SegmentsFit l new
  step_segments w (Begin key first stripes len birth digest) new x listed sound i s = subst (λ v. SegmentsFit l v) (sym x.made) (begin_segments l w key _ x.unused s)
  step_segments w (Put key landed failed) new x listed sound i s = subst (λ v. SegmentsFit l v) (sym x.made) (put_segments l w key landed x.h x.c x.m x.found x.stage s)
  step_segments w (Finish key) new x listed sound i s = subst (λ v. SegmentsFit l v) (sym x.made) (finish_segments l w key x.h x.m x.found s)
  step_segments w (Abort key) new x listed sound i s = subst (λ v. SegmentsFit l v) (sym x.made) (gone_segments l w key s)
  step_segments w (Free key group) new x listed sound i s = subst (λ v. SegmentsFit l v) (sym x.made) (stage_segments l w key x.h (Freed group) x.found (λ c z. refl) s)
  step_segments w (Fetch key failed) new x listed sound i s = subst (λ v. SegmentsFit l v) (sym x.made) s
  step_segments w (Damage leaf sector failed) new x listed sound i s = subst (λ v. SegmentsFit l v) (sym x.made) s
  step_segments w (Offline leaf) new x listed sound i s = subst (λ v. SegmentsFit l v) (sym x.made) (switch_segments l w (Leaf leaf) x.a true x.there.found s)
  step_segments w (Online leaf) new x listed sound i s = subst (λ v. SegmentsFit l v) (sym x.made) (switch_segments l w (Leaf leaf) x.a false x.there.found s)
  step_segments w (Attach slot arm) new x listed sound i s = subst (λ v. SegmentsFit l v) (sym x.made) (attach_segments w slot arm x.last x.unused listed sound s)
  step_segments w (Detach slot arm) new x listed sound i s =
      subst (λ v. SegmentsFit l v) (sym x.made) (detach_segments w slot arm x.a x.last x.listed x.found x.idle listed sound s)
  step_segments w Upgrade new x listed sound i s = subst (λ v. SegmentsFit l v) (sym x.made) (upgrade_segments l w s)
  step_segments w (Close group) new x listed sound i s = subst (λ v. SegmentsFit l v) (sym x.made) (close_segments l w group x.open_group s)
  step_segments w (Seal group failed) new x listed sound i s = subst (λ v. SegmentsFit l v) (sym x.made) (seal_segments l w group failed.items x.wrote s)
  step_segments w (Commit group) new x listed sound i s = subst (λ v. SegmentsFit l v) (sym x.made) (commit_segments l w group x.image s)
  step_segments w (Plan kind) new x listed sound i s = subst (λ v. SegmentsFit l v) (sym x.made) (plan_segments l w kind (targets_of l w.core kind) s)
  step_segments w Ready new x listed sound i s = subst (λ v. SegmentsFit l v) (sym x.made) (goes_segments l w x.p _ w.serial w.loan x.pass refl refl s)
  step_segments w (Lend failed) new x listed sound i s = subst (λ v. SegmentsFit l v) (sym x.made) (goes_segments l w x.p _ (w.serial + 1) (Some x.n) x.pass refl refl s)
  step_segments w (LandStripe pass serial failed) new x listed sound i s =
      subst (λ v. SegmentsFit l v) (sym x.made) (stripe_segments l w x.p x.n x.h failed.items x.counts.pass_is x.counts.found (loan_block w x.n x.h sound x.counts.loan x.counts.found) s x.rebuild
      (i.runs x.p x.counts.pass_is x.rebuild (loan_runs w x.n x.p sound x.counts.loan x.counts.pass_is)))
  step_segments w (LandBlock pass serial failed patched unreadable) new x listed sound i s =
      subst (λ v. SegmentsFit l v) (sym x.made) (block_segments l w x.p x.n x.h failed.items x.counts.pass_is x.counts.found (loan_block w x.n x.h sound x.counts.loan x.counts.found) s
      patched.items unreadable x.whole)
  step_segments w (Done failed) new x listed sound i s = subst (λ v. SegmentsFit l v) (sym x.made) (done_segments l w (ended_pass l w.core x.p failed.items) s)
  step_segments w Cancel new x listed sound i s = subst (λ v. SegmentsFit l v) (sym x.made) (cancel_segments l w s)
  step_segments w (Reopen group doubtful) new x listed sound i s = subst (λ v. SegmentsFit l v) (sym x.made) (reopen_segments l w x.image doubtful.items)

  -- what is said of a state and of its segments, together
  pub record AllFits (w : State) : Type 0 where
    pub listed : Listed w
    pub sound : Sound l w
    pub images : ImagesStand l w
    pub arms : ArmsFit l w
    pub segments : SegmentsFit l w

  pub step_all : (w : State) (e : Event) (new : State) → Step l w e new → AllFits w → AllFits new
  step_all w e new x s = record {
    listed = step_listed l lay w e new x s.listed;
    sound = step_sound l lay w e new x s.listed.core s.sound;
    images = step_stands l lay w e new x s.listed.core s.sound s.images;
    arms = step_fits l lay w e new x (λ img is. (s.images.each img is).here) s.arms;
    segments = step_segments w e new x s.listed.core s.sound s.images s.segments;
  }

  run_all : (w : State) (es : List Event) (new : State) → Run l w es new → AllFits w → AllFits new
  run_all w [] new is s = subst (λ v. AllFits v) (sym is) s
  run_all w (e ∷ es) new r s = run_all r.0 es new r.2 (step_all w e r.0 r.1 s)

  pub created_fit : (version : ℕ) → AllFits (created l version)
  created_fit version = record {
    listed = created_all l lay version;
    sound = created_sound l lay version;
    images = created_stands l lay version;
    arms = created_fits l lay version;
    segments = created_segments l (created l version) (λ g. refl) (λ g. refl) (λ g. refl);
  }

  pub reached_all : (w : State) → IsReached l w → AllFits w
  reached_all w r = run_all (created l r.version) r.events w r.run (created_fit r.version)

  pub is_owned : (w : State) → AllFits w → Owned l w
  is_owned w s = record {
    listed = s.listed.core;
    gone = s.arms.gone;
    spares = s.arms.spares;
    images = λ img is. (s.listed.images img is, s.arms.images img is);
    present = s.segments.present;
    kept = s.segments.kept;
    aside = s.segments.aside;
  }

pub every_segment : (l : Layout) (w : State) → IsLayout l → IsReached l w → Owned l w
every_segment l w lay r = is_owned l lay w (reached_all l lay w r)
