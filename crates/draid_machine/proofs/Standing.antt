-- Every legal event keeps what the committed and a sealed image stand on.
use Rattle.std.proofs.Common.{◌≡◌, ◌+◌, ◌<◌, ◌≤◌, ◌⊎◌, ◌&&◌, ◌||◌, ◌==◌, not, ℕ, Bool, true, false, nat_le, nat_lt, List, [], ◌∷◌, Option, Some, None, refl, sym, ◌∙◌, ap, subst, inl, inr, arith, if◌then◌else◌}
use Rattle.std.proofs.lemmas.Bool.{true≢false}
use Rattle.std.proofs.lemmas.Bool.Decides.{nat_tests}
use Rattle.draid_names.specs.declared.pass_kind.PassKind.{PassKind}
use Rattle.draid_names.specs.declared.pass_kind.PassKind.TheVariants.{Rebuild, Heal}
use Rattle.draid_machine.specs.declared.names.Key.{Key}
use Rattle.draid_machine.specs.declared.names.ArmName.{ArmName}
use Rattle.draid_machine.specs.declared.names.ArmName.TheVariants.{Leaf, Spare}
use Rattle.draid_machine.specs.declared.names.Stage.{Stage}
use Rattle.draid_machine.specs.declared.names.Stage.TheVariants.{Writing, Live, Freed}
use Rattle.draid_machine.specs.declared.names.Held.{Held}
use Rattle.draid_machine.specs.declared.names.Segment.{Segment}
use Rattle.draid_machine.specs.declared.event.Patched.{Patched}
use Rattle.draid_machine.specs.declared.event.Event.{Event}
use Rattle.draid_machine.specs.declared.event.Event.TheVariants.{Begin, Put, Finish, Abort, Free, Fetch, Damage, Offline, Online, Attach, Detach, Upgrade, Close, Seal, Commit, Plan, Ready, Lend, LandStripe, LandBlock, Done, Cancel, Reopen}
use Rattle.draid_machine.specs.Names.{key_eq, name_eq, is_nil, has_name, is_block, is_freed_by, is_put, takes, is_heal}
use Rattle.draid_machine.specs.State.{Layout, IsLayout, Gone, Arm, Pass, Core, Loan, Image, State}
use Rattle.draid_machine.specs.Arms.{lies, answers, fails, lies_on, is_silent, has_moved, targets_of, is_here}
use Rattle.draid_machine.specs.Claims.{is_on, is_at, is_at_held, passed, claims}
use Rattle.draid_machine.specs.After.{set_held, set_arm, each_arm, map_arm, log_if, fill_if, excise_if, cut_above, lose_some, without_key, begin_state, put_state, gone_state, live_state, finish_state, free_state, switch_state, attached_core, detached_core, loses_place, kept_after, renew_if, lose_targets, not_kept, rearranged_state, attach_state, detach_state, upgrade_state, close_state, keep_if, seal_held, seal_arm, image_of, sealed_core, seal_state, is_freed_block, is_gone_by, is_gone_arm, is_kept_by, stays, commit_state, planned_pass, plan_state, ready_state, lend_state, unsourced, misses_stripe, is_mended, pass_over, mend_state, land_stripe_state, has_healed, misses_block, heal_state, land_block_state, ended_pass, done_state, cancel_state, reopen_state}
use Rattle.draid_machine.specs.Created.{created, created_core, created_arm, new_arm, IsReached}
use Rattle.draid_machine.specs.Sound.{IsClaimed, ImageSound, Sound}
use Rattle.draid_machine.specs.Images.{IsImage, IsOwnPass, ImageStands, ImagesStand, AreListed}
use Rattle.draid_machine.specs.Step.{Step, Run}
use Rattle.draid_machine.proofs.Small.{some_injective, some_same, none_some, both_true, true_both, bool_cases, absurd_test, not_false, true_left, true_right, key_true, held_at, held_other, kept_some, arm_at, arm_other, mapped_pass, kept_if, has_filter, name_true, four_true, is_equal}
use Rattle.draid_machine.proofs.Follows.{from_passed}
use Rattle.draid_machine.proofs.Calm.{at_place}
use Rattle.draid_machine.proofs.Moves.{replan_cases}
use Rattle.draid_machine.proofs.Listing.{Listed, step_listed, created_all}
use Rattle.draid_machine.proofs.Tickets.{rebuild_heal}
use Rattle.draid_machine.proofs.Seals.{sealed_held, sealed_arm, from_claims}
use Rattle.draid_machine.proofs.Rows.{step_sound, created_sound}

-- a pass that goes on
pub record Onward (p p' : Pass) : Type 0 where
  pub rebuild : p.kind ≡ Rebuild
  pub number : p'.number ≡ p.number
  pub max : p'.max ≡ p.max
  pub next : p.next ≤ p'.next
  pub targets : (n : ArmName) → has_name p'.targets n ≡ true → has_name p.targets n ≡ true

pub record Forward (l : Layout) (img : Image) (w w' : State) : Type 0 where
  pub group : w.open_group ≤ w'.open_group
  pub blocks : (k : Key) → seal_held img.group (w'.core.held k) ≡ seal_held img.group (w.core.held k)
  pub arms : (n : ArmName) (b : Arm) → w.core.arm n ≡ Some b → is_gone_by img.group b.gone ≡ false → (b' : Arm) × (w'.core.arm n ≡ Some b') × (is_gone_by img.group b'.gone ≡ false)
  pub rebuild : (p' : Pass) → w'.core.pass ≡ Some p' → p'.kind ≡ Rebuild → p'.max ≤ img.group + 1 → (p : Pass) × (w.core.pass ≡ Some p) × Onward p p'
  pub claimed : (s : Segment) → claims l img.core s ≡ true → w.present s ≡ true → w'.present s ≡ true
  pub kept : (s : Segment) (g : ℕ) → claims l img.core s ≡ true → ((n : ℕ) → w.kept s ≡ Some n → (img.group < n) ⊎ (is_at l w.core s ≡ true))
      → w'.kept s ≡ Some g → (img.group < g) ⊎ (is_at l w'.core s ≡ true)

-- what was at a place is at one, and nothing more is kept
still_at : {A B C : Type 0} → (B → C) → A ⊎ B → A ⊎ C
still_at f (inl less) = inl less
still_at f (inr place) = inr (f place)

onward_same : (p : Pass) → p.kind ≡ Rebuild → Onward p p
onward_same p e = record { rebuild = e; number = refl; max = refl; next = omega arith; targets = λ n z. z }

-- ---- entries and arms
set_blocks : (t : ℕ) (f : Key → Option Held) (k : Key) (v : Option Held) → seal_held t v ≡ seal_held t (f k) → (j : Key) → seal_held t (set_held f k v j) ≡ seal_held t (f j)
set_blocks t f k v same j = by (key_eq k j) refl
  where
    by : (b : Bool) → key_eq k j ≡ b → seal_held t (if b then v else f j) ≡ seal_held t (f j)
    by true is = same ∙ ap (λ x. seal_held t (f x)) (key_true k j is)
    by false is = refl

seal_ticket : (t : ℕ) (h : Held) → is_block h.stage ≡ false → seal_held t (Some h) ≡ None
seal_ticket t h e = rw e refl

seal_late : (t : ℕ) (h : Held) → t < h.birth → seal_held t (Some h) ≡ None
seal_late t h late = none (is_block h.stage) (nat_le h.birth t) (is_freed_by t h.stage) (grind (arith, nat_tests))
  where
    none : (a b c : Bool) → b ≡ false → keep_if (a && b && not c) (record h { stage = Live }) ≡ None
    none true b c e = rw e refl
    none false b c e = refl

past : (x t : ℕ) → t < x → nat_le x t ≡ false
past x t less = grind (arith, nat_tests)

seal_freed : (t : ℕ) (h : Held) (group : ℕ) → h.stage ≡ Live → t < group → seal_held t (Some (record h { stage = Freed group })) ≡ seal_held t (Some h)
seal_freed t h group live late =
    subst (λ st. keep_if (true && nat_le h.birth t && not (nat_le group t)) (record h { stage = Live }) ≡ keep_if (is_block st && nat_le h.birth t && not (is_freed_by t st)) (record h { stage = Live })) (sym live)
    (ap (λ b. keep_if (true && nat_le h.birth t && not b) (record h { stage = Live })) (past group t late))

mapped : (f : ArmName → Arm → Arm) (arms : ArmName → Option Arm) (t : ℕ) → ((n : ArmName) (a : Arm) → (f n a).gone ≡ a.gone)
    → (n : ArmName) (b : Arm) → arms n ≡ Some b → is_gone_by t b.gone ≡ false → (b' : Arm) × (each_arm f arms n ≡ Some b') × (is_gone_by t b'.gone ≡ false)
mapped f arms t same n b e here = (f n b, ap (map_arm (f n)) e, subst (λ g. is_gone_by t g ≡ false) (sym (same n b)) here)

module _ (l : Layout) (lay : IsLayout l) where
  forward : (w w' : State) (img : Image) → ImageStands l w img → Forward l img w w' → ImageStands l w' img
  forward w w' img s f = record {
    group = (let a = s.group in let b = f.group in omega (arith, a, b));
    blocks = λ k. s.blocks k ∙ sym (f.blocks k);
    arms = λ n a e. let z = s.arms n a e in f.arms n z.0 z.1 z.2;
    rebuild = λ p' pass kind max.
        let z = f.rebuild p' pass kind max in
        let o = s.rebuild z.0 z.1 z.2.rebuild (subst (λ m. m ≤ img.group + 1) z.2.max max) in
        record {
          own = o.own;
          pass = o.pass;
          rebuild = o.rebuild;
          number = z.2.number ∙ o.number;
          max = z.2.max ∙ o.max;
          next = (let a = o.next in let b = z.2.next in omega (arith, a, b));
          targets = λ n t. o.targets n (z.2.targets n t);
        };
    here = s.here;
    runs = s.runs;
    claimed = λ g c. f.claimed g c (s.claimed g c);
    kept = λ g n c e. f.kept g n c (λ m was. s.kept g m c was) e;
  }

  -- an event that leaves the images as they are
  onward : (w w' : State) → w'.image ≡ w.image → w'.sealed ≡ w.sealed → ((img : Image) → IsImage w img → ImageStands l w img → Forward l img w w')
      → ((p : Pass) → w'.core.pass ≡ Some p → p.kind ≡ Rebuild → p.running ≡ true → p.max ≤ w'.committed + 1) → ImagesStand l w → ImagesStand l w'
  onward w w' image sealed f runs s = record {
    each = λ img is. let was = before img is in forward w w' img (s.each img was) (f img was (s.each img was));
    runs = runs;
  }
    where
      before : (img : Image) → IsImage w' img → IsImage w img
      before img (inl e) = inl (sym image ∙ e)
      before img (inr e) = inr (sym sealed ∙ e)

  -- only blocks and tickets change
  held_forward : (w : State) (img : Image) (k : Key) (v : Option Held) (present' aside' : Segment → Bool) (kept' : Segment → Option ℕ) → seal_held img.group v ≡ seal_held img.group (w.core.held k)
      → ((s : Segment) → claims l img.core s ≡ true → w.present s ≡ true → present' s ≡ true)
      → ((s : Segment) (g : ℕ) → kept' s ≡ Some g → w.kept s ≡ Some g)
      → ((s : Segment) → claims l img.core s ≡ true → is_at l w.core s ≡ true → is_at l (record w.core { held = set_held w.core.held k v }) s ≡ true)
      → Forward l img w (record w { core = record w.core { held = set_held w.core.held k v }; present = present'; aside = aside'; kept = kept' })
  held_forward w img k v present' aside' kept' same stays fewer place = record {
    group = omega arith;
    blocks = set_blocks img.group w.core.held k v same;
    arms = λ n b e here. (b, e, here);
    rebuild = λ p pass kind max. (p, pass, onward_same p kind);
    claimed = stays;
    kept = λ g n c was e. still_at (place g c) (was n (fewer g n e));
  }

  -- a place speaks of a block's run alone
  staged_at : (q : Core) (k : Key) (h : Held) (st : Stage) (g : Segment) → q.held k ≡ Some h → is_at l q g ≡ true → is_at l (record q { held = set_held q.held k (Some (record h { stage = st })) }) g ≡ true
  staged_at q k h st g found e = elim (bool_cases (key_eq k g.key)) [
    | inl t ↦
        let at : q.held g.key ≡ Some h = subst (λ x. q.held x ≡ Some h) (key_true k g.key t) found in
        let on : is_on l q.order g h ≡ true = subst (λ o. is_at_held l q.order g o ≡ true) at e in
        let now : set_held q.held k (Some (record h { stage = st })) g.key ≡ Some (record h { stage = st })
        = subst (λ x. set_held q.held k (Some (record h { stage = st })) x ≡ Some (record h { stage = st })) (key_true k g.key t) (held_at q.held k (Some (record h { stage = st }))) in
        subst (λ o. is_at_held l q.order g o ≡ true) (sym now) on
    | inr f ↦ subst (λ o. is_at_held l q.order g o ≡ true) (sym (held_other q.held k g.key (Some (record h { stage = st })) f)) e
  ]

  -- a place of another key stays
  other_at : (q : Core) (k : Key) (v : Option Held) (g : Segment) → key_eq k g.key ≡ false → is_at l q g ≡ true → is_at l (record q { held = set_held q.held k v }) g ≡ true
  other_at q k v g other e = subst (λ o. is_at_held l q.order g o ≡ true) (sym (held_other q.held k g.key v other)) e

  -- what an image claims is of no ticket
  claims_block : (w : State) (img : Image) (k : Key) (h : Held) (g : Segment) → ImageStands l w img → w.core.held k ≡ Some h → is_block h.stage ≡ false → claims l img.core g ≡ true → key_eq k g.key ≡ false
  claims_block w img k h g s found ticket e =
      let c = from_claims l img.core g e in
      let z = sealed_held img.group (w.core.held g.key) c.h (sym (s.blocks g.key) ∙ c.on.held) in
      elim (bool_cases (key_eq k g.key)) [
        | inl t ↦
            let same = some_same (w.core.held g.key) h z.h (subst (λ x. w.core.held x ≡ Some h) (key_true k g.key t) found) z.found in
            absurd_test (is_block h.stage) (subst (λ (x : Held). is_block x.stage ≡ true) (sym same) z.block) ticket
        | inr f ↦ f
      ]

  gone_stands : (w : State) (k : Key) (h : Held) → w.core.held k ≡ Some h → is_block h.stage ≡ false → ImagesStand l w → ImagesStand l (gone_state w k)
  gone_stands w k h found ticket s = onward w (gone_state w k) refl refl
      (λ img is stands. held_forward w img k None (without_key k w.present) (without_key k w.aside) (not_kept k w.kept) (sym (ap (seal_held img.group) found ∙ seal_ticket img.group h ticket))
      (λ g c here. true_both (w.present g) (not (key_eq k g.key)) here (not_false (key_eq k g.key) (claims_block w img k h g stands found ticket c)))
      (λ g n e. (kept_some (key_eq k g.key) (w.kept g) n e).1)
      (λ g c e. other_at w.core k None g (claims_block w img k h g stands found ticket c) e))
      s.runs s

  -- tickets are born above the group of an image
  born_late : (w : State) (img : Image) (k : Key) (h : Held) → Sound l w → IsImage w img → w.core.held k ≡ Some h → is_block h.stage ≡ false → img.group < h.birth
  born_late w img k h s (inl e) found ticket =
      let z = s.core.tickets k h found ticket in
      let i = ap (λ (x : Image). x.group) (sym e) ∙ s.groups.image_is in
      omega (arith, z, i)
  born_late w img k h s (inr e) found ticket = s.groups.tickets img k h e found ticket

  live_stands : (w : State) (k : Key) (h : Held) → w.core.held k ≡ Some h → is_block h.stage ≡ false → Sound l w → ImagesStand l w → ImagesStand l (live_state w k h)
  live_stands w k h found ticket sound s = onward w (live_state w k h) refl refl
      (λ img is stands. held_forward w img k (Some (record h { stage = Live })) w.present w.aside w.kept
      (seal_late img.group (record h { stage = Live }) (born_late w img k h sound is found ticket) ∙ sym (ap (seal_held img.group) found ∙ seal_ticket img.group h ticket))
      (λ g c here. here) (λ g n e. e) (λ g c e. staged_at w.core k h Live g found e))
      s.runs s

  -- only arms change
  arms_forward : (w : State) (img : Image) (arm' : ArmName → Option Arm)
      → ((n : ArmName) (b : Arm) → w.core.arm n ≡ Some b → is_gone_by img.group b.gone ≡ false → (b' : Arm) × (arm' n ≡ Some b') × (is_gone_by img.group b'.gone ≡ false))
      → Forward l img w (record w { core = record w.core { arm = arm' } })
  arms_forward w img arm' arms = record {
    group = omega arith;
    blocks = λ k. refl;
    arms = arms;
    rebuild = λ p e kind max. (p, e, onward_same p kind);
    claimed = λ g c here. here;
    kept = λ g n c was e. was n e;
  }

  set_gone : (w : State) (t : ℕ) (n : ArmName) (v : Arm) → is_gone_by t v.gone ≡ false
      → (m : ArmName) (b : Arm) → w.core.arm m ≡ Some b → is_gone_by t b.gone ≡ false → (b' : Arm) × (set_arm w.core.arm n (Some v) m ≡ Some b') × (is_gone_by t b'.gone ≡ false)
  set_gone w t n v later m b e here = elim (bool_cases (name_eq n m)) [
    | inl is ↦ (v, subst (λ x. set_arm w.core.arm n (Some v) x ≡ Some v) (name_true n m is) (arm_at w.core.arm n (Some v)), later)
    | inr other ↦ (b, arm_other w.core.arm n m (Some v) other ∙ e, here)
  ]

  set_switched : (w : State) (t : ℕ) (n : ArmName) (a : Arm) (offline : Bool) → w.core.arm n ≡ Some a
      → (m : ArmName) (b : Arm) → w.core.arm m ≡ Some b → is_gone_by t b.gone ≡ false → (b' : Arm) × (set_arm w.core.arm n (Some (record a { offline = offline })) m ≡ Some b') × (is_gone_by t b'.gone ≡ false)
  set_switched w t n a offline found m b e here = elim (bool_cases (name_eq n m)) [
    | inl is ↦
        let v : Arm = record a { offline = offline } in
        let same : b ≡ a = some_same (w.core.arm m) b a e (subst (λ x. w.core.arm x ≡ Some a) (name_true n m is) found) in
        (v, subst (λ x. set_arm w.core.arm n (Some v) x ≡ Some v) (name_true n m is) (arm_at w.core.arm n (Some v)), subst (λ (x : Arm). is_gone_by t x.gone ≡ false) same here)
    | inr other ↦ (b, arm_other w.core.arm n m (Some (record a { offline = offline })) other ∙ e, here)
  ]

  switch_stands : (w : State) (n : ArmName) (a : Arm) (offline : Bool) → w.core.arm n ≡ Some a → ImagesStand l w → ImagesStand l (switch_state w n a offline)
  switch_stands w n a offline found s = onward w (switch_state w n a offline) refl refl
      (λ img is stands. arms_forward w img (switch_state w n a offline).core.arm (λ m b e here. set_switched w img.group n a offline found m b e here))
      s.runs s

  -- other arms: what loses its place is kept for the open group, which is above an image's
  loses_cases : (w : State) (q : Core) (g : Segment) (n : ℕ) → kept_after l w q g ≡ Some n → (n ≡ w.open_group) ⊎ ((loses_place l w q g ≡ false) × (w.kept g ≡ Some n))
  loses_cases w q g n e = by (loses_place l w q g) refl e
    where
      by : (b : Bool) → loses_place l w q g ≡ b → (if b then Some w.open_group else w.kept g) ≡ Some n → (n ≡ w.open_group) ⊎ ((loses_place l w q g ≡ false) × (w.kept g ≡ Some n))
      by true is e = inl (sym (some_injective w.open_group n e))
      by false is e = inr (is, e)

  stays_at : (a b c : Bool) → (a && b && not c) ≡ false → a ≡ true → b ≡ true → c ≡ true
  stays_at a b true e x y = refl
  stays_at a b false e x y = absurd (true≢false (sym (true_both (a && b) true (true_both a b x y) refl) ∙ e))

  rearranged_stands : (w : State) (last : ℕ) (arm' : ArmName → Option Arm) (order' : ℕ → List ArmName)
      → ((img : Image) → ImageStands l w img → (n : ArmName) (b : Arm) → w.core.arm n ≡ Some b → is_gone_by img.group b.gone ≡ false
      → (b' : Arm) × (arm' n ≡ Some b') × (is_gone_by img.group b'.gone ≡ false))
      → ImagesStand l w → ImagesStand l (rearranged_state l w last (record w.core { arm = arm'; order = order' }))
  rearranged_stands w last arm' order' arms s =
      let q : Core = record w.core { arm = arm'; order = order' } in
      onward w (rearranged_state l w last q) refl refl
      (λ img is stands. record {
        group = omega arith;
        blocks = λ k. refl;
        arms = λ n b e here. let z = arms img stands n b e here in mapped (λ m. renew_if (has_moved l w.core q m) last) arm' img.group (λ m a. refl) n z.0 z.1 z.2;
        rebuild = λ p e kind max. (p, e, onward_same p kind);
        claimed = λ g c here. here;
        kept = λ g n c was e. elim (loses_cases w q g n e) [
          | inl at ↦ inl (subst (λ x. img.group < x) (sym at) stands.group)
          | inr z ↦ still_at (λ place. stays_at (w.present g) (is_at l w.core g) (is_at l q g) z.0 (stands.claimed g c) place) (was n z.1)
        ];
      })
      s.runs s

  -- the pass changes, and perhaps logs
  pass_forward : (w : State) (img : Image) (arm' : ArmName → Option Arm) (pass' : Option Pass) (last' serial' : ℕ) (loan' : Option Loan) (present' aside' : Segment → Bool)
      → ((n : ArmName) (b : Arm) → w.core.arm n ≡ Some b → is_gone_by img.group b.gone ≡ false → (b' : Arm) × (arm' n ≡ Some b') × (is_gone_by img.group b'.gone ≡ false))
      → ((p' : Pass) → pass' ≡ Some p' → p'.kind ≡ Rebuild → p'.max ≤ img.group + 1 → (p : Pass) × (w.core.pass ≡ Some p) × Onward p p')
      → ((s : Segment) → claims l img.core s ≡ true → w.present s ≡ true → present' s ≡ true)
      → Forward l img w (record w { core = record w.core { arm = arm'; pass = pass'; last = last' }; serial = serial'; loan = loan'; present = present'; aside = aside' })
  pass_forward w img arm' pass' last' serial' loan' present' aside' arms rebuild claimed = record {
    group = omega arith;
    blocks = λ k. refl;
    arms = arms;
    rebuild = rebuild;
    claimed = claimed;
    kept = λ g n c was e. was n e;
  }

  no_rebuild : {A : Type 0} (p : Pass) → None ≡ Some p → A
  no_rebuild p e = absurd (none_some None p refl e)

  plan_stands : (w : State) (kind : PassKind) (targets : List ArmName) → ImagesStand l w → ImagesStand l (plan_state w kind targets)
  plan_stands w kind targets s = onward w (plan_state w kind targets) refl refl
      (λ img is stands. pass_forward w img (plan_state w kind targets).core.arm (Some (planned_pass w kind targets)) (w.core.last + 1) w.serial w.loan w.present w.aside
      (mapped (λ n. fill_if (not (is_heal kind) && has_name targets n) (w.open_group + 1)) w.core.arm img.group (λ n a. refl))
      (λ p e rebuild max. absurd (high p (planned kind) (some_injective (planned_pass w kind targets) p e) rebuild (let a = stands.group in a) max))
      (λ g c here. here))
      (λ p e rebuild running. absurd (waits p (planned kind) (some_injective (planned_pass w kind targets) p e) rebuild running))
      s
    where
      planned : (kind : PassKind) → ((planned_pass w kind targets).kind ≡ Heal) ⊎ (((planned_pass w kind targets).running ≡ false) × ((planned_pass w kind targets).max ≡ w.open_group + 1))
      planned Rebuild = inr (refl, refl)
      planned Heal = inl refl

      high : {t : ℕ} (p : Pass) → ((planned_pass w kind targets).kind ≡ Heal) ⊎ (((planned_pass w kind targets).running ≡ false) × ((planned_pass w kind targets).max ≡ w.open_group + 1))
          → planned_pass w kind targets ≡ p → p.kind ≡ Rebuild → t < w.open_group → p.max ≤ t + 1 → ⊥
      high p (inl heal) same rebuild less max = rebuild_heal p.kind rebuild (ap (λ (x : Pass). x.kind) (sym same) ∙ heal)
      high p (inr z) same rebuild less max = let m = ap (λ (x : Pass). x.max) (sym same) ∙ z.1 in omega (arith, m, less, max)

      waits : (p : Pass) → ((planned_pass w kind targets).kind ≡ Heal) ⊎ (((planned_pass w kind targets).running ≡ false) × ((planned_pass w kind targets).max ≡ w.open_group + 1))
          → planned_pass w kind targets ≡ p → p.kind ≡ Rebuild → p.running ≡ true → ⊥
      waits p (inl heal) same rebuild running = rebuild_heal p.kind rebuild (ap (λ (x : Pass). x.kind) (sym same) ∙ heal)
      waits p (inr z) same rebuild running = absurd_test p.running running (ap (λ (x : Pass). x.running) (sym same) ∙ z.0)

  -- a pass goes on with the same kind, number and max
  goes_forward : (w : State) (img : Image) (p p' : Pass) (serial' : ℕ) (loan' : Option Loan) (present' aside' : Segment → Bool) → w.core.pass ≡ Some p
      → p'.kind ≡ p.kind → p'.number ≡ p.number → p'.max ≡ p.max → p.next ≤ p'.next → ((n : ArmName) → has_name p'.targets n ≡ true → has_name p.targets n ≡ true)
      → ((s : Segment) → claims l img.core s ≡ true → w.present s ≡ true → present' s ≡ true)
      → Forward l img w (record w { core = record w.core { pass = Some p' }; serial = serial'; loan = loan'; present = present'; aside = aside' })
  goes_forward w img p p' serial' loan' present' aside' pass kind number max next targets claimed = record {
    group = omega arith;
    blocks = λ k. refl;
    arms = λ n b e here. (b, e, here);
    rebuild = λ r e rebuild low.
        (p, pass, subst (λ x. Onward p x) (some_injective p' r e) (record { rebuild = sym kind ∙ ap (λ (x : Pass). x.kind) (some_injective p' r e) ∙ rebuild; number = number; max = max; next = next; targets = targets }));
    claimed = claimed;
    kept = λ g n c was e. was n e;
  }

  goes_runs : (w : State) (p p' : Pass) → w.core.pass ≡ Some p → p'.kind ≡ p.kind → p'.max ≡ p.max → p'.running ≡ p.running → ImagesStand l w
      → (r : Pass) → Some p' ≡ Some r → r.kind ≡ Rebuild → r.running ≡ true → r.max ≤ w.committed + 1
  goes_runs w p p' pass kind max running s r e rebuild runs =
      let same = some_injective p' r e in
      let z = s.runs p pass (sym kind ∙ ap (λ (x : Pass). x.kind) same ∙ rebuild) (sym running ∙ ap (λ (x : Pass). x.running) same ∙ runs) in
      let m = ap (λ (x : Pass). x.max) (sym same) ∙ max in
      omega (arith, z, m)

  ready_stands : (w : State) (p : Pass) → w.core.pass ≡ Some p → p.max ≤ w.committed + 1 → ImagesStand l w → ImagesStand l (ready_state w p)
  ready_stands w p pass max s =
      let p' : Pass = record p { running = true } in
      onward w (ready_state w p) refl refl
      (λ img is stands. goes_forward w img p p' w.serial w.loan w.present w.aside pass refl refl refl (omega arith) (λ n z. z) (λ g c here. here))
      (λ r e rebuild running. subst (λ (x : Pass). x.max ≤ w.committed + 1) (some_injective p' r e) max)
      s

  cancel_stands : (w : State) → ImagesStand l w → ImagesStand l (cancel_state w)
  cancel_stands w s = onward w (cancel_state w) refl refl
      (λ img is stands. pass_forward w img w.core.arm None w.core.last w.serial None w.present w.aside (λ n b e here. (b, e, here)) (λ p e. no_rebuild p e) (λ g c here. here))
      (λ p e. no_rebuild p e) s

  done_stands : (w : State) (p : Pass) → ImagesStand l w → ImagesStand l (done_state w p)
  done_stands w p s = onward w (done_state w p) refl refl
      (λ img is stands. pass_forward w img (done_state w p).core.arm None w.core.last w.serial w.loan w.present w.aside
      (mapped (λ n. excise_if ((p.errors == 0) && has_name p.targets n) p.max) w.core.arm img.group (λ n a. refl)) (λ r e. no_rebuild r e) (λ g c here. here))
      (λ r e. no_rebuild r e) s

  begin_stands : (w : State) (k : Key) (h : Held) → w.core.held k ≡ None → is_block h.stage ≡ false → ImagesStand l w → ImagesStand l (begin_state w k h)
  begin_stands w k h unused ticket s = onward w (begin_state w k h) refl refl
      (λ img is stands. held_forward w img k (Some h) w.present w.aside w.kept (seal_ticket img.group h ticket ∙ sym (ap (seal_held img.group) unused)) (λ g c here. here) (λ g n e. e)
      (λ g c e. other_at w.core k (Some h) g (elim (bool_cases (key_eq k g.key)) [
        | inl t ↦ absurd_test (is_at l w.core g) e (ap (is_at_held l w.core.order g) (subst (λ x. w.core.held x ≡ None) (key_true k g.key t) unused))
        | inr f ↦ f
      ]) e))
      s.runs s

  free_stands : (w : State) (k : Key) (h : Held) (group : ℕ) → w.core.held k ≡ Some h → h.stage ≡ Live → w.open_group ≤ group → ImagesStand l w → ImagesStand l (free_state w k h group)
  free_stands w k h group found live due s = onward w (free_state w k h group) refl refl
      (λ img is stands. held_forward w img k (Some (record h { stage = Freed group })) w.present w.aside w.kept
      (seal_freed img.group h group live (let a = stands.group in omega (arith, a, due)) ∙ sym (ap (seal_held img.group) found)) (λ g c here. here) (λ g n e. e)
      (λ g c e. staged_at w.core k h (Freed group) g found e))
      s.runs s

  put_stands : (w : State) (k : Key) (landed : List ArmName) (h : Held) (c m : ℕ) → w.core.held k ≡ Some h → h.stage ≡ Writing c m → ImagesStand l w → ImagesStand l (put_state l w k landed h c m)
  put_stands w k landed h c m found stage s = onward w (put_state l w k landed h c m) refl refl
      (λ img is stands. record {
        group = omega arith;
        blocks = set_blocks img.group w.core.held k (Some (record h { stage = Writing (c + 1) (if is_nil landed then m + 1 else m) })) (seal_ticket img.group (record h { stage = Writing (c + 1) (if is_nil landed then m + 1 else m) }) refl ∙ sym (ap (seal_held img.group) found ∙ seal_ticket img.group h (ap is_block stage)));
        arms = mapped (λ n. log_if (has_name (w.core.order (l.slot_of h.first c)) n && not (has_name landed n)) h.birth) w.core.arm img.group (λ n a. refl);
        rebuild = λ p pass kind max. (p, pass, onward_same p kind);
        claimed = λ g e here. true_left (w.present g) _ here;
        kept = λ g n e was z. still_at (staged_at w.core k h (Writing (c + 1) (if is_nil landed then m + 1 else m)) g found) (was n z);
      })
      s.runs s

  close_stands : (w : State) (t : ℕ) → w.open_group ≡ t → ImagesStand l w → ImagesStand l (close_state w t)
  close_stands w t is s = onward w (close_state w t) refl refl
      (λ img e stands. record {
        group = omega (arith, is);
        blocks = λ k. refl;
        arms = λ n b e here. (b, e, here);
        rebuild = λ p pass kind max. (p, pass, onward_same p kind);
        claimed = λ g c here. here;
        kept = λ g n c was z. was n z;
      })
      s.runs s

  upgrade_stands : (w : State) → ImagesStand l w → ImagesStand l (upgrade_state w)
  upgrade_stands w s = onward w (upgrade_state w) refl refl
      (λ img e stands. record {
        group = omega arith;
        blocks = λ k. refl;
        arms = λ n b e here. (b, e, here);
        rebuild = λ p pass kind max. (p, pass, onward_same p kind);
        claimed = λ g c here. here;
        kept = λ g n c was z. was n z;
      })
      s.runs s

  attach_stands : (w : State) (slot : ℕ) (n : ArmName) (last : ℕ) → ImagesStand l w → ImagesStand l (attach_state l w slot n last)
  attach_stands w slot n last s =
      let q = attached_core w.core slot n last in
      let r = rearranged_state l w last q in
      let all : ImagesStand l r = rearranged_stands w last q.arm q.order (λ img stands m b e here. set_gone w img.group n _ refl m b e here) s in
      replan_cases l (λ v. ImagesStand l v) r (has_moved l w.core q) w.core.pass (λ none. all)
      (λ p pass kind. onward r (record r { core = record r.core { pass = Some (lose_targets (has_moved l w.core q) 0 p) } }) refl refl
      (λ img is stands. pass_forward r img r.core.arm (Some (lose_targets (has_moved l w.core q) 0 p)) r.core.last r.serial r.loan r.present r.aside (λ m b e here. (b, e, here))
      (λ v e rebuild max. scrub v (lose_targets (has_moved l w.core q) 0 p) kind e rebuild) (λ g c here. here))
      (λ v e rebuild running. scrub v (lose_targets (has_moved l w.core q) 0 p) kind e rebuild) all)
      (λ p pass kind. plan_stands r Rebuild (targets_of l r.core Rebuild) all)
    where
      scrub : {A : Type 0} (v p' : Pass) → p'.kind ≡ Heal → Some p' ≡ Some v → v.kind ≡ Rebuild → A
      scrub v p' kind e rebuild = rebuild_heal v.kind rebuild (ap (λ (x : Pass). x.kind) (sym (some_injective p' v e)) ∙ kind)

  detach_stands : (w : State) (slot : ℕ) (n : ArmName) (a : Arm) (last : ℕ) → ImagesStand l w → ImagesStand l (detach_state l w slot n a last)
  detach_stands w slot n a last s =
      let q = detached_core w.core slot n a w.open_group in
      rearranged_stands w last q.arm q.order
      (λ img stands m b e here. set_gone w img.group n (record a { gone = Some (record { slot = slot; group = w.open_group }) }) (past w.open_group img.group stands.group) m b e here) s

  lend_stands : (w : State) (p : Pass) (n : Loan) (failed : List ℕ) → w.core.pass ≡ Some p → ImagesStand l w → ImagesStand l (lend_state w p n failed)
  lend_stands w p n failed pass s = onward w (lend_state w p n failed) refl refl
      (λ img is stands. goes_forward w img p _ (w.serial + 1) (Some n) w.present w.aside pass refl refl refl (omega arith) (λ m z. z) (λ g c here. here))
      (goes_runs w p _ pass refl refl refl s) s

  -- ---- landings
  over_stands : (w : State) (p : Pass) (more next : ℕ) → w.core.pass ≡ Some p → p.next ≤ next → ImagesStand l w → ImagesStand l (pass_over w p more next)
  over_stands w p more next pass later s = onward w (pass_over w p more next) refl refl
      (λ img is stands. goes_forward w img p _ w.serial None w.present w.aside pass refl refl refl later (λ m z. z) (λ g c here. here))
      (goes_runs w p _ pass refl refl refl s) s

  module _ (w : State) (p : Pass) (n : Loan) (h : Held) (failed : List ℕ) (pass : w.core.pass ≡ Some p) (loan : w.loan ≡ Some n) (found : w.core.held n.key ≡ Some h) (sound : Sound l w) (s : ImagesStand l w) where
    same_p : (sound.loan n loan).p ≡ p
    same_p = some_same w.core.pass (sound.loan n loan).p p (sound.loan n loan).pass pass

    stands_at : p.next ≤ n.stripe
    stands_at = subst (λ (x : Pass). x.next ≤ n.stripe) same_p (sound.loan n loan).from

    p_runs : p.running ≡ true
    p_runs = ap (λ (x : Pass). x.running) (sym same_p) ∙ (sound.loan n loan).running

    before_end : p.next ≤ h.first + h.stripes
    before_end =
        let t = subst (λ (x : Held). takes x n.stripe ≡ true) (some_same (w.core.held n.key) (sound.loan n loan).h h (sound.loan n loan).found found) (sound.loan n loan).taken in
        let at = stands_at in
        ends t at
      where
        ends : takes h n.stripe ≡ true → p.next ≤ n.stripe → p.next ≤ h.first + h.stripes
        ends t at = grind (arith, nat_tests)

    -- an image claims nothing of what a rebuild writes
    unclaimed : (img : Image) (g : Segment) → IsImage w img → p.kind ≡ Rebuild → ImageSound l img → claims l img.core g ≡ true → is_mended l w.core p n h g ≡ false
    unclaimed img g is kind image e = elim (bool_cases (is_mended l w.core p n h g)) [
      | inl t ↦ absurd (never t)
      | inr f ↦ f
    ]
      where
        stands : ImageStands l w img
        stands = s.each img is

        max : p.max ≤ img.group + 1
        max = of is
          where
            of : IsImage w img → p.max ≤ img.group + 1
            of (inl i) =
                let z = s.runs p pass kind p_runs in
                let a = ap (λ (x : Image). x.group) (sym i) ∙ sound.groups.image_is in
                omega (arith, z, a)
            of (inr i) =
                let z = s.runs p pass kind p_runs in
                let a = (sound.groups.closing_is img.group (sound.groups.sealed_is img i)).0 in
                omega (arith, z, a)

        own : IsOwnPass img p
        own = stands.rebuild p pass kind max

        parts : is_mended l w.core p n h g ≡ true → (h.first + g.row ≡ n.stripe) × (has_name p.targets g.arm ≡ true) × (key_eq n.key g.key ≡ true)
        parts t =
            let x = both_true (key_eq n.key g.key && (h.first + g.row == n.stripe) && has_name p.targets g.arm && is_on l w.core.order g h) (answers l w.core g.arm n.stripe) t in
            let y = four_true (key_eq n.key g.key) (h.first + g.row == n.stripe) (has_name p.targets g.arm) (is_on l w.core.order g h) x.0 in
            (is_equal (h.first + g.row) n.stripe y.1, y.2, y.0)

        never : is_mended l w.core p n h g ≡ true → ⊥
        never t =
            let c = from_claims l img.core g e in
            let z = sealed_held img.group (w.core.held g.key) c.h (sym (stands.blocks g.key) ∙ c.on.held) in
            let x = parts t in
            let same : z.h ≡ h = some_same (w.core.held g.key) z.h h z.found (subst (λ k. w.core.held k ≡ Some h) (key_true n.key g.key x.2) found) in
            let first : c.h.first ≡ h.first = ap (λ (y : Held). y.first) z.is ∙ ap (λ (y : Held). y.first) same in
            let logged = image.core.targets own.own g.arm c.a g.key c.h own.pass own.rebuild (own.targets g.arm x.1) c.on.arm c.on.held in
            elim c.why [
              | inl clean ↦ absurd_test (c.a.log c.h.birth) logged clean
              | inr y ↦
                  let has = from_passed img.core.pass g.arm c.h g.row y.1 in
                  let q : has.p ≡ own.own = some_same img.core.pass has.p own.own has.pass own.pass in
                  let next : c.h.first + g.row < own.own.next = subst (λ (v : Pass). c.h.first + g.row < v.next) q has.next in
                  past_it c.h.first next first x.0 own.next
            ]
          where
            past_it : (f : ℕ) → f + g.row < own.own.next → f ≡ h.first → h.first + g.row ≡ n.stripe → own.own.next ≤ p.next → ⊥
            past_it f next first at low = let b = stands_at in omega (arith, next, first, at, low, b)

    image_is_sound : (img : Image) → IsImage w img → ImageSound l img
    image_is_sound img (inl e) = subst (λ i. ImageSound l i) e sound.image
    image_is_sound img (inr e) = sound.sealed img e

    mend_stands : p.kind ≡ Rebuild → ImagesStand l (mend_state l w p n h failed)
    mend_stands kind = onward w (mend_state l w p n h failed) refl refl
        (λ img is stands. goes_forward w img p _ w.serial None (mend_state l w p n h failed).present (mend_state l w p n h failed).aside pass refl refl refl (let a = stands_at in omega (arith, a))
        (λ m e. (has_filter (λ x. not (misses_stripe l w.core n.stripe failed x)) p.targets m e).0)
        (λ g c here. kept g (unclaimed img g is kind (image_is_sound img is) c) here))
        (goes_runs w p _ pass refl refl refl s) s
      where
        kept : (g : Segment) → is_mended l w.core p n h g ≡ false → w.present g ≡ true → (if is_mended l w.core p n h g then not (fails l w.core failed g.arm n.stripe) else w.present g) ≡ true
        kept g out here = rw out here

    stripe_stands : p.kind ≡ Rebuild → ImagesStand l (land_stripe_state l w p n h failed)
    stripe_stands kind = by (nat_lt l.parity (unsourced l n))
      where
        by : (b : Bool) → ImagesStand l (if b then pass_over w p 1 (n.stripe + 1) else mend_state l w p n h failed)
        by true = over_stands w p 1 (n.stripe + 1) pass (let a = stands_at in omega (arith, a)) s
        by false = mend_stands kind

    block_stands : (patched : List Patched) (unreadable whole : Bool) → ImagesStand l (land_block_state l w p n h failed patched unreadable whole)
    block_stands patched true whole = over_stands w p 1 (h.first + h.stripes) pass before_end s
    block_stands patched false whole = onward w (heal_state l w p n h failed patched whole) refl refl
        (λ img is stands. goes_forward w img p _ w.serial None (heal_state l w p n h failed patched whole).present (heal_state l w p n h failed patched whole).aside pass refl refl refl before_end
        (λ m e. (has_filter (λ x. not (misses_block l w.core h failed x)) p.targets m e).0)
        (λ g c here. true_left (w.present g) (has_healed l w.core n h patched g) here))
        (goes_runs w p _ pass refl refl refl s) s

  -- ---- groups
  here_alone : (t : ℕ) (g : Option Gone) → g ≡ None → is_gone_by t g ≡ false
  here_alone t g e = subst (λ x. is_gone_by t x ≡ false) (sym e) refl

  pub sealed_here : (o : Option Arm) (a : Arm) → seal_arm o ≡ Some a → a.gone ≡ None
  sealed_here None a e = absurd (none_some None a refl e)
  sealed_here (Some b) a e = let z = kept_if (is_here (Some b)) b a e in subst (λ (x : Arm). x.gone ≡ None) z.1 (of b.gone z.0)
    where
      of : (g : Option Gone) → elim g as (λ g. Bool) [ None ↦ true | Some g ↦ false ] ≡ true → g ≡ None
      of None e = refl
      of (Some g) e = absurd (true≢false (sym e))

  put_block : (st : Stage) (c : ℕ) → is_block st ≡ true → is_put st c ≡ true
  put_block (Writing a b) c e = absurd (true≢false (sym e))
  put_block Live c e = refl
  put_block (Freed x) c e = refl

  passed_stage : (o : Option Pass) (n : ArmName) (h : Held) (st : Stage) (row : ℕ) → passed o n (record h { stage = st }) row ≡ true → passed o n h row ≡ true
  passed_stage None n h st row e = e
  passed_stage (Some p) n h st row e = e

  -- what an image of a state claims, the state claims
  image_claims : (t version : ℕ) (q : Core) (g : Segment) → IsClaimed l (image_of t version q).core g → IsClaimed l q g
  image_claims t version q g c =
      let z = sealed_held t (q.held g.key) c.h c.on.held in
      let put = put_block z.h.stage g.column z.block in
      record {
        h = z.h;
        a = c.a;
        on = record {
          held = z.found;
          arm = sealed_arm (q.arm g.arm) c.a c.on.arm;
          listed = subst (λ (x : Held). has_name (q.order (l.slot_of x.first g.column)) g.arm ≡ true) z.is c.on.listed;
          column = c.on.column;
          row = subst (λ (x : Held). g.row < x.stripes) z.is c.on.row;
          lies = subst (λ (x : Held). lies l q.order g.arm (x.first + g.row) g.leaf ≡ true) z.is c.on.lies;
        };
        put = put;
        why = elim c.why [
          | inl clean ↦ inl (subst (λ (x : Held). c.a.log x.birth ≡ false) z.is clean)
          | inr y ↦ inr (z.block, passed_stage q.pass g.arm z.h Live g.row (subst (λ (x : Held). passed q.pass g.arm x g.row ≡ true) z.is y.1))
        ];
      }

  lost_onward : (w : State) (t : ℕ) (failed : List ℕ) (wrote : Bool) (p' : Pass) → (sealed_core l w.core t failed wrote).pass ≡ Some p' → p'.kind ≡ Rebuild → (p : Pass) × (w.core.pass ≡ Some p) × Onward p p' × (p'.running ≡ p.running)
  lost_onward w t failed wrote p' e kind =
      let bad = lies_on l w.core (is_silent w.core failed) in
      let z = mapped_pass (lose_some bad) w.core.pass p' e in (
        z.0,
        z.1,
        subst (λ x. Onward z.0 x) (sym z.2) (record {
          rebuild = ap (λ (x : Pass). x.kind) (sym z.2) ∙ kind;
          number = refl;
          max = refl;
          next = omega arith;
          targets = λ n t. (has_filter (λ m. not (bad m)) z.0.targets n t).0;
        }),
        ap (λ (x : Pass). x.running) z.2,
      )

  seal_stands : (w : State) (t : ℕ) (failed : List ℕ) (wrote : Bool) → w.closing ≡ Some t → Sound l w → Sound l (seal_state l w t failed wrote) → ImagesStand l w → ImagesStand l (seal_state l w t failed wrote)
  seal_stands w t failed wrote closing sound new s = record {
    each = λ img is. of img is;
    runs = runs;
  }
    where
      q' : Core
      q' = sealed_core l w.core t failed wrote

      runs : (p : Pass) → (seal_state l w t failed wrote).core.pass ≡ Some p → p.kind ≡ Rebuild → p.running ≡ true → p.max ≤ w.committed + 1
      runs p e kind running =
          let z = lost_onward w t failed wrote p e kind in
          let m = s.runs z.0 z.1 z.2.rebuild (sym z.3 ∙ running) in
          let same = z.2.max in
          omega (arith, m, same)

      now : (g : Segment) → claims l (image_of t w.asked (sealed_core l w.core t failed wrote)).core g ≡ true → IsClaimed l (sealed_core l w.core t failed wrote) g
      now g c = image_claims t w.asked (sealed_core l w.core t failed wrote) g (from_claims l (image_of t w.asked (sealed_core l w.core t failed wrote)).core g c)

      sealed_stands : ImageStands l (seal_state l w t failed wrote) (image_of t w.asked (sealed_core l w.core t failed wrote))
      sealed_stands = record {
        group = (let a = (sound.groups.closing_is t closing).1 in omega (arith, a));
        blocks = λ k. refl;
        arms = λ n a e. (a, sealed_arm ((sealed_core l w.core t failed wrote).arm n) a e, here_alone t a.gone (sealed_here ((sealed_core l w.core t failed wrote).arm n) a e));
        here = λ n a e. sealed_here ((sealed_core l w.core t failed wrote).arm n) a e;
        rebuild = λ p e kind max. record { own = p; pass = e; rebuild = kind; number = refl; max = refl; next = omega arith; targets = λ n z. z };
        runs = λ p e kind running. (let a = runs p e kind running in let b = (sound.groups.closing_is t closing).0 in omega (arith, a, b));
        claimed = λ g c. new.covered g (now g c);
        kept = λ g n c e. let z = now g c in inr (at_place l (sealed_core l w.core t failed wrote) g z.h z.a z.on);
      }

      of : (img : Image) → IsImage (seal_state l w t failed wrote) img → ImageStands l (seal_state l w t failed wrote) img
      of img (inl e) = forward w (seal_state l w t failed wrote) img (s.each img (inl e)) (record {
        group = omega arith;
        blocks = λ k. refl;
        arms = mapped (λ n. log_if (wrote && lies_on l w.core (is_silent w.core failed) n) t) w.core.arm img.group (λ n a. refl);
        rebuild = λ p e kind max. let z = lost_onward w t failed wrote p e kind in (z.0, z.1, z.2);
        claimed = λ g c here. here;
        kept = λ g n c was e. was n e;
      })
      of img (inr e) = subst (λ i. ImageStands l (seal_state l w t failed wrote) i) (some_injective (image_of t w.asked (sealed_core l w.core t failed wrote)) img e) sealed_stands

  commit_blocks : (t : ℕ) (o : Option Held) → seal_held t (if is_freed_block t o then None else o) ≡ seal_held t o
  commit_blocks t None = refl
  commit_blocks t (Some h) = by (is_freed_by t h.stage) refl
    where
      none : (a b c : Bool) → c ≡ true → None ≡ keep_if (a && b && not c) (record h { stage = Live })
      none true true c e = rw e refl
      none true false c e = refl
      none false b c e = refl

      by : (b : Bool) → is_freed_by t h.stage ≡ b → seal_held t (if b then None else Some h) ≡ seal_held t (Some h)
      by true e = none (is_block h.stage) (nat_le h.birth t) (is_freed_by t h.stage) e
      by false e = refl

  commit_arm : (t : ℕ) (o : Option Arm) (b : Arm) → o ≡ Some b → is_gone_by t b.gone ≡ false → (if is_gone_arm t o then None else o) ≡ Some b
  commit_arm t o b e here = rw e (of (is_gone_by t b.gone) here)
    where
      of : (x : Bool) → x ≡ false → (if x then None else Some b) ≡ Some b
      of true e = absurd (true≢false e)
      of false e = refl

  commit_stands : (w : State) (t : ℕ) (img : Image) → w.closing ≡ Some t → w.sealed ≡ Some img → Sound l w → ImagesStand l w → ImagesStand l (commit_state l w t img)
  commit_stands w t img closing sealed sound s = record {
    each = λ i is. of i is;
    runs = λ p e kind running. (let a = s.runs p e kind running in let b = (sound.groups.closing_is t closing).0 in omega (arith, a, b));
  }
    where
      group : img.group ≡ t
      group = some_injective img.group t (sym (sound.groups.sealed_is img sealed) ∙ closing)

      stands : ImageStands l w img
      stands = s.each img (inr sealed)

      not_freed : (g : Segment) → claims l img.core g ≡ true → is_freed_block t (w.core.held g.key) ≡ false
      not_freed g e =
          let c = from_claims l img.core g e in
          let z = sealed_held img.group (w.core.held g.key) c.h (sym (stands.blocks g.key) ∙ c.on.held) in
          subst (λ o. is_freed_block t o ≡ false) (sym z.found) (subst (λ x. is_freed_by x z.h.stage ≡ false) group z.stays)

      unless_later : (g : Segment) (o : Option ℕ) → ((n : ℕ) → o ≡ Some n → (img.group < n) ⊎ (is_at l w.core g ≡ true)) → (not (is_kept_by t o) || is_at l w.core g) ≡ true
      unless_later g None f = refl
      unless_later g (Some n) f = elim (f n refl) [
        | inl less ↦ true_left (not (nat_le n t)) (is_at l w.core g) (not_false (nat_le n t) (past n t (subst (λ x. x < n) group less)))
        | inr place ↦ true_right (not (nat_le n t)) (is_at l w.core g) place
      ]

      it_stays : (g : Segment) → claims l img.core g ≡ true → stays l t w g ≡ true
      it_stays g e =
          true_both (not (is_freed_block t (w.core.held g.key))) (not (is_kept_by t (w.kept g)) || is_at l w.core g)
          (not_false (is_freed_block t (w.core.held g.key)) (not_freed g e)) (unless_later g (w.kept g) (λ n is. stands.kept g n e is))

      of : (i : Image) → IsImage (commit_state l w t img) i → ImageStands l (commit_state l w t img) i
      of i (inl e) = subst (λ x. ImageStands l (commit_state l w t img) x) e (forward w (commit_state l w t img) img stands (record {
        group = omega arith;
        blocks = λ k. subst (λ x. seal_held x (if is_freed_block t (w.core.held k) then None else w.core.held k) ≡ seal_held x (w.core.held k)) (sym group) (commit_blocks t (w.core.held k));
        arms = λ n b e here. (b, commit_arm t (w.core.arm n) b e (subst (λ x. is_gone_by x b.gone ≡ false) group here), here);
        rebuild = λ p pass kind max. (p, pass, onward_same p kind);
        claimed = λ g c here. true_both (w.present g) (stays l t w g) here (it_stays g c);
        kept = λ g n c was e. still_at (λ place. rw (not_freed g c) place) (was n (kept_some (is_freed_block t (w.core.held g.key) || is_kept_by t (w.kept g)) (w.kept g) n e).1);
      }))
      of i (inr e) = absurd (none_some None i refl e)

  -- ---- opening again
  sealed_again : (t : ℕ) (o : Option Held) → seal_held t (seal_held t o) ≡ seal_held t o
  sealed_again t None = refl
  sealed_again t (Some h) = by (is_block h.stage) (nat_le h.birth t) (is_freed_by t h.stage) refl
    where
      yes_again : nat_le h.birth t ≡ true → seal_held t (Some (record h { stage = Live })) ≡ Some (record h { stage = Live })
      yes_again e = rw e refl

      by : (a b c : Bool) → nat_le h.birth t ≡ b → seal_held t (keep_if (a && b && not c) (record h { stage = Live })) ≡ keep_if (a && b && not c) (record h { stage = Live })
      by true true false e = yes_again e
      by true true true e = refl
      by true false c e = refl
      by false b c e = refl

  reopen_stands : (w : State) (img : Image) (doubtful : List Segment) → IsImage w img → ImagesStand l w → ImagesStand l (reopen_state l w img doubtful)
  reopen_stands w img doubtful is s = record {
    each = λ i e. of i e;
    runs = λ p e kind running. stands.runs p e kind running;
  }
    where
      stands : ImageStands l w img
      stands = s.each img is

      of : (i : Image) → IsImage (reopen_state l w img doubtful) i → ImageStands l (reopen_state l w img doubtful) i
      of i (inl e) = subst (λ x. ImageStands l (reopen_state l w img doubtful) x) e (record {
        group = omega arith;
        blocks = λ k. stands.blocks k ∙ sym (ap (seal_held img.group) (stands.blocks k) ∙ sealed_again img.group (w.core.held k));
        arms = λ n a e. (cut_above img.group a, ap (map_arm (cut_above img.group)) e, here_alone img.group a.gone (stands.here n a e));
        here = stands.here;
        rebuild = λ p e kind max. record { own = p; pass = e; rebuild = kind; number = refl; max = refl; next = omega arith; targets = λ n z. z };
        runs = stands.runs;
        claimed = λ g c. c;
        kept = λ g n c e. absurd (none_some None n refl e);
      })
      of i (inr e) = absurd (none_some None i refl e)

  -- ---- every event
  finish_stands : (w : State) (k : Key) (h : Held) (m : ℕ) → w.core.held k ≡ Some h → is_block h.stage ≡ false → Sound l w → ImagesStand l w → ImagesStand l (finish_state l w k h m)
  finish_stands w k h m found ticket sound s = by (nat_lt l.parity m)
    where
      by : (b : Bool) → ImagesStand l (if b then gone_state w k else live_state w k h)
      by true = gone_stands w k h found ticket s
      by false = live_stands w k h found ticket sound s

  pub is_image : (w : State) (img : Image) (t : ℕ) → ((w.image ≡ img) × (w.committed ≡ t)) ⊎ ((w.sealed ≡ Some img) × (w.closing ≡ Some t)) → IsImage w img
  is_image w img t (inl z) = inl z.0
  is_image w img t (inr z) = inr z.0

  pub step_stands : (w : State) (e : Event) (new : State) → Step l w e new → AreListed w.core → Sound l w → ImagesStand l w → ImagesStand l new
  step_stands w (Begin key first stripes len birth digest) new x listed sound s = subst (λ v. ImagesStand l v) (sym x.made) (begin_stands w key _ x.unused refl s)
  step_stands w (Put key landed failed) new x listed sound s = subst (λ v. ImagesStand l v) (sym x.made) (put_stands w key landed x.h x.c x.m x.found x.stage s)
  step_stands w (Finish key) new x listed sound s = subst (λ v. ImagesStand l v) (sym x.made) (finish_stands w key x.h x.m x.found (ap is_block x.stage) sound s)
  step_stands w (Abort key) new x listed sound s = subst (λ v. ImagesStand l v) (sym x.made) (gone_stands w key x.h x.found x.ticket s)
  step_stands w (Free key group) new x listed sound s = subst (λ v. ImagesStand l v) (sym x.made) (free_stands w key x.h group x.found x.live x.due.from s)
  step_stands w (Fetch key failed) new x listed sound s = subst (λ v. ImagesStand l v) (sym x.made) s
  step_stands w (Damage leaf sector failed) new x listed sound s = subst (λ v. ImagesStand l v) (sym x.made) s
  step_stands w (Offline leaf) new x listed sound s = subst (λ v. ImagesStand l v) (sym x.made) (switch_stands w (Leaf leaf) x.a true x.there.found s)
  step_stands w (Online leaf) new x listed sound s = subst (λ v. ImagesStand l v) (sym x.made) (switch_stands w (Leaf leaf) x.a false x.there.found s)
  step_stands w (Attach slot arm) new x listed sound s = subst (λ v. ImagesStand l v) (sym x.made) (attach_stands w slot arm x.last s)
  step_stands w (Detach slot arm) new x listed sound s = subst (λ v. ImagesStand l v) (sym x.made) (detach_stands w slot arm x.a x.last s)
  step_stands w Upgrade new x listed sound s = subst (λ v. ImagesStand l v) (sym x.made) (upgrade_stands w s)
  step_stands w (Close group) new x listed sound s = subst (λ v. ImagesStand l v) (sym x.made) (close_stands w group x.open_group s)
  step_stands w (Seal group failed) new x listed sound s =
      subst (λ v. ImagesStand l v) (sym x.made)
      (seal_stands w group failed.items x.wrote x.closing sound (subst (λ v. Sound l v) x.made (step_sound l lay w (Seal group failed) new x listed sound)) s)
  step_stands w (Commit group) new x listed sound s = subst (λ v. ImagesStand l v) (sym x.made) (commit_stands w group x.image x.closing x.sealed sound s)
  step_stands w (Plan kind) new x listed sound s = subst (λ v. ImagesStand l v) (sym x.made) (plan_stands w kind (targets_of l w.core kind) s)
  step_stands w Ready new x listed sound s = subst (λ v. ImagesStand l v) (sym x.made) (ready_stands w x.p x.pass x.committed s)
  step_stands w (Lend failed) new x listed sound s = subst (λ v. ImagesStand l v) (sym x.made) (lend_stands w x.p x.n failed.items x.pass s)
  step_stands w (LandStripe pass serial failed) new x listed sound s =
      subst (λ v. ImagesStand l v) (sym x.made) (stripe_stands w x.p x.n x.h failed.items x.counts.pass_is x.counts.loan x.counts.found sound s x.rebuild)
  step_stands w (LandBlock pass serial failed patched unreadable) new x listed sound s =
      subst (λ v. ImagesStand l v) (sym x.made) (block_stands w x.p x.n x.h failed.items x.counts.pass_is x.counts.loan x.counts.found sound s patched.items unreadable x.whole)
  step_stands w (Done failed) new x listed sound s = subst (λ v. ImagesStand l v) (sym x.made) (done_stands w (ended_pass l w.core x.p failed.items) s)
  step_stands w Cancel new x listed sound s = subst (λ v. ImagesStand l v) (sym x.made) (cancel_stands w s)
  step_stands w (Reopen group doubtful) new x listed sound s = subst (λ v. ImagesStand l v) (sym x.made) (reopen_stands w x.image doubtful.items (is_image w x.image group x.one) s)

  pub run_stands : (w : State) (es : List Event) (new : State) → Run l w es new → Listed w → Sound l w → ImagesStand l w → ImagesStand l new
  run_stands w [] new is listed sound s = subst (λ v. ImagesStand l v) (sym is) s
  run_stands w (e ∷ es) new r listed sound s =
      run_stands r.0 es new r.2 (step_listed l lay w e r.0 r.1 listed) (step_sound l lay w e r.0 r.1 listed.core sound) (step_stands w e r.0 r.1 listed.core sound s)

  pub created_here : (n : ArmName) (a : Arm) → created_arm l n ≡ Some a → a.gone ≡ None
  created_here (Leaf m) a e = subst (λ (x : Arm). x.gone ≡ None) (kept_if (nat_lt m l.slots) new_arm a e).1 refl
  created_here (Spare t) a e = absurd (none_some None a refl e)

  pub created_stands : (version : ℕ) → ImagesStand l (created l version)
  created_stands version = record {
    each = λ img is. of img is;
    runs = λ p e. absurd (none_some None p refl e);
  }
    where
      of : (img : Image) → IsImage (created l version) img → ImageStands l (created l version) img
      of img (inl e) = subst (λ i. ImageStands l (created l version) i) e (record {
        group = omega arith;
        blocks = λ k. refl;
        arms = λ n a e. (a, e, here_alone 1 a.gone (created_here n a e));
        here = λ n a e. created_here n a e;
        rebuild = λ p e. absurd (none_some None p refl e);
        runs = λ p e. absurd (none_some None p refl e);
        claimed = λ g c. let z = from_claims l (created_core l) g c in absurd (none_some None z.h refl z.on.held);
        kept = λ g n c e. absurd (none_some None n refl e);
      })
      of img (inr e) = absurd (none_some None img refl e)

pub every_image : (l : Layout) (w : State) → IsLayout l → IsReached l w → ImagesStand l w
every_image l w lay r = run_stands l lay (created l r.version) r.events w r.run (created_all l lay r.version) (created_sound l lay r.version) (created_stands l lay r.version)
