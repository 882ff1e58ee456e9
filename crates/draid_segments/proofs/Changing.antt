-- An arm joins a slot or leaves it, and spares come to lie elsewhere: the rack rests, and what has lost its place stays where it was.
use Rattle.std.proofs.Common.{◌≡◌, ◌+◌, ◌<◌, ◌≤◌, ◌||◌, not, ℕ, Bool, true, false, nat_lt, List, [], ◌∷◌, ◌++◌, Some, None, is_some, refl, sym, ◌∙◌, ap, subst, inl, inr, arith}
use Rattle.draid_names.specs.declared.pass_kind.PassKind.TheVariants.{Rebuild}
use Rattle.draid_machine.specs.declared.names.ArmName.{ArmName}
use Rattle.draid_machine.specs.declared.names.Held.{Held}
use Rattle.draid_machine.specs.declared.names.Segment.{Segment}
use Rattle.draid_machine.specs.Names.{has_name, name_eq, up_to}
use Rattle.draid_machine.specs.State.{Layout, IsLayout, Arm, Core, Pass, State}
use Rattle.draid_machine.specs.Arms.{has_column, has_moved, lies, targets_of}
use Rattle.draid_machine.specs.Claims.{IsOn, is_at}
use Rattle.draid_machine.specs.After.{aside_left, attach_state, attached_core, detach_state, detached_core, each_arm, fill_if, kept_after, lose_targets, plan_state, planned_pass, rearranged_state, renew_if}
use Rattle.draid_machine.specs.Images.{ImagesStand, Owned}
use Rattle.draid_machine.specs.Sound.{Sound}
use Rattle.draid_machine.specs.Step.{DetachStep, IsLast}
use Rattle.draid_machine.proofs.Small.{bool_cases, name_true, some_injective, none_some, either_true, true_left, true_right, true_four, arm_cases, mapped_arm, has_append, has_filter, any_at, below, not_true, no_errors, absurd_test}
use Rattle.draid_machine.proofs.Calm.{detach_listed, order_cases}
use Rattle.draid_machine.proofs.Follows.{from_passed}
use Rattle.draid_machine.proofs.Moves.{replan_cases, still_lies}
use Rattle.draid_machine.proofs.Passes.{filled}
use Rattle.draid_machine.proofs.Staying.{at_of}
use Rattle.draid_segments.specs.Segments.{HasScrubbed, IsLasting, group_in, image_group}
use Rattle.draid_segments.proofs.Backing.{Calm}
use Rattle.draid_segments.proofs.Leaving.{not_left}
use Rattle.draid_segments.proofs.Resting.{no_scrub, scrubbed_before}

-- an arm was one before, in no slot but those where it is now, and hasn't moved
pub record Stayed (l : Layout) (w : State) (q : Core) (n : ArmName) : Type 0 where
  pub still : has_moved l w.core q n ≡ false
  pub a : Arm
  pub found : w.core.arm n ≡ Some a
  pub listed : (c : ℕ) → has_name (q.order c) n ≡ true → has_name (w.core.order c) n ≡ true

module _ (l : Layout) (lay : IsLayout l) (w : State) (sound : Sound l w) (images : ImagesStand l w) (owned : Owned l w) where
  module _ (q : Core) (q_held : q.held ≡ w.core.held) where
    -- what is present has its place, or is kept
    stays_aside : (s : Segment) → w.present s ≡ true → (is_at l q s || is_some (kept_after l w q s)) ≡ true
    stays_aside s here = by (is_at l q s) (is_at l w.core s) refl refl
      where
        loses : is_at l w.core s ≡ true → is_at l q s ≡ false → is_some (kept_after l w q s) ≡ true
        loses before now = rw (here, before, now) refl

        keeps : (g : ℕ) → is_at l w.core s ≡ false → w.kept s ≡ Some g → is_some (kept_after l w q s) ≡ true
        keeps g before kept = rw (here, before, kept) refl

        by : (now before : Bool) → is_at l q s ≡ now → is_at l w.core s ≡ before → (is_at l q s || is_some (kept_after l w q s)) ≡ true
        by true before is was = true_left (is_at l q s) (is_some (kept_after l w q s)) is
        by false true is was = true_right (is_at l q s) (is_some (kept_after l w q s)) (loses was is)
        by false false is was = elim (owned.present s here).place [
          | inl place ↦ absurd_test (is_at l w.core s) place was
          | inr k ↦ true_right (is_at l q s) (is_some (kept_after l w q s)) (keeps k.group was k.kept)
        ]

    module _ (new : State) (held : new.core.held ≡ w.core.held) (order : new.core.order ≡ q.order) (present : new.present ≡ w.present) (aside : new.aside ≡ aside_left l w q)
        (image : new.image ≡ w.image) (sealed : new.sealed ≡ w.sealed) (committed : new.committed ≡ w.committed)
        (clean : (s : Segment) (h : Held) (a : Arm) → w.core.held s.key ≡ Some h → new.core.arm s.arm ≡ Some a → a.log h.birth ≡ false → (k : Stayed l w q s.arm) × (k.a.log h.birth ≡ false))
        (scrubs : (s : Segment) (h : Held) (a : Arm) → new.core.arm s.arm ≡ Some a → HasScrubbed new.core.pass s.arm h s.row → Stayed l w q s.arm × HasScrubbed w.core.pass s.arm h s.row) where
      sure_before : (s : Segment) → w.present s ≡ true → new.aside s ≡ false → w.aside s ≡ false
      sure_before s here e = not_left (w.aside s) (is_at l q s || is_some (kept_after l w q s)) (stays_aside s here) (ap (λ f. f s) (sym aside) ∙ e)

      module _ (s : Segment) (h : Held) (is : IsLasting l (image_group w) new.core s h) where
        there : w.core.held s.key ≡ Some h
        there = ap (λ f. f s.key) (sym held) ∙ is.on.held

        listed : has_name (q.order (l.slot_of h.first s.column)) s.arm ≡ true
        listed = subst (λ f. has_name (f (l.slot_of h.first s.column)) s.arm ≡ true) order is.on.listed

        lies_now : lies l q.order s.arm (h.first + s.row) s.leaf ≡ true
        lies_now = subst (λ f. lies l f s.arm (h.first + s.row) s.leaf ≡ true) order is.on.lies

        at_now : is_at l q s ≡ true
        at_now = at_of l q s h (ap (λ f. f s.key) q_held ∙ there)
            (true_four (has_name (q.order (l.slot_of h.first s.column)) s.arm) (nat_lt s.column l.columns) (nat_lt s.row h.stripes) (lies l q.order s.arm (h.first + s.row) s.leaf)
            listed (below s.column l.columns is.on.column) (below s.row h.stripes is.on.row) lies_now)

        on_before : (k : Stayed l w q s.arm) → IsOn l w.core s h k.a
        on_before k =
            let band = sound.core.runs s.key h s.row there is.on.row in
            let inside : h.first + s.row < l.stripes = (let run = sound.core.inside s.key h there in let row = is.on.row in omega (arith, run, row)) in
            let column : has_column l q s.arm (h.first + s.row) ≡ true =
            any_at l.columns (λ d. has_name (q.order (l.slot_of (h.first + s.row) d)) s.arm) s.column is.on.column
            (subst (λ slot. has_name (q.order slot) s.arm ≡ true) (sym (lay.steady (h.first + s.row) h.first s.column band)) listed) in
            record {
              held = there;
              arm = k.found;
              listed = k.listed (l.slot_of h.first s.column) listed;
              column = is.on.column;
              row = is.on.row;
              lies = still_lies l w.core q s.arm (h.first + s.row) s.leaf k.still inside column lies_now;
            }

        before : IsLasting l (image_group w) w.core s h
        before = elim is.why [
          | inl e ↦ let z = clean s h is.a there is.on.arm e in
              record { a = z.0.a; on = on_before z.0; block = is.block; birth = is.birth; stays = is.stays; why = inl z.1 }
          | inr y ↦ let z = scrubs s h is.a is.on.arm y in
              record { a = z.0.a; on = on_before z.0; block = is.block; birth = is.birth; stays = is.stays; why = inr z.1 }
        ]

      pub changed_calm : Calm l w new
      changed_calm = record {
        sure = λ s h is. let here = ap (λ f. f s) (sym present) ∙ is.present in
            (h, record { held = ap (λ f. f s.key) (sym held) ∙ is.held; present = here; sure = sure_before s here is.sure }, refl);
        images = λ img is. elim is [ inl e ↦ inl (sym image ∙ e) | inr e ↦ inr (sym sealed ∙ e) ];
        claimed = λ img s h is e claim sure. sure_before s ((images.each img is).claimed s claim) sure;
        group = ap (λ c. group_in c new.sealed) committed ∙ ap (λ o. group_in w.committed o) sealed;
        last = λ s h is sure. (
          h,
          before s h is,
          not_left (w.aside s) (is_at l q s || is_some (kept_after l w q s)) (true_left (is_at l q s) (is_some (kept_after l w q s)) (at_now s h is)) (ap (λ f. f s) (sym aside) ∙ sure),
          refl,
        );
      }

  -- what has moved has each group of a birth in its log
  clean_cases : (moved : Bool) (last g : ℕ) (a : Arm) → up_to last g ≡ true → (renew_if moved last a).log g ≡ false → (moved ≡ false) × (a.log g ≡ false)
  clean_cases true last g a full e = absurd_test (up_to last g) full e
  clean_cases false last g a full e = (refl, e)

  full : (last : ℕ) → IsLast w last → (s : Segment) (h : Held) → w.core.held s.key ≡ Some h → up_to last h.birth ≡ true
  full last is s h held = filled last h.birth (sound.core.some s.key h held) (is.births s.key h held)

  -- ---- Detach
  pub detach_calm : (slot : ℕ) (n : ArmName) (new : State) (p : DetachStep l w slot n new) → Calm l w (detach_state l w slot n p.a p.last)
  detach_calm slot n new p = changed_calm q refl (detach_state l w slot n p.a p.last) refl refl refl refl refl refl refl clean (λ s h a e y. absurd (none_some w.core.pass y.p p.idle y.pass_is))
    where
      q : Core
      q = detached_core w.core slot n p.a w.open_group

      gone : Arm
      gone = record p.a { gone = Some (record { slot = slot; group = w.open_group }) }

      clean : (s : Segment) (h : Held) (a : Arm) → w.core.held s.key ≡ Some h → each_arm (λ m. renew_if (has_moved l w.core q m) p.last) q.arm s.arm ≡ Some a → a.log h.birth ≡ false
          → (k : Stayed l w q s.arm) × (k.a.log h.birth ≡ false)
      clean s h a held e out =
          let z = mapped_arm (renew_if (has_moved l w.core q s.arm) p.last) (q.arm s.arm) a e in
          let v = clean_cases (has_moved l w.core q s.arm) p.last h.birth z.0 (full p.last p.last_is s h held) (subst (λ (k : Arm). k.log h.birth ≡ false) z.2 out) in
          elim (arm_cases w.core.arm n s.arm (Some gone) z.0 z.1) [
            | inl k ↦ (
              record { still = v.0; a = p.a; found = subst (λ m. w.core.arm m ≡ Some p.a) k.0 p.found; listed = λ c y. detach_listed l lay w.core slot c n s.arm y },
              subst (λ (x : Arm). x.log h.birth ≡ false) (sym (some_injective gone z.0 k.1)) v.1,
            )
            | inr k ↦ (record { still = v.0; a = z.0; found = k.1; listed = λ c y. detach_listed l lay w.core slot c n s.arm y }, v.1)
          ]

  -- ---- Attach
  module _ (slot : ℕ) (n : ArmName) (last : ℕ) (unused : w.core.arm n ≡ None) (is_last : IsLast w last) where
    abbrev joined : Core
    joined = attached_core w.core slot n last

    abbrev fresh : Arm
    fresh = record { offline = false; fresh = true; log = up_to last; gone = None }

    abbrev moved : ArmName → Bool
    moved = has_moved l w.core joined

    listed_before : (m : ArmName) → name_eq n m ≡ false → (c : ℕ) → has_name (joined.order c) m ≡ true → has_name (w.core.order c) m ≡ true
    listed_before m other c e = elim (order_cases l lay w.core.order slot c (w.core.order slot ++ n ∷ []) m e) [
      | inl z ↦ elim (either_true (has_name (w.core.order slot) m) (has_name (n ∷ []) m) (sym (has_append (w.core.order slot) (n ∷ []) m) ∙ z.1)) [
        | inl was ↦ subst (λ d. has_name (w.core.order d) m ≡ true) z.0 was
        | inr it ↦ absurd_test (has_name (n ∷ []) m) it (rw other refl)
      ]
      | inr z ↦ z
    ]

    stayed : (m : ArmName) (a : Arm) → moved m ≡ false → joined.arm m ≡ Some a → (g : ℕ) → up_to last g ≡ true → a.log g ≡ false → (k : Stayed l w joined m) × (k.a.log g ≡ false)
    stayed m a still e g full out = elim (arm_cases w.core.arm n m (Some fresh) a e) [
      | inl z ↦ absurd_test (a.log g) (subst (λ (x : Arm). x.log g ≡ true) (some_injective fresh a z.1) full) out
      | inr z ↦ (record { still = still; a = a; found = z.1; listed = listed_before m z.0 }, out)
    ]

    clean : (s : Segment) (h : Held) (a : Arm) → w.core.held s.key ≡ Some h → each_arm (λ m. renew_if (moved m) last) joined.arm s.arm ≡ Some a → a.log h.birth ≡ false
        → (k : Stayed l w joined s.arm) × (k.a.log h.birth ≡ false)
    clean s h a held e out =
        let z = mapped_arm (renew_if (moved s.arm) last) (joined.arm s.arm) a e in
        let all = full last is_last s h held in
        let v = clean_cases (moved s.arm) last h.birth z.0 all (subst (λ (k : Arm). k.log h.birth ≡ false) z.2 out) in
        stayed s.arm z.0 v.0 z.1 h.birth all v.1

    -- a scrub's target is an arm of before
    target : (p : Pass) (m : ArmName) → w.core.pass ≡ Some p → has_name p.targets m ≡ true → (a : Arm) × (w.core.arm m ≡ Some a)
    target p m pass is = let c = owned.listed.targets p m pass is in let z = owned.listed.data_of c.0 m c.1 in (z.0, z.1)

    scrubs : (p : Pass) → w.core.pass ≡ Some p → (s : Segment) (h : Held) → HasScrubbed (Some (lose_targets moved 0 p)) s.arm h s.row → Stayed l w joined s.arm × HasScrubbed w.core.pass s.arm h s.row
    scrubs p pass s h y =
        let v = from_passed (Some y.p) s.arm h s.row y.by in
        let is : v.p ≡ lose_targets moved 0 p = sym (some_injective y.p v.p v.pass) ∙ sym (some_injective (lose_targets moved 0 p) y.p y.pass_is) in
        let left = has_filter (λ m. not (moved m)) p.targets s.arm (subst (λ (x : Pass). has_name x.targets s.arm ≡ true) is v.target) in
        let it = target p s.arm pass left.0 in
        let other : name_eq n s.arm ≡ false = differs s.arm it.0 it.1 in (
          record { still = not_true (moved s.arm) left.1; a = it.0; found = it.1; listed = listed_before s.arm other },
          scrubbed_before w.core.pass p (lose_targets moved 0 p) s.arm h s.row pass
              (record { kind = refl; max = refl; next = refl; running = refl; errors = λ e. no_errors p.errors 0 e; targets = λ m e. (has_filter (λ k. not (moved k)) p.targets m e).0 }) y,
        )
      where
        differs : (m : ArmName) (a : Arm) → w.core.arm m ≡ Some a → name_eq n m ≡ false
        differs m a found = elim (bool_cases (name_eq n m)) [
          | inr out ↦ out
          | inl t ↦ absurd (none_some (w.core.arm m) a (subst (λ k. w.core.arm k ≡ None) (name_true n m t) unused) found)
        ]

    not_filled : (b : Bool) (max g : ℕ) (a : Arm) → 1 ≤ g → g ≤ max → (fill_if b max a).log g ≡ false → a.log g ≡ false
    not_filled true max g a some less e = absurd_test (up_to max g) (filled max g some less) e
    not_filled false max g a some less e = e

    pub attach_calm : Calm l w (attach_state l w slot n last)
    attach_calm = replan_cases l (λ v. Calm l w v) (rearranged_state l w last joined) moved w.core.pass
        (λ none. changed_calm joined refl (rearranged_state l w last joined) refl refl refl refl refl refl refl clean (λ s h a e y. absurd (none_some w.core.pass y.p none y.pass_is)))
        (λ p pass kind. changed_calm joined refl (scrubbed p) refl refl refl refl refl refl refl clean (λ s h a e y. scrubs p pass s h y))
        (λ p pass kind. changed_calm joined refl planned refl refl refl refl refl refl refl filled_clean (λ s h a e y. no_scrub planned.core.pass s.arm h s.row rebuild y))
      where
        scrubbed : Pass → State
        scrubbed p = record (rearranged_state l w last joined) { core = record (rearranged_state l w last joined).core { pass = Some (lose_targets moved 0 p) } }

        targets : List ArmName
        targets = targets_of l (rearranged_state l w last joined).core Rebuild

        planned : State
        planned = plan_state (rearranged_state l w last joined) Rebuild targets

        rebuild : (p : Pass) → planned.core.pass ≡ Some p → p.kind ≡ Rebuild
        rebuild p e = ap (λ (q : Pass). q.kind) (sym (some_injective (planned_pass (rearranged_state l w last joined) Rebuild targets) p e))

        filled_clean : (s : Segment) (h : Held) (a : Arm) → w.core.held s.key ≡ Some h → planned.core.arm s.arm ≡ Some a → a.log h.birth ≡ false → (k : Stayed l w joined s.arm) × (k.a.log h.birth ≡ false)
        filled_clean s h a held e out =
            let z = mapped_arm (fill_if (has_name targets s.arm) (w.open_group + 1)) (each_arm (λ m. renew_if (moved m) last) joined.arm s.arm) a e in
            clean s h z.0 held z.1 (not_filled (has_name targets s.arm) (w.open_group + 1) h.birth z.0 (sound.core.some s.key h held) (sound.core.births s.key h held)
            (subst (λ (k : Arm). k.log h.birth ≡ false) z.2 out))
