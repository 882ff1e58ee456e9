-- A group is sealed: what its image claims was flushed, or was firm before.
use Rattle.std.proofs.Common.{◌≡◌, ◌==◌, ◌+◌, ◌<◌, ◌≤◌, ◌≢◌, ◌⊎◌, ◌&&◌, ◌||◌, not, ℕ, Bool, true, false, Option, Some, None, IsSome, refl, sym, ◌∙◌, ap, subst, inl, inr, arith}
use Rattle.std.proofs.lemmas.Bool.{true≢false}
use Rattle.std.proofs.lemmas.Bool.Decides.{nat_tests}
use Rattle.std.specs.declared.vec.Vec.{Vec}
use Rattle.std.specs.declared.alloc.Global.{Global}
use Rattle.draid_machine.specs.declared.names.ArmName.{ArmName}
use Rattle.draid_machine.specs.declared.names.ArmName.TheVariants.{Leaf, Spare}
use Rattle.draid_machine.specs.declared.names.Stage.{Stage}
use Rattle.draid_machine.specs.declared.names.Stage.TheVariants.{Writing, Live, Freed}
use Rattle.draid_machine.specs.declared.names.Held.{Held}
use Rattle.draid_machine.specs.declared.names.Segment.{Segment}
use Rattle.draid_machine.specs.declared.event.Event.TheVariants.{Seal}
use Rattle.draid_machine.specs.Names.{has_name, is_block, is_freed_by}
use Rattle.draid_machine.specs.State.{Layout, IsLayout, Arm, Pass, Core, Image, State}
use Rattle.draid_machine.specs.Arms.{has_column, is_silent, leaf_at, lies, lies_on, passes}
use Rattle.draid_machine.specs.Claims.{IsOn, passed}
use Rattle.draid_machine.specs.After.{image_of, log_if, lose_some, map_pass, seal_state, sealed_core}
use Rattle.draid_machine.specs.Created.{IsReached}
use Rattle.draid_machine.specs.Images.{ImageStands}
use Rattle.draid_machine.specs.Sound.{IsClaimed, Sound}
use Rattle.draid_machine.specs.Step.{SealStep}
use Rattle.draid_machine.proofs.Small.{some_injective, some_same, bool_cases, absurd_test, true_both, any_at, is_equal, equal, mapped_arm, has_filter, not_true}
use Rattle.draid_machine.proofs.Follows.{from_passed}
use Rattle.draid_machine.proofs.Rows.{reached_sound}
use Rattle.draid_machine.proofs.Seals.{IsSealed, from_claims, sealed_arm, sealed_held}
use Rattle.draid_machine.proofs.Standing.{every_image}
use Rattle.draid_rack.specs.Rack.{Told}
use Rattle.draid_segments.specs.Segments.{Backed, Firm, FirmUpTo, Holds, IsClaim, IsSure, Pieces, Steady, group_in, sector_at, soft_at}
use Rattle.draid_segments.specs.Acts.{Flushes, nowhere}
use Rattle.draid_segments.proofs.Backing.{firm_by, holds_by, steady_by, still, untouched_by}
use Rattle.draid_segments.proofs.Lasting.{has_passed}
use Rattle.draid_segments.proofs.Reached.{reached_on}

pub lies_passes : (o : Option ℕ) (leaf : ℕ) (bad : ℕ → Bool) → passes o (λ m. m == leaf) ≡ true → bad leaf ≡ true → passes o bad ≡ true
lies_passes None leaf bad e t = absurd (true≢false (sym e))
lies_passes (Some m) leaf bad e t = subst (λ x. bad x ≡ true) (sym (is_equal m leaf e)) t

-- an arm that keeps a segment on a leaf lies on that leaf
pub arm_lies : (l : Layout) (q : Core) (n : ArmName) (column x leaf : ℕ) (bad : ℕ → Bool) → x < l.stripes → column < l.columns
    → has_name (q.order (l.slot_of x column)) n ≡ true → lies l q.order n x leaf ≡ true → bad leaf ≡ true → lies_on l q bad n ≡ true
arm_lies l q (Leaf m) column x leaf bad inside more listed at t = subst (λ v. bad v ≡ true) (sym (is_equal m leaf at)) t
arm_lies l q (Spare t) column x leaf bad inside more listed at is =
    any_at l.stripes (λ y. has_column l q (Spare t) y && passes (leaf_at l q.order (Spare t) y) bad) x inside
    (true_both (has_column l q (Spare t) x) (passes (leaf_at l q.order (Spare t) x) bad)
    (any_at l.columns (λ c. has_name (q.order (l.slot_of x c)) (Spare t)) column more listed)
    (lies_passes (leaf_at l q.order (Spare t) x) leaf bad at is))

-- the same, of a segment of a block
pub segment_lies : (l : Layout) (lay : IsLayout l) (w : State) → Sound l w → (s : Segment) (h : Held) (a : Arm) (bad : ℕ → Bool) → IsOn l w.core s h a → bad s.leaf ≡ true → lies_on l w.core bad s.arm ≡ true
segment_lies l lay w sound s h a bad on is =
    let run = sound.core.inside s.key h on.held in
    let row = on.row in
    arm_lies l w.core s.arm s.column (h.first + s.row) s.leaf bad (omega (arith, run, row)) on.column
    (subst (λ c. has_name (w.core.order c) s.arm ≡ true) (sym (lay.steady (h.first + s.row) h.first s.column (sound.core.runs s.key h s.row on.held on.row))) on.listed) on.lies is

freed_less : (low high : ℕ) (st : Stage) → low ≤ high → is_freed_by high st ≡ false → is_freed_by low st ≡ false
freed_less low high (Writing c m) less e = refl
freed_less low high Live less e = refl
freed_less low high (Freed g) less e = grind (arith, nat_tests)

module _ (l : Layout) (lay : IsLayout l) (w new : State) (t : ℕ) (failed : Vec ℕ Global) (step : SealStep l w t failed.items new) (reached : IsReached l w) (x y : Told)
    (flushed : Flushes w.core failed.items x y) where
  abbrev bad : ArmName → Bool
  bad = lies_on l w.core (is_silent w.core failed.items)

  abbrev sealed : Core
  sealed = sealed_core l w.core t failed.items step.wrote

  abbrev img : Image
  img = image_of t w.asked sealed

  abbrev after : State
  after = seal_state l w t failed.items step.wrote

  sound : Sound l w
  sound = reached_sound l lay w reached

  -- a block on an arm that is clean for it after the seal, or that the pass has passed on a target that is left
  record IsCounted (s : Segment) (h : Held) (a : Arm) : Type 0 where
    on : IsOn l w.core s h a
    block : is_block h.stage ≡ true
    birth : h.birth ≤ t
    stays : is_freed_by t h.stage ≡ false
    why : ((log_if (step.wrote && bad s.arm) t a).log h.birth ≡ false) ⊎ (passed sealed.pass s.arm h s.row ≡ true)

  module _ (last : FirmUpTo l w.committed w x) (s : Segment) (h : Held) (a : Arm) (c : IsCounted s h a) (sure : w.aside s ≡ false) where
    neither : (a b : Bool) → (a || b) ≡ false → (a ≡ false) × (b ≡ false)
    neither false b e = (refl, e)
    neither true b e = absurd (true≢false e)

    -- what was born in the group has it in the logs of silent arms
    not_now : bad s.arm ≡ true → (step.wrote && bad s.arm && (h.birth == t)) ≡ false → h.birth ≡ t → ⊥
    not_now silent e now = by step.wrote refl
      where
        by : (b : Bool) → step.wrote ≡ b → ⊥
        by true is = absurd_test (step.wrote && bad s.arm && (h.birth == t)) (true_both (step.wrote && bad s.arm) (h.birth == t) (true_both step.wrote (bad s.arm) is silent) (equal h.birth t now)) e
        by false is = step.no_writes is (record { key = s.key; h = h; found = c.on.held; block = c.block; born = now; stays = c.stays })

    old : bad s.arm ≡ true → (log_if (step.wrote && bad s.arm) t a).log h.birth ≡ false → soft_at l h s x ≡ false
    old silent e =
        let z = neither (a.log h.birth) (step.wrote && bad s.arm && (h.birth == t)) e in
        let next = (sound.groups.closing_is t step.closing).0 in
        let birth = c.birth in
        let other : h.birth ≢ t = not_now silent z.1 in
        last.firm s h (record {
          a = a;
          on = c.on;
          block = c.block;
          birth = omega (arith, next, birth, other);
          stays = freed_less w.committed t h.stage (omega (arith, next)) c.stays;
          why = inl z.0;
        }) sure

    -- a target that lies on a silent leaf is none any more
    lost : bad s.arm ≡ true → passed sealed.pass s.arm h s.row ≡ true → ⊥
    lost silent e = by w.core.pass e
      where
        by : (o : Option Pass) → passed (map_pass (lose_some bad) o) s.arm h s.row ≡ true → ⊥
        by None e = true≢false (sym e)
        by (Some p) e =
            let v = from_passed (Some (lose_some bad p)) s.arm h s.row e in
            let target = subst (λ (q : Pass). has_name q.targets s.arm ≡ true) (sym (some_injective (lose_some bad p) v.p v.pass)) v.target in
            absurd_test (bad s.arm) silent (not_true (bad s.arm) (has_filter (λ n. not (bad n)) p.targets s.arm target).1)

    not_soft : soft_at l h s y ≡ false
    not_soft = elim (bool_cases (is_silent w.core failed.items s.leaf)) [
      | inr answers ↦ flushed.done s.leaf (sector_at l h s) answers
      | inl is ↦
          let silent = segment_lies l lay w sound s h a (is_silent w.core failed.items) c.on is in
          elim c.why [
            | inl clean ↦ still (flushed.same.only.soft s.leaf (sector_at l h s) refl) (old silent clean)
            | inr e ↦ absurd (lost silent e)
          ]
    ]

  pub seal_steady : (other : Image) (doubt : Segment → Bool) → Steady l other doubt x y
  seal_steady other doubt = steady_by l other doubt nowhere x y flushed.same.only (λ s h c. refl)

  pub seal_firm_before : (pieces : Pieces) (other : Image) (doubt : Segment → Bool) → Firm l pieces other doubt x → Firm l pieces other doubt y
  seal_firm_before pieces other doubt f = firm_by l pieces other doubt x y (λ s h c. untouched_by nowhere s.leaf (sector_at l h s) x y flushed.same refl) f

  module _ (pieces : Pieces) (b : Backed l pieces w x) where
    last : FirmUpTo l w.committed w x
    last = subst (λ g. FirmUpTo l g w x) (ap (group_in w.committed) step.unsealed) b.last

    holds : Holds l pieces after y
    holds = holds_by l pieces pieces w after x y b.holds (λ s h is. inl (
      record {
        i = h;
        sure = record { held = is.held; present = is.present; sure = is.sure };
        first = refl;
        same = untouched_by nowhere s.leaf (sector_at l h s) x y flushed.same refl;
      },
      refl,
    ))

    its : ImageStands l after img
    its = (every_image l after lay (subst (λ v. IsReached l v) step.made (reached_on l w new (Seal t failed) reached step))).each img (inr refl)

    sealed_firm : Firm l pieces img w.aside y
    sealed_firm = record {
      there = λ s h c. let of = sealed_held t (w.core.held s.key) h c.held in
          subst (λ (v : Held). IsSome (y.reads s.leaf (sector_at l v s))) (sym of.is) (holds.there s of.h (sure_of s h c of));
      reads = λ s h c calm known. let of = sealed_held t (w.core.held s.key) h c.held in
          subst (λ (v : Held). y.reads s.leaf (sector_at l v s) ≡ pieces s.key s.column s.row) (sym of.is)
          (holds.reads s of.h (sure_of s h c of) (subst (λ (v : Held). y.harmed s.leaf (sector_at l v s) ≡ false) of.is calm) known);
      firm = λ s h c.
          let of = sealed_held t (w.core.held s.key) h c.held in
          subst (λ (v : Held). y.soft s.leaf (sector_at l v s) ≡ false) (sym of.is) (claim_firm s h c of (from_claims l img.core s c.claim));
    }
      where
        sure_of : (s : Segment) (h : Held) → IsClaim l img w.aside s h → (of : IsSealed t (w.core.held s.key) h) → IsSure after s of.h
        sure_of s h c of = record { held = of.found; present = its.claimed s c.claim; sure = c.sure }

        claim_firm : (s : Segment) (h : Held) → IsClaim l img w.aside s h → (of : IsSealed t (w.core.held s.key) h) → IsClaimed l img.core s → y.soft s.leaf (sector_at l of.h s) ≡ false
        claim_firm s h c of k =
            let is : k.h ≡ record of.h { stage = Live } = some_same (img.core.held s.key) k.h h k.on.held c.held ∙ of.is in
            let arm = mapped_arm (log_if (step.wrote && bad s.arm) t) (w.core.arm s.arm) k.a (sealed_arm (sealed.arm s.arm) k.a k.on.arm) in
            not_soft last s of.h arm.0 (record {
              on = record {
                held = of.found;
                arm = arm.1;
                listed = subst (λ (v : Held). has_name (w.core.order (l.slot_of v.first s.column)) s.arm ≡ true) is k.on.listed;
                column = k.on.column;
                row = subst (λ (v : Held). s.row < v.stripes) is k.on.row;
                lies = subst (λ (v : Held). lies l w.core.order s.arm (v.first + s.row) s.leaf ≡ true) is k.on.lies;
              };
              block = of.block;
              birth = of.birth;
              stays = of.stays;
              why = elim k.why [
                | inl clean ↦ inl (subst (λ (v : Held). (log_if (step.wrote && bad s.arm) t arm.0).log v.birth ≡ false) is (subst (λ (v : Arm). v.log k.h.birth ≡ false) arm.2 clean))
                | inr z ↦ inr (by_first sealed.pass k.h of.h is z.1)
              ];
            }) c.sure
          where
            by_first : (o : Option Pass) (v i : Held) → v ≡ record i { stage = Live } → passed o s.arm v s.row ≡ true → passed o s.arm i s.row ≡ true
            by_first None v i is e = e
            by_first (Some p) v i is e = subst (λ (k : Held). passed (Some p) s.arm k s.row ≡ true) is e

    pub seal_backed : Backed l pieces after y
    seal_backed = record {
      holds = holds;
      images = λ i is. elim is [
        | inl e ↦ seal_firm_before pieces i w.aside (b.images i (inl e))
        | inr e ↦ subst (λ v. Firm l pieces v w.aside y) (some_injective img i e) sealed_firm
      ];
      last = record {
        firm = λ s h is sure.
            let arm = mapped_arm (log_if (step.wrote && bad s.arm) t) (w.core.arm s.arm) is.a is.on.arm in
            not_soft last s h arm.0 (record {
              on = record { held = is.on.held; arm = arm.1; listed = is.on.listed; column = is.on.column; row = is.on.row; lies = is.on.lies };
              block = is.block;
              birth = is.birth;
              stays = is.stays;
              why = elim is.why [
                | inl clean ↦ inl (subst (λ (v : Arm). v.log h.birth ≡ false) arm.2 clean)
                | inr scrubbed ↦ inr (has_passed sealed s.arm h s.row scrubbed)
              ];
            }) sure;
      };
    }
