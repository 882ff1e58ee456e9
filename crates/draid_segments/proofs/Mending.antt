-- A rebuild's stripe lands.
use Rattle.std.proofs.Common.{◌≡◌, ◌+◌, ◌&&◌, not, ℕ, Bool, true, false, if◌then◌else◌, List, Some, count_by, refl, sym, ◌∙◌, ap, subst, inl, inr}
use Rattle.draid_machine.specs.declared.names.Key.{Key}
use Rattle.draid_machine.specs.declared.names.Held.{Held}
use Rattle.draid_machine.specs.declared.names.Segment.{Segment}
use Rattle.draid_machine.specs.State.{Layout, IsLayout, Image, Pass, State}
use Rattle.draid_machine.specs.Arms.{fails}
use Rattle.draid_machine.specs.Claims.{IsOn, claims, is_on}
use Rattle.draid_machine.specs.After.{is_mended, is_source_aside, lose_targets, mend_state, misses_stripe, pass_over}
use Rattle.draid_machine.specs.Created.{IsReached}
use Rattle.draid_machine.specs.Images.{IsImage}
use Rattle.draid_machine.specs.Sound.{Sound}
use Rattle.draid_machine.specs.Step.{LandStripeStep}
use Rattle.draid_machine.proofs.Small.{some_injective, some_same, bool_cases, absurd_test, not_true}
use Rattle.draid_machine.proofs.Calm.{at_place}
use Rattle.draid_machine.proofs.Losing.{every_segment}
use Rattle.draid_machine.proofs.Rows.{reached_sound}
use Rattle.draid_machine.proofs.Standing.{every_image}
use Rattle.draid_rack.specs.Rack.{Told}
use Rattle.draid_segments.specs.Segments.{Backed, Firm, IsLasting, IsSure, Pieces, Steady, image_group, sector_at, piece_of, reads_at}
use Rattle.draid_segments.specs.Acts.{LandsStripe, MendsStripe}
use Rattle.draid_segments.proofs.Apart.{claimed_elsewhere, elsewhere, mend_not_claimed, mend_parts, mend_place}
use Rattle.draid_segments.proofs.Backing.{Lasted, Reads, Was, calm_backed, firm_by, firm_doubt, holds_by, last_by, steady_by, steady_same, untouched_by, read_as, same_piece}
use Rattle.draid_segments.proofs.Resting.{no_scrub, over_calm}

-- a value by a test
if_so : {A : Type 0} (b : Bool) (u v z : A) → b ≡ true → (if b then u else v) ≡ z → u ≡ z
if_so true u v z t e = e
if_so false u v z t e = absurd_test false t refl

if_not : {A : Type 0} (b : Bool) (u v z : A) → b ≡ false → (if b then u else v) ≡ z → v ≡ z
if_not false u v z t e = e
if_not true u v z t e = absurd_test true refl t

not_and : (a b : Bool) → b ≡ true → (a && b) ≡ false → a ≡ false
not_and false b t e = refl
not_and true b t e = absurd_test b t e

module _ (l : Layout) (lay : IsLayout l) (w new : State) (reached : IsReached l w) (pass serial : ℕ) (failed : List ℕ) (step : LandStripeStep l w pass serial failed new) (written : Pieces) (x y : Told) where
  abbrev of : Segment → Bool
  of = is_mended l w.core step.p step.n step.h

  abbrev after : State
  after = mend_state l w step.p step.n step.h failed

  sound : Sound l w
  sound = reached_sound l lay w reached

  places : (s : Segment) → of s ≡ true → (w.core.held s.key ≡ Some step.h) × (is_on l w.core.order s step.h ≡ true)
  places s e = mend_place l lay w new reached pass serial failed step s e

  not_of : (img : Image) → IsImage w img → (s : Segment) → claims l img.core s ≡ true → of s ≡ false
  not_of img is s claim = elim (bool_cases (of s)) [
    | inl t ↦ absurd (mend_not_claimed l lay w new reached pass serial failed step img is s t claim)
    | inr out ↦ out
  ]

  module _ (acts : MendsStripe l w step.p step.n step.h failed written x y) where
    abbrev named : ℕ → ℕ → Bool
    named = acts.writes.named

    claim_free : (img : Image) (s : Segment) (i : Held) → IsImage w img → img.core.held s.key ≡ Some i → claims l img.core s ≡ true → named s.leaf (sector_at l i s) ≡ false
    claim_free img s i is held claim = claimed_elsewhere l lay w reached step.h of places named acts.writes.lies img s i is held claim (not_of img is s claim)

    mend_steady : (img : Image) (doubt : Segment → Bool) → IsImage w img → Steady l img doubt x y
    mend_steady img doubt is = steady_by l img doubt named x y acts.writes.others.only (λ s h c. claim_free img s h is c.held c.claim)

    module _ (pieces : Pieces) (same : (k : Key) → written k ≡ pieces k) (b : Backed l pieces w x) where
      was : (s : Segment) (h : Held) → IsSure after s h → of s ≡ false → Was l w s h x y
      was s h is out =
          let here = if_not (of s) (not (fails l w.core failed s.arm step.n.stripe)) (w.present s) true out is.present in
          record {
            i = h;
            sure = record { held = is.held; present = here; sure = if_not (of s) (is_source_aside l w step.n s && not (fails l w.core failed s.arm step.n.stripe)) (w.aside s) false out is.sure };
            first = refl;
            same = untouched_by named s.leaf (sector_at l h s) x y acts.writes.others (elsewhere l lay w reached step.h of places named acts.writes.lies s h is.held (inl here) out);
          }

      mended : (s : Segment) (h : Held) → IsSure after s h → of s ≡ true → Reads l pieces s h y
      mended s h is t =
          let ok = if_so (of s) (not (fails l w.core failed s.arm step.n.stripe)) (w.present s) true t is.present in
          let good : fails l w.core failed s.arm step.n.stripe ≡ false = not_true (fails l w.core failed s.arm step.n.stripe) ok in
          let sure = not_and (is_source_aside l w step.n s) (not (fails l w.core failed s.arm step.n.stripe)) ok
          (if_so (of s) (is_source_aside l w step.n s && not (fails l w.core failed s.arm step.n.stripe)) (w.aside s) false t is.sure) in
          let one : step.h ≡ h = some_same (w.core.held s.key) step.h h (places s t).0 is.held in
          subst (λ (k : Held). Reads l pieces s k y) one (record {
            there = acts.there s t good;
            reads = λ calm. read_as (reads_at l step.h s y) (piece_of written s) (piece_of pieces s) (same_piece written pieces s (sym (same s.key)))
                (acts.reads s t good (sym (acts.harmed s t good) ∙ calm) sure);
          })

      lasted : (s : Segment) (h : Held) → IsLasting l (image_group w) after.core s h → after.aside s ≡ false → Lasted l (image_group w) w s h x y
      lasted s h is sure =
          let clean = lacks s h is in
          let out = unmended s h is clean in
          record {
            i = h;
            lasting = record { a = is.a; on = on s h is; block = is.block; birth = is.birth; stays = is.stays; why = inl clean };
            sure = if_not (of s) (is_source_aside l w step.n s && not (fails l w.core failed s.arm step.n.stripe)) (w.aside s) false out sure;
            first = refl;
            soft = acts.writes.others.only.soft s.leaf (sector_at l h s)
                (elsewhere l lay w reached step.h of places named acts.writes.lies s h is.on.held (inr (at_place l w.core s h is.a (on s h is))) out);
          }
        where
          on : (s : Segment) (h : Held) (is : IsLasting l (image_group w) after.core s h) → IsOn l w.core s h is.a
          on s h is = record { held = is.on.held; arm = is.on.arm; listed = is.on.listed; column = is.on.column; row = is.on.row; lies = is.on.lies }

          passed : Pass
          passed = record (lose_targets (misses_stripe l w.core step.n.stripe failed) (count_by (misses_stripe l w.core step.n.stripe failed) step.p.targets) step.p) { next = step.n.stripe + 1 }

          lacks : (s : Segment) (h : Held) (is : IsLasting l (image_group w) after.core s h) → is.a.log h.birth ≡ false
          lacks s h is = elim is.why [
            | inl clean ↦ clean
            | inr scrub ↦ no_scrub after.core.pass s.arm h s.row (λ p e. ap (λ (k : Pass). k.kind) (sym (some_injective passed p e)) ∙ step.rebuild) scrub
          ]

          -- the log of a target is full
          unmended : (s : Segment) (h : Held) (is : IsLasting l (image_group w) after.core s h) → is.a.log h.birth ≡ false → of s ≡ false
          unmended s h is clean = elim (bool_cases (of s)) [
            | inr out ↦ out
            | inl t ↦ absurd_test (is.a.log h.birth)
                (sound.core.targets step.p s.arm is.a s.key h step.counts.pass_is step.rebuild (mend_parts l lay w new reached pass serial failed step s t).target is.on.arm is.on.held) clean
          ]

      mend_backed : Backed l pieces after y
      mend_backed = record {
        holds = holds_by l pieces pieces w after x y b.holds (λ s h is. elim (bool_cases (of s)) [
          | inl t ↦ inr (mended s h is t)
          | inr out ↦ inl (was s h is out, refl)
        ]);
        images = λ img is. firm_doubt l pieces img w.aside after.aside y
            (λ s h held claim sure. if_not (of s) (is_source_aside l w step.n s && not (fails l w.core failed s.arm step.n.stripe)) (w.aside s) false (not_of img is s claim) sure)
            (firm_by l pieces img w.aside x y (λ s h c. untouched_by named s.leaf (sector_at l h s) x y acts.writes.others (claim_free img s h is c.held c.claim)) (b.images img is));
        last = last_by l (image_group w) w after x y b.last (λ s h is sure. inl (lasted s h is sure));
      }

  pub stripe_steady : (few : Bool) → LandsStripe few l w step.p step.n step.h failed written x y → (img : Image) (doubt : Segment → Bool) → IsImage w img → Steady l img doubt x y
  stripe_steady true acts img doubt is = steady_same l img doubt x y acts
  stripe_steady false acts img doubt is = mend_steady acts img doubt is

  pub stripe_firm : (pieces : Pieces) (few : Bool) → LandsStripe few l w step.p step.n step.h failed written x y → (img : Image) (doubt : Segment → Bool) → IsImage w img
      → Firm l pieces img doubt x → Firm l pieces img doubt y
  stripe_firm pieces true acts img doubt is f = subst (λ z. Firm l pieces img doubt z) (sym acts) f
  stripe_firm pieces false acts img doubt is f =
      firm_by l pieces img doubt x y (λ s h c. untouched_by acts.writes.named s.leaf (sector_at l h s) x y acts.writes.others (claim_free acts img s h is c.held c.claim)) f

  pub stripe_backed : (few : Bool) → LandsStripe few l w step.p step.n step.h failed written x y → (pieces : Pieces) → ((k : Key) → written k ≡ pieces k) → Backed l pieces w x
      → Backed l pieces (if few then pass_over w step.p 1 (step.n.stripe + 1) else after) y
  stripe_backed true acts pieces same b =
      calm_backed l pieces w (pass_over w step.p 1 (step.n.stripe + 1)) x y acts (over_calm l lay w sound (every_image l w lay reached) (every_segment l w lay reached) step.p (step.n.stripe + 1)) b
  stripe_backed false acts pieces same b = mend_backed acts pieces same b
