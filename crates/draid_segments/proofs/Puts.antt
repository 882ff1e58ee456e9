-- A column is put.
use Rattle.std.proofs.Common.{◌≡◌, ◌==◌, ◌+◌, ◌&&◌, ◌||◌, not, ℕ, Bool, true, false, if◌then◌else◌, List, Some, refl, sym, ◌∙◌, ap, subst, inl, inr}
use Rattle.draid_machine.specs.declared.names.Key.{Key}
use Rattle.draid_machine.specs.declared.names.ArmName.{ArmName}
use Rattle.draid_machine.specs.declared.names.Stage.TheVariants.{Writing}
use Rattle.draid_machine.specs.declared.names.Held.{Held}
use Rattle.draid_machine.specs.declared.names.Segment.{Segment}
use Rattle.draid_machine.specs.Names.{key_eq, has_name, is_block, is_nil}
use Rattle.draid_machine.specs.State.{Layout, IsLayout, Arm, Image, State}
use Rattle.draid_machine.specs.Claims.{claims, is_on}
use Rattle.draid_machine.specs.After.{is_landed, log_if, put_state}
use Rattle.draid_machine.specs.Created.{IsReached}
use Rattle.draid_machine.specs.Images.{IsImage, IsThere}
use Rattle.draid_machine.specs.Step.{PutStep}
use Rattle.draid_machine.proofs.Small.{some_injective, some_same, bool_cases, either_true, four_true, key_true, held_cases, held_at, mapped_arm, absurd_test}
use Rattle.draid_machine.proofs.Calm.{at_place}
use Rattle.draid_rack.specs.Rack.{Told}
use Rattle.draid_segments.specs.Segments.{Backed, Firm, IsLasting, IsSure, Pieces, Steady, image_group, piece_of, reads_at, sector_at}
use Rattle.draid_segments.specs.Acts.{PutsColumn, is_put_to}
use Rattle.draid_segments.proofs.Apart.{claimed_elsewhere, elsewhere, put_absent, put_place, stands}
use Rattle.draid_segments.proofs.Backing.{Lasted, Was, firm_by, holds_by, last_by, steady_by, untouched_by, Reads, read_as, same_piece}

module _ (l : Layout) (lay : IsLayout l) (w new : State) (reached : IsReached l w) (key : Key) (landed : List ArmName) (failed : List ℕ) (step : PutStep l w key landed failed new)
    (written : Pieces) (x y : Told) (acts : PutsColumn l w.core key step.h step.c landed written x y) where
  abbrev of : Segment → Bool
  of = is_put_to l w.core key step.h step.c

  abbrev named : ℕ → ℕ → Bool
  named = acts.writes.named

  places : (s : Segment) → of s ≡ true → (w.core.held s.key ≡ Some step.h) × (is_on l w.core.order s step.h ≡ true)
  places s e = put_place l w.core key step.h step.c step.found s e

  absent : (s : Segment) → w.present s ≡ true → of s ≡ false
  absent s here = elim (bool_cases (of s)) [
    | inl t ↦ absurd_test (w.present s) here (put_absent l lay w new reached key landed failed step s t)
    | inr out ↦ out
  ]

  free : (s : Segment) (i : Held) → w.core.held s.key ≡ Some i → IsThere l w s → of s ≡ false → named s.leaf (sector_at l i s) ≡ false
  free = elsewhere l lay w reached step.h of places named acts.writes.lies

  claim_free : (img : Image) (s : Segment) (i : Held) → IsImage w img → img.core.held s.key ≡ Some i → claims l img.core s ≡ true → named s.leaf (sector_at l i s) ≡ false
  claim_free img s i is held claim =
      claimed_elsewhere l lay w reached step.h of places named acts.writes.lies img s i is held claim (absent s ((stands l lay w reached img is).claimed s claim))

  pub put_steady : (img : Image) (doubt : Segment → Bool) → IsImage w img → Steady l img doubt x y
  put_steady img doubt is = steady_by l img doubt named x y acts.writes.others.only (λ s h c. claim_free img s h is c.held c.claim)

  pub put_firm : (pieces : Pieces) (img : Image) (doubt : Segment → Bool) → IsImage w img → Firm l pieces img doubt x → Firm l pieces img doubt y
  put_firm pieces img doubt is f = firm_by l pieces img doubt x y
      (λ s h c. untouched_by named s.leaf (sector_at l h s) x y acts.writes.others (claim_free img s h is c.held c.claim)) f

  abbrev later : Held
  later = record step.h { stage = Writing (step.c + 1) (if is_nil landed then step.m + 1 else step.m) }

  abbrev after : State
  after = put_state l w key landed step.h step.c step.m

  module _ (pieces : Pieces) (same : (k : Key) → written k ≡ pieces k) (b : Backed l pieces w x) where
    landed_reads : (s : Segment) (h : Held) → after.core.held s.key ≡ Some h → is_landed l w.core key step.h step.c landed s ≡ true → Reads l pieces s h y
    landed_reads s h held e =
        let z = four_true (key_eq key s.key) (s.column == step.c) (has_name landed s.arm) (is_on l w.core.order s step.h) e in
        let is : later ≡ h = some_injective later h (sym (held_at w.core.held key (Some later)) ∙ subst (λ k. after.core.held k ≡ Some h) (sym (key_true key s.key z.0)) held) in
        subst (λ (k : Held). Reads l pieces s k y) is (record {
          there = acts.landed_there s e;
          reads = λ calm. read_as (reads_at l step.h s y) (piece_of written s) (piece_of pieces s) (same_piece written pieces s (sym (same s.key))) (acts.landed_reads s e);
        })

    was : (s : Segment) (h : Held) → IsSure after s h → w.present s ≡ true → Was l w s h x y
    was s h is old = elim (held_cases w.core.held key s.key (Some later) h is.held) [
      | inl z ↦
          let held = subst (λ k. w.core.held k ≡ Some step.h) z.0 step.found in
          record {
            i = step.h;
            sure = record { held = held; present = old; sure = is.sure };
            first = ap (λ (k : Held). k.first) (sym (some_injective later h z.1));
            same = untouched_by named s.leaf (sector_at l step.h s) x y acts.writes.others (free s step.h held (inl old) (absent s old));
          }
      | inr z ↦ record {
        i = h;
        sure = record { held = z.1; present = old; sure = is.sure };
        first = refl;
        same = untouched_by named s.leaf (sector_at l h s) x y acts.writes.others (free s h z.1 (inl old) (absent s old));
      }
    ]

    less : (a c : Bool) → (a || c) ≡ false → a ≡ false
    less false c e = refl
    less true c e = e

    lasted : (s : Segment) (h : Held) → IsLasting l (image_group w) after.core s h → w.aside s ≡ false → Lasted l (image_group w) w s h x y
    lasted s h is sure = elim (held_cases w.core.held key s.key (Some later) h is.on.held) [
      | inl z ↦ absurd_test (is_block h.stage) is.block (ap (λ (k : Held). is_block k.stage) (sym (some_injective later h z.1)))
      | inr z ↦
          let arm = mapped_arm (log_if (has_name (w.core.order (l.slot_of step.h.first step.c)) s.arm && not (has_name landed s.arm)) step.h.birth) (w.core.arm s.arm) is.a is.on.arm in
          let on : _ = record { held = z.1; arm = arm.1; listed = is.on.listed; column = is.on.column; row = is.on.row; lies = is.on.lies } in
          let lasting : IsLasting l (image_group w) w.core s h = record {
            a = arm.0;
            on = on;
            block = is.block;
            birth = is.birth;
            stays = is.stays;
            why = elim is.why [
              | inl clean ↦ inl (less (arm.0.log h.birth) _ (ap (λ (k : Arm). k.log h.birth) (sym arm.2) ∙ clean))
              | inr scrubbed ↦ inr scrubbed
            ];
          } in
          record {
            i = h;
            lasting = lasting;
            sure = sure;
            first = refl;
            soft = acts.writes.others.only.soft s.leaf (sector_at l h s) (free s h z.1 (inr (at_place l w.core s h arm.0 on)) (no_ticket s h z.1 is.block));
          }
    ]
      where
        no_ticket : (s : Segment) (h : Held) → w.core.held s.key ≡ Some h → is_block h.stage ≡ true → of s ≡ false
        no_ticket s h held block = elim (bool_cases (of s)) [
          | inr out ↦ out
          | inl t ↦
              let is = some_same (w.core.held s.key) h step.h held (places s t).0 in
              absurd_test (is_block step.h.stage) (subst (λ (k : Held). is_block k.stage ≡ true) is block) (ap is_block step.stage)
        ]

    pub put_backed : Backed l pieces after y
    put_backed = record {
      holds = holds_by l pieces pieces w after x y b.holds (λ s h is. elim (either_true (w.present s) (is_landed l w.core key step.h step.c landed s) is.present) [
        | inl old ↦ inl (was s h is old, refl)
        | inr fresh ↦ inr (landed_reads s h is.held fresh)
      ]);
      images = λ img is. put_firm pieces img w.aside is (b.images img is);
      last = last_by l (image_group w) w after x y b.last (λ s h is sure. inl (lasted s h is sure));
    }
