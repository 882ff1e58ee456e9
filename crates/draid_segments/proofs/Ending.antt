-- A pass ends: a rebuild's targets were flushed, and a scrub's had been.
use Rattle.std.proofs.Common.{◌≡◌, ◌==◌, ◌+◌, ◌<◌, ◌≤◌, ◌⊎◌, ◌&&◌, ◌||◌, not, ℕ, Bool, true, false, nat_le, if◌then◌else◌, List, Some, None, refl, sym, subst, inl, inr, arith}
use Rattle.std.proofs.lemmas.Bool.{true≢false}
use Rattle.std.proofs.lemmas.Bool.Decides.{nat_tests}
use Rattle.draid_names.specs.declared.pass_kind.PassKind.{PassKind}
use Rattle.draid_names.specs.declared.pass_kind.PassKind.TheVariants.{Rebuild, Heal}
use Rattle.draid_machine.specs.declared.names.ArmName.{ArmName}
use Rattle.draid_machine.specs.declared.names.Held.{Held}
use Rattle.draid_machine.specs.declared.names.Segment.{Segment}
use Rattle.draid_machine.specs.Names.{has_name, has_number, is_block, is_heal, takes}
use Rattle.draid_machine.specs.State.{Layout, IsLayout, Arm, Image, Pass, State}
use Rattle.draid_machine.specs.Arms.{is_silent, leaf_answers, lies_on}
use Rattle.draid_machine.specs.Claims.{IsOn}
use Rattle.draid_machine.specs.After.{done_state, ended_pass, excise_if, lose_some}
use Rattle.draid_machine.specs.Sound.{Sound}
use Rattle.draid_machine.specs.Step.{DoneStep, is_lent}
use Rattle.draid_machine.proofs.Small.{bool_cases, none_some, both_true, mapped_arm, has_filter, not_true, absurd_test, equal, is_equal, is_low, low, true_both, true_right}
use Rattle.draid_machine.proofs.Follows.{to_passed}
use Rattle.draid_rack.specs.Rack.{Told}
use Rattle.draid_segments.specs.Segments.{Backed, Firm, HasScrubbed, IsLasting, Pieces, Steady, image_group, sector_at, soft_at}
use Rattle.draid_segments.specs.Acts.{FlushesTargets, nowhere}
use Rattle.draid_segments.proofs.Backing.{Lasted, firm_by, holds_by, last_by, steady_by, untouched_by}
use Rattle.draid_segments.proofs.Sealing.{segment_lies}

takes_row : (h : Held) (r : ℕ) → r < h.stripes → takes h (h.first + r) ≡ true
takes_row h r less = grind (arith, nat_tests)

lent_block : (p : Pass) (h : Held) → is_block h.stage ≡ true → h.birth ≤ p.max → is_lent p h ≡ true
lent_block p h block max = true_right (not (is_heal p.kind)) (is_block h.stage && nat_le h.birth p.max) (true_both (is_block h.stage) (nat_le h.birth p.max) block (low h.birth p.max max))

heals : (k : PassKind) → is_heal k ≡ true → k ≡ Heal
heals Heal e = refl
heals Rebuild e = absurd (true≢false (sym e))

excised : (a : Arm) (b : Bool) (max g : ℕ) → (excise_if b max a).log g ≡ false → (a.log g ≡ false) ⊎ ((b ≡ true) × (g ≤ max))
excised a b max g e = by (a.log g) refl (b && nat_le g max) refl e
  where
    by : (x : Bool) → a.log g ≡ x → (y : Bool) → (b && nat_le g max) ≡ y → (x && not y) ≡ false → (a.log g ≡ false) ⊎ ((b ≡ true) × (g ≤ max))
    by false is y eq e = inl is
    by true is true eq e = let z = both_true b (nat_le g max) eq in inr (z.0, is_low g max z.1)
    by true is false eq e = absurd (true≢false e)

neither : (a b : Bool) → (not a || b) ≡ false → (a ≡ true) × (b ≡ false)
neither true b e = (refl, e)
neither false b e = absurd (true≢false e)

module _ (l : Layout) (lay : IsLayout l) (w new : State) (sound : Sound l w) (failed : List ℕ) (step : DoneStep l w failed new) (x y : Told) (acts : FlushesTargets l w.core step.p failed x y) where
  abbrev p : Pass
  p = step.p

  abbrev bad : ArmName → Bool
  bad = lies_on l w.core (is_silent w.core failed)

  abbrev after : State
  after = done_state w (ended_pass l w.core p failed)

  -- a target that is clean by now
  record Ended (r : Pass) (s : Segment) (h : Held) : Type 0 where
    errors : r.errors ≡ 0
    target : has_name r.targets s.arm ≡ true
    max : h.birth ≤ r.max

  module _ (s : Segment) (h : Held) (a : Arm) (on : IsOn l w.core s h a) (block : is_block h.stage ≡ true) where
    -- a scrub had put it right
    scrubbed : is_heal p.kind ≡ true → Ended p s h → HasScrubbed w.core.pass s.arm h s.row
    scrubbed heal e = record {
      p = p;
      pass_is = step.pass;
      heal = heals p.kind heal;
      by = to_passed (Some p) s.arm h s.row (record {
        p = p;
        pass = refl;
        running = step.running;
        errors = e.errors;
        target = e.target;
        max = e.max;
        next = step.finished s.key h (h.first + s.row) on.held (lent_block p h block e.max) (takes_row h s.row on.row);
      });
    }

    -- the leaf of a rebuild's target was flushed, else the target would be lost
    flushed : is_heal p.kind ≡ false → Ended (lose_some bad p) s h → soft_at l h s y ≡ false
    flushed rebuild e =
        let left = has_filter (λ n. not (bad n)) p.targets s.arm e.target in
        let out = not_true (bad s.arm) left.1 in
        elim (bool_cases (is_silent w.core failed s.leaf)) [
          | inl silent ↦ absurd_test (bad s.arm) (segment_lies l lay w sound s h a (is_silent w.core failed) on silent) out
          | inr f ↦
              let z = neither (leaf_answers w.core s.leaf) (has_number failed s.leaf) f in
              acts.done s.leaf (sector_at l h s) (record {
                rebuild = rebuild;
                arm = s.arm;
                target = left.0;
                lies = segment_lies l lay w sound s h a (λ m. m == s.leaf) on (equal s.leaf s.leaf refl);
                answers = z.0;
              }) z.1
        ]

    ended : (b : Bool) → is_heal p.kind ≡ b → Ended (if b then p else lose_some bad p) s h → (HasScrubbed w.core.pass s.arm h s.row) ⊎ (soft_at l h s y ≡ false)
    ended true is e = inl (scrubbed is e)
    ended false is e = inr (flushed is e)

  pub done_steady : (img : Image) (doubt : Segment → Bool) → Steady l img doubt x y
  done_steady img doubt = steady_by l img doubt nowhere x y acts.same.only (λ s h c. refl)

  pub done_firm : (pieces : Pieces) (img : Image) (doubt : Segment → Bool) → Firm l pieces img doubt x → Firm l pieces img doubt y
  done_firm pieces img doubt f = firm_by l pieces img doubt x y (λ s h c. untouched_by nowhere s.leaf (sector_at l h s) x y acts.same refl) f

  pub done_backed : (pieces : Pieces) → Backed l pieces w x → Backed l pieces after y
  done_backed pieces b = record {
    holds = holds_by l pieces pieces w after x y b.holds (λ s h is. inl (
      record {
        i = h;
        sure = record { held = is.held; present = is.present; sure = is.sure };
        first = refl;
        same = untouched_by nowhere s.leaf (sector_at l h s) x y acts.same refl;
      },
      refl,
    ));
    images = λ img is. done_firm pieces img w.aside (b.images img is);
    last = last_by l (image_group w) w after x y b.last lasted;
  }
    where
      r : Pass
      r = ended_pass l w.core p failed

      old : (s : Segment) (h : Held) (a : Arm) → IsOn l w.core s h a → (is : IsLasting l (image_group w) after.core s h) → w.aside s ≡ false
          → (a.log h.birth ≡ false) ⊎ HasScrubbed w.core.pass s.arm h s.row → Lasted l (image_group w) w s h x y
      old s h a on is sure why = record {
        i = h;
        lasting = record { a = a; on = on; block = is.block; birth = is.birth; stays = is.stays; why = why };
        sure = sure;
        first = refl;
        soft = acts.same.only.soft s.leaf (sector_at l h s) refl;
      }

      lasted : (s : Segment) (h : Held) → IsLasting l (image_group w) after.core s h → w.aside s ≡ false → Lasted l (image_group w) w s h x y ⊎ (soft_at l h s y ≡ false)
      lasted s h is sure =
          let arm = mapped_arm (excise_if ((r.errors == 0) && has_name r.targets s.arm) r.max) (w.core.arm s.arm) is.a is.on.arm in
          let on : IsOn l w.core s h arm.0 = record { held = is.on.held; arm = arm.1; listed = is.on.listed; column = is.on.column; row = is.on.row; lies = is.on.lies } in
          elim is.why [
            | inr z ↦ absurd (none_some None z.p refl z.pass_is)
            | inl clean ↦ elim (excised arm.0 ((r.errors == 0) && has_name r.targets s.arm) r.max h.birth (subst (λ (k : Arm). k.log h.birth ≡ false) arm.2 clean)) [
              | inl before ↦ inl (old s h arm.0 on is sure (inl before))
              | inr e ↦
                  let z = both_true (r.errors == 0) (has_name r.targets s.arm) e.0 in
                  elim (ended s h arm.0 on is.block (is_heal p.kind) refl (record { errors = is_equal r.errors 0 z.0; target = z.1; max = e.1 })) [
                    | inl scrub ↦ inl (old s h arm.0 on is sure (inr scrub))
                    | inr firm ↦ inr firm
                  ]
            ]
          ]
