-- Leaves go: at a commit those of arms that are gone for good, at an opening those that its image doesn't name.
use Rattle.std.proofs.Common.{◌≡◌, ◌≤◌, ◌&&◌, ◌||◌, ℕ, Bool, true, false, nat_le, List, Some, None, refl, sym, ◌∙◌, ap, subst, inl, inr}
use Rattle.draid_machine.specs.declared.names.ArmName.TheVariants.{Leaf}
use Rattle.draid_machine.specs.declared.names.Held.{Held}
use Rattle.draid_machine.specs.declared.names.Segment.{Segment}
use Rattle.draid_machine.specs.declared.event.Event.TheVariants.{Commit}
use Rattle.draid_machine.specs.Names.{has_segment}
use Rattle.draid_machine.specs.State.{Layout, IsLayout, Arm, Image, State}
use Rattle.draid_machine.specs.Claims.{claims}
use Rattle.draid_machine.specs.After.{commit_state, cut_above, is_freed_block, is_gone_arm, is_gone_by, reopen_state, stays}
use Rattle.draid_machine.specs.Created.{IsReached}
use Rattle.draid_machine.specs.Images.{IsImage}
use Rattle.draid_machine.specs.Step.{CommitStep}
use Rattle.draid_machine.proofs.Small.{some_injective, none_some, bool_cases, both_true, true_both, kept_some, mapped_arm, absurd_test, low}
use Rattle.draid_machine.proofs.Losing.{every_segment}
use Rattle.draid_machine.proofs.Owning.{put_block}
use Rattle.draid_machine.proofs.Rows.{reached_sound}
use Rattle.draid_machine.proofs.Seals.{to_claims}
use Rattle.draid_machine.proofs.Standing.{every_image}
use Rattle.draid_rack.specs.Rack.{Told}
use Rattle.draid_segments.specs.Segments.{Backed, Firm, FirmUpTo, HasScrubbed, IsLasting, Pieces, Steady, group_in, image_group, sector_at}
use Rattle.draid_segments.specs.Acts.{DropsBut, IsNamed, StaysAfter}
use Rattle.draid_segments.proofs.Backing.{Untouched, firm_by, firm_doubt, holds_by, last_by, steady_by, untouched_by}
use Rattle.draid_segments.proofs.Lasting.{claim_named, has_passed, lasting_present, owned_leaf}
use Rattle.draid_segments.proofs.Reached.{reached_on}

-- what is aside no more, though it stays, wasn't before
pub not_left : (a b : Bool) → b ≡ true → (a && b) ≡ false → a ≡ false
not_left false b t e = refl
not_left true b t e = absurd_test b t e

-- ---- a commit
module _ (l : Layout) (lay : IsLayout l) (w new : State) (t : ℕ) (c : CommitStep l w t new) (reached : IsReached l w) (x y : Told) (d : DropsBut (StaysAfter w t) x y) where
  abbrev goes : ℕ → ℕ → Bool
  goes leaf sector = d.goes leaf

  abbrev after : State
  after = commit_state l w t c.image

  next : IsReached l after
  next = subst (λ v. IsReached l v) c.made (reached_on l w new (Commit t) reached c)

  group_is : c.image.group ≡ t
  group_is = some_injective c.image.group t (sym ((reached_sound l lay w reached).groups.sealed_is c.image c.sealed) ∙ c.closing)

  -- a leaf that the state after it has stays
  stays_leaf : (leaf : ℕ) (a : Arm) → after.core.arm (Leaf leaf) ≡ Some a → d.goes leaf ≡ false
  stays_leaf leaf a e =
      let z = kept_some (is_gone_arm t (w.core.arm (Leaf leaf))) (w.core.arm (Leaf leaf)) a e in
      d.kept leaf (record { a = a; found = z.1; late = subst (λ o. is_gone_arm t o ≡ false) z.1 z.0 })

  present_stays : (s : Segment) → after.present s ≡ true → d.goes s.leaf ≡ false
  present_stays s here =
      let own = every_segment l after lay next in
      let z = owned_leaf l after own.listed s (own.present s here) in
      stays_leaf s.leaf z.0 z.1

  claim_stays : (s : Segment) → claims l c.image.core s ≡ true → d.goes s.leaf ≡ false
  claim_stays s claim =
      let n = claim_named l c.image s claim in
      let a = (((every_segment l w lay reached).images c.image (inr c.sealed)).0).data_of n.0 (Leaf s.leaf) n.1 in
      let b = ((every_image l w lay reached).each c.image (inr c.sealed)).arms (Leaf s.leaf) a.0 a.1 in
      d.kept s.leaf (record { a = b.0; found = b.1; late = subst (λ g. is_gone_by g b.0.gone ≡ false) group_is b.2 })

  same : (s : Segment) (h : Held) → d.goes s.leaf ≡ false → Untouched s.leaf (sector_at l h s) x y
  same s h free = untouched_by goes s.leaf (sector_at l h s) x y d.others free

  pub commit_steady : (doubt : Segment → Bool) → Steady l c.image doubt x y
  commit_steady doubt = steady_by l c.image doubt goes x y d.others.only (λ s h k. claim_stays s k.claim)

  pub commit_firm : (pieces : Pieces) (doubt : Segment → Bool) → Firm l pieces c.image doubt x → Firm l pieces c.image doubt y
  commit_firm pieces doubt f = firm_by l pieces c.image doubt x y (λ s h k. same s h (claim_stays s k.claim)) f

  sure_before : (s : Segment) → after.present s ≡ true → after.aside s ≡ false → w.aside s ≡ false
  sure_before s here e = not_left (w.aside s) (stays l t w s) (both_true (w.present s) (stays l t w s) here).1 e

  module _ (pieces : Pieces) (b : Backed l pieces w x) where
    pub commit_backed : Backed l pieces after y
    commit_backed = record {
      holds = holds_by l pieces pieces w after x y b.holds (λ s h is.
          let z = kept_some (is_freed_block t (w.core.held s.key)) (w.core.held s.key) h is.held in
          inl (
            record {
              i = h;
              sure = record { held = z.1; present = (both_true (w.present s) (stays l t w s) is.present).0; sure = sure_before s is.present is.sure };
              first = refl;
              same = same s h (present_stays s is.present);
            },
            refl,
          ));
      images = λ img is. elim is [
        | inl e ↦ subst (λ i. Firm l pieces i after.aside y) e
            (firm_doubt l pieces c.image w.aside after.aside y
            (λ s h held claim sure. sure_before s (((every_image l after lay next).each c.image (inl refl)).claimed s claim) sure)
            (commit_firm pieces w.aside (b.images c.image (inr c.sealed))))
        | inr e ↦ absurd (none_some None img refl e)
      ];
      last = subst (λ g. FirmUpTo l g after y) (ap (group_in w.committed) c.sealed ∙ group_is) (last_by l (image_group w) w after x y b.last (λ s h is sure.
          let held = kept_some (is_freed_block t (w.core.held s.key)) (w.core.held s.key) h is.on.held in
          let arm = kept_some (is_gone_arm t (w.core.arm s.arm)) (w.core.arm s.arm) is.a is.on.arm in
          let here = lasting_present l after (image_group w) s h (reached_sound l lay after next) is in
          inl (record {
            i = h;
            lasting = record {
              a = is.a;
              on = record { held = held.1; arm = arm.1; listed = is.on.listed; column = is.on.column; row = is.on.row; lies = is.on.lies };
              block = is.block;
              birth = is.birth;
              stays = is.stays;
              why = elim is.why [ inl clean ↦ inl clean | inr y ↦ inr y ];
            };
            sure = sure_before s here sure;
            first = refl;
            soft = (same s h (present_stays s here)).soft;
          })));
    }

-- ---- An opening needs no more than that its image is firm, but for what is doubtful.
module _ (l : Layout) (lay : IsLayout l) (w : State) (img : Image) (doubtful : List Segment) (reached : IsReached l w) (is : IsImage w img) (x y : Told) (d : DropsBut (IsNamed img) x y) where
  abbrev opened : State
  opened = reopen_state l w img doubtful

  abbrev doubts : Segment → Bool
  doubts s = w.aside s || has_segment doubtful s

  named_stays : (s : Segment) → claims l img.core s ≡ true → d.goes s.leaf ≡ false
  named_stays s claim = d.kept s.leaf (claim_named l img s claim)

  pub open_steady : (doubt : Segment → Bool) → Steady l img doubt x y
  open_steady doubt = steady_by l img doubt (λ leaf sector. d.goes leaf) x y d.others.only (λ s h k. named_stays s k.claim)

  pub open_firm : (pieces : Pieces) (doubt : Segment → Bool) → Firm l pieces img doubt x → Firm l pieces img doubt y
  open_firm pieces doubt f = firm_by l pieces img doubt x y (λ s h k. untouched_by (λ leaf sector. d.goes leaf) s.leaf (sector_at l h s) x y d.others (named_stays s k.claim)) f

  sure_of : (s : Segment) → claims l img.core s ≡ true → opened.aside s ≡ false → doubts s ≡ false
  sure_of s claim e = not_left (doubts s) (claims l img.core s) claim e

  uncut : (a : Arm) (g : ℕ) → g ≤ img.group → (cut_above img.group a).log g ≡ false → a.log g ≡ false
  uncut a g less e = elim (bool_cases (a.log g)) [
    | inl t ↦ absurd_test (a.log g && nat_le g img.group) (true_both (a.log g) (nat_le g img.group) t (low g img.group less)) e
    | inr f ↦ f
  ]

  -- what the state counts on is claimed
  lasting_claim : (s : Segment) (h : Held) → IsLasting l img.group opened.core s h → claims l img.core s ≡ true
  lasting_claim s h k =
      let at = mapped_arm (cut_above img.group) (img.core.arm s.arm) k.a k.on.arm in
      to_claims l img.core s (record {
        h = h;
        a = at.0;
        on = record { held = k.on.held; arm = at.1; listed = k.on.listed; column = k.on.column; row = k.on.row; lies = k.on.lies };
        put = put_block h.stage s.column k.block;
        why = elim k.why [
          | inl clean ↦ inl (uncut at.0 h.birth k.birth (subst (λ (v : Arm). v.log h.birth ≡ false) at.2 clean))
          | inr z ↦ inr (k.block, has_passed img.core s.arm h s.row (scrub z))
        ];
      })
    where
      scrub : HasScrubbed opened.core.pass s.arm h s.row → HasScrubbed img.core.pass s.arm h s.row
      scrub z = z

  pub open_backed : (pieces : Pieces) → Firm l pieces img doubts x → Backed l pieces opened y
  open_backed pieces f =
      let g = open_firm pieces doubts f in
      record {
        holds = record {
          there = λ s h k. g.there s h (record { held = k.held; claim = k.present; sure = sure_of s k.present k.sure });
          reads = λ s h k calm. g.reads s h (record { held = k.held; claim = k.present; sure = sure_of s k.present k.sure }) calm;
        };
        images = λ i one. elim one [
          | inl e ↦ subst (λ v. Firm l pieces v opened.aside y) e (firm_doubt l pieces img doubts opened.aside y (λ s h held claim sure. sure_of s claim sure) g)
          | inr e ↦ absurd (none_some None i refl e)
        ];
        last = record { firm = λ s h k sure. let claim = lasting_claim s h k in g.firm s h (record { held = k.on.held; claim = claim; sure = sure_of s claim sure }) };
      }
