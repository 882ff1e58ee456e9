-- Where a call may write, nothing else lies.
use Rattle.std.proofs.Common.{◌≡◌, ◌==◌, ◌+◌, ◌<◌, ◌≤◌, ◌&&◌, ℕ, Bool, true, false, List, Some, refl, sym, ◌∙◌, ap, subst, inl, inr, arith}
use Rattle.std.proofs.lemmas.Bool.{true≢false}
use Rattle.draid_machine.specs.declared.names.Key.{Key}
use Rattle.draid_machine.specs.declared.names.ArmName.{ArmName}
use Rattle.draid_machine.specs.declared.names.Held.{Held}
use Rattle.draid_machine.specs.declared.names.Segment.{Segment}
use Rattle.draid_machine.specs.declared.event.Patched.{Patched}
use Rattle.draid_machine.specs.Names.{key_eq, has_name, is_put}
use Rattle.draid_machine.specs.State.{Layout, IsLayout, Pass, Core, Image, State}
use Rattle.draid_machine.specs.Arms.{answers}
use Rattle.draid_machine.specs.Claims.{claims, is_on}
use Rattle.draid_machine.specs.After.{is_mended, is_written, was_written}
use Rattle.draid_machine.specs.Created.{IsReached}
use Rattle.draid_machine.specs.Images.{IsImage, ImageStands, IsOwnPass, IsThere}
use Rattle.draid_machine.specs.Sound.{ImageSound, LoanFits, Sound}
use Rattle.draid_machine.specs.Step.{LandBlockStep, LandStripeStep, PutStep}
use Rattle.draid_machine.proofs.Small.{some_same, bool_cases, both_true, four_true, key_true, absurd_test, is_equal, is_below}
use Rattle.draid_machine.proofs.Follows.{from_passed}
use Rattle.draid_machine.proofs.Losing.{every_segment}
use Rattle.draid_machine.proofs.Places.{every_place}
use Rattle.draid_machine.proofs.Rows.{reached_sound}
use Rattle.draid_machine.proofs.Seals.{IsSealed, sealed_held, from_claims}
use Rattle.draid_machine.proofs.Standing.{every_image}
use Rattle.draid_machine.proofs.Staying.{at_of}
use Rattle.draid_segments.specs.Segments.{sector_at}
use Rattle.draid_segments.specs.Acts.{IsClaimedAlone, IsUnclaimed, LiesAlone, LiesThere, is_put_to}

-- ---- a place is of one segment
module _ (l : Layout) (lay : IsLayout l) (w : State) (reached : IsReached l w) (h : Held) (s : Segment) (held : w.core.held s.key ≡ Some h) (on : is_on l w.core.order s h ≡ true) where
  -- what is there, where a segment has its place, is that segment
  pub one_place : (v : Segment) (i : Held) → w.core.held v.key ≡ Some i → IsThere l w v → v.leaf ≡ s.leaf → sector_at l i v ≡ sector_at l h s → v ≡ s
  one_place v i held' there leaf sector =
      every_place l w v s s.leaf (sector_at l h s) lay reached there (inr (at_of l w.core s h held on))
      (record { h = i; held = held'; leaf_is = leaf; sector_is = sector })
      (record { h = h; held = held; leaf_is = refl; sector_is = refl })

  pub lies_alone : LiesAlone l w h s
  lies_alone v i held' here leaf sector = one_place v i held' (inl here) leaf sector

-- what an image claims is present, of a block that the state holds
module _ (l : Layout) (lay : IsLayout l) (w : State) (reached : IsReached l w) (img : Image) (is : IsImage w img) where
  pub stands : ImageStands l w img
  stands = (every_image l w lay reached).each img is

  pub its_block : (k : Key) (i : Held) → img.core.held k ≡ Some i → IsSealed img.group (w.core.held k) i
  its_block k i held = sealed_held img.group (w.core.held k) i (sym (stands.blocks k) ∙ held)

  pub claimed_alone : (h : Held) (s : Segment) → w.core.held s.key ≡ Some h → is_on l w.core.order s h ≡ true → IsClaimedAlone l img h s
  claimed_alone h s held on v i held' claim leaf sector =
      let z = its_block v.key i held' in
      one_place l lay w reached h s held on v z.h z.found (inl (stands.claimed v claim)) leaf
      (subst (λ (k : Held). sector_at l k v ≡ sector_at l h s) z.is sector)

-- ---- the segments that a call writes have places of one block or ticket
module _ (l : Layout) (lay : IsLayout l) (w : State) (reached : IsReached l w) (h : Held) (of : Segment → Bool)
    (places : (s : Segment) → of s ≡ true → (w.core.held s.key ≡ Some h) × (is_on l w.core.order s h ≡ true))
    (named : ℕ → ℕ → Bool) (lies : (leaf sector : ℕ) → named leaf sector ≡ true → LiesThere l h of leaf sector) where
  -- a segment that is there, and isn't one of them, lies elsewhere
  pub elsewhere : (v : Segment) (i : Held) → w.core.held v.key ≡ Some i → IsThere l w v → of v ≡ false → named v.leaf (sector_at l i v) ≡ false
  elsewhere v i held there out = elim (bool_cases (named v.leaf (sector_at l i v))) [
    | inr free ↦ free
    | inl t ↦
        let z = lies v.leaf (sector_at l i v) t in
        let p = places z.s z.is in
        let same = one_place l lay w reached h z.s p.0 p.1 v i held there (sym z.leaf_is) (sym z.sector_is) in
        absurd_test (of v) (subst (λ (g : Segment). of g ≡ true) (sym same) z.is) out
  ]

  pub claimed_elsewhere : (img : Image) (v : Segment) (i : Held) → IsImage w img → img.core.held v.key ≡ Some i → claims l img.core v ≡ true → of v ≡ false
      → named v.leaf (sector_at l i v) ≡ false
  claimed_elsewhere img v i is held claim out =
      let z = its_block l lay w reached img is v.key i held in
      subst (λ (k : Held). named v.leaf (sector_at l k v) ≡ false) (sym z.is) (elsewhere v z.h z.found (inl ((stands l lay w reached img is).claimed v claim)) out)

-- ---- a put
put_parts : (l : Layout) (q : Core) (key : Key) (h : Held) (c : ℕ) (s : Segment) → is_put_to l q key h c s ≡ true
    → (key_eq key s.key ≡ true) × ((s.column == c) ≡ true) × (is_on l q.order s h ≡ true) × (answers l q s.arm h.first ≡ true)
put_parts l q key h c s e = four_true (key_eq key s.key) (s.column == c) (is_on l q.order s h) (answers l q s.arm h.first) e

pub put_place : (l : Layout) (q : Core) (key : Key) (h : Held) (c : ℕ) → q.held key ≡ Some h → (s : Segment) → is_put_to l q key h c s ≡ true
    → (q.held s.key ≡ Some h) × (is_on l q.order s h ≡ true)
put_place l q key h c found s e =
    let z = put_parts l q key h c s e in
    (subst (λ k. q.held k ≡ Some h) (key_true key s.key z.0) found, z.2)

module _ (l : Layout) (lay : IsLayout l) (w new : State) (reached : IsReached l w) (key : Key) (landed : List ArmName) (failed : List ℕ) (step : PutStep l w key landed failed new) where
  -- a segment that is present isn't of the next column
  pub put_absent : (s : Segment) → is_put_to l w.core key step.h step.c s ≡ true → w.present s ≡ false
  put_absent s e = elim (bool_cases (w.present s)) [
    | inr out ↦ out
    | inl here ↦
        let z = put_parts l w.core key step.h step.c s e in
        let o = (every_segment l w lay reached).present s here in
        let same : o.h ≡ step.h = some_same (w.core.held s.key) o.h step.h o.held (subst (λ k. w.core.held k ≡ Some step.h) (key_true key s.key z.0) step.found) in
        let less : s.column < step.c = is_below s.column step.c (subst (λ st. is_put st s.column ≡ true) step.stage (subst (λ (k : Held). is_put k.stage s.column ≡ true) same o.put)) in
        let is = is_equal s.column step.c z.1 in
        absurd (omega (arith, less, is))
  ]

  pub put_unclaimed : (img : Image) (s : Segment) → IsImage w img → is_put_to l w.core key step.h step.c s ≡ true → IsUnclaimed l img step.h s
  put_unclaimed img s is e v i held claim leaf sector =
      let z = put_place l w.core key step.h step.c step.found s e in
      let same = claimed_alone l lay w reached img is step.h s z.0 z.1 v i held claim leaf sector in
      true≢false (sym (subst (λ (g : Segment). w.present g ≡ true) same ((stands l lay w reached img is).claimed v claim)) ∙ put_absent s e)

-- ---- the landing of a rebuild's stripe
module _ (l : Layout) (lay : IsLayout l) (w new : State) (reached : IsReached l w) (pass serial : ℕ) (failed : List ℕ) (x : LandStripeStep l w pass serial failed new) where
  pub record MendParts (s : Segment) : Type 0 where
    pub key : key_eq x.n.key s.key ≡ true
    pub stripe : x.h.first + s.row ≡ x.n.stripe
    pub target : has_name x.p.targets s.arm ≡ true
    pub on : is_on l w.core.order s x.h ≡ true

  pub mend_parts : (s : Segment) → is_mended l w.core x.p x.n x.h s ≡ true → MendParts s
  mend_parts s e =
      let a = both_true (key_eq x.n.key s.key && (x.h.first + s.row == x.n.stripe) && has_name x.p.targets s.arm && is_on l w.core.order s x.h) (answers l w.core s.arm x.n.stripe) e in
      let b = four_true (key_eq x.n.key s.key) (x.h.first + s.row == x.n.stripe) (has_name x.p.targets s.arm) (is_on l w.core.order s x.h) a.0 in
      record { key = b.0; stripe = is_equal (x.h.first + s.row) x.n.stripe b.1; target = b.2; on = b.3 }

  pub mend_place : (s : Segment) → is_mended l w.core x.p x.n x.h s ≡ true → (w.core.held s.key ≡ Some x.h) × (is_on l w.core.order s x.h ≡ true)
  mend_place s e = let z = mend_parts s e in (subst (λ k. w.core.held k ≡ Some x.h) (key_true x.n.key s.key z.key) x.counts.found, z.on)

  sound : Sound l w
  sound = reached_sound l lay w reached

  fits : LoanFits w.core x.n
  fits = sound.loan x.n x.counts.loan

  same_pass : fits.p ≡ x.p
  same_pass = some_same w.core.pass fits.p x.p fits.pass x.counts.pass_is

  module _ (img : Image) (is : IsImage w img) where
    group : w.committed ≤ img.group
    group = elim is [
      | inl e ↦ let a : w.image.group ≡ img.group = ap (λ (i : Image). i.group) e in let b = sound.groups.image_is in omega (arith, a, b)
      | inr e ↦ let a = (sound.groups.closing_is img.group (sound.groups.sealed_is img e)).0 in omega (arith, a)
    ]

    -- the image has this pass, which stood no further
    own : IsOwnPass img x.p
    own = (stands l lay w reached img is).rebuild x.p x.counts.pass_is x.rebuild
        (let a = (every_image l w lay reached).runs x.p x.counts.pass_is x.rebuild (subst (λ (q : Pass). q.running ≡ true) same_pass fits.running) in let b = group in omega (arith, a, b))

    image_sound : ImageSound l img
    image_sound = elim is [
      | inl e ↦ subst (λ (v : Image). ImageSound l v) e sound.image
      | inr e ↦ sound.sealed img e
    ]

    -- so it doesn't claim what the landing writes: the target's log is full there, and the pass hadn't passed it
    pub mend_not_claimed : (s : Segment) → is_mended l w.core x.p x.n x.h s ≡ true → claims l img.core s ≡ true → ⊥
    mend_not_claimed s mended claim =
        let parts = mend_parts s mended in
        let c = from_claims l img.core s claim in
        let z = its_block l lay w reached img is s.key c.h c.on.held in
        let same : z.h ≡ x.h = some_same (w.core.held s.key) z.h x.h z.found (mend_place s mended).0 in
        let first : c.h.first ≡ x.h.first = ap (λ (k : Held). k.first) z.is ∙ ap (λ (k : Held). k.first) same in
        elim c.why [
          | inl clean ↦ absurd_test (c.a.log c.h.birth)
              (image_sound.core.targets own.own s.arm c.a s.key c.h own.pass own.rebuild (own.targets s.arm parts.target) c.on.arm c.on.held) clean
          | inr q ↦
              let before = from_passed img.core.pass s.arm c.h s.row q.1 in
              let less = before.next in
              let one : before.p.next ≡ own.own.next = ap (λ (k : Pass). k.next) (some_same img.core.pass before.p own.own before.pass own.pass) in
              let two = own.next in
              let three : x.p.next ≤ x.n.stripe = subst (λ (k : Pass). k.next ≤ x.n.stripe) same_pass fits.from in
              let four = parts.stripe in
              absurd (omega (arith, less, one, two, three, four, first))
        ]

    pub mend_unclaimed : (s : Segment) → is_mended l w.core x.p x.n x.h s ≡ true → IsUnclaimed l img x.h s
    mend_unclaimed s mended v i held claim leaf sector =
        let z = mend_place s mended in
        let same = claimed_alone l lay w reached img is x.h s z.0 z.1 v i held claim leaf sector in
        mend_not_claimed s mended (subst (λ (g : Segment). claims l img.core g ≡ true) same claim)

-- ---- the landing of a scrub's block
pub heal_place : (l : Layout) (w new : State) (pass serial : ℕ) (failed : List ℕ) (patched : List Patched) (unreadable : Bool) (x : LandBlockStep l w pass serial failed patched unreadable new)
    → (s : Segment) → is_written l w.core x.n x.h patched s ≡ true → (w.core.held s.key ≡ Some x.h) × (is_on l w.core.order s x.h ≡ true)
heal_place l w new pass serial failed patched unreadable x s e =
    let a = both_true (key_eq x.n.key s.key && is_on l w.core.order s x.h) (was_written patched s.column s.arm s.row) e in
    let b = both_true (key_eq x.n.key s.key) (is_on l w.core.order s x.h) a.0 in
    (subst (λ k. w.core.held k ≡ Some x.h) (key_true x.n.key s.key b.0) x.counts.found, b.1)
