-- Every event keeps what a rack has of the segments.
use Rattle.std.proofs.Common.{◌≡◌, ◌||◌, ◌+◌, Bool, true, false, nat_lt, if◌then◌else◌, refl, sym, ap, subst, inr}
use Rattle.std.proofs.lemmas.Bool.{true≢false}
use Rattle.draid_machine.specs.declared.names.ArmName.TheVariants.{Leaf}
use Rattle.draid_machine.specs.declared.names.Held.{Held}
use Rattle.draid_machine.specs.declared.names.Segment.{Segment}
use Rattle.draid_machine.specs.declared.names.Stage.TheVariants.{Writing}
use Rattle.draid_machine.specs.declared.event.Event.{Event}
use Rattle.draid_machine.specs.declared.event.Event.TheVariants.{Begin, Put, Finish, Abort, Free, Fetch, Damage, Offline, Online, Attach, Detach, Upgrade, Close, Seal, Commit, Plan, Ready, Lend, LandStripe, LandBlock, Done, Cancel, Reopen}
use Rattle.draid_machine.specs.Names.{has_segment, is_block}
use Rattle.draid_machine.specs.State.{Layout, IsLayout, Image, State}
use Rattle.draid_machine.specs.Arms.{targets_of}
use Rattle.draid_machine.specs.After.{is_written, unsourced}
use Rattle.draid_machine.specs.Created.{IsReached}
use Rattle.draid_machine.specs.Images.{IsImage, ImagesStand, Owned}
use Rattle.draid_machine.specs.Sound.{Sound}
use Rattle.draid_machine.specs.Step.{Step}
use Rattle.draid_machine.proofs.Losing.{every_segment}
use Rattle.draid_machine.proofs.Rows.{reached_sound}
use Rattle.draid_machine.proofs.Standing.{every_image, is_image}
use Rattle.draid_rack.specs.Rack.{IsOrderly, Told}
use Rattle.draid_segments.specs.Acts.{Acts, IsMeant, is_there, WritesPieces, doubted, pieces_after}
use Rattle.draid_segments.specs.Segments.{Backed, Firm, FirmThrough, Pieces, Steady}
use Rattle.draid_segments.proofs.Backing.{calm_backed, firm_doubt, steady_same}
use Rattle.draid_segments.proofs.Changing.{attach_calm, detach_calm}
use Rattle.draid_segments.proofs.Damaging.{damage_backed, damage_firm, damage_steady}
use Rattle.draid_segments.proofs.Ending.{done_backed, done_firm, done_steady}
use Rattle.draid_segments.proofs.Healing.{block_steady, heal_backed, heal_firm}
use Rattle.draid_segments.proofs.Leaving.{commit_backed, commit_firm, commit_steady, open_backed, open_firm, open_steady}
use Rattle.draid_segments.proofs.Mending.{stripe_backed, stripe_firm, stripe_steady}
use Rattle.draid_segments.proofs.Puts.{put_backed, put_firm, put_steady}
use Rattle.draid_segments.proofs.Resting.{begin_calm, cancel_calm, close_calm, finish_calm, free_calm, gone_calm, lend_calm, over_calm, plan_calm, ready_calm, switch_calm, upgrade_calm}
use Rattle.draid_segments.proofs.Sealing.{seal_backed, seal_firm_before, seal_steady}
use Rattle.draid_segments.proofs.Through.{steady_through}

less : (a b : Bool) → (a || b) ≡ false → a ≡ false
less false b e = refl
less true b e = e

more : (a b : Bool) → (a || b) ≡ false → b ≡ false
more false b e = e
more true b e = absurd (true≢false e)

module _ (l : Layout) (lay : IsLayout l) (w : State) (reached : IsReached l w) (written : Pieces) (x y : Told) where
  sound : Sound l w
  sound = reached_sound l lay w reached

  images : ImagesStand l w
  images = every_image l w lay reached

  owned : Owned l w
  owned = every_segment l w lay reached

  -- ---- the end of a call
  module _ (pieces : Pieces) (b : Backed l pieces w x) where
    pub event_backed : (e : Event) (new : State) (step : Step l w e new) → Acts l w e new step written x y → WritesPieces l w e new step pieces written
        → Backed l (pieces_after l w e new step pieces written) new y
    event_backed (Begin key first stripes len birth digest) new p a k =
        let h : Held = record { first = first; stripes = stripes; len = len; birth = birth; digest = digest; stage = Writing 0 0 } in
        subst (λ v. Backed l pieces v y) (sym p.made) (calm_backed l pieces w _ x y a (begin_calm l lay w sound images owned key h p.unused refl) b)
    event_backed (Put key landed failed) new p a k =
        subst (λ v. Backed l pieces v y) (sym p.made) (put_backed l lay w new reached key landed failed p written x y a pieces (λ j. k j refl) b)
    event_backed (Finish key) new p a k =
        subst (λ v. Backed l pieces v y) (sym p.made) (calm_backed l pieces w _ x y a (finish_calm l lay w sound images owned key p.h p.m p.found (ap is_block p.stage)) b)
    event_backed (Abort key) new p a k =
        subst (λ v. Backed l pieces v y) (sym p.made) (calm_backed l pieces w _ x y a (gone_calm l lay w sound images owned key p.h p.found p.ticket) b)
    event_backed (Free key group) new p a k =
        subst (λ v. Backed l pieces v y) (sym p.made) (calm_backed l pieces w _ x y a (free_calm l lay w sound images owned key p.h group p.found p.live) b)
    event_backed (Fetch key failed) new p a k = subst (λ v. Backed l pieces v y) (sym p.made) (subst (λ v. Backed l pieces w v) (sym a) b)
    event_backed (Damage leaf sector failed) new p a k = subst (λ v. Backed l pieces v y) (sym p.made) (damage_backed l lay w reached leaf sector failed x y a pieces b)
    event_backed (Offline leaf) new p a k =
        subst (λ v. Backed l pieces v y) (sym p.made) (calm_backed l pieces w _ x y a (switch_calm l lay w sound images owned (Leaf leaf) p.a true p.there.found) b)
    event_backed (Online leaf) new p a k =
        subst (λ v. Backed l pieces v y) (sym p.made) (calm_backed l pieces w _ x y a (switch_calm l lay w sound images owned (Leaf leaf) p.a false p.there.found) b)
    event_backed (Attach slot arm) new p a k =
        subst (λ v. Backed l pieces v y) (sym p.made) (calm_backed l pieces w _ x y a (attach_calm l lay w sound images owned slot arm p.last p.unused p.last_is) b)
    event_backed (Detach slot arm) new p a k =
        subst (λ v. Backed l pieces v y) (sym p.made) (calm_backed l pieces w _ x y a (detach_calm l lay w sound images owned slot arm new p) b)
    event_backed Upgrade new p a k = subst (λ v. Backed l pieces v y) (sym p.made) (calm_backed l pieces w _ x y a (upgrade_calm l lay w sound images owned) b)
    event_backed (Close group) new p a k = subst (λ v. Backed l pieces v y) (sym p.made) (calm_backed l pieces w _ x y a (close_calm l lay w sound images owned group) b)
    event_backed (Seal group failed) new p a k = subst (λ v. Backed l pieces v y) (sym p.made) (seal_backed l lay w new group failed p reached x y a pieces b)
    event_backed (Commit group) new p a k = subst (λ v. Backed l pieces v y) (sym p.made) (commit_backed l lay w new group p reached x y a pieces b)
    event_backed (Plan kind) new p a k =
        subst (λ v. Backed l pieces v y) (sym p.made) (calm_backed l pieces w _ x y a (plan_calm l lay w sound images owned kind (targets_of l w.core kind)) b)
    event_backed Ready new p a k = subst (λ v. Backed l pieces v y) (sym p.made) (calm_backed l pieces w _ x y a (ready_calm l lay w sound images owned p.p p.rebuild) b)
    event_backed (Lend failed) new p a k =
        subst (λ v. Backed l pieces v y) (sym p.made) (calm_backed l pieces w _ x y a (lend_calm l lay w sound images owned p.p p.n failed.items p.pass) b)
    event_backed (LandStripe pass serial failed) new p a k =
        subst (λ v. Backed l pieces v y) (sym p.made) (stripe_backed l lay w new reached pass serial failed.items p written x y (nat_lt l.parity (unsourced l p.n)) a pieces (λ j. k j refl) b)
    event_backed (LandBlock pass serial failed patched true) new p a k =
        subst (λ v. Backed l pieces v y) (sym p.made) (calm_backed l pieces w _ x y a (over_calm l lay w sound images owned p.p (p.h.first + p.h.stripes)) b)
    event_backed (LandBlock pass serial failed patched false) new p a k =
        subst (λ v. Backed l (if p.whole then written else pieces) v y) (sym p.made) (heal_backed l lay w new reached pass serial failed.items patched.items p written x y a pieces k b)
    event_backed (Done failed) new p a k = subst (λ v. Backed l pieces v y) (sym p.made) (done_backed l lay w new sound failed.items p x y a pieces b)
    event_backed Cancel new p a k = subst (λ v. Backed l pieces v y) (sym p.made) (calm_backed l pieces w _ x y a (cancel_calm l lay w sound images owned) b)
    event_backed (Reopen group doubtful) new p a k =
        let is = is_image l lay w p.image group p.one in
        subst (λ v. Backed l pieces v y) (sym p.made) (open_backed l lay w p.image doubtful.items reached is x y a pieces
        (firm_doubt l pieces p.image w.aside (λ s. w.aside s || has_segment doubtful.items s) x (λ s h held claim sure. less (w.aside s) (has_segment doubtful.items s) sure) (b.images p.image is)))

  -- ---- inside a call
  pub event_steady : (e : Event) (new : State) (step : Step l w e new) (img : Image) → Acts l w e new step written x y → IsMeant l w e new step img → Steady l img (doubted l w e new step) x y
  event_steady (Begin key first stripes len birth digest) new p img a is = steady_same l img w.aside x y a
  event_steady (Finish key) new p img a is = steady_same l img w.aside x y a
  event_steady (Abort key) new p img a is = steady_same l img w.aside x y a
  event_steady (Free key group) new p img a is = steady_same l img w.aside x y a
  event_steady (Fetch key failed) new p img a is = steady_same l img w.aside x y a
  event_steady (Offline leaf) new p img a is = steady_same l img w.aside x y a
  event_steady (Online leaf) new p img a is = steady_same l img w.aside x y a
  event_steady (Attach slot arm) new p img a is = steady_same l img w.aside x y a
  event_steady (Detach slot arm) new p img a is = steady_same l img w.aside x y a
  event_steady Upgrade new p img a is = steady_same l img w.aside x y a
  event_steady (Close group) new p img a is = steady_same l img w.aside x y a
  event_steady (Plan kind) new p img a is = steady_same l img w.aside x y a
  event_steady Ready new p img a is = steady_same l img w.aside x y a
  event_steady (Lend failed) new p img a is = steady_same l img w.aside x y a
  event_steady Cancel new p img a is = steady_same l img w.aside x y a
  event_steady (Put key landed failed) new p img a is = put_steady l lay w new reached key landed failed p written x y a img w.aside is
  event_steady (Damage leaf sector failed) new p img a is = damage_steady l lay w reached leaf sector failed x y a img is
  event_steady (Seal group failed) new p img a is = seal_steady l lay w new group failed p reached x y a img w.aside
  event_steady (Commit group) new p img a is = subst (λ i. Steady l i w.aside x y) is (commit_steady l lay w new group p reached x y a w.aside)
  event_steady (LandStripe pass serial failed) new p img a is = stripe_steady l lay w new reached pass serial failed.items p written x y (nat_lt l.parity (unsourced l p.n)) a img w.aside is
  event_steady (LandBlock pass serial failed patched unreadable) new p img a is = block_steady l lay w reached pass serial failed.items patched.items written x y img is unreadable new p a
  event_steady (Done failed) new p img a is = done_steady l lay w new sound failed.items p x y a img w.aside
  event_steady (Reopen group doubtful) new p img a is = subst (λ i. Steady l i w.aside x y) is (open_steady l lay w p.image doubtful.items reached (is_image l lay w p.image group p.one) x y a w.aside)

  -- an image is firm before the call and after it, but for what is in doubt inside
  module _ (pieces : Pieces) (b : Backed l pieces w x) where
    abbrev Both : Pieces → Image → (Segment → Bool) → Type 0
    Both after img doubt = Firm l pieces img doubt x × Firm l after img doubt y

    resting : (img : Image) → IsImage w img → y ≡ x → Both pieces img w.aside
    resting img is a = (b.images img is, subst (λ z. Firm l pieces img w.aside z) (sym a) (b.images img is))

    pub event_firm : (e : Event) (new : State) (step : Step l w e new) (img : Image) → Acts l w e new step written x y → WritesPieces l w e new step pieces written → IsMeant l w e new step img
        → Firm l pieces img (doubted l w e new step) x × Firm l (pieces_after l w e new step pieces written) img (doubted l w e new step) y
    event_firm (Begin key first stripes len birth digest) new p img a k is = resting img is a
    event_firm (Finish key) new p img a k is = resting img is a
    event_firm (Abort key) new p img a k is = resting img is a
    event_firm (Free key group) new p img a k is = resting img is a
    event_firm (Fetch key failed) new p img a k is = resting img is a
    event_firm (Offline leaf) new p img a k is = resting img is a
    event_firm (Online leaf) new p img a k is = resting img is a
    event_firm (Attach slot arm) new p img a k is = resting img is a
    event_firm (Detach slot arm) new p img a k is = resting img is a
    event_firm Upgrade new p img a k is = resting img is a
    event_firm (Close group) new p img a k is = resting img is a
    event_firm (Plan kind) new p img a k is = resting img is a
    event_firm Ready new p img a k is = resting img is a
    event_firm (Lend failed) new p img a k is = resting img is a
    event_firm Cancel new p img a k is = resting img is a
    event_firm (Put key landed failed) new p img a k is = (b.images img is, put_firm l lay w new reached key landed failed p written x y a pieces img w.aside is (b.images img is))
    event_firm (Damage leaf sector failed) new p img a k is =
        let doubt : Segment → Bool = λ s. w.aside s || is_there l leaf sector s (w.core.held s.key) in
        let f = firm_doubt l pieces img w.aside doubt x (λ s h held claim sure. less (w.aside s) (is_there l leaf sector s (w.core.held s.key)) sure) (b.images img is) in
        (f, damage_firm l lay w reached leaf sector failed x y a pieces img doubt f)
    event_firm (Seal group failed) new p img a k is = (b.images img is, seal_firm_before l lay w new group failed p reached x y a pieces img w.aside (b.images img is))
    event_firm (Commit group) new p img a k is =
        let f = b.images p.image (inr p.sealed) in
        subst (λ i. Both pieces i w.aside) is (f, commit_firm l lay w new group p reached x y a pieces w.aside f)
    event_firm (LandStripe pass serial failed) new p img a k is = (b.images img is, stripe_firm l lay w new reached pass serial failed.items p written x y pieces (nat_lt l.parity (unsourced l p.n)) a img w.aside is (b.images img is))
    event_firm (LandBlock pass serial failed patched true) new p img a k is =
        let doubt : Segment → Bool = λ s. w.aside s || is_written l w.core p.n p.h patched.items s || new.aside s in
        let f = firm_doubt l pieces img w.aside doubt x (λ s h held claim sure. less (w.aside s) (is_written l w.core p.n p.h patched.items s) (less (w.aside s || is_written l w.core p.n p.h patched.items s) (new.aside s) sure)) (b.images img is) in
        (f, subst (λ z. Firm l pieces img doubt z) (sym a) f)
    event_firm (LandBlock pass serial failed patched false) new p img a k is =
        let doubt : Segment → Bool = λ s. w.aside s || is_written l w.core p.n p.h patched.items s || new.aside s in (
          firm_doubt l pieces img w.aside doubt x (λ s h held claim sure. less (w.aside s) (is_written l w.core p.n p.h patched.items s) (less (w.aside s || is_written l w.core p.n p.h patched.items s) (new.aside s) sure)) (b.images img is),
          firm_doubt l (if p.whole then written else pieces) img new.aside doubt y (λ s h held claim sure. more (w.aside s || is_written l w.core p.n p.h patched.items s) (new.aside s) sure)
              (subst (λ (v : State). Firm l (if p.whole then written else pieces) img v.aside y) (sym p.made) (heal_firm l lay w new reached pass serial failed.items patched.items p written x y a pieces k b img is)),
        )
    event_firm (Done failed) new p img a k is = (b.images img is, done_firm l lay w new sound failed.items p x y a pieces img w.aside (b.images img is))
    event_firm (Reopen group doubtful) new p img a k is =
        let image = is_image l lay w p.image group p.one in
        let f = b.images p.image image in
        subst (λ i. Both pieces i w.aside) is (f, open_firm l lay w p.image doubtful.items reached image x y a pieces w.aside f)

    pub event_moments : (e : Event) (new : State) (step : Step l w e new) (img : Image) → Acts l w e new step written x y → WritesPieces l w e new step pieces written → IsMeant l w e new step img
        → IsOrderly x → FirmThrough l (pieces_after l w e new step pieces written) img (doubted l w e new step) x y
    event_moments e new step img a k is orderly =
        let f = event_firm e new step img a k is in
        steady_through l pieces (pieces_after l w e new step pieces written) img (doubted l w e new step) x y orderly (event_steady e new step img a is) f.0 f.1
