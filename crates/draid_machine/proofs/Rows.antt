-- Every legal event keeps what makes log soundness; so does every legal history.
use Rattle.std.proofs.Common.{◌≡◌, ◌≤◌, ◌⊎◌, ℕ, Bool, true, false, nat_lt, List, [], ◌∷◌, Option, Some, None, refl, sym, ◌∙◌, ap, subst, inl, inr, arith, if◌then◌else◌}
use Rattle.std.proofs.lemmas.Bool.{true≢false}
use Rattle.draid_machine.specs.declared.names.Key.{Key}
use Rattle.draid_machine.specs.declared.names.ArmName.{ArmName}
use Rattle.draid_machine.specs.declared.names.ArmName.TheVariants.{Leaf}
use Rattle.draid_machine.specs.declared.names.Stage.{Stage}
use Rattle.draid_machine.specs.declared.names.Stage.TheVariants.{Writing, Live, Freed}
use Rattle.draid_machine.specs.declared.names.Held.{Held}
use Rattle.draid_machine.specs.declared.event.Event.{Event}
use Rattle.draid_machine.specs.declared.event.Event.TheVariants.{Begin, Put, Finish, Abort, Free, Fetch, Damage, Offline, Online, Attach, Detach, Upgrade, Close, Seal, Commit, Plan, Ready, Lend, LandStripe, LandBlock, Done, Cancel, Reopen}
use Rattle.draid_machine.specs.Names.{has_name, is_block, is_put}
use Rattle.draid_machine.specs.State.{Layout, IsLayout, Pass, Loan, Image, State}
use Rattle.draid_machine.specs.Arms.{targets_of}
use Rattle.draid_machine.specs.After.{gone_state, live_state, finish_state}
use Rattle.draid_machine.specs.Images.{AreListed}
use Rattle.draid_machine.specs.Sound.{LogSound, CoreSound, ImageSound, Sound}
use Rattle.draid_machine.specs.Step.{Step, Run}
use Rattle.draid_machine.specs.Created.{created, IsReached}
use Rattle.draid_machine.proofs.Small.{some_injective, bool_cases, absurd_test, below, none_some}
use Rattle.draid_machine.proofs.Follows.{to_passed}
use Rattle.draid_machine.proofs.Calm.{gone_sound, free_sound, switch_sound, close_sound, cancel_sound, commit_sound}
use Rattle.draid_machine.proofs.Tickets.{begin_sound, put_sound, live_sound}
use Rattle.draid_machine.proofs.Passes.{plan_sound, ready_sound, lend_sound, done_sound}
use Rattle.draid_machine.proofs.Seals.{seal_sound, reopen_sound}
use Rattle.draid_machine.proofs.Landings.{stripe_sound, block_sound}
use Rattle.draid_machine.proofs.Moves.{attach_sound, detach_sound}
use Rattle.draid_machine.proofs.Listing.{Listed, step_listed, created_all}

module _ (l : Layout) (lay : IsLayout l) where
  image_some : (w : State) (img : Image) (t : ℕ) → Sound l w → ((w.image ≡ img) × (w.committed ≡ t)) ⊎ ((w.sealed ≡ Some img) × (w.closing ≡ Some t)) → ImageSound l img × (1 ≤ img.group)
  image_some w img t s (inl z) =
      let is = ap (λ (i : Image). i.group) (sym z.0) ∙ s.groups.image_is in
      let some = s.groups.some in
      (subst (λ i. ImageSound l i) z.0 s.image, omega (arith, is, some))
  image_some w img t s (inr z) =
      let is = (s.groups.closing_is img.group (s.groups.sealed_is img z.0)).0 in
      (s.sealed img z.0, omega (arith, is))

  finish_sound : (w : State) (k : Key) (h : Held) (m : ℕ) → w.core.held k ≡ Some h → h.stage ≡ Writing l.columns m → Sound l w → Sound l (finish_state l w k h m)
  finish_sound w k h m found stage s = by (nat_lt l.parity m)
    where
      by : (b : Bool) → Sound l (if b then gone_state w k else live_state w k h)
      by true = gone_sound l lay w k h found (ap is_block stage) s
      by false = live_sound l lay w k h m found stage s

  -- an arm that isn't there is no target
  no_target : (w : State) (n : ArmName) → w.core.arm n ≡ None → AreListed w.core → (p : Pass) → w.core.pass ≡ Some p → has_name p.targets n ≡ true → ⊥
  no_target w n unused listed p pass target =
      let slot = listed.targets p n pass target in
      let there = listed.data_of slot.0 n slot.1 in
      none_some (w.core.arm n) there.0 unused there.1

  pub step_sound : (w : State) (e : Event) (new : State) → Step l w e new → AreListed w.core → Sound l w → Sound l new
  step_sound w (Begin key first stripes len birth digest) new x listed s =
      subst (λ v. Sound l v) (sym x.made) (begin_sound l lay w key (record { first = first; stripes = stripes; len = len; birth = birth; digest = digest; stage = Writing 0 0 }) x.enabled x.unused x.fits x.birth refl s)
  step_sound w (Put key landed failed) new x listed s = subst (λ v. Sound l v) (sym x.made) (put_sound l lay w key landed x.h x.c x.m x.found x.stage s)
  step_sound w (Finish key) new x listed s = subst (λ v. Sound l v) (sym x.made) (finish_sound w key x.h x.m x.found x.stage s)
  step_sound w (Abort key) new x listed s = subst (λ v. Sound l v) (sym x.made) (gone_sound l lay w key x.h x.found x.ticket s)
  step_sound w (Free key group) new x listed s = subst (λ v. Sound l v) (sym x.made) (free_sound l lay w key x.h group x.found x.live s)
  step_sound w (Fetch key failed) new x listed s = subst (λ v. Sound l v) (sym x.made) s
  step_sound w (Damage leaf sector failed) new x listed s = subst (λ v. Sound l v) (sym x.made) s
  step_sound w (Offline leaf) new x listed s = subst (λ v. Sound l v) (sym x.made) (switch_sound l lay w (Leaf leaf) x.a true x.there.found s)
  step_sound w (Online leaf) new x listed s = subst (λ v. Sound l v) (sym x.made) (switch_sound l lay w (Leaf leaf) x.a false x.there.found s)
  step_sound w (Attach slot arm) new x listed s = subst (λ v. Sound l v) (sym x.made) (attach_sound l lay w s slot arm x.last x.last_is (no_target w arm x.unused listed))
  step_sound w (Detach slot arm) new x listed s = subst (λ v. Sound l v) (sym x.made) (detach_sound l lay w slot arm x.a x.last x.found x.idle x.last_is s)
  step_sound w Upgrade new x listed s =
      subst (λ v. Sound l v) (sym x.made) (record { core = s.core; groups = s.groups; loan = s.loan; covered = s.covered; image = s.image; sealed = s.sealed })
  step_sound w (Close group) new x listed s = subst (λ v. Sound l v) (sym x.made) (close_sound l lay w group x.open_group x.idle s)
  step_sound w (Seal group failed) new x listed s = subst (λ v. Sound l v) (sym x.made) (seal_sound l lay w group failed.items x.wrote x.closing x.unsealed x.settled s)
  step_sound w (Commit group) new x listed s = subst (λ v. Sound l v) (sym x.made) (commit_sound l lay w group x.image x.closing x.sealed s)
  step_sound w (Plan kind) new x listed s = subst (λ v. Sound l v) (sym x.made) (plan_sound l lay w kind (targets_of l w.core kind) x.idle s)
  step_sound w Ready new x listed s = subst (λ v. Sound l v) (sym x.made) (ready_sound l lay w x.p x.pass x.rebuild x.planned x.blocks x.births s)
  step_sound w (Lend failed) new x listed s = subst (λ v. Sound l v) (sym x.made) (lend_sound l lay w x.p x.h x.n failed.items x.pass x.running x.next s)
  step_sound w (LandStripe pass serial failed) new x listed s =
      subst (λ v. Sound l v) (sym x.made) (stripe_sound l lay w x.p x.n x.h failed.items x.counts.pass_is x.counts.loan x.counts.found s x.rebuild)
  step_sound w (LandBlock pass serial failed patched unreadable) new x listed s =
      subst (λ v. Sound l v) (sym x.made) (block_sound l lay w x.p x.n x.h failed.items x.counts.pass_is x.counts.loan x.counts.found s patched.items unreadable x.whole x.lands)
  step_sound w (Done failed) new x listed s = subst (λ v. Sound l v) (sym x.made) (done_sound l lay w x.p failed.items x.pass x.running x.finished x.idle s)
  step_sound w Cancel new x listed s = subst (λ v. Sound l v) (sym x.made) (cancel_sound l lay w s)
  step_sound w (Reopen group doubtful) new x listed s =
      let i = image_some w x.image group s x.one in
      subst (λ v. Sound l v) (sym x.made) (reopen_sound l lay w x.image doubtful.items i.0 i.1)

  pub run_sound : (w : State) (es : List Event) (new : State) → Run l w es new → Listed w → Sound l w → Sound l new
  run_sound w [] new is listed s = subst (λ v. Sound l v) (sym is) s
  run_sound w (e ∷ es) new r listed s = run_sound r.0 es new r.2 (step_listed l lay w e r.0 r.1 listed) (step_sound w e r.0 r.1 listed.core s)

  put_block : (st : Stage) (c : ℕ) → is_block st ≡ true → is_put st c ≡ true
  put_block (Writing a b) c e = absurd (true≢false (sym e))
  put_block Live c e = refl
  put_block (Freed x) c e = refl

  -- log soundness follows
  pub is_log_sound : (w : State) → Sound l w → LogSound l w
  is_log_sound w s = record {
    clean = λ g h a on block clean. s.covered g (record { h = h; a = a; on = on; put = put_block h.stage g.column block; why = inl clean });
    passed = λ p g h a pass running errors on block target max next.
        s.covered g (record {
          h = h;
          a = a;
          on = on;
          put = put_block h.stage g.column block;
          why = inr (block, to_passed w.core.pass g.arm h g.row (record { p = p; pass = pass; running = running; errors = errors; target = target; max = max; next = next }));
        });
    put = λ g h a c m on stage less. elim (bool_cases (a.log h.birth)) [
      | inl logged ↦ inr logged
      | inr clean ↦ inl (s.covered g (record { h = h; a = a; on = on; put = subst (λ st. is_put st g.column ≡ true) (sym stage) (below g.column c less); why = inl clean }))
    ];
    apart = s.core.apart;
    births = s.core.births;
    tickets = s.core.tickets;
    targets = s.core.targets;
    quiet = s.core.quiet;
    planned = λ p pass idle. ((s.core.planned p pass idle).1, no_loan p pass idle w.loan refl);
  }
    where
      no_loan : (p : Pass) → w.core.pass ≡ Some p → p.running ≡ false → (o : Option Loan) → w.loan ≡ o → o ≡ None
      no_loan p pass idle None e = refl
      no_loan p pass idle (Some n) e =
          let z = s.loan n e in
          absurd_test p.running (ap (λ (x : Pass). x.running) (some_injective p z.p (sym pass ∙ z.pass)) ∙ z.running) idle

  -- ---- a created state
  pub created_sound : (version : ℕ) → Sound l (created l version)
  created_sound version = record {
    core = nothing 1 3;
    groups = record {
      some = omega arith;
      idle = λ e. (refl, refl);
      closing_is = λ t e. absurd (none_some None t refl e);
      sealed_is = λ img e. absurd (none_some None img refl e);
      image_is = refl;
      tickets = λ img k h e. absurd (none_some None img refl e);
    };
    loan = λ n e. absurd (none_some None n refl e);
    covered = λ g c. absurd (none_some None c.h refl c.on.held);
    image = record { core = nothing 1 1; blocks = λ k h e. absurd (none_some None h refl e) };
    sealed = λ img e. absurd (none_some None img refl e);
  }
    where
      nothing : (committed top : ℕ) → CoreSound l committed top (created l version).core
      nothing committed top = record {
        apart = λ k j h i x e. absurd (none_some None h refl e);
        runs = λ k h r e. absurd (none_some None h refl e);
        inside = λ k h e. absurd (none_some None h refl e);
        some = λ k h e. absurd (none_some None h refl e);
        births = λ k h e. absurd (none_some None h refl e);
        tickets = λ k h e. absurd (none_some None h refl e);
        targets = λ p n a k h e. absurd (none_some None p refl e);
        quiet = λ p k h e. absurd (none_some None p refl e);
        planned = λ p e. absurd (none_some None p refl e);
        heal = λ p e. absurd (none_some None p refl e);
      }

  pub reached_sound : (w : State) → IsReached l w → Sound l w
  reached_sound w r = run_sound (created l r.version) r.events w r.run (created_all l lay r.version) (created_sound r.version)

pub every_history : (l : Layout) (w : State) → IsLayout l → IsReached l w → LogSound l w
every_history l w lay r = is_log_sound l lay w (reached_sound l lay w r)
