-- Who is offline stays so as a group is closed, sealed and committed in a metaslab.
use Rattle.std.proofs.Common.{◌≡◌, ◌∙◌, ℕ, Bool, true, false, Option, Some, None, refl, sym, ap, subst, if◌then◌else◌}
use Rattle.std.specs.Prelude.{option_map}
use Rattle.draid_spec.specs.declared.layout.Geometry.{Geometry}
use Rattle.draid_perm.specs.declared.perms.Perms.{Perms}
use Rattle.draid_machine.specs.declared.event.Event.TheVariants as event
use Rattle.draid_machine.specs.declared.names.ArmName.TheVariants.{Leaf}
use Rattle.draid_machine.specs.After.{map_arm}
use Rattle.draid_machine.specs.State as machine
use Rattle.draid_session.specs.Follows.{MetaslabActs}
use Rattle.draid_session.specs.Groups as groups
use Rattle.draid_session.specs.Holds.{Act, AreaFailed, CallStarved, Did, Looked, MadeLeaf, On, RackFailed, Reserved, View}
use Rattle.draid_session.specs.Phases.{End}
use Rattle.draid_session.specs.State.{Metaslab}
use Rattle.draid_pool.specs.Importable.{SameArms, bare}

-- a leaf that is an arm was one, and is offline as it was
abbrev pub KeepsSwitches : machine.State → machine.State → Type 0
KeepsSwitches old new = (leaf : ℕ) (a : machine.Arm) → new.core.arm (Leaf leaf) ≡ Some a → (b : machine.Arm) × (old.core.arm (Leaf leaf) ≡ Some b) × (b.offline ≡ a.offline)

pub switches_self : (w : machine.State) → KeepsSwitches w w
switches_self w leaf a there = (a, there, refl)

pub switches_same : (w v : machine.State) → v ≡ w → KeepsSwitches w v
switches_same w v same = subst (KeepsSwitches w) (sym same) (switches_self w)

pub switches_then : (u v w : machine.State) → KeepsSwitches u v → KeepsSwitches v w → KeepsSwitches u w
switches_then u v w one two leaf a there =
    let x = two leaf a there in
    let y = one leaf x.0 x.1 in
    (y.0, y.1, y.2 ∙ x.2)

one_bare : (a b : machine.Arm) → Some (bare a) ≡ Some (bare b) → b.offline ≡ a.offline
one_bare a b is = (let same : bare a ≡ bare b = cc in sym (ap (λ (c : machine.Arm). c.offline) same))

by_bare : (o p : Option machine.Arm) (a : machine.Arm) → option_map bare o ≡ option_map bare p → o ≡ Some a → (b : machine.Arm) × (p ≡ Some b) × (b.offline ≡ a.offline)
by_bare None p a same there = absurd (cc)
by_bare (Some c) None a same there = absurd (cc)
by_bare (Some c) (Some b) a same there = (let is : c ≡ a = cc in (b, refl, one_bare c b same ∙ ap (λ (d : machine.Arm). d.offline) is))

-- where the arms are the same
pub switches_arms : (w v : machine.State) → SameArms v.core w.core → KeepsSwitches w v
switches_arms w v same leaf a there = by_bare (v.core.arm (Leaf leaf)) (w.core.arm (Leaf leaf)) a (same.arms (Leaf leaf)) there

by_map : (f : machine.Arm → machine.Arm) (o : Option machine.Arm) (a : machine.Arm) → ((b : machine.Arm) → (f b).offline ≡ b.offline) → map_arm f o ≡ Some a → (b : machine.Arm) × (o ≡ Some b) × (b.offline ≡ a.offline)
by_map f None a keeps there = absurd (cc)
by_map f (Some b) a keeps there = (let is : f b ≡ a = cc in (b, refl, sym (keeps b) ∙ ap (λ (d : machine.Arm). d.offline) is))

by_keep : (t : Bool) (o : Option machine.Arm) (a : machine.Arm) → (if t then None else o) ≡ Some a → (b : machine.Arm) × (o ≡ Some b) × (b.offline ≡ a.offline)
by_keep true o a there = absurd (cc)
by_keep false o a there = (a, there, refl)

module _ (geometry : Geometry) (perms : Perms) (group m : ℕ) (l : machine.Layout) (v : View) (y z : Metaslab) where
  adds_by : (w s : machine.State) → z.world ≡ w → w ≡ s → KeepsSwitches y.world s → KeepsSwitches y.world z.world
  adds_by w s world made keeps = subst (KeepsSwitches y.world) (sym (world ∙ made)) keeps

  looks_by : z ≡ y → KeepsSwitches y.world z.world
  looks_by same = switches_same y.world z.world (ap (λ (u : Metaslab). u.world) same)

  -- as a group is closed
  pub close_switches : (act : Act) (n : ℕ) → MetaslabActs l act y z → groups.Closes geometry perms group m (On v act) n → KeepsSwitches y.world z.world
  close_switches (Did (event.Begin key first stripes len birth digest) w) n acts is = absurd is
  close_switches (Did (event.Put key landed failed) w) n acts is = absurd is
  close_switches (Did (event.Finish key) w) n acts is = absurd is
  close_switches (Did (event.Abort key) w) n acts is = absurd is
  close_switches (Did (event.Free key g) w) n acts is = absurd is
  close_switches (Did (event.Fetch key failed) w) n acts is = absurd is
  close_switches (Did (event.Damage leaf sector failed) w) n acts is = absurd is
  close_switches (Did (event.Offline leaf) w) n acts is = absurd is
  close_switches (Did (event.Online leaf) w) n acts is = absurd is
  close_switches (Did (event.Attach slot arm) w) n acts is = absurd is
  close_switches (Did (event.Detach slot arm) w) n acts is = absurd is
  close_switches (Did event.Upgrade w) n acts is = absurd is
  close_switches (Did (event.Close g) w) n acts is = adds_by w _ acts.world acts.legal.made (switches_self y.world)
  close_switches (Did (event.Seal g failed) w) n acts is = absurd is
  close_switches (Did (event.Commit g) w) n acts is = absurd is
  close_switches (Did (event.Plan kind) w) n acts is = absurd is
  close_switches (Did event.Ready w) n acts is = absurd is
  close_switches (Did (event.Lend failed) w) n acts is = absurd is
  close_switches (Did (event.LandStripe pass serial failed) w) n acts is = absurd is
  close_switches (Did (event.LandBlock pass serial failed patched unreadable) w) n acts is = absurd is
  close_switches (Did (event.Done failed) w) n acts is = absurd is
  close_switches (Did event.Cancel w) n acts is = absurd is
  close_switches (Did (event.Reopen g doubtful) w) n acts is = absurd is
  close_switches Looked n acts is = looks_by acts
  close_switches (Reserved k) n acts is = absurd is
  close_switches (MadeLeaf leaf) n acts is = absurd is
  close_switches (AreaFailed g) n acts is = absurd is
  close_switches RackFailed n acts is = absurd is
  close_switches CallStarved n acts is = absurd is

  -- as one is sealed
  pub seal_switches : (act : Act) (n : ℕ) → MetaslabActs l act y z → groups.Seals geometry perms group m (On v act) n → KeepsSwitches y.world z.world
  seal_switches (Did (event.Begin key first stripes len birth digest) w) n acts is = absurd is
  seal_switches (Did (event.Put key landed failed) w) n acts is = absurd is
  seal_switches (Did (event.Finish key) w) n acts is = absurd is
  seal_switches (Did (event.Abort key) w) n acts is = absurd is
  seal_switches (Did (event.Free key g) w) n acts is = absurd is
  seal_switches (Did (event.Fetch key failed) w) n acts is = absurd is
  seal_switches (Did (event.Damage leaf sector failed) w) n acts is = absurd is
  seal_switches (Did (event.Offline leaf) w) n acts is = absurd is
  seal_switches (Did (event.Online leaf) w) n acts is = absurd is
  seal_switches (Did (event.Attach slot arm) w) n acts is = absurd is
  seal_switches (Did (event.Detach slot arm) w) n acts is = absurd is
  seal_switches (Did event.Upgrade w) n acts is = absurd is
  seal_switches (Did (event.Close g) w) n acts is = absurd is
  seal_switches (Did (event.Seal g failed) w) n acts is = adds_by w _ acts.world acts.legal.made (λ leaf a there. by_map _ (y.world.core.arm (Leaf leaf)) a (λ b. refl) there)
  seal_switches (Did (event.Commit g) w) n acts is = absurd is
  seal_switches (Did (event.Plan kind) w) n acts is = absurd is
  seal_switches (Did event.Ready w) n acts is = absurd is
  seal_switches (Did (event.Lend failed) w) n acts is = absurd is
  seal_switches (Did (event.LandStripe pass serial failed) w) n acts is = absurd is
  seal_switches (Did (event.LandBlock pass serial failed patched unreadable) w) n acts is = absurd is
  seal_switches (Did (event.Done failed) w) n acts is = absurd is
  seal_switches (Did event.Cancel w) n acts is = absurd is
  seal_switches (Did (event.Reopen g doubtful) w) n acts is = absurd is
  seal_switches Looked n acts is = looks_by acts
  seal_switches (Reserved k) n acts is = absurd is
  seal_switches (MadeLeaf leaf) n acts is = absurd is
  seal_switches (AreaFailed g) n acts is = absurd is
  seal_switches RackFailed n acts is = absurd is
  seal_switches CallStarved n acts is = absurd is

  -- as one is committed
  pub commit_switches : (act : Act) → MetaslabActs l act y z → groups.Commits geometry perms group m (On v act) → KeepsSwitches y.world z.world
  commit_switches (Did (event.Begin key first stripes len birth digest) w) acts is = absurd is
  commit_switches (Did (event.Put key landed failed) w) acts is = absurd is
  commit_switches (Did (event.Finish key) w) acts is = absurd is
  commit_switches (Did (event.Abort key) w) acts is = absurd is
  commit_switches (Did (event.Free key g) w) acts is = absurd is
  commit_switches (Did (event.Fetch key failed) w) acts is = absurd is
  commit_switches (Did (event.Damage leaf sector failed) w) acts is = absurd is
  commit_switches (Did (event.Offline leaf) w) acts is = absurd is
  commit_switches (Did (event.Online leaf) w) acts is = absurd is
  commit_switches (Did (event.Attach slot arm) w) acts is = absurd is
  commit_switches (Did (event.Detach slot arm) w) acts is = absurd is
  commit_switches (Did event.Upgrade w) acts is = absurd is
  commit_switches (Did (event.Close g) w) acts is = absurd is
  commit_switches (Did (event.Seal g failed) w) acts is = absurd is
  commit_switches (Did (event.Commit g) w) acts is = adds_by w _ acts.world acts.legal.made (λ leaf a there. by_keep _ (y.world.core.arm (Leaf leaf)) a there)
  commit_switches (Did (event.Plan kind) w) acts is = absurd is
  commit_switches (Did event.Ready w) acts is = absurd is
  commit_switches (Did (event.Lend failed) w) acts is = absurd is
  commit_switches (Did (event.LandStripe pass serial failed) w) acts is = absurd is
  commit_switches (Did (event.LandBlock pass serial failed patched unreadable) w) acts is = absurd is
  commit_switches (Did (event.Done failed) w) acts is = absurd is
  commit_switches (Did event.Cancel w) acts is = absurd is
  commit_switches (Did (event.Reopen g doubtful) w) acts is = absurd is
  commit_switches Looked acts is = absurd is
  commit_switches (Reserved k) acts is = absurd is
  commit_switches (MadeLeaf leaf) acts is = absurd is
  commit_switches (AreaFailed g) acts is = absurd is
  commit_switches RackFailed acts is = absurd is
  commit_switches CallStarved acts is = absurd is

  -- as its closing is stopped
  pub close_stop_switches : (act : Act) (end : End) → MetaslabActs l act y z → groups.CloseStops geometry perms group m (On v act) end → KeepsSwitches y.world z.world
  close_stop_switches Looked end acts is = looks_by acts
  close_stop_switches (Did e w) end acts is = absurd is
  close_stop_switches (Reserved k) end acts is = absurd is
  close_stop_switches (MadeLeaf leaf) end acts is = absurd is
  close_stop_switches (AreaFailed g) end acts is = absurd is
  close_stop_switches RackFailed end acts is = absurd is
  close_stop_switches CallStarved end acts is = absurd is

  -- as its sealing is stopped
  pub seal_stop_switches : (act : Act) (end : End) → MetaslabActs l act y z → groups.SealStops geometry perms group m (On v act) end → KeepsSwitches y.world z.world
  seal_stop_switches (AreaFailed g) end acts is = switches_same y.world z.world acts.0.world
  seal_stop_switches CallStarved end acts is = switches_same y.world z.world acts.0.world
  seal_stop_switches Looked end acts is = absurd is
  seal_stop_switches (Did e w) end acts is = absurd is
  seal_stop_switches (Reserved k) end acts is = absurd is
  seal_stop_switches (MadeLeaf leaf) end acts is = absurd is
  seal_stop_switches RackFailed end acts is = absurd is
