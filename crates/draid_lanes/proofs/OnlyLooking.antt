-- Which holds of a sync only look: those that close what is closing already, and seal what is sealed.
use Rattle.std.proofs.Common.{◌≡◌, ◌∙◌, ℕ, true, Option, Some, None, Ok, refl, sym, ap, subst}
use Rattle.std.specs.Prelude.{is_some}
use Rattle.draid_rack.specs.declared.Rack as racks
use Rattle.draid_area.specs.declared.Area as areas
use Rattle.draid_spec.specs.declared.layout.Geometry.{Geometry}
use Rattle.draid_perm.specs.declared.perms.Perms.{Perms}
use Rattle.draid_machine.specs.declared.event.Event.TheVariants as event
use Rattle.draid_machine.specs.State as machine
use Rattle.draid_machine.proofs.Small.{none_some}
use Rattle.draid_segments.specs.Segments.{Pieces}
use Rattle.draid_session.specs.Follows.{MetaslabActs}
use Rattle.draid_session.specs.Groups as groups
use Rattle.draid_session.specs.Holds.{Act, AreaFailed, CallStarved, Did, Hold, Looked, MadeLeaf, On, RackFailed, Reserved, View, view_of}
use Rattle.draid_session.specs.Lanes.{IsLookOnly}
use Rattle.draid_session.specs.State.{Metaslab}
use Rattle.draid_shard.specs.Part.{Part, layout_in}
use Rattle.draid_shard.specs.declared.shard.Shard.{Shard}
use Rattle.draid_pool.specs.Grouping.{ClosesIn, SealsBy}
use Rattle.draid_pool.specs.Metaslabs.{IsMetaslab}
use Rattle.draid_pool.specs.Syncing.{Turns}

some_none : (o : Option machine.Image) → is_some o ≡ true → o ≡ None → ⊥
some_none None is none = absurd (cc)
some_none (Some image) is none = absurd (cc)

module _ (geometry : Geometry) (perms : Perms) (group m : ℕ) (l : machine.Layout) (v : View) (y z : Metaslab) where
  -- where a group is closing none is closed
  close_looks_by : (act : Act) (n t : ℕ) → MetaslabActs l act y z → y.world.closing ≡ Some t → groups.Closes geometry perms group m (On v act) n → act ≡ Looked
  close_looks_by (Did (event.Begin key first stripes len birth digest) w) n t acts there is = absurd is
  close_looks_by (Did (event.Put key landed failed) w) n t acts there is = absurd is
  close_looks_by (Did (event.Finish key) w) n t acts there is = absurd is
  close_looks_by (Did (event.Abort key) w) n t acts there is = absurd is
  close_looks_by (Did (event.Free key g) w) n t acts there is = absurd is
  close_looks_by (Did (event.Fetch key failed) w) n t acts there is = absurd is
  close_looks_by (Did (event.Damage leaf sector failed) w) n t acts there is = absurd is
  close_looks_by (Did (event.Offline leaf) w) n t acts there is = absurd is
  close_looks_by (Did (event.Online leaf) w) n t acts there is = absurd is
  close_looks_by (Did (event.Attach slot arm) w) n t acts there is = absurd is
  close_looks_by (Did (event.Detach slot arm) w) n t acts there is = absurd is
  close_looks_by (Did event.Upgrade w) n t acts there is = absurd is
  close_looks_by (Did (event.Close g) w) n t acts there is = absurd (none_some y.world.closing t acts.legal.idle there)
  close_looks_by (Did (event.Seal g failed) w) n t acts there is = absurd is
  close_looks_by (Did (event.Commit g) w) n t acts there is = absurd is
  close_looks_by (Did (event.Plan kind) w) n t acts there is = absurd is
  close_looks_by (Did event.Ready w) n t acts there is = absurd is
  close_looks_by (Did (event.Lend failed) w) n t acts there is = absurd is
  close_looks_by (Did (event.LandStripe pass serial failed) w) n t acts there is = absurd is
  close_looks_by (Did (event.LandBlock pass serial failed patched unreadable) w) n t acts there is = absurd is
  close_looks_by (Did (event.Done failed) w) n t acts there is = absurd is
  close_looks_by (Did event.Cancel w) n t acts there is = absurd is
  close_looks_by (Did (event.Reopen g doubtful) w) n t acts there is = absurd is
  close_looks_by Looked n t acts there is = refl
  close_looks_by (Reserved k) n t acts there is = absurd is
  close_looks_by (MadeLeaf leaf) n t acts there is = absurd is
  close_looks_by (AreaFailed g) n t acts there is = absurd is
  close_looks_by RackFailed n t acts there is = absurd is
  close_looks_by CallStarved n t acts there is = absurd is

  -- where one is sealed none is sealed
  seal_looks_by : (act : Act) (n : ℕ) → MetaslabActs l act y z → is_some y.world.sealed ≡ true → groups.Seals geometry perms group m (On v act) n → act ≡ Looked
  seal_looks_by (Did (event.Begin key first stripes len birth digest) w) n acts there is = absurd is
  seal_looks_by (Did (event.Put key landed failed) w) n acts there is = absurd is
  seal_looks_by (Did (event.Finish key) w) n acts there is = absurd is
  seal_looks_by (Did (event.Abort key) w) n acts there is = absurd is
  seal_looks_by (Did (event.Free key g) w) n acts there is = absurd is
  seal_looks_by (Did (event.Fetch key failed) w) n acts there is = absurd is
  seal_looks_by (Did (event.Damage leaf sector failed) w) n acts there is = absurd is
  seal_looks_by (Did (event.Offline leaf) w) n acts there is = absurd is
  seal_looks_by (Did (event.Online leaf) w) n acts there is = absurd is
  seal_looks_by (Did (event.Attach slot arm) w) n acts there is = absurd is
  seal_looks_by (Did (event.Detach slot arm) w) n acts there is = absurd is
  seal_looks_by (Did event.Upgrade w) n acts there is = absurd is
  seal_looks_by (Did (event.Close g) w) n acts there is = absurd is
  seal_looks_by (Did (event.Seal g failed) w) n acts there is = absurd (some_none y.world.sealed there acts.legal.unsealed)
  seal_looks_by (Did (event.Commit g) w) n acts there is = absurd is
  seal_looks_by (Did (event.Plan kind) w) n acts there is = absurd is
  seal_looks_by (Did event.Ready w) n acts there is = absurd is
  seal_looks_by (Did (event.Lend failed) w) n acts there is = absurd is
  seal_looks_by (Did (event.LandStripe pass serial failed) w) n acts there is = absurd is
  seal_looks_by (Did (event.LandBlock pass serial failed patched unreadable) w) n acts there is = absurd is
  seal_looks_by (Did (event.Done failed) w) n acts there is = absurd is
  seal_looks_by (Did event.Cancel w) n acts there is = absurd is
  seal_looks_by (Did (event.Reopen g doubtful) w) n acts there is = absurd is
  seal_looks_by Looked n acts there is = refl
  seal_looks_by (Reserved k) n acts there is = absurd is
  seal_looks_by (MadeLeaf leaf) n acts there is = absurd is
  seal_looks_by (AreaFailed g) n acts there is = absurd is
  seal_looks_by RackFailed n acts there is = absurd is
  seal_looks_by CallStarved n acts there is = absurd is

module _ {R A : Type 0} (rack : racks.Ghosts R) (area : areas.Ghosts A) (part : Part) (pieces : Pieces) (before after : Shard R A) (y : Metaslab) (is : IsMetaslab rack area part pieces before y) where
  -- a hold that only looks
  abbrev pub Looks : Type 0
  Looks = Turns rack area part pieces y after (λ hold z. IsLookOnly hold)

  looks_at : (does : Hold → Metaslab → Type 0) (t : Turns rack area part pieces y after does) → t.act ≡ Looked → Looks
  looks_at does t look = record { act = t.act; reached = t.reached; acts = t.acts; done = look; is = t.is }

  pub close_looks : (group : ℕ) → before.closing ≡ Some group → ClosesIn rack area group before (Ok tt) after → Looks
  close_looks group closing c =
      let t = c.closes part pieces y is in
      looks_at _ t (close_looks_by part.geometry part.perms group part.number (layout_in part) (view_of part.number y) y t.reached t.act 0 group t.acts (is.stands.is_in.closing ∙ closing) t.done.0)

  pub seal_looks : (group n : ℕ) → before.sealed ≡ true → SealsBy rack area group before (Ok n) after → Looks
  seal_looks group n sealed s =
      let t = s.seals part pieces y is in
      looks_at _ t (seal_looks_by part.geometry part.perms group part.number (layout_in part) (view_of part.number y) y t.reached t.act n t.acts (is.stands.is_in.sealed ∙ sealed) t.done.0)

  pub same_looks : after ≡ before → Looks
  same_looks same = record { act = Looked; reached = y; acts = refl; done = refl; is = subst (λ s. IsMetaslab rack area part pieces s y) (sym same) is }

  -- what a look leaves
  pub record LeftSame : Type 0 where
    pub closing : after.closing ≡ before.closing
    pub sealed : after.sealed ≡ before.sealed
    pub committed : after.committed ≡ before.committed

  pub look_leaves : Looks → LeftSame
  look_leaves t = by t.act t.done t.acts
    where
      by : (act : Act) → act ≡ Looked → MetaslabActs (layout_in part) act y t.reached → LeftSame
      by act look acts =
          let same : t.reached ≡ y = subst (λ a. MetaslabActs (layout_in part) a y t.reached) look acts in
          let w = ap (λ (u : Metaslab). u.world) same in
          let now = t.is.stands.is_in in
          let was = is.stands.is_in in
          record {
            closing = sym now.closing ∙ (ap (λ (v : machine.State). v.closing) w ∙ was.closing);
            sealed = sym now.sealed ∙ (ap (λ (v : machine.State). is_some v.sealed) w ∙ was.sealed);
            committed = sym now.committed ∙ (ap (λ (v : machine.State). v.committed) w ∙ was.committed);
          }
