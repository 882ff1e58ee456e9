-- What a cancel does to a metaslab in a hold, and that it keeps to what every hold keeps to.
use Rattle.std.proofs.Common.{◌≡◌, ◌≤◌, ◌∙◌, arith, inl, ℕ, Bool, true, false, Option, None, Some, not, refl, sym, ap, subst}
use Rattle.std.specs.Prelude.{is_some}
use Rattle.std.proofs.lemmas.Bool.{true≢false}
use Rattle.draid_rack.specs.declared.Rack as racks
use Rattle.draid_area.specs.declared.Area as areas
use Rattle.draid_machine.specs.declared.event.Event.TheVariants as event
use Rattle.draid_machine.specs.State as machine
use Rattle.draid_machine.specs.Step.{CancelStep}
use Rattle.draid_pass.specs.declared.pass.Pass.{Pass}
use Rattle.draid_perm.specs.declared.perms.Perms.{Perms}
use Rattle.draid_segments.specs.Segments.{Pieces}
use Rattle.draid_session.specs.Follows.{MetaslabActs}
use Rattle.draid_session.specs.Holds.{Act, Did, Looked, On, view_of}
use Rattle.draid_session.specs.Passes as passes
use Rattle.draid_session.specs.State.{Metaslab}
use Rattle.draid_shard.specs.Alike.{KeepsArms}
use Rattle.draid_shard.specs.Calls.{ActsOn, SameKit, SameReserve}
use Rattle.draid_shard.specs.Changes.{KeepsBlocks}
use Rattle.draid_shard.specs.Fits.{Valid}
use Rattle.draid_shard.specs.Part.{layout_in}
use Rattle.draid_shard.specs.States.{Does}
use Rattle.draid_shard.specs.declared.shard.Shard.{Shard}
use Rattle.draid_shard.proofs.Changed.{same_arms, same_entries}
use Rattle.draid_pool.specs.Drifts.{KeepsTo, is_other, passes_number}
use Rattle.draid_pool.specs.Shards.{KeepsImages}
use Rattle.draid_pool.proofs.Drifting.{groups_by, groups_kept}
use Rattle.draid_pool.proofs.GroupKeeps.{turns_go}
use Rattle.draid_pool.proofs.Imaged.{keeps_same}
use Rattle.draid_pool.proofs.Rises.{records_same}
use Rattle.draid_spec.specs.declared.layout.Geometry.{Geometry}
use Rattle.draid_visits.specs.Cancelling.{CancelsIn, passes_of}
use Rattle.draid_visits.proofs.Cancelled.{none_ended, pass_ended}

-- ---- how many passes there are

pub one_at_most : (o : Option Pass) → passes_of o ≤ 1
one_at_most None = omega arith
one_at_most (Some pass) = omega arith

pub is_absent : (o : Option Pass) (none : Bool) → is_some o ≡ not none → none ≡ true → o ≡ None
is_absent None none is true_is = refl
is_absent (Some pass) none is true_is = absurd (true≢false (is ∙ ap not true_is))

pub is_one : (o : Option Pass) (none : Bool) → is_some o ≡ not none → none ≡ false → 1 ≡ passes_of o
is_one None none is false_is = absurd (true≢false (sym (is ∙ ap not false_is)))
is_one (Some pass) none is false_is = refl

-- ---- states

same_low : (n : ℕ) → n ≤ n
same_low n = omega arith

cancel_state : (w v : machine.State) → CancelStep w v → KeepsImages w v
cancel_state w v step =
    subst (KeepsImages w) (sym step.made) (record { image = refl; sealed = refl; leaves = λ leaf some. some; asked = refl; arms = record { order = λ slot. refl; arms = λ n. refl }; opens = same_low w.open_group })

-- a cancel leaves the images
cancel_images : (geometry : Geometry) (perms : Perms) (l : machine.Layout) (m ended : ℕ) (x z : Metaslab) (act : Act) → MetaslabActs l act x z → passes.CancelsAt geometry perms m (On (view_of m x) act) ended → KeepsImages x.world z.world
cancel_images geometry perms l m ended x z (Did event.Cancel w) acts is = subst (KeepsImages x.world) (sym acts.world) (cancel_state x.world w acts.legal)
cancel_images geometry perms l m ended x z Looked acts is = subst (λ (v : Metaslab). KeepsImages x.world v.world) (sym acts) (keeps_same x.world)
cancel_images geometry perms l m ended x z act acts is = absurd is

-- ---- one hold

-- a hold that concerns the passes may change them
pub pass_may_go : {P : Type 0} → is_other (Some passes_number) passes_number ≡ true → P
pass_may_go is = absurd (true≢false (sym is))

module _ {R A : Type 0} (rack : racks.Ghosts R) (area : areas.Ghosts A) where
  -- there was none
  pub cancels_none : (x : Shard R A) → Valid rack x → x.pass ≡ None → CancelsIn rack area x 0 x
  cancels_none x valid none = record {
    valid = valid;
    part = refl;
    blocks = record { entries = same_entries x.entries; groups = record { open_group_is = refl; closing = refl; sealed = refl; committed = refl } };
    groups = groups_kept x;
    areas_are = record { even = refl; odd = refl };
    ended_are = sym (ap passes_of none);
    none = none;
    turns = λ part pieces u is. none_ended rack area part pieces u x is none;
  }

  -- one ended
  pub cancels_one : (x y : Shard R A) → Valid rack y → Does x y event.Cancel → ((pieces : Pieces) → ActsOn rack x y event.Cancel pieces) → SameKit x y → KeepsBlocks x y → y.slots ≡ x.slots → SameReserve x y → y.pass ≡ None
      → 1 ≡ passes_of x.pass → CancelsIn rack area x 1 y
  cancels_one x y valid does acts kit blocks slots reserve none one = record {
    valid = valid;
    part = does.part;
    blocks = blocks;
    groups = groups_by x y blocks.groups (subst (λ s. KeepsArms x.slots s) (sym slots) (same_arms x.slots)) reserve.reserved;
    areas_are = kit.areas;
    ended_are = one;
    none = none;
    turns = λ part pieces u is. pass_ended rack area part pieces u x y is valid does (acts pieces) kit reserve;
  }

  pub cancels_keep : (x y : Shard R A) (ended : ℕ) → CancelsIn rack area x ended y → KeepsTo rack area x y (Some passes_number)
  cancels_keep x y ended c = record {
    valid = c.valid;
    part = c.part;
    later = (let same = c.blocks.groups.committed in omega (arith, same));
    opens = (let same = c.blocks.groups.open_group_is in omega (arith, same));
    groups = λ other. c.groups;
    passes = λ is. pass_may_go is;
    others = record { each = λ key own. inl (c.blocks.entries.held key) };
    areas = records_same area.faults x y c.areas_are;
    state = λ part pieces u is. turns_go rack area (is_other (Some passes_number)) part pieces u y _ (c.turns part pieces u is) (λ mine. cancel_images part.geometry part.perms (layout_in part) part.number ended u (c.turns part pieces u is).reached (c.turns part pieces u is).act (c.turns part pieces u is).acts (c.turns part pieces u is).done.0);
  }
