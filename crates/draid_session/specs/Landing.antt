-- What a landing of a scrub leaves alone.
use Rattle.std.specs.Prelude.{◌≡◌, ◌+◌, ◌<◌, not, ⊤, ℕ, zero, suc, Bool, true, false, List, Some, IsSome}
use Rattle.std.specs.List.{count_by}
use Rattle.draid_spec.specs.declared.layout.Geometry.{Geometry}
use Rattle.draid_perm.specs.declared.perms.Perms.{Perms}
use Rattle.draid_machine.specs.After.{was_written}
use Rattle.draid_machine.specs.Arms.{is_clean}
use Rattle.draid_machine.specs.Names.{has_name}
use Rattle.draid_machine.specs.State.{Core, Layout, Loan}
use Rattle.draid_machine.specs.declared.event.Event.TheVariants.{LandBlock}
use Rattle.draid_machine.specs.declared.event.Patched.{Patched}
use Rattle.draid_machine.specs.declared.names.ArmName.{ArmName}
use Rattle.draid_machine.specs.declared.names.Held.{Held}
use Rattle.draid_machine.specs.declared.names.Segment.{Segment}
use Rattle.draid_rack.specs.Rack.{Told}
use Rattle.draid_segments.specs.Acts.{is_on_clean}
use Rattle.draid_segments.specs.Segments.{Pieces, piece_of, reads_at}
use Rattle.draid_session.specs.Holds.{Did, Hold, On, View, layout_at}
use Rattle.draid_session.specs.Passes as passes

-- each segment of the lent block on an arm that is clean for it reads as its piece, which is known
abbrev pub ReadsRight : Layout → Core → Loan → Held → Pieces → Told → Type 0
ReadsRight l q n h pieces x = (s : Segment) → is_on_clean l q n h s ≡ true → IsSome (piece_of pieces s) × (reads_at l h s x ≡ piece_of pieces s)

-- nothing is written on an arm that is clean for the block
abbrev pub LeavesClean : Core → Held → List Patched → Type 0
LeavesClean q h patched = (c : ℕ) (n : ArmName) (r : ℕ) → was_written patched c n r ≡ true → is_clean q h.birth n ≡ false

-- how many arms of the first so many columns aren't clean for a block
abbrev pub dirty_arms : Layout → Core → Held → ℕ → ℕ
dirty_arms l q h zero = 0
dirty_arms l q h (suc c) = dirty_arms l q h c + count_by (λ n. not (is_clean q h.birth n)) (q.order (l.slot_of h.first c))

-- each column was taken from an arm that is clean for the block
abbrev pub TakesClean : Core → Loan → Held → Type 0
TakesClean q n h = (c : ℕ) (arm : ArmName) → n.chosen c ≡ Some arm → is_clean q h.birth arm ≡ true

-- each arm of the block's columns is clean for it
abbrev pub HasCleanArms : Layout → Core → Held → Type 0
HasCleanArms l q h = (c : ℕ) (arm : ArmName) → c < l.columns → has_name (q.order (l.slot_of h.first c)) arm ≡ true → is_clean q h.birth arm ≡ true

module _ (geometry : Geometry) (perms : Perms) where
  -- By the harm that was told, no segment of a lent block on an arm that is clean for it is harmed or in doubt.
  pub record IsUnhurtBlock (v : View) (n : Loan) (h : Held) : Type 0 where
    pub harm : ℕ → ℕ → Bool
    pub told : v.harm ≡ Some harm
    pub sure : (s : Segment) → is_on_clean (layout_at geometry perms v) v.world.core n h s ≡ true → passes.IsUnsure geometry perms v h harm s → ⊥

  -- Where a block of a scrub lands, it is unhurt, and each arm of its columns is clean for it.
  abbrev pub FindsSound : Hold → Type 0
  FindsSound (On v (Did (LandBlock pass serial failed patched unreadable) w)) =
      (n : Loan) (h : Held) → v.world.loan ≡ Some n → v.world.core.held n.key ≡ Some h → IsUnhurtBlock v n h × HasCleanArms (layout_at geometry perms v) v.world.core h
  FindsSound hold = ⊤
