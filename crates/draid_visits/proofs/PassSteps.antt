-- What the events of a pass leave of a metaslab.
use Rattle.std.proofs.Common.{◌≡◌, ◌+◌, ◌⊎◌, inl, inr, [], ◌∷◌, ℕ, Bool, true, false, List, Option, Some, None, IsSome, arith, refl, sym, ap, subst, if◌then◌else◌, ◌≤◌}
use Rattle.std.specs.Prelude.{⊤, nat_lt}
use Rattle.draid_rack.specs.declared.Rack as racks
use Rattle.draid_area.specs.declared.Area as areas
use Rattle.draid_machine.specs.declared.event.Event.{Event}
use Rattle.draid_machine.specs.declared.event.Patched.{Patched}
use Rattle.draid_machine.specs.declared.event.Event.TheVariants.{Plan, Ready, Lend, LandStripe, LandBlock, Done}
use Rattle.draid_machine.specs.declared.names.ArmName.TheVariants.{Leaf}
use Rattle.draid_machine.specs.declared.names.Held.{Held}
use Rattle.draid_machine.specs.After.{land_block_state, map_arm, mend_state, pass_over, unsourced}
use Rattle.draid_machine.specs.State as machine
use Rattle.draid_machine.specs.Step.{Step}
use Rattle.draid_segments.specs.Acts as segments
use Rattle.draid_segments.specs.Segments.{Pieces}
use Rattle.draid_shard.specs.Calls.{ActsOn, CountsFailed, SameAreas, SameReserve}
use Rattle.draid_shard.specs.Fits.{Valid}
use Rattle.draid_shard.specs.Part.{Part, layout_in}
use Rattle.draid_shard.specs.States.{Does}
use Rattle.draid_shard.specs.declared.shard.Shard.{Shard}
use Rattle.draid_session.specs.Follows.{CountsRise, failed_in, uses}
use Rattle.draid_session.specs.Holds.{Did, Hold, On, view_of}
use Rattle.draid_session.specs.State.{Metaslab}
use Rattle.draid_pool.specs.Metaslabs.{IsMetaslab, counts_of}
use Rattle.draid_pool.specs.Shards.{Goes, KeepsImages, SameBlocks}
use Rattle.draid_pool.proofs.Alike.{same_bare}
use Rattle.draid_pool.proofs.Dids as dids
use Rattle.draid_pool.proofs.Dids.{Raises, did_with, records_same}
use Rattle.draid_pool.proofs.Imaged.{records_kept}
use Rattle.draid_pool.specs.Bytes.{KnowsFinished}
use Rattle.draid_objects.specs.Blocks.{Table}
use Rattle.draid_spec.specs.declared.layout.Geometry.{Geometry}

-- the events of a pass that leave the blocks' pieces
abbrev pub IsOfRebuild : Event → Type 0
IsOfRebuild (Plan kind) = ⊤
IsOfRebuild Ready = ⊤
IsOfRebuild (Lend failed) = ⊤
IsOfRebuild (LandStripe pass serial failed) = ⊤
IsOfRebuild (Done failed) = ⊤
IsOfRebuild e = ⊥

-- the images, what is held and the committed group are as they were
pub record Leaves (w v : machine.State) : Type 0 where
  pub images : KeepsImages w v
  pub held : v.core.held ≡ w.core.held
  pub committed : v.committed ≡ w.committed

same_low : (n : ℕ) → n ≤ n
same_low n = omega arith

made_leaves : (w v s : machine.State) → v ≡ s → Leaves w s → Leaves w v
made_leaves w v s made leaves = subst (Leaves w) (sym made) leaves

from_mapped : (f : machine.Arm → machine.Arm) (o : Option machine.Arm) → IsSome (map_arm f o) → IsSome o
from_mapped f None some = some
from_mapped f (Some a) some = refl

mend_leaves : (l : machine.Layout) (w : machine.State) (p : machine.Pass) (n : machine.Loan) (h : Held) (failed : List ℕ) (b : Bool)
    → Leaves w (if b then pass_over w p 1 (n.stripe + 1) else mend_state l w p n h failed)
mend_leaves l w p n h failed true = record {
  images = record { image = refl; sealed = refl; leaves = λ leaf some. some; asked = refl; arms = record { order = λ slot. refl; arms = λ n. refl }; opens = same_low w.open_group };
  held = refl;
  committed = refl;
}
mend_leaves l w p n h failed false = record {
  images = record { image = refl; sealed = refl; leaves = λ leaf some. some; asked = refl; arms = record { order = λ slot. refl; arms = λ n. refl }; opens = same_low w.open_group };
  held = refl;
  committed = refl;
}

pub rebuild_leaves : (l : machine.Layout) (w v : machine.State) (e : Event) → Step l w e v → IsOfRebuild e → Leaves w v
rebuild_leaves l w v (Plan kind) step is =
    made_leaves w v _ step.made (record {
      images = record {
        image = refl;
        sealed = refl;
        leaves = λ leaf some. from_mapped _ (w.core.arm (Leaf leaf)) some;
        asked = refl;
        arms = record { order = λ slot. refl; arms = λ n. same_bare _ (w.core.arm n) (λ a. refl) };
        opens = same_low w.open_group;
      };
      held = refl;
      committed = refl;
    })
rebuild_leaves l w v Ready step is =
    made_leaves w v _ step.made (record {
      images = record { image = refl; sealed = refl; leaves = λ leaf some. some; asked = refl; arms = record { order = λ slot. refl; arms = λ n. refl }; opens = same_low w.open_group };
      held = refl;
      committed = refl;
    })
rebuild_leaves l w v (Lend failed) step is =
    made_leaves w v _ step.made (record {
      images = record { image = refl; sealed = refl; leaves = λ leaf some. some; asked = refl; arms = record { order = λ slot. refl; arms = λ n. refl }; opens = same_low w.open_group };
      held = refl;
      committed = refl;
    })
rebuild_leaves l w v (LandStripe pass serial failed) step is =
    made_leaves w v _ step.made (mend_leaves l w step.p step.n step.h failed.items (nat_lt l.parity (unsourced l step.n)))
rebuild_leaves l w v (Done failed) step is =
    made_leaves w v _ step.made (record {
      images = record {
        image = refl;
        sealed = refl;
        leaves = λ leaf some. from_mapped _ (w.core.arm (Leaf leaf)) some;
        asked = refl;
        arms = record { order = λ slot. refl; arms = λ n. same_bare _ (w.core.arm n) (λ a. refl) };
        opens = same_low w.open_group;
      };
      held = refl;
      committed = refl;
    })
rebuild_leaves l w v e step is = absurd is

heal_leaves : (l : machine.Layout) (w : machine.State) (p : machine.Pass) (n : machine.Loan) (h : Held) (failed : List ℕ) (patched : List Patched) (unreadable whole : Bool)
    → Leaves w (land_block_state l w p n h failed patched unreadable whole)
heal_leaves l w p n h failed patched true whole = record {
  images = record { image = refl; sealed = refl; leaves = λ leaf some. some; asked = refl; arms = record { order = λ slot. refl; arms = λ n. refl }; opens = same_low w.open_group };
  held = refl;
  committed = refl;
}
heal_leaves l w p n h failed patched false whole = record {
  images = record { image = refl; sealed = refl; leaves = λ leaf some. some; asked = refl; arms = record { order = λ slot. refl; arms = λ n. refl }; opens = same_low w.open_group };
  held = refl;
  committed = refl;
}

-- and so a scrub's landing
pub block_leaves : (l : machine.Layout) (w v : machine.State) (pass serial : ℕ) (failed : _) (patched : _) (unreadable : Bool) → Step l w (LandBlock pass serial failed patched unreadable) v → Leaves w v
block_leaves l w v pass serial failed patched unreadable step = made_leaves w v _ step.made (heal_leaves l w step.p step.n step.h failed.items patched.items unreadable step.whole)

-- its pieces are those that there were, or those that are written
pub pieces_either : (l : machine.Layout) (w v : machine.State) (pass serial : ℕ) (failed : _) (patched : _) (unreadable : Bool) (step : Step l w (LandBlock pass serial failed patched unreadable) v) (pieces written : Pieces)
    → (segments.pieces_after l w (LandBlock pass serial failed patched unreadable) v step pieces written ≡ pieces) ⊎ (segments.pieces_after l w (LandBlock pass serial failed patched unreadable) v step pieces written ≡ written)
pieces_either l w v pass serial failed patched true step pieces written = inl refl
pieces_either l w v pass serial failed patched false step pieces written = by step.whole
  where
    by : (b : Bool) → ((if b then written else pieces) ≡ pieces) ⊎ ((if b then written else pieces) ≡ written)
    by true = inr refl
    by false = inl refl

pub no_uses : (w : machine.State) (e : Event) → IsOfRebuild e → uses w e ≡ 0
no_uses w (Plan kind) is = refl
no_uses w Ready is = refl
no_uses w (Lend failed) is = refl
no_uses w (LandStripe pass serial failed) is = refl
no_uses w (Done failed) is = refl
no_uses w e is = absurd is

pub same_pieces : (l : machine.Layout) (w v : machine.State) (e : Event) (step : Step l w e v) (pieces : Pieces) → IsOfRebuild e → segments.pieces_after l w e v step pieces pieces ≡ pieces
same_pieces l w v (Plan kind) step pieces is = refl
same_pieces l w v Ready step pieces is = refl
same_pieces l w v (Lend failed) step pieces is = refl
same_pieces l w v (LandStripe pass serial failed) step pieces is = refl
same_pieces l w v (Done failed) step pieces is = refl
same_pieces l w v e step pieces is = absurd is

pub none_ends : (geometry : Geometry) (pieces : Pieces) (table : Table) (e : Event) → IsOfRebuild e → KnowsFinished geometry pieces table e
none_ends geometry pieces table (Plan kind) is = tt
none_ends geometry pieces table Ready is = tt
none_ends geometry pieces table (Lend failed) is = tt
none_ends geometry pieces table (LandStripe pass serial failed) is = tt
none_ends geometry pieces table (Done failed) is = tt
none_ends geometry pieces table e is = absurd is

module _ {R A : Type 0} (rack : racks.Ghosts R) (area : areas.Ghosts A) where
  pub raised : (failed : List ℕ) (old new : Shard R A) → SameAreas old new → CountsFailed failed (rack.faults old.rack) (rack.faults new.rack) → Raises rack area failed old new
  raised failed old new same counts = record { areas_are = same; later = counts.later; cause = counts.cause }

  pub rises : (failed : List ℕ) (old new : Shard R A) (w v : machine.State) → Raises rack area failed old new → CountsRise w v failed (counts_of rack area old) (counts_of rack area new)
  rises failed old new w v r = record {
    rack = r.later None;
    even = (let e = ap area.faults r.areas_are.even in omega (arith, e));
    odd = (let e = ap area.faults r.areas_are.odd in omega (arith, e));
    leaves = λ leaf stays. r.cause leaf;
  }

  -- the metaslab behind such an event
  pub rebuild_did : (part : Part) (pieces : Pieces) (old new : Shard R A) (e : Event) (x : Metaslab) → IsMetaslab rack area part pieces old x → Valid rack new → Does old new e → ActsOn rack old new e pieces → SameReserve old new
      → Raises rack area (failed_in e) old new → IsOfRebuild e → dids.Done rack area part pieces new e x
  rebuild_did part pieces old new e x is valid does acts reserve raises of =
      did_with rack area part pieces old new e x is valid does acts (λ v step. same_pieces _ x.world v e step pieces of) reserve.limit
      (let same = reserve.reserved in let none = no_uses x.world e of in omega (arith, same, none)) (λ v step is_in. rises (failed_in e) old new x.world v raises)
      (λ v step. records_kept part x.world v (area.told new.even) (area.told new.odd) (rebuild_leaves (layout_in part) x.world v e step of).images
      (records_same rack area part x.world old new raises.areas_are is.records)) (none_ends part.geometry pieces x.world.core.held e of)

  blocks_stay : (x y : Metaslab) → Leaves x.world y.world → SameBlocks x y
  blocks_stay x y leaves = record { held = leaves.held; committed = leaves.committed }

  -- it is one hold
  pub rebuild_goes : (part : Part) (pieces : Pieces) (new : Shard R A) (e : Event) (x : Metaslab) (does : List Hold → Type 0) → IsOfRebuild e → (d : dids.Done rack area part pieces new e x)
      → does (On (view_of part.number x) (Did e d.reached.world) ∷ []) → Goes rack area part pieces x new (λ holds y. does holds × SameBlocks x y)
  rebuild_goes part pieces new e x does of d done =
      let leaves = rebuild_leaves (layout_in part) x.world d.reached.world e d.step of in
      record {
        holds = On (view_of part.number x) (Did e d.reached.world) ∷ [];
        reached = d.reached;
        follows = (Did e d.reached.world, d.reached, refl, d.acts, refl);
        images = leaves.images;
        done = (done, blocks_stay x d.reached leaves);
        is = d.is;
      }
