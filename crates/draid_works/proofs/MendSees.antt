-- What a lane saw of its metaslabs: what is said of a scrub rests on the bytes that their blocks had in all of it.
use Rattle.std.proofs.Common.{◌≡◌, ◌∷◌, ◌∙◌, [], ℕ, List, Some, ap, subst, sym}
use Rattle.std.specs.Prelude.{slice_get}
use Rattle.draid_names.specs.declared.pass_kind.PassKind.{PassKind}
use Rattle.draid_names.specs.declared.pass_kind.PassKind.TheVariants.{Heal}
use Rattle.draid_rack.specs.declared.Rack as racks
use Rattle.draid_area.specs.declared.Area as areas
use Rattle.draid_session.specs.Holds.{Hold}
use Rattle.draid_session.specs.State.{Metaslab, State}
use Rattle.draid_shard.specs.declared.shard.Shard.{Shard}
use Rattle.draid_turn.specs.Calls.{Caller, Lock}
use Rattle.draid_turn.specs.Lists.{StartsWith}
use Rattle.draid_turn.specs.declared.past.Past.{Past}
use Rattle.draid_pool.specs.Pools.{part_in}
use Rattle.draid_pool.specs.declared.cell.Cell.{Cell}
use Rattle.draid_pool.proofs.Places.{get_set_same}
use Rattle.draid_visits.specs.Steps.{HadContents}
use Rattle.draid_lanes.specs.Locks.{Went}
use Rattle.draid_lanes.specs.Traces.{HadBytes, LaneTurn}
use Rattle.draid_lanes.specs.Waits.{LaneWent}
use Rattle.draid_lanes.specs.declared.locked.Locked.{Locked}
use Rattle.draid_lanes.proofs.OneTurn.{CameTo, came_at}
use Rattle.draid_lanes.proofs.Tracing.{Traced, starts_then}

module _ {R A : Type 0} (rack : racks.Ghosts R) (area : areas.Ghosts A) (x : State) where
  -- in all that was seen of each metaslab its blocks had bytes
  abbrev pub SawIn : {G W : Type 0} → Locked R A G W → Type 0
  SawIn b = (m : ℕ) (lock : Lock (Cell R A)) (pass : Caller (Past (Cell R A))) → slice_get b.turns.now m ≡ Some lock → slice_get b.passes.items m ≡ Some pass → HadBytes rack area x lock pass.seen m

  -- what a scrub says where that is so, and a rebuild always
  abbrev pub Seen : {G W : Type 0} → PassKind → Locked R A G W → (List Hold → Type 0) → List Hold → Type 0
  Seen kind b S hs = (kind ≡ Heal → SawIn b) → S hs

  had_before : (lock : Lock (Cell R A)) (seen more : List (Past (Cell R A))) (m : ℕ) → StartsWith more seen → HadBytes rack area x lock more m → HadBytes rack area x lock seen m
  had_before lock seen more m later had log y starts came = had log y (starts_then log seen more starts later) came

  -- what was seen later has all that was seen before
  pub saw_before : {G W : Type 0} (kind : PassKind) (b c : Locked R A G W) (turns : ℕ → List LaneTurn) (hs us : List Hold) → Traced rack area x b c turns hs us → (kind ≡ Heal → SawIn c) → kind ≡ Heal → SawIn b
  saw_before kind b c turns hs us t saw heal m lock pass there at =
      let z = t.each m pass at lock there in
      had_before lock pass.seen z.0.seen m z.2.seen (saw heal m lock z.0 (ap (λ ls. slice_get ls m) t.locks ∙ there) z.1)

  -- so the metaslab that a hold found had bytes
  pub found_had : {G W : Type 0} (a b : Locked R A G W) (m : ℕ) (before after : Shard R A) (found : Metaslab) → LaneWent rack area a m before after b → CameTo rack area x m before found → SawIn b → HadContents rack area (part_in x m) before found
  found_had a b m before after found goes came saw = subst (λ s. HadContents rack area (part_in x m) s found) (sym w.found) (had w.log found (w.left ∷ [], w.seen) (came_at rack area x w.lock w.log m before found (sym w.found) came))
    where
      w : Went rack area a.turns.now a.passes.items m before after b.passes.items
      w = goes.1

      had : HadBytes rack area x w.lock w.next.seen m
      had = saw m w.lock w.next (ap (λ ls. slice_get ls m) goes.0 ∙ w.lock_is) (ap (λ ps. slice_get ps m) w.sets ∙ get_set_same a.passes.items m w.pass w.next w.pass_is)
