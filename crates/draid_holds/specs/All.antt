-- Lanes over a value, from its lock to the value again.
use Rattle.std.specs.Prelude.{◌≡◌, ◌<◌, [], ℕ, List, length, map, slice_index_or}
use Rattle.std.specs.declared.vec.Vec.{Vec}
use Rattle.std.specs.declared.alloc.Global.{Global}
use Rattle.draid_turn.specs.declared.past.Past.{Past}
use Rattle.draid_turn.specs.declared.span.Span.{Span}
use Rattle.draid_turn.specs.Calls.{Caller, Lock, newcomer}
use Rattle.draid_holds.specs.Holds.{Hold}
use Rattle.draid_holds.specs.Lanes.{AllRan, pass_of, work_of}
use Rattle.draid_holds.specs.Passes.{newcomers}
use Rattle.draid_holds.specs.declared.lanes.Lane.{Lane}

-- each work may begin by a new pass that holds its numbers, where the history has nothing yet
abbrev pub AllMayWork : {T W : Type 0} → (W → Lock T → Caller (Past T) → Type 0) → List (Vec Span Global) → List W → Lock T → Type 0
AllMayWork {T} {W} needs lists works lock = (i : ℕ) (d : W) (s : Vec Span Global) → i < length works → needs (slice_index_or works i d) lock (newcomer lock.table [] (slice_index_or lists i s).items)

-- Each work had a pass of its own, which held its numbers and had seen nothing; and these lanes ran. The first pass made nothing
pub record RanAll {T W : Type 0} (step : T → Past T → Type 0) (relates : W → List (Hold T) → W → Type 0) (opened : T) (lists : List (Vec Span Global)) (before : List W) (value : T) (after : List W) : Type 0 where
  pub first : Caller (Past T)
  pub lanes : List (Lane T W)
  pub idle : first.own ≡ []
  pub works : map work_of lanes ≡ before
  pub passes : map pass_of lanes ≡ newcomers (newcomer first.table [] first.numbers) lists
  pub ran : AllRan step relates opened first lanes value after
