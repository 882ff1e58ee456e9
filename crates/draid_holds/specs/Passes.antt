-- Passes that are split off one after another, and joined again.
use Rattle.std.specs.Prelude.{◌≡◌, ◌+◌, ℕ, true, List, All, count_by, length, map, sum_by}
use Rattle.std.specs.declared.vec.Vec.{Vec}
use Rattle.std.specs.declared.alloc.Global.{Global}
use Rattle.draid_turn.specs.declared.past.Past.{Past}
use Rattle.draid_turn.specs.declared.span.Span.{Span}
use Rattle.draid_turn.specs.Calls.{Caller, Follows, Lock, newcomer}
use Rattle.draid_turn.specs.History.{Stood, number_of}
use Rattle.draid_turn.specs.Lists.{StartsWith, one_within, times}
use Rattle.draid_turn.specs.Numbers.{HoldsSome, holds}

-- how many of the lists of numbers have this one
abbrev pub shares : ℕ → List (Vec Span Global) → ℕ
shares n lists = count_by (λ (numbers : Vec Span Global). holds n numbers.items) lists

-- how many of the callers hold a number, and how often a place is one of their own
abbrev pub holders : {E : Type 0} → ℕ → List (Caller E) → ℕ
holders {E} n callers = count_by (λ (caller : Caller E). holds n caller.numbers) callers

abbrev pub makers : {E : Type 0} → ℕ → List (Caller E) → ℕ
makers {E} x callers = sum_by (λ (caller : Caller E). times x caller.own) callers

-- each of the lists has a number
abbrev pub EachHoldsSome : List (Vec Span Global) → Type 0
EachHoldsSome lists = All (λ (numbers : Vec Span Global). HoldsSome numbers.items) lists

-- for each list a caller that has seen as much as the first one, did nothing, and holds its numbers
abbrev pub newcomers : {E : Type 0} → Caller E → List (Vec Span Global) → List (Caller E)
newcomers {E} first lists = map (λ (numbers : Vec Span Global). newcomer first.table first.seen numbers.items) lists

-- the callers are of this lock
abbrev pub AreOf : {T E : Type 0} → Lock T → List (Caller E) → Type 0
AreOf {T} {E} lock callers = All (λ (caller : Caller E). caller.table ≡ lock.table) callers

-- the log begins with what each of the callers has seen
abbrev pub AllSeen : {E : Type 0} → List E → List (Caller E) → Type 0
AllSeen {E} log callers = All (λ (caller : Caller E). StartsWith log caller.seen) callers

-- all numbers of a caller are among these
abbrev pub AreInside : {E : Type 0} → List Span → Caller E → Type 0
AreInside {E} numbers caller = (n : ℕ) → holds n caller.numbers ≡ true → holds n numbers ≡ true

-- the log begins with what a caller has seen, and no hold behind that concerns a number that it holds
abbrev pub FollowsOwn : {T : Type 0} → List (Past T) → Caller (Past T) → Type 0
FollowsOwn {T} log caller = Follows number_of caller.numbers log caller.seen

-- there is a number that is held and in none of the lists
pub record KeepsOne (held : List Span) (lists : List (Vec Span Global)) : Type 0 where
  pub number : ℕ
  pub there : holds number held ≡ true
  pub kept : shares number lists ≡ 0

-- All passes were joined to the first one, and the value was taken out behind the history, in which each place is just
-- one pass's; what a pass hasn't seen concerns none of its numbers
pub record ClosesEach {T : Type 0} (step : T → Past T → Type 0) (opened : T) (first : Caller (Past T)) (passes : List (Caller (Past T))) (value : T) : Type 0 where
  pub log : List (Past T)
  pub stood : Stood step opened log value
  pub seen : AllSeen log passes
  pub follows : All (FollowsOwn log) passes
  pub first_follows : FollowsOwn log first
  pub single : (x : ℕ) → times x first.own + makers x passes ≡ one_within 0 (length log) x
