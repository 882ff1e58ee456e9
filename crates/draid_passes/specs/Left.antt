use Rattle.std.specs.Prelude.{◌≡◌, ◌+◌, ◌<◌, ◌≤◌, ◌&&◌, ℕ, true, false, nat_lt, min, max, Option, Some, None, if◌then◌else◌}
use Rattle.draid_names.specs.declared.numbers.TheConstants.{NUMBERS}
use Rattle.draid_machine.specs.declared.names.Key.{Key}
use Rattle.draid_machine.specs.declared.names.Held.{Held}
use Rattle.draid_machine.specs.Names.{is_block, takes}
use Rattle.draid_names.specs.declared.pass_kind.PassKind.TheVariants.{Rebuild}
use Rattle.draid_machine.specs.State.{Pass, State}
use Rattle.draid_machine.specs.Step.{is_lent}

-- blocks and tickets end at stripes below 2^48
abbrev pub AreShort : (Key → Option Held) → Type 0
AreShort held = (k : Key) (h : Held) → held k ≡ Some h → h.first + h.stripes < NUMBERS

-- no ticket, and no birth above a group
pub record AreSettled (held : Key → Option Held) (group : ℕ) : Type 0 where
  pub only_blocks : (k : Key) (h : Held) → held k ≡ Some h → is_block h.stage ≡ true
  pub births : (k : Key) (h : Held) → held k ≡ Some h → h.birth ≤ group

-- the first stripe of a block or a ticket that a pass has left to lend
abbrev pub left_of : Pass → Held → Option ℕ
left_of p h = if is_lent p h && nat_lt (max h.first p.next) (h.first + h.stripes) then Some (max h.first p.next) else None

-- the lower of two numbers, where both are there
abbrev pub lower_of : Option ℕ → Option ℕ → Option ℕ
lower_of None o = o
lower_of (Some x) None = Some x
lower_of (Some x) (Some y) = Some (min x y)

-- what a pass lends is taken up to a stripe: none is left, or the first that is left
abbrev pub NoneBefore : (Key → Option Held) → Pass → ℕ → Type 0
NoneBefore held p stripe =
    (k : Key) (h : Held) (x : ℕ) → held k ≡ Some h → is_lent p h ≡ true → takes h x ≡ true → p.next ≤ x → x < stripe → ⊥

abbrev pub NothingLeft : (Key → Option Held) → Pass → Type 0
NothingLeft held p = (k : Key) (h : Held) (x : ℕ) → held k ≡ Some h → is_lent p h ≡ true → takes h x ≡ true → x < p.next

pub record IsFirstLeft (held : Key → Option Held) (p : Pass) (stripe : ℕ) : Type 0 where
  pub key : Key
  pub h : Held
  pub found : held key ≡ Some h
  pub lent : is_lent p h ≡ true
  pub taken : takes h stripe ≡ true
  pub from : p.next ≤ stripe
  pub first : NoneBefore held p stripe

-- a planned rebuild that may run: the blocks are settled, and the committed group reaches the group before its last
pub record MayRun (w : State) : Type 0 where
  pub p : Pass
  pub pass : w.core.pass ≡ Some p
  pub rebuild : p.kind ≡ Rebuild
  pub planned : p.running ≡ false
  pub committed : p.max ≤ w.committed + 1
  pub settled : AreSettled w.core.held w.committed
