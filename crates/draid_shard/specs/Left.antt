-- What a pass has left to lend.
use Rattle.std.specs.Prelude.{◌≡◌, ◌<◌, ℕ, true, Some}
use Rattle.draid_machine.specs.declared.names.Held.{Held}
use Rattle.draid_machine.specs.declared.names.Key.{Key}
use Rattle.draid_machine.specs.Names.{takes}
use Rattle.draid_machine.specs.State as machine
use Rattle.draid_machine.specs.Step.{is_lent}
use Rattle.draid_shard.specs.States.{IsIn}
use Rattle.draid_shard.specs.declared.shard.Shard.{Shard}

-- the pass has lent all that it may lend
abbrev pub HasNothingLeft : {R A : Type 0} → Shard R A → Type 0
HasNothingLeft shard =
    (w : machine.State) → IsIn shard w → (p : machine.Pass) → w.core.pass ≡ Some p
    → (k : Key) (h : Held) (x : ℕ) → w.core.held k ≡ Some h → is_lent p h ≡ true → takes h x ≡ true → x < p.next
