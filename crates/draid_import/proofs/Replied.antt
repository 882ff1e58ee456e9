-- What the reply of an import says, by the answer of the call.
use Rattle.std.proofs.Common.{◌≡◌, ◌≤◌, ℕ, Option, Result, arith, subst, sym}
use Rattle.draid_rack.specs.declared.Rack as racks
use Rattle.draid_area.specs.declared.Area as areas
use Rattle.draid_reply.specs.declared.reply.Reply.{Reply}
use Rattle.draid_pool.specs.Shelves.{OnShelf}
use Rattle.draid_pool.specs.declared.pool.Pool.{Pool}
use Rattle.draid_import.specs.Says.{ImportGives, ImportSays, IsImportReply}
use Rattle.draid_import.specs.declared.fault.ImportFault.{ImportFault}
use Rattle.draid_import.specs.declared.replies.ImportStop.{ImportStop}

pub later_same : (a b c : ℕ) → a ≤ b → c ≡ b → a ≤ c
later_same a b c later same = omega (arith, later, same)

-- the answer under another name
pub says_by : {R A : Type 0} (rack : racks.Ghosts R) (area : areas.Ghosts A) (before mid now : OnShelf) (pool : Option (Pool R A)) (result answer : Result (Pool R A) ImportFault) (said : Result Reply ImportStop)
    → result ≡ answer → ImportGives rack area before mid result → IsImportReply rack area mid now pool answer said → ImportSays rack area before now pool said
says_by rack area before mid now pool result answer said is does reply = (result, mid, does, subst (λ a. IsImportReply rack area mid now pool a said) (sym is) reply)
