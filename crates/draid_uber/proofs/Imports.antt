-- What stands in an area after a crash, and what an import takes then.
use Rattle.std.proofs.Common.{arith, ◌≡◌, ◌≤◌, List, [], Option, Some, None, length, option_map, refl, inl, inr}
use Rattle.draid_area.specs.Area.{Content}
use Rattle.draid_area.specs.Moments.{CrashesTold}
use Rattle.draid_area.proofs.Moments.{crash_left}
use Rattle.draid_record.specs.declared.uber.UberBody.{UberBody}
use Rattle.draid_uber.specs.Slots.{Chooses, Stands, StandsTold, chosen_of, read_body}

pub crash_stands : (kept : Option UberBody) (pending : List UberBody) (o p : Option Content) → StandsTold kept pending o → CrashesTold o p → StandsTold kept pending p
crash_stands kept pending None p stands crash = rw crash tt
crash_stands kept pending (Some x) None stands crash = absurd crash
crash_stands kept pending (Some x) (Some y) stands crash = λ left may. stands left (crash_left x y left crash may)

pub import_takes : (kept : Option UberBody) (pending : List UberBody) (x : Content) → Stands kept pending x → x.firm ≤ length x.bytes → Chooses kept pending (chosen_of x.bytes)
import_takes kept pending x stands firm = (stands x.bytes (record { same = λ i d e. refl; least = firm; most = omega arith })).chosen

pub import_alone : (kept : Option UberBody) (x : Content) → Stands kept [] x → x.firm ≤ length x.bytes → chosen_of x.bytes ≡ option_map read_body kept
import_alone kept x stands firm = by (import_takes kept [] x stands firm)
  where
    by : Chooses kept [] (chosen_of x.bytes) → chosen_of x.bytes ≡ option_map read_body kept
    by (inl e) = e
    by (inr t) = let less = t.1.1 in absurd (omega (arith, less))
