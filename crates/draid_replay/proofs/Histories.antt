-- Histories one event longer.
use Rattle.std.proofs.Common.{zero, suc, Result, Ok, Err, Option, Some, None, ◌≡◌, ◌+◌, ◌-◌, ◌*◌, ◌++◌, ◌∷◌, [], ◌<◌, ◌≤◌, ◌^◌, ℕ, Bool, true, false, List, take, length, get_or, if◌then◌else◌, refl, sym, ◌∙◌, ap, subst, arith}
use Rattle.std.proofs.Math.Nat.{mul-le-mul}
use Rattle.std.proofs.lemmas.List.{take_more, take_all}
use Rattle.draid_spec.specs.declared.layout.Geometry.{Geometry}
use Rattle.draid_spec.specs.Geometry.{IsGeometry, metaslab_stripes}
use Rattle.draid_machine.specs.declared.event.Event.{Event}
use Rattle.draid_machine.specs.declared.event.Event.TheVariants.{Begin, Put, Finish, Abort, Free, Fetch, Damage, Offline, Online, Attach, Detach, Upgrade, Close, Seal, Commit, Plan, Ready, Lend, LandStripe, LandBlock, Done, Cancel, Reopen}
use Rattle.draid_names.specs.declared.pass_kind.PassKind.{PassKind}
use Rattle.draid_names.specs.declared.pass_kind.PassKind.TheVariants.{Rebuild, Heal}
use Rattle.draid_machine.specs.declared.names.ArmName.{ArmName}
use Rattle.draid_machine.specs.State.{Layout, Pass, State}
use Rattle.draid_machine.specs.After.{replan, replan_kind}
use Rattle.draid_machine.specs.Created.{IsReached, created}
use Rattle.draid_machine.specs.Step.{Run, Step}
use Rattle.draid_replay.specs.declared.history.ReplayFault.{ReplayFault}
use Rattle.draid_replay.specs.declared.history.ReplayFault.TheVariants.{NotLegal, NoMemory}
use Rattle.draid_world.specs.declared.world.World.{World}
use Rattle.draid_replay.specs.Within.{IsWithin, IsSmallEvent}
use Rattle.draid_replay.specs.History.{IsSoFar}
use Rattle.draid_replay.proofs.Ranges.{kept}

pub stripes_few : (geometry : Geometry) → IsGeometry geometry → metaslab_stripes geometry < 2 ^ 48
stripes_few geometry is =
    let groups : geometry.ngroups ≤ 64 = (let a = is.slice.most_groups in let b = is.disks in let d = is.spec.most_children in omega (arith, a, b, d)) in
    let most : metaslab_stripes geometry ≤ 1024 * 64 * 4096 = mul-le-mul (mul-le-mul is.props.most_slices groups) is.props.most_height in
    omega (arith, most)

run_more : (l : Layout) (w mid new : State) (es : List Event) (e : Event) → Run l w es mid → Step l mid e new → Run l w (es ++ e ∷ []) new
run_more l w mid new [] e run step = (new, subst (λ (x : State). Step l x e new) run step, refl)
run_more l w mid new (d ∷ es) e run step = (run.0, run.1, run_more l run.0 mid new es e run.2 step)

run_append : (l : Layout) (w mid new : State) (es fs : List Event) → Run l w es mid → Run l mid fs new → Run l w (es ++ fs) new
run_append l w mid new [] fs run more = subst (λ (x : State). Run l x fs new) run more
run_append l w mid new (e ∷ es) fs run more = (run.0, run.1, run_append l run.0 mid new es fs run.2 more)

-- a history of a state that is reached reaches another
pub reached_more : (l : Layout) (w new : State) (events : List Event) → Run l w events new → IsReached l w → IsReached l new
reached_more l w new events run r = record { version = r.version; one = r.one; events = r.events ++ events; run = run_append l (created l r.version) w new r.events events r.run run }

either_serial : (b : Bool) (x y : State) (n : ℕ) → x.serial ≡ n → y.serial ≡ n → (if b then x else y).serial ≡ n
either_serial true x y n p q = p
either_serial false x y n p q = q

replanned_serial : (l : Layout) (w : State) (moved : ArmName → Bool) (o : Option Pass) → (replan l w moved o).serial ≡ w.serial
replanned_serial l w moved None = refl
replanned_serial l w moved (Some p) = by p.kind
  where
    by : (kind : PassKind) → (replan_kind l w moved p kind).serial ≡ w.serial
    by Rebuild = refl
    by Heal = refl

pub serial_next : (l : Layout) (w new : State) (e : Event) → Step l w e new → new.serial ≤ w.serial + 1
serial_next l w new (Begin key first stripes len birth digest) step = let m = ap (λ (x : State). x.serial) step.made in omega (arith, m)
serial_next l w new (Put key landed failed) step = let m = ap (λ (x : State). x.serial) step.made in omega (arith, m)
serial_next l w new (Finish key) step = let m = ap (λ (x : State). x.serial) step.made ∙ either_serial _ _ _ w.serial refl refl in omega (arith, m)
serial_next l w new (Abort key) step = let m = ap (λ (x : State). x.serial) step.made in omega (arith, m)
serial_next l w new (Free key group) step = let m = ap (λ (x : State). x.serial) step.made in omega (arith, m)
serial_next l w new (Fetch key failed) step = let m = ap (λ (x : State). x.serial) step.made in omega (arith, m)
serial_next l w new (Damage leaf sector failed) step = let m = ap (λ (x : State). x.serial) step.made in omega (arith, m)
serial_next l w new (Offline leaf) step = let m = ap (λ (x : State). x.serial) step.made in omega (arith, m)
serial_next l w new (Online leaf) step = let m = ap (λ (x : State). x.serial) step.made in omega (arith, m)
serial_next l w new (Attach slot arm) step = let m = ap (λ (x : State). x.serial) step.made ∙ replanned_serial l _ _ w.core.pass in omega (arith, m)
serial_next l w new (Detach slot arm) step = let m = ap (λ (x : State). x.serial) step.made in omega (arith, m)
serial_next l w new Upgrade step = let m = ap (λ (x : State). x.serial) step.made in omega (arith, m)
serial_next l w new (Close group) step = let m = ap (λ (x : State). x.serial) step.made in omega (arith, m)
serial_next l w new (Seal group failed) step = let m = ap (λ (x : State). x.serial) step.made in omega (arith, m)
serial_next l w new (Commit group) step = let m = ap (λ (x : State). x.serial) step.made in omega (arith, m)
serial_next l w new (Plan kind) step = let m = ap (λ (x : State). x.serial) step.made in omega (arith, m)
serial_next l w new Ready step = let m = ap (λ (x : State). x.serial) step.made in omega (arith, m)
serial_next l w new (Lend failed) step = let m = ap (λ (x : State). x.serial) step.made in omega (arith, m)
serial_next l w new (LandStripe pass serial failed) step = let m = ap (λ (x : State). x.serial) step.made ∙ either_serial _ _ _ w.serial refl refl in omega (arith, m)
serial_next l w new (LandBlock pass serial failed patched unreadable) step = let m = ap (λ (x : State). x.serial) step.made ∙ either_serial unreadable _ _ w.serial refl refl in omega (arith, m)
serial_next l w new (Done failed) step = let m = ap (λ (x : State). x.serial) step.made in omega (arith, m)
serial_next l w new Cancel step = let m = ap (λ (x : State). x.serial) step.made in omega (arith, m)
serial_next l w new (Reopen group doubtful) step = let m = ap (λ (x : State). x.serial) step.made in omega (arith, m)

pub starts : (l : Layout) (w : State) (events : List Event) → IsWithin w → w.serial + length events < 2 ^ 64 - 1 → IsSoFar l w events 0 w
starts l w events within serial = record { run = refl; within = within; serial = omega (arith, serial) }

pub goes_on : (l : Layout) (w now new : State) (events : List Event) (at : ℕ) (d : Event) → l.stripes < 2 ^ 48 → at < length events → IsSmallEvent (get_or events at d) → IsSoFar l w events at now
    → Step l now (get_or events at d) new → IsSoFar l w events (at + 1) new
goes_on l w now new events at d few less small s step =
    let next = serial_next l now new (get_or events at d) step in
    let serial = s.serial in
    record {
      run = subst (λ es. Run l w es new) (sym (take_more events at d less)) (run_more l w now new (take at events) (get_or events at d) s.run step);
      within = kept l now new (get_or events at d) few s.within small step;
      serial = omega (arith, next, serial);
    }

pub ends : (l : Layout) (w now : State) (events : List Event) (at : ℕ) → length events ≤ at → IsSoFar l w events at now → Run l w events now
ends l w now events at past s = subst (λ es. Run l w es now) (take_all at events past) s.run

pub any_default : (es : List Event) (i : ℕ) (d e : Event) → i < length es → get_or es i d ≡ get_or es i e
any_default [] i d e less = absurd (omega (arith, less))
any_default (x ∷ xs) zero d e less = refl
any_default (x ∷ xs) (suc i) d e less = any_default xs i d e (omega (arith, less))

place : Result World ReplayFault → ℕ
place (Ok w) = 0
place (Err (NotLegal at)) = at
place (Err NoMemory) = 0

abbrev fault : ℕ → Result World ReplayFault
fault a = Err (NotLegal a)

pub same_place : (a b : ℕ) → fault a ≡ fault b → a ≡ b
unfolding place
same_place a b e = ap place e
