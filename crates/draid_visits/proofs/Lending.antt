-- The stripes or blocks that a pass lends in one metaslab, one after another.
use Rattle.std.proofs.Common.{◌≡◌, ◌+◌, ◌++◌, ◌∙◌, ◌⊎◌, [], inl, inr, ℕ, suc, Bool, true, false, List, Option, Some, None, refl, sym, ap, subst}
use Rattle.std.specs.Prelude.{◌↔◌, ⊤, IsTrue}
use Rattle.std.proofs.lemmas.Bool.{true≢false}
use Rattle.draid_rack.specs.declared.Rack as racks
use Rattle.draid_area.specs.declared.Area as areas
use Rattle.draid_names.specs.declared.pass_kind.PassKind.{PassKind}
use Rattle.draid_perm.specs.declared.perms.Perms.{Perms}
use Rattle.draid_spec.specs.declared.layout.Geometry.{Geometry}
use Rattle.draid_session.specs.Holds.{Hold, View}
use Rattle.draid_session.specs.Passes as passes
use Rattle.draid_session.specs.Phases.{Starved, WasWorn}
use Rattle.draid_session.specs.State.{State}
use Rattle.draid_pool.specs.Carries.{CarriesOut}
use Rattle.draid_pool.specs.declared.fault.SyncFault.TheVariants as sync
use Rattle.draid_pool.specs.declared.pool.Pool.{Pool}
use Rattle.draid_visits.specs.Visiting.{LendIs, counted, tally_of}
use Rattle.draid_visits.specs.declared.progress.Progress.{Progress}
use Rattle.draid_visits.specs.declared.progress.Visit.TheVariants as visit
use Rattle.draid_visits.specs.Steps.{NextIs}
use Rattle.draid_visits.specs.declared.steps.Next.{Next}
use Rattle.draid_visits.specs.declared.steps.Next.TheVariants as next
use Rattle.draid_visits.proofs.Leading.{Does, Leads, Says, Steps, leads_end, leads_on}

-- how loans end: with what outcome, what is left of the limit, and what was done
pub record Ending : Type 0 where
  pub o : passes.Outcome
  pub after : Option ℕ
  pub tally : passes.Tally

-- some are lent, and then that
abbrev pub SomeLends : Geometry → Perms → PassKind → ℕ → Progress → Ending → List Hold → Type 0
SomeLends g p kind m at e holds = (n : ℕ) × passes.Lends g p kind m n at.left (tally_of at) holds e.o e.after e.tally

pub lent_then : (g : Geometry) (p : Perms) (kind : PassKind) (m repaired : ℕ) (at : Progress) (e : Ending) (front rest : List Hold) → (passes.IsUsedUp at.left → ⊥) → passes.LendsOne g p kind m repaired front []
    → SomeLends g p kind m (counted repaired at) e rest → SomeLends g p kind m at e (front ++ rest)
lent_then g p kind m repaired at e front rest some l is = (
  suc is.0,
  (
    rest,
    repaired,
    some,
    record { v = l.v; u = l.u; failed = l.failed; lent = l.lent; e = l.e; landed = l.landed; are = ap (λ hs. hs ++ rest) l.are; there = l.there; not_worn = l.not_worn; lands = l.lands; why = l.why; sourced = l.sourced; needed = l.needed },
    is.1,
  ),
)

-- why something is left
pub kept_back : (g : Geometry) (p : Perms) (m : ℕ) (holds : List Hold) (how says : View → Type 0) → passes.KeepsBack g p m holds how → ((v : View) → how v → says v) → passes.KeepsBack g p m holds says
kept_back g p m holds how says k so = record { v = k.v; are = k.are; there = k.there; more = k.more; why = so k.v k.why }

-- the test of what is left
pub used : (b : Bool) (left : Option ℕ) → IsTrue b ↔ (left ≡ Some 0) → b ≡ true → passes.IsUsedUp left
used b left is set = is.0 set

pub unused : (b : Bool) (left : Option ℕ) → IsTrue b ↔ (left ≡ Some 0) → b ≡ false → passes.IsUsedUp left → ⊥
unused b left is unset up = true≢false (sym (is.1 up) ∙ unset)

module _ {R A : Type 0} (rack : racks.Ghosts R) (area : areas.Ghosts A) (kind : PassKind) (m : ℕ) (old : Progress) where
  abbrev pub Lending : Progress → Pool R A → State → Type 0
  Lending at pool x = Leads rack area {I = Ending} (SomeLends x.geometry x.perms kind m old) (SomeLends x.geometry x.perms kind m at) pool x

  -- what comes next in the metaslab
  abbrev pub NextSays : Bool → Next → Says
  NextSays up result g p holds = NextIs (record { geometry = g; perms = p; number = m }) kind up result holds

  -- one more
  pub lends_more : (mid new : Pool R A) (x : State) (at now : Progress) (repaired : ℕ) (up : Bool) → IsTrue up ↔ (at.left ≡ Some 0) → Lending at mid x → now ≡ counted repaired at
      → Steps rack area mid new (NextSays up (next.Landed repaired)) → Lending now new x
  lends_more mid new x at now repaired up test l counts step =
      subst (λ (q : Progress). Lending q new x) (sym counts)
      (leads_on rack area (SomeLends x.geometry x.perms kind m old) (SomeLends x.geometry x.perms kind m at) (SomeLends x.geometry x.perms kind m (counted repaired at)) (NextSays up (next.Landed repaired)) mid new x l step
      (λ e front rest d. lent_then x.geometry x.perms kind m repaired at e front rest (unused up at.left test d.0) d.1))

  -- the pass ended
  pub lends_end : (mid new : Pool R A) (x : State) (at : Progress) (errors : ℕ) (up : Bool) → Lending at mid x → Steps rack area mid new (NextSays up (next.Ended errors))
      → CarriesOut rack area new x (Does x (LendIs x.geometry x.perms kind m old visit.Over (record at { errors = at.errors + errors })))
  lends_end mid new x at errors up l step =
      leads_end rack area (SomeLends x.geometry x.perms kind m old) (SomeLends x.geometry x.perms kind m at) (NextSays up (next.Ended errors)) mid new x
      (record { o = passes.Ended; after = at.left; tally = passes.has_ended errors (tally_of at) }) l step
      (λ holds ends. (0, ((errors, ends, refl), refl)))

  -- the limit is used up
  pub lends_paused : (mid new : Pool R A) (x : State) (at : Progress) (up : Bool) → IsTrue up ↔ (at.left ≡ Some 0) → Lending at mid x → Steps rack area mid new (NextSays up next.Paused)
      → CarriesOut rack area new x (Does x (LendIs x.geometry x.perms kind m old visit.Paused at))
  lends_paused mid new x at up test l step =
      leads_end rack area (SomeLends x.geometry x.perms kind m old) (SomeLends x.geometry x.perms kind m at) (NextSays up next.Paused) mid new x
      (record { o = passes.Paused; after = at.left; tally = tally_of at }) l step
      (λ holds d. (0, ((kept_back x.geometry x.perms m holds (λ v. ⊤) (λ v. passes.IsUsedUp at.left) d.1 (λ v any. used up at.left test d.0), refl), refl)))

  -- it was stopped
  pub lends_worn : (mid new : Pool R A) (x : State) (at now : Progress) (up : Bool) → IsTrue up ↔ (at.left ≡ Some 0) → Lending at mid x → Steps rack area mid new (NextSays up next.Worn)
      → CarriesOut rack area new x (Does x (LendIs x.geometry x.perms kind m old (visit.Stopped sync.Worn) now))
  lends_worn mid new x at now up test l step =
      so (leads_end rack area (SomeLends x.geometry x.perms kind m old) (SomeLends x.geometry x.perms kind m at) (NextSays up next.Worn) mid new x
      (record { o = passes.Stopped WasWorn; after = at.left; tally = tally_of at }) l step
      (λ holds d. (0, ((kept_back x.geometry x.perms m holds (passes.LendIsWorn x.geometry x.perms) (λ v. (passes.IsUsedUp at.left → ⊥) × passes.LendIsWorn x.geometry x.perms v) d.1 (λ v worn. (unused up at.left test d.0, worn)), refl), refl))))
    where
      so : CarriesOut rack area new x (Does x (SomeLends x.geometry x.perms kind m old (record { o = passes.Stopped WasWorn; after = at.left; tally = tally_of at })))
          → CarriesOut rack area new x (Does x (LendIs x.geometry x.perms kind m old (visit.Stopped sync.Worn) now))
      so c = record { holds = c.holds; reached = c.reached; store = c.store; follows = c.follows; done = (c.done.0, (c.done.1.0, at.left, tally_of at, c.done.1.1)); represents = c.represents }

  pub lends_starved : (mid new : Pool R A) (x : State) (at now : Progress) (up : Bool) → IsTrue up ↔ (at.left ≡ Some 0) → Lending at mid x → Steps rack area mid new (NextSays up next.NoMemory)
      → CarriesOut rack area new x (Does x (LendIs x.geometry x.perms kind m old (visit.Stopped sync.NoMemory) now))
  lends_starved mid new x at now up test l step =
      so (leads_end rack area (SomeLends x.geometry x.perms kind m old) (SomeLends x.geometry x.perms kind m at) (NextSays up next.NoMemory) mid new x
      (record { o = passes.Stopped Starved; after = at.left; tally = tally_of at }) l step
      (λ holds d. (0, ((either holds (unused up at.left test d.0) d.1, refl), refl))))
    where
      either : (holds : List Hold) → (passes.IsUsedUp at.left → ⊥) → passes.KeepsBack x.geometry x.perms m holds (λ v. ⊤) ⊎ passes.StaysOut x.geometry x.perms m None holds
          → passes.KeepsBack x.geometry x.perms m holds (λ v. passes.IsUsedUp at.left → ⊥) ⊎ passes.StaysOut x.geometry x.perms m at.left holds
      either holds some (inl keeps) = inl (kept_back x.geometry x.perms m holds (λ v. ⊤) (λ v. passes.IsUsedUp at.left → ⊥) keeps (λ v any. some))
      either holds some (inr out) = inr (record { v = out.v; failed = out.failed; lent = out.lent; are = out.are; there = out.there; some = some; not_worn = out.not_worn })

      so : CarriesOut rack area new x (Does x (SomeLends x.geometry x.perms kind m old (record { o = passes.Stopped Starved; after = at.left; tally = tally_of at })))
          → CarriesOut rack area new x (Does x (LendIs x.geometry x.perms kind m old (visit.Stopped sync.NoMemory) now))
      so c = record { holds = c.holds; reached = c.reached; store = c.store; follows = c.follows; done = (c.done.0, (c.done.1.0, at.left, tally_of at, c.done.1.1)); represents = c.represents }
