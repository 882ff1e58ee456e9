-- What a thread needs that visits metaslabs it has behind each hold of a visit, and behind the syncs for which a rebuild waits.
use Rattle.std.proofs.Common.{◌≡◌, ◌<◌, ◌≤◌, ◌+◌, ◌∙◌, inl, arith, ℕ, zero, suc, Bool, true, false, Option, Some, None, Ok, Err, refl, sym, ap, subst}
use Rattle.std.specs.Prelude.{IfOk, IfSome, IsSomeAnd, OnOk, Result}
use Rattle.draid_names.specs.declared.pass_kind.PassKind.{PassKind}
use Rattle.draid_names.specs.declared.pass_kind.PassKind.TheVariants.{Heal, Rebuild}
use Rattle.draid_rack.specs.declared.Rack as racks
use Rattle.draid_area.specs.declared.Area as areas
use Rattle.draid_pass.specs.declared.pass.Pass.{Pass}
use Rattle.draid_passing.specs.declared.fault.PlanFault.{PlanFault}
use Rattle.draid_passing.specs.declared.fault.PlanFault.TheVariants as plan
use Rattle.draid_shard.specs.Changes.{KeepsBlocks}
use Rattle.draid_shard.specs.Fits.{Valid}
use Rattle.draid_shard.specs.Part.{Part}
use Rattle.draid_shard.specs.States.{part_of}
use Rattle.draid_shard.specs.declared.shard.Shard.{Shard}
use Rattle.draid_spec.specs.Geometry.{metaslab_stripes}
use Rattle.draid_spec.specs.declared.layout.Geometry.{Geometry}
use Rattle.draid_uber.specs.Slots.{group_of}
use Rattle.draid_uber.specs.Uber as ubers
use Rattle.draid_uber.specs.declared.uber.Uber.{Uber}
use Rattle.draid_pool.specs.Drifts.{groups_number, passes_number}
use Rattle.draid_pool.specs.Grouping.{ClosesNext}
use Rattle.draid_pool.specs.Rounds.{EachIs, HeldOnce, NoneBeyond}
use Rattle.draid_pool.specs.Threads.{KeepsWhole, all_of}
use Rattle.draid_pool.specs.declared.fault.SyncFault.{SyncFault}
use Rattle.draid_pool.specs.declared.fault.Synced.{Synced}
use Rattle.draid_pool.proofs.Holding.{some_same}
use Rattle.draid_pool.proofs.SyncWhole.{KeepsQuiet, beyond_on, quiet_on}
use Rattle.draid_visits.specs.Readies.{AllKeptFor, KeepsParts, KeptFor, MayReadyIn, ReadiesBy, ReadiesIn}
use Rattle.draid_visits.specs.Starts.{BeginsBy, IsBegun, LeftSo, MayStartIn, StartsIn}
use Rattle.draid_visits.specs.Steps.{IsRunningOf, IsToLend}
use Rattle.draid_visits.specs.Units.{LendsBy, Lent, MayLendIn, UnitIn}
use Rattle.draid_visits.specs.Visiting.{IsOnly}
use Rattle.draid_visits.specs.Visits.{MayVisit}
use Rattle.draid_visits.specs.declared.progress.Progress.{Progress}
use Rattle.draid_visits.specs.declared.progress.Visit.{Visit}
use Rattle.draid_visits.specs.declared.starting.Begun.{Begun}
use Rattle.draid_visits.specs.declared.starting.Begun.TheVariants as begun
use Rattle.draid_visits.specs.declared.steps.Next.{Next}
use Rattle.draid_visits.specs.declared.steps.Next.TheVariants as next
use Rattle.draid_visits.proofs.Idle.{kind_kept}
use Rattle.draid_visits.proofs.SyncStays.{AllKept, IsKept, all_on, all_same, held_here, once_kept}

-- ---- what is whole

-- what was whole is so behind more
pub whole_then : {R A : Type 0} (rack : racks.Ghosts R) (owns mine : ℕ → Bool) → mine ≡ owns → (first mid now : ℕ → Option (Shard R A)) → KeepsWhole rack owns (all_of owns) first mid → KeepsWhole rack mine (all_of mine) mid now
    → KeepsWhole rack owns (all_of owns) first now
whole_then rack owns mine same first mid now before more table seq floor whole = subst (λ o. KeepsWhole rack o (all_of o) mid now) same more table seq floor (before table seq floor whole)

-- ---- one metaslab

pub never_both : Heal ≡ Rebuild → ⊥
never_both is = absurd (cc)

-- a pass of a kind is none of another
only_so : (kind : PassKind) (o : Option Pass) (is : Pass → Type 0) → ((p : Pass) → is p → p.kind ≡ kind) → IsSomeAnd o is → IfSome o (λ (p : Pass). p.kind ≡ kind)
only_so kind None is so some = tt
only_so kind (Some p) is so some = so p some

only_none : {R A : Type 0} (kind : PassKind) (shard : Shard R A) → shard.pass ≡ None → IsOnly kind shard
only_none kind shard none = subst (λ o. IfSome o (λ (p : Pass). p.kind ≡ kind)) (sym none) tt

-- a rebuild that runs may lend, and so may each scrub
runs_to_lend : (o : Option Pass) → IsSomeAnd o (IsRunningOf Rebuild) → IsSomeAnd o (IsToLend Rebuild)
runs_to_lend None runs = absurd runs
runs_to_lend (Some p) runs = record { kind_is = runs.kind_is; runs = λ is. runs.running }

to_lend : (kind : PassKind) (o : Option Pass) → (kind ≡ Rebuild → ⊥) → IsSomeAnd o (λ (p : Pass). p.kind ≡ kind) → IsSomeAnd o (IsToLend kind)
to_lend kind None not is = absurd is
to_lend kind (Some p) not is = record { kind_is = is; runs = λ rebuild. absurd (not rebuild) }

-- the beginning that stands at a stripe
begun_ok : (came : Result ℕ PlanFault) (stripe : ℕ) → IsBegun came (begun.At stripe) → (at : ℕ) × (came ≡ Ok at) × (stripe ≡ at)
begun_ok (Ok at) stripe is = (at, refl, is)
begun_ok (Err plan.Nothing) stripe is = absurd is
begun_ok (Err (plan.PassRunning number)) stripe is = absurd is
begun_ok (Err (plan.Worn events)) stripe is = absurd is
begun_ok (Err plan.Last) stripe is = absurd is
begun_ok (Err plan.NoMemory) stripe is = absurd is

module _ {R A : Type 0} (rack : racks.Ghosts R) (area : areas.Ghosts A) where
  pub kept_for : (kind : PassKind) (shared : Bool) (owns : ℕ → Bool) → owns passes_number ≡ true → IsKept {R = R} {A = A} rack area shared owns (KeptFor kind)
  kept_for kind shared owns own = record {
    same = λ x. record { part = refl; only = λ one. one };
    on = λ x y z a b. record { part = b.part ∙ a.part; only = λ one. b.only (a.only one) };
    drift = λ x y d. record { part = d.part; only = kind_kept kind x.pass y.pass (d.passes own) };
    step = λ x y part pass. record { part = part; only = kind_kept kind x.pass y.pass pass };
  }

  pub quiet_by : (owns : ℕ → Bool) (x y : Shard R A) → Valid rack y → part_of y ≡ part_of x → KeepsBlocks x y → KeepsQuiet rack owns x y
  quiet_by owns x y valid part blocks = record { keeps = record { valid = valid; part = part; opens = (let same = blocks.groups.open_group_is in omega (arith, same)); entries = record { each = λ key own. inl (blocks.entries.held key) } }; committed = blocks.groups.committed }

  -- the beginning of a visit
  starts_for : (kind : PassKind) (x y : Shard R A) (came : Result ℕ PlanFault) → StartsIn rack area kind x came y → KeptFor kind x y
  starts_for kind x y (Ok at) s = record { part = s.part; only = λ one. only_so kind y.pass (λ (p : Pass). p.kind ≡ kind) (λ p is. is) s.pass }
  starts_for kind x y (Err why) s = record { part = s.part; only = λ one. only_none kind y s.none }

  -- a wait, and its end
  readies_for : (runs : Bool) (x y : Shard R A) → ReadiesIn rack area runs x y → KeptFor Rebuild x y
  readies_for true x y r = record { part = r.part; only = λ one. only_so Rebuild y.pass (IsRunningOf Rebuild) (λ p is. is.kind_is) (r.running refl) }
  readies_for false x y r = record { part = r.part; only = λ one. subst (IsOnly Rebuild) (sym (r.waits refl)) one }

  -- a stripe or a block
  pub unit_blocks : (kind : PassKind) (used : Bool) (came : Next) (x y : Shard R A) → UnitIn rack area kind used came x y → KeepsBlocks x y
  unit_blocks kind used came x y u = record { entries = u.table.entries; groups = u.groups.groups }

  units_for : (kind : PassKind) (used : Bool) (came : Next) (x y : Shard R A) → UnitIn rack area kind used came x y → KeptFor kind x y
  units_for kind used came x y u = record { part = u.table.part; only = λ one. u.only }

-- ---- a rebuild is made to run

-- behind a sync
pub parts_for : {R A : Type 0} (kind : PassKind) (last now : ℕ → Option (Shard R A)) → KeepsParts last now → AllKeptFor kind last now
parts_for kind last now keeps m y at = (let z = keeps m y at in (z.0, z.1, record { part = z.2.part; only = kind_kept kind z.0.pass y.pass z.2.pass }))

module _ {R A S : Type 0} (rack : racks.Ghosts R) (area : areas.Ghosts A) (last : S → ℕ → Option (Shard R A)) (went : S → ℕ → Shard R A → Shard R A → S → Type 0) (shared : Bool) (owns : ℕ → Bool) (passes : owns passes_number ≡ true) (m : ℕ) where
  law : IsKept {R = R} {A = A} rack area shared owns (KeptFor Rebuild)
  law = kept_for rack area Rebuild shared owns passes

  pub kept_none : (a : S) → AllKeptFor {R = R} {A = A} Rebuild (last a) (last a)
  kept_none a = all_same rack area last went shared owns (KeptFor Rebuild) law a

  -- behind a hold
  pub kept_once : (runs : Bool) (a mid b : S) → AllKeptFor {R = R} {A = A} Rebuild (last a) (last mid) → HeldOnce rack area last went shared owns (ReadiesIn rack area runs) mid m b → AllKeptFor {R = R} {A = A} Rebuild (last a) (last b)
  kept_once runs a mid b kept once =
      all_on rack area last went shared owns (KeptFor Rebuild) law a mid b kept (once_kept rack area last went shared owns (KeptFor Rebuild) law (ReadiesIn rack area runs) mid m b once (readies_for rack area runs once.before once.after once.did))

  -- and behind a sync
  pub kept_sync : (a mid b : S) → AllKeptFor {R = R} {A = A} Rebuild (last a) (last mid) → KeepsParts {R = R} {A = A} (last mid) (last b) → AllKeptFor {R = R} {A = A} Rebuild (last a) (last b)
  kept_sync a mid b kept keeps = all_on rack area last went shared owns (KeptFor Rebuild) law a mid b kept (parts_for Rebuild (last mid) (last b) keeps)

-- where it runs it may lend
pub readies_lends : {R A S : Type 0} (rack : racks.Ghosts R) (area : areas.Ghosts A) (last : S → ℕ → Option (Shard R A)) (went : S → ℕ → Shard R A → Shard R A → S → Type 0) (shared : Bool) (owns : ℕ → Bool) (syncs : S → Uber A → Option (Result Synced SyncFault) → S → Uber A → Type 0) (m : ℕ) (a b : S) (u v : Uber A)
    → ReadiesBy rack area last went shared owns syncs m a u (Some (Ok tt)) b v → LeftSo m (MayLendIn rack Rebuild) (last b)
readies_lends rack area last went shared owns syncs m a b u v (n, mid, waited, once) = (
  once.after,
  held_here rack area last went shared owns (ReadiesIn rack area true) mid m b once,
  record { valid = once.did.valid; pass = runs_to_lend once.after.pass (once.did.running refl) },
)

-- ---- what a visit needs

module _ {R A S : Type 0} (rack : racks.Ghosts R) (area : areas.Ghosts A) (last : S → ℕ → Option (Shard R A)) (geometry : Geometry) (kind : PassKind) (a : S) (u : Uber A) (may : MayVisit rack area geometry kind (last a) u) where
  may_valid : (m : ℕ) → m < geometry.props.metaslabs → (shard : Shard R A) → last a m ≡ Some shard → Valid rack shard
  may_valid m below shard at = (let z = may.ready m below in subst (λ (s : Shard R A). Valid rack s) (some_same z.0 shard (sym z.1 ∙ at)) z.2.valid)

  pub may_start : (m : ℕ) → m < geometry.props.metaslabs → LeftSo m (MayStartIn rack kind) (last a)
  may_start m below = (let z = may.ready m below in (z.0, z.1, record { valid = z.2.valid; alone = may.alone m z.0 z.1 }))

  -- with a pass of the kind
  module _ (m : ℕ) (below : m < geometry.props.metaslabs) (pass : LeftSo m (λ (shard : Shard R A). IsSomeAnd shard.pass (λ (p : Pass). p.kind ≡ kind)) (last a)) where
    pub may_ready : kind ≡ Rebuild → LeftSo m (MayReadyIn rack) (last a)
    may_ready is = (pass.0, pass.1, record { valid = may_valid m below pass.0 pass.1; rebuild = subst (λ k. IsSomeAnd pass.0.pass (λ (p : Pass). p.kind ≡ k)) is pass.2 })

    pub may_lend : (kind ≡ Rebuild → ⊥) → LeftSo m (MayLendIn rack kind) (last a)
    may_lend not = (pass.0, pass.1, record { valid = may_valid m below pass.0 pass.1; pass = to_lend kind pass.0.pass not pass.2 })

  -- behind holds that leave the metaslabs fit for it
  pub may_on : (b : S) (v : Uber A) → AllKept {R = R} {A = A} last (KeptFor kind) a b → ubers.Valid area.size v → EachIs geometry.props.metaslabs (ClosesNext rack (group_of (ubers.kept_of v) + 1)) (last b) → NoneBeyond geometry.props.metaslabs (last b)
      → MayVisit rack area geometry kind (last b) v
  may_on b v kept valid ready beyond = record {
    geometry_is = may.geometry_is;
    valid = valid;
    ready = ready;
    beyond = beyond;
    layout = λ m shard at. (let z = kept m shard at in ap (λ (p : Part). p.geometry) z.2.part ∙ may.layout m z.0 z.1);
    alone = λ m shard at. (let z = kept m shard at in z.2.only (may.alone m z.0 z.1));
  }

module _ {R A S : Type 0} (rack : racks.Ghosts R) (area : areas.Ghosts A) (last : S → ℕ → Option (Shard R A)) (went : S → ℕ → Shard R A → Shard R A → S → Type 0) (shared : Bool) (owns : ℕ → Bool) (own : owns groups_number ≡ true) (passes : owns passes_number ≡ true)
    (geometry : Geometry) (kind : PassKind) (u : Uber A) (m : ℕ) (below : m < geometry.props.metaslabs) where
  -- a hold that leaves blocks and groups
  held_may : (does : Shard R A → Shard R A → Type 0) (a b : S) (h : HeldOnce rack area last went shared owns does a m b) → Valid rack h.after → part_of h.after ≡ part_of h.before → KeepsBlocks h.before h.after → KeptFor kind h.before h.after
      → MayVisit rack area geometry kind (last a) u → MayVisit rack area geometry kind (last b) u
  held_may does a b h valid part blocks kept may =
      let count = geometry.props.metaslabs in
      let z = quiet_on rack area last went shared owns own count (λ s. NoneBeyond count (last s)) (beyond_on rack area last went shared owns count) does a m b below h (group_of (ubers.kept_of u) + 1)
      (quiet_by rack area owns h.before h.after valid part blocks) (record { left = may.beyond; ready = may.ready }) in
      may_on rack area last geometry kind a u may b u (once_kept rack area last went shared owns (KeptFor kind) (kept_for rack area kind shared owns passes) does a m b h kept) may.valid z.ready z.left

  -- ---- it begins

  pub begins_may : (a b : S) (result : Begun) → BeginsBy rack area last went shared owns kind m a result b → MayVisit rack area geometry kind (last a) u → MayVisit rack area geometry kind (last b) u
  begins_may a b result (came, is, h) may = held_may (λ x y. StartsIn rack area kind x came y) a b h h.did.valid h.did.part h.did.blocks (starts_for rack area kind h.before h.after came h.did) may

  module _ (a b : S) (stripe : ℕ) (begins : BeginsBy rack area last went shared owns kind m a (begun.At stripe) b) where
    pub begins_pass : LeftSo m (λ (shard : Shard R A). IsSomeAnd shard.pass (λ (p : Pass). p.kind ≡ kind)) (last b)
    begins_pass =
        let h = begins.2 in
        let z = begun_ok begins.0 stripe begins.1 in
        (h.after, held_here rack area last went shared owns (λ x y. StartsIn rack area kind x begins.0 y) a m b h, subst (λ came. OnOk came (IsSomeAnd h.after.pass (λ (p : Pass). p.kind ≡ kind))) z.1 h.did.pass)

    pub begins_inside : MayVisit rack area geometry kind (last a) u → stripe ≤ metaslab_stripes geometry
    begins_inside may =
        let h = begins.2 in
        let z = begun_ok begins.0 stripe begins.1 in
        let low : z.0 ≤ metaslab_stripes h.before.geometry = subst (λ came. IfOk came (λ at. at ≤ metaslab_stripes h.before.geometry)) z.1 h.did.low in
        let is : h.before.geometry ≡ geometry = ap (λ (p : Part). p.geometry) h.drifts.part ∙ may.layout m h.shard h.there in
        subst (λ n. n ≤ metaslab_stripes geometry) (sym z.2) (subst (λ (g : Geometry). z.0 ≤ metaslab_stripes g) is low)

  -- ---- it lends

  unit_may : (used : Bool) (came : Next) (a b : S) → HeldOnce rack area last went shared owns (UnitIn rack area kind used came) a m b → MayVisit rack area geometry kind (last a) u → MayVisit rack area geometry kind (last b) u
  unit_may used came a b h may =
      held_may (UnitIn rack area kind used came) a b h h.did.valid h.did.table.part (unit_blocks rack area kind used came h.before h.after h.did) (units_for rack area kind used came h.before h.after h.did) may

  lent_may : (n : ℕ) (a b : S) (p q : Progress) → Lent rack area last went shared owns kind m n a p b q → MayVisit rack area geometry kind (last a) u → MayVisit rack area geometry kind (last b) u
  lent_may zero a b p q lent may = subst (λ s. MayVisit rack area geometry kind (last s) u) (sym lent.0) may
  lent_may (suc n) a b p q (mid, r, repaired, lent, some, once, counts) may = unit_may false (next.Landed repaired) mid b once (lent_may n a mid p r lent may)

  pub lends_may : (a b : S) (p q : Progress) (result : Visit) → LendsBy rack area last went shared owns kind m a p result b q → MayVisit rack area geometry kind (last a) u → MayVisit rack area geometry kind (last b) u
  lends_may a b p q result l may = unit_may l.used l.came l.mid b l.back (lent_may l.units a l.mid p l.upto l.front may)
