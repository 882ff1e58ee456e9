-- The stripes or blocks that the only thread of a pool lends in one metaslab, one after another.
use Rattle.std.proofs.Common.{◌≡◌, ◌+◌, ◌∙◌, ℕ, zero, suc, Bool, false, Some, None, length, ap, refl, subst, sym}
use Rattle.std.specs.Prelude.{◌↔◌, IsTrue}
use Rattle.std.proofs.lemmas.Bool.{true≢false}
use Rattle.std.proofs.lemmas.List.{length-set}
use Rattle.draid_names.specs.declared.pass_kind.PassKind.{PassKind}
use Rattle.draid_names.specs.declared.pass_kind.PassKind.TheVariants.{Heal}
use Rattle.draid_rack.specs.declared.Rack as racks
use Rattle.draid_area.specs.declared.Area as areas
use Rattle.draid_pass.specs.declared.pass.Pass.{Pass}
use Rattle.draid_session.specs.State.{State}
use Rattle.draid_pool.specs.Carries.{CarriesOut}
use Rattle.draid_pool.specs.Failing.{AreasLater}
use Rattle.draid_pool.specs.Pools.{Represents}
use Rattle.draid_pool.specs.Rounds.{HeldOnce}
use Rattle.draid_pool.specs.Syncing.{AreIdle}
use Rattle.draid_pool.specs.Whole.{IsWhole}
use Rattle.draid_pool.specs.declared.fault.SyncFault.TheVariants as sync
use Rattle.draid_pool.specs.declared.owned.Owned.{Owned}
use Rattle.draid_pool.specs.declared.pool.Pool.{Pool}
use Rattle.draid_pool.proofs.GroupClosed.{left_by, once_sets, went_by, with_owned}
use Rattle.draid_pool.proofs.Lifted.{SetsShard}
use Rattle.draid_pool.proofs.OwnedKnows.{all}
use Rattle.draid_pool.proofs.Rises.{areas_on, areas_set, areas_still, records_same}
use Rattle.draid_visits.specs.Steps.{HadContents, IsRunningOf, NextIs}
use Rattle.draid_visits.specs.Units.{LastIs, LendsBy, Lent, UnitIn}
use Rattle.draid_visits.specs.Visiting.{KeepsOthers, LeavesAt, LendIs, counted}
use Rattle.draid_visits.specs.declared.progress.Progress.{Progress}
use Rattle.draid_visits.specs.declared.progress.Visit.{Visit}
use Rattle.draid_visits.specs.declared.progress.Visit.TheVariants as visit
use Rattle.draid_visits.specs.declared.steps.Next.{Next}
use Rattle.draid_visits.specs.declared.steps.Next.TheVariants as next
use Rattle.draid_visits.proofs.Kept.{at_set, idle_set, others_on, others_same, others_set, runs_kept}
use Rattle.draid_visits.proofs.Leading.{Does, Steps, leads_none, steps_to}
use Rattle.draid_visits.proofs.Lifting.{goes_said}
use Rattle.draid_visits.proofs.Lending.{Lending, NextSays, SomeLends, lends_end, lends_more, lends_paused, lends_starved, lends_worn}
use Rattle.draid_visits.proofs.SharedWhole.{whole_shared}

module _ {R A : Type 0} (rack : racks.Ghosts R) (area : areas.Ghosts A) (kind : PassKind) (m : ℕ) (pool : Pool R A) (old : Progress) where
  -- some were lent there, and the pass hasn't ended
  record LentAt (now : Pool R A) (at : Progress) : Type 0 where
    pub whole : IsWhole rack area now
    pub many : length now.metaslabs.shards.items ≡ length pool.metaslabs.shards.items
    pub later : AreasLater area.faults pool now
    pub others : KeepsOthers m pool now
    pub idle : AreIdle pool.metaslabs.shards.items → AreIdle now.metaslabs.shards.items
    pub from : at.from ≡ old.from
    pub carries : (x : State) → Represents rack area pool x → Lending rack area kind m old at now x

  lent_none : IsWhole rack area pool → LentAt pool old
  lent_none w = record {
    whole = w;
    many = refl;
    later = areas_still area.faults pool;
    others = others_same m pool;
    idle = λ is. is;
    from = refl;
    carries = λ x is. leads_none rack area (SomeLends x.geometry x.perms kind m old) pool x is;
  }

  -- whatever comes in a hold leaves the others
  module _ (used : Bool) (came : Next) (mid b : Owned R A) (at : Progress) (i : LentAt (with_owned pool mid) at) (h : HeldOnce rack area left_by went_by false all (UnitIn rack area kind used came) mid m b) where
    set : SetsShard rack area m (with_owned pool mid) (with_owned pool b) h.before h.after
    set = once_sets rack area pool (UnitIn rack area kind used came) mid m b h

    held_whole : IsWhole rack area (with_owned pool b)
    held_whole = whole_shared rack area m (with_owned pool mid) (with_owned pool b) h.before h.after i.whole set h.did.valid h.did.table

    held_later : AreasLater area.faults pool (with_owned pool b)
    held_later = areas_on area.faults pool (with_owned pool mid) (with_owned pool b) i.later (areas_set rack area m (with_owned pool mid) (with_owned pool b) h.before h.after set (records_same area.faults h.before h.after h.did.areas_are))

    held_others : KeepsOthers m pool (with_owned pool b)
    held_others = others_on m pool (with_owned pool mid) (with_owned pool b) i.many i.others (others_set rack area m (with_owned pool mid) (with_owned pool b) h.before h.after set)

    held_idle : AreIdle pool.metaslabs.shards.items → AreIdle b.shards.items
    held_idle is = idle_set rack area m (with_owned pool mid) (with_owned pool b) h.before h.after set h.did.table.closing (i.idle is)

    held_many : length b.shards.items ≡ length pool.metaslabs.shards.items
    held_many = ap length set.sets ∙ (length-set mid.shards.items m h.after ∙ i.many)

    held_step : Steps rack area (with_owned pool mid) (with_owned pool b) (NextSays rack area kind m old used came)
    held_step = steps_to rack area m (with_owned pool mid) (with_owned pool b) h.before h.after (λ part holds. NextIs part kind used came holds) set (λ part pieces y own has.
        goes_said rack area part pieces y h.after (kind ≡ Heal → HadContents rack area part h.before y) (NextIs part kind used came) (λ heal. (pieces, own, has)) (h.did.goes part pieces y own))

  -- one more
  lent_more : (repaired : ℕ) (mid b : Owned R A) (at : Progress) → LentAt (with_owned pool mid) at → (at.left ≡ Some 0 → ⊥) → HeldOnce rack area left_by went_by false all (UnitIn rack area kind false (next.Landed repaired)) mid m b
      → LentAt (with_owned pool b) (counted repaired at)
  lent_more repaired mid b at i some h =
      let unused : IsTrue false ↔ (at.left ≡ Some 0) = (λ is. absurd (true≢false (sym is)), λ up. absurd (some up)) in
      record {
        whole = held_whole false (next.Landed repaired) mid b at i h;
        many = held_many false (next.Landed repaired) mid b at i h;
        later = held_later false (next.Landed repaired) mid b at i h;
        others = held_others false (next.Landed repaired) mid b at i h;
        idle = held_idle false (next.Landed repaired) mid b at i h;
        from = i.from;
        carries = λ x is. lends_more rack area kind m old (with_owned pool mid) (with_owned pool b) x at (counted repaired at) repaired false unused (i.carries x is) refl (held_step false (next.Landed repaired) mid b at i h);
      }

  lent_upto : IsWhole rack area pool → (n : ℕ) (b : Owned R A) (q : Progress) → Lent rack area left_by went_by false all kind m n pool.metaslabs old b q → LentAt (with_owned pool b) q
  lent_upto w zero b q lent = subst (λ p. LentAt (with_owned pool b) p) (sym lent.1) (subst (λ o. LentAt (with_owned pool o) old) (sym lent.0) (lent_none w))
  lent_upto w (suc n) b q (mid, at, repaired, front, some, once, counts) =
      subst (λ p. LentAt (with_owned pool b) p) (sym counts) (lent_more repaired mid b at (lent_upto w n mid at front) some once)

  -- ---- and then none was

  pub record LendDone (new : Pool R A) (result : Visit) (now : Progress) : Type 0 where
    pub whole : IsWhole rack area new
    pub later : AreasLater area.faults pool new
    pub not_shelf : result ≡ visit.Stopped sync.Shelf → ⊥
    pub others : KeepsOthers m pool new
    pub idle : AreIdle pool.metaslabs.shards.items → AreIdle new.metaslabs.shards.items
    pub leaves : LeavesAt kind result new m
    pub from : now.from ≡ old.from
    pub carries : (x : State) → Represents rack area pool x → CarriesOut rack area new x (Does x (LendIs x.geometry x.perms kind m old result now))

  module _ (used : Bool) (mid b : Owned R A) (at : Progress) (test : IsTrue used ↔ (at.left ≡ Some 0)) (i : LentAt (with_owned pool mid) at) where
    -- the pass ended
    ends_over : (errors : ℕ) → HeldOnce rack area left_by went_by false all (UnitIn rack area kind used (next.Ended errors)) mid m b → LendDone (with_owned pool b) visit.Over (record at { errors = at.errors + errors })
    ends_over errors h = record {
      whole = held_whole used (next.Ended errors) mid b at i h;
      later = held_later used (next.Ended errors) mid b at i h;
      not_shelf = λ is. absurd (cc is);
      others = held_others used (next.Ended errors) mid b at i h;
      idle = held_idle used (next.Ended errors) mid b at i h;
      leaves = at_set rack area (λ z. z.pass ≡ None) m (with_owned pool mid) (with_owned pool b) h.before h.after (set used (next.Ended errors) mid b at i h) (h.did.ended errors refl).0;
      from = i.from;
      carries = λ x is. lends_end rack area kind m old (with_owned pool mid) (with_owned pool b) x at errors used (i.carries x is) (held_step used (next.Ended errors) mid b at i h);
    }

    -- the limit is used up
    ends_paused : HeldOnce rack area left_by went_by false all (UnitIn rack area kind used next.Paused) mid m b → LendDone (with_owned pool b) visit.Paused at
    ends_paused h = record {
      whole = held_whole used next.Paused mid b at i h;
      later = held_later used next.Paused mid b at i h;
      not_shelf = λ is. absurd (cc is);
      others = held_others used next.Paused mid b at i h;
      idle = held_idle used next.Paused mid b at i h;
      leaves = at_set rack area (λ z. (pass : Pass) × (z.pass ≡ Some pass) × IsRunningOf kind pass) m (with_owned pool mid) (with_owned pool b) h.before h.after (set used next.Paused mid b at i h)
          (runs_kept kind h.after h.after refl (h.did.paused refl).1);
      from = i.from;
      carries = λ x is. lends_paused rack area kind m old (with_owned pool mid) (with_owned pool b) x at used test (i.carries x is) (held_step used next.Paused mid b at i h);
    }

    -- or it was stopped
    ends_worn : HeldOnce rack area left_by went_by false all (UnitIn rack area kind used next.Worn) mid m b → LendDone (with_owned pool b) (visit.Stopped sync.Worn) at
    ends_worn h = record {
      whole = held_whole used next.Worn mid b at i h;
      later = held_later used next.Worn mid b at i h;
      not_shelf = λ is. absurd (cc is);
      others = held_others used next.Worn mid b at i h;
      idle = held_idle used next.Worn mid b at i h;
      leaves = tt;
      from = i.from;
      carries = λ x is. lends_worn rack area kind m old (with_owned pool mid) (with_owned pool b) x at at used test (i.carries x is) (held_step used next.Worn mid b at i h);
    }

    ends_starved : HeldOnce rack area left_by went_by false all (UnitIn rack area kind used next.NoMemory) mid m b → LendDone (with_owned pool b) (visit.Stopped sync.NoMemory) at
    ends_starved h = record {
      whole = held_whole used next.NoMemory mid b at i h;
      later = held_later used next.NoMemory mid b at i h;
      not_shelf = λ is. absurd (cc is);
      others = held_others used next.NoMemory mid b at i h;
      idle = held_idle used next.NoMemory mid b at i h;
      leaves = tt;
      from = i.from;
      carries = λ x is. lends_starved rack area kind m old (with_owned pool mid) (with_owned pool b) x at at used test (i.carries x is) (held_step used next.NoMemory mid b at i h);
    }

    ends_by : (came : Next) (result : Visit) (q : Progress) → HeldOnce rack area left_by went_by false all (UnitIn rack area kind used came) mid m b → LastIs came at result q → LendDone (with_owned pool b) result q
    ends_by (next.Ended errors) visit.Over q h is = subst (λ p. LendDone (with_owned pool b) visit.Over p) (sym is) (ends_over errors h)
    ends_by next.Paused visit.Paused q h is = subst (λ p. LendDone (with_owned pool b) visit.Paused p) (sym is) (ends_paused h)
    ends_by next.Worn (visit.Stopped why) q h is =
        subst (λ y. LendDone (with_owned pool b) (visit.Stopped y) q) (sym is.0) (subst (λ p. LendDone (with_owned pool b) (visit.Stopped sync.Worn) p) (sym is.1) (ends_worn h))
    ends_by next.NoMemory (visit.Stopped why) q h is =
        subst (λ y. LendDone (with_owned pool b) (visit.Stopped y) q) (sym is.0) (subst (λ p. LendDone (with_owned pool b) (visit.Stopped sync.NoMemory) p) (sym is.1) (ends_starved h))
    ends_by (next.Ended errors) visit.Paused q h is = absurd is
    ends_by (next.Ended errors) (visit.Stopped why) q h is = absurd is
    ends_by next.Paused visit.Over q h is = absurd is
    ends_by next.Paused (visit.Stopped why) q h is = absurd is
    ends_by next.Worn visit.Over q h is = absurd is
    ends_by next.Worn visit.Paused q h is = absurd is
    ends_by next.NoMemory visit.Over q h is = absurd is
    ends_by next.NoMemory visit.Paused q h is = absurd is
    ends_by (next.Landed repaired) visit.Over q h is = absurd is
    ends_by (next.Landed repaired) visit.Paused q h is = absurd is
    ends_by (next.Landed repaired) (visit.Stopped why) q h is = absurd is

  pub lend_done : IsWhole rack area pool → (result : Visit) (b : Owned R A) (q : Progress) → LendsBy rack area left_by went_by false all kind m pool.metaslabs old result b q → LendDone (with_owned pool b) result q
  lend_done w result b q l = ends_by l.used l.mid b l.upto l.used_up (lent_upto w l.units l.mid l.upto l.front) l.came result q l.back l.is
