use Rattle.std.proofs.Common.{◌≡◌, ◌<◌, ◌∙◌, ℕ, Option, subst, sym}
use Rattle.draid_spec.specs.declared.layout.Geometry.{Geometry}
use Rattle.draid_pool.specs.declared.fault.SyncFault.TheVariants as sync
use Rattle.draid_pool.proofs.Refusing.{no_refusal}
use Rattle.draid_pool.proofs.Rises.{areas_on, err_on, rose_then}
use Rattle.draid_run.specs.declared.rebalancing.Rebalanced.{Rebalanced}
use Rattle.draid_run.proofs.Balanced.{ends_whole, only_halts, scrub_goes, scrub_halted, scrub_stops, slot_behind}
use Rattle.draid_run.proofs.rebalancing.scrub_then.Goals as goal

pub halted_by-requires : goal.halted_by-requires
halted_by-requires g c = only_halts c.in-Err.fault c.args.pool.now c.scrub.new.pool c.requires.alone c.in-Err.ensures.passes

pub detach_others-requires : goal.detach_others-requires
detach_others-requires g c =
    let e = c.in-Ok.ensures in
    record {
      whole = e.whole;
      idle = e.idle c.requires.idle;
      passes = ends_whole c.in-Ok.mended c.scrub.new.pool e.within e.passes;
      slot = subst (λ (z : Geometry). c.args.slot < z.spec.children) (sym e.geometry) c.requires.slot;
    }

pub returns-in-Err : goal.returns-in-Err
returns-in-Err g c =
    let e = c.in-Err.ensures in
    let h = c.halted_by.ensures in
    record {
      whole = e.whole;
      same = e.same;
      later = e.later;
      cause = λ is. (let shelf : c.halted_by.result ≡ sync.Shelf = cc is in absurd (h.not_shelf shelf));
      carries = scrub_halted g.R.Rack g.A.Area c.args.slot c.args.pool.now c.scrub.new.pool c.halted_by.result c.in-Err.fault h.why e.carries;
      passes = tt;
      arms = tt;
    }

pub returns-in-Ok-detach_others : goal.returns-in-Ok-detach_others
returns-in-Ok-detach_others g c =
    let old = c.args.pool.now in
    let mid = c.scrub.new.pool in
    let new = c.detach_others.new.pool in
    let e = c.in-Ok.ensures in
    let f = c.in-Ok-detach_others.ensures in
    let it = c.in-Ok.mended in
    let group = c.in-Ok-detach_others.group in
    record {
      whole = f.whole;
      same = λ object. f.same object ∙ e.same object;
      later = areas_on g.A.Area.faults old mid new e.later f.later;
      cause = λ is. absurd (no_refusal is);
      carries = scrub_goes g.R.Rack g.A.Area c.args.slot old mid new it group e.within e.carries f.carries;
      passes = f.passes;
      arms = slot_behind c.args.slot it group mid new f.arms;
    }

pub returns-in-Err-detach_others : goal.returns-in-Err-detach_others
returns-in-Err-detach_others g c =
    let old = c.args.pool.now in
    let mid = c.scrub.new.pool in
    let new = c.detach_others.new.pool in
    let e = c.in-Ok.ensures in
    let f = c.in-Err-detach_others.ensures in
    let why = c.in-Err-detach_others.why in
    record {
      whole = f.whole;
      same = λ object. f.same object ∙ e.same object;
      later = areas_on g.A.Area.faults old mid new e.later f.later;
      cause = λ is. rose_then g.A.Area.faults old mid new e.later (f.cause (err_on Rebalanced (Option ℕ) why sync.Shelf is));
      carries = scrub_stops g.R.Rack g.A.Area c.args.slot old mid new c.in-Ok.mended why e.within e.carries f.carries;
      passes = tt;
      arms = tt;
    }
