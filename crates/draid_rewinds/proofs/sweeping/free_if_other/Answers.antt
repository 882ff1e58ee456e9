use Rattle.std.proofs.Common.{◌∙◌, arith, inl, inr, refl, sym}
use Rattle.std.specs.Prelude.{nat_eq}
use Rattle.std.specs.HashMap.{get}
use Rattle.std.proofs.lemmas.Bool.{true≢false}
use Rattle.draid_rewinds.proofs.Others.{freed_now}
use Rattle.draid_rewinds.proofs.sweeping.free_if_other.Goals as goal

pub returns-then-not-is_live : goal.returns-then-not-is_live
returns-then-not-is_live g c = record { frees = inr (refl, refl, λ live. absurd (true≢false (sym (c.is_live.ensures.1 live) ∙ c.if-not-is_live.true))) }

pub returns-then-is_own : goal.returns-then-is_own
returns-then-is_own g c = record { frees = inr (refl, refl, λ live. c.is_own.ensures.0 c.if-is_own.true) }

pub free-requires : goal.free-requires
free-requires g c = (let is = c.requires.ready.is_open in record { valid = c.requires.ready.valid; floor = record { upto = omega (arith, is); low = c.requires.ready.low } })

pub returns : goal.returns
returns g c =
    let e = c.in-Ok.ensures in
    record {
      frees = inl (
        refl,
        freed_now g.R.Rack g.A.Area (get nat_eq c.args.objects.now) c.args.pointer.now c.args.group c.in-Ok._group c.args.shard.now c.free.new.shard c.requires.ready (c.is_live.ensures.0 c.if-not-is_live.false)
            (λ same. true≢false (sym (c.is_own.ensures.1 same) ∙ c.if-is_own.false)) e.valid e.kit e.reserve e.event.0 e.event.1 e.sets,
      );
    }
