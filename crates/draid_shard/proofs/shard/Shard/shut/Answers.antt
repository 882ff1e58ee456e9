use Rattle.std.proofs.Common.{◌∙◌, sym, arith}
use Rattle.std.proofs.lemmas.Bool.{true≢false}
use Rattle.draid_machine.specs.Step.{IsEnabled}
use Rattle.draid_shard.proofs.FreeRuns.{fewer_by, no_rebuild, rebuild_has}
use Rattle.draid_shard.proofs.shard.Shard.shut.Goals as goal

pub returns-then-is_worn : goal.returns-then-is_worn
returns-then-is_worn g c w is_in =
    let enabled = no_rebuild c.rebuild.result (IsEnabled w.core) (sym c.is_some.ensures ∙ c.if-is_some.false) (c.rebuild.ensures.none w is_in) in (
      enabled,
      fewer_by c.args.self.now w c.is_full.result is_in c.requires.valid.few c.is_full.ensures.count c.if-is_full.false,
      (let passes = c.is_worn.ensures.0 c.if-is_worn.true in let same = c.block_events.ensures in omega (arith, passes, same)),
    )

pub returns : goal.returns
returns g c w is_in =
    let enabled = no_rebuild c.rebuild.result (IsEnabled w.core) (sym c.is_some.ensures ∙ c.if-is_some.false) (c.rebuild.ensures.none w is_in) in
    record {
      enabled = enabled;
      fewer = fewer_by c.args.self.now w c.is_full.result is_in c.requires.valid.few c.is_full.ensures.count c.if-is_full.false;
      events = λ worn. true≢false (sym (c.is_worn.ensures.1 (let same = c.block_events.ensures in omega (arith, worn, same))) ∙ c.if-is_worn.false);
    }

pub returns-then-is_some : goal.returns-then-is_some
returns-then-is_some g c w is_in = rebuild_has c.rebuild.result w.core (sym c.is_some.ensures ∙ c.if-is_some.true) (c.rebuild.ensures.some w is_in)

pub returns-then-is_full : goal.returns-then-is_full
returns-then-is_full g c w is_in = (
  no_rebuild c.rebuild.result (IsEnabled w.core) (sym c.is_some.ensures ∙ c.if-is_some.false) (c.rebuild.ensures.none w is_in),
  (c.is_full.ensures.held w is_in).0 c.if-is_full.true,
)
