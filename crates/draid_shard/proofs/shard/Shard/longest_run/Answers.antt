use Rattle.std.proofs.Common.{inl, inr, refl}
use Rattle.draid_shard.specs.States.{layout_by}
use Rattle.draid_shard.proofs.Sizes.{some_height}
use Rattle.draid_shard.proofs.FreeRuns.{longest_of, shut_by, takes_by}
use Rattle.draid_shard.proofs.shard.Shard.longest_run.Goals as goal

pub returns-in-Some : goal.returns-in-Some
returns-in-Some g c w is_in = inl (shut_by c.args.self.now w c.shut.result _ c.in-Some.is (c.shut.ensures w is_in), refl)

pub returns-in-None : goal.returns-in-None
returns-in-None g c w is_in = inr (
  takes_by c.args.self.now w c.shut.result c.in-None.is (c.shut.ensures w is_in),
  longest_of c.args.self.now.geometry c.args.self.now.open_group c.args.self.now.space c.args.self.now.entries c.requires.valid.tables (layout_by c.args.self.now) w.core is_in.held refl refl
      c.largest.result (some_height c.args.self.now.geometry c.requires.valid.part.layout.geometry_is) c.largest.ensures,
)
