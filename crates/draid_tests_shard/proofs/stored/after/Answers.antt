use Rattle.draid_machine.specs.Step.{Run}
use Rattle.draid_world.specs.declared.world.World.{World}
use Rattle.draid_world.specs.World.{site_layout, state_of}
use Rattle.draid_replay.specs.Within.{IsWithin}
use Rattle.draid_replay.proofs.Histories.{stripes_few}
use Rattle.draid_tests_shard.proofs.Runs.{ok_map, run_within}
use Rattle.draid_tests_shard.proofs.stored.after.Goals as goal

pub returns : goal.returns
returns c =
    let l = site_layout c.args.site.now in
    record {
      within = ok_map c.replay.result (λ (v : World). Run l (state_of c.args.world) c.args.events.now (state_of v)) (λ (v : World). IsWithin (state_of v))
          (λ v run. run_within l (state_of c.args.world) (state_of v) c.args.events.now (stripes_few c.args.site.now.geometry c.args.site.now.laid.geometry_is)
          c.requires.within (c.are_small.ensures c.if-not-are_small.false) run) c.replay.ensures.ok;
    }
