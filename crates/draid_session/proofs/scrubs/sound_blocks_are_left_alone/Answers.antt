use Rattle.draid_session.proofs.Unrepaired.{lands_few, lands_none}
use Rattle.draid_session.proofs.scrubs.sound_blocks_are_left_alone.Goals as goal

pub returns-clause-few : goal.returns-clause-few
returns-clause-few c geometry perms m repaired holds rest n h one lay reached step loan held unhurt takes =
    lands_few geometry perms one.u one.landed lay reached repaired n h loan held one.e step one.lands one.needed unhurt takes

pub returns-clause-none : goal.returns-clause-none
returns-clause-none c geometry perms m repaired holds rest n h one lay reached step loan held unhurt clean =
    lands_none geometry perms one.u one.landed lay reached repaired n h loan held one.e step one.lands one.needed unhurt clean
