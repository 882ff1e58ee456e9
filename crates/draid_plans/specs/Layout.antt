-- The layout of the metaslab that has these slots.
use Rattle.draid_layouts.specs.Layout.{layout_of}
use Rattle.draid_machine.specs.State as machine
use Rattle.draid_slots.specs.Table.{SlotTable}

abbrev pub layout_with : SlotTable → machine.Layout
layout_with slots = layout_of slots.geometry slots.perms slots.metaslab
