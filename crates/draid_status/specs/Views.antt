-- What looks at all of an open pool show.
use Rattle.std.specs.Prelude.{List}
use Rattle.draid_session.specs.Holds.{UberView, View}
use Rattle.draid_session.specs.State.{State}
use Rattle.draid_pool.specs.Views.{seen_at}

abbrev pub views_of : State → List View
views_of x = seen_at 0 x.metaslabs

-- the uberblock
abbrev pub uber_view : State → UberView
uber_view x = record { committed = x.committed; next_leaf = x.next_leaf }
