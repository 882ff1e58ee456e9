-- What looks at all of an open pool show.
use Rattle.std.specs.Prelude.{◌+◌, ℕ, List, [], ◌∷◌}
use Rattle.draid_session.specs.Holds.{View, view_of}
use Rattle.draid_session.specs.State.{Metaslab}

-- metaslabs from a number on
unfoldable pub seen_at : ℕ → List Metaslab → List View
seen_at m [] = []
seen_at m (y ∷ ys) = view_of m y ∷ seen_at (m + 1) ys
