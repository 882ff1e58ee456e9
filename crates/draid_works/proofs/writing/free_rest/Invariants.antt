use Rattle.std.proofs.Common.{◌≡◌, ℕ, Option}
use Rattle.draid_names.specs.declared.pointer.Pointer.{Pointer}
use Rattle.draid_objects.specs.Changes.{Write}
use Rattle.draid_session.specs.State.{State}
use Rattle.draid_pool.specs.Threads.{AllStay, HasPointer, IsWholeBy, LeadsBy}
use Rattle.draid_store.specs.Freeing.{IsApart}
use Rattle.draid_store.specs.Open.{KnowsEarlier}
use Rattle.draid_works.proofs.Waited.{Waits}
use Rattle.draid_works.proofs.writing.free_rest.Given as goal
use Rattle.draid_session.specs.Points.{KeepsBirth}

abbrev pub invariant-loop : goal.invariant-loop
invariant-loop g l = record {
  fits : g.M.Metaslabs.fits l.metaslabs;
  locks : g.M.Metaslabs.locks l.metaslabs ≡ g.M.Metaslabs.locks l.initial.metaslabs;
  owns : g.M.Metaslabs.owns l.metaslabs ≡ g.M.Metaslabs.owns l.initial.metaslabs;
  stay : AllStay (g.M.Metaslabs.owns l.initial.metaslabs) (g.M.Metaslabs.last l.initial.metaslabs) (g.M.Metaslabs.last l.metaslabs);
  has : HasPointer (g.M.Metaslabs.last l.metaslabs) g.R.Rack (g.M.Metaslabs.owns l.initial.metaslabs) l.pointer.object l.pointer;
  whole : (table : ℕ → Option Pointer) (seq : ℕ) → IsWholeBy g.R.Rack (g.M.Metaslabs.owns l.initial.metaslabs) (g.M.Metaslabs.last l.initial.metaslabs) table seq l.floor → IsApart table l.pointer
      → IsWholeBy g.R.Rack (g.M.Metaslabs.owns l.initial.metaslabs) (g.M.Metaslabs.last l.metaslabs) table seq l.floor;
  waits : (table : ℕ → Option Pointer) (seq : ℕ) (x : State) (we : Write) → (KeepsBirth x.store.marks we.birth → ⊥) → KnowsEarlier g.R.Rack g.A.Area (g.M.Metaslabs.owns l.initial.metaslabs) (g.M.Metaslabs.last l.initial.metaslabs) table seq l.floor l.pointer we x
      → LeadsBy g.R.Rack g.A.Area g.M.Metaslabs.went g.M.Metaslabs.shared l.initial.metaslabs l.metaslabs x (Waits x) (KnowsEarlier g.R.Rack g.A.Area (g.M.Metaslabs.owns l.initial.metaslabs) (g.M.Metaslabs.last l.metaslabs) table seq l.floor l.pointer we);
}
