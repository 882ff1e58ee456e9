use Rattle.std.proofs.Common.{◌≡◌, ℕ, nat_eq, None}
use Rattle.std.specs.HashMap.{get}
use Rattle.draid_session.specs.State.{State}
use Rattle.draid_pool.specs.Threads.{AllStay, IsWholeBy, Knows, LeadsBy}
use Rattle.draid_works.proofs.Waited.{Waits}
use Rattle.draid_works.proofs.writing.store_through.Given as goal
use Rattle.draid_objects.specs.Marks.{check_by}

abbrev pub invariant-loop : goal.invariant-loop
invariant-loop g l = record {
  fits : g.M.Metaslabs.fits l.metaslabs;
  locks : g.M.Metaslabs.locks l.metaslabs ≡ g.M.Metaslabs.locks l.initial.metaslabs;
  owns : g.M.Metaslabs.owns l.metaslabs ≡ g.M.Metaslabs.owns l.initial.metaslabs;
  stay : AllStay (g.M.Metaslabs.owns l.initial.metaslabs) (g.M.Metaslabs.last l.initial.metaslabs) (g.M.Metaslabs.last l.metaslabs);
  whole : IsWholeBy g.R.Rack (g.M.Metaslabs.owns l.initial.metaslabs) (g.M.Metaslabs.last l.metaslabs) (λ o. get nat_eq l.own.objects o) l.own.seq l.own.floor;
  sets : (other : ℕ) → get nat_eq l.own.objects other ≡ get nat_eq l.initial.own.objects other;
  waits : (x : State) → check_by x.store.marks ≡ None → Knows g.R.Rack g.A.Area (g.M.Metaslabs.owns l.initial.metaslabs) (g.M.Metaslabs.last l.initial.metaslabs) (λ o. get nat_eq l.initial.own.objects o) l.initial.own.seq l.initial.own.floor x → x.geometry ≡ l.geometry
      → LeadsBy g.R.Rack g.A.Area g.M.Metaslabs.went g.M.Metaslabs.shared l.initial.metaslabs l.metaslabs x (Waits x) (Knows g.R.Rack g.A.Area (g.M.Metaslabs.owns l.initial.metaslabs) (g.M.Metaslabs.last l.metaslabs) (λ o. get nat_eq l.own.objects o) l.own.seq l.own.floor);
}
