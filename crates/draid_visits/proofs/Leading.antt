-- How the holds of a command's steps follow one another, and what they come to.
use Rattle.std.proofs.Common.{◌≡◌, ◌++◌, [], ℕ, List, refl, sym, subst}
use Rattle.std.proofs.lemmas.List.{append_assoc}
use Rattle.draid_rack.specs.declared.Rack as racks
use Rattle.draid_area.specs.declared.Area as areas
use Rattle.draid_perm.specs.declared.perms.Perms.{Perms}
use Rattle.draid_spec.specs.declared.layout.Geometry.{Geometry}
use Rattle.draid_segments.specs.Segments.{Pieces}
use Rattle.draid_shard.specs.Part.{Part}
use Rattle.draid_shard.specs.declared.shard.Shard.{Shard}
use Rattle.draid_session.specs.Follows.{Follows}
use Rattle.draid_session.specs.Holds.{Hold}
use Rattle.draid_session.specs.State.{Metaslab, State, Store}
use Rattle.draid_pool.specs.Carries.{CarriesOut}
use Rattle.draid_pool.specs.Metaslabs.{IsMetaslab}
use Rattle.draid_pool.specs.Pools.{Represents, part_in}
use Rattle.draid_pool.specs.Shards.{Goes, SameBlocks}
use Rattle.draid_pool.specs.declared.pool.Pool.{Pool}
use Rattle.draid_pool.proofs.Lifted.{HasMetaslab, SetsShard, metaslab_of}
use Rattle.draid_pool.proofs.Steps.{carried, follows_on, own_of, same_layout, settled}
use Rattle.draid_visits.specs.Pieces.{GoesTo}
use Rattle.draid_visits.specs.Steps.{HasContents}
use Rattle.draid_visits.proofs.Contents.{contents_of}
use Rattle.draid_visits.proofs.Lifting.{carries_to, goes_to}

-- what is said of some holds, by what the pool's layout is
abbrev pub Says : Type 1
Says = Geometry → Perms → List Hold → Type 0

-- it was done, and nothing else that a thread has of its own
abbrev pub Does : (x : State) → (List Hold → Type 0) → List Hold → Store → Type 0
Does x says holds store = (store ≡ x.store) × says holds

module _ {R A : Type 0} (rack : racks.Ghosts R) (area : areas.Ghosts A) where
  -- a call does so from any state for which the pool stands
  abbrev pub Steps : Pool R A → Pool R A → Says → Type 0
  Steps old new S = (x : State) → Represents rack area old x → CarriesOut rack area new x (Does x (S x.geometry x.perms))

  -- Holds led to a state for which the pool stands. With any that are what is left to do they are the whole.
  pub record Leads {I : Type 0} (P Q : I → List Hold → Type 0) (new : Pool R A) (x : State) : Type 0 where
    pub holds : List Hold
    pub reached : State
    pub follows : Follows holds x reached
    pub leads : (i : I) (rest : List Hold) → Q i rest → P i (holds ++ rest)
    pub represents : Represents rack area new reached

  -- nothing was done yet
  pub leads_none : {I : Type 0} (P : I → List Hold → Type 0) (pool : Pool R A) (x : State) → Represents rack area pool x → Leads P P pool x
  leads_none P pool x r = record { holds = []; reached = x; follows = refl; leads = λ i rest is. is; represents = r }

  -- a step more
  pub leads_on : {I : Type 0} (P Q T : I → List Hold → Type 0) (S : Says) (mid new : Pool R A) (x : State) → Leads P Q mid x → Steps mid new S
      → ((i : I) (front rest : List Hold) → S x.geometry x.perms front → T i rest → Q i (front ++ rest)) → Leads P T new x
  leads_on P Q T S mid new x l step how =
      let c : CarriesOut rack area new l.reached (Does l.reached (S l.reached.geometry l.reached.perms)) = step l.reached l.represents in
      let said : S x.geometry x.perms c.holds = own_of x l.reached (λ g p store. S g p c.holds) (same_layout l.holds x l.reached l.follows) c.done.1 in
      record {
        holds = l.holds ++ c.holds;
        reached = c.reached;
        follows = follows_on l.holds c.holds x l.reached c.reached l.follows c.follows;
        leads = λ i rest is. subst (λ hs. P i hs) (sym (append_assoc l.holds c.holds rest)) (l.leads i (c.holds ++ rest) (how i c.holds rest said is));
        represents = settled rack area new l.reached (Does l.reached (S l.reached.geometry l.reached.perms)) c c.done.0;
      }

  -- the last step
  pub leads_end : {I : Type 0} (P Q : I → List Hold → Type 0) (S : Says) (mid new : Pool R A) (x : State) (i : I) → Leads P Q mid x → Steps mid new S
      → ((holds : List Hold) → S x.geometry x.perms holds → Q i holds) → CarriesOut rack area new x (Does x (P i))
  leads_end P Q S mid new x i l step how =
      let c : CarriesOut rack area new l.reached (Does l.reached (S l.reached.geometry l.reached.perms)) = step l.reached l.represents in
      let said : S x.geometry x.perms c.holds = own_of x l.reached (λ g p store. S g p c.holds) (same_layout l.holds x l.reached l.follows) c.done.1 in
      carried rack area new x (l.holds ++ c.holds) c.reached (Does x (P i)) (follows_on l.holds c.holds x l.reached c.reached l.follows c.follows)
      (settled rack area new l.reached (Does l.reached (S l.reached.geometry l.reached.perms)) c c.done.0) (refl, l.leads i c.holds (how c.holds said))

  -- nothing is left to do
  pub leads_done : {I : Type 0} (P Q : I → List Hold → Type 0) (pool : Pool R A) (x : State) (i : I) → Leads P Q pool x → Q i [] → CarriesOut rack area pool x (Does x (P i))
  leads_done P Q pool x i l is =
      carried rack area pool x (l.holds ++ []) l.reached (Does x (P i)) (follows_on l.holds [] x l.reached l.reached l.follows refl) l.represents (refl, l.leads i [] is)

  -- two calls, one after another
  pub steps_then : (S T U : Says) (old mid new : Pool R A) → Steps old mid S → Steps mid new T
      → ((x : State) (front back : List Hold) → Represents rack area old x → S x.geometry x.perms front → T x.geometry x.perms back → U x.geometry x.perms (front ++ back)) → Steps old new U
  steps_then S T U old mid new first second how x r =
      let c : CarriesOut rack area mid x (Does x (S x.geometry x.perms)) = first x r in
      let d : CarriesOut rack area new c.reached (Does c.reached (T c.reached.geometry c.reached.perms)) = second c.reached (settled rack area mid x (Does x (S x.geometry x.perms)) c c.done.0) in
      let said : T x.geometry x.perms d.holds = own_of x c.reached (λ g p store. T g p d.holds) (same_layout c.holds x c.reached c.follows) d.done.1 in
      carried rack area new x (c.holds ++ d.holds) d.reached (Does x (U x.geometry x.perms)) (follows_on c.holds d.holds x c.reached d.reached c.follows d.follows)
      (settled rack area new c.reached (Does c.reached (T c.reached.geometry c.reached.perms)) d d.done.0) (refl, how x c.holds d.holds r c.done.1 said)

  -- what was done is something else as well
  pub steps_as : (S T : Says) (old new : Pool R A) → Steps old new S → ((g : Geometry) (p : Perms) (holds : List Hold) → S g p holds → T g p holds) → Steps old new T
  steps_as S T old new step how x r =
      let c : CarriesOut rack area new x (Does x (S x.geometry x.perms)) = step x r in
      record { holds = c.holds; reached = c.reached; store = c.store; follows = c.follows; done = (c.done.0, how x.geometry x.perms c.holds c.done.1); represents = c.represents }

  -- a call of one metaslab, behind which its blocks may have other pieces
  pub steps_to : (m : ℕ) (old new : Pool R A) (shard shard' : Shard R A) (S : Part → List Hold → Type 0) → SetsShard rack area m old new shard shard'
      → ((part : Part) (pieces : Pieces) (y : Metaslab) → IsMetaslab rack area part pieces shard y → HasContents part pieces y
      → GoesTo rack area part pieces y shard' (λ holds z. S part holds × SameBlocks y z)) → Steps old new (λ g p holds. S (record { geometry = g; perms = p; number = m }) holds)
  steps_to m old new shard shard' S set goes x r =
      let z : HasMetaslab rack area old x r.stands m shard = metaslab_of rack area old x r.stands m shard set.there in
      carries_to rack area m old new shard shard' x z.y (λ holds v. S (part_in x m) holds × SameBlocks z.y v) (Does x (S (part_in x m))) r set z.at
      (goes (part_in x m) (r.stands.pieces m) z.y z.is (contents_of rack area old x r m shard z.y z.at z.is)) (λ holds v d. (d.1, (refl, d.0)))

  -- and one that leaves them
  pub steps_in : (m : ℕ) (old new : Pool R A) (shard shard' : Shard R A) (S : Part → List Hold → Type 0) → SetsShard rack area m old new shard shard'
      → ((part : Part) (pieces : Pieces) (y : Metaslab) → IsMetaslab rack area part pieces shard y → HasContents part pieces y
      → Goes rack area part pieces y shard' (λ holds z. S part holds × SameBlocks y z)) → Steps old new (λ g p holds. S (record { geometry = g; perms = p; number = m }) holds)
  steps_in m old new shard shard' S set goes =
      steps_to m old new shard shard' S set (λ part pieces y is has. goes_to rack area part pieces y shard' (λ holds z. S part holds × SameBlocks y z) (goes part pieces y is has))
