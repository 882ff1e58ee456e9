-- The uberblock of a pool that rests on a shelf, as an import finds it.
use Rattle.std.proofs.Common.{arith, ◌≡◌, ◌==◌, ◌<◌, ◌≤◌, ◌∙◌, inl, inr, ℕ, Bool, true, false, [], Option, Some, None, Result, Ok, Err, length, option_map, refl, sym, ap, subst, if◌then◌else◌}
use Rattle.std.specs.Prelude.{◌↔◌, MatchOption, ⊤}
use Rattle.std.proofs.lemmas.Bool.Decides.{nat_tests}
use Rattle.std.proofs.lemmas.List.Elements.{All-contains, All-nil}
use Rattle.draid_area.specs.Area.{Content, flushes}
use Rattle.draid_area.specs.declared.Area as areas
use Rattle.draid_area.proofs.Moments.{leaves_all}
use Rattle.draid_record.specs.declared.fault.RecordFault.{RecordFault}
use Rattle.draid_record.specs.declared.uber.UberBody.{UberBody}
use Rattle.draid_spec.specs.declared.layout.Geometry.{Geometry}
use Rattle.draid_spec.specs.Geometry.{IsGeometry, geometry_of}
use Rattle.draid_spec.specs.declared.spec.SpecFault.{SpecFault}
use Rattle.draid_spec.proofs.Layouts.{given_layout}
use Rattle.draid_shelf.specs.Kits.{ChecksTold}
use Rattle.draid_uber.specs.Checks.{AreasStand, HasCheck, told_by}
use Rattle.draid_uber.specs.Slots.{Chooses, IsLeft, chosen_of, read_body}
use Rattle.draid_uber.specs.Uber.{Valid, areas_of, count_of, kept_of, layout_of, next_leaf_of, version_of, changed_of, next_check}
use Rattle.draid_uber.specs.declared.uber.Uber.{Uber}
use Rattle.draid_uber.proofs.Imports.{import_takes}
use Rattle.draid_uber.proofs.Recorded.{stand_alone, stand_still}
use Rattle.draid_pool.specs.Returning.{areas_told}
use Rattle.draid_session.specs.Opening.{layout_at_version}
use Rattle.draid_session.specs.State.{State}
use Rattle.draid_import.specs.Imported.{FindsBody}
use Rattle.draid_pool.specs.Ubers.{IsPending, IsUber, UberStands, body_of, kept_in, check_told}
use Rattle.draid_import.proofs.ImportVersion.{found_at, layout_at}
use Rattle.draid_import.proofs.ImportPoint.{stands_told}
use Rattle.draid_session.specs.Points.{HasLateMark}

abbrev Chosen : Type 0
Chosen = Option (Result UberBody RecordFault)

some_body : (a b : UberBody) → Some a ≡ Some b → a ≡ b
some_body a b is = cc

same_body : (a b : UberBody) (o : Chosen) → o ≡ Some (Ok a) → o ≡ Some (Ok b) → a ≡ b
same_body a b o is other = (let h = sym is ∙ other in cc)

read_some : (kept : Option UberBody) (body : UberBody) (o : Chosen) → o ≡ Some (Ok body) → o ≡ option_map read_body kept → kept ≡ Some body
read_some None body o is chosen = (let h = sym is ∙ chosen in absurd (cc))
read_some (Some k) body o is chosen = ap (λ (b : UberBody). Some b) (same_body k body o chosen is)

read_none : (kept : Option UberBody) (o : Chosen) → o ≡ None → o ≡ option_map read_body kept → kept ≡ None
read_none None o is chosen = refl
read_none (Some k) o is chosen = (let h = sym is ∙ chosen in absurd (cc))

read_bad : (kept : Option UberBody) (why : RecordFault) (o : Chosen) → o ≡ Some (Err why) → o ≡ option_map read_body kept → ⊥
read_bad None why o is chosen = (let h = sym is ∙ chosen in absurd (cc))
read_bad (Some k) why o is chosen = (let h = sym is ∙ chosen in absurd (cc))

-- ---- the body

module _ (x : State) where
  -- that of the committed group
  committed_body : (body : UberBody) → kept_in x ≡ Some body → FindsBody (found_at x body.props.version) body
  committed_body body is = by (x.committed == 0) refl is
    where
      found : (x.committed == 0) ≡ false → body_of x.geometry x.kept_version x.committed x.kept_leaf ≡ body → FindsBody (found_at x body.props.version) body
      found some same = subst (λ (b : UberBody). FindsBody (found_at x b.props.version) b) same (record {
        may = inl refl;
        some = grind (arith, nat_tests, some);
        leaf = inl (refl, refl);
        version = inl (refl, refl);
        is = refl;
      })

      by : (b : Bool) → (x.committed == 0) ≡ b → (if b then None else Some (body_of x.geometry x.kept_version x.committed x.kept_leaf)) ≡ Some body → FindsBody (found_at x body.props.version) body
      by true none same = absurd (cc)
      by false some same = found some (some_body (body_of x.geometry x.kept_version x.committed x.kept_leaf) body same)

  -- that of a commit which was refused
  pending_body : (body : UberBody) → IsPending x body → FindsBody (found_at x body.props.version) body
  pending_body body is = subst (λ (b : UberBody). FindsBody (found_at x b.props.version) b) (sym is.1) (record {
    may = inr (is.0, refl);
    some = omega arith;
    leaf = inr (refl, refl);
    version = inr (refl, refl);
    is = refl;
  })

  none_committed : kept_in x ≡ None → x.committed ≡ 0
  none_committed is = by (x.committed == 0) refl is
    where
      by : (b : Bool) → (x.committed == 0) ≡ b → (if b then None else Some (body_of x.geometry x.kept_version x.committed x.kept_leaf)) ≡ None → x.committed ≡ 0
      by true zero same = grind (arith, nat_tests, zero)
      by false some same = absurd (cc)

  module _ (c : Content) (k : ChecksTold) (stands : UberStands x (areas_told c k)) (counted : c.firm ≤ length c.bytes) where
    takes : Chooses (kept_in x) stands.pending (chosen_of c.bytes)
    takes = import_takes (kept_in x) stands.pending c stands.stands.uber_is counted

    pub found_body : (body : UberBody) → chosen_of c.bytes ≡ Some (Ok body) → FindsBody (found_at x body.props.version) body
    found_body body is = by takes
      where
        by : Chooses (kept_in x) stands.pending (chosen_of c.bytes) → FindsBody (found_at x body.props.version) body
        by (inl kept) = committed_body body (read_some (kept_in x) body (chosen_of c.bytes) is kept)
        by (inr p) =
            let same : p.0 ≡ body = same_body p.0 body (chosen_of c.bytes) p.2 is in
            subst (λ (b : UberBody). FindsBody (found_at x b.props.version) b) same (pending_body p.0 (All-contains (IsPending x) stands.pending p.0 stands.are p.1))

    -- the check record of its group stands, whether or not the uberblock's area was flushed
    pub found_check : (body : UberBody) → chosen_of c.bytes ≡ Some (Ok body) → HasCheck (check_told x.store.marks) (areas_told (flushes c) k) body
    found_check body is = by takes
      where
        by : Chooses (kept_in x) stands.pending (chosen_of c.bytes) → HasCheck (check_told x.store.marks) (areas_told (flushes c) k) body
        by (inl kept) = subst (λ (o : Option UberBody). MatchOption o ⊤ (HasCheck (check_told x.store.marks) (areas_told c k))) (read_some (kept_in x) body (chosen_of c.bytes) is kept) stands.stands.kept_check
        by (inr p) =
            let same : p.0 ≡ body = same_body p.0 body (chosen_of c.bytes) p.2 is in
            subst (λ (b : UberBody). HasCheck (check_told x.store.marks) (areas_told c k) b) same (All-contains (HasCheck (check_told x.store.marks) (areas_told c k)) stands.pending p.0 stands.stands.pending_checks p.1)

    -- no gate is open only where no group was committed
    pub found_none : chosen_of c.bytes ≡ None → x.committed ≡ 0
    found_none is = by takes
      where
        by : Chooses (kept_in x) stands.pending (chosen_of c.bytes) → x.committed ≡ 0
        by (inl kept) = none_committed (read_none (kept_in x) (chosen_of c.bytes) is kept)
        by (inr p) = (let h = sym is ∙ p.2 in absurd (cc))

    -- no body has a fault
    pub found_bad : (why : RecordFault) → chosen_of c.bytes ≡ Some (Err why) → ⊥
    found_bad why is = by takes
      where
        by : Chooses (kept_in x) stands.pending (chosen_of c.bytes) → ⊥
        by (inl kept) = read_bad (kept_in x) why (chosen_of c.bytes) is kept
        by (inr p) = (let h = sym is ∙ p.2 in absurd (cc))

    left : IsLeft (kept_in x) stands.pending c.bytes
    left = stands.stands.uber_is c.bytes (record { same = λ i d soft. refl; least = counted; most = omega arith })

    -- a flush leaves it as it was
    pub flushed_stands : UberStands x (areas_told (flushes c) k)
    flushed_stands = record {
      pending = stands.pending;
      are = stands.are;
      stands = stand_still (check_told x.store.marks) (kept_in x) stands.pending (areas_told c k) (areas_told (flushes c) k) stands.stands
          (λ bytes may. subst (IsLeft (kept_in x) stands.pending) (sym (leaves_all (flushes c) bytes (λ i. refl) refl may)) left) refl refl;
    }

    -- and where no gate is open then, nothing is left of a commit that was refused
    pub flushed_none : chosen_of c.bytes ≡ None → UberStands (record x { pending = false }) (areas_told (flushes c) k)
    flushed_none is = record {
      pending = [];
      are = All-nil (IsPending (record x { pending = false }));
      stands = stand_alone (check_told x.store.marks) (kept_in x) stands.pending (areas_told c k) (areas_told (flushes c) k) stands.stands
          (λ bytes may. subst (IsLeft (kept_in x) []) (sym (leaves_all (flushes c) bytes (λ i. refl) refl may))
          (record { long = left.long; kept_is = left.kept_is; chosen = inl (is ∙ none_of (read_none_kept is)) })) (λ body same. refl);
    }
      where
        none_of : kept_in x ≡ None → None ≡ option_map read_body (kept_in x)
        none_of none = ap (option_map read_body) (sym none)

        read_none_kept : chosen_of c.bytes ≡ None → kept_in x ≡ None
        read_none_kept none = by takes
          where
            by : Chooses (kept_in x) stands.pending (chosen_of c.bytes) → kept_in x ≡ None
            by (inl kept) = read_none (kept_in x) (chosen_of c.bytes) none kept
            by (inr p) = (let h = sym none ∙ p.2 in absurd (cc))

-- ---- the uberblock

abbrev given : Geometry → Result Geometry SpecFault
given geometry = Ok geometry

given_is : (g h : Geometry) → given g ≡ given h → g ≡ h
given_is g h is = cc

-- a spec and properties have one layout
pub one_layout : (g h : Geometry) → IsGeometry g → IsGeometry h → g.spec ≡ h.spec → g.props ≡ h.props → g ≡ h
one_layout g h one other spec props = given_is g h (sym (given_layout g one) ∙ ((λ i. geometry_of (spec i) (props i)) ∙ given_layout h other))

kept_layout : (kept : Option UberBody) (body : UberBody) (geometry : Geometry) → kept ≡ Some body → MatchOption kept ⊤ (λ b. (b.spec ≡ geometry.spec) × (b.props ≡ geometry.props))
    → (body.spec ≡ geometry.spec) × (body.props ≡ geometry.props)
kept_layout None body geometry is fits = absurd (cc)
kept_layout (Some b) body geometry is fits = subst (λ (b : UberBody). (b.spec ≡ geometry.spec) × (b.props ≡ geometry.props)) (some_body b body is) fits

-- what the state has there which is found with it
pub found_kept : (x mid : State) (body : UberBody) → FindsBody x body → mid.geometry ≡ x.geometry → mid.kept_version ≡ x.geometry.props.version → mid.committed ≡ body.group → mid.kept_leaf ≡ body.next_leaf → kept_in mid ≡ Some body
found_kept x mid body finds geometry version committed kept_leaf = by (mid.committed == 0) refl
  where
    by : (b : Bool) → (mid.committed == 0) ≡ b → (if b then None else Some (body_of mid.geometry mid.kept_version mid.committed mid.kept_leaf)) ≡ Some body
    by true zero = absurd (let some = finds.some in grind (arith, nat_tests, zero, some, committed))
    by false some = ap (λ (b : UberBody). Some b) ((λ i. body_of (geometry i) (version i) (committed i) (kept_leaf i)) ∙ sym finds.is)

-- it has the pool's layout at the version that is found
pub found_layout : {A : Type 0} (area : areas.Ghosts A) (x : State) (uber : Uber A) (body : UberBody) → Valid area.size uber → kept_of uber ≡ Some body → FindsBody (found_at x body.props.version) body → IsGeometry x.geometry
    → layout_of uber ≡ layout_at_version body.props.version x.geometry
found_layout area x uber body valid kept finds whole =
    let fits = kept_layout (kept_of uber) body (layout_of uber) kept valid.held.kept_is in
    layout_at body.props.version (layout_of uber) x.geometry valid.held.layout_is whole (sym fits.0 ∙ ap (λ (b : UberBody). b.spec) finds.is) (sym fits.1 ∙ ap (λ (b : UberBody). b.props) finds.is)

module _ {A : Type 0} (area : areas.Ghosts A) (x mid : State) (uber : Uber A) (body : UberBody) (valid : Valid area.size uber) (kept : kept_of uber ≡ Some body) (finds : FindsBody x body)
    (layout : layout_of uber ≡ x.geometry) where
  -- it is that of the state which is found with it
  pub found_uber : version_of uber ≡ body.props.version → next_leaf_of uber ≡ body.next_leaf → AreasStand (check_told x.store.marks) (kept_of uber) [] (told_by area.told (areas_of uber))
      → check_told mid.store.marks body.group ≡ check_told x.store.marks body.group → ((g : ℕ) → mid.committed < g → next_check uber g ≡ check_told mid.store.marks g)
      → ((g : ℕ) → mid.committed ≤ g → HasLateMark g mid.store.marks ↔ (g < changed_of uber)) → mid.geometry ≡ x.geometry → mid.committed ≡ body.group → mid.kept_leaf ≡ body.next_leaf → mid.next_leaf ≡ body.next_leaf → mid.uber_count ≡ count_of area.faults uber
      → (mid.kept_version ≡ x.geometry.props.version) × (mid.next_version ≡ x.geometry.props.version) → IsUber area uber mid
  found_uber version next stands told point late geometry committed kept_leaf next_leaf count versions = record {
    valid = valid;
    layout = layout ∙ sym (λ i. layout_at_version (versions.0 i) (geometry i));
    version = version ∙ (ap (λ (b : UberBody). b.props.version) finds.is ∙ sym versions.1);
    kept = kept ∙ sym (found_kept x mid body finds geometry versions.0 committed kept_leaf);
    next_leaf = next ∙ sym next_leaf;
    point = point;
    late = late;
    count = count;
    stands = record {
      pending = [];
      are = All-nil (IsPending mid);
      stands = subst (λ (k : Option UberBody). AreasStand (check_told mid.store.marks) k [] (told_by area.told (areas_of uber))) (sym (found_kept x mid body finds geometry versions.0 committed kept_leaf))
          (stands_told (check_told x.store.marks) (check_told mid.store.marks) body (told_by area.told (areas_of uber)) told
          (subst (λ (k : Option UberBody). AreasStand (check_told x.store.marks) k [] (told_by area.told (areas_of uber))) kept stands));
    };
  }
