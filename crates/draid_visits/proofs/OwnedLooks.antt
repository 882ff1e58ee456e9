-- What the only thread of a pool finds as it looks at its metaslabs for their passes.
use Rattle.std.proofs.Common.{◌≡◌, ◌∙◌, inl, inr, ℕ, zero, suc, Bool, false, List, [], Option, Some, None, slice_index_or, arith, sym, ap, subst}
use Rattle.std.specs.Prelude.{slice_get}
use Rattle.draid_names.specs.declared.pass_kind.PassKind.{PassKind}
use Rattle.draid_names.specs.declared.pass_kind.PassKind.TheVariants.{Heal}
use Rattle.draid_rack.specs.declared.Rack as racks
use Rattle.draid_area.specs.declared.Area as areas
use Rattle.draid_shard.specs.declared.shard.Shard.{Shard}
use Rattle.draid_session.specs.Passes as passes
use Rattle.draid_pool.specs.Rounds.{HeldEach, HeldOnce}
use Rattle.draid_pool.specs.Whole.{IsWhole}
use Rattle.draid_pool.specs.declared.owned.Owned.{Owned}
use Rattle.draid_pool.specs.declared.pool.Pool.{Pool}
use Rattle.draid_pool.proofs.GroupClosed.{left_by, next_on, went_by}
use Rattle.draid_pool.proofs.OwnedKnows.{all}
use Rattle.draid_visits.specs.Looks.{FindsMarks, FindsPass, SeesEach, SeesPass, SeesRebuilt}
use Rattle.draid_visits.specs.Rebuilding.{IsFirstScrub, IsLowestPass}
use Rattle.draid_visits.specs.Visiting.{AreAll, IsOnly}
use Rattle.draid_visits.specs.Visits.{FirstIs}
use Rattle.draid_visits.proofs.Found.{OnlyBelow, only_all, only_more, pass_there}
use Rattle.draid_visits.proofs.Marking.{MarkedAll, MarkedUpto, marked_all, marked_more}

module _ {R A : Type 0} (rack : racks.Ghosts R) (area : areas.Ghosts A) where
  -- a look leaves all as it was
  module _ (does : Shard R A → Shard R A → Type 0) (same : (x y : Shard R A) → does x y → y ≡ x) (a mid b : Owned R A) (m : ℕ) (so : mid ≡ a) (h : HeldOnce rack area left_by went_by false all does mid m b) where
    still : b ≡ a
    still = h.goes.2 (same h.before h.after h.did) ∙ so

    here : slice_get a.shards.items m ≡ Some h.before
    here = sym (ap (λ (o : Owned R A). slice_get o.shards.items m) so) ∙ h.goes.0

  -- ---- passes

  module _ (kind : PassKind) where
    sees_same : (out : Option ℕ) (x y : Shard R A) → SeesPass kind out x y → y ≡ x
    sees_same out x y sees = sees.same

    -- the first so many have none of the kind
    passes_upto : (m sum : ℕ) (a b : Owned R A) → HeldEach rack area left_by went_by false all (λ none x y. SeesPass kind None x y) m a sum b → (b ≡ a) × OnlyBelow (passes.other_kind kind) a.shards.items m
    passes_upto zero sum a b each = (each.0, λ k shard less. absurd (omega (arith, less)))
    passes_upto (suc m) sum a b (mid, some, more, each, once, adds) =
        let z = passes_upto m some a mid each in (
          still (λ x y. SeesPass kind None x y) (sees_same None) a mid b m z.0 once,
          subst (λ k. OnlyBelow (passes.other_kind kind) a.shards.items k) (next_on m)
              (only_more (passes.other_kind kind) a.shards.items m once.before (here (λ x y. SeesPass kind None x y) (sees_same None) a mid b m z.0 once) once.did.none z.1),
        )

    module _ (pool : Pool R A) (w : IsWhole rack area pool) where
      pub finds_none : (b : Owned R A) → FindsPass rack area left_by went_by false all pool.geometry.props.metaslabs kind pool.metaslabs None b → (b ≡ pool.metaslabs) × AreAll pool (IsOnly (passes.other_kind kind))
      finds_none b each =
          let count = pool.geometry.props.metaslabs in
          let z = passes_upto count 0 pool.metaslabs b each in
          (z.0, only_all (passes.other_kind kind) pool count (let many = w.many in omega (arith, many)) z.1)

      pub finds_lowest : (metaslab number : ℕ) (b : Owned R A) → FindsPass rack area left_by went_by false all pool.geometry.props.metaslabs kind pool.metaslabs (Some (metaslab, number)) b
          → (b ≡ pool.metaslabs) × IsLowestPass kind metaslab number pool
      finds_lowest metaslab number b (s, is) =
          let z = passes_upto s.place s.sum pool.metaslabs s.mid s.front in
          let h = s.stop in (
            still (λ x y. SeesPass kind (Some number) x y) (sees_same (Some number)) pool.metaslabs s.mid b s.place z.0 h,
            subst (λ k. IsLowestPass kind k number pool) (sym is)
                (pass_there kind pool s.place number h.before (here (λ x y. SeesPass kind (Some number) x y) (sees_same (Some number)) pool.metaslabs s.mid b s.place z.0 h) h.did.found z.1),
          )

  -- ---- marks

  seen_same : (mark : Bool) (x y : Shard R A) → SeesRebuilt rack area mark x y → y ≡ x
  seen_same mark x y sees = sees.same

  -- the first so many are marked where a rebuild visits them
  marks_step : (pool : Pool R A) (marks : List Bool) (m : ℕ) (mid b : Owned R A) → mid ≡ pool.metaslabs → HeldOnce rack area left_by went_by false all (SeesRebuilt rack area (slice_index_or marks m false)) mid m b → MarkedUpto rack area pool marks m
      → (b ≡ pool.metaslabs) × MarkedUpto rack area pool marks (suc m)
  marks_step pool marks m mid b so once marked =
      let mark = slice_index_or marks m false in (
        still (SeesRebuilt rack area mark) (seen_same mark) pool.metaslabs mid b m so once,
        subst (λ k. MarkedUpto rack area pool marks k) (next_on m)
            (marked_more rack area pool marks m once.before (here (SeesRebuilt rack area mark) (seen_same mark) pool.metaslabs mid b m so once) (record { is = once.did.is; seen = once.did.seen }) marked),
      )

  marks_upto : (pool : Pool R A) (marks : List Bool) (m : ℕ) (b : Owned R A) → SeesEach rack area left_by went_by false all marks m pool.metaslabs b → (b ≡ pool.metaslabs) × MarkedUpto rack area pool marks m
  marks_upto pool marks zero b each = (each, λ k shard less. absurd (omega (arith, less)))
  marks_upto pool marks (suc m) b (mid, each, once) =
      let z = marks_upto pool marks m mid each in
      marks_step pool marks m mid b z.0 once z.1

  -- none of them
  none_upto : (pool : Pool R A) (m sum : ℕ) (b : Owned R A) → HeldEach rack area left_by went_by false all (λ none x y. SeesRebuilt rack area false x y) m pool.metaslabs sum b → (b ≡ pool.metaslabs) × MarkedUpto rack area pool [] m
  none_upto pool zero sum b each = (each.0, λ k shard less. absurd (omega (arith, less)))
  none_upto pool (suc m) sum b (mid, some, more, each, once, adds) =
      let z = none_upto pool m some mid each in
      marks_step pool [] m mid b z.0 once z.1

  module _ (pool : Pool R A) (w : IsWhole rack area pool) where
    pub finds_marks : (marks : List Bool) (b : Owned R A) → FindsMarks rack area left_by went_by false all pool.geometry.props.metaslabs pool.metaslabs (Some marks) b → (b ≡ pool.metaslabs) × MarkedAll rack area pool marks
    finds_marks marks b each =
        let count = pool.geometry.props.metaslabs in
        let z = marks_upto pool marks count b each in
        (z.0, marked_all rack area pool marks count (let many = w.many in omega (arith, many)) z.1)

    pub finds_no_marks : (b : Owned R A) → FindsMarks rack area left_by went_by false all pool.geometry.props.metaslabs pool.metaslabs None b → (b ≡ pool.metaslabs) × MarkedAll rack area pool []
    finds_no_marks b each =
        let count = pool.geometry.props.metaslabs in
        let z = none_upto pool count 0 b each in
        (z.0, marked_all rack area pool [] count (let many = w.many in omega (arith, many)) z.1)

    -- ---- the first metaslab of a scrub

    pub finds_first : (found : Option (ℕ × ℕ)) (first : ℕ) (b : Owned R A) → FindsPass rack area left_by went_by false all pool.geometry.props.metaslabs Heal pool.metaslabs found b → FirstIs rack area left_by went_by false all first found
        → (b ≡ pool.metaslabs) × IsFirstScrub first pool
    finds_first (Some it) first b finds is =
        let z = finds_lowest Heal pool w it.0 it.1 b finds in
        (z.0, inl (it.1, subst (λ k. IsLowestPass Heal k it.1 pool) (sym is) z.1))
    finds_first None first b finds is =
        let z = finds_none Heal pool w b finds in
        (z.0, inr (is, z.1))
