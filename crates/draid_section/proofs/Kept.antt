-- What lanes hold behind their jobs: each has passes of all metaslabs, which hold the numbers of its list.
use Rattle.std.proofs.Common.{◌≡◌, ◌∙◌, ◌++◌, ◌∷◌, ◌<◌, ◌≤◌, ◌+◌, inl, inr, arith, ℕ, zero, suc, true, List, [], Option, Some, None, All, Result, Ok, Err, IfOk, IfErr, length, map, sym, ap, subst, refl}
use Rattle.std.specs.Prelude.{slice_get, vec_capacity}
use Rattle.std.specs.declared.vec.Vec.{Vec}
use Rattle.std.specs.declared.alloc.Global.{Global}
use Rattle.std.proofs.lemmas.List.{length-map, length_push}
use Rattle.std.proofs.lemmas.Option.{slice_get_within}
use Rattle.draid_names.specs.declared.fault.NoMemory.{NoMemory}
use Rattle.draid_rack.specs.declared.Rack as racks
use Rattle.draid_area.specs.declared.Area as areas
use Rattle.draid_spec.specs.declared.layout.Geometry.{Geometry}
use Rattle.draid_shard.specs.declared.shard.Shard.{Shard}
use Rattle.draid_turn.specs.Calls.{Caller, Lock}
use Rattle.draid_turn.specs.Lists.{one_if}
use Rattle.draid_turn.specs.Numbers.{holds, number_limit}
use Rattle.draid_turn.specs.declared.past.Past.{Past}
use Rattle.draid_turn.specs.declared.span.Span.{Span}
use Rattle.draid_holds.specs.Passes.{holders}
use Rattle.draid_uber.specs.declared.uber.Uber.{Uber}
use Rattle.draid_pool.specs.declared.cell.Cell.{Cell}
use Rattle.draid_pool.proofs.Holding.{some_same}
use Rattle.draid_pool.proofs.Lists.{present, some_of}
use Rattle.draid_lanes.specs.Locks.{Step, owned_by}
use Rattle.draid_lanes.specs.Meeting.{groups_alone}
use Rattle.draid_lanes.specs.Ubers.{IsUberOf}
use Rattle.draid_lanes.specs.declared.lane.Lane.{Lane}
use Rattle.draid_lanes.specs.declared.uber.UberCell.{UberCell}
use Rattle.draid_lanes.proofs.SyncUnder.{owned_all}
use Rattle.draid_section.specs.Opening.{AreDealt, AreUnlocked, BelongTo, IsDealt, passes_at, shard_under, shards_under, with_pass}
use Rattle.draid_section.specs.Running.{KeepLanes, IsLeftWhole, JobRan}
use Rattle.draid_section.specs.Section.{EndWithGroups, MayRunUnder, RunsUnder}
use Rattle.draid_section.specs.declared.seats.Shares.{Shares}
use Rattle.draid_section.proofs.Dealt.{StillOwns, all_still, belongs, dealt_at, dealt_belongs}
use Rattle.draid_section.proofs.Idle.{none_done}
use Rattle.draid_section.proofs.LanePasses.{get_before, get_last}
use Rattle.draid_section.proofs.Ran.{all_each}
use Rattle.draid_section.proofs.Sitting.{at_push}

module _ {X : Type 0} where
  -- lists of one length are the same where each element of one is the other's
  pub list_same : (xs ys : List X) → length xs ≡ length ys → ((m : ℕ) (x : X) → slice_get xs m ≡ Some x → slice_get ys m ≡ Some x) → xs ≡ ys
  list_same [] [] many each = refl
  list_same [] (y ∷ ys) many each = absurd (omega (arith, many))
  list_same (x ∷ xs) [] many each = absurd (omega (arith, many))
  list_same (x ∷ xs) (y ∷ ys) many each =
      let first : y ≡ x = some_same y x (each 0 x refl) in
      let rest = list_same xs ys (omega (arith, many)) (λ m z is. each (suc m) z is) in (λ i. sym first i ∷ rest i)

pub get_map : {X Y : Type 0} (f : X → Y) (xs : List X) (m : ℕ) (x : X) → slice_get xs m ≡ Some x → slice_get (map f xs) m ≡ Some (f x)
get_map f [] m x is = absurd (cc)
get_map f (y ∷ xs) zero x is = ap (λ z. Some (f z)) (some_same y x is)
get_map f (y ∷ xs) (suc m) x is = get_map f xs m x is

module _ {R A : Type 0} (locks : List (Lock (Cell R A))) where
  -- a lane that got passes of a list's numbers holds these
  pub dealt_holds : (numbers : List Span) (passes : List (Caller (Past (Cell R A)))) → IsDealt locks numbers passes → (n : ℕ) → holds n numbers ≡ true → owned_by passes n ≡ true
  dealt_holds numbers passes r n held = owned_all passes n (λ m pass is. ap (λ (c : Caller (Past (Cell R A))). holds n c.numbers) (sym (dealt_at locks numbers passes r m pass is).2) ∙ held)

  -- a lane's passes: each is of its lock, and together they hold what stands in the list
  pub record Has (list : Vec Span Global) (lane : Vec (Caller (Past (Cell R A))) Global) : Type 0 where
    pub belong : BelongTo locks lane.items
    pub still : StillOwns (length locks) list lane

  pub has_dealt : (list : Vec Span Global) (lane : Vec (Caller (Past (Cell R A))) Global) → IsDealt locks list.items lane.items → Has list lane
  has_dealt list lane r = record { belong = dealt_belongs locks list.items lane.items r; still = record { many = r.many; owns = dealt_holds list.items lane.items r } }

  -- so has each lane
  pub record EachHas (lists : List (Vec Span Global)) (lanes : List (Vec (Caller (Past (Cell R A))) Global)) : Type 0 where
    pub many : length lanes ≡ length lists
    pub each : (i : ℕ) (list : Vec Span Global) (lane : Vec (Caller (Past (Cell R A))) Global) → slice_get lists i ≡ Some list → slice_get lanes i ≡ Some lane → Has list lane

  pub all_belong : (lists : List (Vec Span Global)) (lanes : List (Vec (Caller (Past (Cell R A))) Global)) → EachHas lists lanes → All (λ (lane : Vec (Caller (Past (Cell R A))) Global). BelongTo locks lane.items) lanes
  all_belong lists lanes h = all_each (λ (lane : Vec (Caller (Past (Cell R A))) Global). BelongTo locks lane.items) lanes
      (λ i lane is. (let list = present lists i (let inside = slice_get_within lanes i lane is in let many = h.many in omega (arith, inside, many)) in (h.each i list.0 lane list.1 is).belong))

  pub all_held : (lists : List (Vec Span Global)) (dealt lanes : List (Vec (Caller (Past (Cell R A))) Global)) (rests : List (Caller (Past (Cell R A)))) → AreDealt locks lists dealt rests → EachHas lists lanes
      → (m : ℕ) (rest : Caller (Past (Cell R A))) → slice_get rests m ≡ Some rest → (n : ℕ) → n < number_limit → 1 ≤ one_if (holds n rest.numbers) + holders n (passes_at m lanes)
  all_held lists dealt lanes rests deals h = all_still locks lists dealt lanes rests deals h.many (λ i list lane a b. (h.each i list lane a b).still)

  -- ---- where nothing was done

  fresh_first : (m : ℕ) (list : Vec Span Global) (lane : Vec (Caller (Past (Cell R A))) Global) (passes : List (Caller (Past (Cell R A)))) → IsDealt locks list.items lane.items → (pass : Caller (Past (Cell R A))) → ((i : ℕ) → slice_get passes i ≡ Some pass → pass.own ≡ []) → (i : ℕ)
      → slice_get (with_pass (slice_get lane.items m) passes) i ≡ Some pass → pass.own ≡ []
  fresh_first m list lane passes new pass rest i is = by (slice_get lane.items m) refl i is
    where
      by : (o : Option (Caller (Past (Cell R A)))) → slice_get lane.items m ≡ o → (i : ℕ) → slice_get (with_pass o passes) i ≡ Some pass → pass.own ≡ []
      by None none i there = rest i there
      by (Some p) at zero there = (let d = dealt_at locks list.items lane.items new m p at in sym (ap (λ (c : Caller (Past (Cell R A))). c.own) (d.2 ∙ some_same p pass there)))
      by (Some p) at (suc i) there = rest i there

  fresh_at : (m : ℕ) (lists : List (Vec Span Global)) (lanes : List (Vec (Caller (Past (Cell R A))) Global)) → length lanes ≡ length lists → ((i : ℕ) (list : Vec Span Global) (lane : Vec (Caller (Past (Cell R A))) Global) → slice_get lists i ≡ Some list → slice_get lanes i ≡ Some lane → IsDealt locks list.items lane.items)
      → (i : ℕ) (pass : Caller (Past (Cell R A))) → slice_get (passes_at m lanes) i ≡ Some pass → pass.own ≡ []
  fresh_at m lists [] many each i pass is = absurd (cc)
  fresh_at m [] (lane ∷ lanes) many each i pass is = absurd (omega (arith, many))
  fresh_at m (list ∷ lists) (lane ∷ lanes) many each i pass is =
      fresh_first m list lane (passes_at m lanes) (each 0 list lane refl refl) pass (λ k there. fresh_at m lists lanes (omega (arith, many)) (λ n l x a b. each (suc n) l x a b) k pass there) i is

  pub same_shards : (rack : racks.Ghosts R) (area : areas.Ghosts A) (lists : List (Vec Span Global)) (lanes : List (Vec (Caller (Past (Cell R A))) Global)) (rests : List (Caller (Past (Cell R A)))) (shards : List (Shard R A)) → AreDealt locks lists lanes rests → AreUnlocked rack area locks rests lanes shards
      → shards ≡ shards_under locks
  same_shards rack area lists lanes rests shards deals unlocked = list_same shards (shards_under locks) (unlocked.many ∙ sym (length-map locks shard_under)) (λ m shard there.
      let inside = slice_get_within shards m shard there in
      let many = unlocked.many in
      let as_many = deals.fits.many in
      let lock = present locks m (omega (arith, inside, many)) in
      let rest = present rests m (omega (arith, inside, many, as_many)) in
      let z = unlocked.each m lock.0 rest.0 lock.1 rest.1 in
      let value = none_done (Step rack area) lock.0.first rest.0 (passes_at m lanes) z.0 z.2 (deals.fresh m rest.0 rest.1).1 (fresh_at m lists lanes deals.many deals.each) in
      get_map shard_under locks m lock.0 lock.1 ∙ ap Some (sym (ap (λ (c : Cell R A). c.shard) value) ∙ some_of (slice_get shards m) z.0.shard shard z.1 there))

-- ---- lanes that were dealt

module _ {R A J : Type 0} (locks : List (Lock (Cell R A))) (lists : List (Vec Span Global)) (dealt : List (Vec (Caller (Past (Cell R A))) Global)) (rests : List (Caller (Past (Cell R A)))) (groups : Vec (Caller (Past (Cell R A))) Global) (old : Shares R A J) (deals : AreDealt locks lists dealt rests)
    (shared : dealt ≡ old.passes.items ++ groups ∷ []) where
  -- a lane that was dealt
  pub dealt_front : (i : ℕ) (lane : Vec (Caller (Past (Cell R A))) Global) → slice_get old.passes.items i ≡ Some lane → slice_get dealt i ≡ Some lane
  dealt_front i lane is = ap (λ l. slice_get l i) shared ∙ (get_before old.passes.items groups i (slice_get_within old.passes.items i lane is) ∙ is)

  pub dealt_last : slice_get dealt (length old.passes.items) ≡ Some groups
  dealt_last = ap (λ l. slice_get l (length old.passes.items)) shared ∙ get_last old.passes.items groups

  pub dealt_many : length lists ≡ length old.passes.items + 1
  dealt_many = (let many = deals.many in let all = ap length shared ∙ length_push old.passes.items groups in omega (arith, many, all))

  -- the groups' passes hold the groups
  pub dealt_groups : (count : ℕ) → EndWithGroups lists count → IsDealt locks groups_alone groups.items
  dealt_groups count ends =
      let all = ap length ends.is ∙ length_push ends.front ends.groups in
      let many = dealt_many in
      let place : length ends.front ≡ length old.passes.items = omega (arith, all, many) in
      subst (λ ns. IsDealt locks ns groups.items) ends.alone
      (deals.each (length old.passes.items) ends.groups groups (ap (slice_get lists) (sym place) ∙ (ap (λ l. slice_get l (length ends.front)) ends.is ∙ get_last ends.front ends.groups)) dealt_last)

  pub groups_room : (count : ℕ) → EndWithGroups lists count → length locks ≤ vec_capacity groups
  groups_room count ends = (let many = (dealt_groups count ends).many in let is = groups.ok.0 in let most = groups.ok.1 in omega (arith, many, is, most))

-- ---- behind the jobs

module _ {R A G W J : Type 0} (rack : racks.Ghosts R) (area : areas.Ghosts A) (needs : J → Lane R A G W → Type 0) (relates : J → Lane R A G W → J → Lane R A G W → Type 0) (geometry : Geometry) (locks : List (Lock (Cell R A))) (uber : Uber A) (lists : List (Vec Span Global)) (dealt : List (Vec (Caller (Past (Cell R A))) Global))
    (rests : List (Caller (Past (Cell R A)))) (groups : Vec (Caller (Past (Cell R A))) Global) (old : Shares R A J) (deals : AreDealt locks lists dealt rests) (shared : dealt ≡ old.passes.items ++ groups ∷ []) (may : MayRunUnder rack area needs geometry locks uber groups old) (keeps : KeepLanes rack area needs relates) where
  module _ (new : Shares R A J) (uber' : Uber A) (groups' : Vec (Caller (Past (Cell R A))) Global) where
    module _ (ran : RunsUnder rack area relates geometry locks uber groups old new uber' groups') where
      abbrev lock : Lock (UberCell R A)
      lock = ran.lock

      pub job_at : (i : ℕ) → i < length old.passes.items → JobRan relates locks ran.lock geometry old new ran.over.passes ran.over.nexts i
      job_at i lt = ran.over.ran.each i lt

      -- what each job kept of its lane
      pub kept_at : (i : ℕ) (r : JobRan relates locks ran.lock geometry old new ran.over.passes ran.over.nexts i) → IsLeftWhole rack area r.lane r.next
      kept_at i r = keeps r.job r.lane r.done r.next (may ran.lock ran.first ran.made ran.over.passes ran.over.rest ran.over.of_lanes i r.job r.lane (record { over = r.over; has = r.begun; number = r.number })) r.related

      -- its list holds what it owned, and owns then
      pub lane_has : (i : ℕ) (list : Vec Span Global) (r : JobRan relates locks ran.lock geometry old new ran.over.passes ran.over.nexts i) → slice_get lists i ≡ Some list → Has locks list r.next.metaslabs.passes
      lane_has i list r list_is =
          let k = kept_at i r in
          let fits = k.whole.lane_is.fits in
          let turns : r.next.metaslabs.turns.now ≡ locks = k.same.turns ∙ r.over.turns in
          let was = deals.each i list r.lane.metaslabs.passes list_is (dealt_front locks lists dealt rests groups old deals shared i r.lane.metaslabs.passes r.begun.held) in
          let b = subst (λ ls. BelongTo ls r.next.metaslabs.passes.items) turns (belongs rack r.next.metaslabs.turns.now r.next.metaslabs.passes.items fits) in
          record {
            belong = b;
            still = record {
              many = b.many;
              owns = λ n held. ap (λ (f : ℕ → _). f n) k.same.owns ∙ dealt_holds locks list.items r.lane.metaslabs.passes.items was n held;
            };
          }

      groups_is : IsUberOf rack area locks uber' groups'
      groups_is = subst (λ ls. IsUberOf rack area ls uber' groups') ran.made.turns_are ran.over.back.is

      groups_have : (list : Vec Span Global) → list.items ≡ groups_alone → Has locks list groups'
      groups_have list alone = record {
        belong = belongs rack locks groups'.items groups_is.fits;
        still = record {
          many = groups_is.fits.many;
          owns = λ n held. owned_all groups'.items n (λ m pass is. ap (holds n) ((groups_is.alone m pass is).0 ∙ sym alone) ∙ held);
        };
      }

      ran_have : (count : ℕ) → EndWithGroups lists count → EachHas locks lists (new.passes.items ++ groups' ∷ [])
      ran_have count ends = record {
        many = (let a = length_push new.passes.items groups' in let b = ran.over.ran.many in let c = dealt_many locks lists dealt rests groups old deals shared in omega (arith, a, b, c));
        each = λ i list lane list_is lane_is. elim (at_push new.passes.items groups' lane i lane_is) [
          | inl before ↦
              let inside = slice_get_within new.passes.items i lane before in
              let r = job_at i (let b = ran.over.ran.many in omega (arith, inside, b)) in
              subst (Has locks list) (some_of (slice_get new.passes.items i) r.next.metaslabs.passes lane r.ended.held before) (lane_has i list r list_is)
          | inr z ↦ subst (Has locks list) z.1 (groups_have list (ends_at count ends i list list_is (let b = ran.over.ran.many in let c = dealt_many locks lists dealt rests groups old deals shared in let d = z.0 in omega (arith, b, c, d))))
        ];
      }
        where
          ends_at : (count : ℕ) (ends : EndWithGroups lists count) (i : ℕ) (list : Vec Span Global) → slice_get lists i ≡ Some list → i + 1 ≡ length lists → list.items ≡ groups_alone
          ends_at count ends i list list_is last =
              let all = ap length ends.is ∙ length_push ends.front ends.groups in
              let place : i ≡ length ends.front = omega (arith, all, last) in
              let there : slice_get lists i ≡ Some ends.groups = ap (slice_get lists) place ∙ (ap (λ l. slice_get l (length ends.front)) ends.is ∙ get_last ends.front ends.groups) in
              ap (λ (v : Vec Span Global). v.items) (some_of (slice_get lists i) list ends.groups list_is there) ∙ ends.alone

    same_have : new ≡ old → groups' ≡ groups → EachHas locks lists (new.passes.items ++ groups' ∷ [])
    same_have same same_groups =
        subst (EachHas locks lists) (shared ∙ (λ k. (sym same k).passes.items ++ sym same_groups k ∷ []))
        (record { many = deals.many; each = λ i list lane a b. has_dealt locks list lane (deals.each i list lane a b) })

    -- behind the jobs, and where none was run, each lane has what its list holds
    pub have_behind : (result : Result Unit NoMemory) (count : ℕ) → EndWithGroups lists count → IfOk result (λ _. RunsUnder rack area relates geometry locks uber groups old new uber' groups') → IfErr result (λ _. (new ≡ old) × (uber' ≡ uber) × (groups' ≡ groups))
        → EachHas locks lists (new.passes.items ++ groups' ∷ [])
    have_behind (Ok done) count ends ran same = ran_have ran count ends
    have_behind (Err why) count ends ran same = same_have same.0 same.2
