-- What due slots got by the shards of a pool is what is seen of it.
use Rattle.std.proofs.Common.{◌≡◌, ◌==◌, ◌&&◌, ◌||◌, ◌<◌, ◌≤◌, ◌+◌, ◌++◌, ◌∙◌, inl, inr, not, [], ◌∷◌, ℕ, zero, suc, Bool, true, false, nat_le, List, Option, Some, None, Contains, arith, refl, sym, ap, subst, length, if◌then◌else◌}
use Rattle.std.specs.Prelude.{slice_get}
use Rattle.std.specs.List.{list_any}
use Rattle.std.proofs.lemmas.Bool.{cases_eq}
use Rattle.draid_names.specs.declared.journal.Cause.{Cause}
use Rattle.draid_names.specs.declared.journal.Cause.TheVariants.{Logged, Offline}
use Rattle.draid_names.specs.declared.journal.Did.{Did}
use Rattle.draid_names.specs.declared.journal.Did.TheVariants.{NoneFree, Spared}
use Rattle.draid_names.specs.declared.journal.Entry.{Entry}
use Rattle.draid_spec.specs.declared.layout.Geometry.{Geometry}
use Rattle.draid_rack.specs.declared.Rack as racks
use Rattle.draid_area.specs.declared.Area as areas
use Rattle.draid_machine.proofs.Small.{absurd_test, either_true, is_equal}
use Rattle.draid_slots.specs.Table.{SlotTable, arms_of, holds_spare}
use Rattle.draid_shard.specs.declared.shard.Shard.{Shard}
use Rattle.draid_shard.proofs.Among.{has_behind, has_cases, has_first, has_nothing}
use Rattle.draid_agent.specs.Due.{cause_of, due_by, dues}
use Rattle.draid_agent.specs.declared.states.Due.{Due}
use Rattle.draid_disks.specs.Checks.{missed_over}
use Rattle.draid_session.specs.Agent.{AreDueFrom, AreFreeAt, AreNumbered, Gets, GivesFrom, IsDue, IsntDue, WasGiven, logged_of}
use Rattle.draid_session.specs.Arms as arms
use Rattle.draid_session.specs.Holds.{View}
use Rattle.draid_session.specs.State.{State}
use Rattle.draid_pool.specs.Pools.{Represents}
use Rattle.draid_pool.specs.Views.{seen_at}
use Rattle.draid_pool.specs.Whole.{IsWhole}
use Rattle.draid_pool.specs.declared.pool.Pool.{Pool}
use Rattle.draid_changes.specs.Dues.{AreFree, IsIdleIn, first_place, shown_from, shown_of}
use Rattle.draid_changes.specs.Giving.{GetsOf, GivesTo, SlotsAscend, is_spared}
use Rattle.draid_changes.proofs.Barred.{busy, idle, layout_same}
use Rattle.draid_changes.proofs.DueSeen.{SeenAs, cause_seen}
use Rattle.draid_changes.proofs.Frees.{ascends_below, ascends_next}

-- ---- what the list of due slots is like

lower : (low more : ℕ) (ds : List Due) → low ≤ more → SlotsAscend more ds → SlotsAscend low ds
lower low more [] less up = tt
lower low more (d ∷ ds) less up = (let first = up.0 in omega (arith, less, first), up.1)

-- a slot that is due has one arm
one_arm : (least : ℕ) (one leaf off : Bool) (logged : ℕ) (why : Cause) → (if not (one && leaf) then None else if off then Some Offline else if nat_le least logged then Some (Logged logged) else None) ≡ Some why → one ≡ true
one_arm least true leaf off logged why is = refl
one_arm least false leaf off logged why is = absurd (cc)

module _ {R A : Type 0} (slots : SlotTable) (shards : List (Shard R A)) (least : ℕ) where
  abbrev due_from : ℕ → ℕ → List Due
  due_from slot n = dues least (shown_from slots shards slot n)

  pub dues_ascend : (slot n : ℕ) → SlotsAscend slot (due_from slot n)
  dues_ascend slot zero = tt
  dues_ascend slot (suc n) = by (cause_of least (shown_of slots shards slot)) (dues_ascend (slot + 1) n)
    where
      by : (o : Option Cause) → SlotsAscend (slot + 1) (due_from (slot + 1) n) → SlotsAscend slot (due_by (shown_of slots shards slot) o ++ due_from (slot + 1) n)
      by None rest = lower slot (slot + 1) (due_from (slot + 1) n) (omega arith) rest
      by (Some why) rest = (omega arith, rest)

  pub dues_few : (slot n : ℕ) → length (due_from slot n) ≤ n
  dues_few slot zero = omega arith
  dues_few slot (suc n) = by (cause_of least (shown_of slots shards slot)) (dues_few (slot + 1) n)
    where
      by : (o : Option Cause) → length (due_from (slot + 1) n) ≤ n → length (due_by (shown_of slots shards slot) o ++ due_from (slot + 1) n) ≤ suc n
      by None few = omega (arith, few)
      by (Some why) few = omega (arith, few)

  pub dues_inside : (slot n : ℕ) (d : Due) → Contains (due_from slot n) d → (d.slot < slot + n) × (length (arms_of slots d.slot) ≡ 1)
  dues_inside slot zero d has = absurd (has_nothing d has)
  dues_inside slot (suc n) d has = by (cause_of least (shown_of slots shards slot)) refl (dues_inside (slot + 1) n d) has
    where
      Later : Type 0
      Later = Contains (due_from (slot + 1) n) d → (d.slot < slot + 1 + n) × (length (arms_of slots d.slot) ≡ 1)

      on : (d.slot < slot + 1 + n) × (length (arms_of slots d.slot) ≡ 1) → (d.slot < slot + suc n) × (length (arms_of slots d.slot) ≡ 1)
      on (less, one) = (omega (arith, less), one)

      by : (o : Option Cause) → cause_of least (shown_of slots shards slot) ≡ o → (Contains (due_from (slot + 1) n) d → (d.slot < slot + 1 + n) × (length (arms_of slots d.slot) ≡ 1))
          → Contains (due_by (shown_of slots shards slot) o ++ due_from (slot + 1) n) d → (d.slot < slot + suc n) × (length (arms_of slots d.slot) ≡ 1)
      by None is rest has = on (rest has)
      by (Some why) is rest has = elim (has_cases _ (due_from (slot + 1) n) d has) [
        | inl same ↦
            (let at : slot ≡ d.slot = ap (λ (d : Due). d.slot) same in
            (omega (arith, at), subst (λ s. length (arms_of slots s) ≡ 1) at (is_equal (length (arms_of slots slot)) 1 (one_arm least (length (arms_of slots slot) == 1) _ _ _ why is))))
        | inr later ↦ on (rest later)
      ]

-- ---- entries

pub gives_long : (chosen : ℕ → ℕ → List ℕ → Option ℕ → Type 0) (Idle : ℕ → Type 0) (spares : ℕ) (given : List Entry) (number : ℕ) (ds : List Due) (entries : List Entry) → GivesTo chosen Idle spares given number ds entries → length entries ≡ length ds
gives_long chosen Idle spares given number [] entries gives = ap length gives
gives_long chosen Idle spares given number (d ∷ ds) entries (e, rest, are, for, got, behind) =
    (let long = ap length are in let more = gives_long chosen Idle spares (given ++ e ∷ []) (number + 1) ds rest behind in omega (arith, long, more))

-- they have the numbers from one on
pub gives_numbered : (chosen : ℕ → ℕ → List ℕ → Option ℕ → Type 0) (Idle : ℕ → Type 0) (spares : ℕ) (given : List Entry) (number : ℕ) (ds : List Due) (entries : List Entry) → GivesTo chosen Idle spares given number ds entries → AreNumbered number entries
gives_numbered chosen Idle spares given number [] entries gives = subst (AreNumbered number) (sym gives) tt
gives_numbered chosen Idle spares given number (d ∷ ds) entries (e, rest, are, for, got, behind) =
    subst (AreNumbered number) (sym are) (for.0, gives_numbered chosen Idle spares (given ++ e ∷ []) (number + 1) ds rest behind)

pub spared_came : (entries : List Entry) → list_any (λ (e : Entry). is_spared e.did) entries ≡ true → (spare : ℕ) × WasGiven spare entries
spared_came [] is = absurd_test false is refl
spared_came (e ∷ entries) is = elim (either_true (is_spared e.did) (list_any (λ (e : Entry). is_spared e.did) entries) is) [
  | inl here ↦ by e.did refl here
  | inr later ↦ (let z = spared_came entries later in (z.0, (z.1.0, has_behind e entries z.1.0 z.1.1, z.1.2)))
]
  where
    by : (d : Did) → e.did ≡ d → is_spared d ≡ true → (spare : ℕ) × WasGiven spare (e ∷ entries)
    by NoneFree did is = absurd_test false is refl
    by (Spared spare) did is = (spare, (e, has_first e entries e refl, did))

pub came_spared : (entries : List Entry) (spare : ℕ) → WasGiven spare entries → list_any (λ (e : Entry). is_spared e.did) entries ≡ true
came_spared [] spare (f, among, did) = absurd (has_nothing f among)
came_spared (e ∷ entries) spare (f, among, did) = elim (has_cases e entries f among) [
  | inl same ↦ left (is_spared e.did) (list_any (λ (e : Entry). is_spared e.did) entries) (ap (λ (x : Entry). is_spared x.did) same ∙ ap is_spared did)
  | inr later ↦ right (is_spared e.did) (list_any (λ (e : Entry). is_spared e.did) entries) (came_spared entries spare (f, later, did))
]
  where
    left : (a b : Bool) → a ≡ true → (a || b) ≡ true
    left true b is = refl
    left false b is = absurd_test false is refl

    right : (a b : Bool) → b ≡ true → (a || b) ≡ true
    right true b is = refl
    right false b is = is

-- ---- what is seen

module _ {R A : Type 0} (rack : racks.Ghosts R) (area : areas.Ghosts A) (pool : Pool R A) (w : IsWhole rack area pool) (x : State) (r : Represents rack area pool x) (first : Shard R A) (there : slice_get pool.metaslabs.shards.items 0 ≡ Some first) where
  abbrev views : List View
  views = seen_at 0 x.metaslabs

  layout : first.slots.geometry ≡ x.geometry
  layout = layout_same rack area pool x r first there

  -- a spare that is seen to be idle is so
  idle_in : (spare : ℕ) → arms.IsIdle x.geometry x.perms spare views → IsIdleIn first.slots spare
  idle_in spare seen by = pick (holds_spare first.slots spare by) refl
    where
      pick : (b : Bool) → holds_spare first.slots spare by ≡ b → holds_spare first.slots spare by ≡ false
      pick false is = is
      pick true is = absurd (seen by (busy rack area pool x r first there spare by is))

  pub free_seen : (given : List Entry) (free : List ℕ) → AreFree (IsIdleIn first.slots) given first.slots.geometry.spec.spares free → AreFreeAt x.geometry x.perms views given free
  free_seen given free are = record {
    ascending = λ front p q back is. ascends_next 0 first.slots.geometry.spec.spares free front p q back are.ascending is;
    all = λ spare f. are.all spare (subst (λ (g : Geometry). spare < g.spec.spares) (sym layout) f.inside) (idle_in spare f.idle) f.not_given;
    only = λ spare has. record {
      inside = subst (λ (g : Geometry). spare < g.spec.spares) layout (ascends_below 0 first.slots.geometry.spec.spares free spare are.ascending has);
      idle = idle rack area pool x r first there spare (are.only spare has).0;
      not_given = (are.only spare has).1;
    };
  }

  module _ (least : ℕ) where
    abbrev due_here : ℕ → ℕ → List Due
    due_here slot n = dues least (shown_from first.slots pool.metaslabs.shards.items slot n)

    abbrev Seen : ℕ → Option Cause → Type 0
    Seen slot o = SeenAs rack area pool w x r first there least slot o

    seen : (slot : ℕ) → slot < first.slots.geometry.spec.children → Seen slot (cause_of least (shown_of first.slots pool.metaslabs.shards.items slot))
    seen slot low = cause_seen rack area pool w x r first there least slot low

    -- none is due where the list is empty
    pub none_due : (slot n : ℕ) → slot + n ≤ first.slots.geometry.spec.children → due_here slot n ≡ [] → (k : ℕ) → slot ≤ k → k < slot + n → IsntDue least views k
    none_due slot zero low none k from below = absurd (omega (arith, from, below))
    none_due slot (suc n) low none k from below =
        by (cause_of least (shown_of first.slots pool.metaslabs.shards.items slot)) (seen slot (omega (arith, low))) none (λ rest other. none_due (slot + 1) n (omega (arith, low)) rest k (omega (arith, from, other)) (omega (arith, below)))
      where
        by : (o : Option Cause) → Seen slot o → due_by (shown_of first.slots pool.metaslabs.shards.items slot) o ++ due_here (slot + 1) n ≡ [] → (due_here (slot + 1) n ≡ [] → (k ≡ slot → ⊥) → IsntDue least views k) → IsntDue least views k
        by None isnt none later = elim (cases_eq k slot) [
          | inl same ↦ subst (λ s. IsntDue least views s) (sym same) isnt
          | inr other ↦ later none other
        ]
        by (Some why) due none later = absurd (cc)

    -- so many are due as the list has
    pub many_due : (slot n : ℕ) → slot + n ≤ first.slots.geometry.spec.children → AreDueFrom least views slot n (length (due_here slot n))
    many_due slot zero low = refl
    many_due slot (suc n) low = by (cause_of least (shown_of first.slots pool.metaslabs.shards.items slot)) (seen slot (omega (arith, low))) (many_due (slot + 1) n (omega (arith, low)))
      where
        by : (o : Option Cause) → Seen slot o → AreDueFrom least views (slot + 1) n (length (due_here (slot + 1) n)) → AreDueFrom least views slot (suc n) (length (due_by (shown_of first.slots pool.metaslabs.shards.items slot) o ++ due_here (slot + 1) n))
        by None isnt rest = inl (isnt, rest)
        by (Some why) (leaf, due, sum) rest = inr (leaf, why, length (due_here (slot + 1) n), due, omega arith, rest)

    module _ (chosen : ℕ → ℕ → List ℕ → Option ℕ → Type 0) where
      gets_seen : (given : List Entry) (slot : ℕ) (why : Cause) (leaf : ℕ) (did : Did) → logged_of views leaf ≡ missed_over pool.metaslabs.shards.items (first_place slot)
          → GetsOf chosen (IsIdleIn first.slots) first.slots.geometry.spec.spares given (record { slot = slot; cause = why; logged = missed_over pool.metaslabs.shards.items (first_place slot) }) did
          → Gets x.geometry x.perms chosen views given slot leaf did
      gets_seen given slot why leaf NoneFree sum gets = free_seen given [] gets
      gets_seen given slot why leaf (Spared spare) sum (free, are, among, picked) = (free, free_seen given free are, among, subst (λ n. chosen slot n free (Some spare)) (sym sum) picked)

      -- the entries are those of the slots that are seen to be due
      pub gives_seen : (slot n : ℕ) → slot + n ≤ first.slots.geometry.spec.children → (given : List Entry) (number : ℕ) (entries : List Entry)
          → GivesTo chosen (IsIdleIn first.slots) first.slots.geometry.spec.spares given number (due_here slot n) entries → GivesFrom x.geometry x.perms chosen least views given number slot n entries
      gives_seen slot zero low given number entries gives = gives
      gives_seen slot (suc n) low given number entries gives =
          by (cause_of least (shown_of first.slots pool.metaslabs.shards.items slot)) (seen slot (omega (arith, low))) (λ before from rest g. gives_seen (slot + 1) n (omega (arith, low)) before from rest g) gives
        where
          by : (o : Option Cause) → Seen slot o
              → ((before : List Entry) (from : ℕ) (rest : List Entry) → GivesTo chosen (IsIdleIn first.slots) first.slots.geometry.spec.spares before from (due_here (slot + 1) n) rest → GivesFrom x.geometry x.perms chosen least views before from (slot + 1) n rest)
              → GivesTo chosen (IsIdleIn first.slots) first.slots.geometry.spec.spares given number (due_by (shown_of first.slots pool.metaslabs.shards.items slot) o ++ due_here (slot + 1) n) entries
              → GivesFrom x.geometry x.perms chosen least views given number slot (suc n) entries
          by None isnt later gives = inl (isnt, later given number entries gives)
          by (Some why) (leaf, due, sum) later (e, rest, are, for, got, behind) =
              inr (
                e,
                rest,
                leaf,
                are,
                for.0,
                for.1,
                subst (λ c. IsDue least views slot leaf c) (sym for.2) due,
                gets_seen given slot why leaf e.did sum got,
                later (given ++ e ∷ []) (number + 1) rest behind,
              )
