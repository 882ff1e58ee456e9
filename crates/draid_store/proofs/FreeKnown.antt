-- What a thread knows of a pool's state, as it frees an object of its own.
use Rattle.std.proofs.Common.{◌≡◌, ◌≤◌, ◌∙◌, arith, ℕ, Bool, true, ◌∷◌, Option, Some, sym, ap, subst, slice_set, cond, List}
use Rattle.std.specs.Prelude.{max, slice_get}
use Rattle.draid_machine.specs.declared.names.Key.{Key}
use Rattle.draid_machine.specs.declared.names.Held.{Held}
use Rattle.draid_machine.specs.declared.names.Stage.TheVariants as stage
use Rattle.draid_machine.specs.After.{set_held}
use Rattle.draid_segments.specs.Segments.{Pieces}
use Rattle.draid_objects.specs.Blocks.{Sets}
use Rattle.draid_objects.specs.Changes as changes
use Rattle.draid_objects.specs.Changes.{Change, Freed, Write, write_of}
use Rattle.draid_objects.specs.Stores.{AreMarkedUpto, IsBehindChecks, IsOnlyLive, IsSpare}
use Rattle.draid_objects.specs.Marks.{Mark, check_by}
use Rattle.draid_session.specs.Points.{KeepsBirth}
use Rattle.draid_pool.proofs.Marked.{behind_later, marked_later, own_keeps, spare_of}
use Rattle.std.proofs.lemmas.Bool.Decides.{nat_tests}
use Rattle.draid_objects.proofs.One.{one_set}
use Rattle.draid_session.specs.State.{Metaslab, State, Store}
use Rattle.draid_pool.specs.Objects.{HoldsObjects, IsLastAt, blocks_of, worlds_of}
use Rattle.draid_pool.proofs.Entering.{freed_holds, freed_only, only_live}
use Rattle.draid_pool.proofs.Moved.{blocks_at, each_set, moves_one}
use Rattle.draid_pool.specs.Threads.{Bounds, HoldsOwn, all_of, own_blocks, own_changes, own_store}
use Rattle.draid_pool.proofs.Owning.{own_is, write_own, bound_before}
use Rattle.draid_pool.proofs.Finds.{all_low, bound_in}
use Rattle.draid_pool.proofs.Hiding.{own_set}

module _ (owns : ℕ → Bool) (x : State) (m : ℕ) (z r : Metaslab) (pieces : ℕ → Pieces) (at : slice_get x.metaslabs m ≡ Some z) (key : Key) (own : owns key.object ≡ true) (h : Held) (found_h : z.world.core.held key ≡ Some h)
    (live : h.stage ≡ stage.Live) (group : ℕ) (later : x.store.floor ≤ group) (made : r.world.core.held ≡ set_held z.world.core.held key (Some (record h { stage = stage.Freed group }))) (committed : r.world.committed ≡ z.world.committed)
    (w : Write) (last : write_of x.store.changes key.object ≡ Some w) (key_is : changes.key_of w ≡ key) (here : w.metaslab ≡ m) (holds : HoldsOwn owns x pieces) (opens : r.world.open_group ≡ z.world.open_group) (group_is : group ≡ max z.world.open_group x.store.floor) (loose : KeepsBirth x.store.marks h.birth → ⊥) where
  abbrev old_blocks : ℕ → Key → Option Held
  old_blocks = own_blocks (all_of owns) (blocks_of x.metaslabs)

  abbrev new_blocks : ℕ → Key → Option Held
  new_blocks = own_blocks (all_of owns) (blocks_of (slice_set x.metaslabs m r))

  there : old_blocks m key ≡ Some h
  there = own_is (all_of owns) (blocks_of x.metaslabs) m key own ∙ (blocks_at x.metaslabs m z key at ∙ found_h)

  abbrev freed : Option Held
  freed = Some (record h { stage = stage.Freed group })

  set : Sets old_blocks new_blocks m key freed
  set = own_set owns (blocks_of x.metaslabs) (blocks_of (slice_set x.metaslabs m r)) m key freed own (one_set (worlds_of x.metaslabs) (worlds_of (slice_set x.metaslabs m r)) m z.world r.world (moves_one x.metaslabs m z r at) key freed made)

  last_own : write_of (own_changes owns x.store.changes) key.object ≡ Some w
  last_own = write_own owns x.store.changes key.object own ∙ last

  abbrev own_marks : List Mark
  own_marks = (own_store owns x.store).marks

  one : IsOnlyLive (check_by own_marks) old_blocks m key
  one = subst (λ n. IsOnlyLive (check_by own_marks) old_blocks n key) here (only_live (check_by own_marks) old_blocks (own_changes owns x.store.changes) w key holds.only last_own key_is)

  changes_are : own_changes owns (Freed key.object group ∷ x.store.changes) ≡ Freed key.object group ∷ own_changes owns x.store.changes
  changes_are = ap (λ b. cond b (Freed key.object group ∷ own_changes owns x.store.changes) (own_changes owns x.store.changes)) own

  abbrev new_store : Store
  new_store = record { changes = Freed key.object group ∷ x.store.changes; marks = x.store.marks; seq = x.store.seq; floor = group }

  before : (c : ℕ) → Bounds (record x { metaslabs = slice_set x.metaslabs m r; store = new_store }) c → (n : ℕ) (v : Metaslab) → slice_get x.metaslabs n ≡ Some v → IsBehindChecks c own_marks v.world.open_group
  before c b = holds.checks c (bound_before x m z r at c (let e = committed in omega (arith, e)) b)

  behind : (c : ℕ) → Bounds (record x { metaslabs = slice_set x.metaslabs m r; store = new_store }) c → IsBehindChecks c own_marks group
  behind c b = behind_later c c z.world.open_group group own_marks (omega arith) (grind (arith, nat_tests, group_is)) (before c b m z at)

  upto : AreMarkedUpto group own_marks
  upto = marked_later (max x.store.floor z.world.open_group) group own_marks (grind (arith, nat_tests, group_is)) (holds.marked m z at)

  spare : IsSpare group own_marks h.birth
  spare = spare_of group h.birth own_marks upto (λ kept. loose (own_keeps owns x.store.marks h.birth kept))

  up : (n : ℕ) → group ≤ max group n
  up n = grind (arith, nat_tests)

  pub own_freed : HoldsOwn owns (record x { metaslabs = slice_set x.metaslabs m r; store = new_store }) pieces
  own_freed = record {
    holds = λ c b. subst (λ cs. HoldsObjects x.geometry c (record { changes = cs; marks = own_marks; seq = x.store.seq; floor = group }) new_blocks pieces) (sym changes_are)
        (freed_holds x.geometry c (own_store owns x.store) old_blocks new_blocks pieces (holds.holds c (bound_before x m z r at c (let e = committed in omega (arith, e)) b)) m key h there live group later set one spare (behind c b) upto);
    only = λ n k i there_i is_live counts. subst (λ cs. IsLastAt n k (write_of cs k.object)) (sym changes_are)
        (freed_only x.geometry (bound_in x.metaslabs) (own_store owns x.store) old_blocks new_blocks pieces (holds.holds (bound_in x.metaslabs) (all_low x)) m key h there live group later set holds.only w last_own key_is here n k i there_i is_live counts);
    checks = λ c b. each_set x.metaslabs m z r (λ v. IsBehindChecks c own_marks v.world.open_group) at (behind_later c c z.world.open_group r.world.open_group own_marks (omega arith) (omega (arith, opens)) (before c b m z at)) (before c b);
    marked = λ n v there_v. marked_later group (max group v.world.open_group) own_marks (up v.world.open_group) upto;
  }
