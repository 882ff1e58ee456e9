-- An import from the metaslabs that are opened to its pool: what is found, one older block after another that is freed, and the pool.
use Rattle.std.proofs.Common.{arith, ◌≡◌, ◌+◌, ◌<◌, ◌≤◌, ◌∙◌, inl, inr, ℕ, Option, Some, List, [], ap, length, refl, subst, sym, slice_set}
use Rattle.std.specs.Prelude.{◌↔◌, nat_eq, slice_get}
use Rattle.std.specs.HashMap.{get}
use Rattle.draid_names.specs.declared.numbers.TheConstants.{LAST_NUMBER}
use Rattle.draid_names.specs.declared.pointer.Pointer.{Pointer}
use Rattle.draid_rack.specs.declared.Rack as racks
use Rattle.draid_area.specs.declared.Area as areas
use Rattle.draid_record.specs.declared.uber.UberBody.{UberBody}
use Rattle.draid_segments.specs.Segments.{Pieces}
use Rattle.draid_shelf.specs.Kits.{Held}
use Rattle.draid_shard.specs.Looks.{IsLive}
use Rattle.draid_shard.specs.Part.{Part}
use Rattle.draid_shard.specs.declared.shard.Shard.{Shard}
use Rattle.draid_uber.specs.Checks.{AreasStand, told_by}
use Rattle.draid_uber.specs.Uber.{Valid, areas_of, count_of, kept_of, layout_of, next_leaf_of, version_of, point_of}
use Rattle.draid_uber.specs.declared.uber.Uber.{Uber}
use Rattle.draid_session.specs.Opening.{DropsOlder, Finds, IsLastSeq}
use Rattle.draid_session.specs.State.{Metaslab, State}
use Rattle.draid_pool.specs.Returning.{Rests}
use Rattle.draid_pool.specs.Importable.{AreAlike, IsFindable}
use Rattle.draid_import.specs.Imported.{AreLeft, found_state, FindsBody, IsFoundOf, IsLastIn, OpensFound, SaysObjects, StandsFound, Stays}
use Rattle.draid_import.specs.Points.{KeepsPoint}
use Rattle.draid_found.specs.Drops.{AreNewestBeside, HaveBorn, HaveNamed}
use Rattle.std.proofs.lemmas.List.Elements.{All-nil}
use Rattle.std.proofs.lemmas.Option.{slice_get_within}
use Rattle.draid_objects.specs.Blocks.{sealed_at}
use Rattle.draid_pool.proofs.Lists.{present}
use Rattle.draid_machine.specs.declared.names.Held.{Held as Block}
use Rattle.draid_machine.specs.declared.names.Key.{Key}
use Rattle.draid_machine.specs.declared.names.Stage.TheVariants.{Live}
use Rattle.draid_objects.specs.Marks.{Mark, marks_upto}
use Rattle.draid_objects.specs.Stores.{AreMarkedUpto}
use Rattle.draid_record.specs.Checks.{CheckTold, IsCheck}
use Rattle.draid_session.specs.Points.{HasLateMark, IsPointOf}
use Rattle.draid_shard.specs.States.{IsIn}
use Rattle.draid_pool.specs.Objects.{HoldsObjects, blocks_of}
use Rattle.draid_import.proofs.ImportBeside.{dropped_all_then, drops_are, holds_then, kept_then, newest_then, point_is, says_then}
use Rattle.draid_import.proofs.ImportDrops.{dropped_behind, dropped_marks, old_dropped, old_upto, upto_low}
use Rattle.draid_import.proofs.ImportPoint.{all_next, late_then, point_then, point_upto, told_before, told_upto}
use Rattle.draid_import.specs.Importing.{ImportsPool}
use Rattle.draid_pool.specs.Metaslabs.{IsMetaslab}
use Rattle.draid_pool.specs.Shards.{FreesIn, Goes}
use Rattle.draid_pool.specs.declared.pool.Pool.{Pool}
use Rattle.draid_import.proofs.ImportFound.{found_blocks, found_live}
use Rattle.draid_import.proofs.ImportNewest.{Found, counts_by, found, imports_pool, last_in, loose_by, older_by}
use Rattle.draid_import.proofs.ImportOlder.{none_freed, older_step}
use Rattle.draid_import.proofs.ImportOpened.{IsOpened, all_opened, all_reached, finds_state, finds_marked, finds_opened, marked_state, opened_holds, opened_is_in, opened_says, opened_stands, opened_state}
use Rattle.draid_pool.specs.Ubers.{check_told, point_told}

-- a block that the group's image has is in the shards that were opened from there
pub shard_born : {R A : Type 0} (rack : racks.Ghosts R) (area : areas.Ghosts A) (x : State) (pieces : ℕ → Pieces) (held : Held) (rests : Rests x pieces held) (findable : IsFindable x) (uber : Uber A) (body : UberBody) (body_is : FindsBody x body)
    (shards : List (Shard R A)) (many : length shards ≡ length x.metaslabs)
    → ((m : ℕ) (shard : Shard R A) (y : Metaslab) → slice_get shards m ≡ Some shard → slice_get x.metaslabs m ≡ Some y → OpensFound rack area x body.group m (pieces m) y shard)
    → (m : ℕ) (k : Key) (h : Block) → sealed_at body.group (blocks_of x.metaslabs) m k ≡ Some h → (upto : ℕ) → h.birth ≤ upto → HaveBorn shards upto k
shard_born {R} {A} rack area x pieces held rests findable uber body body_is shards many each m k h is upto born = record {
  m = m;
  shard = f.shard;
  there = f.at;
  has = record {
    block = record { first = h.first; e = f.entry.e; there = f.entry.there; key_is = f.entry.key_is };
    born = (let birth = ap (λ (i : Block). i.birth) f.entry.held_is in omega (arith, birth, born));
  };
}
  where
    opened : (zs : List Metaslab) × (length zs ≡ length x.metaslabs) × ((m : ℕ) (y z : Metaslab) → slice_get x.metaslabs m ≡ Some y → slice_get zs m ≡ Some z → IsOpened rack area x pieces held rests findable uber body body_is shards many each m y z)
    opened = all_opened rack area x pieces held rests findable uber body body_is shards many each

    plain : State
    plain = found_state x body.group body.next_leaf opened.0 (marks_upto body.group x.store.marks) 0 x.uber_count

    finds : Finds x body.group plain
    finds = finds_state x body.group body.next_leaf opened.0 (marks_upto body.group x.store.marks) [] 0 x.uber_count refl (All-nil (DropsOlder plain body.group)) body_is.version body_is.may body_is.some body_is.leaf opened.1
        (λ m y z at there. (opened.2 m y z at there).reopens) (omega arith)

    in_state : (m : ℕ) (shard : Shard R A) (y : Metaslab) → slice_get shards m ≡ Some shard → slice_get opened.0 m ≡ Some y → IsIn shard y.world
    in_state m shard z at there =
        let within = slice_get_within opened.0 m z there in
        let same = opened.1 in
        let y = present x.metaslabs m (omega (arith, within, same)) in
        ((opened.2 m y.0 z y.1 there).is shard at).stands.is_in

    f : Found rack area shards plain (many ∙ sym opened.1) in_state m k h
    f = found rack area shards plain (many ∙ sym opened.1) in_state m k h
        (found_blocks x plain body.group pieces finds refl rests.layout rests.many (all_reached x pieces held rests) rests.leaves findable rests.objects m k ∙ is)

module _ {R A : Type 0} (rack : racks.Ghosts R) (area : areas.Ghosts A) (x : State) (pieces : ℕ → Pieces) (uber : Uber A) (newest : ℕ → Option Pointer) (seq : ℕ) where
  -- all metaslabs were opened, their blocks noted beside the check record, and the older ones dropped that the checkpoint keeps
  pub found_begins : (held : Held) (rests : Rests x pieces held) (findable : IsFindable x) (alike : AreAlike x) (body : UberBody) (body_is : FindsBody x body) (shards : List (Shard R A)) (many : length shards ≡ length x.metaslabs)
      → ((m : ℕ) (shard : Shard R A) (y : Metaslab) → slice_get shards m ≡ Some shard → slice_get x.metaslabs m ≡ Some y → OpensFound rack area x body.group m (pieces m) y shard)
      → x.uber_count ≤ count_of area.faults uber → IsLastIn shards seq → (value : CheckTold) → value ≡ check_told x.store.marks body.group → IsCheck body.group value → HaveNamed shards value.group value.drops
      → AreNewestBeside shards value.drops newest → KeepsPoint body.group value shards newest 0 uber → body.group < LAST_NUMBER → Valid area.size uber → kept_of uber ≡ Some body
      → version_of uber ≡ body.props.version → next_leaf_of uber ≡ body.next_leaf → AreasStand (check_told x.store.marks) (kept_of uber) [] (told_by area.told (areas_of uber)) → layout_of uber ≡ x.geometry → IsFoundOf rack area x uber pieces newest seq shards
  found_begins held rests findable alike body body_is shards many each counted last value value_is range have newest_in p low valid kept version next stands layout = record {
    group = body.group;
    mid = mid;
    finds = finds;
    last = record { one = last_is.one; all = last_is.all };
    seq_is = refl;
    knows = record {
      says = says_then rack area plain pieces shards as_many in_state says holds live body.group refl low_marks newest value told_is range have newest_in p.older p.are;
      holds = holds_mid;
      live = live;
      newest_is = newest_then rack area plain pieces shards as_many in_state says holds live body.group refl low_marks newest value told_is range have newest_in p.older p.are;
      point = subst (IsPointOf marks) (sym (p.group_is ∙ p.keeps.group_is)) (point_is rack area plain pieces shards as_many in_state says holds live body.group refl low_marks newest value told_is range have newest_in p.older p.are);
      kept = kept_then rack area plain pieces shards as_many in_state says holds live body.group refl low_marks newest value told_is range have newest_in p.older p.are;
      dropped = dropped_all_then rack area plain pieces shards as_many in_state says holds live body.group refl low_marks newest value told_is range have newest_in p.older p.are;
    };
    freed = none_freed rack area mid uber pieces shards stood;
  }
    where
      -- as it is found, before older blocks are dropped
      plain : State
      plain = opened_state rack area x pieces held rests findable uber body body_is shards many each seq counted

      finds_plain : Finds x body.group plain
      finds_plain = finds_opened rack area x pieces held rests findable uber body body_is shards many each seq counted

      as_many : length shards ≡ length plain.metaslabs
      as_many = many ∙ sym (all_opened rack area x pieces held rests findable uber body body_is shards many each).1

      in_state : (m : ℕ) (shard : Shard R A) (y : Metaslab) → slice_get shards m ≡ Some shard → slice_get plain.metaslabs m ≡ Some y → IsIn shard y.world
      in_state m shard y at there = (opened_is_in rack area x pieces held rests findable uber body body_is shards many each seq counted m shard y at there).stands.is_in

      last_is : IsLastSeq plain seq
      last_is = last_in rack area shards plain as_many in_state seq last

      says : SaysObjects plain
      says = opened_says rack area x pieces held rests findable uber body body_is shards many each seq counted

      holds : HoldsObjects plain.geometry plain.committed plain.store (blocks_of plain.metaslabs) pieces
      holds = opened_holds rack area x pieces held rests findable uber body body_is shards many each seq counted last_is

      live : (m : ℕ) (k : Key) (h : Block) → blocks_of plain.metaslabs m k ≡ Some h → h.stage ≡ Live
      live = found_live x plain body.group pieces finds_plain refl rests.layout rests.many (all_reached x pieces held rests) rests.leaves findable rests.objects

      low_marks : AreMarkedUpto body.group plain.store.marks
      low_marks = upto_low body.group x.store.marks

      told_is : value ≡ point_told plain.store.marks
      told_is = value_is ∙ sym (point_upto body.group x.store.marks)

      none : value.group ≡ 0 → p.older ≡ []
      none is_zero = elim p.are [
        | inl z ↦ z.1
        | inr z ↦ (let some = z.0 in absurd (omega (arith, some, is_zero)))
      ]

      marks : List Mark
      marks = dropped_marks (body.group + 1) p.older (marks_upto body.group x.store.marks)

      mid : State
      mid = marked_state rack area x pieces held rests findable uber body body_is shards many each seq counted marks

      finds : Finds x body.group mid
      finds = finds_marked rack area x pieces held rests findable uber body body_is shards many each seq counted marks (dropped_marks (body.group + 1) p.older []) (dropped_behind (body.group + 1) p.older [] (marks_upto body.group x.store.marks))
          (drops_are rack area plain pieces shards as_many in_state says holds live body.group refl low_marks newest value told_is range have newest_in p.older p.are mid refl refl)

      holds_mid : HoldsObjects mid.geometry mid.committed mid.store (blocks_of mid.metaslabs) pieces
      holds_mid = holds_then rack area plain pieces shards as_many in_state says holds live body.group refl low_marks newest value told_is range have newest_in p.older p.are

      stood : StandsFound rack area shards uber pieces mid
      stood = opened_stands rack area x pieces held rests findable uber body body_is shards many each seq counted marks finds alike holds_mid
          (old_dropped (body.group + 1) body.group p.older (marks_upto body.group x.store.marks) (old_upto body.group x.store.marks))
          (all_next body.group x.store.marks value p.told (point_of uber) p.older value_is p.keeps none p.group_is p.drops)
          low valid kept version next stands
          (told_before body.group (body.group + 1) p.older (marks_upto body.group x.store.marks) (omega arith) ∙ told_upto body.group x.store.marks body.group (omega arith))
          (point_then body.group x.store.marks value p.told (point_of uber) p.older value_is p.keeps none p.group_is p.drops)
          (λ g up. subst (λ n. HasLateMark g marks ↔ (g < n)) (sym p.changed) (late_then body.group x.store.marks p.older g up)) layout

  -- a live block was freed that doesn't stay
  pub found_frees : (shards : List (Shard R A)) (f : IsFoundOf rack area x uber pieces newest seq shards) (m : ℕ) (shard shard' : Shard R A) (p : Pointer) (floor group : ℕ) → slice_get shards m ≡ Some shard
      → IsLive shard p → p.metaslab ≡ m → (Stays newest (point_of uber).group p → ⊥) → floor ≡ f.group + 1
      → ((part : Part) (pieces : Pieces) (y : Metaslab) → IsMetaslab rack area part pieces shard y → Goes rack area part pieces y shard' (FreesIn part.number p floor group y))
      → IsFoundOf rack area x uber pieces newest seq (slice_set shards m shard')
  found_frees shards f m shard shard' p floor group at live here gone floor_is frees = record {
    group = f.group;
    mid = f.mid;
    finds = f.finds;
    last = f.last;
    seq_is = f.seq_is;
    knows = f.knows;
    freed = older_step rack area f.mid uber pieces f.knows.says shards f.freed m shard shard' at p
        (older_by rack area f.mid uber pieces f.knows.says f.knows.holds f.knows.live newest f.knows.newest_is (point_of uber).group f.knows.point f.knows.kept f.knows.dropped shards f.freed m shard p at live here gone)
        (counts_by rack area f.mid uber pieces f.knows.says f.knows.holds f.knows.live newest f.knows.newest_is (point_of uber).group f.knows.point f.knows.kept f.knows.dropped shards f.freed m shard p at live gone)
        (loose_by rack area f.mid uber pieces f.knows.says f.knows.holds f.knows.live newest f.knows.newest_is (point_of uber).group f.knows.point f.knows.kept f.knows.dropped shards f.freed p gone) floor group
        (floor_is ∙ ap (λ g. g + 1) (sym f.finds.committed)) frees;
  }

  -- each live block that is left is the newest of its object, or the checkpoint keeps it: the pool is imported
  pub found_imports : (shards : List (Shard R A)) (f : IsFoundOf rack area x uber pieces newest seq shards) (pool : Pool R A) → AreLeft shards newest (point_of uber).group → pool.metaslabs.shards.items ≡ shards → pool.uber ≡ uber
      → pool.geometry ≡ layout_of uber → pool.own.seq ≡ seq → pool.own.floor ≡ f.group + 1 → ((object : ℕ) → get nat_eq pool.own.objects object ≡ newest object) → ImportsPool rack area x pool
  found_imports shards f pool only items uber_is layout seq_is floor table =
      imports_pool rack area f.mid uber pieces f.knows.says f.knows.holds f.knows.live newest f.knows.newest_is (point_of uber).group f.knows.point f.knows.kept f.knows.dropped shards f.freed only x f.group pool f.finds f.last items uber_is layout
      (seq_is ∙ sym f.seq_is) (floor ∙ sym f.finds.floor) table
