use Rattle.std.proofs.Common.{rules, ◌+◌, ◌∙◌, [], ◌∷◌, Option, ap, inl, inr, refl, subst, sym, arith}
use Rattle.std.specs.Prelude.{is_some}
use Rattle.draid_checkpoint.specs.Check.{Point}
use Rattle.draid_record.specs.declared.uber.UberBody.{UberBody}
use Rattle.draid_uber.specs.Checks.{told_by}
use Rattle.draid_uber.specs.Slots.{StandsTold, group_of}
use Rattle.draid_uber.specs.Uber.{area_of, next_of}
use Rattle.draid_create.proofs.Fresh.{away, first_body, first_layout, first_named, first_pending, first_whole, is_uber, made_again, opens, refused}
use Rattle.draid_create.proofs.Causes.{commit_failed, records_kept}
use Rattle.draid_create.proofs.Opened.{failed_too}
use Rattle.draid_pool.specs.Taking.{gives_areas}
use Rattle.draid_pool.proofs.Refusing.{no_refusal}
use Rattle.draid_create.proofs.opening.open_pool.Goals as goal

pub returns-in-Err : goal.returns-in-Err
returns-in-Err g c =
    let shelf = g.H.Shelf in
    record {
      whole = tt;
      opens = tt;
      away = tt;
      back = (let u = c.requires.uber in
          let e = c.give_areas.ensures in
          let area = g.H.A.Area in
          let is = c.into_areas.ensures in
          inl (made_again c.args.layout (told_by area.told c.args.uber.areas) (shelf.told c.args.shelf.now) (shelf.told c.open_shards.new.shelf) (shelf.told c.give_areas.new.shelf)
          (shelf.counts c.args.shelf.now) (shelf.counts c.open_shards.new.shelf) (shelf.counts c.give_areas.new.shelf) _ c.requires.held c.requires.counts c.in-Err.ensures.back u.new
          (e.told ∙ ap (λ a. gives_areas (told_by area.told a) (shelf.told c.open_shards.new.shelf)) is) e.counts (e.uber ∙ (ap (λ a. area.faults a.uber) is ∙ u.count))
          (e.checks ∙ (λ i. record { even = (ap (λ a. area.faults a.even) is ∙ u.even_count) i; odd = (ap (λ a. area.faults a.odd) is ∙ u.odd_count) i }))));
      later = (let first = c.open_shards.ensures.later in let same = c.give_areas.ensures.faults in omega (arith, first, same));
      cause = λ failed. records_kept c.args.layout (shelf.faults c.args.shelf.now) (shelf.faults c.open_shards.new.shelf) (shelf.faults c.give_areas.new.shelf) (shelf.counts c.open_shards.new.shelf) (shelf.counts c.give_areas.new.shelf)
          (record { uber = shelf.uber_count c.give_areas.new.shelf; checks = shelf.check_counts c.give_areas.new.shelf }) c.give_areas.ensures.faults c.give_areas.ensures.counts (c.in-Err.ensures.cause (failed_too c.in-Err.fault failed));
    }

pub returns-in-Ok-commit : goal.returns-in-Ok-commit
returns-in-Ok-commit g c =
    let shelf = g.H.Shelf in
    let u = c.requires.uber in
    let e = c.in-Ok-commit.ensures in
    record {
      whole = first_whole g.H.R.Rack g.H.A.Area c.args.layout c.requires.layout (shelf.told c.args.shelf.now) (shelf.counts c.args.shelf.now) c.in-Ok.shards.items c.in-Ok.ensures.opened
          _ refl refl refl (λ q. search rules) e.valid (first_layout g.H.R.Rack g.H.A.Area c.args.layout c.args.uber c.commit.new.self u.layout u.version u.next_leaf e.layout)
          (ap (λ (kept : Option UberBody). group_of kept) e.kept) (e.leaf ∙ u.next_leaf) (ap (λ (p : Point). p.group) e.point ∙ u.point) (ap (λ (p : Point). p.drops) e.point ∙ u.drops);
      opens = (let o = c.in-Ok.ensures.opened in
          let before = subst (λ kept. StandsTold kept [] (g.H.A.Area.told (area_of c.args.uber))) (sym u.kept) u.stands in
          opens g.H.R.Rack g.H.A.Area c.args.layout c.requires.layout (shelf.told c.args.shelf.now) (shelf.counts c.args.shelf.now) c.in-Ok.shards.items o
          (shelf.told c.open_shards.new.shelf) _ c.requires.held c.in-Ok.ensures.told c.requires.counts refl refl refl refl (λ q. search rules)
          (is_uber g.H.R.Rack g.H.A.Area c.args.layout c.args.uber c.commit.new.self u.layout u.version u.next_leaf o.perms c.in-Ok.shards.items (is_some (shelf.told c.args.shelf.now))
          e.valid e.kept e.layout e.version e.leaf u.point e.point (e.changed ∙ u.changed) (first_named g.H.A.Area c.args.layout c.args.uber c.commit.new.self e.others u.new (e.committed [] before))));
      away = away c.args.layout (g.H.Shelf.told c.args.shelf.now) (g.H.Shelf.told c.open_shards.new.shelf) c.requires.held c.in-Ok.ensures.told;
      back = tt;
      later = c.open_shards.ensures.later;
      cause = λ failed. absurd (no_refusal failed);
    }

pub returns-in-Err-commit : goal.returns-in-Err-commit
returns-in-Err-commit g c =
    record {
      whole = tt;
      opens = tt;
      away = tt;
      back = (let shelf = g.H.Shelf in
          let u = c.requires.uber in
          let e = c.in-Err-commit.ensures in
          let again = c.give_areas-in-Err-commit.ensures in
          let area = g.H.A.Area in
          let is = c.into_areas-in-Err-commit.ensures in
          let new = c.commit.new.self in
          let before = subst (λ kept. StandsTold kept [] (area.told (area_of c.args.uber))) (sym u.kept) u.stands in
          inr (refused g.H.R.Rack area c.args.layout c.requires.layout (shelf.told c.args.shelf.now) (shelf.counts c.args.shelf.now) c.in-Ok.shards.items c.in-Ok.ensures.opened
          (shelf.told c.open_shards.new.shelf) (shelf.told c.give_back.new.shelf) (shelf.told c.give_areas-in-Err-commit.new.shelf) (shelf.counts c.open_shards.new.shelf) (shelf.counts c.give_back.new.shelf) (shelf.counts c.give_areas-in-Err-commit.new.shelf)
          c.give_back.ensures.returns (told_by area.told new.areas) (again.told ∙ ap (λ a. gives_areas (told_by area.told a) (shelf.told c.give_back.new.shelf)) is)
          c.in-Ok.ensures.told c.requires.held (next_of c.args.uber 1) _ (first_body g.H.R.Rack area c.args.layout c.args.uber new u.layout u.version u.next_leaf)
          (first_pending area c.args.layout c.args.uber new e.others u.new (subst (λ kept. StandsTold kept (next_of c.args.uber 1 ∷ []) (area.told (area_of new))) u.kept (e.refused [] before))) c.requires.counts again.counts
          (again.checks ∙ (λ i. record { even = (ap (λ a. area.faults a.even) is ∙ (ap (λ a. area.faults a.even) e.others ∙ u.even_count)) i; odd = (ap (λ a. area.faults a.odd) is ∙ (ap (λ a. area.faults a.odd) e.others ∙ u.odd_count)) i }))
          (shelf.leaves c.give_areas-in-Err-commit.new.shelf) (λ m shard there. again.leaves m ∙ c.give_back.ensures.leaves.own m shard there)));
      later = (let first = c.open_shards.ensures.later in let back = c.give_back.ensures.faults in let same = c.give_areas-in-Err-commit.ensures.faults in omega (arith, first, back, same));
      cause = λ failed. (let area = g.H.A.Area in
          let given = c.give_areas-in-Err-commit in
          inr (inr (commit_failed (area.faults (area_of c.args.uber)) (area.faults (area_of c.commit.new.self)) (g.H.Shelf.uber_count given.new.shelf) c.in-Err-commit.fault c.in-Err-commit.ensures.cause
          (given.ensures.uber ∙ ap (λ a. area.faults a.uber) c.into_areas-in-Err-commit.ensures) failed)));
    }

pub commit-requires : goal.commit-requires
commit-requires g c =
    record {
      next = record { behind = ap (λ (kept : Option UberBody). 1 + group_of kept) (sym c.requires.uber.kept); below = omega arith };
      valid = c.requires.uber.valid;
    }

pub open_shards-requires-clause-layout : goal.open_shards-requires-clause-layout
open_shards-requires-clause-layout g c κs within = c.requires.layout

pub open_shards-requires-clause-made : goal.open_shards-requires-clause-made
open_shards-requires-clause-made g c κs within = c.requires.leaves

pub give_back-requires-clause-few : goal.give_back-requires-clause-few
give_back-requires-clause-few g c κs within = (let many = c.in-Ok.ensures.opened.many in let most = c.requires.layout.props.most_metaslabs in omega (arith, many, most))
