use Rattle.std.proofs.Common.{arith, rules, ◌≡◌, ◌+◌, ◌∙◌, ◌++◌, List, [], ◌∷◌, Some, ap, refl, length, length-append}
use Rattle.draid_shelf.specs.Kits.{kit_of}
use Rattle.draid_shelf.specs.declared.kit.Kit.{Kit}
use Rattle.draid_pool.specs.Returning.{kit_in}
use Rattle.draid_pool.proofs.Returned.{giving_all, giving_more, giving_none, leaves_all, leaves_more, leaves_none}
use Rattle.draid_pool.proofs.returning.give_back.Goals as goal

longer : {A : Type 0} (left rest : List A) (last : A) → left ≡ rest ++ last ∷ [] → length left ≡ length rest + 1
longer left rest last is = ap (λ xs. length xs) is ∙ length-append rest (last ∷ [])

pub loop-shard-init : goal.loop-shard-init
loop-shard-init g c = record {
  giving = giving_none g.H.R.Rack g.H.A.Area c.args.shards.items (g.H.Shelf.told c.args.shelf.now) (g.H.Shelf.counts c.args.shelf.now);
  leaves = leaves_none g.H.R.Rack g.H.A.Area c.args.shards.items (g.H.Shelf.leaves c.args.shelf.now);
  few = c.requires.few;
  uber = refl;
  checks = refl;
  faults = refl;
}

pub loop-shard-preserved : goal.loop-shard-preserved
loop-shard-preserved g c =
    let i = c.loop-shard.invariant in
    let e = c.give.ensures in
    let shelf = g.H.Shelf in
    let shard = c.in-Some.shard in
    let kit = c.into_kit.result in
    let popped : c.loop-shard.left.items ≡ c.pop.new.self.items ++ shard ∷ [] = c.in-Some.ensures.items in
    let at : c.len.result ≡ length c.pop.new.self.items = c.len.ensures ∙ c.pop.new.self.ok.0 in
    let few = i.few in
    let rack : kit.rack ≡ shard.rack = ap (λ (k : Kit g.row.H-R.Denot g.row.H-A.Denot). k.rack) c.into_kit.ensures in
    let even : kit.even ≡ shard.even = ap (λ (k : Kit g.row.H-R.Denot g.row.H-A.Denot). k.even) c.into_kit.ensures in
    let odd : kit.odd ≡ shard.odd = ap (λ (k : Kit g.row.H-R.Denot g.row.H-A.Denot). k.odd) c.into_kit.ensures in
    let own : kit_of (g.H.R.Rack.told kit.rack) (g.H.A.Area.told kit.even) (g.H.A.Area.told kit.odd) ≡ kit_in g.H.R.Rack g.H.A.Area shard =
    ap (λ (k : Kit g.row.H-R.Denot g.row.H-A.Denot). kit_of (g.H.R.Rack.told k.rack) (g.H.A.Area.told k.even) (g.H.A.Area.told k.odd)) c.into_kit.ensures in
    record {
      giving = giving_more g.H.R.Rack g.H.A.Area c.args.shards.items c.loop-shard.left.items c.pop.new.self.items shard c.len.result (kit_of (g.H.R.Rack.told kit.rack) (g.H.A.Area.told kit.even) (g.H.A.Area.told kit.odd))
          (shelf.told c.args.shelf.now) (shelf.told c.loop-shard.shelf) (shelf.told c.give.new.self) (shelf.counts c.args.shelf.now) (shelf.counts c.loop-shard.shelf) (shelf.counts c.give.new.self)
          i.giving popped at own e.told (λ who. e.rack_count who ∙ ap (λ r. g.H.R.Rack.faults r who) rack) (e.even_count ∙ ap g.H.A.Area.faults even) (e.odd_count ∙ ap g.H.A.Area.faults odd) e.counts;
      leaves = leaves_more g.H.R.Rack g.H.A.Area c.args.shards.items c.loop-shard.left.items c.pop.new.self.items shard c.len.result (shelf.told c.args.shelf.now) (shelf.told c.loop-shard.shelf)
          (shelf.counts c.args.shelf.now) (shelf.counts c.loop-shard.shelf) (shelf.leaves c.args.shelf.now) (shelf.leaves c.loop-shard.shelf) (shelf.leaves c.give.new.self)
          i.giving i.leaves popped at (e.leaves ∙ ap (λ r. Some (g.H.R.Rack.shape r)) rack) e.others;
      few = (let long = longer c.loop-shard.left.items c.pop.new.self.items shard popped in omega (arith, few, long));
      uber = e.uber_count ∙ i.uber;
      checks = e.check_counts ∙ i.checks;
      faults = e.faults ∙ i.faults;
    }

pub returns : goal.returns
returns g c =
    record {
      returns = (let none : c.loop-shard.left.items ≡ [] = search rules in
          giving_all g.H.R.Rack g.H.A.Area c.args.shards.items c.loop-shard.left.items (g.H.Shelf.told c.args.shelf.now) (g.H.Shelf.told c.loop-shard.shelf) (g.H.Shelf.counts c.args.shelf.now)
          (g.H.Shelf.counts c.loop-shard.shelf) c.loop-shard.invariant.giving none);
      leaves = (let none : c.loop-shard.left.items ≡ [] = search rules in
          leaves_all g.H.R.Rack g.H.A.Area c.args.shards.items c.loop-shard.left.items (g.H.Shelf.leaves c.args.shelf.now) (g.H.Shelf.leaves c.loop-shard.shelf) c.loop-shard.invariant.leaves none);
      uber = c.loop-shard.invariant.uber;
      checks = c.loop-shard.invariant.checks;
      faults = c.loop-shard.invariant.faults;
    }

pub give-requires : goal.give-requires
give-requires g c =
    let at : c.len.result ≡ length c.pop.new.self.items = c.len.ensures ∙ c.pop.new.self.ok.0 in
    let few = c.loop-shard.invariant.few in
    let long = longer c.loop-shard.left.items c.pop.new.self.items c.in-Some.shard c.in-Some.ensures.items in
    omega (arith, at, few, long)

pub loop-shard-smaller : goal.loop-shard-smaller
loop-shard-smaller g c =
    let long = longer c.loop-shard.left.items c.pop.new.self.items c.in-Some.shard c.in-Some.ensures.items in
    omega (arith, long)

pub overflow_cast-len : goal.overflow_cast-len
overflow_cast-len g c =
    let at : c.len.result ≡ length c.pop.new.self.items = c.len.ensures ∙ c.pop.new.self.ok.0 in
    let few = c.loop-shard.invariant.few in
    let long = longer c.loop-shard.left.items c.pop.new.self.items c.in-Some.shard c.in-Some.ensures.items in
    omega (arith, at, few, long)
