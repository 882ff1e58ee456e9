use Rattle.std.proofs.Common.{arith, Option, ◌≡◌, ◌+◌, ◌≤◌, ℕ, ◌∷◌, ◌∙◌, [], ap, length, length-append, refl, subst, sym, Err}
use Rattle.draid_spec.specs.Geometry.{IsGeometry}
use Rattle.draid_spec.specs.declared.layout.Geometry.{Geometry}
use Rattle.draid_map.specs.Place.{IsLayout}
use Rattle.draid_shard.specs.declared.shard.Shard.{Shard}
use Rattle.draid_uber.specs.Slots.{group_of}
use Rattle.draid_uber.specs.Uber.{kept_of, layout_of, next_leaf_of}
use Rattle.draid_session.specs.State.{limit_of}
use Rattle.draid_import.specs.Found.{IsReopened, OpensOver}
use Rattle.draid_pool.specs.Taking.{TakesFirst}
use Rattle.draid_import.proofs.Found.{each_none, each_pushed, over_first, records_rose_back, refused_too}
use Rattle.draid_shelf.specs.Kits.{Held}
use Rattle.draid_import.proofs.ImportUnread.{no_record_too}
use Rattle.draid_pool.proofs.Takings.{none_taken, takes_more}
use Rattle.draid_import.proofs.ImportFaulty.{err_is, unread_first}
use Rattle.draid_import.proofs.ImportLeft.{leaves_none, leaves_shards}
use Rattle.draid_pool.proofs.Refusing.{no_refusal}
use Rattle.draid_import.proofs.Unfound.{no_record, no_shelf}
use Rattle.draid_import.proofs.importing.reopen_shards.Goals as goal

pub loop-number-init : goal.loop-number-init
loop-number-init g c =
    let same = ap (λ (x : Geometry). x.props.metaslabs) c.geometry-layout.ensures in
    let room = c.in-Ok.ensures.capacity in
    record {
      many = ap (λ xs. length xs) c.in-Ok.ensures.items;
      each = each_none (λ m (s : Shard g.row.H-R.Denot g.row.H-A.Denot). IsReopened g.H.R.Rack (record { geometry = layout_of c.args.uber.now; perms = c.new-perms.result; number = m }) (group_of (kept_of c.args.uber.now)) s)
          c.in-Ok.shards.items c.in-Ok.ensures.items;
      room = omega (arith, same, room);
      over = each_none (λ m (s : Shard g.row.H-R.Denot g.row.H-A.Denot). OpensOver g.H.R.Rack g.H.A.Area (limit_of (layout_of c.args.uber.now)) (group_of (kept_of c.args.uber.now)) (next_leaf_of c.args.uber.now) m (g.H.Shelf.told c.args.shelf.now) (g.H.Shelf.leaves c.args.shelf.now m) (g.H.Shelf.counts c.args.shelf.now m) s)
          c.in-Ok.shards.items c.in-Ok.ensures.items;
      told = none_taken (g.H.Shelf.told c.args.shelf.now);
      counts = λ m past. refl;
      leaves = λ m past. refl;
      later = omega arith;
      bound = omega arith;
    }

pub reopen_shard-requires-clause-layout : goal.reopen_shard-requires-clause-layout
reopen_shard-requires-clause-layout g c κs within =
    subst (λ (x : Geometry). IsLayout x c.new-perms.result) c.geometry-layout.ensures
    (record { geometry_is = subst IsGeometry (sym c.geometry-layout.ensures) c.requires.uber.valid.held.layout_is; perms_are = c.new-perms.ensures })

pub push_reserved-requires : goal.push_reserved-requires
push_reserved-requires g c =
    let same = ap (λ (x : Geometry). x.props.metaslabs) c.geometry-layout.ensures in
    let i = c.loop-number.invariant in
    let room = i.room in
    let many = i.many in
    let below = c.loop-number-test.true in
    let len = c.loop-number.shards.ok.0 in
    omega (arith, same, room, many, below, len)

pub give_back-requires-clause-few : goal.give_back-requires-clause-few
give_back-requires-clause-few g c κs within =
    let i = c.loop-number.invariant in
    let bound = i.bound in
    let many = i.many in
    let most = c.requires.uber.valid.held.layout_is.props.most_metaslabs in
    omega (arith, bound, many, most)

pub loop-number-preserved : goal.loop-number-preserved
loop-number-preserved g c =
    let same = ap (λ (x : Geometry). x.props.metaslabs) c.geometry-layout.ensures in
    let i = c.loop-number.invariant in
    let room = i.room in
    let many = i.many in
    let below = c.loop-number-test.true in
    let capacity = c.push_reserved.ensures.capacity in
    let more = c.push_reserved.ensures.items in
    let later = i.later in
    let again = c.reopen_shard.ensures.later in
    let shelf = g.H.Shelf in
    record {
      many = (let long = length-append c.loop-number.shards.items (c.in-Ok-reopen_shard.shard ∷ []) in let all = ap (λ xs. length xs) more in omega (arith, all, long, many));
      each = each_pushed (λ m (s : Shard g.row.H-R.Denot g.row.H-A.Denot). IsReopened g.H.R.Rack (record { geometry = layout_of c.args.uber.now; perms = c.new-perms.result; number = m }) (group_of (kept_of c.args.uber.now)) s)
          c.loop-number.shards.items c.push_reserved.new.self.items c.in-Ok-reopen_shard.shard c.loop-number.number more i.many i.each c.in-Ok-reopen_shard.ensures.reopened;
      room = omega (arith, room, capacity);
      over = each_pushed (λ m (s : Shard g.row.H-R.Denot g.row.H-A.Denot). OpensOver g.H.R.Rack g.H.A.Area (limit_of (layout_of c.args.uber.now)) (group_of (kept_of c.args.uber.now)) (next_leaf_of c.args.uber.now) m (g.H.Shelf.told c.args.shelf.now) (g.H.Shelf.leaves c.args.shelf.now m) (g.H.Shelf.counts c.args.shelf.now m) s)
          c.loop-number.shards.items c.push_reserved.new.self.items c.in-Ok-reopen_shard.shard c.loop-number.number more i.many i.over
          (over_first g.H.R.Rack g.H.A.Area (limit_of (layout_of c.args.uber.now)) (group_of (kept_of c.args.uber.now)) (next_leaf_of c.args.uber.now) c.loop-number.number (shelf.told c.args.shelf.now) (shelf.told c.loop-number.shelf)
          (shelf.leaves c.args.shelf.now c.loop-number.number) (shelf.leaves c.loop-number.shelf c.loop-number.number) (shelf.counts c.args.shelf.now c.loop-number.number) (shelf.counts c.loop-number.shelf c.loop-number.number) c.in-Ok-reopen_shard.shard i.told
          (i.leaves c.loop-number.number (omega arith)) (i.counts c.loop-number.number (omega arith)) c.in-Ok-reopen_shard.ensures.over);
      told = subst (TakesFirst (c.loop-number.number + 1) (shelf.told c.args.shelf.now)) (sym c.in-Ok-reopen_shard.ensures.told)
          (takes_more c.loop-number.number (shelf.told c.args.shelf.now) (shelf.told c.loop-number.shelf) i.told);
      counts = λ m past. c.reopen_shard.ensures.counts m (λ at. omega (arith, at, past)) ∙ i.counts m (omega (arith, past));
      leaves = λ m past. c.reopen_shard.ensures.leaves m (λ at. omega (arith, at, past)) ∙ i.leaves m (omega (arith, past));
      later = omega (arith, later, again);
      bound = omega (arith, same, below);
    }

pub returns : goal.returns
returns g c =
    let end = c.loop-number-test.false in
    record {
      opens = λ x pieces held counts count there r taken metaslab place kind err. no_refusal err;
      reopened = (let same = ap (λ (x : Geometry). x.props.metaslabs) c.geometry-layout.ensures in
          let i = c.loop-number.invariant in
          let many = i.many in
          let bound = i.bound in
          record {
            perms = c.new-perms.result;
            layout = subst (λ (x : Geometry). IsLayout x c.new-perms.result) c.geometry-layout.ensures
                (record { geometry_is = subst IsGeometry (sym c.geometry-layout.ensures) c.requires.uber.valid.held.layout_is; perms_are = c.new-perms.ensures });
            many = omega (arith, same, many, bound, end);
            each = i.each;
          });
      over = c.loop-number.invariant.over;
      told = (let shelf = g.H.Shelf in
          let same = ap (λ (x : Geometry). x.props.metaslabs) c.geometry-layout.ensures in
          let bound = c.loop-number.invariant.bound in
          let last : c.loop-number.number ≡ (layout_of c.args.uber.now).props.metaslabs = omega (arith, same, bound, end) in
          subst (λ (n : ℕ). TakesFirst n (shelf.told c.args.shelf.now) (shelf.told c.loop-number.shelf)) last c.loop-number.invariant.told);
      left = λ m past. (let same = ap (λ (x : Geometry). x.props.metaslabs) c.geometry-layout.ensures in
          let i = c.loop-number.invariant in
          let bound = i.bound in
          let behind : c.loop-number.number ≤ m = omega (arith, same, bound, past) in (i.counts m behind, i.leaves m behind));
      back = tt;
      faulty = λ metaslab place kind err. absurd (no_refusal err);
      fault = tt;
      later = c.loop-number.invariant.later;
      cause = λ failed. absurd (no_refusal failed);
    }

pub returns-in-Err : goal.returns-in-Err
returns-in-Err g c =
    let shelf = g.H.Shelf in
    let i = c.loop-number.invariant in
    let test = c.loop-number-test.true in
    record {
      opens = λ x pieces held counts count there r taken. no_record_too c.in-Err.fault (c.in-Err.ensures.opens x pieces held (shelf.leaves c.args.shelf.now) counts count there r
          (subst (λ (t : Option Held). TakesFirst c.loop-number.number t (shelf.told c.loop-number.shelf)) taken i.told) (i.leaves c.loop-number.number (omega arith)));
      reopened = tt;
      over = tt;
      told = tt;
      left = tt;
      back = (let same = ap (λ (x : Geometry). x.props.metaslabs) c.geometry-layout.ensures in
          leaves_shards g.H.R.Rack g.H.A.Area (layout_of c.args.uber.now) (group_of (kept_of c.args.uber.now)) (next_leaf_of c.args.uber.now) c.loop-number.number c.new-perms.result c.loop-number.shards.items
          (shelf.told c.args.shelf.now) (shelf.told c.loop-number.shelf) (shelf.told c.reopen_shard.new.shelf) (shelf.told c.give_back.new.shelf) (shelf.counts c.args.shelf.now) (shelf.counts c.loop-number.shelf)
          (shelf.counts c.reopen_shard.new.shelf) (shelf.counts c.give_back.new.shelf) (shelf.leaves c.args.shelf.now) (shelf.leaves c.loop-number.shelf) (shelf.leaves c.reopen_shard.new.shelf) (shelf.leaves c.give_back.new.shelf)
          (subst (λ (x : Geometry). IsLayout x c.new-perms.result) c.geometry-layout.ensures
          (record { geometry_is = subst IsGeometry (sym c.geometry-layout.ensures) c.requires.uber.valid.held.layout_is; perms_are = c.new-perms.ensures }))
          i.many (omega (arith, same, test)) i.each i.over i.told c.in-Err.ensures.back c.in-Err.ensures.tells c.give_back.ensures.returns c.give_back.ensures.leaves i.counts c.in-Err.ensures.back_counts c.in-Err.ensures.counts
          i.leaves c.in-Err.ensures.known c.in-Err.ensures.leaves);
      faulty = λ metaslab place kind err. (let n = c.loop-number.number in
          let same = ap (λ (x : Geometry). x.props.metaslabs) c.geometry-layout.ensures in
          record {
            m = n;
            inside = omega (arith, same, test);
            unread = unread_first g.H.R.Rack g.H.A.Area (layout_of c.args.uber.now) (group_of (kept_of c.args.uber.now)) (next_leaf_of c.args.uber.now) n (shelf.told c.args.shelf.now) (shelf.told c.loop-number.shelf)
                (shelf.leaves c.args.shelf.now n) (shelf.leaves c.loop-number.shelf n) (shelf.counts c.args.shelf.now n) (shelf.counts c.loop-number.shelf n) metaslab place kind i.told (i.leaves n (omega arith)) (i.counts n (omega arith))
                (c.in-Err.ensures.faulty metaslab place kind (ap Err (err_is c.in-Err.fault _ err)));
            perms = c.new-perms.result;
            layout = subst (λ (x : Geometry). IsLayout x c.new-perms.result) c.geometry-layout.ensures
                (record { geometry_is = subst IsGeometry (sym c.geometry-layout.ensures) c.requires.uber.valid.held.layout_is; perms_are = c.new-perms.ensures });
            below = c.loop-number.shards.items;
            many = i.many;
            each = i.each;
            over = i.over;
          });
      fault = c.in-Err.ensures.fault;
      later = (let first = c.loop-number.invariant.later in let more = c.reopen_shard.ensures.later in let same = c.give_back.ensures.faults in omega (arith, first, more, same));
      cause = λ failed. (let same = ap (λ (x : Geometry). x.props.metaslabs) c.geometry-layout.ensures in
          records_rose_back g.H.R.Rack g.H.A.Area c.loop-number.shards.items c.loop-number.number (layout_of c.args.uber.now).props.metaslabs (shelf.faults c.args.shelf.now) (shelf.faults c.loop-number.shelf) (shelf.faults c.reopen_shard.new.shelf) (shelf.faults c.give_back.new.shelf)
          (shelf.told c.reopen_shard.new.shelf) (shelf.told c.give_back.new.shelf) (shelf.counts c.args.shelf.now) (shelf.counts c.loop-number.shelf) (shelf.counts c.reopen_shard.new.shelf) (shelf.counts c.give_back.new.shelf)
          i.many (omega (arith, same, test)) i.later c.give_back.ensures.faults i.counts c.give_back.ensures.returns (c.in-Err.ensures.cause (refused_too c.in-Err.fault failed)));
    }

pub returns-in_default : goal.returns-in_default
returns-in_default g c =
    record {
      opens = λ x pieces held counts count there r taken metaslab place kind err. no_record metaslab place kind err;
      reopened = tt;
      over = tt;
      told = tt;
      left = tt;
      back = (let shelf = g.H.Shelf in
          leaves_none g.H.R.Rack g.H.A.Area (layout_of c.args.uber.now) (group_of (kept_of c.args.uber.now)) (next_leaf_of c.args.uber.now) c.new-perms.result (shelf.told c.args.shelf.now) (shelf.counts c.args.shelf.now)
          (shelf.leaves c.args.shelf.now) (subst (λ (x : Geometry). IsLayout x c.new-perms.result) c.geometry-layout.ensures
          (record { geometry_is = subst IsGeometry (sym c.geometry-layout.ensures) c.requires.uber.valid.held.layout_is; perms_are = c.new-perms.ensures })));
      faulty = λ metaslab place kind err. absurd (no_record metaslab place kind err);
      fault = tt;
      later = omega arith;
      cause = λ failed. absurd (no_shelf failed);
    }

pub reopen_shard-requires-clause-uber : goal.reopen_shard-requires-clause-uber
reopen_shard-requires-clause-uber g c κs within = c.requires.uber

pub reopen_shard-requires-clause-number : goal.reopen_shard-requires-clause-number
reopen_shard-requires-clause-number g c κs within = (let below = c.loop-number-test.true in let same = ap (λ (x : Geometry). x.props.metaslabs) c.geometry-layout.ensures in omega (arith, below, same))

pub new-perms-requires : goal.new-perms-requires
new-perms-requires g c =
    let same = ap (λ (x : Geometry). x.spec.children) c.geometry-layout.ensures in
    record {
      least = (let least = c.requires.uber.valid.held.layout_is.spec.some_children in
          omega (arith, same, least));
      most = (let most = c.requires.uber.valid.held.layout_is.spec.most_children in
          omega (arith, same, most));
    }
