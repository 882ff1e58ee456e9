use Rattle.std.proofs.Common.{◌≡◌, ◌==◌, ◌<◌, ◌≤◌, ◌+◌, ◌∙◌, [], ◌∷◌, ℕ, Bool, List, Option, Some, arith, ap, refl, subst, sym, length}
use Rattle.std.specs.Prelude.{Contains, slice_get, vec_len}
use Rattle.draid_names.specs.declared.journal.Entry.{Entry}
use Rattle.draid_rack.specs.declared.Rack as racks
use Rattle.draid_area.specs.declared.Area as areas
use Rattle.draid_machine.proofs.Small.{absurd_test, equal, is_equal, some_same}
use Rattle.draid_shard.specs.declared.shard.Shard.{Shard}
use Rattle.draid_agent.specs.declared.states.Due.{Due}
use Rattle.draid_agent.specs.Policy.{PolicyReturns}
use Rattle.draid_pool.specs.Whole.{IsWhole}
use Rattle.draid_pool.specs.declared.pool.Pool.{Pool}
use Rattle.draid_changes.specs.Agent.{AddsEntries, most_slots}
use Rattle.draid_changes.specs.Dues.{AreFree, IsIdleIn, due_in}
use Rattle.draid_changes.specs.Giving.{GaveSome, HaveRoom, SlotsAscend}
use Rattle.draid_changes.proofs.Begun.{first_borrowed}
use Rattle.draid_changes.proofs.Coming.{slots_layout}
use Rattle.draid_changes.proofs.DueGiven.{due_given, due_none, due_starved, due_stopped}
use Rattle.draid_changes.proofs.GivesSeen.{dues_ascend, dues_few, dues_inside, gives_long, gives_numbered}
use Rattle.draid_changes.proofs.agent.give_due.Goals as goal

nil_of : (ds : List Due) → length ds ≡ 0 → ds ≡ []
nil_of [] is = refl
nil_of (d ∷ ds) is = absurd (omega (arith, is))

-- the due slots have room, in each metaslab
rooms : {R A : Type 0} (rack : racks.Ghosts R) (area : areas.Ghosts A) (pool : Pool R A) → IsWhole rack area pool → (first : Shard R A) → slice_get pool.metaslabs.shards.items 0 ≡ Some first → (least : ℕ) (ds : List Due)
    → ds ≡ due_in first.slots pool.metaslabs.shards.items least → (m : ℕ) (shard : Shard R A) → slice_get pool.metaslabs.shards.items m ≡ Some shard → HaveRoom shard.slots ds
rooms rack area pool w first there least ds are m shard at d has =
    let z = dues_inside first.slots pool.metaslabs.shards.items least 0 first.slots.geometry.spec.children d (subst (λ list. Contains list d) are has) in
    let less = z.0 in
    let one = z.1 in
    let low : d.slot < first.slots.geometry.spec.children = omega (arith, less) in
    let same = ap (λ g. g.spec.children) (slots_layout rack area pool m shard w at ∙ sym (slots_layout rack area pool 0 first w there)) in
    let many = ((w.alike 0 m first shard there at).arms.slots d.slot low).many in
    (omega (arith, low, same), omega (arith, one, many))

at_most : {R A : Type 0} (rack : racks.Ghosts R) (area : areas.Ghosts A) (pool : Pool R A) → IsWhole rack area pool → (first : Shard R A) → slice_get pool.metaslabs.shards.items 0 ≡ Some first → (least : ℕ) (ds : List Due)
    → ds ≡ due_in first.slots pool.metaslabs.shards.items least → length ds ≤ most_slots
at_most rack area pool w first there least ds are =
    let most = dues_few first.slots pool.metaslabs.shards.items least 0 first.slots.geometry.spec.children in
    let long = ap length are in
    let is = w.shards 0 first there in
    let top = is.valid.part.layout.geometry_is.spec.most_children in
    let same = ap (λ g. g.spec.children) is.valid.slots.geometry_is in
    omega (arith, most, long, top, same)

few : {R A : Type 0} (rack : racks.Ghosts R) (area : areas.Ghosts A) (pool : Pool R A) → IsWhole rack area pool → (first : Shard R A) → slice_get pool.metaslabs.shards.items 0 ≡ Some first → (least : ℕ) (ds : List Due)
    → ds ≡ due_in first.slots pool.metaslabs.shards.items least → length ds < 4294967296
few rack area pool w first there least ds are = (let most = at_most rack area pool w first there least ds are in omega (arith, most))

-- entries came for the due slots
adds : {R A : Type 0} (rack : racks.Ghosts R) (area : areas.Ghosts A) (pool : Pool R A) → IsWhole rack area pool → (first : Shard R A) → slice_get pool.metaslabs.shards.items 0 ≡ Some first → (least : ℕ) (ds : List Due)
    → ds ≡ due_in first.slots pool.metaslabs.shards.items least → (chosen : ℕ → ℕ → List ℕ → Option ℕ → Type 0) (before after : List Entry) (came : Bool) (new : Pool R A)
    → GaveSome rack area chosen ds pool before came new after → AddsEntries before after
adds rack area pool w first there least ds are chosen before after came new gave =
    let gives = gave.gives 0 first there in
    let long = gives_long chosen (IsIdleIn first.slots) first.slots.geometry.spec.spares [] (length before + 1) ds gave.entries gives in
    let most = at_most rack area pool w first there least ds are in
    record {
      more = gave.entries;
      are = gave.are;
      numbered = gives_numbered chosen (IsIdleIn first.slots) first.slots.geometry.spec.spares [] (length before + 1) ds gave.entries gives;
      few = omega (arith, long, most);
    }

pub due_slots-requires-clause-alike : goal.due_slots-requires-clause-alike
due_slots-requires-clause-alike g c = λ m shard at.
    (c.requires.whole.alike 0 m c.index.result.now shard (first_borrowed g.R.Rack g.A.Area c.args.pool.now c.index.result.now c.requires.whole c.index.ensures)
    (subst (λ (zs : List (Shard g.row.R.Denot g.row.A.Denot)). slice_get zs m ≡ Some shard) c.deref.ensures.value at)).arms

pub returns-in_default-clause-carries : goal.returns-in_default-clause-carries
returns-in_default-clause-carries g c = due_starved g.R.Rack g.A.Area (PolicyReturns g.P.Fn c.args.policy.now) c.args.least c.args.journal.now.entries c.args.pool.now c.requires.whole c.requires.passes

pub returns-then-is_empty-clause-carries : goal.returns-then-is_empty-clause-carries
returns-then-is_empty-clause-carries g c = λ x r.
    due_none g.R.Rack g.A.Area (PolicyReturns g.P.Fn c.args.policy.now) c.args.least c.args.journal.now.entries c.args.pool.now c.requires.whole c.requires.passes x r c.index.result.now
    (first_borrowed g.R.Rack g.A.Area c.args.pool.now c.index.result.now c.requires.whole c.index.ensures) c.in-Ok.dues.items
    (c.in-Ok.ensures ∙ ap (λ (zs : List (Shard g.row.R.Denot g.row.A.Denot)). due_in c.index.result.now.slots zs c.args.least) c.deref.ensures.value)
    (nil_of c.in-Ok.dues.items (let vec = c.in-Ok.dues.ok.0 in let none = is_equal (vec_len c.in-Ok.dues) 0 (sym c.if-is_empty.ensures) in omega (arith, vec, none)))

pub returns-in_default-free_spares-clause-carries : goal.returns-in_default-free_spares-clause-carries
returns-in_default-free_spares-clause-carries g c = due_starved g.R.Rack g.A.Area (PolicyReturns g.P.Fn c.args.policy.now) c.args.least c.args.journal.now.entries c.args.pool.now c.requires.whole c.requires.passes

pub give_to-requires-clause-few : goal.give_to-requires-clause-few
give_to-requires-clause-few g c =
    few g.R.Rack g.A.Area c.args.pool.now c.requires.whole c.index.result.now (first_borrowed g.R.Rack g.A.Area c.args.pool.now c.index.result.now c.requires.whole c.index.ensures) c.args.least c.deref-2.result.now
    (c.deref-2.ensures.value ∙ (c.in-Ok.ensures ∙ ap (λ (zs : List (Shard g.row.R.Denot g.row.A.Denot)). due_in c.index.result.now.slots zs c.args.least) c.deref.ensures.value))

pub give_to-requires-clause-ascend : goal.give_to-requires-clause-ascend
give_to-requires-clause-ascend g c =
    subst (λ (ds : List Due). SlotsAscend 0 ds) (sym (c.deref-2.ensures.value ∙ c.in-Ok.ensures))
    (dues_ascend c.index.result.now.slots c.deref.result.now c.args.least 0 c.index.result.now.slots.geometry.spec.children)

pub give_to-requires-clause-slots : goal.give_to-requires-clause-slots
give_to-requires-clause-slots g c =
    rooms g.R.Rack g.A.Area c.args.pool.now c.requires.whole c.index.result.now (first_borrowed g.R.Rack g.A.Area c.args.pool.now c.index.result.now c.requires.whole c.index.ensures) c.args.least c.deref-2.result.now
    (c.deref-2.ensures.value ∙ (c.in-Ok.ensures ∙ ap (λ (zs : List (Shard g.row.R.Denot g.row.A.Denot)). due_in c.index.result.now.slots zs c.args.least) c.deref.ensures.value))

pub give_to-requires-clause-free : goal.give_to-requires-clause-free
give_to-requires-clause-free g c = λ first there.
    let own = first_borrowed g.R.Rack g.A.Area c.args.pool.now c.index-2.result.now c.requires.whole c.index-2.ensures in
    let same = some_same (slice_get c.args.pool.now.metaslabs.shards.items 0) c.index-2.result.now first own there in
    subst (λ (z : Shard g.row.R.Denot g.row.A.Denot). AreFree (IsIdleIn z.slots) [] z.slots.geometry.spec.spares c.in-Ok-free_spares.free.items) same c.in-Ok-free_spares.ensures

pub returns-in-Ok-give_to-clause-carries : goal.returns-in-Ok-give_to-clause-carries
returns-in-Ok-give_to-clause-carries g c = λ x r.
    due_given g.R.Rack g.A.Area (PolicyReturns g.P.Fn c.args.policy.now) c.args.least c.args.journal.now.entries c.args.pool.now c.requires.whole c.requires.passes x r c.index.result.now
    (first_borrowed g.R.Rack g.A.Area c.args.pool.now c.index.result.now c.requires.whole c.index.ensures) c.deref-2.result.now
    (c.deref-2.ensures.value ∙ (c.in-Ok.ensures ∙ ap (λ (zs : List (Shard g.row.R.Denot g.row.A.Denot)). due_in c.index.result.now.slots zs c.args.least) c.deref.ensures.value))
    c.give_to.new.pool c.give_to.new.journal.entries c.in-Ok-give_to.came
    (λ none. absurd_test (vec_len c.in-Ok.dues == 0) (equal (vec_len c.in-Ok.dues) 0 (sym c.deref-2.ensures.len ∙ ap length none)) (sym c.is_empty.ensures ∙ c.if-is_empty.false)) c.in-Ok-give_to.ensures.gave

pub returns-clause-carries : goal.returns-clause-carries
returns-clause-carries g c = λ x r.
    due_stopped g.R.Rack g.A.Area (PolicyReturns g.P.Fn c.args.policy.now) c.args.least c.args.journal.now.entries c.args.pool.now c.requires.whole c.requires.passes x r c.index.result.now
    (first_borrowed g.R.Rack g.A.Area c.args.pool.now c.index.result.now c.requires.whole c.index.ensures) c.deref-2.result.now
    (c.deref-2.ensures.value ∙ (c.in-Ok.ensures ∙ ap (λ (zs : List (Shard g.row.R.Denot g.row.A.Denot)). due_in c.index.result.now.slots zs c.args.least) c.deref.ensures.value))
    c.give_to.new.pool c.give_to.new.journal.entries c.in-Err.why c.in-Err.ensures.gave.0 (c.in-Err.ensures.gave.1 x r)

pub returns-in-Ok-give_to-clause-entries : goal.returns-in-Ok-give_to-clause-entries
returns-in-Ok-give_to-clause-entries g c =
    adds g.R.Rack g.A.Area c.args.pool.now c.requires.whole c.index.result.now (first_borrowed g.R.Rack g.A.Area c.args.pool.now c.index.result.now c.requires.whole c.index.ensures) c.args.least c.deref-2.result.now
    (c.deref-2.ensures.value ∙ (c.in-Ok.ensures ∙ ap (λ (zs : List (Shard g.row.R.Denot g.row.A.Denot)). due_in c.index.result.now.slots zs c.args.least) c.deref.ensures.value))
    (PolicyReturns g.P.Fn c.args.policy.now) c.args.journal.now.entries c.give_to.new.journal.entries c.in-Ok-give_to.came c.give_to.new.pool c.in-Ok-give_to.ensures.gave

pub returns-clause-entries : goal.returns-clause-entries
returns-clause-entries g c = c.in-Err.ensures.gave.0
