use Rattle.std.proofs.Common.{◌≡◌, ◌∙◌, ◌+◌, [], List, Some, true, false, refl, sym, ap, subst, take, drop, slice_index_or, arith}
use Rattle.std.specs.List.{list_any}
use Rattle.std.proofs.lemmas.List.{drop_more, length-take-le, take_more}
use Rattle.draid_names.specs.declared.pointer.Pointer.{Pointer}
use Rattle.draid_entries.specs.Listed.{has_key}
use Rattle.draid_entries.specs.Live.{HasLive, twice_in}
use Rattle.draid_entries.specs.Maps.{key_of}
use Rattle.draid_entries.proofs.Made.{any_held, live_more, live_none, no_block, none_before, none_held, twice_here, twice_later}
use Rattle.draid_entries.proofs.entries.Entries.of.Goals as goal

abbrev none : Pointer
none = record { object = 0; seq = 0; metaslab = 0; first = 0; stripes = 0; len = 0; birth = 0; digest = [] }

pub loop-place-init : goal.loop-place-init
loop-place-init c = record { live = live_none c.new-table.result c.new-table.ensures.none c.new-table.ensures.held c.new-table.ensures.count; twice = refl }

pub returns-then-has-clause-refused : goal.returns-then-has-clause-refused
returns-then-has-clause-refused c =
    let k = c.loop-place.place in
    let blocks : List Pointer = c.args.blocks.now in
    let front : List Pointer = take k blocks in
    let b : Pointer = slice_index_or blocks k none in
    let less = c.loop-place-test.true in
    let any : list_any (has_key (key_of b)) front ≡ true = any_held c.loop-place.table front (key_of b) c.loop-place.invariant.live (sym c.has.ensures ∙ c.if-has.true) in
    c.loop-place.invariant.twice ∙ ap (twice_in front) (drop_more blocks k none less) ∙ twice_here front b (drop (k + 1) blocks) any ∙ ap Some (length-take-le k blocks (omega (arith, less)))

pub enter-requires-clause-free : goal.enter-requires-clause-free
enter-requires-clause-free c =
    no_block c.loop-place.table (take c.loop-place.place c.args.blocks.now) (slice_index_or c.args.blocks.now c.loop-place.place none) c.loop-place.invariant.live (none_before 0 c.args.blocks.now c.loop-place.place none c.requires.ascending c.loop-place-test.true)

pub loop-place-preserved : goal.loop-place-preserved
loop-place-preserved c =
    let k = c.loop-place.place in
    let blocks : List Pointer = c.args.blocks.now in
    let front : List Pointer = take k blocks in
    let b : Pointer = slice_index_or blocks k none in
    let less = c.loop-place-test.true in
    let before = c.loop-place.invariant in
    let unused = none_held c.loop-place.table (key_of b) (sym c.has.ensures ∙ c.if-has.false) in
    let free = no_block c.loop-place.table front b before.live (none_before 0 blocks k none c.requires.ascending less) in
    let other : list_any (has_key (key_of b)) front ≡ false = any_held c.loop-place.table front (key_of b) before.live (sym c.has.ensures ∙ c.if-has.false) in
    record {
      live = subst (HasLive c.enter.new.self) (sym (take_more blocks k none less)) (live_more c.loop-place.table c.enter.new.self front b before.live free unused c.in_ok-enter.ensures.entered c.in_ok-enter.ensures.count);
      twice = before.twice ∙ ap (twice_in front) (drop_more blocks k none less) ∙ twice_later front b (drop (k + 1) blocks) other ∙ ap (λ xs. twice_in xs (drop (k + 1) blocks)) (sym (take_more blocks k none less));
    }
