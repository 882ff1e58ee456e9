use Rattle.std.proofs.Common.{◌≡◌, ◌≤◌, ◌∙◌, ℕ, List, Option, Some, None, Ok, Err, arith, ap, nat_eq, refl, sym, subst, length}
use Rattle.std.specs.HashMap.{get}
use Rattle.std.specs.Fn.{FnReturnsAt}
use Rattle.draid_block.specs.Columns.{Cut, stripes_of}
use Rattle.draid_choose.specs.Rooms.{Picks}
use Rattle.draid_names.specs.declared.pointer.Pointer.{Pointer}
use Rattle.draid_names.specs.declared.refusal.WriteFault.TheVariants as fault
use Rattle.draid_names.specs.declared.room.Room.{Room}
use Rattle.draid_session.specs.Rooms.{longest, stripes_for}
use Rattle.draid_pool.specs.Drifts.{groups_number}
use Rattle.draid_pool.specs.Threads.{AllStay, IsWholeBy, Knows, LeadsBy}
use Rattle.draid_pool.proofs.HeldBy.{stay_then}
use Rattle.draid_store.specs.Answers.{WriteDoes}
use Rattle.draid_pool.specs.Looking.{LooksDo}
use Rattle.draid_store.specs.Storing.{ComesBack, StoreSetsTable, StoresNew, WriteSays}
use Rattle.draid_pool.proofs.Joining.{leads_as}
use Rattle.draid_pool.proofs.QuietWhole.{layout_stays}
use Rattle.draid_store.proofs.Storing.{new_on}
use Rattle.draid_store.proofs.WriteRounds.{again, by_answer, earlier_answer, last_says, new_answer, no_space_says, only_memory, served_answer, sets_answer, starved_says, takes_at}
use Rattle.draid_store.proofs.writing.write_encoded.Goals as goal

-- ---- there is no memory for the rooms

pub returns-in_default-clause-whole : goal.returns-in_default-clause-whole
returns-in_default-clause-whole g c = c.look_for_room.ensures.whole (λ o. get nat_eq c.args.own.now.objects o) c.args.own.now.seq c.args.own.now.floor c.requires.whole

pub returns-in_default-clause-step : goal.returns-in_default-clause-step
returns-in_default-clause-step g c x layout is_point knows =
    leads_as g.R.Rack g.A.Area g.M.Metaslabs.went g.M.Metaslabs.shared c.args.metaslabs.now c.look_for_room.new.metaslabs x (LooksDo x c.from-need.result c.args.geometry.now.props.metaslabs (Err c.in_default.field-0)) (WriteDoes x (FnReturnsAt g.F.Fn c.args.chooser.now) c.args.object c.args.block.now.bytes (Err fault.NoMemory)) (λ y. Knows g.R.Rack g.A.Area (g.M.Metaslabs.owns c.args.metaslabs.now) (g.M.Metaslabs.last c.look_for_room.new.metaslabs) (λ o. get nat_eq c.args.own.now.objects o) c.args.own.now.seq c.args.own.now.floor y) (λ holds store d. (d.1, d.0)) (c.in_default.ensures.step (λ o. get nat_eq c.args.own.now.objects o) c.args.own.now.seq c.args.own.now.floor x knows)

-- ---- no metaslab has room

pub returns-in_default-pick-clause-whole : goal.returns-in_default-pick-clause-whole
returns-in_default-pick-clause-whole g c = c.look_for_room.ensures.whole (λ o. get nat_eq c.args.own.now.objects o) c.args.own.now.seq c.args.own.now.floor c.requires.whole

pub returns-in_default-pick-clause-step : goal.returns-in_default-pick-clause-step
returns-in_default-pick-clause-step g c x layout is_point knows =
    let need_is : c.from-need.result ≡ stripes_for c.args.geometry.now c.args.block.now.bytes = c.from-need.ensures ∙ (c.stripes.ensures.stripes ∙ ap (λ (k : Cut). stripes_of k (length c.args.block.now.bytes)) c.requires.cut) in
    let some : 1 ≤ c.from-need.result = subst (λ n. 1 ≤ n) (sym c.from-need.ensures) c.stripes.ensures.some in
    let picks = subst (λ (rs : List Room). Picks rs None) c.deref.ensures.value c.in_default-pick.ensures.picks in
    rw c.no_space.ensures (leads_as g.R.Rack g.A.Area g.M.Metaslabs.went g.M.Metaslabs.shared c.args.metaslabs.now c.look_for_room.new.metaslabs x (LooksDo x c.from-need.result c.args.geometry.now.props.metaslabs (Ok c.in-Ok.seen))
    (WriteDoes x (FnReturnsAt g.F.Fn c.args.chooser.now) c.args.object c.args.block.now.bytes (Err (fault.NoSpace (longest c.in-Ok.seen.rooms.items) c.in-Ok.seen.disabled c.in-Ok.seen.full c.in-Ok.seen.worn))) (λ y. Knows g.R.Rack g.A.Area (g.M.Metaslabs.owns c.args.metaslabs.now) (g.M.Metaslabs.last c.look_for_room.new.metaslabs) (λ o. get nat_eq c.args.own.now.objects o) c.args.own.now.seq c.args.own.now.floor y)
    (no_space_says x c.args.geometry.now layout c.args.block.now.bytes c.from-need.result need_is c.in-Ok.seen (FnReturnsAt g.F.Fn c.args.chooser.now) c.args.object some picks) (c.in-Ok.ensures.step (λ o. get nat_eq c.args.own.now.objects o) c.args.own.now.seq c.args.own.now.floor x knows))

-- ---- there is no number for the write

pub returns-then-own-ge-LAST_NUMBER-clause-whole : goal.returns-then-own-ge-LAST_NUMBER-clause-whole
returns-then-own-ge-LAST_NUMBER-clause-whole g c = c.look_for_room.ensures.whole (λ o. get nat_eq c.args.own.now.objects o) c.args.own.now.seq c.args.own.now.floor c.requires.whole

pub returns-then-own-ge-LAST_NUMBER-clause-step : goal.returns-then-own-ge-LAST_NUMBER-clause-step
returns-then-own-ge-LAST_NUMBER-clause-step g c x layout is_point knows =
    let need_is : c.from-need.result ≡ stripes_for c.args.geometry.now c.args.block.now.bytes = c.from-need.ensures ∙ (c.stripes.ensures.stripes ∙ ap (λ (k : Cut). stripes_of k (length c.args.block.now.bytes)) c.requires.cut) in
    let named = subst (λ (rs : List Room). FnReturnsAt g.F.Fn c.args.chooser.now rs (Some c.in-Some.metaslab)) c.deref.ensures.value c.in-Some.ensures.answer in
    let own = knows.but_it.seq in
    let last = c.if-own-ge-LAST_NUMBER.true in
    leads_as g.R.Rack g.A.Area g.M.Metaslabs.went g.M.Metaslabs.shared c.args.metaslabs.now c.look_for_room.new.metaslabs x (LooksDo x c.from-need.result c.args.geometry.now.props.metaslabs (Ok c.in-Ok.seen)) (WriteDoes x (FnReturnsAt g.F.Fn c.args.chooser.now) c.args.object c.args.block.now.bytes (Err fault.Last)) (λ y. Knows g.R.Rack g.A.Area (g.M.Metaslabs.owns c.args.metaslabs.now) (g.M.Metaslabs.last c.look_for_room.new.metaslabs) (λ o. get nat_eq c.args.own.now.objects o) c.args.own.now.seq c.args.own.now.floor y)
    (last_says x c.args.geometry.now layout c.args.block.now.bytes c.from-need.result need_is c.in-Ok.seen (FnReturnsAt g.F.Fn c.args.chooser.now) c.args.object c.in-Some.metaslab named (omega (arith, own, last))) (c.in-Ok.ensures.step (λ o. get nat_eq c.args.own.now.objects o) c.args.own.now.seq c.args.own.now.floor x knows)

-- ---- there is no memory for a pointer

pub returns-then-is_err-clause-whole : goal.returns-then-is_err-clause-whole
returns-then-is_err-clause-whole g c =
    let te : ◌≡◌ {A = ℕ → Option Pointer} (λ o. get nat_eq c.reserve.new.self o) (λ o. get nat_eq c.args.own.now.objects o) = λ i. λ o. c.reserve.ensures.entries.2 o i in
    subst (λ (t : ℕ → Option Pointer). IsWholeBy g.R.Rack (g.M.Metaslabs.owns c.args.metaslabs.now) (g.M.Metaslabs.last c.look_for_room.new.metaslabs) t c.args.own.now.seq c.args.own.now.floor) (sym te) (c.look_for_room.ensures.whole (λ o. get nat_eq c.args.own.now.objects o) c.args.own.now.seq c.args.own.now.floor c.requires.whole)

pub returns-then-is_err-clause-step : goal.returns-then-is_err-clause-step
returns-then-is_err-clause-step g c x layout is_point knows =
    let need_is : c.from-need.result ≡ stripes_for c.args.geometry.now c.args.block.now.bytes = c.from-need.ensures ∙ (c.stripes.ensures.stripes ∙ ap (λ (k : Cut). stripes_of k (length c.args.block.now.bytes)) c.requires.cut) in
    let te : ◌≡◌ {A = ℕ → Option Pointer} (λ o. get nat_eq c.reserve.new.self o) (λ o. get nat_eq c.args.own.now.objects o) = λ i. λ o. c.reserve.ensures.entries.2 o i in
    subst (λ (t : ℕ → Option Pointer). LeadsBy g.R.Rack g.A.Area g.M.Metaslabs.went g.M.Metaslabs.shared c.args.metaslabs.now c.look_for_room.new.metaslabs x (WriteDoes x (FnReturnsAt g.F.Fn c.args.chooser.now) c.args.object c.args.block.now.bytes (Err fault.NoMemory)) (Knows g.R.Rack g.A.Area (g.M.Metaslabs.owns c.args.metaslabs.now) (g.M.Metaslabs.last c.look_for_room.new.metaslabs) t c.args.own.now.seq c.args.own.now.floor)) (sym te)
    (leads_as g.R.Rack g.A.Area g.M.Metaslabs.went g.M.Metaslabs.shared c.args.metaslabs.now c.look_for_room.new.metaslabs x (LooksDo x c.from-need.result c.args.geometry.now.props.metaslabs (Ok c.in-Ok.seen)) (WriteDoes x (FnReturnsAt g.F.Fn c.args.chooser.now) c.args.object c.args.block.now.bytes (Err fault.NoMemory)) (λ y. Knows g.R.Rack g.A.Area (g.M.Metaslabs.owns c.args.metaslabs.now) (g.M.Metaslabs.last c.look_for_room.new.metaslabs) (λ o. get nat_eq c.args.own.now.objects o) c.args.own.now.seq c.args.own.now.floor y)
    (starved_says x c.args.geometry.now layout c.args.block.now.bytes c.from-need.result need_is c.in-Ok.seen (FnReturnsAt g.F.Fn c.args.chooser.now) c.args.object) (c.in-Ok.ensures.step (λ o. get nat_eq c.args.own.now.objects o) c.args.own.now.seq c.args.own.now.floor x knows))

-- ---- the metaslab that was named

pub write_block-requires-clause-takes : goal.write_block-requires-clause-takes
write_block-requires-clause-takes g c =
    let picks = subst (λ (rs : List Room). Picks rs (Some c.in-Some.metaslab)) c.deref.ensures.value c.in-Some.ensures.picks in
    let fit = picks.some c.in-Some.metaslab refl in
    takes_at g.R.Rack (g.M.Metaslabs.owns c.args.metaslabs.now) (g.M.Metaslabs.last c.args.metaslabs.now) (g.M.Metaslabs.last c.look_for_room.new.metaslabs) c.args.geometry.now c.args.block.now c.args.geometry.now.props.metaslabs c.in-Some.metaslab c.in-Ok.seen.rooms.items fit.0
    c.requires.many c.requires.layout c.look_for_room.ensures.stay c.in-Ok.ensures.many fit.1 c.requires.cut

pub write_block-requires-clause-whole : goal.write_block-requires-clause-whole
write_block-requires-clause-whole g c =
    let te : ◌≡◌ {A = ℕ → Option Pointer} (λ o. get nat_eq c.reserve.new.self o) (λ o. get nat_eq c.args.own.now.objects o) = λ i. λ o. c.reserve.ensures.entries.2 o i in
    subst (λ o. IsWholeBy g.R.Rack o (g.M.Metaslabs.last c.look_for_room.new.metaslabs) (λ o. get nat_eq c.reserve.new.self o) c.args.own.now.seq c.args.own.now.floor) (sym c.look_for_room.ensures.owns)
    (subst (λ (t : ℕ → Option Pointer). IsWholeBy g.R.Rack (g.M.Metaslabs.owns c.args.metaslabs.now) (g.M.Metaslabs.last c.look_for_room.new.metaslabs) t c.args.own.now.seq c.args.own.now.floor) (sym te) (c.look_for_room.ensures.whole (λ o. get nat_eq c.args.own.now.objects o) c.args.own.now.seq c.args.own.now.floor c.requires.whole))

pub returns-in-Some-write_block-clause-stay : goal.returns-in-Some-write_block-clause-stay
returns-in-Some-write_block-clause-stay g c =
    stay_then (g.M.Metaslabs.owns c.args.metaslabs.now) (g.M.Metaslabs.last c.args.metaslabs.now) (g.M.Metaslabs.last c.look_for_room.new.metaslabs) (g.M.Metaslabs.last c.write_block.new.metaslabs) c.look_for_room.ensures.stay (subst (λ o. AllStay o (g.M.Metaslabs.last c.look_for_room.new.metaslabs) (g.M.Metaslabs.last c.write_block.new.metaslabs)) c.look_for_room.ensures.owns c.write_block.ensures.stay)

pub returns-in-Some-write_block-clause-whole : goal.returns-in-Some-write_block-clause-whole
returns-in-Some-write_block-clause-whole g c = subst (λ o. IsWholeBy g.R.Rack o (g.M.Metaslabs.last c.write_block.new.metaslabs) (λ o. get nat_eq c.write_block.new.own.objects o) c.write_block.new.own.seq c.write_block.new.own.floor) c.look_for_room.ensures.owns c.write_block.ensures.whole

pub returns-in-Some-write_block-clause-sets : goal.returns-in-Some-write_block-clause-sets
returns-in-Some-write_block-clause-sets g c =
    let te : ◌≡◌ {A = ℕ → Option Pointer} (λ o. get nat_eq c.reserve.new.self o) (λ o. get nat_eq c.args.own.now.objects o) = λ i. λ o. c.reserve.ensures.entries.2 o i in
    sets_answer c.args.object c.args.block.now.bytes (λ o. get nat_eq c.args.own.now.objects o) (λ o. get nat_eq c.write_block.new.own.objects o) c.in-Some-write_block.stored c.written_as.result c.written_as.ensures
    (subst (λ (t : ℕ → Option Pointer). StoreSetsTable c.args.object c.args.block.now.bytes t (λ o. get nat_eq c.write_block.new.own.objects o) (Some c.in-Some-write_block.stored)) te c.in-Some-write_block.ensures.sets)

pub returns-in-Some-write_block-clause-earlier : goal.returns-in-Some-write_block-clause-earlier
returns-in-Some-write_block-clause-earlier g c p is =
    subst (λ o. ComesBack g.R.Rack o (g.M.Metaslabs.last c.write_block.new.metaslabs) (λ o. get nat_eq c.write_block.new.own.objects o) c.args.object p) c.look_for_room.ensures.owns
    (c.write_block.ensures.earlier p (c.in-Some-write_block.is ∙ ap Some (earlier_answer c.in-Some-write_block.stored c.written_as.result p c.written_as.ensures is)))

pub returns-in-Some-write_block-clause-step : goal.returns-in-Some-write_block-clause-step
returns-in-Some-write_block-clause-step g c x layout is_point knows =
    let need_is : c.from-need.result ≡ stripes_for c.args.geometry.now c.args.block.now.bytes = c.from-need.ensures ∙ (c.stripes.ensures.stripes ∙ ap (λ (k : Cut). stripes_of k (length c.args.block.now.bytes)) c.requires.cut) in
    let named = subst (λ (rs : List Room). FnReturnsAt g.F.Fn c.args.chooser.now rs (Some c.in-Some.metaslab)) c.deref.ensures.value c.in-Some.ensures.answer in
    let te : ◌≡◌ {A = ℕ → Option Pointer} (λ o. get nat_eq c.reserve.new.self o) (λ o. get nat_eq c.args.own.now.objects o) = λ i. λ o. c.reserve.ensures.entries.2 o i in
    by_answer g.R.Rack g.A.Area g.M.Metaslabs.went g.M.Metaslabs.shared (g.M.Metaslabs.owns c.args.metaslabs.now) c.args.metaslabs.now c.look_for_room.new.metaslabs c.write_block.new.metaslabs (g.M.Metaslabs.last c.args.metaslabs.now) (g.M.Metaslabs.last c.look_for_room.new.metaslabs) (g.M.Metaslabs.last c.write_block.new.metaslabs) c.args.geometry.now c.args.point (FnReturnsAt g.F.Fn c.args.chooser.now) c.args.object c.in-Some.metaslab c.args.block.now c.from-need.result need_is c.in-Ok.seen (λ o. get nat_eq c.args.own.now.objects o) (λ o. get nat_eq c.write_block.new.own.objects o) c.args.own.now.seq c.args.own.now.floor c.write_block.new.own.seq c.write_block.new.own.floor named (let last = c.if-own-ge-LAST_NUMBER.false in omega (arith, last)) x layout is_point knows (c.in-Ok.ensures.step (λ o. get nat_eq c.args.own.now.objects o) c.args.own.now.seq c.args.own.now.floor x knows)
    c.in-Some-write_block.stored c.written_as.result c.written_as.ensures
    (subst (λ (t : ℕ → Option Pointer). WriteSays g.R.Rack g.A.Area g.M.Metaslabs.went g.M.Metaslabs.shared (g.M.Metaslabs.owns c.args.metaslabs.now) (g.M.Metaslabs.owns c.args.metaslabs.now) (g.M.Metaslabs.last c.look_for_room.new.metaslabs) (g.M.Metaslabs.last c.write_block.new.metaslabs) c.look_for_room.new.metaslabs c.write_block.new.metaslabs c.in-Some.metaslab c.args.geometry.now.g c.args.point c.args.object t (λ o. get nat_eq c.write_block.new.own.objects o) c.args.own.now.seq c.args.own.now.floor c.write_block.new.own.seq c.write_block.new.own.floor c.args.block.now (Some c.in-Some-write_block.stored)) te
    (subst (λ o. WriteSays g.R.Rack g.A.Area g.M.Metaslabs.went g.M.Metaslabs.shared o o (g.M.Metaslabs.last c.look_for_room.new.metaslabs) (g.M.Metaslabs.last c.write_block.new.metaslabs) c.look_for_room.new.metaslabs c.write_block.new.metaslabs c.in-Some.metaslab c.args.geometry.now.g c.args.point c.args.object (λ o. get nat_eq c.reserve.new.self o) (λ o. get nat_eq c.write_block.new.own.objects o) c.args.own.now.seq c.args.own.now.floor c.write_block.new.own.seq c.write_block.new.own.floor c.args.block.now (Some c.in-Some-write_block.stored)) c.in-Ok.ensures.owns
    (subst (λ o. WriteSays g.R.Rack g.A.Area g.M.Metaslabs.went g.M.Metaslabs.shared (g.M.Metaslabs.owns c.look_for_room.new.metaslabs) o (g.M.Metaslabs.last c.look_for_room.new.metaslabs) (g.M.Metaslabs.last c.write_block.new.metaslabs) c.look_for_room.new.metaslabs c.write_block.new.metaslabs c.in-Some.metaslab c.args.geometry.now.g c.args.point c.args.object (λ o. get nat_eq c.reserve.new.self o) (λ o. get nat_eq c.write_block.new.own.objects o) c.args.own.now.seq c.args.own.now.floor c.write_block.new.own.seq c.write_block.new.own.floor c.args.block.now (Some c.in-Some-write_block.stored)) c.write_block.ensures.owns c.in-Some-write_block.ensures.says)))

pub returns-in-Some-write_block-clause-served : goal.returns-in-Some-write_block-clause-served
returns-in-Some-write_block-clause-served g c own alone =
    let need_is : c.from-need.result ≡ stripes_for c.args.geometry.now c.args.block.now.bytes = c.from-need.ensures ∙ (c.stripes.ensures.stripes ∙ ap (λ (k : Cut). stripes_of k (length c.args.block.now.bytes)) c.requires.cut) in
    let some : 1 ≤ c.from-need.result = subst (λ n. 1 ≤ n) (sym c.from-need.ensures) c.stripes.ensures.some in
    let picks = subst (λ (rs : List Room). Picks rs (Some c.in-Some.metaslab)) c.deref.ensures.value c.in-Some.ensures.picks in
    let w = c.look_for_room.ensures.whole (λ o. get nat_eq c.args.own.now.objects o) c.args.own.now.seq c.args.own.now.floor c.requires.whole in
    let have = layout_stays (g.M.Metaslabs.owns c.args.metaslabs.now) (g.M.Metaslabs.last c.args.metaslabs.now) (g.M.Metaslabs.last c.look_for_room.new.metaslabs) c.args.geometry.now c.look_for_room.ensures.stay c.requires.layout in
    served_answer c.args.point c.in-Some-write_block.stored c.written_as.result c.written_as.ensures (c.in-Some-write_block.ensures.served (ap (λ o. o groups_number) c.look_for_room.ensures.owns ∙ own))
    (only_memory g.R.Rack g.A.Area g.M.Metaslabs.shared (g.M.Metaslabs.owns c.look_for_room.new.metaslabs) (g.M.Metaslabs.last c.look_for_room.new.metaslabs) c.args.geometry.now c.args.block.now c.from-need.result c.in-Some.metaslab c.in-Ok.seen.rooms.items alone some need_is (c.in-Ok.ensures.rooms alone) picks
    (λ shard at. (w.shards c.in-Some.metaslab shard at).valid) have c.in-Some-write_block.stored c.in-Some-write_block.ensures.refused)

pub returns-in-Some-write_block-clause-new : goal.returns-in-Some-write_block-clause-new
returns-in-Some-write_block-clause-new g c own =
    let te : ◌≡◌ {A = ℕ → Option Pointer} (λ o. get nat_eq c.reserve.new.self o) (λ o. get nat_eq c.args.own.now.objects o) = λ i. λ o. c.reserve.ensures.entries.2 o i in
    new_answer (g.M.Metaslabs.last c.args.metaslabs.now) c.args.object c.args.own.now.seq (λ o. get nat_eq c.args.own.now.objects o) (λ o. get nat_eq c.write_block.new.own.objects o) c.in-Some-write_block.stored c.written_as.result c.written_as.ensures
    (new_on (g.M.Metaslabs.owns c.args.metaslabs.now) (g.M.Metaslabs.last c.args.metaslabs.now) (g.M.Metaslabs.last c.look_for_room.new.metaslabs) c.look_for_room.ensures.stay own c.args.object c.args.own.now.seq (λ o. get nat_eq c.args.own.now.objects o) (λ o. get nat_eq c.write_block.new.own.objects o) (Some c.in-Some-write_block.stored)
    (subst (λ (t : ℕ → Option Pointer). StoresNew (g.M.Metaslabs.last c.look_for_room.new.metaslabs) c.args.object c.args.own.now.seq t (λ o. get nat_eq c.write_block.new.own.objects o) (Some c.in-Some-write_block.stored)) te c.in-Some-write_block.ensures.new))

-- ---- it is to be tried again

pub returns-clause-stay : goal.returns-clause-stay
returns-clause-stay g c =
    stay_then (g.M.Metaslabs.owns c.args.metaslabs.now) (g.M.Metaslabs.last c.args.metaslabs.now) (g.M.Metaslabs.last c.look_for_room.new.metaslabs) (g.M.Metaslabs.last c.write_block.new.metaslabs) c.look_for_room.ensures.stay (subst (λ o. AllStay o (g.M.Metaslabs.last c.look_for_room.new.metaslabs) (g.M.Metaslabs.last c.write_block.new.metaslabs)) c.look_for_room.ensures.owns c.write_block.ensures.stay)

pub returns-clause-whole : goal.returns-clause-whole
returns-clause-whole g c = subst (λ o. IsWholeBy g.R.Rack o (g.M.Metaslabs.last c.write_block.new.metaslabs) (λ o. get nat_eq c.write_block.new.own.objects o) c.write_block.new.own.seq c.write_block.new.own.floor) c.look_for_room.ensures.owns c.write_block.ensures.whole

pub returns-clause-step : goal.returns-clause-step
returns-clause-step g c x layout is_point knows =
    let need_is : c.from-need.result ≡ stripes_for c.args.geometry.now c.args.block.now.bytes = c.from-need.ensures ∙ (c.stripes.ensures.stripes ∙ ap (λ (k : Cut). stripes_of k (length c.args.block.now.bytes)) c.requires.cut) in
    let named = subst (λ (rs : List Room). FnReturnsAt g.F.Fn c.args.chooser.now rs (Some c.in-Some.metaslab)) c.deref.ensures.value c.in-Some.ensures.answer in
    let te : ◌≡◌ {A = ℕ → Option Pointer} (λ o. get nat_eq c.reserve.new.self o) (λ o. get nat_eq c.args.own.now.objects o) = λ i. λ o. c.reserve.ensures.entries.2 o i in
    again g.R.Rack g.A.Area g.M.Metaslabs.went g.M.Metaslabs.shared (g.M.Metaslabs.owns c.args.metaslabs.now) c.args.metaslabs.now c.look_for_room.new.metaslabs c.write_block.new.metaslabs (g.M.Metaslabs.last c.args.metaslabs.now) (g.M.Metaslabs.last c.look_for_room.new.metaslabs) (g.M.Metaslabs.last c.write_block.new.metaslabs) c.args.geometry.now c.args.point (FnReturnsAt g.F.Fn c.args.chooser.now) c.args.object c.in-Some.metaslab c.args.block.now c.from-need.result need_is c.in-Ok.seen (λ o. get nat_eq c.args.own.now.objects o) (λ o. get nat_eq c.write_block.new.own.objects o) c.args.own.now.seq c.args.own.now.floor c.write_block.new.own.seq c.write_block.new.own.floor named (let last = c.if-own-ge-LAST_NUMBER.false in omega (arith, last)) x layout is_point knows (c.in-Ok.ensures.step (λ o. get nat_eq c.args.own.now.objects o) c.args.own.now.seq c.args.own.now.floor x knows)
    (subst (λ (t : ℕ → Option Pointer). WriteSays g.R.Rack g.A.Area g.M.Metaslabs.went g.M.Metaslabs.shared (g.M.Metaslabs.owns c.args.metaslabs.now) (g.M.Metaslabs.owns c.args.metaslabs.now) (g.M.Metaslabs.last c.look_for_room.new.metaslabs) (g.M.Metaslabs.last c.write_block.new.metaslabs) c.look_for_room.new.metaslabs c.write_block.new.metaslabs c.in-Some.metaslab c.args.geometry.now.g c.args.point c.args.object t (λ o. get nat_eq c.write_block.new.own.objects o) c.args.own.now.seq c.args.own.now.floor c.write_block.new.own.seq c.write_block.new.own.floor c.args.block.now None) te
    (subst (λ o. WriteSays g.R.Rack g.A.Area g.M.Metaslabs.went g.M.Metaslabs.shared o o (g.M.Metaslabs.last c.look_for_room.new.metaslabs) (g.M.Metaslabs.last c.write_block.new.metaslabs) c.look_for_room.new.metaslabs c.write_block.new.metaslabs c.in-Some.metaslab c.args.geometry.now.g c.args.point c.args.object (λ o. get nat_eq c.reserve.new.self o) (λ o. get nat_eq c.write_block.new.own.objects o) c.args.own.now.seq c.args.own.now.floor c.write_block.new.own.seq c.write_block.new.own.floor c.args.block.now None) c.in-Ok.ensures.owns
    (subst (λ o. WriteSays g.R.Rack g.A.Area g.M.Metaslabs.went g.M.Metaslabs.shared (g.M.Metaslabs.owns c.look_for_room.new.metaslabs) o (g.M.Metaslabs.last c.look_for_room.new.metaslabs) (g.M.Metaslabs.last c.write_block.new.metaslabs) c.look_for_room.new.metaslabs c.write_block.new.metaslabs c.in-Some.metaslab c.args.geometry.now.g c.args.point c.args.object (λ o. get nat_eq c.reserve.new.self o) (λ o. get nat_eq c.write_block.new.own.objects o) c.args.own.now.seq c.args.own.now.floor c.write_block.new.own.seq c.write_block.new.own.floor c.args.block.now None) c.write_block.ensures.owns c.in-None.ensures.says)))
