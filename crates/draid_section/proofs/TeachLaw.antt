-- Lanes that ran over a pool of which something is known: what they say of the objects is so of the pool that is put together of them.
use Rattle.std.proofs.Common.{◌≡◌, ◌∙◌, ◌++◌, ◌∷◌, ◌<◌, arith, ℕ, zero, suc, true, List, [], Option, Some, None, if◌then◌else◌, length, refl, sym, ap, subst}
use Rattle.std.specs.Prelude.{nat_eq, slice_get}
use Rattle.std.specs.HashMap.{get}
use Rattle.std.specs.declared.vec.Vec.{Vec}
use Rattle.std.specs.declared.alloc.Global.{Global}
use Rattle.std.proofs.lemmas.Option.{slice_get_within}
use Rattle.draid_names.specs.declared.pointer.Pointer.{Pointer}
use Rattle.draid_rack.specs.declared.Rack as racks
use Rattle.draid_area.specs.declared.Area as areas
use Rattle.draid_shard.specs.declared.shard.Shard.{Shard}
use Rattle.draid_turn.specs.Calls.{Caller, Lock}
use Rattle.draid_turn.specs.Numbers.{holds}
use Rattle.draid_turn.specs.declared.past.Past.{Past}
use Rattle.draid_turn.specs.declared.span.Span.{Span}
use Rattle.draid_holds.specs.Passes.{shares}
use Rattle.draid_session.specs.Known.{Known}
use Rattle.draid_uber.specs.declared.uber.Uber.{Uber}
use Rattle.draid_pool.specs.Knows.{FitsKnown, KnowsPointers, KnowsTable}
use Rattle.draid_pool.specs.Whole.{IsWhole}
use Rattle.draid_pool.specs.declared.cell.Cell.{Cell}
use Rattle.draid_pool.specs.declared.own.Own.{Own}
use Rattle.draid_pool.specs.declared.pool.Pool.{Pool}
use Rattle.draid_pool.proofs.Lists.{present, some_of}
use Rattle.draid_lanes.specs.Lanes.{table_of}
use Rattle.draid_lanes.specs.Locks.{owned_by}
use Rattle.draid_lanes.specs.Meeting.{groups_alone}
use Rattle.draid_lanes.specs.Telling.{JobsTeach, beside}
use Rattle.draid_lanes.specs.declared.lane.Lane.{Lane}
use Rattle.draid_section.specs.Opening.{AreLocked}
use Rattle.draid_section.specs.Running.{JobRan, KeepLanes, WereDone}
use Rattle.draid_section.specs.Section.{MayRunAll, RunsLocked}
use Rattle.draid_section.specs.Told.{SectionTaught}
use Rattle.draid_tables.specs.Lists.{AreLaneLists}
use Rattle.draid_tables.specs.Owns.{AreDealtOut, TakesAll}
use Rattle.draid_tables.proofs.Listing.{a_holder}
use Rattle.draid_section.proofs.Dealt.{dealt_owns}
use Rattle.draid_section.proofs.Gathering.{dealt_at, lanes_many, owns_many, passes_many, some_metaslab}
use Rattle.draid_section.proofs.Taught.{Shows, shown_all}

module _ {R A G W J : Type 0} (rack : racks.Ghosts R) (area : areas.Ghosts A) (needs : J → Lane R A G W → Type 0) (relates : J → Lane R A G W → J → Lane R A G W → Type 0) (pool : Pool R A) (w : IsWhole rack area pool) (lists : List (Vec Span Global)) (al : AreLaneLists lists) (jobs : Vec J Global)
    (may : MayRunAll rack area needs pool lists jobs.items) (keeps : KeepLanes rack area needs relates) (locks : List (Lock (Cell R A))) (firsts : List (Caller (Past (Cell R A)))) (locked : AreLocked pool.metaslabs.shards.items locks firsts) (gl : Vec Span Global) (alone : gl.items ≡ groups_alone)
    (owns : Vec Own Global) (dealt_out : AreDealtOut pool.own lists owns.items) (uber' : Uber A) (shards' : List (Shard R A)) (owns' : Vec Own Global) (jobs' : Vec J Global) (ran : RunsLocked rack area relates pool.geometry locks pool.uber (lists ++ gl ∷ []) owns jobs uber' shards' owns' jobs')
    (many_jobs : length lists ≡ length jobs.items) where
  first : ℕ → Option Pointer
  first o = get nat_eq pool.own.objects o

  some : 0 < length locks
  some = some_metaslab rack area needs relates pool w lists al jobs may keeps locks firsts locked gl alone owns dealt_out

  many_old : length ran.old.passes.items ≡ length lists
  many_old = lanes_many rack area needs relates pool w lists al jobs may keeps locks firsts locked gl alone owns dealt_out uber' shards' owns' jobs' ran

  many_owns : length owns'.items ≡ length lists
  many_owns = owns_many rack area needs relates pool w lists al jobs may keeps locks firsts locked gl alone owns dealt_out uber' shards' owns' jobs' ran

  many_done : length jobs'.items ≡ length lists
  many_done =
      ap (λ (v : Vec J Global). length v.items) (sym ran.jobs_then)
      ∙ (ran.under.over.ran.even.jobs ∙ passes_many rack area needs relates pool w lists al jobs may keeps locks firsts locked gl alone owns dealt_out uber' shards' owns' jobs' ran)

  -- each job was done
  pub were_done : WereDone relates jobs.items jobs'.items
  were_done = record {
    many = many_done ∙ many_jobs;
    each = λ i job job_is.
        (let within = slice_get_within jobs.items i job job_is in
        let j : JobRan relates locks ran.under.lock pool.geometry ran.old ran.new ran.under.over.passes ran.under.over.nexts i = ran.under.over.ran.each i (let many = many_old in omega (arith, within, many, many_jobs)) in
        let job_same : j.job ≡ job = some_of (slice_get jobs.items i) j.job job (sym (ap (λ (v : Vec J Global). slice_get v.items i) ran.jobs_are) ∙ j.begun.job_is) job_is in
        (j.lane, j.done, j.next, sym (ap (λ (v : Vec J Global). slice_get v.items i) ran.jobs_then) ∙ j.ended.job_is, subst (λ (a : J). relates a j.lane j.done j.next) job_same j.related));
  }

  -- ---- what they say of the objects

  module _ (learns : J → J → Known → Known → Type 0) (teach : JobsTeach learns relates) (new : Pool R A) (takes : TakesAll lists owns'.items pool.own new.own) where
    shows : (i : ℕ) (list : Vec Span Global) (own : Own) (job end : J) → slice_get lists i ≡ Some list → slice_get owns'.items i ≡ Some own → slice_get jobs.items i ≡ Some job → slice_get jobs'.items i ≡ Some end → Shows learns first list own job end
    unfolding first
    shows i list own job end list_is own_is job_is end_is =
        let within = slice_get_within lists i list list_is in
        let j : JobRan relates locks ran.under.lock pool.geometry ran.old ran.new ran.under.over.passes ran.under.over.nexts i = ran.under.over.ran.each i (let many = many_old in omega (arith, within, many)) in
        let own_first : slice_get owns.items i ≡ Some j.lane.own = sym (ap (λ (v : Vec Own Global). slice_get v.items i) ran.owns_are) ∙ j.begun.own in
        let dealt = dealt_at rack area needs relates pool w lists al jobs may keeps locks firsts locked gl alone owns dealt_out ran.dealt ran.rests ran.groups ran.old ran.deals ran.shared ran.owns_are ran.jobs_are i list j.lane.metaslabs.passes list_is j.begun.held in
        let out = dealt_out.each i list j.lane.own list_is own_first in
        let own_same : j.next.own ≡ own = some_of (slice_get owns'.items i) j.next.own own (sym (ap (λ (v : Vec Own Global). slice_get v.items i) ran.owns_then) ∙ j.ended.own) own_is in
        let job_same : j.job ≡ job = some_of (slice_get jobs.items i) j.job job (sym (ap (λ (v : Vec J Global). slice_get v.items i) ran.jobs_are) ∙ j.begun.job_is) job_is in
        let end_same : j.done ≡ end = some_of (slice_get jobs'.items i) j.done end (sym (ap (λ (v : Vec J Global). slice_get v.items i) ran.jobs_then) ∙ j.ended.job_is) end_is in
        record {
          owns = owned_by j.lane.metaslabs.passes.items;
          table = table_of j.lane;
          owns_list = dealt_owns locks list.items j.lane.metaslabs.passes.items dealt some;
          began = λ o held. out.objects o ∙ ap (λ b. if b then get nat_eq pool.own.objects o else None) held;
          teach = λ rest known knows.
              (let t = teach j.job j.lane j.done j.next j.related rest known knows in
              record {
                new = t.new;
                learned = subst (λ (a : J). learns a end known t.new) job_same (subst (λ (b : J). learns j.job b known t.new) end_same t.learned);
                fits = subst (λ (v : Own). KnowsTable (beside (owned_by j.lane.metaslabs.passes.items) (λ o. get nat_eq v.objects o) rest) t.new) own_same t.fits;
              });
        }

    pub section_taught : (known : Known) → KnowsPointers pool known → SectionTaught learns jobs.items jobs'.items new known
    unfolding first
    section_taught known knows =
        let s = shown_all learns first lists owns'.items jobs.items jobs'.items (λ o. get nat_eq pool.own.objects o) many_owns (sym many_jobs) many_done shows al.apart (λ o held. refl) known knows in
        record { later = s.later; learn = s.learn; fits = λ o. subst (FitsKnown (s.later o)) (ends s.table s.taken s.others o) (s.fits o) }
      where
        ends : (table : ℕ → Option Pointer) → ((i : ℕ) (list : Vec Span Global) (own : Own) (o : ℕ) → slice_get lists i ≡ Some list → slice_get owns'.items i ≡ Some own → holds o list.items ≡ true → table o ≡ get nat_eq own.objects o)
            → ((o : ℕ) → shares o lists ≡ 0 → table o ≡ get nat_eq pool.own.objects o) → (o : ℕ) → table o ≡ get nat_eq new.own.objects o
        ends table taken others o = by (shares o lists) refl
          where
            by : (n : ℕ) → shares o lists ≡ n → table o ≡ get nat_eq new.own.objects o
            by zero is = others o is ∙ sym (takes.others o is)
            by (suc n) is =
                let h = a_holder o lists (omega (arith, is)) in
                let within = slice_get_within lists h.0 h.1 h.2 in
                let own = present owns'.items h.0 (let many = many_owns in omega (arith, within, many)) in
                taken h.0 h.1 own.0 o h.2 own.1 h.3 ∙ sym (takes.taken h.0 h.1 own.0 h.2 own.1 o h.3)
