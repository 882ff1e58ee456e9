-- Whether some lane's reply names a group, and what that is to the book of a section.
use Rattle.std.proofs.Common.{◌≡◌, ◌∙◌, ◌+◌, ◌<◌, ◌≤◌, ◌⊎◌, ◌++◌, ◌||◌, ℕ, zero, suc, Bool, true, false, List, [], ◌∷◌, Some, inl, inr, refl, sym, ap, subst, arith}
use Rattle.std.specs.Prelude.{⊤}
use Rattle.std.proofs.lemmas.Bool.{true≢false}
use Rattle.draid_machine.proofs.Small.{bool_cases}
use Rattle.draid_script.specs.Line.{Command, SyncPool, RebuildPool, ScrubPool, TakeOffline, TakeOnline, WriteObject, FillObjects, FreeObject, ReadObject, SumObjects}
use Rattle.draid_script.specs.Writing.{IsForLanes}
use Rattle.draid_script.specs.declared.name.CommandName.TheVariants as name
use Rattle.draid_reply.specs.declared.reply.Reply.{Reply}
use Rattle.draid_reply.specs.declared.reply.Reply.TheVariants.{Filled, FillRefused, Freed, Last, NoMemory, Synced, Worn, Written}
use Rattle.draid_session.specs.Book.{Book}
use Rattle.draid_session.specs.LaneBook.{AnswersSection, Changes, Deed, DeedsTurn, LaneDoes, LanesSay, LaneSays, Named, deeds_by, fills}
use Rattle.draid_session.specs.Looks.{AllOf}
use Rattle.draid_session.specs.Making.{content_of}
use Rattle.draid_session.specs.Marked.{names_group}
use Rattle.draid_session.proofs.Lanewise.{all_both, merged_all, merged_back}
use Rattle.draid_marked.specs.Sections.{one_names, some_name}
use Rattle.draid_marked.proofs.Plain.{plain_leaves}

-- it names no group
abbrev IsChange : Deed → Type 0
IsChange (Changes object bytes) = ⊤
IsChange (Named group) = ⊥

or_false : (a b : Bool) → (a || b) ≡ false → (a ≡ false) × (b ≡ false)
or_false true b is = absurd (true≢false is)
or_false false b is = (refl, is)

false_or : (a b : Bool) → a ≡ false → b ≡ false → (a || b) ≡ false
false_or a b one two = rw (one, two) refl

pub all_front : {A : Type 0} (P : A → Type 0) (xs ys : List A) → AllOf P (xs ++ ys) → AllOf P xs
all_front P [] ys all = tt
all_front P (x ∷ xs) ys all = (all.0, all_front P xs ys all.1)

pub all_back : {A : Type 0} (P : A → Type 0) (xs ys : List A) → AllOf P (xs ++ ys) → AllOf P ys
all_back P [] ys all = all
all_back P (x ∷ xs) ys all = all_back P xs ys all.1

-- ---- replies that name none

fills_change : (content : ℕ → List ℕ) (first n : ℕ) → AllOf IsChange (fills content first n)
fills_change content first zero = tt
fills_change content first (suc n) = all_both IsChange (fills content first n) (Changes (first + n) (Some (content (first + n))) ∷ []) (fills_change content first n) (tt, tt)

plain_deeds : (command : Command) (reply : Reply) → names_group reply ≡ false → AllOf IsChange (deeds_by command reply)
plain_deeds (WriteObject object bytes) (Written o) names = (tt, tt)
plain_deeds (FillObjects first count len seed) (Filled f written) names = fills_change (λ object. content_of seed object len) first count
plain_deeds (FillObjects first count len seed) (FillRefused f written why) names = fills_change (λ object. content_of seed object len) first written
plain_deeds (FreeObject object) (Freed o) names = (tt, tt)
plain_deeds SyncPool (Synced group thin) names = absurd (true≢false names)
plain_deeds command reply names = tt

lane_deeds : (b : Book) (commands : List Command) (replies : List Reply) (deeds : List Deed) → LaneSays b commands replies deeds → one_names replies ≡ false → AllOf IsChange deeds
lane_deeds b [] [] deeds says names = subst (AllOf IsChange) (sym says) tt
lane_deeds b (command ∷ commands) (reply ∷ replies) deeds (back, mid, are, does, rest) names =
    let n = or_false (names_group reply) (one_names replies) names in
    subst (AllOf IsChange) (sym are) (all_both IsChange (deeds_by command reply) back (plain_deeds command reply n.0) (lane_deeds mid commands replies back rest n.1))
lane_deeds b (command ∷ commands) [] deeds (new, breaks, none) names = subst (AllOf IsChange) (sym none) tt
lane_deeds b [] (reply ∷ replies) deeds says names = absurd says

lanes_deeds : (b : Book) (commands : List (List Command)) (replies : List (List Reply)) (deeds : List (List Deed)) → LanesSay b commands replies deeds → some_name replies ≡ false → AllOf (AllOf IsChange) deeds
lanes_deeds b [] [] [] says names = tt
lanes_deeds b (cs ∷ commands) (rs ∷ replies) (ds ∷ deeds) says names = (let n = or_false (one_names rs) (some_name replies) names in (lane_deeds b cs rs ds says.0 n.0, lanes_deeds b commands replies deeds says.1 n.1))
lanes_deeds b [] [] (ds ∷ deeds) says names = absurd says
lanes_deeds b [] (rs ∷ replies) deeds says names = absurd says
lanes_deeds b (cs ∷ commands) [] deeds says names = absurd says
lanes_deeds b (cs ∷ commands) (rs ∷ replies) [] says names = absurd says

-- ---- and the other way

sync_names : (old new : Book) (reply : Reply) → LaneDoes old SyncPool reply new → AllOf IsChange (deeds_by SyncPool reply) → names_group reply ≡ false
sync_names old new (Synced group thin) does all = absurd all.0
sync_names old new (Worn name.Sync) does all = refl
sync_names old new (Last name.Sync) does all = refl
sync_names old new (NoMemory name.Sync) does all = refl
sync_names old new reply does all = absurd does

one_name : (old new : Book) (command : Command) (reply : Reply) → IsForLanes command → LaneDoes old command reply new → AllOf IsChange (deeds_by command reply) → names_group reply ≡ false
one_name old new SyncPool reply is does all = sync_names old new reply does all
one_name old new (WriteObject object bytes) reply is does all = (plain_leaves old new (WriteObject object bytes) tt reply does).0
one_name old new (FillObjects first count len seed) reply is does all = (plain_leaves old new (FillObjects first count len seed) tt reply does).0
one_name old new (FreeObject object) reply is does all = (plain_leaves old new (FreeObject object) tt reply does).0
one_name old new (ReadObject object) reply is does all = (plain_leaves old new (ReadObject object) tt reply does).0
one_name old new (SumObjects first count) reply is does all = (plain_leaves old new (SumObjects first count) tt reply does).0
one_name old new (ScrubPool limit) reply is does all = (plain_leaves old new (ScrubPool limit) tt reply does).0
one_name old new (RebuildPool limit) reply is does all = (plain_leaves old new (RebuildPool limit) tt reply does).0
one_name old new (TakeOffline leaf) reply is does all = (plain_leaves old new (TakeOffline leaf) tt reply does).0
one_name old new (TakeOnline leaf) reply is does all = (plain_leaves old new (TakeOnline leaf) tt reply does).0
one_name old new command reply is does all = absurd is

lane_names : (b : Book) (commands : List Command) (replies : List Reply) (deeds : List Deed) → AllOf IsForLanes commands → LaneSays b commands replies deeds → AllOf IsChange deeds → one_names replies ≡ false
lane_names b [] [] deeds of says all = refl
lane_names b (command ∷ commands) (reply ∷ replies) deeds of (back, mid, are, does, rest) all =
    let parts : AllOf IsChange (deeds_by command reply ++ back) = subst (AllOf IsChange) are all in
    false_or (names_group reply) (one_names replies) (one_name b mid command reply of.0 does (all_front IsChange (deeds_by command reply) back parts))
    (lane_names mid commands replies back of.1 rest (all_back IsChange (deeds_by command reply) back parts))
lane_names b (command ∷ commands) [] deeds of says all = refl
lane_names b [] (reply ∷ replies) deeds of says all = absurd says

lanes_names : (b : Book) (commands : List (List Command)) (replies : List (List Reply)) (deeds : List (List Deed)) → AllOf (AllOf IsForLanes) commands → LanesSay b commands replies deeds → AllOf (AllOf IsChange) deeds
    → some_name replies ≡ false
lanes_names b [] [] [] of says all = refl
lanes_names b (cs ∷ commands) (rs ∷ replies) (ds ∷ deeds) of says all = false_or (one_names rs) (some_name replies) (lane_names b cs rs ds of.0 says.0 all.0) (lanes_names b commands replies deeds of.1 says.1 all.1)
lanes_names b [] [] (ds ∷ deeds) of says all = absurd says
lanes_names b [] (rs ∷ replies) deeds of says all = absurd says
lanes_names b (cs ∷ commands) [] deeds of says all = absurd says
lanes_names b (cs ∷ commands) (rs ∷ replies) [] of says all = absurd says

-- ---- in one order

turn_low : (deeds : List Deed) (b mid : Book) → DeedsTurn b deeds mid → b.group ≤ mid.group
turn_low [] b mid t = (let same = ap (λ (k : Book). k.group) t in omega (arith, same))
turn_low (Changes object bytes ∷ deeds) b mid (k, is, t) = (let rest = turn_low deeds k mid t in let same = ap (λ (j : Book). j.group) is in omega (arith, rest, same))
turn_low (Named group ∷ deeds) b mid (k, named, t) = (let rest = turn_low deeds k mid t in let same = ap (λ (j : Book). j.group) named.1 in let less = named.0 in omega (arith, rest, same, less))

turn_same : (deeds : List Deed) (b mid : Book) → AllOf IsChange deeds → DeedsTurn b deeds mid → mid.group ≡ b.group
turn_same [] b mid all t = ap (λ (k : Book). k.group) t
turn_same (Changes object bytes ∷ deeds) b mid all (k, is, t) = turn_same deeds k mid all.1 t ∙ ap (λ (j : Book). j.group) is
turn_same (Named group ∷ deeds) b mid all t = absurd all.0

turn_named : (deeds : List Deed) (b mid : Book) → DeedsTurn b deeds mid → AllOf IsChange deeds ⊎ (b.group < mid.group)
turn_named [] b mid t = inl tt
turn_named (Changes object bytes ∷ deeds) b mid (k, is, t) = by (turn_named deeds k mid t)
  where
    by : AllOf IsChange deeds ⊎ (k.group < mid.group) → AllOf IsChange (Changes object bytes ∷ deeds) ⊎ (b.group < mid.group)
    by (inl all) = inl (tt, all)
    by (inr less) = (let same = ap (λ (j : Book). j.group) is in inr (omega (arith, less, same)))
turn_named (Named group ∷ deeds) b mid (k, named, t) =
    (let rest = turn_low deeds k mid t in let same = ap (λ (j : Book). j.group) named.1 in let less = named.0 in inr (omega (arith, rest, same, less)))

-- no group is named, and the last one is the same; or it is a later one
pub section_names : (commands : List (List Command)) (replies : List (List Reply)) (old new : Book) → AllOf (AllOf IsForLanes) commands → AnswersSection old commands replies new
    → ((some_name replies ≡ false) × (new.group ≡ old.group)) ⊎ ((some_name replies ≡ true) × (old.group < new.group))
section_names commands replies old new of it = by (turn_named it.order old it.mid it.turns)
  where
    same : new.group ≡ it.mid.group
    same = ap (λ (b : Book). b.group) it.made

    by : AllOf IsChange it.order ⊎ (old.group < it.mid.group) → ((some_name replies ≡ false) × (new.group ≡ old.group)) ⊎ ((some_name replies ≡ true) × (old.group < new.group))
    by (inl all) = inl (lanes_names old commands replies it.deeds of it.says (merged_back IsChange it.deeds it.order all it.merged), same ∙ turn_same it.order old it.mid all it.turns)
    by (inr less) = elim (bool_cases (some_name replies)) [
      | inl yes_ ↦ inr (yes_, (let is = same in omega (arith, less, is)))
      | inr not ↦ (let still = turn_same it.order old it.mid (merged_all IsChange it.deeds it.order (lanes_deeds old commands replies it.deeds it.says not) it.merged) it.turns in absurd (omega (arith, less, still)))
    ]
