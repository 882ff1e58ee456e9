-- What the next run finds, and the lines of a run between which a crash came.
use Rattle.std.proofs.Common.{◌≡◌, ◌∙◌, refl, sym, ap, subst, ℕ, Bool, true, false, List, [], ◌∷◌, ◌++◌, Option, Some, None, Result, Ok, Err, String, Global, length, replicate}
use Rattle.std.specs.Prelude.{⊤, IsSomeAnd, is_some}
use Rattle.draid_rack.specs.Moments as rack_moments
use Rattle.draid_rack.specs.Rack.{Told}
use Rattle.draid_area.specs.Area.{Content}
use Rattle.draid_area.specs.Moments as area_moments
use Rattle.draid_area.proofs.Moments.{leaves_all}
use Rattle.draid_spec.specs.declared.layout.Geometry.{Geometry}
use Rattle.draid_script.specs.Grammar.{lane_of, line_of}
use Rattle.draid_script.specs.Line.{CrashPool, ImportPool, LaneCommand}
use Rattle.draid_script.specs.declared.fault.LineFault.{LineFault}
use Rattle.draid_reply.specs.declared.reply.Reply.TheVariants.{Crashed, Imported}
use Rattle.draid_shelf.specs.Kits.{AreNewChecks, Both, ChecksTold, CrashedChecks, CrashedHeld, CrashedKit, Held, IsNewArea, IsNewRack, KitCounts, KitTold, OnHeld, uber_bytes}
use Rattle.draid_session.specs.Said.{Said, alone}
use Rattle.draid_session.specs.Choices.{Choices}
use Rattle.draid_session.specs.Places.{Ended, Inside, Outside, Place, asked_inside, line_at, line_behind, place_after, place_behind, place_opened}
use Rattle.draid_session.specs.Sections.{RunsOn}
use Rattle.draid_session.specs.Session.{Agrees, Desk, Finding, Untouched, Bare, Made, Open, Shut, Foreign, Unknown, KnowsShelf, Sitting, left_of, sits}
use Rattle.draid_session.specs.State.{State}
use Rattle.draid_session.proofs.Again.{crash_found, runs_known}
use Rattle.draid_pool.specs.Returning.{HoldsPool, SameCounts}
use Rattle.draid_pool.specs.Taking.{HoldsMade}
use Rattle.draid_pool.proofs.Returned.{rests_crashed}
use Rattle.draid_pool.proofs.Importables.{importable_left}
use Rattle.draid_run.specs.Lines.{IsNoOpening}
use Rattle.draid_run.specs.Next.{FindsAgain, HasCrashed, IsFound, next_desk}
use Rattle.draid_create.specs.Says.{IsSame}
use Rattle.draid_pool.specs.Shelves.{OnShelf}
use Rattle.draid_run.specs.Shelves.{HoldsBare, HoldsDesk, HoldsNew, HoldsShut, TellsAsBefore}
use Rattle.draid_run.proofs.GivenBack.{own_same}
use Rattle.draid_run.proofs.Makings.{same_shelf}
use Rattle.draid_run.proofs.Places.{after_more, ended_none, led_on, on_split}
use Rattle.draid_run.proofs.Sectioned.{all_any, on_keeps}
use Rattle.draid_run.proofs.Serving.{as_found}
use Rattle.draid_run.proofs.Turned.{outside_plain}

-- ---- a crash of the shelf

both_and : {T : Type 0} (C : T → T → Type 0) (P Q : T → Type 0) (o n : Option T) → Both C o n → ((a b : T) → C a b → P a → Q b) → IsSomeAnd o P → IsSomeAnd n Q
both_and C P Q None n both step holds = absurd holds
both_and C P Q (Some a) None both step holds = absurd both
both_and C P Q (Some a) (Some b) both step holds = step a b both holds

both_held : (o n : Option Held) (P Q : Held → Type 0) → Both CrashedHeld o n → ((a b : Held) → CrashedHeld a b → P a → Q b) → OnHeld o P → OnHeld n Q
both_held o None P Q both step holds = tt
both_held None (Some b) P Q both step holds = absurd (cc both)
both_held (Some a) (Some b) P Q both step holds = step a b both holds

both_some : (o n : Option Held) → Both CrashedHeld o n → is_some n ≡ is_some o
both_some None n both = ap is_some both
both_some (Some a) None both = absurd both
both_some (Some a) (Some b) both = refl

-- an area that was made, and to which nothing was written, is so behind a crash
new_left : (bytes : List ℕ) (a b : Content) → area_moments.IsCrashOutcome a b → IsNewArea bytes a → IsNewArea bytes b
new_left bytes a b crash new =
    let same : b.bytes ≡ a.bytes = leaves_all a b.bytes new.soft (new.firm ∙ sym (ap length new.bytes_are)) crash.left in
    record { bytes_are = same ∙ new.bytes_are; firm = crash.firm ∙ ap length (same ∙ new.bytes_are); soft = crash.soft }

zeros_left : (geometry : Geometry) (a b : Told) → rack_moments.IsCrashOutcome a b → IsNewRack geometry a → IsNewRack geometry b
zeros_left geometry a b crash new = record {
  zeros = λ l s child inside. crash.firm l s (new.soft l s) ∙ new.zeros l s child inside;
  soft = crash.soft;
  harmed = λ l s. crash.harmed l s ∙ new.harmed l s;
}

checks_left : (a b : Option ChecksTold) → Both CrashedChecks a b → IsSomeAnd a AreNewChecks → IsSomeAnd b AreNewChecks
checks_left a b both = both_and CrashedChecks AreNewChecks AreNewChecks a b both (λ x y crash new. record { even = new_left [] x.even y.even crash.even new.even; odd = new_left [] x.odd y.odd crash.odd new.odd })

made_left : (geometry : Geometry) (a b : Held) → CrashedHeld a b → HoldsMade geometry a → HoldsMade geometry b
made_left geometry a b crash made = record {
  uber = both_and area_moments.IsCrashOutcome (IsNewArea (replicate uber_bytes 0)) (IsNewArea (replicate uber_bytes 0)) a.uber b.uber crash.uber (new_left (replicate uber_bytes 0)) made.uber;
  checks = checks_left a.checks b.checks crash.checks made.checks;
  kits = λ m below. both_and CrashedKit (λ (kit : KitTold). IsNewRack geometry kit.rack) (λ (kit : KitTold). IsNewRack geometry kit.rack) (a.kits m) (b.kits m) (crash.kits m) (λ x y c. zeros_left geometry x.rack y.rack c.rack) (made.kits m below);
}

pool_left : (x : State) (crashed : Bool) (a b : Held) → CrashedHeld a b → HoldsPool x crashed a → HoldsPool x true b
pool_left x crashed a b crash pool = record { pieces = pool.pieces; rests = rests_crashed x pool.pieces a b pool.rests crash; backed = λ none. absurd (cc none) }

module _ (left found : OnShelf) (it : HasCrashed left found) where
  bare_crashed : HoldsBare left → HoldsBare found
  bare_crashed = both_and CrashedHeld (λ held. held.uber ≡ None) (λ held. held.uber ≡ None) left.held found.held it.held (λ a b crash none. none_left a.uber b.uber crash.uber none) where
    none_left : (a b : Option Content) → Both area_moments.IsCrashOutcome a b → a ≡ None → b ≡ None
    none_left None b both none = both
    none_left (Some x) b both none = absurd (cc none)

  new_crashed : (told : Bool) (failed : ℕ) (geometry : Geometry) → HoldsNew told failed geometry left → HoldsNew told failed geometry found
  new_crashed told failed geometry new = record {
    told_is = new.told_is ∙ sym (both_some left.held found.held it.held);
    made = record {
      held = both_held left.held found.held (HoldsMade geometry) (HoldsMade geometry) it.held (made_left geometry) new.made.held;
      counts = λ m who less. ap (λ (k : KitCounts). k.rack who) (it.counts m) ∙ new.made.counts m who less;
      uber = it.uber ∙ new.made.uber;
      checks = it.checks ∙ new.made.checks;
    };
  }

  shut_crashed : (crashed : Bool) (x : State) → HoldsShut crashed x left → HoldsShut true x found
  shut_crashed crashed x shut = record {
    held = both_held left.held found.held (HoldsPool x crashed) (HoldsPool x true) it.held (pool_left x crashed) shut.held;
    importable = importable_left x left.held found.held left.leaves found.leaves it.held it.leaves shut.importable;
    told = shut.told ∙ sym (both_some left.held found.held it.held);
    counts = λ m y there. subst (λ (k : KitCounts). SameCounts y.counts k) (sym (it.counts m)) (shut.counts m y there);
    uber = own_same left found it.uber it.checks ∙ shut.uber;
  }

-- ---- the desk of the next run

crashed_desk : (x : Desk) (entry left found : OnShelf) → HasCrashed left found → HoldsDesk (left_of x) entry left → HoldsDesk (next_desk true x) found found
crashed_desk Untouched entry left found it is = as_found found
crashed_desk Bare entry left found it is = ((as_found found).0, bare_crashed left found it is.1)
crashed_desk (Made told failed geometry) entry left found it is = new_crashed left found it told failed geometry is
crashed_desk (Open x) entry left found it is = shut_crashed left found it false x is
crashed_desk (Shut crashed x) entry left found it is = shut_crashed left found it crashed x is
crashed_desk (Foreign known) entry left found it is = as_found found
crashed_desk Unknown entry left found it is = as_found found

not_open : (x : Desk) (y : State) → left_of x ≡ Open y → ⊥
not_open Untouched y is = cc is
not_open Bare y is = cc is
not_open (Made told failed geometry) y is = cc is
not_open (Open x) y is = cc is
not_open (Shut crashed x) y is = cc is
not_open (Foreign known) y is = cc is
not_open Unknown y is = cc is

same_desk : (x : Desk) (entry left found : OnShelf) → IsSame left found → HoldsDesk (left_of x) entry left → HoldsDesk (next_desk false x) found found
same_desk Untouched entry left found same is = as_found found
same_desk Bare entry left found same is = ((as_found found).0, (same_shelf Bare entry left found (not_open Bare) same is).1)
same_desk (Made told failed geometry) entry left found same is = same_shelf (Made told failed geometry) entry left found (not_open (Made told failed geometry)) same is
same_desk (Open x) entry left found same is = same_shelf (Shut false x) entry left found (not_open (Open x)) same is
same_desk (Shut crashed x) entry left found same is = same_shelf (Shut crashed x) entry left found (not_open (Shut crashed x)) same is
same_desk (Foreign known) entry left found same is = as_found found
same_desk Unknown entry left found same is = as_found found

pub desk_found : (crash : Bool) (x : Desk) (entry left found : OnShelf) → IsFound crash left found → HoldsDesk (left_of x) entry left → HoldsDesk (next_desk crash x) found found
desk_found true x entry left found it is = crashed_desk x entry left found it is
desk_found false x entry left found it is = same_desk x entry left found it is

pub tells_found : (crash : Bool) (entry left found : OnShelf) → IsFound crash left found → TellsAsBefore entry left → TellsAsBefore entry found
tells_found true entry left found it tells = both_some left.held found.held it.held ∙ tells
tells_found false entry left found it tells = ap is_some it.0.held ∙ tells

-- ---- a crash among the lines of a run

-- a line asks for a crash outside sections alone
asked_not : (line : Result LaneCommand LineFault) → asked_inside line ≡ Ok CrashPool → ⊥
asked_not (Ok command) is = cc is
asked_not (Err fault) is = cc is

crash_outside : (place : Place) (crash : List ℕ) → (place ≡ Ended → ⊥) → line_at place crash ≡ Ok CrashPool → place ≡ Outside
crash_outside Outside crash more is = refl
crash_outside (Inside lanes) crash more is = absurd (asked_not (lane_of (length lanes) crash) is)
crash_outside Ended crash more is = absurd (more refl)

-- what the shelf holds is known along lines
known_on : (choices : Choices) (finds : Finding → Type 0) (from : Place) (lines : List (List ℕ)) (replies : List (List Said)) (to : Place) (old new : Sitting) → RunsOn choices finds true from old lines replies to new
    → KnowsShelf old.desk × Agrees true old.desk → KnowsShelf new.desk × Agrees true new.desk
known_on choices finds from lines replies to old new runs knows =
    on_keeps choices finds true (λ desk. KnowsShelf desk × Agrees true desk) (λ (line : List ℕ). ⊤)
    (λ line a b saids any turns agrees p. runs_known choices finds (line ∷ []) (saids ∷ []) a b p.0 p.1 (b, turns, agrees, refl))
    (λ x y lanes replies section p. (tt, sym section.together.rest.told ∙ p.1))
    (λ known later p. absurd p.0)
    from lines replies to old new (all_any lines) runs knows

module _ (choices : Choices) (finds : Finding → Type 0) (crash import : List ℕ) (back : List (List ℕ)) (called : String Global) (group objects : ℕ) (behind : List (List Said)) (to : Place) (last : Sitting) where
  here : (first : Sitting) → line_of crash ≡ Ok CrashPool → line_of import ≡ Ok ImportPool → KnowsShelf first.desk
      → RunsOn choices finds true Outside first (crash ∷ import ∷ back) (alone Crashed ∷ alone (Imported called group objects) ∷ behind) to last
      → FindsAgain choices finds first [] [] group objects back behind to last
  here first is_crash is_import known runs =
      let one = outside_plain choices finds (line_of crash) first runs.0 (alone Crashed) runs.1 (subst IsNoOpening (sym is_crash) tt) runs.2 in
      let rest = subst (λ p. RunsOn choices finds true p runs.0 (import ∷ back) (alone (Imported called group objects) ∷ behind) to last) one.1 runs.4 in
      let two = outside_plain choices finds (line_of import) runs.0 rest.0 (alone (Imported called group objects)) rest.1 (subst IsNoOpening (sym is_import) tt) rest.2 in
      let it = crash_found choices finds crash import [] called group objects [] first.journal rest.0 is_crash is_import first.desk known (runs.0, one.0, runs.3, (rest.0, two.0, rest.3, refl)) in
      record {
        old = it.old;
        new = it.new;
        journal = first.journal;
        before = (ap (λ desk. sits desk first.journal) (sym it.was), refl);
        imports = it.imports;
        counted = it.counted;
        after = subst (λ s. RunsOn choices finds true Outside s back behind to last) it.after (subst (λ p. RunsOn choices finds true p rest.0 back behind to last) two.1 rest.4);
      }

  pub again : (front : List (List ℕ)) (said : List (List Said)) (first : Sitting) → length said ≡ length front → line_behind front crash ≡ Ok CrashPool → line_behind (front ++ crash ∷ []) import ≡ Ok ImportPool
      → KnowsShelf first.desk → Agrees true first.desk
      → RunsOn choices finds true Outside first (front ++ (crash ∷ import ∷ back)) (said ++ (alone Crashed ∷ alone (Imported called group objects) ∷ behind)) to last → FindsAgain choices finds first front said group objects back behind to last
  again front said first same is_crash is_import known agrees runs =
      let it = on_split choices finds true Outside first front said (crash ∷ import ∷ back) (alone Crashed ∷ alone (Imported called group objects) ∷ behind) to last same runs in
      let more : it.here ≡ Ended → ⊥ = λ ended. ended_none choices finds true it.mid crash (import ∷ back) (alone Crashed ∷ alone (Imported called group objects) ∷ behind) to last
      (subst (λ p. RunsOn choices finds true p it.mid (crash ∷ import ∷ back) (alone Crashed ∷ alone (Imported called group objects) ∷ behind) to last) ended it.after) in
      let led = led_on choices finds true Outside first front said it.here it.mid more it.before in
      let outside : it.here ≡ Outside = crash_outside it.here crash more (ap (λ p. line_at p crash) led ∙ is_crash) in
      let asked : line_of crash ≡ Ok CrashPool = ap (λ p. line_at p crash) (sym outside ∙ led) ∙ is_crash in
      let then : place_after Outside (front ++ crash ∷ []) ≡ Outside = after_more Outside front crash ∙ ap (λ p. place_behind p crash) (sym led ∙ outside) ∙ ap place_opened asked in
      let imported : line_of import ≡ Ok ImportPool = ap (λ p. line_at p import) (sym then) ∙ is_import in
      let knows = known_on choices finds Outside front said it.here first it.mid it.before (known, agrees) in
      let found = here it.mid asked imported knows.0 (subst (λ p. RunsOn choices finds true p it.mid (crash ∷ import ∷ back) (alone Crashed ∷ alone (Imported called group objects) ∷ behind) to last) outside it.after) in
      record {
        old = found.old;
        new = found.new;
        journal = found.journal;
        before = subst (λ s. RunsOn choices finds true Outside first front said Outside s) (sym found.before.0) (subst (λ p. RunsOn choices finds true Outside first front said p it.mid) outside it.before);
        imports = found.imports;
        counted = found.counted;
        after = found.after;
      }
