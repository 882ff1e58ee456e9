-- The bytes of one object after another.
use Rattle.std.proofs.Common.{◌≡◌, ◌+◌, ◌-◌, ◌≤◌, ◌∙◌, ◌++◌, ℕ, Bool, suc, List, [], ◌∷◌, Option, Ok, Err, arith, refl, sym, ap, subst, length, length-append}
use Rattle.std.specs.Prelude.{flat_map}
use Rattle.std.proofs.lemmas.List.{append_assoc}
use Rattle.sha2.specs.Sha256.{sha256}
use Rattle.sha2.specs.Hashers.{Holds256}
use Rattle.sha2.specs.declared.Sha256.{Sha256}
use Rattle.draid_names.specs.declared.pointer.Pointer.{Pointer}
use Rattle.draid_rack.specs.declared.Rack as racks
use Rattle.draid_area.specs.declared.Area as areas
use Rattle.draid_spec.specs.declared.layout.Geometry.{Geometry}
use Rattle.draid_perm.specs.declared.perms.Perms.{Perms}
use Rattle.draid_shard.specs.declared.shard.Shard.{Shard}
use Rattle.draid_session.specs.Holds.{Hold}
use Rattle.draid_session.specs.Reads.{GivesAll, SumStops}
use Rattle.draid_session.specs.State.{State, Store}
use Rattle.draid_store.specs.Batches.{AddIs, AddTries, SumTries}
use Rattle.draid_store.specs.declared.fault.SumFault.{SumFault}
use Rattle.draid_pool.specs.Threads.{Knows, LeadsBy}
use Rattle.draid_pool.proofs.Joining.{Both, leads_then}
use Rattle.draid_pool.proofs.Steps.{SameLayout, own_of}
use Rattle.draid_pool.proofs.Joining.{leads_as}

-- all the bytes
abbrev pub joined : List (List ℕ) → List ℕ
joined contents = flat_map (λ bytes. bytes) contents

pub joined_append : (contents more : List (List ℕ)) → joined contents ++ joined more ≡ joined (contents ++ more)
joined_append [] more = refl
joined_append (c ∷ cs) more = append_assoc c (joined cs) (joined more) ∙ ap (λ rest. c ++ rest) (joined_append cs more)

module _ (geometry : Geometry) (perms : Perms) (store : Store) where
  pub gives_length : (first : ℕ) (contents : List (List ℕ)) (holds : List Hold) → GivesAll geometry perms store first contents holds → length holds ≡ length contents
  gives_length first [] holds is = ap length is
  gives_length first (c ∷ cs) holds is = ap length is.2 ∙ ap suc (gives_length (first + 1) cs is.1 is.4)

  pub gives_append : (first object : ℕ) (contents more : List (List ℕ)) (front back : List Hold) → first + length contents ≡ object → GivesAll geometry perms store first contents front
      → GivesAll geometry perms store object more back → GivesAll geometry perms store first (contents ++ more) (front ++ back)
  gives_append first object [] more front back at last here =
      subst (λ hs. GivesAll geometry perms store first more (hs ++ back)) (sym last) (subst (λ (o : ℕ). GivesAll geometry perms store o more back) (omega (arith, at)) here)
  gives_append first object (c ∷ cs) more front back at last here =
      (last.0, last.1 ++ back, ap (λ hs. hs ++ back) last.2, last.3, gives_append (first + 1) object cs more last.1 back (omega (arith, at)) last.4 here)

-- so many objects gave their bytes, which the hasher holds
pub record SummedSome (x : State) (first summed : ℕ) (hasher : Sha256) (holds : List Hold) (store : Store) : Type 0 where
  pub same : store ≡ x.store
  pub contents : List (List ℕ)
  pub many : length contents ≡ summed
  pub gives : GivesAll x.geometry x.perms x.store first contents holds
  pub hashed : Holds256 hasher (joined contents)

module _ {R A S : Type 0} (rack : racks.Ghosts R) (area : areas.Ghosts A) (went : S → ℕ → Shard R A → Shard R A → S → Type 0) (shared : Bool) (owns : ℕ → Bool) (table : ℕ → Option Pointer) (seq floor : ℕ) (geometry : Geometry) where
  abbrev Known : (ℕ → Option (Shard R A)) → State → Type 0
  Known last = Knows rack area owns last table seq floor

  abbrev pub Summing : (last now : ℕ → Option (Shard R A)) → S → S → (first summed : ℕ) → Sha256 → Type 0
  Summing last now a b first summed hasher = (x : State) → x.geometry ≡ geometry → Known last x → LeadsBy rack area went shared a b x (SummedSome x first summed hasher) (Known now)

  pub summing_none : (last : ℕ → Option (Shard R A)) (a : S) (first : ℕ) (hasher : Sha256) → Holds256 hasher [] → Summing last last a a first 0 hasher
  summing_none last a first hasher hashed x layout known =
      record { holds = []; reached = x; store = x.store; follows = (refl, refl); done = record { same = refl; contents = []; many = refl; gives = refl; hashed = hashed }; knows = known }

  -- with one batch more, from where that batch began
  module _ (last now new : ℕ → Option (Shard R A)) (a b c : S) (first summed : ℕ) (hasher hasher' : Sha256) (some : Summing last now a b first summed hasher) where
    same_own : (x y : State) (front : List Hold) → y.geometry ≡ x.geometry → y.perms ≡ x.perms → SummedSome x first summed hasher front y.store → SameLayout x y
    same_own x y front layout perms done = record { geometry = layout; perms = perms; store = done.same }

    pub summing_more : (count added : ℕ) → ((y : State) → y.geometry ≡ geometry → Known now y → LeadsBy rack area went shared b c y (AddTries y (first + summed) count hasher hasher' (Ok added)) (Known new))
        → Summing last new a c first (summed + added) hasher'
    summing_more count added moves x layout known =
        leads_as rack area went shared a c x (Both rack area went shared a b c x (SummedSome x first summed hasher) (Known now) (AddIs x (first + summed) count hasher hasher' (Ok added)) (Known new)) (SummedSome x first (summed + added) hasher') (Known new)
        (λ holds store d.
        let s = d.first in
        let e = d.second in
        record {
          same = e.store;
          contents = s.contents ++ e.contents;
          many = (let many = s.many in let behind = e.many in omega (arith, many, behind, length-append s.contents e.contents));
          gives = subst (GivesAll x.geometry x.perms x.store first (s.contents ++ e.contents)) (sym d.are)
              (gives_append x.geometry x.perms x.store first (first + summed) s.contents e.contents d.front d.back (ap (λ k. first + k) s.many) s.gives e.gives);
          hashed = subst (λ (m : List ℕ). Holds256 hasher' m) (joined_append s.contents e.contents) (e.fed (joined s.contents) s.hashed);
        })
        (leads_then rack area went shared a b c x (SummedSome x first summed hasher) (Known now) (AddIs x (first + summed) count hasher hasher' (Ok added)) (Known new) (some x layout known)
        (λ y same perms front done known_y. leads_as rack area went shared b c y (AddTries y (first + summed) count hasher hasher' (Ok added)) (AddIs x (first + summed) count hasher hasher' (Ok added)) (Known new)
        (λ holds store e.
        let own = same_own x y front same perms done in
        record {
          store = e.store ∙ done.same;
          some = e.some;
          within = e.within;
          contents = e.contents;
          many = e.many;
          gives = own_of x y (λ g p t. GivesAll g p t (first + summed) e.contents holds) own e.gives;
          fed = e.fed;
        }) (moves y (same ∙ layout) known_y)))

    pub sum_stops : (count : ℕ) (fault : SumFault) → summed ≤ count
        → ((y : State) → y.geometry ≡ geometry → Known now y → LeadsBy rack area went shared b c y (AddTries y (first + summed) (count - summed) hasher hasher' (Err fault)) (Known new))
        → (x : State) → x.geometry ≡ geometry → Known last x → LeadsBy rack area went shared a c x (SumTries x first count (Err fault)) (Known new)
    sum_stops count fault below moves x layout known =
        leads_as rack area went shared a c x (Both rack area went shared a b c x (SummedSome x first summed hasher) (Known now) (AddTries x (first + summed) (count - summed) hasher hasher' (Err fault)) (Known new)) (SumTries x first count (Err fault)) (Known new)
        (λ holds store d.
        let s = d.first in
        let e = d.second in
        let f = e.did.1 in
        let many = s.many in
        let at = f.object_is in
        let within = f.within in
        let fetched = f.fetched in
        let long = length-append s.contents f.contents in
        let held = length-append d.front e.front in
        let front = gives_length x.geometry x.perms x.store first s.contents d.front s.gives in
        record {
          front = d.front ++ e.front;
          back = e.back;
          are = d.are ∙ (ap (λ hs. d.front ++ hs) e.are ∙ sym (append_assoc d.front e.front e.back));
          did = (
            e.did.0,
            record {
              contents = s.contents ++ f.contents;
              front = d.front ++ f.front;
              back = f.back;
              are = ap (λ hs. d.front ++ hs) f.are ∙ sym (append_assoc d.front f.front f.back);
              object_is = omega (arith, many, at, long);
              within = omega (arith, many, within, long, below);
              gives = gives_append x.geometry x.perms x.store first (first + summed) s.contents f.contents d.front f.front (ap (λ k. first + k) s.many) s.gives f.gives;
              stops = f.stops;
              fetched = omega (arith, held, fetched, front, many, below);
            },
          );
          looks = e.looks;
        })
        (leads_then rack area went shared a b c x (SummedSome x first summed hasher) (Known now) (AddTries x (first + summed) (count - summed) hasher hasher' (Err fault)) (Known new) (some x layout known)
        (λ y same perms front done known_y. leads_as rack area went shared b c y (AddTries y (first + summed) (count - summed) hasher hasher' (Err fault)) (AddTries x (first + summed) (count - summed) hasher hasher' (Err fault)) (Known new)
        (λ holds store e. record {
          front = e.front;
          back = e.back;
          are = e.are;
          did = (e.did.0 ∙ done.same, own_of x y (λ g p t. SumStops g p t (first + summed) (count - summed) fault.object fault.why e.front) (same_own x y front same perms done) e.did.1);
          looks = e.looks;
        }) (moves y (same ∙ layout) known_y)))

  pub sum_done : (last now : ℕ → Option (Shard R A)) (a b : S) (first summed count : ℕ) (hasher : Sha256) (digest : List ℕ) → Summing last now a b first summed hasher → summed ≡ count
      → ((m : List ℕ) → Holds256 hasher m → digest ≡ sha256 m) → (x : State) → x.geometry ≡ geometry → Known last x → LeadsBy rack area went shared a b x (SumTries x first count (Ok digest)) (Known now)
  sum_done last now a b first summed count hasher digest some end is x layout known =
      leads_as rack area went shared a b x (SummedSome x first summed hasher) (SumTries x first count (Ok digest)) (Known now)
      (λ holds store s. (s.same, record { contents = s.contents; many = s.many ∙ end; gives = s.gives; is = is (joined s.contents) s.hashed })) (some x layout known)

-- what is said of a thread's own objects, by the same ones under another name
pub on_owned : {R A S : Type 0} (rack : racks.Ghosts R) (area : areas.Ghosts A) (went : S → ℕ → Shard R A → Shard R A → S → Type 0) (shared : Bool) (now_owns owns : ℕ → Bool) → now_owns ≡ owns → (now new : ℕ → Option (Shard R A)) (table : ℕ → Option Pointer) (seq floor : ℕ) (b c : S) (geometry : Geometry)
    (does : State → List Hold → Store → Type 0)
    → ((y : State) → y.geometry ≡ geometry → Knows rack area now_owns now table seq floor y → LeadsBy rack area went shared b c y (does y) (Knows rack area now_owns new table seq floor))
    → (y : State) → y.geometry ≡ geometry → Knows rack area owns now table seq floor y → LeadsBy rack area went shared b c y (does y) (Knows rack area owns new table seq floor)
on_owned rack area went shared now_owns owns same now new table seq floor b c geometry does moves =
    subst (λ o. (y : State) → y.geometry ≡ geometry → Knows rack area o now table seq floor y → LeadsBy rack area went shared b c y (does y) (Knows rack area o new table seq floor)) same moves
