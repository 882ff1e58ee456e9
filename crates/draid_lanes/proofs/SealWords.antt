-- A group that is closed in all metaslabs by a lane, and sealed in more and more of them, however often the lane waits in between.
use Rattle.std.proofs.Common.{◌≡◌, ◌==◌, ◌<◌, ◌≤◌, ◌+◌, ◌++◌, ◌∷◌, ◌∙◌, ◌⊎◌, [], inl, inr, ℕ, zero, suc, Bool, true, List, Option, Some, Ok, arith, refl, sym, ap, subst, if◌then◌else◌, ne_eqb}
use Rattle.std.proofs.lemmas.Bool.{cases_lt}
use Rattle.std.proofs.lemmas.List.{append-nil, append_assoc}
use Rattle.draid_rack.specs.declared.Rack as racks
use Rattle.draid_area.specs.declared.Area as areas
use Rattle.draid_segments.specs.Segments.{Pieces}
use Rattle.draid_session.specs.Groups as groups
use Rattle.draid_session.specs.Holds.{Hold}
use Rattle.draid_session.specs.Lanes.{IsLookOnly, LeavesLooks}
use Rattle.draid_session.specs.State.{Metaslab, State}
use Rattle.draid_shard.specs.declared.shard.Shard.{Shard}
use Rattle.draid_pool.specs.Drifts.{groups_number}
use Rattle.draid_pool.specs.Grouping.{ClosesIn, CommitsNext, SealsBy, SealsNext, SeesClosing, WaitsForWrites}
use Rattle.draid_pool.specs.Metaslabs.{IsMetaslab}
use Rattle.draid_pool.specs.Pools.{part_in}
use Rattle.draid_pool.specs.Rounds.{EachIs}
use Rattle.draid_pool.proofs.GroupKeeps.{closed_seals, commit_ready, seal_ready, sealed_again, sealed_commits}
use Rattle.draid_pool.proofs.Holding.{some_same}
use Rattle.draid_pool.proofs.RoundSteps.{each_more, each_stays}
use Rattle.draid_pool.proofs.Walks.{Walked, walked_more}
use Rattle.draid_lanes.specs.Governing.{lane_last}
use Rattle.draid_lanes.specs.declared.locked.Locked.{Locked}
use Rattle.draid_lanes.proofs.OneTurn.{HasCame, Once, gone}
use Rattle.draid_lanes.proofs.OnlyLooking.{Looks, close_looks, look_leaves, same_looks, seal_looks}
use Rattle.draid_lanes.proofs.RoundWords.{Each, From, IsOneOf, Says, TellsAt, looks_end, round_said, said_as, said_on, said_one}

-- ---- looks that are left out

pub leaves_self : (hs : List Hold) → LeavesLooks hs hs
leaves_self [] = refl
leaves_self (hold ∷ hs) = inr (hs, refl, leaves_self hs)

pub leaves_then : (a b c d : List Hold) → LeavesLooks a b → LeavesLooks c d → LeavesLooks (a ++ c) (b ++ d)
leaves_then [] b c d l r = subst (λ hs. LeavesLooks c (hs ++ d)) (sym l) r
leaves_then (hold ∷ a) b c d (inl l) r = inl (l.0, leaves_then a b c d l.1 r)
leaves_then (hold ∷ a) b c d (inr l) r = inr (l.0 ++ d, ap (λ hs. hs ++ d) l.1, leaves_then a l.0 c d l.2 r)

-- a look behind
pub leaves_look : (a b c : List Hold) → LeavesLooks a b → IsOneOf IsLookOnly c → LeavesLooks (a ++ c) b
leaves_look a b c l one =
    subst (LeavesLooks (a ++ c)) (append-nil b)
    (leaves_then a b c [] l (subst (λ hs. LeavesLooks hs []) (sym one.are) (inl (one.is, refl))))

-- where numbers are none
pub walked_zero : (P : ℕ → Hold → Type 0) (m n : ℕ) (hs : List Hold) (sum : ℕ) (Q : ℕ → Hold → ℕ → Type 0) → ((k : ℕ) (h : Hold) → P k h → Q k h 0) → Walked (λ k h none. P k h) m n hs sum → Walked Q m n hs 0
walked_zero P m zero hs sum Q so w = (w.0, refl)
walked_zero P m (suc n) hs sum Q so w = (w.0, w.1, 0, 0, w.4, refl, so m w.0 w.6, walked_zero P (m + 1) n w.1 w.3 Q so w.7)

-- but for looks, a group was closed in all and sealed in the first so many
pub record SealedUpto (x : State) (count group k sum : ℕ) (hs : List Hold) : Type 0 where
  pub closes : List Hold
  pub seals : List Hold
  pub leaves : LeavesLooks hs (closes ++ seals)
  pub closed : Walked (groups.Closes x.geometry x.perms group) 0 count closes 0
  pub sealed : Walked (groups.Seals x.geometry x.perms group) 0 k seals sum

-- a group is closed in a metaslab
abbrev pub CloseOne : {R A : Type 0} → racks.Ghosts R → areas.Ghosts A → ℕ → ℕ → Shard R A → Shard R A → Type 0
CloseOne rack area group n before after = ClosesIn rack area group before (Ok tt) after

-- it is sealed there, and so many of its blocks are thin
abbrev pub SealOne : {R A : Type 0} → racks.Ghosts R → areas.Ghosts A → ℕ → ℕ → Shard R A → Shard R A → Type 0
SealOne rack area group n before after = SealsBy rack area group before (Ok n) after

module _ {R A : Type 0} (rack : racks.Ghosts R) (area : areas.Ghosts A) (x : State) (group : ℕ) where
  pub tells_close : (n m : ℕ) (before after : Shard R A) → CloseOne rack area group n before after → TellsAt rack area x m (λ hold. groups.Closes x.geometry x.perms group m hold 0) before after
  tells_close n m before after c pieces y is = (let t = c.closes (part_in x m) pieces y is in record { act = t.act; reached = t.reached; acts = t.acts; done = t.done.0; is = t.is })

  pub tells_seal : (n m : ℕ) (before after : Shard R A) → SealOne rack area group n before after → TellsAt rack area x m (λ hold. groups.Seals x.geometry x.perms group m hold n) before after
  tells_seal n m before after s pieces y is = (let t = s.seals (part_in x m) pieces y is in record { act = t.act; reached = t.reached; acts = t.acts; done = t.done.0; is = t.is })

more_sealed : (x : State) (count group k sum n : ℕ) (hs ks : List Hold) → SealedUpto x count group k sum hs → IsOneOf (λ hold. groups.Seals x.geometry x.perms group k hold n) ks → SealedUpto x count group (suc k) (sum + n) (hs ++ ks)
more_sealed x count group k sum n hs ks d one = record {
  closes = d.closes;
  seals = d.seals ++ one.hold ∷ [];
  leaves = subst (LeavesLooks (hs ++ ks)) (append_assoc d.closes d.seals (one.hold ∷ []))
      (leaves_then hs (d.closes ++ d.seals) ks (one.hold ∷ []) d.leaves (subst (λ l. LeavesLooks l (one.hold ∷ [])) (sym one.are) (leaves_self (one.hold ∷ []))));
  closed = d.closed;
  sealed = walked_more (groups.Seals x.geometry x.perms group) 0 k d.seals sum one.hold n d.sealed (subst (λ m. groups.Seals x.geometry x.perms group m one.hold n) (let same : k ≡ 0 + k = omega arith in same) one.is);
}

module _ {R A G W : Type 0} (rack : racks.Ghosts R) (area : areas.Ghosts A) (x : State) (owns : ℕ → Bool) (own : owns groups_number ≡ true) (count : ℕ) where
  -- ---- what a round leaves

  -- what each hold makes so is so of each
  pub each_is : (is : Shard R A → Type 0) (does : ℕ → Shard R A → Shard R A → Type 0) → ((n : ℕ) (before after : Shard R A) → does n before after → is after) → (n sum : ℕ) (a b : Locked R A G W) → Each rack area x owns does n a sum b → EachIs n is (lane_last b)
  each_is is does so zero sum a b each = λ m less. absurd (omega (arith, less))
  each_is is does so (suc n) sum a b (mid, some, more, each, once, adds) =
      subst (λ k. EachIs k is (lane_last b)) (let same : n + 1 ≡ suc n = omega arith in same)
      (each_more is (lane_last mid) (lane_last b) n once.after once.is (so more once.before once.after once.did) (each_is is does so n some a mid each))

  -- what is so of one as it was left
  at_is : (is : Shard R A → Type 0) (n m : ℕ) (a : Locked R A G W) (shard : Shard R A) → m < n → lane_last a m ≡ Some shard → EachIs n is (lane_last a) → is shard
  at_is is n m a shard less there each = (let z = each m less in subst is (some_same z.0 shard (sym z.1 ∙ there)) z.2)

  -- those before the one that was held are as they were
  each_away : (is : Shard R A → Type 0) (b c : Locked R A G W) (m n : ℕ) (after : Shard R A) → n ≤ m → ((k : ℕ) → lane_last c k ≡ (if k == m then Some after else lane_last b k)) → EachIs n is (lane_last b) → EachIs n is (lane_last c)
  each_away is b c m n after low sets each k less =
      (let z = each k less in (z.0, sets k ∙ (ap (λ t. if t then Some after else lane_last b k) (ne_eqb k m (λ same. omega (arith, same, less, low))) ∙ z.1), z.2))

  -- ---- closing and sealing

  module _ (group : ℕ) where
    -- so in a lane's metaslabs
    pub record Sealing (a b : Locked R A G W) (k sum : ℕ) : Type 0 where
      pub said : Says rack area x a b [] (SealedUpto x count group k sum)
      pub closing : EachIs count (SealsNext rack group) (lane_last b)
      pub sealed : EachIs k (CommitsNext rack group) (lane_last b)

    -- ---- it is closed

    pub closed_all : (a b : Locked R A G W) (sum : ℕ) → Each rack area x owns (CloseOne rack area group) count a sum b → HasCame rack area x a → Sealing a b 0 0
    closed_all a b sum each came = record {
      said = said_as rack area x a b [] (λ hs. Walked (λ m hold none. groups.Closes x.geometry x.perms group m hold 0) 0 count hs sum) (SealedUpto x count group 0 0)
          (round_said rack area x owns (CloseOne rack area group) (λ m hold none. groups.Closes x.geometry x.perms group m hold 0) (tells_close rack area x group) (λ n m v key w is. is) count sum a b each came)
          (λ hs w. record {
            closes = hs;
            seals = [];
            leaves = subst (LeavesLooks hs) (sym (append-nil hs)) (leaves_self hs);
            closed = walked_zero (λ m hold. groups.Closes x.geometry x.perms group m hold 0) 0 count hs sum (groups.Closes x.geometry x.perms group) (λ m hold is. is) w;
            sealed = (refl, refl);
          });
      closing = each_is (SealsNext rack group) (CloseOne rack area group) (λ n before after. closed_seals rack area group before after) count sum a b each;
      sealed = λ m less. absurd (omega (arith, less));
    }

    -- ---- one more is sealed

    pub seals_one : (a b c : Locked R A G W) (k sum n : ℕ) → k < count → Sealing a b k sum → Once rack area x owns (SealOne rack area group n) b k c → Sealing a c (suc k) (sum + n)
    seals_one a b c k sum n less s once = record {
      said = said_on rack area x a b c [] [] (SealedUpto x count group k sum) (IsOneOf (λ hold. groups.Seals x.geometry x.perms group k hold n)) (SealedUpto x count group (suc k) (sum + n)) s.said
          (said_one rack area x owns (SealOne rack area group n) (λ hold. groups.Seals x.geometry x.perms group k hold n) b k c once s.said.came (tells_seal rack area x group n k once.before once.after once.did) (λ v key w is. is)) (λ hs ks. more_sealed x count group k sum n hs ks);
      closing = each_stays (SealsNext rack group) (lane_last b) (lane_last c) k once.after once.is (sealed_again rack area group n once.before once.after once.did) count s.closing;
      sealed = subst (λ j. EachIs j (CommitsNext rack group) (lane_last c)) (let same : k + 1 ≡ suc k = omega arith in same)
          (each_more (CommitsNext rack group) (lane_last b) (lane_last c) k once.after once.is (sealed_commits rack area group n once.before once.after once.did) s.sealed);
    }

    -- so are so many from there on
    pub seals_from : (a b c : Locked R A G W) (k n sum more : ℕ) → k + n ≤ count → Sealing a b k sum → From rack area x owns (SealOne rack area group) k n b more c → Sealing a c (k + n) (sum + more)
    seals_from a b c k zero sum more below s each =
        subst (λ j. Sealing a c j (sum + more)) (let same : k ≡ k + 0 = omega arith in same)
        (subst (Sealing a c k) (let none = each.1 in let same : sum ≡ sum + more = omega (arith, none) in same) (subst (λ d. Sealing a d k sum) (sym each.0) s))
    seals_from a b c k (suc n) sum more below s (mid, some, last, each, once, adds) =
        subst (λ j. Sealing a c j (sum + more)) (let same : suc (k + n) ≡ k + suc n = omega arith in same)
        (subst (Sealing a c (suc (k + n))) (let same : (sum + some) + last ≡ sum + more = omega (arith, adds) in same)
        (seals_one a mid c (k + n) (sum + some) last (omega (arith, below)) (seals_from a b mid k n sum some (omega (arith, below)) s each) once))

    -- ---- looks

    -- what a hold found is what it was as it was left, as far as groups go
    pub was_closing : (does : Shard R A → Shard R A → Type 0) (a b : Locked R A G W) (m : ℕ) (h : Once rack area x owns does a m b) → m < count → EachIs count (SealsNext rack group) (lane_last a) → SealsNext rack group h.before
    was_closing does a b m h less each = seal_ready rack area true owns own group h.shard h.before h.drifts (at_is (SealsNext rack group) count m a h.shard less h.there each)

    pub was_sealed : (does : Shard R A → Shard R A → Type 0) (a b : Locked R A G W) (k m : ℕ) (h : Once rack area x owns does a m b) → m < k → EachIs k (CommitsNext rack group) (lane_last a) → CommitsNext rack group h.before
    was_sealed does a b k m h less each = commit_ready rack area true owns own group h.shard h.before h.drifts (at_is (CommitsNext rack group) k m a h.shard less h.there each)

    pub look_on : (does : Shard R A → Shard R A → Type 0) (a b c : Locked R A G W) (k sum m : ℕ) → m < count → Sealing a b k sum → (h : Once rack area x owns does b m c)
        → ((pieces : Pieces) (y : Metaslab) (is : IsMetaslab rack area (part_in x m) pieces h.before y) → Looks rack area (part_in x m) pieces h.before h.after y is) → Sealing a c k sum
    look_on does a b c k sum m less s h looks =
        let g = gone rack area x owns does b m c h s.said.came in
        let t = looks g.now g.reached g.is in
        let left = look_leaves rack area (part_in x m) g.now h.before h.after g.reached g.is t in
        let closing = was_closing does b c m h less s.closing in
        record {
          said = said_on rack area x a b c [] [] (SealedUpto x count group k sum) (IsOneOf IsLookOnly) (SealedUpto x count group k sum) s.said (said_one rack area x owns does IsLookOnly b m c h s.said.came looks looks_end)
              (λ hs ks d one. record { closes = d.closes; seals = d.seals; leaves = leaves_look hs (d.closes ++ d.seals) ks d.leaves one; closed = d.closed; sealed = d.sealed });
          closing = each_stays (SealsNext rack group) (lane_last b) (lane_last c) m h.after h.is (record { valid = t.is.valid; closing = left.closing ∙ closing.closing }) count s.closing;
          sealed = elim (cases_lt m k) [
            | inl under ↦
                let sealed = was_sealed does b c k m h under s.sealed in
                each_stays (CommitsNext rack group) (lane_last b) (lane_last c) m h.after h.is (record { valid = t.is.valid; closing = left.closing ∙ sealed.closing; sealed = left.sealed ∙ sealed.sealed }) k s.sealed
            | inr from ↦ each_away (CommitsNext rack group) b c m k h.after from h.is s.sealed
          ];
        }

    -- a round that only looks
    pub looks_on : (does : ℕ → Shard R A → Shard R A → Type 0) (a b : Locked R A G W) (k sum : ℕ)
        → ((n m : ℕ) (before after : Shard R A) → does n before after → SealsNext rack group before → (pieces : Pieces) (y : Metaslab) (is : IsMetaslab rack area (part_in x m) pieces before y) → Looks rack area (part_in x m) pieces before after y is)
        → Sealing a b k sum → (n none : ℕ) (c : Locked R A G W) → n ≤ count → Each rack area x owns does n b none c → Sealing a c k sum
    looks_on does a b k sum so s zero none c low each = subst (λ d. Sealing a d k sum) (sym each.0) s
    looks_on does a b k sum so s (suc n) none c low (mid, some, more, each, once, adds) =
        let front = looks_on does a b k sum so s n some mid (omega (arith, low)) each in
        look_on (does more) a mid c k sum n (omega (arith, low)) front once (so more n once.before once.after once.did (was_closing (does more) mid c n once (omega (arith, low)) front.closing))

    -- it is closing in all already
    pub closes_upto : (a b c : Locked R A G W) (k sum n none : ℕ) → n ≤ count → Sealing a b k sum → Each rack area x owns (CloseOne rack area group) n b none c → Sealing a c k sum
    closes_upto a b c k sum n none low s each =
        looks_on (CloseOne rack area group) a b k sum (λ n m before after did closing pieces y is. close_looks rack area (part_in x m) pieces before after y is group closing.closing did) s n none c low each

    pub closes_again : (a b c : Locked R A G W) (k sum none : ℕ) → Sealing a b k sum → Each rack area x owns (CloseOne rack area group) count b none c → Sealing a c k sum
    closes_again a b c k sum none s each = closes_upto a b c k sum count none (omega arith) s each

    -- what is looked for
    pub finds_again : (found : Option ℕ) (a b c : Locked R A G W) (k sum n none : ℕ) → n ≤ count → Sealing a b k sum → Each rack area x owns (λ none before after. SeesClosing found before after) n b none c → Sealing a c k sum
    finds_again found a b c k sum n none low s each =
        looks_on (λ none before after. SeesClosing found before after) a b k sum (λ n m before after did closing pieces y is. same_looks rack area (part_in x m) pieces before after y is did.0) s n none c low each

    pub sees_again : (found : Option ℕ) (a b c : Locked R A G W) (k sum m : ℕ) → m < count → Sealing a b k sum → Once rack area x owns (λ before after. SeesClosing found before after) b m c → Sealing a c k sum
    sees_again found a b c k sum m less s once =
        look_on (λ before after. SeesClosing found before after) a b c k sum m less s once (λ pieces y is. same_looks rack area (part_in x m) pieces once.before once.after y is once.did.0)

    -- open writes are in the way
    pub waits_on : (a b c : Locked R A G W) (k sum m : ℕ) → m < count → Sealing a b k sum → Once rack area x owns (λ before after. WaitsForWrites group before after) b m c → Sealing a c k sum
    waits_on a b c k sum m less s once =
        look_on (λ before after. WaitsForWrites group before after) a b c k sum m less s once (λ pieces y is. same_looks rack area (part_in x m) pieces once.before once.after y is once.did.same)

    -- ---- it is sealed again from the first one on

    -- so many were gone through: those that were sealed were looked at, and the others are sealed then
    pub data SealedTo (a c : Locked R A G W) (k sum n : ℕ) : Type 0 where
      Under : n ≤ k → Sealing a c k sum → SealedTo a c k sum n
      Behind : (all : ℕ) → k ≤ n → Sealing a c n all → SealedTo a c k sum n

    pub seals_again : (a b : Locked R A G W) (k sum : ℕ) → Sealing a b k sum → (n more : ℕ) (c : Locked R A G W) → n ≤ count → Each rack area x owns (SealOne rack area group) n b more c → SealedTo a c k sum n
    seals_again a b k sum s zero more c low each = Under (omega arith) (subst (λ d. Sealing a d k sum) (sym each.0) s)
    seals_again a b k sum s (suc n) more c low (mid, some, last, each, once, adds) = by (seals_again a b k sum s n some mid (omega (arith, low)) each)
      where
        less : n < count
        less = omega (arith, low)

        by : SealedTo a mid k sum n → SealedTo a c k sum (suc n)
        by (Under under t) = at (cases_lt n k)
          where
            at : (n < k) ⊎ (k ≤ n) → SealedTo a c k sum (suc n)
            at (inl below) =
                let sealed = was_sealed (SealOne rack area group last) mid c k n once below t.sealed in
                Under (omega (arith, below)) (look_on (SealOne rack area group last) a mid c k sum n less t once (λ pieces y is. seal_looks rack area (part_in x n) pieces once.before once.after y is group last sealed.sealed once.did))
            at (inr from) =
                let same : k ≡ n = omega (arith, under, from) in
                Behind (sum + last) (omega (arith, from)) (seals_one a mid c n sum last less (subst (λ j. Sealing a mid j sum) same t) once)
        by (Behind all from t) = Behind (all + last) (omega (arith, from)) (seals_one a mid c n all last less t once)
