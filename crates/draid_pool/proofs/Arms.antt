-- Metaslabs that have the same arms, and numbers of leaves, as calls leave them.
use Rattle.std.proofs.Common.{◌≡◌, ◌==◌, ◌&&◌, ◌<◌, ◌∙◌, inl, inr, ℕ, zero, suc, true, List, [], ◌∷◌, Some, None, IsSome, Contains, arith, refl, sym, ap, subst, length, map, slice_index_or}
use Rattle.std.specs.Prelude.{filter, nat_lt, option_map, slice_get}
use Rattle.std.proofs.lemmas.List.{length-map}
use Rattle.std.proofs.lemmas.Option.{slice_get_within}
use Rattle.std.specs.List.{list_any}
use Rattle.draid_names.specs.declared.arm.Arm.{Arm}
use Rattle.draid_names.specs.declared.arm.ArmKind.{ArmKind}
use Rattle.draid_names.specs.declared.arm.ArmKind.TheVariants as kind
use Rattle.draid_machine.specs.declared.names.ArmName.{ArmName}
use Rattle.draid_machine.specs.declared.names.ArmName.TheVariants.{Leaf}
use Rattle.draid_machine.specs.State as machine
use Rattle.draid_machine.proofs.Small.{absurd_test, none_some}
use Rattle.draid_slots.specs.States.{HasSlots, name_of}
use Rattle.draid_machine.specs.Names.{named}
use Rattle.draid_slots.specs.declared.slot.Detached.{Detached}
use Rattle.draid_slots.specs.Changes.{Commits, IsSame}
use Rattle.draid_slots.specs.Table.{SlotTable, arms_of, is_leaf_kind}
use Rattle.draid_shard.specs.Alike.{AreSameArms, HaveSameArms, IsSameArm, KeepsArms, ShareArms}
use Rattle.draid_shard.specs.Fits.{IsLeaf}
use Rattle.draid_shard.specs.declared.shard.Shard.{Shard}
use Rattle.draid_shard.proofs.Among.{any_kept}
use Rattle.draid_shard.proofs.Staging.{leaf_was}
use Rattle.draid_pool.specs.Importable.{SameArms, bare}
use Rattle.draid_pool.proofs.Lists.{present, some_of}

-- those that have the first one's arms have one another's
same_from : (ps qs rs : List Arm) → AreSameArms ps qs → AreSameArms ps rs → AreSameArms qs rs
same_from ps qs rs one other = record {
  many = sym one.many ∙ other.many;
  each = λ k q r at there.
      (let inside = slice_get_within qs k q at in
      let many = one.many in
      let p = present ps k (omega (arith, inside, many)) in
      let x = one.each k p.0 q p.1 at in
      let y = other.each k p.0 r p.1 there in
      record { kind_is = sym x.kind_is ∙ y.kind_is; number_is = sym x.number_is ∙ y.number_is; offline_is = sym x.offline_is ∙ y.offline_is });
}

pub have_from : (first a b : SlotTable) → HaveSameArms first a → HaveSameArms first b → HaveSameArms a b
have_from first a b one other = record {
  children = other.children ∙ sym one.children;
  slots = λ slot below.
      (let inside : slot < first.geometry.spec.children = subst (λ n. slot < n) one.children below in
      same_from (arms_of first slot) (arms_of a slot) (arms_of b slot) (one.slots slot inside) (other.slots slot inside));
}

-- and one behind another
same_then : (ps qs rs : List Arm) → AreSameArms ps qs → AreSameArms qs rs → AreSameArms ps rs
same_then ps qs rs one other = record {
  many = one.many ∙ other.many;
  each = λ k p r at there.
      (let inside = slice_get_within ps k p at in
      let many = one.many in
      let q = present qs k (omega (arith, inside, many)) in
      let x = one.each k p q.0 at q.1 in
      let y = other.each k q.0 r q.1 there in
      record { kind_is = x.kind_is ∙ y.kind_is; number_is = x.number_is ∙ y.number_is; offline_is = x.offline_is ∙ y.offline_is });
}

pub have_then : (a b c : SlotTable) → HaveSameArms a b → HaveSameArms b c → HaveSameArms a c
have_then a b c one other = record {
  children = other.children ∙ one.children;
  slots = λ slot below.
      same_then (arms_of a slot) (arms_of b slot) (arms_of c slot) (one.slots slot below) (other.slots slot (subst (λ n. slot < n) (sym one.children) below));
}

pub share_then : (a b c : SlotTable) → ShareArms a b → ShareArms b c → ShareArms a c
share_then a b c one other = record { arms = have_then a b c one.arms other.arms; detached = other.detached ∙ one.detached }

-- where each of two has the same arms as before, they have one another's as before
pub have_both : (a b a' b' : SlotTable) → HaveSameArms a a' → HaveSameArms b b' → HaveSameArms a b → HaveSameArms a' b'
have_both a b a' b' one other s = have_from a a' b' one (have_then a b b' s other)

pub share_both : (a b a' b' : SlotTable) → ShareArms a a' → ShareArms b b' → ShareArms a b → ShareArms a' b'
share_both a b a' b' one other s = record { arms = have_both a b a' b' one.arms other.arms s.arms; detached = other.detached ∙ (s.detached ∙ sym one.detached) }

-- arms that stay are the same
same_stay : (ps : List Arm) → AreSameArms ps ps
same_stay ps = record {
  many = refl;
  each = λ k p q a b.
      (let e : p ≡ q = some_of (slice_get ps k) p q a b in record { kind_is = ap (λ (z : Arm). z.kind) e; number_is = ap (λ (z : Arm). z.number) e; offline_is = ap (λ (z : Arm). z.offline) e });
}

pub have_stay : (old new : SlotTable) → IsSame old new → new.arms ≡ old.arms → HaveSameArms old new
have_stay old new same stay = record {
  children = ap (λ g. g.spec.children) same.geometry_is;
  slots = λ slot less. subst (λ (lists : List (List Arm)). AreSameArms (slice_index_or old.arms slot []) (slice_index_or lists slot [])) (sym stay) (same_stay (slice_index_or old.arms slot []));
}

pub shares_kept : (old new : SlotTable) → KeepsArms old new → ShareArms old new
shares_kept old new kept = record { arms = have_stay old new kept.same kept.arms_stay; detached = kept.detached_stay }

-- where the arms stay and the same detachments are left
pub share_by : (a b a' b' : SlotTable) → IsSame a a' → IsSame b b' → a'.arms ≡ a.arms → b'.arms ≡ b.arms → b'.detached ≡ a'.detached → ShareArms a b → ShareArms a' b'
share_by a b a' b' one other first second detached s = record {
  arms = record {
    children = ap (λ g. g.spec.children) other.geometry_is ∙ (s.arms.children ∙ sym (ap (λ g. g.spec.children) one.geometry_is));
    slots = λ slot below.
        subst (λ (ps : List (List Arm)). AreSameArms (slice_index_or ps slot []) (arms_of b' slot)) (sym first)
        (subst (λ (qs : List (List Arm)). AreSameArms (arms_of a slot) (slice_index_or qs slot [])) (sym second)
        (s.arms.slots slot (subst (λ g. slot < g.spec.children) one.geometry_is below)));
  };
  detached = detached;
}

-- each two shards have the same arms
abbrev pub AllShare : {R A : Type 0} → List (Shard R A) → Type 0
AllShare {R} {A} shards = (m n : ℕ) (a b : Shard R A) → slice_get shards m ≡ Some a → slice_get shards n ≡ Some b → ShareArms a.slots b.slots

-- the shard that stood at a place had the same arms
pub record Shared {R A : Type 0} (old : List (Shard R A)) (k : ℕ) (z : Shard R A) : Type 0 where
  pub before : Shard R A
  pub there : slice_get old k ≡ Some before
  pub slots : ShareArms before.slots z.slots

pub all_shared : {R A : Type 0} (old new : List (Shard R A)) → ((k : ℕ) (z : Shard R A) → slice_get new k ≡ Some z → Shared old k z) → AllShare old → AllShare new
all_shared old new had share m n a b at here =
    let p = had m a at in
    let q = had n b here in
    share_both p.before.slots q.before.slots a.slots b.slots p.slots q.slots (share m n p.before q.before p.there q.there)

-- the shard that stood at a place kept its arms
pub record Kept {R A : Type 0} (old : List (Shard R A)) (k : ℕ) (z : Shard R A) : Type 0 where
  pub before : Shard R A
  pub there : slice_get old k ≡ Some before
  pub slots : KeepsArms before.slots z.slots

pub all_kept : {R A : Type 0} (old new : List (Shard R A)) → ((k : ℕ) (z : Shard R A) → slice_get new k ≡ Some z → Kept old k z) → AllShare old → AllShare new
all_kept old new kept share =
    all_shared old new (λ k z at. (let p = kept k z at in record { before = p.before; there = p.there; slots = shares_kept p.before.slots z.slots p.slots })) share

-- a leaf is one that there was
pub leaf_kept : (old new : SlotTable) (leaf : ℕ) → KeepsArms old new → IsLeaf new leaf → IsLeaf old leaf
leaf_kept old new leaf kept is = leaf_was old new leaf kept.arms_stay kept.detached_stay is

-- ---- states

mapped_at : {A B : Type 0} (f : A → B) (xs ys : List A) (k : ℕ) (p q : A) → map f xs ≡ map f ys → slice_get xs k ≡ Some p → slice_get ys k ≡ Some q → f p ≡ f q
mapped_at f xs ys k p q same a b = some_of (slice_get (map f ys) k) (f p) (f q) (ap (λ zs. slice_get zs k) (sym same) ∙ get_map f xs k p a) (get_map f ys k q b)
  where
    get_map : {A B : Type 0} (f : A → B) (xs : List A) (k : ℕ) (p : A) → slice_get xs k ≡ Some p → slice_get (map f xs) k ≡ Some (f p)
    get_map f [] k p a = absurd (cc)
    get_map f (x ∷ xs) zero p a = ap (λ (y : _). Some (f y)) (some_of (Some p) x p (sym a) refl)
    get_map f (x ∷ xs) (suc k) p a = get_map f xs k p a

-- arms of one name are of one kind and number
pub same_names : (a b : ArmKind) (m n : ℕ) → named a m ≡ named b n → (a ≡ b) × (m ≡ n)
same_names kind.Leaf kind.Leaf m n is = (refl, cc)
same_names kind.Leaf kind.Spare m n is = absurd (cc)
same_names kind.Spare kind.Leaf m n is = absurd (cc)
same_names kind.Spare kind.Spare m n is = (refl, cc)

one_arm : (a b : machine.Arm) → Some a ≡ Some b → a ≡ b
one_arm a b is = cc

-- metaslabs whose states have the same arms
module _ (a b : SlotTable) (v w : machine.Core) (first : HasSlots a v) (second : HasSlots b w) (same : SameArms v w) where
  order : (slot : ℕ) → map name_of (arms_of a slot) ≡ map name_of (arms_of b slot)
  order slot = sym (first.order slot) ∙ (same.order slot ∙ second.order slot)

  -- the slots of their shards have as many arms
  pub as_many : (slot : ℕ) → length (arms_of a slot) ≡ length (arms_of b slot)
  as_many slot = sym (length-map (arms_of a slot) name_of) ∙ (ap length (order slot) ∙ length-map (arms_of b slot) name_of)

  -- and one after another the same
  pub arms_same : (slot k : ℕ) (p q : Arm) → slice_get (arms_of a slot) k ≡ Some p → slice_get (arms_of b slot) k ≡ Some q → IsSameArm p q
  arms_same slot k p q at there =
      let name = mapped_at name_of (arms_of a slot) (arms_of b slot) k p q (order slot) at there in
      let is = same_names p.kind q.kind p.number q.number name in
      let one = ap (option_map bare) (first.arms (record { slot = slot; arm = k }) p at) in
      let other = ap (option_map bare) (second.arms (record { slot = slot; arm = k }) q there) in
      let offline = sym one ∙ (ap (λ n. option_map bare (v.arm n)) name ∙ (same.arms (name_of q) ∙ other)) in
      record { kind_is = is.0; number_is = is.1; offline_is = ap (λ (a : machine.Arm). a.offline) (one_arm _ _ offline) }

  pub have_same : b.geometry.spec.children ≡ a.geometry.spec.children → HaveSameArms a b
  have_same children = record { children = children; slots = λ slot below. record { many = as_many slot; each = arms_same slot } }

-- where a state has no detached arm, none was detached
pub none_detached : (slots : SlotTable) (q : machine.Core) → HasSlots slots q → ((n : ArmName) (a : machine.Arm) → q.arm n ≡ Some a → a.gone ≡ None) → slots.detached ≡ []
none_detached slots q has none = by slots.detached refl
  where
    by : (list : List Detached) → slots.detached ≡ list → list ≡ []
    by [] are = refl
    by (gone ∷ rest) are =
        let z = has.detached gone (subst (λ (list : List Detached). Contains list gone) (sym are) (let here : Contains (gone ∷ rest) gone = (0, (let less : 0 < suc (length rest) = omega arith in less), refl) in here)) in
        absurd (none_some z.arm.gone _ (none (named gone.kind gone.number) z.arm z.there) z.by)

-- and its leaves are arms of the state
pub leaf_named : (slots : SlotTable) (q : machine.Core) (leaf : ℕ) → HasSlots slots q → slots.detached ≡ [] → IsLeaf slots leaf → IsSome (q.arm (Leaf leaf))
leaf_named slots q leaf has none (inl (at, arm, there, kind_is, number)) =
    subst (λ n. IsSome (q.arm n)) (ap (λ k. named k arm.number) kind_is ∙ ap (λ (m : ℕ). Leaf m) number) (subst IsSome (sym (has.arms at arm there)) refl)
leaf_named slots q leaf has none (inr gone) =
    absurd_test (list_any (λ (gone : Detached). is_leaf_kind gone.kind && (gone.number == leaf)) slots.detached) gone
    (ap (λ (list : List Detached). list_any (λ (gone : Detached). is_leaf_kind gone.kind && (gone.number == leaf)) list) none)

-- ---- a group is committed

-- a leaf that is left was one
pub leaf_left : (group : ℕ) (old new : SlotTable) (leaf : ℕ) → Commits old new group → IsLeaf new leaf → IsLeaf old leaf
leaf_left group old new leaf c (inl it) = inl (it.0, it.1, ap (λ arms. slice_get (slice_index_or arms it.0.slot []) it.0.arm) (sym c.arms_stay) ∙ it.2, it.3, it.4)
leaf_left group old new leaf c (inr gone) =
    inr (any_kept (λ (gone : Detached). is_leaf_kind gone.kind && (gone.number == leaf)) (λ (gone : Detached). nat_lt group gone.group) old.detached
    (subst (λ (list : List Detached). list_any (λ (gone : Detached). is_leaf_kind gone.kind && (gone.number == leaf)) list ≡ true) c.detached_later gone))

pub share_left : (group : ℕ) (a b a' b' : SlotTable) → Commits a a' group → Commits b b' group → ShareArms a b → ShareArms a' b'
share_left group a b a' b' one other s =
    share_by a b a' b' one.same other.same one.arms_stay other.arms_stay
    (other.detached_later ∙ (ap (λ (list : List Detached). filter (λ (gone : Detached). nat_lt group gone.group) list) s.detached ∙ sym one.detached_later)) s
