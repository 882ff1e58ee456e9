-- A shard stands for a metaslab as well where less is known of one block's bytes.
use Rattle.std.proofs.Common.{◌≡◌, ◌⊎◌, inl, inr, ℕ, Bool, true, false, List, Option, Some, None, refl, ap, subst, if◌then◌else◌}
use Rattle.std.specs.Prelude.{IsSome}
use Rattle.draid_rack.specs.Rack.{OnTold, Told}
use Rattle.draid_rack.specs.declared.Rack as racks
use Rattle.draid_area.specs.declared.Area as areas
use Rattle.draid_machine.specs.declared.names.Key.{Key}
use Rattle.draid_machine.specs.Names.{key_eq}
use Rattle.draid_machine.proofs.Small.{bool_cases, key_refl}
use Rattle.draid_segments.specs.Segments.{Backed, Pieces}
use Rattle.draid_segments.proofs.Beginning.{known_backed}
use Rattle.draid_shard.specs.Part.{Part}
use Rattle.draid_shard.specs.States.{layout_by}
use Rattle.draid_shard.specs.declared.shard.Shard.{Shard}
use Rattle.draid_session.specs.State.{Metaslab}
use Rattle.draid_pool.specs.Metaslabs.{IsMetaslab}
use Rattle.draid_pool.proofs.Bytes.{is_none_known, same_bytes}

abbrev pub forget : Key → Pieces → Pieces
forget key pieces k column row = if key_eq key k then None else pieces k column row

pub forget_own : (key : Key) (pieces : Pieces) (column row : ℕ) → forget key pieces key column row ≡ None
forget_own key pieces column row = ap (λ b. if b then None else pieces key column row) (key_refl key)

pub forget_same : (key : Key) (pieces : Pieces) (k : Key) → key_eq key k ≡ false → forget key pieces k ≡ pieces k
forget_same key pieces k other = λ i. λ column. λ row. if other i then None else pieces k column row

module _ {R A : Type 0} (rack : racks.Ghosts R) (area : areas.Ghosts A) where
  pub forgotten : (part : Part) (key : Key) (pieces : Pieces) (shard : Shard R A) (x : Metaslab) → IsMetaslab rack area part pieces shard x → IsMetaslab rack area part (forget key pieces) shard x
  forgotten part key pieces shard x is = record {
    valid = is.valid;
    part_is = is.part_is;
    stands = record { is_in = is.stands.is_in; reached = is.stands.reached; segments = on (rack.told shard.rack) is.stands.segments };
    run = is.run;
    events = is.events;
    limit = is.limit;
    reserved = is.reserved;
    counts = is.counts;
    harm = is.harm;
    records = is.records;
    bytes = λ k h at block column row some. elim (bool_cases (key_eq key k)) [
      | inl one ↦ absurd (is_none_known (forget key pieces k column row) (ap (λ b. if b then None else pieces k column row) one) some)
      | inr other ↦ (let same = forget_same key pieces k other in
          same_bytes part.geometry h k pieces (forget key pieces) same (is.bytes k h at block column row (subst (λ (f : ℕ → ℕ → Option (List ℕ)). IsSome (f column row)) same some)))
    ];
  }
    where
      less : (k : Key) (column row : ℕ) (b : Bool) → key_eq key k ≡ b → (forget key pieces k column row ≡ pieces k column row) ⊎ (forget key pieces k column row ≡ None)
      less k column row true one = inr (ap (λ b. if b then None else pieces k column row) one)
      less k column row false other = inl (ap (λ b. if b then None else pieces k column row) other)

      on : (o : Option Told) → OnTold o (Backed (layout_by shard) pieces x.world) → OnTold o (Backed (layout_by shard) (forget key pieces) x.world)
      on None b = tt
      on (Some t) b = known_backed (layout_by shard) x.world pieces (forget key pieces) t (λ k column row. less k column row (key_eq key k) refl) b
