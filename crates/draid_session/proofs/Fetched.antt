-- What a read comes to whose hold sees that the block can be read.
use Rattle.std.proofs.Common.{◌≡◌, ◌∙◌, ℕ, Bool, List, [], ◌∷◌, Option, Some, refl, sym, ap, subst}
use Rattle.std.specs.Prelude.{MatchOption, ⊤}
use Rattle.draid_spec.specs.declared.layout.Geometry.{Geometry}
use Rattle.draid_perm.specs.declared.perms.Perms.{Perms}
use Rattle.draid_objects.specs.Changes.{Write, key_of, write_of}
use Rattle.draid_reply.specs.declared.reply.Reply.{Reply}
use Rattle.draid_reply.specs.declared.reply.Reply.TheVariants.{Contents, NoMemory, NoObject, ReadWorn, Unreadable}
use Rattle.draid_script.specs.declared.name.CommandName.TheVariants as name
use Rattle.draid_script.specs.Line.{ReadObject}
use Rattle.draid_segments.specs.Reads.{MoreBad}
use Rattle.draid_session.specs.Choices.{Choices}
use Rattle.draid_session.specs.Does.{Does}
use Rattle.draid_session.specs.Holds.{Hold, layout_at}
use Rattle.draid_session.specs.LanesCalm.{FetchesReadable, LooksWorn, ReadsOwn, SeesReadable}
use Rattle.draid_session.specs.Looks.{AllOf, IsLook}
use Rattle.draid_session.specs.Making.{content_of}
use Rattle.draid_session.specs.Reads.{Fetches, Gives, IsBeyond, Loses, ReadsAs, ReadsWorn}
use Rattle.draid_session.specs.State.{Store}
use Rattle.draid_session.proofs.Lists.{some_of}

module _ (geometry : Geometry) (perms : Perms) (choices : Choices) (object : ℕ) (old : Store) (w : Write) (written : write_of old.changes object ≡ Some w) where
  own_bytes : (bytes : List ℕ) (hold : Hold) → Gives geometry perms old object bytes hold → ReadsAs w.bytes bytes
  own_bytes bytes hold gives = subst (λ (v : Write). ReadsAs v.bytes bytes) (some_of (write_of old.changes object) gives.w w gives.written written) gives.reads

  own_worn : (hold : Hold) (holds : List Hold) → holds ≡ hold ∷ [] → ReadsWorn geometry perms old object hold → LooksWorn geometry w.metaslab holds
  own_worn hold holds are worn = record {
    v = worn.v;
    hold = hold;
    are = are;
    looked = subst (λ m. IsLook m hold worn.v) (ap (λ (u : Write). u.metaslab) (some_of (write_of old.changes object) worn.w w worn.written written)) worn.looked;
    worn = worn.worn;
  }

  not_beyond : (hold : Hold) (absent : List ℕ) → FetchesReadable geometry perms w hold → (f : Fetches geometry perms w hold absent) → IsBeyond geometry perms w hold absent f → ⊥
  not_beyond hold absent readable f beyond =
      let r : SeesReadable geometry perms w f.v f.failed.items = subst (FetchesReadable geometry perms w) f.did readable refl in
      r.few f.h f.found
      (subst (λ (o : Option (ℕ → ℕ → Bool)). MatchOption o ⊤ (λ harm. MoreBad (layout_at geometry perms f.v) f.v.world harm (key_of w) f.h f.failed.items)) r.told beyond)

  none_lost : (absent tried : ℕ) (hold : Hold) → FetchesReadable geometry perms w hold → Loses geometry perms old object absent tried hold → ⊥
  none_lost absent tried hold readable loses =
      let P : Write → Type 0 = λ u. (f : Fetches geometry perms u hold loses.absent) → IsBeyond geometry perms u hold loses.absent f → ⊥ in
      let all : P loses.w = subst P (some_of (write_of old.changes object) w loses.w written loses.written) (not_beyond hold loses.absent readable) in
      all loses.fetches loses.why

  pub reads_own : (reply : Reply) (holds : List Hold) (new : Store) → Does geometry perms choices content_of (ReadObject object) old holds reply new → AllOf (FetchesReadable geometry perms w) holds
      → ReadsOwn geometry w object holds reply
  reads_own (Contents o bytes) holds new does readable = (does.0, own_bytes bytes.items does.2.0 does.2.2)
  reads_own (ReadWorn o) holds new does readable = (does.0, own_worn does.2.0 holds does.2.1 does.2.2)
  reads_own (NoMemory name.Read) holds new does readable = tt
  reads_own (Unreadable o absent tried) holds new does readable = absurd (none_lost absent tried does.2.0 (subst (AllOf (FetchesReadable geometry perms w)) does.2.1 readable).0 does.2.2)
  reads_own (NoObject o) holds new does readable = absurd (let none = does.3 in let some = written in let h = sym some ∙ none in cc)
  reads_own reply holds new does readable = absurd does
