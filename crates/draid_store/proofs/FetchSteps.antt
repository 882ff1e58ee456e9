-- An object's block is fetched: what that says of the object.
use Rattle.std.proofs.Common.{◌≡◌, ◌+◌, ◌⊎◌, ◌∙◌, ℕ, List, Option, Some, None, arith, refl, sym, ap, subst, inl, inr, length}
use Rattle.std.specs.Prelude.{⊤, MatchOption}
use Rattle.sha2.specs.Sha256.{sha256}
use Rattle.draid_names.specs.declared.pointer.Pointer.{Pointer}
use Rattle.draid_spec.specs.Geometry.{IsGeometry}
use Rattle.draid_block.specs.Blocks.{IsContent, cut_of}
use Rattle.draid_block.specs.Columns.{stripes_of}
use Rattle.draid_block.specs.Many.{IsSolved}
use Rattle.draid_block.specs.Order.{solve_order}
use Rattle.draid_block.specs.Solving.{IsReadable, absent_columns}
use Rattle.draid_block.specs.declared.many.Solve.{Solve}
use Rattle.draid_block.specs.declared.many.Solve.TheVariants.{Bytes, Unreadable}
use Rattle.draid_block.specs.declared.solve.Fetched.{Fetched}
use Rattle.draid_machine.specs.declared.event.Event.TheVariants.{Fetch}
use Rattle.draid_segments.specs.Reads.{MoreBad}
use Rattle.draid_segments.specs.Segments.{Pieces}
use Rattle.draid_objects.specs.Changes.{Write, key_of, write_of}
use Rattle.draid_entries.specs.Maps as maps
use Rattle.draid_shard.specs.Columns.{ArePieces}
use Rattle.draid_shard.specs.Part.{layout_in}
use Rattle.draid_session.specs.Holds.{Did, Hold, On, view_of}
use Rattle.draid_session.specs.Reads as reads
use Rattle.draid_session.specs.State.{Metaslab, State}
use Rattle.draid_store.specs.Answers.{FetchIs, ReadDoes, reading_of}
use Rattle.draid_pool.specs.Objects.{HasPieces}
use Rattle.draid_pool.specs.Pools.{part_in}
use Rattle.draid_store.proofs.Absent.{absent_at, absent_rise, at_absent, tried_few}
use Rattle.draid_store.proofs.Fetched.{FetchesIn}

more_of : {H : Type 0} (o : Option H) (P Q : H → Type 0) → ((h : H) → P h → Q h) → MatchOption o ⊤ P → MatchOption o ⊤ Q
more_of None P Q f is = tt
more_of (Some h) P Q f is = f h is

-- ---- what was fetched

-- a pointer is that of a write
pub record IsOf (pointer : Pointer) (w : Write) : Type 0 where
  pub key : maps.key_of pointer ≡ key_of w
  pub metaslab : pointer.metaslab ≡ w.metaslab
  pub len : pointer.len ≡ length w.bytes
  pub digest : pointer.digest ≡ sha256 w.bytes

module _ (x : State) (o : ℕ) (w : Write) (pointer : Pointer) (y y' : Metaslab) (fetched : Fetched) (holds : List Hold) (pieces : Pieces) (geometry : IsGeometry x.geometry)
    (last : write_of x.store.changes o ≡ Some w) (of : IsOf pointer w) (content : HasPieces x.geometry w pieces) (f : FetchesIn (part_in x pointer.metaslab) pieces pointer fetched y holds y') where
  abbrev hold : Hold
  hold = On (view_of pointer.metaslab y) (Did (Fetch (maps.key_of pointer) f.failed) y'.world)

  abbrev absent : List ℕ
  absent = absent_columns fetched.columns.items

  many : length fetched.columns.items ≡ x.geometry.g
  many = f.block.count ∙ sym geometry.columns

  abbrev fetched_in : reads.Fetches x.geometry x.perms w hold absent
  fetched_in = record {
    v = view_of pointer.metaslab y;
    after = y'.world;
    h = f.h;
    failed = f.failed;
    did = ap (λ k. On (view_of pointer.metaslab y) (Did (Fetch k f.failed) y'.world)) of.key;
    there = of.metaslab;
    not_worn = f.not_worn;
    found = subst (λ k. y.world.core.held k ≡ Some f.h) of.key f.found;
    ascending = (absent_rise fetched.columns.items x.geometry.g many).up;
    inside = (absent_rise fetched.columns.items x.geometry.g many).below;
    each = λ c less. (
      (λ there. (f.absent c less).0 (absent_at fetched.columns.items c (let m = many in omega (arith, less, m)) there)),
      (λ is. at_absent fetched.columns.items c (let m = many in omega (arith, less, m)) ((f.absent c less).1 is)),
    );
  }

  stripes : pointer.stripes ≡ stripes_of (cut_of x.geometry) (length w.bytes)
  stripes = subst (λ (p : Pointer). p.stripes ≡ stripes_of (cut_of x.geometry) p.len) f.pointer_is f.block.stripes ∙ ap (stripes_of (cut_of x.geometry)) of.len

  is_content : IsContent pointer content.content
  is_content = record { len = content.len ∙ sym of.len; digest = content.digest ∙ sym of.digest; bytes = content.bytes }

  pieces_are : ArePieces x.geometry.props.sector x.geometry.g pointer.stripes content.columns (maps.key_of pointer) pieces
  pieces_are =
      subst (λ k. ArePieces x.geometry.props.sector x.geometry.g pointer.stripes content.columns k pieces) (sym of.key)
      (subst (λ n. ArePieces x.geometry.props.sector x.geometry.g n content.columns (key_of w) pieces) (sym stripes) content.rows)

  beyond : (missing tried : ℕ) → IsSolved (cut_of x.geometry) fetched (Unreadable missing tried) → reads.IsBeyond x.geometry x.perms w hold absent fetched_in
  beyond missing tried solved =
      more_of y.harm (λ harm. ((bad : List ℕ) × IsReadable (cut_of x.geometry) fetched content.content bad) ⊎ MoreBad (layout_in (part_in x pointer.metaslab)) y.world harm (maps.key_of pointer) f.h f.failed.items)
      (λ harm. MoreBad (layout_in (part_in x pointer.metaslab)) y.world harm (key_of w) f.h f.failed.items)
      (λ harm e. elim e [
        | inl r ↦ absurd (solved.readable content.content r.0 r.1)
        | inr m ↦ subst (λ k. MoreBad (layout_in (part_in x pointer.metaslab)) y.world harm k f.h f.failed.items) of.key m
      ])
      (f.either content.content content.columns is_content content.are pieces_are)

  answers : (solve : Solve) → IsSolved (cut_of x.geometry) fetched solve → ReadDoes x o (reading_of solve) holds x.store
  answers (Bytes bytes) solved = (
    refl,
    (
      hold,
      f.are,
      record {
        w = w;
        absent = absent;
        written = last;
        fetches = fetched_in;
        few = tried_few x.geometry.spec.parity (x.geometry.spec.parity + x.geometry.spec.ndata) fetched.columns.items solved.solves.before solved.solves.after solved.solves.set f.block.count solved.solves.order;
        reads = record {
          len = solved.digest.len ∙ (ap (λ (p : Pointer). p.len) f.pointer_is ∙ of.len);
          digest = solved.digest.digest ∙ (ap (λ (p : Pointer). p.digest) f.pointer_is ∙ of.digest);
        };
      },
    ),
  )
  answers (Unreadable missing tried) solved = (
    refl,
    (
      hold,
      f.are,
      record {
        w = w;
        absent = absent;
        written = last;
        fetches = fetched_in;
        why = beyond missing tried solved;
        many_is = solved.solves.absent_is;
        tried_is = solved.solves.tried_is ∙ ap (λ n. length (solve_order x.geometry.spec.parity n absent)) (sym geometry.columns);
      },
    ),
  )

  pub fetch_is : FetchIs x o fetched holds x.store
  fetch_is = record {
    store = refl;
    block = f.block;
    one = (hold, f.are, (w, absent, last, fetched_in));
    answers = answers;
  }
