use Rattle.std.proofs.Common.{◌≡◌, ◌∙◌, true, false, sym, ap}
use Rattle.std.specs.Cmp.Lexicographic.{same_text, other_text}
use Rattle.sha2.specs.Sha256.{sha256}
use Rattle.draid_block.specs.Blocks.{cut_of}
use Rattle.draid_block.proofs.Whole.{empty_is, some_is, read_long, read_fails, not_read, read_gives}
use Rattle.draid_block.proofs.search.try_read.Goals as goal

pub returns-then-not-is_empty : goal.returns-then-not-is_empty
returns-then-not-is_empty c =
    let part : c.is_empty.result ≡ false = cc (c.if-not-is_empty.true) in
    not_read c.args.search.now.geometry.now c.args.search.now.fetched.now c.args.search.now.absent.now c.requires.search.absent_is (some_is c.args.search.now.absent.now c.is_empty.result c.is_empty.ensures part)

pub read_digest-requires-clause-long : goal.read_digest-requires-clause-long
read_digest-requires-clause-long c =
    let full : c.is_empty.result ≡ true = cc (c.if-not-is_empty.false) in
    rw c.deref.ensures.value
    (read_long (cut_of c.args.search.now.geometry.now) c.args.search.now.fetched.now c.requires.search.read (sym c.requires.search.absent_is ∙ empty_is c.args.search.now.absent.now c.is_empty.result c.is_empty.ensures full))

pub read_bytes-requires-clause-long : goal.read_bytes-requires-clause-long
read_bytes-requires-clause-long c =
    let full : c.is_empty.result ≡ true = cc (c.if-not-is_empty.false) in
    rw c.deref-then-eq.ensures.value
    (read_long (cut_of c.args.search.now.geometry.now) c.args.search.now.fetched.now c.requires.search.read (sym c.requires.search.absent_is ∙ empty_is c.args.search.now.absent.now c.is_empty.result c.is_empty.ensures full))

pub returns-then-eq : goal.returns-then-eq
returns-then-eq c =
    let full : c.is_empty.result ≡ true = cc (c.if-not-is_empty.false) in
    let digest = rw c.deref.ensures.value at c.read_digest.ensures in
    let bytes = rw c.deref-then-eq.ensures.value at c.in_ok-read_bytes.ensures in
    read_gives c.args.search.now.geometry.now c.args.search.now.fetched.now c.args.search.now.absent.now c.in_ok-read_bytes.field-0.items c.requires.search.layout c.requires.search.read c.requires.search.absent_is
    (empty_is c.args.search.now.absent.now c.is_empty.result c.is_empty.ensures full) bytes (ap sha256 bytes ∙ sym digest ∙ same_text _ _ c.if-eq.ensures)

pub returns : goal.returns
returns c =
    let full : c.is_empty.result ≡ true = cc (c.if-not-is_empty.false) in
    let digest = rw c.deref.ensures.value at c.read_digest.ensures in
    read_fails c.args.search.now.geometry.now c.args.search.now.fetched.now c.args.search.now.absent.now c.requires.search.layout c.requires.search.read c.requires.search.absent_is
    (empty_is c.args.search.now.absent.now c.is_empty.result c.is_empty.ensures full) (λ same. other_text _ _ c.if-eq.ensures (digest ∙ same))
