-- The bytes of a record begin an area that tells it.
use Rattle.std.proofs.Common.{◌≡◌, ℕ, ◌+◌, ◌^◌, ◌≤◌, ◌<◌, List, [], ◌++◌, length, Result, Ok, Err, refl, sym, ap, ◌∙◌, append_assoc, subst, arith}
use Rattle.std.specs.Prelude.{IfOk}
use Rattle.std.proofs.lemmas.List.{length-append}
use Rattle.byteorder.specs.Endian.{big_bytes}
use Rattle.draid_record.specs.declared.limits.Limits.{Limits}
use Rattle.draid_record.specs.Grammar.{Spells}
use Rattle.draid_record.specs.Record.{RecordTold, Spelled, front}
use Rattle.draid_record.specs.Written.{IsRecord, IsWhole, body_bytes, front_bytes}

pub if_ok : {X E : Type 0} (r : Result X E) (P Q : X → Type 0) → ((x : X) → P x → Q x) → IfOk r P → IfOk r Q
if_ok (Ok x) P Q f p = f x p
if_ok (Err e) P Q f p = tt

front_spelled : (limits : Limits) (area len : ℕ) → limits.version < 2 ^ 16 → 10 ≤ len → len < 2 ^ 32 → len ≤ area → Spells (front limits area) (front_bytes limits.version len) len
unfolding Spells
front_spelled limits area len fits least small most = (
  1146769987,
  big_bytes 2 limits.version ++ big_bytes 4 len,
  refl,
  omega arith,
  omega arith,
  omega arith,
  (
    limits.version,
    big_bytes 4 len,
    refl,
    omega arith,
    omega arith,
    omega arith,
    (len, [], refl, small, least, most, (refl, refl)),
  ),
)

pub written_spelled : (limits : Limits) (value : RecordTold) (bytes more : List ℕ) → IsWhole bytes value → IsRecord limits value → Spelled limits (bytes ++ more) value
written_spelled limits value bytes more whole is =
    let len = length (body_bytes value) + 10 in
    let head = front_bytes value.version len in
    let version = is.version_is in
    let small = is.version_small in
    let F : ℕ → Type 0 = λ v. Spells (front limits (length (bytes ++ more))) (front_bytes v len) len in
    let text = body_bytes value in
    let short = whole.short in
    let ten : length head ≡ 10 = refl in
    let size : length bytes ≡ length head + length text = ap length whole.bytes_are ∙ length-append head text in
    record {
      len = len;
      head_bytes = head;
      text_bytes = text;
      more = more;
      parts = ap (λ bs. bs ++ more) whole.bytes_are ∙ append_assoc head text more;
      front_is = subst F (sym version) (front_spelled limits (length (bytes ++ more)) len (omega arith) (omega arith) (omega arith) (omega (arith, length-append bytes more)));
      whole = omega arith;
      fields_are = is.fields_are;
    }
