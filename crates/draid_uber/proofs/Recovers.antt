-- What a recovery finds, and what a crash leaves from then on.
use Rattle.std.proofs.Common.{arith, ◌≡◌, ◌+◌, ◌%◌, ◌≤◌, ℕ, Bool, true, false, nat_lt, List, [], Option, Some, None, Result, Ok, Err, IfOk, OnErr, OnOk, option_map, length, slice_range, refl, sym, ◌∙◌, ap, subst, inl, inr}
use Rattle.std.proofs.lemmas.Bool.Decides.{nat_tests}
use Rattle.std.specs.Bool.{⊤}
use Rattle.draid_record.specs.declared.fault.RecordFaultKind.{RecordFaultKind}
use Rattle.draid_area.specs.Area.{Content, IsOfSize, OnTold, Reads, flushes}
use Rattle.draid_area.proofs.Moments.{leaves_all}
use Rattle.draid_names.specs.declared.fault.DeviceFault.{DeviceFault}
use Rattle.draid_record.specs.declared.fault.RecordFault.{RecordFault}
use Rattle.draid_record.specs.declared.fault.RecordFault.TheVariants.{Bad}
use Rattle.draid_record.specs.declared.uber.UberBody.{UberBody}
use Rattle.draid_record.specs.Uber.{Begins, IsUber, uber}
use Rattle.draid_record.proofs.Again.{uber_ranges, uber_slot}
use Rattle.draid_uber.specs.Slots.{HasKept, IsLeft, StandsIn, StandsTold, area_bytes, base_of, body_in, choice_of, chosen_of, slot_in}
use Rattle.draid_names.specs.declared.fault.DeviceFault.TheVariants as devices
use Rattle.draid_uber.specs.Steps.{IsSameOrFlushed}
use Rattle.draid_uber.specs.Uber.{FindsFault, IsWhy}
use Rattle.draid_uber.specs.declared.uber.UberFault.{UberFault}
use Rattle.draid_uber.specs.declared.uber.UberFault.TheVariants as faults
use Rattle.draid_uber.proofs.Choices.{chosen_long}

abbrev pub some_result : Result UberBody RecordFault → Option (Result UberBody RecordFault)
some_result r = Some r

some_is : (r s : Result UberBody RecordFault) → some_result r ≡ Some s → r ≡ s
some_is r s e = cc

begun : (slot : ℕ) (bytes : List ℕ) (r : Result UberBody RecordFault) (body : UberBody) → r ≡ Ok body → IfOk r (Begins bytes (uber slot)) → Begins bytes (uber slot) body
begun slot bytes r body e found = subst (λ r. IfOk r (Begins bytes (uber slot))) e found

-- a body that was read from a slot is in its ranges, and its group is one of that slot
pub read_there : (slot : ℕ) (bytes : List ℕ) (r : Result UberBody RecordFault) (body : UberBody) → IfOk r (Begins bytes (uber slot)) → r ≡ body_in slot bytes → some_result r ≡ Some (Ok body)
    → IsUber body × (body.group % 2 ≡ slot) × (body_in slot bytes ≡ Ok body)
read_there slot bytes r body found exact e =
    let is : r ≡ Ok body = some_is r (Ok body) e in
    let b = begun slot bytes r body is found in
    (uber_ranges slot body b.0 b.3, uber_slot slot body b.0 b.3, sym exact ∙ is)

-- such a body stands in its slot
pub stands_there : (xs zero one : List ℕ) (body : UberBody) → zero ≡ slot_in 0 xs → one ≡ slot_in 1 xs → StandsIn zero one body → HasKept (Some body) xs
stands_there xs zero one body a b (inl p) = subst (λ s. body_in s (slot_in s xs) ≡ Ok body) (sym p.0) (subst (λ w. body_in 0 w ≡ Ok body) a p.1)
stands_there xs zero one body a b (inr p) = subst (λ s. body_in s (slot_in s xs) ≡ Ok body) (sym p.0) (subst (λ w. body_in 1 w ≡ Ok body) b p.1)

long_enough : (xs : List ℕ) (body : UberBody) → Some (Ok body) ≡ chosen_of xs → area_bytes ≤ length xs
long_enough xs body e = by (nat_lt (length xs) area_bytes) refl
  where
    not_none : {c : Option (Result UberBody RecordFault)} → Some (Ok body) ≡ c → c ≡ None → ⊥
    not_none a b = absurd (cc)

    by : (t : Bool) → nat_lt (length xs) area_bytes ≡ t → area_bytes ≤ length xs
    by true short = absurd (not_none e (rw short refl))
    by false long = grind (arith, nat_tests)

-- a crash leaves the body that was found among the flushed bytes
pub recovered : (body : UberBody) (o p : Option Content) → OnTold o (λ x. Some (Ok body) ≡ chosen_of x.bytes) → OnTold o (λ x. HasKept (Some body) x.bytes) → p ≡ option_map flushes o → StandsTold (Some body) [] p
recovered body None p chosen kept is = rw is tt
recovered body (Some x) p chosen kept is = rw is (λ left may.
    let all : left ≡ x.bytes = leaves_all (flushes x) left (λ i. refl) refl may in
    subst (IsLeft (Some body) []) (sym all) (record { long = long_enough x.bytes body chosen; kept_is = kept; chosen = inl (sym chosen) }))

-- ---- the slots that were read
abbrev pub Choice : Type 0
Choice = Option (Result UberBody RecordFault)

-- the bytes that were read are the slots of these, and what was chosen among them is what an import takes
pub record IsFound (zero one : List ℕ) (choice : Choice) (xs : List ℕ) : Type 0 where
  pub zero_is : zero ≡ slot_in 0 xs
  pub one_is : one ≡ slot_in 1 xs
  pub taken : choice ≡ chosen_of xs

read_slot : (slot at : ℕ) (bytes xs : List ℕ) → at ≡ base_of slot → length bytes ≡ 51 → bytes ≡ slice_range xs at (at + length bytes) → bytes ≡ slot_in slot xs
read_slot slot at bytes xs is long read = read ∙ ap (λ n. slice_range xs at (at + n)) long ∙ ap (λ a. slice_range xs a (a + 51)) is

pub slots_found : (zero one : List ℕ) (choice : Choice) (n a b : ℕ) (o p q : Option Content) → choice ≡ choice_of zero one → OnTold o (IsOfSize n) → area_bytes ≤ n
    → p ≡ option_map flushes o → q ≡ p → a ≡ base_of 0 → b ≡ base_of 1 → length zero ≡ 51 → length one ≡ 51 → Reads p a zero → Reads q b one
    → OnTold o (λ x. IsFound zero one choice x.bytes)
slots_found zero one choice n a b None p q is size long flushed same at_zero at_one long_zero long_one read_zero read_one = tt
slots_found zero one choice n a b (Some x) p q is size long flushed same at_zero at_one long_zero long_one read_zero read_one =
    let bytes = size.bytes in
    let first : zero ≡ slice_range x.bytes a (a + length zero) = subst (λ v. Reads v a zero) flushed read_zero in
    let second : one ≡ slice_range x.bytes b (b + length one) = subst (λ v. Reads v b one) (same ∙ flushed) read_one in
    let zero_is = read_slot 0 a zero x.bytes at_zero long_zero first in
    let one_is = read_slot 1 b one x.bytes at_one long_one second in
    record {
      zero_is = zero_is;
      one_is = one_is;
      taken = is ∙ ap (λ z. choice_of z one) zero_is ∙ ap (λ w. choice_of (slot_in 0 x.bytes) w) one_is ∙ sym (chosen_long x.bytes (omega (arith, bytes, long)));
    }

pub choice_taken : (zero one : List ℕ) (choice : Choice) (o : Option Content) → OnTold o (λ x. IsFound zero one choice x.bytes) → OnTold o (λ x. choice ≡ chosen_of x.bytes)
choice_taken zero one choice None found = tt
choice_taken zero one choice (Some x) found = found.taken

pub body_taken : (zero one : List ℕ) (choice : Choice) (body : UberBody) (o p : Option Content) → OnTold o (λ x. IsFound zero one choice x.bytes) → choice ≡ Some (Ok body) → StandsIn zero one body → p ≡ option_map flushes o → StandsTold (Some body) [] p
body_taken zero one choice body None p found is stands flushed = recovered body None p tt tt flushed
body_taken zero one choice body (Some x) p found is stands flushed = recovered body (Some x) p (sym is ∙ found.taken) (stands_there x.bytes zero one body found.zero_is found.one_is stands) flushed

abbrev pub done : Choice → Result Choice DeviceFault
done choice = Ok choice

pub done_is : (c d : Choice) → done c ≡ Ok d → c ≡ d
done_is c d e = cc

-- ---- what a recovery answers
-- what was taken is what the bytes have
pub told_is : (o : Option Content) (c d : Choice) → c ≡ d → OnTold o (λ x. c ≡ chosen_of x.bytes) → OnTold o (λ x. chosen_of x.bytes ≡ d)
told_is None c d e found = tt
told_is (Some x) c d e found = sym found ∙ e

pub told_any : (o : Option Content) → OnTold o (λ x. ⊤)
told_any None = tt
told_any (Some x) = tt

-- these faults differ
pub empty_area : {P : Type 0} → faults.Empty ≡ faults.Area → P
empty_area e = absurd (cc)

pub area_empty : {P : Type 0} → faults.Area ≡ faults.Empty → P
area_empty e = absurd (cc)

pub memory_area : {P : Type 0} → faults.NoMemory ≡ faults.Area → P
memory_area e = absurd (cc)

pub memory_empty : {P : Type 0} → faults.NoMemory ≡ faults.Empty → P
memory_empty e = absurd (cc)

pub record_area : {P : Type 0} (place : ℕ) (kind : RecordFaultKind) → faults.Record place kind ≡ faults.Area → P
record_area place kind e = absurd (cc)

pub record_empty : {P : Type 0} (place : ℕ) (kind : RecordFaultKind) → faults.Record place kind ≡ faults.Empty → P
record_empty place kind e = absurd (cc)

-- what is said of an area that told no uberblock
pub record Refused (why : UberFault) (old new : Option Content) (Rises : Type 0) : Type 0 where
  pub finds : OnTold old (λ x. FindsFault why (chosen_of x.bytes))
  pub err : IsSameOrFlushed old new
  pub empty : why ≡ faults.Empty → new ≡ option_map flushes old
  pub cause : why ≡ faults.Area → Rises

pub refused : (why : UberFault) (r : Result Choice DeviceFault) (old new : Option Content) (Rises : Type 0) → IsWhy why r
    → IfOk r (λ c. OnTold old (λ x. c ≡ chosen_of x.bytes)) → OnOk r (new ≡ option_map flushes old) → OnErr r (IsSameOrFlushed old new) → (r ≡ Err devices.Failed → Rises)
    → Refused why old new Rises
refused faults.Area r old new Rises is chosen flushed err cause = record {
  finds = told_any old;
  err = subst (λ (r : Result Choice DeviceFault). OnErr r (IsSameOrFlushed old new)) is err;
  empty = λ e. area_empty e;
  cause = λ e. cause is;
}
refused faults.NoMemory r old new Rises (inl is) chosen flushed err cause = record {
  finds = told_any old;
  err = subst (λ (r : Result Choice DeviceFault). OnErr r (IsSameOrFlushed old new)) is err;
  empty = λ e. memory_empty e;
  cause = λ e. memory_area e;
}
refused faults.NoMemory r old new Rises (inr is) chosen flushed err cause = record {
  finds = told_any old;
  err = inr (subst (λ (r : Result Choice DeviceFault). OnOk r (new ≡ option_map flushes old)) is flushed);
  empty = λ e. memory_empty e;
  cause = λ e. memory_area e;
}
refused faults.Empty r old new Rises is chosen flushed err cause =
    let same : new ≡ option_map flushes old = subst (λ (r : Result Choice DeviceFault). OnOk r (new ≡ option_map flushes old)) is flushed in
    record {
      finds = told_is old None None refl (subst (λ (r : Result Choice DeviceFault). IfOk r (λ c. OnTold old (λ x. c ≡ chosen_of x.bytes))) is chosen);
      err = inr same;
      empty = λ e. same;
      cause = λ e. empty_area e;
    }
refused (faults.Record place kind) r old new Rises is chosen flushed err cause =
    let same : new ≡ option_map flushes old = subst (λ (r : Result Choice DeviceFault). OnOk r (new ≡ option_map flushes old)) is flushed in
    record {
      finds = told_is old (Some (Err (Bad place kind))) _ refl (subst (λ (r : Result Choice DeviceFault). IfOk r (λ c. OnTold old (λ x. c ≡ chosen_of x.bytes))) is chosen);
      err = inr same;
      empty = λ e. record_empty _ _ e;
      cause = λ e. record_area _ _ e;
    }
