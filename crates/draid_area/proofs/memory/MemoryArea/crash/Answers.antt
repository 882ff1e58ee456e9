use Rattle.std.proofs.Common.{rules, ap, ◌≡◌, ◌∙◌, ◌&&◌, nat_lt, ℕ, true, false, length, if◌then◌else◌}
use Rattle.draid_area.specs.Cells.{LeavesByte, byte_at, covers, is_torn, length_by, torn_by}
use Rattle.draid_area.proofs.Sound.{firm_left, is_outcome, left_by_rule, soft_left}
use Rattle.draid_area.proofs.memory.MemoryArea.crash.Goals as goal

pub returns-clause-told : goal.returns-clause-told
returns-clause-told c =
    let area = c.args.self.now in
    let mid = c.leave_spans.new.flushed.items in
    let left = c.leave_torn.new.flushed.items in
    let size : c.len.result ≡ length area.bytes.items = search rules in
    let kept = c.length_left-kept.ensures ∙ ap (λ n. length_by c.args.rule area.firm n) size in
    let same : (i : ℕ) → covers area.unflushed.items i ≡ false → byte_at mid i ≡ byte_at area.flushed.items i = search rules in
    let torn_is : (i : ℕ) → byte_at left i ≡ (if nat_lt i (length area.bytes.items) && is_torn area.torn.items i then torn_by c.args.rule (byte_at area.bytes.items i) (byte_at mid i) else byte_at mid i) = search rules in
    is_outcome c.args.rule area.bytes.items area.flushed.items left _ _ area.firm _ _ area.unflushed.items _ area.torn.items _
    area.sound (c.leave_torn.ensures.long ∙ c.leave_spans.ensures.long)
    (firm_left c.args.rule area.bytes.items area.flushed.items mid left area.firm area.unflushed.items area.torn.items area.sound torn_is same)
    kept c.cut.ensures.bytes (search rules) c.calm.ensures.none

pub returns-clause-exact : goal.returns-clause-exact
returns-clause-exact c =
    let area = c.args.self.now in
    let mid = c.leave_spans.new.flushed.items in
    let left = c.leave_torn.new.flushed.items in
    let size : c.len.result ≡ length area.bytes.items = search rules in
    let kept = c.length_left-kept.ensures ∙ ap (λ n. length_by c.args.rule area.firm n) size in
    let same : (i : ℕ) → covers area.unflushed.items i ≡ false → byte_at mid i ≡ byte_at area.flushed.items i = search rules in
    let torn_is : (i : ℕ) → byte_at left i ≡ (if nat_lt i (length area.bytes.items) && is_torn area.torn.items i then torn_by c.args.rule (byte_at area.bytes.items i) (byte_at mid i) else byte_at mid i) = search rules in
    let done : (i : ℕ) → covers area.unflushed.items i ≡ true → LeavesByte c.args.rule (byte_at area.flushed.items i) (byte_at area.bytes.items i) (byte_at mid i) = search rules in
    let r = left_by_rule c.args.rule area.bytes.items area.flushed.items left _ area.firm _ area.unflushed.items area.torn.items
    area.sound (c.leave_torn.ensures.long ∙ c.leave_spans.ensures.long)
    (soft_left c.args.rule area.bytes.items area.flushed.items mid left area.firm area.unflushed.items area.torn.items area.sound torn_is same done) kept c.cut.ensures.bytes in
    record { long = r.0; left = r.1 }
