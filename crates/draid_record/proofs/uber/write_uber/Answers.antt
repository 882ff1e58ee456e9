use Rattle.std.proofs.Common.{◌≡◌, ◌≤◌, ◌++◌, ◌%◌, ℕ, List, length, take, ap, ap₂, subst, sym, ◌∙◌, arith}
use Rattle.std.proofs.lemmas.List.{take_all}
use Rattle.byteorder.specs.Endian.{big_bytes}
use Rattle.draid_record.specs.declared.uber.UberBody.{UberBody}
use Rattle.draid_record.specs.Grammar.{Spells}
use Rattle.draid_record.specs.Uber.{uber}
use Rattle.draid_record.proofs.UberWritten.{uber_spelled}
use Rattle.draid_record.proofs.uber.write_uber.Goals as goal

pub returns : goal.returns
returns c =
    let b : UberBody = c.args.body.now in
    let t1 : take 1 c.put.new.bytes ≡ big_bytes 1 90 = c.put.ensures.front in
    let t2 : take 5 c.put-2.new.bytes ≡ (big_bytes 1 90) ++ big_bytes 4 (1146770754) = c.put-2.ensures.front ∙ ap (λ t. t ++ big_bytes 4 (1146770754)) t1 in
    let t3 : take 7 c.put-3.new.bytes ≡ (big_bytes 1 90) ++ big_bytes 4 (1146770754) ++ big_bytes 2 (b.props.version) = c.put-3.ensures.front ∙ ap₂ (λ t n. t ++ big_bytes 2 n) t2 c.from.ensures in
    let t4 : take 15 c.put-4.new.bytes ≡ (big_bytes 1 90) ++ big_bytes 4 (1146770754) ++ big_bytes 2 (b.props.version) ++ big_bytes 8 (b.group) = c.put-4.ensures.front ∙ ap (λ t. t ++ big_bytes 8 (b.group)) t3 in
    let t5 : take 16 c.put-5.new.bytes ≡ (big_bytes 1 90) ++ big_bytes 4 (1146770754) ++ big_bytes 2 (b.props.version) ++ big_bytes 8 (b.group) ++ big_bytes 1 (b.spec.parity) = c.put-5.ensures.front ∙ ap₂ (λ t n. t ++ big_bytes 1 n) t4 c.from-2.ensures in
    let t6 : take 17 c.put-6.new.bytes ≡ (big_bytes 1 90) ++ big_bytes 4 (1146770754) ++ big_bytes 2 (b.props.version) ++ big_bytes 8 (b.group) ++ big_bytes 1 (b.spec.parity) ++ big_bytes 1 (b.spec.ndata) = c.put-6.ensures.front ∙ ap₂ (λ t n. t ++ big_bytes 1 n) t5 c.from-3.ensures in
    let t7 : take 18 c.put-7.new.bytes ≡ (big_bytes 1 90) ++ big_bytes 4 (1146770754) ++ big_bytes 2 (b.props.version) ++ big_bytes 8 (b.group) ++ big_bytes 1 (b.spec.parity) ++ big_bytes 1 (b.spec.ndata) ++ big_bytes 1 (b.spec.children) = c.put-7.ensures.front ∙ ap₂ (λ t n. t ++ big_bytes 1 n) t6 c.from-4.ensures in
    let t8 : take 19 c.put-8.new.bytes ≡ (big_bytes 1 90) ++ big_bytes 4 (1146770754) ++ big_bytes 2 (b.props.version) ++ big_bytes 8 (b.group) ++ big_bytes 1 (b.spec.parity) ++ big_bytes 1 (b.spec.ndata) ++ big_bytes 1 (b.spec.children) ++ big_bytes 1 (b.spec.spares) = c.put-8.ensures.front ∙ ap₂ (λ t n. t ++ big_bytes 1 n) t7 c.from-5.ensures in
    let t9 : take 23 c.put-9.new.bytes ≡ (big_bytes 1 90) ++ big_bytes 4 (1146770754) ++ big_bytes 2 (b.props.version) ++ big_bytes 8 (b.group) ++ big_bytes 1 (b.spec.parity) ++ big_bytes 1 (b.spec.ndata) ++ big_bytes 1 (b.spec.children) ++ big_bytes 1 (b.spec.spares) ++ big_bytes 4 (b.props.sector) = c.put-9.ensures.front ∙ ap₂ (λ t n. t ++ big_bytes 4 n) t8 c.from-6.ensures in
    let t10 : take 27 c.put-10.new.bytes ≡ (big_bytes 1 90) ++ big_bytes 4 (1146770754) ++ big_bytes 2 (b.props.version) ++ big_bytes 8 (b.group) ++ big_bytes 1 (b.spec.parity) ++ big_bytes 1 (b.spec.ndata) ++ big_bytes 1 (b.spec.children) ++ big_bytes 1 (b.spec.spares) ++ big_bytes 4 (b.props.sector) ++ big_bytes 4 (b.props.height) = c.put-10.ensures.front ∙ ap₂ (λ t n. t ++ big_bytes 4 n) t9 c.from-7.ensures in
    let t11 : take 31 c.put-11.new.bytes ≡ (big_bytes 1 90) ++ big_bytes 4 (1146770754) ++ big_bytes 2 (b.props.version) ++ big_bytes 8 (b.group) ++ big_bytes 1 (b.spec.parity) ++ big_bytes 1 (b.spec.ndata) ++ big_bytes 1 (b.spec.children) ++ big_bytes 1 (b.spec.spares) ++ big_bytes 4 (b.props.sector) ++ big_bytes 4 (b.props.height) ++ big_bytes 4 (b.props.metaslabs) = c.put-11.ensures.front ∙ ap₂ (λ t n. t ++ big_bytes 4 n) t10 c.from-8.ensures in
    let t12 : take 35 c.put-12.new.bytes ≡ (big_bytes 1 90) ++ big_bytes 4 (1146770754) ++ big_bytes 2 (b.props.version) ++ big_bytes 8 (b.group) ++ big_bytes 1 (b.spec.parity) ++ big_bytes 1 (b.spec.ndata) ++ big_bytes 1 (b.spec.children) ++ big_bytes 1 (b.spec.spares) ++ big_bytes 4 (b.props.sector) ++ big_bytes 4 (b.props.height) ++ big_bytes 4 (b.props.metaslabs) ++ big_bytes 4 (b.props.slices) = c.put-12.ensures.front ∙ ap₂ (λ t n. t ++ big_bytes 4 n) t11 c.from-9.ensures in
    let t13 : take 43 c.put-13.new.bytes ≡ (big_bytes 1 90) ++ big_bytes 4 (1146770754) ++ big_bytes 2 (b.props.version) ++ big_bytes 8 (b.group) ++ big_bytes 1 (b.spec.parity) ++ big_bytes 1 (b.spec.ndata) ++ big_bytes 1 (b.spec.children) ++ big_bytes 1 (b.spec.spares) ++ big_bytes 4 (b.props.sector) ++ big_bytes 4 (b.props.height) ++ big_bytes 4 (b.props.metaslabs) ++ big_bytes 4 (b.props.slices) ++ big_bytes 8 (b.props.seed) = c.put-13.ensures.front ∙ ap (λ t. t ++ big_bytes 8 (b.props.seed)) t12 in
    let t14 : take 51 c.put-14.new.bytes ≡ (big_bytes 1 90) ++ big_bytes 4 (1146770754) ++ big_bytes 2 (b.props.version) ++ big_bytes 8 (b.group) ++ big_bytes 1 (b.spec.parity) ++ big_bytes 1 (b.spec.ndata) ++ big_bytes 1 (b.spec.children) ++ big_bytes 1 (b.spec.spares) ++ big_bytes 4 (b.props.sector) ++ big_bytes 4 (b.props.height) ++ big_bytes 4 (b.props.metaslabs) ++ big_bytes 4 (b.props.slices) ++ big_bytes 8 (b.props.seed) ++ big_bytes 8 (b.next_leaf) = c.put-14.ensures.front ∙ ap (λ t. t ++ big_bytes 8 (b.next_leaf)) t13 in
    let long : length c.put-14.new.bytes ≤ 51 = omega (arith, c.put.ensures.len, c.put-2.ensures.len, c.put-3.ensures.len, c.put-4.ensures.len, c.put-5.ensures.len, c.put-6.ensures.len, c.put-7.ensures.len, c.put-8.ensures.len, c.put-9.ensures.len, c.put-10.ensures.len, c.put-11.ensures.len, c.put-12.ensures.len, c.put-13.ensures.len, c.put-14.ensures.len) in
    let S : List ℕ → Type 0 = λ bytes. Spells (uber (b.group % 2)) bytes b in
    record { spelled = subst S (sym (sym (take_all 51 c.put-14.new.bytes long) ∙ t14)) (uber_spelled b c.requires) }
