use Rattle.std.proofs.Common.{◌≡◌, ◌+◌, length, refl, arith, rules}
use Rattle.keys.proofs.Varints.{varint-narrow}
use Rattle.keys.proofs.Payloads.{payload_laid, payload_cut, payload_same}
use Rattle.keys.proofs.payload.union_unique.Goals as goal

pub overflow_add-prefix : goal.overflow_add-prefix
overflow_add-prefix c = omega (arith, varint-narrow c.in_ok-size.size)

pub returns-then-out-needed-clause-written : goal.returns-then-out-needed-clause-written
returns-then-out-needed-clause-written c =
    let s : c.in_ok-size.size ≡ length c.args.namespace.now = search rules in
    (payload_cut c.args.namespace.now c.args.message.now c.args.out.now c.in_ok-size.size c.saturating_add-needed.result s (omega arith) (omega arith) (omega arith), refl)

pub returns-clause-written : goal.returns-clause-written
returns-clause-written c =
    let s : c.in_ok-size.size ≡ length c.args.namespace.now = search rules in
    let w = c.in_ok-start.ensures in
    payload_laid c.args.namespace.now c.args.message.now c.args.out.now c.write_varint.new.out c.overlay.new.out c.overlay-2.new.out
    c.in_ok-start.start (c.varint_size.result + length c.args.namespace.now) c.in_ok-size.size c.saturating_add-needed.result s (omega arith) w.0 (omega arith) (omega arith) (omega arith) w.2 c.overlay.ensures c.overlay-2.ensures

pub returns-clause-alone : goal.returns-clause-alone
returns-clause-alone c = λ other text k same.
    let s : c.in_ok-size.size ≡ length c.args.namespace.now = search rules in
    payload_same c.args.namespace.now c.args.message.now other text (omega arith) k same
