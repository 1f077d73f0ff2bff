use Rattle.std.proofs.Common.{◌<◌, length, arith}
use Rattle.cm_asm.proofs.SinglePass.{begins, take_1, take_2, take_3, take_4}
use Rattle.cm_asm.proofs.single_pass.front_number.Goals as goal

pub returns-then-is_space : goal.returns-then-is_space
returns-then-is_space c =
    let inside : 1 < length c.args.bytes.now = c.is_space.ensures.inside c.if-is_space.true in
    begins c.args.bytes.now _ 1 c.in_ok-value.value (take_1 c.args.bytes.now (omega arith)) (omega arith) inside
    (c.is_space.ensures.space c.if-is_space.true) c.in_ok-value.ensures

pub returns-then-is_space-2 : goal.returns-then-is_space-2
returns-then-is_space-2 c =
    let inside : 2 < length c.args.bytes.now = c.is_space-2.ensures.inside c.if-is_space-2.true in
    begins c.args.bytes.now _ 2 c.in_ok-value-2.value (take_2 c.args.bytes.now (omega arith)) (omega arith) inside
    (c.is_space-2.ensures.space c.if-is_space-2.true) c.in_ok-value-2.ensures

pub returns-then-is_space-3 : goal.returns-then-is_space-3
returns-then-is_space-3 c =
    let inside : 3 < length c.args.bytes.now = c.is_space-3.ensures.inside c.if-is_space-3.true in
    begins c.args.bytes.now _ 3 c.in_ok-value-3.value (take_3 c.args.bytes.now (omega arith)) (omega arith) inside
    (c.is_space-3.ensures.space c.if-is_space-3.true) c.in_ok-value-3.ensures

pub returns-then-is_space-4 : goal.returns-then-is_space-4
returns-then-is_space-4 c =
    let inside : 4 < length c.args.bytes.now = c.is_space-4.ensures.inside c.if-is_space-4.true in
    begins c.args.bytes.now _ 4 c.in_ok-value-4.value (take_4 c.args.bytes.now (omega arith)) (omega arith) inside
    (c.is_space-4.ensures.space c.if-is_space-4.true) c.in_ok-value-4.ensures
