use Rattle.cm_asm.proofs.SinglePass.{numeral_3}
use Rattle.cm_asm.proofs.single_pass.three_digits.Goals as goal

pub returns : goal.returns
returns c =
    numeral_3 c.args.a c.args.b c.args.c c.in_ok-p.p c.in_ok-q.q c.in_ok-r.r
    c.in_ok-p.ensures.digit c.in_ok-q.ensures.digit c.in_ok-r.ensures.digit
