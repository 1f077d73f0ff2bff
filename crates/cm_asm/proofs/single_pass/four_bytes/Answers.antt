use Rattle.cm_asm.proofs.SinglePass.{numeral_4}
use Rattle.cm_asm.proofs.single_pass.four_bytes.Goals as goal

pub returns : goal.returns
returns c =
    numeral_4 c.args.a c.args.b c.args.c c.args.d c.in_ok-p.p c.in_ok-q.q c.in_ok-r-2.r c.in_ok-s-2.s
    c.in_ok-p.ensures.digit c.in_ok-q.ensures.digit c.in_ok-r-2.ensures.digit c.in_ok-s-2.ensures.digit
