use Rattle.std.proofs.Common.{◌+◌, Bool, drop, get_or, sym, ap, ◌∙◌, arith, eq-eqb, ne_eqb}
use Rattle.lab_figures.specs.PictureReading.{behind_blanks}
use Rattle.lab_figures.proofs.Blanks.{whole_rest, blanks_in_comment, blanks_at_comment, blanks_at_space, blanks_end}
use Rattle.lab_figures.proofs.Blanks.{blanks_none}
use Rattle.lab_figures.proofs.picture_reading.behind_blanks.Goals as goal
use Rattle.lab_figures.proofs.picture_reading.behind_blanks.Goals.{then-in_comment, else-in_comment+then-byte-eq35}
use Rattle.lab_figures.proofs.picture_reading.behind_blanks.Goals.{else-in_comment+else-byte-eq35+else-not-is_space}

pub returns-then-not-is_space : goal.returns-then-not-is_space
returns-then-not-is_space c =
    let bytes = c.args.bytes.now in
    let i = c.loop-i.i in
    record {
      value = whole_rest bytes i
          ∙ sym (blanks_end bytes i c.loop-i-test.true (ne_eqb (get_or bytes i 0) 35 c.if-byte-eq35.false)
          (sym c.is_space.ensures.value ∙ c.if-not-is_space.true))
          ∙ ap (λ (b : Bool). behind_blanks b (drop i bytes)) (sym c.if-in_comment.false)
          ∙ c.loop-i.invariant;
    }

pub loop-i-preserved : goal.loop-i-preserved
loop-i-preserved c =
    let bytes = c.args.bytes.now in
    let i = c.loop-i.i in
    let next = λ (b : Bool). behind_blanks b (drop (i + 1) bytes) in
    let now = λ (b : Bool). behind_blanks b (drop i bytes) in
    elim c.if-in_comment.branch [
      | then-in_comment w ↦ ap next w.in_comment-is ∙ sym (blanks_in_comment bytes i c.loop-i-test.true)
          ∙ ap now (sym w.if-in_comment.true) ∙ c.loop-i.invariant
      | else-in_comment+then-byte-eq35 w ↦ ap next w.in_comment-is
          ∙ sym (blanks_at_comment bytes i c.loop-i-test.true (eq-eqb (get_or bytes i 0) 35 w.if-byte-eq35.true))
          ∙ ap now (sym w.if-in_comment.false) ∙ c.loop-i.invariant
      | else-in_comment+else-byte-eq35+else-not-is_space w ↦ ap next (w.in_comment-is ∙ w.if-in_comment.false)
          ∙ sym (blanks_at_space bytes i c.loop-i-test.true (ne_eqb (get_or bytes i 0) 35 w.if-byte-eq35.false)
          (sym w.is_space.ensures.value ∙ w.if-not-is_space.false))
          ∙ ap now (sym w.if-in_comment.false) ∙ c.loop-i.invariant
    ]

pub returns : goal.returns
returns c = record {
  value = sym (blanks_none c.loop-i.in_comment c.args.bytes.now c.loop-i.i (omega (arith, c.loop-i-test.false)))
      ∙ c.loop-i.invariant;
}
