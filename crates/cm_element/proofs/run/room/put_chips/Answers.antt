use Rattle.std.proofs.Common.{◌≡◌, inr, ℕ, ◌+◌, ◌*◌, get_or, ap, ◌∙◌, arith}
use Rattle.cm_element.proofs.run.room.put_chips.Goals as goal

pub returns : goal.returns
returns c =
    let put = c.put_square.ensures in
    record {
      value = λ k p few small.
          let place : k * 256 + (c.args.column + p) ≡ (0 + k) * 256 + (c.args.column + p) = omega arith in
          ap (λ (n : ℕ). get_or c.put_square.new.planes n 0) place
          ∙ put.value k p few small ∙ c.transpose.ensures.value k p few small
          ∙ c.read_chips.ensures.value p k small few;
      others = λ k p inside beside. put.others k p inside (inr beside);
    }
