use Rattle.std.proofs.Common.{◌≡◌, ℕ, ◌*◌, get_or, ap, ◌∙◌, arith}
use Rattle.std.proofs.lemmas.List.{get_or_read}
use Rattle.cm_element.proofs.Spreading.{row_inside}
use Rattle.cm_element.proofs.run.memory.start.Goals as goal

pub returns-clause-within : goal.returns-clause-within
returns-clause-within c =
    let slots = c.args.slots.now.items in
    let is : c.from.result ≡ get_or slots c.args.at 0 = c.from.ensures ∙ get_or_read slots c.args.at c.index.result.now
    (omega (arith, c.requires.slots.count, c.requires.at)) c.index.ensures 0 in
    let start : c.from.result * c.args.stride ≡ get_or slots c.args.at 0 * c.args.stride =
    ap (λ (n : ℕ). n * c.args.stride) is in
    omega (
      arith,
      start,
      row_inside c.args.words.now.items slots _ c.args.used c.args.stride c.args.at c.requires.slots
          c.requires.at,
    )
