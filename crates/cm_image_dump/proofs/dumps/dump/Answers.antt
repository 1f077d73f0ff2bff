use Rattle.std.proofs.Common.{◌≡◌, ℕ, List, ap, ◌∙◌}
use Rattle.cm_image_format.specs.Whole.{text_of, read_image}
use Rattle.cm_image_dump.proofs.Leaving.{nothing_out}
use Rattle.cm_image_dump.proofs.dumps.dump.Goals as goal

pub returns-in-Ok : goal.returns-in-Ok
returns-in-Ok g c =
    let text : c.replace.result.items ≡ text_of g.S.Sizes.n g.S.Sizes.cap c.args.machine.now.machine =
    ap (λ v. v.items) c.replace.ensures.value ∙ nothing_out c.in-Ok.ensures.ok in
    record {
      value = text;
      read = ap (λ (xs : List ℕ). read_image g.S.Sizes.n g.S.Sizes.cap xs) text ∙ c.text_is_read.ensures;
    }
