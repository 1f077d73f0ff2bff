use Rattle.std.proofs.Common.{◌≡◌, ◌++◌, take, length, ap, ◌∙◌, arith}
use Rattle.std.proofs.lemmas.List.{take_all}
use Rattle.std.specs.List.{flat_map}
use Rattle.lab_figures.specs.Pictures.{dot_bytes, bytes_text}
use Rattle.lab_figures.proofs.picture.push_bytes.Goals as goal

pub returns : goal.returns
unfolding bytes_text
returns c =
    let dots = c.args.picture.now.dots in
    let all : take c.loop-dot.dot-index dots ≡ dots =
    take_all c.loop-dot.dot-index dots
    (omega (arith, c.loop-dot-test.false, ap length c.dots-dot-items.ensures.value)) in
    record {
      ok = c.loop-dot.invariant
          ∙ ap (λ xs. c.args.text.now.items ++ flat_map (dot_bytes c.args.picture.now.greatest) xs) all;
    }
