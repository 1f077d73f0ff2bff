use Rattle.std.proofs.Common.{ℕ, ◌*◌, ap, ◌∙◌}
use Rattle.cm_model.specs.Each.{tabulate}
use Rattle.cm_model.specs.Chip.{blank_chip}
use Rattle.cm_element.proofs.Columns.{blank_rows}
use Rattle.cm_element.proofs.run.Run.blank.Goals as goal

pub returns : goal.returns
returns c = record {
  value = blank_rows c.in_ok-memory.memory c.in-Ok.flags.items (4096 * c.stride_of-stride.result)
      (16 * c.stride_of-stride.result) c.stride_of-stride.result c.from-chips.result
      c.in_ok-memory.ensures.value
      (c.in-Ok.ensures.items_if_clones_equal (λ y same. same))
      ∙ ap (λ (n : ℕ). tabulate 0 n (λ c. blank_chip)) c.from-chips.ensures;
}
