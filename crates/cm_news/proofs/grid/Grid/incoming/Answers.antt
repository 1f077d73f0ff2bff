use Rattle.std.proofs.Common.{ℕ, ◌||◌, false, get_or, ap, ◌∙◌, if◌then◌else◌}
use Rattle.cm_bits.specs.Bit.{bit}
use Rattle.cm_model.specs.Chip.{plane_bit}
use Rattle.cm_news.specs.Moves.{sender_on_chip, at_edge, is_entry, bit_along_edge}
use Rattle.cm_news.proofs.Joining.{joined}
use Rattle.cm_news.proofs.grid.Grid.incoming.Goals as goal

pub returns : goal.returns
returns g c =
    let planes = c.args.planes.now in
    let dir = c.args.dir in
    record {
      value = λ p h.
          c.over_edge.ensures.value p h
          ∙ ap (λ (i : ℕ). plane_bit (get_or planes i 0) (sender_on_chip dir p)
          || (if is_entry dir p then bit c.edge.result (bit_along_edge dir p) else false)) c.from.ensures
          ∙ joined g.row.N dir c.args.chip planes c.edge.result c.requires.chip
          (λ i below. c.edge.ensures.value i below
          ∙ ap (λ (k : ℕ). bit (get_or planes k 0) (at_edge dir i)) (c.from-2.ensures ∙ c.chip_before.ensures.value))
          p h;
    }
