use Rattle.std.proofs.Common.{◌*◌, ap, ◌∙◌, arith}
use Rattle.cm_bits.specs.Bit.{bit}
use Rattle.cm_news.proofs.Shifting.{bit-down}
use Rattle.cm_news.proofs.Stepping.{edge_north, edge_south}
use Rattle.cm_news.proofs.grid.Grid.edge.Goals as goal
use Rattle.cm_news.proofs.grid.Grid.edge.Goals.{in-North, in-South, in-West, in-East}

pub returns-clause-value : goal.returns-clause-value
returns-clause-value g c = λ i h. elim c.match-dir.branch [
  | in-North w ↦ rw (w.edge-is, w.in-North.is) (edge_north c.args.plane i h)
  | in-South w ↦ rw (w.edge-is, w.in-South.is) (edge_south c.args.plane i)
  | in-West w ↦
      rw (w.edge-is, w.in-West.is) (w.first_column-edge.ensures.value i h ∙ ap (bit c.args.plane) (omega arith))
  | in-East w ↦ rw (w.edge-is, w.in-East.is) (w.first_column-edge-in-East.ensures.value i h
      ∙ bit-down c.args.plane 3 (4 * i) ∙ ap (bit c.args.plane) (omega arith))
]
