use Rattle.std.proofs.Common.{◌≡◌, ℕ, ◌+◌, ◌-◌, Some, sym, ap, ◌∙◌, arith}
use Rattle.lab_plot.specs.Cells.{is_cell}
use Rattle.lab_plot.specs.Rows.{cell_fault, fault_from}
use Rattle.lab_plot.proofs.Reading.{fault_from-here, fault_from-next, fault_from-none}
use Rattle.lab_plot.proofs.rows.first_fault.Goals as goal

pub loop-column-init : goal.loop-column-init
loop-column-init c =
    let all : c.args.columns - 0 ≡ c.args.columns = omega arith in
    ap (λ (k : ℕ). fault_from c.args.number c.args.line.now 0 k) all

pub loop-column-preserved : goal.loop-column-preserved
loop-column-preserved c =
    let column = c.loop-column.column in
    sym (fault_from-next c.args.number c.args.line.now column (c.args.columns - column) (c.args.columns - (column + 1))
    (omega (arith, c.loop-column-test.true))
    (sym (c.is_cell.ensures.value ∙ ap is_cell c.cell-bytes.ensures.value) ∙ c.if-not-is_cell.false))
    ∙ c.loop-column.invariant

pub returns-then-not-is_cell : goal.returns-then-not-is_cell
returns-then-not-is_cell c =
    let column = c.loop-column.column in
    record {
      value = ap (λ fault. Some fault) (c.cell_fault.ensures.value
          ∙ ap (cell_fault c.args.number (column + 1)) c.cell-bytes.ensures.value)
          ∙ sym (fault_from-here c.args.number c.args.line.now column (c.args.columns - column)
          (omega (arith, c.loop-column-test.true))
          (sym (c.is_cell.ensures.value ∙ ap is_cell c.cell-bytes.ensures.value) ∙ c.if-not-is_cell.true))
          ∙ c.loop-column.invariant;
    }

pub returns : goal.returns
returns c =
    let column = c.loop-column.column in
    record {
      value = sym (fault_from-none c.args.number c.args.line.now column (c.args.columns - column)
          (omega (arith, c.loop-column-test.false)))
          ∙ c.loop-column.invariant;
    }
