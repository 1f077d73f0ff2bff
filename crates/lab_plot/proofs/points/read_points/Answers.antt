use Rattle.std.proofs.Common.{ℕ, ◌∷◌, Ok, Err, sym, ap, ◌∙◌}
use Rattle.cm_bits.specs.Text.{lines_left}
use Rattle.lab_plot.specs.Points.{points_after}
use Rattle.lab_plot.proofs.Reading.{after_one_line}
use Rattle.lab_plot.proofs.points.read_points.Goals as goal

pub loop-line-preserved : goal.loop-line-preserved
loop-line-preserved c =
    let number = c.in-Some-checked_add.number in
    let line = c.in-Some.line.now in
    let lines = lines_left c.next.new.self in
    let points = c.loop-line.points.items in
    sym (after_one_line c.args.kind c.args.columns number points line lines (Ok c.push_line.new.points.items)
    c.in-Ok.ensures.ok)
    ∙ ap (λ (n : ℕ). points_after c.args.kind c.args.columns n points (line ∷ lines)) c.in-Some-checked_add.ensures.1
    ∙ (rw c.in-Some.ensures.steps at c.loop-line.invariant)

pub returns-in-Err : goal.returns-in-Err
returns-in-Err c = record {
  value = λ other.
      let number = c.in-Some-checked_add.number in
      let line = c.in-Some.line.now in
      let lines = lines_left c.next.new.self in
      let points = c.loop-line.points.items in
      sym (rw c.in-Some.ensures.steps at c.loop-line.invariant)
      ∙ sym (ap (λ (n : ℕ). points_after c.args.kind c.args.columns n points (line ∷ lines))
      c.in-Some-checked_add.ensures.1)
      ∙ after_one_line c.args.kind c.args.columns number points line lines (Err c.in-Err.fault) (c.in-Err.ensures.ok other);
}

pub returns : goal.returns
unfolding points_after
returns c = record { value = sym (rw c.in-None.ensures.steps.0 at c.loop-line.invariant) }
