use Rattle.std.proofs.Common.{ℕ, Ok, Err, sym, ap, ◌∙◌}
use Rattle.cm_bits.specs.Text.{lines_left}
use Rattle.lab_route_plot.specs.Legs.{legs_after}
use Rattle.lab_route_plot.proofs.Reading.{after_line}
use Rattle.lab_route_plot.proofs.legs.read_legs.Goals as goal

pub returns-in-Err : goal.returns-in-Err
returns-in-Err c = record {
  value = λ other.
      sym (rw c.in-Some.ensures.steps at c.loop-line.invariant)
      ∙ after_line c.args.cycles c.loop-line.number c.loop-line.legs.items c.in-Some.line.now (lines_left c.next.new.self)
      (Err c.in-Err.fault) (c.in-Err.ensures.ok other);
}

pub loop-line-preserved : goal.loop-line-preserved
loop-line-preserved c =
    let legs = c.push_line.new.legs.items in
    let lines = lines_left c.next.new.self in
    ap (λ (n : ℕ). legs_after c.args.cycles n legs lines) c.in-Some-checked_add.ensures.1
    ∙ sym (after_line c.args.cycles c.loop-line.number c.loop-line.legs.items c.in-Some.line.now lines (Ok legs) c.in-Ok.ensures.ok)
    ∙ (rw c.in-Some.ensures.steps at c.loop-line.invariant)

pub returns : goal.returns
unfolding legs_after
returns c = record { value = sym (rw c.in-None.ensures.steps.0 at c.loop-line.invariant) }
