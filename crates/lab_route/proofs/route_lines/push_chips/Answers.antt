use Rattle.std.proofs.Common.{◌≡◌, ◌++◌, ℕ, flat_map, decimal, ap, ◌∙◌, arith, append_assoc}
use Rattle.std.specs.List.{range_with_len}
use Rattle.lab_route.specs.RouteLines.{step_text, way_chips_text}
use Rattle.lab_study.proofs.Sums.{text-more}
use Rattle.lab_route.proofs.route_lines.push_chips.Goals as goal

pub loop-dim-preserved : goal.loop-dim-preserved
loop-dim-preserved c =
    text-more (step_text c.args.from c.args.to) (c.args.text.now.items ++ decimal c.args.from) c.loop-dim.text.items
    c.push_step.new.text.items c.loop-dim.dim c.loop-dim.invariant c.in_ok-push_step.ensures.ok

pub returns : goal.returns
unfolding way_chips_text
returns c =
    let all : c.loop-dim.dim ≡ c.args.dims = omega (arith, c.loop-dim-test.false, c.loop-dim.auto.dim-end) in
    let steps = λ (k : ℕ). flat_map (step_text c.args.from c.args.to) (range_with_len 0 k) in
    record {
      ok = c.loop-dim.invariant
          ∙ ap (λ (k : ℕ). c.args.text.now.items ++ decimal c.args.from ++ steps k) all
          ∙ append_assoc c.args.text.now.items (decimal c.args.from) (steps c.args.dims);
    }
