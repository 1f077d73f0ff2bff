use Rattle.std.proofs.Common.{◌≡◌, ◌+◌, take, cond, refl, arith}
use Rattle.cm_array.specs.Acts.{cycles_in, is_cycle}
use Rattle.cm_debug.specs.State.{stops_at}
use Rattle.cm_debug.proofs.Growing.{grows, one_more, ends_here}
use Rattle.cm_debug.proofs.stretch.stretch_len.Goals as goal

pub loop-count-preserved : goal.loop-count-preserved
loop-count-preserved c =
    let told = c.if-ends_at.ensures in
    let l = c.loop-count in
    let more : cycles_in (take (l.count + 1) c.args.acts.now)
    ≡ cycles_in (take l.count c.args.acts.now) + cond (is_cycle c.index-acts-count.result) 1 0 =
    one_more _ _ _ c.loop-count-test.true c.index-acts-count.is in
    record {
      some = omega arith;
      within = omega (arith, c.loop-count-test.true);
      few = omega (arith, c.if-count-lt-LONGEST.true);
      cycles = omega (arith, more, l.invariant.cycles, c.cycle_count-cycles-in-loop-count.ensures.value);
      few_cycles = omega (arith, told.few refl, c.cycle_count-cycles-in-loop-count.ensures.value);
      stretch = grows _ _ _ _ _ _ c.index-acts-count.result c.loop-count-test.true c.index-acts-count.is
          l.invariant.stretch (told.silent refl)
          (told.goes refl) (omega (arith, told.room refl, l.invariant.cycles));
    }

pub returns-then-ends_at-clause-longest : goal.returns-then-ends_at-clause-longest
returns-then-ends_at-clause-longest c =
    let l = c.loop-count in
    ends_here (stops_at c.args.stops c.args.debugger.now.breakpoints.items) c.args.debugger.now.trace c.args.debugger.now.position
    c.args.clock c.args.acts.now l.count l.cycles c.index-acts-count.result l.invariant.some c.loop-count-test.true
    c.index-acts-count.is l.invariant.cycles (c.ends_at.ensures.ends c.if-ends_at.true)
