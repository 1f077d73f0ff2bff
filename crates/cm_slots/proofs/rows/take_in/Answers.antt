use Rattle.std.proofs.Common.{◌≡◌, ◌+◌, ◌-◌, ◌*◌, ◌<◌, ◌≤◌, ◌∙◌, suc, ⊎_elim, arith}
use Rattle.std.proofs.Math.Path.{fun_ext}
use Rattle.std.proofs.lemmas.Bool.{cases_lt}
use Rattle.cm_slots.proofs.rows.take_in.Goals as goal

pub take_in_lanes-requires-clause-taken : goal.take_in_lanes-requires-clause-taken
take_in_lanes-requires-clause-taken c = λ j h.
    let at = c.loop-b.b * 16 in
    rw (c.loop-b.invariant.ahead (at + j) 0 (omega arith))
    (c.requires.taken (at + j) (omega (arith, c.loop-b-test.true)))

pub loop-b-preserved : goal.loop-b-preserved
loop-b-preserved c =
    let at = c.loop-b.b * 16 in
    let was = c.loop-b.invariant in
    let now = c.take_in_lanes.ensures in
    record {
      shape = now.shape;
      value = λ i xs h few most are. ⊎_elim
          (λ (l : i < at). rw (fun_ext (λ j. now.before i j l)) (was.value i xs l few most are))
          (λ (l : at ≤ i).
          let is : at + (i - at) ≡ i = omega arith in
          rw (← was.ahead i 0 l) (rw is at (now.value (i - at) xs (omega arith) few most
          (rw (is, fun_ext (λ j. was.ahead i (suc j) l)) are))))
          (cases_lt i at);
      ahead = λ i j h. now.behind i j (omega (arith, h)) ∙ was.ahead i j (omega (arith, h));
    }

pub returns-clause-value : goal.returns-clause-value
returns-clause-value c = λ i xs h. c.loop-b.invariant.value i xs
    (omega (arith, c.loop-b.auto.b-end, c.loop-b-test.false))
