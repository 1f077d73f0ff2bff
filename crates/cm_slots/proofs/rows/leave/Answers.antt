use Rattle.std.proofs.Common.{◌≡◌, ◌+◌, ◌-◌, ◌*◌, ◌<◌, ◌≤◌, ◌∙◌, suc, ⊎_elim, arith}
use Rattle.std.proofs.Math.Path.{fun_ext}
use Rattle.std.proofs.lemmas.Bool.{cases_lt}
use Rattle.cm_slots.proofs.Carrying.{same_carried}
use Rattle.cm_slots.proofs.rows.leave.Goals as goal

pub loop-b-preserved : goal.loop-b-preserved
loop-b-preserved c =
    let at = c.loop-b.b * 16 in
    let was = c.loop-b.invariant in
    let now = c.leave_lanes.ensures in
    record {
      shape = now.shape;
      value = λ i h. ⊎_elim
          (λ (l : i < at). same_carried _ _ _ _ _ _ (now.before i 0 l) (λ j. now.before i (suc j) l) (was.value i l))
          (λ (l : at ≤ i).
          let is : at + (i - at) ≡ i = omega arith in
          rw (fun_ext (λ j. was.ahead i j l)) at (rw is at (now.value (i - at) (omega arith))))
          (cases_lt i at);
      ahead = λ i j h. now.behind i j (omega (arith, h)) ∙ was.ahead i j (omega (arith, h));
    }

pub returns-clause-value : goal.returns-clause-value
returns-clause-value c = λ i h. c.loop-b.invariant.value i (omega (arith, c.loop-b.auto.b-end, c.loop-b-test.false))
