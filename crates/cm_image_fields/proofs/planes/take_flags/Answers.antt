use Rattle.std.proofs.Common.{◌≡◌, Ok, refl, arith, ◌∙◌}
use Rattle.std.proofs.lemmas.List.{length-set}
use Rattle.std.proofs.lemmas.Result.{err_from_is_err_and}
use Rattle.cm_image_format.specs.Image.{flag_part}
use Rattle.cm_image_fields.proofs.Taking.{flags_on, flags_err, flags_all, zero_on}
use Rattle.cm_image_fields.proofs.planes.take_flags.Goals as goal

pub returns-in_err-plane-clause-value : goal.returns-in_err-plane-clause-value
returns-in_err-plane-clause-value c =
    let p = err_from_is_err_and c.from_residual.result c.from_residual.ensures.1 in
    rw (p.1, p.2) (flags_err c.loop-f.f c.loop-f.flags c.loop-f.rest.now c.args.bytes.now _
    (omega arith) c.loop-f.invariant c.in_err-plane.ensures.value)

pub loop-f-init : goal.loop-f-init
loop-f-init c = record { long = refl; zero = λ h. absurd (omega (arith, h)); same = refl }

pub loop-f-preserved : goal.loop-f-preserved
loop-f-preserved c =
    let told : flag_part c.loop-f.f c.loop-f.rest.now ≡ Ok (c.in_ok-plane.plane, c.in_ok-plane.after.now) =
    cc (c.in_ok-plane.ensures.value) in
    record {
      long = length-set c.loop-f.flags c.loop-f.f c.in_ok-plane.plane ∙ c.loop-f.invariant.long;
      zero = zero_on c.loop-f.f c.loop-f.flags c.loop-f.rest.now c.args.bytes.now c.in_ok-plane.plane
          (omega arith) c.loop-f.invariant c.in_ok-plane.ensures.zero;
      same = flags_on c.loop-f.f c.loop-f.flags c.loop-f.rest.now c.in_ok-plane.after.now c.args.bytes.now
          c.in_ok-plane.plane (omega arith) c.loop-f.invariant told;
    }

pub returns : goal.returns
returns c = record {
  value = flags_all c.loop-f.f c.loop-f.flags c.loop-f.rest.now c.args.bytes.now (omega arith) c.loop-f.invariant;
  zero = c.loop-f.invariant.zero (omega arith);
}
