use Rattle.std.proofs.Common.{◌≡◌, ◌+◌, ◌*◌, ℕ, true, Ok, sym, ap, ◌∙◌, subst, arith}
use Rattle.std.specs.Int.{w16}
use Rattle.std.proofs.lemmas.Result.{err_from_is_err_and}
use Rattle.cm_bits.specs.Wire.{Wire}
use Rattle.cm_model.specs.Wiring.{rule_number}
use Rattle.cm_image_format.specs.Reading.{number_at}
use Rattle.cm_image_format.specs.Cuts.{cut_part, is_cut_count}
use Rattle.cm_image_fields.specs.Cuts.{with_cuts}
use Rattle.cm_router.specs.Cuts.{with_wire}
use Rattle.cm_image_fields.proofs.Cutting.{IsCutting, cuts_start, cuts_on, cuts_err, cuts_all}
use Rattle.cm_image_fields.proofs.cuts.take_cuts.Goals as goal

pub loop-i-init : goal.loop-i-init
loop-i-init g c = cuts_start g.S.Sizes.n c.in_ok-count.count c.args.builder.now c.in_ok-count.rest.now c.requires.none

pub returns-in_err-chip-clause-refused : goal.returns-in_err-chip-clause-refused
returns-in_err-chip-clause-refused g c =
    let p = err_from_is_err_and c.from_residual-in_err-chip.result c.from_residual-in_err-chip.ensures.1 in
    let counted : number_at w16 c.args.bytes.now ≡ Ok (c.in_ok-count.count, c.in_ok-count.rest.now) =
    cc (c.in_ok-count.ensures.value) in
    let fits : is_cut_count g.S.Sizes.n (rule_number c.args.rule) c.in_ok-count.count ≡ true =
    sym c.is_cut_count.ensures.value ∙ c.if-not-is_cut_count.false in
    rw (p.1, p.2)
    (cuts_err g.S.Sizes.n (rule_number c.args.rule) c.in_ok-count.count c.loop-i.i c.loop-i.least c.loop-i.builder
    c.args.builder.now c.loop-i.rest.now c.in_ok-count.rest.now c.args.bytes.now _ c.loop-i-test.true fits counted
    c.loop-i.invariant c.in_err-chip.ensures.value)

pub loop-i-preserved : goal.loop-i-preserved
loop-i-preserved g c =
    let w : Wire = record { chip = c.in_ok-chip.chip; dim = c.in_ok-chip.dim } in
    let told : cut_part g.S.Sizes.n c.loop-i.least c.loop-i.rest.now ≡ Ok (w, c.in_ok-chip.after.now) =
    cc (c.in_ok-chip.ensures.value) in
    let edge : c.unwrap.result ≡ w = rw c.unwrap.ensures at c.new.ensures.value in
    let put : c.cut.new.self ≡ with_cuts c.loop-i.builder (with_wire w c.loop-i.builder.routing.cuts) =
    c.cut.ensures.value
    ∙ ap (λ (x : Wire). with_cuts c.loop-i.builder (with_wire x c.loop-i.builder.routing.cuts)) edge in
    let is = c.in_ok-chip.ensures.wire in
    let next = cuts_on g.S.Sizes.n c.in_ok-count.count c.loop-i.i c.loop-i.least w c.loop-i.builder c.cut.new.self
    c.args.builder.now c.loop-i.rest.now c.in_ok-chip.after.now c.in_ok-count.rest.now c.loop-i-test.true
    (omega (arith, is.wire.dim)) c.in_ok-chip.ensures.above c.loop-i.invariant told put in
    subst (λ (d : ℕ). IsCutting g.S.Sizes.n c.in_ok-count.count (c.loop-i.i + 1) (c.in_ok-chip.chip * 16 + d + 1)
    c.cut.new.self c.in_ok-chip.after.now c.args.builder.now c.in_ok-count.rest.now) (sym c.from.ensures) next

pub returns-clause-ok : goal.returns-clause-ok
returns-clause-ok g c =
    let counted : number_at w16 c.args.bytes.now ≡ Ok (c.in_ok-count.count, c.in_ok-count.rest.now) =
    cc (c.in_ok-count.ensures.value) in
    let fits : is_cut_count g.S.Sizes.n (rule_number c.args.rule) c.in_ok-count.count ≡ true =
    sym c.is_cut_count.ensures.value ∙ c.if-not-is_cut_count.false in
    cuts_all g.S.Sizes.n (rule_number c.args.rule) c.in_ok-count.count c.loop-i.i c.loop-i.least c.loop-i.builder
    c.args.builder.now c.loop-i.rest.now c.in_ok-count.rest.now c.args.bytes.now c.loop-i-test.false fits counted
    c.requires.none c.loop-i.invariant
