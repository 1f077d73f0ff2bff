use Rattle.std.proofs.Common.{◌≡◌, ◌+◌, ◌^◌, Ok, refl, sym, ◌∙◌, arith}
use Rattle.std.proofs.lemmas.Result.{err_from_is_err_and}
use Rattle.cm_model.specs.Machine.{Machine}
use Rattle.cm_image_load.specs.WaitingChips.{with_waiting}
use Rattle.cm_image_load.proofs.Loading.{blank_on, chips_on, chips_wrong, chips_done}
use Rattle.cm_image_load.proofs.chips.take_chips.Goals as goal

pub loop-chip-init : goal.loop-chip-init
loop-chip-init g c = record {
  waiting = c.requires.waiting;
  blank = c.requires.blank;
  clock = c.requires.clock;
  same = refl;
}

pub returns-in_err-rest-clause-refused : goal.returns-in_err-rest-clause-refused
returns-in_err-rest-clause-refused g c =
    let p = err_from_is_err_and c.from_residual.result c.from_residual.ensures.1 in
    rw (p.1, p.2)
    (sym c.loop-chip.invariant.same
    ∙ chips_wrong g.S.Sizes.n g.S.Sizes.cap c.args.clock c.loop-chip.chip
    (with_waiting c.loop-chip.chip c.loop-chip.builder c.loop-chip.waiting) c.loop-chip.rest.now _
    (omega (arith, c.chip_count-chips.ensures.value)) c.in_err-rest.ensures.refused)

pub loop-chip-preserved : goal.loop-chip-preserved
loop-chip-preserved g c =
    let before : Machine = with_waiting c.loop-chip.chip c.loop-chip.builder c.loop-chip.waiting in
    let after : Machine = with_waiting (c.loop-chip.chip + 1) c.take_chip.new.builder c.take_chip.new.waiting in
    let told =
    blank_on g.S.Sizes.n g.S.Sizes.cap c.args.clock c.loop-chip.chip before after
    c.loop-chip.rest.now c.in_ok-rest.rest.now c.in_ok-rest.ensures.ok c.loop-chip.invariant.blank
    c.loop-chip.invariant.clock in
    record {
      waiting = c.in_ok-rest.ensures.waiting;
      blank = told.0;
      clock = told.1;
      same = chips_on g.S.Sizes.n g.S.Sizes.cap c.args.clock c.loop-chip.chip before after c.loop-chip.rest.now
          c.in_ok-rest.rest.now _ (omega (arith, c.chip_count-chips.ensures.value)) c.loop-chip.invariant.same
          c.in_ok-rest.ensures.ok;
    }

pub returns-clause-ok : goal.returns-clause-ok
returns-clause-ok g c =
    let end : c.loop-chip.chip ≡ c.chip_count-chips.result =
    omega (arith, c.loop-chip-test.false, c.chip_count-chips.ensures.value, c.requires.first) in
    let all : with_waiting c.loop-chip.chip c.loop-chip.builder c.loop-chip.waiting ≡ c.put.new.builder =
    (λ i. with_waiting (end i) c.loop-chip.builder c.loop-chip.waiting) ∙ sym c.put.ensures.value in
    let last : c.loop-chip.chip ≡ 2 ^ g.S.Sizes.n = end ∙ c.chip_count-chips.ensures.value in
    sym c.loop-chip.invariant.same
    ∙ (chips_done g.S.Sizes.n g.S.Sizes.cap c.args.clock c.loop-chip.chip
    (with_waiting c.loop-chip.chip c.loop-chip.builder c.loop-chip.waiting) c.loop-chip.rest.now (omega (arith, last))
    ∙ (λ i. Ok ((all i, last i), c.loop-chip.rest.now)))
