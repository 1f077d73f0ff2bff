use Rattle.std.proofs.Common.{◌≡◌, ◌<◌, ◌≤◌, ◌^◌, ℕ, length, get_or, ap, ◌∙◌, arith}
use Rattle.cm_model.specs.Array.{chip_at, nth_or_nil}
use Rattle.cm_image_format.specs.Image.{chip_text}
use Rattle.cm_image_format.specs.Whole.{image_of_chip}
use Rattle.cm_image_dump.specs.Planes.{chips_text}
use Rattle.cm_image_dump.proofs.Lengths.{length-chips_none, length-chips_more}
use Rattle.cm_image_dump.proofs.dumps.chips_len.Goals as goal

pub loop-c-init : goal.loop-c-init
loop-c-init g c = record {
  within = omega arith;
  is = omega (arith, length-chips_none c.args.machine.now.machine);
}

pub chip_len-len-requires : goal.chip_len-len-requires
chip_len-len-requires g c =
    let below : c.loop-c.c < 2 ^ g.S.Sizes.n = omega (arith, c.chip_count-count.ensures.value) in
    let room : length (nth_or_nil c.args.machine.now.machine.buffers c.loop-c.c) ≤ g.S.Sizes.cap =
    c.buffer.ensures.whole.room c.loop-c.c below in
    record { few = rw c.buffer.ensures.value (omega (arith, room)) }

pub loop-c-preserved : goal.loop-c-preserved
loop-c-preserved g c =
    let chip = chip_at c.args.machine.now.machine.chips c.loop-c.c in
    let below : c.loop-c.c < 2 ^ g.S.Sizes.n = omega (arith, c.chip_count-count.ensures.value) in
    record {
      within = omega (arith, c.chip_len-len.ensures.within);
      is = omega (
        arith,
        length-chips_more c.args.machine.now.machine c.loop-c.c,
        c.loop-c.invariant.is,
        c.chip_len-len.ensures.value chip
            (ap (λ (k : ℕ). get_or c.args.counts.now k 0) c.from.ensures ∙ c.requires.counts.each c.loop-c.c below)
            ∙ (λ i. length (chip_text (image_of_chip chip (c.buffer.ensures.value i)))),
      );
    }

pub returns : goal.returns
returns g c =
    let all : c.loop-c.c ≡ 2 ^ g.S.Sizes.n = omega (arith, c.chip_count-count.ensures.value) in
    record {
      value = c.loop-c.invariant.is ∙ ap (λ k. length (chips_text c.args.machine.now.machine 0 k)) all;
      within = omega (arith, c.chip_count-count.ensures.few, c.loop-c.invariant.within);
    }
