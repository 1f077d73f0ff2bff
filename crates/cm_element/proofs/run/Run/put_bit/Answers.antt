use Rattle.std.proofs.Common.{◌≡◌, ℕ, ◌==◌, if◌then◌else◌, [], get_or, sym, ap, ◌∙◌}
use Rattle.cm_bits.specs.Bit.{bit}
use Rattle.cm_model.specs.Chip.{with_memory_bit}
use Rattle.cm_element.specs.Runs.{chip_column, chips_of}
use Rattle.cm_element.proofs.Columns.{length-chips_of, get_or-chip_column, chip_at-chips_of, has_word, chip_is_whole}
use Rattle.cm_element.proofs.Poking.{put_memory}
use Rattle.cm_element.proofs.Replacing.{memory_set}
use Rattle.cm_element.proofs.run.Run.put_bit.Goals as goal

pub word-requires-clause-place : goal.word-requires-clause-place
word-requires-clause-place c =
    has_word c.self.inside.memory c.self.inside.flags.items c.self.inside.stride c.self.inside.chips c.args.chip
    c.self.invariant (rw (← c.self.view_is) at c.requires.chip)

pub put-requires-clause-place : goal.put-requires-clause-place
put-requires-clause-place c =
    has_word c.self.inside.memory c.self.inside.flags.items c.self.inside.stride c.self.inside.chips c.args.chip
    c.self.invariant (rw (← c.self.view_is) at c.requires.chip)

pub returns-clause-value : goal.returns-clause-value
returns-clause-value c =
    let run = c.self.inside in
    let m = run.memory in
    let f = run.flags.items in
    let chip = c.args.chip in
    let here = rw (← c.self.view_is, length-chips_of m f run.stride run.chips) at c.requires.chip in
    let old : c.word.result ≡ get_or (chip_column m run.stride 4096 chip) c.args.at 0 =
    c.word.ensures.value ∙ sym (get_or-chip_column m run.stride 4096 chip c.args.at c.requires.at) in
    rw (← c.self.view_is)
    ((λ j. chips_of (c.put.ensures.value j) f run.stride run.chips)
    ∙ memory_set m f run.stride run.chips chip c.args.at c.with_bit-word.result (with_memory_bit (get_or (chips_of m f
    run.stride run.chips) chip []) c.args.proc c.args.at c.args.bit) c.self.invariant here c.requires.at
    (put_memory (chip_column m run.stride 4096 chip) (chip_column f run.stride 16 chip)
    c.args.proc c.args.at c.with_bit-word.result c.args.bit c.with_bit-word.ensures.in_range
    (λ q h. c.with_bit-word.ensures.value q h ∙ ap (λ (w : ℕ). if q == c.args.proc then c.args.bit else bit w q) old)
    ∙ ap (λ v. with_memory_bit v c.args.proc c.args.at c.args.bit)
    (sym (chip_at-chips_of m f run.stride run.chips chip here))))

pub returns-clause-whole : goal.returns-clause-whole
returns-clause-whole c = rw (← c.self.view_is)
    (chip_is_whole c.self.inside.memory c.self.inside.flags.items c.self.inside.stride c.self.inside.chips
    c.args.chip c.self.invariant (rw (← c.self.view_is) at c.requires.chip))
