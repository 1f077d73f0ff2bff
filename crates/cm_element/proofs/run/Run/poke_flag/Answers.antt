use Rattle.std.proofs.Common.{◌≡◌, ◌≢◌, ℕ, ◌<◌, ◌+◌, ◌*◌, ◌==◌, if◌then◌else◌, [], get_or, length, sym, ap, ◌∙◌, arith}
use Rattle.std.proofs.lemmas.Bool.{eqb-false}
use Rattle.std.proofs.lemmas.List.{get_or_read}
use Rattle.cm_bits.specs.Bit.{bit}
use Rattle.cm_model.specs.Chip.{with_flag}
use Rattle.cm_element.specs.Runs.{chip_column, chips_of}
use Rattle.cm_element.proofs.Columns.{length-chips_of, get_or-chip_column, chip_at-chips_of, has_word}
use Rattle.cm_element.proofs.Poking.{put_flag}
use Rattle.cm_element.proofs.Replacing.{flags_set, flags_set_rows}
use Rattle.cm_element.proofs.run.Run.poke_flag.Goals as goal

pub word_at-here-requires-clause-chip : goal.word_at-here-requires-clause-chip
word_at-here-requires-clause-chip c =
    has_word c.self.inside.memory c.self.inside.flags.items c.self.inside.stride c.self.inside.chips c.args.chip
    c.self.invariant (rw (← c.self.view_is) at c.requires.chip)

pub invariant_of-self : goal.invariant_of-self
invariant_of-self c =
    let run = c.self.inside in
    let here = rw (← c.self.view_is, length-chips_of run.memory run.flags.items run.stride run.chips)
    at c.requires.chip in
    let number : c.from.result ≡ c.args.number = c.from.ensures ∙ c.get.ensures.value in
    let other : c.args.number ≢ 8 = eqb-false c.args.number 8 (sym c.eq.ensures ∙ c.if-eq.false) in
    rw (c.word_at-here.ensures.value, number)
    (flags_set_rows run.memory run.flags.items run.stride run.chips c.args.chip c.args.number c.with_bit.result
    c.self.invariant here other)

pub returns-clause-ok : goal.returns-clause-ok
returns-clause-ok c =
    let run = c.self.inside in
    let m = run.memory in
    let f = run.flags.items in
    let chip = c.args.chip in
    let here = rw (← c.self.view_is, length-chips_of m f run.stride run.chips) at c.requires.chip in
    let number : c.from.result ≡ c.args.number = c.from.ensures ∙ c.get.ensures.value in
    let below : c.args.number < 16 = omega (arith, c.get.ensures.value, c.get.ensures.in_range) in
    let place : c.word_at-here.result ≡ c.args.number * run.stride + chip = c.word_at-here.ensures.value
    ∙ ap (λ (i : ℕ). i * run.stride + chip) number in
    let inside : c.word_at-here.result < length f =
    omega (arith, c.word_at-here.ensures.within, c.self.invariant.flag_words) in
    let old : c.index.result.now ≡ get_or (chip_column f run.stride 16 chip) c.args.number 0 =
    get_or_read f c.word_at-here.result c.index.result.now inside c.index.ensures 0 ∙ ap (λ (i : ℕ). get_or f i 0) place
    ∙ sym (get_or-chip_column f run.stride 16 chip c.args.number below) in
    rw (← c.self.view_is, place)
    (flags_set m f run.stride run.chips chip c.args.number c.with_bit.result (with_flag (get_or (chips_of m f run.stride
    run.chips) chip []) c.args.proc c.args.number c.args.bit) c.self.invariant here below
    (put_flag (chip_column m run.stride 4096 chip) (chip_column f run.stride 16 chip)
    c.args.proc c.args.number c.with_bit.result c.args.bit c.with_bit.ensures.in_range
    (λ q h. c.with_bit.ensures.value q h ∙ ap (λ (w : ℕ). if q == c.args.proc then c.args.bit else bit w q) old)
    ∙ ap (λ v. with_flag v c.args.proc c.args.number c.args.bit)
    (sym (chip_at-chips_of m f run.stride run.chips chip here))))
