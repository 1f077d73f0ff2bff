use Rattle.std.proofs.Common.{◌≡◌, ℕ, ◌+◌, ◌-◌, ◌*◌, ◌<◌, drop, sym, ap, ◌∙◌, arith, get_or}
use Rattle.std.proofs.lemmas.List.{get_or-take, get_or-drop}
use Rattle.cm_bits.specs.Bit.{bit}
use Rattle.cm_model.specs.Processor.{entry}
use Rattle.cm_element.proofs.Columns.{length-chips_of}
use Rattle.cm_element.proofs.Stepping.{chip_looked_up}
use Rattle.cm_element.proofs.run.rows.look_up_row.Goals as goal

pub returns : goal.returns
returns c =
    let memory = c.args.memory.now in
    let places = c.places-at.ensures.value in
    let a_is : c.from.result * c.args.stride ≡ c.places-at.result.a =
    ap (λ (i : ℕ). i * c.args.stride) (c.from.ensures ∙ c.get.ensures.value) ∙ sym places.a in
    let b_is : c.from-2.result * c.args.stride ≡ c.places-at.result.b =
    ap (λ (i : ℕ). i * c.args.stride) (c.from-2.ensures ∙ c.get-2.ensures.value) ∙ sym places.b in
    record {
      value = record {
        each = λ chip h p below. let here : chip < c.args.chips =
            omega (arith, h, length-chips_of memory c.args.flags.now c.args.stride c.args.chips) in
            let a = c.row-a.ensures.value chip here ∙ ap (λ (n : ℕ). get_or memory (n + chip) 0) a_is in
            let b = c.row-b.ensures.value chip here ∙ ap (λ (n : ℕ). get_or memory (n + chip) 0) b_is in
            let read : ℕ = c.places-at.result.read in
            let f = get_or-take (read + c.args.chips - read) (drop read c.args.flags.now) chip 0 (omega (arith, here))
            ∙ get_or-drop read c.args.flags.now chip 0 in
            chip_looked_up c.args.table c.args.nano.now memory c.args.flags.now c.args.stride c.args.chips chip
            c.places-at.result (get_or c.apply_into.new.out chip 0) p places here below
            (c.apply_into.ensures.value.each chip (omega (arith, here, c.row-a.ensures.count)) p below
            ∙ (λ j. entry c.args.table (bit (a j) p) (bit (b j) p) (bit (f j) p)));
      };
    }
