use Rattle.std.proofs.Common.{◌≡◌, ◌+◌, ◌*◌, ◌<◌, ◌==◌, ℕ, Bool, if◌then◌else◌, List, get_or, refl, ap, sym, ◌∙◌}
use Rattle.std.proofs.Common.{arith, subst}
use Rattle.cm_bits.specs.Bit.{bit}
use Rattle.cm_element.specs.Puts.{ArePut}
use Rattle.cm_element.proofs.Putting.{slot_put, zero_put, retold_put}
use Rattle.cm_element.proofs.run.memory.put_bits.Goals as goal
use Rattle.cm_element.proofs.run.memory.put_bits.Goals.{then-slot-ne0, else-slot-ne0+else-bit}

pub loop-i-init : goal.loop-i-init
loop-i-init c = record {
  put = retold_put c.args.words.now c.args.slots.now c.args.spot.stride c.args.spot.place c.args.proc c.args.field.at
      c.from-at.result c.put_sixteens-put.result c.put_sixteens-put.result c.args.value c.put_sixteens-put.new.words
      c.put_sixteens-put.ensures.value (sym (c.from-at.ensures ∙ c.at.ensures.value)) refl;
}

pub returns-then-bit-clause-value : goal.returns-then-bit-clause-value
returns-then-bit-clause-value c =
    let spot = c.args.spot in
    retold_put c.args.words.now c.args.slots.now spot.stride spot.place c.args.proc c.from-at.result c.args.field.at
    c.loop-i.i c.loop-i.i c.args.value c.loop-i.words c.loop-i.invariant.put (c.from-at.ensures ∙ c.at.ensures.value) refl

pub loop-i-preserved : goal.loop-i-preserved
loop-i-preserved c =
    let spot = c.args.spot in
    let at : ℕ = c.from-at.result in
    let i : ℕ = c.loop-i.i in
    let words : List ℕ = c.loop-i.words in
    let slots : List ℕ = c.args.slots.now in
    let index : ℕ = c.from-slot.result * spot.stride + c.from.result in
    let below : at + i < 4096 = omega arith in
    let slot : c.from-slot.result ≡ get_or slots (at + i) 0 = c.from-slot.ensures in
    let place : index ≡ get_or slots (at + i) 0 * spot.stride + spot.place = (λ j. slot j * spot.stride + c.from.ensures j) in
    let is : c.bit_of-bit.result ≡ bit c.args.value i = c.bit_of-bit.ensures.value in
    record {
      put = elim c.if-slot-ne0.branch [
        | then-slot-ne0 w ↦ subst (ArePut c.args.words.now slots spot.stride spot.place c.args.proc at (i + 1) c.args.value)
            (sym w.words-is)
            (slot_put c.args.words.now slots spot.stride spot.place c.args.proc at i c.args.value words index
            c.with_bit-word.result c.loop-i.invariant.put c.with_bit-word.ensures.in_range below c.requires.place
            (omega (arith, slot, w.if-slot-ne0.true)) place
            (λ q h. c.with_bit-word.ensures.value q h
            ∙ ap (λ (b : Bool). if q == c.args.proc then b else bit (get_or words index 0) q) is))
        | else-slot-ne0+else-bit w ↦ subst (ArePut c.args.words.now slots spot.stride spot.place c.args.proc at (i + 1)
            c.args.value) (sym w.words-is)
            (zero_put c.args.words.now slots spot.stride spot.place c.args.proc at i c.args.value words
            c.loop-i.invariant.put c.with_bit-word.ensures.in_range below c.requires.place
            (sym slot ∙ w.if-slot-ne0.false) (sym is ∙ w.if-bit.false))
      ];
    }

pub returns-clause-value : goal.returns-clause-value
returns-clause-value c =
    let spot = c.args.spot in
    retold_put c.args.words.now c.args.slots.now spot.stride spot.place c.args.proc c.from-at.result c.args.field.at
    c.loop-i.i c.from-len.result c.args.value c.loop-i.words c.loop-i.invariant.put (c.from-at.ensures ∙ c.at.ensures.value)
    (omega arith)
