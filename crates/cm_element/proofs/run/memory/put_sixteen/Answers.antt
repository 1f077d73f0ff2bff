use Rattle.std.proofs.Common.{◌≡◌, ◌+◌, ◌-◌, ◌*◌, ◌<◌, ◌==◌, ℕ, if◌then◌else◌, List, get_or, set, refl, ap, ◌∙◌}
use Rattle.std.proofs.Common.{arith, length, length-set, subst, sym, take, drop}
use Rattle.cm_bits.specs.Bit.{bit}
use Rattle.cm_element.specs.Puts.{ArePut}
use Rattle.cm_element.proofs.Putting.{slot_put_at, retold_put, column_set, get_or-column}
use borrow.Rule.Slice.PartMut.{put_mid}
use Rattle.cm_element.proofs.run.memory.put_sixteen.Goals as goal

pub loop-i-init : goal.loop-i-init
loop-i-init c = record {
  put = λ first from put number is same are. let spot = c.args.spot in
      retold_put first c.args.slots.now spot.stride spot.place c.args.proc from from put (put + 0) number _ are refl
      (omega arith);
  long = refl;
}

pub loop-i-preserved : goal.loop-i-preserved
loop-i-preserved c =
    let was = c.loop-i.invariant in
    let spot = c.args.spot in
    let i : ℕ = c.loop-i.i in
    let words : List ℕ = c.loop-i.words in
    let slots : List ℕ = c.args.slots.now in
    let place : ℕ = c.from-in-loop-i.result in
    let row : ℕ = c.from.result * spot.stride in
    let word : ℕ = c.with_bit_of.result in
    let inside : i < 16 = omega arith in
    let starts : row + place ≡ get_or slots (c.args.at + i) 0 * spot.stride + spot.place =
    (λ j. c.from.ensures j * spot.stride + c.from-in-loop-i.ensures j) in
    let room = c.requires.rows (c.args.at + i) (omega (arith, c.requires.at, inside)) in
    let rest : place + (length words - place) ≡ length words = omega (arith, starts, room, c.requires.place, was.long) in
    let is : set words (row + place) word
    ≡ put_mid place (length words - place) words (set (take (length words - place) (drop place words)) row word) =
    sym (column_set words place (length words - place) row word rest) in
    record {
      put = λ first from put number is_at same are.
          subst (λ (ws : List ℕ). ArePut first slots spot.stride spot.place c.args.proc from (put + (i + 1)) number ws) is
          (retold_put first slots spot.stride spot.place c.args.proc from from (put + i + 1) (put + (i + 1)) number _
          (slot_put_at first slots spot.stride spot.place c.args.proc from (put + i) number words (row + place)
          word (c.args.at + i) (was.put first from put number is_at same are) c.with_bit_of.ensures.in_range
          (omega (arith, is_at)) (omega arith) c.requires.place (c.requires.own i inside) starts
          (λ q h. c.with_bit_of.ensures.value (bit c.args.bits i) (c.planes_of_bits-planes.ensures.value i inside) q h
          ∙ (λ j. if q == c.args.proc then same i inside j
          else bit (get_or-column words place (length words - place) row rest j) q)))
          refl (omega arith));
      long = sym (ap length is) ∙ length-set words (row + place) word ∙ was.long;
    }

pub returns-clause-value : goal.returns-clause-value
returns-clause-value c = λ first from put number is same are. let spot = c.args.spot in
    retold_put first c.args.slots.now spot.stride spot.place c.args.proc from from (put + c.loop-i.i) (put + 16)
    number c.loop-i.words (c.loop-i.invariant.put first from put number is same are) refl (omega arith)
