use Rattle.cm_bits.specs.Bit.{differ}
use Rattle.cm_model.proofs.Bits.{bit-bit_xor}
use Rattle.cm_truth.proofs.changes.Goals as goal

pub returns : goal.returns
returns c = record {
  neither = λ p h. rw bit-bit_xor
      (λ j. differ (c.entry_everywhere.ensures.value p h j) (c.entry_everywhere-2.ensures.value p h j));
  by_f = λ p h. rw bit-bit_xor
      (λ j. differ (c.entry_everywhere-3.ensures.value p h j) (c.entry_everywhere-4.ensures.value p h j));
  by_b = λ p h. rw bit-bit_xor
      (λ j. differ (c.entry_everywhere-5.ensures.value p h j) (c.entry_everywhere-6.ensures.value p h j));
  by_both = λ p h. rw bit-bit_xor
      (λ j. differ (c.entry_everywhere-7.ensures.value p h j) (c.entry_everywhere-8.ensures.value p h j));
}
