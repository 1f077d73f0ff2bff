use Rattle.std.proofs.Common.{◌≡◌, ℕ, sym, ◌∙◌, ap, arith}
use Rattle.std.specs.List.{filter, range_with_len}
use Rattle.cm_model.specs.Processor.{SEND, flag}
use Rattle.cm_model.specs.Chip.{processor_at}
use Rattle.cm_model.specs.Letters.{senders}
use Rattle.cm_plain.proofs.Filtered.{filtered_in, filtered_out}
use Rattle.cm_plain.proofs.machine.PlainChip.senders.Goals as goal
use Rattle.cm_plain.proofs.machine.PlainChip.senders.Goals.{then-has_flag+in-Ok, else-has_flag}

pub loop-number-preserved : goal.loop-number-preserved
loop-number-preserved c =
    let chip = c.args.self.now in
    let number_is = rw c.unwrap-proc.ensures at c.new.ensures.value in
    let test_is = c.has_flag.ensures.value ∙ ap (λ (p : ℕ). flag (processor_at chip p) SEND) number_is in
    elim c.if-has_flag.branch [
      | then-has_flag+in-Ok w ↦ ap (λ v. v.items) w.senders-is
          ∙ filtered_in _ c.loop-number.number c.unwrap-proc.result c.loop-number.senders.items w.push.new.self.items
          c.loop-number.invariant w.in-Ok.ensures.items number_is (sym test_is ∙ w.if-has_flag.true)
      | else-has_flag w ↦ ap (λ v. v.items) w.senders-is
          ∙ filtered_out _ c.loop-number.number c.loop-number.senders.items c.loop-number.invariant (sym test_is
          ∙ w.if-has_flag.false)
    ]

pub returns : goal.returns
unfolding senders
returns c =
    let all : c.loop-number.number ≡ 16 = omega arith in
    record {
      value = c.loop-number.invariant
          ∙ ap (λ (n : ℕ). filter (λ p. flag (processor_at c.args.self.now p) SEND) (range_with_len 0 n)) all;
    }
