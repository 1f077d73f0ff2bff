use Rattle.std.proofs.Common.{◌≡◌, ◌-◌}
use Rattle.cm_image_format.specs.Image.{message_part}
use Rattle.cm_image_fields.proofs.Filling.{fill}
use Rattle.cm_image_load.proofs.Standing.{same_place}
use Rattle.cm_image_load.proofs.Coming.{passed_over}
use Rattle.cm_image_load.proofs.messages.are_messages.Given as goal

-- the loop from here on gives what it gave at the start
abbrev pub invariant-loop-i : goal.invariant-loop-i
invariant-loop-i g l =
    fill same_place (λ k. message_part g.S.Sizes.n l.clock) passed_over (l.count - l.i) 0 0 l.rest
    ≡ fill same_place (λ k. message_part g.S.Sizes.n l.clock) passed_over l.count 0 0 l.initial.rest
