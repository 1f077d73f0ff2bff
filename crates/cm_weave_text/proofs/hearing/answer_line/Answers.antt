use Rattle.std.proofs.Common.{ℕ, Ok, ap, ◌∙◌, refl}
use Rattle.cm_bits.specs.Text.{words_of}
use Rattle.cm_weave.specs.Woven.{Woven}
use Rattle.cm_weave_text.specs.Words.{step_in_words}
use Rattle.cm_weave_text.specs.Hearing.{exchange_in}
use Rattle.cm_weave_text.proofs.Texts.{refused_now}
use Rattle.cm_weave_text.proofs.hearing.answer_line.Goals as goal

pub returns-in-Err-play-clause-value : goal.returns-in-Err-play-clause-value
returns-in-Err-play-clause-value g c =
    refused_now (exchange_in g.S.Sizes.n g.S.Sizes.cap c.args.world.now) c.args.world.now.world c.play.new.self.world
    c.args.line.now c.read_step.result c.in-Ok-Some.step
    (c.read_step.ensures.value
    ∙ ap (λ (k : ℕ). step_in_words k (words_of c.args.line.now)) c.k.ensures.value)
    (c.in-Ok-Some.is ∙ ap Ok c.in-Ok-Some.field-0-is)
    (c.in-Err-play.ensures.refused.0 refl)
    (ap (λ (w : Woven). w.world) c.in-Err-play.ensures.err)
