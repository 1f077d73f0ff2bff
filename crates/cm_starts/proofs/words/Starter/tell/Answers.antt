use Rattle.std.proofs.Common.{ap, ◌∙◌, ℕ, []}
use Rattle.cm_starts.specs.Starting.{starter}
use Rattle.cm_starts.proofs.words.Starter.tell.Goals as goal

pub put-requires-clause-new : goal.put-requires-clause-new
put-requires-clause-new c =
    c.self.invariant.2 ∙ ap (λ (word : ℕ). (starter word, [])) (c.self.view_is ∙ c.requires.new)
