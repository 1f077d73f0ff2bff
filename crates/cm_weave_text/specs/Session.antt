-- What is answered to lines of steps, one after another, and the world that they leave: ours.
use Rattle.std.specs.Prelude.{ℕ, Option, Some, None, Result, Ok, Err, List, [], ◌∷◌, ◌++◌}
use Rattle.cm_bits.specs.Text.{words_of}
use Rattle.cm_session.specs.declared.command.Refusal.{Refusal}
use Rattle.cm_session.specs.Answer.{line, refusal_number, refused_line, ok_line}
use Rattle.cm_exchange.specs.declared.step.Step.{Step}
use Rattle.cm_exchange.specs.Lanes.{Exchange}
use Rattle.cm_exchange.specs.Worlds.{World}
use Rattle.cm_exchange.specs.Steps.{next_world}
use Rattle.cm_weave_text.specs.Words.{step_in_words}

-- a world after a line, and what was answered to it
pub record WorldAnswered : Type 0 where
  pub world : World
  pub answer : List ℕ

-- a world, and this answer
abbrev pub world_answered_with : World → List ℕ → WorldAnswered
world_answered_with world answer = record { world = world; answer = answer }

-- what was answered before, and then the rest
abbrev pub world_preceded_by : List ℕ → WorldAnswered → WorldAnswered
world_preceded_by first rest = world_answered_with rest.world (first ++ rest.answer)

-- the number of the refusal of a step that does not fit the world
abbrev pub NOT_NOW : ℕ
NOT_NOW = 34

-- by the world after a step, if there is one
abbrev pub played : World → Option World → WorldAnswered
played world (Some after) = world_answered_with after ok_line
played world None = world_answered_with world (refused_line NOT_NOW)

-- a line without words is not answered; one that is refused changes nothing
abbrev pub step_answered : Exchange → World → Result (Option Step) Refusal → WorldAnswered
step_answered exchange world (Ok None) = world_answered_with world []
step_answered exchange world (Ok (Some step)) = played world (next_world exchange world step)
step_answered exchange world (Err refusal) = world_answered_with world (refused_line (refusal_number refusal))

-- after a line
unfoldable pub world_after_line : Exchange → World → List ℕ → WorldAnswered
world_after_line exchange world line = step_answered exchange world (step_in_words exchange.k (words_of line))

-- after lines, one after another
unfoldable pub world_after_lines : Exchange → World → List (List ℕ) → WorldAnswered
world_after_lines exchange world [] = world_answered_with world []
world_after_lines exchange world (line ∷ lines) =
    world_preceded_by (world_after_line exchange world line).answer
    (world_after_lines exchange (world_after_line exchange world line).world lines)

-- what is answered to these lines
abbrev pub world_answers : Exchange → World → List (List ℕ) → List ℕ
world_answers exchange world lines = (world_after_lines exchange world lines).answer

-- the world that they leave
abbrev pub world_left : Exchange → World → List (List ℕ) → World
world_left exchange world lines = (world_after_lines exchange world lines).world
