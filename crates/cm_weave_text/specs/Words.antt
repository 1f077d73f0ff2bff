-- The step that a line asks for, by its words: ours.
use Rattle.std.specs.Prelude.{ℕ, ◌^◌, if◌then◌else◌, Option, Some, None, Result, Ok, Err}
use Rattle.std.specs.Prelude.{List, [], ◌∷◌, codes, bytes_eq}
use Rattle.cm_session.specs.declared.command.Refusal.{Refusal}
use Rattle.cm_session.specs.declared.command.Refusal.TheVariants.{Word, Operands}
use Rattle.cm_session.specs.Operands.{◌>>=◌, number_in_word, below_limit}
use Rattle.cm_exchange.specs.declared.step.Step.{Step}
use Rattle.cm_exchange.specs.declared.step.Step.TheVariants.{Grip, File, Draw, Clear}

-- one of 2 ^ k blocks
abbrev pub block_asked : ℕ → List (List ℕ) → Result ℕ Refusal
block_asked k (b ∷ []) = number_in_word b >>= λ b'. below_limit (2 ^ k) b'
block_asked k _ = Err Operands

-- what a first word and its operands ask for
abbrev pub step_named : ℕ → List ℕ → List (List ℕ) → Result Step Refusal
step_named k name operands =
    if bytes_eq name (codes "grip") then (block_asked k operands >>= λ b. Ok (Grip b))
    else (if bytes_eq name (codes "file") then (block_asked k operands >>= λ b. Ok (File b))
    else (if bytes_eq name (codes "draw") then (block_asked k operands >>= λ b. Ok (Draw b))
    else (if bytes_eq name (codes "clear") then (block_asked k operands >>= λ b. Ok (Clear b))
    else Err Word)))

-- the step of the words of a line, none where there are no words
abbrev pub step_in_words : ℕ → List (List ℕ) → Result (Option Step) Refusal
step_in_words k [] = Ok None
step_in_words k (name ∷ operands) = step_named k name operands >>= λ step. Ok (Some step)
