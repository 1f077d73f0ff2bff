-- How a session of steps ends: what it wrote, after each of its faults too. Ours.
use Rattle.std.specs.Prelude.{◌≡◌, ℕ, ◌<◌, ◌≤◌, ◌==◌, Bool, true, false, if◌then◌else◌, nat_le, Option, Some}
use Rattle.std.specs.Prelude.{Result, Ok, Err, List, [], ◌∷◌, ◌++◌, length, take, codes}
use Rattle.std.specs.List.{list_all}
use Rattle.std.specs.Io.KnownBytes.{Appends, Consumes, IsAtEnd}
use Rattle.cm_bits.specs.Text.{lines_of}
use Rattle.cm_session.specs.Answer.{line}
use Rattle.cm_session.specs.Ends.{ended_lines}
use Rattle.cm_exchange.specs.Lanes.{Exchange, round_count}
use Rattle.cm_exchange.specs.Worlds.{World, IsFinished}
use Rattle.cm_weave_text.specs.declared.fault.WeaveFault.{WeaveFault}
use Rattle.cm_weave_text.specs.declared.fault.WeaveFault.TheVariants.{Read, Write, TooMuch, Memory, Unfinished}
use Rattle.cm_weave_text.specs.Session.{world_answers, world_left}

-- the most bytes of steps
abbrev pub STEPS_LIMIT : ℕ
STEPS_LIMIT = 16777216

-- the lines of a text that are answered: all of them, or those that end within the most bytes
abbrev pub processed_step_lines : List ℕ → List (List ℕ)
processed_step_lines text = if nat_le (length text) STEPS_LIMIT then lines_of text else ended_lines (take STEPS_LIMIT text)

-- ---- the last line

-- every block is through all rounds
abbrev pub is_finished : Exchange → World → Bool
is_finished exchange world = list_all (λ stand. stand.round == round_count exchange) world.stands

-- the last line, where every block is through all rounds
abbrev pub finished_line : List ℕ
finished_line = line (codes "finished" ∷ [])

-- the last line, where some block is not through all rounds
abbrev pub unfinished_line : List ℕ
unfinished_line = line (codes "unfinished" ∷ [])

-- the last line of a session that ends in this world
abbrev pub last_line : Exchange → World → List ℕ
last_line exchange world = if is_finished exchange world then finished_line else unfinished_line

-- what stands behind the answers to the lines of a text: the last line, and nothing where there are too many bytes
abbrev pub closing : Exchange → World → List ℕ → List ℕ
closing exchange start text =
    if nat_le (length text) STEPS_LIMIT then last_line exchange (world_left exchange start (lines_of text)) else []

-- all that is told of a text
abbrev pub answer_text : Exchange → World → List ℕ → List ℕ
answer_text exchange start text = world_answers exchange start (processed_step_lines text) ++ closing exchange start text

-- ---- ends

-- so many bytes of a text are written, not all
pub record IsShortWrite (text : List ℕ) (out_before out_after : Option (List ℕ)) (count : ℕ) : Type 0 where
  pub within : count < length text
  pub written : Appends out_before out_after (take count text)

-- some bytes of a text are written
pub record IsPartWritten (text : List ℕ) (out_before out_after : Option (List ℕ)) : Type 0 where
  pub count : ℕ
  pub within : count ≤ length text
  pub written : Appends out_before out_after (take count text)

-- a source that has this text gave these bytes, not more than the most, and the answers to the lines that ended in them
-- are written
pub record IsAnsweredSoFar (exchange : Exchange) (text : List ℕ) (rest : Option (List ℕ)) (start : World)
    (out_before out_after : Option (List ℕ)) : Type 0 where
  pub taken : List ℕ
  pub consumed : Consumes (Some text) rest taken
  pub within : length taken ≤ STEPS_LIMIT
  pub written : Appends out_before out_after (world_answers exchange start (ended_lines taken))

-- all lines of a text are answered, and the last line told
pub record IsAnsweredToEnd (exchange : Exchange) (text : List ℕ) (start : World) (last : List ℕ) (out_before out_after : Option (List ℕ))
    : Type 0 where
  pub within : length text ≤ STEPS_LIMIT
  pub written : Appends out_before out_after (world_answers exchange start (lines_of text) ++ last)

-- a text is written in part: it was cut by a write, or for want of memory
abbrev pub IsWrittenInPart : List ℕ → Option (List ℕ) → Option (List ℕ) → WeaveFault → Type 0
IsWrittenInPart text out_before out_after (Write count) = IsShortWrite text out_before out_after count
IsWrittenInPart text out_before out_after Memory = IsPartWritten text out_before out_after
IsWrittenInPart text out_before out_after Read = ⊥
IsWrittenInPart text out_before out_after TooMuch = ⊥
IsWrittenInPart text out_before out_after Unfinished = ⊥

-- how a session ends finished whose source has this text
pub record EndsFinished (exchange : Exchange) (text : List ℕ) (start : World) (out_before out_after : Option (List ℕ))
    : Type 0 where
  pub finished : IsFinished exchange (world_left exchange start (lines_of text))
  pub told : IsAnsweredToEnd exchange text start finished_line out_before out_after

-- how it ends by a fault, where that is left of the source
abbrev pub EndsBy : Exchange → List ℕ → Option (List ℕ) → World → Option (List ℕ) → Option (List ℕ) → WeaveFault
    → Type 0
EndsBy exchange text rest start out_before out_after Read = IsAnsweredSoFar exchange text rest start out_before out_after
EndsBy exchange text rest start out_before out_after (Write count) =
    IsWrittenInPart (answer_text exchange start text) out_before out_after (Write count)
EndsBy exchange text rest start out_before out_after TooMuch =
    (STEPS_LIMIT < length text) × Appends out_before out_after (world_answers exchange start (ended_lines (take STEPS_LIMIT text)))
EndsBy exchange text rest start out_before out_after Memory =
    IsWrittenInPart (answer_text exchange start text) out_before out_after Memory
EndsBy exchange text rest start out_before out_after Unfinished =
    (IsFinished exchange (world_left exchange start (lines_of text)) → ⊥)
    × IsAnsweredToEnd exchange text start unfinished_line out_before out_after

-- a source, of which this was left in the end, gave some text, and the session ended finished so as of that text and
-- nothing more; nothing is left. This can be said of a source that does not tell its bytes
pub record EndsFinishedForSome (exchange : Exchange) (source rest : Option (List ℕ)) (start : World)
    (out_before out_after : Option (List ℕ)) : Type 0 where
  pub text : List ℕ
  pub read : Consumes source rest text
  pub ends : EndsFinished exchange text start out_before out_after
  pub end : IsAtEnd rest

-- and it ended so by a fault; after Unfinished nothing is left
pub record EndsByForSome (exchange : Exchange) (source rest : Option (List ℕ)) (start : World)
    (out_before out_after : Option (List ℕ)) (fault : WeaveFault) : Type 0 where
  pub text : List ℕ
  pub read : Consumes source rest text
  pub ends : EndsBy exchange text (Some []) start out_before out_after fault
  pub end : (fault ≡ Unfinished) → IsAtEnd rest

-- it ended by a write
abbrev pub is_weave_write : {M : Type 0} → Result M WeaveFault → Bool
is_weave_write (Ok machine) = false
is_weave_write (Err Read) = false
is_weave_write (Err (Write count)) = true
is_weave_write (Err TooMuch) = false
is_weave_write (Err Memory) = false
is_weave_write (Err Unfinished) = false
