-- What stands between two bytes of a session of steps, and what has gone out of a text. Ours.
use Rattle.std.specs.Prelude.{◌≡◌, ℕ, ◌+◌, ◌<◌, ◌≤◌, if◌then◌else◌, Option, List, [], ◌∷◌, ◌++◌}
use Rattle.std.specs.Prelude.{length, take, flat_map}
use Rattle.std.specs.Io.KnownBytes.{Appends, Consumes, IsAtEnd}
use Rattle.cm_bits.specs.Text.{is_line_end, lines_of}
use Rattle.cm_weave.specs.Woven.{Woven}
use Rattle.cm_exchange.specs.Lanes.{Exchange, exchange_of}
use Rattle.cm_exchange.specs.Worlds.{World, IsFinished}
use Rattle.cm_weave_text.specs.declared.fault.WeaveFault.{WeaveFault}
use Rattle.cm_weave_text.specs.declared.fault.WeaveFault.TheVariants.{Read, Write, TooMuch, Memory, Unfinished}
use Rattle.cm_weave_text.specs.Session.{world_after_line, world_answers, world_left}
use Rattle.cm_weave_text.specs.Ends.{STEPS_LIMIT}
use Rattle.cm_weave_text.specs.Alone.{own_steps, step_line}

-- the exchange of the run that a world is of
abbrev pub exchange_in : ℕ → ℕ → Woven → Exchange
exchange_in n cap woven = exchange_of n cap woven.k woven.machine woven.acts

-- one world is of the run of another
pub record IsOfRun (old new : Woven) : Type 0 where
  pub blocks : new.k ≡ old.k
  pub machine : new.machine ≡ old.machine
  pub acts : new.acts ≡ old.acts

-- ---- bytes as they come

-- the world, the bytes of the line that is open, and the answers so far
pub record Hearing : Type 0 where
  pub world : World
  pub line : List ℕ
  pub answers : List ℕ

-- the line has ended
abbrev pub with_line_ended : Exchange → Hearing → Hearing
with_line_ended exchange at = record {
  world = (world_after_line exchange at.world at.line).world;
  line = [];
  answers = at.answers ++ (world_after_line exchange at.world at.line).answer;
}

-- one byte more
abbrev pub with_byte : Exchange → Hearing → ℕ → Hearing
with_byte exchange at byte =
    if is_line_end byte then with_line_ended exchange at else record at { line = at.line ++ byte ∷ [] }

-- so many bytes more, one after another
unfoldable pub processed : Exchange → Hearing → List ℕ → Hearing
processed exchange at [] = at
processed exchange at (byte ∷ bytes) = processed exchange (with_byte exchange at byte) bytes

-- before the first
abbrev pub at_start : World → Hearing
at_start world = record { world = world; line = []; answers = [] }

-- these bytes were heard, and their answers written behind so many bytes
pub record HasHeard (exchange : Exchange) (old new : World) (line kept piece : List ℕ) (sent : ℕ)
    (out_before out_after : Option (List ℕ)) (now : ℕ) : Type 0 where
  pub world_is : new ≡ (processed exchange (record { world = old; line = line; answers = [] }) piece).world
  pub line_is : kept ≡ (processed exchange (record { world = old; line = line; answers = [] }) piece).line
  pub written : Appends out_before out_after (processed exchange (record { world = old; line = line; answers = [] }) piece).answers
  pub count_is : now
      ≡ sent + length (processed exchange (record { world = old; line = line; answers = [] }) piece).answers

-- ---- text as it goes

-- of a text a front went out, behind so many bytes, and the rest is kept
pub record HasSentFront (text : List ℕ) (sent : ℕ) (out_before out_after : Option (List ℕ)) (rest : List ℕ) (now : ℕ) : Type 0 where
  pub gone : List ℕ
  pub written : Appends out_before out_after gone
  pub text_is : text ≡ gone ++ rest
  pub count_is : now ≡ sent + length gone

-- of a text a front went out, behind so many bytes, and no more
pub record IsShortWriteBehind (text : List ℕ) (sent : ℕ) (out_before out_after : Option (List ℕ)) (count : ℕ) : Type 0 where
  pub part : ℕ
  pub count_is : count ≡ sent + part
  pub within : part < length text
  pub written : Appends out_before out_after (take part text)

-- how a text breaks off: cut by a write, or nothing of it went out
abbrev pub TextAborts : List ℕ → ℕ → Option (List ℕ) → Option (List ℕ) → WeaveFault → Type 0
TextAborts text sent out_before out_after (Write count) = IsShortWriteBehind text sent out_before out_after count
TextAborts text sent out_before out_after Memory = Appends out_before out_after []
TextAborts text sent out_before out_after Read = ⊥
TextAborts text sent out_before out_after TooMuch = ⊥
TextAborts text sent out_before out_after Unfinished = ⊥

-- all lines of a text are answered by so many bytes, and the world is that after them
pub record IsHeard (exchange : Exchange) (text : List ℕ) (start : World) (out_before : Option (List ℕ)) (world : World)
    (out_after : Option (List ℕ)) (sent : ℕ) : Type 0 where
  pub within : length text ≤ STEPS_LIMIT
  pub world_is : world ≡ world_left exchange start (lines_of text)
  pub written : Appends out_before out_after (world_answers exchange start (lines_of text))
  pub sent_is : sent ≡ length (world_answers exchange start (lines_of text))

-- a source, of which nothing is left in the end, gave some text, and so it is of that text
pub record IsHeardForSome (exchange : Exchange) (source rest : Option (List ℕ)) (start : World)
    (out_before : Option (List ℕ)) (world : World) (out_after : Option (List ℕ)) (sent : ℕ) : Type 0 where
  pub text : List ℕ
  pub read : Consumes source rest text
  pub end : IsAtEnd rest
  pub is : IsHeard exchange text start out_before world out_after sent

-- a world took all its own steps and is finished: so many, of which so many bytes went out, and the rest is kept
pub record HasPlayed (exchange : Exchange) (start world : World) (out_before out_after : Option (List ℕ)) (rest : List ℕ)
    (steps sent : ℕ) : Type 0 where
  pub finished : IsFinished exchange world
  pub gone : List ℕ
  pub written : Appends out_before out_after gone
  pub text_is : gone ++ rest ≡ flat_map step_line (own_steps exchange start)
  pub sent_is : sent ≡ length gone
  pub steps_are : steps ≡ length (own_steps exchange start)
