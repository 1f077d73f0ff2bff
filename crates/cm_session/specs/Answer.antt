-- What a session tells of a machine, in lines: ours.
use Rattle.std.specs.Prelude.{ℕ, ◌/◌, ◌%◌, Bool, List, [], ◌∷◌, ◌++◌, length, flat_map, codes, decimal}
use Rattle.cm_bits.specs.Bit.{bit_number}
use Rattle.cm_model.specs.declared.message.Message.{Message}
use Rattle.cm_model.specs.declared.message.Event.{Event}
use Rattle.cm_model.specs.declared.message.Event.TheVariants.{Injected, Delivered}
use Rattle.cm_model.specs.declared.found.Found.{Found}
use Rattle.cm_model.specs.declared.found.Found.TheVariants as found
use Rattle.cm_language.specs.Listing.{hex_digit, spaced}
use Rattle.cm_session.specs.declared.command.Refusal.{Refusal}
use Rattle.cm_session.specs.declared.command.Refusal.TheVariants.{Width, Range, ZeroFlag, Word, Operands, Number}

-- words and the end of their line
unfoldable pub line : List (List ℕ) → List ℕ
line words = spaced words ++ 10 ∷ []

-- a payload: `0x` and eight digits
abbrev pub payload_word : ℕ → List ℕ
payload_word x =
    48 ∷ 120 ∷ hex_digit (x / 268435456) ∷ hex_digit (x / 16777216 % 16) ∷ hex_digit (x / 1048576 % 16)
    ∷ hex_digit (x / 65536 % 16)
    ∷ hex_digit (x / 4096 % 16) ∷ hex_digit (x / 256 % 16) ∷ hex_digit (x / 16 % 16) ∷ hex_digit (x % 16) ∷ []

-- a message after a word: relative address, processor, payload, and its tag
abbrev pub message_words : List ℕ → Message → List (List ℕ)
message_words word m =
    word ∷ decimal m.rel ∷ decimal m.proc ∷ payload_word m.payload ∷ decimal m.tag.chip ∷ decimal m.tag.proc
    ∷ decimal m.tag.birth ∷ []

-- the line of a message that stands in a router
unfoldable pub standing_line : Message → List ℕ
standing_line m = line (message_words (codes "msg") m)

-- the messages of a router, from the front
unfoldable pub buffer_lines : List Message → List ℕ
buffer_lines messages = line (codes "buf" ∷ decimal (length messages) ∷ []) ++ flat_map standing_line messages

-- what was injected is told with `in`, what was delivered with `out`
abbrev pub event_line : Event → List ℕ
event_line (Injected m) = line (message_words (codes "in") m)
event_line (Delivered c m) = line (message_words (codes "out") m)

-- the events of a log, the oldest first
unfoldable pub log_lines : List Event → List ℕ
log_lines events = line (codes "events" ∷ decimal (length events) ∷ []) ++ flat_map event_line events

-- where a message is
abbrev pub found_line : Found → List ℕ
found_line (found.Router c) = line (codes "router" ∷ decimal c ∷ [])
found_line (found.Delivered c p) = line (codes "delivered" ∷ decimal c ∷ decimal p ∷ [])
found_line found.Unknown = line (codes "unknown" ∷ [])

-- the number of a refusal
abbrev pub refusal_number : Refusal → ℕ
refusal_number Width = 1
refusal_number Range = 2
refusal_number ZeroFlag = 3
refusal_number Word = 15
refusal_number Operands = 16
refusal_number Number = 17

-- the number of the refusal of a petit cycle that the counter has no room for
abbrev pub CLOCK : ℕ
CLOCK = 7

-- a refusal by its number
abbrev pub refused_line : ℕ → List ℕ
refused_line number = line (codes "?" ∷ decimal number ∷ [])

-- the session has come to an act
abbrev pub at_line : ℕ → List ℕ
at_line position = line (codes "at" ∷ decimal position ∷ [])

-- it has come to the end of the acts
abbrev pub end_line : List ℕ
end_line = line (codes "end" ∷ [])

-- the act of this index looked at the wire
abbrev pub sense_line : ℕ → Bool → List ℕ
sense_line index b = line (codes "sense" ∷ decimal index ∷ decimal (bit_number b) ∷ [])

-- it is done, and nothing else is told
abbrev pub ok_line : List ℕ
ok_line = line (codes "ok" ∷ [])
