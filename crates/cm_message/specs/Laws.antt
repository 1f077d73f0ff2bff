-- That a message and its bytes tell each other: each law is the contract of a function of its name. Ours.
use Rattle.std.specs.Prelude.{◌≡◌, ℕ, ◌<◌, ◌^◌, List, Some, length, slice_index}
use Rattle.cm_model.specs.declared.message.Message.{Message}
use Rattle.cm_model.specs.Keeping.{IsMessage}
use Rattle.cm_message.specs.Bytes.{message_text, message_of}

-- a message is read from its bytes
abbrev pub MessagesAreRead : Type 0
MessagesAreRead = (m : Message) → IsMessage 16 m → m.tag.birth < 2 ^ 64 → message_of (message_text m) ≡ Some m

-- eighteen bytes of which a message is read are the bytes of that message
abbrev pub OnlyTheirBytesAreRead : Type 0
OnlyTheirBytesAreRead =
    (bytes : List ℕ) (m : Message) → length bytes ≡ 18 → ((i : ℕ) → slice_index bytes i < 256)
    → message_of bytes ≡ Some m → message_text m ≡ bytes
