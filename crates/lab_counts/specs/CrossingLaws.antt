-- Messages of which worked crossings tell. Ours.
use Rattle.std.specs.Prelude.{ℕ}
use Rattle.cm_model.specs.declared.message.Message.{Message}

-- a message with this relative address
abbrev pub example_message : ℕ → Message
example_message rel = record { rel = rel; proc = 3; payload = 0; tag = record { chip = 0; proc = 3; birth = 8 } }
