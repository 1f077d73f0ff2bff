-- What a chip takes in, sends, delivers and keeps, where these messages stand in its buffer. Ours.
use Rattle.std.specs.Prelude.{ℕ, ◌&&◌, Bool, not, List, [], ◌∷◌, length, if◌then◌else◌}
use Rattle.cm_model.specs.declared.message.Message.{Message}
use Rattle.cm_model.specs.Processor.{Processor}
use Rattle.cm_model.specs.Letters.{senders_taken, messages_sent, is_among, can_receive, has_arrived}

-- ---- injection

-- the processors whose messages it takes in, with room for cap
abbrev pub taken_here : ℕ → List Message → List Processor → List ℕ
taken_here cap ms chip = senders_taken cap (length ms) chip

-- these messages, where it is chip c of a cube of n dimensions, at this count of petit cycles
abbrev pub sent_here : ℕ → ℕ → ℕ → ℕ → List Message → List Processor → List Message
sent_here n cap clock c ms chip = messages_sent n clock c chip (taken_here cap ms chip)

-- ---- delivery

-- it has arrived, its processor can receive, and none has arrived for that processor before it
abbrev pub is_accepted : (ℕ → Bool) → List ℕ → Message → Bool
is_accepted receives before m = has_arrived m && (receives m.proc && not (is_among m.proc before))

-- the processors for which messages have arrived, one message on
abbrev pub arrived_for : List ℕ → Message → List ℕ
arrived_for before m = if has_arrived m then m.proc ∷ before else before

-- what a buffer delivers, where messages for these processors have arrived before
abbrev pub delivered : (ℕ → Bool) → List ℕ → List Message → List Message
delivered receives before [] = []
delivered receives before (m ∷ ms) =
    if is_accepted receives before m then m ∷ delivered receives (arrived_for before m) ms else delivered receives
    (arrived_for before m) ms

-- what it keeps
abbrev pub kept : (ℕ → Bool) → List ℕ → List Message → List Message
kept receives before [] = []
kept receives before (m ∷ ms) =
    if is_accepted receives before m then kept receives (arrived_for before m) ms else m ∷ kept receives
    (arrived_for before m) ms

-- what it delivers
abbrev pub delivered_here : List Message → List Processor → List Message
delivered_here ms chip = delivered (can_receive chip) [] ms

-- what it keeps
abbrev pub kept_here : List Message → List Processor → List Message
kept_here ms chip = kept (can_receive chip) [] ms
