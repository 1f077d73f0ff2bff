-- What contracts see of a node of the router, and what it takes in and delivers on its chip: Hillis 1985.
use Rattle.std.specs.Prelude.{ℕ, ◌<◌, ◌≤◌, List, length, map}
use Rattle.cm_model.specs.declared.message.Message.{Message}

-- what contracts see of the buffer of a node
pub record Buffer : Type 0 where
  -- how many messages it has room for
  pub room : ℕ
  -- the messages that stand there, in order of arrival
  pub messages : List Message

-- what every node keeps: its room, and no more messages than it has room for
pub record IsBuffer (buffer : Buffer) : Type 0 where
  pub some : 0 < buffer.room
  pub most : buffer.room ≤ 15
  pub within : length buffer.messages ≤ buffer.room

-- the same node with these messages
abbrev pub holding : Buffer → List Message → Buffer
holding buffer ms = record buffer { messages = ms }

-- the messages of each node
abbrev pub buffers_of : List Buffer → List (List Message)
buffers_of nodes = map (λ node. node.messages) nodes
