-- Nodes of the router, one for each chip, and two that send each other who leaves: Hillis 1985.
use Rattle.std.specs.Prelude.{◌≡◌, ℕ, ◌^◌, List, [], length, slice_index_or}
use Rattle.std.specs.List.{All}
use Rattle.cm_model.specs.Array.{Chips}
use Rattle.cm_model.specs.Wiring.{Way}
use Rattle.cm_model.specs.Buffers.{outgoing, buffer_after_dimension}
use Rattle.cm_router.specs.Buffer.{Buffer, holding}
use Rattle.cm_router.specs.Logs.{Log}

-- one chip, one node with room for cap messages and one log for each number of a cube of n dimensions
pub record AreNodes (n cap : ℕ) (chips : Chips) (nodes : List Buffer) (logs : List Log) : Type 0 where
  pub chip_count : length chips ≡ 2 ^ n
  pub node_count : length nodes ≡ 2 ^ n
  pub log_count : length logs ≡ 2 ^ n
  pub rooms : All (λ node. node.room ≡ cap) nodes

-- what is read where no node stands
abbrev pub no_node : Buffer
no_node = record { room = 0; messages = [] }

-- the node of a chip
abbrev pub node_at : List Buffer → ℕ → Buffer
node_at nodes c = slice_index_or nodes c no_node

-- a node after dimension d, where this other one stands across it and both see this way
abbrev pub exchanged : Way → ℕ → Buffer → Buffer → Buffer
exchanged way d here there =
    holding here (buffer_after_dimension way here.room d here.messages (outgoing way there.room d there.messages))
