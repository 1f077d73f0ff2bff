-- Tags of messages as they are sorted, so that those that are one stand side by side: ours.
use Rattle.std.specs.Prelude.{◌≡◌, ◌≢◌, ℕ, ◌+◌, ◌<◌, List, length, slice_index_or}
use Rattle.cm_model.specs.declared.message.Message.{Message}

-- birth, chip and processor of a tag
abbrev pub Key : Type 0
Key = ℕ × ℕ × ℕ

-- that of a message
abbrev pub tag_key : Message → Key
tag_key m = (m.tag.birth, m.tag.chip, m.tag.proc)

-- what is read where no key stands
abbrev pub no_key : Key
no_key = (0, 0, 0)

-- some key is equal to the next one
pub record HasEqualNeighbours (keys : List Key) : Type 0 where
  pub place : ℕ
  pub inside : place + 1 < length keys
  pub same : slice_index_or keys place no_key ≡ slice_index_or keys (place + 1) no_key

-- no key is equal to the next one
abbrev pub AreNeighboursApart : List Key → Type 0
AreNeighboursApart keys = (k : ℕ) → k + 1 < length keys
    → slice_index_or keys k no_key ≢ slice_index_or keys (k + 1) no_key
