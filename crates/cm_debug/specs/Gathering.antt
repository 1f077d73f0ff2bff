-- How much is gathered of answers on their way to a sink. Ours.
use Rattle.std.specs.Prelude.{ℕ}

-- the most bytes that are gathered
abbrev pub GATHERED_LIMIT : ℕ
GATHERED_LIMIT = 65536
