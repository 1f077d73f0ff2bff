-- A chip's buffer: the messages that stand there, in order of since. Ours.
use Rattle.std.specs.Prelude.{ℕ, List, [], ◌∷◌, map, if◌then◌else◌}
use Rattle.cm_model.specs.declared.message.Message.{Message}
use Rattle.cm_model.specs.Router.{Standing, is_before, standing_at}

-- a record among others that are in order of since
abbrev pub put : Standing → List Standing → List Standing
put r [] = r ∷ []
put r (q ∷ qs) = if is_before q.since r.since then q ∷ put r qs else r ∷ q ∷ qs

-- records in order of since
abbrev pub in_order : List Standing → List Standing
in_order [] = []
in_order (r ∷ rs) = put r (in_order rs)

-- the records at a chip, in order of since
unfoldable pub queue : ℕ → List Standing → List Standing
queue c set = in_order (standing_at c set)

-- their messages
abbrev pub messages_of : List Standing → List Message
messages_of records = map (λ r. r.message) records

-- the messages at a chip, in order of since
abbrev pub buffer : ℕ → List Standing → List Message
buffer c set = messages_of (queue c set)
