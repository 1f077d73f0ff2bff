-- How many events of a chip some steps tell at most, and how often they count: ours.
use Rattle.std.specs.Prelude.{ℕ, ◌+◌, ◌*◌, Bool, true, false, List}
use Rattle.std.specs.List.{count_by}
use Rattle.cm_model.specs.Steps.{Step, Instruct, Look, Inject, Cross, Deliver}

-- a step at which routers take messages in
abbrev pub is_injection : Step → Bool
is_injection (Instruct nano) = false
is_injection Look = false
is_injection Inject = true
is_injection (Cross d) = false
is_injection Deliver = false

-- a step at which messages go to their processors, after which the counter is one more
abbrev pub is_delivery : Step → Bool
is_delivery (Instruct nano) = false
is_delivery Look = false
is_delivery Inject = false
is_delivery (Cross d) = false
is_delivery Deliver = true

-- how many of some steps are injections
abbrev pub injections : List Step → ℕ
injections steps = count_by is_injection steps

-- how many of some steps are deliveries: so much the counter goes up
abbrev pub deliveries : List Step → ℕ
deliveries steps = count_by is_delivery steps

-- the most events of a chip in some steps: four at an injection,
-- and at a delivery one for each message that there is room for
abbrev pub events_in : ℕ → List Step → ℕ
events_in room steps = 4 * injections steps + room * deliveries steps
