-- The blank machine, by how it routes.
use Rattle.std.proofs.Common.{◌≡◌, ℕ, ap}
use Rattle.cm_model.specs.Wiring.{Routing, plain_routing}
use Rattle.cm_model.specs.Machine.{Machine, blank_machine}

pub blank_routing : (n : ℕ) (routing : Routing) → routing ≡ plain_routing
    → ◌≡◌ {A = Machine} (record (blank_machine n) { routing = routing }) (blank_machine n)
unfolding blank_machine
blank_routing n routing is = ap (λ (r : Routing). record (blank_machine n) { routing = r }) is
