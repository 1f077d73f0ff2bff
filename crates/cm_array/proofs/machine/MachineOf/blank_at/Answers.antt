use Rattle.std.proofs.Common.{◌≡◌, ℕ, subst, rules, arith}
use Rattle.cm_model.specs.Machine.{blank_machine}
use Rattle.cm_array.specs.Parts.{AreParts, machine_of}
use Rattle.cm_array.proofs.Machines.{few_chips, AreParts-blank, machine_of-blank}
use Rattle.cm_array.proofs.machine.MachineOf.blank_at.Goals as goal

pub blank-requires : goal.blank-requires
blank-requires g c = record { few = omega (arith, few_chips c.args.n (omega arith)) }

pub invariant_of-result : goal.invariant_of-result
invariant_of-result g c =
    subst (λ (n : ℕ). AreParts n g.S.Sizes.cap c.in_ok-state.state) c.requires.n
    (subst (λ (cap : ℕ). AreParts c.args.n cap c.in_ok-state.state) c.requires.cap
    (AreParts-blank c.args.n c.args.cap _ c.args.clock c.in_ok-state.state
    (record { dimension = omega arith; some_room = omega arith; most_room = omega arith }) (search rules)
    c.requires.clock c.in_ok-state.ensures.value))

pub returns-clause-value : goal.returns-clause-value
returns-clause-value g c =
    subst (λ (n : ℕ). machine_of c.in_ok-state.state ≡ record (blank_machine n) { clock = c.args.clock }) c.requires.n
    (machine_of-blank c.args.n c.args.cap _ c.args.clock c.in_ok-state.state (search rules) c.in_ok-state.ensures.value)
