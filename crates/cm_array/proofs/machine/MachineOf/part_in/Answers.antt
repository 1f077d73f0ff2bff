use Rattle.std.proofs.Common.{◌+◌, ◌*◌, ◌^◌, ◌≤◌, ℕ, ap, sym, ◌∙◌, subst, arith}
use Rattle.cm_blocks.specs.Parts.{part}
use Rattle.cm_router.specs.Logs.{log_rooms_of, HaveLogRoom}
use Rattle.cm_array.specs.Cuts.{IsCut}
use Rattle.cm_array.specs.Parts.{MachineView}
use Rattle.cm_array.proofs.Machines.{few_chips, AreParts-at_shape}
use Rattle.cm_array.proofs.Cutting.{IsCut-with_logs, IsPart-cut, part_of-cut}
use Rattle.cm_array.proofs.machine.MachineOf.part_in.Goals as goal
use Rattle.cm_array.proofs.machine.MachineOf.part_in.Given.{Over}
use Rattle.cm_array.proofs.machine.MachineOf.part_in.Goals.{In_ok-reserve_logs}

pub room_for-requires : goal.room_for-requires
room_for-requires g c = record {
  few = omega (arith, c.requires.there, few_chips g.S.Sizes.n c.self.invariant.sized.sizes.dimension);
}

pub lay-requires-clause-from : goal.lay-requires-clause-from
lay-requires-clause-from g c = AreParts-at_shape g.S.Sizes.n g.S.Sizes.cap c.self.inside.state c.self.invariant

pub lay-requires-clause-there : goal.lay-requires-clause-there
lay-requires-clause-there g c =
    subst (λ (n : ℕ). c.args.first + c.args.count ≤ 2 ^ n) (sym c.self.invariant.sized.dims) c.requires.there

is_cut : (g : Over) (c : In_ok-reserve_logs g) → IsCut c.args.first c.args.count c.self.inside.state c.reserve_logs.new.self
is_cut g c =
    IsCut-with_logs c.args.first c.args.count c.self.inside.state c.lay.new.self c.reserve_logs.new.self
    c.in_ok-lay.ensures.value c.reserve_logs.ensures.value c.reserve_logs.ensures.events

pub invariant_of-result : goal.invariant_of-result
invariant_of-result g c =
    IsPart-cut g.S.Sizes.n g.S.Sizes.cap c.args.first c.args.count c.self.inside.state c.reserve_logs.new.self c.self.invariant
    c.requires.there (is_cut g c)

pub returns-clause-value : goal.returns-clause-value
returns-clause-value g c =
    part_of-cut g.S.Sizes.n g.S.Sizes.cap c.args.first c.args.count c.self.inside.state c.reserve_logs.new.self c.self.invariant
    c.requires.there (is_cut g c)
    ∙ ap (λ (kept : MachineView). part c.args.first c.args.count kept.machine) c.self.view_is

pub returns-clause-dims : goal.returns-clause-dims
returns-clause-dims g c = (is_cut g c).dims ∙ c.self.invariant.sized.dims

pub returns-clause-room : goal.returns-clause-room
returns-clause-room g c = (is_cut g c).room ∙ c.self.invariant.sized.room

pub returns-clause-log_room : goal.returns-clause-log_room
returns-clause-log_room g c =
    subst (λ (cap : ℕ). HaveLogRoom (c.args.cycles * (4 + cap)) (log_rooms_of c.reserve_logs.new.self.logs.items))
    (c.in_ok-lay.ensures.value.room ∙ c.self.invariant.sized.room) c.in_ok-reserve_logs.ensures.log_room

pub returns-clause-gathered : goal.returns-clause-gathered
returns-clause-gathered g c = (is_cut g c).gathered
