use Rattle.std.proofs.Common.{◌≡◌, ◌+◌, ◌∙◌, ℕ, sym, arith}
use Rattle.cm_model.specs.Machine.{Machine}
use Rattle.cm_router.specs.Routes.{routing_of}
use Rattle.cm_router.specs.Rows.{with_row}
use Rattle.cm_petit.specs.Routers.{machine_from, events_of}
use Rattle.cm_array.specs.Acts.{cycles_in}
use Rattle.cm_array.specs.Parts.{machine_of}
use Rattle.cm_array.proofs.Machines.{AreUnderWay-parts, HaveBuffers-parts, AreParts-counted, looked, rested}
use Rattle.cm_array.proofs.chip_state.ChipState.pass_time.Goals as goal

pub returns-then-cycles-eq0-clause-value : goal.returns-then-cycles-eq0-clause-value
returns-then-cycles-eq0-clause-value c = λ yes. sym (looked c.args.self.now.shape.dims c.args.self.now.shape.room
    (machine_of c.args.self.now) c.args.acts.now c.requires.state.machine.buffer_count
    (sym c.has_instruction.ensures.value ∙ c.if-has_instruction.false)
    (sym c.requires.cycles ∙ c.if-cycles-eq0.true))

pub returns : goal.returns
returns c =
    let n = c.args.self.now.shape.dims in
    let cap = c.args.self.now.shape.room in
    let parts = c.args.self.now in
    let acts = c.args.acts.now in
    let are = HaveBuffers-parts n cap parts (AreUnderWay-parts n cap parts c.requires.state) in
    let told = with_row (events_of parts.logs.items) parts.row.items in
    let at : ℕ → Machine = machine_from (routing_of parts.routing) parts.run parts.crossing.buffers told in
    let ran = rested n cap at (λ k. are.buffer_count)
    (λ k. c.is_at_rest.ensures.rest c.if-not-is_at_rest.false (routing_of parts.routing) told k are
    c.requires.state.machine.log_count) acts
    parts.clock
    (sym c.has_instruction.ensures.value ∙ c.if-has_instruction.false) in
    let counted : parts.clock + c.args.cycles ≡ parts.clock + cycles_in acts = omega (arith, c.requires.cycles) in
    record {
      value = λ yes. rw counted ran;
      state = AreParts-counted n cap acts parts (parts.clock + c.args.cycles) c.requires.state (rw counted ran)
          c.requires.clock;
      same = λ no. absurd cc;
    }
