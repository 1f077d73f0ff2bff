use Rattle.std.proofs.Common.{ℕ, List, [], length, ap, ◌∙◌, arith}
use Rattle.cm_model.specs.declared.message.Message.{Message}
use Rattle.cm_model.proofs.Each.{length-tabulate}
use Rattle.cm_array.proofs.Laying.{buffers_cut, none_stand}
use Rattle.cm_array.proofs.part.lay_all_buffers.Goals as goal

pub lay_buffers-requires-clause-here : goal.lay_buffers-requires-clause-here
lay_buffers-requires-clause-here c =
    let none : ℕ → List Message = λ k. [] in
    omega (
      arith,
      ap length c.clear.ensures.value,
      length-tabulate 0 (length c.args.crossing.now.buffers) none,
      c.requires.here,
    )

pub lay_buffers-requires-clause-few : goal.lay_buffers-requires-clause-few
lay_buffers-requires-clause-few c =
    let none : ℕ → List Message = λ k. [] in
    omega (
      arith,
      ap length c.clear.ensures.value,
      length-tabulate 0 (length c.args.crossing.now.buffers) none,
      c.requires.here,
      c.requires.there,
      c.requires.few,
    )

pub lay_buffers-requires-clause-empty : goal.lay_buffers-requires-clause-empty
lay_buffers-requires-clause-empty c =
    λ k l. none_stand (length c.args.crossing.now.buffers) c.clear.new.self.buffers k c.clear.ensures.value

pub returns-clause-value : goal.returns-clause-value
returns-clause-value c =
    let none : ℕ → List Message = λ k. [] in
    c.gather.ensures.value
    ∙ buffers_cut c.args.first c.args.count c.args.from.now.buffers c.clear.new.self.buffers
    c.lay_buffers.new.to.buffers
    (ap length c.clear.ensures.value ∙ length-tabulate 0 (length c.args.crossing.now.buffers) none ∙ c.requires.here)
    c.requires.there c.lay_buffers.ensures.value
