use Rattle.std.proofs.Common.{◌≡◌, sym, ap, ◌∙◌, lit<, arith}
use Rattle.std.proofs.lemmas.Result.{on_ok_weaker}
use Rattle.cm_model.specs.Machine.{Machine}
use Rattle.cm_model.specs.Buffers.{machine_after_injection, machine_after_dimension, machine_after_delivery}
use Rattle.cm_model.proofs.Cycles.{after_crossings, after_crossings-more, after_cycle-is, clock_in_cycle}
use Rattle.cm_plain.proofs.router.PlainRouter.cycle.Goals as goal

pub loop-dim-preserved : goal.loop-dim-preserved
loop-dim-preserved g c =
    c.in_ok-cross.ensures.ok
    ∙ ap (machine_after_dimension g.row.N g.row.CAP c.loop-dim.dim) c.loop-dim.invariant
    ∙ sym (after_crossings-more g.row.N g.row.CAP (machine_after_injection g.row.N g.row.CAP c.args.self.now)
    c.loop-dim.dim)

pub deliver-requires : goal.deliver-requires
deliver-requires g c =
    let counted : c.loop-dim.self.clock ≡ c.args.self.now.clock = ap (λ (m : Machine). m.clock) c.loop-dim.invariant
    ∙ clock_in_cycle g.row.N g.row.CAP c.args.self.now c.loop-dim.dim in
    (lit< tt, omega arith)

pub returns : goal.returns
returns g c =
    let begun : Machine = machine_after_injection g.row.N g.row.CAP c.args.self.now in
    let all : c.loop-dim.dim ≡ g.row.N = omega arith in
    record {
      ok = on_ok_weaker c.deliver.result
          (λ is. is
          ∙ ap (machine_after_delivery g.row.N) (c.loop-dim.invariant
          ∙ ap (after_crossings g.row.N g.row.CAP begun) all)
          ∙ sym (after_cycle-is g.row.N g.row.CAP c.args.self.now))
          c.deliver.ensures.ok;
    }
