use Rattle.std.proofs.Common.{◌≡◌, ℕ, ◌-◌, refl, sym, ap, ◌∙◌, eq-eqb, ne_eqb}
use Rattle.cm_bits.specs.declared.place.Place.{Place}
use Rattle.cm_bits.specs.declared.plane.Dir.{Dir}
use Rattle.cm_model.specs.Place.{neighbour, source}
use Rattle.cm_model.specs.Instruction.{flag_output}
use Rattle.cm_model.specs.Chip.{processor_at}
use Rattle.cm_model.specs.Array.{chip_at, processor_of, incoming}
use Rattle.cm_plain.proofs.machine.PlainMachine.incoming.Goals as goal

pub returns-then-eq : goal.returns-then-eq
unfolding incoming
returns-then-eq g c =
    let nano = c.args.nano.now in
    let place : Place = record { chip = c.args.chip; proc = c.args.proc } in
    let news = sym c.eq.ensures ∙ c.if-eq.true in
    let source_is : c.neighbour-source.result ≡ source g.row.N nano.dir place =
    c.neighbour-source.ensures.value ∙ ap (λ (dir : Dir). neighbour g.row.N dir place) c.opposite.ensures.value in
    record {
      value = rw news (c.flag_output.ensures.value
          ∙ ap (flag_output nano) (c.processor.ensures.value ∙ ap (processor_of c.args.self.now) source_is));
    }

pub returns-then-number-eq0 : goal.returns-then-number-eq0
unfolding incoming
returns-then-number-eq0 g c =
    let other = sym c.eq.ensures ∙ c.if-eq.false in
    let first = eq-eqb c.args.proc 0 (sym c.get-number.ensures.value ∙ c.if-number-eq0.true) in
    record { value = rw (other, first) refl }

pub returns : goal.returns
unfolding incoming
returns g c =
    let nano = c.args.nano.now in
    let other = sym c.eq.ensures ∙ c.if-eq.false in
    let later = ne_eqb c.args.proc 0 (λ (e : c.args.proc ≡ 0). c.if-number-eq0.false (c.get-number.ensures.value ∙ e))
    in
    let made = rw c.unwrap-before.ensures at c.new.ensures.value in
    let before_is : c.unwrap-before.result ≡ c.args.proc - 1 =
    made ∙ ap (λ (n : ℕ). n - 1) c.get-number.ensures.value in
    record {
      value = rw (other, later)
          (c.flag_output-2.ensures.value
          ∙ ap (flag_output nano) (c.processor-2.ensures.value
          ∙ ap (processor_at (chip_at c.args.self.now c.args.chip)) before_is));
    }
