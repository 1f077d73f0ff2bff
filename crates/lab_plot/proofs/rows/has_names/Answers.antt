use Rattle.std.proofs.Common.{ℕ, rules, tests, sym, ap, ◌∙◌, ◌&&◌, Bool, bytes_eq, eq-eqb, refl, arith}
use Rattle.std.proofs.lemmas.Iterator.{YieldsList-from_range}
use Rattle.std.proofs.lemmas.Iterator.Search.{all_from_yields_List}
use Rattle.std.specs.List.{list_all, range_with_len}
use Rattle.lab_plot.specs.Cells.{cell, width_of}
use Rattle.lab_plot.specs.Rows.{has_names}
use Rattle.lab_plot.proofs.rows.has_names.Goals as goal

pub returns-then-width-columns : goal.returns-then-width-columns
unfolding has_names
returns-then-width-columns c =
    let same = λ (k : ℕ). bytes_eq (cell c.args.line.now k) (cell c.args.other.now k) in
    let all = all_from_yields_List same _ _ _ c.all.ensures.ran
    (YieldsList-from_range 0 c.width-columns.result (width_of c.args.other.now) refl
    (omega (arith, c.width-columns.ensures.value)))
    (λ x r q k. search (rules, tests)) in
    let wide = eq-eqb (width_of c.args.line.now) (width_of c.args.other.now)
    (sym c.width.ensures.value ∙ c.if-width-columns.true ∙ c.width-columns.ensures.value) in
    record {
      value = all ∙ ap (λ (b : Bool). b && list_all same (range_with_len 0 (width_of c.args.other.now))) (sym wide);
    }

pub returns-else-width-columns : goal.returns-else-width-columns
unfolding has_names
returns-else-width-columns c = search rules
