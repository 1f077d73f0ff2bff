use Rattle.std.proofs.Common.{◌≡◌, ℕ, ◌++◌, List, OnOk, length, subst, sym, ap, ◌∙◌, arith}
use Rattle.cm_bits.specs.Text.{number_cell, last_number_cell}
use Rattle.lab_study.proofs.Repeated.{round_line_of, four_pieces}
use Rattle.lab_study.proofs.repeating.push_line.Goals as goal

pub returns : goal.returns
returns c =
    let text = c.args.text.now.items in
    let round = c.args.round.now in
    let first = c.index-round-0.result in
    let line = λ (from period standing come : ℕ). number_cell from ++ number_cell period ++ number_cell standing
    ++ last_number_cell come in
    let standing : c.len.result ≡ length first.items = omega (arith, c.len.ensures, first.ok.0) in
    let told = (λ i. line (c.saturating_sub.ensures i) (length round) (standing i) (c.come_in_round.ensures.value i))
    ∙ sym (round_line_of c.args.clock round first c.requires.some c.index-round-0.is) in
    let all = four_pieces text c.push_number.new.text.items c.push_number-2.new.text.items
    c.push_number-3.new.text.items (number_cell c.saturating_sub.result) (number_cell (length round))
    (number_cell c.len.result) (last_number_cell c.come_in_round.result) c.in_ok-push_number.ensures.ok
    c.in_ok-push_number-2.ensures.ok c.in_ok-push_number-3.ensures.ok in
    record {
      ok = subst (λ (xs : List ℕ). OnOk c.push_number-4.result (c.push_number-4.new.text.items ≡ xs))
          (all ∙ ap (λ xs. text ++ xs) told) c.push_number-4.ensures.ok;
    }
