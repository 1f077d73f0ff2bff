use Rattle.std.proofs.Common.{ℕ, List, ◌++◌, codes}
use Rattle.std.specs.List.{flat_map, range_with_len}
use Rattle.lab_plot.specs.Panels.{place_text, sides_text}
use Rattle.lab_plot.specs.Ticks.{cycle_tick}
use Rattle.lab_route_plot.specs.Rows.{plan_seen}
use Rattle.lab_route_plot.specs.Drawing.{row_text, lines_text, begin_text, names_text, route_panel_text}
use Rattle.lab_route_plot.proofs.Joining.{behind, behind-ok}
use Rattle.lab_route_plot.proofs.drawing.push_panel.Goals as goal

pub returns : goal.returns
unfolding route_panel_text
returns c =
    let start = c.args.text.now.items in
    let plan = plan_seen c.args.grid.now in
    let place : List ℕ = place_text 600 in
    let ticks : List ℕ = flat_map (cycle_tick plan.across) (range_with_len 0 12) in
    let rows : List ℕ = flat_map (row_text plan) plan.rows in
    let sides : List ℕ = sides_text (codes "petit cycle") (codes "chip") in
    let lines : List ℕ = lines_text plan c.args.legs.now in
    let begin : List ℕ = begin_text plan c.args.first.now in
    let names : List ℕ = names_text (codes "way,referred,begins,delivered") in
    let told-2 = behind start place ticks c.push_place.new.text.items c.push_cycle_ticks.new.text.items
    c.in_ok-push_place.ensures.ok c.in_ok-push_cycle_ticks.ensures.ok in
    let told-3 = behind start (place ++ ticks) rows c.push_cycle_ticks.new.text.items c.push_rows.new.text.items
    told-2 c.in_ok-push_rows.ensures.ok in
    let told-4 = behind start (place ++ ticks ++ rows) sides c.push_rows.new.text.items c.push_sides.new.text.items
    told-3 c.in_ok-push_sides.ensures.ok in
    let told-5 = behind start (place ++ ticks ++ rows ++ sides) lines c.push_sides.new.text.items
    c.push_lines.new.text.items told-4 c.in_ok-push_lines.ensures.ok in
    let told-6 = behind start (place ++ ticks ++ rows ++ sides ++ lines) begin c.push_lines.new.text.items
    c.push_begin.new.text.items told-5 c.in_ok-push_begin.ensures.ok in
    record {
      ok = behind-ok c.push_names.result start (place ++ ticks ++ rows ++ sides ++ lines ++ begin) names
          c.push_begin.new.text.items c.push_names.new.text.items told-6 c.push_names.ensures.ok;
    }
