use Rattle.std.proofs.Common.{ℕ, List, ◌++◌, codes, ap, ◌∙◌}
use Rattle.lab_plot.specs.Heads.{picture_head}
use Rattle.lab_route_plot.specs.Rows.{Plan, plan_seen}
use Rattle.lab_route_plot.specs.Drawing.{route_panel_text, route_drawing}
use Rattle.lab_route_plot.proofs.drawing.drawing.Goals as goal

pub returns : goal.returns
unfolding route_drawing
returns c =
    let first = c.args.first.now in
    let legs = c.args.legs.now in
    let head : List ℕ = picture_head (codes "The way of a message") 3900 in
    let panel : List ℕ = route_panel_text (plan_seen c.in_ok-grid.grid) first legs in
    let end : List ℕ = codes "</g>\n</svg>\n" in
    record {
      value = c.in_ok-push_words.ensures.ok
          ∙ ap (λ (xs : List ℕ). xs ++ end) (c.in_ok-push_panel.ensures.ok
          ∙ ap (λ (xs : List ℕ). xs ++ panel) (c.in_ok-push_head.ensures.ok
          ∙ ap (λ (xs : List ℕ). xs ++ head) c.new-text.ensures.items))
          ∙ ap (λ (plan : Plan). (head ++ route_panel_text plan first legs) ++ end) c.in_ok-grid.ensures.value;
    }
