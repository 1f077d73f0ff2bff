use Rattle.std.proofs.Common.{◌++◌, codes, sym, ◌∙◌, append_assoc}
use Rattle.lab_route.specs.RouteLines.{tag_text, wait_text}
use Rattle.lab_route.proofs.Following.{on_ok}
use Rattle.lab_route.proofs.route_lines.push_wait.Goals as goal

pub returns-in_ok-push_words-in-Second : goal.returns-in_ok-push_words-in-Second
returns-in_ok-push_words-in-Second c =
    let before = c.args.text.now.items in
    let words = codes ", waits for its processor behind " in
    let tag = tag_text c.in-Second.tag in
    record {
      ok = on_ok c.push_tag-in-Second.result
          (λ told. told ∙ (λ i. c.in_ok-push_words-in-Second.ensures.ok i ++ tag) ∙ append_assoc before words tag
          ∙ (λ i. before ++ wait_text (sym c.in-Second.is i)))
          c.push_tag-in-Second.ensures.ok;
    }
