use Rattle.std.proofs.Common.{◌≡◌, ℕ, ◌++◌, List, bit_xor, codes, decimal, sym, ap, ◌∙◌, append_assoc}
use Rattle.lab_route.specs.RouteLines.{target_text}
use Rattle.lab_route.proofs.route_lines.push_target.Goals as goal

pub returns : goal.returns
unfolding target_text
returns c =
    let start = c.args.text.now.items in
    let to : List ℕ = decimal (bit_xor c.args.chip c.args.message.now.rel) in
    let first : List ℕ = codes ", for processor " ++ decimal c.get.result in
    let second : List ℕ = codes " of chip " ++ to in
    let proc : c.get.result ≡ c.args.message.now.proc = c.get.ensures.value in
    record {
      ok = c.in_ok-push_piece-2.ensures.ok ∙ ap (λ xs. xs ++ second) c.in_ok-push_piece.ensures.ok
          ∙ append_assoc start first second
          ∙ ap (λ xs. start ++ xs) (sym (append_assoc first (codes " of chip ") to))
          ∙ (λ j. start ++ (codes ", for processor " ++ decimal (proc j) ++ codes " of chip " ++ to));
    }
