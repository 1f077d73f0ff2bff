use Rattle.std.proofs.Common.{◌++◌, codes, ◌+◌}
use Rattle.lab_plot.specs.Ticks.{up_text}
use Rattle.lab_plot.specs.Pieces.{piece}
use Rattle.lab_plot.proofs.Joining.{behind, behind-ok}
use Rattle.lab_plot.proofs.ticks.push_up.Goals as goal

pub returns : goal.returns
unfolding up_text
returns c =
    let told-2 = behind c.args.text.now.items
    (piece (codes "<path stroke='#ddd' stroke-width='8' d='M0 ") c.args.y)
    (piece (codes "h5600'/><text text-anchor='end' x='-80' y='") (c.args.y + 50)) c.push_piece.new.text.items c.push_piece-2.new.text.items
    c.in_ok-push_piece.ensures.ok c.in_ok-push_piece-2.ensures.ok in
    record {
      ok = behind-ok c.push_words.result c.args.text.now.items
          (piece (codes "<path stroke='#ddd' stroke-width='8' d='M0 ") c.args.y
          ++ piece (codes "h5600'/><text text-anchor='end' x='-80' y='") (c.args.y + 50))
          (codes "'>") c.push_piece-2.new.text.items c.push_words.new.text.items
          told-2 c.push_words.ensures.ok;
    }
