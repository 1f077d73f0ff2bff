use Rattle.std.proofs.Common.{◌++◌, codes, ◌+◌}
use Rattle.lab_plot.specs.Lines.{name_open}
use Rattle.lab_plot.specs.Pieces.{piece}
use Rattle.lab_plot.proofs.Joining.{behind, behind-ok}
use Rattle.lab_plot.proofs.lines.push_name_open.Goals as goal

pub returns : goal.returns
unfolding name_open
returns c =
    let told-2 = behind c.args.text.now.items
    (codes "<path stroke-width='25' stroke='")
    c.args.paint.now c.push_words.new.text.items c.push_words-2.new.text.items
    c.in_ok-push_words.ensures.ok c.in_ok-push_words-2.ensures.ok in
    let told-3 = behind c.args.text.now.items
    (codes "<path stroke-width='25' stroke='" ++ c.args.paint.now)
    (piece (codes "' d='M5750 ") c.args.y) c.push_words-2.new.text.items c.push_piece.new.text.items
    told-2 c.in_ok-push_piece.ensures.ok in
    let told-4 = behind c.args.text.now.items
    (codes "<path stroke-width='25' stroke='" ++ c.args.paint.now ++ piece (codes "' d='M5750 ") c.args.y)
    (piece (codes "h300'/><text text-anchor='start' x='6130' y='") (c.args.y + 50))
    c.push_piece.new.text.items c.push_piece-2.new.text.items
    told-3 c.in_ok-push_piece-2.ensures.ok in
    record {
      ok = behind-ok c.push_words-3.result c.args.text.now.items
          (codes "<path stroke-width='25' stroke='" ++ c.args.paint.now
          ++ piece (codes "' d='M5750 ") c.args.y
          ++ piece (codes "h300'/><text text-anchor='start' x='6130' y='") (c.args.y + 50))
          (codes "'>") c.push_piece-2.new.text.items c.push_words-3.new.text.items
          told-4 c.push_words-3.ensures.ok;
    }
