use Rattle.std.proofs.Common.{◌++◌, codes}
use Rattle.lab_plot.specs.Lines.{circle}
use Rattle.lab_plot.specs.Pieces.{piece}
use Rattle.lab_plot.proofs.Joining.{behind, behind-ok}
use Rattle.lab_plot.proofs.lines.push_circle.Goals as goal

pub returns : goal.returns
unfolding circle
returns c =
    let told-2 = behind c.args.text.now.items
    (piece (codes "<circle r='40' cx='") c.args.x)
    (piece (codes "' cy='") c.args.y) c.push_piece.new.text.items c.push_piece-2.new.text.items
    c.in_ok-push_piece.ensures.ok c.in_ok-push_piece-2.ensures.ok in
    let told-3 = behind c.args.text.now.items
    (piece (codes "<circle r='40' cx='") c.args.x ++ piece (codes "' cy='") c.args.y)
    (codes "' fill='") c.push_piece-2.new.text.items c.push_words.new.text.items
    told-2 c.in_ok-push_words.ensures.ok in
    let told-4 = behind c.args.text.now.items
    (piece (codes "<circle r='40' cx='") c.args.x ++ piece (codes "' cy='") c.args.y ++ codes "' fill='")
    c.args.paint.now c.push_words.new.text.items c.push_words-2.new.text.items
    told-3 c.in_ok-push_words-2.ensures.ok in
    record {
      ok = behind-ok c.push_words-3.result c.args.text.now.items
          (piece (codes "<circle r='40' cx='") c.args.x ++ piece (codes "' cy='") c.args.y ++ codes "' fill='" ++ c.args.paint.now)
          (codes "'/>\n") c.push_words-2.new.text.items c.push_words-3.new.text.items
          told-4 c.push_words-3.ensures.ok;
    }
