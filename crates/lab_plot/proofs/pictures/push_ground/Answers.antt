use Rattle.std.proofs.Common.{◌++◌, codes}
use Rattle.lab_plot.specs.Heads.{ground_text}
use Rattle.lab_plot.specs.Pieces.{piece}
use Rattle.lab_plot.proofs.Joining.{behind, behind-ok}
use Rattle.lab_plot.proofs.pictures.push_ground.Goals as goal

pub returns : goal.returns
unfolding ground_text
returns c =
    let told-2 = behind c.args.text.now.items
    (codes "' font-family='sans-serif' font-size='150' text-anchor='middle'>\n")
    (piece (codes "<rect width='8300' fill='white' height='") c.args.height) c.push_words.new.text.items c.push_piece.new.text.items
    c.in_ok-push_words.ensures.ok c.in_ok-push_piece.ensures.ok in
    record {
      ok = behind-ok c.push_words-2.result c.args.text.now.items
          (codes "' font-family='sans-serif' font-size='150' text-anchor='middle'>\n"
          ++ piece (codes "<rect width='8300' fill='white' height='") c.args.height)
          (codes "'/>\n") c.push_piece.new.text.items c.push_words-2.new.text.items
          told-2 c.push_words-2.ensures.ok;
    }
