use Rattle.std.proofs.Common.{codes, ◌/◌}
use Rattle.lab_plot.specs.Heads.{size_text}
use Rattle.lab_plot.specs.Pieces.{piece}
use Rattle.lab_plot.proofs.Joining.{behind-ok}
use Rattle.lab_plot.proofs.pictures.push_size.Goals as goal

pub returns : goal.returns
unfolding size_text
returns c =
    record {
      ok = behind-ok c.push_piece-2.result c.args.text.now.items
          (piece (codes "<svg xmlns='http://www.w3.org/2000/svg' version='1.1' width='830' height='") (c.args.height / 10))
          (piece (codes "' viewBox='0 0 8300 ") c.args.height) c.push_piece.new.text.items c.push_piece-2.new.text.items
          c.in_ok-push_piece.ensures.ok c.push_piece-2.ensures.ok;
    }
