use Rattle.std.proofs.Common.{◌++◌, codes}
use Rattle.lab_plot.specs.Lines.{line_open}
use Rattle.lab_plot.proofs.Joining.{behind, behind-ok}
use Rattle.lab_plot.proofs.lines.push_line_open.Goals as goal

pub returns : goal.returns
unfolding line_open
returns c =
    let told-2 = behind c.args.text.now.items
    (codes "<polyline fill='none' stroke-width='25' stroke-linejoin='round' stroke='")
    c.args.paint.now c.push_words.new.text.items c.push_words-2.new.text.items
    c.in_ok-push_words.ensures.ok c.in_ok-push_words-2.ensures.ok in
    record {
      ok = behind-ok c.push_words-3.result c.args.text.now.items
          (codes "<polyline fill='none' stroke-width='25' stroke-linejoin='round' stroke='" ++ c.args.paint.now)
          (codes "' points='") c.push_words-2.new.text.items c.push_words-3.new.text.items
          told-2 c.push_words-3.ensures.ok;
    }
