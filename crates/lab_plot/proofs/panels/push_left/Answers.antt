use Rattle.std.proofs.Common.{◌++◌, codes}
use Rattle.lab_plot.specs.Panels.{left_text}
use Rattle.lab_plot.specs.Cells.{shortened}
use Rattle.lab_plot.proofs.Joining.{behind, behind-ok}
use Rattle.lab_plot.proofs.panels.push_left.Goals as goal

pub returns : goal.returns
unfolding left_text
returns c =
    let told-2 = behind c.args.text.now.items
    (codes "<text transform='translate(-750,1200)rotate(-90)'>")
    (shortened 32 c.args.label.now) c.push_words.new.text.items c.push_shortened.new.text.items
    c.in_ok-push_words.ensures.ok c.in_ok-push_shortened.ensures.ok in
    record {
      ok = behind-ok c.push_words-2.result c.args.text.now.items
          (codes "<text transform='translate(-750,1200)rotate(-90)'>" ++ shortened 32 c.args.label.now)
          (codes "</text>\n") c.push_shortened.new.text.items c.push_words-2.new.text.items
          told-2 c.push_words-2.ensures.ok;
    }
