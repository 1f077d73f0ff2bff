use Rattle.std.proofs.Common.{◌++◌, codes}
use Rattle.lab_plot.specs.Panels.{below_text}
use Rattle.lab_plot.proofs.Joining.{behind, behind-ok}
use Rattle.lab_plot.proofs.panels.push_below.Goals as goal

pub returns : goal.returns
unfolding below_text
returns c =
    let told-2 = behind c.args.text.now.items
    (codes "<text x='2800' y='2850'>")
    c.args.across.now c.push_words.new.text.items c.push_words-2.new.text.items
    c.in_ok-push_words.ensures.ok c.in_ok-push_words-2.ensures.ok in
    record {
      ok = behind-ok c.push_words-3.result c.args.text.now.items
          (codes "<text x='2800' y='2850'>" ++ c.args.across.now)
          (codes "</text>\n") c.push_words-2.new.text.items c.push_words-3.new.text.items
          told-2 c.push_words-3.ensures.ok;
    }
