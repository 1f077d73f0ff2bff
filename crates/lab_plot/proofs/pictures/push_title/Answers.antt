use Rattle.std.proofs.Common.{◌++◌, codes}
use Rattle.lab_plot.specs.Heads.{title_text}
use Rattle.lab_plot.proofs.Joining.{behind, behind-ok}
use Rattle.lab_plot.proofs.pictures.push_title.Goals as goal

pub returns : goal.returns
unfolding title_text
returns c =
    let told-2 = behind c.args.text.now.items
    (codes "<text x='3800' y='370' font-size='200'>")
    c.args.title.now c.push_words.new.text.items c.push_words-2.new.text.items
    c.in_ok-push_words.ensures.ok c.in_ok-push_words-2.ensures.ok in
    record {
      ok = behind-ok c.push_words-3.result c.args.text.now.items
          (codes "<text x='3800' y='370' font-size='200'>" ++ c.args.title.now)
          (codes "</text>\n") c.push_words-2.new.text.items c.push_words-3.new.text.items
          told-2 c.push_words-3.ensures.ok;
    }
