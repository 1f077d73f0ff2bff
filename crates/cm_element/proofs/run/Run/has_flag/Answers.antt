use Rattle.std.proofs.Common.{◌==◌, not, [], get_or, sym, ◌∙◌}
use Rattle.cm_element.specs.Flags.{has_flag}
use Rattle.cm_element.proofs.Flagged.{has_flag-plane, list_any-same}
use Rattle.cm_element.proofs.run.Run.has_flag.Goals as goal

pub returns : goal.returns
returns c =
    let chips = c.args.self.now in
    let planes = c.flag_row-row.result.now in
    record {
      value = c.has_ones.ensures.value
          ∙ sym (list_any-same (has_flag c.args.number) (λ plane. not (plane == 0)) [] 0 chips planes
          (sym c.flag_row-row.ensures.count)
          (λ i h. has_flag-plane c.args.number (get_or chips i []) (get_or planes i 0) (c.has_ones.ensures.words i)
          (c.flag_row-row.ensures.whole i h).count (c.flag_row-row.ensures.value i h)));
      whole = c.flag_row-row.ensures.whole;
    }
