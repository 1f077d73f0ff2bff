use Rattle.std.proofs.Common.{ℕ, List, ◌++◌, sym, ap, ◌∙◌}
use Rattle.cm_image_dump.proofs.Dumping.{chip_written}
use Rattle.cm_image_dump.proofs.Leaving.{on_ok}
use Rattle.cm_image_dump.proofs.dumps.push_sparse_chip.Goals as goal

pub returns-clause-ok : goal.returns-clause-ok
returns-clause-ok c =
    on_ok c.push_messages.result c.push_messages.ensures.ok
    (λ last. chip_written c.args.chip.now c.args.buffer.now c.args.text.now.items _ _ _ _ _ c.args.planes
    c.in_ok-push_flags.ensures.ok c.in_ok-push_u16.ensures.ok c.requires.planes
    (c.in_ok-push_planes.ensures.ok
    ∙ ap (λ (xs : List ℕ). c.push_u16.new.text.items ++ xs) (sym c.requires.listed))
    c.in_ok-push_u8.ensures.ok last)
