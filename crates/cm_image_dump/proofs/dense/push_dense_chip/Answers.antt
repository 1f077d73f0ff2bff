use Rattle.std.proofs.Common.{ℕ, List, ◌++◌, sym, ap, ◌∙◌}
use Rattle.cm_image_dump.proofs.Counting.{all_listed}
use Rattle.cm_image_dump.proofs.Dumping.{chip_written}
use Rattle.cm_image_dump.proofs.Leaving.{on_ok}
use Rattle.cm_image_dump.proofs.Listing.{same_listings}
use Rattle.cm_image_dump.proofs.dense.push_dense_chip.Goals as goal

pub push_memory-requires-clause-none : goal.push_memory-requires-clause-none
push_memory-requires-clause-none c = λ all a h zero.
    all_listed c.args.chip.now 4096 (sym c.requires.listed ∙ all) a h (sym (c.requires.planes a h) ∙ zero)

pub returns-clause-ok : goal.returns-clause-ok
returns-clause-ok c =
    on_ok c.push_messages.result c.push_messages.ensures.ok
    (λ last. chip_written c.args.chip.now c.args.buffer.now c.args.text.now.items _ _ _ _ _ c.args.listed
    c.in_ok-push_flags.ensures.ok c.in_ok-push_u16.ensures.ok c.requires.listed
    (c.in_ok-push_memory.ensures.ok
    ∙ ap (λ (xs : List ℕ). c.push_u16.new.text.items ++ xs)
    (same_listings c.args.chip.now c.args.planes.now 4096 c.requires.planes))
    c.in_ok-push_u8.ensures.ok last)
