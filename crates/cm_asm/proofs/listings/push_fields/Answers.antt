use Rattle.std.proofs.Common.{◌+◌, ◌++◌, drop, flat_map, sym}
use Rattle.cm_language.specs.Names.{named}
use Rattle.cm_language.specs.Listing.{field_line}
use Rattle.cm_asm.proofs.Named.{drop_some}
use Rattle.cm_asm.proofs.Telling.{field_more}
use Rattle.cm_asm.proofs.listings.push_fields.Goals as goal

pub loop-i-preserved : goal.loop-i-preserved
loop-i-preserved c =
    field_more c.push_entry.new.text.items
    c.loop-i.text.items (c.args.text.now.items ++ flat_map field_line c.args.fields.now)
    (drop c.loop-i.i c.args.fields.now) (drop (c.loop-i.i + 1) c.args.fields.now)
    (named c.in-Some.entry.0.now c.in-Some.entry.1)
    c.loop-i.invariant (drop_some c.args.fields.now
    c.loop-i.i (named c.in-Some.entry.0.now c.in-Some.entry.1) (sym c.in-Some.ensures))
    c.in_ok-push_entry-in-Some.ensures.ok
