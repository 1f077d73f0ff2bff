use Rattle.std.proofs.Common.{◌≡◌, ◌++◌, drop, flat_map}
use Rattle.cm_language.specs.Listing.{field_line}
use Rattle.cm_asm.proofs.listings.push_fields.Given as goal

abbrev pub invariant-loop-i : goal.invariant-loop-i
invariant-loop-i l = l.text.items ++ flat_map field_line (drop l.i l.fields)
    ≡ l.initial.text.items ++ flat_map field_line l.fields
