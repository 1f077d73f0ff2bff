-- Worked values of what sources say, which the checker computes.
use Rattle.std.proofs.Common.{◌≡◌, ℕ, List, [], ◌∷◌, ◌++◌, Ok, Err, refl}
use Rattle.std.specs.Prelude.{codes}
use Rattle.std.specs.Fmt.{digits}
use Rattle.cm_model.specs.declared.act.Act.{Act}
use Rattle.cm_model.specs.declared.act.Act.TheVariants as act
use Rattle.cm_model.specs.Each.{tabulate}
use Rattle.cm_language.specs.declared.macros.Context.TheVariants.{Always, On}
use Rattle.cm_language.specs.declared.fault.AsmKind.TheVariants as kind
use Rattle.cm_language.specs.Acts.{nano}
use Rattle.cm_language.specs.Names.{NamedField}
use Rattle.lab_source.specs.declared.fault.SourceKind.TheVariants.{Asm, NoEnd}
use Rattle.lab_source.specs.Layout.{layout_after_lines}
use Rattle.lab_meaning.specs.Meaning.{reading_after_places, meaning_of}

-- a line before others
abbrev line : List ℕ → List ℕ → List ℕ
line text rest = text ++ 10 ∷ rest

-- a field of one bit, at bit 5
abbrev x : NamedField
x = record { name = codes "x"; field = record { at = 5; len = 1 } }

-- memory bit 5 := not memory bit 5
abbrev not_x : Act
not_x = act.Nano (nano Always 5 5 8 8 0x0f 0x00)

a_line_is_said_as_often_as_it_is_carried_out :
    meaning_of (line (codes "field x 5 1") (line (codes "repeat 2") (line (codes "not x") (codes "end"))))
    ≡ Ok (record { fields = x ∷ []; acts = not_x ∷ not_x ∷ [] })
unfolding meaning_of layout_after_lines reading_after_places tabulate
a_line_is_said_as_often_as_it_is_carried_out = refl

lines_repeated_no_times_say_nothing :
    meaning_of (line (codes "repeat 0") (line (codes "no such word") (codes "end")))
    ≡ Ok (record { fields = []; acts = [] })
unfolding meaning_of layout_after_lines reading_after_places
lines_repeated_no_times_say_nothing = refl

a_constant_stands_for_its_number_above_it_too :
    meaning_of (line (codes "field x AT 1") (codes "constant AT 5")) ≡ Ok (record { fields = x ∷ []; acts = [] })
unfolding meaning_of layout_after_lines reading_after_places digits
a_constant_stands_for_its_number_above_it_too = refl

a_phrase_is_said_under_the_context_that_stands :
    meaning_of (line (codes "field x 5 1") (line (codes "if 3") (codes "not x ; a comment")))
    ≡ Ok (record { fields = x ∷ []; acts = act.Nano (nano (On 3) 5 5 8 8 0x0f 0x00) ∷ [] })
unfolding meaning_of layout_after_lines reading_after_places tabulate
a_phrase_is_said_under_the_context_that_stands = refl

a_name_is_defined_once :
    meaning_of (line (codes "field x 5 1") (codes "field x 6 1")) ≡ Err (record { line = 2; kind = Asm kind.Twice })
unfolding meaning_of layout_after_lines reading_after_places
a_name_is_defined_once = refl

faults_of_repeat_come_first :
    meaning_of (line (codes "no such word") (codes "repeat 1")) ≡ Err (record { line = 2; kind = NoEnd })
unfolding meaning_of layout_after_lines reading_after_places
faults_of_repeat_come_first = refl
