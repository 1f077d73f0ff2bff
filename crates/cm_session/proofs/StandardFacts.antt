-- Worked values of the definitions, which the checker computes: faults of a line in their order,
-- breakpoints, looks, pokes.
use Rattle.std.proofs.Common.{◌≡◌, ℕ, ◌-◌, ◌^◌, List, [], ◌∷◌, Some, None, Ok, Err, Option, Result, codes, refl}
use Rattle.std.specs.Fmt.{digits}
use Rattle.cm_model.specs.declared.act.Act.{Act}
use Rattle.cm_model.specs.declared.act.Act.TheVariants.{Sense, Cycle}
use Rattle.cm_model.specs.Each.{tabulate}
use Rattle.cm_model.specs.Processor.{blank_processor, field_value}
use Rattle.cm_model.specs.Chip.{blank_chip, with_memory_bit, with_flag}
use Rattle.cm_model.specs.Array.{wire}
use Rattle.cm_model.specs.Machine.{Machine, blank_machine, run_of, opened, closed}
use Rattle.cm_model.specs.Found.{found_in}
use Rattle.cm_session.specs.declared.command.Command.{Command}
use Rattle.cm_session.specs.declared.command.Command.TheVariants.{Break, Find}
use Rattle.cm_session.specs.declared.command.Refusal.{Refusal}
use Rattle.cm_session.specs.declared.command.Refusal.TheVariants.{Width, Range, ZeroFlag, Word, Operands, Number}
use Rattle.cm_session.specs.Commands.{command_of}
use Rattle.cm_bits.specs.Text.{words_of}
use Rattle.cm_session.specs.Answer.{line, buffer_lines, log_lines, message_words}
use Rattle.cm_session.specs.Session.{going, one_on, after_line, after_lines, answers}

-- ---- lines, on a cube of one dimension with a program of three acts

abbrev reading : List ℕ → Result (Option Command) Refusal
reading text = command_of 1 3 (words_of text)

a_comment_asks_for_nothing : reading (codes " ; step") ≡ Ok None
a_comment_asks_for_nothing = refl

words_are_compared_byte_for_byte : reading (codes "RUN") ≡ Err Word
words_are_compared_byte_for_byte = refl

the_number_of_operands_comes_first : reading (codes "break 3 x") ≡ Err Operands
the_number_of_operands_comes_first = refl

a_word_after_wire_is_one_of_three : reading (codes "wire up") ≡ Err Operands
a_word_after_wire_is_one_of_three = refl

numbers_come_before_ranges : reading (codes "flag 99 0 x") ≡ Err Number
numbers_come_before_ranges = refl

ranges_come_from_the_left : reading (codes "pokeflag 0 0 8 2") ≡ Err Range
ranges_come_from_the_left = refl

flag_8_comes_last : reading (codes "pokeflag 1 15 8 1") ≡ Err ZeroFlag
flag_8_comes_last = refl

a_chip_is_below_2 : reading (codes "field 2 0 0 0") ≡ Err Range
a_chip_is_below_2 = refl

a_length_is_not_cut : reading (codes "field 0 0 0 65537") ≡ Err Width
a_length_is_not_cut = refl

nor_an_address : reading (codes "field 0 0 65536 1") ≡ Err Range
nor_an_address = refl

an_index_is_below_3 : reading (codes "break 3") ≡ Err Range
an_index_is_below_3 = refl

numbers_may_be_hexadecimal : reading (codes "break 0x2") ≡ Ok (Some (Break 2))
numbers_may_be_hexadecimal = refl

rule_has_no_operand : reading (codes "rule 0") ≡ Err Operands
rule_has_no_operand = refl

any_birth_is_taken : reading (codes "find 1 15 18446744073709551615")
    ≡ Ok (Some (Find (record { chip = 1; proc = 15; birth = 18446744073709551615 })))
any_birth_is_taken = refl

-- ---- a machine of one chip whose counter is at its limit, and three looks

abbrev late : Machine
late = record (blank_machine 0) { clock = 2 ^ 63 - 1 }

abbrev looks : List Act
looks = Sense ∷ Sense ∷ Sense ∷ []

abbrev of_blank : List Act → List (List ℕ) → List ℕ
of_blank acts lines = answers 0 7 (blank_machine 0) acts lines

nothing_to_run : of_blank [] (codes "run" ∷ codes "step" ∷ []) ≡ codes "end\nend\n"
unfolding going after_line after_lines line
nothing_to_run = refl

a_step_is_one_act : of_blank looks (codes "step" ∷ codes "step" ∷ codes "step" ∷ codes "step" ∷ [])
    ≡ codes "at 1\nat 2\nend\nend\n"
unfolding going one_on after_line after_lines line digits
a_step_is_one_act = refl

the_first_act_runs_at_a_breakpoint_too :
    of_blank looks (codes "break 0" ∷ codes "break 1" ∷ codes "run" ∷ codes "run" ∷ [])
    ≡ codes "break 0\nbreak 1\nat 1\nend\n"
unfolding going one_on after_line after_lines line digits
the_first_act_runs_at_a_breakpoint_too = refl

a_breakpoint_is_taken_away : of_blank looks (codes "break 2" ∷ codes "clear 2" ∷ codes "clear 1" ∷ codes "run" ∷ [])
    ≡ codes "break 2\nclear 2\nclear 1\nend\n"
unfolding going one_on after_line after_lines line digits
a_breakpoint_is_taken_away = refl

refused_lines_change_nothing : of_blank looks (codes "stop" ∷ [] ∷ codes "break 3" ∷ codes "step" ∷ [])
    ≡ codes "? 15\n? 2\nat 1\n"
unfolding going one_on after_line after_lines line digits
refused_lines_change_nothing = refl

a_cycle_without_room_is_refused_where_it_stands :
    answers 0 7 late (Sense ∷ Cycle ∷ []) (codes "step" ∷ codes "run" ∷ codes "step" ∷ []) ≡ codes "at 1\n? 7\n? 7\n"
unfolding going one_on after_line after_lines line digits run_of opened closed
a_cycle_without_room_is_refused_where_it_stands = refl

-- ---- what is told of a machine

pokes_are_read_back :
    of_blank looks (codes "poke 0 3 5 1" ∷ codes "field 0 3 4 2" ∷ codes "flag 0 3 9" ∷ codes "pokeflag 0 3 9 1"
    ∷ codes "flag 0 3 9" ∷ codes "wire show" ∷ [])
    ≡ codes "ok\nfield 2\nflag 0\nok\nflag 1\nwire 1\n"
unfolding going one_on after_line after_lines line digits blank_machine blank_chip blank_processor with_memory_bit
    with_flag field_value wire tabulate
pokes_are_read_back = refl

looks_are_told_before_the_last_line :
    of_blank looks (codes "wire on" ∷ codes "run" ∷ codes "wire off" ∷ codes "run" ∷ [])
    ≡ codes "wire on\nsense 0 0\nsense 1 0\nsense 2 0\nend\nwire off\nend\n"
unfolding going one_on after_line after_lines line digits run_of opened closed blank_machine blank_chip
    blank_processor wire tabulate
looks_are_told_before_the_last_line = refl

nothing_is_there :
    of_blank looks (codes "buf 0" ∷ codes "events 0" ∷ codes "find 0 0 0" ∷ []) ≡ codes "buf 0\nevents 0\nunknown\n"
unfolding after_line after_lines line digits buffer_lines log_lines blank_machine found_in tabulate
nothing_is_there = refl

the_rule_is_told_by_its_number : of_blank looks (codes "rule" ∷ []) ≡ codes "rule 0\n"
unfolding after_line after_lines line digits blank_machine
the_rule_is_told_by_its_number = refl

a_message_is_told_by_seven_words :
    line (message_words (codes "msg")
    (record { rel = 1; proc = 5; payload = 0xdeadbeef; tag = record { chip = 2; proc = 15; birth = 10 } }))
    ≡ codes "msg 1 5 0xdeadbeef 2 15 10\n"
unfolding line digits
a_message_is_told_by_seven_words = refl
