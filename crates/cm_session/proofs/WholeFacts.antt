-- The laws of whole sessions on a small one: their premises can be met, and they say what is meant.
use Rattle.std.proofs.Common.{◌≡◌, ℕ, true, List, [], ◌∷◌, ◌++◌, Ok, codes, refl, arith}
use Rattle.cm_bits.specs.Text.{words_of}
use Rattle.cm_model.specs.declared.act.Act.{Act}
use Rattle.cm_model.specs.declared.act.Act.TheVariants.{Sense, Cycle}
use Rattle.cm_model.specs.Machine.{Machine, run_of}
use Rattle.cm_model.specs.Keeping.{IsMachine}
use Rattle.cm_language.specs.declared.macros.Macro.TheVariants.{Set}
use Rattle.cm_language.specs.declared.macros.Context.TheVariants.{Off}
use Rattle.cm_language.specs.Acts.{acts_of}
use Rattle.cm_language.specs.Laws.{machine_after_macro}
use Rattle.cm_language.specs.Program.{Reading, program_of}
use Rattle.cm_language.specs.Places.{MacroStandsAt, IsMacroOf}
use Rattle.cm_language.proofs.Places.{macros_stand}
use Rattle.cm_session.specs.Commands.{command_of}
use Rattle.cm_session.specs.Session.{going, one_on, after_line, after_lines, left}
use Rattle.cm_session.specs.Ends.{session_after}
use Rattle.cm_session.specs.Whole.{acts_between, asks_poke, HaveNoPoke}
use Rattle.cm_session.proofs.Macros.{sessions_do_macros}

-- ---- lines and acts

other_lines_poke_nothing :
    HaveNoPoke 0 1 (codes "step" ∷ codes "run" ∷ codes "break 0" ∷ codes "clear 0" ∷ codes "wire on" ∷ codes "wire off"
    ∷ codes "wire show" ∷ codes "field 0 0 0 8" ∷ codes "flag 0 0 9" ∷ codes "buf 0" ∷ codes "find 0 0 0"
    ∷ codes "events 0" ∷ codes "poke 0 0 0" ∷ codes "; poke 0 0 0 1" ∷ [] ∷ [])
other_lines_poke_nothing = (
  refl,
  (
    refl,
    (
      refl,
      (
        refl,
        (
          refl,
          (
            refl,
            (
              refl,
              (
                refl,
                (
                  refl,
                  (
                    refl,
                    (
                      refl,
                      (
                        refl,
                        (refl, (refl, (refl, tt))),
                      ),
                    ),
                  ),
                ),
              ),
            ),
          ),
        ),
      ),
    ),
  ),
)

a_poke_is_one : asks_poke (command_of 0 1 (words_of (codes "poke 0 0 0 1"))) ≡ true
a_poke_is_one = refl

and_so_is_one_of_a_flag : asks_poke (command_of 0 1 (words_of (codes "pokeflag 0 0 9 0"))) ≡ true
and_so_is_one_of_a_flag = refl

from_one_place_to_another : acts_between 1 3 (Sense ∷ Cycle ∷ Sense ∷ Cycle ∷ []) ≡ Cycle ∷ Sense ∷ []
from_one_place_to_another = refl

-- ---- a text of a macro between two looks at the wire, on every machine of one chip

abbrev text : List ℕ
text = codes "sense ; 0\nunless 11 ; ACK\nset 12\nsense"

abbrev acts : List Act
acts = Sense ∷ (acts_of (Set 12) (Off 11) ++ Sense ∷ [])

abbrev so_far : Reading
so_far = record { fields = []; context = Off 11; acts = Sense ∷ [] }

it_is_a_program : program_of text ≡ Ok (record { fields = []; acts = acts })
unfolding program_of
it_is_a_program = refl

it_says_the_macro : IsMacroOf text so_far (Set 12)
it_says_the_macro = record {
  before = codes "sense ; 0" ∷ codes "unless 11 ; ACK" ∷ [];
  line = codes "set 12";
  after = codes "sense" ∷ [];
  lines = refl;
  read = refl;
  says = (refl, refl);
}

it_stands_there : MacroStandsAt acts 1 (Set 12) (Off 11)
it_stands_there =
    macros_stand text (record { fields = []; acts = acts }) so_far (Set 12) it_is_a_program it_says_the_macro

it_begins_at_the_first_act : (start : Machine) → (session_after 0 7 acts start []).position ≡ 0
unfolding after_lines
it_begins_at_the_first_act start = refl

a_run_comes_to_the_end : (start : Machine) → (session_after 0 7 acts start (codes "run" ∷ [])).position ≡ 3
unfolding going one_on after_line after_lines
a_run_comes_to_the_end start = refl

one_step : (start : Machine) → (session_after 0 7 acts start (codes "step" ∷ [])).position ≡ 1
unfolding going one_on after_line after_lines
one_step start = refl

two_steps : (start : Machine) → (session_after 0 7 acts start (codes "step" ∷ codes "step" ∷ [])).position ≡ 2
unfolding going one_on after_line after_lines
two_steps start = refl

-- in a run the macro's effect comes between what is before it and what is behind it
a_run_does_the_macro : (start : Machine) → IsMachine 0 7 start
    → left 0 7 start acts (codes "run" ∷ [])
    ≡ run_of 0 7 (machine_after_macro 0 (Set 12) (Off 11) (run_of 0 7 start (Sense ∷ []))) (Sense ∷ [])
unfolding going one_on after_line after_lines
a_run_does_the_macro start h =
    let begin = it_begins_at_the_first_act start in let end = a_run_comes_to_the_end start in
    (sessions_do_macros 0 7 start acts [] (codes "run" ∷ []) 1 (Set 12) (Off 11) h (refl, tt) it_stands_there
    (omega (arith, begin)) (omega (arith, end))).around

-- alone it is all that a step does
a_step_does_the_macro : (start : Machine) → IsMachine 0 7 start
    → left 0 7 start acts (codes "step" ∷ codes "step" ∷ [])
    ≡ machine_after_macro 0 (Set 12) (Off 11) (left 0 7 start acts (codes "step" ∷ []))
a_step_does_the_macro start h =
    let begin = one_step start in let end = two_steps start in
    (sessions_do_macros 0 7 start acts (codes "step" ∷ []) (codes "step" ∷ []) 1 (Set 12) (Off 11) h (refl, tt)
    it_stands_there (omega (arith, begin)) (omega (arith, end))).alone begin end
