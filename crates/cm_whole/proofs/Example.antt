-- The session that is worked out meets what the law asks for.
use Rattle.std.proofs.Common.{◌≡◌, ℕ, zero, suc, true, false, Bool, List, [], ◌∷◌, Ok, codes, refl, rules}
use Rattle.std.proofs.Common.{nat_lt, arith, ◌&&◌, length}
use Rattle.std.proofs.lemmas.Bool.{ltb-true}
use Rattle.std.specs.List.{list_all}
use Rattle.cm_model.specs.Each.{tabulate}
use Rattle.cm_language.specs.declared.macros.Context.TheVariants.{Always}
use Rattle.cm_language.specs.Acts.{acts_of}
use Rattle.cm_language.specs.Program.{program_of}
use Rattle.cm_language.specs.Places.{IsMacroOf}
use Rattle.cm_image_format.specs.Reading.{number_at, many}
use Rattle.cm_image_format.specs.Image.{chip_part}
use Rattle.cm_image_format.specs.Whole.{image_part, read_image}
use Rattle.cm_image_format.specs.Laws.{AreBytes}
use Rattle.cm_session.specs.Session.{going, one_on, after_line, after_lines}
use Rattle.cm_whole.specs.Inputs.{AreAccepted, session_at}
use Rattle.cm_whole.specs.Whole.{RunWhole}
use Rattle.cm_whole.specs.Example.{blank_bytes, sum, before_sum, sum_program, whole_sum, poked_sum}
use Rattle.cm_whole.specs.Example.{sum_setup}

both : (a b : Bool) → (a && b) ≡ true → (a ≡ true) × (b ≡ true)
both true b h = (refl, h)
both false b h = absurd (search rules)

are_bytes : (bytes : List ℕ) → list_all (λ b. nat_lt b 256) bytes ≡ true → AreBytes bytes
are_bytes [] all i = omega arith
are_bytes (b ∷ bytes) all zero = ltb-true b 256 (both (nat_lt b 256) _ all).0
are_bytes (b ∷ bytes) all (suc i) = are_bytes bytes (both (nat_lt b 256) _ all).1 i

image_is_read : read_image 0 7 blank_bytes ≡ Ok sum_setup.machine
unfolding read_image image_part chip_part many number_at
image_is_read = refl

text_is_read : program_of whole_sum.text ≡ Ok sum_program
unfolding program_of tabulate
text_is_read = refl

pub accepted : AreAccepted whole_sum sum_setup
accepted = record { bytes = are_bytes blank_bytes refl; image = image_is_read; program = text_is_read }

says_sum : IsMacroOf whole_sum.text before_sum sum
says_sum = record {
  before = codes "field x 0 8" ∷ codes "field y 8 8" ∷ codes "sense" ∷ [];
  line = codes "add x y";
  after = codes "sense" ∷ [];
  lines = refl;
  read = refl;
  says = (refl, refl);
}

step_comes_to_it : (session_at sum_setup (codes "step" ∷ [])).position ≡ 1
unfolding going one_on after_line after_lines tabulate
step_comes_to_it = refl

run_goes_through_it : (session_at sum_setup (codes "step" ∷ codes "run" ∷ [])).position ≡ 11
unfolding going one_on after_line after_lines tabulate
run_goes_through_it = refl

has_nine_acts : length (acts_of sum Always) ≡ 9
unfolding tabulate
has_nine_acts = refl

pub whole : RunWhole whole_sum sum_setup before_sum sum (codes "step" ∷ []) (codes "run" ∷ [])
whole =
    let begin = step_comes_to_it in let end = run_goes_through_it in let nine = has_nine_acts in
    record {
      says = says_sum;
      come = record { next = record { after = []; all = refl }; pokeless = (refl, tt) };
      begins = omega (arith, begin);
      ends = omega (arith, end, nine);
    }

pub poked : RunWhole poked_sum sum_setup before_sum sum (codes "step" ∷ [])
    (codes "pokeflag 0 0 7 1" ∷ codes "run" ∷ []) → ⊥
poked it = not_poked it.come.pokeless.0 where
  not_poked : true ≡ false → ⊥
  not_poked h = search rules
