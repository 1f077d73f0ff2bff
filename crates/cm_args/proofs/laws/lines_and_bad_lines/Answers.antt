use Rattle.std.proofs.Common.{◌≡◌, ℕ, ◌≤◌, inl, inr, Bool, true, false, List, [], ◌∷◌, Option, Some, codes}
use Rattle.std.proofs.Common.{String, string_bytes, refl, sym, ap, lit<, lit≤, ◌∙◌, rules}
use Rattle.std.specs.declared.alloc.Global.{Global}
use Rattle.std.specs.Str.Parse.{IsNumeral, digits_value, without_leading_plus}
use Rattle.clap.specs.Faults.{fault_of}
use Rattle.clap.specs.Walk.{Row, Text, first_of}
use Rattle.cm_args.specs.Lines.{IsBadLine, IsNumberOperand, IsNumberOption, IsRunLine, program_app}
use Rattle.clap.proofs.OnLiterals.{clap_on_literals}
use Rattle.cm_args.proofs.laws.lines_and_bad_lines.Goals as goal

-- a file of this name is found
file : {name : Text} (it : String Global) → string_bytes it ≡ name → Some name ≡ Some (string_bytes it)
file it is = ap (λ (text : Text). Some text) (sym is)

-- the number of an operand that is found
number : {name : Text} {found : List Row} {least most : ℕ} (text : Text) → first_of name found ≡ Some text
    → IsNumeral 10 (without_leading_plus text) → least ≤ digits_value 10 (without_leading_plus text)
    → digits_value 10 (without_leading_plus text) ≤ most
    → IsNumberOperand name found least most (digits_value 10 (without_leading_plus text))
number text given digits not_less not_more =
    record { text = text; given = given; digits = digits; value = refl; not_less = not_less; not_more = not_more }

-- the line of `run` that is found
run_line : {image program : Text} {split workers : ℕ} {out : Option Text} {found : List Row}
    → first_of (codes "image") found ≡ Some image → first_of (codes "program") found ≡ Some program
    → IsNumberOption (codes "split") found 0 6 0 split → IsNumberOption (codes "workers") found 1 64 1 workers
    → first_of (codes "out") found ≡ out → IsRunLine image program split workers out found
run_line start text cuts crew left = record { start = start; text = text; cuts = cuts; crew = crew; left = left }

pub returns-clause-lines : goal.returns-clause-lines
unfolding clap_on_literals
returns-clause-lines c = record {
  chip = record { taken = refl; subcommand = refl };
  lone_dashes = record { taken = refl; subcommand = refl };
  list = λ program p. record { taken = refl; subcommand = (refl, file program p) };
  fresh = λ out o. record {
    taken = refl;
    subcommand = (
      refl,
      record {
        dimension = number (codes "12") refl (lit< tt, (lit< tt, (lit< tt, tt))) (lit≤ tt) (lit≤ tt);
        room = number (codes "7") refl (lit< tt, (lit< tt, tt)) (lit≤ tt) (lit≤ tt);
        named = file out o;
      },
    );
  };
  run = λ image i program p. record {
    taken = refl;
    subcommand = (refl, run_line (file image i) (file program p) (inl (refl, refl)) (inl (refl, refl)) refl);
  };
  run_with_out = λ image i program p out o. record {
    taken = refl;
    subcommand = (refl, run_line (file image i) (file program p) (inl (refl, refl)) (inl (refl, refl)) (file out o));
  };
  run_with_out_first = λ image i program p out o. record {
    taken = refl;
    subcommand = (refl, run_line (file image i) (file program p) (inl (refl, refl)) (inl (refl, refl)) (file out o));
  };
  run_with_split = λ image i program p. record {
    taken = refl;
    subcommand = (
      refl,
      run_line (file image i) (file program p)
          (inr (number (codes "6") refl (lit< tt, (lit< tt, tt)) (lit≤ tt) (lit≤ tt))) (inl (refl, refl)) refl,
    );
  };
  run_with_workers = λ image i program p. record {
    taken = refl;
    subcommand = (
      refl,
      run_line (file image i) (file program p)
          (inr (number (codes "2") refl (lit< tt, (lit< tt, tt)) (lit≤ tt) (lit≤ tt)))
          (inr (number (codes "64") refl (lit< tt, (lit< tt, (lit< tt, tt))) (lit≤ tt) (lit≤ tt))) refl,
    );
  };
  weave = λ image i program p. record {
    taken = refl;
    subcommand = (
      refl,
      record { start = file image i; text = file program p; moves = refl; cuts = inl (refl, refl); left = refl },
    );
  };
  weave_with_steps = λ image i program p steps s out o. record {
    taken = refl;
    subcommand = (
      refl,
      record {
        start = file image i;
        text = file program p;
        moves = file steps s;
        cuts = inr (number (codes "1") refl (lit< tt, (lit< tt, tt)) (lit≤ tt) (lit≤ tt));
        left = file out o;
      },
    );
  };
}

abbrev is_some_fault : {K : Type 0} → List K → Bool
is_some_fault [] = false
is_some_fault (kind ∷ kinds) = true

-- words in which clap finds a fault ask for no line
faulty : (words : List Text) → is_some_fault (fault_of program_app words) ≡ true → IsBadLine words
faulty words some = λ line asks. let wrong : false ≡ true = sym (ap is_some_fault asks.taken) ∙ some in absurd (cc)

pub returns-clause-bad_lines : goal.returns-clause-bad_lines
unfolding clap_on_literals
returns-clause-bad_lines c = record {
  help = faulty _ refl;
  help_flag = faulty _ refl;
  short_help_flag = faulty _ refl;
  help_of_chip = faulty _ refl;
  version_flag = faulty _ refl;
  short_version_flag = faulty _ refl;
  name_alone = faulty _ refl;
  no_words = faulty _ refl;
  unknown = faulty _ refl;
  operand = faulty _ refl;
  option = faulty _ refl;
  no_program = faulty _ refl;
  two_programs = faulty _ refl;
  option_of_list = faulty _ refl;
  run_without_program = faulty _ refl;
  run_of_three = faulty _ refl;
  unknown_option_of_run = faulty _ refl;
  out_without_file = faulty _ refl;
  out_twice = faulty _ refl;
  split_above_6 = search rules;
  split_that_is_no_number = search rules;
  split_without_number = faulty _ refl;
  split_twice = faulty _ refl;
  no_workers = search rules;
  workers_above_64 = search rules;
  workers_twice = faulty _ refl;
  weave_without_program = faulty _ refl;
  weave_of_four = faulty _ refl;
  weave_with_workers = faulty _ refl;
  weave_cut_seven_times = search rules;
}
