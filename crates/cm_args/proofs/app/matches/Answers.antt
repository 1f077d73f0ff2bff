use Rattle.std.proofs.Common.{◌≡◌, List, [], true, refl, subst, ◌∙◌, inl, inr}
use Rattle.clap.specs.Walk.{Text, texts}
use Rattle.clap.specs.Simple.{App, HasMatchesOf, is_simple}
use Rattle.clap.specs.Faults.{fault_of, is_simple_and_free}
use Rattle.clap.specs.Kinds.{HasKind, IsAmong, Kinds}
use Rattle.clap.specs.Values.{kind_of}
use Rattle.clap.specs.declared.error.Error.{Error}
use Rattle.clap.specs.declared.error.kind.ErrorKind.TheVariants as kind
use Rattle.clap.specs.declared.parser.matches.ArgMatches.{ArgMatches}
use Rattle.clap.proofs.OnLiterals.{clap_on_literals}
use Rattle.cm_args.specs.declared.fault.LineFault.TheVariants as fault
use Rattle.cm_args.specs.Lines.{IsRead, IsTaken, program_app}
use Rattle.cm_args.proofs.app.matches.Goals as goal

simple_and_free : is_simple_and_free program_app ≡ true
unfolding clap_on_literals
simple_and_free = refl

simple : is_simple program_app ≡ true
unfolding clap_on_literals
simple = refl

-- what clap finds with the program's own command, and with no fault
read : (app : App) (words : List Text) (found : ArgMatches) → app ≡ program_app
    → (is_simple_and_free app ≡ true → fault_of app words ≡ []) → HasMatchesOf app words found → IsRead words found
read app words found is faultless matches = record {
  taken = subst (λ (a : App). is_simple_and_free a ≡ true → fault_of a words ≡ []) is faultless simple_and_free;
  subcommand = (subst (λ (a : App). HasMatchesOf a words found) is matches simple).1;
}

-- an error of one of no kinds is want of memory
no_kind : (kinds : Kinds) (error : Error) → kinds ≡ [] → HasKind kinds error → kind_of error ≡ kind.OutOfMemory
no_kind kinds error none (inl memory) = memory
no_kind kinds error none (inr among) = absurd (subst (IsAmong (kind_of error)) none among)

not_taken : (app : App) (words : List Text) (error : Error) → app ≡ program_app
    → (is_simple_and_free app ≡ true → HasKind (fault_of app words) error) → IsTaken words
    → kind_of error ≡ kind.OutOfMemory
not_taken app words error is fails taken =
    no_kind (fault_of program_app words) error taken
    (subst (λ (a : App). is_simple_and_free a ≡ true → HasKind (fault_of a words) error) is fails simple_and_free)

pub returns-in-Ok-clause-found : goal.returns-in-Ok-clause-found
returns-in-Ok-clause-found c =
    read _ (texts c.args.words.now) c.in-Ok.found c.in_ok-program.ensures c.in-Ok.ensures.kinds c.in-Ok.ensures.matches

pub returns-in-Err-clause-bad_line : goal.returns-in-Err-clause-bad_line
returns-in-Err-clause-bad_line c = λ e taken.
    let bad : c.fault_of_kind.result ≡ fault.BadLine = cc in
    c.fault_of_kind.ensures bad (c.kind.ensures
    ∙ not_taken _ (texts c.args.words.now) c.in-Err.error c.in_ok-program.ensures c.in-Err.ensures.kinds taken)
