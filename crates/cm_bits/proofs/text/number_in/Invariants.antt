use Rattle.std.proofs.Common.{◌≡◌, ◌<◌, ◌^◌, drop}
use Rattle.std.specs.List.{list_all}
use Rattle.std.specs.Char.{is_digit}
use Rattle.std.specs.Str.Parse.{digits_value, digits_value_after}
use Rattle.cm_bits.proofs.text.number_in.Given as goal

abbrev pub invariant-loop-digit : goal.invariant-loop-digit
invariant-loop-digit l =
    record {
      value : digits_value_after l.base l.value (drop l.digit-index l.digits) ≡ digits_value l.base l.digits;
      are_digits : list_all (λ d. is_digit d l.base) (drop l.digit-index l.digits)
          ≡ list_all (λ d. is_digit d l.base) l.digits;
      fits : l.value < 2 ^ 64;
    }
