use Rattle.std.proofs.Common.{refl}
use Rattle.lab_source.specs.declared.verb.PhraseVerb.TheVariants as verb
use Rattle.lab_meaning.proofs.laws.lines_say_phrases.Goals as goal

pub returns : goal.returns
returns c = record {
  news = record { verb = verb.News; asks = refl; says = refl };
  chain = record { verb = verb.Chain; asks = refl; says = refl };
  both = record { verb = verb.And; asks = refl; says = refl };
  either = record { verb = verb.Or; asks = refl; says = refl };
  differ = record { verb = verb.Xor; asks = refl; says = refl };
  turned = record { verb = verb.Not; asks = refl; says = refl };
  number = record { verb = verb.AddNumber; asks = refl; says = refl };
  test = record { verb = verb.Test; asks = refl; says = refl };
  keep = record { verb = verb.Keep; asks = refl; says = refl };
  sum = refl;
  no_phrase = refl;
}
