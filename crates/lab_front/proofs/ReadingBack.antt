-- Numbers that were put into a field are those that are told of it.
use Rattle.std.proofs.Common.{◌≡◌, ◌^◌, true, Ok, [], ap, ◌∙◌}
use Rattle.cm_bits.specs.Text.{words_of}
use Rattle.lab_data.specs.declared.order.Order.TheVariants.{Chips as by_chips}
use Rattle.lab_data.specs.Data.{numbers_of}
use Rattle.lab_data.proofs.ReadingBack.{numbers_read_back}
use Rattle.lab_front.specs.declared.for_all.Asked.TheVariants.{Get, Put}
use Rattle.lab_front.specs.ForAll.{is_for_all}
use Rattle.lab_front.specs.Telling.{numbers_lines}
use Rattle.lab_front.specs.Front.{Front, FrontAnswered, front_after_line, for_all}
use Rattle.lab_front.specs.Laws.{FrontsReadBack}
use Rattle.lab_front.proofs.Saying.{after_for_all}
use Rattle.lab_front.proofs.Words.{no_program, asked_of_all}
use Rattle.lab_front.proofs.Giving.{IsGiven, right}

pub fronts_read_back : FrontsReadBack
fronts_read_back n cap front putting getting field numbers whole puts gets =
    let given : IsGiven n field numbers = right n (words_of putting) (Put field) numbers puts in
    let all_put : is_for_all (words_of putting) ≡ true = asked_of_all n (words_of putting) (Put field, numbers) puts in
    let all_get : is_for_all (words_of getting) ≡ true = asked_of_all n (words_of getting) (Get field, []) gets in
    let there : Front = (front_after_line n cap front putting).front in
    let after : front_after_line n cap front putting ≡ for_all n cap front (Ok (Put field, numbers)) =
    after_for_all n cap front putting (no_program (words_of putting) all_put) all_put ∙ ap (for_all n cap front) puts in
    ap (λ (a : FrontAnswered). a.answer)
    (after_for_all n cap there getting (no_program (words_of getting) all_get) all_get ∙ ap (for_all n cap there) gets)
    ∙ ap (λ (a : FrontAnswered). numbers_lines (2 ^ n) 16 (numbers_of n by_chips field.at field.len a.front.machine.chips)) after
    ∙ ap (numbers_lines (2 ^ n) 16)
    (numbers_read_back n cap by_chips field.at field.len numbers front.machine whole given.end given.count given.small)
