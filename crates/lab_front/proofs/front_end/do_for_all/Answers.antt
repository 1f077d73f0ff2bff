use Rattle.std.proofs.Common.{◌≡◌, ℕ, List, ap, sym, ◌∙◌, subst}
use Rattle.std.proofs.lemmas.Result.{on_ok_weaker}
use Rattle.cm_bits.specs.Text.{words_of}
use Rattle.cm_session.specs.Answer.{refused_line}
use Rattle.lab_front.specs.ForAll.{AreFor, asked_of}
use Rattle.lab_front.specs.Front.{front_of, front_answered_with, for_all}
use Rattle.lab_front.proofs.Giving.{are_for}
use Rattle.lab_front.proofs.Saying.{own_is}
use Rattle.lab_front.proofs.front_end.do_for_all.Goals as goal

pub returns-in-Err-clause-done : goal.returns-in-Err-clause-done
returns-in-Err-clause-done g c =
    let is : c.from-dimensions.result ≡ g.S.Sizes.n = c.from-dimensions.ensures ∙ c.dims.ensures.value in
    on_ok_weaker c.refuse.result
    (λ tells read. ap (for_all g.S.Sizes.n g.S.Sizes.cap (front_of c.args.machine.now.machine read))
    (ap (λ (n : ℕ). asked_of n (words_of c.args.line.now)) (sym is)
    ∙ c.in-Err.ensures.refused (own_is c.in-Err.kind c.in-Some.ensures.own))
    ∙ ap (front_answered_with (front_of c.args.machine.now.machine read)) (ap refused_line (sym c.in-Some.ensures.value) ∙ sym tells))
    c.refuse.ensures.ok

pub obey-requires : goal.obey-requires
obey-requires g c =
    let is : c.from-dimensions.result ≡ g.S.Sizes.n = c.from-dimensions.ensures ∙ c.dims.ensures.value in
    record {
      numbers = subst (λ (xs : List ℕ). AreFor g.S.Sizes.n c.in-Ok.asked xs) (sym c.as_slice.ensures.value)
          (are_for g.S.Sizes.n (words_of c.args.line.now) c.in-Ok.asked c.read_asked.new.numbers.items
          (ap (λ (n : ℕ). asked_of n (words_of c.args.line.now)) (sym is) ∙ c.in-Ok.ensures.value));
      none = c.requires.none;
    }
