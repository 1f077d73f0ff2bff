use Rattle.std.proofs.Common.{◌≡◌, OnErr, length, take, subst, List}
use Rattle.cm_model.specs.declared.message.Event.{Event}
use Rattle.cm_array.proofs.Lists.{kept_in_front}
use Rattle.cm_array.proofs.log_view.Log.push_onto.Goals as goal

pub returns-clause-err : goal.returns-clause-err
returns-clause-err c =
    kept_in_front c.args.to.now.items c.self.inside.dealt.now c.push_told.new.to.items c.push_told.result
    (subst
    (λ (items : List Event). OnErr c.push_told.result (take (length items) c.push_told.new.to.items ≡ items))
    c.in_ok-extend_from_slice.ensures.items
    c.push_told.ensures.err)
