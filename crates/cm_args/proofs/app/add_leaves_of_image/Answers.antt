use Rattle.std.proofs.lemmas.Result.{IfOk-weaker}
use Rattle.cm_args.proofs.Rules.{append-two}
use Rattle.cm_args.proofs.app.add_leaves_of_image.Goals as goal

pub returns-clause-added : goal.returns-clause-added
returns-clause-added c =
    IfOk-weaker c.add_leaf-2.result _ _
    (λ u added. append-two _ _ _ _ _ c.in_ok-add_leaf.ensures.added added)
    c.add_leaf-2.ensures.added
