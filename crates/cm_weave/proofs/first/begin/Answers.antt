use Rattle.std.proofs.Common.{ℕ, ◌*◌, ◌^◌, ◌∙◌, refl, ap, subst}
use Rattle.cm_subcube.specs.Rounds.{rounds_of}
use Rattle.cm_exchange.specs.Lanes.{kind_count}
use Rattle.cm_weave.specs.First.{AreUnused}
use Rattle.cm_weave.proofs.Beginning.{is_begun}
use Rattle.cm_weave.proofs.first.begin.Goals as goal

pub returns-clause-value : goal.returns-clause-value
returns-clause-value g c =
    let k = c.args.k in
    is_begun g.S.Sizes.n g.S.Sizes.cap k c.args.machine.now.machine c.args.acts.now
    (record {
      acts = c.in_ok-copied.field-0;
      rounds = c.in_ok-rounds.field-0;
      blocks = c.in_ok-first_blocks.field-0;
      stands = c.in_ok-first_stands.field-0;
      lanes = c.in_ok-blank_lanes.field-0;
    })
    c.dims-dims.ensures.sizes.dimension (c.in_ok-cycles.ensures.few refl) (c.in_ok-cycles.ensures.within refl)
    c.in_ok-copied.ensures.value
    (c.in_ok-rounds.ensures.value ∙ ap (λ (n : ℕ). rounds_of n k c.args.acts.now) c.dims-dims.ensures.value)
    c.in_ok-first_blocks.ensures.value c.in_ok-first_stands.ensures.value
    (subst (λ (n : ℕ). AreUnused n k (kind_count k * 2 ^ k) c.in_ok-blank_lanes.field-0.items)
    c.dims-dims.ensures.value c.in_ok-blank_lanes.ensures.value)
