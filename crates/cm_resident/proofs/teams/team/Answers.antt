use Rattle.std.proofs.Common.{rules, ◌≡◌, ℕ, ap, ◌∙◌}
use Rattle.cm_subcube.specs.Rounds.{rounds_of}
use Rattle.cm_resident.proofs.teams.team.Goals as goal

pub team_in-requires : goal.team_in-requires
team_in-requires g c =
    let dimension = c.dims.ensures.sizes.dimension in
    let rounds : c.deref.result.now ≡ rounds_of g.S.Sizes.n c.args.k c.args.acts.now =
    c.deref.ensures.value ∙ c.in_ok-rounds.ensures.value
    ∙ ap (λ (d : ℕ). rounds_of d c.args.k c.args.acts.now) c.dims.ensures.value in
    let cycles = c.in-Ok.ensures.cycles in
    search (rules, dimension, rounds, cycles)
