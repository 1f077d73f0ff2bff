use Rattle.std.proofs.Common.{rules, ℕ, refl, subst}
use Rattle.std.proofs.lemmas.Result.{IfOk-weaker}
use Rattle.std.specs.Prelude.{IfOk}
use Rattle.cm_gates.specs.Dealing.{AreDealt}
use Rattle.cm_turns.specs.Lanes.{Run}
use Rattle.cm_resident.specs.SharedLists.{IsRunOfList}
use Rattle.cm_resident.specs.Teams.{AreDealtFrom, IsTeam}
use Rattle.cm_resident.proofs.Fitting.{are_hands}
use Rattle.cm_resident.proofs.Opening.{few_rounds, in_time}
use Rattle.cm_resident.proofs.teams.team_in.Goals as goal

pub worker_parts-requires : goal.worker_parts-requires
worker_parts-requires g c = record {
  within = c.requires.list.within;
  few = few_rounds g.S.Sizes.n c.args.list.now.k c.args.list.now.acts.now c.requires.list.dimension
      c.requires.list.within c.requires.list.long;
  cycles = c.requires.list.cycles;
  clock = in_time c.args.machine.now.machine.clock _ c.args.list.now.acts.now c.requires.clock c.requires.list.cycles;
}

pub returns : goal.returns
returns g c =
    let list = c.args.list.now in
    let run : Run =
    record { n = g.S.Sizes.n; k = list.k; room = g.S.Sizes.cap; machine = c.args.machine.now.machine; acts = list.acts.now } in
    let of : IsRunOfList run list = record {
      k_is = refl;
      within = c.requires.list.within;
      enough = c.requires.list.enough;
      acts_are = refl;
      rounds_are = c.requires.list.rounds;
    } in
    let dealt : AreDealtFrom run list.workers 0 c.in_ok-hands.hands.items =
    are_hands run list.workers c.in_ok-worker_parts.worker_parts.items c.in_ok-hands.hands.items
    c.in_ok-worker_parts.ensures.value
    (subst (λ (m : ℕ). AreDealt m c.in_ok-worker_parts.worker_parts.items c.in_ok-hands.hands.items) c.from.ensures
    c.in_ok-hands.ensures.value) in
    let all : IfOk c.workers_of.result (λ team. IsTeam run list.workers team.items) =
    IfOk-weaker c.workers_of.result _ _ (λ team is. is run of dealt) c.workers_of.ensures.value in record {
      count = IfOk-weaker c.workers_of.result _ _ (λ team is. is.len) all;
      ids = IfOk-weaker c.workers_of.result _ _ (λ team is. is.ids) all;
      value = IfOk-weaker c.workers_of.result _ _ (λ team is. is.each) all;
    }

pub workers_of-requires : goal.workers_of-requires
workers_of-requires g c = record { count = search (rules, c.in_ok-hands.ensures.value.len) }
