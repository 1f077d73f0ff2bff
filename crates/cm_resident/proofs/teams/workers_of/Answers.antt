use Rattle.std.proofs.Common.{rules, ◌≡◌, ◌<◌, ◌∙◌, ℕ, List, subst, sym, arith}
use Rattle.cm_turns.specs.declared.worker.Worker.{Worker}
use Rattle.cm_turns.specs.Workers.{IsOfTeam}
use Rattle.cm_resident.specs.Gathering.{AreAll}
use Rattle.cm_resident.specs.Teams.{HasWorkerParts}
use Rattle.cm_resident.proofs.Numbered.{none_yet, one_more, first_is, rest_are}
use Rattle.cm_resident.proofs.teams.workers_of.Goals as goal

pub loop-w-init : goal.loop-w-init
loop-w-init c =
    let workers = c.args.list.now.workers in record {
      room = search rules;
      made = search rules;
      left = omega (arith, c.requires.count);
      team_is = λ run of dealt. (
        dealt,
        subst (λ (xs : List Worker). AreAll (λ w worker. (worker.id ≡ w) × IsOfTeam run workers worker) 0 xs)
            (sym c.in_ok-team.ensures.items)
            (none_yet (λ (w : ℕ) (worker : Worker). (worker.id ≡ w) × IsOfTeam run workers worker)),
      );
    }

pub loop-w-preserved : goal.loop-w-preserved
loop-w-preserved c =
    let inv = c.loop-w.invariant in let w = c.loop-w.w in let workers = c.args.list.now.workers in
    let below : w < workers = search rules in
    let hands = c.loop-w.hands.items in let made = c.in_ok-worker.ensures in record {
      room = search rules;
      made = search rules;
      left = search rules;
      team_is = λ run of dealt.
          let so = inv.team_is run of dealt in
          let own : HasWorkerParts run workers w c.remove.result.items =
          first_is (λ v hand. HasWorkerParts run workers v hand.items) w workers hands c.remove.result so.0 below
          c.remove.ensures.value in
          let one : IsOfTeam run workers c.in_ok-worker.worker =
          made.worker run workers of.k_is of.within (c.in_ok-acts.ensures.value ∙ of.acts_are)
          (c.in_ok-rounds.ensures.value ∙ of.rounds_are) below (omega (arith, below, of.enough)) own in (
            rest_are (λ v hand. HasWorkerParts run workers v hand.items) w workers hands c.remove.new.self.items so.0 below
                c.remove.ensures.by_index.2,
            one_more (λ (v : ℕ) (worker : Worker). (worker.id ≡ v) × IsOfTeam run workers worker) w c.loop-w.team.items _ _ so.1
                c.push_reserved.ensures.items (made.id, one),
          );
    }

pub returns : goal.returns
returns c =
    let workers = c.args.list.now.workers in
    let ended : c.loop-w.w ≡ workers = search rules in record {
      value = λ run of dealt.
          let all : AreAll (λ (w : ℕ) (worker : Worker). (worker.id ≡ w) × IsOfTeam run workers worker) workers
          c.loop-w.team.items =
          subst (λ (m : ℕ). AreAll (λ (w : ℕ) (worker : Worker). (worker.id ≡ w) × IsOfTeam run workers worker) m
          c.loop-w.team.items) ended (c.loop-w.invariant.team_is run of dealt).1 in record {
            len = all.len;
            ids = λ w d below. (all.each w d below).0;
            each = λ w d below. (all.each w d below).1;
          };
    }
