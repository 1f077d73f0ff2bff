use Rattle.std.proofs.Common.{◌≡◌, ◌+◌, ◌<◌, ◌≤◌, List, [], ◌∷◌, ◌++◌, take, length, sym, ap, ◌∙◌, arith}
use Rattle.std.proofs.lemmas.List.{take_more}
use Rattle.cm_model.specs.declared.act.Act.{Act}
use Rattle.cm_model.specs.Machine.{Machine, run_of}
use Rattle.cm_model.specs.Buffers.{after_act}
use Rattle.cm_model.proofs.Runs.{run_of-nil, run_of_more}
use Rattle.cm_model.proofs.Cycles.{clock-after_act}
use Rattle.cm_plain.proofs.router.PlainRouter.run.Goals as goal

pub loop-act-init : goal.loop-act-init
loop-act-init g c =
    let counted : c.in_ok-after.after.clock ≡ c.args.self.now.clock =
    ap (λ (m : Machine). m.clock) c.in_ok-after.ensures.value in
    record {
      ran = c.in_ok-after.ensures.value
          ∙ sym (run_of-nil g.row.N g.row.CAP c.args.self.now c.copy.ensures.size);
      clock = omega arith;
    }

pub loop-act-preserved : goal.loop-act-preserved
loop-act-preserved g c =
    let before : Machine = c.args.self.now in
    let acts : List Act = c.args.acts.now in
    let index = c.loop-act.act-index in
    let one : Act = c.act-item.result in
    let inside : index < length acts = omega arith in
    let next : take (index + 1) acts ≡ take index acts ++ one ∷ [] = take_more acts index one inside
    ∙ ap (λ (a : Act). take index acts ++ a ∷ []) (sym c.act-item.is) in
    let acted : c.act.new.self ≡ after_act g.row.N g.row.CAP c.loop-act.after one = c.in_ok-act.ensures.ok in
    let counted : c.act.new.self.clock ≡ (after_act g.row.N g.row.CAP c.loop-act.after one).clock =
    ap (λ (m : Machine). m.clock) acted in
    let few : (after_act g.row.N g.row.CAP c.loop-act.after one).clock ≤ c.loop-act.after.clock + 1 =
    clock-after_act g.row.N g.row.CAP c.loop-act.after one in
    record {
      ran = acted
          ∙ ap (λ (m : Machine). after_act g.row.N g.row.CAP m one) c.loop-act.invariant.ran
          ∙ sym (ap (run_of g.row.N g.row.CAP before) next
          ∙ run_of_more g.row.N g.row.CAP before (take index acts) one);
      clock = omega arith;
    }
