use Rattle.std.proofs.Common.{sym}
use Rattle.std.proofs.lemmas.Result.{IfOk-weaker}
use Rattle.cm_turns.specs.Lanes.{Run}
use Rattle.cm_resident.proofs.Matching.{none_matched}
use Rattle.cm_resident.proofs.worker_parts.worker_parts.Goals as goal

pub with_ends-requires : goal.with_ends-requires
with_ends-requires g c =
    let run : Run =
    record {
      n = g.S.Sizes.n;
      k = c.args.k;
      room = g.S.Sizes.cap;
      machine = c.args.machine.now.machine;
      acts = c.args.acts.now;
    } in
    let ends = c.in_ok-ends in record {
      some = record {
        run = run;
        of = none_matched run c.in_ok-blocks.blocks.items ends.ends.sends.items ends.ends.gets.items
            (c.in_ok-blocks.ensures.value c.args.acts.now (sym c.requires.cycles)) ends.ensures.sends ends.ensures.gets;
      };
    }

pub returns : goal.returns
returns g c =
    let run : Run =
    record {
      n = g.S.Sizes.n;
      k = c.args.k;
      room = g.S.Sizes.cap;
      machine = c.args.machine.now.machine;
      acts = c.args.acts.now;
    } in
    let ends = c.in_ok-ends in
    let none = none_matched run c.in_ok-blocks.blocks.items ends.ends.sends.items ends.ends.gets.items
    (c.in_ok-blocks.ensures.value c.args.acts.now (sym c.requires.cycles)) ends.ensures.sends ends.ensures.gets in record {
      value = IfOk-weaker c.with_ends.result _ _ (λ parts are. are run none) c.with_ends.ensures.value;
    }
