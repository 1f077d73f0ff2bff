use Rattle.std.proofs.Common.{rules, ◌≡◌, ℕ, length, subst, sym}
use Rattle.cm_resident.proofs.Fitting.{HasFirst, has_all, one_more_of_them}
use Rattle.cm_resident.proofs.Fronts.{first_taken, rest_left}
use Rattle.cm_resident.proofs.teams.worker_of.Goals as goal

pub loop-i-preserved : goal.loop-i-preserved
loop-i-preserved c =
    let inv = c.loop-i.invariant in
    let here = first_taken c.args.worker_parts.items c.loop-i.worker_parts.items c.loop-i._i c.remove-block.result inv.left (search rules)
    c.remove-block.ensures.value in record {
      made = search rules;
      room = search rules;
      left = rest_left c.args.worker_parts.items c.loop-i.worker_parts.items c.remove-block.new.self.items c.loop-i._i inv.left
          c.remove-block.ensures.by_index.2;
      first = λ run count has. one_more_of_them run count c.args.id c.loop-i._i c.args.worker_parts.items c.remove-block.result
          c.loop-i.blocks.items _ c.loop-i.sends.items _ c.loop-i.gets.items _ has (search rules) (here c.remove-block.result)
          (inv.first run count has) c.push_reserved.ensures.items c.in_ok-append.ensures.items
          c.in_ok-append-2.ensures.items;
    }

pub returns-clause-worker : goal.returns-clause-worker
returns-clause-worker c run count k within acts rounds one_of there has =
    let ended : c.loop-i._i ≡ length c.args.worker_parts.items = search rules in record {
      k_is = sym k;
      acts_are = acts;
      rounds_are = rounds;
      unused = has_all run count c.args.id c.args.worker_parts.items c.loop-i.blocks.items c.loop-i.sends.items
          c.loop-i.gets.items within one_of there has
          (subst (λ (m : ℕ). HasFirst run count c.args.id m c.loop-i.blocks.items c.loop-i.sends.items c.loop-i.gets.items)
          ended (c.loop-i.invariant.first run count has));
    }
