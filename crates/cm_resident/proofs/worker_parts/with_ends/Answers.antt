use Rattle.std.proofs.Common.{rules, ◌≡◌, ◌<◌, ◌^◌, ℕ, List, length, subst, sym, arith}
use Rattle.cm_resident.specs.declared.worker_parts.WorkerParts.{WorkerParts}
use Rattle.cm_turns.specs.Lanes.{Run, ends_each}
use Rattle.cm_resident.specs.Gathering.{AreAll}
use Rattle.cm_resident.specs.Teams.{AreMatched, IsWorkerParts}
use Rattle.cm_resident.proofs.Matching.{next_matched}
use Rattle.cm_resident.proofs.worker_parts.with_ends.Goals as goal

pub loop-b-init : goal.loop-b-init
loop-b-init c = record {
  made = search rules;
  room = search rules;
  left = search rules;
  matched = λ run are. subst (λ (made : List WorkerParts). AreMatched run 0 c.args.blocks.now.items
      c.args.ends.now.sends.items c.args.ends.now.gets.items made) (sym c.in_ok-worker_parts.ensures.items) are;
}

pub take_firsts-requires : goal.take_firsts-requires
take_firsts-requires c =
    let run : Run = c.requires.some.run in
    let are = c.loop-b.invariant.matched run c.requires.some.of in
    let count : c.len-count.result ≡ length c.args.blocks.now.items = search rules in
    let less : c.loop-b._b < c.len-count.result = search rules in
    let below : c.loop-b._b < 2 ^ run.k = (let f = c.requires.some.of.blocks_left.len in omega (arith, f, count, less)) in
    record {
      some = λ j e l.
          let there : j < ends_each run.k = (let f = are.sends_left.len in omega (arith, f, l)) in
          let f = (are.sends_left.each j e there).len in omega (arith, f, below);
    }

pub take_firsts-requires-in-loop-b : goal.take_firsts-requires-in-loop-b
take_firsts-requires-in-loop-b c =
    let run : Run = c.requires.some.run in
    let are = c.loop-b.invariant.matched run c.requires.some.of in
    let count : c.len-count.result ≡ length c.args.blocks.now.items = search rules in
    let less : c.loop-b._b < c.len-count.result = search rules in
    let below : c.loop-b._b < 2 ^ run.k = (let f = c.requires.some.of.blocks_left.len in omega (arith, f, count, less)) in
    record {
      some = λ j e l.
          let there : j < ends_each run.k = (let f = are.gets_left.len in omega (arith, f, l)) in
          let f = (are.gets_left.each j e there).len in omega (arith, f, below);
    }

pub loop-b-preserved : goal.loop-b-preserved
loop-b-preserved c =
    let b = c.loop-b._b in let inv = c.loop-b.invariant in
    let count : c.len-count.result ≡ length c.args.blocks.now.items = search rules in
    let less : b < c.len-count.result = search rules in record {
      made = search rules;
      room = search rules;
      left = search rules;
      matched = λ run are.
          let below : b < 2 ^ run.k = (let f = are.blocks_left.len in omega (arith, f, count, less)) in
          next_matched run b c.loop-b.blocks.items c.remove.new.self.items c.loop-b.ends.sends.items
          c.take_firsts.new.hands.items c.loop-b.ends.gets.items c.take_firsts-in-loop-b.new.hands.items
          c.loop-b.worker_parts.items _ _ (inv.matched run are) below c.push_reserved.ensures.items
          c.remove.ensures.value c.remove.ensures.by_index.2 c.in_ok-sends.ensures.value c.in_ok-gets.ensures.value;
    }

pub returns : goal.returns
returns c =
    let count : c.len-count.result ≡ length c.args.blocks.now.items = search rules in
    let all : c.loop-b._b ≡ c.len-count.result = search rules in record {
      value = λ run are.
          let ended : c.loop-b._b ≡ 2 ^ run.k = (let f = are.blocks_left.len in omega (arith, f, count, all)) in
          subst (λ (m : ℕ). AreAll (IsWorkerParts run) m c.loop-b.worker_parts.items) ended
          (c.loop-b.invariant.matched run are).made;
    }
