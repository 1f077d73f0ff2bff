use Rattle.cm_workers.proofs.Shifting.{hands_gone}
use Rattle.cm_workers.proofs.shift.start_and_join.Goals as goal

pub returns : goal.returns
returns g c = record {
  value =
      let handles = c.in_ok-handles.handles.items in
      let started = c.in_ok-handles.ensures in
      let now = c.join_all.result in
      hands_gone (λ one. one.promise)
      c.args.run.acts.now c.args.run.rounds.now c.args.number c.args.hands.blocks.items now.blocks.items
      c.args.hands.posts.items now.posts.items handles c.requires.ready.len started.count
      started.promised c.join_all.ensures.count_blocks c.join_all.ensures.count_posts c.join_all.ensures.kept;
}
