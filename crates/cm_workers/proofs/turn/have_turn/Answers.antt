use Rattle.std.specs.Option.{option_copied}
use Rattle.cm_workers.proofs.Turning.{all_ready, all_gone}
use Rattle.cm_workers.proofs.Passing.{comes_by, shows_in}
use Rattle.cm_workers.proofs.turn.have_turn.Goals as goal

pub show-requires : goal.show-requires
show-requires g c =
    let turn = c.args.turn.now in
    record {
      own =
          comes_by turn.acts.now (option_copied turn.before) turn.number c.args.worker
          c.args.blocks.now c.go_on_all.new.blocks c.args.posts.now c.go_on_all.new.posts c.go_on_all.ensures.value
          (option_copied turn.next) c.requires.own;
    }

pub send_all-requires : goal.send_all-requires
send_all-requires g c =
    let turn = c.args.turn.now in
    record {
      ready =
          all_ready turn.acts.now (option_copied turn.before) (option_copied turn.next)
          c.args.blocks.now c.go_on_all.new.blocks c.show.new.blocks
          c.args.posts.now c.go_on_all.new.posts c.requires.ready c.go_on_all.ensures.value c.show.ensures.value;
    }

pub returns : goal.returns
returns g c = record {
  value = let turn = c.args.turn.now in
      all_gone turn.acts.now (option_copied turn.before) (option_copied turn.next)
      c.args.blocks.now c.go_on_all.new.blocks c.show.new.blocks
      c.send_all.new.blocks c.args.posts.now c.go_on_all.new.posts c.send_all.new.posts
      c.go_on_all.ensures.value c.show.ensures.value
      c.send_all.ensures.value;
  passed = λ gate is. let turn = c.args.turn.now in
      shows_in _ turn.acts.now (option_copied turn.before) (option_copied turn.next) turn.number c.args.worker
      c.args.blocks.now c.go_on_all.new.blocks c.show.new.blocks c.args.posts.now c.go_on_all.new.posts
      c.go_on_all.ensures.value c.show.ensures.value (c.show.ensures.seen gate is);
}
