use Rattle.std.proofs.Common.{◌∙◌, ap, sym, length}
use Rattle.std.specs.Prelude.{slice_get}
use Rattle.std.specs.Option.{option_copied}
use Rattle.cm_workers.specs.Turns.{round_before}
use Rattle.cm_workers.proofs.PlaceByPlace.{written_back}
use Rattle.cm_workers.proofs.Turning.{as_numbered, ready_as_numbered}
use Rattle.cm_workers.proofs.Passing.{own_as_numbered, shows_as_numbered}
use Rattle.cm_workers.proofs.turn.Crew.go.Goals as goal

pub have_turn-requires : goal.have_turn-requires
have_turn-requires g c =
    record {
      ready =
          ready_as_numbered c.args.run.acts.now (option_copied c.before-2.result)
          (round_before c.args.run.rounds.now c.args.number) (option_copied c.next.result)
          (slice_get c.args.run.rounds.now c.args.number)
          c.args.self.blocks.items c.deref_mut.result.now c.args.self.posts.items c.deref_mut-2.result.now
          c.before-2.ensures.value c.next.ensures.value c.deref_mut.ensures.value
          c.deref_mut-2.ensures.value c.requires.ready;
      own =
          own_as_numbered c.args.run.acts.now (option_copied c.before-2.result)
          (round_before c.args.run.rounds.now c.args.number) (option_copied c.next.result)
          (slice_get c.args.run.rounds.now c.args.number) c.args.number c.args.worker
          c.args.self.blocks.items c.deref_mut.result.now c.args.self.posts.items c.deref_mut-2.result.now
          c.before-2.ensures.value c.next.ensures.value c.deref_mut.ensures.value
          c.deref_mut-2.ensures.value c.requires.own;
    }

pub returns : goal.returns
returns g c = record {
  value = as_numbered c.args.run.acts.now (option_copied c.before-2.result) (round_before c.args.run.rounds.now c.args.number)
      (option_copied c.next.result)
      (slice_get c.args.run.rounds.now c.args.number)
      c.args.self.blocks.items c.deref_mut.result.now c.have_turn.new.blocks _
      c.args.self.posts.items c.deref_mut-2.result.now c.have_turn.new.posts _
      c.before-2.ensures.value c.next.ensures.value c.deref_mut.ensures.value c.deref_mut-2.ensures.value
      (written_back c.args.self.blocks.len c.have_turn.new.blocks c.args.self.blocks.items
      (c.have_turn.ensures.value.first_len ∙ ap length c.deref_mut.ensures.value ∙ sym c.args.self.blocks.ok.0))
      (written_back c.args.self.posts.len c.have_turn.new.posts c.args.self.posts.items
      (c.have_turn.ensures.value.second_len ∙ ap length c.deref_mut-2.ensures.value ∙ sym c.args.self.posts.ok.0))
      c.have_turn.ensures.value;
  passed = λ gate is.
      shows_as_numbered _ c.args.run.acts.now (option_copied c.before-2.result) (round_before c.args.run.rounds.now c.args.number)
      (option_copied c.next.result) (slice_get c.args.run.rounds.now c.args.number) c.args.number c.args.worker
      c.args.self.blocks.items c.deref_mut.result.now c.args.self.posts.items c.deref_mut-2.result.now
      c.before-2.ensures.value c.next.ensures.value c.deref_mut.ensures.value c.deref_mut-2.ensures.value
      (c.have_turn.ensures.passed gate is);
}
