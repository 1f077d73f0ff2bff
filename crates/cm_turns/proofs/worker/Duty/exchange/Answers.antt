use Rattle.std.proofs.Common.{◌≡◌, ◌-◌, ◌^◌, ◌∙◌, arith}
use Rattle.std.proofs.lemmas.Nat.{pow_pos}
use Rattle.cm_turns.proofs.Working.{chips_are, leads_out, they_fit, comes_by, send_ready, get_ready, over_fit, has_seen}
use Rattle.cm_turns.proofs.worker.Duty.exchange.Goals as goal

pub place_of-place-requires-clause-some : goal.place_of-place-requires-clause-some
place_of-place-requires-clause-some g c =
    let ready = c.requires.ready in let run = ready.run in
    let some = pow_pos (run.n - run.k) in
    let chips : c.chips.result ≡ 2 ^ (run.n - run.k) = c.chips.ensures.value
    ∙ chips_are run c.args.r ready.count c.args.self.now.id _ _ _ c.index.result.now ready.at c.index.ensures in
    omega (arith, chips, some)

pub place_of-place-requires-clause-outer : goal.place_of-place-requires-clause-outer
place_of-place-requires-clause-outer g c d is =
    let ready = c.requires.ready in let run = ready.run in
    leads_out run c.args.r c.chips.result d c.args.round.now ready.round_is
    (c.chips.ensures.value
    ∙ chips_are run c.args.r ready.count c.args.self.now.id _ _ _ c.index.result.now ready.at c.index.ensures) is

pub show-requires : goal.show-requires
show-requires g c =
    let ready = c.requires.ready in
    record {
      own = comes_by ready.run c.args.r ready.count c.args.self.now.id c.args.round.now _ _ _ ready.round_is ready.at;
    }

pub send_all-requires : goal.send_all-requires
send_all-requires g c =
    let ready = c.requires.ready in let run = ready.run in
    let chips : c.chips.result ≡ 2 ^ (run.n - run.k) = c.chips.ensures.value
    ∙ chips_are run c.args.r ready.count c.args.self.now.id _ _ _ c.index.result.now ready.at c.index.ensures in
    record {
      ready =
          send_ready run c.args.r ready.count c.args.self.now.id c.args.round.now ready.round_is _ _
          (they_fit run c.args.round.now c.args.self.now.k c.ends_each-each.result c.place_of-place.result ready.k_is
          c.ends_each-each.ensures.value (c.place_of-place.ensures.value run.n run.k chips))
          _ _ _ _ ready.at c.show.ensures.value;
    }

pub get_all-requires : goal.get_all-requires
get_all-requires g c =
    let ready = c.requires.ready in let run = ready.run in
    let chips : c.chips.result ≡ 2 ^ (run.n - run.k) = c.chips.ensures.value
    ∙ chips_are run c.args.r ready.count c.args.self.now.id _ _ _ c.index.result.now ready.at c.index.ensures in
    record {
      ready =
          get_ready run c.args.r ready.count c.args.self.now.id c.args.round.now ready.round_is _ _
          (they_fit run c.args.round.now c.args.self.now.k c.ends_each-each.result c.place_of-place.result ready.k_is
          c.ends_each-each.ensures.value (c.place_of-place.ensures.value run.n run.k chips))
          _ _ _ _ ready.at c.show.ensures.value c.args.self.now.acts.now ready.acts_are _ _ c.send_all.ensures.value;
    }

pub returns-clause-count : goal.returns-clause-count
returns-clause-count g c =
    c.get_all.ensures.value.block_count ∙ c.send_all.ensures.value.block_count ∙ c.show.ensures.value.len

pub returns-clause-value : goal.returns-clause-value
returns-clause-value g c run count acts_are k_is at is =
    let chips : c.chips.result ≡ 2 ^ (run.n - run.k) = c.chips.ensures.value
    ∙ chips_are run c.args.r count c.args.self.now.id _ _ _ c.index.result.now is c.index.ensures in
    over_fit run c.args.r count c.args.self.now.id c.args.round.now at _ _
    (they_fit run c.args.round.now c.args.self.now.k c.ends_each-each.result c.place_of-place.result k_is
    c.ends_each-each.ensures.value (c.place_of-place.ensures.value run.n run.k chips))
    _ _ _ _ is c.show.ensures.value c.args.self.now.acts.now acts_are _ _ c.send_all.ensures.value _ _ c.get_all.ensures.value

pub returns-clause-passed : goal.returns-clause-passed
returns-clause-passed g c gate through run count is =
    has_seen _ run c.args.r count c.args.self.now.id _ _ _ _ is c.show.ensures.value (c.show.ensures.seen gate through)
