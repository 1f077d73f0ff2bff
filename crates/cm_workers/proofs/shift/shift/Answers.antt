use Rattle.std.proofs.Common.{rules, ◌≡◌, ℕ, ◌<◌, ◌∙◌, length, subst, sym}
use Rattle.std.specs.Prelude.{slice_get}
use Rattle.cm_gates.specs.Dealing.{AreDealt, AreShares}
use Rattle.cm_workers.specs.Turns.{round_before}
use Rattle.cm_workers.proofs.Sharing.{hands_ready, block_count, post_count, now_shares, sent_shares, all_had_turn}
use Rattle.cm_workers.proofs.Passing.{hands_turns}
use Rattle.cm_workers.proofs.shift.shift.Goals as goal

pub turn_hands-requires-clause-ready : goal.turn_hands-requires-clause-ready
turn_hands-requires-clause-ready g c =
    let count = c.from-count.result in let some : 0 < count = search rules in
    hands_ready c.args.run.acts.now (round_before c.args.run.rounds.now c.args.number)
    (slice_get c.args.run.rounds.now c.args.number) count some
    c.args.all.blocks.items c.args.all.posts.items c.in_ok-blocks.blocks.items
    c.in_ok-posts.posts.items c.requires.ready.len
    c.in_ok-blocks.ensures.value c.in_ok-posts.ensures.value c.requires.ready

pub turn_hands-requires-clause-own : goal.turn_hands-requires-clause-own
turn_hands-requires-clause-own g c =
    hands_turns c.args.sizes.dims c.args.sizes.k c.args.number c.from-count.result c.args.run.acts.now c.args.run.rounds.now
    c.args.all.blocks.items c.args.all.posts.items c.in_ok-blocks.blocks.items c.in_ok-posts.posts.items
    c.requires.within c.requires.rounds c.requires.number c.requires.begun
    c.in_ok-blocks.ensures.value c.in_ok-posts.ensures.value

pub collect-requires-clause-shares : goal.collect-requires-clause-shares
collect-requires-clause-shares g c =
    let count = c.from-count.result in let some : 0 < count = search rules in
    let many : length c.args.all.blocks.items ≡ c.len-many.result = search rules in
    let before = round_before c.args.run.rounds.now c.args.number in let next = slice_get c.args.run.rounds.now c.args.number in
    let blocks = c.args.all.blocks.items in let posts = c.args.all.posts.items in
    let hb = c.in_ok-blocks.blocks.items in let hp = c.in_ok-posts.posts.items in
    let now = c.in_ok-hands.hands.blocks.items in let sent = c.in_ok-hands.hands.posts.items in
    let len : length now ≡ count =
    block_count c.args.run.acts.now before next count some blocks posts hb hp c.requires.ready.len
    c.in_ok-blocks.ensures.value c.in_ok-posts.ensures.value now sent c.in_ok-hands.ensures.value in
    subst (λ (n : ℕ). AreShares n c.len-many.result now) (sym len)
    (subst (λ (m : ℕ). AreShares count m now) many
    (now_shares c.args.run.acts.now before next count some blocks posts hb hp c.requires.ready.len
    c.in_ok-blocks.ensures.value c.in_ok-posts.ensures.value now sent c.in_ok-hands.ensures.value c.args.all.posts))

pub collect-requires-2-clause-shares : goal.collect-requires-2-clause-shares
collect-requires-2-clause-shares g c =
    let count = c.from-count.result in let some : 0 < count = search rules in
    let many : length c.args.all.blocks.items ≡ c.len-many.result = search rules in
    let before = round_before c.args.run.rounds.now c.args.number in let next = slice_get c.args.run.rounds.now c.args.number in
    let blocks = c.args.all.blocks.items in let posts = c.args.all.posts.items in
    let hb = c.in_ok-blocks.blocks.items in let hp = c.in_ok-posts.posts.items in
    let now = c.in_ok-hands.hands.blocks.items in let sent = c.in_ok-hands.hands.posts.items in
    let len : length sent ≡ count =
    post_count c.args.run.acts.now before next count some blocks posts hb hp c.requires.ready.len
    c.in_ok-blocks.ensures.value c.in_ok-posts.ensures.value now sent c.in_ok-hands.ensures.value in
    subst (λ (n : ℕ). AreShares n c.len-many.result sent) (sym len)
    (subst (λ (m : ℕ). AreShares count m sent) many
    (sent_shares c.args.run.acts.now before next count some blocks posts hb hp c.requires.ready.len
    c.in_ok-blocks.ensures.value c.in_ok-posts.ensures.value now sent c.in_ok-hands.ensures.value c.args.all.blocks))

pub returns : goal.returns
returns g c =
    let count = c.from-count.result in let some : 0 < count = search rules in
    let many : length c.args.all.blocks.items ≡ c.len-many.result = search rules in
    let before = round_before c.args.run.rounds.now c.args.number in let next = slice_get c.args.run.rounds.now c.args.number in
    let blocks = c.args.all.blocks.items in let posts = c.args.all.posts.items in
    let hb = c.in_ok-blocks.blocks.items in let hp = c.in_ok-posts.posts.items in
    let now = c.in_ok-hands.hands.blocks.items in let sent = c.in_ok-hands.hands.posts.items in
    let bs = c.in_ok-blocks-2.blocks.items in let ps = c.in_ok-posts-2.posts.items in
    let first : length now ≡ count =
    block_count c.args.run.acts.now before next count some blocks posts hb hp c.requires.ready.len
    c.in_ok-blocks.ensures.value c.in_ok-posts.ensures.value now sent c.in_ok-hands.ensures.value in
    let second : length sent ≡ count =
    post_count c.args.run.acts.now before next count some blocks posts hb hp c.requires.ready.len
    c.in_ok-blocks.ensures.value c.in_ok-posts.ensures.value now sent c.in_ok-hands.ensures.value in
    record {
      value = all_had_turn c.args.run.acts.now before next count some blocks posts hb hp c.requires.ready.len
          c.in_ok-blocks.ensures.value c.in_ok-posts.ensures.value now sent c.in_ok-hands.ensures.value
          c.args.all.blocks c.args.all.posts bs ps
          (c.in_ok-blocks-2.ensures.many ∙ sym many) (c.in_ok-posts-2.ensures.many ∙ sym many)
          (subst (λ (n : ℕ). AreDealt n bs now) first c.in_ok-blocks-2.ensures.value)
          (subst (λ (n : ℕ). AreDealt n ps sent) second c.in_ok-posts-2.ensures.value);
    }
