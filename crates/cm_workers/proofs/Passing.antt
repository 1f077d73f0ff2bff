-- Workers that come by a gate.
use Rattle.std.proofs.Common.{◌≡◌, ◌↔◌, ℕ, ◌+◌, ◌-◌, ◌*◌, ◌/◌, ◌<◌, ◌≤◌, ◌^◌, ⊎_elim, List, Option, None, Some, Vec}
use Rattle.std.proofs.Common.{length, get_or, refl, ap, sym, subst, ◌∙◌, arith}
use Rattle.std.specs.declared.alloc.Global.{Global}
use Rattle.std.specs.Prelude.{slice_get, IfSome}
use Rattle.std.proofs.lemmas.Bool.{cases_lt}
use Rattle.std.proofs.lemmas.List.{length-map}
use Rattle.std.proofs.lemmas.Option.{slice_get_past}
use Rattle.cm_model.specs.declared.act.Act.{Act}
use Rattle.cm_model.specs.Machine.{Machine}
use Rattle.cm_blocks.specs.Parts.{block}
use Rattle.cm_blocks.specs.Rounds.{rounds, before_round}
use Rattle.cm_array.specs.Cuts.{PartView}
use Rattle.cm_subcube.specs.declared.round.Round.{Round}
use Rattle.cm_subcube.specs.Blocks.{BlockView}
use Rattle.cm_subcube.specs.Rounds.{round_of, rounds_of}
use Rattle.cm_workers.specs.declared.post.Post.{Post}
use Rattle.cm_workers.specs.Posts.{blank_post}
use Rattle.cm_gates.specs.Dealing.{hand, AreDealt}
use Rattle.cm_workers.specs.Each.{AreEach}
use Rattle.cm_gates.specs.Blocks.{AreShown}
use Rattle.cm_workers.specs.Turns.{round_before, part_gone_on, HasGoneOn}
use Rattle.cm_workers.specs.Runs.{StandsAt, HaveBegun}
use Rattle.cm_gates.specs.Gates.{gate_round_number, IsBeforeRound, AreBeforeRound, ComesBy}
use Rattle.cm_workers.specs.Gates.{StandsAsWorker, IsWorkersTurn}
use Rattle.cm_workers.specs.Gates.{ShowsIn}
use Rattle.cm_workers.specs.Shifts.{AreWorkersTurns}
use Rattle.cm_workers.proofs.Standing.{gone_to}

-- an element that is there has its place below the end
there_below : {X : Type 0} (xs : List X) (i : ℕ) (x : X) → slice_get xs i ≡ Some x → i < length xs
there_below xs i x is = ⊎_elim
    (λ (l : i < length xs). l)
    (λ (l : length xs ≤ i). absurd (let wrong : None ≡ Some x = sym (slice_get_past xs i l) ∙ is in cc))
    (cases_lt i (length xs))

module _ (n k room : ℕ) (machine : Machine) (acts : List Act) (t count w : ℕ) (before : Option Round)
    (blocks bs : List BlockView) (posts ps : List Post) (within : k ≤ n - n / 2)
    (below : t ≤ length (rounds_of n k acts)) (before_is : before ≡ round_before (rounds_of n k acts) t)
    (at : StandsAsWorker n k room machine acts t count w blocks posts)
    (gone : AreEach (HasGoneOn acts before) blocks posts bs ps) where
  -- each block's part is as it is before the round
  part_comes : (q : ℕ) (b : BlockView) → q < length blocks
      → (get_or bs q b).kept.part ≡ block n k (q * count + w) (before_round n room k machine acts t)
  part_comes q b l =
      let p : Post = blank_post n k in
      let kept : BlockView = get_or blocks q b in let post : Post = get_or posts q p in
      let stood = at.each q b p l in
      (gone.each q b p l).part
      ∙ ap (λ (d : ℕ). part_gone_on d kept.k kept.kept.room acts before post kept.kept.part) stood.dims
      ∙ ap (λ (j : ℕ). part_gone_on n j kept.kept.room acts before post kept.kept.part) stood.blocks
      ∙ ap (λ (r : ℕ). part_gone_on n k r acts before post kept.kept.part) stood.room_is
      ∙ ap (λ (one : Option Round). part_gone_on n k room acts one post kept.kept.part) before_is
      ∙ gone_to n k room machine acts within t (q * count + w) kept post below ((at.share q).0 l) stood

  -- and so is each block
  one_comes : (q : ℕ) (b : BlockView) → q < length blocks
      → IsBeforeRound n k room machine acts t (q * count + w) (get_or bs q b)
  one_comes q b l =
      let p : Post = blank_post n k in
      let stood = at.each q b p l in let same = (gone.each q b p l).same in record {
        blocks = same.blocks ∙ stood.blocks;
        dims = same.dims ∙ stood.dims;
        room_is = same.room ∙ stood.room_is;
        part = part_comes q b l;
      }

  -- a worker's blocks that have gone on are as they are before the round
  pub come_to : AreBeforeRound n k room machine acts t count w bs
  come_to = record {
    one_of = at.one_of;
    share = λ q. subst (λ (m : ℕ). (q < m) ↔ (q * count + w < 2 ^ k)) (sym gone.first_len) (at.share q);
    each = λ q b l. one_comes q b (omega (arith, l, gone.first_len));
  }

-- and so they are when they can be read
pub still_before : (n k room : ℕ) (machine : Machine) (acts : List Act) (t count w : ℕ) (bs now : List BlockView)
    → AreShown bs now → AreBeforeRound n k room machine acts t count w bs
    → AreBeforeRound n k room machine acts t count w now
still_before n k room machine acts t count w bs now shown was = record {
  one_of = was.one_of;
  share = λ q. subst (λ (m : ℕ). (q < m) ↔ (q * count + w < 2 ^ k)) (sym shown.len) (was.share q);
  each = λ q b l.
      let m : q < length bs = omega (arith, l, shown.len) in
      let is = shown.each q b m in let it = was.each q b m in record {
        blocks = is.blocks ∙ it.blocks;
        dims = ap (λ (kept : PartView). kept.dims) is.kept ∙ it.dims;
        room_is = ap (λ (kept : PartView). kept.room) is.kept ∙ it.room_is;
        part = ap (λ (kept : PartView). kept.part) is.kept ∙ it.part;
      };
}

-- a worker whose blocks have gone on comes by, if a round is ahead
pub comes_by : (acts : List Act) (before : Option Round) (t w : ℕ) (blocks bs : List BlockView) (posts ps : List Post)
    → AreEach (HasGoneOn acts before) blocks posts bs ps → (next : Option Round)
    → IsWorkersTurn acts before next t w blocks posts → IfSome next (λ _. ComesBy w (gate_round_number t) bs)
comes_by acts before t w blocks bs posts ps gone None turn = tt
comes_by acts before t w blocks bs posts ps gone (Some round) turn = record {
  n = turn.n;
  k = turn.k;
  room = turn.room;
  machine = turn.machine;
  acts = acts;
  count = turn.count;
  number = t;
  there = subst (λ (m : ℕ). t < m) (length-map (rounds turn.n turn.k acts) round_of)
      (there_below (rounds_of turn.n turn.k acts) t round (sym turn.next_is));
  told_is = refl;
  at = come_to turn.n turn.k turn.room turn.machine acts t turn.count w before blocks bs posts ps turn.within turn.below
      turn.before_is turn.at gone;
}

-- so it does with blocks that can be read
pub still_comes : (w told : ℕ) (bs now : List BlockView) → AreShown bs now → ComesBy w told bs → ComesBy w told now
still_comes w told bs now shown was = record {
  n = was.n;
  k = was.k;
  room = was.room;
  machine = was.machine;
  acts = was.acts;
  count = was.count;
  number = was.number;
  there = was.there;
  told_is = was.told_is;
  at = still_before was.n was.k was.room was.machine was.acts was.number was.count w bs now shown was.at;
}

-- so it does before a round that is there, of which it is told by its number
pub shown_comes : (next : Option Round) (round : Round) (w number told : ℕ) (bs now : List BlockView)
    → next ≡ Some round → told ≡ gate_round_number number → AreShown bs now
    → IfSome next (λ _. ComesBy w (gate_round_number number) bs) → ComesBy w told now
shown_comes next round w number told bs now is told_is shown own =
    subst (λ (t : ℕ). ComesBy w t now) (sym told_is)
    (still_comes w (gate_round_number number) bs now shown
    (subst (λ (one : Option Round). IfSome one (λ _. ComesBy w (gate_round_number number) bs)) is own))

-- the turn of a worker as it is told by its number
pub own_as_numbered : (acts : List Act) (before before_it next next_it : Option Round) (t w : ℕ)
    (blocks bs : List BlockView) (posts ps : List Post)
    → before ≡ before_it → next ≡ next_it → bs ≡ blocks → ps ≡ posts
    → IsWorkersTurn acts before_it next_it t w blocks posts
    → IsWorkersTurn acts before next t w bs ps
own_as_numbered acts before before_it next next_it t w blocks bs posts ps b n bs_is ps_is turn =
    subst (λ (one : Option Round). IsWorkersTurn acts one next t w bs ps) (sym b)
    (subst (λ (one : Option Round). IsWorkersTurn acts before_it one t w bs ps) (sym n)
    (subst (λ (xs : List BlockView). IsWorkersTurn acts before_it next_it t w xs ps) (sym bs_is)
    (subst (λ (xs : List Post). IsWorkersTurn acts before_it next_it t w blocks xs) (sym ps_is) turn)))

-- hands that were dealt from all blocks of a run are those of its workers
pub hands_turns : (n k t count : ℕ) (acts : List Act) (rounds_now : List Round) (blocks : List BlockView)
    (posts : List Post) (hb : List (Vec BlockView Global)) (hp : List (Vec Post Global))
    → k ≤ n - n / 2 → rounds_now ≡ rounds_of n k acts → t ≤ length rounds_now → HaveBegun n k acts t blocks posts
    → AreDealt count blocks hb → AreDealt count posts hp
    → AreWorkersTurns acts (round_before rounds_now t) (slice_get rounds_now t) t hb hp
hands_turns n k t count acts rounds_now blocks posts hb hp within is below begun db dp w e f there =
    let l : w < count = omega (arith, there, db.len) in
    let many = begun.at.block_count in let as_many = begun.at.post_count in record {
      n = n;
      k = k;
      room = begun.room;
      machine = begun.machine;
      count = count;
      within = within;
      below = subst (λ (rs : List Round). t ≤ length rs) is below;
      before_is = ap (λ (rs : List Round). round_before rs t) is;
      next_is = ap (λ (rs : List Round). slice_get rs t) is;
      at = record {
        one_of = l;
        share = λ q. subst (λ (m : ℕ). (q < length (hand hb e w)) ↔ (q * count + w < m)) many (db.shares w q e l);
        each = λ q b p r.
            let at : q * count + w < length blocks = (db.shares w q e l).0 r in
            subst (λ (x : BlockView). StandsAt n k begun.room begun.machine acts t (q * count + w) x
            (get_or (hand hp f w) q p)) (sym (db.each w q e b l at))
            (subst (λ (x : Post). StandsAt n k begun.room begun.machine acts t (q * count + w)
            (get_or blocks (q * count + w) b) x) (sym (dp.each w q f p l (omega (arith, at, many, as_many))))
            (begun.at.each (q * count + w) b p (omega (arith, at, many))));
      };
    }

-- ---- who looks

-- what a worker's blocks became was shown, if a round is ahead
pub shows_in : (saw : ℕ → ℕ → List BlockView → Type 0) (acts : List Act) (before next : Option Round) (t w : ℕ)
    (blocks gone shown : List BlockView) (posts blanks : List Post) → AreEach (HasGoneOn acts before) blocks posts gone blanks
    → AreShown gone shown → IfSome next (λ _. saw w (gate_round_number t) shown)
    → ShowsIn saw acts before next t w blocks posts
shows_in saw acts before None t w blocks gone shown posts blanks went same seen = tt
shows_in saw acts before (Some round) t w blocks gone shown posts blanks went same seen =
    record { gone = gone; blanks = blanks; went = went; shown = shown; same = same; seen = seen }

-- so it is told by the turn's number
pub shows_as_numbered : (saw : ℕ → ℕ → List BlockView → Type 0) (acts : List Act) (before before_it next next_it : Option Round)
    (t w : ℕ) (blocks bs : List BlockView) (posts ps : List Post)
    → before ≡ before_it → next ≡ next_it → bs ≡ blocks → ps ≡ posts
    → ShowsIn saw acts before next t w bs ps → ShowsIn saw acts before_it next_it t w blocks posts
shows_as_numbered saw acts before before_it next next_it t w blocks bs posts ps b n bs_is ps_is shows =
    subst (λ (one : Option Round). ShowsIn saw acts one next_it t w blocks posts) b
    (subst (λ (one : Option Round). ShowsIn saw acts before one t w blocks posts) n
    (subst (λ (xs : List BlockView). ShowsIn saw acts before next t w xs posts) bs_is
    (subst (λ (xs : List Post). ShowsIn saw acts before next t w bs xs) ps_is shows)))
