-- Workers from round to round of a run.
use Rattle.std.proofs.Common.{◌≡◌, ℕ, zero, suc, ◌+◌, ◌-◌, ◌*◌, ◌<◌, ◌≤◌, ◌^◌, ◌↔◌, List, [], ◌∷◌, Some, None, length, get_or}
use Rattle.std.proofs.Common.{⊎_elim, refl, ap, sym, subst, ◌∙◌, arith}
use Rattle.std.specs.Prelude.{slice_get}
use Rattle.std.proofs.Math.Pow.{pow_mono}
use Rattle.std.proofs.lemmas.Bool.{cases_lt}
use Rattle.std.proofs.lemmas.List.{length-map}
use Rattle.cm_model.specs.declared.act.Act.{Act}
use Rattle.cm_model.specs.Machine.{Machine}
use Rattle.cm_blocks.specs.Parts.{Part}
use Rattle.cm_blocks.specs.Parcels.{Parcel}
use Rattle.cm_blocks.specs.Rounds.{rounds}
use Rattle.cm_subcube.specs.declared.round.Kind.{Kind}
use Rattle.cm_subcube.specs.declared.round.Kind.TheVariants as kind
use Rattle.cm_subcube.specs.declared.round.Round.{Round}
use Rattle.cm_array.specs.Cuts.{PartView}
use Rattle.cm_subcube.specs.Blocks.{BlockView}
use Rattle.cm_subcube.specs.Rounds.{round_of}
use Rattle.cm_subcube.specs.Parcels.{IsExchangeBy}
use Rattle.cm_board.specs.Courses.{Course}
use Rattle.cm_gates.specs.Blocks.{AreShown}
use Rattle.cm_turns.specs.Lanes.{Run, before, rounds_in, place_of_kind, ends_each, course, own, givers}
use Rattle.cm_turns.specs.Standing.{block_number, AreEndsBefore, IsWorkerBefore, IsUnused}
use Rattle.cm_turns.specs.Turns.{CanGoOn, HasGoneOn, CanSend, HasSent, CanGet, HasGot, AreReady, AreUsed}
use Rattle.cm_gates.specs.Gates.{AreBeforeRound, ComesBy, gate_round_number}
use Rattle.cm_turns.specs.Workers.{AreDone, HasSeenOf}
use Rattle.cm_turns.proofs.Ends.{place_in, some_blocks, ends_are, ends_next}
use Rattle.cm_turns.proofs.Going.{count_of_block, can_begin, begun, shown, can_send, StandsSent, sent, can_get, got, exchange_of}

module _ (run : Run) (r count w : ℕ) (round : Round) (at : slice_get (rounds_in run) r ≡ Some round) where
  abbrev each_it : ℕ
  each_it = ends_each run.k

  abbrev place_now : ℕ
  place_now = place_of_kind run.n run.k round.kind

  pub each_is : run.k + 2 ≡ ends_each run.k
  each_is = ends_are run.k (some_blocks run.n run.k round.act round.kind (exchange_of run r round at))

  inside : place_now < each_it
  inside = let f = place_in run.n run.k round.act round.kind (exchange_of run r round at) in
      omega (arith, f, each_is)

  -- ready to send, whether looked at or not
  pub all_can_send : (blocks shown_them : List BlockView) (sends gets : List (Course Parcel))
      → IsWorkerBefore run r count w blocks sends gets → AreShown blocks shown_them
      → AreReady each_it place_now (CanSend round) shown_them sends
  all_can_send blocks shown_them sends gets is looked = record {
    len = is.sends_are.len ∙ ap (λ (many : ℕ). many * each_it) (sym looked.len);
    below = inside;
    can = λ i b e l. let l0 : i < length blocks = omega (arith, l, looked.len) in
        can_send run r (block_number count w i) round (get_or shown_them i b) (get_or sends (i * each_it + place_now) e) at
        (shown run r (block_number count w i) (get_or blocks i b) (get_or shown_them i b) (is.each i b l0) (looked.each i b l0))
        (is.sends_are.each i place_now e l0 inside);
  }

  stands_sent : (blocks shown_them sent_them : List BlockView) (sends gets nexts : List (Course Parcel))
      → IsWorkerBefore run r count w blocks sends gets → AreShown blocks shown_them
      → AreUsed each_it place_now (length shown_them) (HasSent round) shown_them sends sent_them nexts
      → (i : ℕ) (b : BlockView) → i < length blocks
      → (e : Course Parcel) → StandsSent run r (block_number count w i) round (get_or sent_them i b)
  stands_sent blocks shown_them sent_them sends gets nexts is looked used i b l e =
      sent run r (block_number count w i) round (get_or shown_them i b) (get_or sent_them i b)
      (get_or sends (i * each_it + place_now) e)
      (shown run r (block_number count w i) (get_or blocks i b) (get_or shown_them i b) (is.each i b l) (looked.each i b l))
      (used.became i b e (omega (arith, l, looked.len)))

  pub all_can_get : (blocks shown_them sent_them : List BlockView) (sends gets nexts : List (Course Parcel))
      → IsWorkerBefore run r count w blocks sends gets → AreShown blocks shown_them
      → AreUsed each_it place_now (length shown_them) (HasSent round) shown_them sends sent_them nexts
      → AreReady each_it place_now (CanGet run.acts round) sent_them gets
  all_can_get blocks shown_them sent_them sends gets nexts is looked used = record {
    len = is.gets_are.len ∙ ap (λ (many : ℕ). many * each_it) (sym (used.block_count ∙ looked.len));
    below = inside;
    can = λ i b e l. let l0 : i < length blocks = omega (arith, l, used.block_count, looked.len) in
        can_get run r (block_number count w i) round (get_or sent_them i b) (get_or gets (i * each_it + place_now) e) at
        (stands_sent blocks shown_them sent_them sends gets nexts is looked used i b l0 e)
        (is.gets_are.each i place_now e l0 inside);
  }

  pub round_is_over : (blocks shown_them sent_them last : List BlockView) (sends gets nexts afters : List (Course Parcel))
      → IsWorkerBefore run r count w blocks sends gets → AreShown blocks shown_them
      → AreUsed each_it place_now (length shown_them) (HasSent round) shown_them sends sent_them nexts
      → AreUsed each_it place_now (length sent_them) (HasGot run.acts round) sent_them gets last afters
      → IsWorkerBefore run (r + 1) count w last nexts afters
  round_is_over blocks shown_them sent_them last sends gets nexts afters is looked used taken =
      let many : length last ≡ length blocks = taken.block_count ∙ used.block_count ∙ looked.len in record {
        within = is.within;
        one_of = is.one_of;
        some = let s = is.some in omega (arith, s, many);
        share = λ q. subst (λ (m : ℕ). (q < m) ↔ (block_number count w q < 2 ^ run.k)) (sym many) (is.share q);
        each = λ i b l. let l0 : i < length blocks = omega (arith, l, many) in
            let e : Course Parcel = course run 0 0 0 in
            got run r (block_number count w i) round (get_or sent_them i b) (get_or last i b)
            (get_or gets (i * each_it + place_now) e) is.within ((is.share i).0 l0) at
            (stands_sent blocks shown_them sent_them sends gets nexts is looked used i b l0 e)
            (is.gets_are.each i place_now e l0 inside)
            (taken.became i b e (omega (arith, l0, used.block_count, looked.len)));
        sends_are = subst (λ (m : ℕ). AreEndsBefore run own (r + 1) count w m nexts) (sym many)
            (ends_next run r round at own count w (length blocks) (HasSent round) shown_them sent_them sends nexts inside
            is.sends_are
            (subst (λ (m : ℕ). AreUsed each_it place_now m (HasSent round) shown_them sends sent_them nexts)
            looked.len used));
        gets_are = subst (λ (m : ℕ). AreEndsBefore run givers (r + 1) count w m afters) (sym many)
            (ends_next run r round at givers count w (length blocks) (HasGot run.acts round) sent_them last gets afters
            inside is.gets_are
            (subst (λ (m : ℕ). AreUsed each_it place_now m (HasGot run.acts round) sent_them gets last afters)
            (used.block_count ∙ looked.len) taken));
      }

-- ---- before the first round, and after the last

pub all_can_begin : (run : Run) (count w : ℕ) (blocks : List BlockView) (sends gets : List (Course Parcel))
    → IsUnused run count w blocks sends gets
    → (i : ℕ) (b : BlockView) → i < length blocks → CanGoOn run.acts None (get_or blocks i b)
all_can_begin run count w blocks sends gets is i b l = can_begin run (block_number count w i) (get_or blocks i b) (is.each i b l)

pub has_begun : (run : Run) (count w : ℕ) (blocks news : List BlockView) (sends gets : List (Course Parcel))
    → IsUnused run count w blocks sends gets → length news ≡ length blocks
    → ((i : ℕ) (b : BlockView) → i < length blocks → HasGoneOn run.acts None (get_or blocks i b) (get_or news i b))
    → IsWorkerBefore run 0 count w news sends gets
has_begun run count w blocks news sends gets is many gone = record {
  within = is.within;
  one_of = is.one_of;
  some = let s = is.some in omega (arith, s, many);
  share = λ q. subst (λ (m : ℕ). (q < m) ↔ (block_number count w q < 2 ^ run.k)) (sym many) (is.share q);
  each = λ i b l. let l0 : i < length blocks = omega (arith, l, many) in
      begun run (block_number count w i) (get_or blocks i b) (get_or news i b) is.within ((is.share i).0 l0) (is.each i b l0)
      (gone i b l0);
  sends_are = subst (λ (m : ℕ). AreEndsBefore run own 0 count w m sends) (sym many) is.sends_are;
  gets_are = subst (λ (m : ℕ). AreEndsBefore run givers 0 count w m gets) (sym many) is.gets_are;
}

-- what is read is there
there_below : {X : Type 0} (xs : List X) (i : ℕ) (x : X) → slice_get xs i ≡ Some x → i < length xs
there_below [] i x is = absurd (let wrong : None ≡ Some x = is in cc)
there_below (y ∷ ys) zero x is = omega arith
there_below (y ∷ ys) (suc i) x is = let f = there_below ys i x is in omega (arith, f)

-- a worker's blocks before a round, as who looks sees them
stand_before : (run : Run) (r count w : ℕ) (blocks : List BlockView) (sends gets : List (Course Parcel))
    → IsWorkerBefore run r count w blocks sends gets
    → AreBeforeRound run.n run.k run.room run.machine run.acts r count w blocks
stand_before run r count w blocks sends gets is = record {
  one_of = is.one_of;
  share = is.share;
  each = λ q b l.
      let x = is.each q b l in record { blocks = x.blocks; dims = x.dims; room_is = x.room_is; part = x.part };
}

-- so they stand when they can be read
still_before : (n k room : ℕ) (machine : Machine) (acts : List Act) (r count w : ℕ) (blocks now : List BlockView)
    → AreShown blocks now → AreBeforeRound n k room machine acts r count w blocks
    → AreBeforeRound n k room machine acts r count w now
still_before n k room machine acts r count w blocks now shown_them was = record {
  one_of = was.one_of;
  share = λ q. subst (λ (m : ℕ). (q < m) ↔ (q * count + w < 2 ^ k)) (sym shown_them.len) (was.share q);
  each = λ q b l.
      let m : q < length blocks = omega (arith, l, shown_them.len) in
      let is = shown_them.each q b m in let it = was.each q b m in record {
        blocks = is.blocks ∙ it.blocks;
        dims = ap (λ (kept : PartView). kept.dims) is.kept ∙ it.dims;
        room_is = ap (λ (kept : PartView). kept.room) is.kept ∙ it.room_is;
        part = ap (λ (kept : PartView). kept.part) is.kept ∙ it.part;
      };
}

-- a worker comes by a gate
pub comes_by : (run : Run) (r count w : ℕ) (round : Round) (blocks : List BlockView) (sends gets : List (Course Parcel))
    → slice_get (rounds_in run) r ≡ Some round → IsWorkerBefore run r count w blocks sends gets
    → ComesBy w (gate_round_number r) blocks
comes_by run r count w round blocks sends gets at is = record {
  n = run.n;
  k = run.k;
  room = run.room;
  machine = run.machine;
  acts = run.acts;
  count = count;
  number = r;
  there = subst (λ (m : ℕ). r < m) (length-map (rounds run.n run.k run.acts) round_of)
      (there_below (rounds_in run) r round at);
  told_is = refl;
  at = stand_before run r count w blocks sends gets is;
}

-- so it does with blocks that can be read
pub still_comes : (w told : ℕ) (blocks now : List BlockView) → AreShown blocks now → ComesBy w told blocks
    → ComesBy w told now
still_comes w told blocks now shown_them was = record {
  n = was.n;
  k = was.k;
  room = was.room;
  machine = was.machine;
  acts = was.acts;
  count = was.count;
  number = was.number;
  there = was.there;
  told_is = was.told_is;
  at = still_before was.n was.k was.room was.machine was.acts was.number was.count w blocks now shown_them was.at;
}

-- who was shown its blocks saw the worker before the round
pub has_seen : (saw : ℕ → ℕ → List BlockView → Type 0) (run : Run) (r count w : ℕ) (blocks now : List BlockView)
    (sends gets : List (Course Parcel)) → IsWorkerBefore run r count w blocks sends gets → AreShown blocks now
    → saw w (gate_round_number r) now → HasSeenOf saw run count w r
has_seen saw run r count w blocks now sends gets is shown_them seen = record {
  blocks = now;
  at = still_before run.n run.k run.room run.machine run.acts r count w blocks now shown_them
      (stand_before run r count w blocks sends gets is);
  seen = seen;
}

-- one round more
pub seen_until : (saw : ℕ → ℕ → List BlockView → Type 0) (run : Run) (r count w : ℕ)
    → ((s : ℕ) → s < r → HasSeenOf saw run count w s) → HasSeenOf saw run count w r
    → (s : ℕ) → s < r + 1 → HasSeenOf saw run count w s
seen_until saw run r count w were is s l =
    ⊎_elim
    (λ (below : s < r). were s below)
    (λ (there : r ≤ s). subst (λ (t : ℕ). HasSeenOf saw run count w t)
    (let same : r ≡ s = omega (arith, there, l) in same) is)
    (cases_lt s r)

pub all_done : (run : Run) (count w many : ℕ) (blocks : List BlockView) (sends gets : List (Course Parcel))
    → length blocks ≡ many → IsWorkerBefore run (length (rounds_in run)) count w blocks sends gets
    → AreDone run count w many blocks
all_done run count w many blocks sends gets is at =
    record { len = is; each = λ i d l. (at.each i d (omega (arith, l, is))).part }

-- ---- the places as they are computed

pub record Fits (run : Run) (round : Round) (each place : ℕ) : Type 0 where
  pub each_fits : ends_each run.k ≡ each
  pub place_fits : place_of_kind run.n run.k round.kind ≡ place

pub chips_are : (run : Run) (r count w : ℕ) (blocks : List BlockView) (sends gets : List (Course Parcel))
    (first : BlockView) → IsWorkerBefore run r count w blocks sends gets → first ≡ get_or blocks 0 first
    → first.kept.part.count ≡ 2 ^ (run.n - run.k)
chips_are run r count w blocks sends gets first is read =
    ap (λ (x : BlockView). x.kept.part.count) read
    ∙ ap (λ (s : Part). s.count) (is.each 0 first is.some).part
    ∙ count_of_block run.n run.k (block_number count w 0) (before run r)

-- a dimension at which blocks exchange leads out of each
pub leads_out : (run : Run) (r chips d : ℕ) (round : Round) → slice_get (rounds_in run) r ≡ Some round
    → chips ≡ 2 ^ (run.n - run.k) → round.kind ≡ kind.Dim d → chips ≤ 2 ^ d
leads_out run r chips d round at is over =
    let outer = subst (λ (x : Kind). IsExchangeBy run.n run.k round.act x) over (exchange_of run r round at) in
    let more : 2 ^ (run.n - run.k) ≤ 2 ^ d = pow_mono (let f = outer.from in omega (arith, f)) in
    omega (arith, is, more)

pub they_fit : (run : Run) (round : Round) (k each place : ℕ) → k ≡ run.k → each ≡ ends_each k
    → place ≡ place_of_kind run.n run.k round.kind → Fits run round each place
they_fit run round k each place k_is each_is place_is = record {
  each_fits = ap ends_each (sym k_is) ∙ sym each_is;
  place_fits = sym place_is;
}

module _ (run : Run) (r count w : ℕ) (round : Round) (at : slice_get (rounds_in run) r ≡ Some round)
    (each place : ℕ) (fit : Fits run round each place) where
  ready_fit : (Can : BlockView → Course Parcel → Type 0) (blocks : List BlockView) (ends : List (Course Parcel))
      → AreReady (ends_each run.k) (place_of_kind run.n run.k round.kind) Can blocks ends → AreReady each place Can blocks ends
  ready_fit Can blocks ends are =
      subst (λ (x : ℕ). AreReady x place Can blocks ends) fit.each_fits
      (subst (λ (y : ℕ). AreReady (ends_each run.k) y Can blocks ends) fit.place_fits are)

  used_fit : (m : ℕ) (Become : BlockView → Course Parcel → BlockView → Type 0) (blocks news : List BlockView)
      (ends nexts : List (Course Parcel)) → AreUsed each place m Become blocks ends news nexts
      → AreUsed (ends_each run.k) (place_of_kind run.n run.k round.kind) m Become blocks ends news nexts
  used_fit m Become blocks news ends nexts are =
      subst (λ (x : ℕ). AreUsed x (place_of_kind run.n run.k round.kind) m Become blocks ends news nexts) (sym fit.each_fits)
      (subst (λ (y : ℕ). AreUsed each y m Become blocks ends news nexts) (sym fit.place_fits) are)

  module _ (blocks shown_them : List BlockView) (sends gets : List (Course Parcel))
      (is : IsWorkerBefore run r count w blocks sends gets) (looked : AreShown blocks shown_them) where
    pub send_ready : AreReady each place (CanSend round) shown_them sends
    send_ready = ready_fit (CanSend round) shown_them sends
        (all_can_send run r count w round at blocks shown_them sends gets is looked)

    module _ (acts : List Act) (acts_are : acts ≡ run.acts) (sent_them : List BlockView) (nexts : List (Course Parcel))
        (used : AreUsed each place (length shown_them) (HasSent round) shown_them sends sent_them nexts) where
      pub get_ready : AreReady each place (CanGet acts round) sent_them gets
      get_ready = subst (λ (xs : List Act). AreReady each place (CanGet xs round) sent_them gets) (sym acts_are)
          (ready_fit (CanGet run.acts round) sent_them gets
          (all_can_get run r count w round at blocks shown_them sent_them sends gets nexts is looked
          (used_fit (length shown_them) (HasSent round) shown_them sent_them sends nexts used)))

      pub over_fit : (last : List BlockView) (afters : List (Course Parcel))
          → AreUsed each place (length sent_them) (HasGot acts round) sent_them gets last afters
          → IsWorkerBefore run (r + 1) count w last nexts afters
      over_fit last afters taken =
          round_is_over run r count w round at blocks shown_them sent_them last sends gets nexts afters is looked
          (used_fit (length shown_them) (HasSent round) shown_them sent_them sends nexts used)
          (used_fit (length sent_them) (HasGot run.acts round) sent_them last gets afters
          (subst (λ (xs : List Act). AreUsed each place (length sent_them) (HasGot xs round) sent_them gets last afters)
          acts_are taken))

-- ---- a round that is read

pub read_there : {X : Type 0} (xs : List X) (i : ℕ) (d : X) → i < length xs → slice_get xs i ≡ Some (get_or xs i d)
read_there [] i d below = absurd (omega (arith, below))
read_there (x ∷ xs) zero d below = refl
read_there (x ∷ xs) (suc i) d below = read_there xs i d (omega (arith, below))

pub round_read : (run : Run) (rounds_now : List Round) (r : ℕ) (round : Round) → rounds_now ≡ rounds_in run
    → r < length rounds_now → round ≡ get_or rounds_now r round → slice_get (rounds_in run) r ≡ Some round
round_read run rounds_now r round are below read =
    subst (λ (xs : List Round). slice_get xs r ≡ Some round) are
    (read_there rounds_now r round below ∙ ap Some (sym read))
