-- Workers, as they get their blocks and ends.
use Rattle.std.proofs.Common.{◌≡◌, ◌↔◌, ℕ, ◌+◌, ◌*◌, ◌/◌, ◌-◌, ◌<◌, ◌≤◌, ◌^◌, ⊎_elim, List, [], ◌∷◌, ◌++◌, length, map}
use Rattle.std.proofs.Common.{get_or, Vec, ap, sym, subst, ◌∙◌, arith}
use Rattle.std.specs.declared.alloc.Global.{Global}
use Rattle.std.specs.List.{All}
use Rattle.std.proofs.lemmas.Bool.{cases_lt}
use Rattle.std.proofs.lemmas.List.{length-append, length-map, get_or-map, get_or_append_left, get_or-append-add}
use Rattle.std.proofs.lemmas.List.Elements.{All-get_or}
use Rattle.cm_model.specs.declared.act.Act.{Act}
use Rattle.cm_model.specs.Machine.{Machine}
use Rattle.cm_model.proofs.Each.{length-tabulate, get_or-each_below}
use Rattle.cm_blocks.specs.Parts.{Part, block}
use Rattle.cm_blocks.specs.Parcels.{Parcel}
use Rattle.cm_array.specs.Acts.{cycles_in}
use Rattle.cm_router.specs.Logs.{HaveLogRoom}
use Rattle.cm_subcube.specs.Blocks.{BlockView, IsFresh}
use Rattle.cm_subcube.specs.Laws.{all_blocks}
use Rattle.cm_subcube.proofs.Joining.{clock-block}
use Rattle.cm_board.specs.Courses.{Course}
use Rattle.cm_gates.specs.Dealing.{hand, AreDealt}
use Rattle.cm_resident.specs.declared.worker_parts.WorkerParts.{WorkerParts}
use Rattle.cm_turns.specs.Lanes.{Run, ends_each, course, own, givers}
use Rattle.cm_turns.specs.Standing.{block_number, IsRunBlock, AreEndsBefore, IsUnused}
use Rattle.cm_resident.specs.Gathering.{AreAll, AreFrom}
use Rattle.cm_resident.specs.Teams.{HasEnds, IsWorkerParts, HasWorkerParts}
use Rattle.cm_turns.proofs.Places.{place_below}
use Rattle.cm_resident.proofs.Numbered.{one_more}

-- ---- blocks that were just cut

pub just_cut : (n cap k cycles : ℕ) (machine : Machine) (acts : List Act) (blocks : List BlockView)
    → map (λ (b : BlockView). b.kept.part) blocks ≡ all_blocks n k machine
    → All (IsFresh n cap k (cycles * (4 + cap))) blocks → cycles_in acts ≡ cycles → machine.clock + cycles < 2 ^ 63
    → AreFrom (IsRunBlock (record { n = n; k = k; room = cap; machine = machine; acts = acts })) 0 (2 ^ k) blocks
just_cut n cap k cycles machine acts blocks cut fresh counted late =
    let count : length blocks ≡ 2 ^ k =
    sym (length-map blocks (λ (b : BlockView). b.kept.part)) ∙ ap length cut
    ∙ length-tabulate 0 (2 ^ k) (λ b. block n k b machine) in
    record {
      len = omega (arith, count);
      each = λ p d l.
          let one : BlockView = get_or blocks p d in
          let below : p < length blocks = omega (arith, l, count) in
          let new : IsFresh n cap k (cycles * (4 + cap)) one =
          All-get_or (IsFresh n cap k (cycles * (4 + cap))) blocks p d below fresh in
          let at : p ≡ 0 + p = omega arith in
          let is : one.kept.part ≡ block n k p machine =
          sym (get_or-map (λ (z : BlockView). z.kept.part) blocks p d (block n k p machine) below)
          ∙ ap (λ (parts : List Part). get_or parts p (block n k p machine)) cut
          ∙ get_or-each_below (2 ^ k) (λ j. block n k j machine) p (block n k p machine) (omega (arith, below, count)) in
          record {
            blocks = new.blocks;
            dims = new.dims;
            room_is = new.room;
            part = is ∙ ap (λ (v : ℕ). block n k v machine) at;
            log_room = subst (λ (e : ℕ). HaveLogRoom (e * (4 + cap)) one.kept.log_rooms) (sym counted) new.log_room;
            clock = let at_clock : one.kept.part.clock ≡ machine.clock = ap (λ (s : Part). s.clock) is
                ∙ clock-block n k p machine in omega (arith, at_clock, counted, late);
          };
    }

-- ---- ends, those of one block behind those of the blocks before it

one_row : (m each : ℕ) → m * each + each ≡ (m + 1) * each
one_row m each = grind arith

pub ends_more : (run : Run) (whose : Run → ℕ → ℕ → ℕ) (count w m : ℕ) (old ends : List (Course Parcel))
    → AreEndsBefore run whose 0 count w m old → HasEnds run whose (block_number count w m) ends
    → AreEndsBefore run whose 0 count w (m + 1) (old ++ ends)
ends_more run whose count w m old ends are has = let e : ℕ = ends_each run.k in record {
  len = length-append old ends ∙ ap (λ (v : ℕ). v + length ends) are.len ∙ ap (λ (v : ℕ). m * e + v) has.len ∙ one_row m e;
  each = λ i j d l k. ⊎_elim
      (λ (less : i < m).
      get_or_append_left old ends d (i * e + j)
      (let f = place_below i m e j less k in let g = are.len in omega (arith, f, g))
      ∙ are.each i j d less k)
      (λ (no_less : m ≤ i). let here : i ≡ m = omega (arith, no_less, l) in
      subst (λ (v : ℕ). get_or (old ++ ends) (v * e + j) d ≡ course run (whose run (block_number count w v) j) j 0) (sym here)
      (ap (λ (v : ℕ). get_or (old ++ ends) (v + j) d) (sym are.len)
      ∙ get_or-append-add old ends j d ∙ has.each j d k))
      (cases_lt i m);
}

-- ---- what a worker has

-- its first m blocks and their ends
pub record HasFirst (run : Run) (count w m : ℕ) (blocks : List BlockView) (sends gets : List (Course Parcel)) : Type 0 where
  pub blocks_are : AreAll (λ i. IsRunBlock run (block_number count w i)) m blocks
  pub sends_are : AreEndsBefore run own 0 count w m sends
  pub gets_are : AreEndsBefore run givers 0 count w m gets

-- one more of them
pub one_more_of_them : (run : Run) (count w m : ℕ) (worker_parts : List WorkerParts) (one : WorkerParts)
    (blocks blocks_now : List BlockView)
    (sends sends_now gets gets_now : List (Course Parcel)) → HasWorkerParts run count w worker_parts → m < length worker_parts
    → one ≡ get_or worker_parts m one → HasFirst run count w m blocks sends gets
    → blocks_now ≡ blocks ++ one.block ∷ [] → sends_now ≡ sends ++ one.sends.items → gets_now ≡ gets ++ one.gets.items
    → HasFirst run count w (m + 1) blocks_now sends_now gets_now
one_more_of_them run count w m worker_parts one blocks blocks_now sends sends_now gets gets_now has below is first b s g =
    let it : IsWorkerParts run (block_number count w m) one =
    subst (λ (x : WorkerParts). IsWorkerParts run (block_number count w m) x) (sym is) (has.each m one below) in record {
      blocks_are = one_more (λ i. IsRunBlock run (block_number count w i)) m blocks blocks_now one.block first.blocks_are b it.cut;
      sends_are = subst (λ (ends : List (Course Parcel)). AreEndsBefore run own 0 count w (m + 1) ends) (sym s)
          (ends_more run own count w m sends one.sends.items first.sends_are it.sends_are);
      gets_are = subst (λ (ends : List (Course Parcel)). AreEndsBefore run givers 0 count w (m + 1) ends) (sym g)
          (ends_more run givers count w m gets one.gets.items first.gets_are it.gets_are);
    }

-- all of them
pub has_all : (run : Run) (count w : ℕ) (worker_parts : List WorkerParts) (blocks : List BlockView) (sends gets : List (Course Parcel))
    → run.k ≤ run.n - run.n / 2 → w < count → w < 2 ^ run.k → HasWorkerParts run count w worker_parts
    → HasFirst run count w (length worker_parts) blocks sends gets
    → IsUnused run count w blocks sends gets
has_all run count w worker_parts blocks sends gets within one_of there has first =
    let many : length blocks ≡ length worker_parts = first.blocks_are.len in
    let some : 0 < length worker_parts = (has.share 0).1 (let at : block_number count w 0 ≡ w = omega arith in omega (arith, at, there)) in
    record {
      within = within;
      one_of = one_of;
      some = omega (arith, some, many);
      share = λ q. subst (λ (m : ℕ). (q < m) ↔ (block_number count w q < 2 ^ run.k)) (sym many) (has.share q);
      each = λ i d l. first.blocks_are.each i d (omega (arith, l, many));
      sends_are = subst (λ (m : ℕ). AreEndsBefore run own 0 count w m sends) (sym many) first.sends_are;
      gets_are = subst (λ (m : ℕ). AreEndsBefore run givers 0 count w m gets) (sym many) first.gets_are;
    }

-- ---- outfits that were dealt out

pub are_hands : (run : Run) (count : ℕ) (worker_parts : List WorkerParts) (hands : List (Vec WorkerParts Global))
    → AreAll (IsWorkerParts run) (2 ^ run.k) worker_parts → AreDealt count worker_parts hands
    → AreFrom (λ w hand. HasWorkerParts run count w hand.items) 0 count hands
are_hands run count worker_parts hands are dealt = record {
  len = (let f = dealt.len in omega (arith, f));
  each = λ w e l.
      let at : w ≡ 0 + w = omega arith in
      let one_of : w < count = omega (arith, l) in
      subst (λ (v : ℕ). HasWorkerParts run count v (hand hands e w)) at (record {
        share = λ i. subst (λ (m : ℕ). (i < length (hand hands e w)) ↔ (block_number count w i < m)) are.len
            (dealt.shares w i e one_of);
        each = λ i d k.
            let there : block_number count w i < length worker_parts = (dealt.shares w i e one_of).0 k in
            subst (λ (x : WorkerParts). IsWorkerParts run (block_number count w i) x) (sym (dealt.each w i e d one_of there))
            (are.each (block_number count w i) d (let f = are.len in omega (arith, f, there)));
      });
}
