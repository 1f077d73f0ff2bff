-- A world that is not finished has a step: the block of the least round has one, or the block from which it gets.
use Rattle.std.proofs.Common.{◌≡◌, ℕ, zero, suc, ◌+◌, ◌*◌, ◌^◌, ◌<◌, ◌≤◌, ◌⊎◌, inl, inr, ⊎_elim, sym, ap, ◌∙◌, refl}
use Rattle.std.proofs.Common.{subst, Bool, true, false, cond, List, get_or, map, Option, Some, None, eqb}
use Rattle.std.proofs.Common.{◌↔◌, ◌&&◌, true≢false, arith}
use Rattle.std.proofs.lemmas.Bool.{cases_Bool, cases_lt, eq-eqb}
use Rattle.std.proofs.lemmas.Bool.Decides.{nat_tests}
use Rattle.std.proofs.lemmas.List.{get_or_default}
use Rattle.std.specs.Prelude.{nat_lt}
use Rattle.std.specs.List.{find, range_with_len}
use Rattle.cm_exchange.specs.declared.stand.Stand.{Stand}
use Rattle.cm_exchange.specs.declared.step.Step.{Step}
use Rattle.cm_exchange.specs.declared.step.Step.TheVariants.{Grip, File, Draw, Clear}
use Rattle.cm_exchange.specs.Lanes.{Exchange, round_count, kind_at, kind_count, uses, giver, receiver}
use Rattle.cm_exchange.specs.Worlds.{World, at_first, stand_of, lane_of, IsFinished}
use Rattle.cm_exchange.specs.Steps.{block_of, stage_of, kind_now, sender_of, is_moved, is_possible, IsReached, step_at}
use Rattle.cm_exchange.specs.Steps.{next_step}
use Rattle.cm_exchange.specs.Laws.{HasItsKinds, IsNext, ArePartners}
use Rattle.cm_exchange.proofs.Partners.{lanes_have_two_ends}
use Rattle.cm_exchange.proofs.Uses.{one_if, uses-next, uses-grow}
use Rattle.cm_exchange.proofs.Rules.{Rules, if_filed, if_held, if_drawn, is_its}
use Rattle.cm_exchange.proofs.Soundness.{IsStand, IsSound, Can, can, reached-sound}
use Rattle.cm_exchange.proofs.Counting.{stands-all}

-- ---- the first of some

-- the first that passes among those that a function gives of numbers from one on
record IsFirst {X : Type 0} (p : X → Bool) (f : ℕ → X) (first count : ℕ) (x : X) : Type 0 where
  passes : p x ≡ true
  number : ℕ
  from : first ≤ number
  below : number < first + count
  is : x ≡ f number
  lowest : (i : ℕ) → first ≤ i → p (f i) ≡ true → number ≤ i

found : {X : Type 0} (p : X → Bool) (f : ℕ → X) (first count : ℕ) (x : X)
    → find p (map f (range_with_len first count)) ≡ Some x → IsFirst p f first count x
found p f first zero x h = absurd (let wrong : None ≡ Some x = h in cc)
found {X} p f first (suc count) x h = ⊎_elim
    (λ (e : p (f first) ≡ true).
    let same : f first ≡ x =
    ap (or_else x) (subst (λ (t : Bool). cond t (Some (f first)) rest ≡ Some x) e h) in
    record {
      passes = ap p (sym same) ∙ e;
      number = first;
      from = omega arith;
      below = omega arith;
      is = sym same;
      lowest = λ i l g. l;
    })
    (λ (e : p (f first) ≡ false).
    let later : IsFirst p f (first + 1) count x =
    found p f (first + 1) count x (subst (λ (t : Bool). cond t (Some (f first)) rest ≡ Some x) e h) in
    record {
      passes = later.passes;
      number = later.number;
      from = let l = later.from in omega (arith, l);
      below = let l = later.below in omega (arith, l);
      is = later.is;
      lowest = λ i l g. ⊎_elim
          (λ (m : first < i). later.lowest i (omega (arith, m)) g)
          (λ (m : i ≤ first).
          let same : i ≡ first = omega (arith, l, m) in
          absurd (true≢false (sym g ∙ ap (λ (z : ℕ). p (f z)) same ∙ e)))
          (cases_lt first i);
    })
    (cases_Bool (p (f first)))
  where
    or_else : {X : Type 0} → X → Option X → X
    or_else d (Some z) = z
    or_else d None = d

    rest : Option X
    rest = find p (map f (range_with_len (first + 1) count))

not_found : {X : Type 0} (p : X → Bool) (f : ℕ → X) (first count : ℕ)
    → find p (map f (range_with_len first count)) ≡ None
    → (i : ℕ) → first ≤ i → i < first + count → p (f i) ≡ false
not_found p f first zero h i l m = absurd (omega (arith, l, m))
not_found {X} p f first (suc count) h i l m = ⊎_elim
    (λ (e : p (f first) ≡ true).
    absurd (let wrong : Some (f first) ≡ None = subst (λ (t : Bool). cond t (Some (f first)) rest ≡ None) e h in cc))
    (λ (e : p (f first) ≡ false).
    ⊎_elim
    (λ (n : first < i). not_found p f (first + 1) count
    (subst (λ (t : Bool). cond t (Some (f first)) rest ≡ None) e h) i (omega (arith, n)) (omega (arith, m)))
    (λ (n : i ≤ first). let same : i ≡ first = omega (arith, l, n) in ap (λ (z : ℕ). p (f z)) same ∙ e)
    (cases_lt first i))
    (cases_Bool (p (f first)))
  where
    rest : Option X
    rest = find p (map f (range_with_len (first + 1) count))

either_found : {X : Type 0} (o : Option X) → (o ≡ None) ⊎ ((x : X) × (o ≡ Some x))
either_found None = inl refl
either_found (Some x) = inr (x, refl)

-- ---- a block and its step

step-block : (b stage : ℕ) → block_of (step_at b stage) ≡ b
step-block b zero = refl
step-block b (suc zero) = refl
step-block b (suc (suc zero)) = refl
step-block b (suc (suc (suc stage))) = refl

step-own : (step : Step) → step_at (block_of step) (stage_of step) ≡ step
step-own (Grip b) = refl
step-own (File b) = refl
step-own (Draw b) = refl
step-own (Clear b) = refl

both_true : (x y : Bool) → x ≡ true → y ≡ true → (x && y) ≡ true
both_true x y e f = rw e f

lt_tells : (a b : ℕ) → a < b → nat_lt a b ≡ true
lt_tells a b h = grind (arith, nat_tests)

able : (exchange : Exchange) (world : World) (step : Step)
    → Can exchange world (stand_of world (block_of step)) step → is_possible exchange world step ≡ true
unfolding is_possible
able exchange world step c =
    both_true _ _ (lt_tells (block_of step) (2 ^ exchange.k) c.below)
    (both_true _ _ (lt_tells (stand_of world (block_of step)).round (round_count exchange) c.within)
    (both_true _ _ (eq-eqb (stand_of world (block_of step)).stage (stage_of step) c.stage) c.may))

-- ---- the block of the least round

module _ (exchange : Exchange) (world : World) (is : HasItsKinds exchange) (sound : IsSound exchange world) (r : ℕ)
    (below : r < round_count exchange)
    (least : (c : ℕ) → c < 2 ^ exchange.k → r ≤ (stand_of world c).round)
    (stuck : (c : ℕ) → c < 2 ^ exchange.k → is_possible exchange world (step_at c (stand_of world c).stage)
    ≡ false) where
  abbrev kind : ℕ
  kind = kind_at exchange.kinds r

  -- a block that has a step is not stuck
  not_stuck : (step : Step) → block_of step < 2 ^ exchange.k → (stand_of world (block_of step)).round ≡ r
      → (stand_of world (block_of step)).stage ≡ stage_of step
      → is_moved step (uses exchange.kinds kind r)
      (lane_of exchange.k world kind (sender_of exchange (stand_of world (block_of step)) step)).word ≡ true → ⊥
  not_stuck step l round stage may =
      let stand : Stand = stand_of world (block_of step) in
      let same : step_at (block_of step) stand.stage ≡ step = ap (step_at (block_of step)) stage ∙ step-own step in
      let can_be : Can exchange world stand step = record {
        below = l;
        within = subst (λ (z : ℕ). z < round_count exchange) (sym round) below;
        stage = stage;
        may = subst (λ (z : ℕ). is_moved step (uses exchange.kinds (kind_at exchange.kinds z) z)
            (lane_of exchange.k world (kind_at exchange.kinds z) (sender_of exchange stand step)).word ≡ true)
            (sym round) may;
      } in
      true≢false (sym (able exchange world step can_be) ∙ ap (is_possible exchange world) (sym same)
      ∙ stuck (block_of step) l)

  kind_below : kind < kind_count exchange.k
  kind_below = is.kinds r below

  its : (c : ℕ) → (stand_of world c).round ≡ r → is_its exchange.kinds kind (stand_of world c) ≡ true
  its c round = eq-eqb (kind_at exchange.kinds (stand_of world c).round) kind (ap (kind_at exchange.kinds) round)

  -- one that has begun this round has its own lane before it
  not_at_first : (c : ℕ) → c < 2 ^ exchange.k → (stand_of world c).round ≡ r → (stand_of world c).stage ≡ 0 → ⊥
  not_at_first c l round stage =
      let p : ArePartners exchange.k kind = lanes_have_two_ends exchange.k kind kind_below in
      let to : ℕ = receiver exchange.k kind c in
      let rule : Rules exchange.kinds kind (stand_of world c) (stand_of world to)
      (lane_of exchange.k world kind c).word =
      subst (λ (z : ℕ). Rules exchange.kinds kind (stand_of world z) (stand_of world to)
      (lane_of exchange.k world kind z).word) (p.on c l) (sound.rules kind to kind_below (p.gets c l)) in
      let i : Bool = is_its exchange.kinds kind (stand_of world c) in
      let f : if_filed (stand_of world c).stage i ≡ 0 = ap (λ (z : ℕ). if_filed z i) stage in
      let h : if_held (stand_of world c).stage i ≡ 0 = ap (λ (z : ℕ). if_held z i) stage in
      let own : uses exchange.kinds kind (stand_of world c).round ≡ uses exchange.kinds kind r =
      ap (uses exchange.kinds kind) round in
      let others : uses exchange.kinds kind r ≤ uses exchange.kinds kind (stand_of world to).round =
      uses-grow exchange.kinds kind r (stand_of world to).round (least to (p.gets c l)) in
      not_stuck (Grip c) l round stage
      (eq-eqb (lane_of exchange.k world kind c).word (4 * uses exchange.kinds kind r)
      (omega (arith, f, h, own, others, rule.word_is, rule.back, rule.ahead)))

  not_holding : (c : ℕ) → c < 2 ^ exchange.k → (stand_of world c).round ≡ r → (stand_of world c).stage ≡ 1 → ⊥
  not_holding c l round stage = not_stuck (File c) l round stage refl

  not_drawn : (c : ℕ) → c < 2 ^ exchange.k → (stand_of world c).round ≡ r → (stand_of world c).stage ≡ 3 → ⊥
  not_drawn c l round stage = not_stuck (Clear c) l round stage refl

  -- one whose giver has filed has a full lane before it
  not_given : (c : ℕ) → c < 2 ^ exchange.k → (stand_of world c).round ≡ r → (stand_of world c).stage ≡ 2
      → uses exchange.kinds kind r + 1
      ≤ uses exchange.kinds kind (stand_of world (giver exchange.k kind c)).round
      + if_filed (stand_of world (giver exchange.k kind c)).stage
      (is_its exchange.kinds kind (stand_of world (giver exchange.k kind c))) → ⊥
  not_given c l round stage filed =
      let from : ℕ = giver exchange.k kind c in
      let rule : Rules exchange.kinds kind (stand_of world from) (stand_of world c)
      (lane_of exchange.k world kind from).word = sound.rules kind c kind_below l in
      let i : Bool = is_its exchange.kinds kind (stand_of world c) in
      let d : if_drawn (stand_of world c).stage i ≡ 0 = ap (λ (z : ℕ). if_drawn z i) stage in
      let own : uses exchange.kinds kind (stand_of world c).round ≡ uses exchange.kinds kind r =
      ap (uses exchange.kinds kind) round in
      let word : (lane_of exchange.k world kind from).word ≡ 4 * uses exchange.kinds kind r + 2 =
      omega (arith, d, own, filed, rule.word_is, rule.back, rule.ahead) in
      let kinds : kind_now exchange (stand_of world c) ≡ kind = ap (kind_at exchange.kinds) round in
      not_stuck (Draw c) l round stage
      (eq-eqb (lane_of exchange.k world kind (giver exchange.k (kind_now exchange (stand_of world c)) c)).word
      (4 * uses exchange.kinds kind r + 2)
      (ap (λ (z : ℕ). (lane_of exchange.k world kind (giver exchange.k z c)).word) kinds ∙ word))

  not_filed : (c : ℕ) → c < 2 ^ exchange.k → (stand_of world c).round ≡ r → (stand_of world c).stage ≡ 2 → ⊥
  not_filed c l round stage =
      let p : ArePartners exchange.k kind = lanes_have_two_ends exchange.k kind kind_below in
      let from : ℕ = giver exchange.k kind c in
      let m : from < 2 ^ exchange.k = p.gives c l in
      let s : Stand = stand_of world from in
      let more : uses exchange.kinds kind (suc r) ≡ uses exchange.kinds kind r + one_if (eqb kind kind) =
      uses-next exchange.kinds kind r below in
      let one : one_if (eqb kind kind) ≡ 1 = ap one_if (eq-eqb kind kind refl) in
      ⊎_elim
      (λ (ahead : r < s.round).
      let grown = uses-grow exchange.kinds kind (suc r) s.round (omega (arith, ahead)) in
      not_given c l round stage (omega (arith, more, one, grown)))
      (λ (not_ahead : s.round ≤ r).
      let at_least = least from m in
      let there : s.round ≡ r = omega (arith, not_ahead, at_least) in
      by_stage s.stage refl there m)
      (cases_lt r s.round)
    where
      by_stage : (stage_there : ℕ) → (stand_of world (giver exchange.k kind c)).stage ≡ stage_there
          → (stand_of world (giver exchange.k kind c)).round ≡ r
          → giver exchange.k kind c < 2 ^ exchange.k → ⊥
      by_stage zero e there m = not_at_first (giver exchange.k kind c) m there e
      by_stage (suc zero) e there m = not_holding (giver exchange.k kind c) m there e
      by_stage (suc (suc more)) e there m =
          let i : Bool = is_its exchange.kinds kind (stand_of world (giver exchange.k kind c)) in
          let f : if_filed (stand_of world (giver exchange.k kind c)).stage i ≡ one_if i =
          ap (λ (z : ℕ). if_filed z i) e in
          let one : one_if i ≡ 1 = ap one_if (its (giver exchange.k kind c) there) in
          let own : uses exchange.kinds kind (stand_of world (giver exchange.k kind c)).round
          ≡ uses exchange.kinds kind r = ap (uses exchange.kinds kind) there in
          not_given c l round stage (omega (arith, f, one, own))

  none_is_there : (c : ℕ) → c < 2 ^ exchange.k → (stand_of world c).round ≡ r → ⊥
  none_is_there c l round = by_stage (stand_of world c).stage refl (sound.stands c l).stage where
    by_stage : (stage : ℕ) → (stand_of world c).stage ≡ stage → (stand_of world c).stage ≤ 3 → ⊥
    by_stage zero e m = not_at_first c l round e
    by_stage (suc zero) e m = not_holding c l round e
    by_stage (suc (suc zero)) e m = not_filed c l round e
    by_stage (suc (suc (suc zero))) e m = not_drawn c l round e
    by_stage (suc (suc (suc (suc stage)))) e m = absurd (omega (arith, e, m))

-- if no block has a step, all are through
all_through : (exchange : Exchange) (world : World) → HasItsKinds exchange → IsSound exchange world
    → ((c : ℕ) → c < 2 ^ exchange.k → is_possible exchange world (step_at c (stand_of world c).stage) ≡ false)
    → (r : ℕ) → r ≤ round_count exchange → (c : ℕ) → c < 2 ^ exchange.k → r ≤ (stand_of world c).round
all_through exchange world is sound stuck zero l c below = omega arith
all_through exchange world is sound stuck (suc r) l c below =
    let least = all_through exchange world is sound stuck r (omega (arith, l)) in
    let at_least = least c below in
    ⊎_elim
    (λ (ahead : r < (stand_of world c).round). omega (arith, ahead))
    (λ (not_ahead : (stand_of world c).round ≤ r).
    absurd (none_is_there exchange world is sound r (omega (arith, l)) least stuck c below
    (omega (arith, at_least, not_ahead))))
    (cases_lt r (stand_of world c).round)

-- ---- the law

is_next : (exchange : Exchange) (world : World) (step : Step) → IsSound exchange world
    → next_step exchange world ≡ Some step → IsNext exchange world step
unfolding next_step is_possible
is_next exchange world step sound h =
    let f : ℕ → Step = λ b. step_at b (stand_of world b).stage in
    let first : IsFirst (is_possible exchange world) f 0 (2 ^ exchange.k) step =
    found (is_possible exchange world) f 0 (2 ^ exchange.k) step h in
    let own : block_of step ≡ first.number =
    ap block_of first.is ∙ step-block first.number (stand_of world first.number).stage in
    record {
      possible = first.passes;
      lowest = λ other g.
          let c : Can exchange world (stand_of world (block_of other)) other =
          can exchange world (stand_of world (block_of other)) other g in
          let same : f (block_of other) ≡ other = ap (step_at (block_of other)) c.stage ∙ step-own other in
          let low : first.number ≤ block_of other =
          first.lowest (block_of other) (omega arith) (ap (is_possible exchange world) same ∙ g) in
          omega (arith, low, own);
    }

finished_if_none : (exchange : Exchange) (world : World) → HasItsKinds exchange → IsSound exchange world
    → next_step exchange world ≡ None → IsFinished exchange world
unfolding next_step
finished_if_none exchange world is sound h i d l =
    let stands : IsStand (round_count exchange) (get_or world.stands i d) = stands-all exchange world sound i d l in
    let below : i < 2 ^ exchange.k = subst (λ (z : ℕ). i < z) sound.stand_count l in
    let stuck : (c : ℕ) → c < 2 ^ exchange.k
    → is_possible exchange world (step_at c (stand_of world c).stage) ≡ false =
    λ c m. not_found (is_possible exchange world) (λ b. step_at b (stand_of world b).stage) 0 (2 ^ exchange.k) h c
    (omega arith) (omega (arith, m)) in
    let through : round_count exchange ≤ (stand_of world i).round =
    all_through exchange world is sound stuck (round_count exchange) (omega arith) i below in
    let same : get_or world.stands i at_first ≡ get_or world.stands i d = get_or_default world.stands i at_first d l in
    let rounds : (stand_of world i).round ≡ (get_or world.stands i d).round = ap (λ (z : Stand). z.round) same in
    let within = stands.within in
    omega (arith, through, rounds, within)

none_if_finished : (exchange : Exchange) (world : World) → IsSound exchange world → IsFinished exchange world
    → next_step exchange world ≡ None
unfolding is_possible
none_if_finished exchange world sound finished = ⊎_elim
    (λ (none : next_step exchange world ≡ None). none)
    (λ (some : (step : Step) × (next_step exchange world ≡ Some step)).
    let next : IsNext exchange world some.0 = is_next exchange world some.0 sound some.1 in
    let c : Can exchange world (stand_of world (block_of some.0)) some.0 =
    can exchange world (stand_of world (block_of some.0)) some.0 next.possible in
    let end = finished (block_of some.0) at_first
    (subst (λ (z : ℕ). block_of some.0 < z) (sym sound.stand_count) c.below) in
    let within = c.within in
    absurd (omega (arith, end, within)))
    (either_found (next_step exchange world))

pub worlds_are_never_stuck : (exchange : Exchange) (steps : List Step) (world : World) → HasItsKinds exchange
    → IsReached exchange steps world →
    ((next_step exchange world ≡ None) ↔ IsFinished exchange world)
    × ((step : Step) → next_step exchange world ≡ Some step → IsNext exchange world step)
worlds_are_never_stuck exchange steps world is reached =
    let sound : IsSound exchange world = reached-sound exchange steps world is reached in (
      (finished_if_none exchange world is sound, none_if_finished exchange world sound),
      (λ step h. is_next exchange world step sound h),
    )
