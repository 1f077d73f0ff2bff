-- What holds in every world that steps lead to: each lane keeps its rule, and holds what its word says.
use Rattle.std.proofs.Common.{◌≡◌, ◌≢◌, ℕ, ◌+◌, ◌*◌, ◌^◌, ◌<◌, ◌≤◌, ◌⊎◌, inl, inr, ⊎_elim, sym, ap, ◌∙◌, refl}
use Rattle.std.proofs.Common.{subst, Bool, true, false, cond, List, [], ◌∷◌, length, get_or, Option, Some, None}
use Rattle.std.proofs.Common.{replicate, arith}
use Rattle.std.proofs.lemmas.Bool.{cases_Bool, cases_lt, cases_eq, eqb-true, ne_eqb, eq-eqb, and_parts}
use Rattle.std.proofs.lemmas.Bool.Decides.{nat_tests}
use Rattle.std.proofs.lemmas.Nat.{mul-le}
use Rattle.std.proofs.lemmas.List.{get_or-set_same, get_or-set_other, length-set, length-replicate, get_or-replicate}
use Rattle.std.specs.Prelude.{nat_lt}
use Rattle.cm_blocks.specs.Parcels.{Parcel}
use Rattle.cm_exchange.specs.declared.stand.Stand.{Stand}
use Rattle.cm_exchange.specs.declared.step.Step.{Step}
use Rattle.cm_exchange.specs.declared.step.Step.TheVariants.{Grip, File, Draw, Clear}
use Rattle.cm_exchange.specs.Lanes.{Exchange, round_count, kind_count, due_list, giver, receiver}
use Rattle.cm_exchange.specs.Worlds.{Lane, World, at_first, unused_lane, first_world, stand_of, lane_number, lane_of}
use Rattle.cm_exchange.specs.Worlds.{held_by}
use Rattle.cm_exchange.specs.Steps.{block_of, stage_of, kind_now, uses_now, sender_of, is_moved, moved, stand_after}
use Rattle.cm_exchange.specs.Steps.{can_step, world_with, is_possible, world_after, next_world, Lead, IsReached}
use Rattle.cm_exchange.specs.Laws.{HasItsKinds, ArePartners}
use Rattle.cm_exchange.proofs.Partners.{lanes_have_two_ends}
use Rattle.cm_exchange.proofs.Rules.{Rules, SendsAlike, GetsAlike, sends-same, gets-same, rules-same, is_sending}
use Rattle.cm_exchange.proofs.Rules.{is_its}
use Rattle.cm_exchange.proofs.Rules.{sends-still, gets-still, rules-sent, rules-got, moved-held}

-- a block stands in a round, or is through
pub record IsStand (count : ℕ) (stand : Stand) : Type 0 where
  pub stage : stand.stage ≤ 3
  pub within : 4 * stand.round + stand.stage ≤ 4 * count

pub record IsSound (exchange : Exchange) (world : World) : Type 0 where
  pub stand_count : length world.stands ≡ 2 ^ exchange.k
  pub lane_count : length world.lanes ≡ kind_count exchange.k * 2 ^ exchange.k
  pub stands : (b : ℕ) → b < 2 ^ exchange.k → IsStand (round_count exchange) (stand_of world b)
  pub rules : (kind b : ℕ) → kind < kind_count exchange.k → b < 2 ^ exchange.k
      → Rules exchange.kinds kind (stand_of world (giver exchange.k kind b)) (stand_of world b)
      (lane_of exchange.k world kind (giver exchange.k kind b)).word
  pub held : (kind b : ℕ) → kind < kind_count exchange.k → b < 2 ^ exchange.k
      → (lane_of exchange.k world kind b).parcel
      ≡ held_by (due_list exchange kind b) (lane_of exchange.k world kind b).word

-- ---- numbers of lanes

pub lane-within : (k kind b : ℕ) → kind < kind_count k → b < 2 ^ k → lane_number k kind b < kind_count k * 2 ^ k
lane-within k kind b l below =
    let m : (kind + 1) * 2 ^ k ≤ kind_count k * 2 ^ k =
    mul-le (kind + 1) (2 ^ k) (kind_count k) (2 ^ k) (omega (arith, l)) (omega arith) in
    let split : (kind + 1) * 2 ^ k ≡ kind * 2 ^ k + 2 ^ k = grind arith in
    omega (arith, m, split, below)

same_kind : (width a b i j : ℕ) → i < width → j < width → a * width + i ≡ b * width + j → a ≡ b
same_kind width a b i j l m e = by_order (cases_lt a b) (cases_lt b a) where
  by_order : (a < b) ⊎ (b ≤ a) → (b < a) ⊎ (a ≤ b) → a ≡ b
  by_order (inl less) other =
      let n : (a + 1) * width ≤ b * width = mul-le (a + 1) width b width (omega (arith, less)) (omega arith) in
      let split : (a + 1) * width ≡ a * width + width = grind arith in
      absurd (omega (arith, n, split, e, l))
  by_order (inr least) (inl more) =
      let n : (b + 1) * width ≤ a * width = mul-le (b + 1) width a width (omega (arith, more)) (omega arith) in
      let split : (b + 1) * width ≡ b * width + width = grind arith in
      absurd (omega (arith, n, split, e, m))
  by_order (inr least) (inr most) = omega (arith, least, most)

-- lanes of one number are one
pub one-lane : (k kind b other_kind other : ℕ) → b < 2 ^ k → other < 2 ^ k
    → lane_number k kind b ≡ lane_number k other_kind other → (kind ≡ other_kind) × (b ≡ other)
one-lane k kind b other_kind other l m e =
    let kinds : kind ≡ other_kind = same_kind (2 ^ k) kind other_kind b other l m e in (
      kinds,
      (let f : kind * 2 ^ k + b ≡ kind * 2 ^ k + other =
          e ∙ ap (λ (z : ℕ). z * 2 ^ k + other) (sym kinds) in omega (arith, f)),
    )

-- ---- what a step that can be taken needs

pub record Can (exchange : Exchange) (world : World) (stand : Stand) (step : Step) : Type 0 where
  pub below : block_of step < 2 ^ exchange.k
  pub within : stand.round < round_count exchange
  pub stage : stand.stage ≡ stage_of step
  pub may : is_moved step (uses_now exchange stand)
      (lane_of exchange.k world (kind_now exchange stand) (sender_of exchange stand step)).word ≡ true

ltb_tells : (a b : ℕ) → nat_lt a b ≡ true → a < b
ltb_tells a b h = grind (arith, nat_tests)

pub can : (exchange : Exchange) (world : World) (stand : Stand) (step : Step)
    → can_step exchange world stand step ≡ true → Can exchange world stand step
can exchange world stand step h =
    let p = and_parts _ _ h in
    let q = and_parts _ _ p.1 in
    let r = and_parts _ _ q.1 in
    record {
      below = ltb_tells (block_of step) (2 ^ exchange.k) p.0;
      within = ltb_tells stand.round (round_count exchange) q.0;
      stage = eqb-true stand.stage (stage_of step) r.0;
      may = r.1;
    }

-- ---- one step

-- the receiver of the lane that a step moves
receiver_of : Exchange → Stand → Step → ℕ
receiver_of exchange stand (Grip b) = receiver exchange.k (kind_now exchange stand) b
receiver_of exchange stand (File b) = receiver exchange.k (kind_now exchange stand) b
receiver_of exchange stand (Draw b) = b
receiver_of exchange stand (Clear b) = b

-- it gets from the sender, and the block of the step is one of the two
record AreEnds (exchange : Exchange) (stand : Stand) (step : Step) : Type 0 where
  to : receiver_of exchange stand step < 2 ^ exchange.k
  from : sender_of exchange stand step < 2 ^ exchange.k
  gives : giver exchange.k (kind_now exchange stand) (receiver_of exchange stand step) ≡ sender_of exchange stand step
  sends : is_sending step ≡ true → sender_of exchange stand step ≡ block_of step
  gets : is_sending step ≡ false → receiver_of exchange stand step ≡ block_of step

are_ends : (exchange : Exchange) (stand : Stand) (step : Step) → kind_now exchange stand < kind_count exchange.k
    → block_of step < 2 ^ exchange.k → AreEnds exchange stand step
unfolding receiver_of
are_ends exchange stand (Grip b) l below =
    let p : ArePartners exchange.k (kind_now exchange stand) =
    lanes_have_two_ends exchange.k (kind_now exchange stand) l in
    record {
      to = p.gets b below;
      from = below;
      gives = p.on b below;
      sends = λ e. refl;
      gets = λ e. absurd (let wrong : true ≡ false = e in cc);
    }
are_ends exchange stand (File b) l below =
    let p : ArePartners exchange.k (kind_now exchange stand) =
    lanes_have_two_ends exchange.k (kind_now exchange stand) l in
    record {
      to = p.gets b below;
      from = below;
      gives = p.on b below;
      sends = λ e. refl;
      gets = λ e. absurd (let wrong : true ≡ false = e in cc);
    }
are_ends exchange stand (Draw b) l below =
    let p : ArePartners exchange.k (kind_now exchange stand) =
    lanes_have_two_ends exchange.k (kind_now exchange stand) l in
    record {
      to = below;
      from = p.gives b below;
      gives = refl;
      sends = λ e. absurd (let wrong : false ≡ true = e in cc);
      gets = λ e. refl;
    }
are_ends exchange stand (Clear b) l below =
    let p : ArePartners exchange.k (kind_now exchange stand) =
    lanes_have_two_ends exchange.k (kind_now exchange stand) l in
    record {
      to = below;
      from = p.gives b below;
      gives = refl;
      sends = λ e. absurd (let wrong : false ≡ true = e in cc);
      gets = λ e. refl;
    }

gone_stands : (count : ℕ) (step : Step) (stand : Stand) → stand.round < count → IsStand count (stand_after step stand)
gone_stands count (Grip b) stand l = record { stage = omega arith; within = omega (arith, l) }
gone_stands count (File b) stand l = record { stage = omega arith; within = omega (arith, l) }
gone_stands count (Draw b) stand l = record { stage = omega arith; within = omega (arith, l) }
gone_stands count (Clear b) stand l = record { stage = omega arith; within = omega (arith, l) }

module _ (exchange : Exchange) (world : World) (stand : Stand) (step : Step) (is : HasItsKinds exchange)
    (sound : IsSound exchange world) (able : Can exchange world stand step)
    (here : stand_of world (block_of step) ≡ stand) where
  abbrev k : ℕ
  k = exchange.k

  abbrev b : ℕ
  b = block_of step

  abbrev kind : ℕ
  kind = kind_now exchange stand

  abbrev sender : ℕ
  sender = sender_of exchange stand step

  abbrev lane : Lane
  lane = lane_of k world kind sender

  abbrev dues : List Parcel
  dues = due_list exchange kind sender

  abbrev new : World
  new = world_with exchange world stand step

  kind_below : kind < kind_count k
  kind_below = is.kinds stand.round able.within

  ends : AreEnds exchange stand step
  ends = are_ends exchange stand step kind_below able.below

  stand_new : stand_of new b ≡ stand_after step stand
  stand_new = get_or-set_same world.stands b (stand_after step stand) at_first
      (subst (λ (z : ℕ). b < z) (sym sound.stand_count) able.below)

  stand_other : (c : ℕ) → c ≢ b → stand_of new c ≡ stand_of world c
  stand_other c h = get_or-set_other world.stands b c (stand_after step stand) at_first h

  lane_new : lane_of k new kind sender ≡ moved step dues (uses_now exchange stand) lane
  lane_new = get_or-set_same world.lanes (lane_number k kind sender)
      (moved step dues (uses_now exchange stand) lane) unused_lane
      (subst (λ (z : ℕ). lane_number k kind sender < z) (sym sound.lane_count)
      (lane-within k kind sender kind_below ends.from))

  lane_other : (other c : ℕ) → c < 2 ^ k → ((other ≡ kind) → (c ≡ sender) → ⊥)
      → lane_of k new other c ≡ lane_of k world other c
  lane_other other c l h =
      get_or-set_other world.lanes (lane_number k kind sender) (lane_number k other c)
      (moved step dues (uses_now exchange stand) lane) unused_lane
      (λ e. let same = one-lane k other c kind sender l ends.from e in h same.0 same.1)

  its_false : (other : ℕ) → other ≢ kind → is_its exchange.kinds other stand ≡ false
  its_false other h = ne_eqb kind other (λ e. h (sym e))

  its_true : is_its exchange.kinds kind stand ≡ true
  its_true = eq-eqb kind kind refl

  -- what a lane knows of a block, if the step is at the block's other end, or the lane of another kind
  sends_alike : (other c : ℕ) → ((c ≡ b) → (is_sending step ≡ false) ⊎ (is_its exchange.kinds other stand ≡ false))
      → SendsAlike exchange.kinds other (stand_of world c) (stand_of new c)
  sends_alike other c h = ⊎_elim
      (λ (e : c ≡ b).
      subst (λ (old : Stand). SendsAlike exchange.kinds other old (stand_of new c))
      (sym (ap (stand_of world) e ∙ here))
      (subst (λ (now : Stand). SendsAlike exchange.kinds other stand now)
      (sym (ap (stand_of new) e ∙ stand_new))
      (sends-still exchange.kinds other step stand able.within able.stage (h e))))
      (λ (n : c ≢ b). sends-same exchange.kinds other (stand_of world c) (stand_of new c) (stand_other c n))
      (cases_eq c b)

  gets_alike : (other c : ℕ) → ((c ≡ b) → (is_sending step ≡ true) ⊎ (is_its exchange.kinds other stand ≡ false))
      → GetsAlike exchange.kinds other (stand_of world c) (stand_of new c)
  gets_alike other c h = ⊎_elim
      (λ (e : c ≡ b).
      subst (λ (old : Stand). GetsAlike exchange.kinds other old (stand_of new c))
      (sym (ap (stand_of world) e ∙ here))
      (subst (λ (now : Stand). GetsAlike exchange.kinds other stand now)
      (sym (ap (stand_of new) e ∙ stand_new))
      (gets-still exchange.kinds other step stand able.within able.stage (h e))))
      (λ (n : c ≢ b). gets-same exchange.kinds other (stand_of world c) (stand_of new c) (stand_other c n))
      (cases_eq c b)

  -- the lane of another kind, or to another block
  rules_elsewhere : (other c : ℕ) → other < kind_count k → c < 2 ^ k
      → ((other ≡ kind) → (c ≡ receiver_of exchange stand step) → ⊥)
      → Rules exchange.kinds other (stand_of new (giver k other c)) (stand_of new c)
      (lane_of k new other (giver k other c)).word
  rules_elsewhere other c l below h =
      let p : ArePartners k other = lanes_have_two_ends k other l in
      -- of one kind and from one sender is to one receiver
      let apart : (other ≡ kind) → (giver k other c ≡ sender) → ⊥ =
      λ e f. h e (sym (p.back c below) ∙ ap (receiver k other) f ∙ ap (λ (z : ℕ). receiver k z sender) e
      ∙ ap (receiver k kind) (sym ends.gives)
      ∙ (lanes_have_two_ends k kind kind_below).back (receiver_of exchange stand step) ends.to) in
      rules-same exchange.kinds other (stand_of world (giver k other c)) (stand_of world c)
      (stand_of new (giver k other c)) (stand_of new c)
      (lane_of k world other (giver k other c)).word (lane_of k new other (giver k other c)).word
      (sends_alike other (giver k other c)
      (λ e. ⊎_elim
      (λ (s : is_sending step ≡ true). inr (its_false other (λ f. apart f (e ∙ sym (ends.sends s)))))
      (λ (s : is_sending step ≡ false). inl s)
      (cases_Bool (is_sending step))))
      (gets_alike other c
      (λ e. ⊎_elim
      (λ (s : is_sending step ≡ true). inl s)
      (λ (s : is_sending step ≡ false). inr (its_false other (λ f. h f (e ∙ sym (ends.gets s)))))
      (cases_Bool (is_sending step))))
      (ap (λ (z : Lane). z.word) (lane_other other (giver k other c) (p.gives c below) apart))
      (sound.rules other c l below)

  -- the lane that is moved
  rules_here : Rules exchange.kinds kind (stand_of new sender) (stand_of new (receiver_of exchange stand step))
      (lane_of k new kind sender).word
  rules_here =
      let to : ℕ = receiver_of exchange stand step in
      let old : Rules exchange.kinds kind (stand_of world sender) (stand_of world to) lane.word =
      subst (λ (z : ℕ). Rules exchange.kinds kind (stand_of world z) (stand_of world to) (lane_of k world kind z).word)
      ends.gives (sound.rules kind to kind_below ends.to) in
      subst (λ (z : Lane). Rules exchange.kinds kind (stand_of new sender) (stand_of new to) z.word) (sym lane_new)
      (⊎_elim
      (λ (s : is_sending step ≡ true).
      let own : sender ≡ b = ends.sends s in
      subst (λ (z : Stand). Rules exchange.kinds kind z (stand_of new to)
      (moved step dues (uses_now exchange stand) lane).word)
      (sym (ap (stand_of new) own ∙ stand_new))
      (rules-sent exchange.kinds kind step dues lane stand (stand_of world to) (stand_of new to) able.stage s its_true
      (gets_alike kind to (λ e. inl s)) able.may
      (subst (λ (z : Stand). Rules exchange.kinds kind z (stand_of world to) lane.word)
      (ap (stand_of world) own ∙ here) old)))
      (λ (s : is_sending step ≡ false).
      let own : to ≡ b = ends.gets s in
      subst (λ (z : Stand). Rules exchange.kinds kind (stand_of new sender) z
      (moved step dues (uses_now exchange stand) lane).word)
      (sym (ap (stand_of new) own ∙ stand_new))
      (rules-got exchange.kinds kind step dues lane stand (stand_of world sender) (stand_of new sender)
      able.within able.stage s its_true
      (sends_alike kind sender (λ e. inl s)) able.may
      (subst (λ (z : Stand). Rules exchange.kinds kind (stand_of world sender) z lane.word)
      (ap (stand_of world) own ∙ here) old)))
      (cases_Bool (is_sending step)))

  either_pair : (x y u v : ℕ) → ((x ≡ u) × (y ≡ v)) ⊎ ((x ≡ u) → (y ≡ v) → ⊥)
  either_pair x y u v = ⊎_elim
      (λ (e : x ≡ u). ⊎_elim (λ (f : y ≡ v). inl (e, f)) (λ (n : y ≢ v). inr (λ g h. n h)) (cases_eq y v))
      (λ (n : x ≢ u). inr (λ g h. n g)) (cases_eq x u)

  sound_with : IsSound exchange new
  sound_with = record {
    stand_count = length-set world.stands b (stand_after step stand) ∙ sound.stand_count;
    lane_count =
        length-set world.lanes (lane_number k kind sender) (moved step dues (uses_now exchange stand) lane)
        ∙ sound.lane_count;
    stands = λ c below. ⊎_elim
        (λ (e : c ≡ b). subst (IsStand (round_count exchange)) (sym (ap (stand_of new) e ∙ stand_new))
        (gone_stands (round_count exchange) step stand able.within))
        (λ (n : c ≢ b). subst (IsStand (round_count exchange)) (sym (stand_other c n)) (sound.stands c below))
        (cases_eq c b);
    rules = λ other c l below. ⊎_elim
        (λ (e : (other ≡ kind) × (c ≡ receiver_of exchange stand step)).
        let gives : giver k other c ≡ sender =
        ap (λ (z : ℕ). giver k z c) e.0 ∙ ap (giver k kind) e.1 ∙ ends.gives in
        subst (λ (z : ℕ). Rules exchange.kinds other (stand_of new z) (stand_of new c) (lane_of k new other z).word)
        (sym gives)
        (subst (λ (z : ℕ). Rules exchange.kinds z (stand_of new sender) (stand_of new c) (lane_of k new z sender).word)
        (sym e.0)
        (subst (λ (z : ℕ). Rules exchange.kinds kind (stand_of new sender) (stand_of new z)
        (lane_of k new kind sender).word) (sym e.1) rules_here)))
        (λ n. rules_elsewhere other c l below n)
        (either_pair other c kind (receiver_of exchange stand step));
    held = λ other c l below. ⊎_elim
        (λ (e : (other ≡ kind) × (c ≡ sender)).
        subst (λ (z : ℕ). (lane_of k new z c).parcel
        ≡ held_by (due_list exchange z c) (lane_of k new z c).word) (sym e.0)
        (subst (λ (z : ℕ). (lane_of k new kind z).parcel
        ≡ held_by (due_list exchange kind z) (lane_of k new kind z).word)
        (sym e.1)
        (subst (λ (z : Lane). z.parcel ≡ held_by dues z.word) (sym lane_new)
        (moved-held step dues (uses_now exchange stand) lane able.may (sound.held kind sender kind_below ends.from)))))
        (λ n. subst (λ (z : Lane). z.parcel ≡ held_by (due_list exchange other c) z.word)
        (sym (lane_other other c below n)) (sound.held other c l below))
        (either_pair other c kind sender);
  }

pub sound-after : (exchange : Exchange) (world : World) (step : Step) → HasItsKinds exchange → IsSound exchange world
    → is_possible exchange world step ≡ true → IsSound exchange (world_after exchange world step)
unfolding is_possible world_after
sound-after exchange world step is sound h =
    let stand : Stand = stand_of world (block_of step) in
    sound_with exchange world stand step is sound (can exchange world stand step h) refl

-- ---- from the first world on

pub first-sound : (exchange : Exchange) → IsSound exchange (first_world exchange)
unfolding first_world
first-sound exchange =
    let k : ℕ = exchange.k in
    let all : ℕ = kind_count k * 2 ^ k in
    let stand : (b : ℕ) → b < 2 ^ k → get_or (replicate (2 ^ k) at_first) b at_first ≡ at_first =
    λ b l. get_or-replicate (2 ^ k) b at_first at_first l in
    let lane : (kind b : ℕ) → kind < kind_count k → b < 2 ^ k
    → get_or (replicate all unused_lane) (lane_number k kind b) unused_lane ≡ unused_lane =
    λ kind b l m. get_or-replicate all (lane_number k kind b) unused_lane unused_lane (lane-within k kind b l m) in
    record {
      stand_count = length-replicate (2 ^ k) at_first;
      lane_count = length-replicate all unused_lane;
      stands = λ b l. subst (IsStand (round_count exchange)) (sym (stand b l))
          (record { stage = omega arith; within = omega arith });
      rules = λ kind b l m.
          let from : giver k kind b < 2 ^ k = (lanes_have_two_ends k kind l).gives b m in
          subst (λ (z : Stand). Rules exchange.kinds kind z (get_or (replicate (2 ^ k) at_first) b at_first)
          (get_or (replicate all unused_lane) (lane_number k kind (giver k kind b)) unused_lane).word)
          (sym (stand (giver k kind b) from))
          (subst (λ (z : Stand). Rules exchange.kinds kind at_first z
          (get_or (replicate all unused_lane) (lane_number k kind (giver k kind b)) unused_lane).word) (sym (stand b m))
          (subst (λ (z : Lane). Rules exchange.kinds kind at_first at_first z.word)
          (sym (lane kind (giver k kind b) l from))
          (record { word_is = omega arith; back = omega arith; ahead = omega arith })));
      held = λ kind b l m. subst (λ (z : Lane). z.parcel ≡ held_by (due_list exchange kind b) z.word)
          (sym (lane kind b l m)) refl;
    }

-- the next world is that after the step, where it can be taken
pub next-is : (exchange : Exchange) (world then : World) (step : Step) → next_world exchange world step ≡ Some then
    → (is_possible exchange world step ≡ true) × (then ≡ world_after exchange world step)
next-is exchange world then step h = by_test (is_possible exchange world step) h refl where
  some : Option World → World
  some None = then
  some (Some z) = z

  by_test : (t : Bool) → cond t (Some (world_after exchange world step)) None ≡ Some then
      → is_possible exchange world step ≡ t
      → (is_possible exchange world step ≡ true) × (then ≡ world_after exchange world step)
  by_test true e p = (p, sym (ap some e))
  by_test false e p = absurd (let wrong : None ≡ Some then = e in cc)

lead-sound : (exchange : Exchange) (steps : List Step) (old last : World) → HasItsKinds exchange → IsSound exchange old
    → Lead exchange steps old last → IsSound exchange last
lead-sound exchange [] old last is sound lead = subst (IsSound exchange) (sym lead) sound
lead-sound exchange (step ∷ steps) old last is sound lead =
    let e = next-is exchange old lead.0 step lead.1 in
    lead-sound exchange steps lead.0 last is
    (subst (IsSound exchange) (sym e.1) (sound-after exchange old step is sound e.0)) lead.2

pub reached-sound : (exchange : Exchange) (steps : List Step) (world : World) → HasItsKinds exchange
    → IsReached exchange steps world → IsSound exchange world
reached-sound exchange steps world is reached =
    lead-sound exchange steps (first_world exchange) world is (first-sound exchange) reached.lead

pub lanes_hold_what_is_due : (exchange : Exchange) (steps : List Step) (world : World) (kind b : ℕ)
    → HasItsKinds exchange → IsReached exchange steps world → kind < kind_count exchange.k → b < 2 ^ exchange.k →
    (lane_of exchange.k world kind b).parcel
    ≡ held_by (due_list exchange kind b) (lane_of exchange.k world kind b).word
lanes_hold_what_is_due exchange steps world kind b is reached l below =
    (reached-sound exchange steps world is reached).held kind b l below
