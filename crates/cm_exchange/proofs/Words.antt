-- What the word of a lane tells whoever may move it.
use Rattle.std.proofs.Common.{◌≡◌, ◌≢◌, ℕ, ◌+◌, ◌*◌, ◌%◌, ◌^◌, ◌<◌, ⊎_elim, sym, ap, ◌∙◌, refl, subst}
use Rattle.std.proofs.Common.{Bool, true, List, eqb, arith}
use Rattle.std.proofs.lemmas.Bool.{cases_eq, eq-eqb, ne_eqb, eqb-true}
use Rattle.cm_exchange.specs.declared.step.Step.{Step}
use Rattle.cm_exchange.specs.declared.step.Step.TheVariants.{Grip, File, Draw, Clear}
use Rattle.cm_exchange.specs.Lanes.{Exchange, round_count, kind_count, receiver}
use Rattle.cm_exchange.specs.Worlds.{World, stand_of, lane_of}
use Rattle.cm_exchange.specs.Steps.{block_of, stage_of, kind_now, uses_now, is_moved, is_ready, is_possible}
use Rattle.cm_exchange.specs.Steps.{IsReached}
use Rattle.cm_exchange.specs.Laws.{HasItsKinds, ArePartners, word_for, AreTold}
use Rattle.cm_exchange.proofs.Partners.{lanes_have_two_ends}
use Rattle.cm_exchange.proofs.Uses.{one_if}
use Rattle.cm_exchange.proofs.Rules.{Rules, if_filed, if_held, if_drawn, is_its}
use Rattle.cm_exchange.proofs.Soundness.{IsSound, can, reached-sound}

module _ (exchange : Exchange) (world : World) (is : HasItsKinds exchange) (sound : IsSound exchange world) where
  -- the rule of a block's own lane
  own_rule : (b : ℕ) → b < 2 ^ exchange.k → (stand_of world b).round < round_count exchange
      → Rules exchange.kinds (kind_now exchange (stand_of world b)) (stand_of world b)
      (stand_of world (receiver exchange.k (kind_now exchange (stand_of world b)) b))
      (lane_of exchange.k world (kind_now exchange (stand_of world b)) b).word
  own_rule b l within =
      let kind : ℕ = kind_now exchange (stand_of world b) in
      let below : kind < kind_count exchange.k = is.kinds (stand_of world b).round within in
      let p : ArePartners exchange.k kind = lanes_have_two_ends exchange.k kind below in
      let to : ℕ = receiver exchange.k kind b in
      subst (λ (z : ℕ). Rules exchange.kinds kind (stand_of world z) (stand_of world to)
      (lane_of exchange.k world kind z).word) (p.on b l) (sound.rules kind to below (p.gets b l))

  its_one : (b : ℕ) → one_if (is_its exchange.kinds (kind_now exchange (stand_of world b)) (stand_of world b)) ≡ 1
  its_one b = ap one_if (eq-eqb (kind_now exchange (stand_of world b)) (kind_now exchange (stand_of world b)) refl)

  same_test : (x y u v : ℕ) → ((x ≡ y) → (u ≡ v)) → ((u ≡ v) → (x ≡ y)) → eqb x y ≡ eqb u v
  same_test x y u v to from = ⊎_elim
      (λ (e : x ≡ y). eq-eqb x y e ∙ sym (eq-eqb u v (to e)))
      (λ (n : x ≢ y). ne_eqb x y n ∙ sym (ne_eqb u v (λ e. n (from e))))
      (cases_eq x y)

  -- whether it may be moved its last two bits tell
  pub ready-is : (step : Step) → block_of step < 2 ^ exchange.k
      → (stand_of world (block_of step)).round < round_count exchange
      → (stand_of world (block_of step)).stage ≡ stage_of step
      → is_moved step (uses_now exchange (stand_of world (block_of step))) (word_for exchange world step)
      ≡ is_ready step (word_for exchange world step)
  ready-is (Grip b) l within stage =
      let rule = own_rule b l within in
      let i : Bool = is_its exchange.kinds (kind_now exchange (stand_of world b)) (stand_of world b) in
      let f : if_filed (stand_of world b).stage i ≡ 0 = ap (λ (z : ℕ). if_filed z i) stage in
      let h : if_held (stand_of world b).stage i ≡ 0 = ap (λ (z : ℕ). if_held z i) stage in
      same_test (word_for exchange world (Grip b)) (4 * uses_now exchange (stand_of world b))
      (word_for exchange world (Grip b) % 4) 0
      (λ e. omega (arith, e))
      (λ e. omega (arith, e, f, h, rule.word_is, rule.back, rule.ahead))
  ready-is (File b) l within stage = refl
  ready-is (Draw b) l within stage =
      let kind : ℕ = kind_now exchange (stand_of world b) in
      let rule = sound.rules kind b (is.kinds (stand_of world b).round within) l in
      let i : Bool = is_its exchange.kinds kind (stand_of world b) in
      let d : if_drawn (stand_of world b).stage i ≡ 0 = ap (λ (z : ℕ). if_drawn z i) stage in
      same_test (word_for exchange world (Draw b)) (4 * uses_now exchange (stand_of world b) + 2)
      (word_for exchange world (Draw b) % 4) 2
      (λ e. omega (arith, e))
      (λ e. omega (arith, e, d, rule.word_is, rule.back, rule.ahead))
  ready-is (Clear b) l within stage = refl

  -- before a step can be taken its stage stands there
  pub word-is : (step : Step) → is_possible exchange world step ≡ true
      → word_for exchange world step ≡ 4 * uses_now exchange (stand_of world (block_of step)) + stage_of step
  unfolding is_possible
  word-is (Grip b) h =
      let c = can exchange world (stand_of world b) (Grip b) h in
      let e = eqb-true (word_for exchange world (Grip b)) (4 * uses_now exchange (stand_of world b)) c.may in
      omega (arith, e)
  word-is (File b) h =
      let c = can exchange world (stand_of world b) (File b) h in
      let rule = own_rule b c.below c.within in
      let i : Bool = is_its exchange.kinds (kind_now exchange (stand_of world b)) (stand_of world b) in
      let f : if_filed (stand_of world b).stage i ≡ 0 = ap (λ (z : ℕ). if_filed z i) c.stage in
      let g : if_held (stand_of world b).stage i ≡ one_if i = ap (λ (z : ℕ). if_held z i) c.stage in
      let one = its_one b in
      omega (arith, f, g, one, rule.word_is, rule.back, rule.ahead)
  word-is (Draw b) h =
      let c = can exchange world (stand_of world b) (Draw b) h in
      eqb-true (word_for exchange world (Draw b)) (4 * uses_now exchange (stand_of world b) + 2) c.may
  word-is (Clear b) h =
      let c = can exchange world (stand_of world b) (Clear b) h in
      let kind : ℕ = kind_now exchange (stand_of world b) in
      let rule = sound.rules kind b (is.kinds (stand_of world b).round c.within) c.below in
      let i : Bool = is_its exchange.kinds kind (stand_of world b) in
      let d : if_drawn (stand_of world b).stage i ≡ one_if i = ap (λ (z : ℕ). if_drawn z i) c.stage in
      let one = its_one b in
      omega (arith, d, one, rule.word_is, rule.back, rule.ahead)

pub words_tell_steps : (exchange : Exchange) (steps : List Step) (world : World) (step : Step) → HasItsKinds exchange
    → IsReached exchange steps world → AreTold exchange world step
words_tell_steps exchange steps world step is reached =
    let sound : IsSound exchange world = reached-sound exchange steps world is reached in
    record { ready = ready-is exchange world is sound step; stage = word-is exchange world is sound step }
