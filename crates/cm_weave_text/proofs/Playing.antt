-- A world that takes its next step, one after another.
use Rattle.std.proofs.Common.{◌≡◌, ◌↔◌, ℕ, zero, suc, ◌+◌, ◌-◌, ◌*◌, ◌^◌, ◌<◌, ◌≤◌, ◌⊎◌, inl, inr, Bool, true, cond}
use Rattle.std.proofs.Common.{List, [], ◌∷◌, ◌++◌}
use Rattle.std.proofs.Common.{length, flat_map, codes, decimal, Option, Some, None, IsNone, refl, ap, ◌∙◌, sym, subst, arith}
use Rattle.std.proofs.Common.{append_assoc, append-nil, length-append}
use Rattle.std.proofs.lemmas.Bool.{cases_lt}
use Rattle.std.proofs.lemmas.Grind.{flat_map-append}
use Rattle.std.proofs.Math.Nat.{mul-le-mul, mul-le-mul_left, pow-le-pow_right}
use Rattle.std.proofs.KnownBytes.{Appends-trans, Appends-nil}
use Rattle.std.specs.Io.KnownBytes.{Appends}
use Rattle.cm_session.specs.Answer.{line}
use Rattle.cm_exchange.specs.declared.step.Step.{Step}
use Rattle.cm_exchange.specs.Lanes.{Exchange, round_count}
use Rattle.cm_exchange.specs.Laws.{HasItsKinds}
use Rattle.cm_exchange.specs.Worlds.{World, IsFinished, first_world}
use Rattle.cm_exchange.specs.Steps.{is_possible, next_step, next_world, world_after, Lead, IsReached}
use Rattle.cm_exchange.proofs.Counting.{steps_are_counted, orders_come_to_an_end}
use Rattle.cm_weave_text.specs.declared.fault.WeaveFault.{WeaveFault}
use Rattle.cm_weave_text.specs.declared.fault.WeaveFault.TheVariants.{Memory}
use Rattle.cm_weave_text.specs.Alone.{step_line, with_rest, by_itself, step_count, own_steps, own_text}
use Rattle.cm_weave_text.specs.Ends.{finished_line, IsWrittenInPart}
use Rattle.cm_weave.specs.Woven.{Woven, IsOnItsWay}
use Rattle.cm_weave.proofs.Following.{exchange_is}
use Rattle.cm_weave_text.specs.Hearing.{exchange_in, TextAborts, HasSentFront, HasPlayed}
use Rattle.cm_weave_text.proofs.Going.{cut_text}

-- ---- steps

-- one more of them
lead_more : (exchange : Exchange) (steps : List Step) (old now after : World) (step : Step)
    → Lead exchange steps old now → next_world exchange now step ≡ Some after
    → Lead exchange (steps ++ step ∷ []) old after
lead_more exchange [] old now after step lead next =
    (after, subst (λ (z : World). next_world exchange z step ≡ Some after) lead next, refl)
lead_more exchange (one ∷ steps) old now after step lead next =
    (lead.0, lead.1, lead_more exchange steps lead.0 now after step lead.2 next)

reached_more : (exchange : Exchange) (steps : List Step) (world : World) (step : Step) → IsReached exchange steps world
    → is_possible exchange world step ≡ true → IsReached exchange (steps ++ step ∷ []) (world_after exchange world step)
reached_more exchange steps world step reached possible = record {
  lead = lead_more exchange steps (first_world exchange) world (world_after exchange world step) step reached.lead
      (ap (λ (b : Bool). cond b (Some (world_after exchange world step)) None) possible);
}

-- where the world is not finished not all are taken
some_left : (exchange : Exchange) (steps : List Step) (world : World) → HasItsKinds exchange
    → IsReached exchange steps world → (IsFinished exchange world → ⊥) → length steps < step_count exchange
some_left exchange steps world is reached unfinished = by (cases_lt (length steps) (step_count exchange)) where
  by : (length steps < step_count exchange) ⊎ (step_count exchange ≤ length steps) → length steps < step_count exchange
  by (inl less) = less
  by (inr all) =
      let most = orders_come_to_an_end exchange steps world is reached in
      absurd (unfinished ((steps_are_counted exchange steps world is reached).1 (omega (arith, all, most))))

by_itself-suc : (exchange : Exchange) (left : ℕ) (world : World) (step : Step) → next_step exchange world ≡ Some step
    → by_itself exchange (suc left) world ≡ step ∷ by_itself exchange left (world_after exchange world step)
unfolding by_itself
by_itself-suc exchange left world step is = ap (with_rest (by_itself exchange left) exchange world) is

by_itself-next : (exchange : Exchange) (left : ℕ) (world : World) (step : Step) → 0 < left
    → next_step exchange world ≡ Some step
    → by_itself exchange left world ≡ step ∷ by_itself exchange (left - 1) (world_after exchange world step)
by_itself-next exchange left world step some is =
    ap (λ (k : ℕ). by_itself exchange k world) (one_more left some)
    ∙ by_itself-suc exchange (left - 1) world step is where
      one_more : (k : ℕ) → 0 < k → k ≡ suc (k - 1)
      one_more k h = omega (arith, h)

by_itself-none : (exchange : Exchange) (left : ℕ) (world : World) → next_step exchange world ≡ None
    → by_itself exchange left world ≡ []
unfolding by_itself
by_itself-none exchange zero world is = refl
by_itself-none exchange (suc left) world is = ap (with_rest (by_itself exchange left) exchange world) is

-- ---- on the way

-- so many steps were taken, and what is told of them has gone out but for the rest
pub record IsPlaying (exchange : Exchange) (start world : World) (out_before out_after : Option (List ℕ)) (rest : List ℕ)
    (steps sent : ℕ) : Type 0 where
  pub done : List Step
  pub left : ℕ
  pub gone : List ℕ
  pub before : List Step
  pub reached : IsReached exchange before world
  pub behind : length done ≤ length before
  pub all : done ++ by_itself exchange left world ≡ own_steps exchange start
  pub left_is : left + length done ≡ step_count exchange
  pub steps_are : steps ≡ length done
  pub written : Appends out_before out_after gone
  pub sent_is : sent ≡ length gone
  pub text_is : gone ++ rest ≡ flat_map step_line done
  pub few : sent ≤ steps * 2 ^ 64
  pub most : step_count exchange ≤ 2 ^ 40

-- at first
pub plays_first : (exchange : Exchange) (start : World) (out_before : Option (List ℕ)) (rest : List ℕ) (before : List Step)
    → IsReached exchange before start → rest ≡ [] → step_count exchange ≤ 2 ^ 40
    → IsPlaying exchange start start out_before out_before rest 0 0
plays_first exchange start out_before rest before reached none most = record {
  done = [];
  left = step_count exchange;
  gone = [];
  before = before;
  reached = reached;
  behind = omega arith;
  all = refl;
  left_is = omega arith;
  steps_are = refl;
  written = Appends-nil out_before;
  sent_is = refl;
  text_is = none;
  few = omega arith;
  most = most;
}

-- there are not many
pub few_in_all : (exchange : Exchange) → exchange.k ≤ 12 → round_count exchange ≤ 2 ^ 20
    → step_count exchange ≤ 2 ^ 40
few_in_all exchange small few =
    let steps : 4 * round_count exchange ≤ 4 * 2 ^ 20 = mul-le-mul_left 4 few in
    let blocks : 2 ^ exchange.k ≤ 2 ^ 12 = pow-le-pow_right (omega arith) small in
    let all : step_count exchange ≤ 4 * 2 ^ 20 * 2 ^ 12 = mul-le-mul steps blocks in
    omega (arith, all)

flat_map-more : (done : List Step) (step : Step) → flat_map step_line (done ++ step ∷ []) ≡ flat_map step_line done ++ step_line step
flat_map-more done step = flat_map-append step_line done (step ∷ [])
    ∙ ap (λ (xs : List ℕ). flat_map step_line done ++ xs) (append-nil (step_line step))

-- what is told at the end
abbrev pub end_text : ℕ → List ℕ
end_text steps = line (codes "steps" ∷ decimal steps ∷ []) ++ finished_line

own_text-is : (exchange : Exchange) (start : World) → own_text exchange start
    ≡ flat_map step_line (own_steps exchange start) ++ end_text (length (own_steps exchange start))
unfolding own_text
own_text-is exchange start = refl

module _ (exchange : Exchange) (is : HasItsKinds exchange) (start world : World) (out_before out_after : Option (List ℕ))
    (rest : List ℕ) (steps sent : ℕ) (mid : IsPlaying exchange start world out_before out_after rest steps sent) where
  pub steps_few : steps ≤ 2 ^ 40
  steps_few = let m = mid.most in omega (arith, m, mid.left_is, mid.steps_are)

  module _ (step : Step) (unfinished : IsFinished exchange world → ⊥) (next : next_step exchange world ≡ Some step) where
    some : 0 < mid.left
    some =
        let less = some_left exchange mid.before world is mid.reached unfinished in
        let behind = mid.behind in omega (arith, less, behind, mid.left_is)

    own : mid.done ++ step ∷ by_itself exchange (mid.left - 1) (world_after exchange world step)
        ≡ own_steps exchange start
    own = ap (λ (xs : List Step). mid.done ++ xs) (sym (by_itself-next exchange mid.left world step some next)) ∙ mid.all

    -- so many, and not all
    pub few_steps : steps < step_count exchange
    few_steps = omega (arith, some, mid.left_is, mid.steps_are)

    -- a step more
    pub plays_on : (new : World) (on : Option (List ℕ)) (kept : List ℕ) (now : ℕ) → is_possible exchange world step ≡ true
        → new ≡ world_after exchange world step → now < sent + 2 ^ 64
        → HasSentFront (rest ++ step_line step) sent out_after on kept now
        → IsPlaying exchange start new out_before on kept (steps + 1) now
    plays_on new on kept now possible goes few has = record {
      done = mid.done ++ step ∷ [];
      left = mid.left - 1;
      gone = mid.gone ++ has.gone;
      before = mid.before ++ step ∷ [];
      reached = subst (IsReached exchange (mid.before ++ step ∷ [])) (sym goes)
          (reached_more exchange mid.before world step mid.reached possible);
      behind = let behind = mid.behind in
          omega (arith, behind, length-append mid.done (step ∷ []), length-append mid.before (step ∷ []));
      all = append_assoc mid.done (step ∷ []) (by_itself exchange (mid.left - 1) new)
          ∙ ap (λ (w : World). mid.done ++ step ∷ by_itself exchange (mid.left - 1) w) goes ∙ own;
      left_is = omega (arith, some, mid.left_is, length-append mid.done (step ∷ []));
      steps_are = omega (arith, mid.steps_are, length-append mid.done (step ∷ []));
      written = Appends-trans out_before out_after on mid.gone has.gone mid.written has.written;
      sent_is = omega (arith, has.count_is, mid.sent_is, length-append mid.gone has.gone);
      text_is = append_assoc mid.gone has.gone kept ∙ ap (λ (xs : List ℕ). mid.gone ++ xs) (sym has.text_is)
          ∙ sym (append_assoc mid.gone rest (step_line step)) ∙ ap (λ (xs : List ℕ). xs ++ step_line step) mid.text_is
          ∙ sym (flat_map-more mid.done step);
      few = let f = mid.few in omega (arith, f, few);
      most = mid.most;
    }

    -- it breaks off
    pub plays_cut : (on : Option (List ℕ)) (fault : WeaveFault) → TextAborts (rest ++ step_line step) sent out_after on fault
        → IsWrittenInPart (own_text exchange start) out_before on fault
    plays_cut on fault breaks =
        let others : List Step = by_itself exchange (mid.left - 1) (world_after exchange world step) in
        let tail : List ℕ = end_text (length (own_steps exchange start)) in
        let more : List ℕ = flat_map step_line others ++ tail in
        let lines : flat_map step_line (own_steps exchange start)
        ≡ flat_map step_line mid.done ++ (step_line step ++ flat_map step_line others) =
        ap (flat_map step_line) (sym own) ∙ flat_map-append step_line mid.done (step ∷ others) in
        let whole : own_text exchange start ≡ mid.gone ++ ((rest ++ step_line step) ++ more) =
        own_text-is exchange start ∙ ap (λ (xs : List ℕ). xs ++ tail) (lines
        ∙ ap (λ (xs : List ℕ). xs ++ (step_line step ++ flat_map step_line others)) (sym mid.text_is))
        ∙ parts mid.gone rest (step_line step) (flat_map step_line others) tail in
        cut_text (own_text exchange start) mid.gone (rest ++ step_line step) more out_before out_after on sent fault mid.written
        mid.sent_is whole breaks where
          parts : (a b c d e : List ℕ) → ((a ++ b) ++ (c ++ d)) ++ e ≡ a ++ ((b ++ c) ++ (d ++ e))
          parts a b c d e = simp append_assoc

  -- there is no step
  pub has_played : IsFinished exchange world → next_step exchange world ≡ None
      → HasPlayed exchange start world out_before out_after rest steps sent
  has_played finished next =
      let own : mid.done ≡ own_steps exchange start =
      sym (append-nil mid.done) ∙ ap (λ (xs : List Step). mid.done ++ xs) (sym (by_itself-none exchange mid.left world next))
      ∙ mid.all in
      record {
        finished = finished;
        gone = mid.gone;
        written = mid.written;
        text_is = mid.text_is ∙ ap (flat_map step_line) own;
        sent_is = mid.sent_is;
        steps_are = mid.steps_are ∙ ap length own;
      }

  -- whatever is said of it
  pub has_played_out : (next : Option Step) → next ≡ next_step exchange world → IsNone next ↔ IsFinished exchange world
      → ((step : Step) → next ≡ Some step → ⊥) → HasPlayed exchange start world out_before out_after rest steps sent
  has_played_out None is finished other = has_played (finished.0 refl) (sym is)
  has_played_out (Some step) is finished other = absurd (other step refl)

-- ---- of a run

pub run_is : (n cap : ℕ) (woven : Woven) → IsOnItsWay n cap woven → HasItsKinds (exchange_in n cap woven)
run_is n cap woven way =
    exchange_is n cap woven.k woven.machine woven.acts (let w = way.within in omega (arith, w))

pub few_in_run : (n cap : ℕ) (woven : Woven) → IsOnItsWay n cap woven → step_count (exchange_in n cap woven) ≤ 2 ^ 40
few_in_run n cap woven way =
    few_in_all (exchange_in n cap woven) (let w = way.within in let f = way.few in omega (arith, w, f)) way.few_rounds

-- ---- at the end

module _ (exchange : Exchange) (start world : World) (out_before out_after : Option (List ℕ)) (rest : List ℕ) (steps sent : ℕ)
    (has : HasPlayed exchange start world out_before out_after rest steps sent) where
  whole : own_text exchange start ≡ has.gone ++ (rest ++ end_text steps)
  whole = own_text-is exchange start
      ∙ (λ i. sym has.text_is i ++ end_text (sym has.steps_are i)) ∙ append_assoc has.gone rest (end_text steps)

  -- all is told
  pub plays_told : (text : List ℕ) (on : Option (List ℕ)) (now : ℕ) → text ≡ rest ++ end_text steps
      → HasSentFront text sent out_after on [] now → Appends out_before on (own_text exchange start)
  plays_told text on now is goes =
      let last : goes.gone ≡ rest ++ end_text steps = sym (append-nil goes.gone) ∙ sym goes.text_is ∙ is in
      subst (Appends out_before on) (ap (λ (xs : List ℕ). has.gone ++ xs) last ∙ sym whole)
      (Appends-trans out_before out_after on has.gone goes.gone has.written goes.written)

  -- it is cut
  pub plays_cut_at_end : (text : List ℕ) (on : Option (List ℕ)) (fault : WeaveFault) → text ≡ rest ++ end_text steps
      → TextAborts text sent out_after on fault → IsWrittenInPart (own_text exchange start) out_before on fault
  plays_cut_at_end text on fault is breaks =
      cut_text (own_text exchange start) has.gone text [] out_before out_after on sent fault has.written has.sent_is
      (whole ∙ ap (λ (xs : List ℕ). has.gone ++ xs) (sym is ∙ sym (append-nil text))) breaks

  -- there is no memory for the end
  pub plays_without_end : IsWrittenInPart (own_text exchange start) out_before out_after Memory
  plays_without_end = plays_cut_at_end (rest ++ end_text steps) out_after Memory refl (Appends-nil out_after)
