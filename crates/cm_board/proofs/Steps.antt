-- Each step of a lane keeps its rule.
use Rattle.std.proofs.Common.{◌≡◌, ◌≢◌, ℕ, zero, suc, ◌+◌, ◌*◌, eqb, Bool, true, false, List, [], ◌∷◌, ◌++◌, get_or}
use Rattle.std.proofs.Common.{set, sym, refl, ap, ◌∙◌, subst, inr, ⊎_elim, arith, Option, Some, eq-eqb, ne_eqb}
use mathlib.Core.Logic.{dite}
use mathlib.Core.Option.{some, some-injective, some-ne-none}
use native.Mathlib.Decide.{ℕ_discrete}
use lib.ListN.{get_elem?}
use prog.Atomic.{either}
use Rattle.atomic_table.specs.Table.{State, Act, keeps, takes, gives, stepped, rest, carried_after, Valid, Allows, Splits}
use Rattle.atomic_table.proofs.Lists.{set_again}
use Rattle.cm_board.specs.declared.table.View.{View}
use Rattle.cm_board.specs.declared.table.Side.{Side}
use Rattle.cm_board.specs.declared.table.Side.TheVariants.{Alone, Sends, Gets}
use Rattle.cm_board.specs.Rule.{Stage, empty, filling, full, emptying, word_at, filed_at, sender_holds, receiver_holds}
use Rattle.cm_board.specs.Rule.{due_at, alone, sender, receiver, starting, standing, Kept, Knows}
use Rattle.cm_board.specs.Rule.{gripped, drawn, finished}

abbrev St : Type 0 → Type 0
St T = State (Option T) (View T)

-- the number of a side's seat
abbrev number_of : Side → ℕ
number_of Alone = 0
number_of Sends = 0
number_of Gets = 1

sends : Sends ≢ Alone
sends e = cc

gets : Gets ≢ Alone
gets e = cc

module _ {T : Type 0} where
  -- the view of a side's seat
  abbrev view_of : Side → List T → T → ℕ → Stage → View T
  view_of Alone due b k stage = alone b
  view_of Sends due b k stage = sender due b (filed_at k stage) (sender_holds stage)
  view_of Gets due b k stage = receiver due b k (receiver_holds stage)

  -- a seat has a view
  abbrev Sees : ℕ → View T → St T → Type 0
  Sees id v s = get_elem? s.views id ≡ some v

  -- a compare-exchange that finds the old word has a view and an act that keep the rule, and tells what is told
  abbrev Hits : (ℕ → Knows T → Type 0) → ℕ → ℕ → ℕ → Knows T → St T → Type 0
  Hits then old new id m s =
      (w : View T) × (a : Act (Option T)) × Valid s.homes m.1 a × Kept (stepped s 0 new id m.1 w a)
      × then old (w, carried_after m.1 a)

  -- ---- which states there are, and which seat sees them

  -- what holds of each state of the rule
  each_state : (P : St T → Type 0) → ((b : T) → P (starting b))
      → ((due : List T) (b : T) (k : ℕ) (stage : Stage) → P (standing due b k stage))
      → (s : St T) → Kept s → P s
  each_state P first later s kept =
      ⊎_elim
      (λ (t : (b : T) × (s ≡ starting b)). subst P (sym t.1) (first t.0))
      (λ (t : (due : List T) × (b : T) × (k : ℕ) × (stage : Stage) × (s ≡ standing due b k stage)).
      subst P (sym t.4) (later t.0 t.1 t.2 t.3))
      kept

  kept_at : (due : List T) (b : T) (k : ℕ) (stage : Stage) → Kept (standing due b k stage)
  kept_at due b k stage = inr (due, b, k, stage, refl)

  -- once the seats are dealt, one that is of a side is that side's
  of_side : (side : Side) → side ≢ Alone → (G : ℕ → View T → Type 0) (due : List T) (b : T) (k : ℕ) (stage : Stage)
      → G (number_of side) (view_of side due b k stage)
      → (id : ℕ) (v : View T) → v.side ≡ side → Sees id v (standing due b k stage) → G id v
  of_side Alone apart G due b k stage g id v is sees = absurd (apart refl)
  of_side Sends apart G due b k stage g zero v is sees = subst (G 0) (some-injective _ v sees) g
  of_side Sends apart G due b k stage g (suc zero) v is sees =
      let e = ap (λ (z : View T). z.side) (some-injective _ v sees) in cc
  of_side Sends apart G due b k stage g (suc (suc n)) v is sees = absurd (some-ne-none v (sym sees))
  of_side Gets apart G due b k stage g zero v is sees =
      let e = ap (λ (z : View T). z.side) (some-injective _ v sees) in cc
  of_side Gets apart G due b k stage g (suc zero) v is sees = subst (G 1) (some-injective _ v sees) g
  of_side Gets apart G due b k stage g (suc (suc n)) v is sees = absurd (some-ne-none v (sym sees))

  -- before, there is none
  no_side : (X : Type 0) (side : Side) → side ≢ Alone → (b : T) (id : ℕ) (v : View T) → v.side ≡ side
      → Sees id v (starting b) → X
  no_side X side apart b zero v is sees =
      absurd (apart (sym is ∙ sym (ap (λ (z : View T). z.side) (some-injective _ v sees))))
  no_side X side apart b (suc n) v is sees = absurd (some-ne-none v (sym sees))

  -- ---- compare-exchanges

  one_word : (s : St T) → Kept s → s.words ≡ get_or s.words 0 0 ∷ []
  one_word = each_state (λ s. s.words ≡ get_or s.words 0 0 ∷ []) (λ b. refl) (λ due b k stage. refl)

  -- one that finds another word changes nothing
  stays : (s : St T) (id : ℕ) (v : View T) (c : List (ℕ × Option T)) → Kept s → Sees id v s
      → Kept (stepped s 0 (get_or s.words 0 0) id c v keeps)
  stays s id v c kept sees =
      let e = one_word s kept in
      let same : set s.words 0 (get_or s.words 0 0) ≡ s.words =
      ap (λ (z : List ℕ). set z 0 (get_or s.words 0 0)) e ∙ sym e in
      let P : St T → Type 0 = Kept in
      subst P (λ i. record { words = sym same i; homes = s.homes; views = sym (set_again s.views id v sees) i }) kept

  -- it is allowed where it is both where it finds the old word and where it finds another
  swaps : (then : ℕ → Knows T → Type 0) (slots id old new : ℕ) (m : Knows T)
      → ((s : St T) → Kept s → Sees id m.0 s → get_or s.words 0 0 ≡ old → Hits then old new id m s)
      → ((s : St T) → Kept s → Sees id m.0 s → get_or s.words 0 0 ≢ old → then (get_or s.words 0 0) m)
      → Allows Kept slots id m 0 (λ n. either (eqb n old) new n) then
  swaps then slots id old new m hit miss s kept _ sees _ =
      let n : ℕ = get_or s.words 0 0 in
      let Q : ℕ × ℕ → Type 0 =
      λ z. (w : View T) × (a : Act (Option T)) × Valid s.homes m.1 a × Kept (stepped s 0 z.1 id m.1 w a)
      × then z.0 (w, carried_after m.1 a) in
      dite (ℕ_discrete n old)
      (λ e. subst Q (λ i. (sym e i, sym (ap (λ (b : Bool). either b new n) (eq-eqb n old e)) i)) (hit s kept sees e))
      (λ ne. subst Q (λ i. (n, sym (ap (λ (b : Bool). either b new n) (ne_eqb n old ne)) i))
      (m.0, keeps, tt, stays s id m.0 m.1 kept sees, miss s kept sees ne))

  -- and so of a side's seat that has something in hand, if something is of its view, at each use and stage
  steps : (side : Side) → side ≢ Alone → (Is : View T → Type 0) (hand : View T → List (ℕ × Option T))
      (old new : View T → ℕ) (then : Knows T → ℕ → Knows T → Type 0)
      → ((due : List T) (b : T) (k : ℕ) (stage : Stage) → let v : View T = view_of side due b k stage in
      Is v → word_at k stage ≡ old v
      → Hits (then (v, hand v)) (old v) (new v) (number_of side) (v, hand v) (standing due b k stage))
      → ((due : List T) (b : T) (k : ℕ) (stage : Stage) → let v : View T = view_of side due b k stage in
      Is v → word_at k stage ≢ old v → then (v, hand v) (word_at k stage) (v, hand v))
      → (slots id : ℕ) (m : Knows T) (v : View T) → m ≡ (v, hand v) → v.side ≡ side → Is v
      → Allows Kept slots id m 0 (λ n. either (eqb n (old v)) (new v) n) (then m)
  steps side apart Is hand old new then hit miss slots id m v at on is =
      subst (λ (z : Knows T). Allows Kept slots id z 0 (λ n. either (eqb n (old v)) (new v) n) (then z)) (sym at)
      (swaps (then (v, hand v)) slots id (old v) (new v) (v, hand v)
      (each_state
      (λ (z : St T). Sees id v z → get_or z.words 0 0 ≡ old v
      → Hits (then (v, hand v)) (old v) (new v) id (v, hand v) z)
      (λ b sees. no_side _ side apart b id v on sees)
      (λ due b k stage sees. of_side side apart
      (λ i u. Is u → word_at k stage ≡ old u
      → Hits (then (u, hand u)) (old u) (new u) i (u, hand u) (standing due b k stage))
      due b k stage (hit due b k stage) id v on sees is))
      (each_state
      (λ (z : St T). Sees id v z → get_or z.words 0 0 ≢ old v → then (v, hand v) (get_or z.words 0 0) (v, hand v))
      (λ b sees. no_side _ side apart b id v on sees)
      (λ due b k stage sees. of_side side apart
      (λ i u. Is u → word_at k stage ≢ old u → then (u, hand u) (word_at k stage) (u, hand u))
      due b k stage (miss due b k stage) id v on sees is)))

  -- ---- grip and file

  abbrev Any : View T → Type 0
  Any _ = Unit {0}

  abbrev Holds : View T → Type 0
  Holds v = v.holds ≡ true

  grip_hit : (due : List T) (b : T) (k : ℕ) (stage : Stage) → let v : View T = view_of Sends due b k stage in
      Any v → word_at k stage ≡ 4 * v.uses
      → Hits (gripped (v, [])) (4 * v.uses) (4 * v.uses + 1) 0 (v, []) (standing due b k stage)
  grip_hit due b k empty _ e =
      (sender due b k true, takes 0 (Some b), refl, kept_at due b k filling, ((λ _. refl), λ ne. absurd (ne refl)))
  grip_hit due b k filling _ e = absurd (omega arith)
  grip_hit due b k full _ e = absurd (omega arith)
  grip_hit due b k emptying _ e = absurd (omega arith)

  pub grips : (slots id : ℕ) (m : Knows T) (due : List T) (b : T) (k : ℕ) → m ≡ (sender due b k false, [])
      → Allows Kept slots id m 0 (λ n. either (eqb n (4 * k)) (4 * k + 1) n) (gripped m)
  grips slots id m due b k at =
      steps Sends sends Any (λ _. []) (λ v. 4 * v.uses) (λ v. 4 * v.uses + 1) gripped
      grip_hit (λ due b k stage _ ne. ((λ e. absurd (ne e)), λ _. refl))
      slots id m (sender due b k false) at refl tt

  -- the due parcel in a seat's hand
  abbrev with_due : View T → List (ℕ × Option T)
  with_due v = (0, Some (due_at v.due v.blank v.uses)) ∷ []

  file_hit : (due : List T) (b : T) (k : ℕ) (stage : Stage) → let v : View T = view_of Sends due b k stage in
      Holds v → word_at k stage ≡ 4 * v.uses + 1
      → Hits (finished (v, with_due v)) (4 * v.uses + 1) (4 * v.uses + 2) 0 (v, with_due v) (standing due b k stage)
  file_hit due b k filling h e = (sender due b (k + 1) false, gives, tt, kept_at due b k full, refl)
  file_hit due b k empty h e = cc
  file_hit due b k full h e = cc
  file_hit due b k emptying h e = cc

  file_miss : (due : List T) (b : T) (k : ℕ) (stage : Stage) → let v : View T = view_of Sends due b k stage in
      Holds v → word_at k stage ≢ 4 * v.uses + 1
      → finished (v, with_due v) (word_at k stage) (v, with_due v)
  file_miss due b k filling h ne = absurd (ne refl)
  file_miss due b k empty h ne = cc
  file_miss due b k full h ne = cc
  file_miss due b k emptying h ne = cc

  pub files : (slots id : ℕ) (m : Knows T) (due : List T) (b : T) (k : ℕ)
      → m ≡ (sender due b k true, (0, Some (due_at due b k)) ∷ [])
      → Allows Kept slots id m 0 (λ n. either (eqb n (4 * k + 1)) (4 * k + 2) n) (finished m)
  files slots id m due b k at =
      steps Sends sends Holds with_due (λ v. 4 * v.uses + 1) (λ v. 4 * v.uses + 2) finished
      file_hit file_miss slots id m (sender due b k true) at refl refl

  -- ---- draw and clear

  draw_hit : (due : List T) (b : T) (k : ℕ) (stage : Stage) → let v : View T = view_of Gets due b k stage in
      Any v → word_at k stage ≡ 4 * v.uses + 2
      → Hits (drawn (v, [])) (4 * v.uses + 2) (4 * v.uses + 3) 1 (v, []) (standing due b k stage)
  draw_hit due b k full _ e = (
    receiver due b k true,
    takes 0 (Some (due_at due b k)),
    refl,
    kept_at due b k emptying,
    ((λ _. refl), λ ne. absurd (ne refl)),
  )
  draw_hit due b k empty _ e = absurd (omega arith)
  draw_hit due b k filling _ e = absurd (omega arith)
  draw_hit due b k emptying _ e = absurd (omega arith)

  pub draws : (slots id : ℕ) (m : Knows T) (due : List T) (b : T) (k : ℕ) → m ≡ (receiver due b k false, [])
      → Allows Kept slots id m 0 (λ n. either (eqb n (4 * k + 2)) (4 * k + 3) n) (drawn m)
  draws slots id m due b k at =
      steps Gets gets Any (λ _. []) (λ v. 4 * v.uses + 2) (λ v. 4 * v.uses + 3) drawn
      draw_hit (λ due b k stage _ ne. ((λ e. absurd (ne e)), λ _. refl))
      slots id m (receiver due b k false) at refl tt

  -- the blank parcel in a seat's hand
  abbrev with_blank : View T → List (ℕ × Option T)
  with_blank v = (0, Some v.blank) ∷ []

  clear_hit : (due : List T) (b : T) (k : ℕ) (stage : Stage) → let v : View T = view_of Gets due b k stage in
      Holds v → word_at k stage ≡ 4 * v.uses + 3
      → Hits (finished (v, with_blank v)) (4 * v.uses + 3) (4 * v.uses + 4) 1 (v, with_blank v) (standing due b k stage)
  clear_hit due b k emptying h e =
      let next : 4 * (k + 1) ≡ 4 * k + 4 = omega arith in
      let P : ℕ → Type 0 =
      λ n. Kept (record {
        words = n ∷ [];
        homes = some (Some b) ∷ [];
        views = sender due b (k + 1) false ∷ receiver due b (k + 1) false ∷ [];
      }) in
      (receiver due b (k + 1) false, gives, tt, subst P next (kept_at due b (k + 1) empty), refl)
  clear_hit due b k empty h e = cc
  clear_hit due b k filling h e = cc
  clear_hit due b k full h e = cc

  clear_miss : (due : List T) (b : T) (k : ℕ) (stage : Stage) → let v : View T = view_of Gets due b k stage in
      Holds v → word_at k stage ≢ 4 * v.uses + 3
      → finished (v, with_blank v) (word_at k stage) (v, with_blank v)
  clear_miss due b k emptying h ne = absurd (ne refl)
  clear_miss due b k empty h ne = cc
  clear_miss due b k filling h ne = cc
  clear_miss due b k full h ne = cc

  pub clears : (slots id : ℕ) (m : Knows T) (due : List T) (b : T) (k : ℕ)
      → m ≡ (receiver due b k true, (0, Some b) ∷ [])
      → Allows Kept slots id m 0 (λ n. either (eqb n (4 * k + 3)) (4 * k + 4) n) (finished m)
  clears slots id m due b k at =
      steps Gets gets Holds with_blank (λ v. 4 * v.uses + 3) (λ v. 4 * v.uses + 4) finished
      clear_hit clear_miss slots id m (receiver due b k true) at refl refl

  -- ---- the seats are dealt

  -- once they are, none stands alone
  not_later : (X : Type 0) (due : List T) (b : T) (k : ℕ) (stage : Stage) (id : ℕ) (v : View T)
      → v.side ≡ Alone → Sees id v (standing due b k stage) → X
  not_later X due b k stage zero v is sees = let e = ap (λ (z : View T). z.side) (some-injective _ v sees) in cc
  not_later X due b k stage (suc zero) v is sees = let e = ap (λ (z : View T). z.side) (some-injective _ v sees) in cc
  not_later X due b k stage (suc (suc n)) v is sees = absurd (some-ne-none v (sym sees))

  -- one view becomes two
  abbrev cut : List T → ℕ → View T → St T → St T
  cut due id v z = record {
    words = z.words;
    homes = z.homes;
    views = set z.views id (sender due v.blank 0 false) ++ receiver due v.blank 0 false ∷ [];
  }

  deal_first : (due : List T) (b : T) (id : ℕ) (v : View T) → Sees id v (starting b) → Kept (cut due id v (starting b))
  deal_first due b zero v sees =
      subst (λ (u : View T). Kept (cut due 0 u (starting b))) (some-injective _ v sees) (kept_at due b 0 empty)
  deal_first due b (suc n) v sees = absurd (some-ne-none v (sym sees))

  pub deals : (due : List T) (id : ℕ) (v : View T) → v.side ≡ Alone
      → Splits Kept id v (sender due v.blank 0 false) (receiver due v.blank 0 false)
  deals due id v is =
      each_state (λ (z : St T). Sees id v z → Kept (cut due id v z))
      (λ b. deal_first due b id v)
      (λ d b k stage. not_later _ d b k stage id v is)

  -- ---- what an end that won has

  pub grip_won : (m new : Knows T) (found : ℕ) (due : List T) (b : T) (k : ℕ) → m ≡ (sender due b k false, [])
      → gripped m found new → found ≡ 4 * k → new ≡ (sender due b k true, (0, Some b) ∷ [])
  grip_won m new found due b k at told is = (subst (λ (z : Knows T). gripped z found new) at told).0 is

  pub draw_won : (m new : Knows T) (found : ℕ) (due : List T) (b : T) (k : ℕ) → m ≡ (receiver due b k false, [])
      → drawn m found new → found ≡ 4 * k + 2 → new ≡ (receiver due b k true, (0, Some (due_at due b k)) ∷ [])
  draw_won m new found due b k at told is = (subst (λ (z : Knows T). drawn z found new) at told).0 is

  -- the parcel in its hand
  pub in_hand : (m : Knows T) (v : View T) (x : T) → m ≡ (v, (0, Some x) ∷ [])
      → (old : Option T) × (m.1 ≡ (0, old) ∷ rest m.1)
  in_hand m v x at = (Some x, subst (λ (z : Knows T). z.1 ≡ (0, Some x) ∷ rest z.1) (sym at) refl)
