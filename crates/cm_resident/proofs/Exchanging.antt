-- The lanes of a run are those of its exchange.
use Rattle.std.proofs.Common.{◌≡◌, ℕ, zero, suc, ◌+◌, ◌-◌, ◌^◌, Bool, true, false, cond, List, [], ◌∷◌, Some, None, length, map}
use Rattle.std.proofs.Common.{eqb, refl, sym, ap, subst, ◌∙◌, arith}
use Rattle.std.proofs.lemmas.List.{length-map}
use Rattle.std.specs.Prelude.{bit_xor, slice_get, slice_index_or, if◌then◌else◌}
use Rattle.std.specs.List.{filter, range_with_len}
use Rattle.cm_bits.specs.declared.plane.Dir.{Dir}
use Rattle.cm_bits.specs.declared.plane.Dir.TheVariants as dir
use Rattle.cm_model.specs.Steps.{Step, Instruct, Look, Inject, Cross, Deliver, Phase}
use Rattle.cm_blocks.specs.Parcels.{due}
use Rattle.cm_blocks.specs.Parts.{block}
use Rattle.cm_blocks.specs.Rounds.{rounds}
use Rattle.cm_subcube.specs.declared.round.Round.{Round}
use Rattle.cm_subcube.specs.Rounds.{kind_over, kind_of, round_of}
use Rattle.cm_subcube.proofs.Following.{round_is_followed}
use Rattle.cm_exchange.specs.Lanes as exchange
use Rattle.cm_turns.specs.Lanes.{Run, before, rounds_in, place_of_kind, picks, is_over, parcel_sent, dues, givers}
use Rattle.cm_resident.specs.Laws.{LanesAreOfTheExchange}
use Rattle.cm_turns.proofs.Going.{found}

-- ---- what is picked is what passes a test of its number

module _ {P : Type 0} (f : ℕ → P) (first : ℕ) (here : P) (picked : List P) (numbers : List ℕ) (is : here ≡ f first)
    (are : picked ≡ map f numbers) where
  chosen : (b t : Bool) → t ≡ b
      → (if b then here ∷ picked else picked) ≡ map f (cond t (first ∷ numbers) numbers)
  chosen true true same = ap (λ (z : P). z ∷ picked) is ∙ ap (λ (zs : List P). f first ∷ zs) are
  chosen false false same = are
  chosen true false same = absurd (let wrong : false ≡ true = same in cc)
  chosen false true same = absurd (let wrong : true ≡ false = same in cc)

-- a thing passes where its number does, and what is made of it is made of its number
record IsAlike {X P : Type 0} (is : X → Bool) (give : ℕ → X → P) (test : ℕ → Bool) (f : ℕ → P) (at : ℕ) (x : X)
    : Type 0 where
  pub passes : test at ≡ is x
  pub gives : f at ≡ give at x

module _ {X P : Type 0} (is : X → Bool) (give : ℕ → X → P) (test : ℕ → Bool) (f : ℕ → P) where
  moved : (at to : ℕ) (x : X) → at ≡ to → IsAlike is give test f at x → IsAlike is give test f to x
  moved at to x same alike = subst (λ (i : ℕ). IsAlike is give test f i x) same alike

  picks_filter : (first : ℕ) (xs : List X)
      → ((i : ℕ) (x : X) → slice_get xs i ≡ Some x → IsAlike is give test f (first + i) x)
      → picks is give first xs ≡ map f (filter test (range_with_len first (length xs)))
  picks_filter first [] alike = refl
  picks_filter first (x ∷ xs) alike =
      let one = moved (first + 0) first x (omega arith) (alike 0 x refl) in
      chosen f first (give first x) (picks is give (first + 1) xs)
      (filter test (range_with_len (first + 1) (length xs))) (sym one.gives)
      (picks_filter (first + 1) xs
      (λ i y at. moved (first + suc i) (first + 1 + i) y (omega arith) (alike (suc i) y at)))
      (is x) (test first) one.passes

-- ---- kinds of rounds

read_at : (g : Phase → ℕ) (phases : List Phase) (i : ℕ) (phase : Phase) → slice_get phases i ≡ Some phase
    → slice_index_or (map g phases) i 0 ≡ g phase
read_at g [] i phase at = absurd (let wrong : None ≡ Some phase = at in cc)
read_at g (p ∷ phases) zero phase at = ap g (let e : Some p ≡ Some phase = at in cc)
read_at g (p ∷ phases) (suc i) phase at = read_at g phases i phase at

place_over : (n k : ℕ) (to : Dir) → exchange.kind_number_over to ≡ place_of_kind n k (kind_over to)
place_over n k dir.North = refl
place_over n k dir.East = refl
place_over n k dir.West = refl
place_over n k dir.South = refl

place_is : (n k : ℕ) (step : Step) → exchange.kind_number_of n k step ≡ place_of_kind n k (kind_of step)
place_is n k (Instruct nano) = place_over n k nano.dir
place_is n k Look = refl
place_is n k Inject = refl
place_is n k (Cross d) = omega arith
place_is n k Deliver = refl

-- ---- the lists and the givers

module _ (run : Run) (b j : ℕ) where
  abbrev phases_it : List Phase
  phases_it = rounds run.n run.k run.acts

  abbrev exchange_it : exchange.Exchange
  exchange_it = exchange.exchange_of run.n run.room run.k run.machine run.acts

  abbrev Alike : ℕ → Round → Type 0
  Alike at round = IsAlike (is_over run.n run.k j) (parcel_sent run b)
      (λ r. eqb (exchange.kind_at exchange_it.kinds r) j) (λ r. exchange_it.sent r b) at round

  alike : (i : ℕ) (round : Round) → slice_get (rounds_in run) i ≡ Some round → Alike (0 + i) round
  alike i round at =
      let f = found run.n run.k i run.acts round at in
      subst (λ (v : ℕ). Alike v round) (let e : i ≡ 0 + i = omega arith in e)
      (subst (λ (x : Round). Alike i x) f.is (record {
        passes = ap (λ (v : ℕ). eqb v j)
            (read_at (λ (phase : Phase). exchange.kind_number_of run.n run.k phase.step) phases_it i f.phase f.at
            ∙ place_is run.n run.k f.phase.step);
        gives = ap (λ o. exchange.due_from run.n run.room run.k (before run i) o b) f.at
            ∙ ap (λ (step : Step). due run.n run.room step (block run.n run.k b (before run i)))
            (sym (round_is_followed run.n run.k i run.acts f.phase f.at).step);
      }))

  due_is : dues run b j ≡ exchange.due_list exchange_it j b
  due_is =
      picks_filter (is_over run.n run.k j) (parcel_sent run b) (λ r. eqb (exchange.kind_at exchange_it.kinds r) j)
      (λ r. exchange_it.sent r b) 0 (rounds_in run) alike
      ∙ ap (λ (m : ℕ). map (λ r. exchange_it.sent r b)
      (filter (λ r. eqb (exchange.kind_at exchange_it.kinds r) j) (range_with_len 0 m)))
      (length-map phases_it round_of
      ∙ sym (length-map phases_it (λ (phase : Phase). exchange.kind_number_of run.n run.k phase.step)))

giver_is : (run : Run) (b j : ℕ) → givers run b j ≡ exchange.giver run.k j b
giver_is run b zero = refl
giver_is run b (suc zero) = refl
giver_is run b (suc (suc i)) =
    ap (λ (v : ℕ). bit_xor b (2 ^ v)) (let e : run.n - run.k + i - (run.n - run.k) ≡ i = omega arith in e)

pub lanes_are_of_the_exchange : LanesAreOfTheExchange
lanes_are_of_the_exchange run b j = record { due_is = due_is run b j; giver_is = giver_is run b j }
