-- Ends of lanes, as they are opened place by place and handed over, and as blocks get them.
use Rattle.std.proofs.Common.{◌≡◌, ℕ, zero, suc, ◌+◌, ◌-◌, ◌*◌, ◌/◌, ◌<◌, ◌≤◌, ◌^◌, List, [], ◌∷◌, ◌++◌, length, take, drop}
use Rattle.std.proofs.Common.{Vec, IsFalse, ap, subst, ◌∙◌, arith}
use Rattle.std.specs.declared.alloc.Global.{Global}
use Rattle.std.proofs.Math.Nat.{mod-lt}
use Rattle.std.proofs.lemmas.Bool.Decides.{nat_tests}
use Rattle.std.proofs.lemmas.List.{take-append-le, take_all}
use Rattle.std.proofs.lemmas.Nat.{xor_lt, pow_below, pow_pos, mul-le}
use Rattle.cm_model.specs.declared.act.Act.{Act}
use Rattle.cm_array.specs.Acts.{cycles_in, is_late, is_long}
use Rattle.cm_blocks.specs.Parcels.{Parcel}
use Rattle.cm_subcube.specs.declared.round.Kind.{Kind}
use Rattle.cm_subcube.specs.declared.round.Kind.TheVariants as kind
use Rattle.cm_subcube.specs.Rounds.{rounds_of}
use Rattle.cm_subcube.proofs.FewRounds.{rounds_are_few}
use Rattle.cm_board.specs.Courses.{Course}
use Rattle.cm_gates.specs.Dealing.{hand}
use Rattle.cm_gates.specs.Handing.{giver_of_kind, AreHandedOver}
use Rattle.cm_subcube.specs.Parcels.{CanBeOver}
use Rattle.cm_turns.specs.Lanes.{Run, kind_of_index, ends_each, course, own, givers}
use Rattle.cm_resident.specs.Gathering.{AreAll, AreFrom, AreFirsts}
use Rattle.cm_resident.specs.Teams.{IsEnd, AreByPlace, HasEnds}
use Rattle.cm_resident.proofs.Numbered.{from_first, rest_are}

-- ---- how many rounds a list has at most

-- what a runner takes at once
record IsShort (acts : List Act) : Type 0 where
  few_acts : length acts ≤ 4096
  few : cycles_in acts ≤ 64

is_short : (acts : List Act) → IsFalse (is_long acts) → IsShort acts
is_short acts short = record { few_acts = grind (arith, nat_tests); few = grind (arith, nat_tests) }

-- a lane carries as many parcels
pub few_rounds : (n k : ℕ) (acts : List Act) → n ≤ 12 → k ≤ n - n / 2 → IsFalse (is_long acts)
    → length (rounds_of n k acts) ≤ 4416
few_rounds n k acts small within short =
    let s = is_short acts short in
    let low : k ≤ 6 = omega (arith, small, within) in
    let few = rounds_are_few n k acts (omega (arith, within)) in
    let crossings : k * cycles_in acts ≤ 6 * cycles_in acts = mul-le k (cycles_in acts) 6 (cycles_in acts) low (omega arith) in
    omega (arith, s.few_acts, s.few, few, crossings)

-- the counter has room for its petit cycles
pub in_time : (clock cycles : ℕ) (acts : List Act) → IsFalse (is_late clock acts) → cycles ≡ cycles_in acts
    → clock + cycles < 2 ^ 63
in_time clock cycles acts late is =
    let counted : clock + cycles_in acts < 2 ^ 63 = grind (arith, nat_tests) in omega (arith, counted, is)

-- ---- who gives

-- a kind of round at a place is one at which blocks exchange
pub can_be_over : (n k place : ℕ) → k ≤ n → place < k + 2 → CanBeOver n k (kind_of_index n k place)
can_be_over n k zero within below = tt
can_be_over n k (suc zero) within below = tt
can_be_over n k (suc (suc i)) within below =
    record { from = omega arith; below = omega (arith, within, below) }

-- its giver is one of the blocks
giver_below : (n k b : ℕ) (over : Kind) → CanBeOver n k over → b < 2 ^ k → giver_of_kind n k over b < 2 ^ k
giver_below n k b kind.North can below = mod-lt (b + 1) (pow_pos k)
giver_below n k b kind.South can below = mod-lt (b + 2 ^ k - 1) (pow_pos k)
giver_below n k b (kind.Dim d) can below =
    xor_lt k b (2 ^ (d - (n - k))) below
    (pow_below (d - (n - k)) k (let f = can.from in let g = can.below in omega (arith, f, g)))

-- the ends to which blocks send, and those from which they get once they are handed over
pub handed_over : (run : Run) (place : ℕ) (old new : List (Course Parcel)) → CanBeOver run.n run.k (kind_of_index run.n run.k place)
    → AreAll (IsEnd run own place) (2 ^ run.k) old
    → AreHandedOver run.n run.k (kind_of_index run.n run.k place) old new
    → AreFrom (IsEnd run givers place) 0 (2 ^ run.k) new
handed_over run place old new can are over = from_first (IsEnd run givers place) (2 ^ run.k) new (record {
  len = over.len ∙ are.len;
  each = λ b d l.
      over.each b d l
      ∙ are.each (giver_of_kind run.n run.k (kind_of_index run.n run.k place) b) d
      (giver_below run.n run.k b (kind_of_index run.n run.k place) can l);
})

-- a list that is written back in place of another that is as long
pub written_back : {X : Type 0} (many : ℕ) (new old : List X) → length new ≡ many
    → take many (new ++ drop (length new) old) ≡ new
written_back many new old long = take-append-le many new (drop (length new) old) (omega (arith, long))
    ∙ take_all many new (omega (arith, long))

-- ---- those of one block

some_of : {X : Type 0} (xs : List X) → 0 < length xs → X
some_of [] some = absurd (omega (arith, some))
some_of (x ∷ xs) some = x

module _ (run : Run) (whose : Run → ℕ → ℕ → ℕ) (from m : ℕ) (places now : List (Vec (Course Parcel) Global))
    (are : AreByPlace run whose from m places) (below : from < 2 ^ run.k) where
  module _ (firsts : List (Course Parcel)) (taken : AreFirsts places now firsts) where
    pub block_ends : m ≡ ends_each run.k → HasEnds run whose from firsts
    block_ends all = subst (λ (v : ℕ). AreAll (λ j. IsEnd run whose j from) v firsts) all (record {
      len = taken.count ∙ are.len;
      each = λ j d l.
          let there : j < length places = (let f = are.len in omega (arith, f, l)) in
          let e : Vec (Course Parcel) Global = some_of places (omega (arith, there)) in
          let at : from + 0 ≡ from = omega arith in
          taken.each j e d there ∙ (are.each j e l).each 0 d (omega (arith, below))
          ∙ ap (λ (v : ℕ). course run (whose run v j) j 0) at;
    })

    pub ends_left : AreByPlace run whose (from + 1) m now
    ends_left = record {
      len = taken.len ∙ are.len;
      each = λ j e l.
          let there : j < length places = (let f = are.len in omega (arith, f, l)) in
          rest_are (IsEnd run whose j) from (2 ^ run.k) (hand places e j) (hand now e j) (are.each j e l) below
          (taken.taken j e there);
    }
