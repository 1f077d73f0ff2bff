-- Parts that are put together, one after another.
use Rattle.std.proofs.Common.{◌≡◌, ℕ, ◌+◌, ◌-◌, ◌<◌, ◌≤◌, ◌^◌, List, [], ◌∷◌, ◌++◌, length, get_or, take, map}
use Rattle.std.proofs.Common.{refl, sym, ap}
use Rattle.std.proofs.Common.{◌∙◌, subst, arith, ⊎_elim, ext_get_or}
use Rattle.std.proofs.lemmas.Bool.{cases_lt}
use Rattle.std.proofs.lemmas.List.{take_more, take_all, length-append, get_or-map, length-map}
use Rattle.std.proofs.lemmas.List.Concat.{get_or-flat_map}
use Rattle.std.proofs.lemmas.List.Folds.{length-flat_map-take}
use Rattle.std.proofs.lemmas.Grind.{flat_map-append}
use Rattle.std.specs.List.{flat_map}
use Rattle.cm_model.specs.Array.{nth_or_nil}
use Rattle.std.specs.Prelude.{IsTrue}
use Rattle.cm_model.specs.Machine.{Machine}
use Rattle.cm_model.specs.Keeping.{AreSizes, IsMachine}
use Rattle.cm_blocks.specs.Parts.{Part}
use Rattle.cm_router_engine.specs.Standing.{InFlight}
use Rattle.cm_router.specs.Routes.{routing_of}
use Rattle.cm_router.specs.Logs.{Log}
use Rattle.cm_router.specs.Rows.{with_row}
use Rattle.cm_router.proofs.Telling.{with_row-nil}
use Rattle.cm_petit.specs.Routers.{events_of}
use Rattle.cm_array.specs.declared.chip_state.ChipState.{ChipState}
use Rattle.cm_array.specs.Parts.{machine_of, AreParts}
use Rattle.cm_array.specs.Cuts.{PartView, IsLaid, first_clock, first_routing, joined}
use Rattle.cm_array.proofs.Machines.{AreSized-again}
use Rattle.std.proofs.lemmas.Nat.{pow_pos}

-- the lists of the first j pieces stand one after another, to a place
pub record IsPut {A X : Type 0} (lists_of : A → List (List X)) (pieces : List A) (j at : ℕ) (now : List (List X))
    : Type 0 where
  pub end : at ≡ length (flat_map lists_of (take j pieces))
  pub each : (c : ℕ) → c < at → nth_or_nil now c ≡ nth_or_nil (flat_map lists_of pieces) c

pub none_put : {A X : Type 0} (lists_of : A → List (List X)) (pieces : List A) (now : List (List X))
    → IsPut lists_of pieces 0 0 now
none_put lists_of pieces now = record { end = refl; each = λ c l. absurd (omega (arith, l)) }

-- a piece fits behind those before it
pub next_fits : {A X : Type 0} (lists_of : A → List (List X)) (pieces : List A) (j at : ℕ) (s : A) (now : List (List X))
    → j < length pieces → s ≡ get_or pieces j s → IsPut lists_of pieces j at now
    → at + length (lists_of s) ≤ length (flat_map lists_of pieces)
next_fits lists_of pieces j at s now l is put =
    omega (arith, put.end, length-flat_map-take lists_of pieces j s l, ap (λ x. length (lists_of x)) is)

-- one piece more
pub next_put : {A X : Type 0} (lists_of : A → List (List X)) (pieces : List A) (j at : ℕ)
    (s : A) (now new : List (List X)) (next end : ℕ) → j < length pieces → s ≡ get_or pieces j s → next ≡ j + 1
    → end ≡ at + length (lists_of s)
    → IsPut lists_of pieces j at now → IsLaid at (lists_of s) now new → IsPut lists_of pieces next end new
next_put {A} {X} lists_of pieces j at s now new next end l is after there put laid =
    let more : flat_map lists_of (take (j + 1) pieces) ≡ flat_map lists_of (take j pieces) ++ (lists_of s ++ []) =
    ap (flat_map lists_of) (take_more pieces j s l ∙ ap (λ (x : A). take j pieces ++ x ∷ []) (sym is))
    ∙ flat_map-append lists_of (take j pieces) (s ∷ []) in
    let here : (i : ℕ) → i < length (lists_of s)
    → nth_or_nil (flat_map lists_of pieces) (at + i) ≡ nth_or_nil (lists_of s) i =
    λ i h. ap (λ (k : ℕ). nth_or_nil (flat_map lists_of pieces) (k + i)) put.end
    ∙ get_or-flat_map lists_of pieces j i s [] l (omega (arith, h, ap (λ x. length (lists_of x)) is))
    ∙ ap (λ (x : A). nth_or_nil (lists_of x) i) (sym is) in
    record {
      end = let long : length (flat_map lists_of (take (j + 1) pieces)) ≡ at + length (lists_of s) =
          ap length more ∙ length-append (flat_map lists_of (take j pieces)) (lists_of s ++ [])
          ∙ omega (arith, length-append (lists_of s) [], put.end) in
          there ∙ sym long ∙ ap (λ (k : ℕ). length (flat_map lists_of (take k pieces))) (sym after);
      each = λ c h. ⊎_elim
          (λ (below : c < at). laid.below c below ∙ put.each c below)
          (λ (from : at ≤ c).
          let place : at + (c - at) ≡ c = omega arith in
          let inside : c - at < length (lists_of s) = omega (arith, h, from, there) in
          subst (λ (k : ℕ). nth_or_nil new k ≡ nth_or_nil (flat_map lists_of pieces) k) place
          (laid.laid (c - at) inside ∙ sym (here (c - at) inside)))
          (cases_lt c at);
    }

-- the next of those that are held
pub next_held : {A : Type 0} (held : A → PartView) (pieces : List A) (j : ℕ) (piece : A) (kept : PartView)
    → (j < length pieces) × (piece ≡ get_or pieces j piece) → kept ≡ held piece
    → (j < length (map (λ x. (held x).part) pieces))
    × (kept.part ≡ get_or (map (λ x. (held x).part) pieces) j kept.part)
next_held {A} held pieces j piece kept turn is =
    let part_of : A → Part = λ x. (held x).part in (
      omega (arith, turn.0, length-map pieces part_of),
      sym (get_or-map part_of pieces j piece kept.part turn.0 ∙ ap part_of (sym turn.1)
          ∙ ap (λ (k : PartView). k.part) (sym is)),
    )

-- all of them
pub all_put : {A X : Type 0} (lists_of : A → List (List X)) (pieces : List A) (j at : ℕ) (now : List (List X))
    → j ≡ length pieces → length now ≡ length (flat_map lists_of pieces) → IsPut lists_of pieces j at now
    → now ≡ flat_map lists_of pieces
all_put lists_of pieces j at now all long put =
    let end = put.end ∙ ap (λ xs. length (flat_map lists_of xs)) (take_all j pieces (omega (arith, all))) in
    ext_get_or [] now (flat_map lists_of pieces) long (λ c l. put.each c (omega (arith, l, long, end)))

-- where something was put, there was a piece
pub some_put : {A X : Type 0} (lists_of : A → List (List X)) (pieces : List A) (j at : ℕ) (now : List (List X))
    → j ≡ length pieces → length now ≡ length (flat_map lists_of pieces) → 0 < length now → 0 < j
some_put lists_of [] j at now all long some = absurd (omega (arith, long, some))
some_put lists_of (s ∷ rest) j at now all long some = omega (arith, all)

-- ---- into a machine

-- what is kept, as much as of a cube of n dimensions, once the first j pieces are put
pub record ArePut (n cap : ℕ) (pieces : List Part) (j at : ℕ) (now : ChipState) : Type 0 where
  pub chips : IsPut (λ s. s.chips) pieces j at now.run
  pub buffers : IsPut (λ s. s.buffers) pieces j at now.crossing.buffers
  pub logs : IsPut (λ s. s.logs) pieces j at (events_of now.logs.items)
  pub row : now.row.items ≡ []
  pub empty : (c : ℕ) → at ≤ c → nth_or_nil now.crossing.buffers c ≡ []
  pub chip_count : length now.run ≡ 2 ^ n
  pub buffer_count : length now.crossing.buffers ≡ 2 ^ n
  pub log_count : length now.logs.items ≡ 2 ^ n
  pub sent_count : length now.sent.items ≡ 2 ^ n
  pub incoming_count : length now.incoming.items ≡ 2 ^ n
  pub dims : now.shape.dims ≡ n
  pub room : now.shape.room ≡ cap
  pub cube : now.routing.cuts.dims ≡ n
  pub clock : 0 < j → now.clock ≡ first_clock pieces
  pub routing : 0 < j → routing_of now.routing ≡ first_routing pieces
  pub within : 0 < j → now.clock < 2 ^ 63

-- all of them, gathered, are the machine that the pieces are
module _ (n cap : ℕ) (pieces : List Part) (j at : ℕ) (now : ChipState) (crossing : InFlight) (were : ArePut n cap pieces j at now)
    (all : j ≡ length pieces) (is : IsMachine n cap (joined pieces)) (same : crossing.buffers ≡ now.crossing.buffers)
  where
    long : length now.run ≡ length (joined pieces).chips
    long = were.chip_count ∙ sym is.chip_count

    some : 0 < j
    some =
        some_put (λ (s : Part). s.chips) pieces j at now.run all long (omega (arith, were.chip_count, pow_pos n))

    pub machine_of-put : machine_of (record now { crossing = crossing }) ≡ joined pieces
    machine_of-put = λ i. record {
      chips = all_put (λ (s : Part). s.chips) pieces j at now.run all long were.chips i;
      buffers = (same
          ∙ all_put (λ (s : Part). s.buffers) pieces j at now.crossing.buffers all
          (were.buffer_count ∙ sym is.buffer_count) were.buffers) i;
      logs = (ap (with_row (events_of now.logs.items)) were.row ∙ with_row-nil (events_of now.logs.items)
          ∙ all_put (λ (s : Part). s.logs) pieces j at (events_of now.logs.items) all
          (length-map now.logs.items (λ (log : Log). log.items) ∙ were.log_count ∙ sym is.log_count) were.logs) i;
      clock = were.clock some i;
      routing = were.routing some i;
    }

    pub AreParts-all_put : AreSizes n cap → IsTrue crossing.gathered → AreParts n cap (record now { crossing = crossing })
    AreParts-all_put sizes gathered = record {
      sized = record {
        sizes = sizes;
        dims = were.dims;
        room = were.room;
        sent_count = were.sent_count;
        incoming_count = were.incoming_count;
        clock = were.within some;
        cube = were.cube;
      };
      gathered = gathered;
      machine = subst (λ (m : Machine). IsMachine n cap m) (sym machine_of-put) is;
    }

-- so what is kept then are the parts of a machine
pub AreParts-put : (n cap : ℕ) (old new : ChipState) (machine : Machine) → AreParts n cap old → IsMachine n cap machine
    → machine_of new ≡ machine → IsTrue new.crossing.gathered → new.shape ≡ old.shape
    → length new.sent.items ≡ length old.sent.items → length new.incoming.items ≡ length old.incoming.items
    → new.clock < 2 ^ 63 → new.routing.cuts.dims ≡ old.routing.cuts.dims → AreParts n cap new
AreParts-put n cap old new machine were is same gathered shape sent incoming clock cube = record {
  sized = AreSized-again n cap (2 ^ n) old new were.sized shape sent incoming clock cube;
  gathered = gathered;
  machine = subst (λ (m : Machine). IsMachine n cap m) (sym same) is;
}
