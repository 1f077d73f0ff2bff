-- Axes go over their numbers, and points stand on their panels.
use Rattle.std.proofs.Common.{◌≡◌, ℕ, zero, suc, ◌+◌, ◌-◌, ◌*◌, ◌/◌, ◌%◌, ◌<◌, ◌≤◌, ◌&&◌, Bool, true, false}
use Rattle.std.proofs.Common.{List, [], ◌∷◌, eqb, get_or, length, max, min, refl, sym, ap, ◌∙◌, arith}
use Rattle.std.specs.List.{fold}
use Rattle.std.specs.Prelude.{if◌then◌else◌, nat_lt}
use Rattle.std.proofs.Math.Nat.{add-mod_right, div-le_of_le-mul, mod-add-div', mod-le, mod-lt, mul-mod_left}
use Rattle.std.proofs.lemmas.Bool.Decides.{nat_tests}
use Rattle.lab_plot.specs.declared.panels.Panel.{Panel}
use Rattle.lab_plot.specs.declared.points.Kind.{Kind}
use Rattle.lab_plot.specs.declared.points.Kind.TheVariants.{Cycles, Messages, Loads, Latencies, Compared}
use Rattle.lab_plot.specs.declared.points.Point.{Point}
use Rattle.lab_plot.specs.declared.panels.Panel.TheVariants.{Moved, Held, Latency, Throughput, Bins, Took, Columns}
use Rattle.lab_plot.specs.Axes.{Axis, place_along, axis_by, axis_of, highest, higher, in_columns, leftmost, rightmost}
use Rattle.lab_plot.specs.Axes.{tick_step, whole_steps}
use Rattle.lab_plot.specs.Pictures.{frame_of, right_unit}
use Rattle.lab_plot.specs.Shown.{columns_shown, first_column, unit_of}
use Rattle.lab_plot.specs.Standing.{Joins, StandsOn}

-- ---- axes

-- what is left of a number without its rest is whole steps
no_rest : (step number : ℕ) → (number - number % step) % step ≡ 0
no_rest step number =
    let whole : number - number % step ≡ number / step * step = omega (arith, mod-add-div' number step) in
    ap (λ (n : ℕ). n % step) whole ∙ mul-mod_left (number / step) step

-- whole steps are no less than what they go over, and some
pub record Covers (step range : ℕ) (steps : ℕ) : Type 0 where
  pub all : range ≤ steps
  pub near : steps ≤ range + step
  pub some : 0 < steps
  pub whole : steps % step ≡ 0

pub covers : (step range : ℕ) → 0 < step → Covers step range (whole_steps step range)
covers step range some = by (eqb (range % step) 0 && nat_lt 0 range) refl where
  by : (b : Bool) → (eqb (range % step) 0 && nat_lt 0 range) ≡ b
      → Covers step range (if b then range else range + step - range % step)
  by true e = record {
    all = omega arith;
    near = omega arith;
    some = grind (arith, nat_tests, e);
    whole = grind (arith, nat_tests, e);
  }
  by false e = record {
    all = omega (arith, mod-lt range some);
    near = omega arith;
    some = omega (arith, mod-lt range some, mod-le range step);
    whole = (let over : range + step - range % step ≡ (range - range % step) + step = omega (arith, mod-le range step) in
        ap (λ (n : ℕ). n % step) over ∙ (add-mod_right (range - range % step) step ∙ no_rest step range));
  }

-- an axis by its step joins its numbers
joined_by : (step least most : ℕ) → 0 < step → least ≤ most → Joins (axis_by step least most) least most
joined_by step least most some order =
    let over = covers step (most - (least - least % step)) some in
    record {
      begins = omega arith;
      begins_late = omega (arith, mod-lt least some);
      ends = omega (arith, over.all);
      ends_soon = omega (arith, over.near, order);
      goes = over.some;
      first_tick = no_rest step least;
      last_tick = over.whole;
    }

-- so does each axis
pub joined : (unit least most : ℕ) → 0 < unit → least ≤ most → Joins (axis_of unit least most) least most
unfolding axis_of
joined unit least most some order =
    let wide : 0 < tick_step unit (most - least) = omega arith in
    joined_by (tick_step unit (most - least)) least most wide order

-- a number that an axis joins has a place on it
pub along_within : (axis : Axis) (least most number length : ℕ) → Joins axis least most → least ≤ number → number ≤ most
    → place_along axis number length ≤ length
along_within axis least most number length joins low high =
    div-le_of_le-mul axis.span (times (number - axis.low) axis.span length (omega (arith, joins.ends))) where
      times : (a b c : ℕ) → a ≤ b → a * c ≤ b * c
      times a b c h = grind arith

-- ---- points

leftmost_start : (x : ℕ) (points : List Point) → leftmost x points ≤ x
leftmost_start x [] = omega arith
leftmost_start x (point ∷ points) = omega (arith, leftmost_start (min x point.x) points)

pub leftmost_of : (x : ℕ) (points : List Point) (k : ℕ) (d : Point) → k < length points
    → leftmost x points ≤ (get_or points k d).x
leftmost_of x [] k d h = absurd (omega arith)
leftmost_of x (point ∷ points) zero d h = omega (arith, leftmost_start (min x point.x) points)
leftmost_of x (point ∷ points) (suc k) d h = leftmost_of (min x point.x) points k d (omega arith)

rightmost_start : (x : ℕ) (points : List Point) → x ≤ rightmost x points
rightmost_start x [] = omega arith
rightmost_start x (point ∷ points) = omega (arith, rightmost_start (max x point.x) points)

pub rightmost_of : (x : ℕ) (points : List Point) (k : ℕ) (d : Point) → k < length points
    → (get_or points k d).x ≤ rightmost x points
rightmost_of x [] k d h = absurd (omega arith)
rightmost_of x (point ∷ points) zero d h = omega (arith, rightmost_start (max x point.x) points)
rightmost_of x (point ∷ points) (suc k) d h = rightmost_of (max x point.x) points k d (omega arith)

-- the number upward so far does not fall
higher_grows : (first count g : ℕ) (point : Point) → g ≤ higher first count g point
higher_grows first count g point = by (in_columns first count point.column) where
  by : (b : Bool) → g ≤ (if b then max g point.y else g)
  by true = omega arith
  by false = omega arith

-- and a point of the columns raises it to its own
higher_of : (first count g : ℕ) (point : Point) → in_columns first count point.column ≡ true
    → point.y ≤ higher first count g point
higher_of first count g point is =
    let raised : max g point.y ≡ higher first count g point =
    sym (ap (λ (b : Bool). if b then max g point.y else g) is) in
    omega (arith, raised)

highest_start : (first count g : ℕ) (points : List Point) → g ≤ fold (higher first count) g points
highest_start first count g [] = omega arith
highest_start first count g (point ∷ points) =
    omega (arith, higher_grows first count g point, highest_start first count (higher first count g point) points)

pub highest_of : (first count g : ℕ) (points : List Point) (k : ℕ) (d : Point) → k < length points
    → in_columns first count (get_or points k d).column ≡ true
    → (get_or points k d).y ≤ fold (higher first count) g points
highest_of first count g [] k d h is = absurd (omega arith)
highest_of first count g (point ∷ points) zero d h is =
    omega (arith, higher_of first count g point is, highest_start first count (higher first count g point) points)
highest_of first count g (point ∷ points) (suc k) d h is =
    highest_of first count (higher first count g point) points k d (omega arith) is

-- ticks stand some way apart
some_right : (kind : Kind) → 0 < right_unit kind
some_right Cycles = omega arith
some_right Messages = omega arith
some_right Loads = omega arith
some_right Latencies = omega arith
some_right Compared = omega arith

some_upward : (panel : Panel) → 0 < unit_of panel
some_upward Moved = omega arith
some_upward Held = omega arith
some_upward Latency = omega arith
some_upward Throughput = omega arith
some_upward Bins = omega arith
some_upward (Took count) = omega arith
some_upward (Columns count) = omega arith

-- a point of a panel's columns stands on it
pub standing : (kind : Kind) (x : ℕ) (points : List Point) (panel : Panel) (k : ℕ) (d : Point) → k < length points
    → in_columns (first_column panel) (columns_shown panel) (get_or points k d).column ≡ true
    → StandsOn (frame_of kind x points panel) (get_or points k d)
standing kind x points panel k d h is =
    let point = get_or points k d in
    let frame = frame_of kind x points panel in
    let least = leftmost_of x points k d h in
    let most = rightmost_of x points k d h in
    let across = joined (right_unit kind) (leftmost x points) (rightmost x points) (some_right kind)
    (omega (arith, least, most)) in
    let top = highest_of (first_column panel) (columns_shown panel) 0 points k d h is in
    let up = joined (unit_of panel) 0 (highest (first_column panel) (columns_shown panel) points) (some_upward panel)
    (omega arith) in
    record {
      across = along_within frame.across (leftmost x points) (rightmost x points) point.x 5600 across least most;
      up = omega (
        arith,
        along_within frame.up 0 (highest (first_column panel) (columns_shown panel) points) point.y 2400 up
            (omega arith) top,
      );
    }
