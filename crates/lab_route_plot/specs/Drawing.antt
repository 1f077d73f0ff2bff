-- The picture of a route, as an SVG. Lengths are tenths of a dot. SVG 1.1 is W3C's; what is drawn is ours.
use Rattle.std.specs.Prelude.{ℕ, ◌+◌, ◌/◌, ◌%◌, ◌==◌, ◌||◌, Bool, nat_eq, if◌then◌else◌, Result, Ok, Err}
use Rattle.std.specs.Prelude.{List, [], ◌∷◌, ◌++◌, codes, decimal, length}
use Rattle.std.specs.List.{flat_map, range_with_len, starts_with}
use Rattle.cm_bits.specs.Text.{lines_of}
use Rattle.lab_plot.specs.declared.fault.PlotFault.{PlotFault}
use Rattle.lab_plot.specs.declared.fault.PlotFault.TheVariants.{NoCycle, NoRoute}
use Rattle.lab_plot.specs.Cells.{trimmed}
use Rattle.lab_plot.specs.Heads.{picture_head}
use Rattle.lab_plot.specs.Lines.{circle, colour, line_open, name_text}
use Rattle.lab_plot.specs.Panels.{place_text, sides_text}
use Rattle.lab_plot.specs.Pictures.{table_picture}
use Rattle.lab_plot.specs.Pieces.{piece}
use Rattle.lab_plot.specs.Ticks.{cycle_tick, up_text}
use Rattle.lab_route_plot.specs.declared.legs.Cycles.{Cycles}
use Rattle.lab_route_plot.specs.Cycles.{are_all_cycles}
use Rattle.lab_route_plot.specs.declared.legs.Leg.{Leg}
use Rattle.lab_route_plot.specs.declared.legs.Step.{Step}
use Rattle.lab_route_plot.specs.declared.legs.Step.TheVariants.{Wanted, Referred, Delivered}
use Rattle.lab_route_plot.specs.Legs.{legs_after}
use Rattle.lab_route_plot.specs.Rows.{Plan, plan_of, route_x, route_y, row_of_chip}

-- ---- rows

-- the line of a chip's row and its number; where there are many rows one in so many has one
unfoldable pub row_text : Plan → ℕ → List ℕ
row_text plan chip =
    if row_of_chip plan.rows chip % (length plan.rows / 16 + 1) == 0
    then up_text (route_y plan.rows chip) ++ decimal chip ++ codes "</text>\n" else []

-- ---- the way

-- the two ends of a leg, behind these words
abbrev pub segment : Plan → List ℕ → List ℕ → Leg → List ℕ
segment plan before between leg =
    piece before (route_x plan leg.cycle leg.start) ++ piece (codes ",") (route_y plan.rows leg.from)
    ++ piece between (route_x plan leg.cycle leg.end) ++ piece (codes ",") (route_y plan.rows leg.to)

-- the two ends of a leg, as corners of the line of a way
abbrev pub leg_corner : Plan → Leg → List ℕ
leg_corner plan leg = segment plan (codes " ") (codes " ") leg

-- the line of a way, through the ends of all its legs
unfoldable pub way_line : Plan → List Leg → List ℕ
way_line plan legs = line_open (colour 0) ++ flat_map (leg_corner plan) legs ++ codes "'/>\n"

-- what a leg's step adds to the way: a line in another colour, where the message was referred
abbrev pub referral_by : Plan → Leg → Step → List ℕ
referral_by plan leg Wanted = []
referral_by plan leg Referred = line_open (colour 1) ++ segment plan [] (codes " ") leg ++ codes "'/>\n"
referral_by plan leg Delivered = []

-- the line in another colour of a leg in which the message was referred; nothing of any other leg
unfoldable pub referral : Plan → Leg → List ℕ
referral plan leg = referral_by plan leg leg.step

-- what a leg's step adds to the way: a dot, where the message was delivered
abbrev pub delivery_by : Plan → Leg → Step → List ℕ
delivery_by plan leg Wanted = []
delivery_by plan leg Referred = []
delivery_by plan leg Delivered = circle (route_x plan leg.cycle leg.end) (route_y plan.rows leg.to) (colour 3)

-- the dot of a leg at whose end the message was delivered; nothing of any other leg
abbrev pub delivery : Plan → Leg → List ℕ
delivery plan leg = delivery_by plan leg leg.step

-- the line of the way, the lines of its referrals, and the dot of its delivery
unfoldable pub lines_text : Plan → List Leg → List ℕ
lines_text plan legs = way_line plan legs ++ flat_map (referral plan) legs ++ flat_map (delivery plan) legs

-- a dot where the way begins
abbrev pub begin_text : Plan → Leg → List ℕ
begin_text plan leg = circle (route_x plan leg.cycle leg.start) (route_y plan.rows leg.from) (colour 2)

-- ---- the picture

-- what the colours say
unfoldable pub names_text : List ℕ → List ℕ
names_text names = name_text names 0 0 ++ name_text names 1 1 ++ name_text names 2 2 ++ name_text names 3 3

-- the panel of a route: its ticks, a line for each chip, what is written along the sides, the way, the names
unfoldable pub route_panel_text : Plan → Leg → List Leg → List ℕ
route_panel_text plan first legs =
    place_text 600 ++ flat_map (cycle_tick plan.across) (range_with_len 0 12)
    ++ flat_map (row_text plan) plan.rows
    ++ sides_text (codes "petit cycle") (codes "chip") ++ lines_text plan legs ++ begin_text plan first
    ++ names_text (codes "way,referred,begins,delivered")

-- a picture of these legs, of which this is the first
unfoldable pub route_drawing : Leg → List Leg → List ℕ
route_drawing first legs =
    picture_head (codes "The way of a message") 3900 ++ route_panel_text (plan_of first.cycle legs) first legs
    ++ codes "</g>\n</svg>\n"

-- the picture of the legs of a route, if its lines have no fault and there is a leg
abbrev pub of_legs : Result (List Leg) PlotFault → Result (List ℕ) PlotFault
of_legs (Err fault) = Err fault
of_legs (Ok []) = Err NoCycle
of_legs (Ok (leg ∷ legs)) = Ok (route_drawing leg (leg ∷ legs))

-- a text begins as a route does, behind blanks
abbrev pub is_route : List ℕ → Bool
is_route text =
    starts_with nat_eq (trimmed text) (codes "cycle ") || starts_with nat_eq (trimmed text) (codes "stands at ")

-- the picture of a text that is a route, of these petit cycles alone, or a table, or its first fault
unfoldable pub route_or_table_picture : Cycles → List ℕ → Result (List ℕ) PlotFault
route_or_table_picture cycles text =
    if is_route text then of_legs (legs_after cycles 1 [] (lines_of text))
    else (if are_all_cycles cycles then table_picture text else Err NoRoute)
