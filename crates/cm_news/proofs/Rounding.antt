-- Which chip's edge leads to a chip, as a number of places on among all chips, or in its row.
use Rattle.std.proofs.Common.{◌≡◌, ◌≢◌, ℕ, ◌+◌, ◌-◌, ◌*◌, ◌/◌, ◌%◌, ◌^◌, ◌<◌, ◌≤◌, Bool, true, false, List, length}
use Rattle.std.proofs.Common.{if◌then◌else◌, get_or, set, get_or-set_same, get_or-set_other, refl, sym, ap, ◌∙◌, ⊎_elim, arith}
use Rattle.std.proofs.Math.Nat.{mul_comm}
use Rattle.std.proofs.lemmas.Bool.{cases_lt}
use Rattle.std.proofs.lemmas.Nat.{mul-le}
use Rattle.cm_bits.specs.Bit.{bit}
use Rattle.cm_bits.specs.declared.plane.Dir.{Dir}
use Rattle.cm_bits.specs.declared.plane.Dir.TheVariants.{North, East, West, South}
use Rattle.cm_model.specs.Place.{chip_columns, source}
use Rattle.cm_model.proofs.Torus.{back-first, back-other, on-last, on-other, columns_some, chips_in_rows}
use Rattle.cm_model.proofs.Torus.{chip_row-lt, chip_column-lt, chip-own}
use Rattle.cm_news.specs.Moves.{is_entry, one_back, at_edge, bit_along_edge, bit_of_place}
use Rattle.cm_news.specs.Rounds.{IsJoined, IsTurned, AreTurned}
use Rattle.cm_news.proofs.Sources.{chip_rows, chip_before, over_edge, steps_are_the_torus}

-- a plane that was joined with that of the chip before has what comes in
pub joined_comes_in : (n : ℕ) (dir : Dir) (chip before plane : ℕ) (planes : List ℕ) → chip < 2 ^ n
    → before ≡ chip_before n dir chip
    → IsJoined dir (get_or planes chip 0) (get_or planes before 0) plane
    → (p : ℕ) → p < 16 → bit plane p ≡ bit_of_place planes (source n dir (record { chip = chip; proc = p }))
joined_comes_in n dir chip before plane planes there before_is is p h = is p h ∙ by (is_entry dir p) refl where
  by : (entry : Bool) → is_entry dir p ≡ entry
      → (if entry then bit (get_or planes before 0) (at_edge dir (bit_along_edge dir p))
      else bit (get_or planes chip 0) (one_back dir p))
      ≡ bit_of_place planes (source n dir (record { chip = chip; proc = p }))
  by true entry =
      ap (λ (c : ℕ). bit (get_or planes c 0) (at_edge dir (bit_along_edge dir p))) before_is
      ∙ sym (ap (bit_of_place planes) (over_edge n dir chip p there h entry))
  by false entry = sym (ap (bit_of_place planes) ((steps_are_the_torus n dir chip p there h).inside entry))

zero_times : (w : ℕ) → 0 * w ≡ 0
zero_times w = omega arith

pub less_one : (h w : ℕ) → 0 < h → (h - 1) * w + w ≡ h * w
less_one h w some =
    (let e : (h - 1) * w + w ≡ (h - 1 + 1) * w = omega arith in e)
    ∙ ap (λ (k : ℕ). k * w) (let e : h - 1 + 1 ≡ h = omega arith in e)

-- ---- rows of so many chips: a chip c in row q and column r

-- one row on, and from the last row to the first
pub one_row_on : (w h q r c count : ℕ) → c ≡ q * w + r → count ≡ h * w → q < h → r < w → c + w < count
    → (q + 1) % h * w + r ≡ c + w
one_row_on w h q r c count own all below few inside =
    let next : q + 1 < h = ⊎_elim
    (λ (l : q + 1 < h). l)
    (λ (l : h ≤ q + 1). let more : h * w ≤ (q + 1) * w = mul-le h w (q + 1) w l (omega arith) in
    let is : (q + 1) * w ≡ q * w + w = omega arith in absurd (omega arith))
    (cases_lt (q + 1) h) in
    let is : (q + 1) * w ≡ q * w + w = omega arith in
    ap (λ (k : ℕ). k * w + r) (on-other q h next) ∙ omega (arith, is, own)

pub last_row_on : (w h q r c count : ℕ) → c ≡ q * w + r → count ≡ h * w → q < h → r < w → count ≤ c + w
    → (q + 1) % h * w + r ≡ c - (count - w)
last_row_on w h q r c count own all below few past =
    let last : q ≡ h - 1 = ⊎_elim
    (λ (l : q + 1 < h). let more : (q + 1 + 1) * w ≤ h * w = mul-le (q + 1 + 1) w h w (omega arith) (omega arith) in
    let is : (q + 1 + 1) * w ≡ q * w + w + w = omega arith in absurd (omega arith))
    (λ (l : h ≤ q + 1). omega arith)
    (cases_lt (q + 1) h) in
    let first : (q + 1) % h ≡ 0 = ap (λ (k : ℕ). (k + 1) % h) last ∙ on-last h (omega arith) in
    let none : (q + 1) % h * w ≡ 0 = ap (λ (k : ℕ). k * w) first ∙ zero_times w in
    let rows : h * w ≡ q * w + w = ap (λ (k : ℕ). k * w) (let e : h ≡ q + 1 = omega (arith, last, below) in e)
    ∙ (let e : (q + 1) * w ≡ q * w + w = omega arith in e) in
    omega (arith, none, rows, own, all)

-- one row back, and from the first row to the last
pub first_row_back : (w h q r c count : ℕ) → c ≡ q * w + r → count ≡ h * w → q < h → r < w → c + (count - w) < count
    → (q + h - 1) % h * w + r ≡ c + (count - w)
first_row_back w h q r c count own all below few inside =
    let height : 1 * w ≤ h * w = mul-le 1 w h w (omega arith) (omega arith) in
    let first : q ≡ 0 = ⊎_elim
    (λ (l : q < 1). omega arith)
    (λ (l : 1 ≤ q). let more : 1 * w ≤ q * w = mul-le 1 w q w l (omega arith) in absurd (omega arith))
    (cases_lt q 1) in
    let last : (q + h - 1) % h ≡ h - 1 = ap (λ (k : ℕ). (k + h - 1) % h) first ∙ back-first h (omega arith) in
    let none : q * w ≡ 0 = ap (λ (k : ℕ). k * w) first ∙ zero_times w in
    let rows : (h - 1) * w + w ≡ h * w = less_one h w (omega arith) in
    ap (λ (k : ℕ). k * w + r) last ∙ omega (arith, none, rows, own, all)

pub other_row_back : (w h q r c count : ℕ) → c ≡ q * w + r → count ≡ h * w → q < h → r < w → count ≤ c + (count - w)
    → (q + h - 1) % h * w + r ≡ c - (count - (count - w))
other_row_back w h q r c count own all below few past =
    let height : 1 * w ≤ h * w = mul-le 1 w h w (omega arith) (omega arith) in
    let later : 0 < q = ⊎_elim
    (λ (l : q < 1). let none : q * w ≡ 0 = ap (λ (k : ℕ). k * w) (let e : q ≡ 0 = omega arith in e) ∙ zero_times w in
    absurd (omega arith))
    (λ (l : 1 ≤ q). omega arith)
    (cases_lt q 1) in
    let one : (q - 1) * w + w ≡ q * w = less_one q w later in
    ap (λ (k : ℕ). k * w + r) (back-other q h later below) ∙ omega (arith, one, own, all, height)

-- ---- what comes in

-- from the chip so many places on among some
turned_comes_in : (n : ℕ) (dir : Dir) (chip from count by k plane : ℕ) (planes : List ℕ)
    → chip < 2 ^ n → chip ≡ from + k
    → (k + by < count → chip_before n dir chip ≡ from + (k + by))
    → (count ≤ k + by → chip_before n dir chip ≡ from + (k - (count - by)))
    → IsTurned dir planes from count by k plane
    → (p : ℕ) → p < 16 → bit plane p ≡ bit_of_place planes (source n dir (record { chip = chip; proc = p }))
turned_comes_in n dir chip from count by k plane planes there chip_is straight over is p h = ⊎_elim
    (λ (l : k + by < count). joined_comes_in n dir chip (from + (k + by)) plane planes there (sym (straight l))
    (rw chip_is (is.straight l)) p h)
    (λ (l : count ≤ k + by). joined_comes_in n dir chip (from + (k - (count - by))) plane planes there (sym (over l))
    (rw chip_is (is.over l)) p h)
    (cases_lt (k + by) count)

-- all chips are so many rows
pub all_rows : (n count columns : ℕ) → count ≡ 2 ^ n → columns ≡ chip_columns n → count ≡ chip_rows n * columns
all_rows n count columns count_is columns_is = count_is ∙ chips_in_rows n ∙ mul_comm (chip_columns n) (chip_rows n)
    ∙ ap (λ (k : ℕ). chip_rows n * k) (sym columns_is)

pub comes_north : (n chip count plane : ℕ) (planes : List ℕ) → chip < 2 ^ n → count ≡ 2 ^ n
    → IsTurned North planes 0 count (chip_columns n) chip plane
    → (p : ℕ) → p < 16 → bit plane p ≡ bit_of_place planes (source n North (record { chip = chip; proc = p }))
comes_north n chip count plane planes there count_is is =
    let w : ℕ = chip_columns n in
    turned_comes_in n North chip 0 count w chip plane planes there (omega arith)
    (λ l. one_row_on w (chip_rows n) (chip / w) (chip % w) chip count (sym (chip-own n chip))
    (all_rows n count w count_is refl) (chip_row-lt n chip there) (chip_column-lt n chip) l ∙ omega arith)
    (λ l. last_row_on w (chip_rows n) (chip / w) (chip % w) chip count (sym (chip-own n chip))
    (all_rows n count w count_is refl) (chip_row-lt n chip there) (chip_column-lt n chip) l ∙ omega arith)
    is

pub comes_south : (n chip count plane : ℕ) (planes : List ℕ) → chip < 2 ^ n → count ≡ 2 ^ n
    → IsTurned South planes 0 count (count - chip_columns n) chip plane
    → (p : ℕ) → p < 16 → bit plane p ≡ bit_of_place planes (source n South (record { chip = chip; proc = p }))
comes_south n chip count plane planes there count_is is =
    let w : ℕ = chip_columns n in
    turned_comes_in n South chip 0 count (count - w) chip plane planes there (omega arith)
    (λ l. first_row_back w (chip_rows n) (chip / w) (chip % w) chip count (sym (chip-own n chip))
    (all_rows n count w count_is refl) (chip_row-lt n chip there) (chip_column-lt n chip) l ∙ omega arith)
    (λ l. other_row_back w (chip_rows n) (chip / w) (chip % w) chip count (sym (chip-own n chip))
    (all_rows n count w count_is refl) (chip_row-lt n chip there) (chip_column-lt n chip) l ∙ omega arith)
    is

pub comes_west : (n chip plane : ℕ) (planes : List ℕ) → chip < 2 ^ n
    → IsTurned West planes (chip / chip_columns n * chip_columns n) (chip_columns n) 1 (chip % chip_columns n) plane
    → (p : ℕ) → p < 16 → bit plane p ≡ bit_of_place planes (source n West (record { chip = chip; proc = p }))
comes_west n chip plane planes there is =
    let w : ℕ = chip_columns n in
    let from : ℕ = chip / w * w in
    let r : ℕ = chip % w in
    let few : r < w = chip_column-lt n chip in
    turned_comes_in n West chip from w 1 r plane planes there (sym (chip-own n chip))
    (λ l. ap (λ (k : ℕ). from + k) (on-other r w l))
    (λ l. let last : r ≡ w - 1 = omega (arith, l, few) in
    ap (λ (k : ℕ). from + k) (ap (λ (k : ℕ). (k + 1) % w) last ∙ on-last w (columns_some n)
    ∙ (let e : 0 ≡ r - (w - 1) = omega (arith, last) in e)))
    is

pub comes_east : (n chip plane : ℕ) (planes : List ℕ) → chip < 2 ^ n
    → IsTurned East planes (chip / chip_columns n * chip_columns n) (chip_columns n) (chip_columns n - 1)
    (chip % chip_columns n) plane
    → (p : ℕ) → p < 16 → bit plane p ≡ bit_of_place planes (source n East (record { chip = chip; proc = p }))
comes_east n chip plane planes there is =
    let w : ℕ = chip_columns n in
    let from : ℕ = chip / w * w in
    let r : ℕ = chip % w in
    let few : r < w = chip_column-lt n chip in
    let some : 0 < w = columns_some n in
    turned_comes_in n East chip from w (w - 1) r plane planes there (sym (chip-own n chip))
    (λ l. let first : r ≡ 0 = omega (arith, l, few, some) in
    ap (λ (k : ℕ). from + k) (ap (λ (k : ℕ). (k + w - 1) % w) first ∙ back-first w some
    ∙ (let e : w - 1 ≡ r + (w - 1) = omega (arith, first) in e)))
    (λ l. let later : 0 < r = omega (arith, l, few, some) in
    ap (λ (k : ℕ). from + k) (back-other r w later few
    ∙ (let e : r - 1 ≡ r - (w - (w - 1)) = omega (arith, later, some) in e)))
    is

-- ---- a round, one chip after another

pub in_rows : (rows columns q r : ℕ) → q < rows → r < columns → q * columns + r < rows * columns
in_rows rows columns q r below few =
    let more : (q + 1) * columns ≤ rows * columns = mul-le (q + 1) columns rows columns (omega arith) (omega arith) in
    let is : (q + 1) * columns ≡ q * columns + columns = omega arith in
    omega arith

-- chips of other rows are others
pub earlier_row : (columns q row r s : ℕ) → r < columns → q < row → q * columns + r ≢ row * columns + s
earlier_row columns q row r s few sooner same =
    let more : (q + 1) * columns ≤ row * columns = mul-le (q + 1) columns row columns (omega arith) (omega arith) in
    let is : (q + 1) * columns ≡ q * columns + columns = omega arith in
    omega arith

-- chips in other columns are others
pub other_column : (columns q row r s : ℕ) → r < columns → s < columns → r ≢ s → q * columns + r ≢ row * columns + s
other_column columns q row r s few others apart same = ⊎_elim
    (λ (l : q < row). earlier_row columns q row r s few l same)
    (λ (l : row ≤ q). ⊎_elim
    (λ (m : row < q). earlier_row columns row q s r others m (sym same))
    (λ (m : q ≤ row). let both : q * columns ≡ row * columns = ap (λ (n : ℕ). n * columns) (omega arith) in
    apart (omega (arith, both, same)))
    (cases_lt row q))
    (cases_lt q row)

-- chips that are told otherwise
pub joined_there : (dir : Dir) (planes out : List ℕ) (own own2 before before2 at at2 : ℕ)
    → own ≡ own2 → before ≡ before2 → at ≡ at2
    → IsJoined dir (get_or planes own 0) (get_or planes before 0) (get_or out at 0)
    → IsJoined dir (get_or planes own2 0) (get_or planes before2 0) (get_or out at2 0)
joined_there dir planes out own own2 before before2 at at2 own_is before_is at_is is p h =
    sym (ap (λ (i : ℕ). bit (get_or out i 0) p) at_is) ∙ is p h
    ∙ (λ j. if is_entry dir p then bit (get_or planes (before_is j) 0) (at_edge dir (bit_along_edge dir p))
    else bit (get_or planes (own_is j) 0) (one_back dir p))

-- one more chip has what comes in from the next
pub one_more_on : (dir : Dir) (planes out : List ℕ) (k plane : ℕ) → 0 < k → k ≤ length out
    → ((j : ℕ) → j + 1 < k → IsJoined dir (get_or planes j 0) (get_or planes (j + 1) 0) (get_or out j 0))
    → IsJoined dir (get_or planes (k - 1) 0) (get_or planes k 0) plane
    → (j : ℕ) → j + 1 < k + 1
    → IsJoined dir (get_or planes j 0) (get_or planes (j + 1) 0) (get_or (set out (k - 1) plane) j 0)
one_more_on dir planes out k plane some inside before is j h = ⊎_elim
    (λ (l : j + 1 < k). let ne : j ≢ k - 1 = omega arith in rw (get_or-set_other out (k - 1) j plane 0 ne) (before j l))
    (λ (l : k ≤ j + 1). joined_there dir planes (set out (k - 1) plane) (k - 1) j k (j + 1) (k - 1) j
    (omega arith) (omega arith) (omega arith)
    (rw (get_or-set_same out (k - 1) plane 0 (omega arith)) is))
    (cases_lt (j + 1) k)

-- or from the one before
pub one_more_back : (dir : Dir) (planes out : List ℕ) (k plane : ℕ) → 0 < k → k < length out
    → ((j : ℕ) → j + 1 < k → IsJoined dir (get_or planes (j + 1) 0) (get_or planes j 0) (get_or out (j + 1) 0))
    → IsJoined dir (get_or planes k 0) (get_or planes (k - 1) 0) plane
    → (j : ℕ) → j + 1 < k + 1
    → IsJoined dir (get_or planes (j + 1) 0) (get_or planes j 0) (get_or (set out k plane) (j + 1) 0)
one_more_back dir planes out k plane some inside before is j h = ⊎_elim
    (λ (l : j + 1 < k). let ne : j + 1 ≢ k = omega arith in rw (get_or-set_other out k (j + 1) plane 0 ne) (before j l))
    (λ (l : k ≤ j + 1). joined_there dir planes (set out k plane) k (j + 1) (k - 1) j k (j + 1)
    (omega arith) (omega arith) (omega arith)
    (rw (get_or-set_same out k plane 0 (omega arith)) is))
    (cases_lt (j + 1) k)

-- ---- all chips, by what the loops leave

-- rows and columns are all chips
pub rows_of_columns : (n rows columns : ℕ) → rows ≡ chip_rows n → columns ≡ chip_columns n → rows * columns ≡ 2 ^ n
rows_of_columns n rows columns rows_is columns_is =
    (λ j. rows_is j * columns_is j) ∙ mul_comm (chip_rows n) (chip_columns n) ∙ sym (chips_in_rows n)

pub some_columns : (n columns : ℕ) → columns ≡ chip_columns n → 0 < columns
some_columns n columns is = omega (arith, is, columns_some n)

-- what comes in from one row of chips on or back
pub all_north : (n count by : ℕ) (planes old new : List ℕ) → count ≡ 2 ^ n → by ≡ chip_columns n
    → AreTurned North planes 0 count by old new
    → (c : ℕ) → c < 2 ^ n → (p : ℕ) → p < 16
    → bit (get_or new c 0) p ≡ bit_of_place planes (source n North (record { chip = c; proc = p }))
all_north n count by planes old new count_is by_is turned c there p h =
    ap (λ (i : ℕ). bit (get_or new i 0) p) (let e : c ≡ 0 + c = omega arith in e)
    ∙ comes_north n c count (get_or new (0 + c) 0) planes there count_is
    (rw (← by_is) (turned.each c (omega (arith, there, count_is)))) p h

pub all_south : (n count by : ℕ) (planes old new : List ℕ) → count ≡ 2 ^ n → by ≡ count - chip_columns n
    → AreTurned South planes 0 count by old new
    → (c : ℕ) → c < 2 ^ n → (p : ℕ) → p < 16
    → bit (get_or new c 0) p ≡ bit_of_place planes (source n South (record { chip = c; proc = p }))
all_south n count by planes old new count_is by_is turned c there p h =
    ap (λ (i : ℕ). bit (get_or new i 0) p) (let e : c ≡ 0 + c = omega arith in e)
    ∙ comes_south n c count (get_or new (0 + c) 0) planes there count_is
    (rw (← by_is) (turned.each c (omega (arith, there, count_is)))) p h

-- or from one column on or back
pub all_west : (n columns : ℕ) (planes new : List ℕ) → columns ≡ chip_columns n
    → ((q r : ℕ) → q < chip_rows n → r < columns
    → IsTurned West planes (q * columns) columns 1 r (get_or new (q * columns + r) 0))
    → (c : ℕ) → c < 2 ^ n → (p : ℕ) → p < 16
    → bit (get_or new c 0) p ≡ bit_of_place planes (source n West (record { chip = c; proc = p }))
all_west n columns planes new columns_is turned c there p h =
    let w : ℕ = chip_columns n in
    let at : (q r : ℕ) → q < chip_rows n → r < w
    → IsTurned West planes (q * w) w 1 r (get_or new (q * w + r) 0) = rw columns_is at turned in
    ap (λ (i : ℕ). bit (get_or new i 0) p) (sym (chip-own n c))
    ∙ comes_west n c (get_or new (c / w * w + c % w) 0) planes there
    (at (c / w) (c % w) (chip_row-lt n c there) (chip_column-lt n c)) p h

pub all_east : (n columns : ℕ) (planes new : List ℕ) → columns ≡ chip_columns n
    → ((q r : ℕ) → q < chip_rows n → r < columns
    → IsTurned East planes (q * columns) columns (columns - 1) r (get_or new (q * columns + r) 0))
    → (c : ℕ) → c < 2 ^ n → (p : ℕ) → p < 16
    → bit (get_or new c 0) p ≡ bit_of_place planes (source n East (record { chip = c; proc = p }))
all_east n columns planes new columns_is turned c there p h =
    let w : ℕ = chip_columns n in
    let at : (q r : ℕ) → q < chip_rows n → r < w
    → IsTurned East planes (q * w) w (w - 1) r (get_or new (q * w + r) 0) = rw columns_is at turned in
    ap (λ (i : ℕ). bit (get_or new i 0) p) (sym (chip-own n c))
    ∙ comes_east n c (get_or new (c / w * w + c % w) 0) planes there
    (at (c / w) (c % w) (chip_row-lt n c there) (chip_column-lt n c)) p h
