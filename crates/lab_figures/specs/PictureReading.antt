-- Reading a picture: the parts of a text, one behind another, and its first fault. The forms are Netpbm's.
use Rattle.std.specs.Prelude.{◌≡◌, ℕ, zero, suc, ◌+◌, ◌-◌, ◌*◌, ◌/◌, ◌%◌, ◌==◌, ◌||◌, ◌&&◌, not, Bool, true, false, nat_lt}
use Rattle.std.specs.Prelude.{if◌then◌else◌, Option, Some, None, Result, Ok, Err, MatchResult, List, [], ◌∷◌, ◌++◌, map}
use Rattle.std.specs.Prelude.{◌≢◌, length, take, drop, slice_index}
use Rattle.std.specs.List.{position_or_len, before_first, count_by, range_with_len}
use Rattle.cm_bits.specs.Bit.{bit, bit_number}
use Rattle.cm_bits.specs.Text.{number_of, has_bytes}
use Rattle.lab_figures.specs.declared.picture.Form.{Form}
use Rattle.lab_figures.specs.declared.picture.Form.TheVariants.{Raw, Plain}
use Rattle.lab_figures.specs.declared.picture_reading.PictureFault.{PictureFault}
use Rattle.lab_figures.specs.declared.picture_reading.PictureFault.TheVariants.{Magic, NotNumber, Size, Greatest, TooLarge}
use Rattle.lab_figures.specs.declared.picture_reading.PictureFault.TheVariants.{TooFew, TooMany, Memory}
use Rattle.lab_figures.specs.Pictures.{Dots, row_bytes}

-- a call answers what a definition gives, where its answer is seen in this way
abbrev pub GivesPicture : {X Y : Type 0} → (X → Y) → Result X PictureFault → Result Y PictureFault → Type 0
GivesPicture view result given = MatchResult result (λ x. given ≡ Ok (view x)) (λ fault. given ≡ Err fault)

-- the same of a call that wants memory: or memory is out
abbrev pub GivesDots : {X Y : Type 0} → (X → Y) → Result X PictureFault → Result Y PictureFault → Type 0
GivesDots view result given = MatchResult result (λ x. given ≡ Ok (view x)) (λ fault. fault ≢ Memory → given ≡ Err fault)

infixl 10 ◌>>=◌
-- what comes after, unless a fault came before
abbrev pub ◌>>=◌ : {A B : Type 0} → Result A PictureFault → (A → Result B PictureFault) → Result B PictureFault
(Ok x) >>= f = f x
(Err fault) >>= f = Err fault

-- ---- words

-- what stands between words: tab, line feed, vertical tab, form feed, carriage return, space
abbrev pub is_space : ℕ → Bool
is_space byte = nat_lt 8 byte && nat_lt byte 14 || byte == 32

-- the bytes behind spaces and comments: a comment goes from # to the end of its line
unfoldable pub behind_blanks : Bool → List ℕ → List ℕ
behind_blanks in_comment [] = []
behind_blanks true (byte ∷ bytes) = behind_blanks (not (byte == 10)) bytes
behind_blanks false (byte ∷ bytes) =
    if byte == 35 then behind_blanks true bytes
    else (if is_space byte then behind_blanks false bytes else byte ∷ bytes)

-- the line of a text in which its last bytes begin, counted from 1
unfoldable pub line_of_rest : List ℕ → List ℕ → ℕ
line_of_rest text rest = 1 + count_by (λ byte. byte == 10) (take (length text - length rest) text)

-- a number and what stands behind its word, or its line as a fault
abbrev pub or_line : List ℕ → List ℕ → Option ℕ → Result (ℕ × List ℕ) PictureFault
or_line text rest (Some x) = Ok (x, drop (position_or_len is_space rest) rest)
or_line text rest None = Err (NotNumber (line_of_rest text rest))

-- the number whose word stands here
abbrev pub picture_number_at : List ℕ → List ℕ → Result (ℕ × List ℕ) PictureFault
picture_number_at text rest = or_line text rest (number_of (before_first is_space rest))

-- the number whose word comes first
abbrev pub number_part : List ℕ → List ℕ → Result (ℕ × List ℕ) PictureFault
number_part text bytes = picture_number_at text (behind_blanks false bytes)

-- ---- the header

-- what a picture is by its first two bytes: its form, and whether its dots have one bit
abbrev pub form_in : List ℕ → Option (Form × Bool)
form_in text =
    if slice_index text 0 == 80
    then (if slice_index text 1 == 49 then Some (Plain, true)
    else (if slice_index text 1 == 50 then Some (Plain, false)
    else (if slice_index text 1 == 52 then Some (Raw, true)
    else (if slice_index text 1 == 53 then Some (Raw, false) else None))))
    else None

-- the greatest number of a dot: a PBM tells none, and has dots 0 and 1
abbrev pub greatest_part : List ℕ → Bool → List ℕ → Result (ℕ × List ℕ) PictureFault
greatest_part text true bytes = Ok (1, bytes)
greatest_part text false bytes = number_part text bytes >>= λ read.
    if nat_lt 1 read.0 && nat_lt read.0 65536 then Ok read else Err (Greatest read.0)

-- the greatest number, where width and height are those that are wanted
abbrev pub sized_part : List ℕ → ℕ → ℕ → Bool → ℕ → ℕ → List ℕ → Result (ℕ × List ℕ) PictureFault
sized_part text width height is_bits w h bytes =
    if w == width && h == height then greatest_part text is_bits bytes else Err (Size w h width height)

-- the greatest number behind width and height
abbrev pub sizes_part : List ℕ → ℕ → ℕ → Bool → List ℕ → Result (ℕ × List ℕ) PictureFault
sizes_part text width height is_bits bytes =
    number_part text bytes >>= λ w. number_part text w.1 >>= λ h. sized_part text width height is_bits w.0 h.0 h.1

-- the form, the greatest number and the bytes behind the header
abbrev pub picture_of_kind : List ℕ → ℕ → ℕ → Option (Form × Bool) → Result (Form × ℕ × List ℕ) PictureFault
picture_of_kind text width height None = Err Magic
picture_of_kind text width height (Some kind) =
    sizes_part text width height kind.1 (drop 2 text) >>= λ read. Ok (kind.0, read.0, read.1)

-- what the header of a text tells, where the picture must have this width and height; the bytes behind it come last
unfoldable pub picture_header_part : List ℕ → ℕ → ℕ → Result (Form × ℕ × List ℕ) PictureFault
picture_header_part text width height = picture_of_kind text width height (form_in text)

-- ---- the dots as numbers

-- a digit 0 or 1 of a plain PBM, behind which the next may stand at once
abbrev pub digit_at : List ℕ → List ℕ → Result (ℕ × List ℕ) PictureFault
digit_at text rest =
    if slice_index rest 0 == 48 then Ok (0, drop 1 rest)
    else (if slice_index rest 0 == 49 then Ok (1, drop 1 rest) else Err (NotNumber (line_of_rest text rest)))

-- the dot that stands here
abbrev pub dot_here : List ℕ → ℕ → List ℕ → Result (ℕ × List ℕ) PictureFault
dot_here text greatest rest =
    if has_bytes rest then (if greatest == 1 then digit_at text rest else picture_number_at text rest) else Err TooFew

-- the dot that comes first
abbrev pub plain_dot : List ℕ → ℕ → List ℕ → Result (ℕ × List ℕ) PictureFault
plain_dot text greatest bytes = dot_here text greatest (behind_blanks false bytes)

-- the dots so far and so many more, and what stands behind them
unfoldable pub after_dots : List ℕ → ℕ → ℕ → List ℕ → List ℕ → Result (List ℕ × List ℕ) PictureFault
after_dots text greatest zero dots bytes = Ok (dots, bytes)
after_dots text greatest (suc count) dots bytes =
    plain_dot text greatest bytes >>= λ read. after_dots text greatest count (dots ++ read.0 ∷ []) read.1

-- so many dots, behind which nothing stands
unfoldable pub plain_dots : List ℕ → ℕ → ℕ → List ℕ → Result (List ℕ) PictureFault
plain_dots text greatest count bytes = after_dots text greatest count [] bytes >>= λ read.
    if has_bytes (behind_blanks false read.1) then Err TooMany else Ok read.0

-- ---- the dots as bytes

-- how many bytes they have
abbrev pub raster_len : ℕ → ℕ → ℕ → ℕ
raster_len greatest width height =
    if greatest == 1 then height * row_bytes width
    else (if nat_lt greatest 256 then height * width else 2 * (height * width))

-- the dot in a row and a column of a raw PBM: eight a byte, the leftmost in the highest bit
abbrev pub packed_dot : List ℕ → ℕ → ℕ → ℕ → ℕ
packed_dot raster width y x = bit_number (bit (slice_index raster (y * row_bytes width + x / 8)) (7 - x % 8))

-- the dot of a number: numbers above 255 have two bytes, the higher first
abbrev pub raw_dot : List ℕ → ℕ → ℕ → ℕ → ℕ
raw_dot raster greatest width i =
    if greatest == 1 then packed_dot raster width (i / width) (i % width)
    else (if nat_lt greatest 256 then slice_index raster i
    else 256 * slice_index raster (2 * i) + slice_index raster (2 * i + 1))

-- all dots, where there are as many bytes as they have
abbrev pub raster_dots : ℕ → ℕ → ℕ → List ℕ → Result (List ℕ) PictureFault
raster_dots greatest width height raster =
    if nat_lt (length raster) (raster_len greatest width height) then Err TooFew
    else (if nat_lt (raster_len greatest width height) (length raster) then Err TooMany
    else Ok (map (raw_dot raster greatest width) (range_with_len 0 (height * width))))

-- the same behind one space
unfoldable pub raw_dots : ℕ → ℕ → ℕ → List ℕ → Result (List ℕ) PictureFault
raw_dots greatest width height bytes =
    if is_space (slice_index bytes 0) then raster_dots greatest width height (drop 1 bytes) else Err TooFew

-- ---- the whole

-- the dots in a form
abbrev pub dots_part : Form → List ℕ → ℕ → ℕ → ℕ → List ℕ → Result (List ℕ) PictureFault
dots_part Plain text greatest width height bytes = plain_dots text greatest (height * width) bytes
dots_part Raw text greatest width height bytes = raw_dots greatest width height bytes

-- the place of the first dot with a number above the greatest
abbrev pub first_large : ℕ → List ℕ → ℕ
first_large greatest dots = position_or_len (λ dot. nat_lt greatest dot) dots

-- dots of which none has
abbrev pub judged : ℕ → ℕ → List ℕ → Result (List ℕ) PictureFault
judged greatest width dots =
    if nat_lt (first_large greatest dots) (length dots)
    then Err (TooLarge (first_large greatest dots / width) (first_large greatest dots % width)) else Ok dots

-- the picture of a text, which is to have this width and height, or its first fault
unfoldable pub picture_in : ℕ → ℕ → List ℕ → Result Dots PictureFault
picture_in width height text = picture_header_part text width height >>= λ header.
    dots_part header.0 text header.1 width height header.2 >>= λ dots. judged header.1 width dots >>= λ good.
    Ok (record { width = width; height = height; greatest = header.1; dots = good })
