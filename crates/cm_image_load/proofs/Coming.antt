-- Bytes that come of a source, and chips that are taken in of them as they come.
use Rattle.std.proofs.Common.{◌≡◌, ℕ, ◌+◌, ◌-◌, ◌<◌, ◌≤◌, ◌^◌, List, [], ◌++◌, Option, Some, None, Ok, length, drop}
use Rattle.std.proofs.Common.{take, Result, Err, refl, sym, ap, ◌∙◌, subst, arith, append_assoc, true, fold, nat_le, IfSome, IfOk, IfErr}
use Rattle.std.specs.Io.KnownBytes.{Consumes}
use Rattle.std.proofs.lemmas.List.{length-append, drop-append-le, take-append-le, take_all, length-drop}
use Rattle.std.proofs.lemmas.List.{length-take-le, drop-take, drop-drop}
use Rattle.std.proofs.Math.Seq.{take-append-add}
use Rattle.std.specs.Prelude.{is_ok}
use Rattle.std.specs.Int.{w8}
use Rattle.cm_model.specs.declared.message.Message.{Message}
use Rattle.cm_model.specs.Array.{Chips}
use Rattle.cm_model.specs.Machine.{Machine}
use Rattle.cm_image_format.specs.declared.fault.ImageFault.{ImageFault}
use Rattle.cm_image_format.specs.declared.fault.ImageFault.TheVariants as image
use Rattle.cm_image_format.specs.declared.fault.ImageFault.TheVariants.{Count}
use Rattle.cm_image_format.specs.Reading.{Read, must, number_at, fault_in}
use Rattle.cm_image_format.specs.Header.{Head, header_part}
use Rattle.cm_image_format.specs.Cuts.{routing_part}
use Rattle.cm_image_format.specs.Image.{Listed, flags_part, memory_part, message_part, messages_part, chip_part}
use Rattle.cm_image_fields.proofs.Filling.{fill, counted_all}
use Rattle.cm_image_load.specs.declared.pieces.SourceFault.{SourceFault}
use Rattle.cm_image_load.specs.declared.pieces.SourceFault.TheVariants as source
use Rattle.cm_image_load.specs.Chips.{with_chip_image, IsBlankFrom, chips_onto, IsBegun, IsReadTo}
use Rattle.cm_image_load.specs.Pieces.{GivesAtMost, GivesRest, IsStopped, between}
use Rattle.cm_image_load.specs.Taken.{IsTakenIn, AreTakenIn}
use Rattle.cm_image_load.specs.WaitingChips.{with_waiting}
use Rattle.cm_image_load.proofs.Going.{goes_on-made, chip_goes_on, header_goes_on, routing_goes_on, last_bytes}
use Rattle.cm_image_load.proofs.Waiting.{nothing_waits}
use Rattle.cm_image_load.proofs.Standing.{same_place, no_more}
use Rattle.cm_image_load.proofs.Loading.{made_of, blank_on, chips_on, read_to_first}

-- ---- what a source gives

pub consumes_none : (o : Option (List ℕ)) → Consumes o o []
consumes_none None = tt
consumes_none (Some xs) = refl

pub consumes_more : (a b c : Option (List ℕ)) (xs ys : List ℕ) → Consumes a b xs → Consumes b c ys
    → Consumes a c (xs ++ ys)
consumes_more None b c xs ys p q = search
consumes_more (Some xs0) None c xs ys p q = search
consumes_more (Some xs0) (Some bs) None xs ys p q = search
consumes_more (Some xs0) (Some bs) (Some cs) xs ys p q = p ∙ ap (λ t. xs ++ t) q ∙ sym (append_assoc xs ys cs)

pub gives_after : (most left : ℕ) (a b c : Option (List ℕ)) (came : List ℕ) → length came + left ≡ most
    → Consumes a b came → GivesAtMost left b c → GivesAtMost most a c
gives_after most left a b c came few first given = record {
  bytes = came ++ given.bytes;
  few = omega (arith, few, given.few, length-append came given.bytes);
  consumed = consumes_more a b c came given.bytes first given.consumed;
}

pub rest_after : (most left : ℕ) (a b c : Option (List ℕ)) (came : List ℕ) (P Q : List ℕ → Type 0)
    → length came + left ≡ most → Consumes a b came → ((more : List ℕ) → P more → Q (came ++ more))
    → GivesRest left b c P → GivesRest most a c Q
rest_after most left a b c came P Q few first so given = record {
  bytes = came ++ given.bytes;
  few = omega (arith, few, given.few, length-append came given.bytes);
  consumed = consumes_more a b c came given.bytes first given.consumed;
  end = given.end;
  so = so given.bytes given.so;
}

too_much_after : (most left : ℕ) (a b : Option (List ℕ)) (came : List ℕ) → length came + left ≡ most
    → Consumes a b came → IfSome b (λ bytes. left < length bytes) → IfSome a (λ bytes. most < length bytes)
too_much_after most left None b came few first much = tt
too_much_after most left (Some xs) None came few first much = absurd first
too_much_after most left (Some xs) (Some ys) came few first much =
    omega (arith, few, much, ap length first, length-append came ys)

-- a source that stops the reading behind bytes that came
pub stopped_after : (most left : ℕ) (a b c : Option (List ℕ)) (came : List ℕ) (P Q : ImageFault → List ℕ → Type 0)
    (fault : SourceFault) → length came + left ≡ most → Consumes a b came
    → ((f : ImageFault) (more : List ℕ) → P f more → Q f (came ++ more))
    → IsStopped left b c P fault → IsStopped most a c Q fault
stopped_after most left a b c came P Q source.Read few first so stopped =
    gives_after most left a b c came few first stopped
stopped_after most left a b c came P Q source.TooMuch few first so stopped =
    too_much_after most left a b came few first stopped
stopped_after most left a b c came P Q (source.Image fault) few first so stopped = (
  gives_after most left a b c came few first stopped.0,
  λ other. rest_after most left a b c came (P fault) (Q fault) few first (so fault) (stopped.1 other),
)

-- ---- what holds of a result, and what follows

pub ok_so : {T E : Type 0} (r : Result T E) (P Q : T → Type 0) → ((x : T) → P x → Q x) → IfOk r P → IfOk r Q
ok_so (Ok x) P Q f h = f x h
ok_so (Err e) P Q f h = h

pub err_so : {T E : Type 0} (r : Result T E) (P Q : E → Type 0) → ((e : E) → P e → Q e) → IfErr r P → IfErr r Q
err_so (Ok x) P Q f h = h
err_so (Err e) P Q f h = f e h

pub rest_so : (most : ℕ) (a c : Option (List ℕ)) (P Q : List ℕ → Type 0) → ((more : List ℕ) → P more → Q more)
    → GivesRest most a c P → GivesRest most a c Q
rest_so most a c P Q so given = record {
  bytes = given.bytes;
  few = given.few;
  consumed = given.consumed;
  end = given.end;
  so = so given.bytes given.so;
}

pub stopped_so : (most : ℕ) (a c : Option (List ℕ)) (P Q : ImageFault → List ℕ → Type 0) (fault : SourceFault)
    → ((f : ImageFault) (more : List ℕ) → P f more → Q f more) → IsStopped most a c P fault → IsStopped most a c Q fault
stopped_so most a c P Q source.Read so stopped = stopped
stopped_so most a c P Q source.TooMuch so stopped = stopped
stopped_so most a c P Q (source.Image fault) so stopped =
    (stopped.0, λ other. rest_so most a c (P fault) (Q fault) (so fault) (stopped.1 other))

pub gives_at_most : (most : ℕ) (a c : Option (List ℕ)) (P : List ℕ → Type 0) → GivesRest most a c P
    → GivesAtMost most a c
gives_at_most most a c P given = record { bytes = given.bytes; few = given.few; consumed = given.consumed }

-- nothing was read
pub gives_none : (most : ℕ) (a : Option (List ℕ)) → GivesAtMost most a a
gives_none most a = record { bytes = []; few = omega arith; consumed = consumes_none a }

-- want of memory is told before anything is read, and once all is read
pub wants_memory : (most : ℕ) (a c : Option (List ℕ)) (P : ImageFault → List ℕ → Type 0) → GivesAtMost most a c
    → IsStopped most a c P (source.Image image.Memory)
wants_memory most a c P given = (given, λ other. absurd (other refl))

-- ---- chips that are taken in

pub taken_first : (n cap clock : ℕ) (first whole : Machine) (bytes : List ℕ) (old : Option (List ℕ)) (most : ℕ)
    → first ≡ whole → IsBlankFrom n 0 first → AreTakenIn n cap clock 0 first whole bytes bytes old old most most
taken_first n cap clock first whole bytes old most is blank = record {
  came = [];
  few = omega arith;
  consumed = consumes_none old;
  within = omega arith;
  blank = subst (λ (m : Machine). IsBlankFrom n 0 m) is blank;
  same = λ more. ap (λ (m : Machine). chips_onto n cap clock 0 m (bytes ++ more)) (sym is);
}

pub taken_more : (n cap clock c : ℕ) (first whole : Machine) (bytes rest more_bytes : List ℕ)
    (old new newer : Option (List ℕ)) (most left less : ℕ)
    → AreTakenIn n cap clock c first whole bytes rest old new most left → Consumes new newer more_bytes
    → length more_bytes + less ≡ left
    → AreTakenIn n cap clock c first whole bytes (rest ++ more_bytes) old newer most less
taken_more n cap clock c first whole bytes rest more_bytes old new newer most left less taken came few = record {
  came = taken.came ++ more_bytes;
  few = omega (arith, few, taken.few, length-append taken.came more_bytes);
  consumed = consumes_more old new newer taken.came more_bytes taken.consumed came;
  within = taken.within;
  blank = taken.blank;
  same = λ more.
      ap (λ (r : List ℕ). chips_onto n cap clock c whole r) (append_assoc rest more_bytes more)
      ∙ (taken.same (more_bytes ++ more)
      ∙ ap (λ (r : List ℕ). chips_onto n cap clock 0 first (bytes ++ r)) (sym (append_assoc taken.came more_bytes more)));
}

pub taken_on : (n cap clock c len : ℕ) (first machine whole : Machine) (bytes rest : List ℕ)
    (old new : Option (List ℕ)) (most left : ℕ) → c < 2 ^ n → machine.clock ≡ clock
    → AreTakenIn n cap clock c first machine bytes rest old new most left
    → IsTakenIn n cap clock c machine whole len rest
    → AreTakenIn n cap clock (c + 1) first whole bytes (drop (length rest - len) rest) old new most left
taken_on n cap clock c len first machine whole bytes rest old new most left h time taken is =
    let after : List ℕ = drop (length rest - len) rest in
    record {
      came = taken.came;
      few = taken.few;
      consumed = taken.consumed;
      within = omega (arith, h);
      blank = (blank_on n cap clock c machine whole rest after is.is taken.blank time).0;
      same = λ more.
          chips_on n cap clock c machine whole (rest ++ more) (after ++ more)
          (chips_onto n cap clock 0 first (bytes ++ (taken.came ++ more))) h (taken.same more)
          ((goes_on-made (with_chip_image c machine) (chip_part n cap clock) (chip_goes_on n cap clock)).on rest more
          after whole is.is);
    }

-- ---- bytes that stand in a window

between_front : (n : ℕ) (front zeros : List ℕ) → length front ≡ n → between 0 n (front ++ zeros) ≡ front
between_front n front zeros is =
    let all : n - 0 ≡ n = omega arith in
    ap (λ (k : ℕ). take k (front ++ zeros)) all
    ∙ (take-append-le n front zeros (omega (arith, is)) ∙ take_all n front (omega (arith, is)))

pub between_keep : (from to count : ℕ) (bytes : List ℕ) → from ≤ to → to ≤ length bytes
    → count ≤ length (between from to bytes)
    → between (to - count) to bytes ≡ drop (length (between from to bytes) - count) (between from to bytes)
between_keep from to count bytes order within few =
    let long : length (between from to bytes) ≡ to - from =
    length-take-le (to - from) (drop from bytes) (omega (arith, length-drop from bytes, within)) in
    let over : ℕ = to - from - count in
    let parts : over + count ≡ to - from = omega (arith, few, long) in
    let start : from + over ≡ to - count = omega (arith, parts, order) in
    let end : to - (to - count) ≡ count = omega (arith, parts, order) in
    sym (ap (λ (k : ℕ). drop (k - count) (between from to bytes)) long
    ∙ (ap (λ (k : ℕ). drop over (take k (drop from bytes))) (sym parts)
    ∙ (drop-take over count (drop from bytes)
    ∙ (ap (λ (xs : List ℕ). take count xs) (drop-drop over from bytes ∙ ap (λ (k : ℕ). drop k bytes) start)
    ∙ ap (λ (k : ℕ). take k (drop (to - count) bytes)) (sym end)))))

-- more bytes are written behind them
between_more : (from to count : ℕ) (bytes written : List ℕ) → from ≤ to → to ≤ length bytes
    → between from (to + count) (take to bytes ++ written) ≡ between from to bytes ++ take count written
between_more from to count bytes written order within =
    let some : ℕ = to - from in
    let parts : from + some ≡ to = omega (arith, order) in
    let long : length (between from to bytes) ≡ some =
    length-take-le some (drop from bytes) (omega (arith, length-drop from bytes, within)) in
    let front : drop from (take to bytes) ≡ between from to bytes =
    ap (λ (k : ℕ). drop from (take k bytes)) (sym parts) ∙ drop-take from some bytes in
    let all : to + count - from ≡ length (between from to bytes) + count = omega (arith, parts, long) in
    ap (λ (xs : List ℕ). take (to + count - from) xs)
    (drop-append-le from (take to bytes) written (omega (arith, order, length-take-le to bytes within))
    ∙ ap (λ (xs : List ℕ). xs ++ written) front)
    ∙ (ap (λ (k : ℕ). take k (between from to bytes ++ written)) all
    ∙ take-append-add (between from to bytes) written count)

-- ---- an image whose header and cut wires stand in the first bytes

pub begun_on : (n cap : ℕ) (header : Head × ℕ) (front chips more : List ℕ) (machine : Machine)
    → IsBegun n cap header front chips machine → IsReadTo n cap header 0 machine (chips ++ more) (front ++ more)
begun_on n cap header front chips more machine begun =
    read_to_first n cap header (front ++ more) (chips ++ more) machine (record {
      front = begun.front ++ more;
      header_is = (header_goes_on n cap).on front more begun.front header begun.header_is;
      routing_is = (routing_goes_on n header.0).on begun.front more chips machine.routing begun.routing_is;
      blank = begun.blank;
    })

pub begun_few : (n cap most : ℕ) (header : Head × ℕ) (front chips : List ℕ) (machine : Machine)
    → IsBegun n cap header front chips machine → length front ≤ most → length chips ≤ most
begun_few n cap most header front chips machine begun few =
    let one = last_bytes (header_part n cap) front begun.front header (header_goes_on n cap) begun.header_is in
    let two = last_bytes (routing_part n header.0) begun.front chips machine.routing (routing_goes_on n header.0)
    begun.routing_is in
    omega (arith, one.0, two.0, few)

-- what is left of an image once chips were taken in of bytes as they came
pub left_of : (n cap : ℕ) (header : Head × ℕ) (c most left : ℕ) (first machine : Machine)
    (chips rest more whole : List ℕ) (old new : Option (List ℕ))
    → (taken : AreTakenIn n cap header.1 c first machine chips rest old new most left)
    → IsReadTo n cap header 0 first (chips ++ (taken.came ++ more)) whole
    → IsReadTo n cap header c machine (rest ++ more) whole
left_of n cap header c most left first machine chips rest more whole old new taken to = record {
  front = to.front;
  chips = to.chips;
  routing = to.routing;
  header_is = to.header_is;
  routing_is = to.routing_is;
  same = taken.same more ∙ to.same;
}

-- ---- messages that stand in bytes

-- what is read is not kept
abbrev pub passed_over : ℕ → Message → ℕ
passed_over into m = into

pub messages_stand : (n cap clock count i : ℕ) (rest after bytes : List ℕ) → count ≤ i → count ≤ cap
    → number_at w8 bytes ≡ Ok (count, after)
    → fill same_place (λ k. message_part n clock) passed_over (count - i) 0 0 rest
    ≡ fill same_place (λ k. message_part n clock) passed_over count 0 0 after
    → is_ok (messages_part n cap clock bytes) ≡ true
messages_stand n cap clock count i rest after bytes h most is same =
    let read = made_of (λ messages. fold passed_over 0 messages) (messages_part n cap clock) bytes rest 0
    (counted_all w8 (must Count (λ k. nat_le k cap)) same_place (λ k. message_part n clock)
    passed_over count i 0 0 0 0 rest after bytes h (no_more cap count most) is same) in
    ap is_ok read.1

value_of : {A : Type 0} (r : Read A) → is_ok r ≡ true → (x : A × List ℕ) × (r ≡ Ok x)
value_of (Ok x) h = (x, refl)
value_of (Err fault) h = absurd (cc)

-- a chip whose parts stand without a fault
pub chip_stands : (n cap clock : ℕ) (bytes after behind flags : List ℕ) (listed : List Listed)
    → flags_part bytes ≡ Ok (flags, after) → memory_part after ≡ Ok (listed, behind)
    → is_ok (messages_part n cap clock behind) ≡ true → is_ok (chip_part n cap clock bytes) ≡ true
unfolding chip_part
chip_stands n cap clock bytes after behind flags listed flags_are memory_is stand =
    let messages = value_of (messages_part n cap clock behind) stand in
    rw (flags_are, memory_is, messages.1) refl

pub between_read : (from to count : ℕ) (bytes read behind now : List ℕ) → from ≤ to → to ≤ length bytes
    → count ≤ length read → between from to bytes ≡ now
    → between from (to + count) (take to bytes ++ (read ++ behind)) ≡ now ++ take count read
between_read from to count bytes read behind now order within few is =
    between_more from to count bytes (read ++ behind) order within
    ∙ (λ i. is i ++ take-append-le count read behind few i)

pub between_of : (front bytes all zeros : List ℕ) → bytes ≡ front → all ≡ bytes ++ zeros
    → between 0 (length front) all ≡ front
between_of front bytes all zeros is with_zeros =
    ap (λ (xs : List ℕ). between 0 (length front) xs) (with_zeros ∙ ap (λ (xs : List ℕ). xs ++ zeros) is)
    ∙ between_front (length front) front zeros refl

-- nothing is put in and nothing waits: the bytes are all chips
pub first_to : (n cap : ℕ) (header : Head × ℕ) (machine : Machine) (waiting : Chips) (rest bytes whole : List ℕ)
    → waiting ≡ [] → rest ≡ bytes → IsReadTo n cap header 0 machine bytes whole
    → IsReadTo n cap header 0 (with_waiting 0 machine waiting) rest whole
first_to n cap header machine waiting rest bytes whole none is to =
    subst (λ (w : Chips). IsReadTo n cap header 0 (with_waiting 0 machine w) rest whole) (sym none)
    (subst (λ (m : Machine). IsReadTo n cap header 0 m rest whole) (sym (nothing_waits 0 machine))
    (subst (λ (r : List ℕ). IsReadTo n cap header 0 machine r whole) (sym is) to))

pub first_blank : (n : ℕ) (machine : Machine) (waiting : Chips) → waiting ≡ [] → IsBlankFrom n 0 machine
    → IsBlankFrom n 0 (with_waiting 0 machine waiting)
first_blank n machine waiting none blank =
    subst (λ (w : Chips). IsBlankFrom n 0 (with_waiting 0 machine w)) (sym none)
    (subst (λ (m : Machine). IsBlankFrom n 0 m) (sym (nothing_waits 0 machine)) blank)

pub is_fault : (read : Result Machine ImageFault) (fault : ImageFault) → fault_in read ≡ Some fault → read ≡ Err fault
is_fault (Ok machine) fault h = absurd (let wrong : None ≡ Some fault = h in cc)
is_fault (Err own) fault h = let same : own ≡ fault = cc in ap (λ f. Err f) same
