-- Bytes that wait and go out, one piece after another.
use Rattle.std.proofs.Common.{◌≡◌, ℕ, zero, suc, ◌+◌, ◌-◌, ◌≤◌, ◌^◌, Option, List, [], ◌++◌, refl, sym, ap, ◌∙◌, subst}
use Rattle.std.proofs.Common.{arith, append_assoc, take, drop, take-append-drop}
use Rattle.std.specs.Int.{w64}
use Rattle.std.proofs.lemmas.List.{append-nil}
use Rattle.std.specs.Prelude.{Some, Result, Ok, Err, OnOk, OnErr, IfErr}
use Rattle.std.proofs.KnownBytes.{Appends-nil, Appends-trans}
use Rattle.std.specs.Io.KnownBytes.{Appends}
use Rattle.cm_model.specs.Machine.{Machine}
use Rattle.cm_message.specs.Bytes.{number_bytes}
use Rattle.cm_image_format.specs.Header.{head_text}
use Rattle.cm_image_format.specs.Cuts.{head_of, routing_text}
use Rattle.cm_image_format.specs.Image.{chip_text}
use Rattle.cm_image_format.specs.Whole.{image_text, text_of}
use Rattle.cm_image_dump.specs.Planes.{chips_text}
use Rattle.cm_image_dump.specs.Sending.{front_text, GoesOut, GoesOutInPart}
use Rattle.cm_image_dump.proofs.Dumping.{image_at, made_more, chips_none, chips_more, tile_more}

pub goes_none : (held : Option (List ℕ)) (bytes : List ℕ) → GoesOut held held bytes bytes
goes_none held bytes = record { out = []; went = Appends-nil held; is = refl }

pub goes_to : (held holds : Option (List ℕ)) (bytes : List ℕ) (count : ℕ) → Appends held holds (take count bytes)
    → GoesOutInPart held holds bytes
goes_to held holds bytes count went = record {
  left = drop count bytes;
  so = record { out = take count bytes; went = went; is = sym (take-append-drop count bytes) };
}

-- more comes to wait
pub goes_more : (a b : Option (List ℕ)) (bytes left part whole : List ℕ) → GoesOut a b bytes left → whole ≡ bytes ++ part
    → GoesOut a b whole (left ++ part)
goes_more a b bytes left part whole gone is = record {
  out = gone.out;
  went = gone.went;
  is = is ∙ ap (λ (xs : List ℕ). xs ++ part) gone.is ∙ append_assoc gone.out left part;
}

-- what waits goes out
pub goes_on : (a b c : Option (List ℕ)) (bytes left last : List ℕ) → GoesOut a b bytes left → GoesOut b c left last
    → GoesOut a c bytes last
goes_on a b c bytes left last gone next = record {
  out = gone.out ++ next.out;
  went = Appends-trans a b c gone.out next.out gone.went next.went;
  is = gone.is ∙ ap (λ (xs : List ℕ). gone.out ++ xs) next.is ∙ sym (append_assoc gone.out next.out last);
}

pub goes_cut : (a b c : Option (List ℕ)) (bytes left : List ℕ) → GoesOut a b bytes left → GoesOutInPart b c left
    → GoesOutInPart a c bytes
goes_cut a b c bytes left gone cut = record { left = cut.left; so = goes_on a b c bytes left cut.left gone cut.so }

pub stops : (a b : Option (List ℕ)) (bytes left : List ℕ) → GoesOut a b bytes left → GoesOutInPart a b bytes
stops a b bytes left gone = record { left = left; so = gone }

pub part_more : (a b : Option (List ℕ)) (bytes more whole : List ℕ) → GoesOutInPart a b bytes → whole ≡ bytes ++ more
    → GoesOutInPart a b whole
part_more a b bytes more whole cut is = record {
  left = cut.left ++ more;
  so = goes_more a b bytes cut.left more whole cut.so is;
}

-- ---- chips

record HasRest (front whole : List ℕ) : Type 0 where
  pub rest : List ℕ
  pub is : whole ≡ front ++ rest

chips_rest : (machine : Machine) (first n k : ℕ)
    → HasRest (chips_text machine first n) (chips_text machine first (n + k))
chips_rest machine first n zero =
    let same : n + 0 ≡ n = omega arith in
    record {
      rest = [];
      is = ap (λ (j : ℕ). chips_text machine first j) same ∙ sym (append-nil (chips_text machine first n));
    }
chips_rest machine first n (suc k) =
    let before = chips_rest machine first n k in
    let last : List ℕ = chip_text (image_at machine (first + (n + k))) in
    let more : n + suc k ≡ n + k + 1 = omega arith in
    record {
      rest = before.rest ++ last;
      is = ap (λ (j : ℕ). chips_text machine first j) more
          ∙ made_more chip_text (image_at machine) first (n + k) (first + (n + k)) refl
          ∙ ap (λ (xs : List ℕ). xs ++ last) before.is
          ∙ append_assoc (chips_text machine first n) before.rest last;
    }

-- a front of the first chips is one of more chips
pub part_of_chips : (machine : Machine) (text : List ℕ) (a b : Option (List ℕ)) (first n some : ℕ) → n ≤ some
    → GoesOutInPart a b (text ++ chips_text machine first n) → GoesOutInPart a b (text ++ chips_text machine first some)
part_of_chips machine text a b first n some few cut =
    let rest = chips_rest machine first n (some - n) in
    let all : n + (some - n) ≡ some = omega (arith, few) in
    let front : List ℕ = chips_text machine first n in
    let is : text ++ chips_text machine first some ≡ (text ++ front) ++ rest.rest =
    ap (λ (xs : List ℕ). text ++ xs) (ap (λ (k : ℕ). chips_text machine first k) (sym all) ∙ rest.is)
    ∙ sym (append_assoc text front rest.rest) in
    part_more a b (text ++ front) rest.rest (text ++ chips_text machine first some) cut is

-- one more chip comes to wait
pub chip_waits : (machine : Machine) (text left pushed : List ℕ) (a b : Option (List ℕ)) (first n c : ℕ) → first + n ≡ c
    → GoesOut a b (text ++ chips_text machine first n) left → pushed ≡ left ++ chip_text (image_at machine c)
    → GoesOut a b (text ++ chips_text machine first (n + 1)) pushed
chip_waits machine text left pushed a b first n c number gone is =
    let front : List ℕ = text ++ chips_text machine first n in
    let last : List ℕ = chip_text (image_at machine c) in
    let whole : text ++ chips_text machine first (n + 1) ≡ front ++ last =
    sym (chips_more machine text front (front ++ last) first n c number refl refl) in
    subst (λ (xs : List ℕ). GoesOut a b (text ++ chips_text machine first (n + 1)) xs) (sym is)
    (goes_more a b front left last (text ++ chips_text machine first (n + 1)) gone whole)

-- so many more come to wait
pub tile_waits : (machine : Machine) (text left : List ℕ) (a b : Option (List ℕ)) (first n : ℕ)
    → GoesOut a b (text ++ chips_text machine 0 first) left
    → GoesOut a b (text ++ chips_text machine 0 (first + n)) (left ++ chips_text machine first n)
tile_waits machine text left a b first n gone =
    let front : List ℕ = text ++ chips_text machine 0 first in
    let last : List ℕ = chips_text machine first n in
    goes_more a b front left last (text ++ chips_text machine 0 (first + n)) gone
    (sym (tile_more machine text front (front ++ last) first n refl refl))

pub chips_start : (machine : Machine) (text : List ℕ) (a : Option (List ℕ)) (first : ℕ)
    → GoesOut a a (text ++ chips_text machine first 0) text
chips_start machine text a first =
    subst (λ (xs : List ℕ). GoesOut a a xs text) (chips_none machine first text) (goes_none a text)

-- ---- all

four : (a b c d : List ℕ) → (a ++ (b ++ c)) ++ d ≡ a ++ (b ++ (c ++ d))
four a b c d = simp append_assoc

pub front_and_chips : (n cap : ℕ) (machine : Machine)
    → front_text n cap machine ++ chips_text machine 0 (2 ^ n) ≡ text_of n cap machine
unfolding image_text
front_and_chips n cap machine =
    four (head_text (head_of n cap machine.routing)) (number_bytes w64 machine.clock) (routing_text machine.routing)
    (chips_text machine 0 (2 ^ n))

pub all_out : (a b c : Option (List ℕ)) (bytes left last : List ℕ) → GoesOut a b bytes left → GoesOut b c left last
    → last ≡ [] → Appends a c bytes
all_out a b c bytes left last gone next none =
    let all = goes_on a b c bytes left last gone next in
    let is : all.out ≡ bytes =
    sym (all.is ∙ ap (λ (xs : List ℕ). all.out ++ xs) none ∙ append-nil all.out) in
    subst (λ (xs : List ℕ). Appends a c xs) is all.went

-- the front of an image alone waits, and its chips come behind
pub front_first : (n cap : ℕ) (machine : Machine) (none front : List ℕ) → none ≡ []
    → front ≡ none ++ front_text n cap machine
    → front ++ chips_text machine 0 (2 ^ n) ≡ text_of n cap machine
front_first n cap machine none front empty is =
    ap (λ (xs : List ℕ). xs ++ chips_text machine 0 (2 ^ n))
    (is ∙ ap (λ (xs : List ℕ). xs ++ front_text n cap machine) empty)
    ∙ front_and_chips n cap machine

pub on_both : {T E P Q R : Type 0} (result : Result T E) → OnOk result P → OnOk result Q → (P → Q → R) → OnOk result R
on_both (Ok x) p q f = f p q
on_both (Err e) p q f = tt

pub on_ok : {T E P Q : Type 0} (result : Result T E) → OnOk result P → (P → Q) → OnOk result Q
on_ok (Ok x) p f = f p
on_ok (Err e) p f = tt

pub on_err : {T E P Q : Type 0} (result : Result T E) → IfErr result (λ e. P) → (P → Q) → IfErr result (λ e. Q)
on_err (Ok x) p f = tt
on_err (Err e) p f = f p

pub on_error : {T E P Q : Type 0} (result : Result T E) → OnErr result P → (P → Q) → OnErr result Q
on_error (Ok x) p f = tt
on_error (Err e) p f = f p

-- where nothing went out all waits
pub nothing_out : {bytes left : List ℕ} → GoesOut (Some []) (Some []) bytes left → left ≡ bytes
nothing_out {bytes} {left} gone = ap (λ (xs : List ℕ). xs ++ left) gone.went ∙ sym gone.is
