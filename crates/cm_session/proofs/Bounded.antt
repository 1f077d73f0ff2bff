-- What a line asks for is for the cube and the program that it was read for.
use Rattle.std.proofs.Common.{◌≡◌, ◌≢◌, ℕ, ◌<◌, ◌^◌, ◌==◌, Bool, true, false, nat_lt, if◌then◌else◌, refl, codes}
use Rattle.std.proofs.Common.{Result, Ok, Err, IfOk, List, [], ◌∷◌}
use Rattle.std.proofs.lemmas.Bool.{ltb-true, eqb-false}
use Rattle.std.specs.Prelude.{bytes_eq}
use Rattle.cm_bits.specs.Field.{field_fault}
use Rattle.cm_model.specs.Processor.{ZERO}
use Rattle.cm_session.specs.declared.command.Command.{Command}
use Rattle.cm_session.specs.declared.command.Command.TheVariants as command
use Rattle.cm_session.specs.declared.command.Refusal.{Refusal}
use Rattle.cm_session.specs.declared.command.Refusal.TheVariants.{Range, ZeroFlag}
use Rattle.cm_session.specs.Operands.{◌>>=◌, number_in_word, three_numbers, four_numbers, below_limit, one_bit, place}
use Rattle.cm_session.specs.Operands.{command_field_unless, pokeable}
use Rattle.cm_session.specs.Commands.{command_alone, index_of, wire_operand, field_at, flag_at, poke_at, poke_flag_at}
use Rattle.cm_session.specs.Commands.{chip_operand, find_by, command_at_chip, command_named}
use Rattle.cm_session.specs.Bounds.{IsFor}

-- ---- one step after another

-- the last has it, whatever the one before answers
then_any : {A B : Type 0} (r : Result A Refusal) (f : A → Result B Refusal) (Q : B → Type 0) → ((x : A) → IfOk (f x) Q)
    → IfOk (r >>= f) Q
then_any (Ok x) f Q last = last x
then_any (Err refusal) f Q last = tt

-- it has it by what the one before answers
then_by : {A B : Type 0} (r : Result A Refusal) (f : A → Result B Refusal) (P : A → Type 0) (Q : B → Type 0) → IfOk r P
    → ((x : A) → P x → IfOk (f x) Q) → IfOk (r >>= f) Q
then_by (Ok x) f P Q first last = last x first
then_by (Err refusal) f P Q first last = tt

-- either branch has it
if_either : {A : Type 0} (b : Bool) (x y : Result A Refusal) (Q : A → Type 0) → IfOk x Q → IfOk y Q
    → IfOk (if b then x else y) Q
if_either true x y Q first last = first
if_either false x y Q first last = last

-- ---- one operand

below_if : (b : Bool) (limit x : ℕ) → nat_lt x limit ≡ b → IfOk (if b then Ok x else Err Range) (λ y. y < limit)
below_if true limit x e = ltb-true x limit e
below_if false limit x e = tt

below_is_below : (limit x : ℕ) → IfOk (below_limit limit x) (λ y. y < limit)
below_is_below limit x = below_if (nat_lt x limit) limit x refl

place_is_inside : (n c p : ℕ) → IfOk (place n c p) (λ there. there.chip < 2 ^ n)
place_is_inside n c p =
    then_by (below_limit (2 ^ n) c) _ (λ c'. c' < 2 ^ n) _ (below_is_below (2 ^ n) c)
    (λ c' is. then_any (below_limit 16 p) _ _ (λ p'. is))

pokeable_if : (b : Bool) (f : ℕ) → (f == ZERO) ≡ b → IfOk (if b then Err ZeroFlag else Ok f) (λ poked. poked ≢ ZERO)
pokeable_if true f e = tt
pokeable_if false f e = eqb-false f ZERO e

pokeable_is_not_zero : (f : ℕ) → IfOk (pokeable f) (λ poked. poked ≢ ZERO)
pokeable_is_not_zero f = pokeable_if (f == ZERO) f refl

-- ---- by the words after the first

alone_is_for : (n count : ℕ) (asked : Command) (words : List (List ℕ)) → IsFor n count asked
    → IfOk (command_alone asked words) (IsFor n count)
alone_is_for n count asked [] is = is
alone_is_for n count asked (word ∷ words) is = tt

index_is_below : (count : ℕ) (words : List (List ℕ)) → IfOk (index_of count words) (λ i. i < count)
index_is_below count [] = tt
index_is_below count (i ∷ []) = then_any (number_in_word i) _ _ (λ i'. below_is_below count i')
index_is_below count (i ∷ next ∷ words) = tt

wire_is_for : (n count : ℕ) (words : List (List ℕ)) → IfOk (wire_operand words) (IsFor n count)
wire_is_for n count [] = tt
wire_is_for n count (word ∷ []) =
    if_either (bytes_eq word (codes "on")) _ _ _ tt
    (if_either (bytes_eq word (codes "off")) _ _ _ tt
    (if_either (bytes_eq word (codes "show")) _ _ _ tt tt))
wire_is_for n count (word ∷ next ∷ words) = tt

field_is_for : (n count : ℕ) (numbers : ℕ × ℕ × ℕ × ℕ) → IfOk (field_at n numbers) (IsFor n count)
field_is_for n count (c, p, a, l) =
    then_by (place n c p) _ (λ there. there.chip < 2 ^ n) _ (place_is_inside n c p) (λ there is.
    then_any (command_field_unless a l (field_fault a l)) _ _ (λ bits. is))

flag_is_for : (n count : ℕ) (numbers : ℕ × ℕ × ℕ) → IfOk (flag_at n numbers) (IsFor n count)
flag_is_for n count (c, p, f) =
    then_by (place n c p) _ (λ there. there.chip < 2 ^ n) _ (place_is_inside n c p) (λ there is.
    then_any (below_limit 16 f) _ _ (λ flag. is))

poke_is_for : (n count : ℕ) (numbers : ℕ × ℕ × ℕ × ℕ) → IfOk (poke_at n numbers) (IsFor n count)
poke_is_for n count (c, p, a, b) =
    then_by (place n c p) _ (λ there. there.chip < 2 ^ n) _ (place_is_inside n c p) (λ there is.
    then_any (below_limit 4096 a) _ _ (λ address. then_any (one_bit b) _ _ (λ bit. is)))

poke_flag_is_for : (n count : ℕ) (numbers : ℕ × ℕ × ℕ × ℕ) → IfOk (poke_flag_at n numbers) (IsFor n count)
poke_flag_is_for n count (c, p, f, b) =
    then_by (place n c p) _ (λ there. there.chip < 2 ^ n) _ (place_is_inside n c p) (λ there is.
    then_any (below_limit 16 f) _ _ (λ flag. then_any (one_bit b) _ _ (λ bit.
    then_by (pokeable flag) _ (λ poked. poked ≢ ZERO) _ (pokeable_is_not_zero flag) (λ poked other. (is, other)))))

find_is_for : (n count : ℕ) (numbers : ℕ × ℕ × ℕ) → IfOk (find_by n numbers) (IsFor n count)
find_is_for n count (c, p, b) =
    then_by (place n c p) _ (λ there. there.chip < 2 ^ n) _ (place_is_inside n c p) (λ there is. is)

chip_is_inside : (n : ℕ) (words : List (List ℕ)) → IfOk (chip_operand n words) (λ c. c < 2 ^ n)
chip_is_inside n [] = tt
chip_is_inside n (c ∷ []) = then_any (number_in_word c) _ _ (λ c'. below_is_below (2 ^ n) c')
chip_is_inside n (c ∷ next ∷ words) = tt

-- ---- a line

-- what a first word and its operands ask for is for the cube, where the first operand is a chip
at_chip_is_for : (n count : ℕ) (name : List ℕ) (operands : List (List ℕ))
    → IfOk (command_at_chip n name operands) (IsFor n count)
at_chip_is_for n count name operands =
    if_either (bytes_eq name (codes "field")) _ _ _ (then_any (four_numbers operands) _ _ (field_is_for n count))
    (if_either (bytes_eq name (codes "flag")) _ _ _ (then_any (three_numbers operands) _ _ (flag_is_for n count))
    (if_either (bytes_eq name (codes "poke")) _ _ _ (then_any (four_numbers operands) _ _ (poke_is_for n count))
    (if_either (bytes_eq name (codes "pokeflag")) _ _ _
    (then_any (four_numbers operands) _ _ (poke_flag_is_for n count))
    (if_either (bytes_eq name (codes "buf")) _ _ _
    (then_by (chip_operand n operands) _ (λ c. c < 2 ^ n) _ (chip_is_inside n operands) (λ c is. is))
    (if_either (bytes_eq name (codes "find")) _ _ _ (then_any (three_numbers operands) _ _ (find_is_for n count))
    (if_either (bytes_eq name (codes "events")) _ _ _
    (then_by (chip_operand n operands) _ (λ c. c < 2 ^ n) _ (chip_is_inside n operands) (λ c is. is))
    tt))))))

-- what a first word and its operands ask for is for the cube and the program
pub named_is_for : (n count : ℕ) (name : List ℕ) (operands : List (List ℕ))
    → IfOk (command_named n count name operands) (IsFor n count)
named_is_for n count name operands =
    if_either (bytes_eq name (codes "step")) _ _ _ (alone_is_for n count command.Step operands tt)
    (if_either (bytes_eq name (codes "run")) _ _ _ (alone_is_for n count command.Run operands tt)
    (if_either (bytes_eq name (codes "break")) _ _ _
    (then_by (index_of count operands) _ (λ i. i < count) _ (index_is_below count operands) (λ i is. is))
    (if_either (bytes_eq name (codes "clear")) _ _ _
    (then_by (index_of count operands) _ (λ i. i < count) _ (index_is_below count operands) (λ i is. is))
    (if_either (bytes_eq name (codes "wire")) _ _ _ (wire_is_for n count operands)
    (if_either (bytes_eq name (codes "rule")) _ _ _ (alone_is_for n count command.Rule operands tt)
    (at_chip_is_for n count name operands))))))
