-- The one list of refusals: names by number, and the numbers of faults of texts and images. Ours.
use Rattle.std.specs.Prelude.{ℕ, ◌-◌, List, [], ◌∷◌, codes, get_or}
use Rattle.cm_language.specs.declared.fault.AsmKind.{AsmKind}
use Rattle.cm_language.specs.declared.fault.AsmKind.TheVariants as kind
use Rattle.cm_image_format.specs.declared.fault.ImageFault.{ImageFault}
use Rattle.cm_image_format.specs.declared.fault.ImageFault.TheVariants as image

-- the names of all refusals, the first of them number 1
abbrev pub fault_names : List (List ℕ)
fault_names =
    codes "Width" ∷ codes "Range" ∷ codes "ZeroFlag" ∷ codes "Dim" ∷ codes "Cap" ∷ codes "Long" ∷
    codes "Clock" ∷ codes "Memory" ∷ codes "NoThread" ∷ codes "Overlap" ∷ codes "Lengths" ∷ codes "Scratch" ∷
    codes "Context" ∷ codes "Memory" ∷ codes "Word" ∷ codes "Operands" ∷ codes "Number" ∷ codes "Name" ∷
    codes "Twice" ∷ codes "TooLong" ∷ codes "Short" ∷ codes "Magic" ∷ codes "Version" ∷ codes "Shape" ∷
    codes "Order" ∷ codes "Count" ∷ codes "Value" ∷ codes "TagTwice" ∷ codes "Extra" ∷ codes "Read" ∷
    codes "Write" ∷ codes "TooMuch" ∷ codes "Memory" ∷ codes "NotNow" ∷ codes "Unfinished" ∷ codes "Workers" ∷
    codes "Split" ∷ codes "BadLine" ∷ []

-- the name of a number
abbrev pub name_of : ℕ → List ℕ
name_of number = get_or fault_names (number - 1) []

-- the number of what is wrong with a line of a program text
abbrev pub kind_number : AsmKind → ℕ
kind_number kind.Width = 1
kind_number kind.Range = 2
kind_number kind.Overlap = 10
kind_number kind.Lengths = 11
kind_number kind.Scratch = 12
kind_number kind.Context = 13
kind_number kind.Memory = 14
kind_number kind.Word = 15
kind_number kind.Operands = 16
kind_number kind.Number = 17
kind_number kind.Name = 18
kind_number kind.Twice = 19
kind_number kind.TooLong = 20

-- the number of what is wrong with an image
abbrev pub image_number : ImageFault → ℕ
image_number image.Short = 21
image_number image.Magic = 22
image_number image.Version = 23
image_number image.Shape = 24
image_number image.Order = 25
image_number image.Count = 26
image_number image.Value = 27
image_number image.TagTwice = 28
image_number image.Extra = 29
image_number image.Memory = 33
