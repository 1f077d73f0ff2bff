-- Laws of pictures that are looked at, each the contract of a function of its name. Ours.
use Rattle.std.specs.Prelude.{◌≡◌, [], ◌∷◌, true, false}
use Rattle.lab_figures.specs.declared.palettes.Palette.TheVariants as palette
use Rattle.lab_figures.specs.Looks.{enlarged, levelled}
use Rattle.lab_figures.specs.Palettes.{colour_of, colour_row}

-- these pictures are enlarged so, and have these greatest numbers
pub record PicturesAreLookedAtSo : Type 0 where
  pub twice : enlarged 2 (record { width = 2; height = 1; greatest = 7; dots = 3 ∷ 5 ∷ [] })
      ≡ record { width = 4; height = 2; greatest = 7; dots = 3 ∷ 3 ∷ 5 ∷ 5 ∷ 3 ∷ 3 ∷ 5 ∷ 5 ∷ [] }
  pub once : enlarged 1 (record { width = 2; height = 1; greatest = 7; dots = 3 ∷ 5 ∷ [] })
      ≡ record { width = 2; height = 1; greatest = 7; dots = 3 ∷ 5 ∷ [] }
  pub too_large : enlarged 40000 (record { width = 2; height = 1; greatest = 7; dots = 3 ∷ 5 ∷ [] })
      ≡ record { width = 2; height = 1; greatest = 7; dots = 3 ∷ 5 ∷ [] }
  pub dots : levelled true (record { width = 2; height = 1; greatest = 255; dots = 9 ∷ 5 ∷ [] })
      ≡ record { width = 2; height = 1; greatest = 9; dots = 9 ∷ 5 ∷ [] }
  pub no_bits : levelled true (record { width = 2; height = 1; greatest = 255; dots = 0 ∷ 1 ∷ [] })
      ≡ record { width = 2; height = 1; greatest = 2; dots = 0 ∷ 1 ∷ [] }
  pub bits : levelled true (record { width = 2; height = 1; greatest = 1; dots = 0 ∷ 0 ∷ [] })
      ≡ record { width = 2; height = 1; greatest = 1; dots = 0 ∷ 0 ∷ [] }
  pub own : levelled false (record { width = 2; height = 1; greatest = 255; dots = 9 ∷ 5 ∷ [] })
      ≡ record { width = 2; height = 1; greatest = 255; dots = 9 ∷ 5 ∷ [] }

-- these are colours of palettes, and these bytes name those of a row
pub record ColoursAreSo : Type 0 where
  pub black : colour_of palette.Heat 0 ≡ 0 ∷ 0 ∷ 0 ∷ []
  pub dark_red : colour_of palette.Heat 42 ≡ 126 ∷ 0 ∷ 0 ∷ []
  pub red : colour_of palette.Heat 85 ≡ 255 ∷ 0 ∷ 0 ∷ []
  pub yellow : colour_of palette.Heat 170 ≡ 255 ∷ 255 ∷ 0 ∷ []
  pub white : colour_of palette.Heat 255 ≡ 255 ∷ 255 ∷ 255 ∷ []
  pub violet : colour_of palette.Viridis 0 ≡ 68 ∷ 1 ∷ 84 ∷ []
  pub green : colour_of palette.Viridis 128 ≡ 33 ∷ 145 ∷ 139 ∷ []
  pub bright : colour_of palette.Viridis 255 ≡ 253 ∷ 231 ∷ 37 ∷ []
  pub row : colour_row (record { width = 3; height = 1; greatest = 9; dots = 0 ∷ 3 ∷ 9 ∷ [] }) 0 ≡ 0 ∷ 0 ∷ 85 ∷ 255 ∷ []
