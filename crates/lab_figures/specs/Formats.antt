-- In which formats pictures are written.
use Rattle.std.specs.Prelude.{ℕ, List}
use Rattle.lab_figures.specs.declared.formats.Format.{Format}
use Rattle.lab_figures.specs.declared.formats.Format.TheVariants.{Netpbm, Png, Colours}
use Rattle.lab_figures.specs.Palettes.{coloured_png}
use Rattle.lab_figures.specs.Pictures.{Dots, picture_text}
use Rattle.lab_figures.specs.Png.{png_of}

-- a picture in a format
abbrev pub picture_bytes : Format → Dots → List ℕ
picture_bytes (Netpbm form) picture = picture_text form picture
picture_bytes Png picture = png_of picture
picture_bytes (Colours palette) picture = coloured_png palette picture
