-- Laws of what is drawn, each the contract of a function of its name: values that are known from elsewhere.
use Rattle.std.specs.Prelude.{◌≡◌, [], ◌∷◌}
use Rattle.lab_fresh.specs.Draws.{draw_of}
use Rattle.lab_fresh.specs.Drawn.{wire_end, drawn_wires}

-- the first draws of two seeds are those that are published of SplitMix64
pub record DrawsArePublishedOnes : Type 0 where
  pub first : draw_of 1234567 0 ≡ 6457827717110365317
  pub second : draw_of 1234567 1 ≡ 3203168211198807973
  pub third : draw_of 1234567 2 ≡ 9817491932198370423
  pub fourth : draw_of 1234567 3 ≡ 4593380528125082431
  pub fifth : draw_of 1234567 4 ≡ 16408922859458223821
  pub of_0 : draw_of 0 0 ≡ 0xe220_a839_7b1d_cdaf

-- a cube of eight chips has twelve wires: the first over each dimension, the last, and one in between
pub record WiresAreDrawnSo : Type 0 where
  pub first : wire_end 3 0 ≡ record { chip = 0; dim = 0 }
  pub second : wire_end 3 1 ≡ record { chip = 2; dim = 0 }
  pub next_dimension : wire_end 3 4 ≡ record { chip = 0; dim = 1 }
  pub between : wire_end 3 6 ≡ record { chip = 4; dim = 1 }
  pub last : wire_end 3 11 ≡ record { chip = 3; dim = 2 }
  pub three : drawn_wires 3 3 1
      ≡ record { chip = 0; dim = 1 } ∷ record { chip = 1; dim = 1 } ∷ record { chip = 5; dim = 1 } ∷ []
  pub all : drawn_wires 1 1 9 ≡ record { chip = 0; dim = 0 } ∷ []
  pub none : drawn_wires 2 0 9 ≡ []
