-- Command lines as one types them, and what they ask for. Ours.
use Rattle.std.specs.Prelude.{◌≡◌, ◌-◌, ◌^◌, [], ◌∷◌, codes, true, false, None, Some, Ok, Result, ◌++◌}
use Rattle.lab_figures.specs.declared.formats.Format.TheVariants as format
use Rattle.lab_figures.specs.declared.palettes.Palette.TheVariants as palette
use Rattle.lab_figures.specs.declared.picture.Form.TheVariants as form
use Rattle.lab_study.specs.declared.studies.Table.TheVariants as table
use Rattle.lab_load.specs.declared.offers.Pattern.TheVariants as pattern
use Rattle.lab_load.specs.declared.trials.LoadTable.TheVariants as load_table
use Rattle.lab_data.specs.declared.lab.Task.TheVariants as task
use Rattle.lab_data.specs.declared.order.Order.TheVariants as order
use Rattle.lab_data.specs.declared.pictures.Shown.TheVariants as shown
use Rattle.lab_args.specs.Refusals.{Refusal}
use Rattle.lab_args.specs.Requests.{Do, Expand, Fresh, Front, Load, Nothing, Numbers, Picture, Plot, Program, Request}
use Rattle.lab_args.specs.Tasks.{left_by, reporting_task}
use Rattle.lab_args.specs.Commands.{request_of}
use Rattle.cm_bits.specs.Text.{words_in}
use Prim.Native.String.{String}

-- what a line asks for as one types it
abbrev pub typed_request : String → Result Request Refusal
typed_request line = request_of (words_in (codes line))

-- these lines ask for these things
pub record LinesAreRequests : Type 0 where
  pub get : typed_request "cm1lab get a.image 100 6"
      ≡ Ok (Do (reporting_task (task.Get order.Chips (record { at = 100; len = 6 })) (codes "a.image") Nothing))
  pub rows : typed_request "cm1lab rows a.image flag 9"
      ≡ Ok (Do (reporting_task (task.Flags order.Rows 9) (codes "a.image") Nothing))
  pub put : typed_request "cm1lab put a.image 0 8 b.image"
      ≡ Ok (Do (left_by (task.Put order.Chips (record { at = 0; len = 8 })) (codes "a.image") Numbers
      (codes "b.image")))
  pub put_rows : typed_request "cm1lab put --rows a.image 0 8 b.image"
      ≡ Ok (Do (left_by (task.Put order.Rows (record { at = 0; len = 8 })) (codes "a.image") Numbers (codes "b.image")))
  pub picture : typed_request "cm1lab picture a.image 0 1"
      ≡ Ok (Do (reporting_task (task.Show (shown.Number (record { at = 0; len = 1 }))
      (record { format = format.Netpbm form.Raw; scale = 1; is_by_dots = false })) (codes "a.image") Nothing))
  pub plain_picture : typed_request "cm1lab picture --plain a.image flag 15"
      ≡ Ok (Do (reporting_task (task.Show (shown.Flag 15)
      (record { format = format.Netpbm form.Plain; scale = 1; is_by_dots = false })) (codes "a.image") Nothing))
  pub png : typed_request "cm1lab picture --png a.image buffers"
      ≡ Ok (Do (reporting_task (task.Show shown.Buffers (record { format = format.Png; scale = 1; is_by_dots = false }))
      (codes "a.image") Nothing))
  pub picture_for_a_slide : typed_request "cm1lab picture --greatest --palette viridis --scale 64 a.image 8 16"
      ≡ Ok (Do (reporting_task (task.Show (shown.Number (record { at = 8; len = 16 }))
      (record { format = format.Colours palette.Viridis; scale = 64; is_by_dots = true }))
      (codes "a.image") Nothing))
  pub last_format : typed_request "cm1lab picture --palette heat --png a.image buffers"
      ≡ Ok (Do (reporting_task (task.Show shown.Buffers (record { format = format.Png; scale = 1; is_by_dots = false }))
      (codes "a.image") Nothing))
  pub paint : typed_request "cm1lab paint a.image b.pbm 40 b.image"
      ≡ Ok (Do (left_by (task.Paint 40) (codes "a.image") (Picture (codes "b.pbm")) (codes "b.image")))
  pub study : typed_request "cm1lab study a.image p.txt"
      ≡ Ok (Do (reporting_task (task.Study None table.Cycles) (codes "a.image") (Program (codes "p.txt"))))
  pub study_messages : typed_request "cm1lab study --messages a.image p.txt"
      ≡ Ok (Do (reporting_task (task.Study None table.Messages) (codes "a.image") (Program (codes "p.txt"))))
  pub route : typed_request "cm1lab route a.image p.txt 12 3 70"
      ≡ Ok (Do (reporting_task (task.Route None (record { from = 0; to = 2 ^ 64 - 1; waits = false })
      (record { chip = 12; proc = 3; birth = 70 })) (codes "a.image") (Program (codes "p.txt"))))
  pub study_repeats : typed_request "cm1lab study --repeats a.image p.txt"
      ≡ Ok (Do (reporting_task (task.Study None table.Repeats) (codes "a.image") (Program (codes "p.txt"))))
  pub study_room : typed_request "cm1lab study --room 3 --messages a.image p.txt"
      ≡ Ok (Do (reporting_task (task.Study (Some 3) table.Messages) (codes "a.image") (Program (codes "p.txt"))))
  pub route_part : typed_request "cm1lab route --why --from 5 --to 9 --room 3 a.image p.txt 12 3 70"
      ≡ Ok (Do (reporting_task (task.Route (Some 3) (record { from = 5; to = 9; waits = true })
      (record { chip = 12; proc = 3; birth = 70 })) (codes "a.image") (Program (codes "p.txt"))))
  pub front : typed_request "cm1lab front a.image" ≡ Ok (Front (codes "a.image") None)
  pub front_out : typed_request "cm1lab front a.image --out b.image"
      ≡ Ok (Front (codes "a.image") (Some (codes "b.image")))
  pub front_out_first : typed_request "cm1lab front --out b.image a.image"
      ≡ Ok (Front (codes "a.image") (Some (codes "b.image")))
  pub expand : typed_request "cm1lab expand own.txt" ≡ Ok (Expand (codes "own.txt"))
  pub fresh : typed_request "cm1lab fresh 2 7 a.image"
      ≡ Ok (Fresh (record { n = 2; room = 7; cuts = []; drawn = 0; seed = 1; rule = 0; out = codes "a.image" }))
  pub fresh_with_cuts : typed_request "cm1lab fresh 4 3 --cut 5 0 --rule 1 --cut 2 1 --seed 8 --cut-random 6 a.image"
      ≡ Ok (Fresh (record {
        n = 4;
        room = 3;
        cuts = record { chip = 5; dim = 0 } ∷ record { chip = 2; dim = 1 } ∷ [];
        drawn = 6;
        seed = 8;
        rule = 1;
        out = codes "a.image";
      }))
  pub load : typed_request "cm1lab load 8 7 0.5,1,1.75 400"
      ≡ Ok (Load (record {
        trial = record {
          n = 8;
          room = 7;
          rule = 0;
          pattern = pattern.Uniform;
          background = 0;
          until = 400;
          seed = 1;
          cycles = 400;
          skip = 0;
          seeds = 1;
          table = load_table.Plain;
        };
        cuts = [];
        drawn = 0;
        rates = 50 ∷ 100 ∷ 175 ∷ [];
        places = None;
      }))
  pub load_with_options : request_of (words_in
      (codes "cm1lab load 8 7 2 400 --until 10 --pattern hotspot --background 10 --cut 5 0 --seed 9 "
      ++ codes "--cut-random 6 --skip 50 --rule 1 --seeds 5 --table dimensions"))
      ≡ Ok (Load (record {
        trial = record {
          n = 8;
          room = 7;
          rule = 1;
          pattern = pattern.HotSpot;
          background = 10;
          until = 10;
          seed = 9;
          cycles = 400;
          skip = 50;
          seeds = 5;
          table = load_table.Dimensions;
        };
        cuts = record { chip = 5; dim = 0 } ∷ [];
        drawn = 6;
        rates = 200 ∷ [];
        places = None;
      }))
  pub load_with_places : typed_request "cm1lab load 4 1 2 60 --places own.txt --table latencies"
      ≡ Ok (Load (record {
        trial = record {
          n = 4;
          room = 1;
          rule = 0;
          pattern = pattern.Own;
          background = 0;
          until = 60;
          seed = 1;
          cycles = 60;
          skip = 0;
          seeds = 1;
          table = load_table.Latencies;
        };
        cuts = [];
        drawn = 0;
        rates = 200 ∷ [];
        places = Some (codes "own.txt");
      }))
  pub plot : typed_request "cm1lab plot" ≡ Ok (Plot None (record { from = 0; to = 2 ^ 64 - 1 }))
  pub plot_part : typed_request "cm1lab plot --from 5 --to 9 a.txt"
      ≡ Ok (Plot (Some (codes "a.txt")) (record { from = 5; to = 9 }))
  pub plot_file : typed_request "cm1lab plot a.csv"
      ≡ Ok (Plot (Some (codes "a.csv")) (record { from = 0; to = 2 ^ 64 - 1 }))
