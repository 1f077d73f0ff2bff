-- What words may ask for: ours.
use Rattle.std.specs.Prelude.{ℕ, Option, option_map, List}
use Rattle.lab_fresh.specs.declared.blanks.WireEnd.{WireEnd}
use Rattle.lab_data.specs.declared.lab.Task.{Task}
use Rattle.lab_args.specs.declared.blanks.Blank.{Blank}
use Rattle.lab_load.specs.declared.trials.Trial.{Trial}
use Rattle.lab_route_plot.specs.declared.legs.Cycles.{Cycles}
use Rattle.lab_args.specs.declared.loads.Loads.{Loads}
use Rattle.lab_args.specs.declared.reading.Command.{Command}
use Rattle.lab_args.specs.declared.reading.Command.TheVariants as command
use Rattle.lab_args.specs.declared.reading.Asked.{Asked}
use Rattle.lab_args.specs.declared.reading.Given.{Given}
use Rattle.lab_args.specs.declared.reading.Given.TheVariants as given
use Rattle.lab_args.specs.Refusals.{Text}

-- where that is what a task is given beside the image
pub data Beside : Type 0 where
  Nothing : Beside
  Numbers : Beside
  Picture : Text → Beside
  Program : Text → Beside

-- a task: of which image, with what beside it, and into which file, if the machine changes
pub record TaskAsked : Type 0 where
  pub task : Task
  pub image : Text
  pub beside : Beside
  pub out : Option Text

-- what is given, by the names of files
abbrev pub beside_of : Given → Beside
beside_of given.Nothing = Nothing
beside_of given.Numbers = Numbers
beside_of (given.Picture file) = Picture file.now
beside_of (given.Program file) = Program file.now

-- a task by the names of its files
abbrev pub task_asked : Asked → TaskAsked
task_asked asked =
    record {
      task = asked.task;
      image = asked.image.now;
      beside = beside_of asked.given;
      out = option_map (λ file. file.now) asked.out;
    }

-- a blank machine, and the file into which its image goes
pub record BlankAsked : Type 0 where
  pub n : ℕ
  pub room : ℕ
  pub cuts : List WireEnd
  -- so many wires are drawn, by this seed
  pub drawn : ℕ
  pub seed : ℕ
  pub rule : ℕ
  pub out : Text

-- a blank machine by the name of its file
abbrev pub blank_asked : Blank → BlankAsked
blank_asked blank = record {
  n = blank.n;
  room = blank.room;
  cuts = blank.cuts.items;
  drawn = blank.drawn;
  seed = blank.seed;
  rule = blank.rule;
  out = blank.out.now;
}

-- loads of one pattern, on one machine of which these wires are cut and so many that are drawn, at these rates
pub record LoadsAsked : Type 0 where
  pub trial : Trial
  pub cuts : List WireEnd
  pub drawn : ℕ
  pub rates : List ℕ
  -- the file with the places to which messages go, if there is one
  pub places : Option Text

-- loads, by their wires and rates and the name of the file
abbrev pub loads_asked : Loads → LoadsAsked
loads_asked loads =
    record {
      trial = loads.trial;
      cuts = loads.cuts.items;
      drawn = loads.drawn;
      rates = loads.rates.items;
      places = option_map (λ file. file.now) loads.places;
    }

-- what words may ask for
pub data Request : Type 0 where
  Do : TaskAsked → Request
  Front : Text → Option Text → Request
  Expand : Text → Request
  Fresh : BlankAsked → Request
  Load : LoadsAsked → Request
  Plot : Option Text → Cycles → Request

-- what a command asks for, by the names of its files
abbrev pub requested : Command → Request
requested (command.Task asked) = Do (task_asked asked)
requested (command.Front image out) = Front image.now (option_map (λ file. file.now) out)
requested (command.Expand source) = Expand source.now
requested (command.Fresh blank) = Fresh (blank_asked blank)
requested (command.Load loads) = Load (loads_asked loads)
requested (command.Plot file cycles) = Plot (option_map (λ name. name.now) file) cycles
