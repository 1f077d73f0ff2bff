-- The words that a command takes, as help tells them: ours.
use Rattle.std.specs.Prelude.{ℕ, ◌==◌, ◌&&◌, Bool, if◌then◌else◌, [], ◌++◌, codes, bytes_eq, fold}
use Rattle.std.specs.List.{after_first, before_first}
use Rattle.std.specs.Str.Lines.{lines}
use Rattle.cm_bits.specs.Text.{has_bytes}
use Rattle.lab_args.specs.declared.help.TheConstants.{HELP}
use Rattle.lab_args.specs.Refusals.{Text}

-- a byte is a space, and no other blank
abbrev pub is_plain_space : ℕ → Bool
is_plain_space byte = byte == 32

-- what stands before the first space of a line
abbrev pub first_word : Text → Text
first_word line = before_first is_plain_space line

-- what stands behind the first space of a line
abbrev pub behind_word : Text → Text
behind_word line = after_first is_plain_space line

-- a line of help has the words of this command: they stand behind the program's name
abbrev pub is_usage : Text → Text → Bool
is_usage command line =
    bytes_eq (first_word line) (codes "cm1lab") && bytes_eq (first_word (behind_word line)) command

-- words, and others that may stand in their place
abbrev pub or_words : Text → Text → Text
or_words told words = if has_bytes told then told ++ codes ", or " ++ words else words

-- the words so far, and those of a line of help
abbrev pub with_usage : Text → Text → Text → Text
with_usage command told line = if is_usage command line then or_words told (behind_word line) else told

-- the words of a command; nothing where help tells of none of this name
unfoldable pub usage_of : Text → Text
usage_of command = fold (with_usage command) [] (lines HELP.now)
