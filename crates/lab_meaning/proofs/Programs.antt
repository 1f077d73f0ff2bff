-- The text that comes out of a source is read as its program.
use Rattle.std.proofs.Common.{◌≡◌, ℕ, Result, Ok, Err, List, [], refl, sym, ap, ◌∙◌, subst, append-nil}
use Rattle.cm_bits.specs.Text.{lines_of}
use Rattle.cm_language.specs.Program.{Reading, nothing_read, reading_after_lines, program_read, program_of}
use Rattle.lab_source.specs.declared.fault.SourceKind.TheVariants.{TooLarge}
use Rattle.lab_source.specs.declared.fault.SourceFault.{SourceFault}
use Rattle.lab_source.specs.Layout.{Layout, layout_of}
use Rattle.lab_source.specs.Expansion.{Expansion, nothing_out, carried_out, expanded, expansion_text}
use Rattle.lab_meaning.specs.Meaning.{said_by, program_said, meaning_of}
use Rattle.lab_meaning.specs.Laws.{IsTextOf, ExpansionsArePrograms, FaultsAreOfPrograms}
use Rattle.lab_meaning.proofs.Quiet.{lines_whole}
use Rattle.lab_meaning.proofs.Agreement.{IsRead, nothing_is_read, AllAgree, places_agree}

-- all that comes out of a source agrees with what it says
laid_agree : (source : List ℕ) (laid : Result Layout SourceFault)
    → AllAgree (carried_out (lines_of source) laid) (said_by (lines_of source) laid)
laid_agree source (Ok laid) =
    places_agree (lines_of source) laid.constants nothing_out laid.order nothing_is_read (lines_whole source)
laid_agree source (Err fault) = λ other. refl

pub all_agree : (source : List ℕ) → AllAgree (expanded source) (said_by (lines_of source) (layout_of (lines_of source)))
unfolding expanded
all_agree source = laid_agree source (layout_of (lines_of source))

-- a text by itself is read so
pub read_alone : (o : Expansion) → IsRead o → reading_after_lines nothing_read 1 (lines_of o.text) ≡ Ok o.reading
read_alone o is =
    ap (λ (text : List ℕ). reading_after_lines nothing_read 1 (lines_of text)) (sym (append-nil o.text)) ∙ is.on []

-- so that is its program
pub expansions_are_programs : ExpansionsArePrograms
unfolding program_of meaning_of
expansions_are_programs source text e = by (expanded source) (all_agree source) e where
  said : Result Reading SourceFault
  said = said_by (lines_of source) (layout_of (lines_of source))

  by : (come : Result Expansion SourceFault) → AllAgree come said → expansion_text come ≡ Ok text → IsTextOf source text
  by (Ok o) agree e =
      let same : o.text ≡ text = cc in
      record {
        program = record { fields = o.reading.fields; acts = o.reading.acts };
        said = ap program_said agree.1;
        read = ap (λ (t : List ℕ). program_read (reading_after_lines nothing_read 1 (lines_of t))) (sym same)
            ∙ ap program_read (read_alone o agree.0);
      }
  by (Err fault) agree e = absurd cc

-- and a fault but too many bytes is a fault of it
pub faults_are_of_programs : FaultsAreOfPrograms
unfolding meaning_of
faults_are_of_programs source fault e other = by (expanded source) (all_agree source) e where
  said : Result Reading SourceFault
  said = said_by (lines_of source) (layout_of (lines_of source))

  by : (come : Result Expansion SourceFault) → AllAgree come said → expansion_text come ≡ Err fault
      → program_said said ≡ Err fault
  by (Ok o) agree e = absurd cc
  by (Err found) agree e =
      let same : found ≡ fault = cc in
      ap program_said (agree (subst (λ (f : SourceFault). ¬ (f.kind ≡ TooLarge)) (sym same) other))
      ∙ ap (λ (f : SourceFault). Err f) same
