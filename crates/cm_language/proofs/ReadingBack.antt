-- The program of a text is made as programs are, and so its listing reads back.
use Rattle.std.proofs.Common.{◌≡◌, ℕ, Result, Ok, Err, List, refl, ap, subst, arith}
use Rattle.std.specs.Result.{IfOk}
use Rattle.cm_bits.specs.Text.{lines_of}
use Rattle.cm_language.specs.declared.fault.AsmFault.{AsmFault}
use Rattle.cm_language.specs.Laws.{ProgramsAreWhole, ListingsReadBack, ListingsAreTheirOwn}
use Rattle.cm_language.specs.Listing.{listing, program_listed, listing_of}
use Rattle.cm_language.specs.Program.{Reading, ProgramText, nothing_read, reading_after_lines, program_read, program_of}
use Rattle.cm_language.specs.Whole.{IsProgram}
use Rattle.cm_language.proofs.ListedText.{programs_are_listed}
use Rattle.cm_language.proofs.TextsRead.{IsReading, after_lines_ok}

-- what was read is a program
is_program : (read : Result Reading AsmFault) (program : ProgramText) → IfOk read IsReading
    → program_read read ≡ Ok program → IsProgram program
is_program (Ok r) program is e =
    let same : record { fields = r.fields; acts = r.acts } ≡ program = cc in
    subst IsProgram same (record { fields = is.fields; acts = is.acts; few = is.few })
is_program (Err fault) program is e = absurd cc

-- the program of a text is made so
pub programs_are_whole : ProgramsAreWhole
unfolding program_of
programs_are_whole text program e =
    let start : IsReading nothing_read = record { fields = tt; context = tt; acts = tt; few = omega arith } in
    is_program (reading_after_lines nothing_read 1 (lines_of text)) program
    (after_lines_ok nothing_read 1 (lines_of text) start) e

-- the listing of a text's program is a text of that program
pub listings_read_back : ListingsReadBack
listings_read_back text program e = programs_are_listed program (programs_are_whole text program e)

-- a listing's own listing
from_program : (read : Result ProgramText AsmFault) (listed : List ℕ)
    → ((program : ProgramText) → read ≡ Ok program → program_of (listing program) ≡ Ok program)
    → program_listed read ≡ Ok listed
    → listing_of listed ≡ Ok listed
from_program (Ok program) listed back e =
    let same : listing program ≡ listed = cc in
    subst (λ text. listing_of text ≡ Ok text) same (ap program_listed (back program refl))
from_program (Err fault) listed back e = absurd cc

-- the listing of a listing is that listing
pub listings_are_their_own : ListingsAreTheirOwn
listings_are_their_own text listed e = from_program (program_of text) listed (listings_read_back text) e
