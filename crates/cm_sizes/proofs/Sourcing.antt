-- An image that is read of a source as its bytes come: what came at first, and what comes behind it.
use Rattle.std.proofs.Common.{◌≡◌, ◌↔◌, Bool, true, IsErrOf, ℕ, ◌+◌, ◌<◌, ◌≤◌, List, [], ◌++◌, Option, Some, None, Result, Ok, Err}
use Rattle.std.proofs.Common.{IfSome, IfOk, IfErr, length, refl, sym, ap, ◌∙◌, subst, arith, append_assoc}
use Rattle.std.proofs.lemmas.List.{length-append}
use Rattle.std.specs.Io.KnownBytes.{Consumes, Keeps}
use Rattle.cm_image_format.specs.declared.fault.ImageFault.{ImageFault}
use Rattle.cm_image_format.specs.declared.fault.ImageFault.TheVariants.{Memory}
use Rattle.cm_image_load.specs.declared.pieces.SourceFault.{SourceFault}
use Rattle.cm_image_load.specs.declared.pieces.SourceFault.TheVariants as source
use Rattle.cm_image_load.specs.Pieces.{GivesAtMost, GivesRest, IsStopped}
use Rattle.cm_array.specs.Sizes.{SizedMachine}
use Rattle.cm_sizes.specs.declared.opening.OpenFault.{OpenFault}
use Rattle.cm_sizes.specs.declared.opening.OpenFault.TheVariants.{Image, Room}
use Rattle.cm_sizes.specs.declared.opening.OpenSourceFault.{OpenSourceFault}
use Rattle.cm_sizes.specs.declared.opening.OpenSourceFault.TheVariants as unopened
use Rattle.cm_sizes.specs.Opening.{image_opened, IsUnopened}
use Rattle.cm_sizes.specs.ImageSources.{IsRefusedAs, of_open, opened_of_source}

consumes-more : (a b c : Option (List ℕ)) (xs ys : List ℕ) → Consumes a b xs → Consumes b c ys → Consumes a c (xs ++ ys)
consumes-more None b c xs ys p q = tt
consumes-more (Some held) None c xs ys p q = absurd p
consumes-more (Some held) (Some rest) None xs ys p q = absurd q
consumes-more (Some held) (Some rest) (Some last) xs ys p q =
    p ∙ ap (λ t. xs ++ t) q ∙ sym (append_assoc xs ys last)

-- bytes that came at first, and all that came behind them
few_in_all : (most left : ℕ) (front more : List ℕ) → length front + left ≡ most → length more ≤ left
    → length (front ++ more) ≤ most
few_in_all most left front more parts few = omega (arith, parts, few, length-append front more)

pub all_of : (most left : ℕ) (a b c : Option (List ℕ)) (front : List ℕ) (P : List ℕ → Type 0)
    → length front + left ≡ most → Consumes a b front → GivesRest left b c (λ more. P (front ++ more))
    → GivesRest most a c P
all_of most left a b c front P parts first given = record {
  bytes = front ++ given.bytes;
  few = few_in_all most left front given.bytes parts given.few;
  consumed = consumes-more a b c front given.bytes first given.consumed;
  end = given.end;
  so = given.so;
}

some_of : (most left : ℕ) (a b c : Option (List ℕ)) (front : List ℕ) → length front + left ≡ most
    → Consumes a b front → GivesAtMost left b c → GivesAtMost most a c
some_of most left a b c front parts first given = record {
  bytes = front ++ given.bytes;
  few = few_in_all most left front given.bytes parts given.few;
  consumed = consumes-more a b c front given.bytes first given.consumed;
}

much_of : (most left : ℕ) (a b : Option (List ℕ)) (front : List ℕ) → length front + left ≡ most → Consumes a b front
    → IfSome b (λ bytes. left < length bytes) → IfSome a (λ bytes. most < length bytes)
much_of most left None b front parts first much = tt
much_of most left (Some xs) None front parts first much = absurd first
much_of most left (Some xs) (Some ys) front parts first much =
    omega (arith, parts, much, ap length first, length-append front ys)

-- why no machine comes of what came at first and of what comes behind it, as why none comes of all
refused_of : (most left : ℕ) (a b c : Option (List ℕ)) (front : List ℕ) (P : OpenFault → List ℕ → Type 0)
    (fault : OpenSourceFault) → length front + left ≡ most → Consumes a b front
    → IsRefusedAs (λ own more. P own (front ++ more)) left b c fault → IsRefusedAs P most a c fault
refused_of most left a b c front P (unopened.Source source.Read) parts first stopped =
    some_of most left a b c front parts first stopped
refused_of most left a b c front P (unopened.Source source.TooMuch) parts first stopped =
    much_of most left a b front parts first stopped
refused_of most left a b c front P (unopened.Source (source.Image own)) parts first stopped = (
  some_of most left a b c front parts first stopped.0,
  λ other. all_of most left a b c front (P (Image own)) parts first (stopped.1 other),
)
refused_of most left a b c front P unopened.Room parts first given = all_of most left a b c front (P Room) parts first given

pub opens_all : (most left : ℕ) (a b c : Option (List ℕ)) (front : List ℕ) (P : SizedMachine → List ℕ → Type 0)
    (r : Result SizedMachine OpenSourceFault) → length front + left ≡ most → Consumes a b front
    → IfOk r (λ machine. GivesRest left b c (λ more. P machine (front ++ more)))
    → IfOk r (λ machine. GivesRest most a c (P machine))
opens_all most left a b c front P (Ok machine) parts first given = all_of most left a b c front (P machine) parts first given
opens_all most left a b c front P (Err fault) parts first given = tt

pub refuses_all : (most left : ℕ) (a b c : Option (List ℕ)) (front : List ℕ) (P : OpenFault → List ℕ → Type 0)
    (r : Result SizedMachine OpenSourceFault) → length front + left ≡ most → Consumes a b front
    → IfErr r (IsRefusedAs (λ own more. P own (front ++ more)) left b c) → IfErr r (IsRefusedAs P most a c)
refuses_all most left a b c front P (Ok machine) parts first refused = tt
refuses_all most left a b c front P (Err fault) parts first refused =
    refused_of most left a b c front P fault parts first refused

keeps_none : (a b : Option (List ℕ)) → Keeps a b → Consumes a b []
keeps_none None b kept = tt
keeps_none (Some xs) None kept = absurd kept
keeps_none (Some xs) (Some ys) kept = sym kept

-- the first read failed
pub unread : (most : ℕ) (a b : Option (List ℕ)) → Keeps a b → GivesAtMost most a b
unread most a b kept = record { bytes = []; few = omega arith; consumed = keeps_none a b kept }

-- ---- bytes behind those that came at first

pub rest_so : (most : ℕ) (a c : Option (List ℕ)) (P Q : List ℕ → Type 0) → ((more : List ℕ) → P more → Q more)
    → GivesRest most a c P → GivesRest most a c Q
rest_so most a c P Q so given = record {
  bytes = given.bytes;
  few = given.few;
  consumed = given.consumed;
  end = given.end;
  so = so given.bytes given.so;
}

pub stopped_so : (most : ℕ) (a c : Option (List ℕ)) (P Q : ImageFault → List ℕ → Type 0) (fault : SourceFault)
    → ((own : ImageFault) (more : List ℕ) → P own more → Q own more) → IsStopped most a c P fault
    → IsStopped most a c Q fault
stopped_so most a c P Q source.Read so stopped = stopped
stopped_so most a c P Q source.TooMuch so stopped = stopped
stopped_so most a c P Q (source.Image own) so stopped =
    (stopped.0, λ other. rest_so most a c (P own) (Q own) (so own) (stopped.1 other))

same_fault : {a b : ImageFault} → Image a ≡ Image b → a ≡ b
same_fault {a} {b} h = let same : Image a ≡ Image b = h in cc

-- bytes that were all taken are refused
pub held_refused : (front bytes : List ℕ) (most : ℕ) (a c : Option (List ℕ)) (fault : OpenFault)
    → GivesRest most a c (λ more. bytes ≡ front ++ more) → IsUnopened bytes fault
    → IsRefusedAs (λ own more. image_opened (front ++ more) ≡ Err own) most a c (of_open fault)
held_refused front bytes most a c (Image own) given is = (
  record { bytes = given.bytes; few = given.few; consumed = given.consumed },
  λ other. rest_so most a c (λ more. bytes ≡ front ++ more) (λ more. image_opened (front ++ more) ≡ Err (Image own))
      (λ more same. subst (λ (b : List ℕ). image_opened b ≡ Err (Image own)) same (is.own (λ e. other (same_fault e)))) given,
)
held_refused front bytes most a c Room given is =
    rest_so most a c (λ more. bytes ≡ front ++ more) (λ more. image_opened (front ++ more) ≡ Err Room)
    (λ more same. subst (λ (b : List ℕ). image_opened b ≡ Err Room) same
    (is.own (λ e. let wrong : Room ≡ Image Memory = e in cc))) given

-- ---- a failed read

pub reads_so : {T U : Type 0} (has : Bool) (fault : SourceFault) → (has ≡ true) ↔ IsErrOf {T = T} (Err fault) source.Read
    → (has ≡ true) ↔ IsErrOf {T = U} (Err (unopened.Source fault)) (unopened.Source source.Read)
reads_so has fault read = (
  λ h. let same : fault ≡ source.Read = cc (read.0 h) in ap (λ f. Err (unopened.Source f)) same,
  λ e. let same : fault ≡ source.Read = cc (e) in read.1 (ap (λ f. Err f) same),
)

-- what is told of an image that was all taken is no failed read
pub never_read : (fault : OpenFault) (told : OpenSourceFault) → told ≡ of_open fault
    → told ≡ unopened.Source source.Read → ⊥
never_read (Image own) told is read =
    let wrong : unopened.Source (source.Image own) ≡ unopened.Source source.Read = sym is ∙ read in cc
never_read Room told is read = let wrong : unopened.Room ≡ unopened.Source source.Read = sym is ∙ read in cc

-- ---- an image that was all taken, and what came of it

pub held_opens : (front bytes : List ℕ) (most : ℕ) (a c : Option (List ℕ)) (r : Result SizedMachine OpenFault)
    → GivesRest most a c (λ more. bytes ≡ front ++ more) → IfOk r (λ machine. image_opened bytes ≡ Ok machine)
    → IfOk (opened_of_source r) (λ machine. GivesRest most a c (λ more. image_opened (front ++ more) ≡ Ok machine))
held_opens front bytes most a c (Ok machine) given is =
    rest_so most a c (λ more. bytes ≡ front ++ more) (λ more. image_opened (front ++ more) ≡ Ok machine)
    (λ more same. subst (λ (b : List ℕ). image_opened b ≡ Ok machine) same is) given
held_opens front bytes most a c (Err fault) given is = tt

pub held_refuses : (front bytes : List ℕ) (most : ℕ) (a c : Option (List ℕ)) (r : Result SizedMachine OpenFault)
    → GivesRest most a c (λ more. bytes ≡ front ++ more) → IfErr r (IsUnopened bytes)
    → IfErr (opened_of_source r) (IsRefusedAs (λ own more. image_opened (front ++ more) ≡ Err own) most a c)
held_refuses front bytes most a c (Ok machine) given is = tt
held_refuses front bytes most a c (Err fault) given is = held_refused front bytes most a c fault given is

pub held_reads : (r : Result SizedMachine OpenFault) → IsErrOf (opened_of_source r) (unopened.Source source.Read) → ⊥
held_reads (Ok machine) e = absurd (cc)
held_reads (Err fault) e =
    never_read fault (of_open fault) refl (let same : of_open fault ≡ unopened.Source source.Read = cc (e) in same)
