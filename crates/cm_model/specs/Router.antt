-- Standing messages, and how they cross the cube in a dimension step: Hillis 1985; which message goes first is ours.
use Rattle.std.specs.Prelude.{ℕ, ◌+◌, ◌^◌, ◌==◌, ◌&&◌, ◌||◌, Bool, false, not, List, [], ◌∷◌, Option, Some, None}
use Rattle.std.specs.Prelude.{length, map, nat_lt, bit_xor, if◌then◌else◌}
use Rattle.std.specs.List.{filter}
use Rattle.std.specs.Option.{option_or}
use Rattle.cm_bits.specs.Bit.{bit}
use Rattle.cm_bits.specs.declared.place.Place.{Place}
use Rattle.cm_model.specs.declared.message.Message.{Message}
use Rattle.cm_model.specs.declared.message.Tag.{Tag}
use Rattle.cm_model.specs.declared.rule.Rule.{Rule}
use Rattle.cm_model.specs.declared.rule.Rule.TheVariants.{First, Oldest}
use Rattle.cm_model.specs.Wiring.{Routing, Way, way_of}

-- when a message came to its chip: the petit cycle, and the turn within it
pub record Since : Type 0 where
  pub cycle : ℕ
  pub turn : ℕ

-- the first is before the second
abbrev pub is_before : Since → Since → Bool
is_before s t = nat_lt s.cycle t.cycle || (s.cycle == t.cycle && nat_lt s.turn t.turn)

-- the same cycle and turn
abbrev pub same_since : Since → Since → Bool
same_since s t = s.cycle == t.cycle && s.turn == t.turn

-- a message that stands in the router of a chip
pub record Standing : Type 0 where
  pub message : Message
  pub chip : ℕ
  pub since : Since

-- the place that a message is bound for, seen from the chip where it stands
abbrev pub target_from : ℕ → Message → Place
target_from c m = record { chip = bit_xor c m.rel; proc = m.proc }

-- the place that a record is bound for: across all dimensions of its relative address
abbrev pub target : Standing → Place
target r = target_from r.chip r.message

-- the record stands at this chip
abbrev pub is_at : ℕ → Standing → Bool
is_at c r = r.chip == c

-- of a set of records, which is a list in any order, those at a chip
abbrev pub standing_at : ℕ → List Standing → List Standing
standing_at c set = filter (is_at c) set

-- a tag is older than another: its birth is lower, or of one birth its chip, or of one chip its processor
abbrev pub is_older : Tag → Tag → Bool
is_older s t =
    nat_lt s.birth t.birth
    || (s.birth == t.birth && (nat_lt s.chip t.chip || (s.chip == t.chip && nat_lt s.proc t.proc)))

-- by a rule, a message goes before another wherever the two stand
abbrev pub is_preferred : Rule → Message → Message → Bool
is_preferred First m q = false
is_preferred Oldest m q = is_older m.tag q.tag

-- by a rule, a record goes before another: its message is preferred, or neither is and it came first
abbrev pub goes_before : Rule → Standing → Standing → Bool
goes_before rule r q =
    is_preferred rule r.message q.message
    || (not (is_preferred rule q.message r.message) && is_before r.since q.since)

-- of a record and perhaps another, the one that goes first
abbrev pub first_by_rule : Rule → Standing → Option Standing → Standing
first_by_rule rule r None = r
first_by_rule rule r (Some q) = if goes_before rule q r then q else r

-- of a set, the record that goes first
abbrev pub foremost : Rule → List Standing → Option Standing
foremost rule [] = None
foremost rule (r ∷ rs) = Some (first_by_rule rule r (foremost rule rs))

-- of a record and perhaps another, the one that goes last
abbrev pub last_by_rule : Rule → Standing → Option Standing → Standing
last_by_rule rule r None = r
last_by_rule rule r (Some q) = if goes_before rule q r then r else q

-- of a set, the record that goes last
abbrev pub hindmost : Rule → List Standing → Option Standing
hindmost rule [] = None
hindmost rule (r ∷ rs) = Some (last_by_rule rule r (hindmost rule rs))

-- the message has to cross this dimension
abbrev pub has_to_cross : ℕ → Message → Bool
has_to_cross d m = bit m.rel d

-- of a set, the records that have to cross dimension d
abbrev pub crossing : ℕ → List Standing → List Standing
crossing d set = filter (λ r. has_to_cross d r.message) set

-- who is referred at a chip where these stand, in routers with room for cap messages:
-- at a full chip who goes last, else nobody
abbrev pub referred : Rule → ℕ → List Standing → Option Standing
referred rule cap here = if length here == cap then hindmost rule here else None

-- whom a chip chooses in dimension d where these stand: of those that have to cross it who goes first, else who is
-- referred
abbrev pub chosen : Rule → ℕ → ℕ → List Standing → Option Standing
chosen rule cap d here = option_or (foremost rule (crossing d here)) (referred rule cap here)

-- who leaves chip c in dimension d: nobody over a wire that is cut, else whom it chooses
unfoldable pub leaver : Way → ℕ → ℕ → ℕ → List Standing → Option Standing
leaver way cap d c set = if way.cut then None else chosen way.rule cap d (standing_at c set)

-- a record, if there is one, has this since
abbrev pub is_since : Since → Option Standing → Bool
is_since s None = false
is_since s (Some r) = same_since r.since s

-- the record is the leaver of its chip, where no other has its since
abbrev pub leaves : Routing → ℕ → ℕ → List Standing → Standing → Bool
leaves routing cap d set r = is_since r.since (leaver (way_of routing r.chip d) cap d r.chip set)

-- a message that crosses dimension d: its bit flips
abbrev pub message_across : ℕ → Message → Message
message_across d m = record m { rel = bit_xor m.rel (2 ^ d) }

-- a record that crosses dimension d in a petit cycle
abbrev pub record_across : ℕ → ℕ → Standing → Standing
record_across d cycle r = record {
  message = message_across d r.message;
  chip = bit_xor r.chip (2 ^ d);
  since = record { cycle = cycle; turn = 16 + d };
}

-- the set after the dimension step: each leaver crosses, the others stay
unfoldable pub after_dimension : Routing → ℕ → ℕ → ℕ → List Standing → List Standing
after_dimension routing cap d cycle set =
    map (λ r. if leaves routing cap d set r then record_across d cycle r else r) set
