-- What a command has for the arguments and for the subcommands that are added to it in turn.
use Rattle.std.proofs.Common.{◌≡◌, ℕ, ◌+◌, ◌<◌, List, [], ◌∷◌, ◌++◌, map, length, take, get_or, sym, ap, ◌∙◌, arith, subst}
use Rattle.std.proofs.Common.{append_assoc, Some, suc, true, false, codes, ◌||◌}
use Rattle.std.proofs.lemmas.List.{map-append, take_more}
use Rattle.std.proofs.lemmas.List.Elements.{All-push}
use Rattle.std.specs.List.{All}
use Rattle.std.specs.Borrow.{Bor}
use Rattle.clap.specs.Walk.{Rule, Text, rule_of, texts}
use Rattle.clap.specs.Simple.{Shape, app_of, app_of_fields, new_app, new_rule, on_top, shape_of}
use Rattle.clap.specs.Built.{AddsArg, AddsInTurn, AddsSubcommand}
use Rattle.clap.specs.declared.builder.arg.Arg.{Arg}
use Rattle.clap.specs.declared.builder.command.Command.{Command}
use Rattle.clap.specs.declared.builder.command.Command.TheViews.{out-Command as fields_of}
use Rattle.cm_args.specs.Lines.{IsLocal, IsLocalArg, bare_app, option_with_value, required_operand}
use Rattle.cm_args.specs.Lines.{with_rules, with_subcommands, without_help_flag}

-- the rules of one name more
pub rules_more : (rule : Text → Rule) (before now : List Rule) (names : List (Bor (List ℕ))) (i : ℕ) (d : Bor (List ℕ))
    → i < length names → now ≡ before ++ map rule (texts (take i names))
    → now ++ rule (get_or names i d).now ∷ [] ≡ before ++ map rule (texts (take (i + 1) names))
rules_more rule before now names i d below is =
    rw (is, take_more names i d below) (simp (map-append, append_assoc))

-- the rules of the arguments with one more
pub rules-push : (arguments more : List Arg) (a : Arg) (r : Rule) → rule_of a ≡ r → more ≡ arguments ++ a ∷ []
    → map rule_of more ≡ map rule_of arguments ++ r ∷ []
rules-push arguments more a r is added =
    ap (map rule_of) added ∙ map-append rule_of arguments (a ∷ [])
    ∙ ap (λ (l : Rule). map rule_of arguments ++ l ∷ []) is

pub local-push : (arguments more : List Arg) (a : Arg) → IsLocalArg a → more ≡ arguments ++ a ∷ []
    → All IsLocalArg arguments → All IsLocalArg more
local-push arguments more a is added all =
    subst (All IsLocalArg) (sym added) (All-push IsLocalArg arguments a all is)

pub operand_rule : (a b : Arg) (name : Text) → rule_of a ≡ new_rule name → b ≡ record a { required = true }
    → rule_of b ≡ required_operand name
operand_rule a b name rule is = ap rule_of is ∙ ap (λ (r : Rule). record r { required = true }) rule

pub option_rule : (a b : Arg) (name : Bor (List ℕ)) → rule_of a ≡ new_rule name.now
    → b ≡ record a { long = Some name } → rule_of b ≡ option_with_value name.now
option_rule a b name rule is = ap rule_of is ∙ ap (λ (r : Rule). record r { long = Some name.now }) rule

-- each of a list, from that of its first and its others
head_of : {X : Type 0} (P : X → Type 0) (x : X) (xs : List X) → All P (x ∷ xs) → P x
head_of P x xs all = all 0 x (omega arith)

rest_of : {X : Type 0} (P : X → Type 0) (x : X) (xs : List X) → All P (x ∷ xs) → All P xs
rest_of P x xs all = λ k d below. all (suc k) d (omega arith)

-- arguments in turn are their rules in turn
pub app-args : (old new : Command) (arguments : List Arg) → All IsLocalArg arguments
    → AddsInTurn AddsArg old arguments new → app_of new ≡ with_rules (app_of old) (map rule_of arguments)
app-args old new [] local adds = ap app_of (sym adds)
app-args old new (a ∷ arguments) local adds =
    app-args adds.0 new arguments (rest_of IsLocalArg a arguments local) adds.2
    ∙ ap (λ (app : _). with_rules app (map rule_of arguments)) (adds.1.shape (head_of IsLocalArg a arguments local))

-- subcommands in turn are their shapes in turn
pub app-subcommands : (old new : Command) (leaves : List Command) → All IsLocal leaves
    → AddsInTurn AddsSubcommand old leaves new → app_of new ≡ with_subcommands (app_of old) (map shape_of leaves)
app-subcommands old new [] local adds = ap app_of (sym adds)
app-subcommands old new (leaf ∷ leaves) local adds =
    app-subcommands adds.0 new leaves (rest_of IsLocal leaf leaves local) adds.2
    ∙ ap (λ (app : _). with_subcommands app (map shape_of leaves)) (adds.1.shape (head_of IsLocal leaf leaves local))

pub local-args : (old new : Command) (arguments : List Arg) → All IsLocalArg arguments → IsLocal old
    → AddsInTurn AddsArg old arguments new → IsLocal new
local-args old new [] all local adds = subst IsLocal adds local
local-args old new (a ∷ arguments) all local adds =
    let alone : a.global ≡ false = head_of IsLocalArg a arguments all in
    let before : (fields_of old).has_globals ≡ false = local in
    let added : (fields_of adds.0).has_globals ≡ ((fields_of old).has_globals || a.global) = adds.1.globals in
    local-args adds.0 new arguments (rest_of IsLocalArg a arguments all) (rw (before, alone) at added) adds.2

-- the command of the program before it has a subcommand
pub bare : (a b c d : Command) → app_of a ≡ new_app (codes "cm1")
    → fields_of b ≡ record (fields_of a) { disable_help_flag = true }
    → fields_of c ≡ record (fields_of b) { disable_help_subcommand = true }
    → fields_of d ≡ record (fields_of c) { subcommand_required = true } → app_of d ≡ bare_app
bare a b c d new flag help asks =
    ap app_of_fields asks ∙ ap (on_top (λ (s : Shape). record s { subcommand_required = true }))
    (ap app_of_fields help ∙ ap (on_top (λ (s : Shape). record s { disable_help_subcommand = true }))
    (ap app_of_fields flag ∙ ap without_help_flag new))

-- the rules of operands, of further ones and of options that are added in turn
pub leaf_rules : (none some more all operands further options : List Rule) → some ≡ none ++ operands
    → more ≡ some ++ further → all ≡ more ++ options → all ≡ none ++ ((operands ++ further) ++ options)
leaf_rules none some more all operands further options first second third =
    rw (third, second, first) (simp append_assoc)

-- lists that are added to in turn
pub append-two : {X : Type 0} (none one two : List X) (a b : X) → one ≡ none ++ a ∷ [] → two ≡ one ++ b ∷ []
    → two ≡ none ++ a ∷ b ∷ []
append-two none one two a b first second = rw (second, first) (simp append_assoc)

pub append-three : {X : Type 0} (none one two three : List X) (a b c : X) → one ≡ none ++ a ∷ []
    → two ≡ one ++ b ∷ [] → three ≡ two ++ c ∷ [] → three ≡ none ++ a ∷ b ∷ c ∷ []
append-three none one two three a b c first second third = rw (third, second, first) (simp append_assoc)
