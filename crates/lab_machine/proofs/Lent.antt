-- A vector whose slice was lent, and lent again.
use Rattle.std.proofs.Common.{◌≡◌, List, length, sym, ap, ◌∙◌}
use Rattle.std.proofs.lemmas.List.{with_items_is}
use Rattle.std.specs.Vec.{with_items}
use Rattle.std.specs.Global.{Vec}

-- it has what was written to the slice
pub lent : {X : Type 0} (row : Vec X) (now : List X) → length now ≡ length row.items → (with_items row now).items ≡ now
lent row now same = with_items_is row now (same ∙ sym row.ok.0)

-- and then to it again
pub lent_twice : {X : Type 0} (row : Vec X) (one two : List X) → length one ≡ length row.items → length two ≡ length one
    → (with_items (with_items row one) two).items ≡ two
lent_twice row one two first second =
    lent (with_items row one) two (second ∙ sym (ap length (lent row one first)))

-- and once more
pub lent_thrice : {X : Type 0} (row : Vec X) (one two three : List X) → length one ≡ length row.items
    → length two ≡ length one → length three ≡ length two
    → (with_items (with_items (with_items row one) two) three).items ≡ three
lent_thrice row one two three first second third =
    lent (with_items (with_items row one) two) three
    (third ∙ sym (ap length (lent_twice row one two first second)))
