-- Fields by their names, as a map keeps them.
use Rattle.std.proofs.Common.{◌≡◌, ℕ, zero, suc, ◌+◌, Bool, true, false, Vec, List, [], ◌∷◌, ◌++◌, map, drop, Option}
use Rattle.std.proofs.Common.{Some, None, Result, Ok, Err, refl, ap, ◌∙◌, arith}
use Rattle.std.specs.Prelude.{bytes_eq, slice_get, if◌then◌else◌}
use Rattle.std.specs.Result.{OnOk, is_err}
use Rattle.std.specs.Map.{lookup}
use Rattle.indexmap.specs.IndexMap.{insert_entry}
use Rattle.cm_bits.specs.Span.{Span}
use Rattle.cm_language.specs.Names.{NamedField, named, field_named}

here_or_later : (b : Bool) (x : Span) (o : Option Span) → (if b then Some x else o) ≡ None → (b ≡ false) × (o ≡ None)
here_or_later true x o h = absurd cc
here_or_later false x o h = (refl, h)

module _ {Z : Type 0} where
  -- the fields of a map's entries
  abbrev pub fields_of : List (Vec ℕ Z × Span) → List NamedField
  fields_of entries = map (λ e. named e.0.items e.1) entries

  pub found : (es : List (Vec ℕ Z × Span)) (name : List ℕ)
      → lookup (λ k. bytes_eq name k.items) es ≡ field_named (fields_of es) name
  found [] name = refl
  found (e ∷ es) name = ap (λ (o : Option Span). if bytes_eq name e.0.items then Some e.1 else o) (found es name)

  pub defined : (es : List (Vec ℕ Z × Span)) (key : Vec ℕ Z) (field : Span)
      → field_named (fields_of es) key.items ≡ None
      → fields_of (insert_entry (λ x y. bytes_eq x.items y.items) es key field)
      ≡ fields_of es ++ named key.items field ∷ []
  defined [] key field h = refl
  defined (e ∷ es) key field h =
      let parts = here_or_later (bytes_eq key.items e.0.items) e.1 (field_named (fields_of es) key.items) h in
      ap (λ (b : Bool). fields_of
      (if b then (e.0, field) ∷ es else e ∷ insert_entry (λ x y. bytes_eq x.items y.items) es key field)) parts.0
      ∙ ap (λ fields. named e.0.items e.1 ∷ fields) (defined es key field parts.1)

-- what an answer that is no error says
pub of_ok : {T E : Type 0} (r : Result T E) (P : Type 0) → OnOk r P → is_err r ≡ false → P
of_ok (Ok x) P h e = h
of_ok (Err x) P h e = absurd cc

-- ---- what is left of a list

pub drop_some : {X : Type 0} (xs : List X) (i : ℕ) (x : X) → slice_get xs i ≡ Some x → drop i xs ≡ x ∷ drop (i + 1) xs
drop_some [] i x h = absurd cc
drop_some (y ∷ xs) zero x h = let e : y ≡ x = cc in ap (λ z. z ∷ xs) e
drop_some (y ∷ xs) (suc i) x h =
    let e : i + 1 + 1 ≡ suc i + 1 = omega arith in
    drop_some xs i x h ∙ ap (λ (k : ℕ). x ∷ drop k (y ∷ xs)) (let more : suc (i + 1) ≡ suc i + 1 = omega arith in more)
