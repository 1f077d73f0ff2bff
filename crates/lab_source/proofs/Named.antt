-- Constants by their names, as a map keeps them.
use Rattle.std.proofs.Common.{◌≡◌, ℕ, Bool, true, false, Vec, List, [], ◌∷◌, ◌++◌, map, Option, Some, None, Result, Ok}
use Rattle.std.proofs.Common.{Err, refl, ap, ◌∙◌}
use Rattle.std.specs.Prelude.{bytes_eq, if◌then◌else◌}
use Rattle.std.specs.Result.{OnOk, is_err}
use Rattle.std.specs.Map.{lookup}
use Rattle.indexmap.specs.IndexMap.{insert_entry}
use Rattle.lab_source.specs.Layout.{NamedNumber, numbered, number_named}

here_or_later : (b : Bool) (x : ℕ) (o : Option ℕ) → (if b then Some x else o) ≡ None → (b ≡ false) × (o ≡ None)
here_or_later true x o h = absurd cc
here_or_later false x o h = (refl, h)

module _ {Z : Type 0} where
  -- the constants of a map's entries
  abbrev pub constants_of : List (Vec ℕ Z × ℕ) → List NamedNumber
  constants_of entries = map (λ e. numbered e.0.items e.1) entries

  pub found : (es : List (Vec ℕ Z × ℕ)) (name : List ℕ)
      → lookup (λ k. bytes_eq name k.items) es ≡ number_named (constants_of es) name
  found [] name = refl
  found (e ∷ es) name = ap (λ (o : Option ℕ). if bytes_eq name e.0.items then Some e.1 else o) (found es name)

  pub defined : (es : List (Vec ℕ Z × ℕ)) (key : Vec ℕ Z) (number : ℕ)
      → number_named (constants_of es) key.items ≡ None
      → constants_of (insert_entry (λ x y. bytes_eq x.items y.items) es key number)
      ≡ constants_of es ++ numbered key.items number ∷ []
  defined [] key number h = refl
  defined (e ∷ es) key number h =
      let parts = here_or_later (bytes_eq key.items e.0.items) e.1 (number_named (constants_of es) key.items) h in
      ap (λ (b : Bool). constants_of
      (if b then (e.0, number) ∷ es else e ∷ insert_entry (λ x y. bytes_eq x.items y.items) es key number)) parts.0
      ∙ ap (λ constants. numbered e.0.items e.1 ∷ constants) (defined es key number parts.1)

-- what an answer that is no error says
pub of_ok : {T E : Type 0} (r : Result T E) (P : Type 0) → OnOk r P → is_err r ≡ false → P
of_ok (Ok x) P h e = h
of_ok (Err x) P h e = absurd cc
