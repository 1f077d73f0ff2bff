use Rattle.std.proofs.Common.{◌≡◌, None, sym, ap, ◌∙◌, ◌++◌, ◌∷◌, []}
use Rattle.std.specs.Prelude.{bytes_eq}
use Rattle.indexmap.specs.IndexMap.{insert_entry}
use Rattle.lab_source.specs.Layout.{numbered, number_named}
use Rattle.lab_source.proofs.Named.{constants_of, defined, of_ok}
use Rattle.lab_source.proofs.constants.Constants.define.Goals as goal

pub returns-clause-ok : goal.returns-clause-ok
returns-clause-ok c =
    let old = c.self.inside.by_name.entries in
    let key = c.in_ok-owned.owned in
    let absent : number_named (constants_of old) key.items ≡ None =
    rw (c.in_ok-owned.ensures.items, c.self.view_is) c.requires in
    let entries : c.insert.new.self.entries ≡ insert_entry (λ x y. bytes_eq x.items y.items) old key c.args.number =
    of_ok c.insert.result (c.insert.new.self.entries
    ≡ insert_entry (λ x y. bytes_eq x.items y.items) old key c.args.number) c.insert.ensures.entries
    (sym c.is_err.ensures.value ∙ c.if-is_err.false) in
    ap constants_of entries ∙ defined old key c.args.number absent
    ∙ (λ i. c.self.view_is i ++ numbered (c.in_ok-owned.ensures.items i) c.args.number ∷ [])
